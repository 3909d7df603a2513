-- Digits in byte strings, and what they denote. Assumes nothing: these are definitions.
--     is_digit b           the byte b is an ASCII digit
--     is_separator b       it is a point or a comma
--     number ds            the number that the digits ds denote
--     front most bs        the digits at the front of bs, at most `most` of them
--     behind most bs       the bytes after these
--     prefix_by ds rest    the number of the digits ds, if there are any, and the bytes rest
--     u64_prefix bs        the number at the front of bs and the bytes after it
--     first_other bs       the first byte that is no digit
--     billionths ds        the fraction that the digits ds denote behind a separator, in billionths
--     unless_other o n     the fraction n, unless o is a byte that is no digit
--     fraction_of bs       the fraction that bs denote, if they are one to nine digits
--     fraction_by ds rest  the fraction of the digits ds, of which there must be one, and the bytes rest
--     after_separator bs   the fraction at the front of bs and the bytes after it
--     temporal_fraction bs the same behind a separator, if one leads
--     seen r               the result r with the remaining bytes in place of the reference to them
use Rattle.std.specs.Prelude.{ℕ, zero, suc, ◌+◌, ◌-◌, ◌*◌, ◌^◌, Bool, cond, ◌&&◌, ◌||◌, List, [], ◌∷◌, ◌++◌, length, drop, replicate, Some, None, Ok, Err, Option, Result, ◌==◌, nat_le, nat_lt}
use Rattle.std.specs.Borrow.{Bor}
use Rattle.std.specs.Result.{result_map_both}
use Rattle.units.specs.declared.fault.Fault.{Fault}
use Rattle.units.specs.declared.fault.Fault.TheVariants.{IntegerTooBig, MissingFractionalDigits, NoFractionDigits, TooManyFractionDigits, InvalidFractionDigit}

abbrev pub is_digit : ℕ → Bool
is_digit b = nat_le 48 b && nat_le b 57

abbrev pub is_separator : ℕ → Bool
is_separator b = b == 46 || b == 44

-- each digit counts for the power of ten of its place
unfoldable pub number : List ℕ → ℕ
number [] = 0
number (d ∷ ds) = (d - 48) * 10 ^ length ds + number ds

unfoldable pub front : ℕ → List ℕ → List ℕ
front zero bs = []
front (suc most) [] = []
front (suc most) (b ∷ bs) = cond (is_digit b) (b ∷ front most bs) []

abbrev pub behind : ℕ → List ℕ → List ℕ
behind most bs = drop (length (front most bs)) bs

abbrev pub prefix_by : List ℕ → List ℕ → Result (Option ℕ × List ℕ) Fault
prefix_by [] rest = Ok (None, rest)
prefix_by (d ∷ ds) rest = cond (nat_lt (number (d ∷ ds)) (2 ^ 64)) (Ok (Some (number (d ∷ ds)), rest)) (Err IntegerTooBig)

abbrev pub u64_prefix : List ℕ → Result (Option ℕ × List ℕ) Fault
u64_prefix bs = prefix_by (front 21 bs) (behind 21 bs)

unfoldable pub first_other : List ℕ → Option ℕ
first_other [] = None
first_other (b ∷ bs) = cond (is_digit b) (first_other bs) (Some b)

-- as if padded with zeros on the right to nine digits
abbrev pub billionths : List ℕ → ℕ
billionths ds = number (ds ++ replicate (9 - length ds) 48)

abbrev pub unless_other : Option ℕ → ℕ → Result ℕ Fault
unless_other None n = Ok n
unless_other (Some b) n = Err (InvalidFractionDigit b)

abbrev pub fraction_of : List ℕ → Result ℕ Fault
fraction_of [] = Err NoFractionDigits
fraction_of (b ∷ bs) = cond (nat_lt 9 (length (b ∷ bs))) (Err TooManyFractionDigits) (unless_other (first_other (b ∷ bs)) (billionths (b ∷ bs)))

abbrev pub fraction_by : List ℕ → List ℕ → Result (Option ℕ × List ℕ) Fault
fraction_by [] rest = Err MissingFractionalDigits
fraction_by (d ∷ ds) rest = Ok (Some (billionths (d ∷ ds)), rest)

abbrev pub after_separator : List ℕ → Result (Option ℕ × List ℕ) Fault
after_separator bs = fraction_by (front 9 bs) (behind 9 bs)

abbrev pub temporal_fraction : List ℕ → Result (Option ℕ × List ℕ) Fault
temporal_fraction [] = Ok (None, [])
temporal_fraction (b ∷ bs) = cond (is_separator b) (after_separator bs) (Ok (None, b ∷ bs))

abbrev pub seen : {X : Type 0} → Result (X × Bor (List ℕ)) Fault → Result (X × List ℕ) Fault
seen r = result_map_both (λ p. (p.0, p.1.now)) (λ f. f) r
