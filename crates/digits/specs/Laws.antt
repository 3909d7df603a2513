-- The laws of reading digits. Assumes nothing: these are statements.
--     Refused n t r         r is the refusal with the number n, and it tells t
--     digit_leads bs        bs begins with a digit
--     lone_separator bs     bs begins with a separator and no digit follows it
--     Front most bs ds rest ds are the digits that lead bs, as many as there are up to `most`, and rest is what follows
--     PrefixLaw bs r        the law of `u64_prefix`, which answers the bytes bs by r
--     FractionLaw bs r      the law of `fraction`
--     TemporalLaw bs r      the law of `parse_temporal_fraction`
use Rattle.std.specs.Prelude.{◌≡◌, ℕ, ◌^◌, ◌<◌, ◌≤◌, Bool, true, false, not, ◌&&◌, ◌↔◌, List, [], ◌∷◌, ◌++◌, length, is_ok, IsErrAnd, Some, None, Ok, Option, Result}
use Rattle.std.specs.List.{AllByRecursion}
use Rattle.units.specs.declared.fault.Fault.{Fault}
use Rattle.units.specs.declared.fault.Told.{Told}
use Rattle.units.specs.declared.fault.Told.TheVariants.{Nothing, Byte}
use Rattle.units.specs.Refusals.{refusal}
use Rattle.digits.specs.Numbers.{is_digit, is_separator, number, front, behind, first_other}

abbrev pub Refused : {X : Type 0} → ℕ → Told → Result X Fault → Type 0
Refused n t r = IsErrAnd r (λ f. ((refusal f).number ≡ n) × ((refusal f).tells ≡ t))

abbrev pub digit_leads : List ℕ → Bool
digit_leads [] = false
digit_leads (b ∷ bs) = is_digit b

abbrev pub lone_separator : List ℕ → Bool
lone_separator [] = false
lone_separator (b ∷ bs) = is_separator b && not (digit_leads bs)

pub record Front (most : ℕ) (bs ds rest : List ℕ) : Type 0 where
  pub whole : ds ++ rest ≡ bs
  pub digits : AllByRecursion (λ d. is_digit d ≡ true) ds
  pub few : length ds ≤ most
  -- it stops short of `most` only where no digit follows
  pub longest : length ds < most → digit_leads rest ≡ false

pub record PrefixLaw (bs : List ℕ) (r : Result (Option ℕ × List ℕ) Fault) : Type 0 where
  -- the digits read are the longest front of at most 21, and there is no other such
  pub read : Front 21 bs (front 21 bs) (behind 21 bs)
  pub only : (ds rest : List ℕ) → Front 21 bs ds rest → (ds ≡ front 21 bs) × (rest ≡ behind 21 bs)
  -- it answers exactly when the digits read denote less than 2^64, and refuses exactly when they denote more or as much
  pub answers : (is_ok r ≡ true) ↔ (number (front 21 bs) < 2 ^ 64)
  pub too_big : Refused 14 Nothing r ↔ (2 ^ 64 ≤ number (front 21 bs))

pub record FractionLaw (bs : List ℕ) (r : Result ℕ Fault) : Type 0 where
  -- it answers exactly when the bytes are one to nine digits, and then by less than a whole
  pub answers : (is_ok r ≡ true) ↔ ((0 < length bs) × (length bs ≤ 9) × (first_other bs ≡ None))
  pub small : (v : ℕ) → r ≡ Ok v → v < 10 ^ 9
  -- it refuses exactly when they are none, too many, or else not all digits, and then tells the first that is none
  pub empty : Refused 16 Nothing r ↔ (bs ≡ [])
  pub long : Refused 17 Nothing r ↔ (9 < length bs)
  pub other : (b : ℕ) → Refused 18 (Byte b) r ↔ ((length bs ≤ 9) × (first_other bs ≡ Some b))

pub record TemporalLaw (bs : List ℕ) (r : Result (Option ℕ × List ℕ) Fault) : Type 0 where
  -- it refuses exactly when a separator leads and no digit follows it
  pub answers : (is_ok r ≡ true) ↔ (lone_separator bs ≡ false)
  pub missing : Refused 15 Nothing r ↔ (lone_separator bs ≡ true)
  -- a fraction is less than a whole
  pub small : (v : ℕ) (rest : List ℕ) → r ≡ Ok (Some v, rest) → v < 10 ^ 9
