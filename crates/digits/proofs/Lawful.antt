-- The laws of the definitions.
use Rattle.std.proofs.Common.{◌≡◌, ℕ, List, [], ◌∷◌, arith}
use Rattle.std.proofs.lemmas.Bool.Decides.{nat_tests}
use Rattle.digits.specs.Numbers.{number, front, u64_prefix, first_other, fraction_of, temporal_fraction}
use Rattle.digits.specs.Laws.{PrefixLaw, FractionLaw, TemporalLaw}
use Rattle.digits.proofs.Fronts.{front_law, all_digits, front_only}
use Rattle.digits.proofs.Fractions.{billionths_lt}

pub prefix_law : (bs : List ℕ) → PrefixLaw bs (u64_prefix bs)
unfolding number
prefix_law bs =
    let read = front_law 21 bs in
    record { read = read; only = front_only 21 bs; answers = grind (arith, nat_tests); too_big = grind (arith, nat_tests) }

pub fraction_law : (bs : List ℕ) → FractionLaw bs (fraction_of bs)
unfolding first_other
fraction_law [] = grind (arith, nat_tests)
fraction_law (b ∷ bs) = let small = billionths_lt (b ∷ bs) in grind (arith, nat_tests)

pub temporal_law : (bs : List ℕ) → TemporalLaw bs (temporal_fraction bs)
unfolding front
temporal_law [] = grind (arith, nat_tests)
temporal_law (b ∷ []) = grind (arith, nat_tests)
temporal_law (b ∷ (d ∷ ds)) =
    let read = front_law 9 (d ∷ ds) in
    let small = billionths_lt (front 9 (d ∷ ds)) read.few (all_digits _ read.digits) in
    grind (arith, nat_tests)

-- an answer that equals its definition keeps the definition's law
pub with_law : {X : Type 0} {r s : X} (Law : X → Type 0) → Law s → r ≡ s → record { answer : r ≡ s; law : Law r }
with_law Law holds e = record { answer = e; law = rw e holds }
