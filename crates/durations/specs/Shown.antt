-- How a duration is written. Assumes nothing: these are definitions.
--     digit_at n p  the decimal digit of n at the place p, a power of ten
--     nine_digits n the last nine decimal digits of n
--     shown z       z nanoseconds as `-` if below 0, whole seconds, a point and nine digits
use Rattle.std.specs.Prelude.{ℕ, ◌+◌, ◌/◌, ◌%◌, cond, List, [], ◌∷◌, ◌++◌, map, ℤ, pos, codes, decimal, int_lt, unsigned_abs}
use Rattle.units.specs.Table.{ns}
use Rattle.units.specs.declared.unit.Unit.TheVariants.{Second}

abbrev pub digit_at : ℕ → ℕ → ℕ
digit_at n p = 48 + n / p % 10

abbrev pub nine_digits : ℕ → List ℕ
nine_digits n = map (digit_at n) (100_000_000 ∷ 10_000_000 ∷ 1_000_000 ∷ 100_000 ∷ 10_000 ∷ 1_000 ∷ 100 ∷ 10 ∷ 1 ∷ [])

abbrev pub shown : ℤ → List ℕ
shown z = cond (int_lt z (pos 0)) (codes "-") [] ++ (decimal (unsigned_abs z / ns Second) ++ (codes "." ++ nine_digits (unsigned_abs z % ns Second)))
