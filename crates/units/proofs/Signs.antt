-- Magnitudes under one sign, and what lies in a range. Assumes nothing.
use Rattle.std.proofs.Common.{◌≡◌, ℕ, zero, suc, ◌+◌, ◌*◌, ◌≤◌, Bool, true, false, ℤ, pos, ◌+ℤ◌, ◌*ℤ◌, neg_ℤ, nat_abs, ◌≤ℤ◌, sym, refl, zero-add, zero-mul, arith}
use lib.IntN.{+ℤ_idl, neg_ℤ-+ℤ}
use lib.Signed.{le_z}
use Rattle.std.proofs.lemmas.Int.{ints}
use Rattle.std.proofs.lemmas.Bool.{and_parts}
use Rattle.units.specs.Signs.{signed, within, Between}

pub abs_signed : (b : Bool) (n : ℕ) → nat_abs (signed b n) ≡ n
abs_signed false n = refl
abs_signed true zero = refl
abs_signed true (suc n) = refl

pub times_signed : (b : Bool) (m n : ℕ) → signed b m *ℤ pos n ≡ signed b (m * n)
times_signed false m n = refl
times_signed true zero n = rw (zero-mul n)
times_signed true (suc m) n = refl

pub sum_signed : (b : Bool) (s p n : ℕ) → signed b s *ℤ pos n +ℤ signed b p ≡ signed b (s * n + p)
sum_signed false s p n = refl
sum_signed true zero p n = rw (zero-mul n, zero-add p) (+ℤ_idl (neg_ℤ (pos p)))
sum_signed true (suc s) p n = sym (neg_ℤ-+ℤ (pos (suc s * n)) (pos p))

pub add_signed : (b : Bool) (m n : ℕ) → signed b m +ℤ signed b n ≡ signed b (m + n)
add_signed false m n = refl
add_signed true m n = omega (arith, ints)

pub within_from : (low high z : ℤ) → Between low high z → within low high z ≡ true
within_from low high z b = grind (arith, ints)

pub between_from : (low high z : ℤ) → within low high z ≡ true → Between low high z
between_from low high z h = let p = and_parts (le_z low z) (le_z z high) h in record { above = omega (arith, ints, p.0); below = omega (arith, ints, p.1) }

-- What lies nearer to 0 is in the range too.
pub nearer : (low high : ℤ) (b : Bool) (m n : ℕ) → low ≤ℤ pos 0 → pos 0 ≤ℤ high → m ≤ n → Between low high (signed b n) → Between low high (signed b m)
nearer low high false m n l h le i = record { above = omega (arith, ints); below = omega (arith, ints, i.below) }
nearer low high true m n l h le i = record { above = omega (arith, ints, i.above); below = omega (arith, ints) }
