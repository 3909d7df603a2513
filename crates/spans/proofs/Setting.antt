-- What a write of one magnitude keeps, at any number of magnitudes. Assumes nothing.
use Rattle.std.proofs.Common.{◌≡◌, ℕ, zero, suc, ◌<◌, ◌≤◌, false, eqb, List, [], ◌∷◌, length, get_or, set, ℤ, pos, negsuc, nat_abs, sym, refl, inl, inr, arith}
use Rattle.std.proofs.lemmas.List.{get_or-set_same, get_or-set_other}
use Rattle.std.proofs.lemmas.Bool.{cases_eq}
use Rattle.std.proofs.lemmas.Bool.Decides.{nat_tests}
use Rattle.units.specs.Limits.{UpTo}
use Rattle.units.specs.declared.sign.Sign.{Sign}
use Rattle.units.specs.declared.sign.Sign.TheVariants.{Negative, Zero, Positive}
use Rattle.spans.specs.Bits.{bits_of}
use Rattle.spans.specs.Magnitudes.{all_zero, is_zero, sign_after}

pub within_set : (ms ls : List ℕ) (k v : ℕ) → k < length ms → UpTo ms ls → v ≤ get_or ls k 0 → UpTo (set ms k v) ls
within_set ms ls k v h w b u = elim (cases_eq u k) [ inl e ↦ rw (e, get_or-set_same) b | inr n ↦ rw get_or-set_other (w u) ]

-- The set of units is empty exactly where all magnitudes are 0.
pub all_zero_bits : (ms : List ℕ) → eqb (bits_of ms) 0 ≡ all_zero ms
all_zero_bits [] = refl
all_zero_bits (m ∷ ms) = let h = all_zero_bits ms in grind (arith, nat_tests)

-- Not all are 0 where one is not.
all_zero_set : (ms : List ℕ) (k v : ℕ) → k < length ms → (v ≡ 0 → ⊥) → all_zero (set ms k v) ≡ false
all_zero_set [] k v h n = absurd (omega arith)
all_zero_set (m ∷ ms) zero v h n = grind (arith, nat_tests)
all_zero_set (m ∷ ms) (suc k) v h n = let r = all_zero_set ms k v (omega arith) n in grind (arith, nat_tests)

-- The new sign is Zero exactly where all magnitudes are 0.
pub sign_zero : (s : Sign) (ms : List ℕ) (k v : ℕ) (z : ℤ) → k < length ms → v ≡ nat_abs z → is_zero (sign_after s (all_zero (set ms k v)) z) ≡ all_zero (set ms k v)
sign_zero s ms k v (negsuc n) h e = sym (all_zero_set ms k v h (omega arith))
sign_zero Negative ms k v (pos n) h e = grind arith
sign_zero Zero ms k v (pos n) h e = grind arith
sign_zero Positive ms k v (pos n) h e = grind arith
