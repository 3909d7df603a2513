-- Whole units in seconds and nanoseconds of one sign. Assumes nothing.
use Rattle.std.proofs.Common.{◌≡◌, ℕ, zero, suc, ◌+◌, ◌*◌, ◌/◌, ◌%◌, ◌<◌, Bool, true, false, ℤ, pos, negsuc, ◌+ℤ◌, ◌*ℤ◌, nat_abs, ◌<ℤ◌, sym, refl, ap, ◌∙◌, mod-lt, mul_assoc, mul_comm, add-mul, mul-lt-mul_of_pos_right, div-add-mod', arith}
use native.Mathlib.Nat.{zero-div, zero-mod, div-div-eq-div-mul, mul-add-div_right, mul-add-mod_self_right}
use lib.Arith.{digits_div, digits_mod, mod-mul}
use lib.Signed.{quot_z, rem_z}
use Rattle.std.proofs.lemmas.Int.{ints}
use Rattle.units.specs.Signs.{signed}
use Rattle.units.specs.Table.{ns}
use Rattle.units.specs.declared.unit.Unit.TheVariants.{Second}
use Rattle.units.proofs.Signs.{abs_signed, times_signed, sum_signed}
use Rattle.durations.specs.Totals.{Cut, Cuts, PerSecond}

pub quot_signed : (b : Bool) (m n : ℕ) → quot_z (signed b m) (pos n) ≡ signed b (m / n)
quot_signed false m n = refl
quot_signed true zero n = rw (zero-div n)
quot_signed true (suc m) n = refl

pub rem_signed : (b : Bool) (m n : ℕ) → rem_z (signed b m) (pos n) ≡ signed b (m % n)
rem_signed false m n = refl
rem_signed true zero n = rw (zero-mod n)
rem_signed true (suc m) n = refl

cut_signed : (b : Bool) (m n : ℕ) → 0 < n → Cut n (signed b m) (signed b (m / n)) (signed b (m % n))
cut_signed b m n h = record {
  sum = ap (signed b) (sym (div-add-mod' m n)) ∙ sym (sum_signed b (m / n) (m % n) n);
  short = rw (abs_signed b (m % n)) (mod-lt m h);
  inside = rw (abs_signed b m, abs_signed b (m / n), abs_signed b (m % n)) (sym (div-add-mod' m n));
}

pub cuts : Cuts
cuts n (pos m) h = cut_signed false m n h
cuts n (negsuc m) h = cut_signed true (suc m) n h

-- What holds of magnitudes under any one sign holds of seconds and nanoseconds.
pub one_sided : (P : ℤ → ℤ → Type 0) (s p : ℤ) → nat_abs (s +ℤ p) ≡ nat_abs s + nat_abs p → ((b : Bool) (m n : ℕ) → nat_abs p ≡ n → P (signed b m) (signed b n)) → P s p
one_sided P (pos s) (pos p) e f = f false s p refl
one_sided P (pos zero) (negsuc p) e f = f true 0 (suc p) refl
one_sided P (pos (suc s)) (negsuc p) e f = absurd (omega (arith, ints))
one_sided P (negsuc s) (pos zero) e f = f true (suc s) 0 refl
one_sided P (negsuc s) (pos (suc p)) e f = absurd (omega (arith, ints))
one_sided P (negsuc s) (negsuc p) e f = f true (suc s) (suc p) refl

-- Units of k seconds in s seconds and p nanoseconds.
abbrev Whole : ℤ → ℤ → ℤ → Type 0
Whole k s p = (quot_z s k ≡ quot_z (s *ℤ pos (ns Second) +ℤ p) (pos (nat_abs k * ns Second))) × (rem_z s k *ℤ pos (ns Second) +ℤ p ≡ rem_z (s *ℤ pos (ns Second) +ℤ p) (pos (nat_abs k * ns Second)))

whole_signed : (b : Bool) (s p n : ℕ) → 0 < n → p < ns Second → Whole (pos n) (signed b s) (signed b p)
whole_signed b s p n some small =
    let secs = digits_div s small in
    let whole : (s * ns Second + p) / (n * ns Second) ≡ s / n = rw (mul_comm n (ns Second), ← div-div-eq-div-mul (s * ns Second + p) (ns Second) n, secs) in
    let rest : (s * ns Second + p) % (n * ns Second) ≡ s % n * ns Second + p = rw (mod-mul (s * ns Second + p) {m = n} {c = ns Second} some (omega arith), secs, digits_mod s small) in (
      rw (sum_signed b s p (ns Second), quot_signed b (s * ns Second + p) (n * ns Second), quot_signed b s n, whole),
      rw (sum_signed b s p (ns Second), rem_signed b (s * ns Second + p) (n * ns Second), rem_signed b s n, sum_signed b (s % n) p (ns Second), rest),
    )

pub whole : (s p k : ℤ) → pos 0 <ℤ k → nat_abs p < ns Second → nat_abs (s +ℤ p) ≡ nat_abs s + nat_abs p → Whole k s p
whole s p (pos k) some small e = one_sided (Whole (pos k)) s p e (λ b m n is. whole_signed b m n k (omega (arith, ints)) (omega arith))
whole s p (negsuc k) some small e = absurd (omega (arith, ints))

-- Units of m nanoseconds, k of them a second, in s seconds and p nanoseconds.
abbrev Fine : ℤ → ℤ → ℤ → ℤ → Type 0
Fine k m s p = (s *ℤ k +ℤ quot_z p m ≡ quot_z (s *ℤ pos (ns Second) +ℤ p) (pos (nat_abs m))) × (rem_z p m ≡ rem_z (s *ℤ pos (ns Second) +ℤ p) (pos (nat_abs m))) × (nat_abs (s *ℤ k +ℤ quot_z p m) ≡ nat_abs (s *ℤ k) + nat_abs (quot_z p m))

fine_signed : (b : Bool) (s p k m : ℕ) → 0 < m → k * m ≡ ns Second → Fine (pos k) (pos m) (signed b s) (signed b p)
fine_signed b s p k m some second =
    let parts : s * ns Second + p ≡ s * k * m + p = rw (mul_assoc s k m, second) in (
      rw (sum_signed b s p (ns Second), quot_signed b (s * ns Second + p) m, quot_signed b p m, sum_signed b s (p / m) k, parts, mul-add-div_right some (s * k) p),
      rw (sum_signed b s p (ns Second), rem_signed b (s * ns Second + p) m, rem_signed b p m, parts, mul-add-mod_self_right (s * k) m p),
      rw (quot_signed b p m, sum_signed b s (p / m) k, abs_signed b (s * k + p / m), abs_signed b (p / m)) (rw (times_signed b s k, abs_signed b (s * k))),
    )

pub fine : (s p k m : ℤ) → PerSecond k m → nat_abs (s +ℤ p) ≡ nat_abs s + nat_abs p → Fine k m s p
fine s p (pos k) (pos m) h e = one_sided (Fine (pos k) (pos m)) s p e (λ b x y is. fine_signed b x y k m (omega (arith, ints)) (omega (arith, ints)))
fine s p (negsuc k) m h e = absurd (omega (arith, ints))
fine s p (pos k) (negsuc m) h e = absurd (omega (arith, ints))

-- q seconds and r units of m nanoseconds make up z such units, and these r are less than a second.
abbrev CountedOut : ℤ → ℤ → ℤ → ℤ → Type 0
CountedOut m z q r = (q *ℤ pos (ns Second) +ℤ r *ℤ m ≡ z *ℤ m) × (nat_abs (r *ℤ m) < ns Second)

count_signed : (b : Bool) (n k m : ℕ) → 0 < k → 0 < m → k * m ≡ ns Second → CountedOut (pos m) (signed b n) (signed b (n / k)) (signed b (n % k))
count_signed b n k m some each second =
    let sum : n / k * ns Second + n % k * m ≡ n * m = rw (← second, ← mul_assoc (n / k) k m, ← add-mul (n / k * k) (n % k) m, div-add-mod' n k) in (
      rw (times_signed b (n % k) m, sum_signed b (n / k) (n % k * m) (ns Second), times_signed b n m, sum),
      rw (times_signed b (n % k) m, abs_signed b (n % k * m), ← second) (mul-lt-mul_of_pos_right (mod-lt n some) each),
    )

pub count : (z k m q r : ℤ) → PerSecond k m → q ≡ quot_z z k → r ≡ rem_z z k → CountedOut m z q r
count (pos n) (pos k) (pos m) q r h e f = rw (e, f) (count_signed false n k m (omega (arith, ints)) (omega (arith, ints)) (omega (arith, ints)))
count (negsuc n) (pos k) (pos m) q r h e f = rw (e, f) (count_signed true (suc n) k m (omega (arith, ints)) (omega (arith, ints)) (omega (arith, ints)))
count z (negsuc k) m q r h e f = absurd (omega (arith, ints))
count z (pos k) (negsuc m) q r h e f = absurd (omega (arith, ints))

pub in_seconds : (z k : ℤ) → pos 0 <ℤ k → z *ℤ pos (nat_abs k * ns Second) ≡ z *ℤ k *ℤ pos (ns Second)
in_seconds (pos n) (pos k) some = ap pos (sym (mul_assoc n k (ns Second)))
in_seconds (negsuc n) (pos k) some = ap (signed true) (sym (mul_assoc (suc n) k (ns Second))) ∙ sym (times_signed true (suc n * k) (ns Second))
in_seconds z (negsuc k) some = absurd (omega (arith, ints))
