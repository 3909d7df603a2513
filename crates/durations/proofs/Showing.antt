-- The text of a duration from its parts. Assumes nothing.
use Rattle.std.proofs.Common.{◌≡◌, ℕ, zero, suc, ◌+◌, ◌-◌, ◌*◌, ◌/◌, ◌%◌, ◌^◌, ◌<◌, cond, false, List, [], ◌∷◌, ◌++◌, length, replicate, ℤ, pos, ◌+ℤ◌, ◌*ℤ◌, nat_abs, codes, decimal, ap, add-one, div-one, ◌∙◌, inl, inr, append_assoc, append-nil, length-append, arith}
use native.Mathlib.Nat.{div-div-eq-div-mul}
use lib.Arith.{digits_div, digits_mod}
use lib.Signed.{lt_z}
use Rattle.std.specs.Fmt.{padded_integral, format_spec, char_count}
use Rattle.std.proofs.lemmas.Fmt.{decimal_digit, decimal_step}
use Rattle.std.proofs.lemmas.Bool.{cases_lt}
use Rattle.std.proofs.lemmas.List.{replicate_more}
use Rattle.std.proofs.lemmas.Int.{ints}
use Rattle.units.specs.Table.{ns}
use Rattle.units.specs.declared.unit.Unit.TheVariants.{Second}
use Rattle.durations.specs.Shown.{nine_digits, shown}

-- the digits of n behind as many zeros as k digits lack
abbrev filled : ℕ → ℕ → List ℕ
filled k n = replicate (k - length (decimal n)) 48 ++ decimal n

last_digits : ℕ → ℕ → List ℕ
last_digits zero n = []
last_digits (suc k) n = last_digits k (n / 10) ++ ((48 + n % 10) ∷ [])

filled_is : (k n : ℕ) → n < 10 ^ suc k → n < 2 ^ 64 → filled (suc k) n ≡ last_digits (suc k) n
unfolding last_digits
filled_is zero n small fit = let last : n % 10 ≡ n = omega arith in rw (decimal_digit n (omega arith), last)
filled_is (suc k) n small fit =
    let front = filled_is k (n / 10) (omega arith) (omega arith) in
    elim (cases_lt n 10) [
      | inl one ↦
          let none : n / 10 ≡ 0 = omega arith in
          let last : n % 10 ≡ n = omega arith in
          let first : suc k - 1 ≡ k = omega arith in
          let rest : suc (suc k) - 1 ≡ suc k = omega arith in
          let zeros : replicate (suc k) 48 ≡ filled (suc k) (n / 10) = rw (none, decimal_digit 0 (omega arith), first, replicate_more {X = ℕ} k 48, add-one) in
          rw (decimal_digit n one, last, rest) (ap (λ ds. ds ++ ((48 + n) ∷ [])) (zeros ∙ front))
      | inr more ↦
          let last : List ℕ = (48 + n % 10) ∷ [] in
          let less : suc (suc k) - length (decimal (n / 10) ++ last) ≡ suc k - length (decimal (n / 10)) = omega (arith, length-append (decimal (n / 10)) last) in
          rw (decimal_step n more fit, less, ← append_assoc (replicate (suc k - length (decimal (n / 10))) 48) (decimal (n / 10)) last) (ap (λ ds. ds ++ last) front)
    ]

pub nine : (n : ℕ) → n < 10 ^ 9 → padded_integral (format_spec 32 0 4 9 (2 ^ 64 - 1)) false [] (decimal n) ≡ nine_digits n
unfolding padded_integral char_count last_digits
nine n small = let bare : 9 - length (decimal n) - 0 - 0 ≡ 9 - length (decimal n) = omega arith in rw (append-nil, bare) (filled_is 8 n small (omega arith) ∙ simp (div-div-eq-div-mul, div-one))

pub in_parts : (s p : ℤ) → nat_abs p < ns Second → nat_abs (s +ℤ p) ≡ nat_abs s + nat_abs p → cond (lt_z (s *ℤ pos (ns Second) +ℤ p) (pos 0)) (codes "-") [] ++ (decimal (nat_abs s) ++ (codes "." ++ nine_digits (nat_abs p))) ≡ shown (s *ℤ pos (ns Second) +ℤ p)
in_parts s p small same =
    let size : nat_abs (s *ℤ pos (ns Second) +ℤ p) ≡ nat_abs s * ns Second + nat_abs p = omega (arith, ints) in
    rw (size, digits_div (nat_abs s) small, digits_mod (nat_abs s) small)
