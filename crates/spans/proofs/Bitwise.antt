-- Single bits of numbers. Assumes nothing.
use Rattle.std.proofs.Common.{◌≡◌, ℕ, zero, suc, ◌+◌, ◌-◌, ◌*◌, ◌/◌, ◌%◌, ◌^◌, ◌<◌, ◌≤◌, Bool, true, false, not, eqb, List, [], ◌∷◌, length, get_or, set, sym, refl, ap, ◌∙◌, ap₂, mul_assoc, mul_comm, pow-suc, arith}
use native.Mathlib.Nat.{div-div-eq-div-mul, zero-div}
use lib.Bits.{bit_and, bit_or, or_add_and, and_high, and_step, and_le_l}
use Rattle.std.proofs.lemmas.Nat.{pow-add, pow_below}
use Rattle.spans.specs.Bits.{bit, one_if, with_bit, bits_of}

-- `n & (1 << k)`
and_one : (n k : ℕ) → bit_and n (2 ^ k) ≡ bit n k * 2 ^ k
and_one n k =
    let e : 2 ^ (1 + k) - 2 ^ k ≡ 2 ^ k = omega (arith, pow-add 2 1 k) in
    ap (bit_and n) (sym e) ∙ and_high n 1 k

-- `n & !m` at w bits
and_not : (w n m : ℕ) → n < 2 ^ w → m < 2 ^ w → bit_and n (2 ^ w - 1 - m) + bit_and n m ≡ n
and_not zero n m hn hm = omega (arith, and_le_l n (2 ^ 0 - 1 - m), and_le_l n m)
and_not (suc w) n m hn hm =
    let p : 2 ^ suc w ≡ 2 ^ w * 2 = pow-suc 2 w in
    let e : (2 ^ suc w - 1 - m) / 2 ≡ 2 ^ w - 1 - m / 2 = omega arith in
    let h = and_not w (n / 2) (m / 2) (omega arith) (omega arith) in
    omega (arith, and_step n (2 ^ suc w - 1 - m), and_step n m, ap (bit_and (n / 2)) e)

-- `n | (1 << k)`
pub or_one : (n k : ℕ) → bit_or n (2 ^ k) ≡ with_bit n k true
or_one n k = omega (arith, or_add_and n (2 ^ k), and_one n k, and_le_l n (2 ^ k))

-- `n & !(1 << k)` at w bits
pub clear_one : (w n k : ℕ) → n < 2 ^ w → k < w → bit_and n (2 ^ w - 1 - 2 ^ k) ≡ with_bit n k false
clear_one w n k h l = omega (arith, and_not w n (2 ^ k) h (pow_below k w l), and_one n k)

one_if_le : (b : Bool) → one_if b ≤ 1
one_if_le true = omega arith
one_if_le false = omega arith

-- Every bit but the first is a bit of the half.
bit_half : (n k : ℕ) → bit n (suc k) ≡ bit (n / 2) k
bit_half n k = ap (λ q. n / q % 2) (pow-suc 2 k ∙ mul_comm (2 ^ k) 2) ∙ ap (λ q. q % 2) (sym (div-div-eq-div-mul n 2 (2 ^ k)))

with_half : (n k : ℕ) (b : Bool) → with_bit n (suc k) b ≡ with_bit (n / 2) k b * 2 + n % 2
with_half n k b =
    let x : ℕ = bit (n / 2) k in
    let below : x * 2 ^ k ≤ n / 2 = omega (arith, and_one (n / 2) k, and_le_l (n / 2) (2 ^ k)) in
    let p : 2 ^ suc k ≡ 2 ^ k * 2 = pow-suc 2 k in
    let old : bit n (suc k) * 2 ^ suc k ≡ x * 2 ^ k * 2 = ap₂ ◌*◌ (bit_half n k) p ∙ sym (mul_assoc x (2 ^ k) 2) in
    let new : one_if b * 2 ^ suc k ≡ one_if b * 2 ^ k * 2 = ap (λ q. one_if b * q) p ∙ sym (mul_assoc (one_if b) (2 ^ k) 2) in
    omega arith

pub bit_here : (n k : ℕ) (b : Bool) → bit (with_bit n k b) k ≡ one_if b
bit_here n zero b = omega (arith, one_if_le b)
bit_here n (suc k) b =
    let half : with_bit n (suc k) b / 2 ≡ with_bit (n / 2) k b = omega (arith, with_half n k b) in
    bit_half (with_bit n (suc k) b) k ∙ ap (λ m. bit m k) half ∙ bit_here (n / 2) k b

pub bit_elsewhere : (n k j : ℕ) (b : Bool) → (j ≡ k → ⊥) → bit (with_bit n k b) j ≡ bit n j
bit_elsewhere n zero zero b ne = absurd (ne refl)
bit_elsewhere n (suc k) zero b ne = omega (arith, with_half n k b)
bit_elsewhere n zero (suc j) b ne =
    let half : with_bit n 0 b / 2 ≡ n / 2 = omega (arith, one_if_le b) in
    bit_half (with_bit n 0 b) j ∙ ap (λ m. bit m j) half ∙ sym (bit_half n j)
bit_elsewhere n (suc k) (suc j) b ne =
    let half : with_bit n (suc k) b / 2 ≡ with_bit (n / 2) k b = omega (arith, with_half n k b) in
    bit_half (with_bit n (suc k) b) j ∙ ap (λ m. bit m j) half ∙ bit_elsewhere (n / 2) k j b (λ e. ne (ap suc e)) ∙ sym (bit_half n j)

-- Bit k is 1 exactly where element k is not 0.
pub bits_of_bit : (ms : List ℕ) (k : ℕ) → bit (bits_of ms) k ≡ one_if (not (eqb (get_or ms k 0) 0))
bits_of_bit [] k = simp zero-div
bits_of_bit (m ∷ ms) zero = omega (arith, one_if_le (not (eqb m 0)))
bits_of_bit (m ∷ ms) (suc k) =
    let half : bits_of (m ∷ ms) / 2 ≡ bits_of ms = omega (arith, one_if_le (not (eqb m 0))) in
    bit_half (bits_of (m ∷ ms)) k ∙ ap (λ n. bit n k) half ∙ bits_of_bit ms k

-- A write of element k changes bit k alone.
pub bits_of_set : (ms : List ℕ) (k v : ℕ) → k < length ms → with_bit (bits_of ms) k (not (eqb v 0)) ≡ bits_of (set ms k v)
bits_of_set [] k v h = omega arith
bits_of_set (m ∷ ms) zero v h = omega (arith, one_if_le (not (eqb m 0)))
bits_of_set (m ∷ ms) (suc k) v h =
    let half : bits_of (m ∷ ms) / 2 ≡ bits_of ms = omega (arith, one_if_le (not (eqb m 0))) in
    let rest = ap (λ n. with_bit n k (not (eqb v 0))) half ∙ bits_of_set ms k v (omega arith) in
    omega (arith, one_if_le (not (eqb m 0)), with_half (bits_of (m ∷ ms)) k (not (eqb v 0)))
