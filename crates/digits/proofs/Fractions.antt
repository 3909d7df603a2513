-- A fraction's digits, place by place.
use Rattle.std.proofs.Common.{◌≡◌, ℕ, zero, suc, ◌+◌, ◌-◌, ◌*◌, ◌/◌, ◌^◌, ◌<◌, ◌≤◌, true, false, List, [], ◌∷◌, ◌++◌, length, get_or, drop, replicate, Some, None, Ok, Err, refl, mul-le-mul_right, pow-suc, arith, length-append, length-drop}
use native.Mathlib.Nat.{one-le-pow}
use lib.ListN.{length-replicate}
use Rattle.std.proofs.lemmas.List.{drop_more, drop_all}
use Rattle.std.proofs.lemmas.Bool.Decides.{nat_tests}
use Rattle.units.specs.declared.fault.Fault.TheVariants.{InvalidFractionDigit}
use Rattle.digits.specs.Numbers.{is_digit, number, first_other, billionths, fraction_of}

number_zeros : (n : ℕ) → number (replicate n 48) ≡ 0
unfolding number
number_zeros zero = refl
number_zeros (suc n) = rw (number_zeros n) (omega arith)

padded_lt : (n : ℕ) (ds : List ℕ) → first_other ds ≡ None → number (ds ++ replicate n 48) < 10 ^ length (ds ++ replicate n 48)
unfolding number first_other
padded_lt n [] e = rw (number_zeros n) (one-le-pow _ 10 (omega arith))
padded_lt n (d ∷ ds) e =
    let digits : first_other ds ≡ None = grind (arith, nat_tests) in
    let small : d - 48 ≤ 9 = grind (arith, nat_tests) in
    rw pow-suc (omega (arith, padded_lt n ds digits, mul-le-mul_right (10 ^ length (ds ++ replicate n 48)) small))

pub billionths_lt : (ds : List ℕ) → length ds ≤ 9 → first_other ds ≡ None → billionths ds < 10 ^ 9
billionths_lt ds few e =
    let size : length (ds ++ replicate (9 - length ds) 48) ≡ 9 = simp (length-append, length-replicate) (omega arith) in
    rw size at (padded_lt (9 - length ds) ds e)

-- i bytes of bs are read, all digits: n is their value in billionths, and the last one counted for p
pub record Read (n p i : ℕ) (bs : List ℕ) : Type 0 where
  pub value : n + number (drop i bs ++ replicate (9 - length bs) 48) ≡ billionths bs
  pub digits : first_other (drop i bs) ≡ first_other bs
  pub place : p ≡ 10 ^ (9 - i)
  pub room : n + p ≤ 10 ^ 9

pub read_more : (n p d i : ℕ) (bs : List ℕ) → i < length bs → length bs ≤ 9 → is_digit (get_or bs i 0) ≡ true → d ≡ get_or bs i 0 - 48 → Read n p i bs → Read (n + d * (p / 10)) (p / 10) (i + 1) bs
unfolding number first_other
read_more n p d i bs h few e is read =
    let less : 9 - i ≡ suc (9 - (i + 1)) = omega arith in
    let next : p / 10 ≡ 10 ^ (9 - (i + 1)) = rw (read.place, less, pow-suc) (omega arith) in
    let size : length (drop (i + 1) bs ++ replicate (9 - length bs) 48) ≡ 9 - (i + 1) = simp (length-append, length-drop, length-replicate) (omega arith) in
    let small : d ≤ 9 = grind (arith, nat_tests) in
    record {
      value = rw (is, next) (omega (arith, rw (drop_more bs i 0 h, size) at read.value));
      digits = rw (drop_more bs i 0 h, e) at read.digits;
      place = next;
      room = omega (arith, mul-le-mul_right (p / 10) small, read.room);
    }

pub read_other : (n p i : ℕ) (bs : List ℕ) → i < length bs → length bs ≤ 9 → is_digit (get_or bs i 0) ≡ false → Read n p i bs → Err (InvalidFractionDigit (get_or bs i 0)) ≡ fraction_of bs
unfolding first_other
read_other n p i bs h few e read = let other : first_other bs ≡ Some (get_or bs i 0) = rw (← read.digits, drop_more bs i 0 h, e) in grind (arith, nat_tests)

pub read_all : (n p i : ℕ) (bs : List ℕ) → 0 < length bs → length bs ≤ 9 → length bs ≤ i → Read n p i bs → Ok n ≡ fraction_of bs
unfolding first_other
read_all n p i bs some few h read =
    let none = number_zeros (9 - length bs) in
    let done : n ≡ billionths bs = omega (arith, rw (drop_all i bs h) at read.value) in
    let other : first_other bs ≡ None = rw (← read.digits, drop_all i bs h) in
    grind (arith, nat_tests)
