-- The number that digits denote, digit by digit.
use Rattle.std.proofs.Common.{◌≡◌, ℕ, ◌+◌, ◌-◌, ◌*◌, ◌^◌, ◌<◌, ◌≤◌, List, length, get_or, drop, mul_assoc, mul_comm, add-mul, pow-suc, le-mul_of_pos_right, arith}
use native.Mathlib.Nat.{one-le-pow}
use Rattle.std.proofs.lemmas.List.{drop_more, drop_all}
use Rattle.digits.specs.Numbers.{number}

-- the number n with the digits ds written behind it
abbrev pub followed : ℕ → List ℕ → ℕ
followed n ds = n * 10 ^ length ds + number ds

pub followed_more : (n i : ℕ) (ds : List ℕ) → i < length ds → (followed n (drop i ds) ≡ followed (n * 10 + (get_or ds i 0 - 48)) (drop (i + 1) ds)) × (n * 10 + (get_or ds i 0 - 48) ≤ followed n (drop i ds))
unfolding number
followed_more n i ds h =
    let least = le-mul_of_pos_right (n * 10 + (get_or ds i 0 - 48)) (one-le-pow (length (drop (i + 1) ds)) 10 (omega arith)) in
    let same : followed n (drop i ds) ≡ followed (n * 10 + (get_or ds i 0 - 48)) (drop (i + 1) ds) = rw (drop_more ds i 0 h, pow-suc, add-mul, mul_assoc, mul_comm 10) (omega arith) in
    (same, omega arith)

pub followed_none : (n i : ℕ) (ds : List ℕ) → length ds ≤ i → followed n (drop i ds) ≡ n
unfolding number
followed_none n i ds h = rw (drop_all i ds h) (omega arith)
