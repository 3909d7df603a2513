-- The digits at the front, and the loop that counts them.
use Rattle.std.proofs.Common.{◌≡◌, ℕ, zero, suc, ◌<◌, ◌≤◌, true, false, List, [], ◌∷◌, ◌++◌, length, take, None, sym, refl, ap, ◌∙◌, inl, inr, arith}
use Rattle.std.proofs.lemmas.List.{drop_at, take_at}
use Rattle.std.proofs.lemmas.Bool.{cases_Bool}
use Rattle.std.proofs.lemmas.Bool.Decides.{nat_tests}
use Rattle.std.specs.List.{AllByRecursion, prefix_len}
use Rattle.digits.specs.Numbers.{is_digit, front, behind, first_other}
use Rattle.digits.specs.Laws.{Front, digit_leads}

pub front_law : (m : ℕ) (bs : List ℕ) → Front m bs (front m bs) (behind m bs)
unfolding front
front_law zero bs = record { whole = refl; digits = tt; few = omega arith; longest = λ h. absurd (omega arith) }
front_law (suc m) [] = record { whole = refl; digits = tt; few = omega arith; longest = λ h. refl }
front_law (suc m) (b ∷ bs) =
    let rest = front_law m bs in
    elim (cases_Bool (is_digit b)) [
      | inl e ↦ rw e (record { whole = ap (λ ds. b ∷ ds) rest.whole; digits = (e, rest.digits); few = omega arith; longest = λ h. rest.longest (omega arith) })
      | inr e ↦ rw e (record { whole = refl; digits = tt; few = omega arith; longest = λ h. e })
    ]

front_is : (m : ℕ) (ds rest : List ℕ) → AllByRecursion (λ d. is_digit d ≡ true) ds → length ds ≤ m → (length ds < m → digit_leads rest ≡ false) → front m (ds ++ rest) ≡ ds
unfolding front
front_is zero [] rest all few longest = refl
front_is zero (d ∷ ds) rest all few longest = absurd (omega arith)
front_is (suc m) [] [] all few longest = refl
front_is (suc m) [] (b ∷ rest) all few longest = rw (longest (omega arith))
front_is (suc m) (d ∷ ds) rest all few longest = rw all.0 (ap (λ x. d ∷ x) (front_is m ds rest all.1 (omega arith) (λ h. longest (omega arith))))

pub front_only : (m : ℕ) (bs ds rest : List ℕ) → Front m bs ds rest → (ds ≡ front m bs) × (rest ≡ behind m bs)
front_only m bs ds rest h =
    let is : front m bs ≡ ds = ap (front m) (sym h.whole) ∙ front_is m ds rest h.digits h.few h.longest in
    (sym is, rw is (rw (← h.whole) (sym (drop_at ds rest _ refl))))

pub all_digits : (ds : List ℕ) → AllByRecursion (λ d. is_digit d ≡ true) ds → first_other ds ≡ None
unfolding first_other
all_digits [] h = refl
all_digits (d ∷ ds) h = rw h.0 (all_digits ds h.1)

-- the digits at the front by the library's words
pub front_len : (m : ℕ) (bs : List ℕ) → prefix_len is_digit (take m bs) ≡ length (front m bs)
unfolding front
front_len zero bs = refl
front_len (suc m) [] = refl
front_len (suc m) (b ∷ bs) = let more = front_len m bs in grind (arith, nat_tests)

pub front_taken : (m : ℕ) (bs : List ℕ) → take (length (front m bs)) bs ≡ front m bs
front_taken m bs = ap (take _) (sym (front_law m bs).whole) ∙ take_at (front m bs) (behind m bs) _ refl
