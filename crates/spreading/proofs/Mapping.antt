-- What `map` of an array gives, where a call leaves the closure as it was. Assumes nothing.
use Rattle.std.proofs.Common.{◌≡◌, ℕ, zero, suc, ◌+◌, ◌<◌, List, map, get_or, ap, ◌∙◌, sym, subst, arith}
use Rattle.std.specs.Array.{IsMapOf, MapsFrom}
use Rattle.std.specs.Fn.{Called}
use Rattle.std.specs.List.{range_with_len}
use Rattle.std.proofs.lemmas.List.{get_or-map, length-map}
use Rattle.std.proofs.lemmas.List.FromFn.{fill_by_all}
use denote.Param.Members.{Mut}

module _ {F X A B : Type 0} (g : Mut F (X × Unit {0}) A) (f : F) (v : A → B) (h : X → B) (xs : List X) (calls : (x : X) (y : A) (q : F) → Called g f (x, tt) y q → (q ≡ f) × (v y ≡ h x)) where
  each_is : (n i k j : ℕ) (ys : List A) (c : X) (d : A) → MapsFrom g f xs ys i n → k < n → i + k ≡ j → v (get_or ys j d) ≡ h (get_or xs j c)
  each_is zero i k j ys c d e below at = absurd (omega arith)
  each_is (suc n) i zero j ys c d e below at =
      let same : i ≡ j = omega arith in
      subst (λ p. v (get_or ys p d) ≡ h (get_or xs p c)) same (ap v (e.4.1 d) ∙ (calls e.1 e.2 e.0 e.5).1 ∙ ap h (sym (e.3.1 c)))
  each_is (suc n) i (suc k) j ys c d e below at =
      let rest = subst (λ p. MapsFrom g p xs ys (i + 1) n) (calls e.1 e.2 e.0 e.5).0 e.6 in
      each_is n (i + 1) k j ys c d rest (omega arith) (omega arith)

  -- v of each element is h of the one that it was made of, c and d being any elements
  pub made : (n : ℕ) (ys : List A) (c : X) (d : A) → IsMapOf g f xs ys n → map v ys ≡ map (λ j. h (get_or xs j c)) (range_with_len 0 n)
  made n ys c d e = fill_by_all (λ j. h (get_or xs j c)) (map v ys) n (v d) (length-map ys v ∙ e.long) (λ k below. get_or-map v ys k d (v d) (rw e.long below) ∙ each_is n 0 k k ys c d e.each below (omega arith))
