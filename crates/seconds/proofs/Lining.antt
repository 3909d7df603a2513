-- A line taken off the front of the bytes. Assumes nothing.
use Rattle.std.proofs.Common.{◌≡◌, ℕ, suc, ◌+◌, ◌<◌, min, false, List, [], ◌∷◌, ◌++◌, length, take, get_or, Option, None, Some, Bor, refl, sym, ap, ◌∙◌, inl, inr, arith}
use Rattle.std.specs.List.{All, IsFirstMatchOrLen}
use Rattle.std.specs.Option.{MatchOption, unwrap_or}
use Rattle.std.proofs.Math.Logic.{◌≢◌}
use Rattle.std.proofs.Math.ListN.{get_or-append}
use Rattle.std.proofs.Math.Seq.{take-suc, take-append_seam, append_snoc}
use Rattle.std.proofs.lemmas.Bool.{cases_lt, eqb-true}
use Rattle.std.proofs.lemmas.List.{append-nil, length-append, nil_from_length}
use Rattle.seconds.specs.Report.{is_feed, onto, lines}

-- No byte is a line feed.
abbrev Plain : List ℕ → Type 0
Plain bs = All (λ b. is_feed b ≡ false) bs

fed : (line after : List ℕ) → Plain line → lines (line ++ (10 ∷ after)) ≡ line ∷ lines after
unfolding lines
fed [] after plain = refl
fed (b ∷ line) after plain = rw (plain 0 0 (omega arith)) (ap (onto b) (fed line after (λ k d h. plain (suc k) d (omega arith))))

unfed : (line : List ℕ) → 0 < length line → Plain line → lines line ≡ line ∷ lines []
unfolding lines
unfed [] some plain = absurd (omega arith)
unfed (b ∷ []) some plain = rw (plain 0 0 (omega arith)) refl
unfed (b ∷ (d ∷ line)) some plain = rw (plain 0 0 (omega arith)) (ap (onto b) (unfed (d ∷ line) (omega arith) (λ k e h. plain (suc k) e (omega arith))))

pub no_lines : (bs : List ℕ) → length bs ≡ 0 → lines bs ≡ []
unfolding lines
no_lines bs e = rw (nil_from_length bs e) refl

-- A piece that `split_inclusive` gives at line feeds, and r, what `strip_suffix` answers of it.
pub piece_off : (bs after : List ℕ) (i : ℕ) (piece : Bor (List ℕ)) (r : Option (Bor (List ℕ))) → bs ≡ piece.now ++ after → length piece.now ≡ min (i + 1) (length bs) → IsFirstMatchOrLen is_feed bs i → 0 < length bs → MatchOption r ((front : List ℕ) → piece.now ≢ front ++ (10 ∷ [])) (λ x. piece.now ≡ x.now ++ (10 ∷ [])) → lines bs ≡ (unwrap_or r piece).now ∷ lines after
piece_off bs after i piece (Some x) whole long first some s =
    let cut : bs ≡ x.now ++ (10 ∷ after) = whole ∙ rw s (append_snoc x.now 10 after) in
    let n : length piece.now ≡ length x.now + 1 = rw s (length-append x.now (10 ∷ [])) in
    rw cut (fed x.now after (λ k d h. rw (cut, get_or-append x.now (10 ∷ after) d k h) at (first.0 k d (omega arith) (omega arith))))
piece_off bs after i piece None whole long first some s = elim (cases_lt i (length bs)) [
  | inl h ↦
      let n : length piece.now ≡ suc i = omega arith in
      let feed : 10 ≡ get_or bs i 0 = sym (eqb-true _ 10 (first.1 h 0)) in
      let cut : take (suc i) bs ≡ piece.now = rw (whole, ← n) (take-append_seam piece.now after) in
      absurd (s (take i bs) (rw feed (sym cut ∙ take-suc bs i 0 h)))
  | inr h ↦
      let none : after ≡ [] = nil_from_length after (omega (arith, ap length whole, length-append piece.now after)) in
      let all : bs ≡ piece.now = whole ∙ rw (none, append-nil) refl in
      rw (none, ← all) (unfed bs some (λ k d l. first.0 k d (omega arith) (omega arith)))
]
