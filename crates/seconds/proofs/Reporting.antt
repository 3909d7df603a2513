-- A report grows by a line. Assumes nothing.
use Rattle.std.proofs.Common.{◌≡◌, ℕ, ◌+◌, List, [], ◌∷◌, ◌++◌, append_assoc, add_assoc, arith}
use Rattle.std.proofs.lemmas.List.{append-nil}
use Rattle.seconds.specs.Seconds.{seconds}
use Rattle.seconds.specs.Report.{line_text, numbered, time, sum}

pub text_more : (text more whole l : List ℕ) (ls ms : List (List ℕ)) (n : ℕ) → more ≡ text ++ line_text n l → ls ≡ l ∷ ms → text ++ numbered n ls ≡ whole → more ++ numbered (n + 1) ms ≡ whole
unfolding numbered
text_more text more whole l ls ms n e f g = rw (e, append_assoc) (rw f at g)

pub sum_more : (m whole : ℕ) (l : List ℕ) (ls ms : List (List ℕ)) → ls ≡ l ∷ ms → m + sum ls ≡ whole → (m + time (seconds l)) + sum ms ≡ whole
unfolding sum
sum_more m whole l ls ms f g = rw add_assoc (rw f at g)

pub text_all : (text whole : List ℕ) (ls : List (List ℕ)) (n : ℕ) → ls ≡ [] → text ++ numbered n ls ≡ whole → text ≡ whole
unfolding numbered
text_all text whole ls n e g = rw append-nil at (rw e at g)

pub sum_all : (m whole : ℕ) (ls : List (List ℕ)) → ls ≡ [] → m + sum ls ≡ whole → m ≡ whole
unfolding sum
sum_all m whole ls e g = let h = rw e at g in omega arith
