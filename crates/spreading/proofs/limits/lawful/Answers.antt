use Rattle.std.proofs.Common.{◌≡◌, ℕ, zero, suc, ◌≤◌, true, leb, List, [], ◌∷◌, length, refl, sym, ◌∙◌, arith, rules, tests}
use Rattle.std.specs.List.{zip, list_all}
use Rattle.std.proofs.lemmas.Bool.Decides.{nat_tests}
use Rattle.std.proofs.lemmas.Iterator.{YieldsList-from_slice, YieldsList-from_zip}
use Rattle.std.proofs.lemmas.Iterator.Search.{all_from_yields_List}
use Rattle.units.specs.Limits.{clock_limits, UpTo}
use Rattle.spreading.proofs.limits.lawful.Goals as goal

none_above : (ms ls : List ℕ) → length ms ≡ length ls → list_all (λ p. leb p.0 p.1) (zip ms ls) ≡ true → UpTo ms ls
none_above [] ls long h k = omega arith
none_above (m ∷ ms) [] long h k = absurd (omega arith)
none_above (m ∷ ms) (l ∷ ls) long h zero = grind (arith, nat_tests)
none_above (m ∷ ms) (l ∷ ls) long h (suc k) = none_above ms ls (omega arith) (grind (arith, nat_tests)) k

all_pass : (ms ls : List ℕ) → UpTo ms ls → list_all (λ p. leb p.0 p.1) (zip ms ls) ≡ true
all_pass [] ls up = refl
all_pass (m ∷ ms) [] up = refl
all_pass (m ∷ ms) (l ∷ ls) up =
    let here : m ≤ l = up 0 in
    let rest = all_pass ms ls (λ k. up (suc k)) in
    grind (arith, nat_tests)

pub returns : goal.returns
returns c =
    let ms = c.args.limits.now in
    let six : length ms ≡ 6 = search rules in
    let all = all_from_yields_List (λ p. leb p.0 p.1) c.all.new.self _ c.all.result c.all.ensures.ran (YieldsList-from_zip (YieldsList-from_slice ms cc) (YieldsList-from_slice clock_limits cc)) (λ x b q k. search (rules, tests)) in
    (λ t. none_above ms clock_limits six (sym all ∙ t), λ up. all ∙ all_pass ms clock_limits up)
