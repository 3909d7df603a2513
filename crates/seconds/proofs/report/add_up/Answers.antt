use Rattle.std.proofs.Common.{◌+◌, [], ◌∷◌, ◌∙◌, rules}
use Rattle.std.proofs.lemmas.Bool.Decides.{Decides-eqb}
use Rattle.std.proofs.lemmas.Fn.{always_returns_same}
use Rattle.std.proofs.lemmas.Slice.Eq.{strip_suffix_is}
use Rattle.seconds.specs.Seconds.{seconds}
use Rattle.seconds.specs.Report.{is_feed, time}
use Rattle.seconds.proofs.Lining.{no_lines, piece_off}
use Rattle.seconds.proofs.Reporting.{text_more, sum_more, text_all, sum_all}
use Rattle.seconds.proofs.report.add_up.Goals as goal

pub loop-before-preserved : goal.loop-before-preserved
loop-before-preserved c =
    let steps = c.in-Some.ensures.steps.0 in
    let cut = steps.1 in
    let first = cut.2 is_feed (always_returns_same _ _ _ (λ a r q k. search rules)) in
    let stripped = strip_suffix_is Decides-eqb c.in-Some.piece.now (10 ∷ []) c.strip_suffix.result c.strip_suffix.ensures.cases in
    let line = rw (← c.unwrap_or-line.ensures) at (piece_off _ _ _ c.in-Some.piece _ steps.0 cut.1 first.1 steps.2 stripped) in
    let total = c.loop-before.invariant.total in
    let text = c.in_ok-writeln.ensures.bytes in
    record {
      can = search rules;
      ends = tt;
      text = rw c.in-Some.ensures.steps.2 (text_more _ _ _ _ _ _ _ (text ∙ rw (c.read_seconds.ensures.answer, c.in-Some.ensures.steps.1)) line c.loop-before.invariant.text);
      total = (total.0 + time (seconds c.unwrap_or-line.result.now), c.plus-sum.ensures _ _ total.1 c.read_seconds.ensures.answer, sum_more _ _ _ _ _ line total.2);
    }

pub returns : goal.returns
returns c =
    let none = no_lines _ c.in-None.ensures.steps.0.0 in
    let total = c.loop-before.invariant.total in
    let text = c.in_ok-writeln-2.ensures.bytes in
    text ∙ rw (total.1, sum_all _ _ _ none total.2, text_all _ _ _ _ none c.loop-before.invariant.text)
