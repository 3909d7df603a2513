use Rattle.std.proofs.Common.{◌≡◌, ◌≢◌, ◌+◌, ◌≤◌, false, [], ◌∷◌, ◌++◌, map, length, refl, ap, ◌∙◌, append-nil, length-append, length-drop, length-set, arith, rules, lit<}
use Rattle.std.specs.Array.{list_steps}
use Rattle.std.specs.Duration.{as_nanos}
use Rattle.std.specs.Iterator.Adapters.{rev_source, enumerate_source, enumerate_count}
use Rattle.std.specs.Slice.Iter.{iter_rest}
use Rattle.std.proofs.lemmas.Bool.Decides.{nat_tests}
use Rattle.std.proofs.lemmas.Iterator.Adapters.{serves_from_places}
use Rattle.std.proofs.lemmas.Iterator.Consumers.{YieldsList-from_shown}
use Rattle.std.proofs.lemmas.List.Elements.{All-get_or}
use Rattle.units.specs.declared.unit.Unit.{Unit as TimeUnit}
use Rattle.units.specs.declared.unit.Unit.TheVariants.{Nanosecond}
use Rattle.units.specs.Table.{calendar}
use Rattle.units.specs.Times.{clock_units}
use Rattle.spreading.specs.Spreading.{level, levels, left, kept}
use Rattle.spreading.specs.Steps.{seen}
use Rattle.spreading.proofs.Clock.{six, little_room}
use Rattle.spreading.proofs.Descending.{turn, next_level, too_long}
use Rattle.spreading.proofs.Lawful.{told}
use Rattle.spreading.proofs.Mapping.{made}
use Rattle.spreading.proofs.spreading.spread.Goals as goal

-- each unit that the closure is called at is a clock unit
pub map-levels-requires : goal.map-levels-requires
map-levels-requires c =
    let road = YieldsList-from_shown list_steps (λ x. x) (λ us. us) (λ s t e. ap length e) (λ s x t e. e) clock_units in
    let P : TimeUnit → Type 0 = λ u. calendar u ≡ false in (
      lit< tt,
      (
        lit< tt,
        (
          lit< tt,
          serves_from_places road (λ x q r. search rules) (λ x k below is. let h : calendar x ≡ false = rw is (All-get_or P clock_units k x below (search rules)) in search rules),
        ),
      ),
    )

pub loop-place-init : goal.loop-place-init
unfolding levels left kept
loop-place-init c =
    let a = c.args in
    let ms = a.limits.now.limits in
    let ks = a.counts.now in
    let ls = levels ms ks a.fraction a.smallest in
    let made : map seen c.map-levels.result ≡ ls = made _ _ seen (level ms ks a.fraction a.smallest) clock_units (λ x y q k. (search rules, search rules)) 6 c.map-levels.result Nanosecond c.map-levels.ensures.items.each.2 c.map-levels.ensures.items in
    let rest = iter_rest (enumerate_source (rev_source c.into_iter-place-iterator.result)) in
    let all : rest ≡ c.map-levels.result = cc in
    let long : length c.map-levels.result ≡ 6 = search rules in
    let from : enumerate_count (rev_source c.into_iter-place-iterator.result) ≡ 0 = cc in
    record {
      next = (tt, tt, omega (arith, ap length all));
      finite = tt;
      from_0 = from;
      to_go = rw (all, long, append-nil) made;
      long = refl;
      stay = rw (all, long);
      on = rw (all, long);
    }

pub loop-place-preserved : goal.loop-place-preserved
loop-place-preserved c =
    let a = c.args in
    let ls = levels a.limits.now.limits a.counts.now a.fraction a.smallest in
    let inv = c.loop-place.invariant in
    let step = c.in-Some.ensures.steps in
    let ts = iter_rest (enumerate_source (rev_source c.next.new.self)) in
    let t = c.in-Some.level.now in
    let here = next_level seen ts t ls (rw step.1.0 at inv.to_go) in
    let told = c.in_ok-kept.ensures in
    let place : c.in-Some.place ≡ length ts = omega (arith, step.1.1, inv.from_0) in
    let next : length ts + 1 ≡ length (ts ++ t ∷ []) = omega (arith, length-append ts (t ∷ [])) in
    let inside : length (ts ++ t ∷ []) ≤ length c.loop-place.kept = omega (arith, ap length here.0, length-drop (length ts) ls, inv.long, six a.limits.now.limits a.counts.now a.fraction a.smallest) in
    let tn = turn ls (seen t) c.loop-place.kept (length ts) (length (ts ++ t ∷ [])) (as_nanos c.loop-place.passed) c.in_ok-kept.field-0-0 here.0 next inside (rw step.1.0 at inv.stay) (rw step.1.0 at inv.on) told.0 in
    record {
      next = (tt, tt, omega (arith, step.0, inv.from_0, step.1.2, place));
      finite = tt;
      from_0 = step.0 ∙ inv.from_0;
      to_go = here.1;
      long = length-set _ _ _ ∙ inv.long;
      stay = rw place tn.0;
      on = told.1 ∙ tn.1;
    }

pub returns-in_err-kept : goal.returns-in_err-kept
returns-in_err-kept c =
    let a = c.args in
    let ms = a.limits.now.limits in
    let ks = a.counts.now in
    let ls = levels ms ks a.fraction a.smallest in
    let inv = c.loop-place.invariant in
    let step = c.in-Some.ensures.steps in
    let six : length ks ≡ 6 = search rules in
    let here = next_level seen (iter_rest (enumerate_source (rev_source c.next.new.self))) c.in-Some.level.now ls (rw step.1.0 at inv.to_go) in
    let lost : left ls ≢ 0 = too_long ls _ _ _ _ (little_room ms ks a.fraction a.smallest a.limits.now.lawful) here.0 (rw step.1.0 at inv.on) c.in_err-kept.ensures in
    told ms ks a.fraction a.smallest six _ (grind (arith, nat_tests))

pub returns : goal.returns
returns c =
    let a = c.args in
    let ms = a.limits.now.limits in
    let ks = a.counts.now in
    let ls = levels ms ks a.fraction a.smallest in
    let inv = c.loop-place.invariant in
    let none = c.in-None.ensures.steps.1.0 in
    let six : length ks ≡ 6 = search rules in
    let stay : c.loop-place.kept ≡ kept ls = rw none at inv.stay in
    let on : as_nanos c.loop-place.passed ≡ left ls = rw none at inv.on in
    told ms ks a.fraction a.smallest six _ (rw (← stay, ← on) c.unless_left_over.ensures)
