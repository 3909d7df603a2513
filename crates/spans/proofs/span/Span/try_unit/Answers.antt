use Rattle.std.proofs.Common.{◌≡◌, ◌<◌, not, eqb, length, set, nat_abs, sym, ap, ◌∙◌, ap₂, arith, rules}
use Rattle.std.proofs.lemmas.Int.{to_z-of_z}
use Rattle.units.specs.Limits.{span_limits}
use Rattle.spans.specs.Bits.{with_bit}
use Rattle.spans.specs.Magnitudes.{all_zero, is_zero, sign_after}
use Rattle.spans.proofs.Bitwise.{bits_of_set}
use Rattle.spans.proofs.Setting.{within_set, all_zero_bits, sign_zero}
use Rattle.spans.proofs.Units.{limit_at}
use Rattle.spans.proofs.span.Span.try_unit.Goals as goal

pub invariant_of-result : goal.invariant_of-result
invariant_of-result c =
    let s = c.args.self in
    let ms = s.magnitudes in
    let k = c.place.result in
    let v = c.in_ok-magnitude.magnitude in
    let z = c.args.value in
    let fit = c.ranges.value in
    let long : length ms ≡ 10 = search rules in
    let inside : k < length ms = omega arith in
    let ok = c.in_ok-magnitude.ensures in
    let size : v ≡ nat_abs z = simp to_z-of_z at ok.0 in
    let told = c.set-units.ensures.value ∙ ap₂ (λ n j. with_bit n j (not (eqb v 0))) s.told (sym c.place.ensures.value) ∙ bits_of_set ms k v inside in
    let none = c.is_empty.ensures ∙ ap (λ n. eqb n 0) told ∙ all_zero_bits (set ms k v) in
    let sign : c.sign_after-sign.result ≡ sign_after s.sign (all_zero (set ms k v)) z = rw (← none) (simp to_z-of_z at c.sign_after-sign.ensures) in
    record {
      within = within_set ms span_limits k v inside s.within (rw (c.place.ensures.value, limit_at c.args.unit) ok.1);
      told = told;
      signed = ap is_zero sign ∙ sign_zero s.sign ms k v z inside size;
    }
