use Rattle.std.proofs.Common.{◌≡◌, pos, ◌+ℤ◌, ◌*ℤ◌, ap, ◌∙◌, arith, w32, w64, SFits, rules}
use lib.Signed.{quot_z, rem_z}
use Rattle.std.proofs.lemmas.Int.{ints, to_z-of_z}
use Rattle.durations.specs.Totals.{total}
use Rattle.durations.proofs.Parting.{whole}
use Rattle.durations.proofs.signed_duration.SignedDuration.whole_units.Goals as goal

pub returns : goal.returns
returns c =
    let d = c.args.self.now in
    let k = c.args.unit.secs in
    let fs : SFits w64 d.secs = search rules in
    let fp : SFits w32 d.nanos = search rules in
    let fk : SFits w64 k = search rules in
    let fq : SFits w64 c.cut-count.result.0 = search rules in
    let fr : SFits w32 c.cut-count.result.1 = search rules in
    let fw : SFits w64 c.cut-count.result.1 = omega (arith, ints) in
    let parts = whole d.secs d.nanos k (search rules) (search rules) (search rules) in
    let count : c.cut-count.result.0 ≡ quot_z d.secs k = simp to_z-of_z at c.cut-count.ensures.whole in
    let secs : c.cut-count.result.1 ≡ rem_z d.secs k = simp to_z-of_z at c.cut-count.ensures.rest in
    let rest : total c.of_parts-rest.result ≡ c.cut-count.result.1 *ℤ pos 1000000000 +ℤ d.nanos = simp to_z-of_z at c.of_parts-rest.ensures in
    record { count = simp to_z-of_z (count ∙ parts.0); rest = rest ∙ ap (λ s. s *ℤ pos 1000000000 +ℤ d.nanos) secs ∙ parts.1 }
