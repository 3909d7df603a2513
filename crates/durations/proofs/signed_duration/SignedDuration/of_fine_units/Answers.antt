use Rattle.std.proofs.Common.{◌≡◌, pos, ◌+ℤ◌, ◌*ℤ◌, ◌∙◌, arith, w32, w64, SFits, rules}
use Rattle.std.proofs.lemmas.Int.{ints, to_z-of_z}
use Rattle.durations.specs.Totals.{total}
use Rattle.durations.proofs.Parting.{count}
use Rattle.durations.proofs.signed_duration.SignedDuration.of_fine_units.Goals as goal

pub overflow_mul-rest : goal.overflow_mul-rest
overflow_mul-rest c =
    let z = c.ranges.count in
    let k : SFits w64 c.args.unit.per_sec = search rules in
    let m : SFits w32 c.args.unit.nanos = search rules in
    let r : SFits w32 c.cut-secs.result.1 = search rules in
    let parts = count c.args.count c.args.unit.per_sec c.args.unit.nanos _ _ c.args.unit.second (simp to_z-of_z at c.cut-secs.ensures.whole) (simp to_z-of_z at c.cut-secs.ensures.rest) in
    simp to_z-of_z (omega (arith, ints))

pub of_parts-requires : goal.of_parts-requires
of_parts-requires c =
    let z = c.ranges.count in
    let k : SFits w64 c.args.unit.per_sec = search rules in
    let m : SFits w32 c.args.unit.nanos = search rules in
    let r : SFits w32 c.cut-secs.result.1 = search rules in
    let parts = count c.args.count c.args.unit.per_sec c.args.unit.nanos _ _ c.args.unit.second (simp to_z-of_z at c.cut-secs.ensures.whole) (simp to_z-of_z at c.cut-secs.ensures.rest) in
    let p : SFits w32 (c.cut-secs.result.1 *ℤ c.args.unit.nanos) = omega (arith, ints) in
    simp to_z-of_z parts.1

pub returns : goal.returns
returns c =
    let z = c.ranges.count in
    let k : SFits w64 c.args.unit.per_sec = search rules in
    let m : SFits w32 c.args.unit.nanos = search rules in
    let s : SFits w64 c.cut-secs.result.0 = search rules in
    let r : SFits w32 c.cut-secs.result.1 = search rules in
    let parts = count c.args.count c.args.unit.per_sec c.args.unit.nanos _ _ c.args.unit.second (simp to_z-of_z at c.cut-secs.ensures.whole) (simp to_z-of_z at c.cut-secs.ensures.rest) in
    let p : SFits w32 (c.cut-secs.result.1 *ℤ c.args.unit.nanos) = omega (arith, ints) in
    let sum : total c.of_parts.result ≡ c.cut-secs.result.0 *ℤ pos 1000000000 +ℤ c.cut-secs.result.1 *ℤ c.args.unit.nanos = simp to_z-of_z at c.of_parts.ensures in
    sum ∙ parts.0
