use Rattle.std.proofs.Common.{◌≡◌, pos, ◌*ℤ◌, arith, w64, SFits, rules}
use Rattle.std.proofs.lemmas.Int.{ints, to_z-of_z}
use Rattle.durations.specs.Totals.{total}
use Rattle.durations.proofs.Parting.{in_seconds}
use Rattle.durations.proofs.Ranges.{fits_secs}
use Rattle.durations.proofs.signed_duration.SignedDuration.of_whole_units.Goals as goal

pub returns-in_err-secs : goal.returns-in_err-secs
returns-in_err-secs c = rw c.from_residual.ensures (λ fit.
    let z = c.ranges.count in
    let k : SFits w64 c.args.unit.secs = search rules in
    let f = rw (in_seconds c.args.count c.args.unit.secs c.args.unit.some) at fit in
    let none : SFits w64 (c.args.count *ℤ c.args.unit.secs) → ⊥ = simp to_z-of_z at c.in_err-secs.ensures in
    none (omega (arith, ints)))

pub returns : goal.returns
returns c =
    let z = c.ranges.count in
    let k : SFits w64 c.args.unit.secs = search rules in
    let f : SFits w64 c.in_ok-secs.secs = search rules in
    let secs : c.in_ok-secs.secs ≡ c.args.count *ℤ c.args.unit.secs = simp to_z-of_z at c.in_ok-secs.ensures.1 in
    let sum : total c.from_secs.result ≡ c.in_ok-secs.secs *ℤ pos 1000000000 = simp to_z-of_z at c.from_secs.ensures in
    rw (in_seconds c.args.count c.args.unit.secs c.args.unit.some, ← secs) (fits_secs c.in_ok-secs.secs f, sum)
