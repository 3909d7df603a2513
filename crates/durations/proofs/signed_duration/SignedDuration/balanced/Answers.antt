use Rattle.std.proofs.Common.{◌≡◌, pos, ◌+ℤ◌, ◌*ℤ◌, ◌∙◌, w32, w64, SFits, rules}
use lib.Signed.{quot_z, rem_z}
use Rattle.std.proofs.lemmas.Int.{to_z-of_z}
use Rattle.durations.specs.Totals.{total}
use Rattle.durations.proofs.Ranges.{wide, carried, carried_out, rest_small, fits}
use Rattle.durations.proofs.signed_duration.SignedDuration.balanced.Goals as goal

pub returns-in_err-secs : goal.returns-in_err-secs
returns-in_err-secs c = rw c.from_residual.ensures (λ fit.
    let s = c.ranges.secs in
    let p = c.ranges.nanos in
    let w = wide c.args.nanos p in
    let f : SFits w64 c.cut-carry.result.0 = search rules in
    let carry : c.cut-carry.result.0 ≡ quot_z c.args.nanos (pos 1000000000) = simp to_z-of_z at c.cut-carry.ensures.whole in
    let none : SFits w64 (c.args.secs +ℤ c.cut-carry.result.0) → ⊥ = simp to_z-of_z at c.in_err-secs.ensures in
    none (carried_out c.args.secs c.args.nanos c.cut-carry.result.0 s carry fit))

pub returns : goal.returns
returns c =
    let s = c.ranges.secs in
    let p = c.ranges.nanos in
    let w = wide c.args.nanos p in
    let f : SFits w64 c.cut-carry.result.0 = search rules in
    let r : SFits w32 c.cut-carry.result.1 = search rules in
    let n : SFits w64 c.in_ok-secs.secs = search rules in
    let carry : c.cut-carry.result.0 ≡ quot_z c.args.nanos (pos 1000000000) = simp to_z-of_z at c.cut-carry.ensures.whole in
    let rest : c.cut-carry.result.1 ≡ rem_z c.args.nanos (pos 1000000000) = simp to_z-of_z at c.cut-carry.ensures.rest in
    let secs : c.in_ok-secs.secs ≡ c.args.secs +ℤ c.cut-carry.result.0 = simp to_z-of_z at c.in_ok-secs.ensures.1 in
    let same = carried c.args.secs c.args.nanos _ _ c.in_ok-secs.secs carry rest secs in
    let sum : total c.of_parts.result ≡ c.in_ok-secs.secs *ℤ pos 1000000000 +ℤ c.cut-carry.result.1 = simp to_z-of_z at c.of_parts.ensures in
    (rw same at (fits c.in_ok-secs.secs c.cut-carry.result.1 n (rest_small c.args.nanos _ rest)), sum ∙ same)
