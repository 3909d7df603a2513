use Rattle.std.proofs.Common.{◌≡◌, pos, ◌+ℤ◌, ◌-ℤ◌, ◌*ℤ◌, neg_ℤ, ◌∙◌, w32, w64, SFits, rules}
use Rattle.std.proofs.lemmas.Int.{to_z-of_z}
use Rattle.durations.specs.Totals.{total}
use Rattle.durations.proofs.Ranges.{negated, negated_small, small_fits, fits}
use Rattle.durations.proofs.signed_duration.SignedDuration.checked_neg.Goals as goal

pub returns-clause-value : goal.returns-clause-value
returns-clause-value c =
    let d = c.args.self in
    let fs : SFits w64 d.secs = search rules in
    let fp : SFits w32 d.nanos = search rules in
    let fn : SFits w64 c.in_ok-secs.secs = search rules in
    let small = negated_small d.nanos d.small in
    let fq = small_fits (pos 0 -ℤ d.nanos) small in
    let secs : c.in_ok-secs.secs ≡ neg_ℤ d.secs = simp to_z-of_z at c.in_ok-secs.ensures.1 in
    let same = negated d.secs d.nanos c.in_ok-secs.secs secs in
    let sum : total c.of_parts.result ≡ c.in_ok-secs.secs *ℤ pos 1000000000 +ℤ (pos 0 -ℤ d.nanos) = simp to_z-of_z at c.of_parts.ensures in
    (rw same at (fits c.in_ok-secs.secs (pos 0 -ℤ d.nanos) fn small), sum ∙ same)
