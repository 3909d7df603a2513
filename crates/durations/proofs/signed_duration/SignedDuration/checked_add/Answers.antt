use Rattle.std.proofs.Common.{◌≡◌, ◌+ℤ◌, w64, SFits, rules}
use Rattle.std.proofs.lemmas.Int.{to_z-of_z}
use Rattle.durations.proofs.Ranges.{sums, small_fits, sum_fits, sum_within}
use Rattle.durations.proofs.signed_duration.SignedDuration.checked_add.Goals as goal

pub returns-in_err-secs : goal.returns-in_err-secs
returns-in_err-secs c = rw c.from_residual.ensures (λ fit.
    let a = c.args.self in
    let b = c.args.rhs in
    let fa : SFits w64 a.secs = search rules in
    let fb : SFits w64 b.secs = search rules in
    let none : SFits w64 (a.secs +ℤ b.secs) → ⊥ = simp to_z-of_z at c.in_err-secs.ensures in
    none (sum_within a.secs b.secs a.nanos b.nanos fa fb a.small b.small a.one_sign b.one_sign fit))

pub returns : goal.returns
returns c =
    let a = c.args.self in
    let b = c.args.rhs in
    let fa : SFits w64 a.secs = search rules in
    let fb : SFits w64 b.secs = search rules in
    let fp = small_fits a.nanos a.small in
    let fq = small_fits b.nanos b.small in
    let fs : SFits w64 c.in_ok-secs.secs = search rules in
    let fn = sum_fits a.nanos b.nanos a.small b.small in
    let is : c.in_ok-secs.secs ≡ a.secs +ℤ b.secs = simp to_z-of_z at c.in_ok-secs.ensures.1 in
    rw (sums a.secs b.secs a.nanos b.nanos c.in_ok-secs.secs is) at (simp to_z-of_z at c.balanced.ensures)
