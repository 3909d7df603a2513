use Rattle.std.proofs.Common.{◌≡◌, ℕ, ◌*◌, ◌^◌, ◌<◌, Bool, false, ◌+ℤ◌, ℤ, Option, MatchOption, arith, rules}
use Rattle.std.proofs.lemmas.Int.{ints}
use Rattle.std.specs.Duration.{FitsDuration}
use Rattle.units.specs.declared.unit.Unit.{Unit as TimeUnit}
use Rattle.units.specs.Signs.{signed, Between}
use Rattle.units.specs.Table.{ns, calendar}
use Rattle.units.proofs.Signs.{times_signed}
use Rattle.durations.specs.declared.signed_duration.SignedDuration.{SignedDuration}
use Rattle.durations.specs.Totals.{total, Fits, Exact}
use Rattle.durations.proofs.Ranges.{fits}
use Rattle.receivers.specs.Ranges.{signed_ends}
use Rattle.receivers.proofs.signed.moved.Goals as goal

-- A signed duration can have the total z.
abbrev Held : ℤ → Type 0
Held z = Between signed_ends.lowest_total signed_ends.highest_total z

held : (r : Option SignedDuration) (z : ℤ) → Exact r z → MatchOption r (Held z → ⊥) (λ d. Held z × (total d ≡ z))
held r z x = grind arith

too_far : (u : TimeUnit) (b : Bool) (t : ℤ) (m : ℕ) → m < 2 ^ 64 → calendar u ≡ false → (FitsDuration (m * ns u) → ⊥) → Fits t → Held (t +ℤ signed b (m * ns u)) → ⊥
too_far u b t m small clock long i j = grind (arith, ints)

pub returns-in_err-time : goal.returns-in_err-time
returns-in_err-time c = λ clock counted.
    let d = c.args.before in
    let m = c.args.count.magnitude in
    let u = c.args.count.unit in
    rw (c.from_residual.ensures, times_signed c.args.negative m (ns u)) (too_far u c.args.negative (total d) m (search rules) clock (c.in_err-time.ensures clock) (fits d.secs d.nanos (search rules) d.small))

pub returns : goal.returns
returns c = λ clock counted. rw (times_signed c.args.negative c.args.count.magnitude (ns c.args.count.unit), ← c.in_ok-time.ensures.1) (held c.shifted.result _ c.shifted.ensures)
