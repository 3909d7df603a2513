-- One step of the code. Assumes nothing: these are definitions, for private functions only.
--     seen l          the code's level l as one of specs/Spreading.antt
--     Settles t n m r r is the whole n's of the time t, at most m of them, and the rest, absent exactly where no Duration is so long
use Rattle.std.specs.Prelude.{◌≡◌, ℕ, ◌+◌, ◌-◌, ◌*◌, ◌/◌, min, Option, MatchOption}
use Rattle.std.specs.Duration.{as_nanos, FitsDuration}
use Rattle.std.specs.declared.time.Duration.{Duration}
use Rattle.units.specs.Table.{ns}
use Rattle.spreading.specs.declared.level.Level.{Level as ClockLevel}
use Rattle.spreading.specs.Spreading.{Level}

abbrev pub seen : ClockLevel → Level
seen l = record { nanos = ns l.unit; limit = l.limit; written = l.count * ns l.unit + l.fraction }

abbrev pub Settles : ℕ → ℕ → ℕ → Option (ℕ × Duration) → Type 0
Settles t n m r = MatchOption r (FitsDuration t → ⊥) (λ p. (p.0 ≡ min (t / n) m) × (as_nanos p.1 ≡ t - p.0 * n))
