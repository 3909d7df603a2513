-- What the code of a receiver keeps after a count. Assumes nothing: this is a definition, for private functions only.
--     Keeps f e t z u r r, of total f, is what is kept after a count in range of a clock unit, absent exactly when the total leaves its range
use Rattle.std.specs.Prelude.{◌≡◌, true, false, ℤ, Option, MatchOption}
use Rattle.units.specs.declared.unit.Unit.{Unit as TimeUnit}
use Rattle.units.specs.Signs.{within, Between}
use Rattle.units.specs.Table.{calendar}
use Rattle.receivers.specs.Takes.{Ends, moved}

abbrev pub Keeps : {T : Type 0} → (T → ℤ) → Ends → ℤ → ℤ → TimeUnit → Option T → Type 0
Keeps total e t z u r = calendar u ≡ false → within e.lowest_count e.highest_count z ≡ true → MatchOption r (Between e.lowest_total e.highest_total (moved t z u) → ⊥) (λ d. Between e.lowest_total e.highest_total (moved t z u) × (total d ≡ moved t z u))
