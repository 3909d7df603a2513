-- The time of counts. Assumes nothing: these are definitions.
--     Lasting n u r  r is how long n of the unit u last, absent exactly when u is a calendar unit or no Duration is so long
--     clock_units    the six clock units, from the smallest to the largest
--     time_at ls ks  the nanoseconds of the counts ks at units of ls nanoseconds
--     time_from u ks the nanoseconds of the counts ks, by unit code, at the clock unit of code u and the larger ones
use Rattle.std.specs.Prelude.{◌≡◌, ℕ, ◌+◌, ◌*◌, false, List, [], ◌∷◌, map, drop, Option, MatchOption}
use Rattle.std.specs.Duration.{as_nanos, FitsDuration}
use Rattle.std.specs.declared.time.Duration.{Duration}
use Rattle.units.specs.declared.unit.Unit.{Unit as TimeUnit}
use Rattle.units.specs.declared.unit.Unit.TheVariants.{Nanosecond, Microsecond, Millisecond, Second, Minute, Hour}
use Rattle.units.specs.Table.{ns, calendar}

abbrev pub Lasting : ℕ → TimeUnit → Option Duration → Type 0
Lasting n u r = MatchOption r (calendar u ≡ false → FitsDuration (n * ns u) → ⊥) (λ d. (calendar u ≡ false) × (as_nanos d ≡ n * ns u))

abbrev pub clock_units : List TimeUnit
clock_units = Nanosecond ∷ Microsecond ∷ Millisecond ∷ Second ∷ Minute ∷ Hour ∷ []

abbrev pub time_at : List ℕ → List ℕ → ℕ
time_at [] ks = 0
time_at (l ∷ ls) [] = 0
time_at (l ∷ ls) (k ∷ ks) = k * l + time_at ls ks

abbrev pub time_from : ℕ → List ℕ → ℕ
time_from u ks = time_at (drop u (map ns clock_units)) (drop u ks)
