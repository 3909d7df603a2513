-- The table of units. Assumes nothing: these are definitions.
--     units         the ten units, from the smallest to the largest
--     row u         the line of the table for the unit u: its code, its nanoseconds and its span limit
--     code u        its place in the order of the units
--     nanoseconds u how many nanoseconds it has, if it is a clock unit
--     ns u          the same as a number, 0 for a calendar unit
--     span_limit u  the largest magnitude that a span holds of it
--     calendar u    it is a calendar unit
--     unit_of c     the unit of the code c
--     TableRule     what holds between the lines of the table
use Rattle.std.specs.Prelude.{◌≡◌, ℕ, ◌*◌, ◌^◌, ◌<◌, ◌≤◌, Bool, not, List, [], ◌∷◌, is_some, Some, None, Option, nat_le}
use Rattle.std.specs.List.{slice_get}
use Rattle.std.specs.Option.{unwrap_or}
use Rattle.units.specs.declared.unit.Row.{Row}
use Rattle.units.specs.declared.unit.Unit.{Unit as TimeUnit}
use Rattle.units.specs.declared.unit.Unit.TheVariants.{Nanosecond, Microsecond, Millisecond, Second, Minute, Hour, Day, Week, Month, Year}

abbrev pub units : List TimeUnit
units = Nanosecond ∷ Microsecond ∷ Millisecond ∷ Second ∷ Minute ∷ Hour ∷ Day ∷ Week ∷ Month ∷ Year ∷ []

abbrev line : ℕ → Option ℕ → ℕ → Row
line c n l = record { code = c; nanoseconds = n; span_limit = l }

abbrev pub row : TimeUnit → Row
row Nanosecond = line 0 (Some 1) 9_223_372_036_854_775_807
row Microsecond = line 1 (Some 1_000) 631_107_417_600_000_000
row Millisecond = line 2 (Some 1_000_000) 631_107_417_600_000
row Second = line 3 (Some 1_000_000_000) 631_107_417_600
row Minute = line 4 (Some 60_000_000_000) 10_518_456_960
row Hour = line 5 (Some 3_600_000_000_000) 175_307_616
row Day = line 6 None 7_304_484
row Week = line 7 None 1_043_497
row Month = line 8 None 239_976
row Year = line 9 None 19_998

abbrev pub code : TimeUnit → ℕ
code u = (row u).code

abbrev pub nanoseconds : TimeUnit → Option ℕ
nanoseconds u = (row u).nanoseconds

abbrev pub ns : TimeUnit → ℕ
ns u = unwrap_or (nanoseconds u) 0

abbrev pub span_limit : TimeUnit → ℕ
span_limit u = (row u).span_limit

abbrev pub calendar : TimeUnit → Bool
calendar u = not (is_some (nanoseconds u))

abbrev pub unit_of : ℕ → Option TimeUnit
unit_of c = slice_get units c

pub record TableRule : Type 0 where
  -- a unit's code is its place among the units, so no two units share one
  pub coded : (u : TimeUnit) → unit_of (code u) ≡ Some u
  -- a code above 9 has no unit
  pub beyond : (c : ℕ) → 9 < c → unit_of c ≡ None
  -- the clock units are those up to Hour
  pub clock : (u : TimeUnit) → is_some (nanoseconds u) ≡ nat_le (code u) (code Hour)
  -- a clock unit is a whole number of each smaller one
  pub whole : (u v : TimeUnit) → code u ≤ code v → (k : ℕ) × (ns v ≡ k * ns u)
  -- every limit is an i64
  pub limited : (u : TimeUnit) → span_limit u < 2 ^ 63
  -- from Microsecond to Hour the limits are one and the same time
  pub level : (u : TimeUnit) → 0 < code u → code u ≤ code Hour → span_limit u * ns u ≡ span_limit Hour * ns Hour
