-- Spreading: time goes down from unit to unit until each holds no more than its limit. Assumes nothing: these are definitions.
-- A list of levels has the smallest unit first, so that the units larger than a level are those behind it.
--     Level             a clock unit: its nanoseconds, its limit, and the time written there
--     stays l came      the whole units that stay, where so much time came from above
--     passes l came     the time that goes on to the next smaller unit
--     left ls           the time that leaves the smallest unit
--     kept ls           the counts that stay, by unit code
--     level ms ks f s u the level of the unit u, of the counts ks under the limits ms, with the cut fraction f at its unit s
--     levels ms ks f s  those of the six clock units
--     spread ms ks f s  the counts that stay, absent where time is left over
use Rattle.std.specs.Prelude.{ℕ, ◌+◌, ◌-◌, ◌*◌, ◌/◌, min, cond, List, [], ◌∷◌, map, Some, None, Option, ◌==◌, slice_index}
use Rattle.units.specs.declared.unit.Unit.{Unit as TimeUnit}
use Rattle.units.specs.Table.{code, ns}
use Rattle.units.specs.Times.{clock_units}

pub record Level : Type 0 where
  pub nanos : ℕ
  pub limit : ℕ
  pub written : ℕ

abbrev pub stays : Level → ℕ → ℕ
stays l came = min ((l.written + came) / l.nanos) l.limit

abbrev pub passes : Level → ℕ → ℕ
passes l came = l.written + came - stays l came * l.nanos

unfoldable pub left : List Level → ℕ
left [] = 0
left (l ∷ ls) = passes l (left ls)

unfoldable pub kept : List Level → List ℕ
kept [] = []
kept (l ∷ ls) = stays l (left ls) ∷ kept ls

abbrev pub level : List ℕ → List ℕ → ℕ → TimeUnit → TimeUnit → Level
level ms ks f s u = record { nanos = ns u; limit = slice_index ms (code u); written = slice_index ks (code u) * ns u + cond (code u == code s) f 0 }

unfoldable pub levels : List ℕ → List ℕ → ℕ → TimeUnit → List Level
levels ms ks f s = map (level ms ks f s) clock_units

abbrev pub spread : List ℕ → List ℕ → ℕ → TimeUnit → Option (List ℕ)
spread ms ks f s = cond (left (levels ms ks f s) == 0) (Some (kept (levels ms ks f s))) None
