-- The limits of spans, by unit code. Assumes nothing: these are definitions.
--     span_limits  those of the ten units
--     clock_limits those of the six clock units
--     UpTo ms ls   no element of ms is above the one of ls at its place
use Rattle.std.specs.Prelude.{ℕ, ◌≤◌, List, map, slice_index}
use Rattle.units.specs.Table.{units, span_limit}
use Rattle.units.specs.Times.{clock_units}

abbrev pub span_limits : List ℕ
span_limits = map span_limit units

abbrev pub clock_limits : List ℕ
clock_limits = map span_limit clock_units

abbrev pub UpTo : List ℕ → List ℕ → Type 0
UpTo ms ls = (k : ℕ) → slice_index ms k ≤ slice_index ls k
