-- What chosen limits mean. Assumes nothing: this is a definition.
--     limits_of l the most that l lets stay of each clock unit, by unit code
use Rattle.std.specs.Prelude.{ℕ, List}
use Rattle.spreading.specs.declared.limits.ClockLimits.{ClockLimits}

abbrev pub limits_of : ClockLimits → List ℕ
limits_of l = l.limits
