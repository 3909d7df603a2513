-- The ten magnitudes of a span, by unit code, and its sign. Assumes nothing: these are definitions.
--     all_zero ms      every magnitude is 0
--     is_zero s        the sign s is Zero
--     side s           the place of the sign s among the three
--     or_positive s    the sign s, or Positive where s is Zero
--     sign_after s b z the sign of a span of sign s once the value z is set in it, where b says whether all its magnitudes are then 0
use Rattle.std.specs.Prelude.{ℕ, Bool, true, false, cond, ◌&&◌, List, [], ◌∷◌, ℤ, pos, negsuc, ◌==◌}
use Rattle.units.specs.declared.sign.Sign.{Sign}
use Rattle.units.specs.declared.sign.Sign.TheVariants.{Negative, Zero, Positive}

abbrev pub all_zero : List ℕ → Bool
all_zero [] = true
all_zero (m ∷ ms) = m == 0 && all_zero ms

abbrev pub is_zero : Sign → Bool
is_zero Negative = false
is_zero Zero = true
is_zero Positive = false

abbrev pub side : Sign → ℕ
side Negative = 0
side Zero = 1
side Positive = 2

abbrev pub or_positive : Sign → Sign
or_positive Negative = Negative
or_positive Zero = Positive
or_positive Positive = Positive

-- a negative value turns the whole span Negative, any other keeps the sign of what was not zero
abbrev pub sign_after : Sign → Bool → ℤ → Sign
sign_after s none (negsuc n) = Negative
sign_after s none (pos n) = cond none Zero (or_positive s)
