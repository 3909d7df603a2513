-- Numbers of either sign. Assumes nothing: these are definitions.
--     signed b n         the magnitude n, below 0 if b
--     is_negative s      the sign s is Negative; Zero counts as Positive
--     within low high z  z is in the range from low to high
--     Between low high z the same as a statement
use Rattle.std.specs.Prelude.{ℕ, Bool, true, false, ◌&&◌, ℤ, pos, neg_ℤ, ◌≤ℤ◌, int_le}
use Rattle.units.specs.declared.sign.Sign.{Sign}
use Rattle.units.specs.declared.sign.Sign.TheVariants.{Negative, Zero, Positive}

abbrev pub signed : Bool → ℕ → ℤ
signed true n = neg_ℤ (pos n)
signed false n = pos n

abbrev pub is_negative : Sign → Bool
is_negative Negative = true
is_negative Zero = false
is_negative Positive = false

abbrev pub within : ℤ → ℤ → ℤ → Bool
within low high z = int_le low z && int_le z high

pub record Between (low high z : ℤ) : Type 0 where
  pub above : low ≤ℤ z
  pub below : z ≤ℤ high
