-- What a span is, and what a setter makes of it. Assumes nothing: these are definitions.
--     Shown                ten magnitudes by unit code, a sign, and the bits of the set of units
--     shown s              what the span s shows
--     zero                 the span that is wholly zero
--     of_magnitudes ms s z the magnitudes ms with their bits, and with the sign of s once the value z is set in it
--     with_value s u z     the span s with the value z at the unit u, or SpanLimitPassed where its magnitude passes the limit of u
--     Sets s u z r         r is a span that shows what with_value says of s, u and z, or its refusal
--     clock_total s        the signed time of its clock magnitudes, in nanoseconds
--     same a b             the spans a and b have the same magnitudes and the same sign
--     Sameness             spans are the same exactly when all that they show is equal
--     Told s               what holds of every span s
use Rattle.std.specs.Prelude.{◌≡◌, ℕ, ◌≤◌, Bool, not, List, replicate, ℤ, Result, ◌==◌, nat_lt, slice_index, slice_set, unsigned_abs}
use Rattle.std.specs.Bool.{Decides}
use Rattle.std.specs.Ordering.{eq_of_both, on}
use Rattle.std.specs.Result.{result_map_both}
use Rattle.std.specs.Cmp.Lexicographic.{pointwise}
use Rattle.units.specs.declared.fault.Fault.{Fault}
use Rattle.units.specs.declared.fault.Fault.TheVariants.{SpanLimitPassed}
use Rattle.units.specs.declared.sign.Sign.{Sign}
use Rattle.units.specs.declared.sign.Sign.TheVariants.{Zero}
use Rattle.units.specs.declared.unit.Unit.{Unit as TimeUnit}
use Rattle.units.specs.Refusals.{when, unless_refused}
use Rattle.units.specs.Signs.{signed, is_negative}
use Rattle.units.specs.Table.{code, span_limit}
use Rattle.units.specs.Times.{time_from}
use Rattle.spans.specs.declared.span.Span.{Span}
use Rattle.spans.specs.Bits.{bit, one_if, bits_of, number}
use Rattle.spans.specs.Magnitudes.{all_zero, is_zero, side, sign_after}

pub record Shown : Type 0 where
  pub magnitudes : List ℕ
  pub sign : Sign
  pub bits : ℕ

abbrev pub shown : Span → Shown
shown s = record { magnitudes = s.magnitudes; sign = s.sign; bits = number s.units }

abbrev pub zero : Shown
zero = record { magnitudes = replicate 10 0; sign = Zero; bits = 0 }

abbrev pub of_magnitudes : List ℕ → Shown → ℤ → Shown
of_magnitudes ms s z = record { magnitudes = ms; sign = sign_after s.sign (all_zero ms) z; bits = bits_of ms }

abbrev pub with_value : Shown → TimeUnit → ℤ → Result Shown Fault
with_value s u z = unless_refused (when (nat_lt (span_limit u) (unsigned_abs z)) SpanLimitPassed) (of_magnitudes (slice_set s.magnitudes (code u) (unsigned_abs z)) s z)

abbrev pub Sets : Span → TimeUnit → ℤ → Result Span Fault → Type 0
Sets s u z r = result_map_both shown (λ f. f) r ≡ with_value (shown s) u z

abbrev pub clock_total : Span → ℤ
clock_total s = signed (is_negative s.sign) (time_from 0 s.magnitudes)

abbrev pub same : Span → Span → Bool
same = eq_of_both (on (λ s. s.magnitudes) (pointwise ◌==◌)) (on (λ s. side s.sign) ◌==◌)

abbrev pub Sameness : Type 0
Sameness = (a b : Span) → Decides (same a b) (shown a ≡ shown b)

pub record Told (s : Span) : Type 0 where
  -- no magnitude passes its limit
  pub within : (u : TimeUnit) → slice_index s.magnitudes (code u) ≤ span_limit u
  -- the bit of a unit is 1 exactly where its magnitude is not 0
  pub bits : (u : TimeUnit) → bit (number s.units) (code u) ≡ one_if (not (slice_index s.magnitudes (code u) == 0))
  -- the sign is Zero exactly when all magnitudes are 0
  pub sign : is_zero s.sign ≡ all_zero s.magnitudes
