-- What a line of seconds says. Assumes nothing: these are definitions.
--     ended n f bs       n seconds and the fraction f, if nothing is left over in bs
--     with_fraction n r  the same once the fraction and the bytes after it are read as r
--     with_number o bs   the same once the number o is read, which must be there and below 2^63
--     by_prefix r        the same once the number and the bytes after it are read as r
--     seconds bs         the nanoseconds that the line bs says, or why it is refused
--     Is r a             the result r of the code is the answer a, its duration read by its total
use Rattle.std.specs.Prelude.{◌≡◌, ℕ, ◌+◌, ◌*◌, ◌^◌, cond, List, [], ◌∷◌, pos, Some, None, Ok, Err, Option, Result, nat_lt}
use Rattle.std.specs.Option.{unwrap_or}
use Rattle.std.specs.Result.{result_map_both}
use Rattle.units.specs.declared.fault.Fault.{Fault}
use Rattle.units.specs.declared.fault.Fault.TheVariants.{MissingNumber, SignedOverflowForUnit, WrongDesignator}
use Rattle.units.specs.declared.unit.Unit.TheVariants.{Second}
use Rattle.units.specs.Table.{ns}
use Rattle.durations.specs.declared.signed_duration.SignedDuration.{SignedDuration}
use Rattle.durations.specs.Totals.{total}
use Rattle.digits.specs.Numbers.{u64_prefix, temporal_fraction}

abbrev pub ended : ℕ → Option ℕ → List ℕ → Result ℕ Fault
ended n fraction [] = Ok (n * ns Second + unwrap_or fraction 0)
ended n fraction (b ∷ bs) = Err WrongDesignator

abbrev pub with_fraction : ℕ → Result (Option ℕ × List ℕ) Fault → Result ℕ Fault
with_fraction n (Ok p) = ended n p.0 p.1
with_fraction n (Err f) = Err f

abbrev pub with_number : Option ℕ → List ℕ → Result ℕ Fault
with_number None rest = Err MissingNumber
with_number (Some n) rest = cond (nat_lt n (2 ^ 63)) (with_fraction n (temporal_fraction rest)) (Err (SignedOverflowForUnit Second))

abbrev pub by_prefix : Result (Option ℕ × List ℕ) Fault → Result ℕ Fault
by_prefix (Ok p) = with_number p.0 p.1
by_prefix (Err f) = Err f

abbrev pub seconds : List ℕ → Result ℕ Fault
seconds bs = by_prefix (u64_prefix bs)

abbrev pub Is : Result SignedDuration Fault → Result ℕ Fault → Type 0
Is r a = result_map_both total (λ f. f) r ≡ result_map_both pos (λ f. f) a
