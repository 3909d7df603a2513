-- The refusals. Assumes nothing: these are definitions.
--     Refusal            a number, and what is told besides
--     refusal f          what the fault f stands for
--     refusal_text f     how it is written
--     when b f           the fault f, if b
--     first fs           the first fault of those that are met
--     unless_refused o x x, unless a fault o is met
use Rattle.std.specs.Prelude.{ℕ, Bool, true, false, List, [], ◌∷◌, ◌++◌, Some, None, Ok, Err, Option, Result, codes, decimal}
use Rattle.units.specs.declared.fault.Told.{Told}
use Rattle.units.specs.declared.fault.Told.TheVariants.{Nothing, Unit as One, Units, Byte}
use Rattle.units.specs.declared.fault.Fault.{Fault}
use Rattle.units.specs.declared.fault.Fault.TheVariants.{FractionAlreadySet, OutOfOrderUnits, OutOfOrderHMS, FractionTooLarge, NotAllowedFractionalUnit, NotAllowedNegative, EmptyDuration, NotAllowedCalendarUnit, SignedOverflowForUnit, OverflowForUnit, OverflowForUnitFractional, FailedValueSet, InvalidFractionNanos, IntegerTooBig, MissingFractionalDigits, NoFractionDigits, TooManyFractionDigits, InvalidFractionDigit, SpanLimitPassed, TextTooLong, MissingDesignatorP, MissingNumber, WrongDesignator, BufferTooShort}

pub record Refusal : Type 0 where
  pub number : ℕ
  pub tells : Told

abbrev by : ℕ → Told → Refusal
by n t = record { number = n; tells = t }

abbrev pub refusal : Fault → Refusal
refusal FractionAlreadySet = by 1 Nothing
refusal (OutOfOrderUnits found previous) = by 2 (Units found previous)
refusal (OutOfOrderHMS found) = by 3 (One found)
refusal FractionTooLarge = by 4 Nothing
refusal (NotAllowedFractionalUnit found) = by 5 (One found)
refusal NotAllowedNegative = by 6 Nothing
refusal EmptyDuration = by 7 Nothing
refusal (NotAllowedCalendarUnit unit) = by 8 (One unit)
refusal (SignedOverflowForUnit unit) = by 9 (One unit)
refusal (OverflowForUnit unit) = by 10 (One unit)
refusal (OverflowForUnitFractional unit) = by 11 (One unit)
refusal (FailedValueSet unit) = by 12 (One unit)
refusal InvalidFractionNanos = by 13 Nothing
refusal IntegerTooBig = by 14 Nothing
refusal MissingFractionalDigits = by 15 Nothing
refusal NoFractionDigits = by 16 Nothing
refusal TooManyFractionDigits = by 17 Nothing
refusal (InvalidFractionDigit byte) = by 18 (Byte byte)
refusal SpanLimitPassed = by 19 Nothing
refusal TextTooLong = by 20 Nothing
refusal MissingDesignatorP = by 21 Nothing
refusal MissingNumber = by 22 Nothing
refusal WrongDesignator = by 23 Nothing
refusal BufferTooShort = by 24 Nothing

abbrev pub refusal_text : Fault → List ℕ
refusal_text f = codes "refused " ++ decimal (refusal f).number

abbrev pub when : Bool → Fault → Option Fault
when true f = Some f
when false f = None

abbrev pub first : List (Option Fault) → Option Fault
first [] = None
first (None ∷ fs) = first fs
first (Some f ∷ fs) = Some f

abbrev pub unless_refused : {X : Type 0} → Option Fault → X → Result X Fault
unless_refused None x = Ok x
unless_refused (Some f) x = Err f
