-- Counts of one sign, taken one after another by a new receiver. Assumes nothing: these are definitions and statements.
--     time c                the nanoseconds of the count c, without sign
--     time_of cs            those of all the counts cs
--     all_refusals e b n cs why a receiver with the ends e that holds n nanoseconds refuses the counts cs, all under the sign b, in order
--     total_from e b n cs   its total once it has taken them all, or the first refusal
--     InRange e b cs        every count is of a clock unit and in the range of counts, and the sum of all is in the range of totals
--     Summed f e b cs r     r, of total f, holds the sum, and is there exactly when all is in range
use Rattle.std.specs.Prelude.{◌≡◌, ℕ, ◌+◌, ◌*◌, Bool, false, List, [], ◌∷◌, ◌++◌, ℤ, Option, Result, MatchResult}
use Rattle.std.specs.List.{AllByRecursion}
use Rattle.units.specs.declared.fault.Fault.{Fault}
use Rattle.units.specs.Refusals.{first, unless_refused}
use Rattle.units.specs.Signs.{signed, Between}
use Rattle.units.specs.Table.{ns, calendar}
use Rattle.receivers.specs.declared.unit_count.UnitCount.{UnitCount}
use Rattle.receivers.specs.Takes.{Ends, refusals}

abbrev pub time : UnitCount → ℕ
time c = c.magnitude * ns c.unit

unfoldable pub time_of : List UnitCount → ℕ
time_of [] = 0
time_of (c ∷ cs) = time c + time_of cs

unfoldable pub all_refusals : Ends → Bool → ℕ → List UnitCount → List (Option Fault)
all_refusals e b n [] = []
all_refusals e b n (c ∷ cs) = refusals e (signed b n) (signed b c.magnitude) c.unit ++ all_refusals e b (n + time c) cs

abbrev pub total_from : Ends → Bool → ℕ → List UnitCount → Result ℤ Fault
total_from e b n cs = unless_refused (first (all_refusals e b n cs)) (signed b (n + time_of cs))

pub record InRange (e : Ends) (b : Bool) (cs : List UnitCount) : Type 0 where
  pub clock : AllByRecursion (λ c. calendar c.unit ≡ false) cs
  pub counts : AllByRecursion (λ c. Between e.lowest_count e.highest_count (signed b c.magnitude)) cs
  pub total : Between e.lowest_total e.highest_total (signed b (time_of cs))

abbrev pub Summed : {R : Type 0} → (R → ℤ) → Ends → Bool → List UnitCount → Result R Fault → Type 0
Summed total e b cs r = MatchResult r (λ v. InRange e b cs × (total v ≡ signed b (time_of cs))) (λ _. InRange e b cs → ⊥)
