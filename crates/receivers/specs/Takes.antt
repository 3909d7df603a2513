-- What a receiver means, and what a take does. Assumes nothing: these are definitions and a statement.
--     Ends                  the lowest and highest total, and the lowest and highest count
--     ContainsZero e        both ranges contain 0: the law of every receiver
--     moved t z u           the total t and the time of the signed count z of the unit u
--     refusals e t z u      why a receiver with the ends e and the total t refuses that count: each fault where it applies, in order
--     answer e t z u        the first of these, or acceptance
--     total_after t z u r   the total once the answer is r
--     Taken f e t z u r     r, of total f, is what is kept once the count is accepted, or why it is refused
--     Takes e t z u r e' t' what a take does: the answer r, and the ends e' and the total t' that it leaves
--     Acceptable e t z u    the unit is a clock unit, the count is in the range of counts, the new total in that of totals
--     Accepts               a count is accepted exactly when it is acceptable
use Rattle.std.specs.Prelude.{◌≡◌, false, not, ◌↔◌, List, [], ◌∷◌, ℤ, pos, ◌+ℤ◌, ◌*ℤ◌, ◌≤ℤ◌, Ok, Err, Option, Result, MatchResult}
use Rattle.units.specs.declared.fault.Fault.{Fault}
use Rattle.units.specs.declared.fault.Fault.TheVariants.{NotAllowedCalendarUnit, SignedOverflowForUnit, OverflowForUnit}
use Rattle.units.specs.declared.unit.Unit.{Unit as TimeUnit}
use Rattle.units.specs.Refusals.{when, first, unless_refused}
use Rattle.units.specs.Signs.{within, Between}
use Rattle.units.specs.Table.{ns, calendar}

pub record Ends : Type 0 where
  pub lowest_total : ℤ
  pub highest_total : ℤ
  pub lowest_count : ℤ
  pub highest_count : ℤ

pub record ContainsZero (e : Ends) : Type 0 where
  pub total_from : e.lowest_total ≤ℤ pos 0
  pub total_to : pos 0 ≤ℤ e.highest_total
  pub count_from : e.lowest_count ≤ℤ pos 0
  pub count_to : pos 0 ≤ℤ e.highest_count

abbrev pub moved : ℤ → ℤ → TimeUnit → ℤ
moved t z u = t +ℤ z *ℤ pos (ns u)

abbrev pub refusals : Ends → ℤ → ℤ → TimeUnit → List (Option Fault)
refusals e t z u =
    when (calendar u) (NotAllowedCalendarUnit u)
    ∷ when (not (within e.lowest_count e.highest_count z)) (SignedOverflowForUnit u)
    ∷ when (not (within e.lowest_total e.highest_total (moved t z u))) (OverflowForUnit u)
    ∷ []

abbrev pub answer : Ends → ℤ → ℤ → TimeUnit → Result (Unit {0}) Fault
answer e t z u = unless_refused (first (refusals e t z u)) tt

abbrev pub total_after : ℤ → ℤ → TimeUnit → Result (Unit {0}) Fault → ℤ
total_after t z u (Ok _) = moved t z u
total_after t z u (Err f) = t

abbrev pub Taken : {T : Type 0} → (T → ℤ) → Ends → ℤ → ℤ → TimeUnit → Result T Fault → Type 0
Taken total e t z u r = MatchResult r (λ d. (answer e t z u ≡ Ok tt) × (total d ≡ moved t z u)) (λ f. answer e t z u ≡ Err f)

pub record Takes (e : Ends) (t z : ℤ) (u : TimeUnit) (r : Result (Unit {0}) Fault) (e' : Ends) (t' : ℤ) : Type 0 where
  pub answered : r ≡ answer e t z u
  pub total : t' ≡ total_after t z u r
  pub ends : e' ≡ e

pub record Acceptable (e : Ends) (t z : ℤ) (u : TimeUnit) : Type 0 where
  pub clock : calendar u ≡ false
  pub count : Between e.lowest_count e.highest_count z
  pub total : Between e.lowest_total e.highest_total (moved t z u)

abbrev pub Accepts : Type 0
Accepts = (e : Ends) (t z : ℤ) (u : TimeUnit) → (answer e t z u ≡ Ok tt) ↔ Acceptable e t z u
