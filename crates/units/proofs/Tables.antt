-- The rule of the table of units: each part is one test that computes over all units. Assumes nothing.
use Rattle.std.proofs.Common.{◌≡◌, ◌*◌, ◌/◌, ◌^◌, Bool, true, not, ◌&&◌, ◌||◌, eqb, ltb, leb, is_some, Some, refl, arith, rules}
use Rattle.std.proofs.lemmas.Option.{slice_get_past}
use Rattle.std.proofs.lemmas.Bool.{ltb-true}
use Rattle.std.proofs.lemmas.Bool.Decides.{nat_tests}
use Rattle.units.specs.declared.unit.Unit.{Unit as TimeUnit}
use Rattle.units.specs.declared.unit.Unit.TheVariants.{Nanosecond, Microsecond, Millisecond, Second, Minute, Hour, Day, Week, Month, Year}
use Rattle.units.specs.Table.{units, code, nanoseconds, ns, span_limit, unit_of, TableRule}

-- the test f passes at every unit
abbrev all : (TimeUnit → Bool) → Bool
all f = (f Nanosecond && (f Microsecond && (f Millisecond && (f Second && f Minute)))) && (f Hour && (f Day && (f Week && (f Month && f Year))))

at : (f : TimeUnit → Bool) → all f ≡ true → (u : TimeUnit) → f u ≡ true
at f e u = grind arith

coded : (u : TimeUnit) → unit_of (code u) ≡ Some u
coded u = search rules

-- v is a whole number of u's, or smaller
abbrev whole : TimeUnit → TimeUnit → Bool
whole u v = ltb (code v) (code u) || eqb (ns v) (ns v / ns u * ns u)

-- the limit of u is as long as Hour's, unless u is Nanosecond or a calendar unit
abbrev level : TimeUnit → Bool
level u = eqb (code u) 0 || ltb (code Hour) (code u) || eqb (span_limit u * ns u) (span_limit Hour * ns Hour)

-- a and b are both true or both false
abbrev alike : Bool → Bool → Bool
alike a b = (a && b) || (not a && not b)

from_alike : (a b : Bool) → alike a b ≡ true → a ≡ b
from_alike a b e = grind arith

pub table_rule : TableRule
table_rule = record {
  coded = coded;
  beyond = λ c h. slice_get_past units c (omega arith);
  clock = λ u. from_alike _ _ (at (λ v. alike (is_some (nanoseconds v)) (leb (code v) (code Hour))) refl u);
  whole = λ u v h. let e = at (whole u) (at (λ w. all (whole w)) refl u) v in (ns v / ns u, grind (arith, nat_tests));
  limited = λ u. ltb-true _ _ (at (λ v. ltb (span_limit v) (2 ^ 63)) refl u);
  level = λ u some small. let e = at level refl u in grind (arith, nat_tests);
}
