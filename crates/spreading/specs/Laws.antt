-- The laws of spreading, with the limits as a parameter. Assumes nothing: these are statements.
--     fraction_from k s f the cut fraction f of the unit s, where the clock unit of code k is s or smaller
--     Serves ms ks f s xs the counts xs are within the limits ms, last as long as the counts ks and the cut fraction f, and raise
--                         no time: no unit holds more, together with the larger ones, than was written there
--     counts_from k ks    the counts ks with the units below code k as 0
--     Spreads ms ks f s   the laws of what stays and of what is left over
--     Best ms ks f s r    the answer r serves, and is absent only where nothing whatever serves
use Rattle.std.specs.Prelude.{◌≡◌, ℕ, ◌+◌, ◌≤◌, cond, not, ◌&&◌, List, map, Option, MatchOption, nat_le, slice_index}
use Rattle.units.specs.declared.unit.Unit.{Unit as TimeUnit}
use Rattle.units.specs.declared.unit.Unit.TheVariants.{Hour}
use Rattle.units.specs.Table.{code, calendar}
use Rattle.units.specs.Times.{clock_units, time_from}
use Rattle.units.specs.Limits.{UpTo}
use Rattle.spreading.specs.Spreading.{levels, left, kept}

abbrev pub fraction_from : ℕ → TimeUnit → ℕ → ℕ
fraction_from k s f = cond (nat_le k (code s) && not (calendar s)) f 0

pub record Serves (ms ks : List ℕ) (f : ℕ) (s : TimeUnit) (xs : List ℕ) : Type 0 where
  pub within : (k : ℕ) → k ≤ code Hour → slice_index xs k ≤ slice_index ms k
  pub total : time_from 0 xs ≡ time_from 0 ks + fraction_from 0 s f
  pub lower : (k : ℕ) → time_from k xs ≤ time_from k ks + fraction_from k s f

abbrev pub counts_from : ℕ → List ℕ → List ℕ
counts_from k ks = map (λ u. cond (nat_le k (code u)) (slice_index ks (code u)) 0) clock_units

pub record Spreads (ms ks : List ℕ) (f : ℕ) (s : TimeUnit) : Type 0 where
  -- what stays is within the limits
  pub within : UpTo (kept (levels ms ks f s)) ms
  -- no time is lost or made: what stays and what is left are all that came in
  pub balanced : time_from 0 (kept (levels ms ks f s)) + left (levels ms ks f s) ≡ time_from 0 ks + fraction_from 0 s f
  -- no time is raised
  pub lower : (k : ℕ) → time_from k (kept (levels ms ks f s)) ≤ time_from k ks + fraction_from k s f
  -- where any counts whatever serve, nothing is left over
  pub best : (xs : List ℕ) → Serves ms ks f s xs → left (levels ms ks f s) ≡ 0
  -- where all the time finds a place, so does that of the larger units alone, without the fraction
  pub part : (k : ℕ) → left (levels ms ks f s) ≡ 0 → left (levels ms (counts_from k ks) 0 s) ≡ 0

abbrev pub Best : List ℕ → List ℕ → ℕ → TimeUnit → Option (List ℕ) → Type 0
Best ms ks f s r = MatchOption r ((xs : List ℕ) → Serves ms ks f s xs → ⊥) (λ xs. Serves ms ks f s xs)
