-- The laws of spreading at the six clock units. Assumes nothing.
use Rattle.std.proofs.Common.{◌≡◌, ℕ, zero, suc, ◌+◌, ◌*◌, ◌<◌, ◌≤◌, Bool, true, false, cond, not, ◌&&◌, eqb, leb, List, [], ◌∷◌, map, length, get_or, drop, Option, sym, refl, ap, ◌∙◌, inl, inr, arith}
use Rattle.std.specs.List.{AllByRecursion}
use Rattle.std.proofs.lemmas.List.{drop_more, drop_all, drop-map, get_or-map, get_or_past}
use Rattle.std.proofs.lemmas.Bool.{cases_lt, cases_eq, eq-eqb, ne_eqb}
use Rattle.std.proofs.lemmas.Bool.Decides.{nat_tests}
use Rattle.units.specs.declared.unit.Unit.{Unit as TimeUnit}
use Rattle.units.specs.declared.unit.Unit.TheVariants.{Hour}
use Rattle.units.specs.Table.{code, ns}
use Rattle.units.specs.Times.{clock_units, time_at, time_from}
use Rattle.units.proofs.Tables.{table_rule}
use Rattle.spreading.specs.Laws.{fraction_from, Serves, counts_from, Spreads, Best}
use Rattle.spreading.specs.Spreading.{Level, left, kept, level, levels, spread}
use Rattle.spreading.proofs.Clock.{unit_at, code_at, six, at_level, drop_level, chain}
use Rattle.spreading.proofs.Descending.{time, held, balanced, lower, within, best, part, Multiple, Under, Whole}

-- a fraction counts at k if it stands there, or counts at the next larger unit
counts_on : (k c f : ℕ) → k < 6 → cond (eqb k c) f 0 + cond (leb (k + 1) c && not (not (leb c 5))) f 0 ≡ cond (leb k c && not (not (leb c 5))) f 0
counts_on k c f h = grind (arith, nat_tests)

counts_above : (k c f : ℕ) → 6 ≤ k → cond (leb k c && not (not (leb c 5))) f 0 ≡ 0
counts_above k c f h = grind (arith, nat_tests)

fraction_on : (k : ℕ) (s : TimeUnit) (f : ℕ) → k < 6 → cond (eqb k (code s)) f 0 + fraction_from (k + 1) s f ≡ fraction_from k s f
fraction_on k s f h = rw (table_rule.clock s) (counts_on k (code s) f h)

fraction_above : (k : ℕ) (s : TimeUnit) (f : ℕ) → 6 ≤ k → fraction_from k s f ≡ 0
fraction_above k s f h = rw (table_rule.clock s) (counts_above k (code s) f h)

less : (a b : Bool) (x n f : ℕ) → cond a x 0 * n + cond b 0 0 ≤ x * n + cond b f 0
less true true x n f = omega arith
less true false x n f = omega arith
less false true x n f = omega arith
less false false x n f = omega arith

no_part : (b : Bool) (x n : ℕ) → Multiple n (x * n + cond b 0 0)
no_part true x n = (x, omega arith)
no_part false x n = (x, omega arith)

module _ (ms ks : List ℕ) (f : ℕ) (s : TimeUnit) where
  abbrev ls : List Level
  ls = levels ms ks f s

  lengths : map (λ l. l.nanos) ls ≡ map ns clock_units
  unfolding levels
  lengths = refl

  time_of : (k : ℕ) (xs : List ℕ) → time (drop k ls) (drop k xs) ≡ time_from k xs
  time_of k xs = ap (λ ns. time_at ns (drop k xs)) (sym (drop-map (λ l. l.nanos) k ls) ∙ ap (drop k) lengths)

  limit_at : (k : ℕ) → k < 6 → get_or (map (λ l. l.limit) ls) k 0 ≡ get_or ms k 0
  limit_at k h =
      let d : Level = level ms ks f s Hour in
      get_or-map (λ l. l.limit) ls k d 0 (rw (six ms ks f s) h) ∙ ap (λ l. l.limit) (at_level ms ks f s k d h) ∙ ap (λ c. get_or ms c 0) (code_at k h)

  limit_above : (k : ℕ) → 6 ≤ k → get_or (map (λ l. l.limit) ls) k 0 ≡ 0
  unfolding levels
  limit_above k h = get_or_past (map (λ l. l.limit) ls) k 0 h

  limited : (k : ℕ) → get_or (kept ls) k 0 ≤ get_or ms k 0
  limited k = elim (cases_lt k 6) [
    | inl h ↦ rw (limit_at k h) at (within ls k)
    | inr h ↦ omega (arith, within ls k, limit_above k h)
  ]

  -- less is written without the smaller units and the fraction, and only whole units
  under_at : (k : ℕ) (us : List TimeUnit) → AllByRecursion (λ u. get_or (counts_from k ks) (code u) 0 ≡ cond (leb k (code u)) (get_or ks (code u) 0) 0) us → Under (map (level ms (counts_from k ks) 0 s) us) (map (level ms ks f s) us)
  under_at k [] a = tt
  under_at k (u ∷ us) a =
      (rw a.0 (less (leb k (code u)) (eqb (code u) (code s)) (get_or ks (code u) 0) (ns u) f), refl, under_at k us a.1)

  under : (k : ℕ) → Under (levels ms (counts_from k ks) 0 s) ls
  unfolding levels
  under k = under_at k clock_units (refl, (refl, (refl, (refl, (refl, (refl, tt))))))

  whole_at : (xs : List ℕ) (us : List TimeUnit) → Whole (map (level ms xs 0 s) us)
  whole_at xs [] = tt
  whole_at xs (u ∷ us) = (no_part (eqb (code u) (code s)) (get_or xs (code u) 0) (ns u), whole_at xs us)

  whole : (xs : List ℕ) → Whole (levels ms xs 0 s)
  unfolding levels
  whole xs = whole_at xs clock_units

  written_at : (k : ℕ) → k < 6 → (level ms ks f s (unit_at k)).written ≡ get_or ks k 0 * ns (unit_at k) + cond (eqb k (code s)) f 0
  written_at k h = ap (λ c. get_or ks c 0 * ns (unit_at k) + cond (eqb c (code s)) f 0) (code_at k h)

  module _ (long : length ks ≡ 6) where
    held_above : (k : ℕ) → 6 ≤ k → held (drop k ls) ≡ time (drop k ls) (drop k ks) + fraction_from k s f
    unfolding held
    held_above k h = rw (drop_all k ls (rw (six ms ks f s) h)) (omega (arith, fraction_above k s f h))

    -- by a number d of units that reaches Hour from k
    held_by : (d k : ℕ) → 6 ≤ k + d → held (drop k ls) ≡ time (drop k ls) (drop k ks) + fraction_from k s f
    unfolding held
    held_by zero k e = held_above k (omega arith)
    held_by (suc d) k e = elim (cases_lt k 6) [
      | inl h ↦
          rw (drop_level ms ks f s k h, drop_more ks k 0 (rw long h))
          (omega (arith, held_by d (k + 1) (omega arith), written_at k h, fraction_on k s f h))
      | inr h ↦ held_above k h
    ]

    held_from : (k : ℕ) → held (drop k ls) ≡ time_from k ks + fraction_from k s f
    held_from k = held_by 6 k (omega arith) ∙ ap (λ n. n + fraction_from k s f) (time_of k ks)

    served : (xs : List ℕ) → Serves ms ks f s xs → left ls ≡ 0
    served xs v =
        best ls xs (chain ms ks f s)
        (λ k h. let h : k < 6 = rw (six ms ks f s) at h in rw (limit_at k h) (v.within k (omega arith)))
        (time_of 0 xs ∙ v.total ∙ sym (held_from 0))
        (λ k. rw (time_of k xs, held_from k) (v.lower k))

    lawful : Spreads ms ks f s
    lawful = record {
      within = limited;
      balanced = rw (← time_of 0 (kept ls), ← held_from 0) (balanced ls);
      lower = λ k. rw (← time_of k (kept ls), ← held_from k) (lower ls k);
      best = served;
      part = λ k z. part (levels ms (counts_from k ks) 0 s) ls (chain ms (counts_from k ks) 0 s) (whole (counts_from k ks)) (under k) z;
    }

    -- where nothing is left over, what stays serves
    stayed : left ls ≡ 0 → Serves ms ks f s (kept ls)
    stayed z = record { within = λ k h. lawful.within k; total = omega (arith, lawful.balanced, z); lower = lawful.lower }

    chosen : (r : Option (List ℕ)) → r ≡ spread ms ks f s → Best ms ks f s r
    chosen r is = elim (cases_eq (left ls) 0) [
      | inl z ↦ rw (is, eq-eqb (left ls) 0 z) (stayed z)
      | inr n ↦ rw (is, ne_eqb (left ls) 0 n) (λ xs v. n (served xs v))
    ]

    -- an answer that equals its definition keeps the laws
    pub told : (r : Option (List ℕ)) → r ≡ spread ms ks f s → record { value : r ≡ spread ms ks f s; best : Best ms ks f s r; laws : Spreads ms ks f s }
    told r is = record { value = is; best = chosen r is; laws = lawful }
