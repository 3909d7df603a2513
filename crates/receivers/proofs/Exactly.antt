-- Counts of one sign are all taken exactly when each of them and their sum are in range. Assumes nothing.
use Rattle.std.proofs.Common.{◌≡◌, ℕ, ◌+◌, Bool, false, List, [], ◌∷◌, ℤ, None, Ok, Err, Result, sym, refl, ap, ◌∙◌, add-zero, add_assoc, zero-add, arith}
use Rattle.std.specs.Result.{result_map_both}
use Rattle.std.specs.List.{AllByRecursion}
use Rattle.units.specs.declared.fault.Fault.{Fault}
use Rattle.units.specs.declared.unit.Unit.{Unit as TimeUnit}
use Rattle.units.specs.Refusals.{first}
use Rattle.units.specs.Signs.{signed, Between}
use Rattle.units.specs.Table.{calendar}
use Rattle.units.proofs.Firsts.{first_after, append_tells, accepted, refused}
use Rattle.units.proofs.Signs.{within_from, between_from, nearer}
use Rattle.receivers.specs.declared.unit_count.UnitCount.{UnitCount}
use Rattle.receivers.specs.Sums.{time, time_of, all_refusals, total_from, Summed}
use Rattle.receivers.specs.Takes.{Ends, ContainsZero, moved, refusals, Acceptable, Accepts}
use Rattle.receivers.proofs.Turns.{moved_signed, offered}

abbrev Counted : Ends → ℤ → Type 0
Counted e z = Between e.lowest_count e.highest_count z

abbrev Totalled : Ends → ℤ → Type 0
Totalled e z = Between e.lowest_total e.highest_total z

-- one take
module _ (e : Ends) (t z : ℤ) (u : TimeUnit) where
  none_met : Acceptable e t z u → first (refusals e t z u) ≡ None
  none_met a = rw (a.clock, within_from _ _ z a.count, within_from _ _ (moved t z u) a.total)

  acceptable : first (refusals e t z u) ≡ None → Acceptable e t z u
  acceptable h = grind (arith, between_from)

pub accepts : Accepts
accepts e t z u = (λ ok. acceptable e t z u (accepted (first (refusals e t z u)) tt tt ok).0, λ a. rw (none_met e t z u a))

module _ (e : Ends) (zeros : ContainsZero e) (b : Bool) where
  all_from : (n : ℕ) (cs : List UnitCount) → AllByRecursion (λ c. calendar c.unit ≡ false) cs → AllByRecursion (λ c. Counted e (signed b c.magnitude)) cs → Totalled e (signed b (n + time_of cs)) → first (all_refusals e b n cs) ≡ None
  unfolding time_of all_refusals
  all_from n [] clock counts total = refl
  all_from n (c ∷ cs) clock counts total =
      let later : Totalled e (signed b (n + time c + time_of cs)) = rw (add_assoc n (time c) (time_of cs)) total in
      let here : Totalled e (signed b (n + time c)) = nearer _ _ b (n + time c) (n + time c + time_of cs) zeros.total_from zeros.total_to (omega arith) later in
      first_after (offered e b n c) (all_refusals e b (n + time c) cs) (none_met e (signed b n) (signed b c.magnitude) c.unit (record { clock = clock.0; count = counts.0; total = rw (moved_signed b n c.magnitude c.unit) here }))
      ∙ all_from (n + time c) cs clock.1 counts.1 later

  all_tells : (n : ℕ) (cs : List UnitCount) → Totalled e (signed b n) → first (all_refusals e b n cs) ≡ None → AllByRecursion (λ c. calendar c.unit ≡ false) cs × AllByRecursion (λ c. Counted e (signed b c.magnitude)) cs × Totalled e (signed b (n + time_of cs))
  unfolding time_of all_refusals
  all_tells n [] held h = (tt, tt, rw (add-zero n) held)
  all_tells n (c ∷ cs) held h =
      let parts = append_tells (offered e b n c) (all_refusals e b (n + time c) cs) h in
      let here = acceptable e (signed b n) (signed b c.magnitude) c.unit parts.0 in
      let rest = all_tells (n + time c) cs (rw (moved_signed b n c.magnitude c.unit) at here.total) parts.1 in
      ((here.clock, rest.0), (here.count, rest.1), rw (add_assoc n (time c) (time_of cs)) at rest.2)

  nothing : Totalled e (signed b 0)
  nothing = grind (arith, zeros.total_from, zeros.total_to)

  pub summed : {R : Type 0} (total : R → ℤ) (cs : List UnitCount) (r : Result R Fault) → result_map_both total (λ f. f) r ≡ total_from e b 0 cs → Summed total e b cs r
  summed total cs (Ok v) is =
      let ok = accepted (first (all_refusals e b 0 cs)) (signed b (0 + time_of cs)) (total v) (sym is) in
      let all = all_tells 0 cs nothing ok.0 in
      let none = zero-add (time_of cs) in
      (record { clock = all.0; counts = all.1; total = rw none at all.2 }, sym ok.1 ∙ ap (signed b) none)
  summed total cs (Err f) is = λ all.
      let met = refused (first (all_refusals e b 0 cs)) (signed b (0 + time_of cs)) f (sym is) in
      let none = all_from 0 cs all.clock all.counts (rw (zero-add (time_of cs)) all.total) in
      cc
