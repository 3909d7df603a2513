-- Counts of one sign, taken one after another. Assumes nothing.
--     offered e b n c        why a receiver with the ends e that holds n nanoseconds refuses the count c, all under the sign b
--     at cs i                the count of the turn i
--     Standing e b cs i e' t before the turn i, of counts cs under the sign b, a receiver has the ends e' and the total t: as at the start the ends are e,
--                            and what it holds comes with what is left to what all the counts come to
use Rattle.std.proofs.Common.{◌≡◌, ℕ, ◌+◌, ◌*◌, ◌<◌, ◌≤◌, Bool, List, length, get_or, drop, ℤ, ◌+ℤ◌, Ok, Err, Option, Result, sym, ap, ◌∙◌, add-zero, add_assoc}
use Rattle.std.proofs.lemmas.List.{drop_more, drop_all}
use Rattle.units.specs.declared.fault.Fault.{Fault}
use Rattle.units.specs.declared.unit.Unit.{Unit as TimeUnit}
use Rattle.units.specs.declared.unit.Unit.TheVariants.{Nanosecond}
use Rattle.units.specs.Refusals.{first, unless_refused}
use Rattle.units.specs.Signs.{signed}
use Rattle.units.specs.Table.{ns}
use Rattle.units.proofs.Firsts.{first_after, first_before, accepted, refused}
use Rattle.units.proofs.Signs.{times_signed, add_signed}
use Rattle.receivers.specs.declared.unit_count.UnitCount.{UnitCount}
use Rattle.receivers.specs.Sums.{time, time_of, all_refusals, total_from}
use Rattle.receivers.specs.Takes.{Ends, Takes, moved, refusals, answer}

pub moved_signed : (b : Bool) (n m : ℕ) (u : TimeUnit) → moved (signed b n) (signed b m) u ≡ signed b (n + m * ns u)
moved_signed b n m u = ap (λ z. signed b n +ℤ z) (times_signed b m (ns u)) ∙ add_signed b n (m * ns u)

abbrev pub offered : Ends → Bool → ℕ → UnitCount → List (Option Fault)
offered e b n c = refusals e (signed b n) (signed b c.magnitude) c.unit

abbrev nothing : UnitCount
nothing = record { magnitude = 0; unit = Nanosecond }

abbrev pub at : List UnitCount → ℕ → UnitCount
at cs i = get_or cs i nothing

pub record Standing (e : Ends) (b : Bool) (cs : List UnitCount) (i : ℕ) (e' : Ends) (t : ℤ) : Type 0 where
  pub ends : e' ≡ e
  pub held : ℕ
  pub total : t ≡ signed b held
  pub left : total_from e b held (drop i cs) ≡ total_from e b 0 cs

module _ (e : Ends) (b : Bool) (cs : List UnitCount) where
  pub done : (i : ℕ) (e' : Ends) (t : ℤ) → Standing e b cs i e' t → length cs ≤ i → Ok t ≡ total_from e b 0 cs
  unfolding time_of all_refusals
  done i e' t s all = rw (s.total, ← s.left, drop_all i cs all, add-zero s.held)

  -- One turn: such a receiver is offered the count at i.
  module _ (i : ℕ) (e' : Ends) (t : ℤ) (s : Standing e b cs i e' t) (more : i < length cs) where
    abbrev here : List (Option Fault)
    here = offered e b s.held (at cs i)

    abbrev later : List (Option Fault)
    later = all_refusals e b (s.held + time (at cs i)) (drop (i + 1) cs)

    answered : (r : Result (Unit {0}) Fault) → r ≡ answer e' t (signed b (at cs i).magnitude) (at cs i).unit → unless_refused (first here) tt ≡ r
    answered r told = sym (told ∙ rw (s.ends, s.total))

    pub turned : (e'' : Ends) (t' : ℤ) → Takes e' t (signed b (at cs i).magnitude) (at cs i).unit (Ok tt) e'' t' → Standing e b cs (i + 1) e'' t'
    unfolding time_of all_refusals
    turned e'' t' told =
        let none = (accepted (first here) tt tt (answered _ told.answered)).0 in
        record {
          ends = told.ends ∙ s.ends;
          held = s.held + time (at cs i);
          total = told.total ∙ rw s.total (moved_signed b s.held (at cs i).magnitude (at cs i).unit);
          left = rw (drop_more cs i nothing more, first_after here later none, ← add_assoc s.held (time (at cs i)) (time_of (drop (i + 1) cs))) at s.left;
        }

    pub stopped : (f : Fault) → Err f ≡ answer e' t (signed b (at cs i).magnitude) (at cs i).unit → Err f ≡ total_from e b 0 cs
    unfolding time_of all_refusals
    stopped f told =
        let met = refused (first here) tt f (answered _ told) in
        rw (drop_more cs i nothing more, first_before here later f met) at s.left
