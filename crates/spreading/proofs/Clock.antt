-- The six clock units as levels. Assumes nothing.
use Rattle.std.proofs.Common.{◌≡◌, ℕ, ◌+◌, ◌*◌, ◌^◌, ◌<◌, ◌≤◌, List, ◌∷◌, length, get_or, drop, sym, refl, ap, ◌∙◌, zero-add, arith, lit<}
use Rattle.std.proofs.lemmas.List.{drop_more, get_or-map}
use Rattle.std.proofs.lemmas.List.FromFn.{get_or-range_with_len}
use Rattle.units.specs.declared.unit.Unit.{Unit as TimeUnit}
use Rattle.units.specs.declared.unit.Unit.TheVariants.{Nanosecond, Second}
use Rattle.units.specs.Table.{code, ns}
use Rattle.units.specs.Times.{clock_units}
use Rattle.units.specs.Limits.{clock_limits, UpTo}
use Rattle.spreading.specs.Spreading.{Level, level, levels}
use Rattle.spreading.proofs.Descending.{Chain, room}

abbrev pub unit_at : ℕ → TimeUnit
unit_at i = get_or clock_units i Nanosecond

pub code_at : (i : ℕ) → i < 6 → code (unit_at i) ≡ i
code_at i h = sym (get_or-map code clock_units i Nanosecond 0 h) ∙ get_or-range_with_len 0 6 i 0 h ∙ zero-add i

module _ (ms ks : List ℕ) (f : ℕ) (s : TimeUnit) where
  pub chain : Chain (levels ms ks f s)
  unfolding levels
  chain = (
    lit< tt,
    ((1_000, refl), ((1_000_000, refl), ((1_000_000_000, refl), ((60_000_000_000, refl), ((3_600_000_000_000, refl), tt))))),
    (
      lit< tt,
      ((1_000, refl), ((1_000_000, refl), ((60_000_000, refl), ((3_600_000_000, refl), tt)))),
      (
        lit< tt,
        ((1_000, refl), ((60_000, refl), ((3_600_000, refl), tt))),
        (lit< tt, ((60, refl), ((3_600, refl), tt)), (lit< tt, ((60, refl), tt), (lit< tt, tt, tt))),
      ),
    ),
  )

  pub six : length (levels ms ks f s) ≡ 6
  unfolding levels
  six = refl

  pub at_level : (i : ℕ) (d : Level) → i < 6 → get_or (levels ms ks f s) i d ≡ level ms ks f s (unit_at i)
  unfolding levels
  at_level i d h = get_or-map (level ms ks f s) clock_units i Nanosecond d h

  pub drop_level : (i : ℕ) → i < 6 → drop i (levels ms ks f s) ≡ level ms ks f s (unit_at i) ∷ drop (i + 1) (levels ms ks f s)
  drop_level i h =
      let d : Level = level ms ks f s Nanosecond in
      drop_more (levels ms ks f s) i d (rw six h) ∙ ap (λ l. l ∷ drop (i + 1) (levels ms ks f s)) (at_level i d h)

  pub little_room : UpTo ms clock_limits → room (levels ms ks f s) < 2 ^ 64 * ns Second
  unfolding levels room
  little_room up =
      let a : get_or ms 0 0 ≤ 9_223_372_036_854_775_807 = up 0 in
      let b : get_or ms 1 0 ≤ 631_107_417_600_000_000 = up 1 in
      let c : get_or ms 2 0 ≤ 631_107_417_600_000 = up 2 in
      let d : get_or ms 3 0 ≤ 631_107_417_600 = up 3 in
      let e : get_or ms 4 0 ≤ 10_518_456_960 = up 4 in
      let g : get_or ms 5 0 ≤ 175_307_616 = up 5 in
      omega arith
