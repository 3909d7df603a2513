use Rattle.std.proofs.Common.{◌≡◌, ◌+◌, ◌<◌, pos, ◌+ℤ◌, ◌*ℤ◌, nat_abs, ap, ◌∙◌, arith, w32, w64, SFits, rules}
use lib.Signed.{quot_z, rem_z}
use Rattle.std.proofs.lemmas.Int.{ints, to_z-of_z}
use Rattle.durations.specs.Totals.{total, Count}
use Rattle.durations.proofs.Parting.{fine}
use Rattle.durations.proofs.Ranges.{small_fits, wide}
use Rattle.durations.proofs.signed_duration.SignedDuration.fine_units.Goals as goal

pub returns-in_err-count : goal.returns-in_err-count
returns-in_err-count c = rw c.from_residual.ensures (λ count.
    let d = c.args.self.now in
    let k = c.args.unit.per_sec in
    let m = c.args.unit.nanos in
    let fs : SFits w64 d.secs = search rules in
    let fk : SFits w64 c.args.unit.per_sec = search rules in
    let fp = small_fits d.nanos d.small in
    let fm : SFits w32 c.args.unit.nanos = search rules in
    let wp = wide d.nanos fp in
    let wm = wide m fm in
    let fu : SFits w64 c.cut-units.result.0 = search rules in
    let units : c.cut-units.result.0 ≡ quot_z d.nanos m = simp to_z-of_z at c.cut-units.ensures.whole in
    let parts = fine d.secs d.nanos k m c.args.unit.second (search rules) in
    let none : nat_abs (d.secs *ℤ k +ℤ c.cut-units.result.0) ≡ nat_abs (d.secs *ℤ k) + nat_abs c.cut-units.result.0 → Count (d.secs *ℤ k +ℤ c.cut-units.result.0) → ⊥ = simp to_z-of_z at c.in_err-count.ensures in
    none (rw units parts.2) (rw (units, parts.0) count))

pub of_parts-rest-requires : goal.of_parts-rest-requires
of_parts-rest-requires c =
    let m = c.args.unit.nanos in
    let fm : SFits w32 c.args.unit.nanos = search rules in
    let wm = wide m fm in
    let fr : SFits w32 c.cut-units.result.1 = search rules in
    let short : nat_abs c.cut-units.result.1 < nat_abs m = simp to_z-of_z at c.cut-units.ensures.short in
    simp to_z-of_z (omega (arith, ints))

pub returns : goal.returns
returns c =
    let d = c.args.self.now in
    let k = c.args.unit.per_sec in
    let m = c.args.unit.nanos in
    let fs : SFits w64 d.secs = search rules in
    let fk : SFits w64 c.args.unit.per_sec = search rules in
    let fp = small_fits d.nanos d.small in
    let fm : SFits w32 c.args.unit.nanos = search rules in
    let wp = wide d.nanos fp in
    let wm = wide m fm in
    let fu : SFits w64 c.cut-units.result.0 = search rules in
    let fr : SFits w32 c.cut-units.result.1 = search rules in
    let fc : SFits w64 c.in_ok-count.count = search rules in
    let units : c.cut-units.result.0 ≡ quot_z d.nanos m = simp to_z-of_z at c.cut-units.ensures.whole in
    let nanos : c.cut-units.result.1 ≡ rem_z d.nanos m = simp to_z-of_z at c.cut-units.ensures.rest in
    let sum : c.in_ok-count.count ≡ d.secs *ℤ k +ℤ c.cut-units.result.0 = simp to_z-of_z at c.in_ok-count.ensures.1 in
    let parts = fine d.secs d.nanos k m c.args.unit.second (search rules) in
    let count : c.in_ok-count.count ≡ quot_z (total d) (pos (nat_abs m)) = sum ∙ ap (λ u. d.secs *ℤ k +ℤ u) units ∙ parts.0 in
    let rest : total c.of_parts-rest.result ≡ pos 0 *ℤ pos 1000000000 +ℤ c.cut-units.result.1 = simp to_z-of_z at c.of_parts-rest.ensures in
    (rw count at c.in_ok-count.ensures.0, record { count = simp to_z-of_z count; rest = rest ∙ omega (arith, ints) ∙ nanos ∙ parts.1 })
