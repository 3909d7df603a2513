use Rattle.std.proofs.Common.{◌≡◌, cond, [], pos, codes, nat_abs, w32, w64, SFits, arith, rules}
use lib.Signed.{lt_z}
use Rattle.durations.specs.Totals.{total}
use Rattle.std.proofs.Output.{has_written_of_eq}
use Rattle.std.proofs.lemmas.Int.{to_z-of_z}
use Rattle.durations.proofs.Showing.{nine, in_parts}
use Rattle.durations.proofs.signed_duration.display.SignedDurationDisplay.fmt.Goals as goal
use Rattle.durations.proofs.signed_duration.display.SignedDurationDisplay.fmt.Goals.{then-is_negative, else-is_negative}

pub returns-clause-writes : goal.returns-clause-writes
returns-clause-writes g c = λ plain ok.
    let d = c.args.self.now in
    let fs : SFits w64 d.secs = search rules in
    let fp : SFits w32 d.nanos = search rules in
    let secs : c.unsigned_abs-secs.result ≡ nat_abs d.secs = simp to_z-of_z at c.unsigned_abs-secs.ensures.value in
    let nanos : c.unsigned_abs-nanos.result ≡ nat_abs d.nanos = simp to_z-of_z at c.unsigned_abs-nanos.ensures.value in
    let sign : c.if-is_negative.sign.now ≡ cond (lt_z (total d) (pos 0)) (codes "-") [] = elim c.if-is_negative.branch [
      | then-is_negative w ↦ grind arith
      | else-is_negative w ↦ grind arith
    ] in
    has_written_of_eq _ _ _ _ _ (rw (sign, secs, nanos, c.laid_out.ensures, nine (nat_abs d.nanos) d.small) (in_parts d.secs d.nanos d.small d.one_sign)) (c.write.ensures.writes plain ok)
