use Rattle.std.proofs.Common.{arith}
use Rattle.std.proofs.lemmas.Nat.{one_shl}
use Rattle.spans.proofs.Bitwise.{or_one, clear_one}
use Rattle.spans.proofs.unit_set.put.Goals as goal

pub returns-then-present : goal.returns-then-present
returns-then-present c =
    rw (one_shl c.place.result 16 (omega arith), c.if-present.true, ← c.place.ensures.value) (or_one c.args.bits c.place.result)

pub returns-else-present : goal.returns-else-present
returns-else-present c =
    rw (one_shl c.place.result 16 (omega arith), c.if-present.false, ← c.place.ensures.value) (clear_one 16 c.args.bits c.place.result c.ranges.bits.fits (omega arith))
