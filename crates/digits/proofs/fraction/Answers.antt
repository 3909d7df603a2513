use Rattle.std.proofs.Common.{◌+◌, ◌*◌, ◌/◌, arith, rules}
use Rattle.digits.specs.Laws.{FractionLaw}
use Rattle.digits.proofs.Fractions.{Read, read_more, read_other, read_all}
use Rattle.digits.proofs.Lawful.{fraction_law, with_law}
use Rattle.digits.proofs.fraction.Goals as goal

next : (c : goal.After-from) → Read (c.loop-byte.billionths + c.from.result * (c.loop-byte.place / 10)) (c.loop-byte.place / 10) (c.loop-byte.byte-index + 1) c.args.bytes.now
next c = read_more _ _ _ _ _ (search rules) (search rules) (search rules) c.from.ensures c.loop-byte.invariant

pub loop-byte-preserved : goal.loop-byte-preserved
loop-byte-preserved c = next c

pub returns-then-is_empty : goal.returns-then-is_empty
returns-then-is_empty c = with_law (FractionLaw _) (fraction_law _) (search rules)

pub returns-then-not-is_ascii_digit : goal.returns-then-not-is_ascii_digit
returns-then-not-is_ascii_digit c =
    let other = read_other _ _ _ _ (search rules) (search rules) (search rules) c.loop-byte.invariant in
    with_law (FractionLaw _) (fraction_law _) (grind arith)

pub returns : goal.returns
returns c =
    let done = read_all _ _ _ _ (search rules) (search rules) (search rules) c.loop-byte.invariant in
    with_law (FractionLaw _) (fraction_law _) (grind arith)
