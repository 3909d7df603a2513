use Rattle.std.proofs.Common.{arith}
use Rattle.digits.proofs.Fronts.{front_law, all_digits}
use Rattle.digits.proofs.fraction_prefix.Goals as goal

pub returns-in_err-fraction : goal.returns-in_err-fraction
returns-in_err-fraction c = let read = front_law 9 c.args.bytes.now in grind (arith, all_digits)
