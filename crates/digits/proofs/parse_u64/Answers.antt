use Rattle.std.proofs.Common.{arith}
use Rattle.digits.proofs.Places.{followed_more, followed_none}
use Rattle.digits.proofs.parse_u64.Goals as goal

pub returns-in_err-value : goal.returns-in_err-value
returns-in_err-value c = grind (arith, followed_more)

pub loop-digit-preserved : goal.loop-digit-preserved
loop-digit-preserved c = grind (arith, followed_more)

pub returns : goal.returns
returns c = grind (arith, followed_none)
