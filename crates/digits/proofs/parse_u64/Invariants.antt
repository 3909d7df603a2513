use Rattle.std.proofs.Common.{◌≡◌, ◌^◌, ◌<◌, drop}
use Rattle.digits.specs.Numbers.{number}
use Rattle.digits.proofs.Places.{followed}
use Rattle.digits.proofs.parse_u64.Given as goal

abbrev pub invariant-loop-digit : goal.invariant-loop-digit
invariant-loop-digit l = (followed l.value (drop l.digit-index l.digits) ≡ number l.digits) × (l.value < 2 ^ 64)
