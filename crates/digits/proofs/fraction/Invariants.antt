use Rattle.digits.proofs.Fractions.{Read}
use Rattle.digits.proofs.fraction.Given as goal

abbrev pub invariant-loop-byte : goal.invariant-loop-byte
invariant-loop-byte l = Read l.billionths l.place l.byte-index l.bytes
