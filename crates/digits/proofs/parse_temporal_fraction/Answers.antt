use Rattle.std.proofs.Common.{arith}
use Rattle.std.proofs.lemmas.List.{take_rest}
use Rattle.digits.specs.Laws.{TemporalLaw}
use Rattle.digits.proofs.Lawful.{temporal_law, with_law}
use Rattle.digits.proofs.parse_temporal_fraction.Goals as goal

pub returns : goal.returns
returns c = let rest = take_rest c.args.input.now 1 in with_law (TemporalLaw _) (temporal_law _) (grind arith)
