use Rattle.std.proofs.Common.{rules}
use Rattle.seconds.proofs.Saying.{reads}
use Rattle.seconds.proofs.line.read_seconds.Goals as goal

pub returns : goal.returns
returns c = record { answer = search rules; law = reads c.args.line.now }
