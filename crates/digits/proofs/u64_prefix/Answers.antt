use Rattle.std.proofs.Common.{rules}
use Rattle.digits.specs.Laws.{PrefixLaw}
use Rattle.digits.proofs.Lawful.{prefix_law, with_law}
use Rattle.digits.proofs.u64_prefix.Goals as goal

pub returns-then-is_empty : goal.returns-then-is_empty
returns-then-is_empty c = with_law (PrefixLaw _) (prefix_law _) (search rules)

pub returns-in_err-value : goal.returns-in_err-value
returns-in_err-value c = with_law (PrefixLaw _) (prefix_law _) (search rules)

pub returns : goal.returns
returns c = with_law (PrefixLaw _) (prefix_law _) (search rules)
