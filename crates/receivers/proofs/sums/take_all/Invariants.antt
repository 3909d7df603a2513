use Rattle.receivers.proofs.Turns.{Standing}
use Rattle.receivers.proofs.sums.take_all.Given as goal

abbrev pub invariant-loop-count : goal.invariant-loop-count
invariant-loop-count g l =
    let m = g.R.Receiver in
    Standing (m.ends l.like) l.negative l.counts l.count-index (m.ends l.receiver) (m.total l.receiver)
