use Rattle.std.proofs.Common.{Ok, Err}
use Rattle.std.proofs.lemmas.Result.{err_from_is_err_and}
use Rattle.receivers.proofs.Exactly.{accepts, summed}
use Rattle.receivers.proofs.Turns.{turned, stopped, done}
use Rattle.receivers.proofs.sums.take_all.Goals as goal

pub loop-count-preserved : goal.loop-count-preserved
loop-count-preserved g c =
    let m = g.R.Receiver in
    let after = c.take.new.self in
    turned _ _ _ _ _ _ c.loop-count.invariant c.loop-count-test.true (m.ends after) (m.total after) (rw c.in_ok-take.was at c.take.ensures)

pub returns-in_err-take : goal.returns-in_err-take
returns-in_err-take g c =
    let m = g.R.Receiver in
    let e = m.ends c.args.like.now in
    let b = c.args.negative in
    let cs = c.args.counts.now in
    let p = err_from_is_err_and c.from_residual.result c.from_residual.ensures.1 in
    let f = c.in_err-take.field-0.0 in
    let told = stopped e b cs _ _ _ c.loop-count.invariant c.loop-count-test.true f (rw c.in_err-take.was at c.take.ensures.answered) in
    rw (p.1, p.2) (record { total = told; ends = tt; exactly = summed e (g.met.R.Receiver.zero c.args.like.now) b m.total cs (Err f) told; each = accepts })

pub returns : goal.returns
returns g c =
    let m = g.R.Receiver in
    let e = m.ends c.args.like.now in
    let b = c.args.negative in
    let cs = c.args.counts.now in
    let inv = c.loop-count.invariant in
    let told = done e b cs _ _ _ inv c.loop-count-test.false in
    record { total = told; ends = inv.ends; exactly = summed e (g.met.R.Receiver.zero c.args.like.now) b m.total cs (Ok c.loop-count.receiver) told; each = accepts }
