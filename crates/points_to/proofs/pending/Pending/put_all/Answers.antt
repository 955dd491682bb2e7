use Rattle.points_to.specs.Held.{In}
use Rattle.points_to.specs.Waiting.{waiting}
use Rattle.seq.proofs.Member.{none_in}
use Rattle.points_to.proofs.Waiting.{taken_next, taken_all}
use Rattle.points_to.proofs.pending.Pending.put_all.Goals as goal

pub loop-n-init : goal.loop-n-init
loop-n-init c = record { kept = λ m h. h; put = λ m h. none_in h }

pub loop-n-preserved : goal.loop-n-preserved
loop-n-preserved c = let w = c.in_ok-put.ensures in record {
  kept = λ m h. w.kept m (c.loop-n.invariant.kept m h);
  put = taken_next (λ m. In m (waiting c.put.new.self)) c.args.numbers.now c.loop-n.n-index _
      c.loop-n-test.true (λ m h. w.kept m (c.loop-n.invariant.put m h)) w.put;
}

pub returns : goal.returns
returns c = record {
  kept = c.loop-n.invariant.kept;
  put = taken_all (λ m. In m (waiting c.loop-n.self)) c.args.numbers.now _ c.loop-n-test.false
      c.loop-n.invariant.put;
}
