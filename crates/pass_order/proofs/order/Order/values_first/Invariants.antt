use Rattle.pass_order.proofs.Loops.{Parted}
use Rattle.pass_order.proofs.order.Order.values_first.Given as goal

abbrev pub invariant-loop-alt : goal.invariant-loop-alt
invariant-loop-alt l = Parted l.self.delayed l.made l.calls l.yielded
