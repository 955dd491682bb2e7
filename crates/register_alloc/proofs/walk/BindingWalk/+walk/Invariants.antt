use Rattle.low_code.specs.Formed.{binds, arms_binds}
use Rattle.register_alloc.proofs.Walked.{StmtsLeft, ArmsLeft}
use Rattle.register_alloc.proofs.walk.BindingWalk.+walk.Given as goal

abbrev pub invariant-arms-loop-arm : goal.invariant-arms-loop-arm
invariant-arms-loop-arm l = ArmsLeft binds arms_binds l.fn.self.variables.items
    l.self.variables.items l.arms l.arm-index

abbrev pub invariant-block-loop-stmt : goal.invariant-block-loop-stmt
invariant-block-loop-stmt l = StmtsLeft binds l.fn.self.variables.items l.self.variables.items
    l.stmt-items l.stmt-index
