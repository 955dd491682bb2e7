use Rattle.low_code.specs.Formed.{uses, arms_uses}
use Rattle.register_alloc.specs.Inner.{sizes_of, arms_sizes}
use Rattle.register_alloc.proofs.Walked.{StmtsLeft, ArmsLeft}
use Rattle.register_alloc.proofs.scan.Scan.+scan.Given as goal

abbrev pub invariant-arms-loop-arm : goal.invariant-arms-loop-arm
invariant-arms-loop-arm l = record {
  used : ArmsLeft uses arms_uses l.fn.self.used.items l.self.used.items l.arms l.arm-index;
  sizes : ArmsLeft sizes_of arms_sizes l.fn.self.sizes.items l.self.sizes.items l.arms l.arm-index;
}

abbrev pub invariant-block-loop-stmt : goal.invariant-block-loop-stmt
invariant-block-loop-stmt l = record {
  used : StmtsLeft uses l.fn.self.used.items l.self.used.items l.stmt-items l.stmt-index;
  sizes : StmtsLeft sizes_of l.fn.self.sizes.items l.self.sizes.items l.stmt-items l.stmt-index;
}
