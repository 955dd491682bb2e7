use Rattle.std.proofs.Common.{take}
use Rattle.fetch_passes.specs.Notes.{with_own_size, code_trace, arms_trace}
use Rattle.fetch_passes.proofs.Scanned.{StmtsLeft, ArmsDone}
use Rattle.fetch_passes.proofs.scan.Scan.+scan.Given as goal

abbrev pub invariant-alts-loop-alt : goal.invariant-alts-loop-alt
invariant-alts-loop-alt l = record {
  used : ArmsDone (λ c. (code_trace c).used) (λ r. (arms_trace r).used) l.fn.self.used.items
      l.self.used.items (take l.alt-index l.alts);
  sizes : ArmsDone (λ c. (with_own_size (code_trace c)).sizes) (λ r. (arms_trace r).sizes)
      l.fn.self.sizes.items l.self.sizes.items (take l.alt-index l.alts);
}

abbrev pub invariant-block-loop-stmt : goal.invariant-block-loop-stmt
invariant-block-loop-stmt l = record {
  used : StmtsLeft (λ c. (code_trace c).used) l.fn.self.used.items l.self.used.items l.stmt-items
      l.stmt-index;
  sizes : StmtsLeft (λ c. (code_trace c).sizes) l.fn.self.sizes.items l.self.sizes.items
      l.stmt-items l.stmt-index;
}
