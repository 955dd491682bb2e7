use Rattle.std.proofs.Common.{take, map}
use Rattle.grin_syntax.specs.Tree.{all_before, before_of}
use Rattle.low_translate.specs.Emitted.{StmtDone}
use Rattle.low_translate.proofs.Alternatives.{ArmsSoFar}
use Rattle.low_translate.proofs.blocks.LoweringPlan.+blocks.Given as goal

abbrev pub invariant-rest-loop-stmt : goal.invariant-rest-loop-stmt
invariant-rest-loop-stmt l = StmtDone l.self.width l.self.results.now l.initial.numbers.next
    l.numbers.next (all_before (map before_of (take l.stmt-index l.stmt-items))) l.initial.made
    l.made

abbrev pub invariant-choice-loop-alt : goal.invariant-choice-loop-alt
invariant-choice-loop-alt l = ArmsSoFar l.self.width l.self.results.now l.goal l.words
    l.initial.numbers.next l.numbers.next l.arms (take l.alt-index l.firsts)
