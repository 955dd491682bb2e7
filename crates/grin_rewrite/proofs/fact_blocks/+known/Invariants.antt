use Rattle.std.proofs.Common.{◌≡◌, map}
use Rattle.grin_syntax.specs.Tree.{arm_of}
use Rattle.grin_rewrite.specs.WithFacts.{walk_arm}
use Rattle.grin_rewrite.proofs.FactLoops.{Becomes}
use Rattle.grin_rewrite.proofs.fact_blocks.+known.Given as goal

abbrev pub invariant-block_with_facts-loop-stmt : goal.invariant-block_with_facts-loop-stmt
invariant-block_with_facts-loop-stmt g l = record {
  become : Becomes (g.R.FactRule.rule l.rule) (g.R.FactRule.known l.initial.facts) l.stmts
      l.yielded (g.R.FactRule.known l.facts);
  more : g.R.FactRule.extends l.initial.facts l.facts;
  mark : l.mark ≡ g.R.FactRule.mark_of l.initial.facts;
}

abbrev pub invariant-alternatives-loop-alt : goal.invariant-alternatives-loop-alt
invariant-alternatives-loop-alt g l = record {
  some : map arm_of l.made ≡ map
      (walk_arm (g.R.FactRule.rule l.rule) (g.R.FactRule.known l.initial.facts) l.value)
      (map arm_of l.yielded);
  same : l.facts ≡ l.initial.facts;
}
