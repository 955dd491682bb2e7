use Rattle.std.proofs.Common.{◌≡◌, map}
use Rattle.grin_syntax.specs.Tree.{procedure_of}
use Rattle.grin_meaning.specs.Rewritten.{rewritten_procedure}
use Rattle.grin_rewrite.specs.WithFacts.{walk_code}
use Rattle.grin_rewrite.proofs.program.rewrite_with_facts.Given as goal

abbrev pub invariant-loop-proc : goal.invariant-loop-proc
invariant-loop-proc g l = record {
  some : map procedure_of l.procs ≡ map
      (rewritten_procedure
      (walk_code (g.R.FactRule.rule l.rule) (g.R.FactRule.known l.initial.facts)))
      (map procedure_of l.yielded);
  same : l.facts ≡ l.initial.facts;
}
