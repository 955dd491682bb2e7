use Rattle.std.proofs.Common.{map, ◌∙◌, sym, ap}
use Rattle.grin_syntax.specs.Tree.{act_of, arm_of, arms_of}
use Rattle.grin_rewrite.specs.WithFacts.{walk_act}
use Rattle.grin_rewrite.proofs.Leaves.{other_is_leaf}
use Rattle.grin_rewrite.proofs.FactLoops.{one_more_becomes, case_becomes}
use Rattle.grin_rewrite.proofs.fact_blocks.+known.Goals as goal

pub block_with_facts-loop-stmt-preserved : goal.block_with_facts-loop-stmt-preserved
block_with_facts-loop-stmt-preserved g t c = record {
  become = rw c.in_ok-push.ensures.ok
      (one_more_becomes _ _ _ _ _ _ _ _ c.loop-stmt.invariant.become
      c.in_ok-statement.ensures.tree);
  more = g.met.R.FactRule.further _ _ _ c.loop-stmt.invariant.more c.in_ok-statement.ensures.more;
  mark = c.loop-stmt.invariant.mark;
}

pub operation-leaf-requires : goal.operation-leaf-requires
operation-leaf-requires g t c = other_is_leaf c.args.op c.in_default.not-Case
    c.in_default.not-Nested

pub operation-returns-in_ok-made-in-Case-2-clause-tree
    : goal.operation-returns-in_ok-made-in-Case-2-clause-tree
operation-returns-in_ok-made-in-Case-2-clause-tree g t c = let R = g.R.FactRule.rule c.args.rule.now
    in let known = g.R.FactRule.known in
    case_becomes R (known c.args.facts.now) c.in-Case.v c.in_ok-value-in-Case.value
    c.in_ok-made-in-Case.made c.in-Case.alts _ c.in_ok-value-in-Case.ensures
    c.in_ok-made-in-Case.ensures.tree
    (c.in_ok-made-in-Case-2.ensures ∙ ap
    (λ f. R.case_becomes (known f) c.in_ok-value-in-Case.value
    (arms_of (map arm_of c.in_ok-made-in-Case.made))) c.in_ok-made-in-Case.ensures.facts)
    ∙ ap (λ o. walk_act R (known c.args.facts.now) (act_of o)) (sym c.in-Case.is)
