use Rattle.grin_rewrite.proofs.CountedLoops.{stays_in_place, takes_no_room}
use Rattle.std.proofs.Common.{◌+◌, sym, ap, ◌∙◌}
use Rattle.grin_syntax.specs.declared.program.Val.TheVariants.{NodeVar}
use Rattle.grin_syntax.specs.Tree.{case, program_of}
use Rattle.grin_syntax.proofs.TreeOf.{act_of-Case}
use Rattle.inline_theory.specs.Evaluations.{eval_arms, arms_room, eval_rule}
use Rattle.points_to.specs.Found.{found}
use Rattle.eval_inline.proofs.Statements.{untouched, evaluated, evaluation_room}
use Rattle.eval_inline.proofs.blocks.EvalInlinerFreshRule.leaf.Goals as goal

pub returns-in_default-clause-is : goal.returns-in_default-clause-is
returns-in_default-clause-is c =
    let p = program_of c.args.self.now.program.now in
    let A = found c.args.self.now.flow.now in
    stays_in_place (eval_rule p A) c.args.fresh.now.next c.args.op c.requires
    (untouched p A c.args.fresh.now.next c.args.op c.in_default.not-Eval) c.args.before.now

pub returns-in_default-clause-next : goal.returns-in_default-clause-next
returns-in_default-clause-next c =
    let p = program_of c.args.self.now.program.now in
    let A = found c.args.self.now.flow.now in
    takes_no_room (eval_rule p A) c.args.fresh.now.next c.args.op c.requires
    (untouched p A c.args.fresh.now.next c.args.op c.in_default.not-Eval)

pub returns-in_ok-alts-in-Eval-clause-is : goal.returns-in_ok-alts-in-Eval-clause-is
returns-in_ok-alts-in-Eval-clause-is c =
    let p = program_of c.args.self.now.program.now in
    let A = found c.args.self.now.flow.now in
    let x = c.args.fresh.now.next in
    evaluated p A x c.args.op c.in-Eval.word c.in-Eval.is c.args.before.now _ _
    c.in_ok-node-in-Eval.node _ c.in_ok-node-in-Eval.ensures.is
    c.in_ok-node-in-Eval.ensures.next c.in_ok-push-in-Eval.ensures.ok
    (act_of-Case (NodeVar c.in_ok-node-in-Eval.node) c.in_ok-alts-in-Eval.alts ∙ ap
    (case (NodeVar c.in_ok-node-in-Eval.node))
    (c.in_ok-alts-in-Eval.ensures.is ∙ ap
    (eval_arms p A c.in-Eval.word c.in_ok-node-in-Eval.node.0 c.variable.new.self.next)
    (sym c.tags_met-tags.ensures)))

pub returns-in_ok-alts-in-Eval-clause-next : goal.returns-in_ok-alts-in-Eval-clause-next
returns-in_ok-alts-in-Eval-clause-next c =
    let p = program_of c.args.self.now.program.now in
    let A = found c.args.self.now.flow.now in
    evaluation_room p A c.args.fresh.now.next c.args.op c.in-Eval.word c.in-Eval.is _ _
    c.in_ok-node-in-Eval.ensures.next
    (c.in_ok-alts-in-Eval.ensures.next ∙ ap (λ l. c.variable.new.self.next + arms_room p A l)
    (sym c.tags_met-tags.ensures))
