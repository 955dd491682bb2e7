use Rattle.std.proofs.Common.{sym, subst}
use Rattle.grin_syntax.specs.Tree.{program_of}
use Rattle.grin_syntax.specs.Formed.{Formed}
use Rattle.grin_meaning.specs.Keeps.{Keeps}
use Rattle.flow_system.proofs.Starting.{formed_is_started}
use Rattle.grin_rewrite.proofs.CountedLoops.{whole}
use Rattle.points_to.specs.Found.{found}
use Rattle.inline_theory.specs.Evaluations.{eval_rule}
use Rattle.inline_theory.specs.Without.{HasNoEval}
use Rattle.inline_theory.proofs.Bounds.{uses_bound}
use Rattle.inline_theory.proofs.EvaluationsKeep.{inlining_law}
use Rattle.inline_theory.proofs.EvaluationsText.{inlining_formed, none_left}
use Rattle.eval_inline.proofs.inline.Goals as goal

pub returns-clause-inlined : goal.returns-clause-inlined
returns-clause-inlined c = whole (eval_rule (program_of c.args.g) (found c.args.flow.now)) c.args.g
    _ _ _ _ c.in_ok-g.ensures c.past-fresh.ensures c.replace-procs.ensures.value c.as_slice.ensures

pub returns-clause-meaning : goal.returns-clause-meaning
returns-clause-meaning c = λ a.
    let p = program_of c.args.g in
    let A = found c.args.flow.now in
    let e = whole (eval_rule p A) c.args.g _ _ _ _ c.in_ok-g.ensures c.past-fresh.ensures
    c.replace-procs.ensures.value c.as_slice.ensures in
    subst (Keeps p) (sym e)
    (inlining_law p A (formed_is_started p a.formed) (uses_bound p a.formed) a.solves)

pub returns-clause-formed : goal.returns-clause-formed
returns-clause-formed c = λ h.
    let e = whole (eval_rule (program_of c.args.g) (found c.args.flow.now)) c.args.g _ _ _ _
    c.in_ok-g.ensures c.past-fresh.ensures c.replace-procs.ensures.value c.as_slice.ensures in
    subst Formed (sym e) (inlining_formed (program_of c.args.g) (found c.args.flow.now) h)

pub returns-clause-no_eval : goal.returns-clause-no_eval
returns-clause-no_eval c =
    let e = whole (eval_rule (program_of c.args.g) (found c.args.flow.now)) c.args.g _ _ _ _
    c.in_ok-g.ensures c.past-fresh.ensures c.replace-procs.ensures.value c.as_slice.ensures in
    subst HasNoEval (sym e) (none_left (program_of c.args.g) (found c.args.flow.now))
