use Rattle.std.proofs.Common.{sym, subst}
use Rattle.grin_syntax.specs.Tree.{program_of}
use Rattle.grin_syntax.specs.Formed.{Formed}
use Rattle.grin_meaning.specs.Keeps.{Keeps}
use Rattle.grin_meaning.specs.Ready.{IsInlined}
use Rattle.flow_system.proofs.Starting.{formed_is_started}
use Rattle.grin_rewrite.proofs.CountedLoops.{whole}
use Rattle.points_to.specs.Found.{found}
use Rattle.inline_theory.specs.Applications.{apply_rule, apply_inlined}
use Rattle.inline_theory.proofs.Bounds.{uses_bound}
use Rattle.inline_theory.proofs.InlinedTogether.{apply_inlining_law}
use Rattle.inline_theory.proofs.ApplicationsText.{inlining_done, inlining_formed}
use Rattle.apply_inline.proofs.inline.Goals as goal

pub returns-clause-inlined : goal.returns-clause-inlined
returns-clause-inlined c = whole (apply_rule (program_of c.args.g) (found c.args.flow.now)) c.args.g
    _ _ _ _ c.in_ok-g.ensures c.past-fresh.ensures c.replace-procs.ensures.value c.as_slice.ensures

pub returns-clause-meaning : goal.returns-clause-meaning
returns-clause-meaning c = λ h.
    let p = program_of c.args.g in
    let A = found c.args.flow.now in
    let e = whole (apply_rule p A) c.args.g _ _ _ _ c.in_ok-g.ensures c.past-fresh.ensures
    c.replace-procs.ensures.value c.as_slice.ensures in
    let before = h.analysed in
    subst (Keeps p) (sym e)
    (subst (λ r. Keeps r (apply_inlined A r)) (sym h.inlined)
    (apply_inlining_law h.before A (formed_is_started h.before before.formed)
    (uses_bound h.before before.formed) before.solves h.never_missing))

pub returns-clause-formed : goal.returns-clause-formed
returns-clause-formed c = λ h.
    let e = whole (apply_rule (program_of c.args.g) (found c.args.flow.now)) c.args.g _ _ _ _
    c.in_ok-g.ensures c.past-fresh.ensures c.replace-procs.ensures.value c.as_slice.ensures in
    subst Formed (sym e) (inlining_formed (program_of c.args.g) (found c.args.flow.now) h)

pub returns-clause-no_eval_or_apply : goal.returns-clause-no_eval_or_apply
returns-clause-no_eval_or_apply c = λ h.
    let e = whole (apply_rule (program_of c.args.g) (found c.args.flow.now)) c.args.g _ _ _ _
    c.in_ok-g.ensures c.past-fresh.ensures c.replace-procs.ensures.value c.as_slice.ensures in
    subst IsInlined (sym e) (inlining_done (program_of c.args.g) (found c.args.flow.now) h)
