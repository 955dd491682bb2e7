use Rattle.std.proofs.Common.{◌+◌, map, ap, ◌∙◌, subst}
use Rattle.std.proofs.lemmas.List.{length-map}
use Rattle.grin_syntax.specs.Fresh.{past_procs}
use Rattle.grin_syntax.specs.Tree.{procedure_of, program_of}
use Rattle.points_to.specs.Found.{found}
use Rattle.raise_theory.specs.Decided.{ProcedureDecided, IsDecided}
use Rattle.arity_raise.proofs.Chosen.{one_proc_more, plan_done, as_many}
use Rattle.arity_raise.proofs.decide.plan.Goals as goal

pub loop-proc-preserved : goal.loop-proc-preserved
loop-proc-preserved c = record {
  counted = c.in_ok-f.ensures ∙ ap (λ k. k + 1) c.loop-proc.invariant.counted;
  some = one_proc_more (found c.args.flow.now) (program_of c.args.g.now)
      c.as_slice-proc-items.result.now c.loop-proc.proc-index c.proc-item.result
      c.in_ok-decisions.decisions _ _ _ _ _ c.loop-proc-test.true c.proc-item.is
      c.loop-proc.invariant.some
      (subst (λ f. ProcedureDecided (found c.args.flow.now) (program_of c.args.g.now) f
      (procedure_of c.proc-item.result) c.in_ok-decisions.decisions)
      c.loop-proc.invariant.counted c.in_ok-decisions.ensures.decided)
      c.in_ok-decisions.ensures.row c.in_ok-push.ensures.ok;
}

pub returns-clause-decided : goal.returns-clause-decided
returns-clause-decided c =
    plan_done (found c.args.flow.now) (program_of c.args.g.now) c.as_slice-proc-items.result.now
    c.loop-proc.proc-index _ c.loop-proc.procs _ c.loop-proc.fresh.next c.loop-proc-test.false
    (ap (map procedure_of) c.as_slice-proc-items.ensures)
    (c.past-fresh.ensures ∙ ap (λ ps. past_procs (map procedure_of ps)) c.as_slice.ensures)
    c.loop-proc.invariant.some

pub returns-clause-as_many : goal.returns-clause-as_many
returns-clause-as_many c =
    let d : IsDecided (found c.args.flow.now) (program_of c.args.g.now) c.loop-proc.procs
    c.loop-proc.fresh.next =
    plan_done (found c.args.flow.now) (program_of c.args.g.now) c.as_slice-proc-items.result.now
    c.loop-proc.proc-index _ c.loop-proc.procs _ c.loop-proc.fresh.next c.loop-proc-test.false
    (ap (map procedure_of) c.as_slice-proc-items.ensures)
    (c.past-fresh.ensures ∙ ap (λ ps. past_procs (map procedure_of ps)) c.as_slice.ensures)
    c.loop-proc.invariant.some in
    as_many (found c.args.flow.now) (program_of c.args.g.now) 0
    (map procedure_of c.args.g.now.procs) c.loop-proc.procs d.decided ∙ length-map
    c.args.g.now.procs procedure_of
