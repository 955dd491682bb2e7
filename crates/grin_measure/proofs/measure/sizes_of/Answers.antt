use Rattle.std.proofs.Common.{[], ◌+◌, max, ◌≡◌, ◌≤◌, sym, subst, ◌∙◌, take, map, length}
use Rattle.grin_syntax.specs.Tree.{procedure_of}
use Rattle.grin_measure.proofs.Procs.{MeasuredSoFar, nothing_measured, measured_next, all_measured}
use Rattle.grin_measure.proofs.measure.sizes_of.Goals as goal

pub loop-proc-init : goal.loop-proc-init
loop-proc-init c = subst (λ n. MeasuredSoFar [] n 0) (sym c.none-all.ensures) nothing_measured

pub loop-proc-preserved : goal.loop-proc-preserved
loop-proc-preserved c =
    let qs = map procedure_of (take (c.loop-proc.proc-index + 1) c.as_slice-proc-items.result.now)
    in
    subst (λ m. MeasuredSoFar qs c.and-all.result m) (sym c.max-largest.ensures)
    (subst (λ n. MeasuredSoFar qs n (max c.procedure-own.result.size c.loop-proc.largest))
    (sym c.and-all.ensures)
    (measured_next c.as_slice-proc-items.result.now c.loop-proc.proc-index _ c.loop-proc.all
    c.procedure-own.result c.loop-proc.largest c.loop-proc-test.true c.proc-item.is
    c.procedure-own.ensures c.loop-proc.invariant))

pub returns : goal.returns
returns c = all_measured c.args.g.now c.as_slice-proc-items.result.now c.as_slice-proc-items.ensures
    c.loop-proc.proc-index c.loop-proc.all c.loop-proc.largest c.loop-proc-test.false
    c.loop-proc.invariant
