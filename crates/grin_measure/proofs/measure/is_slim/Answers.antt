use Rattle.std.proofs.Common.{[], sym, subst}
use Rattle.grin_measure.specs.Within.{Within}
use Rattle.grin_measure.proofs.Procs.{SlimSoFar, none_yet, slim_next, slim_within, all_slim}
use Rattle.grin_measure.proofs.measure.is_slim.Goals as goal

pub loop-proc-init : goal.loop-proc-init
loop-proc-init c = subst (SlimSoFar c.args.sizes []) (sym c.none-all.ensures)
    (none_yet c.args.sizes)

pub loop-proc-preserved : goal.loop-proc-preserved
loop-proc-preserved c =
    subst (SlimSoFar c.args.sizes _) (sym c.and-all.ensures)
    (slim_next c.args.sizes c.requires.program c.requires.largest c.as_slice-proc-items.result.now
    c.loop-proc.proc-index _ c.loop-proc.all c.procedure-own.result
    c.loop-proc-test.true c.proc-item.is c.procedure-own.ensures c.loop-proc.invariant
    (subst (λ n. Within n c.procedure-own.result c.args.sizes) c.and-all.ensures
    (c.is_within.ensures.within c.if-not-is_within.false)))

pub returns-then-not-is_within-clause-large : goal.returns-then-not-is_within-clause-large
returns-then-not-is_within-clause-large c =
    λ no slim. c.is_within.ensures.beyond c.if-not-is_within.true
    (subst (λ n. Within n c.procedure-own.result c.args.sizes) (sym c.and-all.ensures)
    (slim_within c.args.sizes c.requires.program c.requires.largest c.as_slice-proc-items.result.now
    c.loop-proc.proc-index _ c.loop-proc.all c.procedure-own.result
    c.loop-proc-test.true c.proc-item.is c.procedure-own.ensures c.loop-proc.invariant c.args.g.now
    (sym c.as_slice-proc-items.ensures) slim))

pub returns-clause-slim : goal.returns-clause-slim
returns-clause-slim c = λ yes. all_slim c.args.sizes c.args.g.now c.as_slice-proc-items.result.now
    c.as_slice-proc-items.ensures c.loop-proc.proc-index c.loop-proc.all c.loop-proc-test.false
    c.loop-proc.invariant
