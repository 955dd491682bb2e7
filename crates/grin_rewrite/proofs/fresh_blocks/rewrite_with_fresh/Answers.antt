use Rattle.std.proofs.Common.{map, ap, refl, sym, ◌∙◌, rules}
use Rattle.std.proofs.lemmas.Iterator.Adapters.{YieldsList-from_vec}
use Rattle.std.proofs.lemmas.Iterator.Consumers.{YieldsList-end}
use Rattle.seq.proofs.Lists.{map_same}
use Rattle.grin_syntax.specs.Tree.{procedure_of}
use Rattle.grin_rewrite.specs.Counted.{counted_procs}
use Rattle.grin_rewrite.proofs.CountedLoops.{one_more_proc, procs_done}
use Rattle.grin_rewrite.proofs.fresh_blocks.rewrite_with_fresh.Goals as goal

pub loop-proc-preserved : goal.loop-proc-preserved
loop-proc-preserved g c = one_more_proc (g.R.FreshRule.rule c.args.rule.now) c.args.fresh.now.next
    c.loop-proc.fresh.next _ c.loop-proc.made _ c.loop-proc.yielded c.in-Some.proc _
    c.loop-proc.invariant refl refl c.in_ok-body.ensures.is c.in_ok-body.ensures.next
    c.in_ok-push.ensures.ok

pub returns : goal.returns
returns g c =
    let R = g.R.FreshRule.rule c.args.rule.now in
    let all = YieldsList-end (YieldsList-from_vec c.args.procs (search rules) (search rules))
    c.loop-proc.yielded c.loop-proc.proc-iterator c.loop-proc.yielded_by _ c.next.new.self
    c.in-None.is c.next.ensures.steps in
    procs_done R c.args.fresh.now.next c.loop-proc.fresh.next c.loop-proc.made c.loop-proc.yielded
    c.loop-proc.invariant ∙ ap (λ l. counted_procs R c.args.fresh.now.next (map procedure_of l))
    (sym (map_same c.loop-proc.yielded) ∙ all.0)
