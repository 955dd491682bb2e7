use Rattle.std.proofs.Common.{◌+◌, get_or, ◌∙◌, arith}
use Rattle.seq.proofs.Lists.{drop_next}
use Rattle.arity_check.specs.Program.{program}
use Rattle.grin_translate.specs.declared.tags.Delay.TheVariants.{Calls}
use Rattle.grin_translate.specs.Translation.{delayed_procs, spans}
use Rattle.grin_translate.proofs.Listed.{procs_more, spans_more, procs_end, spans_end}
use Rattle.grin_translate.proofs.lists.waiting_procedures.Goals as goal

pub loop-delay-preserved : goal.loop-delay-preserved
loop-delay-preserved c =
    let p = program c.args.numbered.now.p.now in
    let ds = c.as_slice-waiting.result.now in
    let i = c.loop-delay.delay-index in
    let d = get_or ds i (Calls 0) in
    let here = drop_next ds i (Calls 0) c.loop-delay-test.true in
    record {
      procs = procs_more p i c.loop-delay.base c.in_ok-each.next ds d c.loop-delay.made
          c.push.new.self c.in_ok-each.each _ here c.in_ok-push.ensures.ok c.in_ok-each.ensures.is
          c.in_ok-each.ensures.next c.loop-delay.invariant.procs;
      base = spans_more p i c.loop-delay.base c.in_ok-each.next ds d _ here
          c.in_ok-each.ensures.next c.loop-delay.invariant.base;
    }

pub returns-clause-is : goal.returns-clause-is
returns-clause-is c =
    let p = program c.args.numbered.now.p.now in
    let ds = c.as_slice-waiting.result.now in
    procs_end p c.loop-delay.delay-index c.loop-delay.base ds c.loop-delay.made _ (omega arith)
    c.loop-delay.invariant.procs
    ∙ (λ z. delayed_procs p (c.args.numbered.now.exact.functions z)
    ((c.as_slice-waiting.ensures ∙ c.args.numbered.now.exact.delays) z))

pub returns-clause-next : goal.returns-clause-next
returns-clause-next c =
    let p = program c.args.numbered.now.p.now in
    let ds = c.as_slice-waiting.result.now in
    spans_end p c.loop-delay.delay-index c.loop-delay.base ds _ (omega arith)
    c.loop-delay.invariant.base
    ∙ (λ z. (c.args.numbered.now.exact.functions z) + spans p
    ((c.as_slice-waiting.ensures ∙ c.args.numbered.now.exact.delays) z))
