use Rattle.std.proofs.Common.{◌≡◌, ◌<◌, ◌+◌, ℕ, List, map, length, refl, ap, ◌∙◌, arith}
use Rattle.grin_syntax.specs.Fresh.{past_procs}
use Rattle.grin_syntax.specs.Tree.{procedure_of}
use Rattle.grin_meaning.specs.Ready.{most_fields}
use Rattle.low_translate.proofs.Programs.{none_made, one_more, code_is, code_ranged}
use Rattle.low_translate.proofs.program.with_results.Goals as goal

pub loop-f-init : goal.loop-f-init
loop-f-init c = none_made _ _ _ _ _ c.new-procs.ensures

pub loop-f-preserved : goal.loop-f-preserved
loop-f-preserved c =
    let rs : List ℕ = c.args.results.now in
    let same : length c.as_slice-proc-items.result.now ≡ length c.args.g.now.procs
    = ap length c.as_slice-proc-items.ensures in
    let many = c.requires.many in
    let kr : c.loop-f.f < length rs = omega (arith, many, same, c.loop-f-test.true) in
    one_more _ rs _ _ _ _ _ c.as_slice-proc-items.result.now c.loop-f.f _ c.proc-item.result
    c.in_ok-procedure.field-0 c.loop-f.invariant c.loop-f-test.true kr
    refl c.proc-item.is c.in_ok-procedure.ensures c.in_ok-push.ensures.ok

pub returns-clause-is : goal.returns-clause-is
returns-clause-is c = code_is c.args.g.now c.args.results.now _ _ _ _ c.loop-f.f c.loop-f.procs _
    c.as_slice-proc-items.result.now c.requires.many
    (ap (λ k. k + 1) (c.most_fields-width.ensures ∙ ap most_fields c.as_slice.ensures))
    c.words_written-words.ensures
    (c.past-next.ensures ∙ ap (λ l. past_procs (map procedure_of l)) c.as_slice-2.ensures)
    (c.in_ok-globals.ensures ∙ ap (map (λ x. x.tag.0)) c.as_slice-3.ensures)
    c.as_slice-proc-items.ensures c.loop-f.invariant c.loop-f-test.false

pub returns-clause-ranged : goal.returns-clause-ranged
returns-clause-ranged c = code_ranged c.args.g.now c.args.results.now _ _ _ c.loop-f.f
    c.loop-f.procs c.as_slice-proc-items.result.now c.as_slice-proc-items.ensures c.loop-f.invariant
    c.loop-f-test.false
