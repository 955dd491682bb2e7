use Rattle.std.proofs.Common.{pos, [], map, refl, sym, subst, ◌∙◌}
use Rattle.grin_syntax.specs.declared.program.Word.TheVariants.{Lit}
use Rattle.grin_syntax.specs.Tree.{before_of, code_of, all_before}
use Rattle.fetch_passes.specs.Split.{split_code}
use Rattle.fetch_passes.specs.Notes.{Here, with_own_size, code_trace}
use Rattle.fetch_passes.proofs.Splits.{procs_next}
use Rattle.fetch_passes.proofs.Places.{here_whole}
use Rattle.fetch_passes.proofs.pass.split_procs.Goals as goal

pub block-requires : goal.block-requires
block-requires c =
    let t = with_own_size (code_trace (code_of c.proc-item.result.body)) in
    subst (λ n. Here n (record { at = 0; piece = 0 }) t) (sym c.in_ok-notes.ensures)
    (here_whole t (record { at = 0; piece = 0 }) refl refl)

pub loop-proc-preserved : goal.loop-proc-preserved
loop-proc-preserved c = procs_next c.args.tags.now c.past-fresh.result.next c.loop-proc.fresh.next _
    c.args.procs.now c.loop-proc.made _ c.loop-proc.proc-index c.proc-item.result _
    c.loop-proc-test.true c.proc-item.is c.loop-proc.invariant
    (c.in_ok-from_slice.ensures ∙ c.as_slice.ensures)
    (c.in_ok-from_slice-2.ensures ∙ c.as_slice-in-loop-proc.ensures)
    (c.in_ok-body.ensures.is ∙
    (λ i. all_before (map before_of (c.new-before.ensures i))
    (split_code c.args.tags.now (c.new-none.ensures i) (Lit (pos 0)) [] c.loop-proc.fresh.next
    (code_of c.proc-item.result.body))))
    c.in_ok-body.ensures.next c.in_ok-push.ensures.ok
