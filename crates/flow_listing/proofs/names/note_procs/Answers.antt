use Rattle.std.proofs.Common.{ℕ, rules, ◌++◌, ap, ◌∙◌}
use Rattle.grin_syntax.specs.declared.program.Proc.{Proc}
use Rattle.grin_syntax.specs.Tree.{procedure_of}
use Rattle.flow_listing.specs.Ascending.{flat_map_indexed}
use Rattle.flow_listing.specs.Text.{local_cells}
use Rattle.flow_listing.proofs.Numbered.{flat_done, flat_next}
use Rattle.flow_listing.proofs.names.note_procs.Goals as goal

pub returns : goal.returns
returns c =
    flat_done (λ (f : ℕ) (q : Proc). local_cells f (procedure_of q))
    c.as_slice-proc-items.result.now c.loop-proc.proc-index _ _ c.loop-proc-test.false
    c.loop-proc.invariant.so_far
    ∙ ap (λ ps. c.args.out.now ++ flat_map_indexed
    (λ (f : ℕ) (q : Proc). local_cells f (procedure_of q)) 0 ps) c.as_slice-proc-items.ensures

pub loop-proc-preserved : goal.loop-proc-preserved
loop-proc-preserved c = record {
  counted = search rules;
  so_far = flat_next (λ (f : ℕ) (q : Proc). local_cells f (procedure_of q))
      c.as_slice-proc-items.result.now c.loop-proc.proc-index _ _ _ _ _ c.loop-proc-test.true
      c.proc-item.is c.loop-proc.invariant.counted c.loop-proc.invariant.so_far
      (rw (c.as_slice-here.ensures, c.in_ok-binders.ensures) at c.in_ok-note_cells.ensures);
}
