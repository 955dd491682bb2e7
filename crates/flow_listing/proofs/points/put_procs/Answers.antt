use Rattle.std.proofs.Common.{ℕ, rules, ◌++◌, ap, ◌∙◌}
use Rattle.std.specs.Ordering.{nat_cmp}
use Rattle.std.specs.BTreeMap as tree
use Rattle.grin_syntax.specs.declared.program.Proc.{Proc}
use Rattle.grin_syntax.specs.Tree.{program_of, procedure_of}
use Rattle.points_to.specs.Found.{found}
use Rattle.flow_listing.specs.Ascending.{flat_map_indexed}
use Rattle.flow_listing.specs.Text.{procedure_text}
use Rattle.flow_listing.proofs.Numbered.{flat_done, flat_next}
use Rattle.flow_listing.proofs.points.put_procs.Goals as goal

pub returns : goal.returns
returns c =
    flat_done
    (λ (f : ℕ) (q : Proc). procedure_text (program_of c.args.g.now)
    (tree.get nat_cmp c.args.names.now) (found c.args.flow.now) f (procedure_of q))
    c.as_slice-proc-items.result.now c.loop-proc.proc-index _ _ c.loop-proc-test.false
    c.loop-proc.invariant.so_far
    ∙ ap (λ ps. c.args.text.now ++ flat_map_indexed
    (λ (f : ℕ) (q : Proc). procedure_text (program_of c.args.g.now)
    (tree.get nat_cmp c.args.names.now) (found c.args.flow.now) f (procedure_of q)) 0 ps)
    c.as_slice-proc-items.ensures

pub loop-proc-preserved : goal.loop-proc-preserved
loop-proc-preserved c = record {
  counted = search rules;
  so_far = flat_next
      (λ (f : ℕ) (q : Proc). procedure_text (program_of c.args.g.now)
      (tree.get nat_cmp c.args.names.now) (found c.args.flow.now) f (procedure_of q))
      c.as_slice-proc-items.result.now c.loop-proc.proc-index _ _ _ _ _ c.loop-proc-test.true
      c.proc-item.is c.loop-proc.invariant.counted c.loop-proc.invariant.so_far
      c.in_ok-put_proc.ensures;
}
