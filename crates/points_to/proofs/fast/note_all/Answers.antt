use Rattle.std.proofs.Common.{slice_get, sym, ap, ◌∙◌, rules}
use Rattle.flow_system.specs.Shown.{tables_of, inclusions_of, shown}
use Rattle.points_to.proofs.VectorLoops.{shown_at}
use Rattle.points_to.proofs.fast.note_all.Goals as goal

pub loop-inclusion-preserved : goal.loop-inclusion-preserved
loop-inclusion-preserved c =
    let i = c.loop-inclusion.inclusion-index in
    let here = shown_at c.as_slice-inclusion-items.result.now i c.inclusion-item.result
    c.loop-inclusion-test.true c.inclusion-item.is in
    record {
      reached = λ r. let before = c.loop-inclusion.invariant.reached r in record {
        kept = before.kept;
        copies = c.in_ok-note_fetch.ensures (tables_of c.args.system.now)
            (inclusions_of c.args.system.now) i
            (ap (λ xs. slice_get (shown xs) i) (sym c.as_slice-inclusion-items.ensures) ∙ here)
            before.copies;
      };
      number = search rules;
    }
