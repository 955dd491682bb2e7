use Rattle.std.proofs.Common.{rules}
use Rattle.std.specs.Ordering.{nat_cmp}
use Rattle.std.specs.BTreeMap as tree
use Rattle.grin_syntax.specs.Tree.{program_of}
use Rattle.points_to.specs.Found.{found}
use Rattle.flow_listing.specs.Text.{binder_line}
use Rattle.flow_listing.proofs.Numbered.{flat_done, flat_more}
use Rattle.flow_listing.proofs.points.put_binders.Goals as goal

pub returns : goal.returns
returns c = flat_done
    (binder_line (program_of c.args.g.now) (tree.get nat_cmp c.args.names.now)
    (found c.args.flow.now)) _ _ _ _ c.loop-binder-test.false c.loop-binder.invariant.so_far

pub loop-binder-preserved : goal.loop-binder-preserved
loop-binder-preserved c = record {
  counted = search rules;
  so_far = flat_more
      (binder_line (program_of c.args.g.now) (tree.get nat_cmp c.args.names.now)
      (found c.args.flow.now)) c.args.binders.now c.loop-binder.binder-index _ _ _ _ _
      c.loop-binder-test.true c.loop-binder.invariant.counted c.loop-binder.invariant.so_far
      c.in_ok-put_binder.ensures;
}
