use Rattle.std.proofs.Common.{◌≡◌, ◌++◌, take}
use Rattle.std.specs.Ordering.{nat_cmp}
use Rattle.std.specs.BTreeMap as tree
use Rattle.grin_syntax.specs.Tree.{program_of, procedure_of}
use Rattle.points_to.specs.Found.{found}
use Rattle.flow_listing.specs.Ascending.{flat_map_indexed}
use Rattle.flow_listing.specs.Text.{procedure_text}
use Rattle.flow_listing.proofs.points.put_procs.Given as goal

abbrev pub invariant-loop-proc : goal.invariant-loop-proc
invariant-loop-proc l = record {
  counted : l.at ≡ l.proc-index;
  so_far : l.text ≡ l.initial.text
      ++ flat_map_indexed
      (λ f q. procedure_text (program_of l.g) (tree.get nat_cmp l.names) (found l.flow) f
      (procedure_of q)) 0 (take l.proc-index l.proc-items);
}
