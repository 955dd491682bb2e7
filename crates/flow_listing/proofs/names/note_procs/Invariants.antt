use Rattle.std.proofs.Common.{◌≡◌, ◌++◌, take}
use Rattle.grin_syntax.specs.Tree.{procedure_of}
use Rattle.flow_listing.specs.Ascending.{flat_map_indexed}
use Rattle.flow_listing.specs.Text.{local_cells}
use Rattle.flow_listing.proofs.names.note_procs.Given as goal

abbrev pub invariant-loop-proc : goal.invariant-loop-proc
invariant-loop-proc l = record {
  counted : l.at ≡ l.proc-index;
  so_far : l.out ≡ l.initial.out
      ++ flat_map_indexed (λ f q. local_cells f (procedure_of q)) 0 (take l.proc-index l.proc-items);
}
