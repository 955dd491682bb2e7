use Rattle.flow_listing.proofs.Named.{names_of}
use Rattle.flow_listing.proofs.names.names.Goals as goal

pub returns : goal.returns
returns c = names_of c.args.g.now _ _ _ _ c.new-named.ensures
    (rw c.as_slice-globals.ensures at c.in_ok-note_globals.ensures) c.in_ok-note_procs.ensures
    (rw c.as_slice-all.ensures at c.in_ok-names.ensures)
