use Rattle.std.proofs.Common.{arith}
use Rattle.low_code.specs.Tree.{program_of}
use Rattle.test_select.proofs.Small.{few_parameters, few_results, selectable, placeable}
use Rattle.test_select.proofs.image.words.Goals as goal

pub select-requires : goal.select-requires
select-requires c = selectable (program_of c.args.low.now) c.in_ok-places.places c.requires.row
    (c.in_ok-places.ensures.fits c.requires.row.formed
    (few_parameters (program_of c.args.low.now) c.in_ok-places.places c.requires.row)
    (few_results (program_of c.args.low.now) c.in_ok-places.places c.requires.row)) c.args.cells
    c.args.stack c.requires.cells c.requires.stack

pub place-requires-clause-labels : goal.place-requires-clause-labels
place-requires-clause-labels c =
    (placeable (program_of c.args.low.now) c.in_ok-places.places c.args.cells c.args.stack
    c.in_ok-asm.asm.items c.requires.row
    (c.in_ok-places.ensures.fits c.requires.row.formed
    (few_parameters (program_of c.args.low.now) c.in_ok-places.places c.requires.row)
    (few_results (program_of c.args.low.now) c.in_ok-places.places c.requires.row))
    c.requires.cells c.requires.stack c.in_ok-asm.ensures.selected).labels

pub place-requires-clause-plain : goal.place-requires-clause-plain
place-requires-clause-plain c =
    (placeable (program_of c.args.low.now) c.in_ok-places.places c.args.cells c.args.stack
    c.in_ok-asm.asm.items c.requires.row
    (c.in_ok-places.ensures.fits c.requires.row.formed
    (few_parameters (program_of c.args.low.now) c.in_ok-places.places c.requires.row)
    (few_results (program_of c.args.low.now) c.in_ok-places.places c.requires.row))
    c.requires.cells c.requires.stack c.in_ok-asm.ensures.selected).plain

pub place-requires-clause-size : goal.place-requires-clause-size
place-requires-clause-size c =
    (placeable (program_of c.args.low.now) c.in_ok-places.places c.args.cells c.args.stack
    c.in_ok-asm.asm.items c.requires.row
    (c.in_ok-places.ensures.fits c.requires.row.formed
    (few_parameters (program_of c.args.low.now) c.in_ok-places.places c.requires.row)
    (few_results (program_of c.args.low.now) c.in_ok-places.places c.requires.row))
    c.requires.cells c.requires.stack c.in_ok-asm.ensures.selected).size

pub place-requires-clause-asked : goal.place-requires-clause-asked
place-requires-clause-asked c l lt = absurd (omega arith)
