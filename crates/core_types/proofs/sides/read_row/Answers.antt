use Rattle.std.proofs.Common.{sym, subst, map}
use Rattle.core_types.specs.Sides.{type_of}
use Rattle.core_types.proofs.Sided.{Reads, reads_first, reads_piece, reads_next}
use Rattle.core_types.proofs.sides.read_row.Goals as goal

pub reading-init : goal.reading-init
reading-init c = λ t e. subst (λ xs. Reads c.args.row.items (map type_of xs) t)
    (sym c.new-read.ensures.items)
    (reads_first c.args.row.items c.requires.0 (c.requires.1, c.requires.2) t e)

pub read_piece-requires : goal.read_piece-requires
read_piece-requires c =
    reads_piece c.reading.row.items c.pop.new.self.items c.in-Some.piece c.reading.read.items
    c.requires.0 c.in-Some.ensures.items (c.reading.invariant c.requires.0 c.requires.1)

pub reading-preserved : goal.reading-preserved
reading-preserved c = λ t e.
    reads_next c.reading.row.items c.pop.new.self.items c.in-Some.piece
    (map type_of c.reading.read.items) (map type_of c.read_piece.new.read.items) t
    c.in-Some.ensures.items c.in_ok-read_piece.ensures (c.reading.invariant t e)
