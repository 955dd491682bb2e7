use Rattle.std.proofs.Common.{◌≡◌}
use Rattle.std.specs.Slice.Iter.{chunks_rest, chunks_size}
use Rattle.text_commands.proofs.Putting.{PutSoFar}
use Rattle.text_commands.proofs.pieces.put_pieces.Given as goal

abbrev pub invariant-pieces : goal.invariant-pieces
invariant-pieces g l =
    (goal.iterator-pieces g).can_next l.piece-iterator
    × (goal.iterator-pieces g).is_finite l.piece-iterator
    × (chunks_size l.piece-iterator ≡ 4096)
    × PutSoFar g.K.Sink.put_gives g.K.Sink.taken g.K.Sink.faults l.initial.out l.initial.bytes l.out
    (chunks_rest l.piece-iterator)
