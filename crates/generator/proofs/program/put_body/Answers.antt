-- The body of three pieces.
use Rattle.generator.proofs.Rounds.{three_pieces}
use Rattle.generator.proofs.program.put_body.Goals as goal

pub returns-in_ok-put-in-2 : goal.returns-in_ok-put-in-2
returns-in_ok-put-in-2 c =
    rw c.in-2.is
    (three_pieces _ _ _ _ _ _ _ c.in_ok-called-in-2.ensures c.in_ok-called-in-2-2.ensures
    c.in_ok-put-in-2.ensures)
