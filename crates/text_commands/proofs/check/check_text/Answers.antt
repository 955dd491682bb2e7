use Rattle.std.proofs.Common.{ℕ, List, [], ◌∷◌, refl}
use Rattle.grin_io.specs.Changes.{TookExactly, PutFailed}
use Rattle.text_commands.specs.Over.{sink_over}
use Rattle.grin_io.proofs.Changes.{told, took_one, broke_off_one}
use Rattle.text_commands.proofs.Checks.{of_summary}
use Rattle.text_commands.proofs.check.check_text.Goals as goal

pub returns-in-Ok-put-clause-checks : goal.returns-in-Ok-put-clause-checks
returns-in-Ok-put-clause-checks g c =
    let took = λ (line : List ℕ). TookExactly
    (sink_over g.K.Sink c.args.out.now
    c.put.new.self) (line ∷ []) in
    let line = c.as_slice.result.now in
    of_summary c.args.text.now c.in-Ok.accepted took c.in-Ok.ensures.accepted
    (rw (c.as_slice.ensures, c.summary.ensures) at
    (took_one g.K.Sink.put_gives g.K.Sink.taken g.K.Sink.faults c.args.out.now c.put.new.self
    line (line ∷ []) refl (told _ _ c.in-Ok-put.ensures.content)
    (rw c.in-Ok-put.is at c.put.ensures.exactly)))

pub returns-in-Ok-clause-checks : goal.returns-in-Ok-clause-checks
returns-in-Ok-clause-checks g c =
    let broke = λ (line : List ℕ). PutFailed
    (sink_over g.K.Sink c.args.out.now
    c.put.new.self) (line ∷ []) in
    let line = c.as_slice.result.now in
    of_summary c.args.text.now c.in-Ok.accepted broke c.in-Ok.ensures.accepted
    (rw (c.as_slice.ensures, c.summary.ensures) at
    (broke_off_one g.K.Sink.put_gives g.K.Sink.taken g.K.Sink.faults c.args.out.now
    c.put.new.self line (line ∷ []) refl (told _ _ c.in-Err-put.ensures.content)
    (rw c.in-Err-put.is at c.put.ensures.exactly) c.in-Err-put.ensures.cause.failed))
