use Rattle.std.proofs.Common.{◌∙◌, subst, rules}
use Rattle.std.proofs.lemmas.List.{nil_from_length}
use Rattle.text_commands.proofs.Putting.{PutSoFar, on_err, nothing_put, piece_put, all_put, piece_failed}
use Rattle.text_commands.proofs.pieces.put_pieces.Goals as goal

pub pieces-init : goal.pieces-init
pieces-init g c = (
  search rules,
  tt,
  search rules,
  subst
      (λ r. PutSoFar g.K.Sink.put_gives g.K.Sink.taken g.K.Sink.faults c.args.out.now
      c.args.bytes.now
      c.args.out.now r) (search rules)
      (nothing_put g.K.Sink.put_gives g.K.Sink.taken g.K.Sink.faults c.args.out.now
      c.args.bytes.now),
)

pub pieces-preserved : goal.pieces-preserved
pieces-preserved g c =
    let invariant = c.pieces.invariant in
    let steps = c.in-Some.ensures.steps in
    let put = c.in_ok-put.ensures in (
      search rules,
      tt,
      steps.0 ∙ invariant.2,
      piece_put _ _ _ _ _ _ _ _ _ _ invariant.3 steps.1.0 (rw invariant.2 at steps.1.1) steps.1.2
          put.exactly put.content put.cause.later,
    )

pub returns-in_err-put-clause-broke : goal.returns-in_err-put-clause-broke
returns-in_err-put-clause-broke g c =
    let steps = c.in-Some.ensures.steps in
    let put = c.in_err-put.ensures in
    on_err c.from_residual.result
    (piece_failed _ _ _ _ _ _ _ _ _ _ c.pieces.invariant.3 steps.1.0
    (rw c.pieces.invariant.2 at steps.1.1) steps.1.2 put.exactly put.content put.cause.failed)

pub returns-clause-took : goal.returns-clause-took
returns-clause-took g c = all_put _ _ _ _ _ _ _ c.pieces.invariant.3
    (nil_from_length _ c.in-None.ensures.steps.1.0)
