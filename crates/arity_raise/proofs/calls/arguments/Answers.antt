use Rattle.arity_raise.proofs.Fields.{no_arguments, one_argument_more, arguments_done}
use Rattle.arity_raise.proofs.calls.arguments.Goals as goal

pub loop-at-init : goal.loop-at-init
loop-at-init c = rw c.new-args.ensures
    (no_arguments c.args.decisions.now c.args.words.now c.args.fresh.now.next c.args.made.now)

pub loop-at-preserved : goal.loop-at-preserved
loop-at-preserved c = one_argument_more c.args.decisions.now c.args.words.now c.loop-at.at _ _ _ _ _
    _ _ _ _ _ c.loop-at-test.true c.decision_at.ensures c.loop-at.invariant
    c.in_ok-put_argument.ensures.stmts c.in_ok-put_argument.ensures.args
    c.in_ok-put_argument.ensures.next

pub returns-clause-stmts : goal.returns-clause-stmts
returns-clause-stmts c =
    (arguments_done c.args.decisions.now c.args.words.now c.loop-at.at _ _ _ _ _
    c.loop-at-test.false c.loop-at.invariant).stmts

pub returns-clause-args : goal.returns-clause-args
returns-clause-args c =
    (arguments_done c.args.decisions.now c.args.words.now c.loop-at.at _ _ _ _ _
    c.loop-at-test.false c.loop-at.invariant).words

pub returns-clause-next : goal.returns-clause-next
returns-clause-next c =
    (arguments_done c.args.decisions.now c.args.words.now c.loop-at.at _ _ _ _ _
    c.loop-at-test.false c.loop-at.invariant).next
