use Rattle.std.proofs.Common.{[], sym, subst}
use Rattle.fetch_passes.proofs.Grows.{WordsSoFar, words_none, words_next, words_all}
use Rattle.fetch_passes.proofs.nodes.words.Goals as goal

pub loop-at-init : goal.loop-at-init
loop-at-init c = λ b h. subst
    (λ ws. WordsSoFar c.args.tag.0 b c.args.cell [] c.args.made.now c.args.made.now ws)
    (sym c.new-waits.ensures) (words_none c.args.tag.0 b c.args.cell c.args.made.now)

pub loop-at-preserved : goal.loop-at-preserved
loop-at-preserved c = λ b h. words_next c.args.tag.0 b c.args.cell c.args.vars.now c.loop-at.at
    (record { 0 = 0 }) c.outside-kept.result _ _ _ _ _ c.loop-at-test.true (c.loop-at.invariant b h)
    (c.outside-kept.ensures b h) c.in_ok-node_word.ensures.stmts c.in_ok-node_word.ensures.waits

pub returns-clause-stmts : goal.returns-clause-stmts
returns-clause-stmts c = λ b h.
    (words_all c.args.tag.0 b c.args.cell c.args.vars.now c.loop-at.at _ _ _ c.loop-at-test.false
    (c.loop-at.invariant b h)).stmts

pub returns-clause-waits : goal.returns-clause-waits
returns-clause-waits c = λ b h.
    (words_all c.args.tag.0 b c.args.cell c.args.vars.now c.loop-at.at _ _ _ c.loop-at-test.false
    (c.loop-at.invariant b h)).waiting
