use Rattle.std.proofs.Common.{sym, ◌∙◌}
use Rattle.std.proofs.lemmas.Bool.{false≢true}
use Rattle.dead_store.proofs.Rewriting.{none_put, some_put}
use Rattle.dead_store.proofs.blocks.put_group.Goals as goal

pub returns-then-is_empty : goal.returns-then-is_empty
returns-then-is_empty c = λ b. none_put c.args.made.now c.args.cells b
    (c.is_empty.ensures.0 c.if-is_empty.true)

pub returns : goal.returns
returns c = λ b. some_put c.args.made.now _ c.args.cells b
    (λ e. false≢true (sym c.if-is_empty.false ∙ c.is_empty.ensures.1 e)) c.in_ok-push.ensures.ok
