use Rattle.std.proofs.Common.{◌∙◌}
use Rattle.grin_syntax.specs.declared.program.Target.TheVariants.{One}
use Rattle.grin_syntax.specs.declared.program.Op.TheVariants.{FetchWord}
use Rattle.grin_syntax.specs.Tree.{leaf, fetch_word}
use Rattle.grin_syntax.proofs.TreeOf.{act_of-FetchWord}
use Rattle.fetch_passes.proofs.Pushed.{bind_pushed}
use Rattle.fetch_passes.proofs.split.fetch_vector.Goals as goal

pub returns-clause-stmts : goal.returns-clause-stmts
returns-clause-stmts c = λ k. c.in_ok-waits.ensures.stmts _ c.in_ok-window.ensures k ∙ bind_pushed
    c.args.made.now c.push.new.self (One c.args.tag) (FetchWord c.args.cell 0)
    (leaf (fetch_word c.args.cell 0)) _ c.in_ok-push.ensures.ok (act_of-FetchWord c.args.cell 0)
