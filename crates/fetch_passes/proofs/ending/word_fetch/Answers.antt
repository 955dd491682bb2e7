use Rattle.std.proofs.Common.{rules, ap, ◌∙◌}
use Rattle.grin_syntax.specs.declared.program.Target.TheVariants.{One}
use Rattle.grin_syntax.specs.declared.program.Op.TheVariants.{FetchWord}
use Rattle.grin_syntax.specs.Tree.{leaf, fetch_word}
use Rattle.grin_syntax.proofs.TreeOf.{act_of-FetchWord}
use Rattle.fetch_passes.proofs.Pushed.{bind_pushed}
use Rattle.fetch_passes.proofs.ending.word_fetch.Goals as goal

pub returns : goal.returns
returns c = λ k. bind_pushed c.args.made.now _ (One c.args.var)
    (FetchWord c.args.cell c.in-Ok.place) (leaf (fetch_word c.args.cell c.args.at)) k
    c.in_ok-push.ensures.ok
    (act_of-FetchWord c.args.cell c.in-Ok.place ∙ ap (λ i. leaf (fetch_word c.args.cell i))
    (search rules))
