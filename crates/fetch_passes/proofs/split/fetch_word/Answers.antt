use Rattle.std.proofs.Common.{ap, map, ◌∙◌}
use Rattle.grin_syntax.specs.declared.program.Op.TheVariants.{FetchWord}
use Rattle.grin_syntax.specs.Tree.{bind, leaf, fetch_word, before_of, all_before}
use Rattle.grin_syntax.proofs.TreeOf.{act_of-FetchWord}
use Rattle.fetch_passes.proofs.Pushed.{bind_pushed}
use Rattle.fetch_passes.proofs.split.fetch_word.Goals as goal

pub returns : goal.returns
returns c = λ k. bind_pushed c.args.made.now _ c.in_ok-copy_target.field-0
    (FetchWord c.args.cell c.args.place) (leaf (fetch_word c.args.cell c.args.place)) k
    c.in_ok-push.ensures.ok (act_of-FetchWord c.args.cell c.args.place)
    ∙ ap (λ t. all_before (map before_of c.args.made.now)
    (bind t (leaf (fetch_word c.args.cell c.args.place)) k)) c.in_ok-copy_target.ensures
