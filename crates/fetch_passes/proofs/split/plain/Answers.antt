use Rattle.std.proofs.Common.{ap, map, refl, ◌∙◌}
use Rattle.grin_syntax.specs.Tree.{bind, act_of, before_of, all_before}
use Rattle.fetch_passes.proofs.Pushed.{bind_pushed}
use Rattle.fetch_passes.proofs.split.plain.Goals as goal

pub returns-clause-stmts : goal.returns-clause-stmts
returns-clause-stmts c = λ k. bind_pushed c.args.made.now _ c.in_ok-copy_target.field-0 c.args.op
    (act_of c.args.op) k c.in_ok-push.ensures.ok refl ∙ ap
    (λ t. all_before (map before_of c.args.made.now) (bind t (act_of c.args.op) k))
    c.in_ok-copy_target.ensures
