use Rattle.std.proofs.Common.{◌++◌, ap, ◌∙◌}
use Rattle.std.specs.Prelude.{codes}
use Rattle.core_types.specs.Sides.{type_of}
use Rattle.core_types.specs.Shown.{shown_sides}
use Rattle.text_commands.proofs.sides.line.Goals as goal

pub returns : goal.returns
returns c =
    c.in_ok-push.ensures.items
    ∙ ap (λ b. b ++ codes "\n") c.in_ok-bytes.ensures.shown
    ∙ ap (λ names. shown_sides names (type_of c.args.left.now) (type_of c.args.right.now)
    ++ codes "\n") c.texts.ensures
