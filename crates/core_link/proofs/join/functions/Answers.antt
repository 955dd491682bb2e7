use Rattle.std.proofs.Common.{◌∙◌}
use Rattle.arity_check.specs.Tables.{known}
use Rattle.core_link.specs.Renaming.{numbers_of}
use Rattle.core_link.proofs.Together.{more_functions}
use Rattle.core_link.proofs.join.functions.Goals as goal

pub loop-function-preserved : goal.loop-function-preserved
loop-function-preserved c =
    more_functions (numbers_of c.args.renamer.now.renaming.now)
    (known c.args.renamer.now.globals.now) c.loop-function.made c.push.new.self
    c.loop-function.yielded c.in-Some.function c.in_ok-function.field-0 c.in-Ok.number
    c.in_ok-push.ensures.ok c.loop-function.invariant c.in_ok-function.ensures
    (c.in-Ok.ensures.1 ∙ c.len.ensures)
