use Rattle.std.proofs.Common.{ap, ◌∙◌, map}
use Rattle.std.specs.Prelude.{is_some}
use Rattle.core_reader.specs.Tree as tree
use Rattle.core_reader.specs.Tree.{function}
use Rattle.arity_check.specs.Tables.{known}
use Rattle.arity_check.specs.Whole.{main_kind}
use Rattle.arity_check.proofs.Steps.{any_from}
use Rattle.arity_check.proofs.program.has_main.Goals as goal

pub returns : goal.returns
returns c = c.is_some.ensures ∙ ap is_some c.main_number.ensures ∙ any_from
    (λ (f : tree.Function). main_kind ((known c.args.globals.now).kind f.name)) 0
    (map function c.args.functions.now)
