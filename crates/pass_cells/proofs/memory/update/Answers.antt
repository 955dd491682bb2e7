use Rattle.std.proofs.Common.{rules, ap, sym, ◌∙◌}
use Rattle.pass_cells.specs.Memory.{after_update}
use Rattle.pass_cells.specs.Entries.{memories}
use Rattle.pass_cells.proofs.Listed.{updated_new}
use Rattle.pass_cells.proofs.memory.update.Goals as goal

pub returns-in_ok-push-in-Var-clause-is : goal.returns-in_ok-push-in-Var-clause-is
returns-in_ok-push-in-Var-clause-is c =
    updated_new c.in-Var.var c.args.v.now c.args.entries.now c.push.new.self
    c.in_ok-words-in-Var.words (search rules) c.in_ok-words-in-Var.ensures
    c.in_ok-push-in-Var.ensures.ok
    ∙ ap (λ a. after_update a c.args.v.now (memories c.args.entries.now)) (sym c.in-Var.is)
