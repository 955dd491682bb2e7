use Rattle.std.proofs.Common.{rules, ap, sym, ◌∙◌, [], ◌∷◌}
use Rattle.pass_cells.specs.Memory.{forget}
use Rattle.pass_cells.specs.Entries.{memories}
use Rattle.pass_cells.proofs.Listed.{forgot_new}
use Rattle.pass_cells.proofs.memory.forget_word.Goals as goal

pub returns-in_ok-push-in-Var-clause-is : goal.returns-in_ok-push-in-Var-clause-is
returns-in_ok-push-in-Var-clause-is c =
    forgot_new c.in-Var.var c.args.entries.now c.push.new.self (search rules)
    c.in_ok-push-in-Var.ensures.ok
    ∙ ap (λ a. forget (a ∷ []) (memories c.args.entries.now)) (sym c.in-Var.is)
