use Rattle.std.proofs.Common.{◌++◌, length, rules, sym, ap, ◌∙◌}
use Rattle.unification.specs.Classes.{paired}
use Rattle.unification.specs.Terms.{arguments_of}
use Rattle.unification.proofs.Pairing.{all_paired, other_length}
use Rattle.unification.proofs.joining.pair_arguments.Goals as goal

pub returns-then-xs-ys-clause-differ : goal.returns-then-xs-ys-clause-differ
returns-then-xs-ys-clause-differ c = λ e.
    other_length c.args.terms.now c.args.x c.args.y c.in-Some.s c.in-Some-symbol_at.t
    (sym c.in-Some.ensures) (sym c.in-Some-symbol_at.ensures)
    (λ z. c.if-xs-ys.true
    (ap length c.arguments_at-xs.ensures ∙ z ∙ sym (ap length c.arguments_at-ys.ensures)))

pub returns-in_ok-push_pairs-in-Some-symbol_at-clause-pairs :
    goal.returns-in_ok-push_pairs-in-Some-symbol_at-clause-pairs
returns-in_ok-push_pairs-in-Some-symbol_at-clause-pairs c = λ e.
    let old = c.args.todo.now.items in
    let terms = c.args.terms.now in
    all_paired terms c.requires.earlier old c.push_pairs.new.todo.items c.args.x c.args.y
    c.in-Some.s c.in-Some-symbol_at.t c.requires.within.0 c.requires.within.1
    (sym c.in-Some.ensures) (sym c.in-Some-symbol_at.ensures)
    (c.if-not-is_same.ensures.0 (search rules))
    (sym (ap length c.arguments_at-xs.ensures) ∙ c.if-xs-ys.false ∙ ap length
    c.arguments_at-ys.ensures)
    (c.in_ok-push_pairs-in-Some-symbol_at.ensures
    ∙ ap (λ l. old ++ paired l c.arguments_at-ys.result.now) c.arguments_at-xs.ensures
    ∙ ap (λ l. old ++ paired (arguments_of terms c.args.x) l) c.arguments_at-ys.ensures)
