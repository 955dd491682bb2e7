use Rattle.std.proofs.Common.{◌≡◌, List, sym, ap, ◌∙◌}
use Rattle.core_reader.specs.declared.syntax.Binder.{Binder}
use Rattle.core_reader.specs.Tree.{expr}
use Rattle.arity_check.specs.Known.{is_reserved}
use Rattle.arity_check.specs.Tables.{known}
use Rattle.core_link.specs.Bound.{bound_in}
use Rattle.core_link.specs.Found.{earlier_place_if, earliest, binder_place}
use Rattle.core_link.proofs.Steps.{earliest_append}
use Rattle.core_link.proofs.reserved.in_function.Goals as goal

pub returns : goal.returns
returns c =
    let body : List Binder = bound_in (expr c.args.function.now.body) in
    let params : List Binder = c.args.function.now.params in
    let own : c.earlier_place_if-own.result ≡ earlier_place_if
    (is_reserved (known c.args.globals.now) c.args.function.now.name.0) c.args.found
    c.args.function.now.at =
    c.earlier_place_if-own.ensures ∙ ap
    (λ b. earlier_place_if b c.args.found c.args.function.now.at)
    c.is_reserved-is_reserved.ensures in
    c.in_expr.ensures
    ∙ ap (λ o. earliest (λ (b : Binder). is_reserved (known c.args.globals.now) b.name.0)
    binder_place o body)
    (c.among-bound.ensures ∙
    (λ i. earliest (λ (b : Binder). is_reserved (known c.args.globals.now) b.name.0)
    binder_place (own i) (c.as_slice.ensures i)))
    ∙ sym (earliest_append (λ (b : Binder). is_reserved (known c.args.globals.now) b.name.0)
    binder_place
    (earlier_place_if (is_reserved (known c.args.globals.now) c.args.function.now.name.0)
    c.args.found c.args.function.now.at) params body)
