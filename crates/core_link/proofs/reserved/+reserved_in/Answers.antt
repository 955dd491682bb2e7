use Rattle.std.proofs.Common.{ℕ, List, ◌++◌, map, refl, sym, ap, ◌∙◌, arith, Option}
use Rattle.core_reader.specs.declared.syntax.Alt.{Alt}
use Rattle.core_reader.specs.declared.syntax.Binder.{Binder}
use Rattle.core_reader.specs.Tree.{Alts, bind, expr, alternative, alts_of}
use Rattle.core_reader.proofs.TreeOf.{alternative_of, expr_of-Let, expr_of-Case}
use Rattle.arity_check.specs.Known.{is_reserved}
use Rattle.arity_check.specs.Pieces.{binders_of, bound_by}
use Rattle.arity_check.specs.Tables.{known}
use Rattle.core_link.specs.Bound.{bound_in, bound_in_alts}
use Rattle.core_link.specs.Found.{earliest, binder_place}
use Rattle.core_link.proofs.Steps.{earliest_append, items_next, items_done}
use Rattle.core_link.proofs.reserved.+reserved_in.Goals as goal

pub in_alt-returns : goal.in_alt-returns
in_alt-returns t c =
    let body : List Binder = bound_in (expr c.args.alt.now.body) in
    c.in_expr.ensures
    ∙ ap (λ o. earliest (λ (b : Binder). is_reserved (known c.args.globals.now) b.name.0)
    binder_place o body) c.in_pattern-own.ensures
    ∙ sym (earliest_append (λ (b : Binder). is_reserved (known c.args.globals.now) b.name.0)
    binder_place c.args.found (bound_by c.args.alt.now.pattern) body)

pub in_expr-loop-alt-preserved : goal.in_expr-loop-alt-preserved
in_expr-loop-alt-preserved t c =
    items_next (λ as'. bound_in_alts (alts_of (map alternative as')))
    (λ (a : Alt). bound_by a.pattern ++ bound_in (expr a.body))
    (λ a as'. ap bound_in_alts (alternative_of a (alts_of (map alternative as'))))
    (λ (b : Binder). is_reserved (known c.args.globals.now) b.name.0) binder_place
    c.as_slice-alt-items.result.now c.loop-alt.alt-index c.alt-item.result (omega arith)
    c.alt-item.is c.loop-alt.first c.in_alt-first.result _ c.in_alt-first.ensures
    c.loop-alt.invariant

pub in_expr-returns-in-Let : goal.in_expr-returns-in-Let
in_expr-returns-in-Let t c =
    let body : List Binder = bound_in (expr c.in-Let.body.value) in
    let found : Option ℕ = c.args.found in
    c.in_expr.ensures
    ∙ ap (λ e. earliest (λ (b : Binder). is_reserved (known c.args.globals.now) b.name.0)
    binder_place c.in_group-own.result (bound_in (expr e))) c.deref.ensures
    ∙ ap (λ o. earliest (λ (b : Binder). is_reserved (known c.args.globals.now) b.name.0)
    binder_place o body)
    (c.in_group-own.ensures ∙ ap
    (λ g. earliest (λ (b : Binder). is_reserved (known c.args.globals.now) b.name.0)
    binder_place found (binders_of (map bind g))) c.as_slice.ensures)
    ∙ sym (earliest_append (λ (b : Binder). is_reserved (known c.args.globals.now) b.name.0)
    binder_place found (binders_of (map bind c.in-Let.group)) body)
    ∙ ap (λ e. earliest (λ (b : Binder). is_reserved (known c.args.globals.now) b.name.0)
    binder_place found (bound_in e))
    (sym (expr_of-Let c.in-Let.group c.in-Let.body) ∙ ap expr (sym c.in-Let.is))

pub in_expr-returns-after-loop-alt : goal.in_expr-returns-after-loop-alt
in_expr-returns-after-loop-alt t c =
    let found : Option ℕ = c.args.found in
    let tested : List Binder = bound_in (expr c.in-Case.tested.value) in
    let tree : Alts = alts_of (map alternative c.in-Case.alts) in
    items_done (λ as'. bound_in_alts (alts_of (map alternative as'))) refl
    (λ (b : Binder). is_reserved (known c.args.globals.now) b.name.0) binder_place
    c.as_slice-alt-items.result.now c.loop-alt.alt-index (omega arith) c.loop-alt.first _
    c.loop-alt.invariant
    ∙ ap (λ as'. earliest (λ (b : Binder). is_reserved (known c.args.globals.now) b.name.0)
    binder_place c.in_expr-first.result (bound_in_alts (alts_of (map alternative as'))))
    c.as_slice-alt-items.ensures
    ∙ ap (λ o. earliest (λ (b : Binder). is_reserved (known c.args.globals.now) b.name.0)
    binder_place o (bound_in_alts tree))
    (c.in_expr-first.ensures ∙ ap
    (λ e. earliest (λ (b : Binder). is_reserved (known c.args.globals.now) b.name.0)
    binder_place found (bound_in (expr e))) c.deref-in-Case.ensures)
    ∙ sym (earliest_append (λ (b : Binder). is_reserved (known c.args.globals.now) b.name.0)
    binder_place found tested (bound_in_alts tree))
    ∙ ap (λ e. earliest (λ (b : Binder). is_reserved (known c.args.globals.now) b.name.0)
    binder_place found (bound_in e))
    (sym (expr_of-Case c.in-Case.tested c.in-Case.alts) ∙ ap expr (sym c.in-Case.is))
