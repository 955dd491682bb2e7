use Rattle.std.proofs.Common.{◌≡◌, map, sym, ap, subst, ◌∙◌, rules}
use Rattle.std.specs.List.{AllZip}
use Rattle.std.proofs.lemmas.Iterator.Adapters.{YieldsList-from_vec}
use Rattle.std.proofs.lemmas.Iterator.Consumers.{YieldsList-end}
use Rattle.seq.proofs.Lists.{map_same}
use Rattle.seq.proofs.Results.{ok_follows}
use Rattle.core_reader.specs.Tree.{bind, expr, alternative, alts_of}
use Rattle.core_reader.proofs.TreeOf.{expr_of-Let, expr_of-Case}
use Rattle.arity_check.specs.Pieces.{binders_of, bound_by}
use Rattle.arity_check.specs.Scope.{Scope}
use Rattle.match_compile.specs.Renamed.{shadowing, renamed_expr, renamed_alts}
use Rattle.match_compile.proofs.Renames.{Renews, renews_more, alts_renamed, let_renamed, case_renamed, leaves}
use Rattle.match_compile.proofs.rename.+rename_expr.Goals as goal

pub renamed_alt-returns-clause-scope : goal.renamed_alt-returns-clause-scope
renamed_alt-returns-clause-scope t c =
    leaves (bound_by c.args.alt.pattern) c.args.scope.now c.hide_bound.new.scope c.renamed.new.scope
    c.leave.new.self c.len-depth.result
    c.len-depth.ensures c.in_ok-hide_bound.ensures c.in_ok-body.ensures.scope c.leave.ensures

pub renamed_alts-loop-alt-preserved : goal.renamed_alts-loop-alt-preserved
renamed_alts-loop-alt-preserved t c =
    let s : Scope = c.args.scope.now in
    let one : Renews s c.in-Some.alt c.in_ok-renamed_alt.field-0
    = subst (λ (u : Scope). Renews u c.in-Some.alt c.in_ok-renamed_alt.field-0)
    c.loop-alt.invariant.scope c.in_ok-renamed_alt.ensures.renamed in
    record {
      scope = c.in_ok-renamed_alt.ensures.scope ∙ c.loop-alt.invariant.scope;
      alts = subst (AllZip (Renews s) _) (sym c.in_ok-push.ensures.ok)
          (renews_more s c.loop-alt.yielded c.loop-alt.made c.in-Some.alt
          c.in_ok-renamed_alt.field-0 c.loop-alt.invariant.alts one);
    }

pub renamed-returns-in-Let-clause-renamed : goal.renamed-returns-in-Let-clause-renamed
renamed-returns-in-Let-clause-renamed t c =
    ok_follows _ _ c.renamed_let.result (λ made e. e
    ∙ ap (renamed_expr c.args.scope.now)
    (sym (expr_of-Let c.in-Let.group c.in-Let.body) ∙ ap expr (sym c.in-Let.is)))
    c.renamed_let.ensures.renamed

pub renamed-returns-in_ok-alts-in-Case-clause-renamed
    : goal.renamed-returns-in_ok-alts-in-Case-clause-renamed
renamed-returns-in_ok-alts-in-Case-clause-renamed t c =
    let s : Scope = c.args.scope.now in
    let alts : alts_of (map alternative c.in_ok-alts-in-Case.alts) ≡ renamed_alts s
    (alts_of (map alternative c.in-Case.alts))
    = c.in_ok-alts-in-Case.ensures.renamed
    ∙ ap (λ u. renamed_alts u (alts_of (map alternative c.in-Case.alts)))
    c.in_ok-tested-in-Case.ensures.scope in
    expr_of-Case c.in_ok-tested-in-Case.tested c.in_ok-alts-in-Case.alts
    ∙ case_renamed s (expr c.in-Case.tested.value) (expr c.in_ok-tested-in-Case.tested.value)
    (alts_of (map alternative c.in-Case.alts)) (alts_of (map alternative c.in_ok-alts-in-Case.alts))
    c.in_ok-tested-in-Case.ensures.renamed alts
    ∙ ap (renamed_expr s)
    (sym (expr_of-Case c.in-Case.tested c.in-Case.alts) ∙ ap expr (sym c.in-Case.is))

pub renamed_box-returns-clause-renamed : goal.renamed_box-returns-clause-renamed
renamed_box-returns-clause-renamed t c =
    ap expr c.in_ok-new.ensures.ok ∙ c.in_ok-made.ensures.renamed ∙ ap
    (λ e. renamed_expr c.args.scope.now (expr e)) c.into_inner.ensures

pub renamed_let-returns-clause-scope : goal.renamed_let-returns-clause-scope
renamed_let-returns-clause-scope t c =
    let s : Scope = c.args.scope.now in
    let entered : c.hide_group.new.scope ≡ shadowing (binders_of (map bind c.args.group)) s
    = c.in_ok-hide_group.ensures ∙ ap (λ g. shadowing (binders_of (map bind g)) s)
    c.as_slice.ensures in
    leaves (binders_of (map bind c.args.group)) s c.hide_group.new.scope c.renamed_box.new.scope
    c.leave.new.self c.len-depth.result c.len-depth.ensures entered c.in_ok-body.ensures.scope
    c.leave.ensures

pub renamed_let-returns-clause-renamed : goal.renamed_let-returns-clause-renamed
renamed_let-returns-clause-renamed t c =
    let s : Scope = c.args.scope.now in
    let inner : Scope = c.hide_group.new.scope in
    let entered : inner ≡ shadowing (binders_of (map bind c.args.group)) s
    = c.in_ok-hide_group.ensures ∙ ap (λ g. shadowing (binders_of (map bind g)) s)
    c.as_slice.ensures in
    expr_of-Let c.in_ok-members.members c.in_ok-body.body
    ∙ let_renamed s inner (map bind c.args.group) (map bind c.in_ok-members.members)
    (expr c.args.body.value) (expr c.in_ok-body.body.value) entered c.in_ok-members.ensures
    c.in_ok-body.ensures.renamed

pub renamed_alts-returns-clause-renamed : goal.renamed_alts-returns-clause-renamed
renamed_alts-returns-clause-renamed t c =
    let s : Scope = c.args.scope.now in
    let all = YieldsList-end (YieldsList-from_vec c.args.alts (search rules) (search rules))
    c.loop-alt.yielded c.loop-alt.alt-iterator c.loop-alt.yielded_by _ c.next.new.self
    c.in-None.is c.next.ensures.steps in
    let read : c.loop-alt.yielded ≡ c.args.alts = sym (map_same c.loop-alt.yielded) ∙ all.0 in
    alts_renamed s c.loop-alt.yielded c.loop-alt.made c.loop-alt.invariant.alts
    ∙ ap (λ v. renamed_alts s (alts_of (map alternative v))) read
