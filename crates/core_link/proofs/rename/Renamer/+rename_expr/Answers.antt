use Rattle.std.proofs.Common.{◌≡◌, map, sym, ap, subst, ◌∙◌, rules}
use Rattle.std.specs.List.{AllZip}
use Rattle.std.proofs.lemmas.Iterator.Adapters.{YieldsList-from_vec}
use Rattle.std.proofs.lemmas.Iterator.Consumers.{YieldsList-end}
use Rattle.seq.proofs.Lists.{map_same}
use Rattle.core_reader.specs.declared.syntax.Expr.TheVariants as variant
use Rattle.core_reader.specs.Tree.{bind, expr, alternative, alts_of}
use Rattle.core_reader.proofs.TreeOf.{expr_of-Let, expr_of-Case}
use Rattle.arity_check.specs.Pieces.{binders_of, bound_by}
use Rattle.arity_check.specs.Scope.{Scope}
use Rattle.arity_check.specs.Known.{Known, all_entered}
use Rattle.arity_check.specs.Tables.{known}
use Rattle.arity_check.proofs.Counts.{leaves}
use Rattle.core_link.specs.Renaming.{Numbers, numbers_of, renamed_expr, renamed_alts}
use Rattle.core_link.proofs.Walked.{Renews, renews_more, alts_renamed, let_renamed, case_renamed}
use Rattle.core_link.proofs.rename.Renamer.+rename_expr.Goals as goal

pub alt-returns-clause-scope : goal.alt-returns-clause-scope
alt-returns-clause-scope t c =
    leaves (known c.args.self.now.globals.now) (bound_by c.args.alt.pattern) c.args.scope.now
    c.enter_bound.new.scope c.expr.new.scope c.leave.new.self c.len-depth.result
    c.len-depth.ensures c.in_ok-enter_bound.ensures c.in_ok-body.ensures.scope c.leave.ensures

pub expr-loop-alt-preserved : goal.expr-loop-alt-preserved
expr-loop-alt-preserved t c =
    let n : Numbers = numbers_of c.args.self.now.renaming.now in
    let k : Known = known c.args.self.now.globals.now in
    let s : Scope = c.args.scope.now in
    let one : Renews n k s c.in-Some.alt c.in_ok-alt-in-Case.field-0
    = subst (λ (u : Scope). Renews n k u c.in-Some.alt c.in_ok-alt-in-Case.field-0)
    c.loop-alt.invariant.scope c.in_ok-alt-in-Case.ensures.renamed in
    record {
      tested = c.loop-alt.invariant.tested;
      scope = c.in_ok-alt-in-Case.ensures.scope ∙ c.loop-alt.invariant.scope;
      alts = subst (AllZip (Renews n k s) _) (sym c.in_ok-push-in-Case.ensures.ok)
          (renews_more n k s c.loop-alt.yielded c.loop-alt.made c.in-Some.alt
          c.in_ok-alt-in-Case.field-0 c.loop-alt.invariant.alts one);
    }

pub expr-returns-in_ok-new-in-Let-clause-scope : goal.expr-returns-in_ok-new-in-Let-clause-scope
expr-returns-in_ok-new-in-Let-clause-scope t c =
    let k : Known = known c.args.self.now.globals.now in
    let s : Scope = c.args.scope.now in
    let entered : c.enter_group.new.scope ≡ all_entered k (binders_of (map bind c.in-Let.group)) s
    = c.in_ok-enter_group-in-Let.ensures ∙ ap (λ g. all_entered k (binders_of (map bind g)) s)
    c.as_slice.ensures in
    leaves k (binders_of (map bind c.in-Let.group)) s c.enter_group.new.scope c.expr.new.scope
    c.leave.new.self c.len-depth.result c.len-depth.ensures entered
    c.in_ok-body-in-Let.ensures.scope c.leave.ensures

pub expr-returns-in_ok-new-in-Let-clause-renamed : goal.expr-returns-in_ok-new-in-Let-clause-renamed
expr-returns-in_ok-new-in-Let-clause-renamed t c =
    let n : Numbers = numbers_of c.args.self.now.renaming.now in
    let k : Known = known c.args.self.now.globals.now in
    let s : Scope = c.args.scope.now in
    let inner : Scope = c.enter_group.new.scope in
    let entered : inner ≡ all_entered k (binders_of (map bind c.in-Let.group)) s
    = c.in_ok-enter_group-in-Let.ensures ∙ ap (λ g. all_entered k (binders_of (map bind g)) s)
    c.as_slice.ensures in
    let body : expr c.in_ok-new-in-Let.field-0.value ≡ renamed_expr n k inner
    (expr c.in-Let.body.value) = ap expr c.in_ok-new-in-Let.ensures.ok ∙
    c.in_ok-body-in-Let.ensures.renamed ∙ ap (λ e. renamed_expr n k inner (expr e))
    c.into_inner.ensures in
    ap (λ g. expr (variant.Let g c.in_ok-new-in-Let.field-0)) c.group-in-Let-2.view_is
    ∙ expr_of-Let c.in_ok-group-in-Let.group c.in_ok-new-in-Let.field-0
    ∙ let_renamed n k s inner (map bind c.in-Let.group) (map bind c.in_ok-group-in-Let.group)
    (expr c.in-Let.body.value) (expr c.in_ok-new-in-Let.field-0.value) entered
    c.in_ok-group-in-Let.ensures body
    ∙ ap (renamed_expr n k s)
    (sym (expr_of-Let c.in-Let.group c.in-Let.body) ∙ ap expr (sym c.in-Let.is))

pub expr-returns-in_ok-new-in-Case-clause-renamed :
    goal.expr-returns-in_ok-new-in-Case-clause-renamed
expr-returns-in_ok-new-in-Case-clause-renamed t c =
    let n : Numbers = numbers_of c.args.self.now.renaming.now in
    let k : Known = known c.args.self.now.globals.now in
    let s : Scope = c.args.scope.now in
    let all = YieldsList-end (YieldsList-from_vec c.in-Case.alts (search rules) (search rules))
    c.loop-alt.yielded c.loop-alt.alt-iterator c.loop-alt.yielded_by _ c.next.new.self
    c.in-None.is c.next.ensures.steps in
    let read : c.loop-alt.yielded ≡ c.in-Case.alts = sym (map_same c.loop-alt.yielded) ∙ all.0 in
    let tested : expr c.in_ok-new-in-Case.field-0.value ≡ renamed_expr n k s
    (expr c.in-Case.tested.value) = ap expr
    (c.in_ok-new-in-Case.ensures.ok ∙ c.loop-alt.invariant.tested) ∙
    c.in_ok-tested-in-Case.ensures.renamed ∙ ap (λ e. renamed_expr n k s (expr e))
    c.into_inner-in-Case.ensures in
    let alts : alts_of (map alternative c.loop-alt.made) ≡ renamed_alts n k s
    (alts_of (map alternative c.in-Case.alts)) =
    alts_renamed n k s c.loop-alt.yielded c.loop-alt.made c.loop-alt.invariant.alts ∙ ap
    (λ v. renamed_alts n k s (alts_of (map alternative v))) read in
    expr_of-Case c.in_ok-new-in-Case.field-0 c.loop-alt.made
    ∙ case_renamed n k s (expr c.in-Case.tested.value) (expr c.in_ok-new-in-Case.field-0.value)
    (alts_of (map alternative c.in-Case.alts)) (alts_of (map alternative c.loop-alt.made))
    tested alts
    ∙ ap (renamed_expr n k s)
    (sym (expr_of-Case c.in-Case.tested c.in-Case.alts) ∙ ap expr (sym c.in-Case.is))
