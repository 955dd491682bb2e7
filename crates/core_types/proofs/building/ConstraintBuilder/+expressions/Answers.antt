use Rattle.std.proofs.Common.{◌-◌, [], ◌++◌, length, take, drop, map, refl, sym, ap, subst, ◌∙◌, arith}
use Rattle.std.proofs.lemmas.List.{take_all}
use Rattle.core_reader.specs.Tree.{bind, application, expr, alternative, alts_of}
use Rattle.core_reader.proofs.TreeOf.{expr_of-App, expr_of-Let, expr_of-Case}
use Rattle.core_types.specs.declared.building.ConstraintBuilder.{ConstraintBuilder}
use Rattle.core_types.specs.Typing.{scrutinee, with_group, with_pattern, of_app, of_group, of_pattern, of_expr, of_alts}
use Rattle.core_types.specs.Building.{Adds}
use Rattle.core_types.proofs.Denoting.{grows_refl}
use Rattle.core_types.proofs.Branched.{one_alt}
use Rattle.core_types.proofs.Adding.{adds_nodes, adds_then, adds_as, at_kept, enters_at, leaves}
use Rattle.core_types.proofs.building.ConstraintBuilder.+expressions.Goals as goal

pub expression-returns-in_ok-application-in-App : goal.expression-returns-in_ok-application-in-App
expression-returns-in_ok-application-in-App g c = λ s ls t k i d.
    adds_as c.args.self.now c.application.new.self (of_app s ls t (application c.in-App.app))
    (of_expr s ls t (expr c.args.expr.now))
    (ap (of_expr s ls t) (ap expr c.in-App.is ∙ expr_of-App c.in-App.app))
    (c.in_ok-application-in-App.ensures s ls t k i d)

pub expression-returns-in_ok-expression-in-Let : goal.expression-returns-in_ok-expression-in-Let
expression-returns-in_ok-expression-in-Let g c = λ s ls t k i d.
    let a : ConstraintBuilder = c.args.self.now in
    let b : ConstraintBuilder = c.bind_group.new.self in
    let b1 : ConstraintBuilder = c.group.new.self in
    let b2 : ConstraintBuilder = c.expression.new.self in
    let e : ConstraintBuilder = record b2 { scope = c.leave.new.self } in
    let ms = map bind c.as_slice.result.now in
    let ms' = map bind c.as_slice-in-Let.result.now in
    let inner = with_group s ms ls in
    let own = of_group s inner ms' in
    let body = of_expr s inner t (expr c.deref.result.now) in
    let en = c.in_ok-bind_group-in-Let.ensures s ls k i in
    let at = enters_at a b inner en in
    let gr = c.in_ok-group-in-Let.ensures s inner k at in
    let ex = c.in_ok-expression-in-Let.ensures s inner t k (at_kept b b1 own inner gr at)
    (gr.grows.one t c.args.expected (en.grows.one t c.args.expected d)) in
    adds_as a e (own ++ body) (of_expr s ls t (expr c.args.expr.now))
    (ap (of_expr s ls t) (ap expr c.in-Let.is ∙ expr_of-Let c.in-Let.group c.in-Let.body)
    ∙ (λ j. of_group s (with_group s (map bind (sym c.as_slice.ensures j)) ls)
    (map bind (sym c.as_slice-in-Let.ensures j))
    ++ of_expr s (with_group s (map bind (sym c.as_slice.ensures j)) ls) t
    (expr (sym c.deref.ensures j))))
    (leaves a b b2 e inner (own ++ body) en (adds_then b b1 b2 own body gr ex) refl refl refl
    (c.leave.ensures ∙ ap (λ n. drop (length b2.scope - n) b2.scope) c.len-depth.ensures))

pub expression-returns-in_ok-alternatives-in-Case :
    goal.expression-returns-in_ok-alternatives-in-Case
expression-returns-in_ok-alternatives-in-Case g c = λ s ls t k i d.
    let a : ConstraintBuilder = c.args.self.now in
    let a1 : ConstraintBuilder = record a { nodes = c.scrutinee.new.nodes } in
    let b = c.expression-in-Case.new.self in
    let b' = c.alternatives.new.self in
    let as' = alts_of (map alternative c.as_slice-in-Case.result.now) in
    let as'' = alts_of (map alternative c.as_slice-in-Case-2.result.now) in
    let u = scrutinee s as' in
    let tested = of_expr s ls u (expr c.deref-in-Case.result.now) in
    let rest = of_alts s ls u t as'' in
    let v = c.in_ok-scrutinee-in-Case.ensures s i.sound in
    let first = adds_nodes a a1 v.grows refl refl refl in
    let at = at_kept a a1 [] ls first i in
    let x = c.in_ok-expression-in-Case.ensures s ls u k at v.denotes in
    let y = c.in_ok-alternatives-in-Case.ensures s ls u t k (at_kept a1 b tested ls x at)
    (x.grows.one u c.in_ok-scrutinee-in-Case.scrutinee v.denotes)
    (x.grows.one t c.args.expected (v.grows.one t c.args.expected d)) in
    adds_as a b' (tested ++ rest) (of_expr s ls t (expr c.args.expr.now))
    (ap (of_expr s ls t) (ap expr c.in-Case.is ∙ expr_of-Case c.in-Case.tested c.in-Case.alts)
    ∙ (λ j. of_expr s ls
    (scrutinee s (alts_of (map alternative (sym c.as_slice-in-Case.ensures j))))
    (expr (sym c.deref-in-Case.ensures j))
    ++ of_alts s ls (scrutinee s (alts_of (map alternative (sym c.as_slice-in-Case.ensures j)))) t
    (alts_of (map alternative (sym c.as_slice-in-Case-2.ensures j)))))
    (adds_then a a1 b' [] (tested ++ rest) first (adds_then a1 b b' tested rest x y))

pub alternatives-loop-alt-init : goal.alternatives-loop-alt-init
alternatives-loop-alt-init g c = λ s ls u t k i d e. adds_nodes c.args.self.now c.args.self.now
    (grows_refl c.args.self.now.nodes i.sound) refl refl refl

pub alternatives-loop-alt-preserved : goal.alternatives-loop-alt-preserved
alternatives-loop-alt-preserved g c = λ s ls u t k i d e.
    let a : ConstraintBuilder = c.args.self.now in
    let b : ConstraintBuilder = c.loop-alt.self in
    let b1 : ConstraintBuilder = c.pattern.new.self in
    let b2 : ConstraintBuilder = c.enter_pattern.new.self in
    let b3 : ConstraintBuilder = c.expression.new.self in
    let b4 : ConstraintBuilder = record b3 { scope = c.leave.new.self } in
    let alt = c.alt-item.result in
    let before = of_alts s ls u t
    (alts_of (map alternative (take c.loop-alt.alt-index c.args.alts.now))) in
    let own = of_pattern s u alt.pattern in
    let inner = with_pattern s u alt.pattern ls in
    let body = of_expr s inner t (expr alt.body) in
    let m = c.loop-alt.invariant s ls u t k i d e in
    let at = at_kept a b before ls m i in
    let p = c.in_ok-pattern.ensures s ls u k at (m.grows.one u c.args.scrutinee d) in
    let at1 = at_kept b b1 own ls p at in
    let n = c.in_ok-enter_pattern.ensures s ls u k at1
    (p.grows.one u c.args.scrutinee (m.grows.one u c.args.scrutinee d)) in
    let x = c.in_ok-expression.ensures s inner t k (enters_at b1 b2 inner n)
    (n.grows.one t c.args.expected
    (p.grows.one t c.args.expected (m.grows.one t c.args.expected e))) in
    let rest = leaves b1 b2 b3 b4 inner body n x refl refl refl
    (c.leave.ensures ∙ ap (λ n. drop (length b3.scope - n) b3.scope) c.len-depth.ensures) in
    adds_as a b4 (before ++ (own ++ body)) _
    (one_alt s ls u t c.args.alts.now c.loop-alt.alt-index alt (omega arith) c.alt-item.is)
    (adds_then a b b4 before (own ++ body) m (adds_then b b1 b4 own body p rest))

pub alternatives-returns : goal.alternatives-returns
alternatives-returns g c = λ s ls u t k i d e.
    subst (Adds c.args.self.now c.loop-alt.self)
    (ap (λ alts. of_alts s ls u t (alts_of (map alternative alts)))
    (take_all c.loop-alt.alt-index c.args.alts.now (omega arith)))
    (c.loop-alt.invariant s ls u t k i d e)
