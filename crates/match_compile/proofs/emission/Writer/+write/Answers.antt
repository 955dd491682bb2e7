use Rattle.std.proofs.Common.{◌≡◌, ℕ, ◌∷◌, [], sym, ap, ◌∙◌}
use Rattle.core_reader.specs.Tree.{Alts, expr}
use Rattle.core_reader.proofs.TreeOf.{expr_of-Case}
use Rattle.arity_check.specs.Scope.{Scope}
use Rattle.seq.proofs.Results.{ok_follows}
use Rattle.match_compile.specs.Renamed.{renamed_expr}
use Rattle.match_compile.specs.Translated.{Words, taken, with_fields, otherwise, expr_of}
use Rattle.match_compile.specs.Trees.{Tree, Case, ATree}
use Rattle.match_compile.specs.TreeOf.{tree_of, branches_of}
use Rattle.match_compile.specs.EmissionOf.{alternatives_of_rest, alone}
use Rattle.match_compile.proofs.TreesOf.{tree_of-Body, tree_of-Tests, tree_of-Otherwise}
use Rattle.match_compile.proofs.Emitted.{case_is, one_more, then_others, leaves}
use Rattle.match_compile.proofs.emission.Writer.+write.Goals as goal

pub alt-returns-clause-places : goal.alt-returns-clause-places
alt-returns-clause-places t c =
    let w : Words = c.args.self.now.words.now in
    let at : ℕ = c.args.self.now.at in
    let params : ℕ = c.args.self.now.params in
    let s : Scope = c.args.places.now in
    leaves w at params (alternatives_of_rest w at c.args.onward.now)
    (tree_of c.into_inner-tree.result) c.args.branch.places s c.bind_fields.new.places
    c.expr.new.places c.leave.new.self c.len-depth.result
    c.len-depth.ensures
    (c.in_ok-bind_fields.ensures ∙ ap
    (λ ps. with_fields w at params (tree_of c.into_inner-tree.result) ps s) c.as_slice.ensures)
    c.in_ok-body.ensures.places c.leave.ensures

pub alts-loop-branch-preserved : goal.alts-loop-branch-preserved
alts-loop-branch-preserved t c =
    let w : Words = c.args.self.now.words.now in
    let at : ℕ = c.args.self.now.at in
    record {
      places = c.in_ok-alt.ensures.places ∙ c.loop-branch.invariant.places;
      made = one_more w at c.args.self.now.params (alternatives_of_rest w at c.args.onward.now)
          c.args.places.now c.loop-branch.places c.loop-branch.yielded c.in-Some.branch
          c.loop-branch.made c.push.new.self c.in_ok-alt.field-0
          c.loop-branch.invariant.places c.loop-branch.invariant.made c.in_ok-alt.ensures.made
          c.in_ok-push.ensures.ok;
    }

pub expr-returns-in-Body-clause-made : goal.expr-returns-in-Body-clause-made
expr-returns-in-Body-clause-made t c =
    let w : Words = c.args.self.now.words.now in
    let at : ℕ = c.args.self.now.at in
    let params : ℕ = c.args.self.now.params in
    let rest : Alts = alternatives_of_rest w at c.args.onward.now in
    let s : Scope = c.args.places.now in
    ok_follows _ _ c.body.result
    (λ made e. e ∙ ap (λ bound. renamed_expr (taken w s bound) (expr c.in-Body.body))
    c.as_slice.ensures
    ∙ sym (ap (expr_of w at params rest s)
    (ap tree_of c.in-Body.is ∙ tree_of-Body c.in-Body.body c.in-Body.way))) c.body.ensures

pub expr-returns-in-Tests-clause-made : goal.expr-returns-in-Tests-clause-made
expr-returns-in-Tests-clause-made t c =
    let w : Words = c.args.self.now.words.now in
    let at : ℕ = c.args.self.now.at in
    let params : ℕ = c.args.self.now.params in
    let rest : Alts = alternatives_of_rest w at c.args.onward.now in
    ok_follows _ _ c.tests.result (λ made e. e
    ∙ sym (ap (expr_of w at params rest c.args.places.now)
    (ap tree_of c.in-Tests.is ∙ tree_of-Tests c.in-Tests.place c.in-Tests.branches)))
    c.tests.ensures.made

pub expr-returns-in_ok-other-in-Otherwise-clause-made
    : goal.expr-returns-in_ok-other-in-Otherwise-clause-made
expr-returns-in_ok-other-in-Otherwise-clause-made t c =
    let w : Words = c.args.self.now.words.now in
    let at : ℕ = c.args.self.now.at in
    let params : ℕ = c.args.self.now.params in
    let rest : Alts = alternatives_of_rest w at c.args.onward.now in
    let u : Tree = tree_of c.in-Otherwise.other.value in
    let same : c.boxed.new.places ≡ c.args.places.now = c.in_ok-other-in-Otherwise.ensures.places in
    ok_follows _ _ c.otherwise_tests.result (λ made e.
    e u (c.in_ok-other-in-Otherwise.ensures.made ∙ ap (λ s. expr_of w at params rest s u)
    (sym same))
    ∙ ap (λ s. expr_of w at params rest s
    (Case c.in-Otherwise.place (branches_of c.in-Otherwise.branches) (ATree u))) same
    ∙ sym (ap (expr_of w at params rest c.args.places.now) (ap tree_of c.in-Otherwise.is
    ∙ tree_of-Otherwise c.in-Otherwise.place c.in-Otherwise.branches c.in-Otherwise.other)))
    c.otherwise_tests.ensures.made

pub expr-returns-in_ok-other-in-Otherwise-clause-places
    : goal.expr-returns-in_ok-other-in-Otherwise-clause-places
expr-returns-in_ok-other-in-Otherwise-clause-places t c =
    ok_follows _ _ c.otherwise_tests.result
    (λ made e. e ∙ c.in_ok-other-in-Otherwise.ensures.places)
    c.otherwise_tests.ensures.places

pub boxed-returns-clause-made : goal.boxed-returns-clause-made
boxed-returns-clause-made t c =
    let w : Words = c.args.self.now.words.now in
    let at : ℕ = c.args.self.now.at in
    let params : ℕ = c.args.self.now.params in
    let rest : Alts = alternatives_of_rest w at c.args.onward.now in
    ap expr c.in_ok-new.ensures.ok ∙ c.in_ok-made.ensures.made
    ∙ ap (λ u. expr_of w at params rest c.args.places.now (tree_of u)) c.into_inner.ensures

pub tests-returns-clause-made : goal.tests-returns-clause-made
tests-returns-clause-made t c =
    let w : Words = c.args.self.now.words.now in
    let at : ℕ = c.args.self.now.at in
    let params : ℕ = c.args.self.now.params in
    let rest : Alts = alternatives_of_rest w at c.args.onward.now in
    let s : Scope = c.args.places.now in
    expr_of-Case c.in_ok-new.field-0 c.append.new.self
    ∙ case_is _ _ _ _
    (ap expr c.in_ok-new.ensures.ok ∙ c.alone-tested.ensures ∙ ap (λ x. alone x.0 at)
    c.renamed_name.ensures)
    (then_others w at params rest s c.args.branches c.in_ok-alts.alts c.in_ok-call.field-0
    c.append.new.self rest c.in_ok-alts.ensures.made c.in_ok-call.ensures
    c.in_ok-append.ensures.ok)

pub otherwise_tests-returns-clause-made : goal.otherwise_tests-returns-clause-made
otherwise_tests-returns-clause-made t c =
    let w : Words = c.args.self.now.words.now in
    let at : ℕ = c.args.self.now.at in
    let params : ℕ = c.args.self.now.params in
    let rest : Alts = alternatives_of_rest w at c.args.onward.now in
    let s : Scope = c.args.places.now in
    λ u e.
    expr_of-Case c.in_ok-new.field-0 c.push.new.self
    ∙ case_is _ _ _ _
    (ap expr c.in_ok-new.ensures.ok ∙ c.alone-tested.ensures ∙ ap (λ x. alone x.0 at)
    c.renamed_name.ensures)
    (then_others w at params rest s c.args.branches c.in_ok-alts.alts (c.otherwise.result ∷ [])
    c.push.new.self (otherwise w at params (expr_of w at params rest s u)) c.in_ok-alts.ensures.made
    (c.otherwise.ensures ∙ ap (otherwise w at params) (ap expr c.into_inner.ensures ∙ e))
    c.in_ok-push.ensures.ok)
