use Rattle.std.proofs.Common.{[], subst}
use Rattle.unification.specs.Classes.{MergingProgresses, IsUnsatisfiable}
use Rattle.unification.proofs.Solving.{none_solves, none_solves_joined, solved}
use Rattle.unification.proofs.solution.solve.Goals as goal

pub returns-then-not-branch : goal.returns-then-not-branch
returns-then-not-branch c =
    let terms = c.args.terms.now in
    let start = c.in_ok-classes.classes in
    none_solves terms c.requires.earlier c.args.pairs.now start c.in_ok-classes.ensures
    (subst (IsUnsatisfiable terms start) c.in_ok-todo.ensures.items
    (c.in_ok-unify_pairs.ensures.none c.if-not-branch.true))

pub returns-then-not-branch-2 : goal.returns-then-not-branch-2
returns-then-not-branch-2 c =
    let terms = c.args.terms.now in
    let start = c.in_ok-classes.classes in
    none_solves_joined terms c.requires.earlier c.args.pairs.now start c.in_ok-classes.ensures
    c.unify_pairs.new.classes
    (subst (λ ps. MergingProgresses terms start ps c.unify_pairs.new.classes [])
    c.in_ok-todo.ensures.items (c.in_ok-unify_pairs.ensures.advances c.if-not-branch.false))
    (c.in_ok-is_acyclic.ensures.none c.if-not-branch-2.true)

pub returns : goal.returns
returns c =
    let terms = c.args.terms.now in
    let start = c.in_ok-classes.classes in
    solved terms c.requires.earlier c.args.pairs.now start c.in_ok-classes.ensures
    c.unify_pairs.new.classes
    (subst (λ ps. MergingProgresses terms start ps c.unify_pairs.new.classes [])
    c.in_ok-todo.ensures.items (c.in_ok-unify_pairs.ensures.advances c.if-not-branch.false))
    c.requires.below (c.in_ok-is_acyclic.ensures.stand c.if-not-branch-2.false)
