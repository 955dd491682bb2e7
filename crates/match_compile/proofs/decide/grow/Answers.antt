use Rattle.std.proofs.Common.{◌≡◌, ℕ, Option, sym, ap, subst, ◌∙◌}
use Rattle.core_reader.specs.Tree.{Expr, expr}
use Rattle.match_compile.specs.declared.row.Pending.{Pending}
use Rattle.match_compile.specs.Source.{Equation}
use Rattle.match_compile.specs.Trees.{Tree, insert, max_chained_cases}
use Rattle.match_compile.specs.Decisions.{Decision, row_of}
use Rattle.match_compile.specs.RowOf.{pending, rows_of}
use Rattle.match_compile.specs.TreeOf.{tree_of, insertion_result, tree_after_insertion}
use Rattle.match_compile.specs.DecisionOf.{clause_of, decision_of}
use Rattle.match_compile.proofs.Decides.{came_is}
use Rattle.match_compile.specs.Known.{FirstIsKnown}
use Rattle.match_compile.proofs.Knowing.{new_nowhere, kept_known}
use Rattle.match_compile.proofs.decide.grow.Goals as goal

abbrev boxed_outcome : Decision → Pending → Tree → Expr → (Tree × ℕ) × Option Expr
boxed_outcome d way t body = insertion_result (t, d.free) body
    (insert max_chained_cases t d.free (rows_of way body))

pub insert-requires : goal.insert-requires
insert-requires c = λ e.
    new_nowhere c.args.known.now.keys c.first-test.result _ (tree_of c.args.decision.tree)
    (tree_of c.in_ok-boxed.boxed.value) c.first-test.ensures
    (ap tree_of c.in_ok-boxed.ensures.ok) (c.is_new-is_new.ensures e) c.requires

pub returns-clause-known : goal.returns-clause-known
returns-clause-known c =
    subst (λ u. FirstIsKnown c.note_test.new.known.keys (tree_of u))
    (sym c.into_inner-tree.ensures)
    (kept_known c.args.known.now.keys c.note_test.new.known.keys max_chained_cases
    (tree_of c.in_ok-boxed.boxed.value) c.args.decision.free (expr c.in_ok-body.body.value)
    c.in_ok-way.way.bound (pending c.in_ok-way.way.jobs) c.first-test.result
    (tree_after_insertion c.in_ok-grown.grown) c.in_ok-grown.ensures c.first-test.ensures
    c.in_ok-note_test.ensures.more c.in_ok-note_test.ensures.test
    (subst (λ u. FirstIsKnown c.args.known.now.keys (tree_of u))
    (sym c.in_ok-boxed.ensures.ok) c.requires))

pub returns-clause-came : goal.returns-clause-came
returns-clause-came c =
    let d : Decision = decision_of c.args.decision in
    let e : Equation = clause_of c.args.clause in
    let row : rows_of c.in_ok-way.way e.body ≡ row_of e = ap (λ f. f e.body) c.in_ok-way.ensures.way
    in
    (λ i. (
      record d
          { tree = tree_of (c.into_inner-tree.ensures i); free = c.in_ok-grown.grown.free },
      c.left_over-left.ensures i,
    ))
    ∙ came_is d e (tree_after_insertion c.in_ok-grown.grown) (c.in_ok-grown.ensures
    ∙ (λ i. boxed_outcome d c.in_ok-way.way (tree_of (c.in_ok-boxed.ensures.ok i))
    (expr (c.in_ok-body.ensures.ok i)))
    ∙ ap (λ r. insertion_result (d.tree, d.free) e.body (insert max_chained_cases d.tree d.free r))
    row)
