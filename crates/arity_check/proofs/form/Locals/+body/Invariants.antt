use Rattle.std.proofs.Common.{◌≡◌, ℕ, ◌+◌, take, map}
use Rattle.core_reader.specs.Tree.{Program, Alts, expr, alternative}
use Rattle.arity_check.specs.Program.{Branches, branch}
use Rattle.arity_check.specs.Tables.{known}
use Rattle.arity_check.specs.Whole.{known_of}
use Rattle.arity_check.specs.Normal.{AreBranches}
use Rattle.arity_check.proofs.Weight.{expr_weight}
use Rattle.arity_check.proofs.Rows.{before_alts, before_branches}
use Rattle.arity_check.proofs.form.Locals.+body.Given as goal

abbrev pub invariant-body-loop-alt : goal.invariant-body-loop-alt
invariant-body-loop-alt l = record {
  subject : l.subject ≡ l.initial.subject;
  scope : l.self.scope ≡ l.initial.self.scope;
  form : (p : Program) → known l.globals ≡ known_of p → (rest : Alts) (others : Branches) (m : ℕ)
      → AreBranches p l.initial.self.scope l.self.next rest others m
      → AreBranches p l.initial.self.scope l.initial.self.next
      (before_alts (map alternative (take l.alt-index l.alt-items)) rest)
      (before_branches (map branch l.branches) others) m;
}

abbrev pub decreases-body : goal.decreases-body
decreases-body l = expr_weight (expr l.expr.now)

abbrev pub decreases-branch : goal.decreases-branch
decreases-branch l = expr_weight (expr l.alt.now.body) + 1
