-- The tree of a body and of a branch, by those of its parts.
use Rattle.std.proofs.Common.{◌≡◌, ℕ, ℤ, List, Option, map, sym, ap, ◌∙◌, Box}
use Rattle.arity_check.specs.declared.normal.Body.{Body, fold-roll-Body}
use Rattle.arity_check.specs.declared.normal.Body.TheOpen as open'
use Rattle.arity_check.specs.declared.normal.Body.TheVariants as body
use Rattle.arity_check.specs.declared.normal.Body.TheVariants.{rolls-Let, rolls-Case}
use Rattle.arity_check.specs.declared.normal.Branch.{Branch, fold-roll-Branch}
use Rattle.arity_check.specs.declared.normal.Branch.TheVariants as branch'
use Rattle.arity_check.specs.declared.normal.Branch.TheVariants.{rolls-Con, rolls-Int, rolls-Default}
use Rattle.arity_check.specs.declared.normal.Bound.{Bound}
use Rattle.arity_check.specs.Program.{Term, Let, Case, Branches, OnCon, OnInt, OnAny, body_layer, branch_layer, branches_of, term, branch}
use Rattle.arity_check.proofs.TermOf.{term_of-App}

pub term-Let : (group : List Bound) (inner : Box Body _)
    → term (body.Let group inner) ≡ Let group (term inner.value)
term-Let group inner = ap term (sym (rolls-Let group inner)) ∙ fold-roll-Body Term
    (Branches → Branches) body_layer branch_layer (open'.Let group inner)

pub term-Case : (tested : Box Body _) (branches : List Branch)
    → term (body.Case tested branches) ≡ Case (term tested.value)
    (branches_of (map branch branches))
term-Case tested branches = ap term (sym (rolls-Case tested branches)) ∙ fold-roll-Body Term
    (Branches → Branches) body_layer branch_layer (open'.Case tested branches)

pub branch-Con : (c : ℕ) (fields : List ℕ) (inner : Body)
    → branch (branch'.Con c fields inner) ≡ OnCon c fields (term inner)
branch-Con c fields inner = ap branch (sym (rolls-Con c fields inner)) ∙ fold-roll-Branch Term
    (Branches → Branches) body_layer branch_layer (open'.Con c fields inner)

pub branch-Int : (k : ℤ) (inner : Body) → branch (branch'.Int k inner) ≡ OnInt k (term inner)
branch-Int k inner = ap branch (sym (rolls-Int k inner)) ∙ fold-roll-Branch Term
    (Branches → Branches) body_layer branch_layer (open'.Int k inner)

pub branch-Default : (x : Option ℕ) (inner : Body) → branch (branch'.Default x inner) ≡ OnAny x
    (term inner)
branch-Default x inner = ap branch (sym (rolls-Default x inner)) ∙ fold-roll-Branch Term
    (Branches → Branches) body_layer branch_layer (open'.Default x inner)

pub ruleset term_of = (term_of-App, term-Let, term-Case, branch-Con, branch-Int, branch-Default)
