-- The tree of a body or a branch that is made from parts.
use Rattle.std.proofs.Common.{◌≡◌, ℕ, ℤ, List, map, sym, ap, ◌∙◌, Box, Option}
use Rattle.std.specs.declared.alloc.Global.{Global}
use Rattle.arity_check.specs.declared.normal.Body.{Body, fold-roll-Body}
use Rattle.arity_check.specs.declared.normal.Body.TheOpen as layer
use Rattle.arity_check.specs.declared.normal.Body.TheVariants as body
use Rattle.arity_check.specs.declared.normal.Branch.{Branch, fold-roll-Branch}
use Rattle.arity_check.specs.declared.normal.Branch.TheVariants as row
use Rattle.arity_check.specs.declared.normal.Bound.{Bound}
use Rattle.arity_check.specs.declared.normal.Flat.{Flat}
use Rattle.arity_check.specs.Program.{Term, App, Let, Case, Branches, OnCon, OnInt, OnAny, body_layer, branch_layer, branches_of, term, branch}

pub term_of-App : (f : Flat) → term (body.App f) ≡ App f
term_of-App f = ap term (sym (body.rolls-App f)) ∙ fold-roll-Body Term (Branches → Branches)
    body_layer branch_layer (layer.App f)

pub term_of-Let : (group : List Bound) (inner : Box Body Global)
    → term (body.Let group inner) ≡ Let group (term inner.value)
term_of-Let group inner = ap term (sym (body.rolls-Let group inner)) ∙ fold-roll-Body Term
    (Branches → Branches) body_layer branch_layer (layer.Let group inner)

pub term_of-Case : (tested : Box Body Global) (branches : List Branch)
    → term (body.Case tested branches) ≡ Case (term tested.value)
    (branches_of (map branch branches))
term_of-Case tested branches = ap term (sym (body.rolls-Case tested branches)) ∙ fold-roll-Body Term
    (Branches → Branches) body_layer branch_layer (layer.Case tested branches)

pub branch_of-Con : (c : ℕ) (fields : List ℕ) (inner : Body) (rest : Branches)
    → branch (row.Con c fields inner) rest ≡ OnCon c fields (term inner) rest
branch_of-Con c fields inner rest = ap (λ b. branch b rest) (sym (row.rolls-Con c fields inner)) ∙
    (λ i. fold-roll-Branch Term (Branches → Branches) body_layer branch_layer
    (layer.Con c fields inner) i rest)

pub branch_of-Int : (k : ℤ) (inner : Body) (rest : Branches)
    → branch (row.Int k inner) rest ≡ OnInt k (term inner) rest
branch_of-Int k inner rest = ap (λ b. branch b rest) (sym (row.rolls-Int k inner)) ∙
    (λ i. fold-roll-Branch Term (Branches → Branches) body_layer branch_layer (layer.Int k inner) i
    rest)

pub branch_of-Default : (x : Option ℕ) (inner : Body) (rest : Branches)
    → branch (row.Default x inner) rest ≡ OnAny x (term inner) rest
branch_of-Default x inner rest = ap (λ b. branch b rest) (sym (row.rolls-Default x inner)) ∙
    (λ i. fold-roll-Branch Term (Branches → Branches) body_layer branch_layer
    (layer.Default x inner) i rest)
