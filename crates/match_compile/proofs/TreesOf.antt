-- The tree that the code keeps, one layer at a time, and an equation that comes to it.
use Rattle.std.proofs.Common.{◌≡◌, ℕ, List, sym, ap, ◌∙◌}
use Rattle.std.specs.declared.boxed.Box.{Box}
use Rattle.std.specs.declared.alloc.Global.{Global}
use Rattle.core_reader.specs.declared.syntax.Expr as code-expr
use Rattle.core_reader.specs.Tree.{expr}
use Rattle.match_compile.specs.declared.row.Pending.{Pending}
use Rattle.match_compile.specs.declared.tree.Tree.{fold-roll-Tree}
use Rattle.match_compile.specs.declared.tree.Tree as code-tree
use Rattle.match_compile.specs.declared.tree.Tree.TheVariants as code
use Rattle.match_compile.specs.declared.tree.Tree.TheOpen as layer
use Rattle.match_compile.specs.declared.tree.Branch.{Branch, fold_out-Branch}
use Rattle.match_compile.specs.Trees.{Tree, Body, Case, Branches, AndBranch, NoDefault, ATree}
use Rattle.match_compile.specs.RowOf.{rows_of}
use Rattle.match_compile.specs.TreeOf.{tree_layer, branch_layer, tree_of, branch_of, branches_of}

pub tree_of-Body : (body : code-expr.Expr) (way : Pending)
    → tree_of (code.Body body way) ≡ Body (rows_of way (expr body))
tree_of-Body body way = ap tree_of (sym (code.rolls-Body body way)) ∙ fold-roll-Tree Tree
    (Branches → Branches) tree_layer branch_layer (layer.Body body way)

pub tree_of-Tests : (p : ℕ) (bs : List Branch) → tree_of (code.Tests p bs) ≡ Case p (branches_of bs)
    NoDefault
tree_of-Tests p bs = ap tree_of (sym (code.rolls-Tests p bs)) ∙ fold-roll-Tree Tree
    (Branches → Branches) tree_layer branch_layer (layer.Tests p bs)

pub tree_of-Otherwise : (p : ℕ) (bs : List Branch) (t : Box code-tree.Tree Global)
    → tree_of (code.Otherwise p bs t) ≡ Case p (branches_of bs) (ATree (tree_of t.value))
tree_of-Otherwise p bs t = ap tree_of (sym (code.rolls-Otherwise p bs t)) ∙ fold-roll-Tree Tree
    (Branches → Branches) tree_layer branch_layer (layer.Otherwise p bs t)

pub branch_is : (b : Branch) (rest : Branches) → branch_of b rest ≡ AndBranch b.head b.places
    (tree_of b.tree.value) rest
branch_is b rest = λ i. fold_out-Branch Tree (Branches → Branches) tree_layer branch_layer b i rest

pub ruleset trees = (tree_of-Body, tree_of-Tests, tree_of-Otherwise, branch_is)
