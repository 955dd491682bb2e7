-- The trees that the code keeps, and what becomes of an equation that comes to one.
use Rattle.std.specs.Prelude.{◌≡◌, ◌==◌, ℕ, zero, suc, ◌+◌, Bool, true, false, List, [], ◌∷◌, map, length, Option, Some, None}
use Rattle.std.specs.List.{position_or_len}
use Rattle.std.specs.declared.boxed.Box.{Box}
use Rattle.std.specs.declared.alloc.Global.{Global}
use Rattle.seq.specs.Lists.{numbers_from}
use Rattle.core_reader.specs.declared.syntax.Expr as code-expr
use Rattle.core_reader.specs.Tree.{Expr, expr}
use Rattle.match_compile.specs.declared.row.Test.{Test}
use Rattle.match_compile.specs.declared.tree.Tree as code-tree
use Rattle.match_compile.specs.declared.tree.Tree.TheOpen as layer
use Rattle.match_compile.specs.declared.tree.Branch.{Branch, Branch-F, fold-Branch}
use Rattle.match_compile.specs.declared.tree.TreeAfterInsertion.{TreeAfterInsertion}
use Rattle.match_compile.specs.declared.tree.Put.{Put}
use Rattle.match_compile.specs.Heads.{Head, same_head}
use Rattle.match_compile.specs.Trees.{PendingPattern, Row, Tree, Body, Case, Branches, NoBranch, AndBranch, NoDefault, ATree, test_at, head_of, fits, insert_branch, alone_from, branches_fail}
use Rattle.match_compile.specs.RowOf.{rows_of, row_with_field_places, first_of}

-- a branch is put before others
abbrev pub branches_from : List (Branches → Branches) → Branches
branches_from [] = NoBranch
branches_from (b ∷ bs) = b (branches_from bs)

abbrev pub tree_layer : code-tree.Tree-F Tree (Branches → Branches) → Tree
tree_layer (layer.Body body way) = Body (rows_of way (expr body))
tree_layer (layer.Tests p bs) = Case p (branches_from bs) NoDefault
tree_layer (layer.Otherwise p bs t) = Case p (branches_from bs) (ATree t.value)

abbrev pub branch_layer : Branch-F Tree (Branches → Branches) → Branches → Branches
branch_layer b rest = AndBranch b.head b.places b.tree.value rest

abbrev pub tree_of : code-tree.Tree → Tree
tree_of t = code-tree.fold-Tree Tree (Branches → Branches) tree_layer branch_layer t

abbrev pub branch_of : Branch → Branches → Branches
branch_of b = fold-Branch Tree (Branches → Branches) tree_layer branch_layer b

abbrev pub branches_of : List Branch → Branches
branches_of bs = branches_from (map branch_of bs)

-- a tree and the first place that is free
abbrev pub planted_of : code-tree.Tree × ℕ → Tree × ℕ
planted_of (t, n) = (tree_of t, n)

-- ---- an equation that comes to a tree

abbrev pub left_of : Option (Box code-expr.Expr Global) → Option Expr
left_of None = None
left_of (Some e) = Some (expr e.value)

-- the body is left where a tree, or the branches of a test, stay as they were
abbrev pub insertion_result : {X : Type 0} → X × ℕ → Expr → Option (X × ℕ) → (X × ℕ) × Option Expr
insertion_result old body None = (old, Some body)
insertion_result old body (Some new) = (new, None)

abbrev pub tree_after_insertion : TreeAfterInsertion → (Tree × ℕ) × Option Expr
tree_after_insertion g = ((tree_of g.tree.value, g.free), left_of g.left)

abbrev pub branches_after_insertion : Put → (Branches × ℕ) × Option Expr
branches_after_insertion p = ((branches_of p.branches, p.free), left_of p.left)

-- a test with the tree for all other values to which an equation came
abbrev pub as_default : ℕ → Branches → (Tree × ℕ) × Option Expr → (Tree × ℕ) × Option Expr
as_default p bs g = ((Case p bs (ATree g.0.0), g.0.1), g.1)

abbrev pub if_fits : Bool → Option (Branches × ℕ) → Option (Branches × ℕ)
if_fits b o = elim b [ true ↦ o | false ↦ None ]

-- the branches of a test with a row that goes to one of them
abbrev pub in_branches : ℕ → Branches → ℕ → Row → Option (Branches × ℕ)
in_branches p bs n r = elim (test_at p r.jobs) [
  | None ↦ None
  | Some pat ↦ elim (head_of pat) [
    | None ↦ None
    | Some h ↦ elim (fits h bs) [ true ↦ insert_branch pat h bs n r | false ↦ None ]
  ]
]

-- one more branch behind those that are there
abbrev pub joined : Branches → Branches → Branches
joined NoBranch more = more
joined (AndBranch h ps t bs) more = AndBranch h ps t (joined bs more)

-- the tree of a row that goes behind its test
abbrev pub behind : Test → ℕ → Row → Tree × ℕ
behind t n r = alone_from (n + t.fields) (row_with_field_places r (numbers_from n t.fields))

abbrev pub with_new : Test → Branches → ℕ → Row → (Branches × ℕ) × Option Expr
with_new t bs n r = (
  (
    joined bs (AndBranch t.head (numbers_from n t.fields) (behind t n r).0 NoBranch),
    (behind t n r).1,
  ),
  None,
)

-- a test where the row went to a branch, or was left
abbrev pub or_alone : ℕ → ℕ → Branches → ℕ → Row → Bool → (Tree × ℕ) × Option Expr
or_alone zero p bs n r fails = ((Case p bs NoDefault, n), Some r.body)
or_alone (suc room) p bs n r true = ((Case p bs NoDefault, n), Some r.body)
or_alone (suc room) p bs n r false =
    ((Case p bs (ATree (alone_from n r).0), (alone_from n r).1), None)

-- a test with these branches can have no tree for other values
abbrev pub is_closed : ℕ → Branches → Bool
is_closed zero bs = true
is_closed (suc room) bs = branches_fail bs

-- a test that has no tree for other values
abbrev pub without_default : ℕ → (Branches × ℕ) × Option Expr → (Tree × ℕ) × Option Expr
without_default p ((bs, n), left) = ((Case p bs NoDefault, n), left)

-- one where the row that was left becomes that tree
abbrev pub with_default : ℕ → (Branches × ℕ) × Option Expr → (Expr → Row)
    → (Tree × ℕ) × Option Expr
with_default p ((bs, n), None) r = ((Case p bs NoDefault, n), None)
with_default p ((bs, n), Some body) r =
    ((Case p bs (ATree (alone_from n (r body)).0), (alone_from n (r body)).1), None)

abbrev pub after_branches : ℕ → ℕ → (Branches × ℕ) × Option Expr
    → (Expr → Row) → (Tree × ℕ) × Option Expr
after_branches room p ((bs, n), None) r = ((Case p bs NoDefault, n), None)
after_branches room p ((bs, n), Some body) r = or_alone room p bs n (r body) (branches_fail bs)

-- the branch that accepts what this head does, by its number
abbrev pub branch_for : Head → List Branch → ℕ
branch_for h bs = position_or_len (λ b. same_head b.head h) bs

-- the test is the next one of a row, at this place, and no branch there is for its value
pub record IsNew (p : ℕ) (bs : List Branch) (jobs : List PendingPattern) (t : Test) : Type 0 where
  pub first : first_of jobs ≡ Some t
  pub here : (t.place == p) ≡ true
  pub fits_in : fits t.head (branches_of bs) ≡ true
  pub number : branch_for t.head bs ≡ length bs

-- the branches with another tree in one of them
abbrev pub replaced : Branches → ℕ → Tree → Branches
replaced NoBranch k t = NoBranch
replaced (AndBranch h ps u bs) zero t = AndBranch h ps t bs
replaced (AndBranch h ps u bs) (suc k) t = AndBranch h ps u (replaced bs k t)
