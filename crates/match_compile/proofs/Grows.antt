-- What the code makes of an equation that comes to a tree, as the definitions have it.
use Rattle.std.proofs.Common.{◌≡◌, ℕ, zero, suc, ◌+◌, ◌<◌, Bool, true, List, [], ◌∷◌, ◌++◌, length, get_or, refl, sym, ap, ◌∙◌, arith, Option, Some, None}
use Rattle.std.specs.Prelude.{slice_get}
use Rattle.std.specs.declared.boxed.Box.{Box}
use Rattle.std.specs.declared.alloc.Global.{Global}
use Rattle.seq.specs.Lists.{numbers_from}
use Rattle.core_reader.specs.declared.syntax.Expr as code-expr
use Rattle.core_reader.specs.Tree.{Expr, expr}
use Rattle.match_compile.specs.declared.row.Pending.{Pending}
use Rattle.match_compile.specs.declared.row.Test.{Test}
use Rattle.match_compile.specs.declared.tree.Tree as code-tree
use Rattle.match_compile.specs.declared.tree.Tree.TheVariants as code
use Rattle.match_compile.specs.declared.tree.Branch.{Branch}
use Rattle.match_compile.specs.Trees.{Tree, Case, Branches, NoBranch, AndBranch, NoDefault, ATree, branches_fail, one_branch, alone_from}
use Rattle.match_compile.specs.RowOf.{pending, rows_of, row_with_field_places, opening, first_of}
use Rattle.match_compile.specs.TreeOf.{tree_of, branches_of, planted_of, left_of, joined, behind, with_new, is_closed, with_default}
use Rattle.match_compile.proofs.TreesOf.{tree_of-Body, tree_of-Tests, tree_of-Otherwise}
use Rattle.match_compile.proofs.Comes.{tested, body_alone, test_alone, one_behind}

pub alone_body : (n : ℕ) (body : code-expr.Expr) (w : Pending) → first_of (pending w.jobs) ≡ None
    → planted_of (code.Body body w, n) ≡ alone_from n (rows_of w (expr body))
alone_body n body w e = ap (λ t. (t, n)) (tree_of-Body body w) ∙ sym
    (body_alone (expr body) w.bound n (pending w.jobs) e)

module _ (n : ℕ) (body : Expr) (w v : Pending) (t : Test) (places : List ℕ) (next : ℕ)
    (made : code-tree.Tree × ℕ) (p : places ≡ numbers_from n t.fields) (m : next ≡ n + t.fields)
    (o : rows_of v ≡ opening w places) (g : planted_of made ≡ alone_from next (rows_of v body))
  where
    is_behind : planted_of made ≡ behind t n (rows_of w body)
    is_behind = g ∙ (λ i. alone_from (m i) (o i body)) ∙ ap
        (λ ps. alone_from (n + t.fields) (row_with_field_places (rows_of w body) ps)) p

    pub alone_test : (bs : List Branch) → first_of (pending w.jobs) ≡ Some t
        → branches_of bs ≡ AndBranch t.head places (tree_of made.0) NoBranch
        → planted_of (code.Tests t.place bs, made.1) ≡ alone_from n (rows_of w body)
    alone_test bs e f =
        ap (λ x. (x, made.1)) (tree_of-Tests t.place bs)
        ∙ ap (λ b. (Case t.place b NoDefault, made.1)) f
        ∙ (λ i. one_branch t.place t.head (p i) (is_behind i))
        ∙ sym (test_alone body w.bound n (pending w.jobs) t (tested (pending w.jobs) t e))

    pub new_put : (bs more : List Branch) (b : Branch) → more ≡ bs ++ b ∷ [] → b.head ≡ t.head
        → b.places ≡ places → b.tree.value ≡ made.0
        → ((branches_of more, made.1), None) ≡ with_new t
        (branches_of bs) n (rows_of w body)
    new_put bs more b put hd ps tr =
        ap (λ bs. ((branches_of bs, made.1), None)) put
        ∙ ap (λ b. ((b, made.1), None)) (one_behind bs b)
        ∙ (λ i. (
          (
            joined (branches_of bs) (AndBranch (hd i) (ps i) (tree_of (tr i)) NoBranch),
            made.1,
          ),
          None,
        ))
        ∙ (λ i. (
          (
            joined (branches_of bs) (AndBranch t.head (p i) (is_behind i).0 NoBranch),
            (is_behind i).1,
          ),
          None,
        ))

module _ (p : ℕ) (bs : List Branch) (n : ℕ) (w : Pending) where
  abbrev pub Default : Option (Box code-expr.Expr Global) → (Tree × ℕ) × Option Expr
  Default left = with_default p ((branches_of bs, n), left_of left) (rows_of w)

  pub none_left_over : (left : Option (Box code-expr.Expr Global)) (t : code-tree.Tree)
      → left ≡ None → t ≡ code.Tests p bs → ((tree_of t, n), None) ≡ Default left
  none_left_over left t e is = ap (λ x. ((x, n), None)) (ap tree_of is ∙ tree_of-Tests p bs) ∙ sym
      (ap Default e)

  pub becomes_default : (left : Option (Box code-expr.Expr Global))
      (body : Box code-expr.Expr Global) (inner : code-expr.Expr) (made : code-tree.Tree × ℕ)
      (d : Box code-tree.Tree Global) (t : code-tree.Tree) → left ≡ Some body → inner ≡ body.value
      → planted_of made ≡ alone_from n (rows_of w (expr inner)) → d.value ≡ made.0
      → t ≡ code.Otherwise p bs d
      → ((tree_of t, made.1), None) ≡ Default left
  becomes_default left body inner made d t e same g b is =
      ap (λ x. ((x, made.1), None)) (ap tree_of is ∙ tree_of-Otherwise p bs d)
      ∙ ap (λ x. ((Case p (branches_of bs) (ATree (tree_of x)), made.1), None)) b
      ∙ ap (λ (x : Tree × ℕ). ((Case p (branches_of bs) (ATree x.0), x.1), None))
      (g ∙ ap (λ e. alone_from n (rows_of w (expr e))) same)
      ∙ sym (ap Default e)

pub none_closed : (room : ℕ) (bs : Branches) → room ≡ 0 → true ≡ is_closed room bs
none_closed zero bs e = refl
none_closed (suc room) bs e = absurd (omega (arith, e))

pub some_closed : (room : ℕ) (bs : Branches) (b : Bool) → (room ≡ 0 → ⊥) → b ≡ branches_fail bs
    → b ≡ is_closed room bs
some_closed zero bs b e h = absurd (e refl)
some_closed (suc room) bs b e h = h

-- what stands at a place
pub got : (bs : List Branch) (k : ℕ) (b : Branch) → k < length bs → b ≡ get_or bs k b
    → slice_get bs k ≡ Some b
got [] k b l e = absurd (omega (arith, l))
got (c ∷ cs) zero b l e = ap Some (sym e)
got (c ∷ cs) (suc k) b l e = got cs k b (omega (arith, l)) e
