-- The integers that are known of a tree's first test: one that is not among them has no branch, and
-- those of a tree to which an equation came are known with the equation's own.
use Rattle.std.proofs.Common.{◌≡◌, ℕ, ℤ, zero, suc, ◌+◌, ◌<◌, ◌≤◌, Bool, true, false, cond, List, [], ◌∷◌, drop, length, get_or, not, refl, sym, ap, subst, ◌∙◌, arith, Option, Some, None, ◌⊎◌, inl, inr}
use Rattle.std.specs.Prelude.{◌==◌, ◌||◌, IfSome}
use Rattle.core_reader.specs.declared.syntax.Binder.{Binder}
use Rattle.core_reader.specs.Tree.{Expr}
use Rattle.std.specs.List.{list_any}
use Rattle.std.specs.Ordering.{int_eq}
use Rattle.std.proofs.lemmas.List.{drop_more}
use Rattle.seq.proofs.Lists.{drop_past}
use Rattle.seq.proofs.Truth.{two_ways, not_both, neither_left, neither_right}
use Rattle.match_compile.specs.declared.row.Test.{Test}
use Rattle.match_compile.specs.declared.tree.Branch.{Branch}
use Rattle.match_compile.specs.Heads.{Head, Integer, Constructor, same_head}
use Rattle.match_compile.specs.Source.{Pat, Name, Int, Con}
use Rattle.match_compile.specs.Trees.{PendingPattern, Row, row, head_of, fields_of, Tree, Body, Case, Branches, NoBranch, AndBranch, NoDefault, ATree, has_head, branches_fail, test_at, opened, places_from, alone_from, in_default, in_branch, in_later, new_branch, or_default, pred, max_chained_cases, fits, insert, insert_branch}
use Rattle.match_compile.specs.Parts.{count}
use Rattle.match_compile.specs.RowOf.{test_of, first_of}
use Rattle.match_compile.specs.TreeOf.{branches_of, insertion_result, branch_for}
use Rattle.match_compile.specs.Known.{IsKnown, IsUnknown, KnowsMore, AreKnown, FirstIsKnown, IsNowhere}
use Rattle.match_compile.proofs.TreesOf.{branch_is}
use Rattle.match_compile.proofs.Inserted.{some_is, same_is, at_head, at_pat, at_test, by_test, branch_by}

-- ---- an integer that is not known

differs : (ks : List ℤ) (g h : Head) → IsUnknown ks h → IsKnown ks g → same_head g h ≡ false
differs ks g (Constructor d) u k = absurd u
differs ks g (Integer j) u k = go (two_ways (same_head g (Integer j)))
  where
    go : (same_head g (Integer j) ≡ true) ⊎ (same_head g (Integer j) ≡ false)
        → same_head g (Integer j) ≡ false
    go (inr n) = n
    go (inl y) = not_both (list_any (int_eq j) ks)
        (subst (IsKnown ks) (same_is g (Integer j) y) k) u

pub nowhere_in : (ks : List ℤ) (h : Head) (bs : Branches) → IsUnknown ks h → AreKnown ks bs
    → has_head h bs ≡ false
nowhere_in ks h NoBranch u k = refl
nowhere_in ks h (AndBranch g ps t bs) u k =
    ap (λ b. b || has_head h bs) (differs ks g h u k.0) ∙ nowhere_in ks h bs u k.1

pub nowhere : (ks : List ℤ) (h : Head) (t : Tree) → IsUnknown ks h → FirstIsKnown ks t
    → IsNowhere h t
nowhere ks h (Body r) u k = tt
nowhere ks h (Case p bs o) u k = nowhere_in ks h bs u k

-- so it is where a test for it comes to a tree
pub new_nowhere : (ks : List ℤ) (o p : Option Test) (t u : Tree) → o ≡ p → u ≡ t
    → IfSome o (λ x. IsUnknown ks x.head) → FirstIsKnown ks t → IfSome p (λ x. IsNowhere x.head u)
new_nowhere ks None p t u e f un k = subst (λ o. IfSome o (λ x. IsNowhere x.head u)) e tt
new_nowhere ks (Some x) p t u e f un k = subst (λ o. IfSome o (λ x. IsNowhere x.head u)) e
    (subst (IsNowhere x.head) (sym f) (nowhere ks x.head t un k))

-- it has no number among the branches
pub no_number : (h : Head) (bs : List Branch) → has_head h (branches_of bs) ≡ false
    → branch_for h bs ≡ length bs
no_number h [] e = refl
no_number h (b ∷ bs) e =
    let f : (same_head b.head h || has_head h (branches_of bs)) ≡ false
    = ap (has_head h) (sym (branch_is b (branches_of bs))) ∙ e in
    go (same_head b.head h) (neither_left _ _ f)
    (no_number h bs (neither_right (same_head b.head h) _ f))
  where
    go : (y : Bool) → y ≡ false → branch_for h bs ≡ length bs
        → cond (not y) (1 + branch_for h bs) 0 ≡ length (b ∷ bs)
    go true n ih = not_both true refl n
    go false n ih = omega (arith, ih)

-- ---- more is known

pub one_more : (ks ls : List ℤ) (j : ℤ)
    → ((k : ℤ) → list_any (int_eq k) ls ≡ cond (int_eq j k) true (list_any (int_eq k) ks))
    → KnowsMore ks ls
one_more ks ls j e (Constructor c) h = tt
one_more ks ls j e (Integer k) h = e k ∙ ap (cond (int_eq j k) true) h ∙ always (int_eq j k)
  where
    always : (b : Bool) → cond b true true ≡ true
    always true = refl
    always false = refl

pub all_more : (ks ls : List ℤ) (bs : Branches) → KnowsMore ks ls → AreKnown ks bs → AreKnown ls bs
all_more ks ls NoBranch m k = tt
all_more ks ls (AndBranch h ps t bs) m k = (m h k.0, all_more ks ls bs m k.1)

pub first_more : (ks ls : List ℤ) (t : Tree) → KnowsMore ks ls → FirstIsKnown ks t
    → FirstIsKnown ls t
first_more ks ls (Body r) m k = tt
first_more ks ls (Case p bs o) m k = all_more ks ls bs m k

-- whatever knows more and the branches from number i on knows all
abbrev pub Completes : List ℤ → List Branch → List Branch → Type 0
Completes ks rest bs = (ls : List ℤ) → KnowsMore ks ls → AreKnown ls (branches_of rest)
    → AreKnown ls (branches_of bs)

pub one_completes : (ks ls : List ℤ) (bs : List Branch) (i : ℕ) (b : Branch) → i < length bs
    → b ≡ get_or bs i b → KnowsMore ks ls → IsKnown ls b.head → Completes ks (drop i bs) bs
    → Completes ls (drop (i + 1) bs) bs
one_completes ks ls bs i b lt is more k h = λ ms m r. h ms (λ g j. m g (more g j))
    (subst (λ ws. AreKnown ms (branches_of ws))
    (sym (drop_more bs i b lt ∙ ap (λ y. y ∷ drop (i + 1) bs) (sym is)))
    (subst (AreKnown ms) (sym (branch_is b (branches_of (drop (i + 1) bs)))) (m b.head k, r)))

pub all_complete : (ks : List ℤ) (bs : List Branch) (i : ℕ) → length bs ≤ i
    → Completes ks (drop i bs) bs → AreKnown ks (branches_of bs)
all_complete ks bs i le h = h ks (λ g k. k)
    (subst (λ ws. AreKnown ks (branches_of ws)) (sym (drop_past bs i le)) tt)

-- ---- an equation comes to a tree

module _ (ks : List ℤ) where
  in_one : (g : Head) (ps : List ℕ) (t : Tree) (bs : Branches) (o : Option (Tree × ℕ))
      (v : Branches × ℕ) → AreKnown ks (AndBranch g ps t bs) → in_branch g ps bs o ≡ Some v
      → AreKnown ks v.0
  in_one g ps t bs None v k e = absurd cc
  in_one g ps t bs (Some x) v k e = subst (λ (w : Branches × ℕ). AreKnown ks w.0)
      (some_is (AndBranch g ps x.0 bs, x.1) v e) k

  in_rest : (g : Head) (ps : List ℕ) (t : Tree) (o : Option (Branches × ℕ)) (v : Branches × ℕ)
      → IsKnown ks g → in_later g ps t o ≡ Some v
      → ((x : Branches × ℕ) → o ≡ Some x → AreKnown ks x.0) → AreKnown ks v.0
  in_rest g ps t None v k e ih = absurd cc
  in_rest g ps t (Some x) v k e ih = subst (λ (w : Branches × ℕ). AreKnown ks w.0)
      (some_is (AndBranch g ps t x.0, x.1) v e) (k, ih x refl)

  keeps_branches : (pat : Pat) (h : Head) (bs : Branches) (n : ℕ) (r : Row) (v : Branches × ℕ)
      → IsKnown ks h → AreKnown ks bs → insert_branch pat h bs n r ≡ Some v → AreKnown ks v.0
  keeps_branches pat h NoBranch n r v k a e =
      let places = places_from n (fields_of pat) in
      subst (λ (w : Branches × ℕ). AreKnown ks w.0)
      (some_is (new_branch h places (alone_from (n + count (fields_of pat)) (opened r pat places)))
      v e) (k, tt)
  keeps_branches pat h (AndBranch g ps t bs) n r v k a e =
      let inner : Option (Tree × ℕ) = insert max_chained_cases t n (opened r pat ps) in
      let later : Option (Branches × ℕ) = insert_branch pat h bs n r in
      elim (two_ways (same_head g h)) [
        | inl y ↦ in_one g ps t bs inner v a
            (ap (branch_by (in_branch g ps bs inner) (in_later g ps t later)) (sym y) ∙ e)
        | inr m ↦ in_rest g ps t later v a.0
            (ap (branch_by (in_branch g ps bs inner) (in_later g ps t later)) (sym m) ∙ e)
            (λ x f. keeps_branches pat h bs n r x k a.1 f)
      ]

  in_other : (p : ℕ) (bs : Branches) (o : Option (Tree × ℕ)) (u : Tree × ℕ) → AreKnown ks bs
      → in_default p bs o ≡ Some u → FirstIsKnown ks u.0
  in_other p bs None u k e = absurd cc
  in_other p bs (Some v) u k e = subst (λ (w : Tree × ℕ). FirstIsKnown ks w.0)
      (some_is (Case p bs (ATree v.0), v.1) u e) k

  at_default : (p : ℕ) (bs : Branches) (n : ℕ) (r : Row) (room : ℕ) (u : Tree × ℕ)
      → AreKnown ks bs → or_default room p bs n r None ≡ Some u → FirstIsKnown ks u.0
  at_default p bs n r zero u k e = absurd cc
  at_default p bs n r (suc room) u k e = go (branches_fail bs) e
    where
      go : (b : Bool) → cond b None (in_default p bs (Some (alone_from n r))) ≡ Some u
          → FirstIsKnown ks u.0
      go true e = absurd cc
      go false e = in_other p bs (Some (alone_from n r)) u k e

  at_branches : (p : ℕ) (bs : Branches) (n : ℕ) (r : Row) (room : ℕ) (o : Option (Branches × ℕ))
      (u : Tree × ℕ) → AreKnown ks bs → or_default room p bs n r o ≡ Some u
      → ((v : Branches × ℕ) → o ≡ Some v → AreKnown ks v.0) → FirstIsKnown ks u.0
  at_branches p bs n r room None u k e ih = at_default p bs n r room u k e
  at_branches p bs n r room (Some v) u k e ih = subst (λ (w : Tree × ℕ). FirstIsKnown ks w.0)
      (some_is (Case p v.0 NoDefault, v.1) u e) (ih v refl)

  -- what a row tests first is known
  abbrev pub RowIsKnown : Row → Type 0
  RowIsKnown r = (p : ℕ) (pat : Pat) (h : Head) → test_at p r.jobs ≡ Some pat
      → head_of pat ≡ Some h → IsKnown ks h

  keeps : (room : ℕ) (t : Tree) (n : ℕ) (r : Row) (u : Tree × ℕ) → RowIsKnown r
      → FirstIsKnown ks t → insert room t n r ≡ Some u → FirstIsKnown ks u.0
  keeps room (Body q) n r u known k e = absurd cc
  keeps room (Case p bs (ATree t)) n r u known k e =
      in_other p bs (insert (pred room) t n r) u k e
  keeps room (Case p bs NoDefault) n r u known k e =
      at_branches p bs n r (pred room)
      (at_test (λ pat. at_pat (λ h. at_head (insert_branch pat h bs n r) (fits h bs))
      (head_of pat)) (test_at p r.jobs)) u k e
      (λ v f. by_test (AreKnown ks v.0) p bs n r v
      (λ pat h test head g i. keeps_branches pat h bs n r v (known p pat h test head) k i)
      (test_at p r.jobs) refl f)

  pat_known : (q : ℕ) (pat : Pat) → IfSome (test_of q pat) (λ t. IsKnown ks t.head) → (h : Head)
      → head_of pat ≡ Some h → IsKnown ks h
  pat_known q (Name b) f h i = absurd cc
  pat_known q (Int k at) f h i = subst (IsKnown ks) (some_is (Integer k) h i) f
  pat_known q (Con d ps) f h i = subst (IsKnown ks) (some_is (Constructor d.name.0) h i) tt

  -- a row's first test is known where it is kept
  row_known : (body : Expr) (bound : List (Binder × ℕ)) (js : List PendingPattern)
      → IfSome (first_of js) (λ t. IsKnown ks t.head) → RowIsKnown (row body bound js)
  row_known body bound [] f p pat h e i = absurd cc
  row_known body bound (j ∷ js) f p pat h e i = at_one (j.0 == p) e
    where
      at_one : (b : Bool) → cond b (Some j.1) None ≡ Some pat → IsKnown ks h
      at_one true e = pat_known j.0 j.1 f h (ap head_of (some_is j.1 pat e) ∙ i)
      at_one false e = absurd cc

-- the tree has then no integer that isn't kept
pub kept_known : (ks ls : List ℤ) (room : ℕ) (t : Tree) (n : ℕ) (body : Expr)
    (bound : List (Binder × ℕ)) (js : List PendingPattern) (o : Option Test)
    (g : (Tree × ℕ) × Option Expr)
    → g ≡ insertion_result (t, n) body (insert room t n (row body bound js)) → o ≡ first_of js
    → KnowsMore ks ls → IfSome o (λ x. IsKnown ls x.head) → FirstIsKnown ks t
    → FirstIsKnown ls g.0.0
kept_known ks ls room t n body bound js o g is f more test k =
    go (insert room t n (row body bound js)) refl is
  where
    known : IfSome (first_of js) (λ x. IsKnown ls x.head)
    known = subst (λ o. IfSome o (λ x. IsKnown ls x.head)) f test

    go : (w : Option (Tree × ℕ)) → insert room t n (row body bound js) ≡ w
        → g ≡ insertion_result (t, n) body w → FirstIsKnown ls g.0.0
    go None e is = subst (λ (w : (Tree × ℕ) × Option Expr). FirstIsKnown ls w.0.0) (sym is)
        (first_more ks ls t more k)
    go (Some u) e is = subst (λ (w : (Tree × ℕ) × Option Expr). FirstIsKnown ls w.0.0) (sym is)
        (keeps ls room t n (row body bound js) u (row_known ls body bound js known)
        (first_more ks ls t more k) e)
