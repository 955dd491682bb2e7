-- An equation that comes to a tree.
use Rattle.std.proofs.Common.{◌≡◌, ℕ, zero, suc, ◌+◌, ◌-◌, Bool, true, false, cond, List, [], ◌∷◌, ◌++◌, length, refl, sym, ap, subst, ◌∙◌, arith, Option, Some, None}
use Rattle.std.specs.Prelude.{◌==◌, slice_get, remove, not}
use Rattle.std.specs.List.{insert as put_at}
use Rattle.std.specs.declared.boxed.Box.{Box}
use Rattle.std.specs.declared.alloc.Global.{Global}
use Rattle.seq.specs.Lists.{numbers_from}
use Rattle.core_reader.specs.declared.syntax.Binder.{Binder}
use Rattle.core_reader.specs.declared.syntax.Expr as code-expr
use Rattle.core_reader.specs.Tree.{Expr, expr}
use Rattle.match_compile.specs.declared.row.Pending.{Pending}
use Rattle.match_compile.specs.declared.row.Test.{Test}
use Rattle.match_compile.specs.declared.tree.Tree as code-tree
use Rattle.match_compile.specs.declared.tree.Tree.TheVariants as code
use Rattle.match_compile.specs.declared.tree.Branch.{Branch}
use Rattle.match_compile.specs.declared.tree.TreeAfterInsertion.{TreeAfterInsertion}
use Rattle.match_compile.specs.Heads.{Head, Integer, Constructor, same_head}
use Rattle.match_compile.specs.Source.{Pat, Name, Int, Con, Pats, NoPats, AndPat}
use Rattle.match_compile.specs.Parts.{count, tests_in, tests_of}
use Rattle.match_compile.specs.Trees.{PendingPattern, Row, row, pending_patterns_at, head_of, fields_of, Tree, Body, Case, Branches, NoBranch, AndBranch, NoDefault, ATree, branches_fail, fits, opened, places_from, tests_left, one_branch, by_head, alone, alone_from, in_default, in_branch, in_later, or_default, pred, max_chained_cases, insert, insert_branch}
use Rattle.match_compile.specs.RowOf.{rows_of, row_with_field_places, test_at_place, first_of}
use Rattle.match_compile.specs.TreeOf.{tree_of, branches_of, left_of, insertion_result, tree_after_insertion, as_default, if_fits, is_closed, in_branches, joined, behind, with_new, or_alone, without_default, with_default, after_branches, branch_for, replaced}
use Rattle.match_compile.proofs.TreesOf.{tree_of-Body, tree_of-Tests, tree_of-Otherwise, branch_is}
use Rattle.match_compile.proofs.Inserted.{some_is, settled_tests, tests_append, test_counts}

-- ---- the test that comes next

pub record Tested (js : List PendingPattern) (t : Test) : Type 0 where
  pub pat : Pat
  pub rest : List PendingPattern
  pub is : js ≡ (t.place, pat) ∷ rest
  pub head : head_of pat ≡ Some t.head
  pub fields : count (fields_of pat) ≡ t.fields

pub tested : (js : List PendingPattern) (t : Test) → first_of js ≡ Some t → Tested js t
tested [] t e = absurd cc
tested ((p, Name b) ∷ js) t e = absurd cc
tested ((p, Int k at) ∷ js) t e = subst (λ t. Tested ((p, Int k at) ∷ js) t)
    (some_is (test_at_place p (Integer k) 0) t e)
    (record { pat = Int k at; rest = js; is = refl; head = refl; fields = refl })
tested ((p, Con c ps) ∷ js) t e = subst (λ t. Tested ((p, Con c ps) ∷ js) t)
    (some_is (test_at_place p (Constructor c.name.0) (count ps)) t e)
    (record { pat = Con c ps; rest = js; is = refl; head = refl; fields = refl })

module _ (body : Expr) (bound : List (Binder × ℕ)) where
  abbrev pub at_head : Pat → Branches → ℕ → Row → Option Head → Option (Branches × ℕ)
  at_head pat bs n r o = elim o
      [ None ↦ None | Some h ↦ if_fits (fits h bs) (insert_branch pat h bs n r) ]

  abbrev pub at_place : Bool → Pat → Branches → ℕ → Row → Option (Branches × ℕ)
  at_place b pat bs n r = elim (cond b (Some pat) None)
      [ None ↦ None | Some pat ↦ at_head pat bs n r (head_of pat) ]

  name_nowhere : (b : Bool) (x : Binder) (bs : Branches) (n : ℕ) (r : Row)
      → at_place b (Name x) bs n r ≡ None
  name_nowhere true x bs n r = refl
  name_nowhere false x bs n r = refl

  pub no_test : (p : ℕ) (bs : Branches) (n : ℕ) (js : List PendingPattern) → first_of js ≡ None
      → in_branches p bs n (row body bound js) ≡ None
  no_test p bs n [] e = refl
  no_test p bs n ((q, Name x) ∷ js) e = name_nowhere (q == p) x bs n
      (row body bound ((q, Name x) ∷ js))
  no_test p bs n ((q, Int k at) ∷ js) e = absurd cc
  no_test p bs n ((q, Con c ps) ∷ js) e = absurd cc

  pub elsewhere : (p : ℕ) (bs : Branches) (n : ℕ) (js : List PendingPattern) (t : Test)
      → Tested js t → (t.place == p) ≡ false → in_branches p bs n (row body bound js) ≡ None
  elsewhere p bs n js t h e =
      ap (λ js. in_branches p bs n (row body bound js)) h.is
      ∙ ap (λ b. at_place b h.pat bs n (row body bound ((t.place, h.pat) ∷ h.rest))) e

  pub there_is : (p : ℕ) (bs : Branches) (n : ℕ) (js : List PendingPattern) (t : Test)
      (h : Tested js t) (b : Bool) → (t.place == p) ≡ true → fits t.head bs ≡ b
      → in_branches p bs n (row body bound js) ≡ if_fits b
      (insert_branch h.pat t.head bs n (row body bound js))
  there_is p bs n js t h b e f =
      ap (λ js. in_branches p bs n (row body bound js)) h.is
      ∙ ap (λ b. at_place b h.pat bs n (row body bound ((t.place, h.pat) ∷ h.rest))) e
      ∙ ap (at_head h.pat bs n (row body bound ((t.place, h.pat) ∷ h.rest))) h.head
      ∙ ap (λ js. if_fits (fits t.head bs) (insert_branch h.pat t.head bs n (row body bound js)))
      (sym h.is)
      ∙ ap (λ b. if_fits b (insert_branch h.pat t.head bs n (row body bound js))) f

  pub opens : (js : List PendingPattern) (t : Test) (h : Tested js t) (places : List ℕ)
      → row_with_field_places (row body bound js) places ≡ opened (row body bound js) h.pat places
  opens js t h places =
      ap (λ js. row_with_field_places (row body bound js) places) h.is
      ∙ ap (λ js. opened (row body bound js) h.pat places) (sym h.is)

  -- ---- the tree of one row

  name_alone : (k n q : ℕ) (x : Binder) (js : List PendingPattern)
      → alone k n (row body bound ((q, Name x) ∷ js)) ≡
      (Body (row body bound ((q, Name x) ∷ js)), n)
  name_alone zero n q x js = refl
  name_alone (suc k) n q x js = refl

  pub body_alone : (n : ℕ) (js : List PendingPattern) → first_of js ≡ None
      → alone_from n (row body bound js) ≡ (Body (row body bound js), n)
  body_alone n [] e = refl
  body_alone n ((q, Name x) ∷ js) e = name_alone (tests_left ((q, Name x) ∷ js)) n q x js
  body_alone n ((q, Int k at) ∷ js) e = absurd cc
  body_alone n ((q, Con c ps) ∷ js) e = absurd cc

  all_tests : (n : ℕ) (ps : Pats) → tests_left (pending_patterns_at (numbers_from n (count ps)) ps)
      ≡ tests_of ps
  all_tests n NoPats = refl
  all_tests n (AndPat p ps) = ap (λ m. tests_in p + m) (all_tests (suc n) ps)

  tests_behind : (n p : ℕ) (pat : Pat) (js : List PendingPattern) (h : Head) → head_of pat ≡ Some h
      → tests_left ((p, pat) ∷ js) ≡ suc
      (tests_left
      (opened (row body bound ((p, pat) ∷ js)) pat (places_from n (fields_of pat))).jobs)
  tests_behind n p pat js h e =
      let a = settled_tests body bound
      (pending_patterns_at (places_from n (fields_of pat)) (fields_of pat) ++ js) in
      let b = tests_append (pending_patterns_at (places_from n (fields_of pat)) (fields_of pat)) js
      in
      let c = all_tests n (fields_of pat) in
      let d = test_counts pat h e in
      omega (arith, a, b, c, d)

  abbrev made : ℕ → ℕ → Pat → Head → Row → Tree × ℕ
  made n p pat h r = one_branch p h (places_from n (fields_of pat))
      (alone_from (n + count (fields_of pat)) (opened r pat (places_from n (fields_of pat))))

  one_opens : (n p : ℕ) (pat : Pat) (js : List PendingPattern) (h : Head) → head_of pat ≡ Some h
      → alone_from n (row body bound ((p, pat) ∷ js)) ≡ made n p pat h
      (row body bound ((p, pat) ∷ js))
  one_opens n p pat js h e =
      let r : Row = row body bound ((p, pat) ∷ js) in
      ap (λ k. alone k n r) (tests_behind n p pat js h e)
      ∙ ap (by_head (Body r, n) (λ h. made n p pat h r)) e

  pub test_alone : (n : ℕ) (js : List PendingPattern) (t : Test) → Tested js t
      → alone_from n (row body bound js) ≡ one_branch t.place t.head (numbers_from n t.fields)
      (behind t n (row body bound js))
  test_alone n js t h =
      ap (λ js. alone_from n (row body bound js)) h.is
      ∙ one_opens n t.place h.pat h.rest t.head h.head
      ∙ ap (λ js. made n t.place h.pat t.head (row body bound js)) (sym h.is)
      ∙ ap (λ k. one_branch t.place t.head (numbers_from n k)
      (alone_from (n + k) (opened (row body bound js) h.pat (numbers_from n k)))) h.fields
      ∙ ap (λ r. one_branch t.place t.head (numbers_from n t.fields) (alone_from (n + t.fields) r))
      (sym (opens js t h (numbers_from n t.fields)))

-- ---- branches

module _ (pat : Pat) (h : Head) (n : ℕ) (r : Row) where
  abbrev by_same : Branches → Branch → Bool → Option (Branches × ℕ)
  by_same rest b y = elim y [
    | true ↦ in_branch b.head b.places rest
        (insert max_chained_cases (tree_of b.tree.value) n (opened r pat b.places))
    | false ↦ in_later
        b.head b.places (tree_of b.tree.value) (insert_branch pat h rest n r)
  ]

  one_first : (b : Branch) (bs : List Branch) → insert_branch pat h (branches_of (b ∷ bs)) n r ≡
      by_same (branches_of bs) b (same_head b.head h)
  one_first b bs = ap (λ w. insert_branch pat h w n r) (branch_is b (branches_of bs))

  abbrev pub fresh : Tree × ℕ
  fresh = alone_from (n + count (fields_of pat)) (opened r pat (places_from n (fields_of pat)))

  pub new_one : (bs : List Branch) → branch_for h bs ≡ length bs
      → insert_branch pat h (branches_of bs) n r ≡ Some (
        joined (branches_of bs) (AndBranch h (places_from n (fields_of pat)) fresh.0 NoBranch),
        fresh.1,
      )
  new_one [] e = refl
  new_one (b ∷ bs) e = one_first b bs ∙ go (λ f. new_one bs f) (same_head b.head h) e ∙ sym
      (ap (λ w. Some (joined w more, fresh.1)) (branch_is b (branches_of bs)))
    where
      more : Branches
      more = AndBranch h (places_from n (fields_of pat)) fresh.0 NoBranch

      go : (branch_for h bs ≡ length bs → insert_branch pat h (branches_of bs) n r ≡ Some (
        joined (branches_of bs) (AndBranch h (places_from n (fields_of pat)) fresh.0 NoBranch),
        fresh.1,
      )) → (y : Bool) → cond (not y) (1 + branch_for h bs) 0 ≡ length (b ∷ bs)
          → by_same (branches_of bs) b y ≡ Some
          (joined (AndBranch b.head b.places (tree_of b.tree.value) (branches_of bs)) more, fresh.1)
      go ih true f = absurd (omega (arith, f))
      go ih false f = ap (in_later b.head b.places (tree_of b.tree.value)) (ih (omega (arith, f)))

  abbrev pub with_tree : (Tree → Branches) → Option (Tree × ℕ) → Option (Branches × ℕ)
  with_tree f None = None
  with_tree f (Some u) = Some (f u.0, u.1)

  abbrev pub goes_on : Branch → Option (Tree × ℕ)
  goes_on b = insert max_chained_cases (tree_of b.tree.value) n (opened r pat b.places)

  branch_tree : (b : Branch) (rest : Branches) (o : Option (Tree × ℕ))
      → in_branch b.head b.places rest o ≡ with_tree (λ u. AndBranch b.head b.places u rest) o
  branch_tree b rest None = refl
  branch_tree b rest (Some u) = refl

  later_tree : (b : Branch) (f : Tree → Branches) (o : Option (Tree × ℕ))
      → in_later b.head b.places (tree_of b.tree.value) (with_tree f o) ≡ with_tree
      (λ u. AndBranch b.head b.places (tree_of b.tree.value) (f u)) o
  later_tree b f None = refl
  later_tree b f (Some u) = refl

  pub known_one : (bs : List Branch) (b : Branch) → slice_get bs (branch_for h bs) ≡ Some b
      → insert_branch pat h (branches_of bs) n r ≡ with_tree
      (λ u. replaced (branches_of bs) (branch_for h bs) u) (goes_on b)
  known_one [] b e = absurd cc
  known_one (c ∷ cs) b e = one_first c cs ∙ go (λ f. known_one cs b f) (same_head c.head h) e ∙ sym
      (ap (λ w. with_tree (λ u. replaced w (branch_for h (c ∷ cs)) u) (goes_on b))
      (branch_is c (branches_of cs)))
    where
      step : 1 + branch_for h cs ≡ suc (branch_for h cs)
      step = omega arith

      go : (slice_get cs (branch_for h cs) ≡ Some b
          → insert_branch pat h (branches_of cs) n r ≡ with_tree
          (λ u. replaced (branches_of cs) (branch_for h cs) u) (goes_on b)) → (y : Bool)
          → slice_get (c ∷ cs) (cond (not y) (1 + branch_for h cs) 0) ≡ Some b
          → by_same (branches_of cs) c y ≡ with_tree
          (λ u. replaced (AndBranch c.head c.places (tree_of c.tree.value) (branches_of cs))
          (cond (not y) (1 + branch_for h cs) 0) u) (goes_on b)
      go ih true f = branch_tree c (branches_of cs) (goes_on c) ∙ ap
          (λ x. with_tree (λ u. AndBranch c.head c.places u (branches_of cs)) (goes_on x))
          (some_is c b f)
      go ih false f =
          ap (in_later c.head c.places (tree_of c.tree.value))
          (ih (ap (slice_get (c ∷ cs)) (sym step) ∙ f))
          ∙ later_tree c (λ u. replaced (branches_of cs) (branch_for h cs) u) (goes_on b)
          ∙ ap (λ k. with_tree
          (λ u. replaced (AndBranch c.head c.places (tree_of c.tree.value) (branches_of cs)) k
          u) (goes_on b)) (sym step)

-- one more behind the others
pub one_behind : (bs : List Branch) (b : Branch) → branches_of (bs ++ b ∷ []) ≡ joined
    (branches_of bs) (AndBranch b.head b.places (tree_of b.tree.value) NoBranch)
one_behind [] b = branch_is b NoBranch
one_behind (c ∷ cs) b =
    branch_is c (branches_of (cs ++ b ∷ []))
    ∙ ap (AndBranch c.head c.places (tree_of c.tree.value)) (one_behind cs b)
    ∙ sym (ap (λ w. joined w (AndBranch b.head b.places (tree_of b.tree.value) NoBranch))
    (branch_is c (branches_of cs)))

-- a branch that is taken out and put back with another tree
pub put_back : (bs : List Branch) (k : ℕ) (b x : Branch) → slice_get bs k ≡ Some b → x.head ≡ b.head
    → x.places ≡ b.places → branches_of (put_at (remove bs k) k x) ≡ replaced (branches_of bs) k
    (tree_of x.tree.value)
put_back [] k b x e f g = absurd cc
put_back (c ∷ cs) zero b x e f g =
    let same : c ≡ b = some_is c b e in
    branch_is x (branches_of cs)
    ∙ (λ i. AndBranch (f i) (g i) (tree_of x.tree.value) (branches_of cs))
    ∙ ap (λ (b : Branch). AndBranch b.head b.places (tree_of x.tree.value) (branches_of cs))
    (sym same)
    ∙ sym (ap (λ w. replaced w 0 (tree_of x.tree.value)) (branch_is c (branches_of cs)))
put_back (c ∷ cs) (suc k) b x e f g =
    branch_is c (branches_of (put_at (remove cs k) k x))
    ∙ ap (AndBranch c.head c.places (tree_of c.tree.value)) (put_back cs k b x e f g)
    ∙ sym (ap (λ w. replaced w (suc k) (tree_of x.tree.value)) (branch_is c (branches_of cs)))

kept_one : (bs : List Branch) (k : ℕ) (b : Branch) → slice_get bs k ≡ Some b
    → replaced (branches_of bs) k (tree_of b.tree.value) ≡ branches_of bs
kept_one [] k b e = absurd cc
kept_one (c ∷ cs) zero b e =
    ap (λ w. replaced w 0 (tree_of b.tree.value)) (branch_is c (branches_of cs))
    ∙ ap (λ (b : Branch). AndBranch c.head c.places (tree_of b.tree.value) (branches_of cs))
    (sym (some_is c b e))
    ∙ sym (branch_is c (branches_of cs))
kept_one (c ∷ cs) (suc k) b e =
    ap (λ w. replaced w (suc k) (tree_of b.tree.value)) (branch_is c (branches_of cs))
    ∙ ap (AndBranch c.head c.places (tree_of c.tree.value)) (kept_one cs k b e)
    ∙ sym (branch_is c (branches_of cs))

-- ---- what became of a row at the branches of a test

abbrev pub in_replaced : Branches → ℕ → (Tree × ℕ) × Option Expr → (Branches × ℕ) × Option Expr
in_replaced bs k g = ((replaced bs k g.0.0, g.0.1), g.1)

replaced_outcome : (pat : Pat) (h : Head) (n : ℕ) (r : Row) (bs : Branches) (k : ℕ) (t : Tree)
    (body : Expr) (o : Option (Tree × ℕ)) → replaced bs k t ≡ bs
    → in_replaced bs k (insertion_result (t, n) body o) ≡ insertion_result (bs, n) body
    (with_tree pat h n r (λ u. replaced bs k u) o)
replaced_outcome pat h n r bs k t body None e = ap (λ w. ((w, n), Some body)) e
replaced_outcome pat h n r bs k t body (Some u) e = refl

module _ (body : Expr) (bound : List (Binder × ℕ)) (js : List PendingPattern) (p n : ℕ)
    (bs : List Branch) where
  abbrev the_row : Row
  the_row = row body bound js

  abbrev pub PutIn : (Branches × ℕ) × Option Expr → Type 0
  PutIn q = q ≡ insertion_result (branches_of bs, n) body (in_branches p (branches_of bs) n the_row)

  left_over : in_branches p (branches_of bs) n the_row ≡ None
      → PutIn ((branches_of bs, n), Some body)
  left_over e = sym (ap (insertion_result (branches_of bs, n) body) e)

  pub without_test : first_of js ≡ None → PutIn ((branches_of bs, n), Some body)
  without_test e = left_over (no_test body bound p (branches_of bs) n js e)

  module _ (t : Test) (e : first_of js ≡ Some t) where
    h : Tested js t
    h = tested js t e

    pub at_another : (t.place == p) ≡ false → PutIn ((branches_of bs, n), Some body)
    at_another f = left_over (elsewhere body bound p (branches_of bs) n js t h f)

    pub of_another : (t.place == p) ≡ true → fits t.head (branches_of bs) ≡ false
        → PutIn ((branches_of bs, n), Some body)
    of_another f g = left_over (there_is body bound p (branches_of bs) n js t h false f g)

    goes_in : (t.place == p) ≡ true → fits t.head (branches_of bs) ≡ true
        → in_branches p (branches_of bs) n the_row ≡ insert_branch h.pat t.head (branches_of bs) n
        the_row
    goes_in f g = there_is body bound p (branches_of bs) n js t h true f g

    pub makes_one : (t.place == p) ≡ true → fits t.head (branches_of bs) ≡ true
        → branch_for t.head bs ≡ length bs → PutIn (with_new t (branches_of bs) n the_row)
    makes_one f g k =
        sym (ap (insertion_result (branches_of bs, n) body)
        (goes_in f g ∙ new_one h.pat t.head n the_row bs k)
        ∙ ap (λ m. (
          (
            joined (branches_of bs)
                (AndBranch t.head (numbers_from n m)
                (alone_from (n + m) (opened the_row h.pat (numbers_from n m))).0 NoBranch),
            (alone_from (n + m) (opened the_row h.pat (numbers_from n m))).1,
          ),
          None,
        )) h.fields
        ∙ ap (λ r. (
          (
            joined (branches_of bs)
                (AndBranch t.head (numbers_from n t.fields) (alone_from (n + t.fields) r).0
                NoBranch),
            (alone_from (n + t.fields) r).1,
          ),
          None,
        ))
        (sym (opens body bound js t h (numbers_from n t.fields))))

    pub goes_to_one : (t.place == p) ≡ true → fits t.head (branches_of bs) ≡ true
        → (k : ℕ) (b x : Branch) (g : TreeAfterInsertion) → branch_for t.head bs ≡ k
        → slice_get bs k ≡ Some b → x.head ≡ b.head → x.places ≡ b.places → x.tree ≡ g.tree
        → tree_after_insertion g ≡ insertion_result (tree_of b.tree.value, n) body
        (insert max_chained_cases (tree_of b.tree.value) n
        (row_with_field_places the_row b.places))
        → PutIn ((branches_of (put_at (remove bs k) k x), g.free), left_of g.left)
    goes_to_one f fit k b x g is at hd ps tr e' =
        let there : slice_get bs (branch_for t.head bs) ≡ Some b = ap (slice_get bs) is ∙ at in
        let o : Option (Tree × ℕ) = goes_on h.pat t.head n the_row b in
        (λ i. ((put_back bs k b x at hd ps i, g.free), left_of g.left))
        ∙ (λ i. ((replaced (branches_of bs) k (tree_of (tr i).value), g.free), left_of g.left))
        ∙ ap (in_replaced (branches_of bs) k)
        (e' ∙ ap (λ r. insertion_result (tree_of b.tree.value, n) body
        (insert max_chained_cases (tree_of b.tree.value) n r))
        (opens body bound js t h b.places))
        ∙ replaced_outcome h.pat t.head n the_row (branches_of bs) k (tree_of b.tree.value) body o
        (kept_one bs k b at)
        ∙ ap (insertion_result (branches_of bs, n) body)
        (sym (goes_in f fit ∙ known_one h.pat t.head n the_row bs b there ∙ ap
        (λ k. with_tree h.pat t.head n the_row (λ u. replaced (branches_of bs) k u) o) is))

-- ---- what became of it at a tree

pub less_one : (n : ℕ) → n - 1 ≡ pred n
less_one zero = omega arith
less_one (suc n) = omega arith

module _ (room n : ℕ) (body : Expr) (r : Row) (t : code-tree.Tree) where
  abbrev pub GrowsTo : (Tree × ℕ) × Option Expr → Type 0
  GrowsTo g = g ≡ insertion_result (tree_of t, n) body (insert room (tree_of t) n r)

  pub at_body : (e : code-expr.Expr) (w : Pending) (g : TreeAfterInsertion) → t ≡ code.Body e w
      → tree_after_insertion g ≡ insertion_result (Body (rows_of w (expr e)), n) body None
      → GrowsTo (tree_after_insertion g)
  at_body e w g is h = h ∙ ap (λ x. insertion_result (x, n) body (insert room x n r))
      (sym (ap tree_of is ∙ tree_of-Body e w))

  other_outcome : (p : ℕ) (bs : Branches) (u : Tree) (o : Option (Tree × ℕ))
      → as_default p bs (insertion_result (u, n) body o) ≡ insertion_result (Case p bs (ATree u), n)
      body (in_default p bs o)
  other_outcome p bs u None = refl
  other_outcome p bs u (Some v) = refl

  pub at_otherwise : (p : ℕ) (bs : List Branch) (d : Box code-tree.Tree Global) (m : ℕ)
      (g w : TreeAfterInsertion) → t ≡ code.Otherwise p bs d → m ≡ pred room
      → tree_after_insertion g ≡ insertion_result (tree_of d.value, n) body
      (insert m (tree_of d.value) n r)
      → tree_after_insertion w ≡ as_default p (branches_of bs) (tree_after_insertion g)
      → GrowsTo (tree_after_insertion w)
  at_otherwise p bs d m g w is e f h =
      h ∙ ap (as_default p (branches_of bs))
      (f ∙ ap (λ m. insertion_result (tree_of d.value, n) body (insert m (tree_of d.value) n r))
      e)
      ∙ other_outcome p (branches_of bs) (tree_of d.value)
      (insert (pred room) (tree_of d.value) n r)
      ∙ ap (λ x. insertion_result (x, n) body (insert room x n r))
      (sym (ap tree_of is ∙ tree_of-Otherwise p bs d))

module _ (way : Pending) (body : Expr) where
  abbrev or_by : ℕ → ℕ → Branches → ℕ → Bool → Option (Tree × ℕ)
  or_by zero p bs n b = None
  or_by (suc room) p bs n b = cond b None (in_default p bs (Some (alone_from n (rows_of way body))))

  alone_or : (room p : ℕ) (bs : Branches) (n : ℕ) (b : Bool)
      → or_alone room p bs n (rows_of way body) b ≡ insertion_result (Case p bs NoDefault, n) body
      (or_by room p bs n b)
  alone_or zero p bs n b = refl
  alone_or (suc room) p bs n true = refl
  alone_or (suc room) p bs n false = refl

  is_default : (room p : ℕ) (bs : Branches) (n : ℕ)
      → or_by room p bs n (branches_fail bs) ≡ or_default room p bs n (rows_of way body) None
  is_default zero p bs n = refl
  is_default (suc room) p bs n = refl

  after_outcome : (room p : ℕ) (bs : Branches) (n : ℕ) (o : Option (Branches × ℕ))
      → after_branches room p (insertion_result (bs, n) body o) (rows_of way) ≡ insertion_result
      (Case p bs NoDefault, n) body (or_default room p bs n (rows_of way body) o)
  after_outcome room p bs n (Some b) = refl
  after_outcome room p bs n None = alone_or room p bs n (branches_fail bs) ∙ ap
      (insertion_result (Case p bs NoDefault, n) body) (is_default room p bs n)

  abbrev pub put_in : Branches → ℕ → Option (Branches × ℕ) → (Branches × ℕ) × Option Expr
  put_in bs n o = insertion_result (bs, n) body o

  -- no tree for other values can come
  pub closed_stays : (room p : ℕ) (bs : Branches) (n : ℕ) (o : Option (Branches × ℕ))
      → is_closed room bs ≡ true
      → without_default p (put_in bs n o) ≡ after_branches room p (put_in bs n o) (rows_of way)
  closed_stays room p bs n (Some b) e = refl
  closed_stays zero p bs n None e = refl
  closed_stays (suc room) p bs n None e = sym (ap (or_alone (suc room) p bs n (rows_of way body)) e)

  -- one comes where the row was left
  pub open_takes : (room p : ℕ) (bs : Branches) (n : ℕ) (o : Option (Branches × ℕ))
      → is_closed room bs ≡ false
      → with_default p (put_in bs n o) (rows_of way) ≡ after_branches room p (put_in bs n o)
      (rows_of way)
  open_takes room p bs n (Some b) e = refl
  open_takes zero p bs n None e = absurd cc
  open_takes (suc room) p bs n None e = sym (ap (or_alone (suc room) p bs n (rows_of way body)) e)

  pub at_tests : (room n : ℕ) (t : code-tree.Tree) (p : ℕ) (bs : List Branch) (m : ℕ)
      (g : TreeAfterInsertion) → t ≡ code.Tests p bs → m ≡ pred room
      → tree_after_insertion g ≡ after_branches m p
      (put_in (branches_of bs) n (in_branches p (branches_of bs) n (rows_of way body)))
      (rows_of way)
      → GrowsTo room n body (rows_of way body) t (tree_after_insertion g)
  at_tests room n t p bs m g is e k =
      k ∙ ap (λ m. after_branches m p
      (put_in (branches_of bs) n (in_branches p (branches_of bs) n (rows_of way body)))
      (rows_of way)) e
      ∙ after_outcome (pred room) p (branches_of bs) n
      (in_branches p (branches_of bs) n (rows_of way body))
      ∙ ap (λ x. insertion_result (x, n) body (insert room x n (rows_of way body)))
      (sym (ap tree_of is ∙ tree_of-Tests p bs))
