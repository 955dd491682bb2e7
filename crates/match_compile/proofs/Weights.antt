-- How large the trees of equations are: what a row adds to a tree is paid by its body and its
-- tests.
use Rattle.std.proofs.Common.{◌≡◌, ℕ, zero, suc, ◌+◌, ◌*◌, ◌≤◌, Bool, true, false, cond, List, [], ◌∷◌, ◌++◌, length, refl, sym, ap, subst, ◌∙◌, arith, Option, Some, None, inl, inr}
use Rattle.std.specs.Prelude.{◌==◌}
use Rattle.seq.proofs.Truth.{two_ways}
use Rattle.seq.proofs.Counted.{length_numbers}
use Rattle.core_reader.specs.declared.syntax.Binder.{Binder}
use Rattle.core_reader.specs.Tree.{Expr}
use Rattle.core_reader.specs.Size.{expr_size}
use Rattle.match_compile.specs.Source.{Pat, Name, Int, Con, Pats, NoPats, AndPat, Equation}
use Rattle.match_compile.specs.Parts.{count, tests_in, tests_of}
use Rattle.match_compile.specs.Heads.{Head, same_head}
use Rattle.match_compile.specs.Sizes.{pat_size, pats_size, equation_size}
use Rattle.match_compile.specs.Trees.{PendingPattern, Row, row, settled, pending_patterns_at, places_from, head_of, fields_of, Tree, Body, Case, Branches, NoBranch, AndBranch, Default, NoDefault, ATree, branches_fail, test_at, later, opened, tests_left, one_branch, by_head, alone, alone_from, fits, in_default, in_branch, in_later, new_branch, or_default, pred, max_chained_cases, insert, insert_branch}
use Rattle.match_compile.specs.Decisions.{Decision, row_of, begun, grown, decided, decisions_from}
use Rattle.match_compile.proofs.Inserted.{some_is, at_head, at_pat, at_test, branch_by, by_test}
use Rattle.match_compile.proofs.Decided.{by_insert}

-- ---- what patterns pay: a test that isn't there yet is its head with a name for each field, the
-- place that it looks at, and what is done with other values

abbrev mutual
  pub paid : Pat → ℕ
  paid (Name b) = 0
  paid (Int k at) = 16
  paid (Con c ps) = 16 + (count ps + paid_all ps)

  pub paid_all : Pats → ℕ
  paid_all NoPats = 0
  paid_all (AndPat p ps) = paid p + paid_all ps

mutual
  pays : (p : Pat) → suc (paid p) ≤ pat_size p + 16 * tests_in p
  pays (Name b) = omega arith
  pays (Int k at) = omega arith
  pays (Con c ps) = omega (arith, pays_all ps)

  pub pays_all : (ps : Pats) → count ps + paid_all ps ≤ pats_size ps + 16 * tests_of ps
  pays_all NoPats = omega arith
  pays_all (AndPat p ps) = omega (arith, pays p, pays_all ps)

abbrev pub jobs_paid : List PendingPattern → ℕ
jobs_paid [] = 0
jobs_paid (j ∷ js) = paid j.1 + jobs_paid js

abbrev pub row_paid : Row → ℕ
row_paid r = expr_size r.body + jobs_paid r.jobs

no_more_paid : (n m : ℕ) → n + m ≡ n + (0 + m)
no_more_paid n m = omega arith

settled_paid : (e : Expr) (bound : List (Binder × ℕ)) (js : List PendingPattern)
    → row_paid (settled e bound js) ≡ expr_size e + jobs_paid js
settled_paid e bound [] = refl
settled_paid e bound ((p, Name b) ∷ js) = settled_paid e (bound ++ (b, p) ∷ []) js ∙ no_more_paid
    (expr_size e) (jobs_paid js)
settled_paid e bound ((p, Int k at) ∷ js) = refl
settled_paid e bound ((p, Con c ps) ∷ js) = refl

paid_append : (xs ys : List PendingPattern) → jobs_paid (xs ++ ys) ≡ jobs_paid xs + jobs_paid ys
paid_append [] ys = omega arith
paid_append (x ∷ xs) ys = omega (arith, paid_append xs ys)

at_paid : (places : List ℕ) (ps : Pats) → jobs_paid (pending_patterns_at places ps) ≤ paid_all ps
at_paid places NoPats = omega arith
at_paid [] (AndPat p ps) = omega arith
at_paid (x ∷ places) (AndPat p ps) = omega (arith, at_paid places ps)

opened_paid : (r : Row) (pat : Pat) (places : List ℕ)
    → row_paid (opened r pat places) ≤ expr_size r.body +
    (paid_all (fields_of pat) + jobs_paid (later r.jobs))
opened_paid r pat places =
    omega (
      arith,
      settled_paid r.body r.bound
          (pending_patterns_at places (fields_of pat) ++ later r.jobs),
      paid_append (pending_patterns_at places (fields_of pat)) (later r.jobs),
      at_paid places (fields_of pat),
    )

head_paid : (pat : Pat) (h : Head) → head_of pat ≡ Some h
    → paid pat ≡ 16 + (count (fields_of pat) + paid_all (fields_of pat))
head_paid (Name b) h e = absurd cc
head_paid (Int k at) h e = refl
head_paid (Con c ps) h e = refl

test_paid : (p : ℕ) (js : List PendingPattern) (pat : Pat) → test_at p js ≡ Some pat
    → jobs_paid js ≡ paid pat + jobs_paid (later js)
test_paid p [] pat e = absurd cc
test_paid p (j ∷ js) pat e = go (j.0 == p) e
  where
    go : (b : Bool) → cond b (Some j.1) None ≡ Some pat
        → paid j.1 + jobs_paid js ≡ paid pat + jobs_paid js
    go true e = ap (λ x. paid x + jobs_paid js) (some_is j.1 pat e)
    go false e = absurd cc

-- ---- the size of a tree as an expression, where a call has at most twelve arguments

abbrev mutual
  pub weight : Tree → ℕ
  weight (Body r) = expr_size r.body
  weight (Case p bs o) = 1 + (branches_weight bs + default_weight o)

  pub branches_weight : Branches → ℕ
  branches_weight NoBranch = 0
  branches_weight (AndBranch h ps t bs) = (1 + length ps) + (weight t + branches_weight bs)

  pub default_weight : Default → ℕ
  default_weight NoDefault = 14
  default_weight (ATree t) = 1 + weight t

places_count : (n : ℕ) (ps : Pats) → length (places_from n ps) ≡ count ps
places_count n ps = length_numbers n (count ps)

alone_weight : (k n : ℕ) (e : Expr) (bound : List (Binder × ℕ)) (js : List PendingPattern)
    → weight (alone k n (row e bound js)).0 ≤ expr_size e + jobs_paid js
alone_weight zero n e bound js = omega arith
alone_weight (suc k) n e bound [] = omega arith
alone_weight (suc k) n e bound (j ∷ js) =
    let places : List ℕ = places_from n (fields_of j.1) in
    let next : Row = opened (row e bound (j ∷ js)) j.1 places in
    by_its_head (row e bound (j ∷ js)) n j.0 places (alone k (n + count (fields_of j.1)) next) j.1
    (jobs_paid js) (head_of j.1) refl (places_count n (fields_of j.1))
    (alone_weight k (n + count (fields_of j.1)) next.body next.bound next.jobs)
    (opened_paid (row e bound (j ∷ js)) j.1 places)
  where
    by_its_head : (r : Row) (n p : ℕ) (places : List ℕ) (t : Tree × ℕ) (pat : Pat) (rest : ℕ)
        {paid_next : ℕ} (o : Option Head) → head_of pat ≡ o → length places ≡ count (fields_of pat)
        → weight t.0 ≤ paid_next → paid_next ≤ expr_size r.body + (paid_all (fields_of pat) + rest)
        → weight (by_head (Body r, n) (λ h. one_branch p h places t) o).0 ≤ expr_size r.body +
        (paid pat + rest)
    by_its_head r n p places t pat rest None is len a b = omega arith
    by_its_head r n p places t pat rest (Some h) is len a b
        = omega (arith, len, a, b, head_paid pat h is)

alone_paid : (n : ℕ) (r : Row) → weight (alone_from n r).0 ≤ row_paid r
alone_paid n r = alone_weight (tests_left r.jobs) n r.body r.bound r.jobs

-- ---- a row that goes into a tree

into_default : (p : ℕ) (bs : Branches) (t : Tree) (k : ℕ) (o : Option (Tree × ℕ)) (u : Tree × ℕ)
    → in_default p bs o ≡ Some u → ((v : Tree × ℕ) → o ≡ Some v → weight v.0 ≤ weight t + k)
    → weight u.0 ≤ weight (Case p bs (ATree t)) + k
into_default p bs t k None u e ih = absurd cc
into_default p bs t k (Some v) u e ih =
    subst (λ (w : Tree × ℕ). weight w.0 ≤ weight (Case p bs (ATree t)) + k)
    (some_is (Case p bs (ATree v.0), v.1) u e) (omega (arith, ih v refl))

new_default : (p : ℕ) (bs : Branches) (n : ℕ) (r : Row) (room : ℕ) (u : Tree × ℕ)
    → or_default room p bs n r None ≡ Some u → weight u.0 ≤ weight (Case p bs NoDefault) + row_paid
    r
new_default p bs n r zero u e = absurd cc
new_default p bs n r (suc room) u e = go (branches_fail bs) e
  where
    go : (b : Bool) → cond b None (in_default p bs (Some (alone_from n r))) ≡ Some u
        → weight u.0 ≤ weight (Case p bs NoDefault) + row_paid r
    go true e = absurd cc
    go false e =
        subst (λ (w : Tree × ℕ). weight w.0 ≤ weight (Case p bs NoDefault) + row_paid r)
        (some_is (Case p bs (ATree (alone_from n r).0), (alone_from n r).1) u e)
        (omega (arith, alone_paid n r))

into_case : (p : ℕ) (bs : Branches) (n : ℕ) (r : Row) (room : ℕ) (o : Option (Branches × ℕ))
    (u : Tree × ℕ) → or_default room p bs n r o ≡ Some u
    → ((v : Branches × ℕ) → o ≡ Some v → branches_weight v.0 ≤ branches_weight bs + row_paid r)
    → weight u.0 ≤ weight (Case p bs NoDefault) + row_paid r
into_case p bs n r room None u e ih = new_default p bs n r room u e
into_case p bs n r room (Some v) u e ih =
    subst (λ (w : Tree × ℕ). weight w.0 ≤ weight (Case p bs NoDefault) + row_paid r)
    (some_is (Case p v.0 NoDefault, v.1) u e) (omega (arith, ih v refl))

into_branch : (g : Head) (ps : List ℕ) (t : Tree) (bs : Branches) (k : ℕ) (o : Option (Tree × ℕ))
    (v : Branches × ℕ) → in_branch g ps bs o ≡ Some v
    → ((x : Tree × ℕ) → o ≡ Some x → weight x.0 ≤ weight t + k)
    → branches_weight v.0 ≤ branches_weight (AndBranch g ps t bs) + k
into_branch g ps t bs k None v e ih = absurd cc
into_branch g ps t bs k (Some x) v e ih =
    subst (λ (w : Branches × ℕ). branches_weight w.0 ≤ branches_weight (AndBranch g ps t bs) + k)
    (some_is (AndBranch g ps x.0 bs, x.1) v e) (omega (arith, ih x refl))

into_later : (g : Head) (ps : List ℕ) (t : Tree) (bs : Branches) (k : ℕ) (o : Option (Branches × ℕ))
    (v : Branches × ℕ) → in_later g ps t o ≡ Some v
    → ((x : Branches × ℕ) → o ≡ Some x → branches_weight x.0 ≤ branches_weight bs + k)
    → branches_weight v.0 ≤ branches_weight (AndBranch g ps t bs) + k
into_later g ps t bs k None v e ih = absurd cc
into_later g ps t bs k (Some x) v e ih =
    subst (λ (w : Branches × ℕ). branches_weight w.0 ≤ branches_weight (AndBranch g ps t bs) + k)
    (some_is (AndBranch g ps t x.0, x.1) v e) (omega (arith, ih x refl))

-- a row pays more before its first test than behind it
less_paid : (p : ℕ) (r : Row) (pat : Pat) (h : Head) (places : List ℕ) → test_at p r.jobs ≡ Some pat
    → head_of pat ≡ Some h → row_paid (opened r pat places) + (16 + count (fields_of pat)) ≤
    row_paid r
less_paid p r pat h places t e = omega
    (arith, opened_paid r pat places, test_paid p r.jobs pat t, head_paid pat h e)

mutual
  pub weight_with : (room : ℕ) (t : Tree) (n : ℕ) (r : Row) (u : Tree × ℕ)
      → insert room t n r ≡ Some u → weight u.0 ≤ weight t + row_paid r
  weight_with room (Body q) n r u e = absurd cc
  weight_with room (Case p bs (ATree t)) n r u e = into_default p bs t (row_paid r)
      (insert (pred room) t n r) u e (λ v h. weight_with (pred room) t n r v h)
  weight_with room (Case p bs NoDefault) n r u e =
      into_case p bs n r (pred room)
      (at_test (λ pat. at_pat (λ h. at_head (insert_branch pat h bs n r) (fits h bs))
      (head_of pat)) (test_at p r.jobs)) u e
      (λ v f. by_test (branches_weight v.0 ≤ branches_weight bs + row_paid r) p bs n r v
      (λ pat h test head k g. branch_weight_with pat h bs n r p test head v g)
      (test_at p r.jobs) refl f)

  branch_weight_with : (pat : Pat) (h : Head) (bs : Branches) (n : ℕ) (r : Row) (p : ℕ)
      → test_at p r.jobs ≡ Some pat → head_of pat ≡ Some h → (v : Branches × ℕ)
      → insert_branch pat h bs n r ≡ Some v → branches_weight v.0 ≤ branches_weight bs + row_paid r
  branch_weight_with pat h NoBranch n r p test e v f =
      let places : List ℕ = places_from n (fields_of pat) in
      let made : Branches × ℕ = new_branch h places
      (alone_from (n + count (fields_of pat)) (opened r pat places)) in
      subst (λ (w : Branches × ℕ). branches_weight w.0 ≤ 0 + row_paid r) (some_is made v f)
      (omega (
        arith,
        alone_paid (n + count (fields_of pat)) (opened r pat places),
        less_paid p r pat h places test e,
        places_count n (fields_of pat),
      ))
  branch_weight_with pat h (AndBranch g ps t bs) n r p test e v f
      = elim (two_ways (same_head g h)) [
        | inl y ↦
            into_branch g ps t bs (row_paid r) (insert max_chained_cases t n (opened r pat ps)) v
            (ap (branch_by (in_branch g ps bs (insert max_chained_cases t n (opened r pat ps)))
            (in_later g ps t (insert_branch pat h bs n r))) (sym y) ∙ f)
            (λ x k. let a : weight x.0 ≤ weight t + row_paid (opened r pat ps)
            = weight_with max_chained_cases t n (opened r pat ps) x k
            in omega (arith, a, less_paid p r pat h ps test e))
        | inr m ↦
            into_later g ps t bs (row_paid r) (insert_branch pat h bs n r) v
            (ap (branch_by (in_branch g ps bs (insert max_chained_cases t n (opened r pat ps)))
            (in_later g ps t (insert_branch pat h bs n r))) (sym m) ∙ f)
            (λ x k. branch_weight_with pat h bs n r p test e x k)
      ]

-- ---- the trees of a function

-- what an equation pays
abbrev pub cost : Equation → ℕ
cost e = equation_size e + 16 * tests_of e.pats

abbrev pub costs : List Equation → ℕ
costs [] = 0
costs (e ∷ es) = cost e + costs es

-- a tree as a function
abbrev pub whole : Decision → ℕ
whole d = 1 + (d.params + weight d.tree)

abbrev pub wholes : List Decision → ℕ
wholes [] = 0
wholes (d ∷ ds) = whole d + wholes ds

row_cost : (e : Equation) → row_paid (row_of e) + (1 + count e.pats) ≤ cost e
row_cost e =
    let places : List ℕ = places_from 0 e.pats in
    omega (
      arith,
      settled_paid e.body [] (pending_patterns_at places e.pats),
      at_paid places e.pats,
      pays_all e.pats,
    )

begun_cost : (k : ℕ) (e : Equation) → whole (begun k e) ≤ cost e
begun_cost k e = omega (arith, alone_paid (count e.pats) (row_of e), row_cost e)

more_cost : (d : Decision) (e : Equation) (t : Tree × ℕ)
    → insert max_chained_cases d.tree d.free (row_of e) ≡ Some t
    → whole (grown d t) ≤ whole d + cost e
more_cost d e t i = omega
    (arith, weight_with max_chained_cases d.tree d.free (row_of e) t i, row_cost e)

decided_cost : (d : Decision) (k : ℕ) (es : List Equation)
    → wholes (decided d k es) ≤ whole d + costs es
decided_cost d k [] = omega arith
decided_cost d k (e ∷ es) =
    by_insert (λ ds. wholes ds ≤ whole d + (cost e + costs es)) d k e es
    (insert max_chained_cases d.tree d.free (row_of e))
    (λ t i. let a : wholes (decided (grown d t) (suc k) es) ≤ whole (grown d t) + costs es
    = decided_cost (grown d t) (suc k) es in omega (arith, a, more_cost d e t i))
    (let a : wholes (decided (begun k e) (suc k) es) ≤ whole (begun k e) + costs es
    = decided_cost (begun k e) (suc k) es in omega (arith, a, begun_cost k e))

pub decisions_cost : (k : ℕ) (es : List Equation) → wholes (decisions_from k es) ≤ costs es
decisions_cost k [] = omega arith
decisions_cost k (e ∷ es) = omega (arith, decided_cost (begun k e) (suc k) es, begun_cost k e)
