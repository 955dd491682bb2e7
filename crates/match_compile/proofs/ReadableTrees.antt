-- The trees that equations go into have names and bodies of equations, whose texts are of their
-- kinds.
use Rattle.std.proofs.Common.{◌≡◌, ℕ, zero, suc, ◌+◌, Bool, true, false, cond, List, [], ◌∷◌, ◌++◌, length, refl, sym, ap, subst, ◌∙◌, Option, Some, None, inl, inr}
use Rattle.seq.specs.Lists.{AllOf}
use Rattle.seq.proofs.Lists.{some_is, all_append}
use Rattle.seq.proofs.Truth.{two_ways}
use Rattle.core_reader.specs.declared.syntax.Binder.{Binder}
use Rattle.core_reader.specs.Tree.{Expr}
use Rattle.core_reader.specs.Words.{IsInRange}
use Rattle.core_reader.specs.Readable.{IsConstructor, IsTextAt, IsBound, ReadableExpr}
use Rattle.match_compile.specs.Source.{Pat, Name, Int, Con, Pats, NoPats, AndPat, Equation}
use Rattle.match_compile.specs.Parts.{count}
use Rattle.match_compile.specs.Heads.{Head, Integer, Constructor, same_head}
use Rattle.match_compile.specs.Readable.{ReadablePat, ReadablePats, ReadableEquation}
use Rattle.match_compile.specs.Sizes.{rows}
use Rattle.match_compile.specs.Trees.{PendingPattern, Row, row, settled, pending_patterns_at, places_from, head_of, fields_of, Tree, Body, Case, Branches, NoBranch, AndBranch, Default, NoDefault, ATree, branches_fail, fits, test_at, later, opened, tests_left, one_branch, by_head, alone, alone_from, in_default, in_branch, in_later, or_default, pred, max_chained_cases, insert, insert_branch}
use Rattle.match_compile.specs.Decisions.{Decision, row_of, begun, grown, decided, decisions_from, all_decisions}
use Rattle.match_compile.proofs.Inserted.{at_head, at_pat, at_test, branch_by, by_test}
use Rattle.match_compile.proofs.Decided.{by_insert}
use Rattle.match_compile.proofs.Grouped.{rows_all}
use Rattle.match_compile.proofs.RowPlaces.{test_is}

module _ (names : List (List ℕ)) where
  abbrev ReadableJobs : List PendingPattern → Type 0
  ReadableJobs [] = Unit {0}
  ReadableJobs (j ∷ js) = ReadablePat names j.1 × ReadableJobs js

  abbrev pub AreBound : List (Binder × ℕ) → Type 0
  AreBound bs = AllOf (λ (b : Binder × ℕ). IsBound names b.0) bs

  pub record ReadableRow (r : Row) : Type 0 where
    pub body : ReadableExpr names r.body
    pub bound : AreBound r.bound
    pub jobs : ReadableJobs r.jobs

  abbrev pub ReadableHead : Head → Type 0
  ReadableHead (Integer k) = IsInRange k
  ReadableHead (Constructor d) = IsTextAt names IsConstructor d

  abbrev mutual
    pub ReadableTree : Tree → Type 0
    ReadableTree (Body r) = ReadableRow r
    ReadableTree (Case p bs o) = ReadableBranches bs × ReadableDefault o

    pub ReadableBranches : Branches → Type 0
    ReadableBranches NoBranch = Unit {0}
    ReadableBranches (AndBranch h ps t bs) = ReadableHead h × ReadableTree t × ReadableBranches bs

    pub ReadableDefault : Default → Type 0
    ReadableDefault NoDefault = Unit {0}
    ReadableDefault (ATree t) = ReadableTree t

  -- ---- rows

  settled_readable : (body : Expr) (bound : List (Binder × ℕ)) (js : List PendingPattern)
      → ReadableExpr names body → AreBound bound → ReadableJobs js
      → ReadableRow (settled body bound js)
  settled_readable body bound [] h g k = record { body = h; bound = g; jobs = k }
  settled_readable body bound ((p, Name b) ∷ js) h g k
      = settled_readable body (bound ++ (b, p) ∷ []) js h
      (all_append (λ (d : Binder × ℕ). IsBound names d.0) bound ((b, p) ∷ []) g (k.0, tt)) k.1
  settled_readable body bound ((p, Int i at) ∷ js) h g k = record { body = h; bound = g; jobs = k }
  settled_readable body bound ((p, Con c ps) ∷ js) h g k = record { body = h; bound = g; jobs = k }

  jobs_readable : (places : List ℕ) (ps : Pats) → ReadablePats names ps
      → ReadableJobs (pending_patterns_at places ps)
  jobs_readable places NoPats h = tt
  jobs_readable [] (AndPat p ps) h = tt
  jobs_readable (x ∷ places) (AndPat p ps) h = (h.0, jobs_readable places ps h.1)

  jobs_joined : (js ks : List PendingPattern) → ReadableJobs js → ReadableJobs ks
      → ReadableJobs (js ++ ks)
  jobs_joined [] ks h g = g
  jobs_joined (j ∷ js) ks h g = (h.0, jobs_joined js ks h.1 g)

  fields_readable : (pat : Pat) → ReadablePat names pat → ReadablePats names (fields_of pat)
  fields_readable (Name b) h = tt
  fields_readable (Int k at) h = tt
  fields_readable (Con c ps) h = h.1

  head_readable : (pat : Pat) (h : Head) → head_of pat ≡ Some h → ReadablePat names pat
      → ReadableHead h
  head_readable (Name b) h e g = absurd cc
  head_readable (Int k at) h e g = subst ReadableHead (some_is e) g
  head_readable (Con c ps) h e g = subst ReadableHead (some_is e) g.0

  pat_readable : (p : ℕ) (r : Row) (pat : Pat) → test_at p r.jobs ≡ Some pat → ReadableRow r
      → ReadablePat names pat × ReadableJobs (later r.jobs)
  pat_readable p r pat t w = subst ReadableJobs (test_is p r.jobs pat t) w.jobs

  opened_readable : (p : ℕ) (r : Row) (pat : Pat) (ps : List ℕ) → test_at p r.jobs ≡ Some pat
      → ReadableRow r → ReadableRow (opened r pat ps)
  opened_readable p r pat ps t w =
      let g = pat_readable p r pat t w in
      settled_readable r.body r.bound (pending_patterns_at ps (fields_of pat) ++ later r.jobs)
      w.body w.bound
      (jobs_joined (pending_patterns_at ps (fields_of pat)) (later r.jobs)
      (jobs_readable ps (fields_of pat) (fields_readable pat g.0)) g.1)

  -- ---- trees

  alone_readable : (k n : ℕ) (body : Expr) (bound : List (Binder × ℕ)) (js : List PendingPattern)
      → ReadableRow (row body bound js) → ReadableTree (alone k n (row body bound js)).0
  alone_readable zero n body bound js w = w
  alone_readable (suc k) n body bound [] w = w
  alone_readable (suc k) n body bound (j ∷ js) w =
      let ps : List ℕ = places_from n (fields_of j.1) in
      let fields : ReadableJobs (pending_patterns_at ps (fields_of j.1))
      = jobs_readable ps (fields_of j.1) (fields_readable j.1 w.jobs.0) in
      let inner : ReadableRow (opened (row body bound (j ∷ js)) j.1 ps)
      = settled_readable body bound (pending_patterns_at ps (fields_of j.1) ++ js) w.body
      w.bound (jobs_joined (pending_patterns_at ps (fields_of j.1)) js fields w.jobs.1) in
      let next : Row = opened (row body bound (j ∷ js)) j.1 ps in
      go (head_of j.1) refl
      (alone_readable k (n + count (fields_of j.1)) next.body next.bound next.jobs inner)
    where
      r : Row
      r = row body bound (j ∷ js)

      places : List ℕ
      places = places_from n (fields_of j.1)

      go : (o : Option Head) → head_of j.1 ≡ o → ReadableTree
          (alone k (n + count (fields_of j.1)) (opened r j.1 places)).0
          → ReadableTree
          (by_head (Body r, n)
          (λ h. one_branch j.0 h places
          (alone k (n + count (fields_of j.1)) (opened r j.1 places))) o).0
      go None e t = w
      go (Some h) e t = ((head_readable j.1 h e w.jobs.0, t, tt), tt)

  alone_from_readable : (n : ℕ) (r : Row) → ReadableRow r → ReadableTree (alone_from n r).0
  alone_from_readable n r w = alone_readable (tests_left r.jobs) n r.body r.bound r.jobs w

  -- ---- a row that goes into a tree

  default_readable : (p : ℕ) (bs : Branches) (o : Option (Tree × ℕ)) (u : Tree × ℕ)
      → ReadableBranches bs → in_default p bs o ≡ Some u
      → ((v : Tree × ℕ) → o ≡ Some v → ReadableTree v.0) → ReadableTree u.0
  default_readable p bs None u f e ih = absurd cc
  default_readable p bs (Some v) u f e ih = subst (λ (w : Tree × ℕ). ReadableTree w.0) (some_is e)
      (f, ih v refl)

  case_readable : (p : ℕ) (bs : Branches) (n : ℕ) (r : Row) (room : ℕ) (o : Option (Branches × ℕ))
      (u : Tree × ℕ) → ReadableBranches bs → ReadableRow r → or_default room p bs n r o ≡ Some u
      → ((v : Branches × ℕ) → o ≡ Some v → ReadableBranches v.0) → ReadableTree u.0
  case_readable p bs n r room (Some v) u f w e ih = subst (λ (x : Tree × ℕ). ReadableTree x.0)
      (some_is e) (ih v refl, tt)
  case_readable p bs n r zero None u f w e ih = absurd cc
  case_readable p bs n r (suc room) None u f w e ih = go (branches_fail bs) e
    where
      go : (b : Bool) → cond b None (in_default p bs (Some (alone_from n r))) ≡ Some u
          → ReadableTree u.0
      go true e = absurd cc
      go false e = subst (λ (x : Tree × ℕ). ReadableTree x.0) (some_is e)
          (f, alone_from_readable n r w)

  branch_readable : (g : Head) (ps : List ℕ) (bs : Branches) (o : Option (Tree × ℕ))
      (v : Branches × ℕ) → ReadableHead g → ReadableBranches bs → in_branch g ps bs o ≡ Some v
      → ((x : Tree × ℕ) → o ≡ Some x → ReadableTree x.0) → ReadableBranches v.0
  branch_readable g ps bs None v h f e ih = absurd cc
  branch_readable g ps bs (Some x) v h f e ih = subst (λ (w : Branches × ℕ). ReadableBranches w.0)
      (some_is e) (h, ih x refl, f)

  later_readable : (g : Head) (ps : List ℕ) (t : Tree) (o : Option (Branches × ℕ))
      (v : Branches × ℕ) → ReadableHead g → ReadableTree t → in_later g ps t o ≡ Some v
      → ((x : Branches × ℕ) → o ≡ Some x → ReadableBranches x.0) → ReadableBranches v.0
  later_readable g ps t None v h f e ih = absurd cc
  later_readable g ps t (Some x) v h f e ih = subst (λ (w : Branches × ℕ). ReadableBranches w.0)
      (some_is e) (h, f, ih x refl)

  mutual
    inserted_readable : (room : ℕ) (t : Tree) (n : ℕ) (r : Row) → ReadableTree t → ReadableRow r
        → (u : Tree × ℕ) → insert room t n r ≡ Some u → ReadableTree u.0
    inserted_readable room (Body q) n r f w u e = absurd cc
    inserted_readable room (Case p bs (ATree t)) n r f w u e
        = default_readable p bs (insert (pred room) t n r) u f.0 e
        (λ v i. inserted_readable (pred room) t n r f.1 w v i)
    inserted_readable room (Case p bs NoDefault) n r f w u e =
        case_readable p bs n r (pred room)
        (at_test (λ pat. at_pat (λ h. at_head (insert_branch pat h bs n r) (fits h bs))
        (head_of pat)) (test_at p r.jobs)) u f.0 w e
        (λ v i. by_test (ReadableBranches v.0) p bs n r v
        (λ pat h test head fit g. sorted_readable pat h bs n r p test head f.0 w v g)
        (test_at p r.jobs) refl i)

    sorted_readable : (pat : Pat) (h : Head) (bs : Branches) (n : ℕ) (r : Row) (p : ℕ)
        → test_at p r.jobs ≡ Some pat → head_of pat ≡ Some h → ReadableBranches bs → ReadableRow r
        → (v : Branches × ℕ) → insert_branch pat h bs n r ≡ Some v → ReadableBranches v.0
    sorted_readable pat h NoBranch n r p test head f w v e =
        let ps : List ℕ = places_from n (fields_of pat) in
        subst (λ (x : Branches × ℕ). ReadableBranches x.0) (some_is e) (
          head_readable pat h head (pat_readable p r pat test w).0,
          alone_from_readable (n + count (fields_of pat)) (opened r pat ps)
              (opened_readable p r pat ps test w),
          tt,
        )
    sorted_readable pat h (AndBranch g ps t bs) n r p test head f w v e
        = elim (two_ways (same_head g h)) [
          | inl y ↦
              branch_readable g ps bs (insert max_chained_cases t n (opened r pat ps)) v f.0 f.2
              (ap (branch_by (in_branch g ps bs (insert max_chained_cases t n (opened r pat ps)))
              (in_later g ps t (insert_branch pat h bs n r))) (sym y) ∙ e)
              (λ x i. inserted_readable max_chained_cases t n (opened r pat ps) f.1
              (opened_readable p r pat ps test w) x i)
          | inr m ↦
              later_readable g ps t (insert_branch pat h bs n r) v f.0 f.1
              (ap (branch_by (in_branch g ps bs (insert max_chained_cases t n (opened r pat ps)))
              (in_later g ps t (insert_branch pat h bs n r))) (sym m) ∙ e)
              (λ x i. sorted_readable pat h bs n r p test head f.2 w x i)
        ]

  -- ---- the trees of a text

  row_readable : (e : Equation) → ReadableEquation names e → ReadableRow (row_of e)
  row_readable e h = settled_readable e.body [] (pending_patterns_at (places_from 0 e.pats) e.pats)
      h.2 tt (jobs_readable (places_from 0 e.pats) e.pats h.1)

  abbrev pub HasReadable : Decision → Type 0
  HasReadable d = ReadableTree d.tree

  begun_readable : (k : ℕ) (e : Equation) → ReadableEquation names e → HasReadable (begun k e)
  begun_readable k e h = alone_from_readable (count e.pats) (row_of e) (row_readable e h)

  decided_readable : (d : Decision) (k : ℕ) (es : List Equation) → HasReadable d
      → AllOf (ReadableEquation names) es → AllOf HasReadable (decided d k es)
  decided_readable d k [] s h = (s, tt)
  decided_readable d k (e ∷ es) s h =
      by_insert (AllOf HasReadable) d k e es (insert max_chained_cases d.tree d.free (row_of e))
      (λ t i. decided_readable (grown d t) (suc k) es
      (inserted_readable max_chained_cases d.tree d.free (row_of e) s (row_readable e h.0) t i)
      h.1)
      (s, decided_readable (begun k e) (suc k) es (begun_readable k e h.0) h.1)

  trees_readable : (k : ℕ) (es : List Equation) → AllOf (ReadableEquation names) es
      → AllOf HasReadable (decisions_from k es)
  trees_readable k [] h = tt
  trees_readable k (e ∷ es) h = decided_readable (begun k e) (suc k) es (begun_readable k e h.0) h.1

  pub all_readable : (k : ℕ) (fs : List (List Equation)) → AllOf (AllOf (ReadableEquation names)) fs
      → AllOf (AllOf HasReadable) (all_decisions k fs)
  all_readable k [] h = tt
  all_readable k (f ∷ fs) h = (
    trees_readable k (rows f) (rows_all (ReadableEquation names) f h.0),
    all_readable (k + length f) fs h.1,
  )
