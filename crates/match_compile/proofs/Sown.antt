-- What holds of the tree that equations go into: its places are known where they are looked at,
-- each
-- row has the names and the body of an equation, and branches have the fields of their
-- constructors.
use Rattle.std.proofs.Common.{◌≡◌, ℕ, zero, suc, ◌+◌, ◌<◌, ◌≤◌, Bool, true, false, cond, List, [], ◌∷◌, ◌++◌, length, refl, sym, ap, subst, ◌∙◌, arith, Option, Some, None, inl, inr, ⊎_elim}
use Rattle.std.specs.Prelude.{◌==◌, ◌&&◌, if◌then◌else◌}
use Rattle.seq.specs.Lists.{AllOf, In, here, there, numbers_from}
use Rattle.seq.proofs.Lists.{all_append, append_nil}
use Rattle.seq.proofs.Counted.{length_numbers}
use Rattle.seq.proofs.Member.{none_in, in_left, in_right, in_split}
use Rattle.seq.proofs.Order.{same_or_not}
use Rattle.seq.proofs.Truth.{two_ways}
use Rattle.core_reader.specs.declared.syntax.Binder.{Binder}
use Rattle.core_reader.specs.Tree.{Expr}
use Rattle.match_compile.specs.Source.{Pat, Name, Int, Con, Equation, Source}
use Rattle.match_compile.specs.Parts.{count, tests_of, names_in, names_of, constructors_in, constructors_of}
use Rattle.match_compile.specs.Rules.{fields_in, Broken, UnknownName, PatternArity}
use Rattle.match_compile.specs.Heads.{Head, Integer, Constructor, same_head, same_kind}
use Rattle.match_compile.specs.Trees.{PendingPattern, Row, row, settled, BeginsWithTest, pending_patterns_at, places_from, head_of, fields_of, Tree, Body, Case, Branches, NoBranch, AndBranch, Default, NoDefault, ATree, branches_fail, test_at, later, opened, tests_left, one_branch, by_head, alone, alone_from, fits, in_default, in_branch, in_later, new_branch, or_default, pred, max_chained_cases, insert, insert_branch}
use Rattle.match_compile.specs.Sizes.{functions, rows}
use Rattle.match_compile.specs.Decisions.{Decision, row_of, begun, grown, decided, decisions_from, all_decisions, decisions}
use Rattle.match_compile.specs.Translated.{is_name, all_bind, branches_bind}
use Rattle.match_compile.proofs.Inserted.{some_is, same_is, settled_is, fewer, no_tests, first_test, at_head, at_pat, at_test, branch_by, by_test}
use Rattle.match_compile.proofs.Decided.{by_insert}
use Rattle.match_compile.proofs.Grouped.{back_all, Differ, all_are, all_of, all_in, rows_all, functions_all, OneName, functions_one, same_count}
use Rattle.match_compile.proofs.RowPlaces.{NotIn, numbers_above, numbers_below, numbers_differ, above_none, differ_open, known_open, not_middle, job_names, job_constructors, job_places, bound_names, bound_places, names_append, places_append, constructors_split, names_at, places_at, constructors_at, bound_names_last, bound_places_last, places_of, settled_places, pat_names, pat_constructors, test_is, unbound_at, and_kept, and_both, and_less, Leaf, leaf_of, opened_leaf, either_side, other_side, row_leaf, leaves, leaves_in}

-- ---- heads

-- of one kind, and no value is accepted by both
abbrev pub Beside : Head → Head → Type 0
Beside g h = (same_head g h ≡ false) × (same_kind g h ≡ true)

abbrev pub AllBeside : Head → Branches → Type 0
AllBeside g NoBranch = Unit {0}
AllBeside g (AndBranch h ps t bs) = Beside g h × AllBeside g bs

abbrev pub EachBeside : Branches → Type 0
EachBeside NoBranch = Unit {0}
EachBeside (AndBranch h ps t bs) = AllBeside h bs × EachBeside bs

-- the branches have the kind of a head
abbrev AllKind : Head → Branches → Type 0
AllKind h NoBranch = Unit {0}
AllKind h (AndBranch g ps t bs) = (same_kind g h ≡ true) × AllKind h bs

kind_over : (g f h : Head) → same_kind g f ≡ true → same_kind g h ≡ true → same_kind f h ≡ true
kind_over (Integer k) (Integer j) (Integer i) e q = refl
kind_over (Integer k) (Integer j) (Constructor d) e q = absurd cc
kind_over (Integer k) (Constructor d) h e q = absurd cc
kind_over (Constructor d) (Integer j) h e q = absurd cc
kind_over (Constructor d) (Constructor f) (Integer i) e q = absurd cc
kind_over (Constructor d) (Constructor f) (Constructor h) e q = refl

kinds_over : (g h : Head) (bs : Branches) → AllBeside g bs → same_kind g h ≡ true → AllKind h bs
kinds_over g h NoBranch a e = tt
kinds_over g h (AndBranch f ps t bs) a e = (kind_over g f h a.0.1 e, kinds_over g h bs a.1 e)

all_fit : (h : Head) (bs : Branches) → EachBeside bs → fits h bs ≡ true → AllKind h bs
all_fit h NoBranch a e = tt
all_fit h (AndBranch g ps t bs) a e = (e, kinds_over g h bs a.0 e)

module _ (c : Source) where
  -- ---- rows

  -- the row is that of an equation, on the way through places that are known
  pub record Comes (ks : List ℕ) (r : Row) : Type 0 where
    pub equation : Equation
    pub is_in : In equation c.equations
    pub body : r.body ≡ equation.body
    pub names : bound_names r.bound ++ job_names r.jobs ≡ names_of equation.pats
    pub constructors : (b : Binder × ℕ) → In b (job_constructors r.jobs)
        → In b (constructors_of equation.pats)
    pub once : Differ (places_of r)
    pub known : AllOf (λ p. In p ks) (places_of r)

  settled_comes : (ks : List ℕ) (body : Expr) (bound : List (Binder × ℕ)) (js : List PendingPattern)
      → Comes ks (row body bound js) → Comes ks (settled body bound js)
  settled_comes ks body bound [] h = h
  settled_comes ks body bound ((p, Int k at) ∷ js) h = h
  settled_comes ks body bound ((p, Con d ps) ∷ js) h = h
  settled_comes ks body bound ((p, Name b) ∷ js) h = settled_comes ks body (bound ++ (b, p) ∷ []) js
      (record {
        equation = h.equation;
        is_in = h.is_in;
        body = h.body;
        names = bound_names_last bound b p (job_names js) ∙ h.names;
        constructors = h.constructors;
        once = subst Differ (sym (bound_places_last bound b p (job_places js))) h.once;
        known = subst (AllOf (λ q. In q ks)) (sym (bound_places_last bound b p (job_places js)))
            h.known;
      })

  first_comes : (ks : List ℕ) (p : ℕ) (r : Row) (pat : Pat) → test_at p r.jobs ≡ Some pat
      → Comes ks r → Comes ks (row r.body r.bound ((p, pat) ∷ later r.jobs))
  first_comes ks p r pat t h = subst (λ js. Comes ks (row r.body r.bound js))
      (test_is p r.jobs pat t) h

  -- behind its first test, whose fields have new places
  opened_comes : (ks : List ℕ) (p : ℕ) (r : Row) (pat : Pat) (h : Head) (ps : List ℕ)
      → test_at p r.jobs ≡ Some pat → head_of pat ≡ Some h → length ps ≡ count (fields_of pat)
      → Differ ps → AllOf (λ q. NotIn q ks) ps → Comes ks r
      → Comes (ps ++ ks) (opened r pat ps)
  opened_comes ks p r pat h ps t e len d n w =
      let f = first_comes ks p r pat t w in
      let fs : List PendingPattern = pending_patterns_at ps (fields_of pat) in
      let js : List PendingPattern = later r.jobs in
      let are : job_places (fs ++ js) ≡ ps ++ job_places js
      = places_append fs js ∙ ap (λ w. w ++ job_places js) (places_at ps (fields_of pat) len) in
      let places : bound_places r.bound ++ job_places (fs ++ js) ≡ bound_places r.bound
      ++ (ps ++ job_places js) = ap (λ w. bound_places r.bound ++ w) are in
      let same : names_in pat ≡ job_names fs = pat_names pat h e ∙ sym
      (names_at ps (fields_of pat) len) in
      settled_comes (ps ++ ks) r.body r.bound (fs ++ js) (record {
        equation = f.equation;
        is_in = f.is_in;
        body = f.body;
        names = ap (λ w. bound_names r.bound ++ w)
            (names_append fs js ∙ ap (λ w. w ++ job_names js) (sym same)) ∙ f.names;
        constructors = λ b i. f.constructors b
            (⊎_elim (λ l. in_left (constructors_in pat) (job_constructors js)
            (pat_constructors pat (constructors_at ps (fields_of pat) l)))
            (λ m. in_right (constructors_in pat) (job_constructors js) m)
            (constructors_split fs js i));
        once = subst Differ (sym places)
            (differ_open (bound_places r.bound) ps (job_places js) ks p f.once d n f.known);
        known = subst (AllOf (λ q. In q (ps ++ ks))) (sym places)
            (known_open (bound_places r.bound) ps (job_places js) ks p f.known);
      })

  -- the place that is looked at is then none of its places
  opened_past : (ks : List ℕ) (p : ℕ) (r : Row) (pat : Pat) (ps : List ℕ)
      → test_at p r.jobs ≡ Some pat → length ps ≡ count (fields_of pat) → NotIn p ps → Comes ks r
      → NotIn p (places_of (opened r pat ps))
  opened_past ks p r pat ps t len n w i =
      let f = first_comes ks p r pat t w in
      let fs : List PendingPattern = pending_patterns_at ps (fields_of pat) in
      let js : List PendingPattern = later r.jobs in
      let are : job_places (fs ++ js) ≡ ps ++ job_places js
      = places_append fs js ∙ ap (λ w. w ++ job_places js) (places_at ps (fields_of pat) len) in
      let places : places_of (opened r pat ps) ≡ bound_places r.bound ++ (ps ++ job_places js)
      = settled_places r.body r.bound (fs ++ js) ∙ ap (λ w. bound_places r.bound ++ w) are in
      let m = not_middle (bound_places r.bound) (job_places js) p f.once in
      ⊎_elim (λ l. m (in_left (bound_places r.bound) (job_places js) l))
      (λ k. ⊎_elim n (λ l. m (in_right (bound_places r.bound) (job_places js) l))
      (in_split ps (job_places js) k))
      (in_split (bound_places r.bound) (ps ++ job_places js) (subst (In p) places i))

  -- and another place that is none of the row's is none then, if it is none of the fields'
  opened_other : (p q : ℕ) (r : Row) (pat : Pat) (ps : List ℕ) → test_at p r.jobs ≡ Some pat
      → length ps ≡ count (fields_of pat) → NotIn q ps → NotIn q (places_of r)
      → NotIn q (places_of (opened r pat ps))
  opened_other p q r pat ps t len n m i =
      let fs : List PendingPattern = pending_patterns_at ps (fields_of pat) in
      let js : List PendingPattern = later r.jobs in
      let are : job_places (fs ++ js) ≡ ps ++ job_places js
      = places_append fs js ∙ ap (λ w. w ++ job_places js) (places_at ps (fields_of pat) len) in
      let places : places_of (opened r pat ps) ≡ bound_places r.bound ++ (ps ++ job_places js)
      = settled_places r.body r.bound (fs ++ js) ∙ ap (λ w. bound_places r.bound ++ w) are in
      ⊎_elim (λ l. m (in_left (bound_places r.bound) (job_places r.jobs) l))
      (λ k. ⊎_elim n
      (λ l. m (in_right (bound_places r.bound) (job_places r.jobs)
      (subst (λ w. In q (job_places w)) (sym (test_is p r.jobs pat t)) (there l))))
      (in_split ps (job_places js) k))
      (in_split (bound_places r.bound) (ps ++ job_places js) (subst (In q) places i))

  -- ---- fields

  -- a constructor is declared with so many fields; an integer has none
  abbrev pub Suits : Head → ℕ → Type 0
  Suits (Integer k) n = n ≡ 0
  Suits (Constructor d) n = fields_in c.constructors d ≡ Some n

  suits_same : (g h : Head) (n m : ℕ) → same_head g h ≡ true → Suits g n → Suits h m → n ≡ m
  suits_same g h n m e s t = go h (subst (λ w. Suits w n) (same_is g h e) s) t
    where
      go : (h : Head) → Suits h n → Suits h m → n ≡ m
      go (Integer k) a b = a ∙ sym b
      go (Constructor d) a b = some_is n m (sym a ∙ b)

  module _ (unbroken : (k at : ℕ) → Broken c k at → ⊥) where
    pub declared : {e : Equation} → In e c.equations → (d : Binder) (n : ℕ)
        → In (d, n) (constructors_of e.pats) → fields_in c.constructors d.name.0 ≡ Some n
    declared {e = e} i d n h = go (fields_in c.constructors d.name.0) refl
      where
        go : (o : Option ℕ) → fields_in c.constructors d.name.0 ≡ o
            → fields_in c.constructors d.name.0 ≡ Some n
        go None q = absurd (unbroken 14 d.at (UnknownName i h q))
        go (Some m) q = elim (same_or_not m n) [
          | inl same ↦ q ∙ ap Some same
          | inr differs ↦ absurd (unbroken 73 d.at (PatternArity i h q differs))
        ]

    test_suits : (ks : List ℕ) (p : ℕ) (r : Row) (pat : Pat) (h : Head)
        → test_at p r.jobs ≡ Some pat → head_of pat ≡ Some h → Comes ks r
        → Suits h (count (fields_of pat))
    test_suits ks p r pat h t e w =
        let f = first_comes ks p r pat t w in
        go f.equation f.is_in pat h e
        (λ b i. f.constructors b
        (in_left (constructors_in pat) (job_constructors (later r.jobs)) i))
      where
        go : (q : Equation) → In q c.equations → (pat : Pat) (h : Head) → head_of pat ≡ Some h
            → ((b : Binder × ℕ) → In b (constructors_in pat) → In b (constructors_of q.pats))
            → Suits h (count (fields_of pat))
        go q i (Name b) h e g = absurd cc
        go q i (Int k at) (Integer j) e g = refl
        go q i (Int k at) (Constructor d) e g = absurd cc
        go q i (Con d ps) (Integer j) e g = absurd cc
        go q i (Con d ps) (Constructor f) e g = let same : d.name.0 ≡ f = cc
            in ap (fields_in c.constructors) (sym same) ∙ declared i d (count ps)
            (g (d, count ps) here)

  -- ---- trees

  abbrev mutual
    -- places below n are in use
    pub Fine : (n : ℕ) → List ℕ → Tree → Type 0
    Fine n ks (Body r) = Comes ks r × (r.jobs ≡ [])
    Fine n ks (Case p bs o) = In p ks × ((x : ℕ) → branches_bind p x bs ≡ false) × EachBeside bs
        × FineBranches n ks bs × FineDefault n ks o

    pub FineBranches : (n : ℕ) → List ℕ → Branches → Type 0
    FineBranches n ks NoBranch = Unit {0}
    FineBranches n ks (AndBranch h ps t bs) =
        Suits h (length ps) × Differ ps × AllOf (λ p. NotIn p ks) ps × AllOf (λ p. p < n) ps
        × Fine n (ps ++ ks) t × FineBranches n ks bs

    pub FineDefault : (n : ℕ) → List ℕ → Default → Type 0
    FineDefault n ks NoDefault = Unit {0}
    FineDefault n ks (ATree t) = Fine n ks t

  below_more : (n m : ℕ) (ps : List ℕ) → n ≤ m → AllOf (λ p. p < n) ps → AllOf (λ p. p < m) ps
  below_more n m ps le h = all_are (λ p. p < n) (λ p. p < m) (λ p lt. omega (arith, le, lt)) ps h

  mutual
    fine_more : (n m : ℕ) (ks : List ℕ) (t : Tree) → n ≤ m → Fine n ks t → Fine m ks t
    fine_more n m ks (Body r) le f = f
    fine_more n m ks (Case p bs o) le f =
        (f.0, f.1, f.2, branches_more n m ks bs le f.3, default_more n m ks o le f.4)

    branches_more : (n m : ℕ) (ks : List ℕ) (bs : Branches) → n ≤ m → FineBranches n ks bs
        → FineBranches m ks bs
    branches_more n m ks NoBranch le f = tt
    branches_more n m ks (AndBranch h ps t bs) le f
        = (
          f.0,
          f.1,
          f.2,
          below_more n m ps le f.3,
          fine_more n m (ps ++ ks) t le f.4,
          branches_more n m ks bs le f.5,
        )

    default_more : (n m : ℕ) (ks : List ℕ) (o : Default) → n ≤ m → FineDefault n ks o
        → FineDefault m ks o
    default_more n m ks NoDefault le f = tt
    default_more n m ks (ATree t) le f = fine_more n m ks t le f

  -- the tree of one row
  record Alone (n : ℕ) (ks : List ℕ) (r : Row) (t : Tree × ℕ) : Type 0 where
    fine : Fine t.1 ks t.0
    more : n ≤ t.1
    free : (p x : ℕ) → p < n → NotIn p (places_of r) → all_bind p x t.0 ≡ false
    leaf : In (leaf_of r) (leaves t.0)

  -- ---- a row that went into a tree

  record Sown (n : ℕ) (ks : List ℕ) (r : Row) (t : Tree) (u : Tree × ℕ) : Type 0 where
    fine : Fine u.1 ks u.0
    more : n ≤ u.1
    kept : (p x : ℕ) → all_bind p x t ≡ false → all_bind p x u.0 ≡ false
    old : (l : Leaf) → In l (leaves t) → In l (leaves u.0)
    leaf : In (leaf_of r) (leaves u.0)

  record SownIn (n : ℕ) (ks : List ℕ) (r : Row) (h : Head) (bs : Branches) (v : Branches × ℕ)
      : Type 0 where
    fine : FineBranches v.1 ks v.0
    more : n ≤ v.1
    kept : (p x : ℕ) → branches_bind p x bs ≡ false → branches_bind p x v.0 ≡ false
    beside : (g : Head) → AllBeside g bs → Beside g h → AllBeside g v.0
    each : EachBeside bs → AllKind h bs → EachBeside v.0
    old : (l : Leaf) → In l (leaves_in bs) → In l (leaves_in v.0)
    leaf : In (leaf_of r) (leaves_in v.0)

  module _ (unbroken : (k at : ℕ) → Broken c k at → ⊥) where
    -- the fields of a first test get places that are free
    record Opened (n : ℕ) (ks : List ℕ) (p : ℕ) (r : Row) (pat : Pat) (h : Head) : Type 0 where
      suits : Suits h (length (places_from n (fields_of pat)))
      count_is : length (places_from n (fields_of pat)) ≡ count (fields_of pat)
      differ : Differ (places_from n (fields_of pat))
      new : AllOf (λ q. NotIn q ks) (places_from n (fields_of pat))
      below : AllOf (λ q. q < n + count (fields_of pat)) (places_from n (fields_of pat))
      under : AllOf (λ q. q < n + count (fields_of pat)) (places_from n (fields_of pat) ++ ks)
      comes : Comes (places_from n (fields_of pat) ++ ks)
          (opened r pat (places_from n (fields_of pat)))
      past : (q : ℕ) → q < n → NotIn q (places_from n (fields_of pat))
      leaf : leaf_of (opened r pat (places_from n (fields_of pat))) ≡ leaf_of r

    opens : (n : ℕ) (ks : List ℕ) (p : ℕ) (r : Row) (pat : Pat) (h : Head) → AllOf (λ q. q < n) ks
        → test_at p r.jobs ≡ Some pat → head_of pat ≡ Some h → Comes ks r → Opened n ks p r pat h
    opens n ks p r pat h low t e w =
        let k : ℕ = count (fields_of pat) in
        let ps : List ℕ = places_from n (fields_of pat) in
        let len : length ps ≡ k = length_numbers n k in
        let new = above_none n ps ks (numbers_above n k) low in
        record {
          suits = subst (Suits h) (sym len) (test_suits unbroken ks p r pat h t e w);
          count_is = len;
          differ = numbers_differ n k;
          new = new;
          below = numbers_below n k;
          under = all_append (λ q. q < n + k) ps ks (numbers_below n k)
              (below_more n (n + k) ks (omega arith) low);
          comes = opened_comes ks p r pat h ps t e len (numbers_differ n k) new w;
          past = λ q lt i. let le : n ≤ q = all_of (λ q. n ≤ q) ps (numbers_above n k) i
              in omega (arith, le, lt);
          leaf = opened_leaf p r pat h ps t e len;
        }

    one_case : (n : ℕ) (ks : List ℕ) (p : ℕ) (r : Row) (pat : Pat) (h : Head) (t : Tree × ℕ)
        → AllOf (λ q. q < n) ks → In p ks → test_at p r.jobs ≡ Some pat → Comes ks r
        → Opened n ks p r pat h
        → Alone (n + count (fields_of pat)) (places_from n (fields_of pat) ++ ks)
        (opened r pat (places_from n (fields_of pat))) t
        → Alone n ks r (one_branch p h (places_from n (fields_of pat)) t)
    one_case n ks p r pat h t low i test w o a =
        let k : ℕ = count (fields_of pat) in
        let ps : List ℕ = places_from n (fields_of pat) in
        let le : n + k ≤ t.1 = a.more in
        let lt : p < n = all_of (λ q. q < n) ks low i in
        let only : (q x : ℕ) → q < n → NotIn q (places_of (opened r pat ps))
        → branches_bind q x (AndBranch h ps t.0 NoBranch) ≡ false
        = λ q x l m. and_kept true (all_bind q x t.0) (all_bind q x t.0 && true)
        (λ f. ap (λ b. b && true) f) (a.free q x (omega (arith, l)) m) in
        record {
          fine = (
            i,
            (λ x. only p x lt (opened_past ks p r pat ps test o.count_is (o.past p lt) w)),
            (tt, tt),
            (o.suits, o.differ, o.new, below_more (n + k) t.1 ps le o.below, a.fine, tt),
            tt,
          );
          more = omega (arith, le);
          free = λ q x l m. ap (λ b. b && true)
              (only q x l (opened_other p q r pat ps test o.count_is (o.past q l) m));
          leaf = in_left (leaves t.0 ++ []) []
              (in_left (leaves t.0) [] (subst (λ w. In w (leaves t.0)) o.leaf a.leaf));
        }

    body_alone : (n : ℕ) (ks : List ℕ) (body : Expr) (bound : List (Binder × ℕ))
        → Comes ks (row body bound []) → Alone n ks (row body bound [])
        (Body (row body bound []), n)
    body_alone n ks body bound w = record {
      fine = (w, refl);
      more = omega arith;
      free = λ p x lt m. ap (is_name x)
          (unbound_at p bound (λ i. m (in_left (bound_places bound) [] i)));
      leaf = subst (λ (w : List Binder). In {X = Leaf} (body, w) ((body, bound_names bound) ∷ []))
          (sym (append_nil (bound_names bound))) here;
    }

    alone_fine : (k n : ℕ) (ks : List ℕ) (body : Expr) (bound : List (Binder × ℕ))
        (js : List PendingPattern) → AllOf (λ q. q < n) ks → BeginsWithTest js → tests_left js ≤ k
        → Comes ks (row body bound js) → Alone n ks (row body bound js)
        (alone k n (row body bound js))
    alone_fine zero n ks body bound [] low s l w = body_alone n ks body bound w
    alone_fine zero n ks body bound (j ∷ js) low s l w = absurd (no_tests j js s.0 s.1 l)
    alone_fine (suc k) n ks body bound [] low s l w = body_alone n ks body bound w
    alone_fine (suc k) n ks body bound (j ∷ js) low s l w =
        let r : Row = row body bound (j ∷ js) in
        let ps : List ℕ = places_from n (fields_of j.1) in
        let next : Row = opened r j.1 ps in
        let test = first_test j js in
        let o = opens n ks j.0 r j.1 s.0 low test s.1 w in
        let inner = alone_fine k (n + count (fields_of j.1)) (ps ++ ks) next.body next.bound
        next.jobs o.under (settled_is body bound (pending_patterns_at ps (fields_of j.1) ++ js))
        (fewer body bound j js ps s.0 k s.1 l) o.comes in
        let i : In j.0 ks =
        (back_all (λ q. In q ks) (bound_places bound) (j.0 ∷ job_places js) w.known).0 in
        subst (λ g. Alone n ks r
        (by_head (Body r, n)
        (λ h. one_branch j.0 h ps (alone k (n + count (fields_of j.1)) next)) g)) (sym s.1)
        (one_case n ks j.0 r j.1 s.0 (alone k (n + count (fields_of j.1)) next) low i test w o
        inner)

    alone_sown : (n : ℕ) (ks : List ℕ) (r : Row) → AllOf (λ q. q < n) ks → BeginsWithTest r.jobs
        → Comes ks r → Alone n ks r (alone_from n r)
    alone_sown n ks r low s w = alone_fine (tests_left r.jobs) n ks r.body r.bound r.jobs low s
        (omega arith) w

    sown_default : (n : ℕ) (ks : List ℕ) (p : ℕ) (bs : Branches) (t : Tree) (r : Row)
        (o : Option (Tree × ℕ)) (u : Tree × ℕ) → Fine n ks (Case p bs (ATree t))
        → in_default p bs o ≡ Some u → ((v : Tree × ℕ) → o ≡ Some v → Sown n ks r t v)
        → Sown n ks r (Case p bs (ATree t)) u
    sown_default n ks p bs t r None u f e ih = absurd cc
    sown_default n ks p bs t r (Some v) u f e ih =
        let s = ih v refl in
        subst (Sown n ks r (Case p bs (ATree t))) (some_is (Case p bs (ATree v.0), v.1) u e)
        (record {
          fine = (f.0, f.1, f.2, branches_more n v.1 ks bs s.more f.3, s.fine);
          more = s.more;
          kept = λ q x h. and_kept (branches_bind q x bs) (all_bind q x t) (all_bind q x v.0)
              (s.kept q x) h;
          old = λ l i. either_side (leaves_in bs) (leaves t) (leaves v.0) l (s.old l) i;
          leaf = in_right (leaves_in bs) (leaves v.0) s.leaf;
        })

    sown_new : (n : ℕ) (ks : List ℕ) (p : ℕ) (bs : Branches) (r : Row) (room : ℕ) (u : Tree × ℕ)
        → Fine n ks (Case p bs NoDefault) → AllOf (λ q. q < n) ks → BeginsWithTest r.jobs
        → Comes ks r → or_default room p bs n r None ≡ Some u → Sown n ks r (Case p bs NoDefault) u
    sown_new n ks p bs r zero u f low s w e = absurd cc
    sown_new n ks p bs r (suc room) u f low s w e = go (branches_fail bs) e
      where
        go : (b : Bool) → cond b None (in_default p bs (Some (alone_from n r))) ≡ Some u
            → Sown n ks r (Case p bs NoDefault) u
        go true e = absurd cc
        go false e =
            let t : Tree × ℕ = alone_from n r in
            let a = alone_sown n ks r low s w in
            subst (Sown n ks r (Case p bs NoDefault)) (some_is (Case p bs (ATree t.0), t.1) u e)
            (record {
              fine = (f.0, f.1, f.2, branches_more n t.1 ks bs a.more f.3, a.fine);
              more = a.more;
              kept = λ q x h. and_less (branches_bind q x bs) (all_bind q x t.0) h;
              old = λ l i. either_side (leaves_in bs) [] (leaves t.0) l none_in i;
              leaf = in_right (leaves_in bs) (leaves t.0) a.leaf;
            })

    sown_case : (n : ℕ) (ks : List ℕ) (p : ℕ) (bs : Branches) (r : Row) (room : ℕ)
        (o : Option (Branches × ℕ)) (u : Tree × ℕ) → Fine n ks (Case p bs NoDefault)
        → AllOf (λ q. q < n) ks → BeginsWithTest r.jobs → Comes ks r
        → or_default room p bs n r o ≡ Some u
        → ((v : Branches × ℕ) → o ≡ Some v → (h : Head) × AllKind h bs × SownIn n ks r h bs v)
        → Sown n ks r (Case p bs NoDefault) u
    sown_case n ks p bs r room None u f low s w e ih = sown_new n ks p bs r room u f low s w e
    sown_case n ks p bs r room (Some v) u f low s w e ih =
        let i = ih v refl in
        let g = i.2 in
        subst (Sown n ks r (Case p bs NoDefault)) (some_is (Case p v.0 NoDefault, v.1) u e)
        (record {
          fine = (f.0, (λ x. g.kept p x (f.1 x)), g.each f.2 i.1, g.fine, tt);
          more = g.more;
          kept = λ q x h. and_both (branches_bind q x bs) (branches_bind q x v.0) true true
              (g.kept q x) (λ z. z) h;
          old = λ l k. other_side (leaves_in bs) (leaves_in v.0) [] l (g.old l) k;
          leaf = in_left (leaves_in v.0) [] g.leaf;
        })

    sown_branch : (n : ℕ) (ks : List ℕ) (g h : Head) (ps : List ℕ) (t : Tree) (bs : Branches)
        (r w : Row) → leaf_of w ≡ leaf_of r → (o : Option (Tree × ℕ)) (v : Branches × ℕ)
        → FineBranches n ks (AndBranch g ps t bs) → in_branch g ps bs o ≡ Some v
        → ((x : Tree × ℕ) → o ≡ Some x → Sown n (ps ++ ks) w t x)
        → SownIn n ks r h (AndBranch g ps t bs) v
    sown_branch n ks g h ps t bs r w same None v f e ih = absurd cc
    sown_branch n ks g h ps t bs r w same (Some x) v f e ih =
        let s = ih x refl in
        subst (SownIn n ks r h (AndBranch g ps t bs)) (some_is (AndBranch g ps x.0 bs, x.1) v e)
        (record {
          fine = (
            f.0,
            f.1,
            f.2,
            below_more n x.1 ps s.more f.3,
            s.fine,
            branches_more n x.1 ks bs s.more f.5,
          );
          more = s.more;
          kept = λ q y z. and_both (all_bind q y t) (all_bind q y x.0) (branches_bind q y bs)
              (branches_bind q y bs) (s.kept q y) (λ w. w) z;
          beside = λ k a b. a;
          each = λ e k. e;
          old = λ l i. other_side (leaves t) (leaves x.0) (leaves_in bs) l (s.old l) i;
          leaf = in_left (leaves x.0) (leaves_in bs) (subst (λ z. In z (leaves x.0)) same s.leaf);
        })

    sown_later : (n : ℕ) (ks : List ℕ) (g h : Head) (ps : List ℕ) (t : Tree) (bs : Branches)
        (r : Row) (o : Option (Branches × ℕ)) (v : Branches × ℕ) → same_head g h ≡ false
        → FineBranches n ks (AndBranch g ps t bs) → in_later g ps t o ≡ Some v
        → ((x : Branches × ℕ) → o ≡ Some x → SownIn n ks r h bs x)
        → SownIn n ks r h (AndBranch g ps t bs) v
    sown_later n ks g h ps t bs r None v m f e ih = absurd cc
    sown_later n ks g h ps t bs r (Some x) v m f e ih =
        let s = ih x refl in
        subst (SownIn n ks r h (AndBranch g ps t bs)) (some_is (AndBranch g ps t x.0, x.1) v e)
        (record {
          fine = (
            f.0,
            f.1,
            f.2,
            below_more n x.1 ps s.more f.3,
            fine_more n x.1 (ps ++ ks) t s.more f.4,
            s.fine,
          );
          more = s.more;
          kept = λ q y z. and_kept (all_bind q y t) (branches_bind q y bs) (branches_bind q y x.0)
              (s.kept q y) z;
          beside = λ k a b. (a.0, s.beside k a.1 b);
          each = λ a k. (s.beside g a.0 (m, k.0), s.each a.1 k.1);
          old = λ l i. either_side (leaves t) (leaves_in bs) (leaves_in x.0) l (s.old l) i;
          leaf = in_right (leaves t) (leaves_in x.0) s.leaf;
        })

    sown_first : (n : ℕ) (ks : List ℕ) (p : ℕ) (r : Row) (pat : Pat) (h : Head) (t : Tree × ℕ)
        → Opened n ks p r pat h → Alone (n + count (fields_of pat))
        (places_from n (fields_of pat) ++ ks) (opened r pat (places_from n (fields_of pat))) t
        → SownIn n ks r h NoBranch (new_branch h (places_from n (fields_of pat)) t)
    sown_first n ks p r pat h t o a =
        let le : n + count (fields_of pat) ≤ t.1 = a.more in
        record {
          fine = (
            o.suits,
            o.differ,
            o.new,
            below_more (n + count (fields_of pat)) t.1
                (places_from n (fields_of pat)) le o.below,
            a.fine,
            tt,
          );
          more = omega (arith, le);
          kept = λ q x e. absurd cc;
          beside = λ g a b. (b, tt);
          each = λ a k. (tt, tt);
          old = λ l i. none_in i;
          leaf = in_left (leaves t.0) [] (subst (λ w. In w (leaves t.0)) o.leaf a.leaf);
        }

    mutual
      sown : (room : ℕ) (t : Tree) (n : ℕ) (r : Row) (ks : List ℕ) → AllOf (λ q. q < n) ks
          → BeginsWithTest r.jobs → Fine n ks t → Comes ks r → (u : Tree × ℕ)
          → insert room t n r ≡ Some u → Sown n ks r t u
      sown room (Body q) n r ks low s f w u e = absurd cc
      sown room (Case p bs (ATree t)) n r ks low s f w u e
          = sown_default n ks p bs t r (insert (pred room) t n r) u f e
          (λ v i. sown (pred room) t n r ks low s f.4 w v i)
      sown room (Case p bs NoDefault) n r ks low s f w u e =
          sown_case n ks p bs r (pred room)
          (at_test (λ pat. at_pat (λ h. at_head (insert_branch pat h bs n r) (fits h bs))
          (head_of pat)) (test_at p r.jobs)) u f low s w e
          (λ v i. by_test ((h : Head) × AllKind h bs × SownIn n ks r h bs v) p bs n r v
          (λ pat h test head fit g.
          (h, all_fit h bs f.2 fit, sown_in pat h bs n r p ks low test head f.3 w v g))
          (test_at p r.jobs) refl i)

      sown_in : (pat : Pat) (h : Head) (bs : Branches) (n : ℕ) (r : Row) (p : ℕ) (ks : List ℕ)
          → AllOf (λ q. q < n) ks → test_at p r.jobs ≡ Some pat → head_of pat ≡ Some h
          → FineBranches n ks bs → Comes ks r → (v : Branches × ℕ)
          → insert_branch pat h bs n r ≡ Some v → SownIn n ks r h bs v
      sown_in pat h NoBranch n r p ks low test head f w v e =
          let ps : List ℕ = places_from n (fields_of pat) in
          let o = opens n ks p r pat h low test head w in
          let next : Row = opened r pat ps in
          let a = alone_sown (n + count (fields_of pat)) (ps ++ ks) next o.under
          (settled_is r.body r.bound (pending_patterns_at ps (fields_of pat) ++ later r.jobs))
          o.comes in
          subst (SownIn n ks r h NoBranch)
          (some_is (new_branch h ps (alone_from (n + count (fields_of pat)) next)) v e)
          (sown_first n ks p r pat h (alone_from (n + count (fields_of pat)) next) o a)
      sown_in pat h (AndBranch g ps t bs) n r p ks low test head f w v e
          = elim (two_ways (same_head g h)) [
            | inl y ↦
                let len : length ps ≡ count (fields_of pat)
                = suits_same g h (length ps) (count (fields_of pat)) y f.0
                (test_suits unbroken ks p r pat h test head w) in
                sown_branch n ks g h ps t bs r (opened r pat ps)
                (opened_leaf p r pat h ps test head len)
                (insert max_chained_cases t n (opened r pat ps)) v f
                (ap (branch_by (in_branch g ps bs (insert max_chained_cases t n (opened r pat ps)))
                (in_later g ps t (insert_branch pat h bs n r))) (sym y) ∙ e)
                (λ x i. sown max_chained_cases t n (opened r pat ps) (ps ++ ks)
                (all_append (λ q. q < n) ps ks f.3 low)
                (settled_is r.body r.bound (pending_patterns_at ps (fields_of pat) ++ later r.jobs))
                f.4 (opened_comes ks p r pat h ps test head len f.1 f.2 w) x i)
            | inr m ↦
                sown_later n ks g h ps t bs r (insert_branch pat h bs n r) v m f
                (ap (branch_by (in_branch g ps bs (insert max_chained_cases t n (opened r pat ps)))
                (in_later g ps t (insert_branch pat h bs n r))) (sym m) ∙ e)
                (λ x i. sown_in pat h bs n r p ks low test head f.5 w x i)
          ]

    -- ---- the trees of the text

    row_comes : (e : Equation) → In e c.equations → Comes (numbers_from 0 (count e.pats)) (row_of e)
    row_comes e i =
        let n : ℕ = count e.pats in
        let ps : List ℕ = numbers_from 0 n in
        let len : length ps ≡ n = length_numbers 0 n in
        settled_comes ps e.body [] (pending_patterns_at ps e.pats) (record {
          equation = e;
          is_in = i;
          body = refl;
          names = names_at ps e.pats len;
          constructors = λ b h. constructors_at ps e.pats h;
          once = subst Differ (sym (places_at ps e.pats len)) (numbers_differ 0 n);
          known = subst (AllOf (λ p. In p ps)) (sym (places_at ps e.pats len)) (all_in ps);
        })

  -- one of these trees has the leaf
  pub record HasLeaf (ds : List Decision) (l : Leaf) : Type 0 where
    pub decision : Decision
    pub is_in : In decision ds
    pub leaf : In l (leaves decision.tree)

  leaf_behind : (d : Decision) (ds : List Decision) (l : Leaf) → HasLeaf ds l → HasLeaf (d ∷ ds) l
  leaf_behind d ds l h = record { decision = h.decision; is_in = there h.is_in; leaf = h.leaf }

  -- a tree with what holds of it
  pub record Stood (d : Decision) : Type 0 where
    pub first : Equation
    pub is_in : In first c.equations
    pub name : d.name ≡ first.name
    pub params : d.params ≡ count first.pats
    pub low : d.params ≤ d.free
    pub fine : Fine d.free (numbers_from 0 d.params) d.tree

  module _ (unbroken : (k at : ℕ) → Broken c k at → ⊥) where
    params_low : (n m : ℕ) → n ≤ m → AllOf (λ q. q < m) (numbers_from 0 n)
    params_low n m le = all_are (λ q. q < 0 + n) (λ q. q < m) (λ q lt. omega (arith, lt, le))
        (numbers_from 0 n) (numbers_below 0 n)

    begun_stood : (k : ℕ) (e : Equation) → In e c.equations → Stood (begun k e)
    begun_stood k e i =
        let n : ℕ = count e.pats in
        let a = alone_sown unbroken n (numbers_from 0 n) (row_of e) (params_low n n (omega arith))
        (settled_is e.body [] (pending_patterns_at (places_from 0 e.pats) e.pats))
        (row_comes unbroken e i) in
        record { first = e; is_in = i; name = refl; params = refl; low = a.more; fine = a.fine }

    equation_sown : (d : Decision) (e : Equation) (t : Tree × ℕ) → Stood d → In e c.equations
        → count e.pats ≡ d.params → insert max_chained_cases d.tree d.free (row_of e) ≡ Some t
        → Sown d.free (numbers_from 0 d.params) (row_of e) d.tree t
    equation_sown d e t s i n q =
        let w : Comes (numbers_from 0 d.params) (row_of e)
        = subst (λ n. Comes (numbers_from 0 n) (row_of e)) n (row_comes unbroken e i) in
        sown unbroken max_chained_cases d.tree d.free (row_of e) (numbers_from 0 d.params)
        (params_low d.params d.free s.low)
        (settled_is e.body [] (pending_patterns_at (places_from 0 e.pats) e.pats)) s.fine w t q

    grown_stood : (d : Decision) (e : Equation) (t : Tree × ℕ) → Stood d → In e c.equations
        → count e.pats ≡ d.params → insert max_chained_cases d.tree d.free (row_of e) ≡ Some t
        → Stood (grown d t)
    grown_stood d e t s i n q =
        let le : d.params ≤ d.free = s.low in
        let g = equation_sown d e t s i n q in
        let more : d.free ≤ t.1 = g.more in
        record {
          first = s.first;
          is_in = s.is_in;
          name = s.name;
          params = s.params;
          low
              = omega (arith, le, more);
          fine = g.fine;
        }

    -- an equation of the text with so many patterns
    abbrev pub Takes : ℕ → Equation → Type 0
    Takes n e = In e c.equations × (count e.pats ≡ n)

    decided_stood : (d : Decision) (k : ℕ) (es : List Equation) → Stood d
        → AllOf (Takes d.params) es → AllOf Stood (decided d k es)
    decided_stood d k [] s h = (s, tt)
    decided_stood d k (e ∷ es) s h =
        by_insert (AllOf Stood) d k e es (insert max_chained_cases d.tree d.free (row_of e))
        (λ t i. decided_stood (grown d t) (suc k) es (grown_stood d e t s h.0.0 h.0.1 i) h.1) (
          s,
          decided_stood (begun k e) (suc k) es (begun_stood k e h.0.0)
              (all_are (Takes d.params) (Takes (count e.pats)) (λ f g. (g.0, g.1 ∙ sym h.0.1)) es
              h.1),
        )

    begun_leaf : (k : ℕ) (e : Equation) → In e c.equations
        → In (e.body, names_of e.pats) (leaves (begun k e).tree)
    begun_leaf k e i =
        let n : ℕ = count e.pats in
        let a = alone_sown unbroken n (numbers_from 0 n) (row_of e) (params_low n n (omega arith))
        (settled_is e.body [] (pending_patterns_at (places_from 0 e.pats) e.pats))
        (row_comes unbroken e i) in
        subst (λ l. In l (leaves (begun k e).tree)) (row_leaf e) a.leaf

    -- the leaves that there are stay, and each equation has one
    decided_leaves : (d : Decision) (k : ℕ) (es : List Equation) → Stood d
        → AllOf (Takes d.params) es
        → ((l : Leaf) → In l (leaves d.tree) → HasLeaf (decided d k es) l)
        × AllOf (λ e. HasLeaf (decided d k es) (e.body, names_of e.pats)) es
    decided_leaves d k [] s h = ((λ l i. record { decision = d; is_in = here; leaf = i }), tt)
    decided_leaves d k (e ∷ es) s h =
        by_insert
        (λ ds. ((l : Leaf) → In l (leaves d.tree) → HasLeaf ds l)
        × AllOf (λ e. HasLeaf ds (e.body, names_of e.pats)) (e ∷ es)) d k e es
        (insert max_chained_cases d.tree d.free (row_of e))
        (λ t i.
        let g = equation_sown d e t s h.0.0 h.0.1 i in
        let r = decided_leaves (grown d t) (suc k) es (grown_stood d e t s h.0.0 h.0.1 i) h.1 in (
          (λ l j. r.0 l (g.old l j)),
          (
            r.0 (e.body, names_of e.pats) (subst (λ l. In l (leaves t.0)) (row_leaf e) g.leaf),
            r.1,
          ),
        ))
        (let r = decided_leaves (begun k e) (suc k) es (begun_stood k e h.0.0)
        (all_are (Takes d.params) (Takes (count e.pats)) (λ f g. (g.0, g.1 ∙ sym h.0.1)) es h.1)
        in
        let ds : List Decision = decided (begun k e) (suc k) es in (
          (λ l i. record { decision = d; is_in = here; leaf = i }),
          (
            leaf_behind d ds (e.body, names_of e.pats)
                (r.0 (e.body, names_of e.pats) (begun_leaf k e h.0.0)),
            all_are (λ (f : Equation). HasLeaf ds (f.body, names_of f.pats))
                (λ (f : Equation). HasLeaf (d ∷ ds) (f.body, names_of f.pats))
                (λ f x. leaf_behind d ds (f.body, names_of f.pats) x) es r.1,
          ),
        ))

    -- equations of one name with the same number of patterns
    pub takes_all : (e : Equation) (es : List Equation) → AllOf (λ e. In e c.equations) (e ∷ es)
        → OneName (e ∷ es) → AllOf (Takes (count e.pats)) (e ∷ es)
    takes_all e es h o = ((h.0, refl), both_are es h.1 o)
      where
        both_are : (es : List Equation) → AllOf (λ e. In e c.equations) es
            → AllOf (λ (f : Equation). f.name ≡ e.name) es → AllOf (Takes (count e.pats)) es
        both_are [] i q = tt
        both_are (f ∷ es) i q = ((i.0, same_count c unbroken i.0 h.0 q.0), both_are es i.1 q.1)

    -- each equation of a function that is tried has a leaf in one of its trees
    pub rows_leaves : (k : ℕ) (es : List Equation) → AllOf (λ e. In e c.equations) es → OneName es
        → AllOf (λ e. HasLeaf (decisions_from k (rows es)) (e.body, names_of e.pats)) (rows es)
    rows_leaves k [] h o = tt
    rows_leaves k (e ∷ es) h o =
        let takes = takes_all e es h o in
        let r = decided_leaves (begun k e) (suc k) (if tests_of e.pats == 0 then [] else rows es)
        (begun_stood k e h.0) (rows_all (Takes (count e.pats)) (e ∷ es) takes).1 in
        (r.0 (e.body, names_of e.pats) (begun_leaf k e h.0), r.1)

    all_stood : (k : ℕ) (fs : List (List Equation)) → AllOf (AllOf (λ e. In e c.equations)) fs
        → AllOf OneName fs → AllOf (AllOf Stood) (all_decisions k fs)
    all_stood k [] h o = tt
    all_stood k ([] ∷ fs) h o = (tt, all_stood (k + 0) fs h.1 o.1)
    all_stood k ((e ∷ es) ∷ fs) h o =
        let takes : AllOf (Takes (count e.pats)) (e ∷ es) = takes_all e es h.0 o.0 in (
          decided_stood (begun k e) (suc k) (if tests_of e.pats == 0 then [] else rows es)
              (begun_stood k e h.0.0) (rows_all (Takes (count e.pats)) (e ∷ es) takes).1,
          all_stood (k + length (e ∷ es)) fs h.1 o.1,
        )

    pub decisions_stood : AllOf (AllOf Stood) (decisions c)
    decisions_stood = all_stood 0 (functions c.equations)
        (functions_all (λ e. In e c.equations) c.equations (all_in c.equations))
        (functions_one c.equations)
