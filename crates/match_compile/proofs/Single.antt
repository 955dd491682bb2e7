-- A simple function has one tree: each of its rows makes a branch of its own in one case.
use Rattle.std.proofs.Common.{◌≡◌, ℕ, zero, suc, ◌+◌, ◌<◌, ◌≤◌, Bool, true, false, cond, List, [], ◌∷◌, ◌++◌, map, length, refl, sym, ap, subst, ◌∙◌, append_assoc, arith, Option, Some, None}
use Rattle.std.specs.Prelude.{◌≢◌, ◌==◌, ◌||◌, ◌&&◌, not, slice_get, if◌then◌else◌}
use Rattle.std.proofs.lemmas.List.{append-nil}
use Rattle.seq.specs.Lists.{AllOf, In, numbers_from, sum_of}
use Rattle.seq.proofs.Lists.{get_within, get_left, get_right, all_append}
use Rattle.seq.proofs.Truth.{not_true, and_parts}
use Rattle.seq.proofs.Order.{eq_from, no_zero}
use Rattle.core_reader.specs.declared.syntax.Binder.{Binder}
use Rattle.core_reader.specs.Tree.{Expr, Function}
use Rattle.match_compile.specs.Source.{Pat, Name, Int, Con, Pats, NoPats, AndPat, Equation, Source}
use Rattle.match_compile.specs.Parts.{count, tests_of}
use Rattle.match_compile.specs.Heads.{Head, Integer, Constructor, same_head, same_kind}
use Rattle.match_compile.specs.Sizes.{joined, functions, rows, Test, NoTest, OneTest, OtherTest, test_from, beside, is_single_test, test_of, all_beside, is_simple, is_plain}
use Rattle.match_compile.specs.Trees.{PendingPattern, Row, row, settled, pending_patterns_at, head_of, fields_of, Tree, Body, Case, Branches, NoBranch, AndBranch, NoDefault, has_head, opened, places_from, tests_left, one_branch, by_head, alone, alone_from, fits, in_branch, in_later, new_branch, or_default, pred, max_chained_cases, insert, insert_branch}
use Rattle.match_compile.specs.Decisions.{Decision, row_of, begun, grown, decided, decisions_from, all_decisions, decisions, DecidesEquations, DecideAllEquations, NoneLeft, More}
use Rattle.match_compile.specs.Translated.{name_supply_of, with_nameless, equation_name, function_of, first_of, firsts, others, translated}
use Rattle.match_compile.specs.OneFunction.{IsOneFunction}
use Rattle.match_compile.proofs.Inserted.{or_false, zero_plus, first_test, no_tests, or_neither}
use Rattle.match_compile.proofs.Decided.{trees_stand}
use Rattle.match_compile.proofs.NamedAs.{nameless_length}
use Rattle.match_compile.proofs.Grouped.{front_all, back_all, name_among, all_are, all_in, all_of, Climbs, all_above, first_names, functions_all, numbers_of, other_numbers, total, others_climb, function_names, names_append, others_names, firsts_names, equation_apart, below_all}
use Rattle.match_compile.proofs.Placed.{WasRead}

-- ---- the one test of an equation is the first job of its row

-- the first job of a row is a test at a place, which accepts this
record Tests (p : ℕ) (h : Head) (r : Row) : Type 0 where
  body : Expr
  bound : List (Binder × ℕ)
  pat : Pat
  rest : List PendingPattern
  is : r ≡ row body bound ((p, pat) ∷ rest)
  head : head_of pat ≡ Some h

other_stays : (n : ℕ) (ps : Pats) → test_from OtherTest n ps ≡ OtherTest
other_stays n NoPats = refl
other_stays n (AndPat (Name b) ps) = other_stays (suc n) ps
other_stays n (AndPat (Int k at) ps) = other_stays (suc n) ps
other_stays n (AndPat (Con c qs) ps) = other_stays (suc n) ps

other_is_none : {p : ℕ} {h : Head} → OtherTest ≡ OneTest p h → ⊥
other_is_none e = cc

found_stays : (m : ℕ) (g : Head) (n : ℕ) (ps : Pats) (p : ℕ) (h : Head)
    → test_from (OneTest m g) n ps ≡ OneTest p h → OneTest m g ≡ OneTest p h
found_stays m g n NoPats p h e = e
found_stays m g n (AndPat (Name b) ps) p h e = found_stays m g (suc n) ps p h e
found_stays m g n (AndPat (Int k at) ps) p h e = absurd
    (other_is_none (sym (other_stays (suc n) ps) ∙ e))
found_stays m g n (AndPat (Con c qs) ps) p h e = absurd
    (other_is_none (sym (other_stays (suc n) ps) ∙ e))

abbrev column_of : Test → ℕ
column_of NoTest = 0
column_of (OneTest n h) = n
column_of OtherTest = 0

abbrev head_or : Head → Test → Head
head_or g NoTest = g
head_or g (OneTest n h) = h
head_or g OtherTest = g

test_first : (n : ℕ) (g : Head) (body : Expr) (bound : List (Binder × ℕ)) (pat : Pat)
    (rest : List PendingPattern) (p : ℕ) (h : Head) → head_of pat ≡ Some g
    → OneTest n g ≡ OneTest p h → Tests p h (row body bound ((n, pat) ∷ rest))
test_first n g body bound pat rest p h is e = record {
  body = body;
  bound = bound;
  pat = pat;
  rest = rest;
  is = ap (λ t. row body bound ((column_of t, pat) ∷ rest)) e;
  head = is ∙ ap (λ t. Some (head_or g t)) e;
}

first_is : (n : ℕ) (body : Expr) (bound : List (Binder × ℕ)) (ps : Pats) (p : ℕ) (h : Head)
    → test_from NoTest n ps ≡ OneTest p h → Tests p h
    (settled body bound (pending_patterns_at (numbers_from n (count ps)) ps))
first_is n body bound NoPats p h e = absurd cc
first_is n body bound (AndPat (Name b) ps) p h e = first_is (suc n) body (bound ++ (b, n) ∷ []) ps p
    h e
first_is n body bound (AndPat (Int k at) ps) p h e =
    test_first n (Integer k) body bound (Int k at)
    (pending_patterns_at (numbers_from (suc n) (count ps)) ps) p h refl
    (found_stays n (Integer k) (suc n) ps p h e)
first_is n body bound (AndPat (Con c qs) ps) p h e = go (tests_of qs == 0) e
  where
    go : (b : Bool) → test_from (cond b (OneTest n (Constructor c.name.0)) OtherTest) (suc n) ps ≡
        OneTest p h → Tests p h
        (row body bound ((n, Con c qs) ∷ pending_patterns_at (numbers_from (suc n) (count ps)) ps))
    go true e = test_first n (Constructor c.name.0) body bound (Con c qs)
        (pending_patterns_at (numbers_from (suc n) (count ps)) ps) p h refl
        (found_stays n (Constructor c.name.0) (suc n) ps p h e)
    go false e = absurd (other_is_none (sym (other_stays (suc n) ps) ∙ e))

row_tests : (e : Equation) (p : ℕ) (h : Head) → test_of e ≡ OneTest p h → Tests p h (row_of e)
row_tests e p h t = first_is 0 e.body [] e.pats p h t

more_than : (k m : ℕ) → (suc k + m == 0) ≡ false
more_than k m = ap (λ w. w == 0) (next k m) ∙ no_zero (k + m)
  where
    next : (k m : ℕ) → suc k + m ≡ suc (k + m)
    next k m = omega arith

-- an equation with one test is not the last that is tried
is_tested : (n : ℕ) (ps : Pats) (p : ℕ) (h : Head) → test_from NoTest n ps ≡ OneTest p h
    → (tests_of ps == 0) ≡ false
is_tested n NoPats p h e = absurd cc
is_tested n (AndPat (Name b) ps) p h e = ap (λ w. w == 0) (sym (zero_plus (tests_of ps))) ∙
    is_tested (suc n) ps p h e
is_tested n (AndPat (Int k at) ps) p h e = more_than 0 (tests_of ps)
is_tested n (AndPat (Con c qs) ps) p h e = more_than (tests_of qs) (tests_of ps)

-- the column and the head of a test
record OfTest (t : Test) : Type 0 where
  column : ℕ
  head : Head
  is : t ≡ OneTest column head

of_test : (t : Test) → is_single_test t ≡ true → OfTest t
of_test NoTest e = absurd cc
of_test (OneTest n h) e = record { column = n; head = h; is = refl }
of_test OtherTest e = absurd cc

-- a test in this column, of the kind of this head, and of another head
record Beside (p : ℕ) (h : Head) (t : Test) : Type 0 where
  head : Head
  is : t ≡ OneTest p head
  kind : same_kind h head ≡ true
  other : same_head h head ≡ false

is_beside : (p : ℕ) (h : Head) (t : Test) → beside (OneTest p h) t ≡ true → Beside p h t
is_beside p h NoTest e = absurd cc
is_beside p h OtherTest e = absurd cc
is_beside p h (OneTest m g) e =
    let a = and_parts (p == m) (same_kind h g && not (same_head h g)) e in
    let b = and_parts (same_kind h g) (not (same_head h g)) a.1 in
    record {
      head = g;
      is = ap (λ n. OneTest n g) (sym (eq_from p m a.0));
      kind = b.0;
      other
          = not_true (same_head h g) b.1;
    }

-- ---- the tree of the first row

record IsCase (p : ℕ) (h : Head) (t : Tree) : Type 0 where
  places : List ℕ
  tree : Tree
  is : t ≡ Case p (AndBranch h places tree NoBranch) NoDefault

alone_is_case : (k n : ℕ) (body : Expr) (bound : List (Binder × ℕ)) (p : ℕ) (pat : Pat)
    (rest : List PendingPattern) (h : Head) → head_of pat ≡ Some h
    → tests_left ((p, pat) ∷ rest) ≤ k → IsCase p h (alone k n (row body bound ((p, pat) ∷ rest))).0
alone_is_case zero n body bound p pat rest h e l = absurd (no_tests (p, pat) rest h e l)
alone_is_case (suc k) n body bound p pat rest h e l =
    let r : Row = row body bound ((p, pat) ∷ rest) in
    let places : List ℕ = places_from n (fields_of pat) in
    let inner : Tree × ℕ = alone k (n + count (fields_of pat)) (opened r pat places) in
    record {
      places = places;
      tree = inner.0;
      is = ap (λ o. (by_head (Body r, n) (λ h. one_branch p h places inner) o).0) e;
    }

tests_alone : (n : ℕ) (r : Row) (p : ℕ) (h : Head) → Tests p h r → IsCase p h (alone_from n r).0
tests_alone n r p h t =
    subst (λ w. IsCase p h (alone_from n w).0) (sym t.is)
    (alone_is_case (tests_left ((p, t.pat) ∷ t.rest)) n t.body t.bound p t.pat t.rest h t.head
    (omega arith))

-- ---- a row with another head makes a branch of its own

-- a branch for a head stands behind these
record Added (h : Head) (bs : Branches) (o : Option (Branches × ℕ)) : Type 0 where
  branches : Branches
  free : ℕ
  is : o ≡ Some (branches, free)
  kinds : (g : Head) → fits g bs ≡ true → same_kind h g ≡ true → fits g branches ≡ true
  heads : (g : Head) → has_head g bs ≡ false → same_head h g ≡ false → has_head g branches ≡ false

added : (pat : Pat) (h : Head) (bs : Branches) (n : ℕ) (r : Row) → has_head h bs ≡ false
    → Added h bs (insert_branch pat h bs n r)
added pat h NoBranch n r e =
    let places : List ℕ = places_from n (fields_of pat) in
    let made : Branches × ℕ = new_branch h places
    (alone_from (n + count (fields_of pat)) (opened r pat places)) in
    record {
      branches = made.0;
      free = made.1;
      is = refl;
      kinds = λ g f k. k;
      heads = λ g f k. or_neither (same_head h g) false k refl;
    }
added pat h (AndBranch g ps t bs) n r e =
    let parts = or_false (same_head g h) (has_head h bs) e in
    let more = added pat h bs n r parts.1 in
    record {
      branches = AndBranch g ps t more.branches;
      free = more.free;
      is =
          ap (λ b. elim b [
            | true ↦ in_branch g ps bs (insert max_chained_cases t n (opened r pat ps))
            | false ↦
                in_later g ps t (insert_branch pat h bs n r)
          ]) parts.0
          ∙ ap (in_later g ps t) more.is;
      kinds = λ x f k. f;
      heads = λ x f k. let both = or_false (same_head g x) (has_head x bs) f
          in or_neither (same_head g x) (has_head x more.branches) both.0 (more.heads x both.1 k);
    }

record Taken (p : ℕ) (h : Head) (bs : Branches) (o : Option (Tree × ℕ)) : Type 0 where
  branches : Branches
  free : ℕ
  is : o ≡ Some (Case p branches NoDefault, free)
  kinds : (g : Head) → fits g bs ≡ true → same_kind h g ≡ true → fits g branches ≡ true
  heads : (g : Head) → has_head g bs ≡ false → same_head h g ≡ false → has_head g branches ≡ false

taken_row : (room p : ℕ) (bs : Branches) (n : ℕ) (body : Expr) (bound : List (Binder × ℕ))
    (pat : Pat) (rest : List PendingPattern) (h : Head) → head_of pat ≡ Some h → fits h bs ≡ true
    → has_head h bs ≡ false → Taken p h bs
    (insert room (Case p bs NoDefault) n (row body bound ((p, pat) ∷ rest)))
taken_row room p bs n body bound pat rest h e f k =
    let r : Row = row body bound ((p, pat) ∷ rest) in
    let a = added pat h bs n r k in
    record {
      branches = a.branches;
      free = a.free;
      is =
          ap (λ o. or_default (pred room) p bs n r (elim o [
            | None ↦ None
            | Some pat ↦ elim (head_of pat) [
              | None ↦ None
              | Some h ↦ elim (fits h bs)
                  [ true ↦ insert_branch pat h bs n r | false ↦ None ]
            ]
          ])) (first_test (p, pat) rest)
          ∙ ap (λ o. or_default (pred room) p bs n r
          (elim o [
            | None ↦ None
            | Some h ↦ elim (fits h bs)
                [ true ↦ insert_branch pat h bs n r | false ↦ None ]
          ])) e
          ∙ ap (λ b. or_default (pred room) p bs n r
          (elim b [ true ↦ insert_branch pat h bs n r | false ↦ None ])) f
          ∙ ap (or_default (pred room) p bs n r) a.is;
      kinds = a.kinds;
      heads = a.heads;
    }

taken : (room p : ℕ) (bs : Branches) (n : ℕ) (r : Row) (h : Head) → Tests p h r → fits h bs ≡ true
    → has_head h bs ≡ false → Taken p h bs (insert room (Case p bs NoDefault) n r)
taken room p bs n r h t f k = subst (λ w. Taken p h bs (insert room (Case p bs NoDefault) n w))
    (sym t.is) (taken_row room p bs n t.body t.bound t.pat t.rest h t.head f k)

-- ---- all rows go into one tree

-- an equation makes a branch of its own behind these
record Goes (p : ℕ) (bs : Branches) (e : Equation) : Type 0 where
  head : Head
  test : test_of e ≡ OneTest p head
  kind : fits head bs ≡ true
  other : has_head head bs ≡ false

pub record One (ds : List Decision) : Type 0 where
  pub decision : Decision
  pub is : ds ≡ decision ∷ []

still_go : (p : ℕ) (h : Head) (bs new : Branches) →
    ((g : Head) → fits g bs ≡ true → same_kind h g ≡ true → fits g new ≡ true)
    → ((g : Head) → has_head g bs ≡ false → same_head h g ≡ false → has_head g new ≡ false)
    → (es : List Equation) → AllOf (Goes p bs) es → all_beside (OneTest p h) es ≡ true
    → AllOf (Goes p new) es
still_go p h bs new kinds heads [] g b = tt
still_go p h bs new kinds heads (e ∷ es) g b =
    let parts = and_parts (beside (OneTest p h) (test_of e)) (all_beside (OneTest p h) es) b in
    let one = is_beside p h (test_of e) parts.0 in
    let first : Goes p bs e = g.0 in
    let same : first.head ≡ one.head = ap (head_or h) (sym first.test ∙ one.is) in (
      record {
        head = first.head;
        test = first.test;
        kind = kinds first.head first.kind (ap (same_kind h) same ∙ one.kind);
        other = heads first.head first.other (ap (same_head h) same ∙ one.other);
      },
      still_go p h bs new kinds heads es g.1 parts.1,
    )

one_tree : (p : ℕ) (bs : Branches) (d : Decision) (k : ℕ) (es : List Equation)
    → d.tree ≡ Case p bs NoDefault → AllOf (Goes p bs) es → is_simple es ≡ true
    → One (decided d k es)
one_tree p bs d k [] t g s = record { decision = d; is = refl }
one_tree p bs d k (e ∷ es) t g s =
    let first : Goes p bs e = g.0 in
    let parts = and_parts (is_single_test (test_of e)) (all_beside (test_of e) es && is_simple es) s
    in
    let rest = and_parts (all_beside (test_of e) es) (is_simple es) parts.1 in
    let put : Taken p first.head bs
    (insert max_chained_cases (Case p bs NoDefault) d.free (row_of e))
    = taken max_chained_cases p bs d.free (row_of e) first.head
    (row_tests e p first.head first.test) first.kind first.other in
    let u : Tree × ℕ = (Case p put.branches NoDefault, put.free) in
    let goes = still_go p first.head bs put.branches put.kinds put.heads es g.1
    (ap (λ w. all_beside w es) (sym first.test) ∙ rest.0) in
    let more = one_tree p put.branches (grown d u) (suc k) es refl goes rest.1 in
    record {
      decision = more.decision;
      is =
          ap (λ o. elim o [
            | Some t ↦ decided (grown d t) (suc k) es
            | None ↦ d ∷ decided (begun k e) (suc k)
                es
          ]) (ap (λ w. insert max_chained_cases w d.free (row_of e)) t ∙ put.is)
          ∙ more.is;
    }

all_go : (p : ℕ) (h : Head) (places : List ℕ) (t : Tree) (es : List Equation)
    → all_beside (OneTest p h) es ≡ true → AllOf (Goes p (AndBranch h places t NoBranch)) es
all_go p h places t [] b = tt
all_go p h places t (e ∷ es) b =
    let parts = and_parts (beside (OneTest p h) (test_of e)) (all_beside (OneTest p h) es) b in
    let one = is_beside p h (test_of e) parts.0 in (
      record {
        head = one.head;
        test = one.is;
        kind = one.kind;
        other
            = or_neither (same_head h one.head) false one.other refl;
      },
      all_go p h places t es parts.1,
    )

-- all equations are tried
all_rows : (es : List Equation) → is_simple es ≡ true → rows es ≡ es
all_rows [] s = refl
all_rows (e ∷ es) s =
    let parts = and_parts (is_single_test (test_of e)) (all_beside (test_of e) es && is_simple es) s
    in
    let rest = and_parts (all_beside (test_of e) es) (is_simple es) parts.1 in
    let t = of_test (test_of e) parts.0 in
    ap (λ b. e ∷ (if b then [] else rows es)) (is_tested 0 e.pats t.column t.head t.is) ∙ ap
    (λ w. e ∷ w) (all_rows es rest.1)

simple_one : (k : ℕ) (e : Equation) (es : List Equation) → is_simple (e ∷ es) ≡ true
    → One (decisions_from k (e ∷ es))
simple_one k e es s =
    let parts = and_parts (is_single_test (test_of e)) (all_beside (test_of e) es && is_simple es) s
    in
    let rest = and_parts (all_beside (test_of e) es) (is_simple es) parts.1 in
    let t = of_test (test_of e) parts.0 in
    let first = tests_alone (count e.pats) (row_of e) t.column t.head
    (row_tests e t.column t.head t.is) in
    one_tree t.column (AndBranch t.head first.places first.tree NoBranch) (begun k e) (suc k) es
    first.is
    (all_go t.column t.head first.places first.tree es
    (ap (λ w. all_beside w es) (sym t.is) ∙ rest.0)) rest.1

plain_rows : (e : Equation) → rows (e ∷ []) ≡ e ∷ []
plain_rows e = go (tests_of e.pats == 0)
  where
    go : (b : Bool) → e ∷ (if b then [] else []) ≡ e ∷ []
    go true = refl
    go false = refl

-- the equations are all tried, and have one tree
pub record Whole (k : ℕ) (es : List Equation) : Type 0 where
  pub all : rows es ≡ es
  pub one : One (decisions_from k es)

plain_whole : (k : ℕ) (e : Equation) (es : List Equation) → is_plain (e ∷ es) ≡ true
    → Whole k (e ∷ es)
plain_whole k e [] s = record
    { all = plain_rows e; one = record { decision = begun k e; is = refl } }
plain_whole k e (f ∷ es) s = absurd cc

pub whole : (k : ℕ) (e : Equation) (es : List Equation)
    → (is_simple (e ∷ es) || is_plain (e ∷ es)) ≡ true → Whole k (e ∷ es)
whole k e es s = go (is_simple (e ∷ es)) refl s
  where
    go : (b : Bool) → is_simple (e ∷ es) ≡ b → (b || is_plain (e ∷ es)) ≡ true → Whole k (e ∷ es)
    go true h s = record { all = all_rows (e ∷ es) h; one = simple_one k e es h }
    go false h s = plain_whole k e es s

none_stand : {k : ℕ} {es : List Equation} {ds : List Decision} → DecideAllEquations k es ds
    → ds ≡ [] → es ≡ []
none_stand NoneLeft e = refl
none_stand (More is rest) e = absurd cc

heads_same : {d g : Decision} {ds gs : List Decision} → d ∷ ds ≡ g ∷ gs → d ≡ g
heads_same e = cc

tails_same : {d g : Decision} {ds gs : List Decision} → d ∷ ds ≡ g ∷ gs → ds ≡ gs
tails_same e = cc

-- one tree stands for all of the equations
one_stands : {k : ℕ} {es : List Equation} {ds : List Decision} (d : Decision)
    → DecideAllEquations k es ds → ds ≡ d ∷ [] → DecidesEquations k es d
one_stands d NoneLeft e = absurd cc
one_stands {k = k} d (More {es = es} {rest = rest} is more) e =
    subst (λ w. DecidesEquations k w d)
    (sym (append-nil es) ∙ ap (λ w. es ++ w) (sym (none_stand more (tails_same e))))
    (subst (λ w. DecidesEquations k es w) (heads_same e) is)

-- ---- the functions of the program

-- each function has an equation
abbrev pub HasFirst : List Equation → Type 0
HasFirst [] = ⊥
HasFirst (e ∷ es) = Unit {0}

joined_first : (e : Equation) (fs : List (List Equation)) → AllOf HasFirst fs
    → AllOf HasFirst (joined e fs)
joined_first e [] h = (tt, tt)
joined_first e ([] ∷ fs) h = (tt, h.1)
joined_first e ((f ∷ es) ∷ fs) h = go (e.name == f.name)
  where
    go : (b : Bool) → AllOf HasFirst (if b then (e ∷ f ∷ es) ∷ fs else (e ∷ []) ∷ (f ∷ es) ∷ fs)
    go true = (tt, h.1)
    go false = (tt, h)

pub functions_first : (es : List Equation) → AllOf HasFirst (functions es)
functions_first [] = tt
functions_first (e ∷ es) = joined_first e (functions es) (functions_first es)

first_count : (fs : List (List Equation)) → AllOf HasFirst fs → length (first_names fs) ≡ length fs
first_count [] h = refl
first_count ([] ∷ fs) h = absurd h.0
first_count ((e ∷ es) ∷ fs) h = ap suc (first_count fs h.1)

names_count : (fs : List Function) → length (function_names fs) ≡ length fs
names_count [] = refl
names_count (f ∷ fs) = ap suc (names_count fs)

no_first : (k : ℕ) → k ≡ k + 0
no_first k = omega arith

moved_on : (k m n : ℕ) → k + m + n ≡ k + (m + n)
moved_on k m n = omega arith

split_decisions : (k : ℕ) (before after : List (List Equation))
    → all_decisions k (before ++ after) ≡ all_decisions k before
    ++ all_decisions (k + total before) after
split_decisions k [] after = ap (λ n. all_decisions n after) (no_first k)
split_decisions k (f ∷ before) after =
    ap (λ w. decisions_from k (rows f) ∷ w)
    (split_decisions (k + length f) before after ∙ ap
    (λ n. all_decisions (k + length f) before ++ all_decisions n after)
    (moved_on k (length f) (total before)))

numbers_append : (xs ys : List (List Decision)) → other_numbers (xs ++ ys) ≡ other_numbers xs
    ++ other_numbers ys
numbers_append [] ys = refl
numbers_append ([] ∷ xs) ys = numbers_append xs ys
numbers_append ((d ∷ ds) ∷ xs) ys = ap (λ w. numbers_of ds ++ w) (numbers_append xs ys) ∙ sym
    (append_assoc (numbers_of ds) (other_numbers xs) (other_numbers ys))

climbs_up : (lo hi : ℕ) (ns : List ℕ) → Climbs lo hi ns → lo ≤ hi
climbs_up lo hi [] h = h
climbs_up lo hi (n ∷ ns) h = let l = h.0 in let m = climbs_up (suc n) hi ns h.1
    in omega (arith, l, m)

pub all_under : (lo hi : ℕ) (ns : List ℕ) → Climbs lo hi ns → AllOf (λ n. n < hi) ns
all_under lo hi [] h = tt
all_under lo hi (n ∷ ns) h = let m = climbs_up (suc n) hi ns h.1
    in (omega (arith, m), all_under (suc n) hi ns h.1)

module _ (c : Source) where
  firsts_append : (xs ys : List (List Decision)) → firsts (name_supply_of c) (xs ++ ys) ≡ firsts
      (name_supply_of c) xs ++ firsts (name_supply_of c) ys
  firsts_append [] ys = refl
  firsts_append (f ∷ xs) ys = ap (λ w. first_of (name_supply_of c) f ++ w) (firsts_append xs ys) ∙
      sym (append_assoc (first_of (name_supply_of c) f) (firsts (name_supply_of c) xs)
      (firsts (name_supply_of c) ys))

  all_equations : (P : ℕ → Type 0) (ns : List ℕ) → AllOf
      (λ n. P (equation_name (name_supply_of c) n)) ns
      → AllOf P (map (equation_name (name_supply_of c)) ns)
  all_equations P [] h = tt
  all_equations P (n ∷ ns) h = (h.0, all_equations P ns h.1)

  module _ (before after : List (List Equation)) (es : List Equation)
      (parts : functions c.equations ≡ before ++ es ∷ after) (d : Decision)
      (one : decisions_from (total before) (rows es) ≡ d ∷ []) where
    decisions_are : decisions c ≡ all_decisions 0 before
        ++ (d ∷ []) ∷ all_decisions (total before + length es) after
    decisions_are =
        ap (all_decisions 0) parts ∙ split_decisions 0 before (es ∷ after)
        ∙ ap (λ n. all_decisions 0 before ++ all_decisions n (es ∷ after))
        (sym (zero_plus (total before)))
        ∙ ap (λ ds. all_decisions 0 before ++ ds ∷ all_decisions (total before + length es) after)
        one

    place : AllOf HasFirst before → length (firsts (name_supply_of c) (all_decisions 0 before)) + 0
        ≡ length before
    place h = omega (
      arith,
      names_count (firsts (name_supply_of c) (all_decisions 0 before)),
      first_count before h,
      ap (λ (w : List ℕ). length w) (firsts_names c 0 before),
    )

    its_function : AllOf HasFirst before → slice_get (translated c).functions (length before) ≡ Some
        (function_of (name_supply_of c) d.name d None)
    its_function h =
        let ds : List (List Decision) = all_decisions (total before + length es) after in
        let f : Function = function_of (name_supply_of c) d.name d None in
        let at : slice_get
        (firsts (name_supply_of c) (all_decisions 0 before) ++ f ∷ firsts (name_supply_of c) ds)
        (length before) ≡ Some f =
        ap (slice_get
        (firsts (name_supply_of c) (all_decisions 0 before)
        ++ f ∷ firsts (name_supply_of c) ds)) (sym (place h)) ∙ get_right
        (firsts (name_supply_of c) (all_decisions 0 before)) (f ∷ firsts (name_supply_of c) ds)
        0 f refl in
        let are : firsts (name_supply_of c) (decisions c) ≡ firsts (name_supply_of c)
        (all_decisions 0 before) ++ f ∷ firsts (name_supply_of c) ds
        = ap (firsts (name_supply_of c)) decisions_are ∙ firsts_append (all_decisions 0 before)
        ((d ∷ []) ∷ ds) in
        get_left (firsts (name_supply_of c) (decisions c)) (others (name_supply_of c) (decisions c))
        (length before) f (ap (λ w. slice_get w (length before)) are ∙ at)

    module _ (j : ℕ) (lt : j < length es) where
      numbers_apart : AllOf (λ n. n ≢ total before + j) (other_numbers (decisions c))
      numbers_apart =
          let ds : List (List Decision) = all_decisions (total before + length es) after in
          let are : other_numbers (decisions c) ≡ other_numbers (all_decisions 0 before)
          ++ other_numbers ds = ap other_numbers decisions_are ∙ numbers_append
          (all_decisions 0 before) ((d ∷ []) ∷ ds) in
          subst (AllOf (λ n. n ≢ total before + j)) (sym are)
          (all_append (λ n. n ≢ total before + j) (other_numbers (all_decisions 0 before))
          (other_numbers ds)
          (all_are (λ n. n < 0 + total before) (λ n. n ≢ total before + j)
          (λ n l e. omega (arith, l, e)) (other_numbers (all_decisions 0 before))
          (all_under 0 (0 + total before) (other_numbers (all_decisions 0 before))
          (others_climb 0 before)))
          (all_are (λ n. total before + length es ≤ n) (λ n. n ≢ total before + j)
          (λ n l e. omega (arith, l, e, lt)) (other_numbers ds)
          (all_above (total before + length es) (total before + length es + total after)
          (other_numbers ds) (others_climb (total before + length es) after))))

      names_apart : AllOf (λ (e : Equation). e.name < length c.names) c.equations
          → AllOf (λ x. x ≢ equation_name (name_supply_of c) (total before + j))
          (function_names (translated c).functions)
      names_apart below =
          let n : ℕ = length (with_nameless c.names) in
          let le : length c.names ≤ n = nameless_length c.names in
          let fs : List (List Equation) = functions c.equations in
          let lower = all_are (λ (e : Equation). e.name < length c.names)
          (λ (e : Equation). e.name < n) (λ e l. omega (arith, le, l)) c.equations below in
          let firsts_are = firsts_names c 0 fs in
          let others_are = others_names c (decisions c) in
          let are : function_names (translated c).functions ≡ first_names fs
          ++ map (equation_name (name_supply_of c)) (other_numbers (decisions c)) =
          names_append (firsts (name_supply_of c) (decisions c))
          (others (name_supply_of c) (decisions c)) ∙ (λ i. firsts_are i ++ others_are i) in
          subst (AllOf (λ x. x ≢ equation_name (name_supply_of c) (total before + j))) (sym are)
          (all_append (λ x. x ≢ equation_name (name_supply_of c) (total before + j))
          (first_names fs)
          (map (equation_name (name_supply_of c)) (other_numbers (decisions c)))
          (all_are (λ x. x < n) (λ x. x ≢ equation_name (name_supply_of c) (total before + j))
          (λ x l e. omega (arith, l, e)) (first_names fs)
          (below_all n fs (functions_all (λ (e : Equation). e.name < n) c.equations lower)))
          (all_equations (λ x. x ≢ equation_name (name_supply_of c) (total before + j))
          (other_numbers (decisions c))
          (all_are (λ n. n ≢ total before + j)
          (λ n. equation_name (name_supply_of c) n ≢ equation_name (name_supply_of c)
          (total before + j)) (λ n f e. f (equation_apart c n (total before + j) e))
          (other_numbers (decisions c)) numbers_apart)))

pub stays_one : (c : Source) → WasRead c → (before after : List (List Equation))
    (es : List Equation) → functions c.equations ≡ before ++ es ∷ after
    → (is_simple es || is_plain es) ≡ true → IsOneFunction c (length before)
    (sum_of (map length before)) es
stays_one c read before after [] parts s =
    absurd (back_all HasFirst before ([] ∷ after)
    (subst (AllOf HasFirst) parts (functions_first c.equations))).0
stays_one c read before after (e ∷ es) parts s =
    let k : ℕ = total before in
    let w = whole k e es s in
    let below = all_are (λ e. In e c.equations) (λ (e : Equation). e.name < length c.names)
    (λ e i. let r = read.names e i in get_within c.names e.name r.0 r.1) c.equations
    (all_in c.equations) in
    record {
      decision = w.one.decision;
      stands = subst (λ x. DecidesEquations k x w.one.decision) w.all
          (one_stands w.one.decision (trees_stand k (rows (e ∷ es)))
          (ap (decisions_from k) w.all ∙ w.one.is));
      function = its_function c before after (e ∷ es) parts w.one.decision
          (ap (decisions_from k) w.all ∙ w.one.is)
          (front_all HasFirst before ((e ∷ es) ∷ after)
          (subst (AllOf HasFirst) parts (functions_first c.equations)));
      no_other = λ f i j lt. all_of (λ x. x ≢ equation_name (name_supply_of c) (k + j))
          (function_names (translated c).functions)
          (names_apart c before after (e ∷ es) parts w.one.decision
          (ap (decisions_from k) w.all ∙ w.one.is) j lt below)
          (name_among (translated c).functions i);
    }
