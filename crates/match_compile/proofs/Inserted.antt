-- A row that goes into a tree: the tree then stands for one row more.
use Rattle.std.proofs.Common.{◌≡◌, ℕ, zero, suc, ◌+◌, ◌≤◌, Bool, true, false, cond, List, [], ◌∷◌, ◌++◌, refl, sym, ap, subst, ◌∙◌, append_assoc, arith, Option, Some, None, ◌⊎◌, inl, inr}
use Rattle.std.specs.Prelude.{ℤ, ◌||◌}
use Rattle.std.specs.Ordering.{int_eq}
use Rattle.std.proofs.lemmas.List.{append-nil}
use Rattle.seq.proofs.Truth.{two_ways}
use Rattle.seq.proofs.Order.{eq_self, eq_from}
use Rattle.core_reader.specs.declared.syntax.Binder.{Binder}
use Rattle.core_reader.specs.Tree.{Expr}
use Rattle.match_compile.specs.Source.{Pat, Name, Int, Con, Pats, NoPats, AndPat}
use Rattle.match_compile.specs.Parts.{count, tests_in, tests_of}
use Rattle.match_compile.specs.Heads.{Head, Integer, Constructor, same_head}
use Rattle.match_compile.specs.Trees.{PendingPattern, Row, row, settled, BeginsWithTest, pending_patterns_at, head_of, fields_of, Tree, Body, Case, Branches, NoBranch, AndBranch, Default, NoDefault, ATree, can_fail, branches_fail, default_fails, has_head, test_at, later, opened, special_by, accepts, specialised_row, specialised, Goes, LeftForDefault, NoneLeft, Stays, Leads, Begins, IsTree, OfBody, OfCase, AreBranches, NoneOf, OneOf, IsDefault, AllGo, OthersStay, places_from, tests_left, one_branch, by_head, alone, alone_from, fits, in_default, in_branch, in_later, new_branch, or_default, pred, max_chained_cases, insert, insert_branch}

pub or_false : (a b : Bool) → (a || b) ≡ false → (a ≡ false) × (b ≡ false)
or_false true b e = absurd cc
or_false false b e = (refl, e)

-- ---- rows that a value of a head leaves

special_append : (p : ℕ) (h : Head) (places : List ℕ) (rs qs : List Row)
    → specialised p h places (rs ++ qs) ≡ specialised p h places rs ++ specialised p h places qs
special_append p h places [] qs = refl
special_append p h places (r ∷ rs) qs =
    ap (λ w. specialised_row (test_at p r.jobs) h places r ++ w) (special_append p h places rs qs) ∙
    sym (append_assoc (specialised_row (test_at p r.jobs) h places r)
    (specialised p h places rs) (specialised p h places qs))

int_same : (k j : ℤ) → int_eq k j ≡ true → k ≡ j
int_same k j e = grind (e, arith)

pub same_is : (g h : Head) → same_head g h ≡ true → g ≡ h
same_is (Integer k) (Integer j) e = ap Integer (int_same k j e)
same_is (Integer k) (Constructor d) e = absurd cc
same_is (Constructor c) (Integer j) e = absurd cc
same_is (Constructor c) (Constructor d) e = ap Constructor (eq_from c d e)

int_self : (k : ℤ) → int_eq k k ≡ true
int_self k = grind arith

pub same_self : (h : Head) → same_head h h ≡ true
same_self (Integer k) = int_self k
same_self (Constructor c) = eq_self c

other_turned : (g h : Head) → same_head g h ≡ false → same_head h g ≡ false
other_turned g h e = elim (two_ways (same_head h g)) [
  | inl y ↦ absurd
      (both (same_head g h) (ap (λ w. same_head w h) (sym (same_is h g y)) ∙ same_self h) e)
  | inr n ↦ n
]
  where
    both : (b : Bool) → b ≡ true → b ≡ false → ⊥
    both b e f = cc

-- a row whose first test has this head
one_special : (p : ℕ) (g h : Head) (places : List ℕ) (r : Row) (pat : Pat) (b : Bool)
    → test_at p r.jobs ≡ Some pat → head_of pat ≡ Some h → same_head h g ≡ b
    → specialised p g places (r ∷ []) ≡ special_by b (opened r pat places)
one_special p g h places r pat b t e s =
    append-nil (specialised_row (test_at p r.jobs) g places r)
    ∙ ap (λ o. specialised_row o g places r) t
    ∙ ap (λ o. special_by (accepts o g) (opened r pat places)) e
    ∙ ap (λ b. special_by b (opened r pat places)) s

-- ---- rows that are left for the default

all_stay : (p : ℕ) (bs : Branches) (rs : List Row) → LeftForDefault p bs rs rs
all_stay p bs [] = NoneLeft
all_stay p bs (r ∷ rs) = Stays (all_stay p bs rs)

leaves_more : {p : ℕ} {bs : Branches} {rs left : List Row} → LeftForDefault p bs rs left
    → (more : List Row) → LeftForDefault p bs (rs ++ more) (left ++ more)
leaves_more {p = p} {bs = bs} NoneLeft more = all_stay p bs more
leaves_more (Stays l) more = Stays (leaves_more l more)
leaves_more (Leads g l) more = Leads g (leaves_more l more)

-- ---- a tree that cannot fail stands for more rows behind

mutual
  pub more_tree : {rs : List Row} {t : Tree} → IsTree rs t → can_fail t ≡ false → (more : List Row)
      → IsTree (rs ++ more) t
  more_tree (OfBody e) f more = OfBody e
  more_tree (OfCase {bs = bs} {o = o} b as' d) f more
      = OfCase b (more_branches as' (or_false (default_fails o) (branches_fail bs) f).1 more)
      (more_default d (or_false (default_fails o) (branches_fail bs) f).0 more)

  pub more_branches : {p : ℕ} {rs : List Row} {bs : Branches} → AreBranches p rs bs
      → branches_fail bs ≡ false → (more : List Row) → AreBranches p (rs ++ more) bs
  more_branches NoneOf f more = NoneOf
  more_branches {p = p} {rs = rs} (OneOf {h = h} {places = places} {t = t} {bs = bs} d i as') f more
      =
      OneOf d (subst (λ w. IsTree w t) (sym (special_append p h places rs more))
      (more_tree i (or_false (can_fail t) (branches_fail bs) f).0
      (specialised p h places more)))
      (more_branches as' (or_false (can_fail t) (branches_fail bs) f).1 more)

  pub more_default : {p : ℕ} {bs : Branches} {rs : List Row} {o : Default} → IsDefault p bs rs o
      → default_fails o ≡ false → (more : List Row) → IsDefault p bs (rs ++ more) o
  more_default (AllGo l) f more = absurd cc
  more_default (OthersStay l b i) f more = OthersStay (leaves_more l more) b (more_tree i f more)

-- ---- the tree of one row

pub settled_is : (body : Expr) (bound : List (Binder × ℕ)) (js : List PendingPattern)
    → BeginsWithTest (settled body bound js).jobs
settled_is body bound [] = tt
settled_is body bound ((p, Name b) ∷ js) = settled_is body (bound ++ (b, p) ∷ []) js
settled_is body bound ((p, Int k at) ∷ js) = (Integer k, refl)
settled_is body bound ((p, Con c ps) ∷ js) = (Constructor c.name.0, refl)

pub zero_plus : (n : ℕ) → n ≡ 0 + n
zero_plus n = omega arith

pub settled_tests : (body : Expr) (bound : List (Binder × ℕ)) (js : List PendingPattern)
    → tests_left (settled body bound js).jobs ≡ tests_left js
settled_tests body bound [] = refl
settled_tests body bound ((p, Name b) ∷ js) = settled_tests body (bound ++ (b, p) ∷ []) js ∙
    zero_plus (tests_left js)
settled_tests body bound ((p, Int k at) ∷ js) = refl
settled_tests body bound ((p, Con c ps) ∷ js) = refl

pub tests_append : (xs ys : List PendingPattern) → tests_left (xs ++ ys) ≡ tests_left xs +
    tests_left ys
tests_append [] ys = zero_plus (tests_left ys)
tests_append (x ∷ xs) ys = omega (arith, tests_append xs ys)

tests_at : (places : List ℕ) (ps : Pats) → tests_left (pending_patterns_at places ps) ≤ tests_of ps
tests_at places NoPats = omega arith
tests_at [] (AndPat pat ps) = omega arith
tests_at (p ∷ places) (AndPat pat ps) = omega (arith, tests_at places ps)

pub test_counts : (pat : Pat) (h : Head) → head_of pat ≡ Some h
    → tests_in pat ≡ suc (tests_of (fields_of pat))
test_counts (Name b) h e = absurd cc
test_counts (Int k at) h e = refl
test_counts (Con c ps) h e = refl

-- a test fewer is left behind the first one
pub fewer : (body : Expr) (bound : List (Binder × ℕ)) (j : PendingPattern)
    (js : List PendingPattern) (places : List ℕ) (h : Head) (k : ℕ) → head_of j.1 ≡ Some h
    → tests_left (j ∷ js) ≤ suc k → tests_left (opened (row body bound (j ∷ js)) j.1 places).jobs ≤
    k
fewer body bound j js places h k e l =
    let a = settled_tests body bound (pending_patterns_at places (fields_of j.1) ++ js) in
    let b = tests_append (pending_patterns_at places (fields_of j.1)) js in
    let c = tests_at places (fields_of j.1) in
    let d = test_counts j.1 h e in
    omega (arith, a, b, c, d, l)

pub first_test : (j : PendingPattern) (js : List PendingPattern) → test_at j.0 (j ∷ js) ≡ Some j.1
first_test j js = ap (λ b. cond b (Some j.1) None) (eq_self j.0)

known_first : (h : Head) (places : List ℕ) (t : Tree)
    → has_head h (AndBranch h places t NoBranch) ≡ true
known_first h places t = ap (λ b. b || false) (same_self h)

pub no_tests : (j : PendingPattern) (js : List PendingPattern) (h : Head) → head_of j.1 ≡ Some h
    → tests_left (j ∷ js) ≤ 0 → ⊥
no_tests j js h e l = let d = test_counts j.1 h e in omega (arith, d, l)

pub alone_tree : (k n : ℕ) (body : Expr) (bound : List (Binder × ℕ)) (js : List PendingPattern)
    → BeginsWithTest js → tests_left js ≤ k → IsTree (row body bound js ∷ [])
    (alone k n (row body bound js)).0
alone_tree zero n body bound [] s l = OfBody refl
alone_tree zero n body bound (j ∷ js) s l = absurd (no_tests j js s.0 s.1 l)
alone_tree (suc k) n body bound [] s l = OfBody refl
alone_tree (suc k) n body bound (j ∷ js) s l =
    let r = row body bound (j ∷ js) in
    let h = s.0 in
    let places = places_from n (fields_of j.1) in
    let next = opened r j.1 places in
    let t = alone k (n + count (fields_of j.1)) next in
    let test = first_test j js in
    let inner : IsTree (next ∷ []) t.0 = alone_tree k (n + count (fields_of j.1)) next.body
    next.bound next.jobs
    (settled_is body bound (pending_patterns_at places (fields_of j.1) ++ js))
    (fewer body bound j js places h k s.1 l) in
    let specialised_row = one_special j.0 h h places r j.1 true test s.1 (same_self h) in
    let goes : Goes j.0 (AndBranch h places t.0 NoBranch) r
    = record {
      pat = j.1;
      test = test;
      head = h;
      is_head = s.1;
      known
          = known_first h places t.0;
    } in
    let whole : IsTree (r ∷ []) (Case j.0 (AndBranch h places t.0 NoBranch) NoDefault) =
    OfCase (record { pat = j.1; test = test })
    (OneOf refl (subst (λ w. IsTree w t.0) (sym specialised_row) inner) NoneOf)
    (AllGo (Leads goes NoneLeft)) in
    subst (λ o. IsTree (r ∷ []) (by_head (Body r, n) (λ h. one_branch j.0 h places t) o).0)
    (sym s.1) whole

pub alone_is : (n : ℕ) (r : Row) → BeginsWithTest r.jobs → IsTree (r ∷ []) (alone_from n r).0
alone_is n r s = alone_tree (tests_left r.jobs) n r.body r.bound r.jobs s (omega arith)

-- ---- a row that goes to a branch

-- a row that begins with another head goes to none of these
others : {p : ℕ} {rs : List Row} {bs : Branches} (h : Head) (pat : Pat) (r : Row)
    → AreBranches p rs bs → test_at p r.jobs ≡ Some pat → head_of pat ≡ Some h
    → has_head h bs ≡ false → AreBranches p (rs ++ r ∷ []) bs
others h pat r NoneOf t e n = NoneOf
others {p = p} {rs = rs} h pat r (OneOf {h = g} {places = places} {t = u} {bs = bs} d i as') t e n =
    let m = or_false (same_head g h) (has_head h bs) n in
    let same : specialised p g places (rs ++ r ∷ []) ≡ specialised p g places rs =
    special_append p g places rs (r ∷ []) ∙ ap (λ w. specialised p g places rs ++ w)
    (one_special p g h places r pat false t e (other_turned g h m.0)) ∙ append-nil
    (specialised p g places rs) in
    OneOf d (subst (λ w. IsTree w u) (sym same) i) (others h pat r as' t e m.1)

-- what holds of the branches with the row
pub record Went (p : ℕ) (rs : List Row) (h : Head) (r : Row) (bs bs' : Branches) : Type 0 where
  pub branches : AreBranches p (rs ++ r ∷ []) bs'
  pub kept : (g : Head) → has_head g bs ≡ true → has_head g bs' ≡ true
  pub known : has_head h bs' ≡ true
  pub no_more : (g : Head) → same_head h g ≡ false → has_head g bs ≡ false → has_head g bs' ≡ false

-- no row is left where a head is unknown
abbrev pub NoneElse : ℕ → List Row → Head → Branches → Type 0
NoneElse p rs h bs = (places : List ℕ) → has_head h bs ≡ false → specialised p h places rs ≡ []

or_first : (a b : Bool) → a ≡ true → (a || b) ≡ true
or_first a b e = ap (λ c. c || b) e

or_last : (a b : Bool) → b ≡ true → (a || b) ≡ true
or_last true b e = refl
or_last false b e = e

or_either : (a b c : Bool) → (a || b) ≡ true → (b ≡ true → c ≡ true) → (a || c) ≡ true
or_either true b c e f = refl
or_either false b c e f = f e

pub or_neither : (a b : Bool) → a ≡ false → b ≡ false → (a || b) ≡ false
or_neither true b e f = absurd cc
or_neither false b e f = f

-- a branch is there
went_in : (p : ℕ) (rs : List Row) (g h : Head) (pat : Pat) (r : Row) (ps : List ℕ) (t u : Tree)
    (bs : Branches) → same_head g h ≡ true → has_head g bs ≡ false → test_at p r.jobs ≡ Some pat
    → head_of pat ≡ Some h
    → IsTree (specialised p g ps rs ++ opened r pat ps ∷ []) u → AreBranches p rs bs
    → Went p rs h r (AndBranch g ps t bs) (AndBranch g ps u bs)
went_in p rs g h pat r ps t u bs y d test e i as' =
    let same = same_is g h y in
    let specialised_row : specialised p g ps (rs ++ r ∷ []) ≡ specialised p g ps rs
    ++ opened r pat ps ∷ [] =
    special_append p g ps rs (r ∷ []) ∙ ap (λ w. specialised p g ps rs ++ w)
    (one_special p g h ps r pat true test e (ap (λ w. same_head h w) same ∙ same_self h)) in
    record {
      branches = OneOf d (subst (λ w. IsTree w u) (sym specialised_row) i)
          (others h pat r as' test e (subst (λ w. has_head w bs ≡ false) same d));
      kept = λ k f. f;
      known = or_first (same_head g h) (has_head h bs) y;
      no_more = λ k n f. f;
    }

-- the row goes to a later branch
went_later : (p : ℕ) (rs : List Row) (g h : Head) (pat : Pat) (r : Row) (ps : List ℕ) (t : Tree)
    (bs bs' : Branches) → same_head g h ≡ false → has_head g bs ≡ false
    → test_at p r.jobs ≡ Some pat → head_of pat ≡ Some h
    → IsTree (specialised p g ps rs) t → Went p rs h r bs bs'
    → Went p rs h r (AndBranch g ps t bs) (AndBranch g ps t bs')
went_later p rs g h pat r ps t bs bs' n d test e i w =
    let specialised_row : specialised p g ps (rs ++ r ∷ []) ≡ specialised p g ps rs =
    special_append p g ps rs (r ∷ []) ∙ ap (λ w. specialised p g ps rs ++ w)
    (one_special p g h ps r pat false test e (other_turned g h n)) ∙ append-nil
    (specialised p g ps rs) in
    record {
      branches = OneOf (w.no_more g (other_turned g h n) d)
          (subst (λ w. IsTree w t) (sym specialised_row) i) w.branches;
      kept = λ k f. or_either (same_head g k) (has_head k bs) (has_head k bs') f (w.kept k);
      known = or_last (same_head g h) (has_head h bs') w.known;
      no_more = λ k m f. let q = or_false (same_head g k) (has_head k bs) f
          in or_neither (same_head g k) (has_head k bs') q.0 (w.no_more k m q.1);
    }

went_new : (p : ℕ) (rs : List Row) (h : Head) (pat : Pat) (r : Row) (n : ℕ)
    → test_at p r.jobs ≡ Some pat → head_of pat ≡ Some h → NoneElse p rs h NoBranch
    → Went p rs h r NoBranch
    (new_branch h (places_from n (fields_of pat))
    (alone_from (n + count (fields_of pat)) (opened r pat (places_from n (fields_of pat))))).0
went_new p rs h pat r n test e none =
    let places = places_from n (fields_of pat) in
    let specialised_row : specialised p h places (rs ++ r ∷ []) ≡ opened r pat places ∷ [] =
    special_append p h places rs (r ∷ []) ∙ ap (λ w. w ++ specialised p h places (r ∷ []))
    (none places refl) ∙ one_special p h h places r pat true test e (same_self h) in
    let u = (alone_from (n + count (fields_of pat)) (opened r pat places)).0 in
    record {
      branches = OneOf refl
          (subst (λ w. IsTree w u) (sym specialised_row)
          (alone_is (n + count (fields_of pat)) (opened r pat places)
          (settled_is r.body r.bound (pending_patterns_at places (fields_of pat) ++ later r.jobs))))
          NoneOf;
      kept = λ k f. absurd cc;
      known = known_first h places u;
      no_more = λ k m f. or_neither (same_head h k) false m refl;
    }

pub some_is : {X : Type 0} (a b : X) → ◌≡◌ {A = Option X} (Some a) (Some b) → a ≡ b
some_is a b e = cc

none_else : (p : ℕ) (rs : List Row) (h : Head) (bs : Branches) → LeftForDefault p bs rs []
    → NoneElse p rs h bs
none_else p [] h bs l places n = refl
none_else p (r ∷ rs) h bs (Leads g l) places n =
    let other : same_head g.head h ≡ false = differs (two_ways (same_head g.head h)) in
    ap (λ o. specialised_row o h places r ++ specialised p h places rs) g.test
    ∙ ap (λ o. special_by (accepts o h) (opened r g.pat places) ++ specialised p h places rs)
    g.is_head
    ∙ ap (λ b. special_by b (opened r g.pat places) ++ specialised p h places rs) other
    ∙ none_else p rs h bs l places n
  where
    differs : (same_head g.head h ≡ true) ⊎ (same_head g.head h ≡ false)
        → same_head g.head h ≡ false
    differs (inr f) = f
    differs (inl y) = absurd
        (both (has_head h bs) (subst (λ w. has_head w bs ≡ true) (same_is g.head h y) g.known) n)
      where
        both : (b : Bool) → b ≡ true → b ≡ false → ⊥
        both b e f = cc

all_lead : {p : ℕ} {bs bs' : Branches} {rs : List Row} → LeftForDefault p bs rs []
    → ((g : Head) → has_head g bs ≡ true → has_head g bs' ≡ true) → LeftForDefault p bs' rs []
all_lead NoneLeft k = NoneLeft
all_lead (Leads g l) k = Leads
    (record {
      pat = g.pat;
      test = g.test;
      head = g.head;
      is_head = g.is_head;
      known
          = k g.head g.known;
    }) (all_lead l k)

lead_last : {p : ℕ} {bs : Branches} {rs : List Row} (r : Row) → LeftForDefault p bs rs []
    → Goes p bs r → LeftForDefault p bs (rs ++ r ∷ []) []
lead_last r NoneLeft g = Leads g NoneLeft
lead_last r (Leads k l) g = Leads k (lead_last r l g)

stay_last : {p : ℕ} {bs : Branches} {rs : List Row} (r : Row) → LeftForDefault p bs rs []
    → LeftForDefault p bs (rs ++ r ∷ []) (r ∷ [])
stay_last r l = leaves_more l (r ∷ [])

-- ---- a row that goes into a tree

into_default : {p : ℕ} {bs : Branches} {q : Row} {rs left : List Row} (r : Row) → Begins p q
    → AreBranches p (q ∷ rs) bs → LeftForDefault p bs (q ∷ rs) left → branches_fail bs ≡ false
    → (o : Option (Tree × ℕ)) (u : Tree × ℕ) → in_default p bs o ≡ Some u
    → ((v : Tree × ℕ) → o ≡ Some v → IsTree (left ++ r ∷ []) v.0)
    → IsTree (q ∷ (rs ++ r ∷ [])) u.0
into_default r b as' l f None u e ih = absurd cc
into_default {p = p} {bs = bs} {q = q} {rs = rs} r b as' l f (Some v) u e ih =
    subst (λ (w : Tree × ℕ). IsTree (q ∷ (rs ++ r ∷ [])) w.0)
    (some_is (Case p bs (ATree v.0), v.1) u e)
    (OfCase b (more_branches as' f (r ∷ []))
    (OthersStay (leaves_more l (r ∷ [])) f (ih v refl)))

-- the branch that takes the row
record Taken (p : ℕ) (rs : List Row) (r : Row) (bs bs' : Branches) : Type 0 where
  pat : Pat
  head : Head
  test : test_at p r.jobs ≡ Some pat
  is_head : head_of pat ≡ Some head
  went : Went p rs head r bs bs'

abbrev pub at_head : Option (Branches × ℕ) → Bool → Option (Branches × ℕ)
at_head o b = elim b [ true ↦ o | false ↦ None ]

by_kind : (P : Type 0) (o : Option (Branches × ℕ)) (v : Branches × ℕ) (b : Bool)
    → (b ≡ true → o ≡ Some v → P) → at_head o b ≡ Some v → P
by_kind P o v true take f = take refl f
by_kind P o v false take f = absurd cc

abbrev pub at_pat : (Head → Option (Branches × ℕ)) → Option Head → Option (Branches × ℕ)
at_pat go o = elim o [ None ↦ None | Some h ↦ go h ]

by_test_head : (P : Type 0) (bs : Branches) (n : ℕ) (r : Row) (v : Branches × ℕ) (pat : Pat)
    → ((h : Head) → head_of pat ≡ Some h → fits h bs ≡ true → insert_branch pat h bs n r ≡ Some v
    → P)
    → (o : Option Head) → head_of pat ≡ o → at_pat
    (λ h. at_head (insert_branch pat h bs n r) (fits h bs)) o ≡ Some v → P
by_test_head P bs n r v pat take None e f = absurd cc
by_test_head P bs n r v pat take (Some h) e f = by_kind P (insert_branch pat h bs n r) v (fits h bs)
    (take h e) f

abbrev pub at_test : (Pat → Option (Branches × ℕ)) → Option Pat → Option (Branches × ℕ)
at_test go o = elim o [ None ↦ None | Some pat ↦ go pat ]

-- a row that goes to a branch begins with a test
pub by_test : (P : Type 0) (p : ℕ) (bs : Branches) (n : ℕ) (r : Row) (v : Branches × ℕ)
    → ((pat : Pat) (h : Head) → test_at p r.jobs ≡ Some pat → head_of pat ≡ Some h
    → fits h bs ≡ true → insert_branch pat h bs n r ≡ Some v → P)
    → (o : Option Pat) → test_at p r.jobs ≡ o → at_test
    (λ pat. at_pat (λ h. at_head (insert_branch pat h bs n r) (fits h bs)) (head_of pat)) o ≡
    Some v → P
by_test P p bs n r v take None t f = absurd cc
by_test P p bs n r v take (Some pat) t f = by_test_head P bs n r v pat (λ h e. take pat h t e)
    (head_of pat) refl f

new_default : {p : ℕ} {bs : Branches} {q : Row} {rs : List Row} (n : ℕ) (r : Row)
    → BeginsWithTest r.jobs → Begins p q → AreBranches p (q ∷ rs) bs
    → LeftForDefault p bs (q ∷ rs) []
    → (room : ℕ) (u : Tree × ℕ) → or_default room p bs n r None ≡ Some u
    → IsTree (q ∷ (rs ++ r ∷ [])) u.0
new_default n r s b as' l zero u e = absurd cc
new_default {p = p} {bs = bs} {q = q} {rs = rs} n r s b as' l (suc room) u e
    = elim (two_ways (branches_fail bs)) [
      | inl y ↦ absurd
          (none_some (ap (λ c. cond c None (in_default p bs (Some (alone_from n r)))) (sym y) ∙ e))
      | inr f ↦
          let made : Tree × ℕ = (Case p bs (ATree (alone_from n r).0), (alone_from n r).1) in
          subst (λ (w : Tree × ℕ). IsTree (q ∷ (rs ++ r ∷ [])) w.0)
          (some_is made u (ap (λ c. cond c None (Some made)) (sym f) ∙ e))
          (OfCase b (more_branches as' f (r ∷ [])) (OthersStay (stay_last r l) f (alone_is n r s)))
    ]
  where
    none_some : {w : Tree × ℕ} → ◌≡◌ {A = Option (Tree × ℕ)} None (Some w) → ⊥
    none_some h = cc

into_case : {p : ℕ} {bs : Branches} {q : Row} {rs : List Row} (room n : ℕ) (r : Row)
    → BeginsWithTest r.jobs → Begins p q → AreBranches p (q ∷ rs) bs
    → LeftForDefault p bs (q ∷ rs) []
    → (o : Option (Branches × ℕ)) (u : Tree × ℕ) → or_default room p bs n r o ≡ Some u
    → ((v : Branches × ℕ) → o ≡ Some v → Taken p (q ∷ rs) r bs v.0)
    → IsTree (q ∷ (rs ++ r ∷ [])) u.0
into_case room n r s b as' l None u e ih = new_default n r s b as' l room u e
into_case {p = p} {bs = bs} {q = q} {rs = rs} room n r s b as' l (Some v) u e ih =
    let w = ih v refl in
    let goes : Goes p v.0 r = record
    { pat = w.pat; test = w.test; head = w.head; is_head = w.is_head; known = w.went.known } in
    subst (λ (w : Tree × ℕ). IsTree (q ∷ (rs ++ r ∷ [])) w.0)
    (some_is (Case p v.0 NoDefault, v.1) u e)
    (OfCase b w.went.branches (AllGo (lead_last r (all_lead l w.went.kept) goes)))

into_branch : {p : ℕ} {rs : List Row} (g h : Head) (pat : Pat) (n : ℕ) (r : Row) (ps : List ℕ)
    (t : Tree) (bs : Branches) → same_head g h ≡ true → has_head g bs ≡ false
    → test_at p r.jobs ≡ Some pat → head_of pat ≡ Some h → AreBranches p rs bs
    → (o : Option (Tree × ℕ)) (v : Branches × ℕ) → in_branch g ps bs o ≡ Some v
    → ((x : Tree × ℕ) → o ≡ Some x → IsTree (specialised p g ps rs ++ opened r pat ps ∷ []) x.0)
    → Went p rs h r (AndBranch g ps t bs) v.0
into_branch g h pat n r ps t bs y d test e as' None v f ih = absurd cc
into_branch {p = p} {rs = rs} g h pat n r ps t bs y d test e as' (Some x) v f ih =
    subst (λ (w : Branches × ℕ). Went p rs h r (AndBranch g ps t bs) w.0)
    (some_is (AndBranch g ps x.0 bs, x.1) v f)
    (went_in p rs g h pat r ps t x.0 bs y d test e (ih x refl) as')

into_later : {p : ℕ} {rs : List Row} (g h : Head) (pat : Pat) (r : Row) (ps : List ℕ) (t : Tree)
    (bs : Branches) → same_head g h ≡ false → has_head g bs ≡ false → test_at p r.jobs ≡ Some pat
    → head_of pat ≡ Some h → IsTree (specialised p g ps rs) t
    → (o : Option (Branches × ℕ)) (v : Branches × ℕ) → in_later g ps t o ≡ Some v
    → ((x : Branches × ℕ) → o ≡ Some x → Went p rs h r bs x.0)
    → Went p rs h r (AndBranch g ps t bs) v.0
into_later g h pat r ps t bs n d test e i None v f ih = absurd cc
into_later {p = p} {rs = rs} g h pat r ps t bs n d test e i (Some x) v f ih =
    subst (λ (w : Branches × ℕ). Went p rs h r (AndBranch g ps t bs) w.0)
    (some_is (AndBranch g ps t x.0, x.1) v f)
    (went_later p rs g h pat r ps t bs x.0 n d test e i (ih x refl))

abbrev pub branch_by : Option (Branches × ℕ) → Option (Branches × ℕ) → Bool → Option (Branches × ℕ)
branch_by a b c = elim c [ true ↦ a | false ↦ b ]

mutual
  pub inserted : (room : ℕ) (t : Tree) (n : ℕ) (r : Row) {rs : List Row} → BeginsWithTest r.jobs
      → IsTree rs t → (u : Tree × ℕ) → insert room t n r ≡ Some u → IsTree (rs ++ r ∷ []) u.0
  inserted room (Body q) n r s i u e = absurd cc
  inserted room (Case p bs (ATree t)) n r s (OfCase b as' (OthersStay l f i)) u e =
      into_default r b as' l f (insert (pred room) t n r) u e
      (λ v h. inserted (pred room) t n r s i v h)
  inserted room (Case p bs NoDefault) n r s (OfCase {r = q} {rs = rs} b as' (AllGo l)) u e =
      into_case (pred room) n r s b as' l
      (at_test (λ pat. at_pat (λ h. at_head (insert_branch pat h bs n r) (fits h bs))
      (head_of pat)) (test_at p r.jobs)) u e
      (λ v f. by_test (Taken p (q ∷ rs) r bs v.0) p bs n r v
      (λ pat h test head k g. record {
        pat = pat;
        head = h;
        test = test;
        is_head = head;
        went
            = inserted_branch pat h bs n r as' test head (none_else p (q ∷ rs) h bs l) v g;
      })
      (test_at p r.jobs) refl f)

  pub inserted_branch : (pat : Pat) (h : Head) (bs : Branches) (n : ℕ) (r : Row) {p : ℕ}
      {rs : List Row} → AreBranches p rs bs → test_at p r.jobs ≡ Some pat → head_of pat ≡ Some h
      → NoneElse p rs h bs
      → (v : Branches × ℕ) → insert_branch pat h bs n r ≡ Some v → Went p rs h r bs v.0
  inserted_branch pat h NoBranch n r {p = p} {rs = rs} NoneOf test e none v f =
      let places = places_from n (fields_of pat) in
      let made = new_branch h places (alone_from (n + count (fields_of pat)) (opened r pat places))
      in
      subst (λ (w : Branches × ℕ). Went p rs h r NoBranch w.0) (some_is made v f)
      (went_new p rs h pat r n test e none)
  inserted_branch pat h (AndBranch g ps t bs) n r {p = p} {rs = rs} (OneOf d i as') test e none v f
      = elim (two_ways (same_head g h)) [
        | inl y ↦
            into_branch g h pat n r ps t bs y d test e as'
            (insert max_chained_cases t n (opened r pat ps)) v
            (ap (branch_by (in_branch g ps bs (insert max_chained_cases t n (opened r pat ps)))
            (in_later g ps t (insert_branch pat h bs n r))) (sym y) ∙ f)
            (λ x k. inserted max_chained_cases t n (opened r pat ps)
            (settled_is r.body r.bound (pending_patterns_at ps (fields_of pat) ++ later r.jobs)) i x
            k)
        | inr m ↦
            into_later g h pat r ps t bs m d test e i (insert_branch pat h bs n r) v
            (ap (branch_by (in_branch g ps bs (insert max_chained_cases t n (opened r pat ps)))
            (in_later g ps t (insert_branch pat h bs n r))) (sym m) ∙ f)
            (λ x k. inserted_branch pat h bs n r as' test e
            (λ places k. none places (or_neither (same_head g h) (has_head h bs) m k)) x k)
      ]
