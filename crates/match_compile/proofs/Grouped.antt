-- The functions of a text: where each begins, that no two have one name, that their equations have
-- one number of
-- patterns; and the trees of each, by their names and numbers.
use Rattle.std.proofs.Common.{◌≡◌, ℕ, zero, suc, ◌+◌, ◌<◌, ◌≤◌, Bool, true, false, List, [], ◌∷◌, ◌++◌, map, length, refl, sym, ap, subst, ◌∙◌, append_assoc, arith, Option, Some, None, inl, inr}
use Rattle.std.specs.Prelude.{◌≢◌, ◌==◌, slice_get, if◌then◌else◌}
use Rattle.seq.specs.Lists.{AllOf, In, here, there, sum_of}
use Rattle.seq.proofs.Lists.{some_is, all_append, all_get, map_append}
use Rattle.seq.proofs.Order.{eq_from, eq_true, differs_from, same_or_not}
use Rattle.seq.proofs.Member.{none_in}
use Rattle.core_reader.specs.Tree.{Function}
use Rattle.match_compile.specs.Source.{Equation, Source}
use Rattle.match_compile.specs.Parts.{count, tests_of}
use Rattle.match_compile.specs.Rules.{Behind, arity_in, last_name, Broken, DuplicateFunction, ArityDiffers}
use Rattle.match_compile.specs.Sizes.{joined, functions, rows}
use Rattle.match_compile.specs.Trees.{max_chained_cases, insert}
use Rattle.match_compile.specs.Decisions.{Decision, row_of, begun, grown, decided, decisions_from, all_decisions, decisions}
use Rattle.match_compile.specs.Translated.{name_supply_of, with_nameless, equation_name, first_of, each_of, firsts, others, translated}
use Rattle.match_compile.proofs.Decided.{by_insert}
use Rattle.match_compile.proofs.NamedAs.{nameless_length}

-- ---- lists

pub all_are : {X : Type 0} (P Q : X → Type 0) → ((x : X) → P x → Q x) → (xs : List X) → AllOf P xs
    → AllOf Q xs
all_are P Q f [] h = tt
all_are P Q f (x ∷ xs) h = (f x h.0, all_are P Q f xs h.1)

pub all_in : {X : Type 0} (xs : List X) → AllOf (λ x. In x xs) xs
all_in [] = tt
all_in (x ∷ xs) =
    (here, all_are (λ y. In y xs) (λ y. In y (x ∷ xs)) (λ y h. there h) xs (all_in xs))

pub all_of : {X : Type 0} (P : X → Type 0) {x : X} (xs : List X) → AllOf P xs → In x xs → P x
all_of P [] h i = none_in i
all_of P (y ∷ xs) h here = h.0
all_of P (y ∷ xs) h (there i) = all_of P xs h.1 i

pub front_all : {X : Type 0} (P : X → Type 0) (xs ys : List X) → AllOf P (xs ++ ys) → AllOf P xs
front_all P [] ys h = tt
front_all P (x ∷ xs) ys h = (h.0, front_all P xs ys h.1)

pub back_all : {X : Type 0} (P : X → Type 0) (xs ys : List X) → AllOf P (xs ++ ys) → AllOf P ys
back_all P [] ys h = h
back_all P (x ∷ xs) ys h = back_all P xs ys h.1

-- no number stands twice
abbrev pub Differ : List ℕ → Type 0
Differ [] = Unit {0}
Differ (x ∷ xs) = AllOf (λ y. y ≢ x) xs × Differ xs

differ_append : (n : ℕ) (xs ys : List ℕ) → Differ xs → Differ ys → AllOf (λ x. x < n) xs
    → AllOf (λ y. n ≤ y) ys → Differ (xs ++ ys)
differ_append n [] ys d e l m = e
differ_append n (x ∷ xs) ys d e l m =
    let lt : x < n = l.0 in (
      all_append (λ y. y ≢ x) xs ys d.0
          (all_are (λ y. n ≤ y) (λ y. y ≢ x) (λ y le e. omega (arith, le, lt, e)) ys m),
      differ_append n xs ys d.1 e l.1 m,
    )

pub differ_at : (xs : List ℕ) (i j x y : ℕ) → Differ xs → i < j → slice_get xs i ≡ Some x
    → slice_get xs j ≡ Some y → y ≢ x
differ_at [] i j x y d lt e f = absurd cc
differ_at (z ∷ xs) zero zero x y d lt e f = absurd (omega (arith, lt))
differ_at (z ∷ xs) zero (suc j) x y d lt e f = let same : z ≡ x = some_is e
    in subst (λ w. y ≢ w) same (all_get (λ y. y ≢ z) xs j y d.0 f)
differ_at (z ∷ xs) (suc i) zero x y d lt e f = absurd (omega (arith, lt))
differ_at (z ∷ xs) (suc i) (suc j) x y d lt e f = differ_at xs i j x y d.1 (omega (arith, lt)) e f

-- numbers between two, each above the one before it
abbrev pub Climbs : ℕ → ℕ → List ℕ → Type 0
Climbs lo hi [] = lo ≤ hi
Climbs lo hi (n ∷ ns) = (lo ≤ n) × Climbs (suc n) hi ns

pub from_lower : (a lo hi : ℕ) (ns : List ℕ) → a ≤ lo → Climbs lo hi ns → Climbs a hi ns
from_lower a lo hi [] le h = omega (arith, le, h)
from_lower a lo hi (n ∷ ns) le h = let l = h.0 in (omega (arith, le, l), h.1)

to_higher : (lo hi b : ℕ) (ns : List ℕ) → hi ≤ b → Climbs lo hi ns → Climbs lo b ns
to_higher lo hi b [] le h = omega (arith, le, h)
to_higher lo hi b (n ∷ ns) le h = (h.0, to_higher (suc n) hi b ns le h.1)

climb_on : (a b d : ℕ) (xs ys : List ℕ) → Climbs a b xs → Climbs b d ys → Climbs a d (xs ++ ys)
climb_on a b d [] ys h k = from_lower a b d ys h k
climb_on a b d (x ∷ xs) ys h k = (h.0, climb_on (suc x) b d xs ys h.1 k)

pub all_above : (lo hi : ℕ) (ns : List ℕ) → Climbs lo hi ns → AllOf (λ n. lo ≤ n) ns
all_above lo hi [] h = tt
all_above lo hi (n ∷ ns) h = let l = h.0 in (
  l,
  all_are (λ m. suc n ≤ m) (λ m. lo ≤ m) (λ m k. omega (arith, l, k)) ns
      (all_above (suc n) hi ns h.1),
)

pub all_below : (lo hi : ℕ) (ns : List ℕ) → Climbs lo hi ns → AllOf (λ n. n < hi) ns
all_below lo hi [] h = tt
all_below lo hi (n ∷ ns) h = let l = least (suc n) hi ns h.1
    in (omega (arith, l), all_below (suc n) hi ns h.1)
  where
    least : (lo hi : ℕ) (ns : List ℕ) → Climbs lo hi ns → lo ≤ hi
    least lo hi [] h = h
    least lo hi (n ∷ ns) h = let l = h.0 in let m = least (suc n) hi ns h.1 in omega (arith, l, m)

climbs_differ : (f : ℕ → ℕ) → ((m n : ℕ) → f m ≡ f n → m ≡ n) → (lo hi : ℕ) (ns : List ℕ)
    → Climbs lo hi ns → Differ (map f ns)
climbs_differ f g lo hi [] h = tt
climbs_differ f g lo hi (n ∷ ns) h =
    (apart n ns (all_above (suc n) hi ns h.1), climbs_differ f g (suc n) hi ns h.1)
  where
    apart : (n : ℕ) (ns : List ℕ) → AllOf (λ m. suc n ≤ m) ns → AllOf (λ y. y ≢ f n) (map f ns)
    apart n [] h = tt
    apart n (m ∷ ns) h = let l = h.0 in
        (λ e. let same = g m n e in omega (arith, same, l), apart n ns h.1)

all_mapped : (f : ℕ → ℕ) (a : ℕ) → ((n : ℕ) → a ≤ f n) → (ns : List ℕ)
    → AllOf (λ y. a ≤ y) (map f ns)
all_mapped f a h [] = tt
all_mapped f a h (n ∷ ns) = (h n, all_mapped f a h ns)

-- ---- where functions begin

abbrev pub first_names : List (List Equation) → List ℕ
first_names [] = []
first_names ([] ∷ fs) = first_names fs
first_names ((e ∷ es) ∷ fs) = e.name ∷ first_names fs

-- the first equation of a function that is not the first one
record Later (es : List Equation) (x : ℕ) : Type 0 where
  before : Equation
  between : List Equation
  first : Equation
  rest : List Equation
  is : es ≡ before ∷ (between ++ first ∷ rest)
  named : first.name ≡ x
  parted : last_name (before ∷ between) ≢ Some x

deeper : (e f : Equation) (es : List Equation) (x : ℕ) → Later (f ∷ es) x → Later (e ∷ f ∷ es) x
deeper e f es x l = record {
  before = e;
  between = l.before ∷ l.between;
  first = l.first;
  rest = l.rest;
  is = ap (λ w. e ∷ w) l.is;
  named = l.named;
  parted = l.parted;
}

record Group (e : Equation) (es : List Equation) : Type 0 where
  same : List Equation
  others : List (List Equation)
  is : functions (e ∷ es) ≡ (e ∷ same) ∷ others
  later : AllOf (Later (e ∷ es)) (first_names others)
  differ : Differ (first_names (functions es)) → Differ (first_names others)

grouped : (e : Equation) (es : List Equation) → Group e es
grouped e [] = record { same = []; others = []; is = refl; later = tt; differ = λ h. tt }
grouped e (f ∷ es) = go (e.name == f.name) refl (grouped f es)
  where
    go : (b : Bool) → (e.name == f.name) ≡ b → Group f es → Group e (f ∷ es)
    go true h g = record {
      same = f ∷ g.same;
      others = g.others;
      is = ap (joined e) g.is ∙ ap
          (λ b. if b then (e ∷ f ∷ g.same) ∷ g.others else (e ∷ []) ∷ (f ∷ g.same) ∷ g.others) h;
      later = all_are (Later (f ∷ es)) (Later (e ∷ f ∷ es)) (deeper e f es) (first_names g.others)
          g.later;
      differ = λ d. (subst (λ w. Differ (first_names w)) g.is d).1;
    }
    go false h g = record {
      same = [];
      others = (f ∷ g.same) ∷ g.others;
      is = ap (joined e) g.is ∙ ap
          (λ b. if b then (e ∷ f ∷ g.same) ∷ g.others else (e ∷ []) ∷ (f ∷ g.same) ∷ g.others) h;
      later = (
        record {
          before = e;
          between = [];
          first = f;
          rest = es;
          is = refl;
          named = refl;
          parted
              = λ q. differs_from e.name f.name h (some_is q);
        },
        all_are (Later (f ∷ es)) (Later (e ∷ f ∷ es)) (deeper e f es) (first_names g.others)
            g.later,
      );
      differ = λ d. subst (λ w. Differ (first_names w)) g.is d;
    }

-- ---- what holds of all equations holds of those of each function

module _ (P : Equation → Type 0) where
  joined_all : (e : Equation) (fs : List (List Equation)) → P e → AllOf (AllOf P) fs
      → AllOf (AllOf P) (joined e fs)
  joined_all e [] p h = ((p, tt), tt)
  joined_all e ([] ∷ fs) p h = ((p, tt), h.1)
  joined_all e ((f ∷ es) ∷ fs) p h = go (e.name == f.name)
    where
      go : (b : Bool) → AllOf (AllOf P) (if b then (e ∷ f ∷ es) ∷ fs else (e ∷ []) ∷ (f ∷ es) ∷ fs)
      go true = ((p, h.0), h.1)
      go false = ((p, tt), h)

  pub functions_all : (es : List Equation) → AllOf P es → AllOf (AllOf P) (functions es)
  functions_all [] h = tt
  functions_all (e ∷ es) h = joined_all e (functions es) h.0 (functions_all es h.1)

  pub rows_all : (es : List Equation) → AllOf P es → AllOf P (rows es)
  rows_all [] h = tt
  rows_all (e ∷ es) h = (h.0, go (tests_of e.pats == 0) (rows_all es h.1))
    where
      go : (b : Bool) → AllOf P (rows es) → AllOf P (if b then [] else rows es)
      go true h = tt
      go false h = h

-- the equations of a function have the name of its first one
abbrev pub OneName : List Equation → Type 0
OneName [] = Unit {0}
OneName (e ∷ es) = AllOf (λ (f : Equation). f.name ≡ e.name) es

joined_one : (e : Equation) (fs : List (List Equation)) → AllOf OneName fs
    → AllOf OneName (joined e fs)
joined_one e [] h = (tt, tt)
joined_one e ([] ∷ fs) h = (tt, h.1)
joined_one e ((f ∷ es) ∷ fs) h = go (e.name == f.name) refl
  where
    go : (b : Bool) → (e.name == f.name) ≡ b → AllOf OneName
        (if b then (e ∷ f ∷ es) ∷ fs else (e ∷ []) ∷ (f ∷ es) ∷ fs)
    go true q =
        let same : f.name ≡ e.name = sym (eq_from e.name f.name q) in (
          (
            same,
            all_are (λ (g : Equation). g.name ≡ f.name) (λ (g : Equation). g.name ≡ e.name)
                (λ g k. k ∙ same) es h.0,
          ),
          h.1,
        )
    go false q = (tt, h)

pub functions_one : (es : List Equation) → AllOf OneName (functions es)
functions_one [] = tt
functions_one (e ∷ es) = joined_one e (functions es) (functions_one es)

-- the name of each equation is that of a function
joined_names : (e : Equation) (fs : List (List Equation)) {x : ℕ} → In x (first_names fs)
    → In x (first_names (joined e fs))
joined_names e [] h = none_in h
joined_names e ([] ∷ fs) h = there h
joined_names e ((f ∷ es) ∷ fs) {x = x} h = go (e.name == f.name) refl h
  where
    go : (b : Bool) → (e.name == f.name) ≡ b → In x (f.name ∷ first_names fs)
        → In x (first_names (if b then (e ∷ f ∷ es) ∷ fs else (e ∷ []) ∷ (f ∷ es) ∷ fs))
    go true q h = subst (λ w. In x (w ∷ first_names fs)) (sym (eq_from e.name f.name q)) h
    go false q h = there h

joined_name : (e : Equation) (fs : List (List Equation)) → In e.name (first_names (joined e fs))
joined_name e [] = here
joined_name e ([] ∷ fs) = here
joined_name e ((f ∷ es) ∷ fs) = go (e.name == f.name)
  where
    go : (b : Bool) → In e.name
        (first_names (if b then (e ∷ f ∷ es) ∷ fs else (e ∷ []) ∷ (f ∷ es) ∷ fs))
    go true = here
    go false = here

pub each_name : (es : List Equation) {e : Equation} → In e es
    → In e.name (first_names (functions es))
each_name [] h = none_in h
each_name (e ∷ es) here = joined_name e (functions es)
each_name (e ∷ es) (there h) = joined_names e (functions es) (each_name es h)

-- ---- no function has equations in two places, and all of its equations have one number of
-- patterns

found_arity : (before : List Equation) (e : Equation) (after : List Equation) (x : ℕ) → e.name ≡ x
    → (n : ℕ) × (arity_in (before ++ e ∷ after) x ≡ Some n)
found_arity [] e after x q = (
  count e.pats,
  ap (λ b. if b then Some (count e.pats) else arity_in after x)
      (eq_true e.name x q),
)
found_arity (f ∷ before) e after x q = go (f.name == x) (found_arity before e after x q)
  where
    go : (b : Bool) → (n : ℕ) × (arity_in (before ++ e ∷ after) x ≡ Some n) → (n : ℕ)
        × ((if b then Some (count f.pats) else arity_in (before ++ e ∷ after) x) ≡ Some n)
    go true r = (count f.pats, refl)
    go false r = r

last_behind : (before : List Equation) (e : Equation) (after : List Equation)
    → last_name (before ++ e ∷ after) ≡ last_name (e ∷ after)
last_behind [] e after = refl
last_behind (b ∷ []) e after = refl
last_behind (b ∷ f ∷ before) e after = last_behind (f ∷ before) e after

arity_first : (before after : List Equation) (x n : ℕ) → arity_in before x ≡ Some n
    → arity_in (before ++ after) x ≡ Some n
arity_first [] after x n e = absurd cc
arity_first (b ∷ before) after x n e = go (b.name == x) (λ h. arity_first before after x n h) e
  where
    go : (t : Bool) → (arity_in before x ≡ Some n → arity_in (before ++ after) x ≡ Some n)
        → (if t then Some (count b.pats) else arity_in before x) ≡ Some n
        → (if t then Some (count b.pats) else arity_in (before ++ after) x) ≡ Some n
    go true f h = h
    go false f h = f h

pub arity_behind : (before after : List Equation) (x : ℕ) → arity_in before x ≡ None
    → arity_in (before ++ after) x ≡ arity_in after x
arity_behind [] after x e = refl
arity_behind (b ∷ before) after x e = go (b.name == x) (λ h. arity_behind before after x h) e
  where
    go : (t : Bool) → (arity_in before x ≡ None → arity_in (before ++ after) x ≡ arity_in after x)
        → (if t then Some (count b.pats) else arity_in before x) ≡ None
        → (if t then Some (count b.pats) else arity_in (before ++ after) x) ≡ arity_in after x
    go true f h = absurd cc
    go false f h = f h

pub split_at : {X : Type 0} {x : X} (xs : List X) → In x xs → (before : List X) × Behind before x xs
split_at [] h = none_in h
split_at (x ∷ xs) here = ([], record { after = xs; is = refl })
split_at (y ∷ xs) (there h) = let r = split_at xs h
    in (y ∷ r.0, record { after = r.1.after; is = ap (λ w. y ∷ w) r.1.is })

module _ (c : Source) (unbroken : (k at : ℕ) → Broken c k at → ⊥) where
  no_gap : (front : List Equation) (es : List Equation) (x : ℕ) (l : Later es x)
      → c.equations ≡ front ++ es → l.before.name ≡ x → ⊥
  no_gap front es x l is q =
      let before : List Equation = front ++ (l.before ∷ l.between) in
      let whole : c.equations ≡ before ++ l.first ∷ l.rest
      = is ∙ ap (λ w. front ++ w) l.is ∙ sym
      (append_assoc front (l.before ∷ l.between) (l.first ∷ l.rest)) in
      let arity = found_arity front l.before l.between l.first.name (q ∙ sym l.named) in
      let parted : last_name before ≢ Some l.first.name
      = λ h. l.parted (sym (last_behind front l.before l.between) ∙ h ∙ ap Some l.named) in
      unbroken 12 l.first.at
      (DuplicateFunction (record { after = l.rest; is = whole }) arity.1 parted)

  pub arity_is : {e : Equation} → In e c.equations → arity_in c.equations e.name ≡ Some
      (count e.pats)
  arity_is {e = e} h =
      let s = split_at c.equations h in
      go s.0 s.1 (arity_in s.0 e.name) refl
    where
      go : (before : List Equation) (b : Behind before e c.equations) (o : Option ℕ)
          → arity_in before e.name ≡ o → arity_in c.equations e.name ≡ Some (count e.pats)
      go before b (Some n) q = elim (same_or_not n (count e.pats)) [
        | inl same ↦ ap (λ w. arity_in w e.name) b.is ∙ arity_first before (e ∷ b.after) e.name n q
            ∙ ap Some same
        | inr differs ↦ absurd (unbroken 71 e.at (ArityDiffers b q differs))
      ]
      go before b None q =
          ap (λ w. arity_in w e.name) b.is ∙ arity_behind before (e ∷ b.after) e.name q
          ∙ ap (λ t. if t then Some (count e.pats) else arity_in b.after e.name)
          (eq_true e.name e.name refl)

  pub same_count : {e f : Equation} → In e c.equations → In f c.equations → e.name ≡ f.name
      → count e.pats ≡ count f.pats
  same_count {e = e} {f = f} h k q = some_is
      (sym (arity_is h) ∙ ap (arity_in c.equations) q ∙ arity_is k)

-- ---- the trees of a function, by names and numbers

record FirstIs (d : Decision) (ds : List Decision) : Type 0 where
  head : Decision
  tail : List Decision
  is : ds ≡ head ∷ tail
  name : head.name ≡ d.name

decided_first : (d : Decision) (k : ℕ) (es : List Equation) → FirstIs d (decided d k es)
decided_first d k [] = record { head = d; tail = []; is = refl; name = refl }
decided_first d k (e ∷ es) =
    by_insert (FirstIs d) d k e es (insert max_chained_cases d.tree d.free (row_of e))
    (λ t i. let r = decided_first (grown d t) (suc k) es
    in record { head = r.head; tail = r.tail; is = r.is; name = r.name })
    (record { head = d; tail = decided (begun k e) (suc k) es; is = refl; name = refl })

abbrev pub numbers_of : List Decision → List ℕ
numbers_of [] = []
numbers_of (d ∷ ds) = d.number ∷ numbers_of ds

decided_climb : (d : Decision) (k : ℕ) (es : List Equation) → d.number < k
    → Climbs d.number (k + length es) (numbers_of (decided d k es))
decided_climb d k [] lt = (omega arith, omega (arith, lt))
decided_climb d k (e ∷ es) lt =
    by_insert (λ ds. Climbs d.number (k + length (e ∷ es)) (numbers_of ds)) d k e es
    (insert max_chained_cases d.tree d.free (row_of e))
    (λ t i. to_higher d.number (suc k + length es) (k + length (e ∷ es))
    (numbers_of (decided (grown d t) (suc k) es)) (omega arith)
    (decided_climb (grown d t) (suc k) es (omega (arith, lt)))) (
      omega arith,
      from_lower (suc d.number) k (k + length (e ∷ es))
          (numbers_of (decided (begun k e) (suc k) es)) (omega (arith, lt))
          (to_higher k (suc k + length es) (k + length (e ∷ es))
          (numbers_of (decided (begun k e) (suc k) es)) (omega arith)
          (decided_climb (begun k e) (suc k) es (omega arith))),
    )

pub decisions_climb : (k : ℕ) (es : List Equation) → Climbs k (k + length es)
    (numbers_of (decisions_from k es))
decisions_climb k [] = omega arith
decisions_climb k (e ∷ es) = to_higher k (suc k + length es) (k + length (e ∷ es))
    (numbers_of (decisions_from k (e ∷ es))) (omega arith)
    (decided_climb (begun k e) (suc k) es (omega arith))

tail_climbs : (lo hi : ℕ) (d : Decision) (ds : List Decision) → Climbs lo hi (numbers_of (d ∷ ds))
    → Climbs lo hi (numbers_of ds)
tail_climbs lo hi d ds h = let l = h.0 in from_lower lo (suc d.number) hi (numbers_of ds)
    (omega (arith, l)) h.1

abbrev pub other_numbers : List (List Decision) → List ℕ
other_numbers [] = []
other_numbers ([] ∷ fs) = other_numbers fs
other_numbers ((d ∷ ds) ∷ fs) = numbers_of ds ++ other_numbers fs

pub rows_fewer : (es : List Equation) → length (rows es) ≤ length es
rows_fewer [] = omega arith
rows_fewer (e ∷ es) = go (tests_of e.pats == 0) (rows_fewer es)
  where
    go : (b : Bool) → length (rows es) ≤ length es → length (e ∷ (if b then [] else rows es)) ≤
        length (e ∷ es)
    go true l = omega arith
    go false l = omega (arith, l)

abbrev pub total : List (List Equation) → ℕ
total fs = sum_of (map length fs)

pub others_climb : (k : ℕ) (fs : List (List Equation))
    → Climbs k (k + total fs) (other_numbers (all_decisions k fs))
others_climb k [] = omega arith
others_climb k (f ∷ fs) = go (decisions_from k (rows f)) (decisions_climb k (rows f))
    (to_higher (k + length f) (k + length f + total fs) (k + total (f ∷ fs))
    (other_numbers (all_decisions (k + length f) fs)) (omega arith)
    (others_climb (k + length f) fs))
  where
    go : (ds : List Decision) → Climbs k (k + length (rows f)) (numbers_of ds)
        → Climbs (k + length f) (k + total (f ∷ fs))
        (other_numbers (all_decisions (k + length f) fs))
        → Climbs k (k + total (f ∷ fs)) (other_numbers (ds ∷ all_decisions (k + length f) fs))
    go [] h rest = from_lower k (k + length f) (k + total (f ∷ fs))
        (other_numbers (all_decisions (k + length f) fs)) (omega arith) rest
    go (d ∷ ds) h rest =
        climb_on k (k + length f) (k + total (f ∷ fs)) (numbers_of ds)
        (other_numbers (all_decisions (k + length f) fs))
        (to_higher k (k + length (rows f)) (k + length f) (numbers_of ds)
        (omega (arith, rows_fewer f)) (tail_climbs k (k + length (rows f)) d ds h)) rest

-- ---- the names of the program's functions

abbrev pub function_names : List Function → List ℕ
function_names [] = []
function_names (f ∷ fs) = f.name ∷ function_names fs

pub names_append : (xs ys : List Function) → function_names (xs ++ ys) ≡ function_names xs
    ++ function_names ys
names_append [] ys = refl
names_append (x ∷ xs) ys = ap (λ w. x.name ∷ w) (names_append xs ys)

pub name_among : (gs : List Function) {g : Function} → In g gs → In g.name (function_names gs)
name_among [] h = none_in h
name_among (g ∷ gs) here = here
name_among (d ∷ gs) (there h) = there (name_among gs h)

pub name_at : (fs : List Function) (i : ℕ) {f : Function} → slice_get fs i ≡ Some f
    → slice_get (function_names fs) i ≡ Some f.name
name_at [] i e = absurd cc
name_at (g ∷ fs) zero {f = f} e = ap (λ (h : Function). Some h.name) (some_is e)
name_at (g ∷ fs) (suc i) e = name_at fs i e

pub below_all : (n : ℕ) (fs : List (List Equation))
    → AllOf (AllOf (λ (e : Equation). e.name < n)) fs → AllOf (λ x. x < n) (first_names fs)
below_all n [] h = tt
below_all n ([] ∷ fs) h = below_all n fs h.1
below_all n ((e ∷ es) ∷ fs) h = (h.0.0, below_all n fs h.1)

module _ (c : Source) where
  each_names : (ds : List Decision) → function_names (each_of (name_supply_of c) ds) ≡ map
      (equation_name (name_supply_of c)) (numbers_of ds)
  each_names [] = refl
  each_names (d ∷ ds) = ap (λ w. equation_name (name_supply_of c) d.number ∷ w) (each_names ds)

  pub others_names : (fs : List (List Decision)) → function_names (others (name_supply_of c) fs) ≡
      map (equation_name (name_supply_of c)) (other_numbers fs)
  others_names [] = refl
  others_names ([] ∷ fs) = others_names fs
  others_names ((d ∷ ds) ∷ fs) =
      names_append (each_of (name_supply_of c) ds) (others (name_supply_of c) fs) ∙
      (λ i. each_names ds i ++ others_names fs i) ∙ sym
      (map_append (equation_name (name_supply_of c)) (numbers_of ds) (other_numbers fs))

  pub firsts_names : (k : ℕ) (fs : List (List Equation))
      → function_names (firsts (name_supply_of c) (all_decisions k fs)) ≡ first_names fs
  firsts_names k [] = refl
  firsts_names k ([] ∷ fs) = firsts_names (k + 0) fs
  firsts_names k ((e ∷ es) ∷ fs) = go (decisions_from k (rows (e ∷ es)))
      (decided_first (begun k e) (suc k) (if tests_of e.pats == 0 then [] else rows es))
      (firsts_names (k + length (e ∷ es)) fs)
    where
      go : (ds : List Decision) → FirstIs (begun k e) ds
          → function_names (firsts (name_supply_of c) (all_decisions (k + length (e ∷ es)) fs)) ≡
          first_names fs → function_names
          (firsts (name_supply_of c) (ds ∷ all_decisions (k + length (e ∷ es)) fs)) ≡ e.name ∷
          first_names fs
      go ds r ih =
          ap (λ (w : List Decision). function_names
          (first_of (name_supply_of c) w ++ firsts (name_supply_of c)
          (all_decisions (k + length (e ∷ es)) fs))) r.is
          ∙ (λ i. r.name i ∷ ih i)

  pub equation_apart : (m n : ℕ) → equation_name (name_supply_of c) m ≡ equation_name
      (name_supply_of c) n → m ≡ n
  equation_apart m n e = omega (arith, e)

  module _ (unbroken : (k at : ℕ) → Broken c k at → ⊥) where
    firsts_differ : (front es : List Equation) → c.equations ≡ front ++ es
        → Differ (first_names (functions es))
    firsts_differ front [] is = tt
    firsts_differ front (e ∷ es) is =
        let g = grouped e es in
        let rest = firsts_differ (front ++ e ∷ []) es (is ∙ sym (append_assoc front (e ∷ []) es)) in
        subst (λ w. Differ (first_names w)) (sym g.is) (
          all_are (Later (e ∷ es)) (λ y. y ≢ e.name) (λ x l. apart x l) (first_names g.others)
              g.later,
          g.differ rest,
        )
      where
        apart : (x : ℕ) → Later (e ∷ es) x → x ≢ e.name
        apart x l q = let same : l.before ≡ e = sym (heads l.is)
            in no_gap c unbroken front (e ∷ es) x l is (ap (λ (f : Equation). f.name) same ∙ sym q)
          where
            heads : {f : Equation} {fs : List Equation} → e ∷ es ≡ f ∷ fs → e ≡ f
            heads h = cc

    -- no two functions of the program have one name
    pub names_differ : AllOf (λ (e : Equation). e.name < length c.names) c.equations
        → Differ (function_names (translated c).functions)
    names_differ below =
        let n : ℕ = length (with_nameless c.names) in
        let fs : List (List Equation) = functions c.equations in
        let le : length c.names ≤ n = nameless_length c.names in
        let lower = all_are (λ (e : Equation). e.name < length c.names)
        (λ (e : Equation). e.name < n) (λ e lt. omega (arith, le, lt)) c.equations below in
        let firsts_are = firsts_names 0 fs in
        let others_are = others_names (decisions c) in
        let are : function_names (translated c).functions ≡ first_names fs
        ++ map (equation_name (name_supply_of c)) (other_numbers (decisions c)) =
        names_append (firsts (name_supply_of c) (decisions c))
        (others (name_supply_of c) (decisions c)) ∙ (λ i. firsts_are i ++ others_are i) in
        subst Differ (sym are)
        (differ_append n (first_names fs)
        (map (equation_name (name_supply_of c)) (other_numbers (decisions c)))
        (firsts_differ [] c.equations refl)
        (climbs_differ (equation_name (name_supply_of c)) equation_apart 0 (0 + total fs)
        (other_numbers (decisions c)) (others_climb 0 fs))
        (below_all n fs (functions_all (λ (e : Equation). e.name < n) c.equations lower))
        (all_mapped (equation_name (name_supply_of c)) n (λ k. omega arith)
        (other_numbers (decisions c))))

    pub differ_names : AllOf (λ (e : Equation). e.name < length c.names) c.equations
        → (i j : ℕ) (f g : Function) → i < j → slice_get (translated c).functions i ≡ Some f
        → slice_get (translated c).functions j ≡ Some g → g.name ≢ f.name
    differ_names below i j f g lt e h = differ_at (function_names (translated c).functions) i j
        f.name g.name (names_differ below) lt (name_at (translated c).functions i e)
        (name_at (translated c).functions j h)
