-- The places of a row, of which each stands once, the names and constructors of what it has still
-- to
-- match, and the leaf that it comes to.
use Rattle.std.proofs.Common.{◌≡◌, ℕ, zero, suc, ◌+◌, ◌<◌, ◌≤◌, Bool, true, false, cond, List, [], ◌∷◌, ◌++◌, length, refl, sym, ap, subst, ◌∙◌, append_assoc, arith, Some, None, ◌⊎◌, inl, inr, ⊎_elim}
use Rattle.std.specs.Prelude.{◌≢◌, ◌==◌, ◌&&◌, if◌then◌else◌}
use Rattle.seq.specs.Lists.{AllOf, In, here, there, numbers_from}
use Rattle.seq.proofs.Lists.{all_append}
use Rattle.seq.proofs.Counted.{length_numbers}
use Rattle.seq.proofs.Member.{none_in, in_left, in_right, in_split, cons_in}
use Rattle.seq.proofs.Order.{eq_from}
use Rattle.seq.proofs.Truth.{and_not_right}
use Rattle.core_reader.specs.declared.syntax.Binder.{Binder}
use Rattle.core_reader.specs.Tree.{Expr}
use Rattle.match_compile.specs.Source.{Pat, Name, Int, Con, Pats, NoPats, AndPat, Equation}
use Rattle.match_compile.specs.Parts.{count, names_in, names_of, constructors_in, constructors_of}
use Rattle.match_compile.specs.Heads.{Head}
use Rattle.match_compile.specs.Trees.{PendingPattern, Row, row, settled, pending_patterns_at, places_from, head_of, fields_of, Tree, Body, Case, Branches, NoBranch, AndBranch, Default, NoDefault, ATree, test_at, later, opened}
use Rattle.match_compile.specs.Decisions.{row_of}
use Rattle.match_compile.specs.Translated.{bound_at}
use Rattle.match_compile.proofs.Inserted.{some_is}
use Rattle.match_compile.proofs.Grouped.{front_all, back_all, Differ, all_are, all_of, all_in}

abbrev pub NotIn : ℕ → List ℕ → Type 0
NotIn p ps = In p ps → ⊥

-- ---- numbers one after the other

pub numbers_above : (n k : ℕ) → AllOf (λ p. n ≤ p) (numbers_from n k)
numbers_above n zero = tt
numbers_above n (suc k) = (
  omega arith,
  all_are (λ p. suc n ≤ p) (λ p. n ≤ p) (λ p le. omega (arith, le))
      (numbers_from (suc n) k) (numbers_above (suc n) k),
)

pub numbers_below : (n k : ℕ) → AllOf (λ p. p < n + k) (numbers_from n k)
numbers_below n zero = tt
numbers_below n (suc k) = (
  omega arith,
  all_are (λ p. p < suc n + k) (λ p. p < n + suc k) (λ p lt. omega (arith, lt))
      (numbers_from (suc n) k) (numbers_below (suc n) k),
)

pub numbers_differ : (n k : ℕ) → Differ (numbers_from n k)
numbers_differ n zero = tt
numbers_differ n (suc k) = (
  all_are (λ p. suc n ≤ p) (λ p. p ≢ n) (λ p le e. omega (arith, le, e)) (numbers_from (suc n) k)
      (numbers_above (suc n) k),
  numbers_differ (suc n) k,
)

pub above_none : (n : ℕ) (ps ks : List ℕ) → AllOf (λ p. n ≤ p) ps → AllOf (λ p. p < n) ks
    → AllOf (λ p. NotIn p ks) ps
above_none n ps ks h g = all_are (λ p. n ≤ p) (λ p. NotIn p ks)
    (λ p le i. let lt : p < n = all_of (λ p. p < n) ks g i in omega (arith, le, lt)) ps h

-- ---- places of which each stands once

pub differ_join : (ps ys ks : List ℕ) → Differ ps → Differ ys → AllOf (λ p. NotIn p ks) ps
    → AllOf (λ y. In y ks) ys → Differ (ps ++ ys)
differ_join [] ys ks d e n k = e
differ_join (p ∷ ps) ys ks d e n k = (
  all_append (λ y. y ≢ p) ps ys d.0
      (all_are (λ y. In y ks) (λ y. y ≢ p) (λ y i q. n.0 (subst (λ z. In z ks) q i)) ys k),
  differ_join ps ys ks d.1 e n.1 k,
)

-- places of fields in the place of the one that is looked at
pub differ_open : (xs ps ys ks : List ℕ) (p : ℕ) → Differ (xs ++ p ∷ ys) → Differ ps
    → AllOf (λ p. NotIn p ks) ps → AllOf (λ y. In y ks) (xs ++ p ∷ ys) → Differ (xs ++ (ps ++ ys))
differ_open [] ps ys ks p d e n k = differ_join ps ys ks e d.1 n k.1
differ_open (x ∷ xs) ps ys ks p d e n k =
    let apart : AllOf (λ y. y ≢ x) ps = all_are (λ q. NotIn q ks) (λ y. y ≢ x)
    (λ y m q. m (subst (λ z. In z ks) (sym q) k.0)) ps n in (
      all_append (λ y. y ≢ x) xs (ps ++ ys) (front_all (λ y. y ≢ x) xs (p ∷ ys) d.0)
          (all_append (λ y. y ≢ x) ps ys apart (back_all (λ y. y ≢ x) xs (p ∷ ys) d.0).1),
      differ_open xs ps ys ks p d.1 e n k.1,
    )

pub known_open : (xs ps ys ks : List ℕ) (p : ℕ) → AllOf (λ y. In y ks) (xs ++ p ∷ ys)
    → AllOf (λ y. In y (ps ++ ks)) (xs ++ (ps ++ ys))
known_open xs ps ys ks p k =
    let more : (zs : List ℕ) → AllOf (λ y. In y ks) zs → AllOf (λ y. In y (ps ++ ks)) zs
    = λ zs h. all_are (λ y. In y ks) (λ y. In y (ps ++ ks)) (λ y i. in_right ps ks i) zs h in
    all_append (λ y. In y (ps ++ ks)) xs (ps ++ ys)
    (more xs (front_all (λ y. In y ks) xs (p ∷ ys) k))
    (all_append (λ y. In y (ps ++ ks)) ps ys
    (all_are (λ y. In y ps) (λ y. In y (ps ++ ks)) (λ y i. in_left ps ks i) ps (all_in ps))
    (more ys (back_all (λ y. In y ks) xs (p ∷ ys) k).1))

pub not_middle : (xs ys : List ℕ) (p : ℕ) → Differ (xs ++ p ∷ ys) → NotIn p (xs ++ ys)
not_middle [] ys p d i = all_of (λ y. y ≢ p) ys d.0 i refl
not_middle (x ∷ xs) ys p d i = ⊎_elim (λ q. (back_all (λ y. y ≢ x) xs (p ∷ ys) d.0).0 q)
    (λ j. not_middle xs ys p d.1 j) (cons_in x (xs ++ ys) i)

-- ---- names, constructors and places of what is still to be matched

abbrev pub job_names : List PendingPattern → List Binder
job_names [] = []
job_names (j ∷ js) = names_in j.1 ++ job_names js

abbrev pub job_constructors : List PendingPattern → List (Binder × ℕ)
job_constructors [] = []
job_constructors (j ∷ js) = constructors_in j.1 ++ job_constructors js

abbrev pub job_places : List PendingPattern → List ℕ
job_places [] = []
job_places (j ∷ js) = j.0 ∷ job_places js

abbrev pub bound_names : List (Binder × ℕ) → List Binder
bound_names [] = []
bound_names (b ∷ bs) = b.0 ∷ bound_names bs

abbrev pub bound_places : List (Binder × ℕ) → List ℕ
bound_places [] = []
bound_places (b ∷ bs) = b.1 ∷ bound_places bs

pub names_append : (xs ys : List PendingPattern) → job_names (xs ++ ys) ≡ job_names xs
    ++ job_names ys
names_append [] ys = refl
names_append (x ∷ xs) ys = ap (λ w. names_in x.1 ++ w) (names_append xs ys) ∙ sym
    (append_assoc (names_in x.1) (job_names xs) (job_names ys))

pub places_append : (xs ys : List PendingPattern) → job_places (xs ++ ys) ≡ job_places xs
    ++ job_places ys
places_append [] ys = refl
places_append (x ∷ xs) ys = ap (λ w. x.0 ∷ w) (places_append xs ys)

pub constructors_split : (xs ys : List PendingPattern) {b : Binder × ℕ}
    → In b (job_constructors (xs ++ ys)) → In b (job_constructors xs) ⊎ In b (job_constructors ys)
constructors_split [] ys h = inr h
constructors_split (x ∷ xs) ys h = elim
    (in_split (constructors_in x.1) (job_constructors (xs ++ ys)) h) [
      | inl i ↦ inl (in_left (constructors_in x.1) (job_constructors xs) i)
      | inr i ↦ ⊎_elim (λ l. inl (in_right (constructors_in x.1) (job_constructors xs) l))
          (λ r. inr r)
          (constructors_split xs ys i)
    ]

pub names_at : (places : List ℕ) (ps : Pats) → length places ≡ count ps
    → job_names (pending_patterns_at places ps) ≡ names_of ps
names_at places NoPats e = refl
names_at [] (AndPat p ps) e = absurd (omega (arith, e))
names_at (x ∷ places) (AndPat p ps) e = ap (λ w. names_in p ++ w)
    (names_at places ps (omega (arith, e)))

pub places_at : (places : List ℕ) (ps : Pats) → length places ≡ count ps
    → job_places (pending_patterns_at places ps) ≡ places
places_at [] NoPats e = refl
places_at (x ∷ places) NoPats e = absurd (omega (arith, e))
places_at [] (AndPat p ps) e = absurd (omega (arith, e))
places_at (x ∷ places) (AndPat p ps) e = ap (λ w. x ∷ w) (places_at places ps (omega (arith, e)))

pub constructors_at : (places : List ℕ) (ps : Pats) {b : Binder × ℕ}
    → In b (job_constructors (pending_patterns_at places ps)) → In b (constructors_of ps)
constructors_at places NoPats h = h
constructors_at [] (AndPat p ps) h = none_in h
constructors_at (x ∷ places) (AndPat p ps) h = ⊎_elim
    (λ l. in_left (constructors_in p) (constructors_of ps) l)
    (λ r. in_right (constructors_in p) (constructors_of ps) (constructors_at places ps r))
    (in_split (constructors_in p) (job_constructors (pending_patterns_at places ps)) h)

pub bound_names_last : (bs : List (Binder × ℕ)) (b : Binder) (p : ℕ) (ys : List Binder)
    → bound_names (bs ++ (b, p) ∷ []) ++ ys ≡ bound_names bs ++ b ∷ ys
bound_names_last [] b p ys = refl
bound_names_last (x ∷ bs) b p ys = ap (λ w. x.0 ∷ w) (bound_names_last bs b p ys)

pub bound_places_last : (bs : List (Binder × ℕ)) (b : Binder) (p : ℕ) (ys : List ℕ)
    → bound_places (bs ++ (b, p) ∷ []) ++ ys ≡ bound_places bs ++ p ∷ ys
bound_places_last [] b p ys = refl
bound_places_last (x ∷ bs) b p ys = ap (λ w. x.1 ∷ w) (bound_places_last bs b p ys)

-- the places of a row
abbrev pub places_of : Row → List ℕ
places_of r = bound_places r.bound ++ job_places r.jobs

pub settled_places : (body : Expr) (bound : List (Binder × ℕ)) (js : List PendingPattern)
    → places_of (settled body bound js) ≡ bound_places bound ++ job_places js
settled_places body bound [] = refl
settled_places body bound ((p, Name b) ∷ js) = settled_places body (bound ++ (b, p) ∷ []) js ∙
    bound_places_last bound b p (job_places js)
settled_places body bound ((p, Int k at) ∷ js) = refl
settled_places body bound ((p, Con c ps) ∷ js) = refl

pub pat_names : (pat : Pat) (h : Head) → head_of pat ≡ Some h
    → names_in pat ≡ names_of (fields_of pat)
pat_names (Name b) h e = absurd cc
pat_names (Int k at) h e = refl
pat_names (Con c ps) h e = refl

pub pat_constructors : (pat : Pat) {b : Binder × ℕ} → In b (constructors_of (fields_of pat))
    → In b (constructors_in pat)
pat_constructors (Name b) h = h
pat_constructors (Int k at) h = h
pat_constructors (Con c ps) h = there h

pub test_is : (p : ℕ) (js : List PendingPattern) (pat : Pat) → test_at p js ≡ Some pat
    → js ≡ (p, pat) ∷ later js
test_is p [] pat e = absurd cc
test_is p (j ∷ js) pat e = go (j.0 == p) refl e
  where
    go : (b : Bool) → (j.0 == p) ≡ b → cond b (Some j.1) None ≡ Some pat → j ∷ js ≡ (p, pat) ∷ js
    go true h f = λ i. (eq_from j.0 p h i, some_is j.1 pat f i) ∷ js
    go false h f = absurd cc

pub unbound_at : (p : ℕ) (bs : List (Binder × ℕ)) → NotIn p (bound_places bs) → bound_at p bs ≡ None
unbound_at p [] n = refl
unbound_at p (b ∷ bs) n = go (b.1 == p) refl (unbound_at p bs (λ i. n (there i)))
  where
    go : (t : Bool) → (b.1 == p) ≡ t → bound_at p bs ≡ None
        → (if t then Some b.0.name.0 else bound_at p bs) ≡ None
    go true h e = absurd (n (subst (λ q. In q (b.1 ∷ bound_places bs)) (eq_from b.1 p h) here))
    go false h e = e

pub and_kept : (a b b' : Bool) → (b ≡ false → b' ≡ false) → (a && b) ≡ false → (a && b') ≡ false
and_kept true b b' f e = f e
and_kept false b b' f e = refl

pub and_both : (a a' b b' : Bool) → (a ≡ false → a' ≡ false) → (b ≡ false → b' ≡ false)
    → (a && b) ≡ false → (a' && b') ≡ false
and_both a a' b b' f g e = elim (either_false a b e)
    [ inl x ↦ ap (λ w. w && b') (f x) | inr y ↦ and_not_right a' b' (g y) ]
  where
    either_false : (a b : Bool) → (a && b) ≡ false → (a ≡ false) ⊎ (b ≡ false)
    either_false true b e = inr e
    either_false false b e = inl refl

pub and_less : (a b : Bool) → (a && true) ≡ false → (a && b) ≡ false
and_less true b e = absurd cc
and_less false b e = refl

-- ---- leaves

-- a body, and the names that its equation binds
abbrev pub Leaf : Type 0
Leaf = Expr × List Binder

abbrev mutual
  pub leaves : Tree → List Leaf
  leaves (Body r) = (r.body, bound_names r.bound) ∷ []
  leaves (Case p bs o) = leaves_in bs ++ leaves_else o

  pub leaves_in : Branches → List Leaf
  leaves_in NoBranch = []
  leaves_in (AndBranch h ps t bs) = leaves t ++ leaves_in bs

  pub leaves_else : Default → List Leaf
  leaves_else NoDefault = []
  leaves_else (ATree t) = leaves t

-- what a row comes to
abbrev pub leaf_of : Row → Leaf
leaf_of r = (r.body, bound_names r.bound ++ job_names r.jobs)

pub settled_leaf : (body : Expr) (bound : List (Binder × ℕ)) (js : List PendingPattern)
    → leaf_of (settled body bound js) ≡ (body, bound_names bound ++ job_names js)
settled_leaf body bound [] = refl
settled_leaf body bound ((p, Name b) ∷ js) = settled_leaf body (bound ++ (b, p) ∷ []) js ∙ ap
    (λ (w : List Binder). (body, w)) (bound_names_last bound b p (job_names js))
settled_leaf body bound ((p, Int k at) ∷ js) = refl
settled_leaf body bound ((p, Con c ps) ∷ js) = refl

-- behind its first test a row comes to the same
pub opened_leaf : (p : ℕ) (r : Row) (pat : Pat) (h : Head) (ps : List ℕ)
    → test_at p r.jobs ≡ Some pat
    → head_of pat ≡ Some h → length ps ≡ count (fields_of pat)
    → leaf_of (opened r pat ps) ≡ leaf_of r
opened_leaf p r pat h ps t e len =
    let fs : List PendingPattern = pending_patterns_at ps (fields_of pat) in
    let js : List PendingPattern = later r.jobs in
    let same : job_names fs ≡ names_in pat = names_at ps (fields_of pat) len ∙ sym
    (pat_names pat h e) in
    let all : job_names (fs ++ js) ≡ job_names r.jobs
    = names_append fs js ∙ ap (λ w. w ++ job_names js) same ∙ sym
    (ap job_names (test_is p r.jobs pat t)) in
    settled_leaf r.body r.bound (fs ++ js) ∙ ap
    (λ (w : List Binder). (r.body, bound_names r.bound ++ w)) all

-- a leaf stays where the second leaves do
pub either_side : (xs ys zs : List Leaf) (l : Leaf) → (In l ys → In l zs) → In l (xs ++ ys)
    → In l (xs ++ zs)
either_side xs ys zs l f i = ⊎_elim (λ a. in_left xs zs a) (λ b. in_right xs zs (f b))
    (in_split xs ys i)

-- and where the first do
pub other_side : (xs ys zs : List Leaf) (l : Leaf) → (In l xs → In l ys) → In l (xs ++ zs)
    → In l (ys ++ zs)
other_side xs ys zs l f i = ⊎_elim (λ a. in_left ys zs (f a)) (λ b. in_right ys zs b)
    (in_split xs zs i)

pub row_leaf : (e : Equation) → leaf_of (row_of e) ≡ (e.body, names_of e.pats)
row_leaf e = settled_leaf e.body [] (pending_patterns_at (places_from 0 e.pats) e.pats) ∙ ap
    (λ (w : List Binder). (e.body, w))
    (names_at (places_from 0 e.pats) e.pats (length_numbers 0 (count e.pats)))
