-- Scopes around a body and around its renaming grow together.
use Rattle.std.proofs.Common.{◌≡◌, ◌⊎◌, ℕ, zero, suc, ◌+◌, ◌≤◌, ◌<◌, Bool, true, false, cond, List, [], ◌∷◌, map, length, Some, None, codes, refl, sym, ap, ◌∙◌, subst, arith, inl, inr}
use Rattle.std.specs.Prelude.{◌==◌}
use Rattle.std.specs.List.{range_with_len}
use Rattle.seq.specs.Lists.{AllOf}
use Rattle.seq.proofs.Order.{eq_self, eq_false, eq_from, differs_from}
use Rattle.core_reader.specs.declared.syntax.Binder.{Binder}
use Rattle.core_reader.specs.Tree.{Program}
use Rattle.arity_check.specs.declared.normal.Bound.{Bound}
use Rattle.arity_check.specs.declared.normal.PrimOp.{PrimOp}
use Rattle.arity_check.specs.declared.meaning.Meaning.{Meaning}
use Rattle.arity_check.specs.declared.meaning.Meaning.TheVariants.{Local, Function, Primitive, Unbound}
use Rattle.arity_check.specs.Scope.{Scope, means, con_number, is_named, primitives, primitive_from, unless_primitive, found_in, binds, binds_all}
use Rattle.arity_check.specs.Locals.{innermost_local}
use Rattle.arity_check.specs.Normal.{Pairwise}
use Rattle.arity_check.specs.Numbered.{LocalsAreConsecutive}
use Rattle.match_compile.specs.Renamed.{renamed_name, shadowing}
use Rattle.match_compile.specs.Alike.{LocalPairs, LocalsCorrespond, linked_all, linked_group}
use Rattle.match_compile.proofs.AlikeFlats.{SameMeaning, SameLocal, SameFunction, SamePrimitive, SameNothing, Sees}

-- ---- pairs

-- all locals of these pairs are below
abbrev pub Below : LocalPairs → (n n' : ℕ) → Type 0
Below ps n n' = (x y : ℕ) → LocalsCorrespond ps x y → (x < n) × (y < n')

abbrev pub grown : LocalPairs → (n n' len : ℕ) → LocalPairs
grown ps n n' len = linked_all (range_with_len n len) (range_with_len n' len) ps

abbrev pub Within : LocalPairs → LocalPairs → Type 0
Within ps qs = (x y : ℕ) → LocalsCorrespond ps x y → LocalsCorrespond qs x y

pub kept_one : (ps : LocalPairs) (n n' : ℕ) → Below ps n n' → Within ps ((n, n') ∷ ps)
kept_one ps n n' b x y l = inr (
  λ e. let lt = (b x y l).0 in omega (arith, e, lt),
  (λ e. let lt = (b x y l).1 in omega (arith, e, lt), l),
)

pub below_one : (ps : LocalPairs) (n n' : ℕ) → Below ps n n' → Below ((n, n') ∷ ps) (n + 1) (n' + 1)
below_one ps n n' b x y (inl h) = (let e = h.0 in omega (arith, e), let e = h.1 in omega (arith, e))
below_one ps n n' b x y (inr h) = let lt = b x y h.1.1
    in (let l = lt.0 in omega (arith, l), let l = lt.1 in omega (arith, l))

pub below_more : (ps : LocalPairs) (n n' m m' : ℕ) → n ≤ m → n' ≤ m' → Below ps n n' → Below ps m m'
below_more ps n n' m m' le le' b x y l = let lt = b x y l
    in (let i = lt.0 in omega (arith, i, le), let i = lt.1 in omega (arith, i, le'))

pub kept_grown : (len : ℕ) (ps : LocalPairs) (n n' : ℕ) → Below ps n n'
    → Within ps (grown ps n n' len)
kept_grown zero ps n n' b x y l = l
kept_grown (suc len) ps n n' b x y l = kept_grown len ((n, n') ∷ ps) (n + 1) (n' + 1)
    (below_one ps n n' b) x y (kept_one ps n n' b x y l)

pub below_grown : (len : ℕ) (ps : LocalPairs) (n n' : ℕ) → Below ps n n'
    → Below (grown ps n n' len) (n + len) (n' + len)
below_grown zero ps n n' b x y l = let lt = b x y l
    in (let i = lt.0 in omega (arith, i), let i = lt.1 in omega (arith, i))
below_grown (suc len) ps n n' b x y l =
    let lt = below_grown len ((n, n') ∷ ps) (n + 1) (n' + 1) (below_one ps n n' b) x y l in
    (let i = lt.0 in omega (arith, i), let i = lt.1 in omega (arith, i))

pub placed_grown : (len : ℕ) (ps : LocalPairs) (n n' : ℕ) → Below ps n n' → (i : ℕ) → i < len
    → LocalsCorrespond (grown ps n n' len) (n + i) (n' + i)
placed_grown zero ps n n' b i lt = absurd (omega (arith, lt))
placed_grown (suc len) ps n n' b zero lt =
    let a : n ≡ n + 0 = omega arith in
    let a' : n' ≡ n' + 0 = omega arith in
    kept_grown len ((n, n') ∷ ps) (n + 1) (n' + 1) (below_one ps n n' b) (n + 0) (n' + 0)
    (inl (sym a, sym a'))
placed_grown (suc len) ps n n' b (suc i) lt =
    let a : n + 1 + i ≡ n + suc i = omega arith in
    let a' : n' + 1 + i ≡ n' + suc i = omega arith in
    subst (λ z. LocalsCorrespond (grown ps n n' (suc len)) z (n' + suc i)) a
    (subst (λ z. LocalsCorrespond (grown ps n n' (suc len)) (n + 1 + i) z) a'
    (placed_grown len ((n, n') ∷ ps) (n + 1) (n' + 1) (below_one ps n n' b) i
    (omega (arith, lt))))

pub group_grown : (bs cs : List Bound) (ps : LocalPairs) (n n' : ℕ) → LocalsAreConsecutive n bs
    → LocalsAreConsecutive n' cs → length bs ≡ length cs
    → linked_group bs cs ps ≡ grown ps n n' (length cs)
group_grown [] [] ps n n' a b e = refl
group_grown [] (c ∷ cs) ps n n' a b e = absurd (omega (arith, e))
group_grown (x ∷ bs) [] ps n n' a b e = absurd (omega (arith, e))
group_grown (x ∷ bs) (c ∷ cs) ps n n' a b e =
    ap (λ (w : ℕ × ℕ). linked_group bs cs (w ∷ ps)) (λ i. (a.0 i, b.0 i)) ∙ group_grown bs cs
    ((n, n') ∷ ps) (n + 1) (n' + 1) a.1 b.1 (omega (arith, e))

module _ (arity many : ℕ → ℕ) (IsFun : ℕ → Type 0) (first second : Program)
    (cons : (c : ℕ) → con_number second c ≡ con_number first c) (top : ℕ)
    (named : (w : List ℕ) (x : ℕ) → x < top → is_named second w x ≡ is_named first w x) where
  abbrev Same : LocalPairs → Meaning → Meaning → Type 0
  Same = SameMeaning arity many IsFun first second cons top

  abbrev Seen : LocalPairs → Scope → Scope → Scope → Type 0
  Seen = Sees arity many IsFun first second cons top

  same_more : (ps qs : LocalPairs) → Within ps qs → (m m' : Meaning) → Same ps m m' → Same qs m m'
  same_more ps qs w m m' (SameLocal {x = x} {y = y} l) = SameLocal (w x y l)
  same_more ps qs w m m' (SameFunction is e) = SameFunction is e
  same_more ps qs w m m' SamePrimitive = SamePrimitive
  same_more ps qs w m m' SameNothing = SameNothing

  pub sees_more : (ps qs : LocalPairs) (t t' s : Scope) → Within ps qs → Seen ps t t' s
      → Seen qs t t' s
  sees_more ps qs t t' s w v = record
      { meaning = λ x lt. same_more ps qs w _ _ (v.meaning x lt); image = v.image }

  same_primitive : (qs : List (List ℕ × PrimOp)) (x : ℕ) → x < top
      → primitive_from second qs x ≡ primitive_from first qs x
  same_primitive [] x lt = refl
  same_primitive (q ∷ qs) x lt = λ i. cond (named q.0 x lt i) (Primitive q.1)
      (same_primitive qs x lt i)

  -- another name stands for what it did
  other_means : (p : Program) (b y x : ℕ) (t : Scope) → (b ≡ x → ⊥)
      → means p (binds p b y t) x ≡ means p t x
  other_means p b y x t n = ap
      (λ m. cond (is_named p (codes "_") x) Unbound
      (unless_primitive (primitive_from p primitives x) m)) (by (is_named p (codes "_") b))
    where
      by : (c : Bool) → found_in p (cond c t ((b, y) ∷ t)) x ≡ found_in p t x
      by true = refl
      by false = rw (eq_false b x n) refl

  -- the name that is bound
  bound_means : (ps : LocalPairs) (b y y' : ℕ) (t t' : Scope) → b < top → LocalsCorrespond ps y y'
      → Same ps (means first (binds first b y t) b) (means second (binds second b y' t') b)
  bound_means ps b y y' t t' lt l = go (is_named first (codes "_") b)
      (is_named second (codes "_") b) (primitive_from first primitives b)
      (primitive_from second primitives b) (named (codes "_") b lt) (same_primitive primitives b lt)
    where
      prim : (m : Meaning) → Same ps (unless_primitive m (Local y)) (unless_primitive m (Local y'))
      prim (Primitive op) = SamePrimitive
      prim (Local x) = SameLocal l
      prim (Function f k) = SameLocal l
      prim Unbound = SameLocal l

      go : (c c' : Bool) (m m' : Meaning) → c' ≡ c → m' ≡ m
          → Same ps (cond c Unbound (unless_primitive m (found_in first (cond c t ((b, y) ∷ t)) b)))
          (cond c' Unbound
          (unless_primitive m' (found_in second (cond c' t' ((b, y') ∷ t')) b)))
      go true true m m' e f = SameNothing
      go true false m m' e f = absurd cc
      go false true m m' e f = absurd cc
      go false false m m' e f = rw (eq_self b)
          (subst (λ w. Same ps (unless_primitive m (Local y)) (unless_primitive w (Local y')))
          (sym f) (prim m))

  -- a name that is bound hides no other: what is renamed stays itself, or is no name of the text
  abbrev renames : Scope → ℕ → Bool → ℕ → ℕ
  renames s b c x = elim (cond c (Some b) (innermost_local s x)) [ Some y ↦ y | None ↦ x ]

  one_image : (ps : LocalPairs) (b : ℕ) (t t' s : Scope) → Seen ps t t' s → (x : ℕ) → x < top
      → (c : Bool) → (b == x) ≡ c → (renames s b c x ≡ x) ⊎ (top ≤ renames s b c x)
  one_image ps b t t' s v x below true e = inl (eq_from b x e)
  one_image ps b t t' s v x below false e = v.image x below

  apart : (b x z : ℕ) → b < top → (b ≡ x → ⊥) → (z ≡ x) ⊎ (top ≤ z) → b ≡ z → ⊥
  apart b x z lt n (inl e) i = n (i ∙ e)
  apart b x z lt n (inr le) i = omega (arith, lt, le, i)

  one_meaning : (ps : LocalPairs) (b y y' : ℕ) (t t' s : Scope) → b < top → LocalsCorrespond ps y y'
      → Seen ps t t' s → (x : ℕ) → x < top → (c : Bool) → (b == x) ≡ c
      → Same ps (means first (binds first b y t) x)
      (means second (binds second b y' t') (renames s b c x))
  one_meaning ps b y y' t t' s lt l v x below true e =
      subst (λ z. Same ps (means first (binds first b y t) z)
      (means second (binds second b y' t') b)) (eq_from b x e) (bound_means ps b y y' t t' lt l)
  one_meaning ps b y y' t t' s lt l v x below false e =
      let n = differs_from b x e in
      subst (λ m. Same ps m (means second (binds second b y' t') (renamed_name s x)))
      (sym (other_means first b y x t n))
      (subst (λ m. Same ps (means first t x) m)
      (sym (other_means second b y' (renamed_name s x) t'
      (apart b x (renamed_name s x) lt n (v.image x below)))) (v.meaning x below))

  pub sees_one : (ps : LocalPairs) (b y y' : ℕ) (t t' s : Scope) → b < top
      → LocalsCorrespond ps y y' → Seen ps t t' s → Seen ps (binds first b y t)
      (binds second b y' t') ((b, b) ∷ s)
  sees_one ps b y y' t t' s lt l v = record {
    meaning = λ x below. one_meaning ps b y y' t t' s lt l v x below (b == x) refl;
    image = λ x below. one_image ps b t t' s v x below (b == x) refl;
  }

  -- `_` stands for nothing, also where a pattern binds it
  pub sees_nameless : (ps : LocalPairs) (b : ℕ) (t t' s : Scope) → b < top
      → is_named first (codes "_") b ≡ true → Seen ps t t' s → Seen ps t t' ((b, b) ∷ s)
  sees_nameless ps b t t' s lt none v = record {
    meaning = λ x below. meaning x below (b == x) refl;
    image = λ x below. one_image ps b t t' s v x below (b == x) refl;
  }
    where
      nothing : (p : Program) (t : Scope) → is_named p (codes "_") b ≡ true → means p t b ≡ Unbound
      nothing p t e = ap
          (λ c. cond c Unbound (unless_primitive (primitive_from p primitives b) (found_in p t b)))
          e

      meaning : (x : ℕ) → x < top → (c : Bool) → (b == x) ≡ c
          → SameMeaning arity many IsFun first second cons top ps (means first t x)
          (means second t' (elim (cond c (Some b) (innermost_local s x)) [ Some y ↦ y | None ↦ x ]))
      meaning x below true e =
          subst (λ z. SameMeaning arity many IsFun first second cons top ps (means first t z)
          (means second t' b)) (eq_from b x e)
          (subst (λ m. SameMeaning arity many IsFun first second cons top ps m (means second t' b))
          (sym (nothing first t none))
          (subst (λ m. SameMeaning arity many IsFun first second cons top ps Unbound m)
          (sym (nothing second t' (named (codes "_") b lt ∙ none))) SameNothing))
      meaning x below false e = v.meaning x below

  pub sees_all : (ps : LocalPairs) (bs : List Binder) (ys ys' : List ℕ) (t t' s : Scope)
      → AllOf (λ b. b.name.0 < top) bs → Pairwise (LocalsCorrespond ps) ys ys'
      → length ys ≡ length bs → Seen ps t t' s
      → Seen ps (binds_all first (map (λ b. b.name.0) bs) ys t)
      (binds_all second (map (λ b. b.name.0) bs) ys' t') (shadowing bs s)
  sees_all ps [] ys ys' t t' s below l e v = v
  sees_all ps (b ∷ bs) [] ys' t t' s below l e v = absurd (omega (arith, e))
  sees_all ps (b ∷ bs) (y ∷ ys) [] t t' s below l e v = absurd l
  sees_all ps (b ∷ bs) (y ∷ ys) (y' ∷ ys') t t' s below l e v =
      sees_all ps bs ys ys' (binds first b.name.0 y t) (binds second b.name.0 y' t')
      ((b.name.0, b.name.0) ∷ s) below.1 l.1 (omega (arith, e))
      (sees_one ps b.name.0 y y' t t' s below.0 l.0 v)

-- locals that follow one another
pub placed_pairs : (ps : LocalPairs) (len n n' : ℕ)
    → ((i : ℕ) → i < len → LocalsCorrespond ps (n + i) (n' + i))
    → Pairwise (LocalsCorrespond ps) (range_with_len n len) (range_with_len n' len)
placed_pairs ps zero n n' h = tt
placed_pairs ps (suc len) n n' h =
    let a : n + 0 ≡ n = omega arith in
    let a' : n' + 0 ≡ n' = omega arith in
    let rest : (i : ℕ) → i < len → LocalsCorrespond ps (n + 1 + i) (n' + 1 + i) =
    λ i lt.
    let b : n + suc i ≡ n + 1 + i = omega arith in
    let b' : n' + suc i ≡ n' + 1 + i = omega arith in
    subst (λ z. LocalsCorrespond ps z (n' + 1 + i)) b
    (subst (λ z. LocalsCorrespond ps (n + suc i) z) b' (h (suc i) (omega (arith, lt)))) in (
      subst (λ z. LocalsCorrespond ps z n') a
          (subst (λ z. LocalsCorrespond ps (n + 0) z) a' (h 0 (omega arith))),
      placed_pairs ps len (n + 1) (n' + 1) rest,
    )
