-- When the names of a text, in an environment, stand for the same as in a scope of its lifted
-- program.
use Rattle.std.proofs.Common.{◌≡◌, ℕ, ◌<◌, Bool, true, false, cond, nat_eq, List, [], ◌∷◌, length, Some, slice_get, codes, refl, sym, ap, ◌∙◌, subst, arith, inl, inr}
use Rattle.std.specs.Prelude.{◌⊎◌}
use Rattle.seq.specs.Lists.{is_among, AllOf}
use Rattle.seq.proofs.Truth.{or_cases, not_both}
use Rattle.seq.proofs.Order.{eq_from, eq_true}
use Rattle.lambda_reader.specs.Tree.{Function, Program}
use Rattle.core_reader.specs.Tree as core
use Rattle.arity_check.specs.declared.meaning.Meaning.{Meaning}
use Rattle.arity_check.specs.declared.meaning.Meaning.TheVariants.{Local, Primitive, Unbound}
use Rattle.arity_check.specs.declared.meaning.Meaning.TheVariants as stands
use Rattle.arity_check.specs.declared.normal.PrimOp.{PrimOp}
use Rattle.arity_check.specs.Normal.{Pairwise}
use Rattle.arity_check.specs.Scope.{Scope, primitives, unless_primitive, is_named, primitive_from, function_from, found_in, means, binds, binds_all}
use Rattle.lambda_lift.specs.Headers.{program_headers}
use Rattle.lambda_lift.proofs.Fits.{Among, And, Below}

-- function f of the text has k parameters
pub record HasTop (c : Program) (f k : ℕ) : Type 0 where
  pub function : Function
  pub is : slice_get c.functions f ≡ Some function
  pub params : length function.params ≡ k

-- the number of a local, and the name that the text's environment gives it, are in a relation
module _ (c : Program) (Good : ℕ → ℕ → Type 0) where
  pub data Same : Meaning → Meaning → Type 0 where
    SameLocal : {y a : ℕ} → Good y a → Same (Local y) (Local a)
    SameFunction : {f k : ℕ} → HasTop c f k → Same (stands.Function f k) (stands.Function f k)
    SamePrimitive : {op : PrimOp} → Same (Primitive op) (Primitive op)
    SameNothing : Same Unbound Unbound

  same_cond : (b : Bool) (m m' n n' : Meaning) → Same m m' → Same n n'
      → Same (cond b m n) (cond b m' n')
  same_cond true m m' n n' h k = h
  same_cond false m m' n n' h k = k

  same_unless : (p : Meaning) (m m' : Meaning) → Same m m'
      → Same (unless_primitive p m) (unless_primitive p m')
  same_unless (Primitive op) m m' h = SamePrimitive
  same_unless (Local y) m m' h = h
  same_unless (stands.Function f k) m m' h = h
  same_unless Unbound m m' h = h

pub same_more : (c : Program) (Good Good' : ℕ → ℕ → Type 0) → ((y a : ℕ) → Good y a → Good' y a)
    → (m m' : Meaning) → Same c Good m m' → Same c Good' m m'
same_more c Good Good' h m m' (SameLocal {y = y} {a = a} g) = SameLocal (h y a g)
same_more c Good Good' h m m' (SameFunction t) = SameFunction t
same_more c Good Good' h m m' SamePrimitive = SamePrimitive
same_more c Good Good' h m m' SameNothing = SameNothing

-- Of two programs of Core the names below a number have the same texts, and stand for the same
-- functions.
pub record AgreeBelow (q h : core.Program) (N : ℕ) : Type 0 where
  pub named : (bytes : List ℕ) (x : ℕ) → x < N → is_named q bytes x ≡ is_named h bytes x
  pub functions : (x : ℕ) → x < N → function_from q q.functions 0 x ≡ function_from h h.functions 0
      x

module _ (c : Program) (q : core.Program)
    (agree : AgreeBelow q (program_headers c) (length c.names)) where
  prim_same : (qs : List (List ℕ × PrimOp)) (x : ℕ) → x < length c.names
      → primitive_from q qs x ≡ primitive_from (program_headers c) qs x
  prim_same [] x lt = refl
  prim_same (a ∷ qs) x lt = λ i. cond (agree.named a.0 x lt i) (Primitive a.1) (prim_same qs x lt i)

  -- the scope of the lifted program, and the environment
  pub record Sees (V : ℕ → Type 0) (Good : ℕ → ℕ → Type 0) (t env : Scope) : Type 0 where
    pub names : (x : ℕ) → V x → x < length c.names → Same c Good (means q t x)
        (means (program_headers c) env x)
    pub below : AllOf (λ b. b.0 < length c.names) t

  pub sees_more : (V W : ℕ → Type 0) (Good Good' : ℕ → ℕ → Type 0) (t env : Scope)
      → ((x : ℕ) → W x → V x) → ((y a : ℕ) → Good y a → Good' y a) → Sees V Good t env
      → Sees W Good' t env
  sees_more V W Good Good' t env v g k = record
      { names = λ x w lt. same_more c Good Good' g _ _ (k.names x (v x w) lt); below = k.below }

  module _ (Good : ℕ → ℕ → Type 0) where
    pub means_same : (x : ℕ) → x < length c.names → (m m' : Meaning) → Same c Good m m'
        → Same c Good
        (cond (is_named q (codes "_") x) Unbound
        (unless_primitive (primitive_from q primitives x) m))
        (cond (is_named (program_headers c) (codes "_") x) Unbound
        (unless_primitive (primitive_from (program_headers c) primitives x) m'))
    means_same x lt m m' h =
        rw (agree.named (codes "_") x lt, prim_same primitives x lt)
        (same_cond c Good (is_named (program_headers c) (codes "_") x) _ _ _ _ SameNothing
        (same_unless c Good (primitive_from (program_headers c) primitives x) m m' h))

    -- what a name stands for, where the texts are those of the other program
    pub means_from : (x : ℕ) → x < length c.names → (m m' : Meaning)
        → Same c Good
        (cond (is_named (program_headers c) (codes "_") x) Unbound
        (unless_primitive (primitive_from (program_headers c) primitives x) m)) m'
        → Same c Good
        (cond (is_named q (codes "_") x) Unbound
        (unless_primitive (primitive_from q primitives x) m)) m'
    means_from x lt m m' h = rw (agree.named (codes "_") x lt, prim_same primitives x lt) h

    sees_one : (V : ℕ → Type 0) (t env : Scope) (x y a : ℕ) → Sees V Good t env → x < length c.names
        → Good y a → Sees (λ z. V z ⊎ (z ≡ x)) Good (binds q x y t)
        (binds (program_headers c) x a env)
    sees_one V t env x y a k lt g =
        subst (λ b. Sees (λ z. V z ⊎ (z ≡ x)) Good (cond b t ((x, y) ∷ t))
        (binds (program_headers c) x a env)) (sym (agree.named (codes "_") x lt))
        (by (is_named (program_headers c) (codes "_") x) refl)
      where
        by : (b : Bool) → is_named (program_headers c) (codes "_") x ≡ b
            → Sees (λ z. V z ⊎ (z ≡ x)) Good (cond b t ((x, y) ∷ t)) (cond b env ((x, a) ∷ env))
        by true e = record { names = here; below = k.below }
          where
            here : (z : ℕ) → V z ⊎ (z ≡ x) → z < length c.names
                → Same c Good (means q t z) (means (program_headers c) env z)
            here z (inl v) l = k.names z v l
            here z (inr s) l =
                let h : is_named (program_headers c) (codes "_") z ≡ true
                = ap (is_named (program_headers c) (codes "_")) s ∙ e in
                let q' : is_named q (codes "_") z ≡ true = agree.named (codes "_") z l ∙ h in
                rw (h, q') SameNothing
        by false e = record { names = here; below = (lt, k.below) }
          where
            first : (z : ℕ) → V z ⊎ (z ≡ x) → z < length c.names → (b : Bool) → nat_eq x z ≡ b
                → Same c Good
                (cond (is_named q (codes "_") z) Unbound
                (unless_primitive (primitive_from q primitives z)
                (cond b (Local y) (found_in q t z))))
                (cond (is_named (program_headers c) (codes "_") z) Unbound
                (unless_primitive (primitive_from (program_headers c) primitives z)
                (cond b (Local a) (found_in (program_headers c) env z))))
            first z v l true s = means_same z l (Local y) (Local a) (SameLocal g)
            first z (inl v) l false s = k.names z v l
            first z (inr w) l false s = absurd (not_both (nat_eq x z) (eq_true x z (sym w)) s)

            here : (z : ℕ) → V z ⊎ (z ≡ x) → z < length c.names
                → Same c Good (means q ((x, y) ∷ t) z) (means (program_headers c) ((x, a) ∷ env) z)
            here z v l = first z v l (nat_eq x z) refl

    -- `_` stands for nothing
    pub sees_nameless : (V : ℕ → Type 0) (t env : Scope) (x : ℕ) → is_named q (codes "_") x ≡ true
        → Sees V Good t env → Sees (And V (x ∷ [])) Good t env
    sees_nameless V t env x e k = record { names = here; below = k.below }
      where
        same : (z : ℕ) → (nat_eq z x ≡ true) ⊎ Among [] z → z ≡ x
        same z (inl s) = eq_from z x s
        same z (inr a) = absurd cc

        here : (z : ℕ) → And V (x ∷ []) z → z < length c.names
            → Same c Good (means q t z) (means (program_headers c) env z)
        here z (inl v) l = k.names z v l
        here z (inr a) l =
            let s : z ≡ x = same z (or_cases (nat_eq z x) false a) in
            let q' : is_named q (codes "_") z ≡ true = ap (is_named q (codes "_")) s ∙ e in
            let h : is_named (program_headers c) (codes "_") z ≡ true
            = sym (agree.named (codes "_") z l) ∙ q' in
            rw (h, q') SameNothing

    -- binders with locals and names in this relation
    pub sees_all : (xs ys as' : List ℕ) (V : ℕ → Type 0) (t env : Scope) → Below (length c.names) xs
        → length ys ≡ length xs → Pairwise Good ys as' → Sees V Good t env
        → Sees (And V xs) Good (binds_all q xs ys t) (binds_all (program_headers c) xs as' env)
    sees_all [] ys as' V t env b l g k = sees_more V (And V []) Good Good t env by (λ y a h. h) k
      where
        by : (x : ℕ) → And V [] x → V x
        by x (inl v) = v
        by x (inr a) = absurd cc
    sees_all (x ∷ xs) [] as' V t env b l g k = absurd (omega (arith, l))
    sees_all (x ∷ xs) (y ∷ ys) [] V t env b l g k = absurd g
    sees_all (x ∷ xs) (y ∷ ys) (a ∷ as') V t env b l g k =
        sees_more (And (λ z. V z ⊎ (z ≡ x)) xs) (And V (x ∷ xs)) Good Good _ _ by (λ y a h. h)
        (sees_all xs ys as' (λ z. V z ⊎ (z ≡ x)) (binds q x y t) (binds (program_headers c) x a env)
        b.1 (omega (arith, l)) g.1 (sees_one V t env x y a k b.0 g.0))
      where
        cases : (z : ℕ) → (nat_eq z x ≡ true) ⊎ Among xs z → And (λ z. V z ⊎ (z ≡ x)) xs z
        cases z (inl e) = inl (inr (eq_from z x e))
        cases z (inr a) = inr a

        by : (z : ℕ) → And V (x ∷ xs) z → And (λ z. V z ⊎ (z ≡ x)) xs z
        by z (inl v) = inl (inl v)
        by z (inr a) = cases z (or_cases (nat_eq z x) (is_among z xs) a)

    -- where nothing is in scope
    pub sees_nothing : (V : ℕ → Type 0) →
        ((x : ℕ) → x < length c.names → Same c Good
        (function_from (program_headers c) (program_headers c).functions 0 x)
        (function_from (program_headers c) (program_headers c).functions 0 x)) → Sees V Good [] []
    sees_nothing V f = record {
      names = λ x v lt. means_same x lt _ _
          (subst (λ m. Same c Good m
          (function_from (program_headers c) (program_headers c).functions 0 x))
          (sym (agree.functions x lt)) (f x lt));
      below = tt;
    }
