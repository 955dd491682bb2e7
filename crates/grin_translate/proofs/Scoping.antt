-- The variables of a block stand for what the locals of its expression do.
use Rattle.std.proofs.Common.{◌≡◌, ◌≢◌, ℕ, suc, ◌+◌, ◌*◌, ◌≤◌, ◌<◌, Bool, true, false, cond, nat_eq, List, [], ◌∷◌, ◌++◌, map, length, Some, refl, sym, ap, ◌∙◌, arith, eqb-true}
use Rattle.std.proofs.lemmas.Bool.{eq-eqb}
use Rattle.std.proofs.lemmas.List.{length-map}
use Rattle.seq.proofs.Order.{eq_false}
use Rattle.seq.proofs.Lists.{some_at}
use Rattle.seq.proofs.Truth.{not_both}
use mathlib.Core.Logic.{◌⊎◌, inl, inr}
use Rattle.arity_check.specs.declared.normal.Var.{Var}
use Rattle.arity_check.specs.declared.normal.Var.TheVariants.{Local, Global}
use Rattle.arity_check.specs.declared.normal.Bound.{Bound}
use Rattle.arity_check.specs.declared.normal.Flat.{Flat}
use Rattle.arity_check.specs.declared.normal.Flat.TheVariants as flat
use Rattle.arity_check.specs.Program.{Program, Function}
use Rattle.core_meaning.specs.Heap as core
use Rattle.core_meaning.specs.Heap.{Binding, with_local, with_locals}
use Rattle.core_meaning.proofs.Shared.{global_below}
use Rattle.core_meaning.specs.Evaluation.{global, globals, name, names, binding, with_group}
use Rattle.grin_meaning.specs.Values.{cell, node, words, Env, HeapCell, with_vars, one_each, word_of, words_of, value_of}
use Rattle.grin_meaning.specs.Values as grin
use Rattle.grin_meaning.specs.Run.{places, cells_of}
use Rattle.grin_translate.specs.declared.tags.Delay.{Delay}
use Rattle.grin_translate.specs.declared.tags.Delay.TheVariants.{Calls, Applies, Operates}
use Rattle.grin_translate.specs.declared.tags.Kind.TheVariants.{Waits}
use Rattle.grin_translate.specs.Tags.{binds, is_delayed, tag}
use Rattle.grin_translate.specs.Blocks.{local, temp, word, cell_of}
use Rattle.grin_translate.specs.Blocks as blocks
use Rattle.grin_translate.specs.Translation.{tr, global_cells}
use Rattle.grin_translate.specs.WellFormed.{AllOf, InLocals, InGroup, VarOk, FormOk}
use Rattle.grin_translate.proofs.Places.{Has}
use Rattle.grin_translate.proofs.Found.{has_applies, has_operates, delay_itself}
use Rattle.grin_translate.proofs.Alike.{binding_node, Names, IsBinding, Heaps, shared}
use Rattle.grin_translate.proofs.Forcing.{binding_made}

module _ (p : Program) where
  -- ---- the shared bindings of the functions without parameters

  as_many_from : (gs : List Function) (f : ℕ) → length (global_cells p gs f) ≡ length
      (globals p gs f)
  as_many_from [] f = refl
  as_many_from (g ∷ gs) f = by_test (nat_eq g.params 0) (as_many_from gs (suc f))
    where
      by_test : (b : Bool) → length (global_cells p gs (suc f)) ≡ length (globals p gs (suc f))
          → length (cond b
          (record { name = g.name; site = record { 0 = f }; tag = tag p (Waits (Calls f)) } ∷ []) []
          ++ global_cells p gs (suc f)) ≡ length
          (cond b (core.Waiting (core.Global f) ∷ []) [] ++ globals p gs (suc f))
      by_test true e = ap suc e
      by_test false e = e

  pub as_many : length (tr p).globals ≡ shared p
  as_many = as_many_from p.funs 0

  module _ (base : ℕ) where
    -- ---- variables

    pub temp_no_local : (x t : ℕ) → nat_eq (base + 2 * x) (base + 2 * t + 1) ≡ false
    temp_no_local x t = let ne : base + 2 * x ≢ base + 2 * t + 1 = λ e. omega (arith, e)
        in eq_false _ _ ne

    pub locals_tell : (x y : ℕ) → nat_eq (base + 2 * x) (base + 2 * y) ≡ nat_eq x y
    locals_tell x y = by_test (nat_eq x y) refl
      where
        by_test : (b : Bool) → nat_eq x y ≡ b → nat_eq (base + 2 * x) (base + 2 * y) ≡ b
        by_test true e = eq-eqb _ _ (ap (λ z. base + 2 * z) (eqb-true x y e))
        by_test false e = eq_false _ _
            (λ q. let i : x ≡ y = omega (arith, q) in not_both _ (eq-eqb x y i) e)

    -- the locals in S have names below n, and their variables stand for these
    pub record Knows (S : ℕ → Type 0) (n : ℕ) (env : core.Env) (genv : Env) : Type 0 where
      pub below : (x : ℕ) → S x → env x < n
      pub bound : (x : ℕ) → S x → genv (local p base x).0 ≡ Some (words (cell (env x) ∷ []))

    pub knows_less : {S T : ℕ → Type 0} {n m : ℕ} {env : core.Env} {genv : Env}
        → ((x : ℕ) → T x → S x) → n ≤ m → Knows S n env genv → Knows T m env genv
    knows_less sub le k = record {
      below = λ x t. omega (arith, le, k.below x (sub x t));
      bound
          = λ x t. k.bound x (sub x t);
    }

    pub knows_later : {S : ℕ → Type 0} {n m : ℕ} {env : core.Env} {genv : Env} → n ≤ m
        → Knows S n env genv → Knows S m env genv
    knows_later le k = record { below = λ x t. omega (arith, le, k.below x t); bound = k.bound }

    pub knows_temp : {S : ℕ → Type 0} {n : ℕ} {env : core.Env} {genv : Env} (t : ℕ) (v : grin.Value)
        → Knows S n env genv → Knows S n env (with_vars (((temp p base t).0, v) ∷ []) genv)
    knows_temp t v k = record
        { below = k.below; bound = λ x s. rw (temp_no_local x t) (k.bound x s) }

    pub knows_local : {S : ℕ → Type 0} {n : ℕ} {env : core.Env} {genv : Env} (x a : ℕ) → a < n
        → Knows S n env genv
        → Knows (λ y. S y ⊎ (y ≡ x)) n (with_local env x a)
        (with_vars (((local p base x).0, words (cell a ∷ [])) ∷ []) genv)
    knows_local {S} {n} {env} {genv} x a lt k = record {
      below = λ y h. is_below y (nat_eq y x) refl h;
      bound = λ y h. rw (locals_tell y x) (is_bound y (nat_eq y x) refl h);
    }
      where
        is_below : (y : ℕ) (b : Bool) → nat_eq y x ≡ b → S y ⊎ (y ≡ x) → cond b a (env y) < n
        is_below y true e h = lt
        is_below y false e (inl s) = k.below y s
        is_below y false e (inr q) = not_both _ (eq-eqb y x q) e

        is_bound : (y : ℕ) (b : Bool) → nat_eq y x ≡ b → S y ⊎ (y ≡ x)
            → cond b (Some (words (cell a ∷ []))) (genv (local p base y).0) ≡ Some
            (words (cell (cond b a (env y)) ∷ []))
        is_bound y true e h = refl
        is_bound y false e (inl s) = k.bound y s
        is_bound y false e (inr q) = not_both _ (eq-eqb y x q) e

    pub knows_group : (group : List Bound) (S : ℕ → Type 0) (n a : ℕ) (env : core.Env) (genv : Env)
        → a + length group ≤ n → Knows S n env genv
        → Knows (λ x. S x ⊎ InGroup group x) n (with_group p env group a)
        (with_vars (places a (map (cell_of p base) group)) genv)
    knows_group [] S n a env genv le k = knows_less out (omega arith) k
      where
        out : (x : ℕ) → S x ⊎ ⊥ → S x
        out x (inl s) = s
        out x (inr z) = absurd z
    knows_group (b ∷ group) S n a env genv le k =
        knows_less turn (omega arith)
        (knows_group group (λ y. S y ⊎ (y ≡ b.local)) n (suc a) (with_local env b.local a) _
        (omega (arith, le)) (knows_local b.local a (omega (arith, le)) k))
      where
        turn : (x : ℕ) → S x ⊎ ((x ≡ b.local) ⊎ InGroup group x) → (S x ⊎ (x ≡ b.local))
            ⊎ InGroup group x
        turn x (inl s) = inl (inl s)
        turn x (inr (inl e)) = inl (inr e)
        turn x (inr (inr i)) = inr i

    pub record KnowsFields (xs as' : List ℕ) (S : ℕ → Type 0) (n : ℕ) (env : core.Env) (genv : Env)
        : Type 0 where
      pub bindings : List grin.Binding
      pub is : one_each (map (local p base) xs) (map cell as') ≡ Some bindings
      pub knows : Knows (λ x. S x ⊎ InLocals xs x) n (with_locals env xs as')
          (with_vars bindings genv)

    pub knows_fields : (xs as' : List ℕ) (S : ℕ → Type 0) (n : ℕ) (env : core.Env) (genv : Env)
        → length as' ≡ length xs → Names p n as' → Knows S n env genv
        → KnowsFields xs as' S n env genv
    knows_fields [] [] S n env genv e g k = record
        { bindings = []; is = refl; knows = knows_less out (omega arith) k }
      where
        out : (x : ℕ) → S x ⊎ ⊥ → S x
        out x (inl s) = s
        out x (inr z) = absurd z
    knows_fields [] (a ∷ as') S n env genv e g k = absurd (omega (arith, e))
    knows_fields (x ∷ xs) [] S n env genv e g k = absurd (omega (arith, e))
    knows_fields (x ∷ xs) (a ∷ as') S n env genv e g k =
        let rest = knows_fields xs as' (λ y. S y ⊎ (y ≡ x)) n (with_local env x a) _
        (omega (arith, e)) g.1 (knows_local x a g.0 k) in
        record {
          bindings = ((local p base x).0, words (cell a ∷ [])) ∷ rest.bindings;
          is = rw rest.is refl;
          knows = knows_less turn (omega arith) rest.knows;
        }
      where
        turn : (y : ℕ) → S y ⊎ ((y ≡ x) ⊎ InLocals xs y) → (S y ⊎ (y ≡ x)) ⊎ InLocals xs y
        turn y (inl s) = inl (inl s)
        turn y (inr (inl e)) = inl (inr e)
        turn y (inr (inr i)) = inr i

    -- ---- words and nodes

    module _ (S : ℕ → Type 0) (n : ℕ) (env : core.Env) (genv : Env) (k : Knows S n env genv)
        (room : shared p ≤ n) where
      pub word_known : (x : Var) → VarOk p S x → word_of (tr p) genv (word p base x) ≡ Some
          (cell (name p env x))
      word_known (Local x) h = rw (k.bound x h) refl
      word_known (Global f) h = let there = some_at (tr p).globals (global p f)
          (omega (arith, global_below p f h, as_many)) in rw there.1 refl

      pub name_below : (x : Var) → VarOk p S x → name p env x < n
      name_below (Local x) h = k.below x h
      name_below (Global f) h = omega (arith, global_below p f h, room)

      pub words_known : (xs : List Var) → AllOf (VarOk p S) xs
          → words_of (tr p) genv (map (word p base) xs) ≡ Some (map cell (names p env xs))
      words_known [] h = refl
      words_known (x ∷ xs) h = rw (word_known x h.0, words_known xs h.1) refl

      pub names_below : (xs : List Var) → AllOf (VarOk p S) xs → Names p n (names p env xs)
      names_below [] h = tt
      names_below (x ∷ xs) h = (name_below x h.0, names_below xs h.1)

      -- a form that waits is one that the program delays
      pub binding_good : (f : Flat) → FormOk p S f →
          ((d : Delay) → binds d f ≡ true → is_delayed p d ≡ true) → IsBinding p n (binding p env f)
      binding_good (flat.Int i) h w = tt
      binding_good (flat.Con c xs) h w =
          ((h.0.0, h.0.1, h.0.2 ∙ sym (length-map xs (name p env))), names_below xs h.1)
      binding_good (flat.Part f xs) h w =
          ((h.0.0, h.0.1, rw (length-map xs (name p env)) h.0.2), names_below xs h.1)
      binding_good (flat.Call f xs) h w =
          ((h.0.0, h.0.1, h.0.2 ∙ sym (length-map xs (name p env))), names_below xs h.1)
      binding_good (flat.Apply x xs) h w = rw (length-map xs (name p env)) (
        has_applies p (length xs) h.0
            (w (Applies (length xs)) (delay_itself (Applies (length xs)))),
        name_below x h.1,
        names_below xs h.2,
      )
      binding_good (flat.Prim op x y) h w = (
        has_operates p op (w (Operates op) (delay_itself (Operates op))),
        name_below x h.0,
        name_below y h.1,
      )

      pub value_known : (f : Flat) → FormOk p S f →
          ((d : Delay) → binds d f ≡ true → is_delayed p d ≡ true)
          → value_of (tr p) genv (blocks.node p base f) ≡ Some
          (node (binding_node p (binding p env f)))
      value_known (flat.Int i) h w =
          rw (binding_made p n (binding p env (flat.Int i)) (binding_good (flat.Int i) h w)) refl
      value_known (flat.Con c xs) h w =
          rw (
            words_known xs h.1,
            binding_made p n (binding p env (flat.Con c xs))
                (binding_good (flat.Con c xs) h w),
          ) refl
      value_known (flat.Part f xs) h w =
          rw (
            words_known xs h.1,
            sym (length-map xs (name p env)),
            binding_made p n (binding p env (flat.Part f xs)) (binding_good (flat.Part f xs) h w),
          )
          refl
      value_known (flat.Call f xs) h w =
          rw (
            words_known xs h.1,
            binding_made p n (binding p env (flat.Call f xs))
                (binding_good (flat.Call f xs) h w),
          ) refl
      value_known (flat.Apply x xs) h w =
          rw (
            word_known x h.1,
            words_known xs h.2,
            sym (length-map xs (name p env)),
            binding_made p n (binding p env (flat.Apply x xs)) (binding_good (flat.Apply x xs) h w),
          )
          refl
      value_known (flat.Prim op x y) h w =
          rw (
            word_known x h.0,
            word_known y h.1,
            binding_made p n
                (binding p env (flat.Prim op x y)) (binding_good (flat.Prim op x y) h w),
          ) refl

      pub record KnowsCells (group : List Bound) : Type 0 where
        pub cells : List HeapCell
        pub is : cells_of (tr p) genv (map (cell_of p base) group) ≡ Some cells
        pub heaps : Heaps p n (map (λ b. binding p env b.flat) group) cells

      pub knows_cells : (group : List Bound) → AllOf (λ b. FormOk p S b.flat) group
          → ((b : Bound) → Has b group → (d : Delay) → binds d b.flat ≡ true
          → is_delayed p d ≡ true) → KnowsCells group
      knows_cells [] h w = record { cells = []; is = refl; heaps = tt }
      knows_cells (b ∷ group) h w =
          let rest = knows_cells group h.1 (λ b i. w b (inr i)) in
          record {
            cells = record
                { site = (local p base b.local).0; node = binding_node p (binding p env b.flat) } ∷
                rest.cells;
            is = rw (value_known b.flat h.0 (w b (inl refl)), rest.is) refl;
            heaps = (refl, binding_good b.flat h.0 (w b (inl refl)), rest.heaps);
          }
