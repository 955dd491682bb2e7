-- What a name of a module stands for, and what the name that it becomes stands for in the program.
use Rattle.std.proofs.Common.{◌≡◌, ℕ, zero, suc, ◌+◌, ◌<◌, Bool, true, false, cond, List, [], ◌∷◌, map, filter, length, refl, sym, ap, subst, ◌∙◌, arith, Option, Some, None, ◌⊎◌, inl, inr}
use Rattle.std.specs.Prelude.{◌≢◌, ◌==◌, ◌-◌, not, codes, slice_get, if◌then◌else◌}
use Rattle.std.proofs.lemmas.Bool.{eqb-true, eq-eqb}
use Rattle.std.proofs.lemmas.Slice.Eq.{bytes_eq-Decides}
use Rattle.seq.specs.Lists.{In, here, there}
use Rattle.seq.proofs.Lists.{none_is_some, get_within}
use Rattle.seq.proofs.Order.{lt_true, lt_false}
use Rattle.seq.proofs.Truth.{not_both, not_true}
use Rattle.core_reader.specs.declared.syntax.Binder.{Binder}
use Rattle.core_reader.specs.Readable.{IsReadable, ReadableData, ReadableFunction}
use Rattle.core_reader.specs.Tree.{Data, Program}
use Rattle.core_reader.specs.Tree as tree
use Rattle.arity_check.specs.declared.normal.PrimOp.{PrimOp}
use Rattle.arity_check.specs.Broken.{first_constructor_named}
use Rattle.arity_check.specs.declared.meaning.Meaning.{Meaning}
use Rattle.arity_check.specs.declared.meaning.Meaning.TheVariants.{Local, Function, Primitive, Unbound}
use Rattle.arity_check.specs.Scope.{Scope, is_named, primitives, function_from, means}
use Rattle.arity_check.proofs.Names.{first_place}
use Rattle.core_meaning.proofs.Valid.{different_places}
use Rattle.core_link.specs.Module.{Module, text_in, name_of, seen, imported, imported_functions, imported_constructors, is_constructor, as_function, as_constructor, begins_upper}
use Rattle.core_link.specs.Rules.{IsDeclared, AsFunction, AsConstructor}
use Rattle.core_link.specs.Union.{global_text, local_text, home_module, import_home, meaning_text, use_text, IsUnion}
use Rattle.core_link.proofs.Beside.{in_place}
use Rattle.core_link.proofs.Different.{IsPlain, local_not_global}
use Rattle.core_link.proofs.Clear.{Means, IsPlainly, plainly_means, nameless_means, primitive_means, meant, clear_means, global_clear, local_clear, named_at, same_primitive}
use Rattle.core_link.proofs.InScope.{Fits, Finds, Inside, Outside, finds}
use Rattle.core_link.proofs.Items.{get_split, map_at}
use Rattle.core_link.proofs.Letters.{constructor_upper, name_lower}
use Rattle.core_link.proofs.Linked.{IsSound, all_at, text_is, function_there, constructor_there, HasSource, has_source, is_declared_there}
use Rattle.core_link.proofs.OfModules.{IsGood}

-- ---- functions by their names

module _ (p : Program) where
  function_no_local : (fs : List tree.Function) (f x y : ℕ) → function_from p fs f x ≡ Local y → ⊥
  function_no_local [] f x y e = cc
  function_no_local (g ∷ gs) f x y e = go (g.name == x) (function_no_local gs (f + 1) x y) e
    where
      go : (b : Bool) → (function_from p gs (f + 1) x ≡ Local y → ⊥)
          → (if b then Function f (length g.params) else function_from p gs (f + 1) x) ≡ Local y → ⊥
      go true rest e = cc
      go false rest e = rest e

  -- the function that a name stands for
  pub function_is : (fs : List tree.Function) (f x g params : ℕ)
      → function_from p fs f x ≡ Function g params → (i : ℕ) × (h : tree.Function) × (g ≡ f + i)
      × (slice_get fs i ≡ Some h) × (h.name ≡ x)
  function_is [] f x g params e = absurd cc
  function_is (h ∷ fs) f x g params e = go (h.name == x) refl e (function_is fs (f + 1) x g params)
    where
      go : (b : Bool) → (h.name == x) ≡ b →
          (if b then Function f (length h.params) else function_from p fs (f + 1) x) ≡ Function g
          params → (function_from p fs (f + 1) x ≡ Function g params → (i : ℕ) × (k : tree.Function)
          × (g ≡ f + 1 + i) × (slice_get fs i ≡ Some k) × (k.name ≡ x))
          → (i : ℕ) × (k : tree.Function) × (g ≡ f + i) × (slice_get (h ∷ fs) i ≡ Some k)
          × (k.name ≡ x)
      go true n e rest =
          (zero, h, (let s : f ≡ g = cc in omega (arith, s)), refl, eqb-true h.name x n)
      go false n e rest = let w = rest e in (suc w.0, w.1, omega (arith, w.2), w.3, w.4)

  -- a function of this name is there
  pub function_bound : (fs : List tree.Function) (f x i : ℕ) (h : tree.Function)
      → slice_get fs i ≡ Some h → h.name ≡ x → function_from p fs f x ≡ Unbound → ⊥
  function_bound [] f x i h e n u = none_is_some e
  function_bound (g ∷ gs) f x i h e n u = go (g.name == x) refl i e u
      (λ i e u. function_bound gs (f + 1) x i h e n u)
    where
      go : (b : Bool) → (g.name == x) ≡ b → (i : ℕ) → slice_get (g ∷ gs) i ≡ Some h
          → (if b then Function f (length g.params) else function_from p gs (f + 1) x) ≡ Unbound
          → ((i : ℕ) → slice_get gs i ≡ Some h → function_from p gs (f + 1) x ≡ Unbound → ⊥) → ⊥
      go true m i e u rest = cc
      go false m zero e u rest = let same : g ≡ h = cc
          in not_both (g.name == x) (eq-eqb g.name x (ap (λ (k : tree.Function). k.name) same ∙ n))
          m
      go false m (suc i) e u rest = rest i e u

pub named_is : (c : ℕ) (ds : List Data) (d : Data) → first_constructor_named c ds ≡ Some d
    → d.name ≡ c
named_is c [] d e = absurd cc
named_is c (x ∷ xs) d e = go (x.name == c) refl e (named_is c xs d)
  where
    go : (b : Bool) → (x.name == c) ≡ b → (if b then Some x else first_constructor_named c xs) ≡
        Some d → (first_constructor_named c xs ≡ Some d → d.name ≡ c) → d.name ≡ c
    go true h e rest = let same : x ≡ d = cc in ap (λ (y : Data). y.name) (sym same) ∙ eqb-true
        x.name c h
    go false h e rest = rest e

pub constructor_bound : (c : ℕ) (ds : List Data) (i : ℕ) (d : Data) → slice_get ds i ≡ Some d
    → d.name ≡ c → first_constructor_named c ds ≡ None → ⊥
constructor_bound c [] i d e n u = none_is_some e
constructor_bound c (x ∷ xs) i d e n u = go (x.name == c) refl i e u
    (λ i e u. constructor_bound c xs i d e n u)
  where
    go : (b : Bool) → (x.name == c) ≡ b → (i : ℕ) → slice_get (x ∷ xs) i ≡ Some d
        → (if b then Some x else first_constructor_named c xs) ≡ None
        → ((i : ℕ) → slice_get xs i ≡ Some d → first_constructor_named c xs ≡ None → ⊥) → ⊥
    go true m i e u rest = absurd cc
    go false m zero e u rest = let same : x ≡ d = cc
        in not_both (x.name == c) (eq-eqb x.name c (ap (λ (y : Data). y.name) same ∙ n)) m
    go false m (suc i) e u rest = rest i e u

in_filter : {X : Type 0} (test : X → Bool) (xs : List X) (i : ℕ) (x : X)
    → slice_get (filter test xs) i ≡ Some x → In x xs × (test x ≡ true)
in_filter test [] i x e = none_is_some e
in_filter test (y ∷ xs) i x e = go (test y) refl i e (λ i e. in_filter test xs i x e)
  where
    go : (b : Bool) → test y ≡ b → (i : ℕ) → slice_get
        (cond b (y ∷ filter test xs) (filter test xs)) i ≡ Some x
        → ((i : ℕ) → slice_get (filter test xs) i ≡ Some x → In x xs × (test x ≡ true))
        → In x (y ∷ xs) × (test x ≡ true)
    go true h zero e rest = let same : y ≡ x = cc in
        (subst (λ w. In w (y ∷ xs)) same here, ap test (sym same) ∙ h)
    go true h (suc i) e rest = let w = rest i e in (there w.0, w.1)
    go false h i e rest = let w = rest i e in (there w.0, w.1)

-- ---- a module among others, and the program

module _ (ms : List Module) (c : Program) (u : IsUnion ms c) (sound : IsSound ms)
    (readable : IsReadable c) (n : ℕ) (m : Module) (is_module : slice_get ms n ≡ Some m) where
  pub good : IsGood m
  good = sound.good n m is_module

  pub one_number : (i j : ℕ) (w : List ℕ) → slice_get c.names i ≡ Some w
      → slice_get c.names j ≡ Some w → i ≡ j
  one_number i j w e f = different_places c.names readable.different i j w e f

  -- where the function comes from that a name stands for
  record Comes (x g : ℕ) (w : List ℕ) : Type 0 where
    plain : IsPlain (home_module m g)
    some : home_module m g ≢ []
    there : (k : ℕ) → slice_get c.names k ≡ Some (global_text w (home_module m g))
        → function_from c c.functions 0 k ≡ Unbound → ⊥

  bound_there : (k : ℕ) (w : List ℕ) (o : Module) → In o ms → (f : tree.Function) → In f o.functions
      → text_in o f.name ≡ w → slice_get c.names k ≡ Some (global_text w (name_of o))
      → function_from c c.functions 0 k ≡ Unbound → ⊥
  bound_there k w o h f i e named none =
      let t = function_there ms c u o h f i in
      function_bound c c.functions 0 k t.0 t.1 t.2
      (one_number t.1.name k (global_text w (name_of o))
      (t.3.0 ∙ ap (λ v. Some (global_text v (name_of o))) e) named) none

  pub own_home : (g : ℕ) → g < length m.functions → home_module m g ≡ name_of m
  own_home g l = ap
      (λ b. if b then name_of m else import_home m
      (slice_get (imported_functions m) (g - length m.functions)))
      (lt_true g (length m.functions) l)

  other_home : (g k : ℕ) (i : Binder × Binder) → g ≡ length m.functions + k
      → slice_get (imported_functions m) k ≡ Some i → home_module m g ≡ text_in m i.0.name.0
  other_home g k i e f =
      ap (λ b. if b then name_of m else import_home m
      (slice_get (imported_functions m) (g - length m.functions)))
      (lt_false g (length m.functions) (omega (arith, e)))
      ∙ ap (λ j. import_home m (slice_get (imported_functions m) j)) (omega (arith, e)) ∙ ap
      (import_home m) f

  comes_own : (x g : ℕ) (w : List ℕ) → slice_get m.names x ≡ Some w → (h : tree.Function)
      → slice_get m.functions g ≡ Some h → h.name ≡ x → Comes x g w
  comes_own x g w e h f s =
      let at = own_home g (get_within m.functions g h f) in
      record {
        plain = subst IsPlain (sym at) good.plain;
        some = λ z. good.some (sym at ∙ z);
        there = λ k named none. bound_there k w m (in_place ms n is_module) h
            (in_place m.functions g f) (ap (text_in m) s ∙ text_is m x w e)
            (named ∙ ap (λ v. Some (global_text w v)) at) none;
      }

  comes_other : (x g k : ℕ) (w : List ℕ) → slice_get m.names x ≡ Some w → (i : Binder × Binder)
      → g ≡ length m.functions + k → slice_get (imported_functions m) k ≡ Some i → i.1.name.0 ≡ x
      → Comes x g w
  comes_other x g k w e i s f named_x =
      let at = other_home g k i s f in
      let inside = in_filter (λ i. not (is_constructor m i.1)) (imported m) k i f in
      let o : HasSource ms sound m i = has_source ms sound n m i is_module inside.0 in
      let other = sound.good o.file o.other o.there in
      let w_is : text_in m i.1.name.0 ≡ w = ap (text_in m) named_x ∙ text_is m x w e in
      record {
        plain = subst IsPlain (o.named ∙ sym at) other.plain;
        some = λ z. other.some (o.named ∙ sym at ∙ z);
        there = λ k named none. is_declared_there ms sound n m i is_module inside.0 o
            (declared o other w_is inside.1 k
            (named ∙ ap (λ v. Some (global_text w v)) (at ∙ sym o.named)) none);
      }
    where
      declared : (o : HasSource ms sound m i) → IsGood o.other → text_in m i.1.name.0 ≡ w
          → not (is_constructor m i.1) ≡ true → (k : ℕ)
          → slice_get c.names k ≡ Some (global_text w (name_of o.other))
          → function_from c c.functions 0 k ≡ Unbound
          → (b : Binder) → IsDeclared o.other b.name.0
          → text_in o.other b.name.0 ≡ text_in m i.1.name.0 → ⊥
      declared o other w_is lower k named none b (AsFunction {f = h} j at same) t =
          bound_there k w o.other (in_place ms o.file o.there) h (in_place o.other.functions j at)
          (ap (text_in o.other) same ∙ t ∙ w_is) named none
      declared o other w_is lower k named none b (AsConstructor {d = d} j at same) t =
          let r = (all_at (ReadableData o.other.names) o.other.constructors
          other.readable.constructors j d at).0 in
          let text : r.0 ≡ text_in m i.1.name.0 = sym (text_is o.other d.name r.0 r.1) ∙ ap
          (text_in o.other) same ∙ t in
          let upper : is_constructor m i.1 ≡ true = ap begins_upper (sym text) ∙ constructor_upper
          r.0 r.2 in
          not_both (is_constructor m i.1) upper (not_true (is_constructor m i.1) lower)

  comes_by : (x g : ℕ) (w : List ℕ) → slice_get m.names x ≡ Some w → (h : tree.Function)
      → h.name ≡ x
      → (slice_get m.functions g ≡ Some h) ⊎
      ((k : ℕ) × (g ≡ length m.functions + k) ×
      (slice_get (map as_function (imported_functions m)) k ≡ Some h)) → Comes x g w
  comes_by x g w e h s (inl at) = comes_own x g w e h at s
  comes_by x g w e h s (inr at) =
      let i = map_at as_function (imported_functions m) at.0 h at.2 in
      comes_other x g at.0 w e i.0 at.1 i.1 (ap (λ (k : tree.Function). k.name) i.2 ∙ s)

  comes : (x g params : ℕ) (w : List ℕ) → slice_get m.names x ≡ Some w
      → function_from (seen m) (seen m).functions 0 x ≡ Function g params → Comes x g w
  comes x g params w e f =
      let h = function_is (seen m) (seen m).functions 0 x g params f in
      let same : h.0 ≡ g = omega (arith, h.2) in
      comes_by x g w e h.1 h.4
      (get_split m.functions (map as_function (imported_functions m)) g h.1
      (ap (slice_get (seen m).functions) (sym same) ∙ h.3))

  -- ---- what the names stand for

  module _ (OfNumber : ℕ → ℕ → Type 0) where
    -- A name of the module in one scope, and its name in the program in another.
    pub data Agrees (s t : Scope) (x k : ℕ) : Type 0 where
      Locals : (z i : ℕ) → means (seen m) s x ≡ Local z → means c t k ≡ Local i → OfNumber z i
          → Agrees s t x k
      Functions : (g params : ℕ) → means (seen m) s x ≡ Function g params
          → function_from (seen m) (seen m).functions 0 x ≡ Function g params → (w : List ℕ)
          → slice_get m.names x ≡ Some w → slice_get c.names k ≡ Some
          (global_text w (home_module m g))
          → means c t k ≡ function_from c c.functions 0 k → (means c t k ≡ Unbound → ⊥)
          → Agrees s t x k
      Primitives : (op : PrimOp) → means (seen m) s x ≡ Primitive op → means c t k ≡ Primitive op
          → Agrees s t x k
      Neither : means (seen m) s x ≡ Unbound → Agrees s t x k

    module _ (r s t : Scope)
        (fits : Fits m c good.readable.different readable.different OfNumber r s t) (x k : ℕ)
        (w : List ℕ) (is : slice_get m.names x ≡ Some w) where
      abbrev Found : Type 0
      Found = Finds m c good.readable.different readable.different OfNumber r s t x w

      found : Found
      found = finds m c good.readable.different readable.different OfNumber x w is r s t fits

      not_nameless : is_named (seen m) (codes "_") x ≡ false → w ≢ codes "_"
      not_nameless e h = not_both (is_named (seen m) (codes "_") x)
          (named_at (seen m) x w (codes "_") is ∙ (bytes_eq-Decides w (codes "_")).1 h) e

      agrees_local : (y : ℕ) → IsPlainly (seen m) r x (Local y)
          → slice_get c.names k ≡ Some (local_text w) → Found → Agrees s t x k
      agrees_local y h named (Inside y' z i e f o beyond) =
          Locals z i (plainly_means (seen m) s x (Local z) (h.0, h.1, f))
          (clear_means c t k (local_text w) named (local_clear w (not_nameless h.0)) ∙ beyond k
          named) o
      agrees_local y h named (Outside e f beyond) = absurd
          (function_no_local (seen m) (seen m).functions 0 x y (sym e ∙ h.2))

      agrees_function : (g params : ℕ) → IsPlainly (seen m) r x (Function g params)
          → slice_get c.names k ≡ Some (global_text w (home_module m g)) → Found → Agrees s t x k
      agrees_function g params h named (Inside y z i e f o beyond)
          = absurd (let l : Local y ≡ Function g params = sym e ∙ h.2 in cc)
      agrees_function g params h named (Outside e f beyond) =
          let from = comes x g params w is (sym e ∙ h.2) in
          let v = global_text w (home_module m g) in
          let means_there : means c t k ≡ function_from c c.functions 0 k
          = clear_means c t k v named (global_clear w (home_module m g)) ∙ beyond k v named
          (λ y l. local_not_global y w (home_module m g) from.plain from.some (sym l)) in
          Functions g params
          (plainly_means (seen m) s x (Function g params) (h.0, h.1, f ∙ sym e ∙ h.2))
          (sym e ∙ h.2) w is named means_there (λ z. from.there k named (sym means_there ∙ z))

      agrees_unbound : Found → IsPlainly (seen m) r x Unbound → Agrees s t x k
      agrees_unbound (Inside y z i e f o beyond) h = absurd
          (let l : Local y ≡ Unbound = sym e ∙ h.2 in cc)
      agrees_unbound (Outside e f beyond) h = Neither
          (plainly_means (seen m) s x Unbound (h.0, h.1, f ∙ sym e ∙ h.2))

      agrees_by : (o : Meaning) → Means (seen m) r x o
          → slice_get c.names k ≡ Some (meaning_text m w o) → Agrees s t x k
      agrees_by (Local y) h named = agrees_local y h named found
      agrees_by (Function g params) h named = agrees_function g params h named found
      agrees_by (Primitive op) h named =
          Primitives op (primitive_means (seen m) s x op h.0 h.1)
          (primitive_means c t k op
          (named_at c k w (codes "_") named ∙ sym (named_at (seen m) x w (codes "_") is) ∙ h.0)
          (sym (same_primitive (seen m) c x k (is ∙ sym named) primitives) ∙ h.1))
      agrees_by Unbound (inl h) named = Neither (nameless_means (seen m) s x h)
      agrees_by Unbound (inr h) named = agrees_unbound found h

      pub agrees : slice_get c.names k ≡ Some (use_text m r x) → Agrees s t x k
      agrees named = agrees_by (means (seen m) r x) (meant (seen m) r x (means (seen m) r x) refl)
          (named ∙ ap (λ v. Some (meaning_text m v (means (seen m) r x))) (text_is m x w is))

  -- ---- constructors

  known_there : (k : ℕ) (w : List ℕ) (o : Module) → In o ms → (d : Data) → In d o.constructors
      → text_in o d.name ≡ w → slice_get c.names k ≡ Some w
      → first_constructor_named k c.constructors ≡ None → ⊥
  known_there k w o h d i e named none =
      let t = constructor_there ms c u o h d i in
      constructor_bound k c.constructors t.0 t.1 t.2
      (one_number t.1.name k w (t.3.0 ∙ ap (λ v. Some v) e) named) none

  known_other : (x k : ℕ) (w : List ℕ) → slice_get m.names x ≡ Some w → slice_get c.names k ≡ Some w
      → first_constructor_named k c.constructors ≡ None → (j : ℕ) (i : Binder × Binder)
      → slice_get (imported_constructors m) j ≡ Some i → i.1.name.0 ≡ x → ⊥
  known_other x k w e named none j i f named_x =
      let inside = in_filter (λ i. is_constructor m i.1) (imported m) j i f in
      let o : HasSource ms sound m i = has_source ms sound n m i is_module inside.0 in
      let w_is : text_in m i.1.name.0 ≡ w = ap (text_in m) named_x ∙ text_is m x w e in
      is_declared_there ms sound n m i is_module inside.0 o
      (declared o (sound.good o.file o.other o.there) w_is inside.1)
    where
      declared : (o : HasSource ms sound m i) → IsGood o.other → text_in m i.1.name.0 ≡ w
          → is_constructor m i.1 ≡ true → (b : Binder) → IsDeclared o.other b.name.0
          → text_in o.other b.name.0 ≡ text_in m i.1.name.0 → ⊥
      declared o other w_is upper b (AsConstructor {d = d} l at same) t
          = known_there k w o.other (in_place ms o.file o.there) d
          (in_place o.other.constructors l at) (ap (text_in o.other) same ∙ t ∙ w_is) named none
      declared o other w_is upper b (AsFunction {f = h} l at same) t =
          let r = (all_at (ReadableFunction o.other.names) o.other.functions
          other.readable.functions l h at).0 in
          let text : r.0 ≡ text_in m i.1.name.0 = sym (text_is o.other h.name r.0 r.1) ∙ ap
          (text_in o.other) same ∙ t in
          not_both (is_constructor m i.1) upper (ap begins_upper (sym text) ∙ name_lower r.0 r.2)

  -- a constructor that is unknown in the program is unknown in the module
  pub unknown_back : (x k : ℕ) (w : List ℕ) → slice_get m.names x ≡ Some w
      → slice_get c.names k ≡ Some w → first_constructor_named k c.constructors ≡ None
      → first_constructor_named x (seen m).constructors ≡ None
  unknown_back x k w e named none = go (first_constructor_named x (seen m).constructors) refl
    where
      bad : (d : Data) → first_constructor_named x (seen m).constructors ≡ Some d → (i : ℕ)
          → (slice_get m.constructors i ≡ Some d) ⊎
          ((j : ℕ) × (i ≡ length m.constructors + j)
          × (slice_get (map as_constructor (imported_constructors m)) j ≡ Some d)) → ⊥
      bad d f i (inl at) = known_there k w m (in_place ms n is_module) d
          (in_place m.constructors i at)
          (ap (text_in m) (named_is x (seen m).constructors d f) ∙ text_is m x w e) named none
      bad d f i (inr at) =
          let y = map_at as_constructor (imported_constructors m) at.0 d at.2 in
          known_other x k w e named none at.0 y.0 y.1
          (ap (λ (z : Data). z.name) y.2 ∙ named_is x (seen m).constructors d f)

      go : (o : Option Data) → first_constructor_named x (seen m).constructors ≡ o
          → first_constructor_named x (seen m).constructors ≡ None
      go None f = f
      go (Some d) f = let i = first_place x (seen m).constructors d f
          in absurd
          (bad d f i.0
          (get_split m.constructors (map as_constructor (imported_constructors m)) i.0 d i.1))
