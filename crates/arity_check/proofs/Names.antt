-- What is known of a program's names says what they stand for.
use Rattle.std.proofs.Common.{◌≡◌, ℕ, zero, suc, ◌+◌, Bool, true, false, List, [], ◌∷◌, length, refl, sym, ap, ◌∙◌, Option, Some, None}
use Rattle.std.specs.Prelude.{◌==◌, codes, slice_get, if◌then◌else◌}
use Rattle.std.specs.Str.{bytes_eq}
use Rattle.std.proofs.lemmas.Slice.Eq.{bytes_eq-Decides}
use Rattle.std.proofs.lemmas.Bool.{eqb-true}
use Rattle.core_reader.specs.declared.syntax.Binder.{Binder}
use Rattle.core_reader.specs.Tree.{Data, Program}
use Rattle.core_reader.specs.Tree as tree
use Rattle.arity_check.specs.declared.normal.PrimOp.{PrimOp}
use Rattle.arity_check.specs.declared.globals.NameKind.{NameKind}
use Rattle.arity_check.specs.declared.globals.NameKind.TheVariants as kind
use Rattle.arity_check.specs.Scope.{Scope, Meaning, Local, Function, Primitive, Unbound, is_named, primitives, primitive_from, function_from, found_in, means, binds, unless_primitive}
use Rattle.arity_check.specs.Locals.{innermost_local}
use Rattle.arity_check.specs.Pieces.{within}
use Rattle.arity_check.specs.Broken.{first_constructor_named}
use Rattle.arity_check.specs.Known.{nameless_kind, reserved_kind, kind_meaning, is_nameless, is_reserved, local_meaning, function_meaning, meaning, all_entered}
use Rattle.arity_check.specs.Whole.{kinds, kind_from, kind_of, kind_at, known_of, function_at, fields_at, has_fields, main_kind, int_kind, nil_kind, cons_kind}

pub same_bytes : (a b : List ℕ) → bytes_eq a b ≡ true → a ≡ b
same_bytes a b e = (bytes_eq-Decides a b).0 e

-- each entry of the table passes the test exactly if it has this text
abbrev Agrees : (NameKind → Bool) → List ℕ → List (List ℕ × NameKind) → Type 0
Agrees test text [] = Unit {0}
Agrees test text (q ∷ qs) = (test q.1 ≡ bytes_eq q.0 text) × Agrees test text qs

other_text : (test : NameKind → Bool) (text b : List ℕ) (table : List (List ℕ × NameKind))
    → Agrees test text table → test kind.Plain ≡ false → bytes_eq b text ≡ false
    → test (kind_from table b) ≡ false
other_text test text b [] a none e = none
other_text test text b (q ∷ qs) a none e = go (other_text test text b qs a.1 none e)
    (bytes_eq b q.0) refl
  where
    go : test (kind_from qs b) ≡ false → (c : Bool) → bytes_eq b q.0 ≡ c
        → test (if c then q.1 else kind_from qs b) ≡ false
    go rest true h = a.0 ∙ ap (λ t. bytes_eq t text) (sym (same_bytes b q.0 h)) ∙ e
    go rest false h = rest

kind_test : (test : NameKind → Bool) (text : List ℕ) → Agrees test text kinds
    → test kind.Plain ≡ false → test (kind_of text) ≡ true → (b : List ℕ)
    → test (kind_of b) ≡ bytes_eq b text
kind_test test text a none here b = go (bytes_eq b text) refl
  where
    go : (c : Bool) → bytes_eq b text ≡ c → test (kind_of b) ≡ c
    go true h = ap (λ t. test (kind_of t)) (same_bytes b text h) ∙ here
    go false h = other_text test text b kinds a none h

module _ (p : Program) where
  named_test : (test : NameKind → Bool) (text : List ℕ) → Agrees test text kinds
      → test kind.Plain ≡ false → test (kind_of text) ≡ true → (x : ℕ)
      → test ((known_of p).kind x) ≡ is_named p text x
  named_test test text a none here x = go (slice_get p.names x)
    where
      go : (o : Option (List ℕ)) → test (kind_at o) ≡ elim o
          [ Some b ↦ bytes_eq b text | None ↦ false ]
      go None = none
      go (Some b) = kind_test test text a none here b

  pub nameless_named : (x : ℕ) → is_nameless (known_of p) x ≡ is_named p (codes "_") x
  nameless_named x = named_test nameless_kind (codes "_") (
    refl,
    (
      refl,
      (refl, (refl, (refl, (refl, (refl, (refl, (refl, (refl, (refl, (refl, tt)))))))))),
    ),
  ) refl refl
      x

  pub main_named : (x : ℕ) → main_kind ((known_of p).kind x) ≡ is_named p (codes "main") x
  main_named x = named_test main_kind (codes "main") (
    refl,
    (
      refl,
      (refl, (refl, (refl, (refl, (refl, (refl, (refl, (refl, (refl, (refl, tt)))))))))),
    ),
  ) refl refl
      x

  pub int_named : (x : ℕ) → int_kind ((known_of p).kind x) ≡ is_named p (codes "Int") x
  int_named x = named_test int_kind (codes "Int") (
    refl,
    (
      refl,
      (refl, (refl, (refl, (refl, (refl, (refl, (refl, (refl, (refl, (refl, tt)))))))))),
    ),
  ) refl refl
      x

  pub nil_named : (x : ℕ) → nil_kind ((known_of p).kind x) ≡ is_named p (codes "Nil") x
  nil_named x = named_test nil_kind (codes "Nil") (
    refl,
    (
      refl,
      (refl, (refl, (refl, (refl, (refl, (refl, (refl, (refl, (refl, (refl, tt)))))))))),
    ),
  ) refl refl
      x

  pub cons_named : (x : ℕ) → cons_kind ((known_of p).kind x) ≡ is_named p (codes "Cons") x
  cons_named x = named_test cons_kind (codes "Cons") (
    refl,
    (
      refl,
      (refl, (refl, (refl, (refl, (refl, (refl, (refl, (refl, (refl, (refl, tt)))))))))),
    ),
  ) refl refl
      x

  -- ---- primitives

  abbrev prims : List (List ℕ × PrimOp) → List (List ℕ × NameKind)
  prims [] = (codes "_", kind.Nameless) ∷
      ((codes "main", kind.Main) ∷
      ((codes "Int", kind.Int) ∷ ((codes "Nil", kind.Nil) ∷ ((codes "Cons", kind.Cons) ∷ []))))
  prims (q ∷ qs) = (q.0, kind.Primitive q.1) ∷ prims qs

  abbrev chain : List (List ℕ × PrimOp) → List ℕ → Meaning
  chain [] b = Unbound
  chain (q ∷ qs) b = if bytes_eq b q.0 then Primitive q.1 else chain qs b

  abbrev others : List (List ℕ × NameKind)
  others = (codes "_", kind.Nameless) ∷
      ((codes "main", kind.Main) ∷
      ((codes "Int", kind.Int) ∷ ((codes "Nil", kind.Nil) ∷ ((codes "Cons", kind.Cons) ∷ []))))

  abbrev Plainly : List (List ℕ × NameKind) → Type 0
  Plainly [] = Unit {0}
  Plainly (q ∷ qs) = (kind_meaning q.1 ≡ Unbound) × Plainly qs

  no_primitive : (b : List ℕ) (table : List (List ℕ × NameKind)) → Plainly table
      → kind_meaning (kind_from table b) ≡ Unbound
  no_primitive b [] a = refl
  no_primitive b (q ∷ qs) a = go (no_primitive b qs a.1) (bytes_eq b q.0)
    where
      go : kind_meaning (kind_from qs b) ≡ Unbound → (c : Bool)
          → kind_meaning (if c then q.1 else kind_from qs b) ≡ Unbound
      go rest true = a.0
      go rest false = rest

  chain_is : (b : List ℕ) (qs : List (List ℕ × PrimOp))
      → kind_meaning (kind_from (prims qs) b) ≡ chain qs b
  chain_is b [] = no_primitive b others (refl, (refl, (refl, (refl, (refl, tt)))))
  chain_is b (q ∷ qs) = go (chain_is b qs) (bytes_eq b q.0)
    where
      go : kind_meaning (kind_from (prims qs) b) ≡ chain qs b → (c : Bool)
          → kind_meaning (if c then kind.Primitive q.1 else kind_from (prims qs) b) ≡
          (if c then Primitive q.1 else chain qs b)
      go rest true = refl
      go rest false = rest

  chain_named : (x : ℕ) (o : Option (List ℕ)) → slice_get p.names x ≡ o
      → (qs : List (List ℕ × PrimOp)) → elim o [ Some b ↦ chain qs b | None ↦ Unbound ] ≡
      primitive_from p qs x
  chain_named x None e [] = refl
  chain_named x (Some b) e [] = refl
  chain_named x None e (q ∷ qs) = chain_named x None e qs ∙ ap
      (λ o. if (elim o [ Some b ↦ bytes_eq b q.0 | None ↦ false ]) then Primitive q.1
      else primitive_from p qs x) (sym e)
  chain_named x (Some b) e (q ∷ qs) = go (chain_named x (Some b) e qs) (bytes_eq b q.0) ∙ ap
      (λ o. if (elim o [ Some b ↦ bytes_eq b q.0 | None ↦ false ]) then Primitive q.1
      else primitive_from p qs x) (sym e)
    where
      go : chain qs b ≡ primitive_from p qs x → (c : Bool)
          → (if c then Primitive q.1 else chain qs b) ≡
          (if c then Primitive q.1 else primitive_from p qs x)
      go rest true = refl
      go rest false = rest

  primitive_is : (x : ℕ) → kind_meaning ((known_of p).kind x) ≡ primitive_from p primitives x
  primitive_is x = go (slice_get p.names x) refl ∙ chain_named x (slice_get p.names x) refl
      primitives
    where
      go : (o : Option (List ℕ)) → slice_get p.names x ≡ o
          → kind_meaning (kind_at o) ≡ elim o [ Some b ↦ chain primitives b | None ↦ Unbound ]
      go None e = refl
      go (Some b) e = chain_is b primitives

  function_is : (x : ℕ) (fs : List tree.Function) (f : ℕ)
      → function_meaning (function_at fs f x) ≡ function_from p fs f x
  function_is x [] f = refl
  function_is x (g ∷ gs) f = go (function_is x gs (f + 1)) (g.name == x)
    where
      go : function_meaning (function_at gs (f + 1) x) ≡ function_from p gs (f + 1) x → (c : Bool)
          → function_meaning (if c then Some (f, length g.params) else function_at gs (f + 1) x) ≡
          (if c then Function f (length g.params) else function_from p gs (f + 1) x)
      go rest true = refl
      go rest false = rest

  found_is : (s : Scope) (x : ℕ) → local_meaning (known_of p) x (innermost_local s x) ≡ found_in p s
      x
  found_is [] x = function_is x p.functions 0
  found_is (b ∷ s) x = go (found_is s x) (b.0 == x)
    where
      go : local_meaning (known_of p) x (innermost_local s x) ≡ found_in p s x → (c : Bool)
          → local_meaning (known_of p) x (if c then Some b.1 else innermost_local s x) ≡
          (if c then Local b.1 else found_in p s x)
      go rest true = refl
      go rest false = rest

  pub meaning_means : (s : Scope) (x : ℕ) → meaning (known_of p) s x ≡ means p s x
  meaning_means s x = λ i. if nameless_named x i then Unbound
      else unless_primitive (primitive_is x i) (found_is s x i)

  pub entered_within : (xs : List Binder) (s : Scope)
      → all_entered (known_of p) xs s ≡ within p xs s
  entered_within [] s = refl
  entered_within (x ∷ xs) s = ap
      (λ b. all_entered (known_of p) xs (if b then s else (x.name.0, x.name.0) ∷ s))
      (nameless_named x.name.0) ∙ entered_within xs (binds p x.name.0 x.name.0 s)

  -- ---- fields

  pub fields_some : (c : ℕ) (ds : List Data) (d : Data) → first_constructor_named c ds ≡ Some d
      → fields_at ds c ≡ Some d.fields
  fields_some c [] d e = cc
  fields_some c (a ∷ ds) d e = go (fields_some c ds d) (a.name == c) e
    where
      go : (first_constructor_named c ds ≡ Some d → fields_at ds c ≡ Some d.fields) → (b : Bool)
          → (if b then Some a else first_constructor_named c ds) ≡ Some d
          → (if b then Some a.fields else fields_at ds c) ≡ Some d.fields
      go rest true e = let same : a ≡ d = cc in ap (λ (d : Data). Some d.fields) same
      go rest false e = rest e

  pub fields_none : (c : ℕ) (ds : List Data) → first_constructor_named c ds ≡ None
      → fields_at ds c ≡ None
  fields_none c [] e = refl
  fields_none c (a ∷ ds) e = go (fields_none c ds) (a.name == c) e
    where
      go : (first_constructor_named c ds ≡ None → fields_at ds c ≡ None) → (b : Bool)
          → (if b then Some a else first_constructor_named c ds) ≡ None
          → (if b then Some a.fields else fields_at ds c) ≡ None
      go rest true e = absurd cc
      go rest false e = rest e

  -- ---- reserved names

  abbrev Reserves : List (List ℕ × PrimOp) → ℕ → Type 0
  Reserves qs x = (n : ℕ) ×
      ((q : List ℕ × PrimOp) × (slice_get qs n ≡ Some q) × (is_named p q.0 x ≡ true))

  reserves : (qs : List (List ℕ × PrimOp)) (x : ℕ) (op : PrimOp)
      → primitive_from p qs x ≡ Primitive op → Reserves qs x
  reserves [] x op e = absurd cc
  reserves (q ∷ qs) x op e = go (reserves qs x op) (is_named p q.0 x) refl e
    where
      go : (primitive_from p qs x ≡ Primitive op → Reserves qs x) → (c : Bool)
          → is_named p q.0 x ≡ c → (if c then Primitive q.1 else primitive_from p qs x) ≡ Primitive
          op → Reserves (q ∷ qs) x
      go rest true h e = (zero, (q, refl, h))
      go rest false h e = let r = rest e in (suc r.0, (r.1.0, r.1.1, r.1.2))

  abbrev is_primitive : Meaning → Bool
  is_primitive (Primitive op) = true
  is_primitive (Local x) = false
  is_primitive (Function f n) = false
  is_primitive Unbound = false

  reserved_there : (qs : List (List ℕ × PrimOp)) (x n : ℕ) (q : List ℕ × PrimOp)
      → slice_get qs n ≡ Some q → is_named p q.0 x ≡ true
      → is_primitive (primitive_from p qs x) ≡ true
  reserved_there [] x n q e h = absurd cc
  reserved_there (a ∷ qs) x n q e h = go (λ n e. reserved_there qs x n q e h) (is_named p a.0 x)
      refl n e
    where
      go : ((n : ℕ) → slice_get qs n ≡ Some q → is_primitive (primitive_from p qs x) ≡ true)
          → (c : Bool) → is_named p a.0 x ≡ c → (n : ℕ) → slice_get (a ∷ qs) n ≡ Some q
          → is_primitive (if c then Primitive a.1 else primitive_from p qs x) ≡ true
      go rest true i n e = refl
      go rest false i zero e = let same : a ≡ q = cc
          in absurd
          (let f : false ≡ true = sym i ∙ ap (λ (a : List ℕ × PrimOp). is_named p a.0 x) same ∙ h
          in cc)
      go rest false i (suc n) e = rest n e

  kind_reserved : (k : NameKind) → reserved_kind k ≡ is_primitive (kind_meaning k)
  kind_reserved (kind.Primitive op) = refl
  kind_reserved kind.Nameless = refl
  kind_reserved kind.Main = refl
  kind_reserved kind.Int = refl
  kind_reserved kind.Nil = refl
  kind_reserved kind.Cons = refl
  kind_reserved kind.Plain = refl

  bad_primitive : (x : ℕ) → is_reserved (known_of p) x ≡ true → (m : Meaning)
      → primitive_from p primitives x ≡ m → is_primitive m ≡ false → ⊥
  bad_primitive x e m h f = let g : true ≡ false = sym e ∙ kind_reserved ((known_of p).kind x) ∙ ap
      is_primitive (primitive_is x ∙ h) ∙ f in cc

  pub from_reserved : (x : ℕ) → is_reserved (known_of p) x ≡ true → Reserves primitives x
  from_reserved x e = go (primitive_from p primitives x) refl
    where
      go : (m : Meaning) → primitive_from p primitives x ≡ m → Reserves primitives x
      go (Primitive op) h = reserves primitives x op h
      go (Local y) h = absurd (bad_primitive x e (Local y) h refl)
      go (Function f n) h = absurd (bad_primitive x e (Function f n) h refl)
      go Unbound h = absurd (bad_primitive x e Unbound h refl)

  pub to_reserved : (x n : ℕ) (q : List ℕ × PrimOp) → slice_get primitives n ≡ Some q
      → is_named p q.0 x ≡ true → is_reserved (known_of p) x ≡ true
  to_reserved x n q e h = kind_reserved ((known_of p).kind x) ∙ ap is_primitive (primitive_is x) ∙
      reserved_there primitives x n q e h

-- where the first declaration of a constructor stands
pub first_place : (c : ℕ) (ds : List Data) (d : Data) → first_constructor_named c ds ≡ Some d
    → (i : ℕ) × (slice_get ds i ≡ Some d)
first_place c [] d e = absurd cc
first_place c (x ∷ xs) d e = go (x.name == c) e (first_place c xs d)
  where
    go : (b : Bool) → (if b then Some x else first_constructor_named c xs) ≡ Some d
        → (first_constructor_named c xs ≡ Some d → (i : ℕ) × (slice_get xs i ≡ Some d)) → (i : ℕ)
        × (slice_get (x ∷ xs) i ≡ Some d)
    go true e rest = (zero, e)
    go false e rest = let w = rest e in (suc w.0, w.1)

-- the first declaration of a constructor that has so many fields
pub first_with : (c n : ℕ) (ds : List Data) → has_fields (fields_at ds c) n ≡ true → (d : Data)
    × (first_constructor_named c ds ≡ Some d) × (d.name ≡ c) × (d.fields ≡ n)
first_with c n [] e = absurd cc
first_with c n (x ∷ xs) e = go (x.name == c) refl e (first_with c n xs)
  where
    go : (b : Bool) → (x.name == c) ≡ b → has_fields (if b then Some x.fields else fields_at xs c) n
        ≡ true → (has_fields (fields_at xs c) n ≡ true → (d : Data)
        × (first_constructor_named c xs ≡ Some d) × (d.name ≡ c) × (d.fields ≡ n))
        → (d : Data) × ((if b then Some x else first_constructor_named c xs) ≡ Some d)
        × (d.name ≡ c) × (d.fields ≡ n)
    go true h e rest = (x, refl, eqb-true x.name c h, eqb-true x.fields n e)
    go false h e rest = rest e
