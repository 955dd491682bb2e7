-- The types of names.
use Rattle.std.proofs.Common.{◌≡◌, ℕ, zero, suc, ◌+◌, Bool, true, false, List, [], ◌∷◌, length, refl, sym, ap, subst, ◌∙◌, arith, Option, Some, None}
use Rattle.std.specs.Prelude.{◌==◌, slice_get, if◌then◌else◌}
use Rattle.core_reader.specs.declared.syntax.Binder.{Binder}
use Rattle.core_reader.specs.Tree.{Program, Function}
use Rattle.arity_check.specs.declared.normal.PrimOp.{PrimOp}
use Rattle.arity_check.specs.declared.meaning.Meaning.TheVariants.{Primitive, Unbound}
use Rattle.arity_check.specs.Scope.{primitives, primitive_from}
use Rattle.arity_check.specs.Scope as scope
use Rattle.std.specs.Ordering.{nat_cmp}
use Rattle.std.specs.BTreeMap.{get}
use Rattle.arity_check.specs.Tables as tables
use Rattle.arity_check.specs.Known.{Known, is_reserved}
use Rattle.arity_check.specs.Locals as by
use Rattle.arity_check.specs.Whole.{known_of, main_kind, function_at}
use Rattle.arity_check.proofs.Names.{main_named, from_reserved, to_reserved}
use Rattle.core_types.specs.declared.nodes.Nodes.{Nodes}
use Rattle.core_types.specs.Source.{Signature, TypeDecl, Constructor, Source, erased}
use Rattle.core_types.specs.Typing.{Typed, Int, Open, AtBinder, AtResult, Arrow, arrows, binder_type_variable, Locals, local_in, unless_primitive, integers, is_main, param_type, result_type, own_type, function_type, global_type, name_type, constructor_type, signature_of, function_of, constructor_by_name, signed, used_at, read_list, applied}
use Rattle.core_types.specs.Nodes.{Denotes}
use Rattle.arity_check.specs.declared.globals.Globals.{Globals}
use Rattle.core_types.specs.Building.{DenoteLocals, element_if_some}

-- ---- functions

module _ (s : Source) (k : Known) (f : Function) (o : Bool) (known : k ≡ known_of (erased s))
    (is : o ≡ main_kind (k.kind f.name)) where
  main_by : o ≡ is_main s f
  main_by = is ∙ ap (λ k. main_kind (k.kind f.name)) known ∙ main_named (erased s) f.name

  pub main_param : (b : Binder) → o ≡ true → param_type s f b ≡ integers s
  main_param b e = ap (λ c. if c then integers s else binder_type_variable b) (sym main_by ∙ e)

  pub other_param : (b : Binder) → o ≡ false → param_type s f b ≡ Open (AtBinder b.at)
  other_param b e = ap (λ c. if c then integers s else binder_type_variable b) (sym main_by ∙ e)

  pub main_result : o ≡ true → result_type s f ≡ integers s
  main_result e = ap (λ c. if c then integers s else Open (AtResult f.at)) (sym main_by ∙ e)

  pub other_result : o ≡ false → result_type s f ≡ Open (AtResult f.at)
  other_result e = ap (λ c. if c then integers s else Open (AtResult f.at)) (sym main_by ∙ e)

pub signed_type : (s : Source) (f : Function) (g : Signature) (at : ℕ)
    → signature_of s.signatures f.name ≡ Some g → function_type s f at ≡ signed s (used_at s at) g
signed_type s f g at e = ap
    (λ o. elim o [ Some g ↦ signed s (used_at s at) g | None ↦ own_type s f ]) e

pub unsigned_type : (s : Source) (f : Function) (at : ℕ) → signature_of s.signatures f.name ≡ None
    → function_type s f at ≡ own_type s f
unsigned_type s f at e = ap
    (λ o. elim o [ Some g ↦ signed s (used_at s at) g | None ↦ own_type s f ]) e

pub known_global : (s : Source) (n at : ℕ) (f : Function) → function_of s.functions n ≡ Some f
    → global_type s n at ≡ function_type s f at
known_global s n at f e = ap (λ o. elim o [ Some f ↦ function_type s f at | None ↦ Int ]) e

pub known_constructor : (s : Source) (n at : ℕ) (d : TypeDecl) (c : Constructor)
    → constructor_by_name s.types n ≡ Some (d, c) → constructor_type s n at ≡ arrows
    (read_list s (used_at s at) c.fields) (applied s d (used_at s at))
known_constructor s n at d c e = ap
    (λ (o : Option (TypeDecl × Constructor)). elim o [
      | Some x ↦ arrows (read_list s (used_at s at) x.1.fields) (applied s x.0 (used_at s at))
      | None
          ↦ Int
    ]) e

-- ---- names

module _ (p : Program) (x : ℕ) where
  primitive_there : (qs : List (List ℕ × PrimOp)) (n : ℕ) (q : List ℕ × PrimOp)
      → slice_get qs n ≡ Some q → scope.is_named p q.0 x ≡ true → (op : PrimOp)
      × (primitive_from p qs x ≡ Primitive op)
  primitive_there [] n q e h = absurd cc
  primitive_there (a ∷ qs) n q e h = go (scope.is_named p a.0 x) refl n e
      (λ n e. primitive_there qs n q e h)
    where
      go : (c : Bool) → scope.is_named p a.0 x ≡ c → (n : ℕ) → slice_get (a ∷ qs) n ≡ Some q
          → ((n : ℕ) → slice_get qs n ≡ Some q → (op : PrimOp)
          × (primitive_from p qs x ≡ Primitive op))
          → (op : PrimOp) × ((if c then Primitive a.1 else primitive_from p qs x) ≡ Primitive op)
      go true i n e rest = (a.1, refl)
      go false i zero e rest = let same : a ≡ q = cc
          in absurd
          (let f : false ≡ true = sym i ∙ ap (λ (a : List ℕ × PrimOp). scope.is_named p a.0 x) same
          ∙ h in cc)
      go false i (suc n) e rest = rest n e

  no_primitive : (qs : List (List ℕ × PrimOp)) →
      ((n : ℕ) (q : List ℕ × PrimOp) → slice_get qs n ≡ Some q → scope.is_named p q.0 x ≡ true → ⊥)
      → primitive_from p qs x ≡ Unbound
  no_primitive [] h = refl
  no_primitive (a ∷ qs) h = go (scope.is_named p a.0 x) refl
      (no_primitive qs (λ n q e i. h (suc n) q e i))
    where
      go : (c : Bool) → scope.is_named p a.0 x ≡ c → primitive_from p qs x ≡ Unbound
          → (if c then Primitive a.1 else primitive_from p qs x) ≡ Unbound
      go true i rest = absurd (h zero a refl i)
      go false i rest = rest

abbrev unhidden : Source → ℕ → ℕ → Option Typed → Typed
unhidden s n at o = elim o [ Some t ↦ t | None ↦ global_type s n at ]

module _ (s : Source) (ls : Locals) (k : Known) (n at : ℕ) (o : Bool)
    (known : k ≡ known_of (erased s)) (is : o ≡ is_reserved k n) where
  reserved_as : is_reserved (known_of (erased s)) n ≡ o
  reserved_as = sym (is ∙ ap (λ k. is_reserved k n) known)

  pub primitive_name : o ≡ true → name_type s ls n at ≡ Arrow Int (Arrow Int Int)
  primitive_name e =
      let r = from_reserved (erased s) n (reserved_as ∙ e) in
      ap (λ m. unless_primitive m (unhidden s n at (local_in ls n)))
      (primitive_there (erased s) n primitives r.0 r.1.0 r.1.1 r.1.2).1

  other_name : o ≡ false → name_type s ls n at ≡ unhidden s n at (local_in ls n)
  other_name e = ap (λ m. unless_primitive m (unhidden s n at (local_in ls n)))
      (no_primitive (erased s) n primitives
      (λ i q f g. let h : true ≡ false = sym (to_reserved (erased s) n i q f g) ∙ reserved_as ∙
      e in cc))

  pub local_name : (t : Typed) → o ≡ false → local_in ls n ≡ Some t → name_type s ls n at ≡ t
  local_name t e f = other_name e ∙ ap (unhidden s n at) f

  pub global_name : o ≡ false → local_in ls n ≡ None → name_type s ls n at ≡ global_type s n at
  global_name e f = other_name e ∙ ap (unhidden s n at) f

-- ---- locals

pub local_found : (n : Nodes) (ls : Locals) (sc : List (ℕ × ℕ)) (x y : ℕ) → DenoteLocals n ls sc
    → by.innermost_local sc x ≡ Some y → (t : Typed) × (local_in ls x ≡ Some t) × Denotes n t y
local_found n [] sc x y d e = absurd
    (let f : by.innermost_local [] x ≡ Some y = ap (λ sc. by.innermost_local sc x) (sym d) ∙ e
    in cc)
local_found n (l ∷ ls) sc x y d e = go (l.0 == x) refl
    (ap (λ sc. by.innermost_local sc x) (sym d.2) ∙ e) (λ f. local_found n ls d.1 x y d.4 f)
  where
    go : (b : Bool) → (l.0 == x) ≡ b → (if b then Some d.0 else by.innermost_local d.1 x) ≡ Some y
        → (by.innermost_local d.1 x ≡ Some y → (t : Typed) × (local_in ls x ≡ Some t)
        × Denotes n t y)
        → (t : Typed) × ((if b then Some l.1 else local_in ls x) ≡ Some t) × Denotes n t y
    go true q f rest = (l.1, refl, subst (Denotes n l.1) (let g = f in cc) d.3)
    go false q f rest = rest f

pub local_missing : (n : Nodes) (ls : Locals) (sc : List (ℕ × ℕ)) (x : ℕ) → DenoteLocals n ls sc
    → by.innermost_local sc x ≡ None → local_in ls x ≡ None
local_missing n [] sc x d e = refl
local_missing n (l ∷ ls) sc x d e = go (l.0 == x) (ap (λ sc. by.innermost_local sc x) (sym d.2) ∙ e)
    (λ f. local_missing n ls d.1 x d.4 f)
  where
    go : (b : Bool) → (if b then Some d.0 else by.innermost_local d.1 x) ≡ None
        → (by.innermost_local d.1 x ≡ None → local_in ls x ≡ None)
        → (if b then Some l.1 else local_in ls x) ≡ None
    go true f rest = absurd cc
    go false f rest = rest f

-- ---- functions by name

function_some : (fs : List Function) (k x i c : ℕ) → function_at fs k x ≡ Some (i, c) → (j : ℕ)
    × (i ≡ j + k) × (function_of fs x ≡ slice_get fs j)
function_some [] k x i c e = absurd cc
function_some (f ∷ fs) k x i c e = go (f.name == x) e (λ e. function_some fs (k + 1) x i c e)
  where
    go : (b : Bool) → (if b then Some (k, length f.params) else function_at fs (k + 1) x) ≡ Some
        (i, c) → (function_at fs (k + 1) x ≡ Some (i, c) → (j : ℕ) × (i ≡ j + (k + 1))
        × (function_of fs x ≡ slice_get fs j))
        → (j : ℕ) × (i ≡ j + k) × ((if b then Some f else function_of fs x) ≡ slice_get (f ∷ fs) j)
    go true e rest = (
      zero,
      (let same : k ≡ i = ap (λ (o : Option (ℕ × ℕ)). elim o [ Some p ↦ p.0 | None ↦ k ]) e
          in omega (arith, same)),
      refl,
    )
    go false e rest = let r = rest e in (suc r.0, (let m = r.1 in omega (arith, m)), r.2)

function_none : (fs : List Function) (k x : ℕ) → function_at fs k x ≡ None → function_of fs x ≡ None
function_none [] k x e = refl
function_none (f ∷ fs) k x e = go (f.name == x) e (λ e. function_none fs (k + 1) x e)
  where
    go : (b : Bool) → (if b then Some (k, length f.params) else function_at fs (k + 1) x) ≡ None
        → (function_at fs (k + 1) x ≡ None → function_of fs x ≡ None)
        → (if b then Some f else function_of fs x) ≡ None
    go true e rest = absurd cc
    go false e rest = rest e

pub function_found : (g : Globals) (s : Source) → tables.known g ≡ known_of (erased s) → (n : ℕ)
    → function_of s.functions n ≡ element_if_some s.functions
    (tables.first_of (get nat_cmp g.functions n))
function_found g s h n = go (function_at s.functions 0 n) refl ∙ ap
    (λ (k : Known). element_if_some s.functions (tables.first_of (k.function n))) (sym h)
  where
    go : (o : Option (ℕ × ℕ)) → function_at s.functions 0 n ≡ o
        → function_of s.functions n ≡ element_if_some s.functions (tables.first_of o)
    go None e = function_none s.functions 0 n e
    go (Some p) e = let r = function_some s.functions 0 n p.0 p.1 e
        in r.2 ∙ ap (slice_get s.functions) (let m : p.0 ≡ r.0 + 0 = r.1 in omega (arith, m))
