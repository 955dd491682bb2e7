-- The pieces of a body where names of patterns have become names of places: each is a piece of the
-- body as it was,
-- and what its names stand for is known where it was known there.
use Rattle.std.proofs.Common.{◌≡◌, ℕ, zero, suc, ◌+◌, ◌≤◌, Bool, true, false, List, [], ◌∷◌, map, length, refl, sym, ap, subst, ◌∙◌, Some, None, ◌⊎◌, inl, inr, ⊎_elim}
use Rattle.std.specs.Prelude.{◌≢◌, ◌==◌, ◌||◌, slice_get, slice_index_or, codes, if◌then◌else◌}
use Rattle.std.specs.Str.{bytes_eq}
use Rattle.seq.specs.Lists.{In, here, there, or_empty}
use Rattle.seq.proofs.Lists.{some_is, get_within}
use Rattle.seq.proofs.Member.{none_in}
use Rattle.seq.proofs.Order.{eq_from, eq_self}
use Rattle.seq.proofs.Truth.{two_ways}
use Rattle.core_reader.specs.declared.syntax.Binder.{Binder}
use Rattle.core_reader.specs.Tree.{Term, Terms, Name, Con, Int, Bracket, NoTerms, AndTerm, Application, Bind, Expr, App, Let, Case, Alts, NoAlts, AndAlt, Function, Program}
use Rattle.core_reader.specs.Readable.{IsNamed, ReadableTerm, ReadableTerms, ReadableApp, ReadableBind, ReadableExpr, ReadableAlts}
use Rattle.std.specs.Prelude.{All}
use Rattle.arity_check.specs.declared.normal.PrimOp.{PrimOp}
use Rattle.arity_check.specs.declared.meaning.Meaning.{Meaning}
use Rattle.arity_check.specs.declared.meaning.Meaning.TheVariants as stands
use Rattle.arity_check.specs.Scope.{Scope, is_named, primitives, primitive_from, unless_primitive, function_from, found_in, means, binds}
use Rattle.arity_check.specs.Locals.{innermost_local}
use Rattle.arity_check.specs.Patterns.{alt_at}
use Rattle.arity_check.specs.Standing.{count, IsTermAmong, First, Later, HeadIsApplied, AsName, AsCon, LoneHead, LoneBracket, InHead, InArgument, Contains, Whole, InItsHead, InItsArgs}
use Rattle.arity_check.specs.Pieces.{FunctionPart, AnApp, AGroup, SomeAlts, binders_of, bound_by, within, Has, TheApp, TheGroup, InMember, InBody, TheAlts, InTested, InAlts, HasAlts, InThis, InLater}
use Rattle.match_compile.specs.Source.{Source}
use Rattle.match_compile.specs.Sound.{equations_as_functions}
use Rattle.match_compile.specs.Renamed.{renamed_name, shadowing, renamed_term, renamed_terms, renamed_app, renamed_bind, renamed_expr, renamed_alts}
use Rattle.match_compile.specs.Translated.{name_supply_of, is_nameless, is_primitive, is_kept, with_nameless, keeps, translated}
use Rattle.match_compile.proofs.NamedAs.{named_by, old_named, new_named, same_primitive, new_primitive, spread_text}
use Rattle.match_compile.proofs.Grouped.{function_names}

-- ---- lists

map_back : {X Y : Type 0} (f : X → Y) (xs : List X) (i : ℕ) (y : Y)
    → slice_get (map f xs) i ≡ Some y → (x : X) × (slice_get xs i ≡ Some x) × (f x ≡ y)
map_back f [] i y e = absurd cc
map_back f (x ∷ xs) zero y e = (x, refl, some_is e)
map_back f (x ∷ xs) (suc i) y e = map_back f xs i y e

-- ---- names in scope

abbrev pub is_local : Scope → ℕ → Bool
is_local [] x = false
is_local (b ∷ s) x = (b.0 == x) || is_local s x

pub found_local : (p : Program) (s : Scope) (x : ℕ) → is_local s x ≡ true
    → found_in p s x ≡ stands.Unbound → ⊥
found_local p [] x e f = absurd cc
found_local p (b ∷ s) x e f = go (b.0 == x) (λ h k. found_local p s x h k) e f
  where
    go : (t : Bool) → (is_local s x ≡ true → found_in p s x ≡ stands.Unbound → ⊥)
        → (t || is_local s x) ≡ true → (if t then stands.Local b.1 else found_in p s x) ≡
        stands.Unbound → ⊥
    go true g e f = absurd cc
    go false g e f = g e f

pub found_global : (p : Program) (s : Scope) (x : ℕ)
    → (function_from p p.functions 0 x ≡ stands.Unbound → ⊥) → found_in p s x ≡ stands.Unbound → ⊥
found_global p [] x g f = g f
found_global p (b ∷ s) x g f = go (b.0 == x) (λ h. found_global p s x g h) f
  where
    go : (t : Bool) → (found_in p s x ≡ stands.Unbound → ⊥)
        → (if t then stands.Local b.1 else found_in p s x) ≡ stands.Unbound → ⊥
    go true g f = absurd cc
    go false g f = g f

-- a name that is found is a local or that of a function
found_either : (p : Program) (s : Scope) (x : ℕ) → (found_in p s x ≡ stands.Unbound → ⊥)
    → (is_local s x ≡ true) ⊎ (function_from p p.functions 0 x ≡ stands.Unbound → ⊥)
found_either p [] x g = inr g
found_either p (b ∷ s) x g = go (b.0 == x) g (λ h. found_either p s x h)
  where
    go : (t : Bool) → ((if t then stands.Local b.1 else found_in p s x) ≡ stands.Unbound → ⊥)
        → ((found_in p s x ≡ stands.Unbound → ⊥) → (is_local s x ≡ true)
        ⊎ (function_from p p.functions 0 x ≡ stands.Unbound → ⊥))
        → ((t || is_local s x) ≡ true) ⊎ (function_from p p.functions 0 x ≡ stands.Unbound → ⊥)
    go true g f = inl refl
    go false g f = f g

no_operation : (p : Program) (gs : List Function) (f x : ℕ) (op : PrimOp)
    → function_from p gs f x ≡ stands.Primitive op → ⊥
no_operation p [] f x op e = absurd cc
no_operation p (g ∷ gs) f x op e = go (g.name == x) (λ h. no_operation p gs (f + 1) x op h) e
  where
    go : (t : Bool) → (function_from p gs (f + 1) x ≡ stands.Primitive op → ⊥)
        → (if t then stands.Function f (length g.params) else function_from p gs (f + 1) x) ≡
        stands.Primitive op → ⊥
    go true h e = absurd cc
    go false h e = h e

pub never_operation : (p : Program) (s : Scope) (x : ℕ) (op : PrimOp)
    → found_in p s x ≡ stands.Primitive op → ⊥
never_operation p [] x op e = no_operation p p.functions 0 x op e
never_operation p (b ∷ s) x op e = go (b.0 == x) (λ h. never_operation p s x op h) e
  where
    go : (t : Bool) → (found_in p s x ≡ stands.Primitive op → ⊥)
        → (if t then stands.Local b.1 else found_in p s x) ≡ stands.Primitive op → ⊥
    go true h e = absurd cc
    go false h e = h e

pub in_functions : (p : Program) (gs : List Function) (f x : ℕ)
    → (function_from p gs f x ≡ stands.Unbound → ⊥) → In x (function_names gs)
in_functions p [] f x h = absurd (h refl)
in_functions p (g ∷ gs) f x h = go (g.name == x) refl h (λ k. in_functions p gs (f + 1) x k)
  where
    go : (t : Bool) → (g.name == x) ≡ t →
        ((if t then stands.Function f (length g.params) else function_from p gs (f + 1) x) ≡
        stands.Unbound → ⊥) →
        ((function_from p gs (f + 1) x ≡ stands.Unbound → ⊥) → In x (function_names gs))
        → In x (g.name ∷ function_names gs)
    go true e h k = subst (λ y. In x (y ∷ function_names gs)) (sym (eq_from g.name x e)) here
    go false e h k = there (k h)

pub functions_in : (p : Program) (gs : List Function) (f x : ℕ) → In x (function_names gs)
    → function_from p gs f x ≡ stands.Unbound → ⊥
functions_in p [] f x i e = none_in i
functions_in p (g ∷ gs) f x here e = no_function
    (ap (λ t. if t then stands.Function f (length g.params) else function_from p gs (f + 1) x)
    (sym (eq_self g.name)) ∙ e)
  where
    no_function : {n m : ℕ} → stands.Function n m ≡ stands.Unbound → ⊥
    no_function e = absurd cc
functions_in p (g ∷ gs) f x (there i) e = go (g.name == x) (λ h. functions_in p gs (f + 1) x i h) e
  where
    go : (t : Bool) → (function_from p gs (f + 1) x ≡ stands.Unbound → ⊥)
        → (if t then stands.Function f (length g.params) else function_from p gs (f + 1) x) ≡
        stands.Unbound → ⊥
    go true h e = absurd cc
    go false h e = h e

local_binds : (p : Program) (b : ℕ) (s : Scope) (y : ℕ) → is_local s y ≡ true
    → is_local (binds p b b s) y ≡ true
local_binds p b s y h = go (is_named p (codes "_") b)
  where
    more : (t : Bool) → (t || is_local s y) ≡ true
    more true = refl
    more false = h

    go : (t : Bool) → is_local (if t then s else (b, b) ∷ s) y ≡ true
    go true = h
    go false = more (b == y)

pub local_within : (p : Program) (bs : List Binder) (s : Scope) (y : ℕ) → is_local s y ≡ true
    → is_local (within p bs s) y ≡ true
local_within p [] s y h = h
local_within p (b ∷ bs) s y h = local_within p bs (binds p b.name.0 b.name.0 s) y
    (local_binds p b.name.0 s y h)

local_bound : (p : Program) (b : ℕ) (s : Scope) → is_named p (codes "_") b ≡ false
    → is_local (binds p b b s) b ≡ true
local_bound p b s h = ap (λ t. is_local (if t then s else (b, b) ∷ s) b) h ∙ ap
    (λ t. t || is_local s b) (eq_self b)

-- a binder other than `_` is in scope
pub bound_within : (p : Program) (bs : List Binder) (s : Scope) (b : Binder) → In b bs
    → is_named p (codes "_") b.name.0 ≡ false → is_local (within p bs s) b.name.0 ≡ true
bound_within p [] s b i h = none_in i
bound_within p (d ∷ bs) s b here h = local_within p bs (binds p b.name.0 b.name.0 s) b.name.0
    (local_bound p b.name.0 s h)
bound_within p (d ∷ bs) s b (there i) h = bound_within p bs (binds p d.name.0 d.name.0 s) b i h

local_unbind : (p : Program) (b : ℕ) (s : Scope) (x : ℕ) → (b == x) ≡ false
    → is_local (binds p b b s) x ≡ true → is_local s x ≡ true
local_unbind p b s x n = go (is_named p (codes "_") b)
  where
    go : (t : Bool) → is_local (if t then s else (b, b) ∷ s) x ≡ true → is_local s x ≡ true
    go true h = h
    go false h = ap (λ t. t || is_local s x) (sym n) ∙ h

-- a name in scope is one of the binders', or was in scope before
pub within_either : (p : Program) (bs : List Binder) (s : Scope) (x : ℕ)
    → is_local (within p bs s) x ≡ true → ((b : Binder) × In b bs × (b.name.0 ≡ x))
    ⊎ (is_local s x ≡ true)
within_either p [] s x h = inr h
within_either p (b ∷ bs) s x h = elim (within_either p bs (binds p b.name.0 b.name.0 s) x h) [
  | inl r ↦ inl (r.0, there r.1, r.2)
  | inr l ↦ elim (two_ways (b.name.0 == x)) [
    | inl e ↦ inl (b, here, eq_from b.name.0 x e)
    | inr e ↦ inr (local_unbind p b.name.0 s x e l)
  ]
]

-- ---- names that are renamed

pub name_at : (b y : ℕ) (s : Scope) (x : ℕ) → (b == x) ≡ true → renamed_name ((b, y) ∷ s) x ≡ y
name_at b y s x e = ap
    (λ t. elim (if t then Some y else innermost_local s x) [ Some y ↦ y | None ↦ x ]) e

pub name_here : (x y : ℕ) (s : Scope) → renamed_name ((x, y) ∷ s) x ≡ y
name_here x y s = name_at x y s x (eq_self x)

name_self : (b : ℕ) (s : Scope) (x : ℕ) → (b == x) ≡ true → renamed_name ((b, b) ∷ s) x ≡ x
name_self b s x e = name_at b b s x e ∙ eq_from b x e

pub name_other : (b y : ℕ) (s : Scope) (x : ℕ) → (b == x) ≡ false
    → renamed_name ((b, y) ∷ s) x ≡ renamed_name s x
name_other b y s x e = ap
    (λ t. elim (if t then Some y else innermost_local s x) [ Some y ↦ y | None ↦ x ]) e

module _ (c : Source) where
  -- a text of the source that is neither `_` nor that of a primitive
  pub record IsPlain (x : ℕ) : Type 0 where
    pub text : List ℕ
    pub is : slice_get c.names x ≡ Some text
    pub free : keeps (name_supply_of c) x ≡ false
    pub named : is_named (equations_as_functions c) (codes "_") x ≡ false

  -- it stays as it is, or has become a new name in scope
  pub record Becomes (x : ℕ) (s outer inner : Scope) : Type 0 where
    pub either : (renamed_name s x ≡ x) ⊎
        ((length (with_nameless c.names) ≤ renamed_name s x)
        × (is_local inner (renamed_name s x) ≡ true))
    pub local : is_local outer x ≡ true → is_local inner (renamed_name s x) ≡ true

  -- what names have become, the scope around them before, and the one now
  pub record Fits (s outer inner : Scope) : Type 0 where
    pub kept : (x : ℕ) → keeps (name_supply_of c) x ≡ true → renamed_name s x ≡ x
    pub other : (x : ℕ) → IsPlain x → Becomes x s outer inner

  becomes_bound : (b x : ℕ) (s outer inner : Scope) → IsPlain x → Becomes x s outer inner
      → Becomes x ((b, b) ∷ s) (binds (equations_as_functions c) b b outer)
      (binds (translated c) b b inner)
  becomes_bound b x s outer inner plain f = go (two_ways (b == x))
    where
      go : ((b == x) ≡ true) ⊎ ((b == x) ≡ false) → Becomes x ((b, b) ∷ s)
          (binds (equations_as_functions c) b b outer) (binds (translated c) b b inner)
      go (inl e) =
          let same : b ≡ x = eq_from b x e in
          let named : is_named (translated c) (codes "_") b ≡ false
          = ap (is_named (translated c) (codes "_")) same ∙ old_named c (codes "_") plain.text x
          plain.is ∙ plain.named in
          record {
            either = inl (name_self b s x e);
            local = λ l. ap (is_local (binds (translated c) b b inner))
                (name_self b s x e ∙ sym same) ∙ local_bound (translated c) b inner named;
          }
      go (inr e) =
          let same : renamed_name ((b, b) ∷ s) x ≡ renamed_name s x = name_other b b s x e in
          record {
            either = ⊎_elim (λ l. inl (same ∙ l))
                (λ r. inr (
                  subst (λ y. length (with_nameless c.names) ≤ y) (sym same) r.0,
                  ap (is_local (binds (translated c) b b inner)) same ∙ local_binds (translated c) b
                      inner (renamed_name s x) r.1,
                )) f.either;
            local = λ l. ap (is_local (binds (translated c) b b inner)) same ∙ local_binds
                (translated c) b inner (renamed_name s x)
                (f.local (local_unbind (equations_as_functions c) b outer x e l));
          }

  fits_bound : (b : ℕ) (s outer inner : Scope) → Fits s outer inner
      → Fits ((b, b) ∷ s) (binds (equations_as_functions c) b b outer)
      (binds (translated c) b b inner)
  fits_bound b s outer inner f = record {
    kept = λ x k. ⊎_elim (λ e. name_self b s x e) (λ e. name_other b b s x e ∙ f.kept x k)
        (two_ways (b == x));
    other = λ x p. becomes_bound b x s outer inner p (f.other x p);
  }

  fits_within : (bs : List Binder) (s outer inner : Scope) → Fits s outer inner
      → Fits (shadowing bs s) (within (equations_as_functions c) bs outer)
      (within (translated c) bs inner)
  fits_within [] s outer inner f = f
  fits_within (b ∷ bs) s outer inner f =
      fits_within bs ((b.name.0, b.name.0) ∷ s)
      (binds (equations_as_functions c) b.name.0 b.name.0 outer)
      (binds (translated c) b.name.0 b.name.0 inner) (fits_bound b.name.0 s outer inner f)

  -- ---- pieces

  -- the second is the first where names have become others
  abbrev pub IsRenamed : Scope → FunctionPart → FunctionPart → Type 0
  IsRenamed s (AnApp a) (AnApp b) = b ≡ renamed_app s a
  IsRenamed s (AGroup g) (AGroup h) = binders_of h ≡ binders_of g
  IsRenamed s (SomeAlts a) (SomeAlts b) = (i : ℕ) → alt_at b i ≡ alt_at a i
  IsRenamed s _ _ = ⊥

  pub record Renamed (outer : Scope) (e : Expr) (now : Scope) (q : FunctionPart) : Type 0 where
    pub scope : Scope
    pub names : Scope
    pub piece : FunctionPart
    pub has : Has (equations_as_functions c) outer e scope piece
    pub fits : Fits names scope now
    pub renamed : IsRenamed names piece q

  record RenamedIn (outer : Scope) (alts : Alts) (now : Scope) (q : FunctionPart) : Type 0 where
    scope : Scope
    names : Scope
    piece : FunctionPart
    has : HasAlts (equations_as_functions c) outer alts scope piece
    fits : Fits names scope now
    renamed : IsRenamed names piece q

  same_binders : (s : Scope) (g : List Bind) → binders_of (map (renamed_bind s) g) ≡ binders_of g
  same_binders s [] = refl
  same_binders s (b ∷ g) = ap (λ w. b.binder ∷ w) (same_binders s g)

  same_alts : (s : Scope) (alts : Alts) (i : ℕ) → alt_at (renamed_alts s alts) i ≡ alt_at alts i
  same_alts s NoAlts i = refl
  same_alts s (AndAlt p e alts) zero = refl
  same_alts s (AndAlt p e alts) (suc i) = same_alts s alts i

  mutual
    pub has_renamed : (s outer inner : Scope) (e : Expr) {now : Scope} {q : FunctionPart}
        → Fits s outer inner → Has (translated c) inner (renamed_expr s e) now q
        → Renamed outer e now q
    has_renamed s outer inner (App a) f TheApp = record
        { scope = outer; names = s; piece = AnApp a; has = TheApp; fits = f; renamed = refl }
    has_renamed s outer inner (Let g e) f TheGroup = record {
      scope = outer;
      names = s;
      piece = AGroup g;
      has = TheGroup;
      fits = f;
      renamed
          = same_binders (shadowing (binders_of g) s) g;
    }
    has_renamed s outer inner (Let g e) f (InMember {b = b} i at) =
        let bs : List Binder = binders_of g in
        let m = map_back (renamed_bind (shadowing bs s)) g i b at in
        record {
          scope = within (equations_as_functions c) bs outer;
          names = shadowing bs s;
          piece = AnApp m.0.app;
          has = InMember i m.1;
          fits = subst
              (λ ds. Fits (shadowing bs s) (within (equations_as_functions c) bs outer)
              (within (translated c) ds inner)) (sym (same_binders (shadowing bs s) g))
              (fits_within bs s outer inner f);
          renamed = sym (ap (λ (d : Bind). d.app) m.2);
        }
    has_renamed s outer inner (Let g e) {now = now} {q = q} f (InBody h) =
        let bs : List Binder = binders_of g in
        let w = has_renamed (shadowing bs s) (within (equations_as_functions c) bs outer)
        (within (translated c) bs inner) e (fits_within bs s outer inner f)
        (subst (λ ds. Has (translated c) (within (translated c) ds inner)
        (renamed_expr (shadowing bs s) e) now q) (same_binders (shadowing bs s) g) h) in
        record {
          scope = w.scope;
          names = w.names;
          piece = w.piece;
          has = InBody w.has;
          fits
              = w.fits;
          renamed = w.renamed;
        }
    has_renamed s outer inner (Case e alts) f TheAlts
        = record {
          scope = outer;
          names = s;
          piece = SomeAlts alts;
          has = TheAlts;
          fits = f;
          renamed
              = same_alts s alts;
        }
    has_renamed s outer inner (Case e alts) f (InTested h) =
        let w = has_renamed s outer inner e f h in
        record {
          scope = w.scope;
          names = w.names;
          piece = w.piece;
          has = InTested w.has;
          fits
              = w.fits;
          renamed = w.renamed;
        }
    has_renamed s outer inner (Case e alts) f (InAlts h) =
        let w = has_in_renamed s outer inner alts f h in
        record {
          scope = w.scope;
          names = w.names;
          piece = w.piece;
          has = InAlts w.has;
          fits
              = w.fits;
          renamed = w.renamed;
        }

    has_in_renamed : (s outer inner : Scope) (alts : Alts) {now : Scope} {q : FunctionPart}
        → Fits s outer inner → HasAlts (translated c) inner (renamed_alts s alts) now q
        → RenamedIn outer alts now q
    has_in_renamed s outer inner NoAlts f h = elim h [ ]
    has_in_renamed s outer inner (AndAlt p e alts) f (InThis h) =
        let bs : List Binder = bound_by p in
        let w = has_renamed (shadowing bs s) (within (equations_as_functions c) bs outer)
        (within (translated c) bs inner) e (fits_within bs s outer inner f) h in
        record {
          scope = w.scope;
          names = w.names;
          piece = w.piece;
          has = InThis w.has;
          fits
              = w.fits;
          renamed = w.renamed;
        }
    has_in_renamed s outer inner (AndAlt p e alts) f (InLater h) =
        let w = has_in_renamed s outer inner alts f h in
        record {
          scope = w.scope;
          names = w.names;
          piece = w.piece;
          has = InLater w.has;
          fits
              = w.fits;
          renamed = w.renamed;
        }

-- ---- heads and applications

pub renamed_count : (s : Scope) (ts : Terms) → count (renamed_terms s ts) ≡ count ts
renamed_count s NoTerms = refl
renamed_count s (AndTerm t ts) = ap (λ n. n + 1) (renamed_count s ts)

record AmongBefore (s : Scope) (t : Term) (ts : Terms) : Type 0 where
  term : Term
  among : IsTermAmong term ts
  is : t ≡ renamed_term s term

among_renamed : (s : Scope) {t : Term} (ts : Terms) → IsTermAmong t (renamed_terms s ts)
    → AmongBefore s t ts
among_renamed s NoTerms h = elim h [ ]
among_renamed s (AndTerm a ts) First = record { term = a; among = First; is = refl }
among_renamed s (AndTerm a ts) (Later h) = let r = among_renamed s ts h
    in record { term = r.term; among = Later r.among; is = r.is }

pub record StandsBefore (s : Scope) (h : Term) (head : Term) (args : Terms) (k : ℕ) : Type 0 where
  pub term : Term
  pub stands : HeadIsApplied head args term k
  pub is : h ≡ renamed_term s term

stands_name : (s : Scope) (head : Term) (args : Terms) {x at : ℕ} (n : ℕ)
    → Name x at ≡ renamed_term s head → n ≡ count args → StandsBefore s (Name x at) head args n
stands_name s (Name y b) args n e q = record {
  term = Name y b;
  stands = subst (HeadIsApplied (Name y b) args (Name y b)) (sym q) AsName;
  is
      = e;
}
stands_name s (Con y b) args n e q = absurd cc
stands_name s (Int k b) args n e q = absurd cc
stands_name s (Bracket g ts b) args n e q = absurd cc

stands_con : (s : Scope) (head : Term) (args : Terms) {x at : ℕ} (n : ℕ)
    → Con x at ≡ renamed_term s head → n ≡ count args → StandsBefore s (Con x at) head args n
stands_con s (Name y b) args n e q = absurd cc
stands_con s (Con y b) args n e q = record {
  term = Con y b;
  stands = subst (HeadIsApplied (Con y b) args (Con y b)) (sym q) AsCon;
  is
      = e;
}
stands_con s (Int k b) args n e q = absurd cc
stands_con s (Bracket g ts b) args n e q = absurd cc

-- a bracket was one before
record BracketBefore (s : Scope) (head : Term) (args : Terms) (t : Term) : Type 0 where
  first : Term
  others : Terms
  place : ℕ
  is : t ≡ Bracket first others place
  head_is : head ≡ renamed_term s first
  args_are : args ≡ renamed_terms s others

bracket_before : (s : Scope) (head : Term) (args : Terms) (at : ℕ) (t : Term)
    → Bracket head args at ≡ renamed_term s t → BracketBefore s head args t
bracket_before s head args at (Name y b) e = absurd cc
bracket_before s head args at (Con y b) e = absurd cc
bracket_before s head args at (Int k b) e = absurd cc
bracket_before s head args at (Bracket f ts b) e = record
    { first = f; others = ts; place = b; is = refl; head_is = cc; args_are = cc }

none_before : (s : Scope) (ts : Terms) → NoTerms ≡ renamed_terms s ts → ts ≡ NoTerms
none_before s NoTerms e = refl
none_before s (AndTerm t ts) e = absurd cc

record SomeBefore (ts : Terms) : Type 0 where
  first : Term
  others : Terms
  is : ts ≡ AndTerm first others

some_before : (s : Scope) (ts : Terms) (a : Term) (as' : Terms) → AndTerm a as' ≡ renamed_terms s ts
    → SomeBefore ts
some_before s NoTerms a as' e = absurd cc
some_before s (AndTerm t ts) a as' e = record { first = t; others = ts; is = refl }

pub stands_renamed : (s : Scope) (head : Term) (args : Terms) {h g : Term} {as' : Terms} {k : ℕ}
    → HeadIsApplied h as' g k → h ≡ renamed_term s head → as' ≡ renamed_terms s args
    → StandsBefore s g head args k
stands_renamed s head args (AsName {args = as'}) e f
    = stands_name s head args (count as') e (ap count f ∙ renamed_count s args)
stands_renamed s head args (AsCon {args = as'}) e f
    = stands_con s head args (count as') e (ap count f ∙ renamed_count s args)
stands_renamed s head args {k = k} (LoneHead {head = h} {at = at} st) e f =
    let b = bracket_before s h NoTerms at head e in
    let r = stands_renamed s b.first args st b.head_is f in
    let is : head ≡ Bracket b.first NoTerms b.place
    = b.is ∙ ap (λ ts. Bracket b.first ts b.place) (none_before s b.others b.args_are) in
    record {
      term = r.term;
      stands = subst (λ w. HeadIsApplied w args r.term k) (sym is)
          (LoneHead r.stands);
      is = r.is;
    }
stands_renamed s head args {k = k} (LoneBracket {head = h} {a = a} {as' = as'} {at = at} st) e f =
    let b = bracket_before s h (AndTerm a as') at head e in
    let m = some_before s b.others a as' b.args_are in
    let r = stands_renamed s b.first b.others st b.head_is b.args_are in
    let is : head ≡ Bracket b.first (AndTerm m.first m.others) b.place
    = b.is ∙ ap (λ ts. Bracket b.first ts b.place) m.is in
    record {
      term = r.term;
      stands = subst (λ ts. HeadIsApplied head ts r.term k) (sym (none_before s args f))
          (subst (λ w. HeadIsApplied w NoTerms r.term k) (sym is)
          (LoneBracket (subst (λ ts. HeadIsApplied b.first ts r.term k) m.is r.stands)));
      is = r.is;
    }
stands_renamed s head args {k = k}
    (InHead {head = h} {a = a} {b = d} {as' = as'} {bs = ds} {at = at} st) e f =
    let b = bracket_before s h (AndTerm a as') at head e in
    let m = some_before s b.others a as' b.args_are in
    let n = some_before s args d ds f in
    let r = stands_renamed s b.first b.others st b.head_is b.args_are in
    let is : head ≡ Bracket b.first (AndTerm m.first m.others) b.place
    = b.is ∙ ap (λ ts. Bracket b.first ts b.place) m.is in
    record {
      term = r.term;
      stands = subst (λ ts. HeadIsApplied head ts r.term k) (sym n.is)
          (subst (λ w. HeadIsApplied w (AndTerm n.first n.others) r.term k) (sym is)
          (InHead (subst (λ ts. HeadIsApplied b.first ts r.term k) m.is r.stands)));
      is = r.is;
    }
stands_renamed s head args (InArgument {a = a} among st) e f =
    let m = among_renamed s args (subst (IsTermAmong a) f among) in
    let r = stands_renamed s m.term NoTerms st m.is refl in
    record { term = r.term; stands = InArgument m.among r.stands; is = r.is }

pub record ContainsBefore (s : Scope) (inner app : Application) : Type 0 where
  pub before : Application
  pub contains : Contains app before
  pub is : inner ≡ renamed_app s before

pub contains_renamed : (s : Scope) (app : Application) {a inner : Application} → Contains a inner
    → a ≡ renamed_app s app → ContainsBefore s inner app
contains_renamed s app Whole e = record { before = app; contains = Whole; is = e }
contains_renamed s app (InItsHead {head = h} {args = as'} {at = at} q st) e =
    let b = bracket_before s h as' at app.head (sym q ∙ ap (λ (w : Application). w.head) e) in
    let r = contains_renamed s (record { head = b.first; args = b.others }) st
    (λ i. record { head = b.head_is i; args = b.args_are i }) in
    record { before = r.before; contains = InItsHead b.is r.contains; is = r.is }
contains_renamed s app (InItsArgs {head = h} {args = as'} {at = at} among st) e =
    let m = among_renamed s app.args
    (subst (IsTermAmong (Bracket h as' at)) (ap (λ (w : Application). w.args) e) among) in
    let b = bracket_before s h as' at m.term m.is in
    let r = contains_renamed s (record { head = b.first; args = b.others }) st
    (λ i. record { head = b.head_is i; args = b.args_are i }) in
    record {
      before = r.before;
      contains = InItsArgs
          (subst (λ t. IsTermAmong t app.args) b.is m.among) r.contains;
      is = r.is;
    }

-- ---- names that were read

among_readable : (names : List (List ℕ)) {t : Term} {ts : Terms} → IsTermAmong t ts
    → ReadableTerms names ts → ReadableTerm names t
among_readable names First h = h.0
among_readable names (Later a) h = among_readable names a h.1

pub stands_readable : (names : List (List ℕ)) {head g : Term} {args : Terms} {k : ℕ}
    → HeadIsApplied head args g k → ReadableTerm names head → ReadableTerms names args
    → ReadableTerm names g
stands_readable names AsName h a = h
stands_readable names AsCon h a = h
stands_readable names (LoneHead st) h a = stands_readable names st h.0 a
stands_readable names (LoneBracket st) h a = stands_readable names st h.0 h.1
stands_readable names (InHead st) h a = stands_readable names st h.0 h.1
stands_readable names (InArgument among st) h a = stands_readable names st
    (among_readable names among a) tt

abbrev pub ReadablePiece : List (List ℕ) → FunctionPart → Type 0
ReadablePiece names (AnApp a) = ReadableApp names a
ReadablePiece names (AGroup g) = Unit {0}
ReadablePiece names (SomeAlts alts) = Unit {0}

all_at : {X : Type 0} (P : X → Type 0) (xs : List X) (i : ℕ) (x : X) → All P xs
    → slice_get xs i ≡ Some x → P x
all_at P xs i x h e = subst P (index_is xs i x x e) (h i x (get_within xs i x e))
  where
    index_is : {X : Type 0} (xs : List X) (i : ℕ) (x d : X) → slice_get xs i ≡ Some x
        → slice_index_or xs i d ≡ x
    index_is [] i x d e = absurd cc
    index_is (y ∷ xs) zero x d e = some_is e
    index_is (y ∷ xs) (suc i) x d e = index_is xs i x d e

mutual
  pub has_readable : (names : List (List ℕ)) (p : Program) {s t : Scope} {e : Expr}
      {q : FunctionPart} → Has p s e t q → ReadableExpr names e → ReadablePiece names q
  has_readable names p TheApp r = r
  has_readable names p TheGroup r = tt
  has_readable names p (InMember {group = group} {b = b} i at) r
      = (all_at (ReadableBind names) group i b r.1 at).1
  has_readable names p (InBody h) r = has_readable names p h r.2
  has_readable names p TheAlts r = tt
  has_readable names p (InTested h) r = has_readable names p h r.1
  has_readable names p (InAlts h) r = has_in_readable names p h r.2

  has_in_readable : (names : List (List ℕ)) (p : Program) {s t : Scope} {alts : Alts}
      {q : FunctionPart} → HasAlts p s alts t q → ReadableAlts names alts → ReadablePiece names q
  has_in_readable names p (InThis h) r = has_readable names p h r.1
  has_in_readable names p (InLater h) r = has_in_readable names p h r.2

-- ---- what a name stands for

means_is : (p : Program) (s : Scope) (x : ℕ) (m : Meaning) → is_named p (codes "_") x ≡ false
    → primitive_from p primitives x ≡ m → means p s x ≡ unless_primitive m (found_in p s x)
means_is p s x m e f = λ i. if e i then stands.Unbound else unless_primitive (f i) (found_in p s x)

module _ (c : Source) where
  -- it stands for something, and a primitive with two arguments
  pub record Fair (now : Scope) (y k : ℕ) : Type 0 where
    pub bound : means (translated c) now y ≡ stands.Unbound → ⊥
    pub two : (op : PrimOp) → means (translated c) now y ≡ stands.Primitive op → k ≢ 2 → ⊥

  -- a name that stands for no primitive
  pub found_fair : (now : Scope) (y k : ℕ) → is_named (translated c) (codes "_") y ≡ false
      → primitive_from (translated c) primitives y ≡ stands.Unbound
      → (found_in (translated c) now y ≡ stands.Unbound → ⊥) → Fair now y k
  found_fair now y k e f g =
      let is = means_is (translated c) now y stands.Unbound e f in
      record {
        bound = λ h. g (sym is ∙ h);
        two = λ op h n. never_operation (translated c) now y op
            (sym is ∙ h);
      }

  -- a new name in scope
  pub new_fair : (now : Scope) (y k : ℕ) → length (with_nameless c.names) ≤ y
      → is_local now y ≡ true → Fair now y k
  new_fair now y k le l = found_fair now y k (new_named c y le) (new_primitive c y le)
      (found_local (translated c) now y l)

  primitive_or : (qs : List (List ℕ × PrimOp)) (x : ℕ) (w : List ℕ) → slice_get c.names x ≡ Some w
      → ((is_primitive qs w ≡ true) ×
      ((op : PrimOp) × (primitive_from (equations_as_functions c) qs x ≡ stands.Primitive op)))
      ⊎ ((is_primitive qs w ≡ false) ×
      (primitive_from (equations_as_functions c) qs x ≡ stands.Unbound))
  primitive_or [] x w e = inr (refl, refl)
  primitive_or (q ∷ qs) x w e = go (bytes_eq w q.0)
      (named_by c (equations_as_functions c) q.0 w x (spread_text c x e)) (primitive_or qs x w e)
    where
      go : (b : Bool) → is_named (equations_as_functions c) q.0 x ≡ b
          → ((is_primitive qs w ≡ true) ×
          ((op : PrimOp) × (primitive_from (equations_as_functions c) qs x ≡ stands.Primitive op)))
          ⊎ ((is_primitive qs w ≡ false) ×
          (primitive_from (equations_as_functions c) qs x ≡ stands.Unbound))
          → (((b || is_primitive qs w) ≡ true) ×
          ((op : PrimOp) ×
          (primitive_from (equations_as_functions c) (q ∷ qs) x ≡ stands.Primitive op)))
          ⊎ (((b || is_primitive qs w) ≡ false)
          × (primitive_from (equations_as_functions c) (q ∷ qs) x ≡ stands.Unbound))
      go true h r = inl (
        refl,
        (
          q.1,
          ap
              (λ t. if t then stands.Primitive q.1 else primitive_from (equations_as_functions c) qs
              x)
              h,
        ),
      )
      go false h r =
          let same : primitive_from (equations_as_functions c) (q ∷ qs) x ≡ primitive_from
          (equations_as_functions c) qs x = ap
          (λ t. if t then stands.Primitive q.1 else primitive_from (equations_as_functions c) qs
          x) h in
          ⊎_elim (λ l. inl (l.0, (l.1.0, same ∙ l.1.1))) (λ m. inr (m.0, same ∙ m.1)) r

  -- a name of a body stands for what it should where it does in the body as it was
  pub fair_renamed : (s outer now : Scope) (x k : ℕ) → IsNamed c.names x → Fits c s outer now
      → (means (equations_as_functions c) outer x ≡ stands.Unbound → ⊥)
      → ((op : PrimOp) → means (equations_as_functions c) outer x ≡ stands.Primitive op → k ≢ 2 → ⊥)
      → ((function_from (equations_as_functions c) (equations_as_functions c).functions 0 x ≡
      stands.Unbound → ⊥) → function_from (translated c) (translated c).functions 0 x ≡
      stands.Unbound → ⊥) → Fair now (renamed_name s x) k
  fair_renamed s outer now x k r f bound two global
      = go (two_ways (is_named (equations_as_functions c) (codes "_") x))
      (primitive_or primitives x r.0 r.1)
    where
      w : List ℕ
      w = r.0

      kept_is : keeps (name_supply_of c) x ≡ is_kept w
      kept_is = ap (λ o. is_kept (or_empty o)) r.1

      nameless_is : is_named (equations_as_functions c) (codes "_") x ≡ is_nameless w
      nameless_is = named_by c (equations_as_functions c) (codes "_") w x (spread_text c x r.1)

      kept_by : (a b : Bool) → is_nameless w ≡ a → is_primitive primitives w ≡ b
          → keeps (name_supply_of c) x ≡ (a || b)
      kept_by a b e g = kept_is ∙ (λ i. e i || g i)

      nothing : is_named (equations_as_functions c) (codes "_") x ≡ true
          → means (equations_as_functions c) outer x ≡ stands.Unbound
      nothing e = ap
          (λ t. if t then stands.Unbound else unless_primitive
          (primitive_from (equations_as_functions c) primitives x)
          (found_in (equations_as_functions c) outer x)) e

      as_itself : is_named (equations_as_functions c) (codes "_") x ≡ false → (y : ℕ) → y ≡ x
          → is_named (translated c) (codes "_") y ≡ false
      as_itself e y q = ap (is_named (translated c) (codes "_")) q ∙ old_named c (codes "_") w x r.1
          ∙ e

      plain_fair : is_named (equations_as_functions c) (codes "_") x ≡ false
          → primitive_from (equations_as_functions c) primitives x ≡ stands.Unbound
          → Becomes c x s outer now → Fair now (renamed_name s x) k
      plain_fair e g b =
          let is = means_is (equations_as_functions c) outer x stands.Unbound e g in
          let known : found_in (equations_as_functions c) outer x ≡ stands.Unbound → ⊥
          = λ h. bound (is ∙ h) in
          elim b.either [
            | inr n ↦ new_fair now (renamed_name s x) k n.0 n.1
            | inl same ↦
                let named : is_named (translated c) (codes "_") (renamed_name s x) ≡ false
                = as_itself e (renamed_name s x) same in
                let prim : primitive_from (translated c) primitives (renamed_name s x) ≡
                stands.Unbound = ap (primitive_from (translated c) primitives) same ∙
                same_primitive c x ∙ g in
                found_fair now (renamed_name s x) k named prim
                (⊎_elim (λ l. found_local (translated c) now (renamed_name s x) (b.local l))
                (λ m. found_global (translated c) now (renamed_name s x)
                (λ h. global m
                (ap (function_from (translated c) (translated c).functions 0) (sym same) ∙ h)))
                (found_either (equations_as_functions c) outer x known))
          ]

      go : (is_named (equations_as_functions c) (codes "_") x ≡ true)
          ⊎ (is_named (equations_as_functions c) (codes "_") x ≡ false)
          → ((is_primitive primitives w ≡ true) ×
          ((op : PrimOp) ×
          (primitive_from (equations_as_functions c) primitives x ≡ stands.Primitive op)))
          ⊎ ((is_primitive primitives w ≡ false)
          × (primitive_from (equations_as_functions c) primitives x ≡ stands.Unbound))
          → Fair now (renamed_name s x) k
      go (inl e) p = absurd (bound (nothing e))
      go (inr e) (inl p) =
          let same : renamed_name s x ≡ x = f.kept x (kept_by false true (sym nameless_is ∙ e) p.0)
          in
          let is = means_is (translated c) now (renamed_name s x) (stands.Primitive p.1.0)
          (as_itself e (renamed_name s x) same)
          (ap (primitive_from (translated c) primitives) same ∙ same_primitive c x ∙ p.1.1) in
          let was = means_is (equations_as_functions c) outer x (stands.Primitive p.1.0) e p.1.1 in
          record {
            bound = λ h. different (sym is ∙ h);
            two = λ op h n. two p.1.0 was n;
          }
        where
          different : {op : PrimOp} → stands.Primitive op ≡ stands.Unbound → ⊥
          different e = absurd cc
      go (inr e) (inr p) = plain_fair e p.1
          (f.other x
          (record {
            text = w;
            is = r.1;
            free = kept_by false false (sym nameless_is ∙ e) p.0;
            named
                = e;
          }))
