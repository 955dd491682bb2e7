-- Names of a linked program that are no primitive's.
use Rattle.std.proofs.Common.{◌≡◌, ℕ, ◌+◌, length, Bool, true, false, List, [], ◌∷◌, ◌++◌, refl, sym, ap, subst, ◌∙◌, Some, None, ◌⊎◌, inl, inr}
use Rattle.std.specs.Prelude.{◌≢◌, codes, ◌==◌, slice_get, if◌then◌else◌}
use Rattle.std.specs.Str.{bytes_eq}
use Rattle.std.proofs.lemmas.Slice.Eq.{bytes_eq-Decides}
use Rattle.seq.proofs.Truth.{not_both}
use Rattle.core_reader.specs.Tree.{Program}
use Rattle.core_reader.specs.Tree as tree
use Rattle.arity_check.specs.declared.normal.PrimOp.{PrimOp}
use Rattle.arity_check.specs.declared.meaning.Meaning.{Meaning}
use Rattle.arity_check.specs.declared.meaning.Meaning.TheVariants.{Local, Function, Primitive, Unbound}
use Rattle.arity_check.specs.Scope.{Scope, is_named, primitives, primitive_from, function_from, found_in, means, unless_primitive}
use Rattle.core_link.specs.Union.{global_text, local_text}
use Rattle.core_link.proofs.Different.{IsPlain, GlobalIs, Kept, Cut, global_is, LocalIs, Nameless, Quoted, local_is, plain_quote, nameless_quote}

pub other_bytes : (v w : List ℕ) → v ≢ w → bytes_eq v w ≡ false
other_bytes v w h = go (bytes_eq v w) refl
  where
    go : (b : Bool) → bytes_eq v w ≡ b → b ≡ false
    go true e = absurd (h ((bytes_eq-Decides v w).0 e))
    go false e = refl

apart : (v w : List ℕ) → bytes_eq v w ≡ false → v ≢ w
apart v w h e = not_both (bytes_eq v w) ((bytes_eq-Decides v w).1 e) h

-- a text that is none of these
abbrev pub IsNone : List ℕ → List (List ℕ × PrimOp) → Type 0
IsNone v [] = Unit {0}
IsNone v (q ∷ qs) = (v ≢ q.0) × IsNone v qs

-- a text that is neither `_` nor a primitive's
pub record IsClear (v : List ℕ) : Type 0 where
  pub nameless : v ≢ codes "_"
  pub primitive : IsNone v primitives

main_clear : IsClear (codes "main")
main_clear = record {
  nameless = apart (codes "main") (codes "_") refl;
  primitive
      = (
        apart (codes "main") (codes "add") refl,
        (
          apart (codes "main") (codes "sub") refl,
          (
            apart (codes "main") (codes "mul") refl,
            (
              apart (codes "main") (codes "quot") refl,
              (
                apart (codes "main") (codes "rem") refl,
                (apart (codes "main") (codes "eq") refl, (apart (codes "main") (codes "lt") refl, tt)),
              ),
            ),
          ),
        ),
      );
}

-- plain texts, as those of the primitives
abbrev ArePlain : List (List ℕ × PrimOp) → Type 0
ArePlain [] = Unit {0}
ArePlain (q ∷ qs) = IsPlain q.0 × ArePlain qs

quoted_none : (f rest : List ℕ) (qs : List (List ℕ × PrimOp)) → ArePlain qs
    → IsNone (f ++ 39 ∷ rest) qs
quoted_none f rest [] h = tt
quoted_none f rest (q ∷ qs) h = (λ e. plain_quote q.0 f rest h.0 (sym e), quoted_none f rest qs h.1)

quoted_clear : (f rest : List ℕ) → IsClear (f ++ 39 ∷ rest)
quoted_clear f rest = record {
  nameless = λ e. nameless_quote f rest (sym e);
  primitive
      = quoted_none f rest primitives (refl, (refl, (refl, (refl, (refl, (refl, (refl, tt)))))));
}

pub global_clear : (f n : List ℕ) → IsClear (global_text f n)
global_clear f n = go (global_is f n)
  where
    go : GlobalIs f n (global_text f n) → IsClear (global_text f n)
    go (Kept a b e) = subst IsClear (sym (e ∙ a)) main_clear
    go (Cut e) = subst IsClear (sym e) (quoted_clear f n)

pub local_clear : (x : List ℕ) → x ≢ codes "_" → IsClear (local_text x)
local_clear x h = go (local_is x)
  where
    go : LocalIs x (local_text x) → IsClear (local_text x)
    go (Nameless a e) = absurd (h a)
    go (Quoted e) = subst IsClear (sym e) (quoted_clear x [])

-- a local's name is no primitive's
pub local_none : (x : List ℕ) → IsNone (local_text x) primitives
local_none x = go (local_is x)
  where
    nameless : IsNone (codes "_") primitives
    nameless = (
      apart (codes "_") (codes "add") refl,
      (
        apart (codes "_") (codes "sub") refl,
        (
          apart (codes "_") (codes "mul") refl,
          (
            apart (codes "_") (codes "quot") refl,
            (
              apart (codes "_") (codes "rem") refl,
              (apart (codes "_") (codes "eq") refl, (apart (codes "_") (codes "lt") refl, tt)),
            ),
          ),
        ),
      ),
    )

    go : LocalIs x (local_text x) → IsNone (local_text x) primitives
    go (Nameless a e) = subst (λ v. IsNone v primitives) (sym (e ∙ a)) nameless
    go (Quoted e) = subst (λ v. IsNone v primitives) (sym e) (quoted_clear x []).primitive

-- ---- what a name of a program stands for

module _ (p : Program) where
  pub named_at : (x : ℕ) (v w : List ℕ) → slice_get p.names x ≡ Some v
      → is_named p w x ≡ bytes_eq v w
  named_at x v w e = ap (λ o. elim o [ Some b ↦ bytes_eq b w | None ↦ false ]) e

  pub none_primitive : (x : ℕ) (v : List ℕ) → slice_get p.names x ≡ Some v
      → (qs : List (List ℕ × PrimOp)) → IsNone v qs → primitive_from p qs x ≡ Unbound
  none_primitive x v e [] h = refl
  none_primitive x v e (q ∷ qs) h = ap (λ b. if b then Primitive q.1 else primitive_from p qs x)
      (named_at x v q.0 e ∙ other_bytes v q.0 h.0) ∙ none_primitive x v e qs h.1

  -- such a name stands for what is found in scope
  pub clear_means : (s : Scope) (x : ℕ) (v : List ℕ) → slice_get p.names x ≡ Some v → IsClear v
      → means p s x ≡ found_in p s x
  clear_means s x v e h =
      ap (λ b. if b then Unbound else unless_primitive (primitive_from p primitives x)
      (found_in p s x)) (named_at x v (codes "_") e ∙ other_bytes v (codes "_") h.nameless)
      ∙ ap (λ m. unless_primitive m (found_in p s x)) (none_primitive x v e primitives h.primitive)

  no_function : (fs : List tree.Function) (f x : ℕ) (op : PrimOp)
      → function_from p fs f x ≡ Primitive op → ⊥
  no_function [] f x op e = cc
  no_function (g ∷ gs) f x op e = go (g.name == x) (no_function gs (f + 1) x op) e
    where
      go : (b : Bool) → (function_from p gs (f + 1) x ≡ Primitive op → ⊥)
          → (if b then Function f (length g.params) else function_from p gs (f + 1) x) ≡ Primitive
          op → ⊥
      go true rest e = cc
      go false rest e = rest e

  none_found : (s : Scope) (x : ℕ) (op : PrimOp) → found_in p s x ≡ Primitive op → ⊥
  none_found [] x op e = no_function p.functions 0 x op e
  none_found (b ∷ s) x op e = go (b.0 == x) (none_found s x op) e
    where
      go : (c : Bool) → (found_in p s x ≡ Primitive op → ⊥)
          → (if c then Local b.1 else found_in p s x) ≡ Primitive op → ⊥
      go true rest e = cc
      go false rest e = rest e

  -- the name is neither `_` nor a primitive's, and this is found for it
  abbrev pub IsPlainly : Scope → ℕ → Meaning → Type 0
  IsPlainly s x o = (is_named p (codes "_") x ≡ false) × (primitive_from p primitives x ≡ Unbound)
      × (found_in p s x ≡ o)

  pub plainly_means : (s : Scope) (x : ℕ) (o : Meaning) → IsPlainly s x o → means p s x ≡ o
  plainly_means s x o h =
      ap (λ b. if b then Unbound else unless_primitive (primitive_from p primitives x)
      (found_in p s x)) h.0
      ∙ ap (λ m. unless_primitive m (found_in p s x)) h.1 ∙ h.2

  pub nameless_means : (s : Scope) (x : ℕ) → is_named p (codes "_") x ≡ true → means p s x ≡ Unbound
  nameless_means s x h = ap
      (λ b. if b then Unbound else unless_primitive (primitive_from p primitives x)
      (found_in p s x)) h

  pub primitive_means : (s : Scope) (x : ℕ) (op : PrimOp) → is_named p (codes "_") x ≡ false
      → primitive_from p primitives x ≡ Primitive op → means p s x ≡ Primitive op
  primitive_means s x op h e =
      ap (λ b. if b then Unbound else unless_primitive (primitive_from p primitives x)
      (found_in p s x)) h
      ∙ ap (λ m. unless_primitive m (found_in p s x)) e

  -- what a name stands for, by whether it is `_`, and by whether it is a primitive's
  abbrev pub Means : Scope → ℕ → Meaning → Type 0
  Means s x (Local y) = IsPlainly s x (Local y)
  Means s x (Function g params) = IsPlainly s x (Function g params)
  Means s x (Primitive op) = (is_named p (codes "_") x ≡ false)
      × (primitive_from p primitives x ≡ Primitive op)
  Means s x Unbound = (is_named p (codes "_") x ≡ true) ⊎ IsPlainly s x Unbound

  -- a primitive's name stands for it whatever else there is
  is_only : (qs : List (List ℕ × PrimOp)) (x : ℕ) → (primitive_from p qs x ≡ Unbound)
      ⊎ ((op : PrimOp) × (primitive_from p qs x ≡ Primitive op))
  is_only [] x = inl refl
  is_only (q ∷ qs) x = go (is_named p q.0 x) (is_only qs x)
    where
      go : (b : Bool) → (primitive_from p qs x ≡ Unbound)
          ⊎ ((op : PrimOp) × (primitive_from p qs x ≡ Primitive op))
          → ((if b then Primitive q.1 else primitive_from p qs x) ≡ Unbound)
          ⊎ ((op : PrimOp) ×
          ((if b then Primitive q.1 else primitive_from p qs x) ≡ Primitive op))
      go true h = inr (q.1, refl)
      go false h = h

  pub meant : (s : Scope) (x : ℕ) (o : Meaning) → means p s x ≡ o → Means s x o
  meant s x o e = go (is_named p (codes "_") x) refl (is_only primitives x) o e
    where
      primitive : (op : PrimOp) → primitive_from p primitives x ≡ Primitive op
          → is_named p (codes "_") x ≡ false → (o : Meaning) → Primitive op ≡ o → Means s x o
      primitive op h n (Local y) e = absurd cc
      primitive op h n (Function g params) e = absurd cc
      primitive op h n (Primitive op') e = (n, h ∙ e)
      primitive op h n Unbound e = absurd cc

      plain : is_named p (codes "_") x ≡ false → (o : Meaning)
          → primitive_from p primitives x ≡ Unbound → found_in p s x ≡ o → Means s x o
      plain n (Local y) h e = (n, h, e)
      plain n (Function g params) h e = (n, h, e)
      plain n (Primitive op) h e = absurd (none_found s x op e)
      plain n Unbound h e = inr (n, h, e)

      go : (b : Bool) → is_named p (codes "_") x ≡ b → (primitive_from p primitives x ≡ Unbound)
          ⊎ ((op : PrimOp) × (primitive_from p primitives x ≡ Primitive op)) → (o : Meaning)
          → (if b then Unbound else unless_primitive (primitive_from p primitives x)
          (found_in p s x)) ≡ o → Means s x o
      go true n h (Local y) e = absurd cc
      go true n h (Function g params) e = absurd cc
      go true n h (Primitive op) e = absurd cc
      go true n h Unbound e = inl n
      go false n (inl h) o e = plain n o h
          (sym (ap (λ m. unless_primitive m (found_in p s x)) h) ∙ e)
      go false n (inr h) o e = primitive h.0 h.1 n o
          (sym (ap (λ m. unless_primitive m (found_in p s x)) h.1) ∙ e)

-- names of one text stand for one primitive
pub same_primitive : (p q : Program) (x y : ℕ) → slice_get p.names x ≡ slice_get q.names y
    → (qs : List (List ℕ × PrimOp)) → primitive_from p qs x ≡ primitive_from q qs y
same_primitive p q x y e [] = refl
same_primitive p q x y e (r ∷ qs) = λ i. if (elim (e i) [ Some b ↦ bytes_eq b r.0 | None ↦ false ])
    then Primitive r.1 else same_primitive p q x y e qs i
