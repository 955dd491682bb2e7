-- Modules of texts that break no rule can be joined.
use Rattle.std.proofs.Common.{◌≡◌, ℕ, zero, suc, ◌<◌, cond, List, [], ◌∷◌, map, refl, sym, ap, subst, ◌∙◌, arith, Option, Some, None, inl, inr}
use Rattle.std.specs.Prelude.{◌≢◌, All, slice_get}
use Rattle.std.specs.Str.{bytes_eq}
use Rattle.std.specs.List.{AllZip}
use Rattle.std.proofs.lemmas.List.Elements.{All-nil, All-cons}
use Rattle.seq.specs.Lists.{AllOf}
use Rattle.seq.proofs.Truth.{two_ways}
use Rattle.core_reader.specs.Different.{AreDistinct}
use Rattle.core_reader.specs.Readable.{IsReadable}
use Rattle.arity_check.proofs.Names.{same_bytes}
use Rattle.core_link.specs.Module.{Module, IsModuleText, body, name_of, text_in}
use Rattle.core_link.specs.Joinable.{IsPlain, NamesPlainly, IsLinkable, AreLinkable}
use Rattle.core_link.specs.Rules.{Files, OfFiles, IsUnbroken, module_named, source, DuplicateModule, UnknownModule}
use Rattle.core_link.proofs.Homes.{map_back}
use Rattle.core_link.proofs.PlainNames.{plain_name}

-- ---- lists

all_apart : (w : List ℕ) (ws : List (List ℕ)) →
    ((i : ℕ) (v : List ℕ) → slice_get ws i ≡ Some v → v ≢ w) → All (λ v. v ≢ w) ws
all_apart w [] h = All-nil (λ v. v ≢ w)
all_apart w (v ∷ ws) h = All-cons (λ u. u ≢ w) v ws (h zero v refl)
    (all_apart w ws (λ i u e. h (suc i) u e))

different_by : (ws : List (List ℕ)) →
    ((i j : ℕ) (w v : List ℕ) → j < i → slice_get ws i ≡ Some w → slice_get ws j ≡ Some v → v ≢ w)
    → AreDistinct ws
different_by [] h = tt
different_by (w ∷ ws) h = (
  all_apart w ws (λ i v e s. h (suc i) zero v w (omega arith) e refl (sym s)),
  different_by ws (λ i j a b l e f. h (suc i) (suc j) a b (omega (arith, l)) e f),
)

each_of : {X : Type 0} (P : X → Type 0) (xs : List X)
    → ((i : ℕ) (x : X) → slice_get xs i ≡ Some x → P x) → AllOf P xs
each_of P [] h = tt
each_of P (x ∷ xs) h = (h zero x refl, each_of P xs (λ i y e. h (suc i) y e))

-- ---- the modules of texts

module _ (texts : List (List ℕ)) (ms : List Module) (read : AllZip IsModuleText texts ms)
    (unbroken : IsUnbroken texts) where
  each_plain : (texts : List (List ℕ)) (ms : List Module) → AllZip IsModuleText texts ms
      → (i : ℕ) (m : Module) → slice_get ms i ≡ Some m → IsPlain (name_of m)
  each_plain [] [] h i m e = absurd cc
  each_plain [] (n ∷ ms) h i m e = absurd h
  each_plain (t ∷ ts) [] h i m e = absurd h
  each_plain (t ∷ ts) (n ∷ ms) h zero m e = let same : n ≡ m = cc
      in plain_name t m (subst (IsModuleText t) same h.0)
  each_plain (t ∷ ts) (n ∷ ms) h (suc i) m e = each_plain ts ms h.1 i m e

  names_differ : AreDistinct (map name_of ms)
  names_differ = different_by (map name_of ms)
      (λ i j w v l e f s. apart i j w v l (map_back name_of ms i w e) (map_back name_of ms j v f) s)
    where
      apart : (i j : ℕ) (w v : List ℕ) → j < i → (m : Module) × (slice_get ms i ≡ Some m)
          × (name_of m ≡ w) → (m : Module) × (slice_get ms j ≡ Some m) × (name_of m ≡ v) → v ≢ w
      apart i j w v l a b s = unbroken Files 52 i a.0.name.at
          (OfFiles ms read (DuplicateModule a.1 b.1 l (b.2 ∙ s ∙ sym a.2)))

  -- what is found among modules is one of them, and has the name
  found_plain : (all : List Module) →
      ((i : ℕ) (m : Module) → slice_get all i ≡ Some m → IsPlain (name_of m))
      → (name : List ℕ) (o : Option Module) → module_named all name ≡ o → (o ≡ None → ⊥)
      → IsPlain name
  found_plain [] p name o e n = absurd (n (sym e))
  found_plain (m ∷ all) p name o e n = elim (two_ways (bytes_eq (name_of m) name)) [
    | inl y ↦ subst IsPlain (same_bytes (name_of m) name y) (p zero m refl)
    | inr f ↦ found_plain all (λ i m e. p (suc i) m e) name o
        (sym (ap (λ b. cond b (Some m) (module_named all name)) f) ∙ e) n
  ]

  sources_plain : (i : ℕ) (m : Module) → slice_get ms i ≡ Some m → AllOf (NamesPlainly m) m.imports
  sources_plain i m e = each_of (NamesPlainly m) m.imports
      (λ n x f. found_plain ms (each_plain texts ms read) (text_in m x.from.name.0)
      (source ms m x.from) refl
      (λ none. unbroken Files 53 i x.from.at (OfFiles ms read (UnknownModule n e f none))))

  pub joinable : AllOf (λ (m : Module). IsReadable (body m)) ms → AreLinkable ms
  joinable readable = record {
    different = names_differ;
    each = each_of IsLinkable ms
        (λ i m e. record {
          name = each_plain texts ms read i m e;
          imports = sources_plain i m e;
          readable
              = all_at ms readable i m e;
        });
  }
    where
      all_at : (ms : List Module) → AllOf (λ (m : Module). IsReadable (body m)) ms
          → (i : ℕ) (m : Module) → slice_get ms i ≡ Some m → IsReadable (body m)
      all_at [] h i m e = absurd cc
      all_at (n ∷ ms) h zero m e = let same : n ≡ m = cc
          in subst (λ (x : Module). IsReadable (body x)) same h.0
      all_at (n ∷ ms) h (suc i) m e = all_at ms h.1 i m e
