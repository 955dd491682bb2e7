-- The constraints of functions, one after the other.
use Rattle.std.proofs.Common.{◌≡◌, ℕ, ◌+◌, ◌<◌, List, [], ◌∷◌, ◌++◌, length, take, get_or, map, refl, sym, ap, ◌∙◌, append_assoc, Option, Some, None}
use Rattle.std.specs.List.{flat_map}
use Rattle.std.proofs.lemmas.List.{take_more}
use Rattle.seq.proofs.Lists.{map_push}
use Rattle.core_reader.specs.declared.syntax.Function as code
use Rattle.core_reader.specs.Tree.{Function, function}
use Rattle.core_types.specs.Source.{Signature, Source}
use Rattle.core_types.specs.Typing.{Rigid, Constraint, signature_of, signed, own_type, constraint, of_signature, of_function}

module _ (s : Source) (f : Function) where
  pub with_signature : (g : Signature) → signature_of s.signatures f.name ≡ Some g
      → of_signature s f ≡ constraint s f.at (signed s (λ n. Rigid f.name n) g) (own_type s f) ∷ []
  with_signature g e = ap
      (λ (o : Option Signature). elim o [
        | Some g ↦ constraint s f.at (signed s (λ n. Rigid f.name n) g) (own_type s f) ∷ []
        | None ↦
            []
      ]) e

module _ (s : Source) where
  abbrev of_all : List Function → List Constraint
  of_all fs = flat_map (of_function s) fs

  all_last : (fs : List Function) (f : Function) → of_all (fs ++ f ∷ []) ≡ of_all fs
      ++ of_function s f
  all_last [] f = go (of_function s f)
    where
      go : (cs : List Constraint) → cs ++ [] ≡ cs
      go [] = refl
      go (c ∷ cs) = ap (λ cs. c ∷ cs) (go cs)
  all_last (e ∷ fs) f = ap (λ l. of_function s e ++ l) (all_last fs f) ∙ sym
      (append_assoc (of_function s e) (of_all fs) (of_function s f))

  pub one_function : (fs : List code.Function) (i : ℕ) (f : code.Function) → i < length fs
      → f ≡ get_or fs i f
      → flat_map (of_function s) (map function (take (i + 1) fs)) ≡ flat_map (of_function s)
      (map function (take i fs)) ++ of_function s (function f)
  one_function fs i f l is = ap (λ fs. of_all (map function fs))
      (take_more fs i f l ∙ ap (λ y. take i fs ++ y ∷ []) (sym is))
      ∙ ap of_all (map_push function (take i fs) f) ∙ all_last (map function (take i fs))
      (function f)
