-- The constraints of patterns and of alternatives, by those of their parts.
use Rattle.std.proofs.Common.{◌≡◌, ℕ, ◌+◌, ◌<◌, List, [], ◌∷◌, ◌++◌, length, take, get_or, map, refl, sym, ap, ◌∙◌, append_assoc, Option, Some, None}
use Rattle.std.specs.Prelude.{ℤ}
use Rattle.std.proofs.lemmas.List.{take_more}
use Rattle.core_reader.specs.declared.syntax.Binder.{Binder}
use Rattle.core_reader.specs.declared.syntax.Pattern.{Pattern}
use Rattle.core_reader.specs.declared.syntax.Pattern.TheVariants as pattern
use Rattle.core_reader.specs.declared.syntax.Alt.{Alt}
use Rattle.core_reader.specs.Tree.{expr, alternative, alts_of}
use Rattle.core_reader.proofs.TreeOf.{alternative_of}
use Rattle.core_types.specs.Source.{TypeDecl, Constructor, Source}
use Rattle.core_types.specs.Typing.{Typed, Int, Constraint, Locals, constructor_by_name, read_list, used_at, applied, constraint, binds, binds_all, of_pattern, with_pattern, of_expr, of_alts}

-- ---- patterns

module _ (s : Source) (u : Typed) (ls : Locals) (p : Pattern) where
  module _ (c : Binder) (xs : List Binder) (is : p ≡ pattern.Con c xs) where
    module _ (d : TypeDecl) (b : Constructor)
        (e : constructor_by_name s.types c.name.0 ≡ Some (d, b)) where
      pub con_constraint : of_pattern s u p ≡ constraint s c.at u (applied s d (used_at s c.at)) ∷
          []
      con_constraint = ap (of_pattern s u) is ∙ ap
          (λ (o : Option (TypeDecl × Constructor)). elim o
          [ Some x ↦ constraint s c.at u (applied s x.0 (used_at s c.at)) ∷ [] | None ↦ [] ]) e

      pub con_names : with_pattern s u p ls ≡ binds_all s xs (read_list s (used_at s c.at) b.fields)
          ls
      con_names = ap (λ p. with_pattern s u p ls) is ∙ ap
          (λ (o : Option (TypeDecl × Constructor)). elim o
          [ Some x ↦ binds_all s xs (read_list s (used_at s c.at) x.1.fields) ls | None ↦ ls ]) e

  module _ (k : ℤ) (at : ℕ) (is : p ≡ pattern.Int k at) where
    pub int_constraint : of_pattern s u p ≡ constraint s at u Int ∷ []
    int_constraint = ap (of_pattern s u) is

  module _ (x : Binder) (is : p ≡ pattern.Default x) where
    pub default_names : with_pattern s u p ls ≡ binds s x u ls
    default_names = ap (λ p. with_pattern s u p ls) is

-- ---- alternatives in a row

module _ (s : Source) (ls : Locals) (u t : Typed) where
  abbrev pub of_alt : Alt → List Constraint
  of_alt a = of_pattern s u a.pattern ++ of_expr s (with_pattern s u a.pattern ls) t (expr a.body)

  abbrev of_list : List Alt → List Constraint
  of_list alts = of_alts s ls u t (alts_of (map alternative alts))

  next : (a : Alt) (alts : List Alt) → of_list (a ∷ alts) ≡ of_alt a ++ of_list alts
  next a alts = ap (of_alts s ls u t) (alternative_of a (alts_of (map alternative alts)))
      ∙ sym (append_assoc (of_pattern s u a.pattern)
      (of_expr s (with_pattern s u a.pattern ls) t (expr a.body)) (of_list alts))

  alts_last : (alts : List Alt) (a : Alt) → of_list (alts ++ a ∷ []) ≡ of_list alts ++ of_alt a
  alts_last [] a = next a [] ∙ go (of_alt a)
    where
      go : (cs : List Constraint) → cs ++ [] ≡ cs
      go [] = refl
      go (c ∷ cs) = ap (λ cs. c ∷ cs) (go cs)
  alts_last (b ∷ alts) a = next b (alts ++ a ∷ []) ∙ ap (λ l. of_alt b ++ l) (alts_last alts a)
      ∙ sym (append_assoc (of_alt b) (of_list alts) (of_alt a)) ∙ ap (λ l. l ++ of_alt a)
      (sym (next b alts))

  pub one_alt : (alts : List Alt) (i : ℕ) (a : Alt) → i < length alts → a ≡ get_or alts i a
      → of_list (take (i + 1) alts) ≡ of_list (take i alts) ++ of_alt a
  one_alt alts i a l is = ap of_list
      (take_more alts i a l ∙ ap (λ y. take i alts ++ y ∷ []) (sym is)) ∙ alts_last (take i alts) a
