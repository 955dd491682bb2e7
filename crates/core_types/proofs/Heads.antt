-- Heads and arguments without brackets that have no arguments.
use Rattle.std.proofs.Common.{◌≡◌, ℕ, ◌+◌, ◌<◌, List, [], ◌∷◌, ◌++◌, length, take, get_or, map, refl, sym, ap, ◌∙◌, append_assoc}
use Rattle.std.proofs.lemmas.List.{take_more}
use Rattle.seq.proofs.Lists.{map_push}
use Rattle.core_reader.specs.declared.syntax.Atom.{Atom}
use Rattle.core_reader.specs.Tree.{Term, Terms, Name, Con, Int, Bracket, NoTerms, AndTerm, term, terms_of}
use Rattle.core_reader.proofs.TreeOf.{application_of, term_of-Name, term_of-Con, term_of-Int, term_of-Bracket}
use Rattle.core_types.specs.Source.{Source}
use Rattle.core_types.specs.Typing.{Typed, Open, AtBracket, Locals, term_type, terms_types, head_place, within_term, within_terms, of_terms, Constraint}
use Rattle.core_types.specs.Building.{application_constraint}
use Rattle.core_types.specs.Bare.{bare, place_of}

module _ (s : Source) (ls : Locals) where
  pub bare_type : (t : Term) → term_type s ls t ≡ term_type s ls (bare t)
  bare_type (Name n at) = refl
  bare_type (Con n at) = refl
  bare_type (Int k at) = refl
  bare_type (Bracket head NoTerms at) = bare_type head
  bare_type (Bracket head (AndTerm a args) at) = refl

  pub bare_place : (t : Term) → head_place s t ≡ place_of (bare t)
  bare_place (Name n at) = refl
  bare_place (Con n at) = refl
  bare_place (Int k at) = refl
  bare_place (Bracket head NoTerms at) = bare_place head
  bare_place (Bracket head (AndTerm a args) at) = refl

pub bare_bracket : (head : Term) (atoms : List Atom) (at : ℕ) → (atoms ≡ [] → ⊥)
    → bare (Bracket head (terms_of (map term atoms)) at) ≡ Bracket head (terms_of (map term atoms))
    at
bare_bracket head [] at some = absurd (some refl)
bare_bracket head (a ∷ atoms) at some = refl

pub ruleset heads = (application_of, term_of-Name, term_of-Con, term_of-Int, term_of-Bracket)

-- ---- arguments in a row

module _ (s : Source) (ls : Locals) where
  pub types_more : (atoms : List Term) (a : Term) → terms_types s ls (terms_of (atoms ++ a ∷ [])) ≡
      terms_types s ls (terms_of atoms) ++ term_type s ls a ∷ []
  types_more [] a = refl
  types_more (b ∷ atoms) a = ap (λ l. term_type s ls b ∷ l) (types_more atoms a)

  pub within_more : (atoms : List Term) (a : Term) → within_terms s ls (terms_of (atoms ++ a ∷ []))
      ≡ within_terms s ls (terms_of atoms) ++ within_term s ls a
  within_more [] a = go (within_term s ls a)
    where
      go : (cs : List Constraint) → cs ++ [] ≡ cs
      go [] = refl
      go (c ∷ cs) = ap (λ cs. c ∷ cs) (go cs)
  within_more (b ∷ atoms) a = ap (λ l. within_term s ls b ++ l) (within_more atoms a) ∙ sym
      (append_assoc (within_term s ls b) (within_terms s ls (terms_of atoms)) (within_term s ls a))

  module _ (atoms : List Atom) (i : ℕ) (a : Atom) (l : i < length atoms) (is : a ≡ get_or atoms i a)
    where
      one_more : map term (take (i + 1) atoms) ≡ map term (take i atoms) ++ term a ∷ []
      one_more = ap (map term) (take_more atoms i a l ∙ ap (λ y. take i atoms ++ y ∷ []) (sym is)) ∙
          map_push term (take i atoms) a

      pub one_type : terms_types s ls (terms_of (map term (take (i + 1) atoms))) ≡ terms_types s ls
          (terms_of (map term (take i atoms))) ++ term_type s ls (term a) ∷ []
      one_type = ap (λ ts. terms_types s ls (terms_of ts)) one_more ∙ types_more
          (map term (take i atoms)) (term a)

      pub one_within : within_terms s ls (terms_of (map term (take (i + 1) atoms))) ≡ within_terms s
          ls (terms_of (map term (take i atoms))) ++ within_term s ls (term a)
      one_within = ap (λ ts. within_terms s ls (terms_of ts)) one_more ∙ within_more
          (map term (take i atoms)) (term a)

-- ---- applications

abbrev own_and : Source → Locals → Typed → Term → Terms → List Constraint
own_and s ls t head args = application_constraint s ls t (record { head = head; args = args }) ∷
    (within_term s ls head ++ within_terms s ls args)

module _ (s : Source) (ls : Locals) (t : Typed) where
  pub with_arguments : (head a : Term) (args : Terms)
      → of_terms s ls t head (AndTerm a args) ≡ own_and s ls t head (AndTerm a args)
  with_arguments (Name n at) a args = refl
  with_arguments (Con n at) a args = refl
  with_arguments (Int k at) a args = refl
  with_arguments (Bracket head bs at) a args = refl

  pub some_arguments : (head : Term) (atoms : List Atom) → (atoms ≡ [] → ⊥)
      → of_terms s ls t head (terms_of (map term atoms)) ≡ own_and s ls t head
      (terms_of (map term atoms))
  some_arguments head [] some = absurd (some refl)
  some_arguments head (a ∷ atoms) some = with_arguments head (term a) (terms_of (map term atoms))

pub bracket_within : (s : Source) (ls : Locals) (head : Term) (atoms : List Atom) (at : ℕ)
    → (atoms ≡ [] → ⊥)
    → within_term s ls (Bracket head (terms_of (map term atoms)) at) ≡ of_terms s ls
    (Open (AtBracket at)) head (terms_of (map term atoms))
bracket_within s ls head [] at some = absurd (some refl)
bracket_within s ls head (a ∷ atoms) at some = sym
    (with_arguments s ls (Open (AtBracket at)) head (term a) (terms_of (map term atoms)))

-- ---- the type of what has no bracket without arguments

pub bracket_type : (s : Source) (ls : Locals) (t head : Term) (args : Terms) (at : ℕ)
    → Bracket head args at ≡ bare t → term_type s ls t ≡ Open (AtBracket at)
bracket_type s ls (Name n place) head args at e = absurd cc
bracket_type s ls (Con n place) head args at e = absurd cc
bracket_type s ls (Int k place) head args at e = absurd cc
bracket_type s ls (Bracket h NoTerms place) head args at e = bracket_type s ls h head args at e
bracket_type s ls (Bracket h (AndTerm a rest) place) head args at e = let same : place ≡ at = cc
    in ap (λ at. Open (AtBracket at)) same
