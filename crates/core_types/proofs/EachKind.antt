-- Each kind of declaration among those that were read, and one more.
use Rattle.std.proofs.Common.{◌≡◌, ℕ, List, [], ◌∷◌, ◌++◌, Ok, refl, sym, ap, subst, ◌∙◌, map}
use Rattle.std.proofs.lemmas.List.{append-nil}
use Rattle.seq.proofs.Lists.{map_push}
use Rattle.core_reader.specs.declared.token.Token.{Token}
use Rattle.core_reader.specs.declared.token.Token.TheVariants as word
use Rattle.core_reader.specs.declared.token.Further.{Further}
use Rattle.core_reader.specs.declared.token.Further.TheVariants as further
use Rattle.core_reader.specs.declared.token.Lexeme.{Lexeme}
use Rattle.core_reader.specs.Grammar.{at_most_200}
use Rattle.core_reader.specs.ReadingOf.{follow}
use Rattle.core_reader.specs.Machine.{front, behind, refused}
use Rattle.core_reader.specs.AroundOf.{refuse, Outside}
use Rattle.core_reader.proofs.Turns.{turns, bad_halts}
use Rattle.core_types.specs.Grammar.{Decl, Declares, Signs, Defines, types_of, signatures_of, functions_of}
use Rattle.core_types.specs.Reading.{Top, move, run, step}
use Rattle.core_types.specs.Reading as reading
use Rattle.core_types.proofs.SourceReading.{type_laws}

pub types_append : (ds es : List Decl) → types_of (ds ++ es) ≡ types_of ds ++ types_of es
types_append [] es = refl
types_append (Declares d ∷ ds) es = ap (λ w. d ∷ w) (types_append ds es)
types_append (Signs s ∷ ds) es = types_append ds es
types_append (Defines f ∷ ds) es = types_append ds es

pub signatures_append : (ds es : List Decl) → signatures_of (ds ++ es) ≡ signatures_of ds
    ++ signatures_of es
signatures_append [] es = refl
signatures_append (Declares d ∷ ds) es = signatures_append ds es
signatures_append (Signs s ∷ ds) es = ap (λ w. s ∷ w) (signatures_append ds es)
signatures_append (Defines f ∷ ds) es = signatures_append ds es

pub functions_append : (ds es : List Decl) → functions_of (ds ++ es) ≡ functions_of ds
    ++ functions_of es
functions_append [] es = refl
functions_append (Declares d ∷ ds) es = functions_append ds es
functions_append (Signs s ∷ ds) es = functions_append ds es
functions_append (Defines f ∷ ds) es = ap (λ w. f ∷ w) (functions_append ds es)

-- declarations of which none is of the kind change nothing
pub kept_by : {X : Type 0} (of : List Decl → List X)
    → ((ds es : List Decl) → of (ds ++ es) ≡ of ds ++ of es)
    → (ds : List Decl) (d : Decl) (ys : List X) → of (d ∷ []) ≡ [] → of ds ≡ ys
    → of (ds ++ d ∷ []) ≡ ys
kept_by of append ds d ys none e = append ds (d ∷ []) ∙ ap (λ w. of ds ++ w) none ∙ append-nil
    (of ds) ∙ e

-- one more of the kind
pub more_by : {X Y : Type 0} (of : List Decl → List X)
    → ((ds es : List Decl) → of (ds ++ es) ≡ of ds ++ of es)
    → (view : Y → X) (ds : List Decl) (d : Decl) (ys new : List Y) (y : Y)
    → of (d ∷ []) ≡ view y ∷ [] → of ds ≡ map view ys → new ≡ ys ++ y ∷ []
    → of (ds ++ d ∷ []) ≡ map view new
more_by of append view ds d ys new y one e f = append ds (d ∷ []) ∙ (λ i. e i ++ one i) ∙ sym
    (map_push view ys y) ∙ ap (map view) (sym f)

-- all declarations were read
pub finishes : (ds : List Decl) (ts : List Lexeme) (x : Lexeme) → x ≡ front ts → x.token ≡ word.End
    → reading.at (Top ds) ts ≡ Ok ds
finishes ds ts x front_is token_is =
    turns step at_most_200 (λ s p. bad_halts type_laws s p) (Outside (Top ds)) ts
    ∙ ap (λ (y : Lexeme). follow (step at_most_200 (Outside (Top ds)) y.at y.token)
    (λ s. run s (behind ts))) (sym front_is)
    ∙ ap (λ w. follow (step at_most_200 (Outside (Top ds)) x.at w) (λ s. run s (behind ts)))
    token_is

other_further : (ds : List Decl) (p : ℕ) (f : Further) → (f ≡ further.TypeDecl → ⊥)
    → (f ≡ further.Signature → ⊥) → move at_most_200 (Top ds) p (word.Further f) ≡ refuse
    (refused p (word.Further f))
other_further ds p further.TypeDecl a b = absurd (a refl)
other_further ds p further.Signature a b = absurd (b refl)
other_further ds p f a b = refl

-- a further word that begins no declaration
pub further_decl : (ds : List Decl) (p : ℕ) (token : Token) (f : Further) → token ≡ word.Further f
    → (f ≡ further.TypeDecl → ⊥) → (f ≡ further.Signature → ⊥)
    → move at_most_200 (Top ds) p token ≡ refuse (refused p token)
further_decl ds p token f e a b = subst (λ t. move at_most_200 (Top ds) p t ≡ refuse (refused p t))
    (sym e) (other_further ds p f a b)
