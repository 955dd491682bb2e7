-- Patterns that stand one after the other, by the tokens that spell them.
use Rattle.std.proofs.Common.{◌≡◌, ℕ, suc, true, List, [], ◌∷◌, ◌++◌, refl, ap, ◌∙◌, append_assoc, inr}
use Rattle.std.proofs.lemmas.List.{append-nil}
use Rattle.core_reader.specs.declared.syntax.Binder.{Binder}
use Rattle.core_reader.specs.declared.token.Token.TheVariants as word
use Rattle.core_reader.specs.declared.token.Lexeme.{Lexeme}
use Rattle.core_reader.specs.Grammar.{NestingLimit, lexeme}
use Rattle.match_compile.specs.Source.{Pat, Con, Pats, NoPats, AndPat}
use Rattle.match_compile.specs.Grammar.{SpellsPat, SpellsPats}
use Rattle.match_compile.specs.Reading.{Place, InLine, InBracket, opens, with_last, ◌⊹◌}

pub joined_last : (ps : Pats) (q : Pat) (qs : Pats) → with_last ps q ⊹ qs ≡ ps ⊹ AndPat q qs
joined_last NoPats q qs = refl
joined_last (AndPat p ps) q qs = ap (AndPat p) (joined_last ps q qs)

pub joined_none : (ps : Pats) → ps ⊹ NoPats ≡ ps
joined_none NoPats = refl
joined_none (AndPat p ps) = ap (AndPat p) (joined_none ps)

-- one more pattern
pub pats_last : (l : NestingLimit) (depth : ℕ) (ps : Pats) (q : Pat) (ts us : List Lexeme)
    → SpellsPats l depth ps ts → SpellsPat l depth q us
    → SpellsPats l depth (with_last ps q) (ts ++ us)
pats_last l depth NoPats q ts us h g = (us, [], g, refl, rw (h, append-nil) refl)
pats_last l depth (AndPat p ps) q ts us h g = (
  h.0,
  h.1 ++ us,
  h.2,
  pats_last l depth ps q h.1 us h.3 g,
  ap (λ w. w ++ us) h.4 ∙ append_assoc h.0 h.1 us,
)

-- the tokens of the patterns that were read, from the first open bracket on
abbrev pub StandsAt : NestingLimit → Place → Pats → List Lexeme → Type 0
StandsAt l InLine held ts = SpellsPats l 0 held ts
StandsAt l (InBracket k before c) held ts =
    (us vs : List Lexeme) × (p : ℕ) × StandsAt l k before us × (l (opens k) ≡ true)
    × SpellsPats l (suc (opens k)) held vs
    × (ts ≡ us ++ (lexeme p word.Open ∷ lexeme c.at (word.Con c.name) ∷ vs))

pub stands_last : (l : NestingLimit) (k : Place) (held : Pats) (q : Pat) (ts us : List Lexeme)
    → StandsAt l k held ts → SpellsPat l (opens k) q us → StandsAt l k (with_last held q) (ts ++ us)
stands_last l InLine held q ts us h g = pats_last l 0 held q ts us h g
stands_last l (InBracket k before c) held q ts us h g =
    let e : ts ++ us ≡ h.0 ++ (lexeme h.2 word.Open ∷ lexeme c.at (word.Con c.name) ∷ (h.1 ++ us))
    = simp (h.6, append_assoc) in
    (h.0, h.1 ++ us, h.2, h.3, h.4, pats_last l (suc (opens k)) held q h.1 us h.5 g, e)

-- the bracket is closed
pub stands_closed : (l : NestingLimit) (k : Place) (before : Pats) (c : Binder) (held : Pats)
    (ts : List Lexeme) (q : ℕ) → StandsAt l (InBracket k before c) held ts
    → StandsAt l k (with_last before (Con c held)) (ts ++ lexeme q word.Close ∷ [])
stands_closed l k before c held ts q h =
    let us = lexeme h.2 word.Open ∷ lexeme c.at (word.Con c.name) ∷
    (h.1 ++ lexeme q word.Close ∷ []) in
    let e : ts ++ lexeme q word.Close ∷ [] ≡ h.0 ++ us = simp (h.6, append_assoc) in
    rw e (stands_last l k before (Con c held) h.0 us h.3 (inr (h.1, h.2, q, h.4, h.5, refl)))

pub stands_opened : (l : NestingLimit) (k : Place) (before : Pats) (c : Binder) (ts : List Lexeme)
    (p : ℕ) → StandsAt l k before ts → l (opens k) ≡ true
    → StandsAt l (InBracket k before c) NoPats
    (ts ++ (lexeme p word.Open ∷ lexeme c.at (word.Con c.name) ∷ []))
stands_opened l k before c ts p h e = (ts, [], p, h, e, refl, refl)
