-- The laws of texts and their rules.
use Rattle.std.proofs.Common.{◌≡◌, ℕ, ◌<◌, ◌≤◌, List, [], ◌∷◌, ◌++◌, map, Result, Ok, refl, sym, ap, subst, ◌∙◌, arith, inl, inr, ◌⊎◌}
use Rattle.std.proofs.lemmas.List.{append-nil}
use Rattle.core_reader.specs.declared.dialect.Dialect.{Dialect}
use Rattle.core_reader.specs.declared.token.Token.TheVariants as word
use Rattle.core_reader.specs.declared.refusal.ReadRefusal.{ReadRefusal}
use Rattle.core_reader.specs.Grammar.{unlimited_nesting, lexeme}
use Rattle.core_reader.specs.TokensOf.{Piece, IsTokens}
use Rattle.core_reader.specs.WordsOf.{said}
use Rattle.core_reader.specs.NamesOf.{names_of}
use Rattle.core_reader.specs.ProgramsOf.{Language, IsText}
use Rattle.core_reader.specs.RulesOf.{IsUnread, IsFirstUnread, BadByte, Syntax, NumberRange, TooDeep, TextTooLong, IsNoLaterFault}
use Rattle.core_reader.specs.Laws.{RefusalIsUnique, TokensAreUnique, ProgramIsUnique}
use Rattle.core_reader.specs.ReadingOf.{Reading, run_of}
use Rattle.core_reader.proofs.ReadingOf.{ReadsLanguage}
use Rattle.core_reader.proofs.CoreReading.{core_reads}
use Rattle.core_reader.proofs.Unique.{goes_on, stuck}

places : (k at k' at' : ℕ) → (at < at') ⊎ ((at ≡ at') × (k ≤ k')) → (at' < at)
    ⊎ ((at' ≡ at) × (k' ≤ k)) → (k ≡ k') × (at ≡ at')
places k at k' at' (inl h) (inl g) = absurd (omega arith)
places k at k' at' (inl h) (inr g) = absurd (omega (arith, g.0))
places k at k' at' (inr h) (inl g) = absurd (omega (arith, h.0))
places k at k' at' (inr h) (inr g) = (omega (arith, h.1, g.1), h.0)

-- At most one rule is the first that a text of a language breaks, at one place.
module _ {P : Type 0} {d : Dialect} {Derives : Language P} where
  pub at_five : (text : List ℕ) (k at : ℕ) → IsUnread d Derives text k at → k ≡ 5 → at ≡ 1048576
  at_five text k at (BadByte _ h) e = absurd (omega (arith, e))
  at_five text k at (Syntax _ h) e = absurd (omega (arith, e))
  at_five text k at (NumberRange _ h) e = absurd (omega (arith, e))
  at_five text k at (TooDeep _ h) e = absurd (omega (arith, e))
  at_five text k at (TextTooLong h) e = refl

  either_way : (text : List ℕ) (k at k' at' : ℕ) → IsUnread d Derives text k at
      → IsUnread d Derives text k' at' → IsNoLaterFault k at k' at' → IsNoLaterFault k' at' k at
      → (k ≡ k') × (at ≡ at')
  either_way text k at k' at' b c (inl h) (inl g) =
      (h ∙ sym g, at_five text k at b h ∙ sym (at_five text k' at' c g))
  either_way text k at k' at' b c (inl h) (inr g) = absurd (g.0 h)
  either_way text k at k' at' b c (inr h) (inl g) = absurd (h.0 g)
  either_way text k at k' at' b c (inr h) (inr g) = places k at k' at' h.1 g.1

  pub one_first : (text : List ℕ) (k at k' at' : ℕ) → IsFirstUnread d Derives text k at
      → IsFirstUnread d Derives text k' at' → (k ≡ k') × (at ≡ at')
  one_first text k at k' at' h g = either_way text k at k' at' h.broken g.broken
      (h.first k' at' g.broken) (g.first k at h.broken)

-- A text of a dialect has one longest-token reading.
pub one_tokens : {d : Dialect} (text : List ℕ) (us vs : List Piece) → IsTokens d text us
    → IsTokens d text vs → us ≡ vs
one_tokens text us vs r s =
    let g = goes_on r (inl refl) s in
    g.1 ∙ ap (λ w. vs ++ w) (stuck g.2 (inl refl)).0 ∙ append-nil vs

pub one_refusal : RefusalIsUnique
one_refusal text k at k' at' h g = one_first text k at k' at' h g

pub one_reading : TokensAreUnique
one_reading text us vs r s = one_tokens text us vs r s

one_answer : {A : Type 0} (a b : A) (r : Result A ReadRefusal) → r ≡ Ok a → r ≡ Ok b → a ≡ b
one_answer a b r h g = cc

-- A text stands for one thing at most, where a reading owes the laws.
module _ {P : Type 0} {d : Dialect} {r : Reading} {Derives : Language P}
    (w : ReadsLanguage d r Derives) where
  derived_once : (ps : List Piece) (p q : P) → Derives unlimited_nesting p ps
      → Derives unlimited_nesting q ps → p ≡ q
  derived_once ps p q h g =
      let ts = map (said d (names_of d ps)) ps in
      let a = w.tree unlimited_nesting p ps h in
      let b = w.tree unlimited_nesting q ps g in
      let one : a ≡ b = one_answer a b
      (run_of r.step unlimited_nesting r.start (ts ++ lexeme 0 word.End ∷ []))
      (w.laws.whole unlimited_nesting a ts 0 [] (w.spelled unlimited_nesting p ps h))
      (w.laws.whole unlimited_nesting b ts 0 [] (w.spelled unlimited_nesting q ps g)) in
      w.same unlimited_nesting p q ps h g one

  pub one_thing : (text : List ℕ) (p q : P) → IsText d Derives text p → IsText d Derives text q
      → p ≡ q
  one_thing text p q h g = derived_once g.pieces p q
      (subst (Derives unlimited_nesting p) (one_tokens text h.pieces g.pieces h.tokens g.tokens)
      h.program) g.program

pub one_program : ProgramIsUnique
one_program text p q h g = one_thing core_reads text p q h g
