-- What is read with room for 200 open constructs is spelled with that room.
use Rattle.std.proofs.Common.{◌≡◌, ℕ, List, [], ◌∷◌, ◌++◌, take, map, Result, Ok, Err, refl, sym, subst, ◌∙◌}
use Rattle.core_reader.specs.declared.dialect.Dialect.{Dialect}
use Rattle.core_reader.specs.declared.token.Token.TheVariants as word
use Rattle.core_reader.specs.declared.token.Lexeme.{Lexeme}
use Rattle.core_reader.specs.declared.refusal.ReadRefusal.{ReadRefusal}
use Rattle.core_reader.specs.Grammar.{NestingLimit, unlimited_nesting, at_most_200, lexeme}
use Rattle.core_reader.specs.TokensOf.{Piece, Reads, Stops, Passes, Takes}
use Rattle.core_reader.specs.WordsOf.{said}
use Rattle.core_reader.specs.ProgramsOf.{Language}
use Rattle.core_reader.specs.ReadingOf.{Step, go, done, stop, follow, Reading, run_of}
use Rattle.core_reader.proofs.ReadingOf.{Good, ReadsLanguage}
use Rattle.core_reader.proofs.Explains.{AreTokens, Led, Explained, explains, last_same}
use Rattle.core_reader.proofs.Proper.{no_bad}
use Rattle.core_reader.proofs.NamingOf.{Texts}

pub are_tokens : {d : Dialect} {at end : ℕ} {bytes rest : List ℕ} {pieces : List Piece}
    (names : Texts) → Reads d at bytes pieces end rest → AreTokens d names pieces
are_tokens names (Stops at rest) = tt
are_tokens names (Passes at n bytes pieces end rest h r) = are_tokens names r
are_tokens {d = d} names (Takes at n bytes k pieces end rest h r)
    = (no_bad d names (take n bytes) k h.is_token, are_tokens names r)

one_answer : {A : Type 0} (a b : A) (x : Result A ReadRefusal) → x ≡ Ok a → x ≡ Ok b → a ≡ b
one_answer a b x e f = cc

module _ {P : Type 0} {d : Dialect} {r : Reading} {Derives : Language P}
    (w : ReadsLanguage d r Derives) where
  ends_so : (l : NestingLimit) (ts : List Lexeme) (end : ℕ) (a : r.Tree) (st : Step r.State r.Tree)
      → Good w.laws.Consumed r.Spells l st (ts ++ lexeme end word.End ∷ [])
      → follow st (λ s. run_of r.step l s []) ≡ Ok a → r.Spells l a ts
  unfolding run_of
  ends_so l ts end a (go next) good e = absurd cc
  ends_so l ts end a (done b) good e =
      let same : ts ≡ good.0 =
      (last_same ts good.0 (lexeme end word.End) (lexeme good.1 word.End) good.3).0 in
      let which : b ≡ a = cc in
      subst (λ v. r.Spells l v ts) which (subst (r.Spells l b) (sym same) good.2)
  ends_so l ts end a (stop er) good e = absurd cc

  spelled_so : (l : NestingLimit) (names : Texts) (ps : List Piece) (s : r.State) (end : ℕ)
      (a : r.Tree) → Led w l names ps s → run_of r.step l r.start
      (map (said d names) ps ++ lexeme end word.End ∷ []) ≡ Ok a
      → r.Spells l a (map (said d names) ps)
  unfolding run_of
  spelled_so l names ps s end a led e =
      let ts = map (said d names) ps in
      ends_so l ts end a (r.step l s end word.End) (w.laws.sound l s ts end word.End led.consumed)
      (sym (led.reach (lexeme end word.End ∷ [])) ∙ e)

  -- What is spelled, and isn't refused with little room, is spelled with it.
  pub in_little : {at end : ℕ} {bytes rest : List ℕ} (names : Texts) (place : ℕ) (ps : List Piece)
      (a : r.Tree) → Reads d at bytes ps end rest → r.Spells unlimited_nesting a
      (map (said d names) ps)
      → (x : Result r.Tree ReadRefusal) → run_of r.step at_most_200 r.start
      (map (said d names) ps ++ lexeme place word.End ∷ []) ≡ x
      → ((e : ReadRefusal) → x ≡ Err e → ⊥)
      → r.Spells at_most_200 a (map (said d names) ps)
  in_little names place ps a reads spelled (Err e) ran well = absurd (well e refl)
  in_little names place ps a reads spelled (Ok b) ran well =
      let ts = map (said d names) ps in
      let end = lexeme place word.End in
      let x : Explained w names ps end (Ok b) = subst (Explained w names ps end) ran
      (explains w names ps end (are_tokens names reads) tt) in
      let tight : r.Spells at_most_200 b ts = spelled_so at_most_200 names ps x.2 place b x.3.b ran
      in
      let same : b ≡ a = one_answer b a (run_of r.step unlimited_nesting r.start (ts ++ end ∷ []))
      (w.laws.whole unlimited_nesting b ts place [] x.1)
      (w.laws.whole unlimited_nesting a ts place [] spelled) in
      subst (λ v. r.Spells at_most_200 v ts) same tight
