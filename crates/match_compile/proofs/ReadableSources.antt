-- Equations that were read are readable.
use Rattle.std.proofs.Common.{◌≡◌, ℕ, suc, ◌+◌, ◌*◌, ◌<◌, ◌≤◌, ◌^◌, Bool, true, false, nat_lt, List, [], ◌∷◌, ◌++◌, map, length, length-append, refl, sym, ap, subst, arith, inl, inr}
use Rattle.std.specs.Prelude.{All, sum_by}
use Rattle.std.proofs.lemmas.Bool.Decides.{nat_tests}
use Rattle.std.proofs.lemmas.List.Elements.{All-nil, All-cons}
use Rattle.std.proofs.lemmas.List.Sums.{sum_by-cons}
use Rattle.seq.specs.Lists.{AllOf}
use Rattle.seq.proofs.Lists.{length_map}
use Rattle.core_reader.specs.declared.dialect.Dialect.TheVariants.{Core}
use Rattle.core_reader.specs.declared.token.Token.TheVariants as word
use Rattle.core_reader.specs.declared.token.Lexeme.{Lexeme}
use Rattle.core_reader.specs.Grammar.{NestingLimit, unlimited_nesting, lexeme}
use Rattle.core_reader.specs.Grammar as core
use Rattle.core_reader.specs.TokensOf.{Piece, Reads, Stops, Passes, Takes}
use Rattle.core_reader.specs.WordsOf.{said}
use Rattle.core_reader.specs.RulesOf.{TextTooLong}
use Rattle.core_reader.specs.Readable.{ReadableData, AreDistinct}
use Rattle.core_reader.proofs.Unique.{longest_some}
use Rattle.core_reader.proofs.NamingOf.{EachHeld, each_held}
use Rattle.core_reader.proofs.Readability.{EachKnown, front_known, back_known, known, expr_readable, expr_small, decl_readable, different_from}
use Rattle.match_compile.specs.Source.{Pat, Name, Int, Con, Pats, NoPats, AndPat, Equation, Source}
use Rattle.match_compile.specs.Parts.{tests_in, tests_of}
use Rattle.match_compile.specs.Sizes.{pat_size, pats_size, equation_size}
use Rattle.match_compile.specs.Grammar.{SpellsPat, SpellsPats, SpellsEquation, Decl, Declares, Equates, SpellsDecls, constructors_of, equations_of, IsSourceText, BreaksNoReadingRule}
use Rattle.match_compile.specs.Readable.{ReadablePat, ReadablePats, ReadableEquation, IsReadable}
use Rattle.match_compile.proofs.AsRead.{all_in_range}

module _ (names : List (List ℕ)) (room : NestingLimit) where
  -- ---- names and integers

  mutual
    pat_readable : (depth : ℕ) (p : Pat) (ts : List Lexeme) → SpellsPat room depth p ts
        → EachKnown names ts → ReadablePat names p
    pat_readable depth (Name b) ts h k = (subst (EachKnown names) h k).0
    pat_readable depth (Int n at) ts h k = (subst (EachKnown names) h.1 k).0
    pat_readable depth (Con d NoPats) ts (inl h) k = ((subst (EachKnown names) h k).0, tt)
    pat_readable depth (Con d (AndPat p ps)) ts (inl h) k = absurd h
    pat_readable depth (Con d ps) ts (inr h) k =
        let k2 = (subst (EachKnown names) h.5 k).1 in (
          k2.0,
          pats_readable (suc depth) ps h.0 h.4
              (front_known names h.0 (lexeme h.2 word.Close ∷ []) k2.1),
        )

    pats_readable : (depth : ℕ) (ps : Pats) (ts : List Lexeme) → SpellsPats room depth ps ts
        → EachKnown names ts → ReadablePats names ps
    pats_readable depth NoPats ts h k = tt
    pats_readable depth (AndPat p ps) ts h k =
        let each : EachKnown names (h.0 ++ h.1) = subst (EachKnown names) h.4 k in (
          pat_readable depth p h.0 h.2 (front_known names h.0 h.1 each),
          pats_readable depth ps h.1 h.3 (back_known names h.0 h.1 each),
        )

  equation_readable : (e : Equation) (ts : List Lexeme) → SpellsEquation room e ts
      → EachKnown names ts → ReadableEquation names e
  equation_readable e ts h k =
      let close : List Lexeme = lexeme h.1 word.Semicolon ∷ [] in
      let rest : List Lexeme = lexeme h.0 word.Equals ∷ (h.3 ++ close) in
      let k2 = subst (EachKnown names) h.6 k in (
        k2.0,
        pats_readable 0 e.pats h.2 h.4 (front_known names h.2 rest k2.1),
        expr_readable names room 0 e.body h.3 h.5
            (front_known names h.3 close (back_known names h.2 rest k2.1).1),
      )

  constructors_readable : (ds : List Decl) (ts : List Lexeme) → SpellsDecls room ds ts
      → EachKnown names ts → All (ReadableData names) (constructors_of ds)
  constructors_readable [] ts h k = All-nil (ReadableData names)
  constructors_readable (Declares d ∷ ds) ts h k =
      let each : EachKnown names (h.0 ++ h.1) = subst (EachKnown names) h.4 k in
      All-cons (ReadableData names) d (constructors_of ds)
      (decl_readable names room (core.Declares d) h.0 h.2 (front_known names h.0 h.1 each))
      (constructors_readable ds h.1 h.3 (back_known names h.0 h.1 each))
  constructors_readable (Equates e ∷ ds) ts h k = constructors_readable ds h.1 h.3
      (back_known names h.0 h.1 (subst (EachKnown names) h.4 k))

  equations_readable : (ds : List Decl) (ts : List Lexeme) → SpellsDecls room ds ts
      → EachKnown names ts → AllOf (ReadableEquation names) (equations_of ds)
  equations_readable [] ts h k = tt
  equations_readable (Declares d ∷ ds) ts h k = equations_readable ds h.1 h.3
      (back_known names h.0 h.1 (subst (EachKnown names) h.4 k))
  equations_readable (Equates e ∷ ds) ts h k =
      let each : EachKnown names (h.0 ++ h.1) = subst (EachKnown names) h.4 k in (
        equation_readable e h.0 h.2 (front_known names h.0 h.1 each),
        equations_readable ds h.1 h.3 (back_known names h.0 h.1 each),
      )

-- ---- each token is paid once, and a test 16 times more

module _ (room : NestingLimit) where
  mutual
    pat_small : (depth : ℕ) (p : Pat) (ts : List Lexeme) → SpellsPat room depth p ts
        → pat_size p + 16 * tests_in p ≤ 17 * length ts
    pat_small depth (Name b) ts h = omega (arith, ap length h)
    pat_small depth (Int n at) ts h = omega (arith, ap length h.1)
    pat_small depth (Con d NoPats) ts (inl h) = omega (arith, ap length h)
    pat_small depth (Con d (AndPat p ps)) ts (inl h) = absurd h
    pat_small depth (Con d ps) ts (inr h) =
        omega (
          arith,
          pats_small (suc depth) ps h.0 h.4,
          ap length h.5,
          length-append h.0 (lexeme h.2 word.Close ∷ []),
        )

    pats_small : (depth : ℕ) (ps : Pats) (ts : List Lexeme) → SpellsPats room depth ps ts
        → pats_size ps + 16 * tests_of ps ≤ 17 * length ts
    pats_small depth NoPats ts h = omega arith
    pats_small depth (AndPat p ps) ts h = omega (
      arith,
      pat_small depth p h.0 h.2,
      pats_small depth ps h.1 h.3,
      ap length h.4,
      length-append h.0 h.1,
    )

  equation_small : (e : Equation) (ts : List Lexeme) → SpellsEquation room e ts
      → equation_size e + 16 * tests_of e.pats ≤ 17 * length ts
  equation_small e ts h =
      let close : List Lexeme = lexeme h.1 word.Semicolon ∷ [] in
      let rest : List Lexeme = lexeme h.0 word.Equals ∷ (h.3 ++ close) in
      omega (
        arith,
        pats_small 0 e.pats h.2 h.4,
        expr_small room 0 e.body h.3 h.5,
        ap length h.6,
        length-append h.2 rest,
        length-append h.3 close,
      )

  abbrev cost_of : List Equation → ℕ
  cost_of es = sum_by equation_size es + 16 * sum_by (λ (e : Equation). tests_of e.pats) es

  decls_small : (ds : List Decl) (ts : List Lexeme) → SpellsDecls room ds ts
      → 2 * length (constructors_of ds) + cost_of (equations_of ds) ≤ 17 * length ts
  decls_small [] ts h = omega arith
  decls_small (Declares d ∷ ds) ts h = omega
      (arith, decls_small ds h.1 h.3, ap length h.4, length-append h.0 h.1, ap length h.2.3)
  decls_small (Equates e ∷ ds) ts h =
      let es : List Equation = equations_of ds in
      omega (
        arith,
        decls_small ds h.1 h.3,
        equation_small e h.0 h.2,
        ap length h.4,
        length-append h.0 h.1,
        sum_by-cons equation_size e es,
        sum_by-cons (λ (e : Equation). tests_of e.pats) e es,
      )

-- ---- a text

-- each token has a byte
fewer : {at end : ℕ} {bytes rest : List ℕ} {pieces : List Piece}
    → Reads Core at bytes pieces end rest → at + length pieces ≤ end
fewer (Stops at rest) = omega arith
fewer (Passes at n bytes pieces end rest h r) = omega (arith, fewer r)
fewer (Takes at n bytes k pieces end rest h r) = omega (arith, fewer r, longest_some bytes n k h)

short : (text : List ℕ) → BreaksNoReadingRule text → length text ≤ 1048576
short text read = go (nat_lt 1048576 (length text)) refl
  where
    go : (b : Bool) → nat_lt 1048576 (length text) ≡ b → length text ≤ 1048576
    go true e = absurd (read 5 1048576 (TextTooLong (grind (arith, nat_tests))))
    go false e = grind (arith, nat_tests)

pub text_readable : (text : List ℕ) (c : Source) → BreaksNoReadingRule text → IsSourceText text c
    → IsReadable c
text_readable text c read is =
    let s = is.program in
    let ts : List Lexeme = map (said Core c.names) is.pieces in
    let held : EachHeld Core c.names is.pieces = subst (λ v. EachHeld Core v is.pieces)
    (sym s.names) (each_held Core [] is.pieces) in
    let each = known Core c.names is.pieces held (all_in_range text read [] is.pieces is.tokens) in
    let paid = decls_small unlimited_nesting s.decls ts s.spelled in
    let few : 0 + length is.pieces ≤ length text = fewer is.tokens in
    record {
      different = subst AreDistinct (sym s.names) (different_from Core [] is.pieces tt);
      constructors = subst (All (ReadableData c.names)) s.constructors
          (constructors_readable c.names unlimited_nesting s.decls ts s.spelled each);
      equations = subst (AllOf (ReadableEquation c.names)) s.equations
          (equations_readable c.names unlimited_nesting s.decls ts s.spelled each);
      size = subst (λ n. n < 2 ^ 64)
          (λ i. 2 * length (s.constructors i) + sum_by equation_size (s.equations i) + 16 * sum_by
          (λ (e : Equation). tests_of e.pats) (s.equations i))
          (omega (arith, paid, few, short text read, length_map (said Core c.names) is.pieces));
    }
