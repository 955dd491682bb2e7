-- What a reader answers, by the text alone.
use Rattle.std.proofs.Common.{◌≡◌, ℕ, ◌+◌, ◌<◌, ◌≤◌, ◌^◌, List, [], length, map, take, Ok, Err, refl, sym, ap, subst, arith, inl}
use Rattle.core_reader.specs.declared.dialect.Dialect.{Dialect}
use Rattle.core_reader.specs.declared.dialect.Dialect.TheVariants.{Core}
use Rattle.core_reader.specs.declared.token.Token.TheVariants as word
use Rattle.core_reader.specs.declared.token.Lexeme.{Lexeme}
use Rattle.core_reader.specs.declared.parser.Declarations.{Declarations}
use Rattle.core_reader.specs.declared.refusal.ReadRefusal.{ReadRefusal}
use Rattle.core_reader.specs.declared.refusal.ReadRefusal.TheVariants.{BadByte, Syntax, NumberRange, TooDeep, TextTooLong, Memory}
use Rattle.core_reader.specs.Tree.{Program, data_of, function}
use Rattle.core_reader.specs.Grammar.{unlimited_nesting, at_most_200}
use Rattle.core_reader.specs.TokensOf.{Piece, Reads, Stops, Passes, Takes, IsTokens}
use Rattle.core_reader.specs.WordsOf.{said}
use Rattle.core_reader.specs.ProgramsOf.{Language, IsText}
use Rattle.core_reader.specs.Programs.{IsProgram}
use Rattle.core_reader.specs.RulesOf.{IsCause, IsUnbroken, IsFirstUnread}
use Rattle.core_reader.specs.RulesOf as text-rules
use Rattle.core_reader.specs.LexedOf.{StopsAt, AtEnd, AtBad, AtLarge, IsLexed}
use Rattle.core_reader.specs.Parsed.{ReadsProgram}
use Rattle.core_reader.specs.Readable.{IsReadable}
use Rattle.core_reader.specs.ReadingOf.{Reading, run_of}
use Rattle.core_reader.specs.Machine.{Fails}
use Rattle.core_reader.proofs.NamingOf.{Texts}
use Rattle.core_reader.proofs.Unique.{ends_at, longest_some}
use Rattle.core_reader.proofs.ReadingOf.{IsLast, ReadsLanguage}
use Rattle.core_reader.proofs.Explains.{AreTokens, Explained, explains, viable, Agrees}
use Rattle.core_reader.proofs.FirstBroken.{ReadText, Clear}
use Rattle.core_reader.proofs.FirstBroken as first
use Rattle.core_reader.proofs.Causes.{cause}
use Rattle.core_reader.proofs.Proper.{no_bad}
use Rattle.core_reader.proofs.CoreReading.{core_reads}
use Rattle.core_reader.proofs.Readability.{readable}

-- ---- what is read as a token is one

module _ {d : Dialect} where
  are_tokens : {at end : ℕ} {bytes rest : List ℕ} {pieces : List Piece} (names : Texts)
      → Reads d at bytes pieces end rest → AreTokens d names pieces
  are_tokens names (Stops at rest) = tt
  are_tokens names (Passes at n bytes pieces end rest h r) = are_tokens names r
  are_tokens names (Takes at n bytes k pieces end rest h r) =
      (no_bad d names (take n bytes) k h.is_token, are_tokens names r)

  is_last : (at : ℕ) (rest : List ℕ) (last : Lexeme) → StopsAt d at rest last → IsLast last.token
  is_last at rest last (AtEnd e) = tt
  is_last at rest last (AtBad e) = tt
  is_last at rest last (AtLarge n l o) = tt

  at_end : (at : ℕ) (rest : List ℕ) (last : Lexeme) → StopsAt d at rest last → last.token ≡ word.End
      → rest ≡ []
  at_end at rest last (AtEnd e) h = e
  at_end at rest last (AtBad e) h = absurd cc
  at_end at rest last (AtLarge n l o) h = absurd cc

  -- each token has a byte
  fewer : {at end : ℕ} {bytes rest : List ℕ} {pieces : List Piece}
      → Reads d at bytes pieces end rest → at + length pieces ≤ end
  fewer (Stops at rest) = omega arith
  fewer (Passes at n bytes pieces end rest h r) = let f = fewer r in omega arith
  fewer (Takes at n bytes k pieces end rest h r) = let f = fewer r in let g
      = longest_some bytes n k h in omega arith

  pub few : (text : List ℕ) (pieces : List Piece) (at : ℕ) (rest : List ℕ) → length text ≤ 1048576
      → Reads d 0 text pieces at rest → length pieces < 2 ^ 64
  few text pieces at rest short r = let f = fewer r in let g = ends_at r in omega arith

  read_text : (text : List ℕ) (lexemes : List Lexeme) (names : Texts)
      (short : length text ≤ 1048576) (l : IsLexed d text lexemes names)
      → ReadText d text l.pieces l.at l.rest names
  read_text text lexemes names short l = record
      { short = short; reads = l.reads; named = l.named; in_range = l.in_range }

-- ---- the answers, in any language

pub record Found {P : Type 0} (d : Dialect) (Derives : Language P) (text : List ℕ) (p : P)
    : Type 0 where
  pub is_text : IsText d Derives text p
  pub unbroken : IsUnbroken d Derives text

module _ {P : Type 0} {d : Dialect} {r : Reading} {Derives : Language P}
    (w : ReadsLanguage d r Derives) where
  explained : (text : List ℕ) (lexemes : List Lexeme) (names : Texts)
      (l : IsLexed d text lexemes names) → Explained w names l.pieces l.last
      (run_of r.step at_most_200 r.start lexemes)
  explained text lexemes names l =
      subst (λ u. Explained w names l.pieces l.last (run_of r.step at_most_200 r.start u))
      (sym l.lexed)
      (explains w names l.pieces l.last (are_tokens names l.reads)
      (is_last l.at l.rest l.last l.stop))

  -- A text that was read stands for what its tokens are derived from, and breaks no rule.
  pub found_by : (text : List ℕ) (lexemes : List Lexeme) (names : Texts) (a : r.Tree)
      → length text ≤ 1048576 → (l : IsLexed d text lexemes names)
      → run_of r.step at_most_200 r.start lexemes ≡ Ok a
      → (p : P) → Derives unlimited_nesting p l.pieces → Found d Derives text p
  found_by text lexemes names a short l h p program =
      let x : Explained w names l.pieces l.last (Ok a)
      = subst (Explained w names l.pieces l.last) h (explained text lexemes names l) in
      let over = at_end l.at l.rest l.last l.stop x.0 in
      let place = ends_at l.reads in
      let end : l.at ≡ length text = omega (arith, place, ap length over) in
      let tokens : IsTokens d text l.pieces = subst (λ v. Reads d 0 text l.pieces v []) end
      (subst (λ v. Reads d 0 text l.pieces l.at v) over l.reads) in
      let agrees : Agrees d names l.pieces = ap (λ v. map (said d v) l.pieces) l.named in
      let clear : Clear d Derives l.pieces = record {
        some = viable w unlimited_nesting names l.pieces x.2 x.3.p agrees;
        shallow
            = viable w at_most_200 names l.pieces x.2 x.3.b agrees;
        small = l.in_range;
      } in
      record {
        is_text = record { pieces = l.pieces; tokens = tokens; program = program };
        unbroken = λ k at b. first.unbroken text l.pieces l.at l.rest names k at
            (read_text text lexemes names short l) over clear p program b;
      }

  -- what was read is spelled by the tokens
  pub spelled_by : (text : List ℕ) (lexemes : List Lexeme) (names : Texts) (a : r.Tree)
      (l : IsLexed d text lexemes names) → run_of r.step at_most_200 r.start lexemes ≡ Ok a
      → r.Spells unlimited_nesting a (map (said d names) l.pieces)
  spelled_by text lexemes names a l h =
      let x : Explained w names l.pieces l.last (Ok a)
      = subst (Explained w names l.pieces l.last) h (explained text lexemes names l) in
      x.1

  stopped_by : (text : List ℕ) (lexemes : List Lexeme) (names : Texts) (e : ReadRefusal)
      → length text ≤ 1048576 → (l : IsLexed d text lexemes names)
      → run_of r.step at_most_200 r.start lexemes ≡ Err e → IsCause d Derives text e
  stopped_by text lexemes names e short l h =
      cause w text l.pieces l.at l.rest names l.last e (read_text text lexemes names short l) l.stop
      (subst (Explained w names l.pieces l.last) h (explained text lexemes names l))

  -- What a reader refuses is the first rule that the text breaks.
  pub refused_by : (text : List ℕ) (lexemes : List Lexeme) (names : Texts) (e : ReadRefusal)
      → length text ≤ 1048576 → IsLexed d text lexemes names
      → Fails e (run_of r.step at_most_200 r.start lexemes) → IsCause d Derives text e
  refused_by text lexemes names (BadByte at) short l h
      = stopped_by text lexemes names (BadByte at) short l h
  refused_by text lexemes names (Syntax at) short l h
      = stopped_by text lexemes names (Syntax at) short l h
  refused_by text lexemes names (NumberRange at) short l h
      = stopped_by text lexemes names (NumberRange at) short l h
  refused_by text lexemes names (TooDeep at) short l h
      = stopped_by text lexemes names (TooDeep at) short l h
  refused_by text lexemes names TextTooLong short l h
      = stopped_by text lexemes names TextTooLong short l h
  refused_by text lexemes names (Memory er) short l h = tt

pub too_long : {P : Type 0} {d : Dialect} {Derives : Language P} (text : List ℕ)
    → 1048576 < length text → IsFirstUnread d Derives text 5 1048576
too_long text h = record { broken = text-rules.TextTooLong h; first = λ k at b. inl refl }

-- ---- the answers of Core's reader

abbrev pub program_of : Texts → Declarations → Program
program_of names decls = record {
  names = names;
  constructors = map data_of decls.constructors.items;
  functions
      = map function decls.functions.items;
}

pub derived : (text : List ℕ) (lexemes : List Lexeme) (names : Texts) (decls : Declarations)
    (l : IsLexed Core text lexemes names) → ReadsProgram lexemes (Ok decls)
    → IsProgram unlimited_nesting (program_of names decls) l.pieces
derived text lexemes names decls l h =
    record {
      names = l.named;
      decls = h.0;
      constructors = h.1;
      functions = h.2;
      spelled
          = spelled_by core_reads text lexemes names h.0 l h.3;
    }

pub found : (text : List ℕ) (lexemes : List Lexeme) (names : Texts) (decls : Declarations)
    → length text ≤ 1048576 → IsLexed Core text lexemes names → ReadsProgram lexemes (Ok decls)
    → Found Core IsProgram text (program_of names decls)
found text lexemes names decls short l h = found_by core_reads text lexemes names h.0 short l h.3
    (program_of names decls) (derived text lexemes names decls l h)

pub found_readable : (text : List ℕ) (lexemes : List Lexeme) (names : Texts) (decls : Declarations)
    → length text ≤ 1048576 → IsLexed Core text lexemes names → ReadsProgram lexemes (Ok decls)
    → IsReadable (program_of names decls)
found_readable text lexemes names decls short l h =
    readable unlimited_nesting (program_of names decls) l.pieces
    (derived text lexemes names decls l h) l.in_range
    (few text l.pieces l.at l.rest short l.reads)

pub refused : (text : List ℕ) (lexemes : List Lexeme) (names : Texts) (e : ReadRefusal)
    → length text ≤ 1048576 → IsLexed Core text lexemes names → ReadsProgram lexemes (Err e)
    → IsCause Core IsProgram text e
refused text lexemes names e short l h = refused_by core_reads text lexemes names e short l h
