-- What the reader answers, by the text alone.
use Rattle.std.proofs.Common.{◌≡◌, ℕ, ◌+◌, ◌≤◌, List, [], length, map, take, Ok, Err, sym, ap, subst, arith}
use Rattle.core_reader.specs.declared.dialect.Dialect.TheVariants.{Lambdas}
use Rattle.core_reader.specs.declared.token.Token.TheVariants as word
use Rattle.core_reader.specs.declared.token.Lexeme.{Lexeme}
use Rattle.core_reader.specs.declared.refusal.ReadRefusal.{ReadRefusal}
use Rattle.core_reader.specs.Tree.{data_of}
use Rattle.core_reader.specs.Grammar.{unlimited_nesting, at_most_200}
use Rattle.core_reader.specs.TokensOf.{Piece, Reads, Stops, Passes, Takes, IsTokens}
use Rattle.core_reader.specs.ReadingOf.{run_of}
use Rattle.core_reader.specs.LexedOf.{StopsAt, AtEnd, AtBad, AtLarge, IsLexed}
use Rattle.core_reader.proofs.NamingOf.{Texts}
use Rattle.core_reader.proofs.ReadingOf.{IsLast}
use Rattle.core_reader.proofs.Explains.{AreTokens, Explained, explains}
use Rattle.core_reader.proofs.Proper.{no_bad}
use Rattle.core_reader.proofs.Unique.{ends_at, longest_some}
use Rattle.core_reader.proofs.Answers.{Found, found_by, spelled_by, refused_by}
use Rattle.lambda_reader.specs.declared.declarations.Declarations.{Declarations}
use Rattle.lambda_reader.specs.Tree.{Program}
use Rattle.lambda_reader.specs.Code.{function}
use Rattle.lambda_reader.specs.Programs.{Decl, IsProgram, IsUnreadCause}
use Rattle.lambda_reader.specs.Readable.{IsReadable}
use Rattle.lambda_reader.specs.Reserved.{IsFirstReserved}
use Rattle.lambda_reader.specs.Reserving.{first_reserved}
use Rattle.lambda_reader.specs.Declaring.{top, step, run, ReadsProgram}
use Rattle.lambda_reader.proofs.Reading.{lambda_reads}
use Rattle.lambda_reader.proofs.Readability.{readable}
use Rattle.lambda_reader.proofs.FirstReserved.{reserved_first}

abbrev pub program_of : Texts → Declarations → Program
program_of names found = record {
  names = names;
  constructors = map data_of found.constructors.items;
  functions = map function found.functions.items;
}

-- ---- the tokens of a text that was read

are_tokens : {at end : ℕ} {bytes rest : List ℕ} {pieces : List Piece} (names : Texts)
    → Reads Lambdas at bytes pieces end rest → AreTokens Lambdas names pieces
are_tokens names (Stops at rest) = tt
are_tokens names (Passes at n bytes pieces end rest h r) = are_tokens names r
are_tokens names (Takes at n bytes k pieces end rest h r)
    = (no_bad Lambdas names (take n bytes) k h.is_token, are_tokens names r)

last_token : (at : ℕ) (rest : List ℕ) (last : Lexeme) → StopsAt Lambdas at rest last
    → IsLast last.token
last_token at rest last (AtEnd e) = tt
last_token at rest last (AtBad e) = tt
last_token at rest last (AtLarge n l o) = tt

at_end : (at : ℕ) (rest : List ℕ) (last : Lexeme) → StopsAt Lambdas at rest last
    → last.token ≡ word.End → rest ≡ []
at_end at rest last (AtEnd e) h = e
at_end at rest last (AtBad e) h = absurd cc
at_end at rest last (AtLarge n l o) h = absurd cc

-- each token has a byte
fewer : {at end : ℕ} {bytes rest : List ℕ} {pieces : List Piece}
    → Reads Lambdas at bytes pieces end rest → at + length pieces ≤ end
fewer (Stops at rest) = omega arith
fewer (Passes at n bytes pieces end rest h r) = let f = fewer r in omega arith
fewer (Takes at n bytes k pieces end rest h r) = let f = fewer r in let g = longest_some bytes n k h
    in omega arith

few : (text : List ℕ) (pieces : List Piece) (at : ℕ) (rest : List ℕ) → length text ≤ 1048576
    → Reads Lambdas 0 text pieces at rest → length pieces ≤ 1048576
few text pieces at rest short r = let f = fewer r in let g = ends_at r in omega arith

module _ (text : List ℕ) (lexemes : List Lexeme) (names : Texts)
    (l : IsLexed Lambdas text lexemes names) where
  tokens_read : (ds : List Decl) → run at_most_200 (top []) lexemes ≡ Ok ds
      → IsTokens Lambdas text l.pieces
  tokens_read ds h =
      let e : Explained lambda_reads names l.pieces l.last
      (run_of step at_most_200 (top []) lexemes) =
      subst (λ u. Explained lambda_reads names l.pieces l.last (run_of step at_most_200 (top []) u))
      (sym l.lexed)
      (explains lambda_reads names l.pieces l.last (are_tokens names l.reads)
      (last_token l.at l.rest l.last l.stop)) in
      let x : Explained lambda_reads names l.pieces l.last (Ok ds)
      = subst (Explained lambda_reads names l.pieces l.last) h e in
      let over = at_end l.at l.rest l.last l.stop x.0 in
      let placed = ends_at l.reads in
      let end : l.at ≡ length text = omega (arith, placed, ap length over) in
      subst (λ v. Reads Lambdas 0 text l.pieces v []) end
      (subst (λ v. Reads Lambdas 0 text l.pieces l.at v) over l.reads)

  pub reserved : (found : Declarations) → ReadsProgram lexemes (Ok found)
      → IsFirstReserved text (first_reserved names lexemes)
  reserved found h = reserved_first text lexemes names l (tokens_read h.0 h.3)

  derived : (found : Declarations) → ReadsProgram lexemes (Ok found)
      → IsProgram unlimited_nesting (program_of names found) l.pieces
  derived found h = record {
    names = l.named;
    decls = h.0;
    constructors = h.1;
    functions = h.2;
    spelled
        = spelled_by lambda_reads text lexemes names h.0 l h.3;
  }

  pub is_found : length text ≤ 1048576 → (found : Declarations) → ReadsProgram lexemes (Ok found)
      → Found Lambdas IsProgram text (program_of names found)
  is_found short found h = found_by lambda_reads text lexemes names h.0 short l h.3
      (program_of names found) (derived found h)

  pub is_readable : length text ≤ 1048576 → (found : Declarations) → ReadsProgram lexemes (Ok found)
      → IsReadable (program_of names found)
  is_readable short found h = readable unlimited_nesting (program_of names found) l.pieces
      (derived found h) l.in_range (few text l.pieces l.at l.rest short l.reads)

  pub is_refused : length text ≤ 1048576 → (e : ReadRefusal) → ReadsProgram lexemes (Err e)
      → IsUnreadCause text e
  is_refused short e h = refused_by lambda_reads text lexemes names e short l h
