-- What the reader of a module answers, by the text alone.
use Rattle.std.proofs.Common.{◌≡◌, ℕ, ◌≤◌, List, [], ◌++◌, length, map, Some, None, Result, Ok, Err, sym, ap, subst, ◌∙◌}
use Rattle.std.proofs.lemmas.List.{append-nil}
use Rattle.core_reader.specs.declared.dialect.Dialect.TheVariants.{Modules}
use Rattle.core_reader.specs.declared.token.Lexeme.{Lexeme}
use Rattle.core_reader.specs.declared.parser.Declarations.{Declarations}
use Rattle.core_reader.specs.declared.refusal.ReadRefusal.{ReadRefusal}
use Rattle.core_reader.specs.declared.refusal.ReadRefusal.TheVariants as refusal
use Rattle.core_reader.specs.Tree.{data_of, function}
use Rattle.core_reader.specs.Grammar.{unlimited_nesting, at_most_200, Decl}
use Rattle.core_reader.specs.LexedOf.{StopsAt, AtEnd, AtBad, AtLarge, IsLexed}
use Rattle.core_reader.specs.Parsed.{ReadsProgram}
use Rattle.core_reader.specs.Machine.{Fails}
use Rattle.core_reader.specs.Declaring as core
use Rattle.core_reader.proofs.ReadingOf.{IsLast}
use Rattle.core_reader.proofs.FirstBroken.{ReadText}
use Rattle.core_reader.specs.Readable.{IsReadable}
use Rattle.core_reader.proofs.Answers.{few, found_by, spelled_by, refused_by}
use Rattle.core_reader.proofs.Readability.{readable_in}
use Rattle.core_link.specs.Module.{Module, IsSpelled, IsModuleText, BreaksNoReadingRule, IsReadCause, IsFirstReadingFault, ModuleHeader, body}
use Rattle.core_link.specs.Heading.{Start, Declares, run, misnamed, ModuleParts}
use Rattle.core_link.proofs.Reading.{module_laws, behind_runs, with_head}
use Rattle.core_link.proofs.Plainly.{IsPlain, named_plainly, misnamed_first, named_cause, named_unbroken, derived}

last_token : (at : ℕ) (rest : List ℕ) (last : Lexeme) → StopsAt Modules at rest last
    → IsLast last.token
last_token at rest last (AtEnd e) = tt
last_token at rest last (AtBad e) = tt
last_token at rest last (AtLarge n l o) = tt

read_text : (text : List ℕ) (lexemes : List Lexeme) (names : List (List ℕ))
    (short : length text ≤ 1048576) (l : IsLexed Modules text lexemes names)
    → ReadText Modules text l.pieces l.at l.rest names
read_text text lexemes names short l = record
    { short = short; reads = l.reads; named = l.named; in_range = l.in_range }

-- the module of a header and declarations
abbrev pub module_from : List (List ℕ) → ModuleHeader → Declarations → Module
module_from names h decls = record {
  names = names;
  name = h.name;
  exports = h.exports;
  imports = h.imports;
  constructors = map data_of decls.constructors.items;
  functions = map function decls.functions.items;
}

pub misnamed_refused : (text : List ℕ) (lexemes : List Lexeme) (names : List (List ℕ)) (at : ℕ)
    → length text ≤ 1048576 → IsLexed Modules text lexemes names → misnamed names lexemes ≡ Some at
    → IsFirstReadingFault text 2 at
misnamed_refused text lexemes names at short l m = misnamed_first text lexemes names at l
    (read_text text lexemes names short l) (last_token l.at l.rest l.last l.stop) m

module _ (text : List ℕ) (lexemes : List Lexeme) (names : List (List ℕ))
    (short : length text ≤ 1048576) (l : IsLexed Modules text lexemes names)
    (plain : misnamed names lexemes ≡ None) where
  is_plain : IsPlain text
  is_plain = named_plainly text lexemes names l (read_text text lexemes names short l) plain

  pub refused : (e : ReadRefusal) → Fails e (run Start lexemes) → IsReadCause text e
  refused e f = named_cause text is_plain e (refused_by module_laws text lexemes names e short l f)

  fails_behind : (h : ModuleHeader) (e : ReadRefusal) (r : Result (List Decl) ReadRefusal)
      → Fails e r → Fails e (with_head h r)
  fails_behind h (refusal.BadByte at) r f = ap (with_head h) f
  fails_behind h (refusal.Syntax at) r f = ap (with_head h) f
  fails_behind h (refusal.NumberRange at) r f = ap (with_head h) f
  fails_behind h (refusal.TooDeep at) r f = ap (with_head h) f
  fails_behind h refusal.TextTooLong r f = ap (with_head h) f
  fails_behind h (refusal.Memory er) r f = tt

  -- the header was read, and the declarations are refused
  pub declarations_refused : (h : ModuleHeader) (rest : List Lexeme) (e : ReadRefusal)
      → run Start lexemes ≡ run (Declares h (core.top [])) rest → ReadsProgram rest (Err e)
      → IsReadCause text e
  declarations_refused h rest e begun f =
      refused e
      (subst (Fails e) (sym (begun ∙ behind_runs at_most_200 h (core.top []) rest))
      (fails_behind h e (core.run at_most_200 (core.top []) rest) f))

  pub record Found (m : Module) : Type 0 where
    pub is_text : IsModuleText text m
    pub unbroken : BreaksNoReadingRule text
    pub readable : IsReadable (body m)

  pub found : (h : ModuleHeader) (rest : List Lexeme) (decls : Declarations)
      → run Start lexemes ≡ run (Declares h (core.top [])) rest → ReadsProgram rest (Ok decls)
      → Found (module_from names h decls)
  found h rest decls begun f =
      let a : ModuleParts = (h, f.0) in
      let ran : run Start lexemes ≡ Ok a = begun ∙ behind_runs at_most_200 h (core.top []) rest ∙ ap
      (with_head h) f.3 in
      let m = module_from names h decls in
      let tokens = spelled_by module_laws text lexemes names a l ran in
      let spelled : IsSpelled unlimited_nesting m l.pieces
      = record {
        names = l.named;
        decls = f.0;
        constructors = f.1;
        functions = f.2;
        spelled
            = tokens;
      } in
      let x = found_by module_laws text lexemes names a short l ran m spelled in
      record {
        is_text = record {
          pieces = x.is_text.pieces;
          tokens = x.is_text.tokens;
          program
              = derived text is_plain unlimited_nesting m x.is_text.pieces (length text) []
              x.is_text.tokens x.is_text.program;
        };
        unbroken = named_unbroken text is_plain x.unbroken;
        readable = readable_in Modules unlimited_nesting (body m) f.0 l.pieces tokens.0 tokens.1 []
            l.named f.1 f.2 tokens.3
            (tokens.4 ∙ ap (λ v. tokens.0 ++ v) (sym (append-nil tokens.1))) l.in_range
            (few text l.pieces l.at l.rest short l.reads);
      }
