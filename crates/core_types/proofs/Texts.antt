-- What the reader of a text with types answers, by the text alone.
use Rattle.std.proofs.Common.{◌≡◌, ℕ, suc, ◌+◌, ◌*◌, ◌<◌, ◌≤◌, ◌^◌, List, [], ◌∷◌, ◌++◌, length, map, Ok, Err, refl, sym, ap, subst, arith, length-append}
use Rattle.std.specs.Prelude.{All, sum_by}
use Rattle.std.specs.List.{flat_map}
use Rattle.std.proofs.lemmas.List.Sums.{sum_by-cons}
use Rattle.std.proofs.lemmas.List.Elements.{All-nil, All-cons, All-append}
use Rattle.core_reader.specs.declared.dialect.Dialect.TheVariants.{Types}
use Rattle.core_reader.specs.declared.token.Token.{Token}
use Rattle.core_reader.specs.declared.token.Token.TheVariants as word
use Rattle.core_reader.specs.declared.token.Lexeme.{Lexeme}
use Rattle.core_reader.specs.declared.refusal.ReadRefusal.{ReadRefusal}
use Rattle.core_reader.specs.Tree.{function}
use Rattle.core_reader.specs.Grammar.{NestingLimit, unlimited_nesting, lexeme, binders}
use Rattle.core_reader.specs.Grammar as core
use Rattle.core_reader.specs.TokensOf.{Piece, Reads, Stops, Passes, Takes}
use Rattle.core_reader.specs.WordsOf.{said}
use Rattle.core_reader.specs.LexedOf.{IsLexed, AreInRange}
use Rattle.core_reader.specs.Size.{function_size}
use Rattle.core_reader.specs.Different.{AreDistinct}
use Rattle.core_reader.specs.Readable.{ReadableData, ReadableFunction, IsReadable}
use Rattle.core_reader.proofs.NamingOf.{Texts, EachHeld, each_held}
use Rattle.core_reader.proofs.Unique.{ends_at, longest_some}
use Rattle.core_reader.proofs.Readability.{EachKnown, front_known, back_known, known, decl_readable, expr_small, binders_length, different_from}
use Rattle.core_reader.proofs.Answers.{Found, found_by, spelled_by, refused_by}
use Rattle.core_types.specs.declared.reader.Declarations.{Declarations}
use Rattle.core_types.specs.Source.{Written, WrittenTypes, Constructor, Source, count, data_of, data_in, erased}
use Rattle.core_types.specs.SourceOf.{type_of, signature_of}
use Rattle.core_types.specs.Grammar.{SpellsType, SpellsTypes, Variable, Constant, Bracket, None, More, SpellsConstructors, Decl, Declares, Signs, Defines, SpellsDecl, SpellsDecls, types_of, functions_of}
use Rattle.core_types.specs.Text.{IsSource, IsReadCause}
use Rattle.core_types.specs.Reading.{ReadsSource}
use Rattle.core_types.proofs.SourceReading.{source_reads}

abbrev pub source_from : List (List ℕ) → Declarations → Source
source_from names found = record {
  names = names;
  types = map type_of found.types.items;
  signatures = map signature_of found.signatures.items;
  functions = map function found.functions.items;
}

pub derived : (text : List ℕ) (lexemes : List Lexeme) (names : List (List ℕ)) (decls : Declarations)
    (l : IsLexed Types text lexemes names) → ReadsSource lexemes (Ok decls)
    → IsSource unlimited_nesting (source_from names decls) l.pieces
derived text lexemes names decls l h =
    record {
      names = l.named;
      decls = h.0;
      types = h.1;
      signatures = h.2;
      functions = h.3;
      spelled
          = spelled_by source_reads text lexemes names h.0 l h.4;
    }

pub found : (text : List ℕ) (lexemes : List Lexeme) (names : List (List ℕ)) (decls : Declarations)
    → length text ≤ 1048576 → IsLexed Types text lexemes names → ReadsSource lexemes (Ok decls)
    → Found Types IsSource text (source_from names decls)
found text lexemes names decls short l h = found_by source_reads text lexemes names h.0 short l h.4
    (source_from names decls) (derived text lexemes names decls l h)

pub refused : (text : List ℕ) (lexemes : List Lexeme) (names : List (List ℕ)) (e : ReadRefusal)
    → length text ≤ 1048576 → IsLexed Types text lexemes names → ReadsSource lexemes (Err e)
    → IsReadCause text e
refused text lexemes names e short l h = refused_by source_reads text lexemes names e short l h

-- ---- the program without its types is readable

type_some : (l : NestingLimit) (depth : ℕ) (t : Written) (ts : List Lexeme)
    → SpellsType l depth t ts → 1 ≤ length ts
type_some l depth t ts (Variable d b) = omega arith
type_some l depth t ts (Constant d b) = omega arith
type_some l depth t ts (Bracket d p q u us vs room g e) = omega (arith, ap length e)

types_count : (l : NestingLimit) (depth : ℕ) (ts : WrittenTypes) (us : List Lexeme)
    → SpellsTypes l depth ts us → count ts ≤ length us
types_count l depth ts us (None d) = omega arith
types_count l depth ts us (More d t more xs ys zs h g e) =
    let one = type_some l depth t xs h in
    let rest = types_count l depth more ys g in
    omega (arith, one, rest, ap length e, length-append xs ys)

constructors_readable : (names : Texts) (l : NestingLimit) (sign : Token) (cs : List Constructor)
    (ts : List Lexeme) → SpellsConstructors l sign cs ts → EachKnown names ts
    → length ts ≤ 2147483647 → All (ReadableData names) (map data_of cs)
constructors_readable names l sign [] ts h k short = All-nil (ReadableData names)
constructors_readable names l sign (c ∷ cs) ts h k short =
    let k2 = subst (EachKnown names) h.5 k in
    let con = h.3 in
    let k3 = subst (EachKnown names) con.2 (front_known names h.1 h.2 k2.1) in
    let few = types_count l 0 c.fields con.0 con.1 in
    let total : length ts ≡ suc (length h.1 + length h.2)
    = omega (arith, ap length h.5, length-append h.1 h.2) in
    let first : length h.1 ≡ suc (length con.0) = omega (arith, ap length con.2) in
    All-cons (ReadableData names) (data_of c) (map data_of cs)
    (k3.0, omega (arith, few, total, first, short))
    (constructors_readable names l _ cs h.2 h.4 (back_known names h.1 h.2 k2.1)
    (omega (arith, total, short)))

constructors_small : (l : NestingLimit) (sign : Token) (cs : List Constructor) (ts : List Lexeme)
    → SpellsConstructors l sign cs ts → 2 * length (map data_of cs) ≤ length ts
constructors_small l sign [] ts h = omega arith
constructors_small l sign (c ∷ cs) ts h =
    let rest = constructors_small l _ cs h.2 h.4 in
    omega (arith, rest, ap length h.5, length-append h.1 h.2, ap length h.3.2)

abbrev ReadableDecl : Texts → Decl → Type 0
ReadableDecl names (Declares d) = All (ReadableData names) (data_in d)
ReadableDecl names (Signs s) = Unit {0}
ReadableDecl names (Defines f) = ReadableFunction names f

abbrev EachReadable : Texts → List Decl → Type 0
EachReadable names [] = Unit {0}
EachReadable names (d ∷ ds) = ReadableDecl names d × EachReadable names ds

readable_decl : (names : Texts) (l : NestingLimit) (d : Decl) (ts : List Lexeme) → SpellsDecl l d ts
    → EachKnown names ts → length ts ≤ 2147483647 → ReadableDecl names d
readable_decl names l (Declares d) ts h k short =
    let k2 = (subst (EachKnown names) h.5 k).1.1 in
    let close = lexeme h.1 word.Semicolon ∷ [] in
    let rest = h.2 ++ close in
    let k3 = front_known names h.2 close (back_known names (binders d.params) rest k2) in
    constructors_readable names l word.Equals d.constructors h.2 h.4 k3
    (omega (
      arith,
      short,
      ap length h.5,
      length-append (binders d.params) rest,
      length-append h.2 close,
    ))
readable_decl names l (Signs s) ts h k short = tt
readable_decl names l (Defines f) ts h k short = decl_readable names l (core.Defines f) ts h k

decls_readable : (names : Texts) (l : NestingLimit) (ds : List Decl) (ts : List Lexeme)
    → SpellsDecls l ds ts → EachKnown names ts → length ts ≤ 2147483647 → EachReadable names ds
decls_readable names l [] ts h k short = tt
decls_readable names l (d ∷ ds) ts h k short =
    let k2 = subst (EachKnown names) h.4 k in
    let total : length ts ≡ length h.0 + length h.1
    = omega (arith, ap length h.4, length-append h.0 h.1) in (
      readable_decl names l d h.0 h.2 (front_known names h.0 h.1 k2) (omega (arith, total, short)),
      decls_readable names l ds h.1 h.3 (back_known names h.0 h.1 k2)
          (omega (arith, total, short)),
    )

all_constructors : (names : Texts) (ds : List Decl) → EachReadable names ds
    → All (ReadableData names) (flat_map data_in (types_of ds))
all_constructors names [] h = All-nil (ReadableData names)
all_constructors names (Declares d ∷ ds) h = All-append (ReadableData names) (data_in d)
    (flat_map data_in (types_of ds)) h.0 (all_constructors names ds h.1)
all_constructors names (Signs s ∷ ds) h = all_constructors names ds h.1
all_constructors names (Defines f ∷ ds) h = all_constructors names ds h.1

all_functions : (names : Texts) (ds : List Decl) → EachReadable names ds
    → All (ReadableFunction names) (functions_of ds)
all_functions names [] h = All-nil (ReadableFunction names)
all_functions names (Declares d ∷ ds) h = all_functions names ds h.1
all_functions names (Signs s ∷ ds) h = all_functions names ds h.1
all_functions names (Defines f ∷ ds) h = All-cons (ReadableFunction names) f (functions_of ds) h.0
    (all_functions names ds h.1)

abbrev size_of : List Decl → ℕ
size_of ds = 2 * length (flat_map data_in (types_of ds)) + sum_by function_size (functions_of ds)

decls_small : (l : NestingLimit) (ds : List Decl) (ts : List Lexeme) → SpellsDecls l ds ts
    → size_of ds ≤ length ts
decls_small l [] ts h = omega arith
decls_small l (Declares d ∷ ds) ts h =
    let g = h.2 in
    let close = lexeme g.1 word.Semicolon ∷ [] in
    let later = decls_small l ds h.1 h.3 in
    let here = constructors_small l word.Equals d.constructors g.2 g.4 in
    omega (
      arith,
      later,
      here,
      ap length h.4,
      length-append h.0 h.1,
      ap length g.5,
      length-append (binders d.params) (g.2 ++ close),
      length-append g.2 close,
      length-append (data_in d) (flat_map data_in (types_of ds)),
    )
decls_small l (Signs s ∷ ds) ts h =
    let later = decls_small l ds h.1 h.3 in
    omega (arith, later, ap length h.4, length-append h.0 h.1)
decls_small l (Defines f ∷ ds) ts h =
    let g = h.2 in
    let close = lexeme g.1 word.Semicolon ∷ [] in
    let later = decls_small l ds h.1 h.3 in
    let here = expr_small l 0 f.body g.2 g.3 in
    let sum : sum_by function_size (f ∷ functions_of ds) ≡ function_size f + sum_by function_size
    (functions_of ds) = sum_by-cons function_size f (functions_of ds) in
    omega (
      arith,
      later,
      here,
      sum,
      ap length h.4,
      length-append h.0 h.1,
      ap length g.4,
      length-append (binders f.params) (lexeme g.0 word.Equals ∷ (g.2 ++ close)),
      length-append g.2 close,
      binders_length f.params,
    )

map_length : (names : Texts) (ps : List Piece) → length (map (said Types names) ps) ≡ length ps
map_length names [] = refl
map_length names (p ∷ ps) = ap suc (map_length names ps)

pub source_readable : (l : NestingLimit) (s : Source) (pieces : List Piece) → IsSource l s pieces
    → AreInRange Types pieces → length pieces ≤ 1048576 → IsReadable (erased s)
source_readable l s pieces h small short =
    let held : EachHeld Types s.names pieces = subst (λ v. EachHeld Types v pieces) (sym h.names)
    (each_held Types [] pieces) in
    let each = known Types s.names pieces held small in
    let fits : length (map (said Types s.names) pieces) ≤ 1048576
    = omega (arith, short, map_length s.names pieces) in
    let r = decls_readable s.names l h.decls (map (said Types s.names) pieces) h.spelled each
    (omega (arith, fits)) in
    let n = decls_small l h.decls (map (said Types s.names) pieces) h.spelled in
    record {
      different = subst AreDistinct (sym h.names) (different_from Types [] pieces tt);
      constructors = subst (λ ts. All (ReadableData s.names) (flat_map data_in ts)) h.types
          (all_constructors s.names h.decls r);
      functions = subst (All (ReadableFunction s.names)) h.functions
          (all_functions s.names h.decls r);
      size = subst (λ v. v < 2 ^ 64)
          (λ i. 2 * length (flat_map data_in (h.types i)) + sum_by function_size (h.functions i))
          (omega (arith, n, fits));
    }

fewer : {at end : ℕ} {bytes rest : List ℕ} {pieces : List Piece}
    → Reads Types at bytes pieces end rest → at + length pieces ≤ end
fewer (Stops at rest) = omega arith
fewer (Passes at n bytes pieces end rest h r) = let f = fewer r in omega arith
fewer (Takes at n bytes k pieces end rest h r) = let f = fewer r in let g = longest_some bytes n k h
    in omega arith

pub found_readable : (text : List ℕ) (lexemes : List Lexeme) (names : List (List ℕ))
    (decls : Declarations) → length text ≤ 1048576 → IsLexed Types text lexemes names
    → ReadsSource lexemes (Ok decls) → IsReadable (erased (source_from names decls))
found_readable text lexemes names decls short l h =
    let f = fewer l.reads in
    let g = ends_at l.reads in
    source_readable unlimited_nesting (source_from names decls) l.pieces
    (derived text lexemes names decls l h) l.in_range (omega (arith, f, g, short))
