-- Behind the header of a text of a module stands the text of a program, which breaks no rule on
-- reading.
use Rattle.std.proofs.Common.{◌≡◌, ℕ, ◌≤◌, List, [], ◌∷◌, ◌++◌, length, map, Ok, Err, refl, sym, ap, subst, ◌∙◌, arith, inl, append_assoc}
use Rattle.std.specs.List.{AllZip}
use Rattle.core_reader.specs.declared.dialect.Dialect.TheVariants.{Core, Modules}
use Rattle.core_reader.specs.declared.token.Token.TheVariants as word
use Rattle.core_reader.specs.declared.token.Lexeme.{Lexeme}
use Rattle.core_reader.specs.declared.refusal.ReadRefusal.{ReadRefusal}
use Rattle.core_reader.specs.declared.refusal.ReadRefusal.TheVariants as refusal
use Rattle.core_reader.specs.Grammar.{unlimited_nesting, at_most_200, lexeme, Decl, SpellsDecls, constructors_of, functions_of}
use Rattle.core_reader.specs.TokensOf.{Piece, Reads, IsTokens, kind_of}
use Rattle.core_reader.specs.WordsOf.{said, written_number, IsInRange}
use Rattle.core_reader.specs.NamesOf.{names_of}
use Rattle.core_reader.specs.LexedOf.{AtEnd, AreInRange, IsLexed}
use Rattle.core_reader.specs.ProgramsOf.{Language}
use Rattle.core_reader.specs.Programs.{IsText, IsProgram}
use Rattle.core_reader.specs.Machine.{Fails}
use Rattle.core_reader.specs.Declaring as core
use Rattle.core_reader.specs.Readable.{IsReadable}
use Rattle.core_reader.specs.Tree.{Program}
use Rattle.core_reader.proofs.ReadingOf.{ReadsLanguage}
use Rattle.core_reader.proofs.CoreReading.{core_laws_in, core_reads}
use Rattle.core_reader.proofs.Explains.{Explained, explains}
use Rattle.core_reader.proofs.FirstBroken.{end_place}
use Rattle.core_reader.proofs.NamingOf.{EachHeld, each_held}
use Rattle.core_reader.proofs.OnlyOne.{one_tokens}
use Rattle.core_reader.proofs.Unique.{goes_on, join, split, ends_at}
use Rattle.core_reader.proofs.Answers.{few, found_by, refused_by}
use Rattle.core_reader.proofs.Readability.{readable}
use Rattle.core_link.specs.Laws.{SplitsAtHeader, HasProgram, ModuleTextHasProgram}
use Rattle.core_link.specs.Module.{Module, IsModuleText, IsNamedPlainly, BreaksNoReadingRule, IsReadCause, SpellsHead, module_header_of}
use Rattle.core_link.specs.Heading.{Start, run}
use Rattle.core_link.proofs.LittleRoom.{are_tokens, in_little}
use Rattle.core_link.proofs.Reading.{module_laws, with_head, header_runs, begins_declaring}
use Rattle.core_link.proofs.Plainly.{IsPlain, named_cause}
use Rattle.core_link.proofs.OfModules.{all_in_range, short}
use Rattle.core_link.proofs.Again.{AreLike, decls_again}
use Rattle.core_link.proofs.Behind.{same_kind, SameBytes, elsewhere, core_pieces, pieces_like, held_behind, same_behind}

-- ---- the parts of a list of images

record Parted {X Y : Type 0} (f : X → Y) (xs : List X) (us vs : List Y) : Type 0 where
  front : List X
  behind : List X
  whole : xs ≡ front ++ behind
  first : map f front ≡ us
  second : map f behind ≡ vs

parted : {X Y : Type 0} (f : X → Y) (xs : List X) (us vs : List Y) → map f xs ≡ us ++ vs
    → Parted f xs us vs
parted f xs [] vs e = record { front = []; behind = xs; whole = refl; first = refl; second = e }
parted f [] (u ∷ us) vs e = absurd cc
parted f (x ∷ xs) (u ∷ us) vs e =
    let tail : map f xs ≡ us ++ vs = cc in
    let head : f x ≡ u = cc in
    let w = parted f xs us vs tail in
    record {
      front = x ∷ w.front;
      behind = w.behind;
      whole = ap (λ v. x ∷ v) w.whole;
      first
          = λ i. head i ∷ w.first i;
      second = w.second;
    }

-- ---- declarations of Core with the words of modules

abbrev Declared : Language (List Decl)
Declared l ds ps = SpellsDecls l ds (map (said Modules (names_of Modules ps)) ps)

declared_read : ReadsLanguage Modules core.core Declared
declared_read = record {
  laws = core_laws_in Modules;
  tree = λ l ds ps h. ds;
  spelled = λ l ds ps h. h;
  made = λ l ds ps h. (ds, h);
  same = λ l p q ps h g e. e;
}

-- ---- numbers stay in the range

range_alike : (vs ws : List Piece) → AllZip SameBytes vs ws → AreInRange Modules vs
    → AreInRange Core ws
range_alike [] [] z h = tt
range_alike [] (w ∷ ws) z h = absurd z
range_alike (v ∷ vs) [] z h = absurd z
range_alike (v ∷ vs) (w ∷ ws) z h = (
  λ digits. subst (λ b. IsInRange (written_number b)) z.0
      (h.0 (same_kind v.bytes ∙ ap (kind_of Core) z.0 ∙ digits)),
  range_alike vs ws z.1 h.1,
)

module _ (text : List ℕ) (m : Module) (read : BreaksNoReadingRule text) where
  short_text : length text ≤ 1048576
  short_text = short text read _ refl

  short_behind : (rest : List ℕ) → SplitsAtHeader text rest m → length rest ≤ 1048576
  short_behind rest h = let e = ends_at h.header_reads in omega (arith, e, short_text)

  behind_in_range : (rest : List ℕ) (h : SplitsAtHeader text rest m) → AreInRange Modules h.behind
  behind_in_range rest h = all_in_range text read h.header h.behind
      (join h.header_reads h.behind_reads)

  -- a program behind the header is readable
  pub readable_behind : (rest : List ℕ) (p : Program) → SplitsAtHeader text rest m → IsText rest p
      → IsReadable p
  readable_behind rest p h stands =
      readable unlimited_nesting p stands.pieces stands.program
      (range_alike h.behind stands.pieces
      (core_pieces h.behind_reads stands.pieces stands.tokens) (behind_in_range rest h))
      (few rest stands.pieces (length rest) [] (short_behind rest h) stands.tokens)

  module _ (is : IsModuleText text m) where
    abbrev last : Lexeme
    last = lexeme (length text) word.End

    abbrev lexemes : List Lexeme
    lexemes = map (said Modules m.names) is.pieces ++ last ∷ []

    plain : IsPlain text
    plain k c us end rest r b =
        let g = goes_on is.tokens (inl refl) r in
        subst IsNamedPlainly g.1 is.program.named

    lexed : IsLexed Modules text lexemes m.names
    lexed = record {
      pieces = is.pieces;
      at = length text;
      rest = [];
      reads = is.tokens;
      named = is.program.spelled.names;
      in_range = all_in_range text read [] is.pieces is.tokens;
      last = last;
      stop = AtEnd refl;
      lexed = refl;
    }

    -- what the reading of the module refuses is a rule that the text breaks
    cause : (e : ReadRefusal) → Fails e (run Start lexemes) → IsReadCause text e
    cause e f = named_cause text plain e
        (refused_by module_laws text lexemes m.names e short_text lexed f)

    goes_well : {A : Type 0} (e : ReadRefusal) → run Start lexemes ≡ Err e → A
    goes_well (refusal.BadByte at) f = absurd (read 1 at (cause (refusal.BadByte at) f).broken)
    goes_well (refusal.Syntax at) f = absurd (read 2 at (cause (refusal.Syntax at) f).broken)
    goes_well (refusal.NumberRange at) f = absurd
        (read 3 at (cause (refusal.NumberRange at) f).broken)
    goes_well (refusal.TooDeep at) f = absurd (read 4 at (cause (refusal.TooDeep at) f).broken)
    goes_well refusal.TextTooLong f = absurd (read 5 1048576 (cause refusal.TextTooLong f).broken)
    goes_well (refusal.Memory er) f =
        absurd (subst (Explained module_laws m.names is.pieces last) f
        (explains module_laws m.names is.pieces last (are_tokens m.names is.tokens) tt))

    record Beheaded : Type 0 where
      rest : List ℕ
      headed : SplitsAtHeader text rest m
      -- with little room
      shallow : SpellsDecls at_most_200 headed.decls (map (said Modules m.names) headed.behind)

    beheaded : Beheaded
    beheaded =
        let s = is.program.spelled.spelled in
        let w = parted (said Modules m.names) is.pieces s.0 s.1 s.4 in
        let cut = split w.front w.behind
        (subst (λ v. Reads Modules 0 text v (length text) []) w.whole is.tokens) in
        let names = m.names in
        let decls = is.program.spelled.decls in
        let spelled : SpellsDecls unlimited_nesting decls (map (said Modules names) w.behind)
        = subst (SpellsDecls unlimited_nesting decls) (sym w.second) s.3 in
        let tail = map (said Modules names) w.behind ++ last ∷ [] in
        let split_up : lexemes ≡ s.0 ++ tail = ap (λ v. v ++ last ∷ []) s.4 ∙ append_assoc s.0 s.1
        (last ∷ []) ∙ ap (λ v. s.0 ++ (v ++ last ∷ [])) (sym w.second) in
        let runs : run Start lexemes ≡ with_head (module_header_of m)
        (core.run at_most_200 (core.top []) tail)
        = ap (run Start) split_up ∙ header_runs at_most_200 (module_header_of m) s.0 tail s.2
        (begins_declaring unlimited_nesting decls (map (said Modules names) w.behind)
        (length text) [] spelled) in
        record {
          rest = cut.between;
          headed = record {
            header = w.front;
            behind = w.behind;
            at = cut.mid;
            header_reads = cut.before;
            behind_reads = cut.after;
            decls = decls;
            constructors = is.program.spelled.constructors;
            functions = is.program.spelled.functions;
            head = subst (SpellsHead (module_header_of m)) (sym w.first) s.2;
            spelled = spelled;
          };
          shallow = in_little declared_read m.names (length text) w.behind decls cut.after spelled
              (core.run at_most_200 (core.top []) tail) refl
              (λ e f. goes_well {A = ⊥} e (runs ∙ ap (with_head (module_header_of m)) f));
        }

    -- ---- the program

    program_behind : HasProgram text m
    program_behind =
        let b = beheaded in
        let h = b.headed in
        let there = elsewhere h.behind_reads 0 in
        let names = names_of Core there.pieces in
        let end : there.end ≡ length b.rest = end_place b.rest there.pieces there.end [] there.reads
        refl in
        let tokens : IsTokens Core b.rest there.pieces
        = subst (λ v. Reads Core 0 b.rest there.pieces v []) end there.reads in
        let all : is.pieces ≡ h.header ++ h.behind = one_tokens text is.pieces
        (h.header ++ h.behind) is.tokens (join h.header_reads h.behind_reads) in
        let named : m.names ≡ names_of Modules (h.header ++ h.behind)
        = is.program.spelled.names ∙ ap (names_of Modules) all in
        let held : EachHeld Modules m.names h.behind
        = held_behind m.names h.header h.behind
        (subst (λ v. EachHeld Modules v (h.header ++ h.behind)) (sym named)
        (each_held Modules [] (h.header ++ h.behind))) in
        let like : AreLike m.names names (map (said Modules m.names) h.behind)
        (map (said Core names) there.pieces) = pieces_like m.names names h.behind there.pieces
        there.alike held (each_held Core [] there.pieces) in
        let loose = decls_again m.names names unlimited_nesting h.decls
        (map (said Modules m.names) h.behind) (map (said Core names) there.pieces) h.spelled
        like in
        let tight = decls_again m.names names at_most_200 h.decls
        (map (said Modules m.names) h.behind) (map (said Core names) there.pieces) b.shallow
        like in
        let p : Program = record {
          names = names;
          constructors = constructors_of loose.decls;
          functions
              = functions_of loose.decls;
        } in
        let program : IsProgram unlimited_nesting p there.pieces
        = record {
          names = refl;
          decls = loose.decls;
          constructors = refl;
          functions
              = refl;
          spelled = loose.spelled;
        } in
        let end_token = lexeme (length b.rest) word.End in
        let lexed : IsLexed Core b.rest (map (said Core names) there.pieces ++ end_token ∷ []) names
        = record {
          pieces = there.pieces;
          at = length b.rest;
          rest = [];
          reads = tokens;
          named = refl;
          in_range = range_alike h.behind there.pieces there.alike (behind_in_range b.rest h);
          last = end_token;
          stop = AtEnd refl;
          lexed = refl;
        } in
        let ran : core.run at_most_200 (core.top [])
        (map (said Core names) there.pieces ++ end_token ∷ []) ≡ Ok tight.decls
        = core_reads.laws.whole at_most_200 tight.decls (map (said Core names) there.pieces)
        (length b.rest) [] tight.spelled in
        let found = found_by core_reads b.rest
        (map (said Core names) there.pieces ++ end_token ∷ []) names tight.decls
        (short_behind b.rest h) lexed ran p program in
        record {
          rest = b.rest;
          program = p;
          headed = h;
          read = found.unbroken;
          stands = found.is_text;
          same = same_behind text b.rest m p is h found.is_text;
        }

pub each_has_program : ModuleTextHasProgram
each_has_program text m read is = program_behind text m read is
