-- The canonical text of a program stands for it.
use Rattle.std.proofs.Common.{◌≡◌, ℕ, ◌+◌, ◌≤◌, pos, false, List, [], ◌∷◌, ◌++◌, length, refl, sym, ap, subst, ◌∙◌, arith, append_assoc}
use Rattle.std.specs.Prelude.{codes, decimal, All, Result, Ok, Err, IfOk, IfErr}
use Rattle.std.specs.List.{AllZip, flat_map}
use Rattle.std.proofs.lemmas.Bool.{lt-ltb}
use Rattle.std.proofs.lemmas.Int.{ints}
use Rattle.std.proofs.lemmas.List.{append-nil}
use Rattle.std.proofs.lemmas.List.Elements.{All-head, All-tail}
use Rattle.std.proofs.Math.Nat.{le-max_left, le-max_right}
use Rattle.core_reader.specs.declared.dialect.Dialect.TheVariants as dialect
use Rattle.core_reader.specs.declared.look.TokenKind.TheVariants.{Lower, Digits}
use Rattle.core_reader.specs.declared.token.Token.TheVariants as word
use Rattle.core_reader.specs.declared.syntax.Core.{Core}
use Rattle.core_reader.specs.declared.refusal.ReadRefusal.{ReadRefusal}
use Rattle.core_reader.specs.declared.refusal.ReadRefusal.TheVariants as refusal
use Rattle.core_reader.specs.Tree.{Data, Function, Program, program}
use Rattle.core_reader.specs.Grammar.{NestingLimit, unlimited_nesting, at_most_200, lexeme, name_id, binders, Decl, Declares, Defines, SpellsDecl, SpellsDecls, constructors_of, functions_of}
use Rattle.core_reader.specs.Tokens.{Piece, IsTokens, Reads}
use Rattle.core_reader.specs.Words.{number_in, IsInRange}
use Rattle.core_reader.specs.Lexed.{AreInRange}
use Rattle.core_reader.specs.Names.{names_of}
use Rattle.core_reader.specs.Programs.{IsProgram, IsText}
use Rattle.core_reader.specs.Rules.{IsUnbroken, IsCause}
use Rattle.core_reader.specs.Readable.{ReadableData, ReadableFunction, IsReadable}
use Rattle.core_print.specs.Canonical.{name_text, binders_text, expr_text, data_line, function_line, canonical}
use Rattle.core_print.specs.Depth.{expr_depth, functions_depth, program_depth}
use Rattle.core_print.specs.Same.{SameData, SameFunction, SameProgram}
use Rattle.core_print.specs.Laws.{CanonicalTextReadsBack, CanonicalTextIsOfOneProgram, IsMemory, RereadsSameProgram}
use Rattle.core_reader.proofs.FirstBroken.{Clear, unbroken}
use Rattle.core_reader.proofs.Naming.{Texts, each_held}
use Rattle.core_print.proofs.Numerals.{count_numeral}
use Rattle.core_reader.proofs.OnlyOne.{one_program}
use Rattle.core_print.proofs.Rereading.{apart_more, Meaning, Back, Both, Named, Nothing, OneToken, as_text, back_as, nothing, token, semicolon, equals, constructor, space, both}
use Rattle.core_print.proofs.Reprinted.{Roomy, BindersAgain, ExprAgain, name_again, apart_binders, binders_again, expr_again}
use Rattle.seq.specs.Lists.{or_empty}

module _ (limit : ℕ) (N : Texts) where
  abbrev DataAgain : Data → Meaning
  DataAgain d names ts = (c : Data) ×
      ((room : NestingLimit) → Roomy limit room → SpellsDecl room (Declares c) ts)
      × SameData N names d c

  abbrev FunctionAgain : Function → Meaning
  FunctionAgain f names ts = (g : Function) ×
      ((room : NestingLimit) → Roomy limit room → SpellsDecl room (Defines g) ts)
      × SameFunction N names f g

  line_end : (Q : Meaning) (y : List ℕ) → Back Q y → Back (Both (OneToken word.Semicolon) Q)
      (codes ";\n" ++ y)
  line_end Q y q = both (OneToken word.Semicolon) Q (codes ";") (10 ∷ y) refl semicolon
      (space Q 10 y refl q)

  count : (n : ℕ) → n ≤ 2147483647 → Back (OneToken (word.Number false (pos n))) (decimal n)
  count n l =
      let c = count_numeral n (omega arith) in
      let small : IsInRange (pos n) = (omega (arith, ints), omega (arith, ints)) in
      token (decimal n) Digits (word.Number false (pos n)) c.0.kind
      (λ names i. word.Number (c.1 i) (c.0.number i))
      (λ e. subst IsInRange (sym c.0.number) small)

  data_again : (d : Data) → ReadableData N d → (Q : Meaning) (y : List ℕ) → Back Q y
      → Back (Both (DataAgain d) Q) (data_line N d ++ y)
  data_again d r Q y q =
      let x = name_text N d.name in
      let n = decimal d.fields in
      let end = codes ";\n" ++ y in
      let Count = OneToken (word.Number false (pos d.fields)) in
      let End = Both (OneToken word.Semicolon) Q in
      let Fields = Both Count End in
      let Inside = Both (Named word.Con r.0.0) Fields in
      let text = codes "data " ++ (x ++ (codes " " ++ (n ++ end))) in
      as_text (Both (DataAgain d) Q) text (data_line N d ++ y)
      (sym (append_assoc (codes "data " ++ x ++ codes " " ++ n) (codes ";\n") y ∙ append_assoc
      (codes "data " ++ x ++ codes " ") n end ∙ append_assoc (codes "data " ++ x) (codes " ")
      (n ++ end) ∙ append_assoc (codes "data ") x (codes " " ++ (n ++ end))))
      (back_as (Both (OneToken word.Data) Inside) (Both (DataAgain d) Q) text
      (λ names ts m.
      let a = m.second in
      let b = a.second in
      let c = b.second in
      let at = a.first.at in
      let number = number_in names r.0.0 in
      record {
        front = lexeme m.first.0 word.Data ∷ lexeme at (word.Con (name_id number)) ∷ lexeme
            b.first.0 (word.Number false (pos d.fields)) ∷ lexeme c.first.0 word.Semicolon ∷ [];
        behind = c.behind;
        first = (
          record { name = number; fields = d.fields; at = at },
          (λ room some. (m.first.0, b.first.0, c.first.0, refl)),
          (r.0.1 ∙ sym a.first.number, refl),
        );
        second = c.second;
        whole = m.whole ∙
            (λ i. m.first.1 i ++
            (a.whole ∙
            (λ j. a.first.whole j ++
            (b.whole ∙ (λ k. b.first.1 k ++ (c.whole ∙ ap (λ w. w ++ c.behind) c.first.1) k)) j))
            i);
      })
      (both (OneToken word.Data) Inside (codes "data") (32 ∷ (x ++ (codes " " ++ (n ++ end)))) refl
      (token (codes "data") Lower word.Data refl (λ names. refl) (λ e. absurd cc))
      (space Inside 32 (x ++ (codes " " ++ (n ++ end))) refl
      (both (Named word.Con r.0.0) Fields x (codes " " ++ (n ++ end)) refl
      (as_text (Named word.Con r.0.0) r.0.0 x (sym (ap or_empty r.0.1))
      (constructor r.0.0 r.0.2))
      (space Fields 32 (n ++ end) refl
      (both Count End n end refl (count d.fields r.1) (line_end Q y q)))))))

  function_again : (f : Function) → ReadableFunction N f → expr_depth f.body ≤ limit
      → (Q : Meaning) (y : List ℕ) → Back Q y → Back (Both (FunctionAgain f) Q)
      (function_line N f ++ y)
  function_again f r h Q y q =
      let x = name_text N f.name in
      let bs = binders_text N f.params in
      let e = expr_text N f.body in
      let end = codes ";\n" ++ y in
      let body = codes " = " ++ (e ++ end) in
      let End = Both (OneToken word.Semicolon) Q in
      let Body = Both (ExprAgain limit N 0 f.body) End in
      let Equation = Both (OneToken word.Equals) Body in
      let Params = Both (BindersAgain limit N f.params) Equation in
      let text = x ++ (bs ++ body) in
      as_text (Both (FunctionAgain f) Q) text (function_line N f ++ y)
      (sym (append_assoc (x ++ bs ++ codes " = " ++ e) (codes ";\n") y ∙ append_assoc
      (x ++ bs ++ codes " = ") e end ∙ append_assoc (x ++ bs) (codes " = ") (e ++ end) ∙
      append_assoc x bs body))
      (back_as (Both (Named word.Name r.0.0) Params) (Both (FunctionAgain f) Q) text
      (λ names ts m.
      let a = m.second in
      let b = a.second in
      let c = b.second in
      let d = c.second in
      let number = number_in names r.0.0 in
      let us = c.front in
      let equals = lexeme b.first.0 word.Equals in
      let last = lexeme d.first.0 word.Semicolon ∷ [] in
      let at = m.first.at in
      let name = lexeme at (word.Name (name_id number)) in
      let body : b.behind ≡ us ++ (last ++ d.behind)
      = c.whole ∙ ap (λ w. us ++ w) (d.whole ∙ ap (λ w. w ++ d.behind) d.first.1) in
      record {
        front = name ∷ (binders a.first.0 ++ (equals ∷ (us ++ last)));
        behind = d.behind;
        first = (
          record { name = number; at = at; params = a.first.0; body = c.first.0 },
          (λ room some. (b.first.0, d.first.0, us, c.first.1 room some, refl)),
          (r.0.1 ∙ sym m.first.number, a.first.2, c.first.2),
        );
        second = d.second;
        whole = m.whole ∙
            (λ i. m.first.whole i ++
            (a.whole ∙ (λ j. a.first.1 j ++ (b.whole ∙ (λ k. b.first.1 k ++ body k)) j)) i)
            ∙ ap (λ w. name ∷ w)
            (sym (append_assoc (binders a.first.0) (equals ∷ (us ++ last)) d.behind ∙ ap
            (λ w. binders a.first.0 ++ (equals ∷ w)) (append_assoc us last d.behind)));
      })
      (both (Named word.Name r.0.0) Params x (bs ++ body)
      (apart_more bs body (apart_binders limit N f.params) refl) (name_again limit N f.name r.0)
      (both (BindersAgain limit N f.params) Equation bs body refl
      (binders_again limit N f.params r.1)
      (space Equation 32 (codes "= " ++ (e ++ end)) refl
      (both (OneToken word.Equals) Body (codes "=") (32 ∷ (e ++ end)) refl
      equals
      (space Body 32 (e ++ end) refl
      (both (ExprAgain limit N 0 f.body) End e end refl
      (expr_again limit N f.body r.2 0 (omega arith)) (line_end Q y q))))))))

  abbrev FunctionsAgain : List Function → Meaning
  FunctionsAgain fs names ts = (ds : List Decl) ×
      ((room : NestingLimit) → Roomy limit room → SpellsDecls room ds ts)
      × (constructors_of ds ≡ []) × AllZip (SameFunction N names) fs (functions_of ds)

  abbrev ProgramAgain : List Data → List Function → Meaning
  ProgramAgain cs fs names ts = (ds : List Decl) ×
      ((room : NestingLimit) → Roomy limit room → SpellsDecls room ds ts)
      × AllZip (SameData N names) cs (constructors_of ds)
      × AllZip (SameFunction N names) fs (functions_of ds)

  functions_again : (fs : List Function) → All (ReadableFunction N) fs → functions_depth fs ≤ limit
      → Back (FunctionsAgain fs) (flat_map (function_line N) fs)
  functions_again [] r h = back_as Nothing (FunctionsAgain []) []
      (λ names ts e. ([], (λ room some. e), refl, tt)) nothing
  functions_again (f ∷ fs) r h =
      let more = flat_map (function_line N) fs in
      back_as (Both (FunctionAgain f) (FunctionsAgain fs)) (FunctionsAgain (f ∷ fs))
      (function_line N f ++ more)
      (λ names ts m. (
        Defines m.first.0 ∷ m.second.0,
        (λ room some. (m.front, m.behind, m.first.1 room some, m.second.1 room some, m.whole)),
        m.second.2,
        (m.first.2, m.second.3),
      ))
      (function_again f (All-head (ReadableFunction N) f fs r)
      (omega (arith, le-max_left (expr_depth f.body) (functions_depth fs))) (FunctionsAgain fs)
      more
      (functions_again fs (All-tail (ReadableFunction N) f fs r)
      (omega (arith, le-max_right (expr_depth f.body) (functions_depth fs)))))

  program_again : (cs : List Data) (fs : List Function) → All (ReadableData N) cs
      → All (ReadableFunction N) fs → functions_depth fs ≤ limit
      → Back (ProgramAgain cs fs) (flat_map (data_line N) cs ++ flat_map (function_line N) fs)
  program_again [] fs rs r h =
      back_as (FunctionsAgain fs) (ProgramAgain [] fs) (flat_map (function_line N) fs)
      (λ names ts m. (m.0, m.1, subst (AllZip (SameData N names) []) (sym m.2) tt, m.3))
      (functions_again fs r h)
  program_again (c ∷ cs) fs rs r h =
      let front = flat_map (data_line N) cs in
      let more = flat_map (function_line N) fs in
      as_text (ProgramAgain (c ∷ cs) fs) (data_line N c ++ (front ++ more))
      (flat_map (data_line N) (c ∷ cs) ++ more) (sym (append_assoc (data_line N c) front more))
      (back_as (Both (DataAgain c) (ProgramAgain cs fs)) (ProgramAgain (c ∷ cs) fs)
      (data_line N c ++ (front ++ more))
      (λ names ts m. (
        Declares m.first.0 ∷ m.second.0,
        (λ room some. (m.front, m.behind, m.first.1 room some, m.second.1 room some, m.whole)),
        (m.first.2, m.second.2),
        m.second.3,
      ))
      (data_again c (All-head (ReadableData N) c cs rs) (ProgramAgain cs fs) (front ++ more)
      (program_again cs fs (All-tail (ReadableData N) c cs rs) r h)))

everywhere : (limit : ℕ) → Roomy limit unlimited_nesting
everywhere limit n l = refl

below_200 : Roomy 200 at_most_200
below_200 n l = lt-ltb n 200 l

-- what a canonical text says, where no more than so many are open at one place
record Reread (limit : ℕ) (p : Program) : Type 0 where
  pieces : List Piece
  small : AreInRange pieces
  tokens : IsTokens (canonical p) pieces
  read : Program
  is_program : (room : NestingLimit) → Roomy limit room → IsProgram room read pieces
  same : SameProgram p read

reread : (limit : ℕ) (p : Program) → IsReadable p → program_depth p ≤ limit → Reread limit p
reread limit p r shallow =
    let text = canonical p in
    let back = program_again limit p.names p.constructors p.functions r.constructors r.functions
    shallow 0 in
    let pieces = back.pieces in
    let m = back.means (names_of pieces) (each_held [] pieces) in
    let q : Program = record {
      names = names_of pieces;
      constructors = constructors_of m.0;
      functions
          = functions_of m.0;
    } in
    let end : 0 + length text ≡ length text = omega arith in
    let whole : Reads 0 text pieces (0 + length text) []
    = subst (λ w. Reads 0 w pieces (0 + length text) []) (append-nil text) (back.reads [] tt) in
    record {
      pieces = pieces;
      small = back.small;
      tokens = subst (λ n. Reads 0 text pieces n []) end whole;
      read = q;
      is_program = λ room some. record {
        names = refl;
        decls = m.0;
        constructors = refl;
        functions = refl;
        spelled
            = m.1 room some;
      };
      same = record { constructors = m.2; functions = m.3 };
    }

module _ (limit : ℕ) (p : Program) (again : Reread limit p) where
  stands_for : IsText (canonical p) again.read
  stands_for = record {
    pieces = again.pieces;
    tokens = again.tokens;
    program
        = again.is_program unlimited_nesting (everywhere limit);
  }

  no_other : (q : Program) → IsText (canonical p) q → SameProgram p q
  no_other q h = subst (SameProgram p) (one_program (canonical p) again.read q stands_for h)
      again.same

-- however deep the program is
pub canonical_is_of_one : CanonicalTextIsOfOneProgram
canonical_is_of_one p q r h = no_other (program_depth p) p
    (reread (program_depth p) p r (omega arith)) q h

pub canonical_stands : CanonicalTextReadsBack
canonical_stands p r short shallow =
    let again = reread 200 p r shallow in
    let whole = λ (room : NestingLimit) (some : Roomy 200 room). subst (IsProgram room again.read)
    (sym (append-nil again.pieces)) (again.is_program room some) in
    let clear : Clear dialect.Core IsProgram again.pieces = record {
      some = record
          { rest = []; whole = again.read; is_program = whole unlimited_nesting (everywhere 200) };
      shallow = record { rest = []; whole = again.read; is_program = whole at_most_200 below_200 };
      small = again.small;
    } in
    record {
      unbroken = λ k at b.
          unbroken (canonical p) again.pieces (length (canonical p)) [] (names_of again.pieces) k at
          (record { short = short; reads = again.tokens; named = refl; in_range = again.small })
          refl clear again.read (again.is_program unlimited_nesting (everywhere 200)) b;
      read = again.read;
      is_text = stands_for 200 p again;
      same = again.same;
      no_other = no_other 200 p again;
    }

-- ---- what the reader answers to a canonical text

no_refusal : (text : List ℕ) (e : ReadRefusal) → IsUnbroken text → IsCause text e → IsMemory e
no_refusal text (refusal.BadByte at) u h = absurd (u 1 at h.broken)
no_refusal text (refusal.Syntax at) u h = absurd (u 2 at h.broken)
no_refusal text (refusal.NumberRange at) u h = absurd (u 3 at h.broken)
no_refusal text (refusal.TooDeep at) u h = absurd (u 4 at h.broken)
no_refusal text refusal.TextTooLong u h = absurd (u 5 1048576 h.broken)
no_refusal text (refusal.Memory e) u h = tt

pub same_again : (p : Program) (text : List ℕ) (answer : Result Core ReadRefusal) → IsReadable p
    → text ≡ canonical p → IfOk answer (λ core. IsText text (program core))
    → IfErr answer (IsCause text)
    → length (canonical p) ≤ 1048576 → program_depth p ≤ 200 → RereadsSameProgram p answer
same_again p text (Ok core) r e found refused short shallow
    = (canonical_stands p r short shallow).no_other (program core)
    (subst (λ w. IsText w (program core)) e found)
same_again p text (Err er) r e found refused short shallow
    = no_refusal (canonical p) er (canonical_stands p r short shallow).unbroken
    (subst (λ w. IsCause w er) e refused)
