-- The bytes behind the header of a module, read as a text of Core, stand for the module's
-- declarations.
use Rattle.std.proofs.Common.{◌≡◌, ℕ, ◌+◌, Bool, true, false, cond, List, [], ◌∷◌, ◌++◌, take, map, Option, Some, None, refl, sym, ap, subst, ◌∙◌, inl}
use Rattle.std.specs.Prelude.{codes, is_none}
use Rattle.std.specs.List.{AllZip}
use Rattle.std.specs.Str.{bytes_eq}
use Rattle.std.proofs.lemmas.List.{append-nil}
use Rattle.core_reader.specs.declared.dialect.Dialect.TheVariants.{Core, Modules}
use Rattle.core_reader.specs.declared.look.TokenKind.{TokenKind}
use Rattle.core_reader.specs.declared.look.TokenKind.TheVariants.{Lower, Upper, Digits, Sign}
use Rattle.core_reader.specs.declared.look.Sign as sign
use Rattle.core_reader.specs.declared.look.Sign.TheVariants as signs
use Rattle.core_reader.specs.declared.token.Token.TheVariants as word
use Rattle.core_reader.specs.declared.token.Further.TheVariants as further
use Rattle.core_reader.specs.Grammar.{unlimited_nesting, name_id, constructors_of, functions_of}
use Rattle.core_reader.specs.TokensOf.{Piece, Reads, Stops, Passes, Takes, Longest, IsTokens, kind_of}
use Rattle.core_reader.specs.WordsOf.{said, said_by, keyword_or_name, sign_token, number_in}
use Rattle.core_reader.specs.NamesOf.{names_of, is_numbered_by}
use Rattle.core_reader.specs.Programs.{IsText}
use Rattle.core_reader.specs.Tree.{Program}
use Rattle.core_reader.proofs.NamingOf.{Texts, has, EachHeld, each_held}
use Rattle.core_reader.proofs.OnlyOne.{one_program, one_tokens}
use Rattle.core_reader.proofs.Readability.{at_number}
use Rattle.core_reader.proofs.Unique.{goes_on, stuck, join}
use Rattle.core_print.specs.Same.{SameData, SameFunction, SameProgram}
use Rattle.core_link.specs.Laws.{SplitsAtHeader}
use Rattle.core_link.specs.Module.{Module, IsModuleText, body}
use Rattle.core_link.proofs.Again.{Like, AreLike, decls_again}

-- ---- the tokens are those of Core, but for the keywords of modules

pub same_kind : (w : List ℕ) → kind_of Modules w ≡ kind_of Core w
same_kind [] = refl
same_kind (b ∷ []) = refl
same_kind (b ∷ c ∷ bs) = refl

longest_in_core : (n : ℕ) (bytes : List ℕ) (kind : TokenKind) → Longest Modules n bytes kind
    → Longest Core n bytes kind
longest_in_core n bytes kind l = record {
  within = l.within;
  is_token = sym (same_kind (take n bytes)) ∙ l.is_token;
  no_longer = λ m lt le. sym (same_kind (take m bytes)) ∙ l.no_longer m lt le;
}

abbrev pub SameBytes : Piece → Piece → Type 0
SameBytes v w = v.bytes ≡ w.bytes

-- the same tokens at other places
pub record Elsewhere (at : ℕ) (bytes : List ℕ) (vs : List Piece) (rest : List ℕ) : Type 0 where
  pub pieces : List Piece
  pub end : ℕ
  pub reads : Reads Core at bytes pieces end rest
  pub alike : AllZip SameBytes vs pieces

pub elsewhere : {at end : ℕ} {bytes rest : List ℕ} {vs : List Piece}
    → Reads Modules at bytes vs end rest → (to : ℕ) → Elsewhere to bytes vs rest
elsewhere (Stops at rest) to = record { pieces = []; end = to; reads = Stops to rest; alike = tt }
elsewhere (Passes at n bytes pieces end rest g r) to = let w = elsewhere r (to + n)
    in record {
      pieces = w.pieces;
      end = w.end;
      reads = Passes to n bytes w.pieces w.end rest g w.reads;
      alike
          = w.alike;
    }
elsewhere (Takes at n bytes kind pieces end rest l r) to =
    let w = elsewhere r (to + n) in
    record {
      pieces = record { bytes = take n bytes; at = to } ∷ w.pieces;
      end = w.end;
      reads
          = Takes to n bytes kind w.pieces w.end rest (longest_in_core n bytes kind l) w.reads;
      alike
          = (refl, w.alike);
    }

pub core_pieces : {at end : ℕ} {rest : List ℕ} {vs : List Piece} → Reads Modules at rest vs end []
    → (ps : List Piece) → IsTokens Core rest ps → AllZip SameBytes vs ps
core_pieces {vs = vs} r ps tokens =
    let w = elsewhere r 0 in
    let g = goes_on w.reads (inl refl) tokens in
    subst (AllZip SameBytes vs) (g.1 ∙ ap (λ l. ps ++ l) (stuck g.2 (inl refl)).0 ∙ append-nil ps)
    w.alike

-- ---- what they say

module _ (names others : Texts) where
  module _ (w : List ℕ) where
    words_like : (b1 b2 b3 b4 b5 b6 b7 b8 : Bool)
        → (is_none
        (cond b1 (Some word.Data)
        (cond b2 (Some word.Let)
        (cond b3 (Some word.In)
        (cond b4 (Some word.Case)
        (cond b5 (Some word.Of)
        (cond b6 (Some (word.Further further.Module))
        (cond b7 (Some (word.Further further.Export))
        (cond b8 (Some (word.Further further.Import)) None)))))))) ≡ true → has names w ≡ true)
        → (is_none
        (cond b1 (Some word.Data)
        (cond b2 (Some word.Let)
        (cond b3 (Some word.In) (cond b4 (Some word.Case) (cond b5 (Some word.Of) None))))) ≡
        true → has others w ≡ true)
        → Like names others
        (keyword_or_name names w
        (cond b1 (Some word.Data)
        (cond b2 (Some word.Let)
        (cond b3 (Some word.In)
        (cond b4 (Some word.Case)
        (cond b5 (Some word.Of)
        (cond b6 (Some (word.Further further.Module))
        (cond b7 (Some (word.Further further.Export))
        (cond b8 (Some (word.Further further.Import)) None)))))))))
        (keyword_or_name others w
        (cond b1 (Some word.Data)
        (cond b2 (Some word.Let)
        (cond b3 (Some word.In) (cond b4 (Some word.Case) (cond b5 (Some word.Of) None))))))
    words_like true b2 b3 b4 b5 b6 b7 b8 h g = refl
    words_like false true b3 b4 b5 b6 b7 b8 h g = refl
    words_like false false true b4 b5 b6 b7 b8 h g = refl
    words_like false false false true b5 b6 b7 b8 h g = refl
    words_like false false false false true b6 b7 b8 h g = refl
    words_like false false false false false true b7 b8 h g = tt
    words_like false false false false false false true b8 h g = tt
    words_like false false false false false false false true h g = tt
    words_like false false false false false false false false h g
        = (
          name_id (number_in others w),
          refl,
          at_number names w (h refl) ∙ sym
              (at_number others w (g refl)),
        )

    sign_like : (s : sign.Sign) → Like names others (sign_token s) (sign_token s)
    sign_like signs.Semicolon = refl
    sign_like signs.Equals = refl
    sign_like signs.OpenBrace = refl
    sign_like signs.CloseBrace = refl
    sign_like signs.Open = refl
    sign_like signs.Close = refl
    sign_like signs.Arrow = refl
    sign_like signs.Backslash = tt
    sign_like signs.Bar = tt
    sign_like signs.Colon = tt

    kind_like : (k : Option TokenKind) → (is_numbered_by Modules w k ≡ true → has names w ≡ true)
        → (is_numbered_by Core w k ≡ true → has others w ≡ true)
        → Like names others (said_by Modules names w k) (said_by Core others w k)
    kind_like None h g = refl
    kind_like (Some Lower) h g =
        words_like (bytes_eq w (codes "data")) (bytes_eq w (codes "let")) (bytes_eq w (codes "in"))
        (bytes_eq w (codes "case")) (bytes_eq w (codes "of")) (bytes_eq w (codes "module"))
        (bytes_eq w (codes "export")) (bytes_eq w (codes "import")) h g
    kind_like (Some Upper) h g = (
      name_id (number_in others w),
      refl,
      at_number names w (h refl) ∙ sym
          (at_number others w (g refl)),
    )
    kind_like (Some Digits) h g = refl
    kind_like (Some (Sign s)) h g = sign_like s

  piece_like : (v w : Piece) → SameBytes v w →
      (is_numbered_by Modules v.bytes (kind_of Modules v.bytes) ≡ true → has names v.bytes ≡ true)
      → (is_numbered_by Core w.bytes (kind_of Core w.bytes) ≡ true → has others w.bytes ≡ true)
      → Like names others (said Modules names v).token (said Core others w).token
  piece_like v w e h g =
      let k = kind_of Modules v.bytes in
      let same : kind_of Core w.bytes ≡ k = ap (kind_of Core) (sym e) ∙ sym (same_kind v.bytes) in
      let held : is_numbered_by Core v.bytes k ≡ true → has others v.bytes ≡ true
      = λ n. ap (has others) e ∙ g ((λ i. is_numbered_by Core (sym e i) (same i)) ∙ n) in
      subst (Like names others (said_by Modules names v.bytes k))
      (λ i. said_by Core others (e i) (sym same i)) (kind_like v.bytes k h held)

  pub pieces_like : (vs ws : List Piece) → AllZip SameBytes vs ws → EachHeld Modules names vs
      → EachHeld Core others ws → AreLike names others (map (said Modules names) vs)
      (map (said Core others) ws)
  pieces_like [] [] z h g = tt
  pieces_like [] (w ∷ ws) z h g = absurd z
  pieces_like (v ∷ vs) [] z h g = absurd z
  pieces_like (v ∷ vs) (w ∷ ws) z h g = (piece_like v w z.0 h.0 g.0, pieces_like vs ws z.1 h.1 g.1)

pub held_behind : (names : Texts) (us vs : List Piece) → EachHeld Modules names (us ++ vs)
    → EachHeld Modules names vs
held_behind names [] vs h = h
held_behind names (u ∷ us) vs h = held_behind names us vs h.1

-- ---- the program

pub same_behind : (text rest : List ℕ) (m : Module) (p : Program) → IsModuleText text m
    → SplitsAtHeader text rest m → IsText rest p → SameProgram (body m) p
same_behind text rest m p is split stands =
    let all : is.pieces ≡ split.header ++ split.behind
    = one_tokens text is.pieces (split.header ++ split.behind) is.tokens
    (join split.header_reads split.behind_reads) in
    let named : m.names ≡ names_of Modules (split.header ++ split.behind)
    = is.program.spelled.names ∙ ap (names_of Modules) all in
    let held : EachHeld Modules m.names split.behind
    = held_behind m.names split.header split.behind
    (subst (λ v. EachHeld Modules v (split.header ++ split.behind)) (sym named)
    (each_held Modules [] (split.header ++ split.behind))) in
    let there : EachHeld Core p.names stands.pieces
    = subst (λ v. EachHeld Core v stands.pieces) (sym stands.program.names)
    (each_held Core [] stands.pieces) in
    let like : AreLike m.names p.names (map (said Modules m.names) split.behind)
    (map (said Core p.names) stands.pieces) = pieces_like m.names p.names split.behind
    stands.pieces (core_pieces split.behind_reads stands.pieces stands.tokens) held there in
    let again = decls_again m.names p.names unlimited_nesting split.decls
    (map (said Modules m.names) split.behind) (map (said Core p.names) stands.pieces)
    split.spelled like in
    let q : Program = record {
      names = p.names;
      constructors = constructors_of again.decls;
      functions
          = functions_of again.decls;
    } in
    let is_q : IsText rest q = record {
      pieces = stands.pieces;
      tokens = stands.tokens;
      program
          = record {
            names = stands.program.names;
            decls = again.decls;
            constructors = refl;
            functions
                = refl;
            spelled = again.spelled;
          };
    } in
    subst (SameProgram (body m)) (one_program rest q p is_q stands) (record {
      constructors = subst
          (λ ds. AllZip (SameData m.names p.names) ds (constructors_of again.decls))
          split.constructors again.constructors;
      functions = subst (λ fs. AllZip (SameFunction m.names p.names) fs (functions_of again.decls))
          split.functions again.functions;
    })
