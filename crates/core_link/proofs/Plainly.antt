-- A module's name has letters and digits alone: what the grammar without this premise says of a
-- text
-- holds of the text with it, where its second token is no other name.
use Rattle.std.proofs.Common.{◌≡◌, ℕ, Bool, true, false, List, [], ◌∷◌, ◌++◌, length, take, map, Option, Some, None, refl, sym, ap, subst, ◌∙◌, append_assoc, inl, inr}
use Rattle.std.specs.Prelude.{codes, ◌&&◌, not, slice_get, is_none, fold, if◌then◌else◌}
use Rattle.std.specs.List.{list_all}
use Rattle.std.specs.Str.{bytes_eq}
use Rattle.std.proofs.lemmas.List.{append-nil}
use Rattle.seq.specs.Lists.{or_empty}
use Rattle.core_reader.specs.declared.dialect.Dialect.TheVariants.{Modules}
use Rattle.core_reader.specs.declared.look.TokenKind.{TokenKind}
use Rattle.core_reader.specs.declared.look.Sign.TheVariants as signs
use Rattle.core_reader.specs.declared.syntax.Binder.{Binder}
use Rattle.core_reader.specs.declared.look.TokenKind.TheVariants.{Lower, Upper, Digits, Sign}
use Rattle.core_reader.specs.declared.syntax.NameId.{NameId}
use Rattle.core_reader.specs.declared.token.Token.{Token}
use Rattle.core_reader.specs.declared.token.Token.TheVariants as word
use Rattle.core_reader.specs.declared.token.Further.TheVariants as further
use Rattle.core_reader.specs.declared.token.Lexeme.{Lexeme}
use Rattle.core_reader.specs.declared.refusal.ReadRefusal.{ReadRefusal}
use Rattle.core_reader.specs.declared.refusal.ReadRefusal.TheVariants as refusal
use Rattle.core_reader.specs.Grammar.{NestingLimit, unlimited_nesting, at_most_200, lexeme, name_id}
use Rattle.core_reader.specs.TokensOf.{Piece, Reads, IsTokens, kind_of}
use Rattle.core_reader.specs.WordsOf.{said, said_by, keyword_or_name, keyword_of, sign_token, number_in}
use Rattle.core_reader.specs.NamesOf.{names_of, is_numbered, is_numbered_by, with_name, with_piece}
use Rattle.core_reader.specs.ProgramsOf.{Viable}
use Rattle.core_reader.specs.RulesOf as rules
use Rattle.core_reader.specs.LexedOf.{IsLexed, StopsAt, AtEnd, AtBad, AtLarge}
use Rattle.core_reader.proofs.NamingOf.{Texts, each_held}
use Rattle.core_reader.proofs.Readability.{at_number}
use Rattle.core_reader.proofs.ReadingOf.{IsLast}
use Rattle.core_reader.proofs.FirstBroken.{ReadText, Clear, large_piece, syntax_first}
use Rattle.core_reader.proofs.Unique.{Reading, reading, goes_on, stuck}
use Rattle.core_link.specs.Heading.{misnamed, is_module, is_bad_module_name}
use Rattle.core_link.specs.Module.{Module, IsSpelled, IsModule, is_alphanumeric}

-- ---- the first two tokens of a module

abbrev module_word : Token
module_word = word.Further further.Module

said_module : (names names' : List (List ℕ)) (w : List ℕ) (o : Option Token)
    → keyword_or_name names w o ≡ module_word → (keyword_or_name names' w o ≡ module_word)
    × (is_none o ≡ false)
said_module names names' w (Some t) e = (e, refl)
said_module names names' w None e = absurd cc

-- `module` says the same among any names, and has no number
pub record SaysModule (k : Piece) : Type 0 where
  pub says : (names : List (List ℕ)) → (said Modules names k).token ≡ module_word
  pub unnumbered : is_numbered Modules k ≡ false

says_module_by : (names : List (List ℕ)) (w : List ℕ) (kind : Option TokenKind)
    → said_by Modules names w kind ≡ module_word →
    ((names' : List (List ℕ)) → said_by Modules names' w kind ≡ module_word)
    × (is_numbered_by Modules w kind ≡ false)
says_module_by names w None e = absurd cc
says_module_by names w (Some Lower) e = (
  λ names'. (said_module names names' w (keyword_of Modules w) e).0,
  (said_module names names w (keyword_of Modules w) e).1,
)
says_module_by names w (Some Upper) e = absurd cc
says_module_by names w (Some Digits) e = absurd cc
says_module_by names w (Some (Sign s)) e = (λ names'. e, refl)

says_module : (names : List (List ℕ)) (k : Piece) → (said Modules names k).token ≡ module_word
    → SaysModule k
says_module names k e =
    let w = says_module_by names k.bytes (kind_of Modules k.bytes) e in
    record { says = w.0; unnumbered = w.1 }

no_module_letters : (names : List (List ℕ)) (w : List ℕ) (o : Option Token) (n : NameId)
    → keyword_or_name names w o ≡ word.Con n → o ≡ Some (word.Con n)
no_module_letters names w (Some token) n e = ap Some e
no_module_letters names w None n e = absurd cc

con_kind : (names : List (List ℕ)) (w : List ℕ) (kind : Option TokenKind) (n : NameId)
    → (keyword_of Modules w ≡ Some (word.Con n) → ⊥) → said_by Modules names w kind ≡ word.Con n
    → kind ≡ Some Upper
con_kind names w None n none e = absurd cc
con_kind names w (Some Lower) n none e = absurd
    (none (no_module_letters names w (keyword_of Modules w) n e))
con_kind names w (Some Upper) n none e = refl
con_kind names w (Some Digits) n none e = absurd cc
con_kind names w (Some (Sign s)) n none e = absurd (sign_no_con s n e)
  where
    sign_no_con : (s : _) (n : NameId) → sign_token s ≡ word.Con n → ⊥
    sign_no_con signs.Semicolon n e = cc
    sign_no_con signs.Equals n e = cc
    sign_no_con signs.OpenBrace n e = cc
    sign_no_con signs.CloseBrace n e = cc
    sign_no_con signs.Open n e = cc
    sign_no_con signs.Close n e = cc
    sign_no_con signs.Arrow n e = cc
    sign_no_con signs.Backslash n e = cc
    sign_no_con signs.Bar n e = cc
    sign_no_con signs.Colon n e = cc

-- no keyword is a constructor
record NoCon (o : Option Token) : Type 0 where
  no : (n : NameId) → o ≡ Some (word.Con n) → ⊥

no_con_if : (b : Bool) {t : Token} {o : Option Token} → NoCon (Some t) → NoCon o
    → NoCon (if b then Some t else o)
no_con_if true p q = p
no_con_if false p q = q

keyword_no_con : (w : List ℕ) → NoCon (keyword_of Modules w)
keyword_no_con w =
    no_con_if (bytes_eq w (codes "data")) {t = word.Data} (record { no = λ n e. cc })
    (no_con_if (bytes_eq w (codes "let")) {t = word.Let} (record { no = λ n e. cc })
    (no_con_if (bytes_eq w (codes "in")) {t = word.In} (record { no = λ n e. cc })
    (no_con_if (bytes_eq w (codes "case")) {t = word.Case} (record { no = λ n e. cc })
    (no_con_if (bytes_eq w (codes "of")) {t = word.Of} (record { no = λ n e. cc })
    (no_con_if (bytes_eq w (codes "module")) {t = module_word} (record { no = λ n e. cc })
    (no_con_if (bytes_eq w (codes "export")) {t = word.Further further.Export}
    (record { no = λ n e. cc })
    (no_con_if (bytes_eq w (codes "import")) {t = word.Further further.Import}
    (record { no = λ n e. cc }) (record { no = λ n e. cc }))))))))

pub con_is : (names : List (List ℕ)) (c : Piece) (n : NameId)
    → (said Modules names c).token ≡ word.Con n → kind_of Modules c.bytes ≡ Some Upper
con_is names c n e = con_kind names c.bytes (kind_of Modules c.bytes) n
    ((keyword_no_con c.bytes).no n) e

-- the first two tokens are `module` and a constructor
pub record BeginsModule (k c : Piece) : Type 0 where
  pub keyword : SaysModule k
  pub name : kind_of Modules c.bytes ≡ Some Upper

-- Every text that begins with such tokens has there a name of letters and digits.
abbrev pub IsPlain : List ℕ → Type 0
IsPlain text =
    (k c : Piece) (us : List Piece) (end : ℕ) (rest : List ℕ)
    → Reads Modules 0 text (k ∷ c ∷ us) end rest → BeginsModule k c
    → list_all is_alphanumeric c.bytes ≡ true

unfoldable pub first_token : List Lexeme → Token
first_token [] = word.Bad
first_token (t ∷ ts) = t.token

unfoldable pub second_token : List Lexeme → Token
second_token [] = word.Bad
second_token (t ∷ ts) = first_token ts

pub spelled_first : (l : NestingLimit) (m : Module) (ps : List Piece) → IsSpelled l m ps
    → (first_token (map (said Modules m.names) ps) ≡ module_word)
    × (second_token (map (said Modules m.names) ps) ≡ word.Con m.name.name)
unfolding first_token second_token
spelled_first l m ps s =
    let h = s.spelled.2 in
    let e = s.spelled.4 ∙ ap (λ w. w ++ s.spelled.1) h.6 in
    (ap first_token e, ap second_token e)

begins_with : (l : NestingLimit) (m : Module) (k c : Piece) (more : List Piece)
    → IsSpelled l m (k ∷ c ∷ more) → BeginsModule k c
unfolding first_token second_token
begins_with l m k c more s =
    let e = spelled_first l m (k ∷ c ∷ more) s in
    record { keyword = says_module m.names k e.0; name = con_is m.names c m.name.name e.1 }

-- ---- viable with and without the premise

abbrev piece : List ℕ → Piece
piece w = record { bytes = w; at = 0 }

abbrev smallest : Binder → Module
smallest b = record {
  names = codes "A" ∷ [];
  name = b;
  exports = [];
  imports = [];
  constructors = [];
  functions
      = [];
}

none_viable : (l : NestingLimit) → Viable IsModule l []
none_viable l = record {
  rest = piece (codes "module") ∷ piece (codes "A") ∷ piece (codes ";") ∷ [];
  whole = smallest (record { name = name_id 0; at = 0 });
  is_program = record {
    spelled = record {
      names = refl;
      decls = [];
      constructors = refl;
      functions = refl;
      spelled
          = (_, [], (0, 0, [], [], ([], refl, refl), refl, refl), refl, refl);
    };
    named = refl;
  };
}

one_viable : (l : NestingLimit) (k : Piece) → SaysModule k → Viable IsModule l (k ∷ [])
one_viable l k s =
    let rest = piece (codes "A") ∷ piece (codes ";") ∷ [] in
    let names : codes "A" ∷ [] ≡ names_of Modules (k ∷ rest)
    = ap (λ b. fold (with_piece Modules) (if b then with_name [] k.bytes else []) rest)
    (sym s.unnumbered) in
    record {
      rest = rest;
      whole = smallest (record { name = name_id 0; at = 0 });
      is_program = record {
        spelled = record {
          names = names;
          decls = [];
          constructors = refl;
          functions = refl;
          spelled = (
            _,
            [],
            (k.at, 0, [], [], ([], refl, refl), refl, refl),
            refl,
            ap (λ t. lexeme k.at t ∷ lexeme 0 (word.Con (name_id 0)) ∷ lexeme 0 word.Semicolon ∷
                []) (s.says (codes "A" ∷ [])),
          );
        };
        named = refl;
      };
    }

plainly : (text : List ℕ) → IsPlain text → (l : NestingLimit) (us vs : List Piece) (end : ℕ)
    (rest : List ℕ) → Reads Modules 0 text (us ++ vs) end rest → Viable IsSpelled l us
    → Viable IsModule l us
unfolding first_token second_token
plainly text plain l [] vs end rest r v = none_viable l
plainly text plain l (k ∷ []) vs end rest r v = one_viable l k
    (says_module v.whole.names k (spelled_first l v.whole (k ∷ v.rest) v.is_program).0)
plainly text plain l (k ∷ c ∷ us) vs end rest r v =
    record {
      rest = v.rest;
      whole = v.whole;
      is_program
          = record {
            spelled = v.is_program;
            named = plain k c (us ++ vs) end rest r
                (begins_with l v.whole k c (us ++ v.rest) v.is_program);
          };
    }

loosely : (l : NestingLimit) (us : List Piece) → Viable IsModule l us → Viable IsSpelled l us
loosely l us v = record { rest = v.rest; whole = v.whole; is_program = v.is_program.spelled }

pub derived : (text : List ℕ) → IsPlain text → (l : NestingLimit) (m : Module) (ps : List Piece)
    (end : ℕ) (rest : List ℕ) → Reads Modules 0 text ps end rest → IsSpelled l m ps
    → IsModule l m ps
unfolding first_token second_token
derived text plain l m [] end rest r s = absurd (bad_module (spelled_first l m [] s).0)
  where
    bad_module : word.Bad ≡ module_word → ⊥
    bad_module e = cc
derived text plain l m (k ∷ []) end rest r s = absurd (bad_con (spelled_first l m (k ∷ []) s).1)
  where
    bad_con : {n : NameId} → word.Bad ≡ word.Con n → ⊥
    bad_con e = cc
derived text plain l m (k ∷ c ∷ ps) end rest r s = record
    { spelled = s; named = plain k c ps end rest r (begins_with l m k c ps s) }

-- ---- the rules with and without it

module _ (text : List ℕ) (plain : IsPlain text) where
  viable_here : (l : NestingLimit) (before : List Piece) (here : Piece) (at : ℕ)
      → rules.BeginsWith Modules text before here at → Viable IsSpelled l (before ++ here ∷ [])
      → Viable IsModule l (before ++ here ∷ [])
  viable_here l before here at b v = plainly text plain l (before ++ here ∷ []) [] b.end b.rest
      (subst (λ w. Reads Modules 0 text w b.end b.rest) (sym (append-nil (before ++ here ∷ [])))
      b.reads) v

  viable_before : (l : NestingLimit) (before : List Piece) (here : Piece) (at : ℕ)
      → rules.BeginsWith Modules text before here at → Viable IsSpelled l before
      → Viable IsModule l before
  viable_before l before here at b v = plainly text plain l before (here ∷ []) b.end b.rest b.reads
      v

  viable_all : (pieces : List Piece) → IsTokens Modules text pieces
      → Viable IsSpelled unlimited_nesting pieces → Viable IsModule unlimited_nesting pieces
  viable_all pieces t v = plainly text plain unlimited_nesting pieces [] (length text) []
      (subst (λ w. Reads Modules 0 text w (length text) []) (sym (append-nil pieces)) t) v

  named_fault : (at : ℕ) → rules.IsSyntaxFault Modules IsSpelled text at
      → rules.IsSyntaxFault Modules IsModule text at
  named_fault at (rules.AtToken a before here b v none)
      = rules.AtToken a before here b (viable_before unlimited_nesting before here a b v)
      (λ w. none (loosely unlimited_nesting (before ++ here ∷ []) w))
  named_fault at (rules.AtEnd pieces t v none) = rules.AtEnd pieces t (viable_all pieces t v)
      (λ p d. none p d.spelled)

  loose_fault : (at : ℕ) → rules.IsSyntaxFault Modules IsModule text at
      → rules.IsSyntaxFault Modules IsSpelled text at
  loose_fault at (rules.AtToken a before here b v none)
      = rules.AtToken a before here b (loosely unlimited_nesting before v)
      (λ w. none (viable_here unlimited_nesting before here a b w))
  loose_fault at (rules.AtEnd pieces t v none) = rules.AtEnd pieces t
      (loosely unlimited_nesting pieces v)
      (λ p d. none p (derived text plain unlimited_nesting p pieces (length text) [] t d))

  named_deep : (at : ℕ) → rules.IsTooDeep Modules IsSpelled text at
      → rules.IsTooDeep Modules IsModule text at
  named_deep at d = record {
    before = d.before;
    here = d.here;
    begins = d.begins;
    fits = viable_before at_most_200 d.before d.here at d.begins d.fits;
    goes_on = viable_here unlimited_nesting d.before d.here at d.begins d.goes_on;
    too_many = λ w. d.too_many (loosely at_most_200 (d.before ++ d.here ∷ []) w);
  }

  loose_deep : (at : ℕ) → rules.IsTooDeep Modules IsModule text at
      → rules.IsTooDeep Modules IsSpelled text at
  loose_deep at d = record {
    before = d.before;
    here = d.here;
    begins = d.begins;
    fits = loosely at_most_200 d.before d.fits;
    goes_on = loosely unlimited_nesting (d.before ++ d.here ∷ []) d.goes_on;
    too_many = λ w. d.too_many (viable_here at_most_200 d.before d.here at d.begins w);
  }

  named_unread : (k at : ℕ) → rules.IsUnread Modules IsSpelled text k at
      → rules.IsUnread Modules IsModule text k at
  named_unread k at (rules.BadByte a b) = rules.BadByte a b
  named_unread k at (rules.Syntax a f) = rules.Syntax a (named_fault a f)
  named_unread k at (rules.NumberRange a b) = rules.NumberRange a b
  named_unread k at (rules.TooDeep a d) = rules.TooDeep a (named_deep a d)
  named_unread k at (rules.TextTooLong l) = rules.TextTooLong l

  loose_unread : (k at : ℕ) → rules.IsUnread Modules IsModule text k at
      → rules.IsUnread Modules IsSpelled text k at
  loose_unread k at (rules.BadByte a b) = rules.BadByte a b
  loose_unread k at (rules.Syntax a f) = rules.Syntax a (loose_fault a f)
  loose_unread k at (rules.NumberRange a b) = rules.NumberRange a b
  loose_unread k at (rules.TooDeep a d) = rules.TooDeep a (loose_deep a d)
  loose_unread k at (rules.TextTooLong l) = rules.TextTooLong l

  named_first : (k at : ℕ) → rules.IsFirstUnread Modules IsSpelled text k at
      → rules.IsFirstUnread Modules IsModule text k at
  named_first k at f = record {
    broken = named_unread k at f.broken;
    first = λ k' at' b. f.first k' at'
        (loose_unread k' at' b);
  }

  pub named_cause : (e : ReadRefusal) → rules.IsCause Modules IsSpelled text e
      → rules.IsCause Modules IsModule text e
  named_cause (refusal.BadByte at) f = named_first 1 at f
  named_cause (refusal.Syntax at) f = named_first 2 at f
  named_cause (refusal.NumberRange at) f = named_first 3 at f
  named_cause (refusal.TooDeep at) f = named_first 4 at f
  named_cause refusal.TextTooLong f = named_first 5 1048576 f
  named_cause (refusal.Memory e) f = tt

  pub named_unbroken : rules.IsUnbroken Modules IsSpelled text
      → rules.IsUnbroken Modules IsModule text
  named_unbroken u k at b = u k at (loose_unread k at b)

-- ---- what the code finds at the second token

module_no_digits : (k : Piece) → SaysModule k → kind_of Modules k.bytes ≡ Some Digits → ⊥
module_no_digits k s e = number_no_module _ _ (sym (ap (said_by Modules [] k.bytes) e) ∙ s.says [])
  where
    number_no_module : (minus : Bool) (v : _) → word.Number minus v ≡ module_word → ⊥
    number_no_module minus v e = cc

con_no_digits : (c : Piece) → kind_of Modules c.bytes ≡ Some Upper
    → kind_of Modules c.bytes ≡ Some Digits → ⊥
con_no_digits c u e = upper_no_digits (sym u ∙ e)
  where
    upper_no_digits : Some Upper ≡ Some Digits → ⊥
    upper_no_digits e = cc

-- nothing, or an integer first
abbrev NumberFirst : List Piece → Type 0
NumberFirst [] = Unit {0}
NumberFirst (x ∷ xs) = kind_of Modules x.bytes ≡ Some Digits

record BothRead (k c : Piece) (ps : List Piece) : Type 0 where
  rest : List Piece
  is : ps ≡ k ∷ c ∷ rest

first_piece : List Piece → Piece → Piece
first_piece [] k = k
first_piece (x ∷ xs) k = x

second_piece : List Piece → Piece → Piece
second_piece [] k = k
second_piece (x ∷ xs) k = first_piece xs k

both_read : (k c : Piece) (us ps left : List Piece) → (kind_of Modules k.bytes ≡ Some Digits → ⊥)
    → (kind_of Modules c.bytes ≡ Some Digits → ⊥) → k ∷ c ∷ us ≡ ps ++ left → NumberFirst left
    → BothRead k c ps
unfolding first_piece second_piece
both_read k c us [] [] a b e n = absurd (some_none e)
  where
    some_none : k ∷ c ∷ us ≡ [] → ⊥
    some_none e = cc
both_read k c us [] (x ∷ xs) a b e n = absurd
    (a (ap (λ w. kind_of Modules (first_piece w k).bytes) e ∙ n))
both_read k c us (p ∷ []) [] a b e n = absurd (two_one e)
  where
    two_one : k ∷ c ∷ us ≡ p ∷ [] → ⊥
    two_one e = cc
both_read k c us (p ∷ []) (x ∷ xs) a b e n = absurd
    (b (ap (λ w. kind_of Modules (second_piece w c).bytes) e ∙ n))
both_read k c us (p ∷ q ∷ ps) left a b e n = record
    { rest = ps; is = λ i. first_piece (sym e i) k ∷ second_piece (sym e i) c ∷ ps }

-- where the reading of the text stopped, no token or an integer stands
stopped_left : (text : List ℕ) (pieces : List Piece) (at : ℕ) (rest : List ℕ) (names : Texts)
    (last : Lexeme) → ReadText Modules text pieces at rest names → StopsAt Modules at rest last
    → (left : List Piece) × ((reading {d = Modules} text).all ≡ pieces ++ left) × NumberFirst left
stopped_left text pieces at rest names last t (AtEnd e) =
    let w : Reading Modules 0 text = reading text in
    let g = goes_on w.reads w.stop t.reads in
    let s = stuck g.2 (inl e) in
    ([], g.1 ∙ ap (λ v. pieces ++ v) s.0, tt)
stopped_left text pieces at rest names last t (AtBad nothing) =
    let w : Reading Modules 0 text = reading text in
    let g = goes_on w.reads w.stop t.reads in
    let s = stuck g.2 (inr nothing) in
    ([], g.1 ∙ ap (λ v. pieces ++ v) s.0, tt)
stopped_left text pieces at rest names last t (AtLarge n longest outside) =
    let w : Reading Modules 0 text = reading text in
    let l = large_piece text pieces at rest names n t longest outside in
    let g = goes_on w.reads w.stop l.reads in (
      record { bytes = take n rest; at = at } ∷ g.0,
      g.1 ∙ append_assoc pieces (record { bytes = take n rest; at = at } ∷ []) g.0,
      l.digits,
    )

-- ---- whether a module is named plainly

-- the name of a constructor that stands second among the tokens whose names these are
pub second_name : (k c : Piece) (ps : List Piece) → kind_of Modules c.bytes ≡ Some Upper
    → slice_get (names_of Modules (k ∷ c ∷ ps)) (number_in (names_of Modules (k ∷ c ∷ ps)) c.bytes)
    ≡ Some c.bytes
second_name k c ps u =
    let names = names_of Modules (k ∷ c ∷ ps) in
    at_number names c.bytes
    ((each_held Modules [] (k ∷ c ∷ ps)).1.0 (ap (is_numbered_by Modules c.bytes) u))

abbrev plain_name : List ℕ → Bool
plain_name w = list_all is_alphanumeric w

misname_is : (names : List (List ℕ)) (k c : Piece) (ps : List Piece)
    → names ≡ names_of Modules (k ∷ c ∷ ps) → kind_of Modules c.bytes ≡ Some Upper
    → is_bad_module_name names (said Modules names c).token ≡ not (plain_name c.bytes)
misname_is names k c ps e u =
    let at : slice_get names (number_in names c.bytes) ≡ Some c.bytes
    = subst (λ v. slice_get v (number_in v c.bytes) ≡ Some c.bytes) (sym e)
    (second_name k c ps u) in
    ap (λ o. is_bad_module_name names (said_by Modules names c.bytes o)) u ∙ ap
    (λ o. not (plain_name (or_empty o))) at

no_refusal : (a b : Bool) (at : ℕ) (o : Option ℕ) → o ≡ (if a && b then Some at else None)
    → o ≡ None → a ≡ true → b ≡ false
no_refusal true true at o e f h = absurd (some_none (sym e ∙ f))
  where
    some_none : Some at ≡ None → ⊥
    some_none e = cc
no_refusal true false at o e f h = refl
no_refusal false b at o e f h = absurd cc

not_false : (b : Bool) → not b ≡ false → b ≡ true
not_false true e = refl
not_false false e = absurd cc

module_token : (t : Token) → t ≡ module_word → is_module t ≡ true
module_token t e = ap is_module e

plain_from : (names : List (List ℕ)) (k c : Piece) (ps : List Piece) (last : Lexeme)
    → names ≡ names_of Modules (k ∷ c ∷ ps) → BeginsModule k c
    → misnamed names (map (said Modules names) (k ∷ c ∷ ps) ++ last ∷ []) ≡ None
    → plain_name c.bytes ≡ true
plain_from names k c ps last e b m =
    let y = said Modules names c in
    let f = no_refusal (is_module (said Modules names k).token) (is_bad_module_name names y.token)
    y.at (misnamed names (map (said Modules names) (k ∷ c ∷ ps) ++ last ∷ [])) refl m
    (module_token (said Modules names k).token (b.keyword.says names)) in
    not_false (plain_name c.bytes) (sym (misname_is names k c ps e b.name) ∙ f)

same_two : (k c k' c' : Piece) (us ps : List Piece) → k ∷ c ∷ us ≡ k' ∷ c' ∷ ps → (k ≡ k')
    × (c ≡ c')
unfolding first_piece second_piece
same_two k c k' c' us ps e = (ap (λ w. first_piece w k) e, ap (λ w. second_piece w k) e)

-- Where the code finds no other name, the text is named plainly.
pub named_plainly : (text : List ℕ) (lexemes : List Lexeme) (names : List (List ℕ))
    (l : IsLexed Modules text lexemes names) → ReadText Modules text l.pieces l.at l.rest names
    → misnamed names lexemes ≡ None → IsPlain text
named_plainly text lexemes names l t m k c us end rest r b =
    let w : Reading Modules 0 text = reading text in
    let g = goes_on w.reads w.stop r in
    let s = stopped_left text l.pieces l.at l.rest names l.last t l.stop in
    let e : k ∷ c ∷ (us ++ g.0) ≡ l.pieces ++ s.0 = sym g.1 ∙ s.1 in
    let two = both_read k c (us ++ g.0) l.pieces s.0 (module_no_digits k b.keyword)
    (con_no_digits c b.name) e s.2 in
    plain_from names k c two.rest l.last (l.named ∙ ap (names_of Modules) two.is) b
    (ap (λ v. misnamed names (map (said Modules names) v ++ l.last ∷ [])) (sym two.is) ∙ ap
    (misnamed names) (sym l.lexed) ∙ m)

-- ---- a module that is not named plainly

is_con_token : Token → Bool
is_con_token (word.Con n) = true
is_con_token token = false

misname_con : (names : List (List ℕ)) (t : Token) → is_bad_module_name names t ≡ true → (n : NameId)
    × (t ≡ word.Con n)
misname_con names (word.Con n) e = (n, refl)
misname_con names (word.Name n) e = absurd cc
misname_con names (word.Number m v) e = absurd cc
misname_con names word.Data e = absurd cc
misname_con names word.Let e = absurd cc
misname_con names word.In e = absurd cc
misname_con names word.Case e = absurd cc
misname_con names word.Of e = absurd cc
misname_con names word.Semicolon e = absurd cc
misname_con names word.Equals e = absurd cc
misname_con names word.OpenBrace e = absurd cc
misname_con names word.CloseBrace e = absurd cc
misname_con names word.Open e = absurd cc
misname_con names word.Close e = absurd cc
misname_con names word.Arrow e = absurd cc
misname_con names (word.Further f) e = absurd cc
misname_con names (word.Large m) e = absurd cc
misname_con names word.Bad e = absurd cc
misname_con names word.End e = absurd cc

module_is : (t : Token) → is_module t ≡ true → t ≡ module_word
module_is (word.Further further.Module) e = refl
module_is (word.Further further.Export) e = absurd cc
module_is (word.Further further.Import) e = absurd cc
module_is (word.Further further.Backslash) e = absurd cc
module_is (word.Further further.TypeDecl) e = absurd cc
module_is (word.Further further.Signature) e = absurd cc
module_is (word.Further further.Bar) e = absurd cc
module_is (word.Further further.Colon) e = absurd cc
module_is (word.Con n) e = absurd cc
module_is (word.Name n) e = absurd cc
module_is (word.Number m v) e = absurd cc
module_is word.Data e = absurd cc
module_is word.Let e = absurd cc
module_is word.In e = absurd cc
module_is word.Case e = absurd cc
module_is word.Of e = absurd cc
module_is word.Semicolon e = absurd cc
module_is word.Equals e = absurd cc
module_is word.OpenBrace e = absurd cc
module_is word.CloseBrace e = absurd cc
module_is word.Open e = absurd cc
module_is word.Close e = absurd cc
module_is word.Arrow e = absurd cc
module_is (word.Large m) e = absurd cc
module_is word.Bad e = absurd cc
module_is word.End e = absurd cc

refused_at : (a b : Bool) (at place : ℕ) → (if a && b then Some at else None) ≡ Some place
    → (a ≡ true) × (b ≡ true) × (at ≡ place)
refused_at true true at place e = (refl, refl, some_same e)
  where
    some_same : Some at ≡ Some place → at ≡ place
    some_same e = cc
refused_at true false at place e = absurd cc
refused_at false b at place e = absurd cc

last_no_con : (last : Lexeme) (n : NameId) → IsLast last.token → last.token ≡ word.Con n → ⊥
last_no_con last n h e = subst IsLast e h

not_true : (b : Bool) → not b ≡ true → b ≡ true → ⊥
not_true true e f = cc
not_true false e f = cc

misnamed_two : (text : List ℕ) (names : List (List ℕ)) (at end : ℕ) (rest : List ℕ) (last : Lexeme)
    (pieces : List Piece) → ReadText Modules text pieces end rest names → IsLast last.token
    → misnamed names (map (said Modules names) pieces ++ last ∷ []) ≡ Some at
    → rules.IsFirstUnread Modules IsModule text 2 at
misnamed_two text names at end rest last [] t h m = absurd cc
misnamed_two text names at end rest last (k ∷ []) t h m =
    let r = refused_at (is_module (said Modules names k).token)
    (is_bad_module_name names last.token) last.at at m in
    let c = misname_con names last.token r.1 in
    absurd (last_no_con last c.0 h c.1)
misnamed_two text names at end rest last (k ∷ c ∷ ps) t h m =
    let y = said Modules names c in
    let r = refused_at (is_module (said Modules names k).token) (is_bad_module_name names y.token)
    y.at at m in
    let s = says_module names k (module_is (said Modules names k).token r.0) in
    let n = misname_con names y.token r.1 in
    let u = con_is names c n.0 n.1 in
    let bad : not (plain_name c.bytes) ≡ true = sym (misname_is names k c ps t.named u) ∙ r.1 in
    let clear : Clear Modules IsModule (k ∷ []) = record {
      some = one_viable unlimited_nesting k s;
      shallow = one_viable at_most_200 k s;
      small
          = (t.in_range.0, tt);
    } in
    subst (rules.IsFirstUnread Modules IsModule text 2) r.2
    (syntax_first text (k ∷ c ∷ ps) end rest names (k ∷ []) c ps t refl clear
    (λ v. not_true (plain_name c.bytes) bad v.is_program.named))

-- Where the code finds another name, rule 2 is broken there, and none before.
pub misnamed_first : (text : List ℕ) (lexemes : List Lexeme) (names : List (List ℕ)) (at : ℕ)
    (l : IsLexed Modules text lexemes names) → ReadText Modules text l.pieces l.at l.rest names
    → IsLast l.last.token → misnamed names lexemes ≡ Some at
    → rules.IsFirstUnread Modules IsModule text 2 at
misnamed_first text lexemes names at l t h m = misnamed_two text names at l.at l.rest l.last
    l.pieces t h (ap (misnamed names) (sym l.lexed) ∙ m)
