-- The module of a text that breaks no rule on reading: its name has letters and digits alone, and
-- its
-- declarations are readable.
use Rattle.std.proofs.Common.{◌≡◌, ℕ, ◌<◌, ◌≤◌, Bool, true, false, nat_lt, List, [], ◌∷◌, ◌++◌, length, Some, refl, sym, ap, subst, ◌∙◌, arith}
use Rattle.std.specs.Prelude.{◌≢◌, ℤ, pos, negsuc, slice_get}
use Rattle.std.proofs.lemmas.Bool.Decides.{nat_tests}
use Rattle.std.proofs.lemmas.Int.{ints}
use Rattle.std.proofs.lemmas.List.{append-nil}
use Rattle.seq.specs.Lists.{or_empty}
use Rattle.core_reader.specs.declared.dialect.Dialect.TheVariants.{Modules}
use Rattle.core_reader.specs.declared.look.TokenKind.TheVariants.{Upper}
use Rattle.core_reader.specs.declared.syntax.NameId.{NameId}
use Rattle.core_reader.specs.declared.token.Token.TheVariants as word
use Rattle.core_reader.specs.Grammar.{unlimited_nesting, name_id}
use Rattle.core_reader.specs.TokensOf.{Piece, IsTokens, kind_of}
use Rattle.core_reader.specs.WordsOf.{IsInRange, written_number, number_in, said_by}
use Rattle.core_reader.specs.NamesOf.{is_numbered_by}
use Rattle.core_reader.specs.RulesOf.{NumberRange, TextTooLong}
use Rattle.core_reader.specs.LexedOf.{AreInRange}
use Rattle.core_reader.specs.Readable.{IsReadable}
use Rattle.core_reader.proofs.FirstBroken.{one_last, begins_at}
use Rattle.core_reader.proofs.Answers.{few}
use Rattle.core_reader.proofs.NamingOf.{each_held, EachHeld}
use Rattle.core_reader.proofs.Readability.{readable_in, at_number}
use Rattle.core_link.specs.Module.{Module, IsModuleText, IsModule, BreaksNoReadingRule, name_of, body}
use Rattle.core_link.proofs.Plainly.{con_is, first_token, second_token, spelled_first}
use Rattle.core_link.proofs.Different.{IsPlain}

pub record IsGood (m : Module) : Type 0 where
  pub readable : IsReadable (body m)
  pub plain : IsPlain (name_of m)
  pub some : name_of m ≢ []

-- ---- the declarations are readable

-- a number that isn't out of range is in range
in_range : (k : ℤ) → ((IsInRange k → ⊥) → ⊥) → IsInRange k
in_range (pos n) h = go (nat_lt 2147483647 n) refl
  where
    go : (b : Bool) → nat_lt 2147483647 n ≡ b → IsInRange (pos n)
    go true e = absurd
        (h (λ r. let lt : 2147483647 < n = grind (arith, nat_tests) in omega (arith, ints, r.1)))
    go false e = let le : n ≤ 2147483647 = grind (arith, nat_tests)
        in (omega (arith, ints), omega (arith, ints))
in_range (negsuc n) h = go (nat_lt 2147483647 n) refl
  where
    go : (b : Bool) → nat_lt 2147483647 n ≡ b → IsInRange (negsuc n)
    go true e = absurd
        (h (λ r. let lt : 2147483647 < n = grind (arith, nat_tests) in omega (arith, ints, r.0)))
    go false e = let le : n ≤ 2147483647 = grind (arith, nat_tests)
        in (omega (arith, ints), omega (arith, ints))

pub all_in_range : (text : List ℕ) → BreaksNoReadingRule text → (us vs : List Piece)
    → IsTokens Modules text (us ++ vs) → AreInRange Modules vs
all_in_range text u us [] r = tt
all_in_range text u us (x ∷ vs) r = (
  λ digits. in_range (written_number x.bytes) (λ outside. u 3 x.at (NumberRange x.at (record {
    before = us;
    here = x;
    begins = begins_at text (us ++ (x ∷ vs)) us x vs (length text) [] r refl;
    integer = digits;
    outside = outside;
  }))),
  all_in_range text u (us ++ x ∷ []) vs (subst (IsTokens Modules text) (sym (one_last us x vs)) r),
)

pub short : (text : List ℕ) → BreaksNoReadingRule text → (b : Bool)
    → nat_lt 1048576 (length text) ≡ b → length text ≤ 1048576
short text u true e = absurd (u 5 1048576 (TextTooLong (grind (arith, nat_tests))))
short text u false e = grind (arith, nat_tests)

module _ (text : List ℕ) (m : Module) (read : BreaksNoReadingRule text) (is : IsModuleText text m)
  where
    readable_body : IsReadable (body m)
    readable_body =
        let s = is.program.spelled in
        let w = s.spelled in
        readable_in Modules unlimited_nesting (body m) s.decls is.pieces w.0 w.1 [] s.names
        s.constructors s.functions w.3 (w.4 ∙ ap (λ v. w.0 ++ v) (sym (append-nil w.1)))
        (all_in_range text read [] is.pieces is.tokens)
        (few text is.pieces (length text) [] (short text read (nat_lt 1048576 (length text)) refl)
        is.tokens)

-- ---- the name

con_number : (names : List (List ℕ)) (w : List ℕ) (n : NameId)
    → said_by Modules names w (Some Upper) ≡ word.Con n → n.0 ≡ number_in names w
con_number names w n e = go (name_id (number_in names w)) n e
  where
    go : (a b : NameId) → word.Con a ≡ word.Con b → b.0 ≡ a.0
    go a b e = cc

named_so : (m : Module) (k c : Piece) (ps : List Piece) → IsModule unlimited_nesting m (k ∷ c ∷ ps)
    → (name_of m ≡ c.bytes) × (kind_of Modules c.bytes ≡ Some Upper)
unfolding first_token second_token
named_so m k c ps is =
    let s = is.spelled in
    let second = (spelled_first unlimited_nesting m (k ∷ c ∷ ps) s).1 in
    let upper = con_is m.names c m.name.name second in
    let number = con_number m.names c.bytes m.name.name
    (ap (said_by Modules m.names c.bytes) (sym upper) ∙ second) in
    let held : EachHeld Modules m.names (k ∷ c ∷ ps)
    = subst (λ v. EachHeld Modules v (k ∷ c ∷ ps)) (sym s.names)
    (each_held Modules [] (k ∷ c ∷ ps)) in (
      ap or_empty
          (ap (slice_get m.names) number ∙ at_number m.names c.bytes
          (held.1.0 (ap (is_numbered_by Modules c.bytes) upper))),
      upper,
    )

not_empty : (w : List ℕ) → kind_of Modules w ≡ Some Upper → w ≢ []
not_empty [] e f = absurd cc
not_empty (b ∷ w) e f = absurd cc

named_well : (m : Module) (ps : List Piece) → IsModule unlimited_nesting m ps → IsPlain (name_of m)
    × (name_of m ≢ [])
named_well m [] is = absurd is.named
named_well m (k ∷ []) is = absurd is.named
named_well m (k ∷ c ∷ ps) is =
    let w = named_so m k c ps is in
    (subst IsPlain (sym w.0) is.named, λ e. not_empty c.bytes w.1 (sym w.0 ∙ e))

pub of_text : (text : List ℕ) (m : Module) → BreaksNoReadingRule text → IsModuleText text m
    → IsGood m
of_text text m read is = let w = named_well m is.pieces is.program
    in record { readable = readable_body text m read is; plain = w.0; some = w.1 }
