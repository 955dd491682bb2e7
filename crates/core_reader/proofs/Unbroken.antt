-- The program of a text that breaks no rule is readable.
use Rattle.std.proofs.Common.{◌≡◌, ℕ, ◌<◌, ◌≤◌, Bool, true, false, nat_lt, List, [], ◌∷◌, ◌++◌, length, refl, sym, subst, arith}
use Rattle.std.specs.Prelude.{ℤ, pos, negsuc}
use Rattle.std.proofs.lemmas.Bool.Decides.{nat_tests}
use Rattle.std.proofs.lemmas.Int.{ints}
use Rattle.core_reader.specs.Grammar.{unlimited_nesting}
use Rattle.core_reader.specs.Tokens.{Piece, IsTokens}
use Rattle.core_reader.specs.Words.{IsInRange, written_number}
use Rattle.core_reader.specs.Rules.{NumberRange, TextTooLong, IsUnbroken}
use Rattle.core_reader.specs.Lexed.{AreInRange}
use Rattle.core_reader.specs.Laws.{AcceptedIsReadable}
use Rattle.core_reader.proofs.FirstBroken.{one_last, begins_at}
use Rattle.core_reader.proofs.Readability.{readable}
use Rattle.core_reader.proofs.Answers.{few}

-- ---- a number that isn't out of range is in range

positive : (n : ℕ) → ((IsInRange (pos n) → ⊥) → ⊥) → (b : Bool) → nat_lt 2147483647 n ≡ b
    → IsInRange (pos n)
positive n h true e = absurd
    (h (λ r. let lt : 2147483647 < n = grind (arith, nat_tests) in omega (arith, ints, r.1)))
positive n h false e = let le : n ≤ 2147483647 = grind (arith, nat_tests)
    in (omega (arith, ints), omega (arith, ints))

negative : (n : ℕ) → ((IsInRange (negsuc n) → ⊥) → ⊥) → (b : Bool) → nat_lt 2147483647 n ≡ b
    → IsInRange (negsuc n)
negative n h true e = absurd
    (h (λ r. let lt : 2147483647 < n = grind (arith, nat_tests) in omega (arith, ints, r.0)))
negative n h false e = let le : n ≤ 2147483647 = grind (arith, nat_tests)
    in (omega (arith, ints), omega (arith, ints))

in_range : (k : ℤ) → ((IsInRange k → ⊥) → ⊥) → IsInRange k
in_range (pos n) h = positive n h (nat_lt 2147483647 n) refl
in_range (negsuc n) h = negative n h (nat_lt 2147483647 n) refl

-- ---- of a whole text

all_in_range : (text : List ℕ) → IsUnbroken text → (us vs : List Piece) → IsTokens text (us ++ vs)
    → AreInRange vs
all_in_range text u us [] r = tt
all_in_range text u us (x ∷ vs) r = (
  λ digits. in_range (written_number x.bytes) (λ outside. u 3 x.at (NumberRange x.at (record {
    before = us;
    here = x;
    begins = begins_at text (us ++ (x ∷ vs)) us x vs (length text) [] r refl;
    integer = digits;
    outside = outside;
  }))),
  all_in_range text u (us ++ x ∷ []) vs (subst (IsTokens text) (sym (one_last us x vs)) r),
)

short : (text : List ℕ) → IsUnbroken text → (b : Bool) → nat_lt 1048576 (length text) ≡ b
    → length text ≤ 1048576
short text u true e = absurd (u 5 1048576 (TextTooLong (grind (arith, nat_tests))))
short text u false e = grind (arith, nat_tests)

pub unbroken_is_readable : AcceptedIsReadable
unbroken_is_readable text p u h =
    readable unlimited_nesting p h.pieces h.program (all_in_range text u [] h.pieces h.tokens)
    (few text h.pieces (length text) [] (short text u (nat_lt 1048576 (length text)) refl) h.tokens)
