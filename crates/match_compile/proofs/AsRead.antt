-- The integers of a text that was read are in range.
use Rattle.std.proofs.Common.{◌≡◌, ℕ, ◌<◌, ◌≤◌, Bool, true, false, nat_lt, List, [], ◌∷◌, ◌++◌, length, refl, sym, subst, arith}
use Rattle.std.specs.Prelude.{ℤ, pos, negsuc}
use Rattle.std.proofs.lemmas.Bool.Decides.{nat_tests}
use Rattle.std.proofs.lemmas.Int.{ints}
use Rattle.core_reader.specs.declared.dialect.Dialect.TheVariants.{Core}
use Rattle.core_reader.specs.TokensOf.{Piece, IsTokens}
use Rattle.core_reader.specs.WordsOf.{written_number, IsInRange}
use Rattle.core_reader.specs.RulesOf.{NumberRange}
use Rattle.core_reader.specs.LexedOf.{AreInRange}
use Rattle.core_reader.proofs.FirstBroken.{one_last, begins_at}
use Rattle.match_compile.specs.Grammar.{BreaksNoReadingRule}

-- ---- numbers in range

-- a number that is not out of range is in range
in_range : (k : ℤ) → ((IsInRange k → ⊥) → ⊥) → IsInRange k
in_range (pos n) h = go (nat_lt 2147483647 n) refl
  where
    go : (b : Bool) → nat_lt 2147483647 n ≡ b → IsInRange (pos n)
    go true e = absurd
        (h (λ r. let lt : 2147483647 < n = grind (arith, nat_tests) in omega (arith, ints, r.1)))
    go false e = let le : n ≤ 2147483647 = grind (arith, nat_tests)
        in (omega (arith, ints), omega (arith, ints))
in_range (negsuc n) h = go (nat_lt 2147483647 n) refl
  where
    go : (b : Bool) → nat_lt 2147483647 n ≡ b → IsInRange (negsuc n)
    go true e = absurd
        (h (λ r. let lt : 2147483647 < n = grind (arith, nat_tests) in omega (arith, ints, r.0)))
    go false e = let le : n ≤ 2147483647 = grind (arith, nat_tests)
        in (omega (arith, ints), omega (arith, ints))

pub all_in_range : (text : List ℕ) → BreaksNoReadingRule text → (us vs : List Piece)
    → IsTokens Core text (us ++ vs) → AreInRange Core vs
all_in_range text u us [] r = tt
all_in_range text u us (x ∷ vs) r = (
  λ digits. in_range (written_number x.bytes) (λ outside. u 3 x.at (NumberRange x.at (record {
    before = us;
    here = x;
    begins = begins_at text (us ++ (x ∷ vs)) us x vs (length text) [] r refl;
    integer = digits;
    outside = outside;
  }))),
  all_in_range text u (us ++ x ∷ []) vs (subst (IsTokens Core text) (sym (one_last us x vs)) r),
)
