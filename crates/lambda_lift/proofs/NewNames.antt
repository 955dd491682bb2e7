-- The names of lifted functions differ from each other and from those of a text that has none that
-- is reserved.
use Rattle.std.proofs.Common.{◌≡◌, ℕ, zero, suc, ◌+◌, ◌<◌, ◌≤◌, ◌^◌, Bool, true, false, List, [], ◌∷◌, ◌++◌, refl, sym, ap, subst, ◌∙◌, arith, Some, None}
use Rattle.std.specs.Prelude.{◌≢◌, All, codes, decimal, fold, slice_get, if◌then◌else◌}
use Rattle.std.specs.List.{list_any}
use Rattle.std.specs.Str.{bytes_eq}
use Rattle.std.specs.Str.Parse.{digits_value}
use Rattle.std.proofs.lemmas.List.Elements.{All-nil, All-cons, All-push, All-head, All-tail, All-append, All-weaker}
use Rattle.std.proofs.lemmas.Fmt.{decimal_is_IsNumeral}
use Rattle.core_reader.specs.declared.dialect.Dialect.TheVariants.{Lambdas}
use Rattle.core_reader.specs.declared.look.TokenKind.TheVariants.{Lower}
use Rattle.core_reader.specs.Bytes.{is_inner}
use Rattle.core_reader.specs.TokensOf.{Piece, kind_of, every}
use Rattle.core_reader.specs.NamesOf.{is_numbered, is_numbered_by, with_piece}
use Rattle.core_reader.specs.Different.{AreDistinct}
use Rattle.lambda_reader.specs.Tree.{Program}
use Rattle.lambda_reader.specs.Programs.{IsSourceText}
use Rattle.lambda_reader.specs.Reserved.{HasReserved, Stands}
use Rattle.lambda_lift.specs.Lifted.{lifted_names, IsNotLifted}
use Rattle.lambda_lift.specs.Choosing.{IsUnreservedName}

-- ---- of a text

lift_kind : (w rest : List ℕ) → w ≡ codes "lift'" ++ rest
    → is_numbered_by Lambdas w (kind_of Lambdas w) ≡ true → kind_of Lambdas w ≡ Some Lower
lift_kind w rest e n = ap (kind_of Lambdas) e ∙ by (every is_inner (codes "ift'" ++ rest))
    (sym (ap (λ v. is_numbered_by Lambdas w (kind_of Lambdas v)) e) ∙ n)
  where
    by : (b : Bool) → is_numbered_by Lambdas w (if b then Some Lower else None) ≡ true
        → (if b then Some Lower else None) ≡ Some Lower
    by true h = refl
    by false h = absurd cc

name_by : (a b : Bool) (names : List (List ℕ)) (w : List ℕ) → All IsUnreservedName names
    → (a ≡ true → IsUnreservedName w) → All IsUnreservedName
    (if a then (if b then names else names ++ w ∷ []) else names)
name_by false b names w h f = h
name_by true true names w h f = h
name_by true false names w h f = All-push IsUnreservedName names w h (f refl)

free_from : (names : List (List ℕ)) (ps : List Piece) → All IsUnreservedName names
    → ((p : Piece) (i : ℕ) → slice_get ps i ≡ Some p → is_numbered Lambdas p ≡ true
    → IsUnreservedName p.bytes) → All IsUnreservedName (fold (with_piece Lambdas) names ps)
free_from names [] h f = h
free_from names (p ∷ ps) h f = free_from (with_piece Lambdas names p) ps
    (name_by (is_numbered Lambdas p) (list_any (bytes_eq p.bytes) names) names p.bytes h
    (f p 0 refl)) (λ q i e. f q (suc i) e)

-- the names of a text that has none that begins so
pub text_free : (text : List ℕ) (c : Program) → IsSourceText text c
    → ((at : ℕ) → HasReserved text at → ⊥) → All IsUnreservedName c.names
text_free text c t none =
    subst (All IsUnreservedName) (sym t.program.names)
    (free_from [] t.pieces (All-nil IsUnreservedName)
    (λ p i e n rest f. none p.at (Stands i t.tokens e (rest, lift_kind p.bytes rest f n, f))))

-- ---- of lifted functions

decimal_one : (k m : ℕ) → k < 2 ^ 32 → m < 2 ^ 32 → decimal m ≡ decimal k → m ≡ k
decimal_one k m l h e =
    let wide : (n : ℕ) → n < 2 ^ 32 → n < 2 ^ 64 = λ n l. omega arith in
    sym (decimal_is_IsNumeral m (wide m h)).1 ∙ ap (digits_value 10) e ∙
    (decimal_is_IsNumeral k (wide k l)).1

name_one : (xs ys : List ℕ) → codes "lift'" ++ xs ≡ codes "lift'" ++ ys → xs ≡ ys
name_one xs ys e = cc

differs : (k m : ℕ) → k < m → m < 2 ^ 32 → codes "lift'" ++ decimal m ≢ codes "lift'" ++ decimal k
differs k m l h e = let same : m ≡ k = decimal_one k m (omega arith) h
    (name_one (decimal m) (decimal k) e) in omega arith

all_differ : (k m n : ℕ) → k < m → m + n ≤ 2 ^ 32 → All (λ v. v ≢ codes "lift'" ++ decimal k)
    (lifted_names m n)
all_differ k m zero l h = All-nil (λ v. v ≢ codes "lift'" ++ decimal k)
all_differ k m (suc n) l h = All-cons (λ v. v ≢ codes "lift'" ++ decimal k)
    (codes "lift'" ++ decimal m) (lifted_names (suc m) n) (differs k m l (omega arith))
    (all_differ k (suc m) n (omega arith) (omega arith))

lifted_different : (k n : ℕ) → k + n ≤ 2 ^ 32 → AreDistinct (lifted_names k n)
lifted_different k zero h = tt
lifted_different k (suc n) h =
    (all_differ k (suc k) n (omega arith) (omega arith), lifted_different (suc k) n (omega arith))

-- ---- both

-- names that do not begin so are none of them
pub not_lifted : (n : ℕ) (names : List (List ℕ)) → All IsUnreservedName names
    → All (IsNotLifted n) names
not_lifted n names h = All-weaker IsUnreservedName (IsNotLifted n) (λ w f k l. f (decimal k)) names
    h

others : (w : List ℕ) (m k n : ℕ) → IsNotLifted m w → k + n ≤ m
    → All (λ v. v ≢ w) (lifted_names k n)
others w m k zero f l = All-nil (λ v. v ≢ w)
others w m k (suc n) f l = All-cons (λ v. v ≢ w) (codes "lift'" ++ decimal k)
    (lifted_names (suc k) n) (λ e. f k (omega (arith, l)) (sym e))
    (others w m (suc k) n f (omega (arith, l)))

pub all_different : (names : List (List ℕ)) (n : ℕ) → n ≤ 2 ^ 32 → AreDistinct names
    → All (IsNotLifted n) names → AreDistinct (names ++ lifted_names 0 n)
all_different [] n l d f = lifted_different 0 n (omega arith)
all_different (w ∷ names) n l d f = (
  All-append (λ v. v ≢ w) names (lifted_names 0 n) d.0
      (others w n 0 n (All-head (IsNotLifted n) w names f) (omega arith)),
  all_different names n l d.1 (All-tail (IsNotLifted n) w names f),
)
