-- No frame of low code has more words than the bound says.
use Rattle.std.proofs.Common.{◌≡◌, ℕ, zero, suc, ◌+◌, ◌*◌, ◌≤◌, ◌<◌, List, [], ◌∷◌, length, Option, None, Some, slice_get, slice_index_or, refl, subst, arith}
use Rattle.std.proofs.Math.Nat.{mul_comm, mul_assoc}
use Rattle.seq.proofs.Order.{more_times}
use Rattle.grin_syntax.specs.Tree as grin
use Rattle.grin_syntax.specs.Formed.{AllOf}
use Rattle.grin_meaning.specs.Slim.{procedure_words, Slim}
use Rattle.low_code.specs.Tree as low
use Rattle.low_code.specs.Formed.{variables}
use Rattle.low_translate.specs.Lowers.{EachProcedurePair, LoweredIsSmall}
use Rattle.register_alloc.specs.Assignment.{Assignment, words_at}
use Rattle.register_alloc.specs.Fits.{Fits}
use Rattle.grin_compile.specs.Limits.{greatest, frame_words}

-- so many words for each of x levels are more than the stack only where they are so for y levels
pub over : (stack d x y most : ℕ) → stack < 4 * d → d ≤ x * most → x ≤ y → stack < 4 * most * y
over stack d x y most more frames levels =
    let t = more_times x y most levels in
    let e = mul_assoc 4 most y in
    let c = mul_comm most y in
    omega (arith, more, frames, t, e, c)

-- a procedure at whose place stands one of few words has few variables
few_variables : (most : ℕ) (gs : List grin.Procedure) (ls : List low.Procedure)
    → AllOf (λ q. procedure_words q ≤ most) gs
    → EachProcedurePair (λ q r. length (variables r) ≤ procedure_words q) gs ls
    → (f : ℕ) (r : low.Procedure) → slice_get ls f ≡ Some r → length (variables r) ≤ most
few_variables most [] [] all pairs f r e = cc
few_variables most [] (l ∷ ls) all pairs f r e = absurd pairs
few_variables most (q ∷ gs) [] all pairs f r e = absurd pairs
few_variables most (q ∷ gs) (l ∷ ls) all pairs zero r e =
    let same : l ≡ r = cc in subst (λ z. length (variables z) ≤ most) same
    (omega (arith, all.0, pairs.0))
few_variables most (q ∷ gs) (l ∷ ls) all pairs (suc f) r e
    = few_variables most gs ls all.1 pairs.1 f r e

nothing_past : {A : Type 0} (qs : List A) (ws : List ℕ) (f : ℕ) → length ws ≡ length qs
    → slice_get qs f ≡ None
    → slice_index_or ws f 0 ≡ 0
nothing_past [] [] f l e = refl
nothing_past [] (w ∷ ws) f l e = absurd (omega (arith, l))
nothing_past (q ∷ qs) [] f l e = refl
nothing_past (q ∷ qs) (w ∷ ws) zero l e = cc
nothing_past (q ∷ qs) (w ∷ ws) (suc f) l e = nothing_past qs ws f (omega (arith, l)) e

pub few_frame_words : (size most : ℕ) (g : grin.Program) (l : low.Program) (a : Assignment)
    → Slim size most g
    → LoweredIsSmall g l → Fits l a
    → (f : ℕ) → words_at a f ≤ 1 + 20 * most
few_frame_words size most g l a slim small fits f = go (slice_get l.procs f) refl
  where
    go : (o : Option low.Procedure) → slice_get l.procs f ≡ o → words_at a f ≤ 1 + 20 * most
    go None e = omega (arith, nothing_past l.procs a.frames f fits.covers.frames e)
    go (Some r) e = omega (
      arith,
      fits.dense f r e,
      few_variables
          (20 * most) g.procs l.procs slim.few_words small.few_words f r e,
    )

-- ---- the greatest of the words of frames

pub at_most_greatest : (ns : List ℕ) (f : ℕ) → frame_words ns f ≤ greatest ns
at_most_greatest [] f = omega arith
at_most_greatest (n ∷ ns) zero = omega arith
at_most_greatest (n ∷ ns) (suc f) = omega (arith, at_most_greatest ns f)

pub greatest_within : (ns : List ℕ) (most : ℕ) → ((f : ℕ) → frame_words ns f ≤ most)
    → greatest ns ≤ most
greatest_within [] most all = omega arith
greatest_within (n ∷ ns) most all = omega (arith, all 0, greatest_within ns most (λ f. all (suc f)))
