-- One broken rule is the first.
use Rattle.std.proofs.Common.{◌≡◌, ℕ, Bool, true, false, arith, inl, inr}
use Rattle.std.specs.Prelude.{nat_le, ◌&&◌, if◌then◌else◌}
use Rattle.arity_check.specs.Order.{rank, IsBefore}
use Rattle.arity_check.specs.One.{RefusalIsUnique}

-- neither of two is after the other
record Level (a b : ℕ × ℕ × ℕ) : Type 0 where
  group : a.0 ≡ b.0
  first : a.1 ≡ b.1
  second : a.2 ≡ b.2

level : (a b : ℕ × ℕ × ℕ) → IsBefore a b → IsBefore b a → Level a b
level a b (inl l) (inl m) = absurd (omega (arith, l, m))
level a b (inl l) (inr m) = let e = m.0 in absurd (omega (arith, l, e))
level a b (inr l) (inl m) = let e = l.0 in absurd (omega (arith, m, e))
level a b (inr (e, inl l)) (inr (f, inl m)) = absurd (omega (arith, l, m))
level a b (inr (e, inl l)) (inr (f, inr m)) = let g = m.0 in absurd (omega (arith, l, g))
level a b (inr (e, inr l)) (inr (f, inl m)) = let g = l.0 in absurd (omega (arith, m, g))
level a b (inr (e, inr l)) (inr (f, inr m)) = let x = l.1 in let y = m.1
    in record { group = e; first = l.0; second = omega (arith, x, y) }

-- the rank of a rule by the two tests on its number
abbrev by : Bool → Bool → ℕ → ℕ → ℕ × ℕ × ℕ
by limit program k at = if limit then (0, k, at) else if program then (2, k, at) else (1, at, k)

apart : (a b a' b' : Bool) (k at k' at' : ℕ) → Level (by a b k at) (by a' b' k' at') → (k ≡ k')
    × (at ≡ at')
apart true b true b' k at k' at' l = (l.first, l.second)
apart true b false true k at k' at' l = let g = l.group in absurd (omega (arith, g))
apart true b false false k at k' at' l = let g = l.group in absurd (omega (arith, g))
apart false true true b' k at k' at' l = let g = l.group in absurd (omega (arith, g))
apart false true false true k at k' at' l = (l.first, l.second)
apart false true false false k at k' at' l = let g = l.group in absurd (omega (arith, g))
apart false false true b' k at k' at' l = let g = l.group in absurd (omega (arith, g))
apart false false false true k at k' at' l = let g = l.group in absurd (omega (arith, g))
apart false false false false k at k' at' l = (l.second, l.first)

pub one_refusal : RefusalIsUnique
one_refusal p k at k' at' a b =
    apart (nat_le 31 k) (nat_le 19 k && nat_le k 21) (nat_le 31 k') (nat_le 19 k' && nat_le k' 21) k
    at k' at'
    (level (rank k at) (rank k' at') (a.first k' at' b.broken) (b.first k at a.broken))
