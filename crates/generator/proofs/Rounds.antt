-- The state and the lines, one round more at a time.
use Rattle.std.proofs.Common.{◌≡◌, ℕ, suc, ◌+◌, ◌++◌, List, ap, ◌∙◌, append_assoc, arith, refl}
use Rattle.generator.specs.declared.draws.DrawnRound.{DrawnRound}
use Rattle.generator.specs.Generated.{round_from, after_round, state_at, round_lines, rounds, first_lines}

next_number : (n : ℕ) → n + 1 ≡ suc n
next_number n = omega arith

-- the state after a round
pub state_after : (seed n state state' : ℕ) → state' ≡ after_round state → state ≡ state_at seed n
    → state' ≡ state_at seed (n + 1)
state_after seed n state state' drawn at = rw (next_number n, drawn, at) refl

-- the lines of one round more
pub lines_after : (seed n state : ℕ) (text text' : List ℕ) (round : DrawnRound)
    → state ≡ state_at seed n → round ≡ round_from state
    → text ≡ first_lines ++ rounds seed n → text' ≡ text ++ round_lines round n
    → text' ≡ first_lines ++ rounds seed (n + 1)
lines_after seed n state text text' round at drawn old put =
    rw (next_number n, put, old, drawn, at)
    (append_assoc first_lines (rounds seed n) (round_lines (round_from (state_at seed n)) n))

-- three pieces, one put after the other
pub three_pieces : (a x y z b c d : List ℕ) → b ≡ a ++ x → c ≡ b ++ y → d ≡ c ++ z → d ≡ a
    ++ (x ++ y ++ z)
three_pieces a x y z b c d first second third =
    rw (third, second, first) (ap (λ t. t ++ z) (append_assoc a x y) ∙ append_assoc a (x ++ y) z)
