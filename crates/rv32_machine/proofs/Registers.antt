-- What a register has after it was set.
use Rattle.std.proofs.Common.{◌≡◌, ◌≢◌, ℕ, Bool, true, false, nat_eq, if◌then◌else◌, refl, ap}
use Rattle.seq.proofs.Order.{eq_self, eq_false}
use Rattle.rv32_machine.specs.Steps.{set_reg}

pub set_here : (regs : ℕ → ℕ) (r v : ℕ) → set_reg regs r v r ≡ v
set_here regs r v = ap (λ b. if b then v else regs r) (eq_self r)

pub set_there : (regs : ℕ → ℕ) (r v q : ℕ) → q ≢ r → set_reg regs r v q ≡ regs q
set_there regs r v q h = ap (λ b. if b then v else regs q) (eq_false q r h)

pub twice_at : (b : Bool) (x y z : ℕ) → (if b then y else (if b then x else z)) ≡
    (if b then y else z)
twice_at true x y z = refl
twice_at false x y z = refl

pub set_again : (regs : ℕ → ℕ) (r x y : ℕ) → set_reg (set_reg regs r x) r y ≡ set_reg regs r y
set_again regs r x y = λ i q. twice_at (nat_eq q r) x y (regs q) i
