-- Rounds in which procedures are taken out of a set.
use Rattle.std.specs.Prelude.{ℕ, ◌≡◌, ◌+◌, ◌<◌, ◌≤◌, Bool, true, false, cond, not, nat_eq, ◌&&◌, ◌||◌, List, [], ◌∷◌}
use Rattle.grin_syntax.specs.declared.program.ProcId.{ProcId}
use Rattle.grin_syntax.specs.Formed.{AllOf}
use Rattle.unbox.specs.declared.ties.Tie.{Tie}
use Rattle.unbox_theory.specs.Ends.{Procedures, is_member}
use Rattle.unbox.specs.Ties.{RespectsTie}

-- how many are in
abbrev pub count_members : List Bool → ℕ
count_members [] = 0
count_members (b ∷ bs) = cond b 1 0 + count_members bs

abbrev pub is_among : ℕ → List ProcId → Bool
is_among g [] = false
is_among g (f ∷ fs) = nat_eq g f.0 || is_among g fs

-- each procedure of T is in
abbrev pub Within : Procedures → List Bool → Type 0
Within T bs = (f : ℕ) → T f ≡ true → is_member bs f ≡ true

-- fewer are in where something has changed
pub record Fewer (old new : List Bool) (changed : Bool) : Type 0 where
  pub at_most : count_members new ≤ count_members old
  pub less : changed ≡ true → count_members new < count_members old
  pub still : changed ≡ false → new ≡ old

-- these are taken out
pub record ProceduresRemoved (old new : List Bool) (fs : List ProcId) (changed : Bool)
    : Type 0 where
  pub members : (g : ℕ) → is_member new g ≡ (is_member old g && not (is_among g fs))
  pub fewer : Fewer old new changed

-- ties are heeded: no procedure of a set that heeds them is taken out
pub record TiesEnforced (old new : List Bool) (ts : List Tie) (changed : Bool) : Type 0 where
  pub sound : (T : Procedures) → AllOf (RespectsTie T) ts → Within T old → Within T new
  pub done : changed ≡ false → AllOf (RespectsTie (is_member new)) ts
  pub fewer : Fewer old new changed
