-- Which procedures are members together or not at all: those that the ends of one body call, with
-- the body's own; and those that the ends of one bound operation call.
use Rattle.std.specs.Prelude.{ℕ, suc, ◌≡◌, ◌<◌, Bool, true, false, ◌&&◌, ◌||◌, List, [], ◌∷◌, ◌++◌}
use Rattle.grin_syntax.specs.declared.program.ProcId.{ProcId}
use Rattle.grin_syntax.specs.Tree.{Code, end, store, bind, Act, leaf, unit, call, case, nested, fail, Arms, no_arm, arm, Procedure}
use Rattle.grin_syntax.specs.Formed.{AllOf}
use Rattle.flow_system.specs.Solution.{Solution}
use Rattle.unbox.specs.declared.ties.Tie.{Tie}
use Rattle.unbox_theory.specs.Ends.{Procedures, is_int, has_int}

unfoldable mutual
  -- the procedures that the ends of a piece call
  pub act_called : Act → List ProcId
  act_called (leaf (call f ws)) = f ∷ []
  act_called (case v as') = arms_called as'
  act_called (nested b) = code_called b
  act_called _ = []

  pub code_called : Code → List ProcId
  code_called (end o) = act_called o
  code_called (store cs b) = code_called b
  code_called (bind t o b) = code_called b

  pub arms_called : Arms → List ProcId
  arms_called no_arm = []
  arms_called (arm s b as') = code_called b ++ arms_called as'

module _ (A : Solution) where
  unfoldable mutual
    -- whether each other end gives the tag CInt and no other, or fails
    pub act_ints : Act → Bool
    act_ints (leaf (unit v)) = is_int A v
    act_ints (leaf (call f ws)) = true
    act_ints (case v as') = arms_ints as'
    act_ints (nested b) = code_ints b
    act_ints (leaf fail) = true
    act_ints _ = false

    pub code_ints : Code → Bool
    code_ints (end o) = act_ints o
    code_ints (store cs b) = code_ints b
    code_ints (bind t o b) = code_ints b

    pub arms_ints : Arms → Bool
    arms_ints no_arm = true
    arms_ints (arm s b as') = code_ints b && arms_ints as'

  abbrev pub tie_of : Act → Tie
  tie_of o = record { sound = act_ints o; procs = act_called o }

  unfoldable mutual
    -- a tie for each bound operation of a piece
    pub act_ties : Act → List Tie
    act_ties (case v as') = arms_ties as'
    act_ties (nested b) = code_ties b
    act_ties _ = []

    pub code_ties : Code → List Tie
    code_ties (end o) = act_ties o
    code_ties (store cs b) = code_ties b
    code_ties (bind t o b) = tie_of o ∷ (act_ties o ++ code_ties b)

    pub arms_ties : Arms → List Tie
    arms_ties no_arm = []
    arms_ties (arm s b as') = code_ties b ++ arms_ties as'

  abbrev pub body_tie : ℕ → Procedure → Tie
  body_tie f q = record {
    sound = has_int A f && code_ints q.body;
    procs = record { 0 = f } ∷ code_called q.body;
  }

  -- and one for each body, of the procedures from number f on
  abbrev pub ties_from : ℕ → List Procedure → List Tie
  ties_from f [] = []
  ties_from f (q ∷ qs) = body_tie f q ∷ (code_ties q.body ++ ties_from (suc f) qs)

-- ---- sets that heed ties

abbrev pub any_in : Procedures → List ProcId → Bool
any_in S [] = false
any_in S (f ∷ fs) = S f.0 || any_in S fs

abbrev pub all_in : Procedures → List ProcId → Bool
all_in S [] = true
all_in S (f ∷ fs) = S f.0 && all_in S fs

-- where one of the procedures is in the set, all are, and may be
abbrev pub RespectsTie : Procedures → Tie → Type 0
RespectsTie S t = any_in S t.procs ≡ true → (t.sound && all_in S t.procs) ≡ true

-- S heeds the ties, and includes each set of so many procedures that does
pub record IsGreatestRespecting (count : ℕ) (ts : List Tie) (S : Procedures) : Type 0 where
  pub heeds : AllOf (RespectsTie S) ts
  pub greatest : (T : Procedures) → ((f : ℕ) → T f ≡ true → f < count) → AllOf (RespectsTie T) ts
      → (f : ℕ) → T f ≡ true → S f ≡ true
