-- What the pass decides of the parameters: each is looked at in its turn, from the left.
use Rattle.std.specs.Prelude.{ℕ, suc, ◌≡◌, ◌≢◌, ◌+◌, ◌-◌, ◌≤◌, List, [], ◌∷◌, ◌++◌, length, Some, None}
use Rattle.grin_syntax.specs.declared.program.VarId.{VarId}
use Rattle.grin_syntax.specs.Fresh.{variables, past_procs}
use Rattle.grin_syntax.specs.Tree.{Procedure, Program}
use Rattle.flow_system.specs.Solution.{Solution}
use Rattle.raise_theory.specs.Raisable.{Raisable}
use Rattle.raise_theory.specs.Raising.{Decisions, fields_of}

-- none is raised
abbrev pub AllStay : List VarId → Decisions → Type 0
AllStay [] [] = Unit {0}
AllStay (x ∷ xs) (None ∷ ds) = AllStay xs ds
AllStay _ _ = ⊥

-- at its turn, where the procedure has so many parameters: replacing it leaves at most 16
abbrev pub FitsParameterLimit : (count fields : ℕ) → Type 0
FitsParameterLimit count fields = count + fields ≤ 17

module _ (A : Solution) (g : Program) where
  -- a parameter stays only where it can't be raised or there is no room
  abbrev pub Stays : Procedure → VarId → ℕ → Type 0
  Stays q x count = (t k : ℕ) → Raisable A g q x.0 t k → FitsParameterLimit count k → ⊥

  -- what is decided of these parameters of q, where it has so many at their turn
  abbrev pub Decided : Procedure → ℕ → List VarId → Decisions → Type 0
  Decided q count [] [] = Unit {0}
  Decided q count (x ∷ xs) (None ∷ ds) = Stays q x count × Decided q count xs ds
  Decided q count (x ∷ xs) (Some r ∷ ds) =
      Raisable A g q x.0 r.tag.0 r.fields × FitsParameterLimit count r.fields
      × Decided q (count + r.fields - 1) xs ds
  Decided q count _ _ = ⊥

  -- procedure f; the start keeps its parameters
  pub record ProcedureDecided (f : ℕ) (q : Procedure) (ds : Decisions) : Type 0 where
    pub start : f ≡ g.start.0 → AllStay q.params ds
    pub other : f ≢ g.start.0 → Decided q (length q.params) q.params ds

  abbrev pub AllDecided : ℕ → List Procedure → List Decisions → Type 0
  AllDecided f [] [] = Unit {0}
  AllDecided f (q ∷ qs) (ds ∷ dss) = ProcedureDecided f q ds × AllDecided (suc f) qs dss
  AllDecided f _ _ = ⊥

-- ---- the new parameters

abbrev pub new_params : Decisions → List VarId
new_params [] = []
new_params (None ∷ ds) = new_params ds
new_params (Some r ∷ ds) = fields_of r ++ new_params ds

abbrev pub all_new_params : List Decisions → List VarId
all_new_params [] = []
all_new_params (ds ∷ dss) = new_params ds ++ all_new_params dss

-- the new parameters are the variables past those of g, in a row, and n is the next one
pub record NewParametersNumbered (g : Program) (D : List Decisions) (n : ℕ) : Type 0 where
  pub count : ℕ
  pub in_a_row : all_new_params D ≡ variables (past_procs g.procs) count
  pub next : n ≡ past_procs g.procs + count

pub record IsDecided (A : Solution) (g : Program) (D : List Decisions) (n : ℕ) : Type 0 where
  pub decided : AllDecided A g 0 g.procs D
  pub numbered : NewParametersNumbered g D n
