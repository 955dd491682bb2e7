-- The shape of a program that is vectorised.
use Rattle.std.specs.Prelude.{ℕ, suc, ◌≡◌, ◌≤◌, Bool, cond, List, [], ◌∷◌, length}
use Rattle.grin_syntax.specs.declared.program.VarId.{VarId}
use Rattle.grin_syntax.specs.declared.program.Target.{Target}
use Rattle.grin_syntax.specs.declared.program.Target.TheVariants as to
use Rattle.grin_syntax.specs.Tree.{Code, end, store, bind, Act, case, nested, Arms, no_arm, arm, Procedure, Program}
use Rattle.grin_syntax.specs.Formed.{Formed}
use Rattle.grin_syntax.specs.SameOutside.{DifferOnlyInBodies}
use Rattle.grin_meaning.specs.Checks.{is_fetch}
use Rattle.grin_meaning.specs.Ready.{most_fields, most_value_fields, IsVectorised, Ready}
use Rattle.grin_meaning.specs.Slim.{procs_weight, procs_calls, procedure_words}
use Rattle.vectorise.specs.Vectors.{vectorised}

-- where the longest node has `most` fields, and the longest that is a value `most_value`
module _ (most most_value : ℕ) where
  -- a vector with a tag and these fields stands in the place of a node variable; other targets stay
  abbrev pub Width : Bool → Target → Target → Type 0
  Width fetched (to.Node x) t =
      (xs : List VarId) × (t ≡ to.Vector xs) × (length xs ≡ suc (cond fetched most most_value))
  Width fetched t t' = t' ≡ t

  unfoldable mutual
    pub ActWidths : Act → Act → Type 0
    ActWidths (case v as') (case v' bs') = ArmsWidths as' bs'
    ActWidths (nested b) (nested b') = CodeWidths b b'
    ActWidths (case v as') _ = ⊥
    ActWidths (nested b) _ = ⊥
    ActWidths _ (case v as') = ⊥
    ActWidths _ (nested b) = ⊥
    ActWidths _ _ = Unit {0}

    pub CodeWidths : Code → Code → Type 0
    CodeWidths (end o) (end o') = ActWidths o o'
    CodeWidths (store cs b) (store cs' b') = CodeWidths b b'
    CodeWidths (bind t o b) (bind t' o' b') =
        Width (is_fetch o) t t' × ActWidths o o' × CodeWidths b b'
    CodeWidths _ _ = ⊥

    pub ArmsWidths : Arms → Arms → Type 0
    ArmsWidths no_arm no_arm = Unit {0}
    ArmsWidths (arm s b as') (arm s' b' bs') = CodeWidths b b' × ArmsWidths as' bs'
    ArmsWidths _ _ = ⊥

  abbrev pub Widths : List Procedure → List Procedure → Type 0
  Widths [] [] = Unit {0}
  Widths (q ∷ qs) (r ∷ rs) = CodeWidths q.body r.body × Widths qs rs
  Widths _ _ = ⊥

-- no procedure has more words than before
abbrev pub ProcedureWordsDoNotGrow : List Procedure → List Procedure → Type 0
ProcedureWordsDoNotGrow [] [] = Unit {0}
ProcedureWordsDoNotGrow (q ∷ qs) (r ∷ rs) =
    (procedure_words r ≤ procedure_words q) × ProcedureWordsDoNotGrow qs rs
ProcedureWordsDoNotGrow _ _ = ⊥

-- h is g vectorised: no node variable is left, and each is a vector of the width that its
-- place asks for; what comes after takes it; and neither its weight, nor its calls, nor the words
-- of a procedure are more
pub record Widened (g h : Program) : Type 0 where
  pub made : h ≡ vectorised g
  pub formed : Formed h
  pub ready : Ready h
  pub vectorised : IsVectorised h
  pub widths : Widths (most_fields g.tags) (most_value_fields g.tags) g.procs h.procs
  pub outside : DifferOnlyInBodies g h
  pub light : procs_weight h.procs ≤ procs_weight g.procs
  pub few_calls : procs_calls h.procs ≤ procs_calls g.procs
  pub few_words : ProcedureWordsDoNotGrow g.procs h.procs
