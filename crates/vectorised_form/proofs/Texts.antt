-- No part of a node stands by itself in a program that fits what its variables stand for.
use Rattle.std.proofs.Common.{List, [], ◌∷◌}
use Rattle.grin_syntax.specs.declared.program.Tag.{Tag}
use Rattle.grin_syntax.specs.declared.program.Cell.{Cell}
use Rattle.grin_syntax.specs.declared.program.Target.{Target}
use Rattle.grin_syntax.specs.declared.program.Target.TheVariants as to
use Rattle.grin_syntax.specs.declared.program.Val.{Val}
use Rattle.grin_syntax.specs.declared.program.Val.TheVariants.{NodeVar, Node, Vector, One}
use Rattle.grin_syntax.specs.Tree.{Code, end, store, bind, Act, leaf, unit, fetch, fetch_word, update, eval, apply, call, prim, read, write, case, nested, fail, Arms, no_arm, arm, Procedure}
use Rattle.grin_syntax.specs.Formed.{AllOf}
use Rattle.grin_meaning.specs.Ready.{EachAct, EachCode, EachArms, EveryBodyIsOfKind}
use Rattle.vectorise.specs.Whole.{NoVector, NoVectorTarget, NoWord, whole_node_kind}
use Rattle.inlined_form.proofs.Sorts.{Sort, Sorts, nothing_known, vars_sorted, cells_sorted, target_sorted, sort_of, TargetFits, KeptFits, ScrutineeFits, GivenFits, alternative_sorted, ActFits, CodeFits, ArmsFit, ProcedureFits}

kept_whole : (Γ : Sorts) (v : Val) → KeptFits Γ v → NoVector v
kept_whole Γ (NodeVar x) h = tt
kept_whole Γ (Node t ws) h = tt
kept_whole Γ (Vector ws) h = absurd h
kept_whole Γ (One w) h = tt

cells_whole : (Γ : Sorts) (cs : List Cell) → AllOf (λ c. KeptFits Γ c.val) cs
    → AllOf (λ c. NoVector c.val) cs
cells_whole Γ [] h = tt
cells_whole Γ (c ∷ cs) h = (kept_whole Γ c.val h.0, cells_whole Γ cs h.1)

scrutinee_whole : (Γ : Sorts) (v : Val) → ScrutineeFits Γ v → NoVector v
scrutinee_whole Γ (NodeVar x) h = tt
scrutinee_whole Γ (Node t ws) h = tt
scrutinee_whole Γ (Vector ws) h = absurd h
scrutinee_whole Γ (One w) h = tt

target_whole : (t : Target) (s : Sort) → TargetFits t s → NoVectorTarget t
target_whole to.Nothing s h = tt
target_whole (to.Node x) s h = tt
target_whole (to.One x) s h = tt
target_whole (to.Vector xs) s h = absurd h

module _ (ts : List Tag) where
  given_whole : (Γ : Sorts) (v : Val) → GivenFits ts Γ v → NoWord v × NoVector v
  given_whole Γ (NodeVar x) h = (tt, tt)
  given_whole Γ (Node t ws) h = (tt, tt)
  given_whole Γ (Vector ws) h = absurd h
  given_whole Γ (One w) h = absurd h

  mutual
    unfolding ActFits EachAct

    act_whole : (o : Act) (Γ : Sorts) → ActFits ts ⊥ ⊥ Γ o → EachAct whole_node_kind o
    act_whole (leaf (unit v)) Γ h = given_whole Γ v h
    act_whole (leaf (fetch a)) Γ h = tt
    act_whole (leaf (fetch_word a i)) Γ h = absurd h
    act_whole (leaf (update a v)) Γ h = (tt, kept_whole Γ v h)
    act_whole (leaf (eval a)) Γ h = absurd h
    act_whole (leaf (apply v a)) Γ h = absurd h.0
    act_whole (leaf (call f ws)) Γ h = tt
    act_whole (leaf (prim f a b)) Γ h = tt
    act_whole (leaf read) Γ h = tt
    act_whole (leaf (write a)) Γ h = tt
    act_whole (case v as') Γ h = (tt, scrutinee_whole Γ v h.0, arms_whole as' v Γ h.1)
    act_whole (nested b) Γ h = (tt, code_whole b Γ h)
    act_whole (leaf fail) Γ h = tt

    code_whole : (b : Code) (Γ : Sorts) → CodeFits ts ⊥ ⊥ Γ b → EachCode whole_node_kind b
    code_whole (end o) Γ h = act_whole o Γ h.1
    code_whole (store cs b) Γ h =
        (cells_whole (cells_sorted cs Γ) cs h.0, code_whole b (cells_sorted cs Γ) h.1)
    code_whole (bind t o b) Γ h = (
      target_whole t (sort_of o) h.0,
      act_whole o Γ h.1,
      code_whole b (target_sorted t (sort_of o) Γ) h.2,
    )

    arms_whole : (as' : Arms) (v : Val) (Γ : Sorts) → ArmsFit ts ⊥ ⊥ Γ v as'
        → EachArms whole_node_kind as'
    arms_whole no_arm v Γ h = tt
    arms_whole (arm s b as') v Γ h =
        (tt, code_whole b (alternative_sorted ts s v Γ) h.0, arms_whole as' v Γ h.1)

  pub procs_whole : (qs : List Procedure) → AllOf (ProcedureFits ts ⊥ ⊥) qs
      → EveryBodyIsOfKind whole_node_kind qs
  procs_whole [] h = tt
  procs_whole (q ∷ qs) h =
      (code_whole q.body (vars_sorted q.params nothing_known) h.0, procs_whole qs h.1)
