-- What the text of such a program has: no evaluation, no application, and nodes at the ends of its
-- blocks.
use Rattle.std.proofs.Common.{ℕ, ◌≤◌, List, [], ◌∷◌}
use Rattle.grin_syntax.specs.declared.program.Tag.{Tag}
use Rattle.grin_syntax.specs.declared.program.Val.{Val}
use Rattle.grin_syntax.specs.declared.program.Val.TheVariants.{NodeVar, Node, Vector, One}
use Rattle.grin_syntax.specs.Tree.{Code, end, store, bind, Act, leaf, unit, fetch, fetch_word, update, eval, apply, call, prim, read, write, case, nested, fail, Arms, no_arm, arm, Procedure}
use Rattle.grin_syntax.specs.Formed.{AllOf}
use Rattle.grin_meaning.specs.Ready.{EachAct, EachCode, EachArms, val_width, NarrowAct, NarrowCode, NarrowArms, EveryBodyIsOfKind, inlined_kind}
use Rattle.inlined_form.proofs.Sorts.{Sorts, nothing_known, vars_sorted, cells_sorted, target_sorted, sort_of, GivenFits, alternative_sorted, ActFits, CodeFits, ArmsFit, ProcedureFits}
use Rattle.grin_rewrite.proofs.Sound.{all_any}

module _ (ts : List Tag) where
  mutual
    unfolding ActFits EachAct

    act_inlined : (o : Act) (Γ : Sorts) → ActFits ts ⊥ ⊥ Γ o → EachAct inlined_kind o
    act_inlined (leaf (unit v)) Γ h = (tt, tt)
    act_inlined (leaf (fetch a)) Γ h = tt
    act_inlined (leaf (fetch_word a i)) Γ h = tt
    act_inlined (leaf (update a v)) Γ h = (tt, tt)
    act_inlined (leaf (eval a)) Γ h = h
    act_inlined (leaf (apply v a)) Γ h = absurd h.0
    act_inlined (leaf (call f ws)) Γ h = tt
    act_inlined (leaf (prim f a b)) Γ h = tt
    act_inlined (leaf read) Γ h = tt
    act_inlined (leaf (write a)) Γ h = tt
    act_inlined (case v as') Γ h = (tt, tt, arms_inlined as' v Γ h.1)
    act_inlined (nested b) Γ h = (tt, code_inlined b Γ h)
    act_inlined (leaf fail) Γ h = tt

    code_inlined : (b : Code) (Γ : Sorts) → CodeFits ts ⊥ ⊥ Γ b → EachCode inlined_kind b
    code_inlined (end o) Γ h = act_inlined o Γ h.1
    code_inlined (store cs b) Γ h = (all_any cs, code_inlined b (cells_sorted cs Γ) h.1)
    code_inlined (bind t o b) Γ h =
        (tt, act_inlined o Γ h.1, code_inlined b (target_sorted t (sort_of o) Γ) h.2)

    arms_inlined : (as' : Arms) (v : Val) (Γ : Sorts) → ArmsFit ts ⊥ ⊥ Γ v as'
        → EachArms inlined_kind as'
    arms_inlined no_arm v Γ h = tt
    arms_inlined (arm s b as') v Γ h =
        (tt, code_inlined b (alternative_sorted ts s v Γ) h.0, arms_inlined as' v Γ h.1)

  pub procs_inlined : (qs : List Procedure) → AllOf (ProcedureFits ts ⊥ ⊥) qs
      → EveryBodyIsOfKind inlined_kind qs
  procs_inlined [] h = tt
  procs_inlined (q ∷ qs) h =
      (code_inlined q.body (vars_sorted q.params nothing_known) h.0, procs_inlined qs h.1)

  -- a node counts as k words, which are at most m
  module _ (k m : ℕ) (le : k ≤ m) where
    given_narrow : (v : Val) (Γ : Sorts) → GivenFits ts Γ v → val_width k v ≤ m
    given_narrow (NodeVar x) Γ h = le
    given_narrow (Node t ws) Γ h = le
    given_narrow (Vector ws) Γ h = absurd h
    given_narrow (One a) Γ h = absurd h

    mutual
      unfolding ActFits NarrowAct

      act_narrow : (o : Act) (Γ : Sorts) → ActFits ts ⊥ ⊥ Γ o → NarrowAct k m o
      act_narrow (leaf (unit v)) Γ h = given_narrow v Γ h
      act_narrow (leaf (fetch a)) Γ h = le
      act_narrow (leaf (fetch_word a i)) Γ h = tt
      act_narrow (leaf (update a v)) Γ h = tt
      act_narrow (leaf (eval a)) Γ h = tt
      act_narrow (leaf (apply v a)) Γ h = tt
      act_narrow (leaf (call f ws)) Γ h = tt
      act_narrow (leaf (prim f a b)) Γ h = tt
      act_narrow (leaf read) Γ h = tt
      act_narrow (leaf (write a)) Γ h = tt
      act_narrow (case v as') Γ h = arms_narrow as' v Γ h.1
      act_narrow (nested b) Γ h = code_narrow b Γ h
      act_narrow (leaf fail) Γ h = tt

      code_narrow : (b : Code) (Γ : Sorts) → CodeFits ts ⊥ ⊥ Γ b → NarrowCode k m b
      code_narrow (end o) Γ h = act_narrow o Γ h.1
      code_narrow (store cs b) Γ h = code_narrow b (cells_sorted cs Γ) h.1
      code_narrow (bind t o b) Γ h = code_narrow b (target_sorted t (sort_of o) Γ) h.2

      arms_narrow : (as' : Arms) (v : Val) (Γ : Sorts) → ArmsFit ts ⊥ ⊥ Γ v as' → NarrowArms k m as'
      arms_narrow no_arm v Γ h = tt
      arms_narrow (arm s b as') v Γ h =
          (code_narrow b (alternative_sorted ts s v Γ) h.0, arms_narrow as' v Γ h.1)

    pub procs_narrow : (qs : List Procedure) → AllOf (ProcedureFits ts ⊥ ⊥) qs
        → AllOf (λ q. NarrowCode k m q.body) qs
    procs_narrow [] h = tt
    procs_narrow (q ∷ qs) h =
        (code_narrow q.body (vars_sorted q.params nothing_known) h.0, procs_narrow qs h.1)
