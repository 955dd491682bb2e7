-- A program that fits still does once its evaluations are inlined.
use Rattle.std.proofs.Common.{◌≡◌, ℕ, zero, suc, ◌<◌, ◌≤◌, ◌+◌, Bool, true, false, cond, List, [], ◌∷◌, Option, Some, None, slice_get, refl, sym, ap, ◌∙◌, subst, arith}
use Rattle.std.specs.Prelude.{nat_eq}
use Rattle.std.proofs.lemmas.Bool.Decides.{nat_tests}
use Rattle.seq.proofs.Order.{eq_self}
use Rattle.grin_syntax.specs.declared.program.ProcId.{ProcId}
use Rattle.grin_syntax.specs.declared.program.Tag.{Tag}
use Rattle.grin_syntax.specs.declared.program.Target.{Target}
use Rattle.grin_syntax.specs.declared.program.Val as V
use Rattle.grin_syntax.specs.declared.program.Val.TheVariants.{NodeVar}
use Rattle.grin_syntax.specs.declared.program.Word.{Word}
use Rattle.grin_syntax.specs.Tree.{Code, end, store, bind, Act, leaf, unit, fetch, fetch_word, update, eval, apply, call, prim, read, write, case, nested, fail, Arms, no_arm, arm, Procedure, Program}
use Rattle.grin_syntax.specs.Formed.{AllOf}
use Rattle.grin_syntax.specs.Fresh.{variable, variables, past_act, past_code, past_arms, past_procs}
use Rattle.grin_meaning.specs.Run.{is_fun_kind, is_some_and}
use Rattle.flow_system.specs.Solution.{Solution}
use Rattle.grin_rewrite.specs.Counted.{bound_before, act_room, code_room, before_act, counted_act, counted_code, counted_all, counted_procs}
use Rattle.inline_theory.specs.Evaluations.{call_body, eval_body, eval_arms, evaluation, eval_inlined, tags_of, eval_rule}
use Rattle.inlined_form.proofs.Sorts.{Sort, anything, a_node, evaluated, Sorts, nothing_known, sorted, vars_sorted, cells_sorted, target_sorted, sort_of, IsNode, TargetFits, ScrutineeFits, delayed, alternative_sorted, ActFits, CodeFits, ArmsFit, ProcedureFits, ProgramFits}
use Rattle.inlined_form.proofs.MoreSorts.{KnowsNoMore, knows_self, knows_cells, knows_target, knows_alternative, kept_known, all_known, scrutinee_known, given_known, fresh_known, Unknown, unknown_vars, unknown_cells, unknown_target, unknown_alternative}
use Rattle.inline_theory.specs.Without.{NotEval}

-- what is known of a variable
pub has_sort : (x : ℕ) (s : Sort) (Γ : Sorts) → sorted x s Γ x ≡ s
has_sort x s Γ = ap (λ b. cond b s (Γ x)) (eq_self x)

-- of a variable below some as much is known as before them
variables_above : (y k n : ℕ) (Γ : Sorts) → n < y → vars_sorted (variables y k) Γ n ≡ Γ n
variables_above y zero n Γ lt = refl
variables_above y (suc k) n Γ lt = let e : nat_eq n y ≡ false = grind (arith, nat_tests) in
    variables_above (suc y) k n (sorted y anything Γ) (omega arith) ∙ ap
    (λ b. cond b anything (Γ n)) e

module _ (p : Program) (A : Solution) where
  call_fits : (a : Word) (y k : ℕ) (o : Option ProcId) (Γ : Sorts)
      → CodeFits p.tags ⊥ (Unit {0}) Γ (call_body p A a y k o)
  unfolding ActFits
  call_fits a y k None Γ = (refl, tt)
  call_fits a y k (Some f) Γ =
      let has = has_sort (y + k) evaluated Γ in
      (tt, tt, (refl, subst IsNode (sym has) tt, (refl, has)))

  body_fits : (a : Word) (n y t : ℕ) (i : Tag) (Γ : Sorts) → n < y → slice_get p.tags t ≡ Some i
      → CodeFits p.tags ⊥ (Unit {0})
      (vars_sorted (variables y i.fields) (cond (delayed p.tags t) Γ (sorted n evaluated Γ)))
      (eval_body p A a n y i)
  unfolding ActFits
  body_fits a n y t i Γ lt e = on (is_fun_kind i.kind)
      (ap (λ o. is_some_and o (λ i. is_fun_kind i.kind)) e)
    where
      on : (b : Bool) → delayed p.tags t ≡ b → CodeFits p.tags ⊥ (Unit {0})
          (vars_sorted (variables y i.fields) (cond (delayed p.tags t) Γ (sorted n evaluated Γ)))
          (cond b (call_body p A a y i.fields i.proc) (end (leaf (unit (NodeVar (variable n))))))
      on true q = call_fits a y i.fields i.proc _
      on false q = (
        refl,
        variables_above y i.fields n _ lt ∙
            (ap (λ b. cond b Γ (sorted n evaluated Γ) n) q ∙ has_sort n evaluated Γ),
      )

  arms_fit : (a : Word) (n y : ℕ) (ks : List ℕ) (Γ : Sorts) → n < y
      → ArmsFit p.tags ⊥ (Unit {0}) Γ (NodeVar (variable n)) (eval_arms p A a n y ks)
  unfolding ActFits
  arms_fit a n y [] Γ lt = tt
  arms_fit a n y (t ∷ ts) Γ lt = on (λ z le. arms_fit a n z ts Γ le) (slice_get p.tags t) refl
    where
      on : ((z : ℕ) → n < z → ArmsFit p.tags ⊥ (Unit {0}) Γ (NodeVar (variable n))
          (eval_arms p A a n z ts)) → (o : Option Tag) → slice_get p.tags t ≡ o
          → ArmsFit p.tags ⊥ (Unit {0}) Γ (NodeVar (variable n)) (eval_arms p A a n y (t ∷ ts))
      on later None e = rw e (later (1 + (y + 0)) (omega arith))
      on later (Some i) e = rw e
          (body_fits a n y t i Γ lt e, later (1 + (y + i.fields)) (omega arith))

  -- the case on a node that was fetched into x
  case_fits : (a : Word) (x : ℕ) (Γ : Sorts) → ActFits p.tags ⊥ (Unit {0}) (sorted x a_node Γ)
      (evaluation p A x a)
  unfolding ActFits
  case_fits a x Γ = (
    subst IsNode (sym (has_sort x a_node Γ)) tt,
    arms_fit a x (suc x) (tags_of p A a) (sorted x a_node Γ) (omega arith),
  )

  bound_fits : (x : ℕ) (t : Target) (o : Act) (b : Code) (Γ Γ' : Sorts) → KnowsNoMore Γ Γ'
      → Γ x ≡ anything → TargetFits t (sort_of o) →
      (NotEval o → (Γ' : Sorts) → KnowsNoMore Γ Γ' → ActFits p.tags ⊥ (Unit {0}) Γ'
      (counted_act (eval_rule p A) x o))
      → ((Γ' : Sorts) → KnowsNoMore (target_sorted t (sort_of o) Γ) Γ'
      → CodeFits p.tags ⊥ (Unit {0}) Γ' b) → CodeFits p.tags ⊥ (Unit {0}) Γ'
      (bound_before (before_act (eval_rule p A) x o)
      (bind t (counted_act (eval_rule p A) x o) b))
  unfolding ActFits counted_act
  bound_fits x t (leaf (eval a)) b Γ Γ' k new ht ho hb
      = (
        tt,
        tt,
        (
          ht,
          case_fits a x Γ',
          hb _
              (knows_target t evaluated Γ (sorted x a_node Γ') (fresh_known Γ Γ' k x a_node new)),
        ),
      )
  bound_fits x t o b Γ Γ' k new ht ho hb =
      (ht, ho tt Γ' k, hb _ (knows_target t (sort_of o) Γ Γ' k))

  ended_fits : (x : ℕ) (o : Act) (Γ Γ' : Sorts) → KnowsNoMore Γ Γ' → Γ x ≡ anything
      → sort_of o ≡ evaluated →
      (NotEval o → (Γ' : Sorts) → KnowsNoMore Γ Γ' → ActFits p.tags ⊥ (Unit {0}) Γ'
      (counted_act (eval_rule p A) x o))
      → CodeFits p.tags ⊥ (Unit {0}) Γ'
      (bound_before (before_act (eval_rule p A) x o) (end (counted_act (eval_rule p A) x o)))
  unfolding ActFits counted_act
  ended_fits x (leaf (eval a)) Γ Γ' k new hs ho = (tt, tt, (refl, case_fits a x Γ'))
  ended_fits x o Γ Γ' k new hs ho = (hs, ho tt Γ' k)

  -- x0 is a variable past those of the program
  module _ (x0 : ℕ) where
    mutual
      unfolding ActFits counted_act past_act

      act_fits : (o : Act) (x : ℕ) (Γ Γ' : Sorts) → x0 ≤ x → past_act o ≤ x0 → Unknown x0 Γ
          → KnowsNoMore Γ Γ' → NotEval o → ActFits p.tags (Unit {0}) (Unit {0}) Γ o
          → ActFits p.tags ⊥ (Unit {0}) Γ' (counted_act (eval_rule p A) x o)
      act_fits (leaf (unit v)) x Γ Γ' fresh past u k ne h = given_known Γ Γ' k p.tags v h
      act_fits (leaf (fetch a)) x Γ Γ' fresh past u k ne h = tt
      act_fits (leaf (fetch_word a i)) x Γ Γ' fresh past u k ne h = h
      act_fits (leaf (update a v)) x Γ Γ' fresh past u k ne h = kept_known Γ Γ' k v h
      act_fits (leaf (eval a)) x Γ Γ' fresh past u k ne h = absurd ne
      act_fits (leaf (apply v a)) x Γ Γ' fresh past u k ne h = (tt, scrutinee_known Γ Γ' k v h.1)
      act_fits (leaf (call f ws)) x Γ Γ' fresh past u k ne h = tt
      act_fits (leaf (prim f a b)) x Γ Γ' fresh past u k ne h = tt
      act_fits (leaf read) x Γ Γ' fresh past u k ne h = tt
      act_fits (leaf (write a)) x Γ Γ' fresh past u k ne h = tt
      act_fits (case v as') x Γ Γ' fresh past u k ne h
          = (scrutinee_known Γ Γ' k v h.0, all_fit as' x v Γ Γ' fresh past u k h.0 h.1)
      act_fits (nested b) x Γ Γ' fresh past u k ne h = code_fits b x Γ Γ' fresh past u k h
      act_fits (leaf fail) x Γ Γ' fresh past u k ne h = tt

      code_fits : (b : Code) (x : ℕ) (Γ Γ' : Sorts) → x0 ≤ x → past_code b ≤ x0 → Unknown x0 Γ
          → KnowsNoMore Γ Γ' → CodeFits p.tags (Unit {0}) (Unit {0}) Γ b
          → CodeFits p.tags ⊥ (Unit {0}) Γ' (counted_code (eval_rule p A) x b)
      code_fits (end o) x Γ Γ' fresh past u k h = ended_fits x o Γ Γ' k (u x fresh) h.0
          (λ ne Γ' k. act_fits o x Γ Γ' fresh past u k ne h.1)
      code_fits (store cs b) x Γ Γ' fresh past u k h =
          let k' = knows_cells cs Γ Γ' k in (
            all_known (cells_sorted cs Γ) (cells_sorted cs Γ') k' cs h.0,
            code_fits b x (cells_sorted cs Γ) (cells_sorted cs Γ') fresh (omega arith)
                (unknown_cells x0 cs Γ (omega arith) u) k' h.1,
          )
      code_fits (bind t o b) x Γ Γ' fresh past u k h
          = bound_fits x t o _ Γ Γ' k (u x fresh) h.0
          (λ ne Γ' k. act_fits o x Γ Γ' fresh (omega arith) u k ne h.1)
          (λ Γ' k. code_fits b (x + act_room (eval_rule p A) o) (target_sorted t (sort_of o) Γ) Γ'
          (omega arith) (omega arith) (unknown_target x0 t (sort_of o) Γ (omega arith) u) k h.2)

      all_fit : (as' : Arms) (x : ℕ) (v : V.Val) (Γ Γ' : Sorts) → x0 ≤ x → past_arms as' ≤ x0
          → Unknown x0 Γ → KnowsNoMore Γ Γ' → ScrutineeFits Γ v
          → ArmsFit p.tags (Unit {0}) (Unit {0}) Γ v as'
          → ArmsFit p.tags ⊥ (Unit {0}) Γ' v (counted_all (eval_rule p A) x as')
      all_fit no_arm x v Γ Γ' fresh past u k hv h = tt
      all_fit (arm s b as') x v Γ Γ' fresh past u k hv h = (
        code_fits b x (alternative_sorted p.tags s v Γ) (alternative_sorted p.tags s v Γ') fresh
            (omega arith) (unknown_alternative p.tags x0 s v Γ (omega arith) hv u)
            (knows_alternative p.tags s v Γ Γ' k) h.0,
        all_fit as' (x + code_room (eval_rule p A) b) v Γ Γ' (omega arith) (omega arith) u k hv h.1,
      )

    procs_fit : (qs : List Procedure) (x : ℕ) → x0 ≤ x → past_procs qs ≤ x0
        → AllOf (ProcedureFits p.tags (Unit {0}) (Unit {0})) qs
        → AllOf (ProcedureFits p.tags ⊥ (Unit {0})) (counted_procs (eval_rule p A) x qs)
    procs_fit [] x fresh past h = tt
    procs_fit (q ∷ qs) x fresh past h =
        let Γ = vars_sorted q.params nothing_known in (
          code_fits q.body x Γ Γ fresh (omega arith)
              (unknown_vars x0 q.params nothing_known (omega arith) (λ y le. refl)) (knows_self Γ)
              h.0,
          procs_fit qs (x + code_room (eval_rule p A) q.body) (omega arith) (omega arith)
              h.1,
        )

pub evaluations_fit : (p : Program) (A : Solution) → ProgramFits (Unit {0}) (Unit {0}) p
    → ProgramFits ⊥ (Unit {0}) (eval_inlined A p)
evaluations_fit p A h = record {
  procedures = procs_fit p A (past_procs p.procs) p.procs (past_procs p.procs) (omega arith)
      (omega arith) h.procedures;
  globals = h.globals;
}
