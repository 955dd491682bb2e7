-- Unboxing leaves as many updates without a literal tag as there are.
use Rattle.std.proofs.Common.{◌≡◌, ℕ, ◌+◌, List, [], ◌∷◌, ◌++◌, ap, ◌∙◌, sym, arith}
use Rattle.grin_syntax.specs.declared.program.Val.{Val}
use Rattle.grin_syntax.specs.declared.program.Word.{Word}
use Rattle.grin_syntax.specs.Tree.{Code, end, store, bind, Act, leaf, unit, fetch, fetch_word, update, eval, apply, call, prim, read, write, case, nested, fail, Arms, no_arm, arm, Procedure, Program}
use Rattle.pass_ground.specs.OpenUpdates.{tag_variable, act_update_sum, code_update_sum, arms_update_sum, procs_update_sum, one_if_some, updates_with_variable_tag}
use Rattle.unbox_theory.specs.Unboxed.{act_updates, code_updates, arms_updates, updates_of}

module _ (count : Val → ℕ) where
  abbrev counted : List (Word × Val) → ℕ
  counted [] = 0
  counted (u ∷ us) = count u.1 + counted us

  counted_append : (us vs : List (Word × Val)) → counted (us ++ vs) ≡ counted us + counted vs
  counted_append [] vs = omega arith
  counted_append (u ∷ us) vs = omega (arith, counted_append us vs)

  mutual
    unfolding act_update_sum act_updates

    act_counted : (o : Act) → act_update_sum count o ≡ counted (act_updates o)
    act_counted (leaf (unit v)) = omega arith
    act_counted (leaf (fetch a)) = omega arith
    act_counted (leaf (fetch_word a i)) = omega arith
    act_counted (leaf (update a v)) = omega arith
    act_counted (leaf (eval a)) = omega arith
    act_counted (leaf (apply v a)) = omega arith
    act_counted (leaf (call f ws)) = omega arith
    act_counted (leaf (prim p a b)) = omega arith
    act_counted (leaf read) = omega arith
    act_counted (leaf (write a)) = omega arith
    act_counted (case v as') = arms_counted as'
    act_counted (nested b) = code_counted b
    act_counted (leaf fail) = omega arith

    code_counted : (b : Code) → code_update_sum count b ≡ counted (code_updates b)
    code_counted (end o) = act_counted o
    code_counted (store cs b) = code_counted b
    code_counted (bind t o b) = omega
        (arith, act_counted o, code_counted b, counted_append (act_updates o) (code_updates b))

    arms_counted : (as' : Arms) → arms_update_sum count as' ≡ counted (arms_updates as')
    arms_counted no_arm = omega arith
    arms_counted (arm s b as') = omega (
      arith,
      code_counted b,
      arms_counted as',
      counted_append (code_updates b)
          (arms_updates as'),
    )

  procs_counted : (qs : List Procedure) → procs_update_sum count qs ≡ counted (updates_of qs)
  procs_counted [] = omega arith
  procs_counted (q ∷ qs) = omega (
    arith,
    code_counted q.body,
    procs_counted qs,
    counted_append (code_updates q.body) (updates_of qs),
  )

  pub same_count : (qs rs : List Procedure) → updates_of rs ≡ updates_of qs
      → procs_update_sum count rs ≡ procs_update_sum count qs
  same_count qs rs same = procs_counted rs ∙ (ap counted same ∙ sym (procs_counted qs))

pub same_open_updates : (g h : Program) → updates_of h.procs ≡ updates_of g.procs
    → updates_with_variable_tag h ≡ updates_with_variable_tag g
same_open_updates g h same = same_count (λ v. one_if_some (tag_variable v)) g.procs h.procs same
