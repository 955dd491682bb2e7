-- Programs without copies and without idle statements have no more updates without a literal tag.
use Rattle.std.proofs.Common.{◌≡◌, ℕ, ◌+◌, ◌≤◌, Bool, true, false, List, [], ◌∷◌, map, Option, Some, None, sym, ap, ◌∙◌, subst, arith}
use Rattle.grin_syntax.specs.declared.program.VarId.{VarId}
use Rattle.grin_syntax.specs.declared.program.Target.{Target}
use Rattle.grin_syntax.specs.declared.program.Word.TheVariants.{Lit, Var, Global, TagWord}
use Rattle.grin_syntax.specs.declared.program.Val.{Val}
use Rattle.grin_syntax.specs.declared.program.Val.TheVariants.{NodeVar, Node, Vector, One}
use Rattle.grin_syntax.specs.Tree.{Code, end, store, bind, Act, leaf, case, nested, Arms, no_arm, arm, Procedure, Program}
use Rattle.grin_meaning.specs.Rewritten.{rewritten_procedure}
use Rattle.pass_ground.specs.OpenUpdates.{tag_variable, act_update_sum, code_update_sum, arms_update_sum, procs_update_sum, one_if_some, updates_with_variable_tag}
use Rattle.pass_ground.specs.Vectors.{IsVectorForm}
use Rattle.grin_rewrite.specs.WithFacts.{walk_code}
use Rattle.grin_rewrite.specs.ByWords.{val_by}
use Rattle.grin_rewrite.specs.Table.{nothing_known}
use Rattle.grin_rewrite.proofs.KeptByWords.{updates_kept}
use Rattle.grin_rewrite.proofs.FactText.{updates_fewer}
use Rattle.copy_prop.specs.Resolved.{Standing, as_word, copies_stand, resolved}
use Rattle.copy_prop.specs.Lean.{used_in_code, is_idle, unless, without_idle_act, without_idle_code, without_idle_arms, lean}
use Rattle.copy_prop.specs.Copied.{Copied}
use Rattle.copy_prop.proofs.Standing.{by_words}
use Rattle.copy_prop.proofs.Contract.{is_copied}
use Rattle.grin_opt.specs.Several.{MadeByPasses}

-- ---- copies

abbrev opens : Val → ℕ
opens v = one_if_some (tag_variable v)

at_most_one : (o : Option VarId) → one_if_some o ≤ 1
at_most_one None = omega arith
at_most_one (Some x) = omega arith

fewer_open : (k : Standing) (v : Val) → opens (val_by (as_word k) v) ≤ opens v
fewer_open k (NodeVar x) = omega arith
fewer_open k (Node t ws) = omega arith
fewer_open k (Vector []) = omega arith
fewer_open k (Vector (Lit i ∷ ws)) = omega arith
fewer_open k (Vector (Global i ∷ ws)) = omega arith
fewer_open k (Vector (TagWord t ∷ ws)) = omega arith
fewer_open k (Vector (Var x ∷ ws)) = at_most_one
    (tag_variable (val_by (as_word k) (Vector (Var x ∷ ws))))
fewer_open k (One (Lit i)) = omega arith
fewer_open k (One (Global i)) = omega arith
fewer_open k (One (TagWord t)) = omega arith
fewer_open k (One (Var x)) = at_most_one (tag_variable (val_by (as_word k) (One (Var x))))

resolved_fewer : (qs : List Procedure) → procs_update_sum opens
    (map (rewritten_procedure (walk_code copies_stand nothing_known)) qs) ≤ procs_update_sum opens
    qs
unfolding updates_kept
resolved_fewer qs = updates_fewer copies_stand as_word nothing_known by_words opens
    (λ stands v v' as' bs' h k. k) fewer_open qs

-- ---- idle statements

idle_or_bound : (t : Target) (o : Act) (c : Code) (q : Bool)
    → code_update_sum opens (unless q (bind t o) c) ≤ act_update_sum opens o + code_update_sum opens
    c
unfolding act_update_sum
idle_or_bound t o c false = omega arith
idle_or_bound t o c true = omega arith

mutual
  unfolding without_idle_act act_update_sum

  lean_act_fewer : (o : Act) → act_update_sum opens (without_idle_act o) ≤ act_update_sum opens o
  lean_act_fewer (case v as') = lean_arms_fewer as'
  lean_act_fewer (nested b) = lean_code_fewer b
  lean_act_fewer (leaf l) = omega arith

  lean_code_fewer : (b : Code) → code_update_sum opens (without_idle_code b) ≤ code_update_sum opens
      b
  lean_code_fewer (end o) = lean_act_fewer o
  lean_code_fewer (store cs b) = lean_code_fewer b
  lean_code_fewer (bind t o b) = omega (
    arith,
    idle_or_bound t (without_idle_act o) (without_idle_code b)
        (is_idle t o (used_in_code (without_idle_code b))),
    lean_act_fewer o,
    lean_code_fewer b,
  )

  lean_arms_fewer : (as' : Arms) → arms_update_sum opens (without_idle_arms as') ≤ arms_update_sum
      opens as'
  lean_arms_fewer no_arm = omega arith
  lean_arms_fewer (arm s b as') = omega (arith, lean_code_fewer b, lean_arms_fewer as')

lean_fewer : (qs : List Procedure) → procs_update_sum opens
    (map (rewritten_procedure without_idle_code) qs) ≤ procs_update_sum opens qs
lean_fewer [] = omega arith
lean_fewer (q ∷ qs) = omega (arith, lean_code_fewer q.body, lean_fewer qs)

pub made_lean : (g h k : Program) → h ≡ resolved g → k ≡ lean h → IsVectorForm g
    → MadeByPasses Copied g k
made_lean g h k e f of =
    let fewer : updates_with_variable_tag (resolved g) ≤ updates_with_variable_tag g
    = resolved_fewer g.procs in
    let fewer_again : updates_with_variable_tag (lean (resolved g)) ≤ updates_with_variable_tag
    (resolved g) = lean_fewer (resolved g).procs in
    let both : updates_with_variable_tag (lean (resolved g)) ≤ updates_with_variable_tag g
    = omega (arith, fewer, fewer_again) in
    let shape = is_copied g h k e f of in
    record {
      stays = shape.stays;
      no_more_open = subst
          (λ k. updates_with_variable_tag k ≤ updates_with_variable_tag g) (sym (f ∙ ap lean e))
          both;
      by = shape;
    }
