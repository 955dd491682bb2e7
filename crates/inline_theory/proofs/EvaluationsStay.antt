-- Inlining of applications leaves what an evaluation became.
use Rattle.std.proofs.Common.{◌≡◌, ℕ, suc, ◌+◌, Bool, true, false, cond, List, [], Option, Some, None, refl, arith}
use Rattle.grin_syntax.specs.declared.program.ProcId.{ProcId}
use Rattle.grin_syntax.specs.declared.program.Word.{Word}
use Rattle.grin_syntax.specs.declared.program.Val.TheVariants.{NodeVar}
use Rattle.grin_syntax.specs.declared.program.Target.TheVariants.{Node as NodeTarget}
use Rattle.grin_syntax.specs.Tree.{end, bind, Leaf, leaf, unit, fetch, eval, case, no_arm, Program}
use Rattle.grin_syntax.specs.Fresh.{variable as var}
use Rattle.grin_meaning.specs.Run.{is_fun_kind}
use Rattle.flow_system.specs.Solution.{Solution}
use Rattle.grin_rewrite.specs.Counted.{act_room, counted_act, counted_code, counted_all}
use Rattle.grin_rewrite.proofs.CountedSides.{Both}
use Rattle.grin_rewrite.proofs.Opened.{opened_stays}
use Rattle.inline_theory.specs.Evaluations.{call_body, eval_opening, eval_arms, evaluation, eval_before, eval_rule, tags_of, eval_inlined}
use Rattle.inline_theory.specs.Applications.{apply_room, apply_becomes, apply_rule}

module _ (p : Program) (A : Solution) where
  abbrev e : Program
  e = eval_inlined A p

  body_still : (y : ℕ) (a : Word) (n x k : ℕ) (b : Bool) (o : Option ProcId)
      → counted_code (apply_rule e A) y
      (cond b (call_body p A a x k o) (end (leaf (unit (NodeVar (var n)))))) ≡ cond b
      (call_body p A a x k o) (end (leaf (unit (NodeVar (var n)))))
  unfolding counted_act
  body_still y a n x k false o = refl
  body_still y a n x k true None = refl
  body_still y a n x k true (Some f) = refl

  no_arm_still : (y : ℕ) → counted_all (apply_rule e A) y no_arm ≡ no_arm
  unfolding counted_act
  no_arm_still y = refl

  pub arms_still : (y : ℕ) (a : Word) (n x : ℕ) (ks : List ℕ)
      → counted_all (apply_rule e A) y (eval_arms p A a n x ks) ≡ eval_arms p A a n x ks
  arms_still y a n x ks = opened_stays p.tags (eval_opening p A a n) (apply_rule e A)
      (λ z x' t. body_still z a n x' t.fields (is_fun_kind t.kind) t.proc) no_arm_still y x ks

  unfoldable pub one_then_other : (x y : ℕ) (l : Leaf) → Both (eval_rule p A) (apply_rule e A) x y l
  unfolding counted_act act_room
  one_then_other x y (eval a) =
      let still = arms_still (y + 0) a x (suc x) (tags_of p A a) in
      let z = y + 0 + act_room (apply_rule e A) (evaluation p A x a) in
      record {
        before = eval_before p A x (eval a);
        becomes = evaluation p A x a;
        next = z;
        later = omega arith;
        ended = λ i. bind (NodeTarget (var x)) (leaf (fetch a))
            (end (case (NodeVar (var x)) (still i)));
        bound = λ t b i. bind (NodeTarget (var x)) (leaf (fetch a))
            (bind t (case (NodeVar (var x)) (still i)) (counted_code (apply_rule e A) z b));
      }
  one_then_other x y l = record {
    before = [];
    becomes = apply_becomes e A y l;
    next = y + apply_room e A l;
    later
        = omega arith;
    ended = refl;
    bound = λ t b. refl;
  }
