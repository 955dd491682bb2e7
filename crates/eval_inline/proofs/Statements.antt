-- What stands in the place of an operation.
use Rattle.std.proofs.Common.{◌≡◌, ℕ, suc, ◌+◌, List, [], ◌∷◌, ◌++◌, map, refl, sym, ap, ◌∙◌, subst, arith}
use Rattle.grin_syntax.specs.declared.program.Op.{Op}
use Rattle.grin_syntax.specs.declared.program.Op.TheVariants.{Eval, Fetch}
use Rattle.grin_syntax.specs.declared.program.Stmt.{Stmt}
use Rattle.grin_syntax.specs.declared.program.Stmt.TheVariants.{Bind}
use Rattle.grin_syntax.specs.declared.program.Target.TheVariants.{Node as NodeTarget}
use Rattle.grin_syntax.specs.declared.program.Val.TheVariants.{NodeVar}
use Rattle.grin_syntax.specs.declared.program.VarId.{VarId}
use Rattle.grin_syntax.specs.declared.program.Word.{Word}
use Rattle.grin_syntax.specs.Tree.{Code, end, bind, Act, Leaf, leaf, fetch, eval, case, Program, act_of, before_of, all_before}
use Rattle.grin_syntax.proofs.TreeOf.{before_of-Bind, act_of-Eval, act_of-Fetch}
use Rattle.grin_syntax.proofs.Pieces.{all_before_push}
use Rattle.grin_syntax.specs.Fresh.{variable}
use Rattle.flow_system.specs.Solution.{Solution}
use Rattle.grin_rewrite.specs.Counted.{act_room, counted_act}
use Rattle.grin_rewrite.specs.InPlace.{InPlace}
use Rattle.grin_rewrite.proofs.Leaves.{op_of}
use Rattle.grin_rewrite.proofs.CountedLoops.{Untouched}
use Rattle.inline_theory.specs.Evaluations.{tags_of, eval_arms, arms_room, eval_rule}

module _ (p : Program) (A : Solution) (x : ℕ) (op : Op) where
  pub untouched : ((w : Word) → op ≡ Eval w → ⊥) → (l : Leaf) → op ≡ op_of l
      → Untouched (eval_rule p A) x l
  untouched not_eval (eval w) e = absurd (not_eval w e)
  untouched not_eval l e = record { before = refl; becomes = refl; room = refl }

  module _ (a : Word) (is : op ≡ Eval a) where
    tree : act_of op ≡ leaf (eval a)
    tree = ap act_of is ∙ act_of-Eval a

    pub evaluated : (ss after : List Stmt) (o : Act) (node : VarId) (y : ℕ) → node ≡ variable x
        → y ≡ suc x → after ≡ ss ++ Bind (NodeTarget node) (Fetch a) ∷ []
        → o ≡ case (NodeVar node) (eval_arms p A a node.0 y (tags_of p A a))
        → InPlace (eval_rule p A) x (act_of op) ss after o
    unfolding counted_act
    evaluated ss after o node y n s e h = subst (λ k. InPlace (eval_rule p A) x k ss after o)
        (sym tree) (record {
          bound = λ t b. step (bind t o b) ∙
              (λ i. all_before (map before_of ss)
              (bind (NodeTarget (n i)) (leaf (fetch a)) (bind t (made i) b)));
          ended = step (end o) ∙
              (λ i. all_before (map before_of ss)
              (bind (NodeTarget (n i)) (leaf (fetch a)) (end (made i))));
        })
      where
        made : o ≡ case (NodeVar (variable x)) (eval_arms p A a x (suc x) (tags_of p A a))
        made = h ∙ (λ i. case (NodeVar (n i)) (eval_arms p A a (n i).0 (s i) (tags_of p A a)))

        step : (c : Code) → all_before (map before_of after) c ≡ all_before (map before_of ss)
            (bind (NodeTarget node) (leaf (fetch a)) c)
        step c = ap (λ l. all_before (map before_of l) c) e ∙ all_before_push ss
            (Bind (NodeTarget node) (Fetch a)) c ∙ ap (λ g. all_before (map before_of ss) (g c))
            (before_of-Bind (NodeTarget node) (Fetch a))
            ∙ ap (λ k. all_before (map before_of ss) (bind (NodeTarget node) k c)) (act_of-Fetch a)

    pub evaluation_room : (y next : ℕ) → y ≡ suc x → next ≡ y + arms_room p A (tags_of p A a)
        → next ≡ x + act_room (eval_rule p A) (act_of op)
    unfolding act_room
    evaluation_room y next e n = room ∙ sym (ap (λ o. x + act_room (eval_rule p A) o) tree)
      where
        room : next ≡ x + suc (arms_room p A (tags_of p A a))
        room = omega arith
