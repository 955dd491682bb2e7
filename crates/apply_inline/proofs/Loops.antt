-- What stands in the place of an operation, and behind its alternatives.
use Rattle.std.proofs.Common.{◌≡◌, ℕ, zero, suc, ◌+◌, ◌<◌, Bool, true, false, cond, List, [], ◌∷◌, map, length, get_or, refl, sym, ap, ◌∙◌, subst, arith}
use Rattle.std.specs.List.{filter}
use Rattle.grin_syntax.specs.declared.program.Stmt.{Stmt}
use Rattle.grin_syntax.specs.declared.program.Alt.{Alt}
use Rattle.grin_syntax.specs.declared.program.Op.{Op}
use Rattle.grin_syntax.specs.declared.program.Op.TheVariants.{Apply}
use Rattle.grin_syntax.specs.declared.program.TagId.{TagId}
use Rattle.grin_syntax.specs.declared.program.Shape.TheVariants.{Else}
use Rattle.grin_syntax.specs.declared.program.Word.{Word}
use Rattle.grin_syntax.specs.declared.program.Val.{Val}
use Rattle.grin_syntax.specs.Tree.{Act, Leaf, end, leaf, apply, case, fail, no_arm, arm, act_of, arm_of, code_of, arms_of, Program}
use Rattle.grin_syntax.proofs.TreeOf.{arm_of-parts, act_of-Apply}
use Rattle.flow_system.specs.Solution.{Solution}
use Rattle.grin_rewrite.specs.Counted.{act_room}
use Rattle.grin_rewrite.specs.InPlace.{InPlace}
use Rattle.grin_rewrite.proofs.Leaves.{op_of}
use Rattle.grin_rewrite.proofs.CountedLoops.{Untouched, alone_in_place}
use Rattle.inline_theory.specs.Applications.{apply_arms, part_tags_of, others_of, else_fail, parts_room, apply_rule}
use Rattle.apply_inline.specs.Applied.{is_nonempty}

module _ (p : Program) (A : Solution) where
  module _ (x : ℕ) (op : Op) where
    pub untouched : ((v : Val) (w : Word) → op ≡ Apply v w → ⊥) → (l : Leaf) → op ≡ op_of l
        → Untouched (apply_rule p A) x l
    untouched not_apply (apply v w) e = absurd (not_apply v w e)
    untouched not_apply l e = record { before = refl; becomes = refl; room = refl }

    module _ (v : Val) (a : Word) (is : op ≡ Apply v a) where
      tree : act_of op ≡ leaf (apply v a)
      tree = ap act_of is ∙ act_of-Apply v a

      pub applied : (ss : List Stmt) (o : Act) → o ≡ case v
          (apply_arms p A a x (part_tags_of p A v) (else_fail p A (others_of p A v)))
          → InPlace (apply_rule p A) x (act_of op) ss ss o
      applied ss o h = subst (λ k. InPlace (apply_rule p A) x k ss ss o) (sym tree)
          (alone_in_place (apply_rule p A) x ss (apply v a) o refl h)

      pub application_room : (next : ℕ) → next ≡ x + parts_room p A (part_tags_of p A v)
          → next ≡ x + act_room (apply_rule p A) (act_of op)
      unfolding act_room
      application_room next e = e ∙ sym (ap (λ o. x + act_room (apply_rule p A) o) tree)

  pub no_others : (ts : List ℕ) → false ≡ is_nonempty ts → no_arm ≡ else_fail p A ts
  no_others [] e = refl
  no_others (t ∷ ts) e = cc

  pub others_fail : (ts : List ℕ) (last : Alt) (alts : List Alt) → true ≡ is_nonempty ts
      → alts ≡ last ∷ [] → last.pattern ≡ Else → code_of last.body ≡ end (leaf fail)
      → arms_of (map arm_of alts) ≡ else_fail p A ts
  others_fail [] last alts e m s b = cc
  others_fail (t ∷ ts) last alts e m s b = ap (λ l. arms_of (map arm_of l)) m ∙ ap
      (λ q. arm q.0 q.1 no_arm) (arm_of-parts last) ∙ (λ i. arm (s i) (b i) no_arm)

-- one that passes is among those that do
pub some_kept : (g : ℕ → Bool) (ts : List TagId) (i : ℕ) (d : TagId) → i < length ts
    → g (get_or ts i d).0 ≡ true → is_nonempty (filter g (map (λ t. t.0) ts)) ≡ true
some_kept g [] i d lt e = absurd (omega arith)
some_kept g (s ∷ ts) zero d lt e = rw e refl
some_kept g (s ∷ ts) (suc i) d lt e = go (g s.0) refl (some_kept g ts i d (omega arith) e)
  where
    go : (b : Bool) → g s.0 ≡ b → is_nonempty (filter g (map (λ t. t.0) ts)) ≡ true
        → is_nonempty (cond b (s.0 ∷ filter g (map (λ t. t.0) ts)) (filter g (map (λ t. t.0) ts))) ≡
        true
    go true q r = refl
    go false q r = r
