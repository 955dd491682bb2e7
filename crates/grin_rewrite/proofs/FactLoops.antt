-- What the loops keep where something is known.
use Rattle.std.proofs.Common.{◌≡◌, List, [], ◌∷◌, ◌++◌, map, refl, sym, ap, ◌∙◌}
use Rattle.grin_syntax.specs.declared.program.Shape.{Shape}
use Rattle.grin_syntax.specs.declared.program.Val.{Val}
use Rattle.grin_syntax.specs.declared.program.Alt.{Alt}
use Rattle.grin_syntax.specs.declared.program.Stmt.{Stmt}
use Rattle.grin_syntax.specs.declared.program.Op.TheVariants.{Case}
use Rattle.grin_syntax.specs.Tree.{Code, Act, arm, act_of, before_of, arm_of, all_before, arms_of}
use Rattle.grin_syntax.proofs.TreeOf.{act_of-Case}
use Rattle.grin_syntax.proofs.Pieces.{all_before_push}
use Rattle.grin_rewrite.specs.WithFacts.{WithFacts, walk_act, walk_code, walk_arms, walk_arm}

module _ {F : Type 0} (R : WithFacts F) where
  -- these statements are what becomes of those, and what is known behind them
  pub record Becomes (f : F) (made from : List Stmt) (g : F) : Type 0 where
    pub by : (c : Code) → all_before (map before_of made) (walk_code R g c) ≡ walk_code R f
        (all_before (map before_of from) c)

  pub none_becomes : (f : F) → Becomes f [] [] f
  none_becomes f = record { by = λ c. refl }

  pub one_more_becomes : (f g h : F) (made from : List Stmt) (m s : Stmt) → Becomes f made from g
      → ((c : Code) → before_of m (walk_code R h c) ≡ walk_code R g (before_of s c))
      → Becomes f (made ++ m ∷ []) (from ++ s ∷ []) h
  one_more_becomes f g h made from m s u e = record {
    by = λ c. all_before_push made m (walk_code R h c) ∙ ap (all_before (map before_of made)) (e c)
        ∙ u.by (before_of s c) ∙ ap (walk_code R f) (sym (all_before_push from s c));
  }

  arms_become : (f : F) (v : Val) (as' : List (Shape × Code))
      → arms_of (map (walk_arm R f v) as') ≡ walk_arms R f v (arms_of as')
  unfolding walk_act
  arms_become f v [] = refl
  arms_become f v (a ∷ as') = ap (arm a.0 (walk_code R (R.inside f v a.0) a.1))
      (arms_become f v as')

  pub case_becomes : (f : F) (v w : Val) (made alts : List Alt) (o : Act) → w ≡ R.value_becomes f v
      → map arm_of made ≡ map (walk_arm R f w) (map arm_of alts)
      → o ≡ R.case_becomes f w (arms_of (map arm_of made)) → o ≡ walk_act R f (act_of (Case v alts))
  unfolding walk_act
  case_becomes f v w made alts o q e h =
      h ∙ ap (R.case_becomes f w) (ap arms_of e ∙ arms_become f w (map arm_of alts)) ∙ ap
      (λ w. R.case_becomes f w (walk_arms R f w (arms_of (map arm_of alts)))) q ∙ ap
      (walk_act R f) (sym (act_of-Case v alts))
