-- What holds between each piece and what becomes of it where something is known, from what holds of
-- its parts.
use Rattle.std.proofs.Common.{List}
use Rattle.grin_syntax.specs.declared.program.Cell.{Cell}
use Rattle.grin_syntax.specs.declared.program.Shape.{Shape}
use Rattle.grin_syntax.specs.declared.program.Target.{Target}
use Rattle.grin_syntax.specs.declared.program.Val.{Val}
use Rattle.grin_syntax.specs.Tree.{Code, end, store, bind, Act, Leaf, leaf, case, nested, Arms, no_arm, arm}
use Rattle.grin_syntax.specs.Binders.{shape_vars, cell_vars}
use Rattle.grin_syntax.specs.Formed.{Scope, with_word_variables, with_target}
use Rattle.grin_rewrite.specs.WithFacts.{WithFacts, walk_act, walk_code, walk_arms}

module _ {F : Type 0} (R : WithFacts F) where
  -- relations between a piece and another, where this is known and these variables are in scope;
  -- those of alternatives name the new value of their case
  pub record Relating : Type 1 where
    pub act : F → Scope → Act → Act → Type 0
    pub code : F → Scope → Code → Code → Type 0
    pub arms : F → Scope → Val → Arms → Arms → Type 0
    pub leafs : (f : F) (scope : Scope) (l : Leaf) → act f scope (leaf l) (R.leaf_becomes f l)
    pub cases : (f : F) (scope : Scope) (v : Val) (as' bs' : Arms)
        → arms f scope (R.value_becomes f v) as' bs'
        → act f scope (case v as') (R.case_becomes f (R.value_becomes f v) bs')
    pub blocks : (f : F) (scope : Scope) (b b' : Code) → code f scope b b'
        → act f scope (nested b) (nested b')
    pub ends : (f : F) (scope : Scope) (o o' : Act) → act f scope o o'
        → code f scope (end o) (end o')
    pub stores : (f : F) (scope : Scope) (cs : List Cell) (b b' : Code)
        → code f (with_word_variables (cell_vars cs) scope) b b'
        → code f scope (store cs b) (store (R.cells_become f cs) b')
    pub binds : (f : F) (scope : Scope) (t : Target) (o : Act) (b b' : Code)
        → act f scope o (walk_act R f o) → code (R.after f t (walk_act R f o)) (with_target t scope)
        b b' → code f scope (bind t o b) (bind t (walk_act R f o) b')
    pub none_left : (f : F) (scope : Scope) (v : Val) → arms f scope v no_arm no_arm
    pub more : (f : F) (scope : Scope) (v : Val) (s : Shape) (b b' : Code) (as' bs' : Arms)
        → code (R.inside f v s) (with_word_variables (shape_vars s) scope) b b'
        → arms f scope v as' bs' → arms f scope v (arm s b as') (arm s b' bs')

  module _ (q : Relating) where
    mutual
      unfolding walk_act

      pub act_walked : (o : Act) (f : F) (scope : Scope) → q.act f scope o (walk_act R f o)
      act_walked (leaf l) f scope = q.leafs f scope l
      act_walked (case v as') f scope = q.cases f scope v as'
          (walk_arms R f (R.value_becomes f v) as') (arms_walked as' f scope (R.value_becomes f v))
      act_walked (nested b) f scope = q.blocks f scope b (walk_code R f b) (code_walked b f scope)

      pub code_walked : (b : Code) (f : F) (scope : Scope) → q.code f scope b (walk_code R f b)
      code_walked (end o) f scope = q.ends f scope o (walk_act R f o) (act_walked o f scope)
      code_walked (store cs b) f scope = q.stores f scope cs b (walk_code R f b)
          (code_walked b f (with_word_variables (cell_vars cs) scope))
      code_walked (bind t o b) f scope = q.binds f scope t o b
          (walk_code R (R.after f t (walk_act R f o)) b) (act_walked o f scope)
          (code_walked b (R.after f t (walk_act R f o)) (with_target t scope))

      pub arms_walked : (as' : Arms) (f : F) (scope : Scope) (v : Val)
          → q.arms f scope v as' (walk_arms R f v as')
      arms_walked no_arm f scope v = q.none_left f scope v
      arms_walked (arm s b as') f scope v = q.more f scope v s b (walk_code R (R.inside f v s) b)
          as' (walk_arms R f v as')
          (code_walked b (R.inside f v s) (with_word_variables (shape_vars s) scope))
          (arms_walked as' f scope v)
