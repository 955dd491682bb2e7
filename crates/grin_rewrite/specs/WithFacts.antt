-- A rewriting in which something is known at each place of a block.
use Rattle.std.specs.Prelude.{List}
use Rattle.grin_syntax.specs.declared.program.Val.{Val}
use Rattle.grin_syntax.specs.declared.program.Cell.{Cell}
use Rattle.grin_syntax.specs.declared.program.Target.{Target}
use Rattle.grin_syntax.specs.declared.program.Shape.{Shape}
use Rattle.grin_syntax.specs.Tree.{Code, end, store, bind, Act, Leaf, leaf, case, nested, Arms, no_arm, arm}

-- what becomes of the pieces where this is known, and what is known behind a statement and in an
-- alternative
pub record WithFacts (F : Type 0) : Type 0 where
  pub leaf_becomes : F → Leaf → Act
  pub value_becomes : F → Val → Val
  pub cells_become : F → List Cell → List Cell
  -- a case whose alternatives are rewritten
  pub case_becomes : F → Val → Arms → Act
  pub after : F → Target → Act → F
  pub inside : F → Val → Shape → F

module _ {F : Type 0} (R : WithFacts F) where
  unfoldable mutual
    pub walk_act : F → Act → Act
    walk_act f (leaf l) = R.leaf_becomes f l
    walk_act f (case v as') =
        R.case_becomes f (R.value_becomes f v) (walk_arms f (R.value_becomes f v) as')
    walk_act f (nested b) = nested (walk_code f b)

    pub walk_code : F → Code → Code
    walk_code f (end o) = end (walk_act f o)
    walk_code f (store cs b) = store (R.cells_become f cs) (walk_code f b)
    walk_code f (bind t o b) = bind t (walk_act f o) (walk_code (R.after f t (walk_act f o)) b)

    pub walk_arms : F → Val → Arms → Arms
    walk_arms f v no_arm = no_arm
    walk_arms f v (arm s b as') = arm s (walk_code (R.inside f v s) b) (walk_arms f v as')

  abbrev pub walk_arm : F → Val → Shape × Code → Shape × Code
  walk_arm f v a = (a.0, walk_code (R.inside f v a.0) a.1)
