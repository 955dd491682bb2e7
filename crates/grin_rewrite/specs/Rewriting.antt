-- A block in which a rule says what becomes of each operation without a block of its own.
use Rattle.grin_syntax.specs.declared.program.Shape.{Shape}
use Rattle.grin_syntax.specs.Tree.{Code, end, store, bind, Act, Leaf, leaf, case, nested, Arms, no_arm, arm}

module _ (rule : Leaf → Act) where
  unfoldable mutual
    pub rewrite_act : Act → Act
    rewrite_act (leaf l) = rule l
    rewrite_act (case v as') = case v (rewrite_arms as')
    rewrite_act (nested b) = nested (rewrite_code b)

    pub rewrite_code : Code → Code
    rewrite_code (end o) = end (rewrite_act o)
    rewrite_code (store cs b) = store cs (rewrite_code b)
    rewrite_code (bind t o b) = bind t (rewrite_act o) (rewrite_code b)

    pub rewrite_arms : Arms → Arms
    rewrite_arms no_arm = no_arm
    rewrite_arms (arm s b as') = arm s (rewrite_code b) (rewrite_arms as')

  abbrev pub rewrite_arm : Shape × Code → Shape × Code
  rewrite_arm a = (a.0, rewrite_code a.1)
