-- A program without nested blocks: their statements stand where they stood.
use Rattle.grin_syntax.specs.declared.program.Shape.{Shape}
use Rattle.grin_syntax.specs.Tree.{Code, end, store, bind, Act, leaf, case, nested, Arms, no_arm, arm, Program}
use Rattle.grin_meaning.specs.Rewritten.{rewritten}
use Rattle.grin_meaning.specs.Spliced.{spliced}

unfoldable mutual
  -- the block that gives what an operation gives
  pub flat_act : Act → Code
  flat_act (nested b) = flat_code b
  flat_act (case v as') = end (case v (flat_arms as'))
  flat_act (leaf l) = end (leaf l)

  pub flat_code : Code → Code
  flat_code (end o) = flat_act o
  flat_code (store cs b) = store cs (flat_code b)
  flat_code (bind t o b) = spliced (flat_act o) t (flat_code b)

  pub flat_arms : Arms → Arms
  flat_arms no_arm = no_arm
  flat_arms (arm s b as') = arm s (flat_code b) (flat_arms as')

abbrev pub flat_arm : Shape × Code → Shape × Code
flat_arm a = (a.0, flat_code a.1)

abbrev pub flat : Program → Program
flat g = rewritten flat_code g
