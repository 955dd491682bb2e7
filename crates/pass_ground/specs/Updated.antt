-- The words that stand for the cells that a piece of a program updates.
use Rattle.std.specs.Prelude.{List, [], ◌∷◌, ◌++◌}
use Rattle.grin_syntax.specs.declared.program.Word as W
use Rattle.grin_syntax.specs.Tree.{Code, end, store, bind, Act, leaf, update, case, nested, Arms, no_arm, arm, Procedure}

unfoldable mutual
  pub act_updated : Act → List W.Word
  act_updated (leaf (update a v)) = a ∷ []
  act_updated (case v as') = arms_updated as'
  act_updated (nested b) = code_updated b
  act_updated _ = []

  pub code_updated : Code → List W.Word
  code_updated (end o) = act_updated o
  code_updated (store cs b) = code_updated b
  code_updated (bind t o b) = act_updated o ++ code_updated b

  pub arms_updated : Arms → List W.Word
  arms_updated no_arm = []
  arms_updated (arm s b as') = code_updated b ++ arms_updated as'

abbrev pub updated_of : List Procedure → List W.Word
updated_of [] = []
updated_of (q ∷ qs) = code_updated q.body ++ updated_of qs
