-- The words of a piece of a program whose values go anywhere, all but the cells of fetches and
-- updates.
use Rattle.std.specs.Prelude.{List, [], ◌∷◌, ◌++◌}
use Rattle.grin_syntax.specs.declared.program.Cell.{Cell}
use Rattle.grin_syntax.specs.declared.program.Word as W
use Rattle.grin_syntax.specs.declared.program.Word.TheVariants.{Var}
use Rattle.grin_syntax.specs.declared.program.Val as V
use Rattle.grin_syntax.specs.declared.program.Val.TheVariants.{NodeVar, Node, Vector, One}
use Rattle.grin_syntax.specs.Tree.{Code, end, store, bind, Act, leaf, unit, fetch, fetch_word, update, eval, apply, call, prim, read, write, case, nested, fail, Arms, no_arm, arm}

abbrev pub val_words : V.Val → List W.Word
val_words (NodeVar x) = Var x ∷ []
val_words (Node t ws) = ws
val_words (Vector ws) = ws
val_words (One a) = a ∷ []

abbrev pub cells_words : List Cell → List W.Word
cells_words [] = []
cells_words (c ∷ cs) = val_words c.val ++ cells_words cs

unfoldable mutual
  pub act_shown : Act → List W.Word
  act_shown (leaf (unit v)) = val_words v
  act_shown (leaf (fetch a)) = []
  act_shown (leaf (fetch_word a i)) = []
  act_shown (leaf (update a v)) = val_words v
  act_shown (leaf (eval a)) = a ∷ []
  act_shown (leaf (apply v a)) = val_words v ++ a ∷ []
  act_shown (leaf (call f ws)) = ws
  act_shown (leaf (prim o a b)) = a ∷ b ∷ []
  act_shown (leaf read) = []
  act_shown (leaf (write a)) = a ∷ []
  act_shown (case v as') = val_words v ++ arms_shown as'
  act_shown (nested b) = code_shown b
  act_shown (leaf fail) = []

  pub code_shown : Code → List W.Word
  code_shown (end o) = act_shown o
  code_shown (store cs b) = cells_words cs ++ code_shown b
  code_shown (bind t o b) = act_shown o ++ code_shown b

  pub arms_shown : Arms → List W.Word
  arms_shown no_arm = []
  arms_shown (arm s b as') = code_shown b ++ arms_shown as'
