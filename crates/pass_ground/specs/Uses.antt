-- The variables that a piece of a program uses, and those that it uses otherwise than as the cell
-- of a fetch.
use Rattle.std.specs.Prelude.{ℕ, Bool, true, false, ◌&&◌, ◌||◌, nat_eq, List, [], ◌∷◌}
use Rattle.grin_syntax.specs.declared.program.Word as W
use Rattle.grin_syntax.specs.declared.program.Word.TheVariants.{Var}
use Rattle.grin_syntax.specs.declared.program.Val as V
use Rattle.grin_syntax.specs.declared.program.Val.TheVariants.{NodeVar, Node, Vector, One}
use Rattle.grin_syntax.specs.declared.program.Cell.{Cell}
use Rattle.grin_syntax.specs.Tree.{Code, end, store, bind, Act, leaf, unit, fetch, fetch_word, update, eval, apply, call, prim, read, write, case, nested, fail, Arms, no_arm, arm}

module _ (x : ℕ) where
  abbrev pub word_is : W.Word → Bool
  word_is (Var y) = nat_eq y.0 x
  word_is _ = false

  abbrev pub words_use : List W.Word → Bool
  words_use [] = false
  words_use (a ∷ ws) = word_is a || words_use ws

  abbrev pub val_uses : V.Val → Bool
  val_uses (NodeVar y) = nat_eq y.0 x
  val_uses (Node t ws) = words_use ws
  val_uses (Vector ws) = words_use ws
  val_uses (One a) = word_is a

  abbrev pub cells_use : List Cell → Bool
  cells_use [] = false
  cells_use (c ∷ cs) = val_uses c.val || cells_use cs

-- whether a piece uses x; the cells of fetches count only where so said
module _ (fetched : Bool) (x : ℕ) where
  unfoldable mutual
    pub act_mentions : Act → Bool
    act_mentions (leaf (unit v)) = val_uses x v
    act_mentions (leaf (fetch a)) = fetched && word_is x a
    act_mentions (leaf (fetch_word a i)) = fetched && word_is x a
    act_mentions (leaf (update a v)) = word_is x a || val_uses x v
    act_mentions (leaf (eval a)) = word_is x a
    act_mentions (leaf (apply v a)) = val_uses x v || word_is x a
    act_mentions (leaf (call f ws)) = words_use x ws
    act_mentions (leaf (prim f a b)) = word_is x a || word_is x b
    act_mentions (leaf read) = false
    act_mentions (leaf (write a)) = word_is x a
    act_mentions (case v as') = val_uses x v || arms_mention as'
    act_mentions (nested b) = code_mentions b
    act_mentions (leaf fail) = false

    pub code_mentions : Code → Bool
    code_mentions (end o) = act_mentions o
    code_mentions (store cs b) = cells_use x cs || code_mentions b
    code_mentions (bind t o b) = act_mentions o || code_mentions b

    pub arms_mention : Arms → Bool
    arms_mention no_arm = false
    arms_mention (arm s b as') = code_mentions b || arms_mention as'

-- a piece uses x
abbrev pub act_uses : ℕ → Act → Bool
act_uses x o = act_mentions true x o

abbrev pub code_uses : ℕ → Code → Bool
code_uses x b = code_mentions true x b

abbrev pub arms_use : ℕ → Arms → Bool
arms_use x as' = arms_mention true x as'

-- a piece uses x otherwise than as the cell of a fetch
abbrev pub act_uses_as_value : ℕ → Act → Bool
act_uses_as_value x o = act_mentions false x o

abbrev pub code_uses_as_value : ℕ → Code → Bool
code_uses_as_value x b = code_mentions false x b

abbrev pub arms_use_as_value : ℕ → Arms → Bool
arms_use_as_value x as' = arms_mention false x as'
