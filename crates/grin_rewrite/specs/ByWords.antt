-- What becomes of values, cells and operations where a rule says what becomes of words alone.
use Rattle.std.specs.Prelude.{List, map}
use Rattle.grin_syntax.specs.declared.program.Cell.{Cell}
use Rattle.grin_syntax.specs.declared.program.Word as W
use Rattle.grin_syntax.specs.declared.program.Val as V
use Rattle.grin_syntax.specs.declared.program.Val.TheVariants.{NodeVar, Node, Vector, One}
use Rattle.grin_syntax.specs.Tree.{Leaf, unit, fetch, fetch_word, update, eval, apply, call, prim, read, write, fail}

module _ (word : W.Word → W.Word) where
  abbrev pub words_by : List W.Word → List W.Word
  words_by ws = map word ws

  -- a node variable stays
  abbrev pub val_by : V.Val → V.Val
  val_by (NodeVar x) = NodeVar x
  val_by (Node t ws) = Node t (words_by ws)
  val_by (Vector ws) = Vector (words_by ws)
  val_by (One a) = One (word a)

  abbrev pub cell_by : Cell → Cell
  cell_by c = record c { val = val_by c.val }

  abbrev pub cells_by : List Cell → List Cell
  cells_by cs = map cell_by cs

  abbrev pub leaf_by : Leaf → Leaf
  leaf_by (unit v) = unit (val_by v)
  leaf_by (fetch a) = fetch (word a)
  leaf_by (fetch_word a i) = fetch_word (word a) i
  leaf_by (update a v) = update (word a) (val_by v)
  leaf_by (eval a) = eval (word a)
  leaf_by (apply v a) = apply (val_by v) (word a)
  leaf_by (call f ws) = call f (words_by ws)
  leaf_by (prim p a b) = prim p (word a) (word b)
  leaf_by read = read
  leaf_by (write a) = write (word a)
  leaf_by fail = fail
