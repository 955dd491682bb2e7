-- Which variables are named where words alone change, in pieces without node variables.
use Rattle.std.proofs.Common.{ℕ, List, [], ◌∷◌}
use Rattle.grin_syntax.specs.declared.program.Cell.{Cell}
use Rattle.grin_syntax.specs.declared.program.Val.{Val}
use Rattle.grin_syntax.specs.declared.program.Val.TheVariants.{NodeVar, Node, Vector, One}
use Rattle.grin_syntax.specs.declared.program.Word.{Word}
use Rattle.grin_syntax.specs.Tree.{Leaf, leaf, unit, fetch, fetch_word, update, eval, apply, call, prim, read, write, fail}
use Rattle.grin_syntax.specs.Formed.{AllOf}
use Rattle.grin_meaning.specs.Names.{WordOk, WordsOk, ValOk, CellsOk, ActOk}
use Rattle.grin_meaning.specs.Ready.{EachAct, NoNodeVar, vectorised_kind}
use Rattle.grin_rewrite.specs.ByWords.{words_by, val_by, cells_by, leaf_by}

module _ (word : Word → Word) (Ok : ℕ → Type 0) (each : (a : Word) → WordOk Ok (word a)) where
  words_ok : (ws : List Word) → WordsOk Ok (words_by word ws)
  words_ok [] = tt
  words_ok (a ∷ ws) = (each a, words_ok ws)

  pub val_ok : (v : Val) → NoNodeVar v → ValOk Ok (val_by word v)
  val_ok (NodeVar x) n = absurd n
  val_ok (Node t ws) n = words_ok ws
  val_ok (Vector ws) n = words_ok ws
  val_ok (One a) n = each a

  pub cells_ok : (cs : List Cell) → AllOf (λ c. NoNodeVar c.val) cs → CellsOk Ok (cells_by word cs)
  cells_ok [] n = tt
  cells_ok (c ∷ cs) n = (val_ok c.val n.0, cells_ok cs n.1)

  pub leaf_ok : (l : Leaf) → EachAct vectorised_kind (leaf l) → ActOk Ok (leaf (leaf_by word l))
  unfolding ActOk EachAct
  leaf_ok (update a v) n = (each a, val_ok v n.1)
  leaf_ok (unit v) n = val_ok v n.1
  leaf_ok (apply v a) n = (val_ok v n.1, each a)
  leaf_ok (call f ws) n = words_ok ws
  leaf_ok (prim f a b) n = (each a, each b)
  leaf_ok (fetch a) n = each a
  leaf_ok (fetch_word a i) n = each a
  leaf_ok (eval a) n = each a
  leaf_ok (write a) n = each a
  leaf_ok read n = tt
  leaf_ok fail n = tt
