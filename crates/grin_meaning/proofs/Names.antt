-- Where all variables matter, each piece of a program is as it should be.
use Rattle.std.proofs.Common.{ℕ, List, [], ◌∷◌}
use Rattle.grin_syntax.specs.declared.program.Cell.{Cell}
use Rattle.grin_syntax.specs.declared.program.Val.{Val}
use Rattle.grin_syntax.specs.declared.program.Val.TheVariants.{NodeVar, Node, Vector, One}
use Rattle.grin_syntax.specs.declared.program.Word.{Word}
use Rattle.grin_syntax.specs.declared.program.Word.TheVariants.{Var}
use Rattle.grin_syntax.specs.Tree.{Code, end, store, bind, Act, leaf, unit, fetch, fetch_word, update, eval, apply, call, prim, read, write, case, nested, fail, Arms, no_arm, arm, Procedure}
use Rattle.grin_meaning.specs.Names.{WordOk, WordsOk, ValOk, CellsOk, ActOk, CodeOk, ArmsOk, ProcsOk}

abbrev pub Any : ℕ → Type 0
Any x = Unit {0}

any_word : (a : Word) → WordOk Any a
any_word (Var x) = tt
any_word _ = tt

any_words : (ws : List Word) → WordsOk Any ws
any_words [] = tt
any_words (a ∷ ws) = (any_word a, any_words ws)

pub any_val : (v : Val) → ValOk Any v
any_val (NodeVar x) = tt
any_val (Node t ws) = any_words ws
any_val (Vector ws) = any_words ws
any_val (One a) = any_word a

pub any_cells : (cs : List Cell) → CellsOk Any cs
any_cells [] = tt
any_cells (c ∷ cs) = (any_val c.val, any_cells cs)

mutual
  unfolding ActOk

  pub any_act : (o : Act) → ActOk Any o
  any_act (leaf (unit v)) = any_val v
  any_act (leaf (fetch a)) = any_word a
  any_act (leaf (fetch_word a i)) = any_word a
  any_act (leaf (update a v)) = (any_word a, any_val v)
  any_act (leaf (eval a)) = any_word a
  any_act (leaf (apply v a)) = (any_val v, any_word a)
  any_act (leaf (call f ws)) = any_words ws
  any_act (leaf (prim f a b)) = (any_word a, any_word b)
  any_act (leaf read) = tt
  any_act (leaf (write a)) = any_word a
  any_act (case v as') = (any_val v, any_arms as')
  any_act (nested b) = any_code b
  any_act (leaf fail) = tt

  pub any_code : (b : Code) → CodeOk Any b
  any_code (end o) = any_act o
  any_code (store cs b) = (any_cells cs, any_code b)
  any_code (bind t o b) = (any_act o, any_code b)

  pub any_arms : (as' : Arms) → ArmsOk Any as'
  any_arms no_arm = tt
  any_arms (arm s b as') = (any_code b, any_arms as')

pub any_procs : (qs : List Procedure) → ProcsOk Any qs
any_procs [] = tt
any_procs (q ∷ qs) = (any_code q.body, any_procs qs)
