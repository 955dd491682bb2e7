-- A program without the cells of some sites.
use Rattle.std.specs.Prelude.{ℕ, pos, Bool, cond, List, [], ◌∷◌, ◌++◌, map}
use Rattle.grin_syntax.specs.declared.program.Word as W
use Rattle.grin_syntax.specs.declared.program.Word.TheVariants.{Lit, Var, Global, TagWord}
use Rattle.grin_syntax.specs.declared.program.Val as V
use Rattle.grin_syntax.specs.declared.program.Val.TheVariants.{NodeVar, Node, Vector, One}
use Rattle.grin_syntax.specs.declared.program.Cell.{Cell}
use Rattle.grin_syntax.specs.declared.program.Shape.{Shape}
use Rattle.grin_syntax.specs.Tree.{Code, end, store, bind, Act, leaf, unit, fetch, fetch_word, update, eval, apply, call, prim, read, write, case, nested, fail, Arms, no_arm, arm, Procedure, Program}
use Rattle.grin_meaning.specs.Rewritten.{rewritten_procedure}
use Rattle.seq.specs.Lists.{is_among}

-- where the cells of some variables are gone, the number 0 stands for these variables
module _ (gone : ℕ → Bool) where
  abbrev pub without_word : W.Word → W.Word
  without_word (Lit k) = Lit k
  without_word (Var x) = cond (gone x.0) (Lit (pos 0)) (Var x)
  without_word (Global i) = Global i
  without_word (TagWord t) = TagWord t

  abbrev pub without_val : V.Val → V.Val
  without_val (NodeVar x) = NodeVar x
  without_val (Node t ws) = Node t (map without_word ws)
  without_val (Vector ws) = Vector (map without_word ws)
  without_val (One a) = One (without_word a)

  abbrev pub kept_cell : Cell → Cell
  kept_cell c = record { var = c.var; site = c.site; val = without_val c.val }

-- a group of cells before a block, where there is a cell
abbrev pub store_if_any : List Cell → Code → Code
store_if_any [] b = b
store_if_any (c ∷ cs) b = store (c ∷ cs) b

-- the cells of some sites stay
module _ (stays : ℕ → Bool) where
  -- the variables of the cells that leave
  abbrev pub cells_left : List Cell → List ℕ
  cells_left [] = []
  cells_left (c ∷ cs) = cond (stays c.site.0) (cells_left cs) (c.var.0 ∷ cells_left cs)

  unfoldable mutual
    pub act_left : Act → List ℕ
    act_left (case v as') = arms_left as'
    act_left (nested b) = code_left b
    act_left _ = []

    pub code_left : Code → List ℕ
    code_left (end o) = act_left o
    code_left (store cs b) = cells_left cs ++ code_left b
    code_left (bind t o b) = act_left o ++ code_left b

    pub arms_left : Arms → List ℕ
    arms_left no_arm = []
    arms_left (arm s b as') = code_left b ++ arms_left as'

  abbrev pub left_of : List Procedure → List ℕ
  left_of [] = []
  left_of (q ∷ qs) = code_left q.body ++ left_of qs

  module _ (gone : ℕ → Bool) where
    abbrev pub kept_cells : List Cell → List Cell
    kept_cells [] = []
    kept_cells (c ∷ cs) = cond (stays c.site.0) (kept_cell gone c ∷ kept_cells cs) (kept_cells cs)

    unfoldable mutual
      pub without_act : Act → Act
      without_act (leaf (unit v)) = leaf (unit (without_val gone v))
      without_act (leaf (fetch a)) = leaf (fetch (without_word gone a))
      without_act (leaf (fetch_word a i)) = leaf (fetch_word (without_word gone a) i)
      without_act (leaf (update a v)) =
          leaf (update (without_word gone a) (without_val gone v))
      without_act (leaf (eval a)) = leaf (eval (without_word gone a))
      without_act (leaf (apply v a)) = leaf (apply (without_val gone v) (without_word gone a))
      without_act (leaf (call f ws)) = leaf (call f (map (without_word gone) ws))
      without_act (leaf (prim p a b)) = leaf (prim p (without_word gone a) (without_word gone b))
      without_act (leaf read) = leaf read
      without_act (leaf (write a)) = leaf (write (without_word gone a))
      without_act (case v as') = case (without_val gone v) (without_arms as')
      without_act (nested b) = nested (without_code b)
      without_act (leaf fail) = leaf fail

      pub without_code : Code → Code
      without_code (end o) = end (without_act o)
      without_code (store cs b) = store_if_any (kept_cells cs) (without_code b)
      without_code (bind t o b) = bind t (without_act o) (without_code b)

      pub without_arms : Arms → Arms
      without_arms no_arm = no_arm
      without_arms (arm s b as') = arm s (without_code b) (without_arms as')

    abbrev pub without_arm : (Shape × Code) → (Shape × Code)
    without_arm a = (a.0, without_code a.1)

    abbrev pub without_procs : List Procedure → List Procedure
    without_procs = map (rewritten_procedure without_code)

  -- these variables have cells that leave
  abbrev pub is_gone : List Procedure → ℕ → Bool
  is_gone qs x = is_among x (left_of qs)

  -- the cells of all other sites leave their groups, a group that loses all of them leaves its
  -- block, and the number 0 stands wherever their variables stood
  abbrev pub without : Program → Program
  without g = record g { procs = without_procs (is_gone g.procs) g.procs }
