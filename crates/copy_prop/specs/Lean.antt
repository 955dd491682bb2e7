-- Programs without idle statements: those that change nothing and bind what nobody uses.
use Rattle.std.specs.Prelude.{ℕ, Bool, true, false, not, ◌&&◌, List, [], ◌∷◌, ◌++◌, Option, Some, None}
use Rattle.grin_syntax.specs.declared.program.Word as W
use Rattle.grin_syntax.specs.declared.program.Word.TheVariants.{Var}
use Rattle.grin_syntax.specs.declared.program.Val as V
use Rattle.grin_syntax.specs.declared.program.Val.TheVariants.{NodeVar, Node, Vector, One}
use Rattle.grin_syntax.specs.declared.program.Target.{Target}
use Rattle.grin_syntax.specs.declared.program.Cell.{Cell}
use Rattle.grin_syntax.specs.declared.program.Stmt.{Stmt}
use Rattle.grin_syntax.specs.Binders.{target_vars}
use Rattle.grin_syntax.specs.Tree.{Code, end, store, bind, Act, leaf, unit, fetch, fetch_word, update, eval, apply, call, prim, read, write, case, nested, fail, Arms, no_arm, arm, Program, before_of}
use Rattle.grin_meaning.specs.Rewritten.{rewritten}
use Rattle.seq.specs.Lists.{is_among}

-- ---- the variables that a piece uses, from its end

abbrev pub used_in_word : W.Word → List ℕ
used_in_word (Var x) = x.0 ∷ []
used_in_word _ = []

abbrev pub used_in_words : List W.Word → List ℕ
used_in_words [] = []
used_in_words (a ∷ ws) = used_in_word a ++ used_in_words ws

abbrev pub used_in_val : V.Val → List ℕ
used_in_val (NodeVar x) = x.0 ∷ []
used_in_val (Node t ws) = used_in_words ws
used_in_val (Vector ws) = used_in_words ws
used_in_val (One a) = used_in_word a

abbrev pub used_in_cells : List Cell → List ℕ
used_in_cells [] = []
used_in_cells (c ∷ cs) = used_in_val c.val ++ used_in_cells cs

-- an operation, without the blocks inside it
abbrev pub used_beside_blocks : Act → List ℕ
used_beside_blocks (leaf (unit v)) = used_in_val v
used_beside_blocks (leaf (fetch a)) = used_in_word a
used_beside_blocks (leaf (fetch_word a i)) = used_in_word a
used_beside_blocks (leaf (update a v)) = used_in_word a ++ used_in_val v
used_beside_blocks (leaf (eval a)) = used_in_word a
used_beside_blocks (leaf (apply v a)) = used_in_val v ++ used_in_word a
used_beside_blocks (leaf (call f ws)) = used_in_words ws
used_beside_blocks (leaf (prim p a b)) = used_in_word a ++ used_in_word b
used_beside_blocks (leaf read) = []
used_beside_blocks (leaf (write a)) = used_in_word a
used_beside_blocks (case v as') = used_in_val v
used_beside_blocks (nested b) = []
used_beside_blocks (leaf fail) = []

unfoldable mutual
  pub used_in_act : Act → List ℕ
  used_in_act (case v as') = used_in_val v ++ used_in_arms as'
  used_in_act (nested b) = used_in_code b
  used_in_act o = used_beside_blocks o

  pub used_in_code : Code → List ℕ
  used_in_code (end o) = used_in_act o
  used_in_code (store cs b) = used_in_code b ++ used_in_cells cs
  used_in_code (bind t o b) = used_in_code b ++ used_in_act o

  pub used_in_arms : Arms → List ℕ
  used_in_arms no_arm = []
  used_in_arms (arm s b as') = used_in_code b ++ used_in_arms as'

-- ---- idle statements

abbrev pub are_disjoint : List ℕ → List ℕ → Bool
are_disjoint [] ys = true
are_disjoint (x ∷ xs) ys = not (is_among x ys) && are_disjoint xs ys

-- an operation that changes nothing: a unit, a fetch or a primitive
abbrev pub has_no_effect : Act → Bool
has_no_effect (leaf (unit v)) = true
has_no_effect (leaf (fetch a)) = true
has_no_effect (leaf (fetch_word a i)) = true
has_no_effect (leaf (prim p a b)) = true
has_no_effect _ = false

-- before a block that uses these variables
abbrev pub is_idle : Target → Act → List ℕ → Bool
is_idle t o used = has_no_effect o && are_disjoint (target_vars t) used

abbrev pub unless : Bool → (Code → Code) → Code → Code
unless true s c = c
unless false s c = s c

-- a statement that is there, before a block
abbrev pub optional_statement : Option Stmt → Code → Code
optional_statement None c = c
optional_statement (Some s) c = before_of s c

unfoldable mutual
  pub without_idle_act : Act → Act
  without_idle_act (case v as') = case v (without_idle_arms as')
  without_idle_act (nested b) = nested (without_idle_code b)
  without_idle_act o = o

  pub without_idle_code : Code → Code
  without_idle_code (end o) = end (without_idle_act o)
  without_idle_code (store cs b) = store cs (without_idle_code b)
  without_idle_code (bind t o b) =
      unless (is_idle t o (used_in_code (without_idle_code b)))
      (bind t (without_idle_act o)) (without_idle_code b)

  pub without_idle_arms : Arms → Arms
  without_idle_arms no_arm = no_arm
  without_idle_arms (arm s b as') = arm s (without_idle_code b) (without_idle_arms as')

abbrev pub lean : Program → Program
lean g = rewritten without_idle_code g
