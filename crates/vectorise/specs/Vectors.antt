-- A program with vectors in place of node variables.
use Rattle.std.specs.Prelude.{suc, Bool, List, [], map}
use Rattle.grin_syntax.specs.declared.program.Val as V
use Rattle.grin_syntax.specs.declared.program.Val.TheVariants.{NodeVar, Node, Vector, One}
use Rattle.grin_syntax.specs.declared.program.Target.{Target}
use Rattle.grin_syntax.specs.declared.program.Target.TheVariants as to
use Rattle.grin_syntax.specs.declared.program.Shape.{Shape}
use Rattle.grin_syntax.specs.declared.program.Shape.TheVariants as shape
use Rattle.grin_syntax.specs.declared.program.Cell.{Cell}
use Rattle.grin_syntax.specs.Tree.{Code, end, store, bind, Act, Leaf, leaf, unit, fetch, fetch_word, update, eval, apply, call, prim, read, write, case, nested, fail, Arms, no_arm, arm, Program}
use Rattle.grin_syntax.specs.Fresh.{variables}
use Rattle.grin_meaning.specs.Checks.{is_fetch}
use Rattle.grin_meaning.specs.Rewritten.{rewritten}
use Rattle.vectorise.specs.Known.{Layout, layout_of, Table, table_of, vector_start, room, field_capacity_of, as_word, as_words, vector_words}

-- a node variable is its vector
abbrev pub wide_val : Layout → Table → V.Val → V.Val
wide_val l k (NodeVar x) = Vector (vector_words l x (suc (field_capacity_of l k x)))
wide_val l k (Node t ws) = Node t (as_words k ws)
wide_val l k (Vector ws) = Vector (as_words k ws)
wide_val l k (One w) = One (as_word k w)

-- what a unit gives is a value, so the words past those of a value are left out
abbrev pub returned_val : Layout → Table → V.Val → V.Val
returned_val l k (NodeVar x) = Vector (vector_words l x (suc l.most_value))
returned_val l k v = wide_val l k v

-- the target of a fetch, or of another operation
abbrev pub wide_target : Layout → (fetched : Bool) → Target → Target
wide_target l fetched (to.Node x) =
    to.Vector (variables (vector_start l x.0) (suc (room l fetched)))
wide_target l fetched t = t

-- patterns bind nothing
abbrev pub without_binders : Shape → Shape
without_binders (shape.Node t xs) = shape.Node t []
without_binders s = s

abbrev pub wide_cells : Layout → Table → List Cell → List Cell
wide_cells l k cs = map {A = Cell} (λ c. record c { val = wide_val l k c.val }) cs

module _ (l : Layout) (k : Table) where
  -- an operation without a block
  abbrev pub wide_leaf : Leaf → Leaf
  wide_leaf (unit v) = unit (returned_val l k v)
  wide_leaf (fetch a) = fetch (as_word k a)
  wide_leaf (fetch_word a i) = fetch_word (as_word k a) i
  wide_leaf (update a v) = update (as_word k a) (wide_val l k v)
  wide_leaf (eval a) = eval (as_word k a)
  wide_leaf (apply v a) = apply (wide_val l k v) (as_word k a)
  wide_leaf (call f ws) = call f (as_words k ws)
  wide_leaf (prim p a b) = prim p (as_word k a) (as_word k b)
  wide_leaf read = read
  wide_leaf (write a) = write (as_word k a)
  wide_leaf fail = fail

  unfoldable mutual
    pub wide_act : Act → Act
    wide_act (leaf o) = leaf (wide_leaf o)
    wide_act (case v as') = case (wide_val l k v) (wide_arms as')
    wide_act (nested b) = nested (wide_code b)

    pub wide_code : Code → Code
    wide_code (end o) = end (wide_act o)
    wide_code (store cs b) = store (wide_cells l k cs) (wide_code b)
    wide_code (bind t o b) = bind (wide_target l (is_fetch o) t) (wide_act o) (wide_code b)

    pub wide_arms : Arms → Arms
    wide_arms no_arm = no_arm
    wide_arms (arm s b as') = arm (without_binders s) (wide_code b) (wide_arms as')

  abbrev pub wide_arm : Shape × Code → Shape × Code
  wide_arm a = (without_binders a.0, wide_code a.1)

abbrev pub vectorised : Program → Program
vectorised g = rewritten (wide_code (layout_of g) (table_of g)) g
