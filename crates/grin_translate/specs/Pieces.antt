-- Pieces of blocks and of cases.
use Rattle.std.specs.Prelude.{ℕ, suc, ◌+◌, ◌*◌, ◌==◌, if◌then◌else◌, cond, codes, slice_get, List, [], ◌∷◌}
use Rattle.arity_check.specs.declared.normal.PrimOp.{PrimOp}
use Rattle.arity_check.specs.Program.{Program}
use Rattle.core_meaning.specs.Evaluation.{cons, params}
use Rattle.grin_syntax.specs.declared.program.VarId.{VarId}
use Rattle.grin_syntax.specs.declared.program.Word.{Word}
use Rattle.grin_syntax.specs.declared.program.Word.TheVariants.{Var}
use Rattle.grin_syntax.specs.declared.program.Shape.{Shape}
use Rattle.grin_syntax.specs.declared.program.Cell.{Cell}
use Rattle.grin_syntax.specs.declared.program.GlobalCell.{GlobalCell}
use Rattle.grin_syntax.specs.declared.program.Val.{Val}
use Rattle.grin_syntax.specs.declared.program.Val.TheVariants.{Node, NodeVar}
use Rattle.grin_syntax.specs.declared.program.Target.TheVariants as to
use Rattle.grin_syntax.specs.Tree.{Code, end, store, bind, Act, leaf, unit, eval, apply, prim, Arms, arm, Procedure}
use Rattle.grin_translate.specs.declared.tags.Kind.TheVariants.{Number, Constructor, Waits}
use Rattle.grin_translate.specs.declared.tags.Delay.TheVariants.{Calls, Reads}
use Rattle.grin_translate.specs.Tags.{tag, fun_name, takes_input}
use Rattle.grin_translate.specs.Translation.{procedure, start_body}
use Rattle.grin_translate.specs.Blocks.{operation, on_number, local, temp, cell}
use Rattle.grin_syntax.specs.Fresh.{variable}

-- the cell of a local whose number is x, where variables begin at base
abbrev pub cell_of_local : ℕ → ℕ → Val → Cell
cell_of_local base x v =
    record { var = variable (base + 2 * x); site = record { 0 = base + 2 * x }; val = v }

-- further alternatives before others
abbrev pub prepend_arms : List (Shape × Code) → Arms → Arms
prepend_arms [] rest = rest
prepend_arms (a ∷ as') rest = arm a.0 a.1 (prepend_arms as' rest)

module _ (p : Program) where
  -- k is the operation's result, which the block gives
  abbrev pub result_of : PrimOp → VarId → VarId → VarId → Code
  result_of op i j k =
      bind (to.One k) (leaf (prim (operation op) (Var i) (Var j)))
      (end (leaf (unit (Node (tag p Number) (Var k ∷ [])))))

  -- the word's value is v, and where this is a number it is i in what follows
  abbrev pub evaluated_of : Word → VarId → VarId → Code → Code
  evaluated_of a v i b = bind (to.Node v) (leaf (eval a)) (on_number p 0 v i b)

  -- the operation o gives a node, which is given these words, one at a time
  abbrev pub given_to : ℕ → ℕ → Act → List Word → Code
  given_to base t o [] = end o
  given_to base t o (a ∷ as') =
      bind (to.Node (temp p base t)) o
      (given_to base (suc t) (leaf (apply (NodeVar (temp p base t)) a)) as')

  -- the list of the next byte and of the others: the byte's cell and that of the rest of the input
  abbrev pub more_of : ℕ → Code
  more_of base =
      store (cell p base 0 (Node (tag p Number) (Var (temp p base 0) ∷ []))
      ∷ (cell p base 1 (Node (tag p (Waits Reads)) []) ∷ []))
      (end (leaf (unit
      (Node (tag p (Constructor (cons p))) (Var (local p base 0) ∷ Var (local p base 1) ∷ [])))))

  -- the global cell of a function, where it has no parameters
  abbrev pub shared_of : ℕ → List GlobalCell
  shared_of f =
      if params p f == 0 then record {
        name = fun_name (slice_get p.funs f);
        site = record { 0 = f };
        tag = tag p (Waits (Calls f));
      } ∷ [] else []

  -- the start, where main takes the input; rest is the first number after the variables of what
  -- waits
  abbrev pub start_if : ℕ → List Procedure
  start_if rest =
      cond (takes_input p)
      (procedure p (rest + 10) (codes "@start") 0 (start_body p (rest + 10)) ∷ []) []
