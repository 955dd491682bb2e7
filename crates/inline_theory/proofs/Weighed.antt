-- What the back end counts in a program is at most a multiple of the program's size.
use Rattle.std.proofs.Common.{ℕ, ◌+◌, ◌*◌, ◌≤◌, List, [], ◌∷◌, length, arith}
use Rattle.std.proofs.lemmas.List.{length-map}
use Rattle.grin_syntax.specs.declared.program.Val as V
use Rattle.grin_syntax.specs.declared.program.Val.TheVariants.{NodeVar, Node, Vector, One}
use Rattle.grin_syntax.specs.declared.program.Target as T
use Rattle.grin_syntax.specs.declared.program.Target.TheVariants as to
use Rattle.grin_syntax.specs.declared.program.Shape as S
use Rattle.grin_syntax.specs.declared.program.Shape.TheVariants as shape
use Rattle.grin_syntax.specs.declared.program.Cell.{Cell}
use Rattle.grin_syntax.specs.Tree.{Code, end, store, bind, Act, leaf, unit, update, apply, call, case, nested, Arms, no_arm, arm, Procedure}
use Rattle.grin_syntax.specs.Binders.{shape_vars}
use Rattle.grin_syntax.specs.Formed.{AllOf}
use Rattle.grin_meaning.specs.Slim.{val_weight, target_weight, cells_weight, act_weight, code_weight, arms_weight, procs_weight, act_calls, code_calls, arms_calls, procs_calls, node_words, end_words, inner_words, code_words, arms_words, procedure_words}
use Rattle.inline_theory.specs.Size.{shape_size, val_size, target_size, cells_size, act_size, code_size, arms_size, procedure_size, total, largest, largest_procedure}
use Rattle.inline_theory.specs.Small.{IsLinearInSize}

-- a value weighs at most 14 more than 48 times its size
val_light : (v : V.Val) → val_weight v ≤ 14 + 48 * val_size v
val_light (NodeVar x) = omega arith
val_light (Node t ws) = omega arith
val_light (Vector ws) = omega arith
val_light (One a) = omega arith

target_light : (t : T.Target) → target_weight t ≤ 14 * target_size t
target_light to.Nothing = omega arith
target_light (to.Node x) = omega arith
target_light (to.One x) = omega arith
target_light (to.Vector xs) = omega arith

shape_binds : (s : S.Shape) → length (shape_vars s) ≤ shape_size s
shape_binds (shape.Node t xs) = omega (arith, length-map xs (λ x. x.0))
shape_binds (shape.Int k) = omega arith
shape_binds shape.Else = omega arith

cells_light : (cs : List Cell) → cells_weight cs ≤ 48 * cells_size cs
cells_light [] = omega arith
cells_light (c ∷ cs) = omega (arith, val_light c.val, cells_light cs)

cells_many : (cs : List Cell) → length cs ≤ cells_size cs
cells_many [] = omega arith
cells_many (c ∷ cs) = omega (arith, cells_many cs)

bound_words : (o : Act) → node_words o ≤ end_words o
bound_words (case v as') = omega arith
bound_words (nested b) = omega arith
bound_words (leaf (unit v)) = omega arith
bound_words (leaf l) = omega arith

-- each operation has room for the three that its alternative may add; its words are those of one
-- that ends a block, and so of one that a target takes
mutual
  unfolding act_weight act_calls inner_words act_size

  act_light : (o : Act) → (3 + act_weight o ≤ 48 * act_size o) × (act_calls o ≤ act_size o)
      × (end_words o + inner_words o ≤ 20 * act_size o)
  act_light (case v as') = let a = arms_light as' in
      (omega (arith, val_light v, a.0), omega (arith, a.1), omega (arith, a.2))
  act_light (nested b) = let c = code_light b in
      (omega (arith, c.0), omega (arith, c.1), omega (arith, c.2))
  act_light (leaf (unit v)) = (omega (arith, val_light v), omega arith, omega arith)
  act_light (leaf (update a v)) = (omega (arith, val_light v), omega arith, omega arith)
  act_light (leaf (apply v a)) = (omega (arith, val_light v), omega arith, omega arith)
  act_light (leaf (call f ws)) = (omega arith, omega arith, omega arith)
  act_light (leaf l) = (omega arith, omega arith, omega arith)

  code_light : (b : Code) → (3 + code_weight b ≤ 48 * code_size b) × (code_calls b ≤ code_size b)
      × (code_words b ≤ 20 * code_size b)
  code_light (end o) = act_light o
  code_light (store cs b) = let c = code_light b in
      (omega (arith, cells_light cs, c.0), omega (arith, c.1), omega (arith, cells_many cs, c.2))
  code_light (bind t o b) = let a = act_light o in let c = code_light b
      in (
        omega (arith, target_light t, a.0, c.0),
        omega (arith, a.1, c.1),
        omega (arith, target_light t, bound_words o, a.2, c.2),
      )

  arms_light : (as' : Arms) → (arms_weight as' ≤ 48 * arms_size as')
      × (arms_calls as' ≤ arms_size as') × (arms_words as' ≤ 20 * arms_size as')
  arms_light no_arm = (omega arith, omega arith, omega arith)
  arms_light (arm s b as') = let c = code_light b in let a = arms_light as'
      in (
        omega (arith, shape_binds s, c.0, a.0),
        omega (arith, c.1, a.1),
        omega (arith, shape_binds s, c.2, a.2),
      )

procs_light : (qs : List Procedure) → (procs_weight qs ≤ 48 * total procedure_size qs)
    × (procs_calls qs ≤ total procedure_size qs)
procs_light [] = (omega arith, omega arith)
procs_light (q ∷ qs) = let c = code_light q.body in let r = procs_light qs
    in (omega (arith, c.0, r.0), omega (arith, c.1, r.1))

procs_words_few : (most : ℕ) (qs : List Procedure) → largest procedure_size qs ≤ most
    → AllOf (λ q. procedure_words q ≤ 20 * most) qs
procs_words_few most [] le = tt
procs_words_few most (q ∷ qs) le =
    (let c = code_light q.body in omega (arith, c.2), procs_words_few most qs (omega arith))

pub slim : IsLinearInSize
slim g = record {
  light = (procs_light g.procs).0;
  few_calls = (procs_light g.procs).1;
  few_words = procs_words_few (largest_procedure g) g.procs (omega arith);
}
