-- The block of an expression.
use Rattle.std.specs.Prelude.{ℕ, suc, ◌+◌, ◌-◌, ◌*◌, List, [], ◌∷◌, map, length, Some, None}
use Rattle.arity_check.specs.declared.normal.Var as core
use Rattle.arity_check.specs.declared.normal.Var.TheVariants as var
use Rattle.arity_check.specs.declared.normal.Bound.{Bound}
use Rattle.arity_check.specs.declared.normal.Flat.{Flat}
use Rattle.arity_check.specs.declared.normal.Flat.TheVariants as flat
use Rattle.arity_check.specs.declared.normal.PrimOp.{PrimOp}
use Rattle.arity_check.specs.declared.normal.PrimOp.TheVariants.{Add, Sub, Mul, Quot, Rem, Eq, Lt}
use Rattle.arity_check.specs.Program.{Program, Term, App, Let, Case, Branches, NoMore, OnCon, OnInt, OnAny}
use Rattle.core_meaning.specs.Evaluation.{params, global}
use Rattle.grin_syntax.specs.declared.program.VarId.{VarId}
use Rattle.grin_syntax.specs.declared.program.PrimOp as grin
use Rattle.grin_syntax.specs.declared.program.PrimOp.TheVariants as op
use Rattle.grin_syntax.specs.declared.program.Cell.{Cell}
use Rattle.grin_syntax.specs.declared.program.Word.{Word}
use Rattle.grin_syntax.specs.declared.program.Word.TheVariants.{Lit, Var, Global}
use Rattle.grin_syntax.specs.declared.program.Val.{Val}
use Rattle.grin_syntax.specs.declared.program.Val.TheVariants.{NodeVar, Node}
use Rattle.grin_syntax.specs.declared.program.Target.TheVariants as to
use Rattle.grin_syntax.specs.declared.program.Shape.TheVariants as shape
use Rattle.grin_syntax.specs.Tree.{Code, end, store, bind, leaf, unit, eval, apply, call, prim, case, fail, Arms, no_arm, arm, as_act}
use Rattle.grin_translate.specs.declared.tags.Delay.TheVariants.{Calls, Applies, Operates}
use Rattle.grin_translate.specs.declared.tags.Kind.TheVariants.{Number, Constructor, Waits, Lacks}
use Rattle.grin_translate.specs.Tags.{tag, proc}

abbrev pub operation : PrimOp → grin.PrimOp
operation Add = op.Add
operation Sub = op.Sub
operation Mul = op.Mul
operation Quot = op.Quot
operation Rem = op.Rem
operation Eq = op.Eq
operation Lt = op.Lt

-- the alternatives for all else
abbrev pub else_fail : Arms
else_fail = arm shape.Else (end (leaf fail)) no_arm

-- how many variables for values between operations a form and an expression bind
abbrev pub form_temps : Flat → ℕ
form_temps (flat.Apply x xs) = length xs
form_temps (flat.Prim op x y) = 5
form_temps _ = 0

abbrev mutual
  pub temps : Term → ℕ
  temps (App f) = form_temps f
  temps (Let group e) = temps e
  temps (Case e branches) = suc (temps e + branch_temps branches)

  pub branch_temps : Branches → ℕ
  branch_temps NoMore = 0
  branch_temps (OnCon c xs e rest) = temps e + branch_temps rest
  branch_temps (OnInt k e rest) = temps e + branch_temps rest
  branch_temps (OnAny x e rest) = temps e

-- In a procedure whose variables are numbered from `base` on, the locals have every other number,
-- and the values between operations have the numbers between these
module _ (p : Program) (base : ℕ) where
  abbrev pub local : ℕ → VarId
  local x = record { 0 = base + 2 * x }

  abbrev pub temp : ℕ → VarId
  temp t = record { 0 = base + 2 * t + 1 }

  abbrev pub word : core.Var → Word
  word (var.Local x) = Var (local x)
  word (var.Global f) = Global (global p f)

  -- the node of a binding
  abbrev pub node : Flat → Val
  node (flat.Int k) = Node (tag p Number) (Lit k ∷ [])
  node (flat.Con c xs) = Node (tag p (Constructor c)) (map word xs)
  node (flat.Part f xs) = Node (tag p (Lacks f (params p f - length xs))) (map word xs)
  node (flat.Call f xs) = Node (tag p (Waits (Calls f))) (map word xs)
  node (flat.Apply x xs) = Node (tag p (Waits (Applies (length xs)))) (word x ∷ map word xs)
  node (flat.Prim op x y) = Node (tag p (Waits (Operates op))) (word x ∷ word y ∷ [])

  -- a variable's cell; a site has the number of its variable
  abbrev pub cell : ℕ → Val → Cell
  cell x v = record { var = local x; site = record { 0 = (local x).0 }; val = v }

  abbrev pub cell_of : Bound → Cell
  cell_of b = cell b.local (node b.flat)

  -- the node v is given these words, one at a time
  abbrev pub give_block : ℕ → VarId → Word → List Word → Code
  give_block t v a [] = end (leaf (apply (NodeVar v) a))
  give_block t v a (b ∷ bs) =
      bind (to.Node (temp t)) (leaf (apply (NodeVar v) a)) (give_block (suc t) (temp t) b bs)

  abbrev pub apply_block : ℕ → Word → List Word → Code
  apply_block t x [] = end (leaf (eval x))
  apply_block t x (a ∷ as') =
      bind (to.Node (temp t)) (leaf (eval x)) (give_block (suc t) (temp t) a as')

  -- where the node v is a number, i is that number in the block
  abbrev pub on_number : VarId → VarId → Code → Code
  on_number v i b = end (case (NodeVar v) (arm (shape.Node (tag p Number) (i ∷ [])) b else_fail))

  abbrev pub prim_block : ℕ → PrimOp → Word → Word → Code
  prim_block t op a b =
      bind (to.Node (temp t)) (leaf (eval a))
      (on_number (temp t) (temp (t + 1))
      (bind (to.Node (temp (t + 2))) (leaf (eval b))
      (on_number (temp (t + 2)) (temp (t + 3))
      (bind (to.One (temp (t + 4)))
      (leaf (prim (operation op) (Var (temp (t + 1))) (Var (temp (t + 3)))))
      (end (leaf (unit (Node (tag p Number) (Var (temp (t + 4)) ∷ [])))))))))

  abbrev pub form_block : ℕ → Flat → Code
  form_block t (flat.Int k) = end (leaf (unit (node (flat.Int k))))
  form_block t (flat.Con c xs) = end (leaf (unit (node (flat.Con c xs))))
  form_block t (flat.Part f xs) = end (leaf (unit (node (flat.Part f xs))))
  form_block t (flat.Call f xs) = end (leaf (call (proc p (Calls f)) (map word xs)))
  form_block t (flat.Apply x xs) = apply_block t (word x) (map word xs)
  form_block t (flat.Prim op x y) = prim_block t op (word x) (word y)

  abbrev mutual
    -- the block of an expression; the values between its operations are numbered from t on
    pub block : ℕ → Term → Code
    block t (App f) = form_block t f
    block t (Let group e) = store (map cell_of group) (block t e)
    block t (Case e branches) =
        bind (to.Node (temp t)) (as_act (block (suc t) e))
        (end (case (NodeVar (temp t)) (arms (temp t) (suc t + temps e) branches)))

    pub arms : VarId → ℕ → Branches → Arms
    arms v t NoMore = else_fail
    arms v t (OnCon c xs e rest) =
        arm (shape.Node (tag p (Constructor c)) (map local xs)) (block t e)
        (arms v (t + temps e) rest)
    arms v t (OnInt k e rest) = arm (shape.Int k) (block t e) (arms v (t + temps e) rest)
    arms v t (OnAny None e rest) = arm shape.Else (block t e) no_arm
    arms v t (OnAny (Some x) e rest) =
        arm shape.Else (store (cell x (NodeVar v) ∷ []) (block t e)) no_arm
