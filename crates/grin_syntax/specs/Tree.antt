-- Programs as trees: a block is its statements, one before the other, and at the end its last
-- operation.
use Rattle.std.specs.Prelude.{ℕ, List, [], ◌∷◌, map, Option}
use Rattle.grin_syntax.specs.declared.program.VarId.{VarId}
use Rattle.grin_syntax.specs.declared.program.ProcId.{ProcId}
use Rattle.grin_syntax.specs.declared.program.PrimOp.{PrimOp}
use Rattle.grin_syntax.specs.declared.program.Word.{Word}
use Rattle.grin_syntax.specs.declared.program.Val.{Val}
use Rattle.grin_syntax.specs.declared.program.Target.{Target}
use Rattle.grin_syntax.specs.declared.program.Shape.{Shape}
use Rattle.grin_syntax.specs.declared.program.Cell.{Cell}
use Rattle.grin_syntax.specs.declared.program.Tag.{Tag}
use Rattle.grin_syntax.specs.declared.program.GlobalCell.{GlobalCell}
use Rattle.grin_syntax.specs.declared.program.Proc.{Proc}
use Rattle.grin_syntax.specs.declared.program.Grin.{Grin}
use Rattle.grin_syntax.specs.declared.program.Op.{Op}
use Rattle.grin_syntax.specs.declared.program.Stmt.{Stmt}
use Rattle.grin_syntax.specs.declared.program.Alt.{Alt}
use Rattle.grin_syntax.specs.declared.program.Block.{Block}
use Rattle.grin_syntax.specs.declared.program.Op.TheOpen.{Op-F, Stmt-F, Alt-F, Block-F, Unit as Unit', Fetch, FetchWord, Update, Eval, Apply, Call, Prim, Read, Write, Case, Nested, Fail, Store, Bind}
use Rattle.grin_syntax.specs.declared.program.Op.TheFolds.{fold-Op, fold-Stmt, fold-Alt, fold-Block}

-- an operation without a block
pub data Leaf : Type 0 where
  unit : Val → Leaf
  fetch : Word → Leaf
  fetch_word : Word → ℕ → Leaf
  update : Word → Val → Leaf
  eval : Word → Leaf
  apply : Val → Word → Leaf
  call : ProcId → List Word → Leaf
  prim : PrimOp → Word → Word → Leaf
  read : Leaf
  write : Word → Leaf
  fail : Leaf

mutual
  -- a block
  pub data Code : Type 0 where
    end : Act → Code
    store : List Cell → Code → Code
    bind : Target → Act → Code → Code

  -- an operation: one without a block, a case, or a block in the place of an operation
  pub data Act : Type 0 where
    leaf : Leaf → Act
    case : Val → Arms → Act
    nested : Code → Act

  -- the alternatives of a case
  pub data Arms : Type 0 where
    no_arm : Arms
    arm : Shape → Code → Arms → Arms

-- statements before a block
abbrev pub all_before : List (Code → Code) → Code → Code
all_before [] c = c
all_before (s ∷ ss) c = s (all_before ss c)

abbrev pub arms_of : List (Shape × Code) → Arms
arms_of [] = no_arm
arms_of (a ∷ as') = arm a.0 a.1 (arms_of as')

-- one level of a program, where what stands below is a tree already
abbrev pub act_step : Op-F Act (Code → Code) (Shape × Code) Code → Act
act_step (Unit' v) = leaf (unit v)
act_step (Fetch w) = leaf (fetch w)
act_step (FetchWord w i) = leaf (fetch_word w i)
act_step (Update w v) = leaf (update w v)
act_step (Eval w) = leaf (eval w)
act_step (Apply v w) = leaf (apply v w)
act_step (Call f ws) = leaf (call f ws)
act_step (Prim p a b) = leaf (prim p a b)
act_step Read = leaf read
act_step (Write w) = leaf (write w)
act_step (Case v alts) = case v (arms_of alts)
act_step (Nested b) = nested b.value
act_step Fail = leaf fail

abbrev pub stmt_step : Stmt-F Act (Code → Code) (Shape × Code) Code → Code → Code
stmt_step (Store cells) = store cells
stmt_step (Bind target op) = bind target op

abbrev pub alt_step : Alt-F Act (Code → Code) (Shape × Code) Code → Shape × Code
alt_step a = (a.pattern, a.body)

abbrev pub block_step : Block-F Act (Code → Code) (Shape × Code) Code → Code
block_step b = all_before b.stmts (end b.last.value)

-- the tree of an operation, a statement, an alternative and a block
unfoldable pub act_of : Op → Act
act_of = fold-Op Act (Code → Code) (Shape × Code) Code act_step stmt_step alt_step block_step

unfoldable pub before_of : Stmt → Code → Code
before_of = fold-Stmt Act (Code → Code) (Shape × Code) Code act_step stmt_step alt_step block_step

unfoldable pub arm_of : Alt → Shape × Code
arm_of = fold-Alt Act (Code → Code) (Shape × Code) Code act_step stmt_step alt_step block_step

unfoldable pub code_of : Block → Code
code_of = fold-Block Act (Code → Code) (Shape × Code) Code act_step stmt_step alt_step block_step

-- a procedure
pub record Procedure : Type 0 where
  pub name : List ℕ
  pub params : List VarId
  pub body : Code

-- a program
pub record Program : Type 0 where
  pub tags : List Tag
  pub globals : List GlobalCell
  pub procs : List Procedure
  pub start : ProcId
  pub argument : Option ℕ

abbrev pub procedure_of : Proc → Procedure
procedure_of p = record { name = p.name; params = p.params; body = code_of p.body }

abbrev pub program_of : Grin → Program
program_of g = record {
  tags = g.tags;
  globals = g.globals;
  procs = map procedure_of g.procs;
  start = g.start;
  argument = g.argument;
}

-- a block as one operation
abbrev pub as_act : Code → Act
as_act (end o) = o
as_act (store cs b) = nested (store cs b)
as_act (bind t o b) = nested (bind t o b)

-- an operation without a block
abbrev pub IsLeaf : Act → Type 0
IsLeaf (leaf l) = Unit {0}
IsLeaf (case v as') = ⊥
IsLeaf (nested b) = ⊥
