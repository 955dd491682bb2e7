-- What the steps of the translation have done: the statements that are put behind others, the
-- numbers that are taken, and that the numbers in the text have 32 bits.
use Rattle.std.specs.Prelude.{◌≡◌, ℕ, ◌+◌, List, map, length}
use Rattle.grin_syntax.specs.Tree as grin
use Rattle.grin_syntax.specs.Tree.{Act, Arms}
use Rattle.low_code.specs.declared.program.LowStmt.{LowStmt}
use Rattle.low_code.specs.declared.program.Operand.{Operand}
use Rattle.low_code.specs.Tree.{Code, choose, all_before, before_of, Procedure}
use Rattle.low_translate.specs.declared.blocks.Goal.{Goal}
use Rattle.low_translate.specs.Translation.{plain_numbers, plain_end_numbers, through_numbers, act_numbers, end_numbers, code_numbers, arms_numbers, plain_code, plain_end, through, act_code, end_code, code_code, arms_code, procedure_code, procedure_numbers}
use Rattle.low_translate.specs.Lowered.{PlainRanged, ActRanged, CodeRanged, ArmsRanged}

-- statements before a block
abbrev pub emitted : List LowStmt → Code → Code
emitted made c = all_before (map before_of made) c

-- `new` is `old` with more behind it, which is what f puts before a block
pub record AppendsBefore (old new : List LowStmt) (f : Code → Code) : Type 0 where
  pub by : (c : Code) → emitted new c ≡ emitted old (f c)

-- `new` and then e are `old` and then c
pub record Ends (old new : List LowStmt) (c e : Code) : Type 0 where
  pub by : emitted new e ≡ emitted old c

module _ (width : ℕ) (results : List ℕ) (n next : ℕ) where
  -- an operation, its words in variables
  pub record PlainDone (xs : List ℕ) (o : Act) (old new : List LowStmt) : Type 0 where
    pub is : AppendsBefore old new (plain_code width results xs n o)
    pub numbers : next ≡ n + plain_numbers width results (length xs) o
    pub ranged : PlainRanged o

  pub record ActDone (xs : List ℕ) (o : Act) (old new : List LowStmt) : Type 0 where
    pub is : AppendsBefore old new (act_code width results xs n o)
    pub numbers : next ≡ n + act_numbers width results (length xs) o
    pub ranged : ActRanged o

  -- an operation at the end of a block, which then ends as e
  pub record ThroughDone (goal : Goal) (o : Act) (old new : List LowStmt) (e : Code) : Type 0 where
    pub is : Ends old new (through width results goal n o) e
    pub numbers : next ≡ n + through_numbers width results goal o
    pub ranged : PlainRanged o

  pub record PlainEndDone (goal : Goal) (o : Act) (old new : List LowStmt) (e : Code) : Type 0 where
    pub is : Ends old new (plain_end width results goal n o) e
    pub numbers : next ≡ n + plain_end_numbers width results goal o
    pub ranged : PlainRanged o

  pub record EndDone (goal : Goal) (o : Act) (old new : List LowStmt) (e : Code) : Type 0 where
    pub is : Ends old new (end_code width results goal n o) e
    pub numbers : next ≡ n + end_numbers width results goal o
    pub ranged : ActRanged o

  -- a block, which ends as e
  pub record BlockDone (goal : Goal) (b : grin.Code) (old new : List LowStmt) (e : Code)
      : Type 0 where
    pub is : Ends old new (code_code width results goal n b) e
    pub numbers : next ≡ n + code_numbers width results goal b
    pub ranged : CodeRanged b

  -- a statement, before every block
  pub record StmtDone (s : grin.Code → grin.Code) (old new : List LowStmt) : Type 0 where
    pub is : (goal : Goal) (b : grin.Code)
        → Ends old new (code_code width results goal n (s b)) (code_code width results goal next b)
    pub numbers : (goal : Goal) (b : grin.Code)
        → next + code_numbers width results goal b ≡ n + code_numbers width results goal (s b)
    pub ranged : (b : grin.Code) → CodeRanged b → CodeRanged (s b)

  -- the alternatives of a case on these words
  pub record ArmsDone (goal : Goal) (words : List Operand) (as' : Arms) (e : Code) : Type 0 where
    pub is : e ≡ choose (arms_code width results goal n words as')
    pub numbers : next ≡ n + arms_numbers width results goal as'
    pub ranged : ArmsRanged as'

  -- a procedure that gives r words
  pub record ProcedureDone (r : ℕ) (q : grin.Procedure) (made : Procedure) : Type 0 where
    pub is : made ≡ procedure_code width results n r q
    pub numbers : next ≡ n + procedure_numbers width results r q
    pub ranged : CodeRanged q.body
