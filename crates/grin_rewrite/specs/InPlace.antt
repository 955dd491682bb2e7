-- What stands in place of an operation, by a rule with fresh variables.
use Rattle.std.specs.Prelude.{◌≡◌, ℕ, List, map}
use Rattle.grin_syntax.specs.declared.program.Target.{Target}
use Rattle.grin_syntax.specs.declared.program.Stmt.{Stmt}
use Rattle.grin_syntax.specs.Tree.{Code, end, bind, Act, before_of, all_before}
use Rattle.grin_rewrite.specs.Counted.{bound_before, CountedRule, before_act, counted_act}

-- the statements that are there, and then an operation, do what the statements before them did, and
-- then this one with fresh variables from x on
pub record InPlace (R : CountedRule) (x : ℕ) (o : Act) (before after : List Stmt)
    (made : Act) : Type 0 where
  pub bound : (t : Target) (b : Code)
      → all_before (map before_of after) (bind t made b)
      ≡ all_before (map before_of before)
      (bound_before (before_act R x o) (bind t (counted_act R x o) b))
  pub ended : all_before (map before_of after) (end made)
      ≡ all_before (map before_of before)
      (bound_before (before_act R x o) (end (counted_act R x o)))
