-- What follows a block: nothing, or a target that takes what it gives, and another block.
use Rattle.grin_syntax.specs.declared.program.Target.{Target}
use Rattle.grin_syntax.specs.Tree.{Code}
use Rattle.grin_meaning.specs.Spliced.{spliced}

pub data Rest : Type 0 where
  nothing : Rest
  to : Target → Code → Rest

abbrev pub with_continuation : Rest → Code → Code
with_continuation nothing c = c
with_continuation (to t k) c = spliced c t k
