-- A block in the place of its value: what it ends in is bound, and the other block goes on.
use Rattle.grin_syntax.specs.declared.program.Target.{Target}
use Rattle.grin_syntax.specs.Tree.{Code, end, store, bind}

unfoldable pub spliced : Code → Target → Code → Code
spliced (end o) t b = bind t o b
spliced (store cs c) t b = store cs (spliced c t b)
spliced (bind u o c) t b = bind u o (spliced c t b)
