-- Programs in which no part of a node stands by itself: there is no vector, and no unit or fetch
-- gives a word.
use Rattle.grin_syntax.specs.declared.program.Val.{Val}
use Rattle.grin_syntax.specs.declared.program.Val.TheVariants.{Vector, One}
use Rattle.grin_syntax.specs.declared.program.Target.{Target}
use Rattle.grin_syntax.specs.declared.program.Target.TheVariants as to
use Rattle.grin_syntax.specs.Tree.{Act, leaf, unit, fetch_word, Program}
use Rattle.grin_meaning.specs.Ready.{PieceKind, any_kind, EveryBodyIsOfKind}

abbrev pub NoVector : Val → Type 0
NoVector (Vector ws) = ⊥
NoVector _ = Unit {0}

abbrev pub NoVectorTarget : Target → Type 0
NoVectorTarget (to.Vector xs) = ⊥
NoVectorTarget _ = Unit {0}

abbrev pub NoWord : Val → Type 0
NoWord (One w) = ⊥
NoWord _ = Unit {0}

abbrev pub GivesNodes : Act → Type 0
GivesNodes (leaf (unit v)) = NoWord v
GivesNodes (leaf (fetch_word a i)) = ⊥
GivesNodes _ = Unit {0}

abbrev pub whole_node_kind : PieceKind
whole_node_kind = record any_kind {
  operation = GivesNodes;
  target = NoVectorTarget;
  value = NoVector;
}

abbrev pub UsesWholeNodes : Program → Type 0
UsesWholeNodes g = EveryBodyIsOfKind whole_node_kind g.procs
