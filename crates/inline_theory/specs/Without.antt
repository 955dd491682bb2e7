-- Programs without evaluations.
use Rattle.grin_syntax.specs.Tree.{Act, leaf, eval, Program}
use Rattle.grin_meaning.specs.Ready.{PieceKind, any_kind, EveryBodyIsOfKind}

abbrev pub NotEval : Act → Type 0
NotEval (leaf (eval w)) = ⊥
NotEval _ = Unit {0}

abbrev pub no_eval_kind : PieceKind
no_eval_kind = record any_kind { operation = NotEval }

-- no evaluation is left
abbrev pub HasNoEval : Program → Type 0
HasNoEval p = EveryBodyIsOfKind no_eval_kind p.procs
