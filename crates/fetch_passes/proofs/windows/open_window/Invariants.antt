use Rattle.grin_syntax.specs.Tree.{act_of, end}
use Rattle.fetch_passes.specs.Asked.{FetchesSkipped}
use Rattle.fetch_passes.proofs.Firsts.{code_from}
use Rattle.fetch_passes.proofs.windows.open_window.Given as goal

abbrev pub invariant-loop-stmt : goal.invariant-loop-stmt
invariant-loop-stmt l = FetchesSkipped l.notes l.tag.0 (code_from l.stmts 0 (end (act_of l.last)))
    l.span l.now (code_from l.stmts l.stmt-index (end (act_of l.last)))
