use Rattle.std.proofs.Common.{◌++◌, ap, ◌∙◌}
use Rattle.grin_syntax.specs.Tree.{code_of}
use Rattle.pass_cells.specs.Shown.{code_shown}
use Rattle.pass_cells.proofs.Rewriting.{body_remembered}
use Rattle.pass_cells.proofs.pass.body.Goals as goal

pub returns : goal.returns
returns c = body_remembered c.in_ok-body.body c.args.block c.in_ok-shown.shown.keys
    c.as_slice.result.now c.new-entries.result c.in_ok-body.ensures.is c.new-entries.ensures
    c.in_ok-shown.ensures
    (c.as_slice.ensures ∙ c.in_ok-block_shown.ensures ∙ ap
    (λ l. l ++ code_shown (code_of c.args.block)) c.new-words.ensures)
