use Rattle.std.proofs.Common.{map, ap, ◌∙◌}
use Rattle.low_translate.proofs.Operations.{whole_block, procedure_done}
use Rattle.low_translate.proofs.blocks.LoweringPlan.procedure.Goals as goal

pub returns : goal.returns
returns c = procedure_done c.args.self.now.width c.args.self.now.results.now c.args.numbers.now.next
    _ c.args.count c.args.proc.now c.in_ok-params.params _
    (c.in_ok-params.ensures ∙ ap (map (λ x. x.0)) c.as_slice.ensures)
    (whole_block _ _ _ _ _ _ _ _ c.new-stmts.ensures c.in_ok-last.ensures)
