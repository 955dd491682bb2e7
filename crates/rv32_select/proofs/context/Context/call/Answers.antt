use Rattle.low_code.specs.Tree.{program_of}
use Rattle.rv32_select.proofs.ResultSpots.{called_by}
use Rattle.rv32_select.proofs.context.Context.call.Goals as goal

pub returns : goal.returns
returns c = called_by (program_of c.args.self.now.low.now) c.args.self.now.places.now
    c.args.frame.saved c.args.proc c.args.site c.args.operands.now c.args.variables.now _ _ _ _ _ _
    _ c.saved-registers.ensures c.in_ok-save_registers.ensures c.in_ok-send_arguments.ensures
    c.in_ok-put.ensures c.in_ok-take_results.ensures c.in_ok-restore_registers.ensures
