use Rattle.std.proofs.Common.{rules}
use Rattle.low_code.specs.Tree.{program_of}
use Rattle.rv32_select.specs.IsSelected.{source}
use Rattle.rv32_select.proofs.Sending.{all_made, are_sources}
use Rattle.rv32_select.proofs.context.Context.sources.Goals as goal

pub returns : goal.returns
returns c =
    let e = all_made (source (program_of c.args.self.now.low.now) c.args.self.now.places.now)
    c.loop-operand.sources.items c.args.operands.now c.loop-operand.operand-index
    c.loop-operand.invariant.made (search rules) in (
      e,
      are_sources (program_of c.args.self.now.low.now) c.args.self.now.places.now _ _ e
          c.requires,
    )
