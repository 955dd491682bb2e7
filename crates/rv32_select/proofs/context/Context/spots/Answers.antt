use Rattle.std.proofs.Common.{rules}
use Rattle.low_code.specs.Tree.{program_of}
use Rattle.register_alloc.specs.Assignment.{place_of}
use Rattle.rv32_select.proofs.Sending.{all_made, are_spots}
use Rattle.rv32_select.proofs.context.Context.spots.Goals as goal

pub returns : goal.returns
returns c =
    let e = all_made (place_of c.args.self.now.places.now) c.loop-x.spots.items c.args.variables.now
    c.loop-x.x-index c.loop-x.invariant.made (search rules) in
    (e, are_spots (program_of c.args.self.now.low.now) c.args.self.now.places.now _ _ e c.requires)
