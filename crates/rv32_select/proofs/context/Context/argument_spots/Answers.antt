use Rattle.std.proofs.Common.{◌∙◌}
use Rattle.rv32_select.proofs.Sending.{params_placed, few_params}
use Rattle.rv32_select.proofs.context.Context.argument_spots.Goals as goal

pub spots-requires : goal.spots-requires
spots-requires c = params_placed _ _ _ _ _ _ (c.args.self.now.writable.0, c.requires)
    c.as_slice.ensures c.as_slice-2.ensures

pub spots_for-requires : goal.spots_for-requires
spots_for-requires c = few_params _ _ _ _ _ _ _ (c.args.self.now.writable.0, c.requires)
    c.as_slice.ensures c.as_slice-2.ensures
    (c.as_slice-3.ensures.value ∙ c.in_ok-places.ensures.0)
