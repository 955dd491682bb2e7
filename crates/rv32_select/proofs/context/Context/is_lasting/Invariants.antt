use Rattle.std.specs.Prelude.{◌≡◌, drop}
use Rattle.rv32_select.specs.IsSelected.{no_mask_has_x27}
use Rattle.rv32_select.proofs.context.Context.is_lasting.Given as goal

-- the masks from here on tell it
abbrev pub invariant-loop-proc : goal.invariant-loop-proc
invariant-loop-proc l = no_mask_has_x27 (drop l.proc l.self.places.now.masks) ≡ no_mask_has_x27
    l.self.places.now.masks
