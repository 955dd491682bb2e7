use Rattle.std.proofs.Common.{◌≡◌, take}
use Rattle.pass_narrow.specs.Picked.{picked}
use Rattle.pass_narrow.proofs.picked.picked_words.Given as goal

abbrev pub invariant-items : goal.invariant-items
invariant-items l = record
    { at : l.at ≡ l.item-index; some : l.made ≡ picked l.stays (take l.item-index l.items) }
