use Rattle.std.proofs.Common.{refl}
use Rattle.elf32.proofs.Overlaps.{earlier}
use Rattle.elf32.proofs.overlap.overlaps_earlier.Goals as goal

pub returns : goal.returns
returns c = let k = c.if-not-has_addresses.ensures.0 refl
    in earlier _ _ _ c.ends_after.result c.requires.tracks k.0 k.1 c.ends_after.ensures.hit
    c.ends_after.ensures.miss
