use Rattle.std.proofs.Common.{refl, false}
use Rattle.std.specs.Prelude.{IsTrue}
use Rattle.elf32.proofs.Overlaps.{passed, added, other_key}
use Rattle.elf32.proofs.overlap.track.Goals as goal

pub returns-in_ok-insert : goal.returns-in_ok-insert
returns-in_ok-insert c =
    let k = c.if-has_addresses.ensures.0 refl in
    let u = c.in_ok-insert.ensures.updates in
    added _ _ _ _ c.requires.tracks k.0 k.1 c.requires.apart u.1
    (λ q other. u.2 q (other_key _ q other))

pub returns-else-has_addresses : goal.returns-else-has_addresses
returns-else-has_addresses c = passed _ _ _ c.requires.tracks
    (λ load some. let e : IsTrue false = c.if-has_addresses.ensures.1 (load, some) in cc)
