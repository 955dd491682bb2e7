use Rattle.std.proofs.Common.{refl, sym}
use Rattle.flow_system.specs.Shown.{tables_of, inclusions_of, inclusion_of}
use Rattle.points_to.specs.Kept.{IsSound}
use Rattle.points_to.specs.Stored.{stored_at, PutsAtSite}
use Rattle.points_to.proofs.Sets.{on_ok}
use Rattle.points_to.proofs.StoredSound.{put_sound}
use Rattle.seq.proofs.Lists.{map_get}
use Rattle.points_to.proofs.kept.Kept.store.Goals as goal

pub returns-then-puts_at : goal.returns-then-puts_at
returns-then-puts_at c =
    let p = tables_of c.args.system.now in
    let cs = inclusions_of c.args.system.now in
    let before = c.args.self.now in
    let after = record before { stored = c.add.new.self } in
    on_ok c.add.result
    (PutsAtSite (stored_at before.stored) (stored_at after.stored) c.args.site c.args.n)
    (IsSound p cs before → IsSound p cs after)
    (λ st. put_sound p cs before after c.args.n c.args.site (inclusion_of c.in-Some.inclusion.now)
    (map_get inclusion_of c.args.system.now.inclusions c.args.n c.in-Some.inclusion.now
    (sym c.in-Some.ensures.value)) (c.puts_at.ensures c.if-puts_at.true) refl st)
    c.add.ensures.stores
