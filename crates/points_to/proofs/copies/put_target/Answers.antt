use Rattle.std.proofs.Common.{◌≡◌, ◌++◌, ◌∷◌, [], List, refl}
use Rattle.flow_system.specs.Inclusions.{Inclusion}
use Rattle.flow_system.specs.Tables.{Tables}
use Rattle.points_to.specs.Copies.{GoesTo, IsFetched}
use Rattle.points_to.proofs.Sets.{on_ok}
use Rattle.points_to.proofs.CopiesSound.{target_more}
use Rattle.points_to.proofs.copies.put_target.Goals as goal

pub returns-then-same_fetch-clause-sound : goal.returns-then-same_fetch-clause-sound
returns-then-same_fetch-clause-sound c =
    let old = c.args.fetched.now in
    let new = record old { targets = c.push.new.self } in
    on_ok c.push.result (c.push.new.self ≡ old.targets ++ c.args.x.0 ∷ [])
    ((p : Tables) (cs : List Inclusion) → GoesTo p cs c.args.fetch c.args.x.0
    → IsFetched p cs old → IsFetched p cs new)
    (λ e p cs goes k. target_more p cs old new c.args.fetch c.args.x.0 refl refl e
    (c.same_fetch.ensures c.if-same_fetch.true) goes k) c.push.ensures.ok
