use Rattle.std.proofs.Common.{refl, subst}
use Rattle.std.specs.List.{flat_map}
use Rattle.points_to.specs.Bits.{block_words}
use Rattle.points_to.specs.Held.{In}
use Rattle.points_to.proofs.CopiesSound.{delivered_sound}
use Rattle.points_to.proofs.state.State.deliver.Goals as goal

pub returns : goal.returns
returns c =
    let before = c.args.self.now in
    let kept = record before.kept { facts = c.deliver.new.facts } in
    λ p cs reached. record {
      kept = delivered_sound p cs before.kept kept before.copies c.args.g
          (flat_map block_words c.blocks-2.result.now) refl c.in_ok-deliver.ensures
          (λ u h. subst (In u) c.words.ensures
          (c.in_ok-take.ensures u (subst (In u) c.blocks-2.ensures h)))
          reached.copies reached.kept;
      copies = reached.copies;
    }
