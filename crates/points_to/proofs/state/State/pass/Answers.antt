use Rattle.std.proofs.Common.{subst}
use Rattle.std.specs.List.{flat_map}
use Rattle.points_to.specs.Bits.{block_words}
use Rattle.points_to.specs.Held.{In}
use Rattle.points_to.proofs.CopiesSound.{known_words}
use Rattle.points_to.proofs.state.State.pass.Goals as goal

pub returns : goal.returns
returns c =
    let k = c.args.self.now.kept in
    λ p cs reached. record {
      kept = reached.kept;
      copies = c.in_ok-pass.ensures p cs
          (λ B m u h. known_words p cs k c.args.x (flat_map block_words c.word_blocks.result.now)
          reached.kept c.word_blocks.ensures B m u
          (c.in_ok-take.ensures u (subst (In u) c.blocks-2.ensures h)))
          reached.copies;
    }
