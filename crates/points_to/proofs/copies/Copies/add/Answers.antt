use Rattle.std.proofs.Common.{refl}
use Rattle.points_to.proofs.CopiesSound.{no_words, one_more}
use Rattle.points_to.proofs.copies.Copies.add.Goals as goal

pub returns : goal.returns
returns c =
    let before = c.args.self.now in
    let after = record before { fetches = c.push.new.self } in
    λ p cs k. one_more p cs before after _ refl c.in_ok-push.ensures.items
    (no_words c.new.result c.new.ensures) c.new-2.ensures k
