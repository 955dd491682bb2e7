use Rattle.std.proofs.Common.{refl}
use Rattle.std.specs.List.{flat_map}
use Rattle.points_to.specs.Bits.{block_words}
use Rattle.points_to.proofs.CopiesSound.{set_gets, words_more}
use Rattle.points_to.proofs.copies.put_words.Goals as goal

pub returns-clause-sound : goal.returns-clause-sound
returns-clause-sound c =
    let old = c.args.fetched.now in
    let new = record old { words = c.gain_all.new.self } in
    λ p cs are k. words_more p cs old new (flat_map block_words c.args.blocks.now) refl refl
    (set_gets old.words new.words c.args.blocks.now c.in_ok-gain_all.ensures) are k
