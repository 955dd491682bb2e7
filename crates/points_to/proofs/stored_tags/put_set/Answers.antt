use Rattle.std.proofs.Common.{ap, subst}
use Rattle.std.specs.Prelude.{OnOk}
use Rattle.std.specs.List.{flat_map}
use Rattle.points_to.specs.Bits.{block_words}
use Rattle.points_to.specs.Rows.{words_in, GainsMembers}
use Rattle.points_to.proofs.stored_tags.put_set.Goals as goal

pub returns : goal.returns
returns c =
    subst (λ us. OnOk c.put_words.result
    (GainsMembers (words_in c.args.set.now) (words_in c.put_words.new.set) us))
    (ap (flat_map block_words) c.as_slice.ensures.value) c.put_words.ensures
