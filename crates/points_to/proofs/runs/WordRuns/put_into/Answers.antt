use Rattle.std.proofs.Common.{sym, ap, ◌∙◌, subst}
use Rattle.std.specs.List.{flat_map}
use Rattle.points_to.specs.Bits.{block_numbers, block_words}
use Rattle.points_to.specs.Rows.{numbers_in, words_in, GainsMembers}
use Rattle.points_to.proofs.Rows.{gets_words, words_are}
use Rattle.points_to.proofs.Sets.{on_ok}
use Rattle.points_to.proofs.runs.WordRuns.put_into.Goals as goal

pub returns : goal.returns
returns c =
    let old = c.args.set.now in
    let new = c.add_all.new.self in
    let blocks = c.as_slice.result.now in
    on_ok c.add_all.result
    (GainsMembers (numbers_in old) (numbers_in new) (flat_map block_numbers blocks))
    (GainsMembers (words_in old) (words_in new) c.args.self.now)
    (λ g. subst (GainsMembers (words_in old) (words_in new))
    (sym (words_are blocks) ∙ ap (flat_map block_words) c.as_slice.ensures.value ∙
    c.self.view_is)
    (gets_words old.blocks.items new.blocks.items (flat_map block_numbers blocks) g))
    c.add_all.ensures
