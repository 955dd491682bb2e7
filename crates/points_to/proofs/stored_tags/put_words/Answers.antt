use Rattle.std.proofs.Common.{sym, subst, inl}
use Rattle.std.specs.List.{flat_map}
use Rattle.points_to.specs.Bits.{block_numbers, block_words}
use Rattle.points_to.specs.Held.{In}
use Rattle.points_to.specs.Rows.{words_in, GainsMembers}
use Rattle.points_to.proofs.Rows.{gets_words, words_are}
use Rattle.points_to.proofs.stored_tags.put_words.Goals as goal

pub returns-then-are_within : goal.returns-then-are_within
returns-then-are_within c = record {
  kept = λ u h. h;
  put = λ u h. subst (λ bs. In u (flat_map block_words bs)) c.as_slice.ensures.value
      (c.are_within.ensures c.if-are_within.true u h);
  only = λ u h. inl h;
}

pub returns : goal.returns
returns c =
    let old = c.args.set.now in
    let new = c.add_all.new.self in
    let blocks = c.args.blocks.now in
    subst (GainsMembers (words_in old) (words_in new)) (sym (words_are blocks))
    (gets_words old.blocks.items new.blocks.items (flat_map block_numbers blocks)
    c.in_ok-add_all.ensures)
