use Rattle.std.proofs.Common.{sym, ap, subst}
use Rattle.std.specs.List.{flat_map}
use Rattle.std.specs.Option.{option_copied}
use Rattle.flow_system.specs.Shown.{tables_of, inclusions_of}
use Rattle.points_to.specs.Bits.{block_words}
use Rattle.points_to.specs.Held.{In}
use Rattle.points_to.specs.Known.{held}
use Rattle.points_to.specs.Rows.{numbers_in}
use Rattle.points_to.specs.Kept.{AreWords, AreKnown}
use Rattle.points_to.proofs.vectors.are_known.Goals as goal

pub returns-in-Some : goal.returns-in-Some
returns-in-Some c =
    let p = tables_of c.args.system.now in
    let cs = inclusions_of c.args.system.now in
    let H = held c.args.facts.now in
    let ns = numbers_in c.args.numbers.now in
    λ t known u h.
    let its : AreWords p cs H c.args.i ns c.in-Some.words.now
    = subst (AreKnown p cs H c.args.i ns) (ap option_copied c.in-Some.is) known in
    subst (In u) c.word_blocks.ensures
    (c.are_within.ensures t u
    (subst (λ bs. In u (flat_map block_words bs)) (sym c.as_slice.ensures.value)
    (its.back u h)))
