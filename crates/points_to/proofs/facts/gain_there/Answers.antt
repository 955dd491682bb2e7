use Rattle.std.proofs.Common.{refl, slice_set}
use Rattle.std.specs.List.{flat_map}
use Rattle.flow_system.specs.declared.fact.Part.TheVariants.{Word}
use Rattle.points_to.specs.Bits.{block_words}
use Rattle.points_to.specs.Held.{in_part}
use Rattle.points_to.specs.Known.{items_at, PutsItems}
use Rattle.points_to.specs.Rows.{GainsMembers}
use Rattle.points_to.proofs.Sets.{on_ok, puts}
use Rattle.points_to.proofs.facts.gain_there.Goals as goal

pub returns : goal.returns
returns c =
    let sets = c.args.sets.now.items in
    let n = c.args.n in
    let old = c.index_mut.result.now in
    let new = c.gain.new.self in
    let is = in_part (Word 0) (flat_map block_words c.args.blocks.now) in
    on_ok c.gain.result (GainsMembers old new is)
    (PutsItems (items_at sets) (items_at (slice_set sets n new)) n is)
    (puts (items_at sets) sets n old new is refl c.requires c.index_mut.ensures.value)
    c.gain.ensures
