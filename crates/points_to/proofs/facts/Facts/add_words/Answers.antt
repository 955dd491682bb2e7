use Rattle.std.proofs.Common.{refl}
use Rattle.std.specs.List.{flat_map}
use Rattle.flow_system.specs.declared.fact.Place.TheVariants.{Var}
use Rattle.flow_system.specs.declared.fact.Part.TheVariants.{Word}
use Rattle.points_to.specs.Asked.{facts_at}
use Rattle.points_to.specs.Bits.{block_words}
use Rattle.points_to.specs.Held.{in_part}
use Rattle.points_to.specs.Known.{items_at, held, PutsItems, GrowsByFacts}
use Rattle.points_to.proofs.Sets.{on_ok, var_put}
use Rattle.points_to.proofs.facts.Facts.add_words.Goals as goal

pub returns : goal.returns
returns c =
    let before = c.args.self.now in
    let after = record before { vars = c.gain.new.sets } in
    let x = c.args.var in
    let is = in_part (Word 0) (flat_map block_words c.args.blocks.now) in
    on_ok c.gain.result
    (PutsItems (items_at before.vars.items) (items_at after.vars.items) x is)
    (GrowsByFacts (held before) (held after) (facts_at (Var x) is))
    (var_put before after x is refl refl) c.gain.ensures
