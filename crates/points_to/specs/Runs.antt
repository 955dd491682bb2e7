-- Items and facts in runs: the words of one block, in one part.
use Rattle.std.specs.Prelude.{List}
use Rattle.points_to.specs.declared.facts.Item.{Item}
use Rattle.points_to.specs.declared.facts.Fact.{Fact}
use Rattle.points_to.specs.declared.runs.ItemRun.{ItemRun}
use Rattle.points_to.specs.declared.runs.FactRun.{FactRun}
use Rattle.points_to.specs.Held.{in_part}
use Rattle.points_to.specs.Asked.{facts_at}
use Rattle.points_to.specs.Bits.{block_words}

abbrev pub items_of_item_run : ItemRun → List Item
items_of_item_run r = in_part r.part (block_words r.block)

abbrev pub facts_of_run : FactRun → List Fact
facts_of_run r = facts_at r.place (items_of_item_run r.items)
