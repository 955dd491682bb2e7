use Rattle.std.proofs.Common.{map, ap, ◌∙◌}
use Rattle.points_to.specs.Bits.{word_of}
use Rattle.points_to.proofs.Rows.{words_are}
use Rattle.points_to.proofs.fetch.Fetched.new.Goals as goal

pub returns : goal.returns
returns c = words_are c.new.result.blocks.items ∙ ap (map word_of) c.new.ensures
