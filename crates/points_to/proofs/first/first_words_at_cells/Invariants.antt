use Rattle.std.proofs.Common.{◌≡◌, ◌++◌, take}
use Rattle.std.specs.List.{flat_map}
use Rattle.flow_system.specs.declared.fact.Part.TheVariants.{Word as word}
use Rattle.points_to.specs.Known.{held}
use Rattle.points_to.specs.Held.{words_in_part, cell_items}
use Rattle.points_to.proofs.first.first_words_at_cells.Given as goal

abbrev pub invariant-loop-word : goal.invariant-loop-word
invariant-loop-word l = l.out ≡ l.initial.out ++ flat_map
    (λ w. words_in_part (word 0) (cell_items (held l.facts) w)) (take l.word-index l.words)
