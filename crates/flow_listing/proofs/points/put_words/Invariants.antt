use Rattle.std.proofs.Common.{◌≡◌, ◌++◌, take}
use Rattle.std.specs.Ordering.{nat_cmp}
use Rattle.std.specs.BTreeMap as tree
use Rattle.grin_syntax.specs.Tree.{program_of}
use Rattle.grin_syntax.specs.Listing.{spaced}
use Rattle.flow_listing.specs.Text.{word_text}
use Rattle.flow_listing.proofs.points.put_words.Given as goal

abbrev pub invariant-loop-word : goal.invariant-loop-word
invariant-loop-word l = l.text ≡ l.initial.text ++ spaced
    (word_text (program_of l.g) (tree.get nat_cmp l.names)) (take l.word-index l.words)
