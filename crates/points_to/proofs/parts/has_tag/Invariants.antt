use Rattle.std.proofs.Common.{◌≡◌, take}
use Rattle.std.specs.List.{list_any}
use Rattle.points_to.specs.OneTag.{is_tag}
use Rattle.points_to.proofs.parts.has_tag.Given as goal

abbrev pub invariant-loop-word : goal.invariant-loop-word
invariant-loop-word l = l.found ≡ list_any (is_tag l.t) (take l.word-index l.words)
