-- The words that are left complete what the whole line says.
use Rattle.std.proofs.Common.{◌≡◌, map, string_bytes, drop}
use Rattle.std.specs.Option.{option_and_then}
use Rattle.command_line.specs.Parts.{parts_of}
use Rattle.command_line.specs.Walk.{no_options, gathered, walk_seen}
use Rattle.command_line.proofs.Walks.{finished}
use Rattle.command_line.proofs.arguments.Arguments.read.Given as goal

abbrev pub invariant-loop-word : goal.invariant-loop-word
invariant-loop-word l = finished (walk_seen l.walk) (map string_bytes (drop l.word-index l.words)) ≡
    option_and_then (gathered no_options) (parts_of (map string_bytes l.words))
