-- The words that are left complete what the whole line names.
use Rattle.std.proofs.Common.{◌≡◌, map, string_bytes, take, drop}
use Rattle.std.specs.Option.{option_and_then}
use Rattle.command_line.specs.Parts.{parts_of}
use Rattle.command_line.specs.Commands.{operands_alone}
use Rattle.command_line.proofs.Links.{files_from}
use Rattle.command_line.proofs.files.FileOperands.read.Given as goal

abbrev pub invariant-loop-word : goal.invariant-loop-word
invariant-loop-word l = record {
  counted : l.count ≡ l.word-index;
  said : files_from (map string_bytes (take l.word-index l.words))
      (map string_bytes (drop l.word-index l.words)) ≡ option_and_then operands_alone
      (parts_of (map string_bytes l.words));
}
