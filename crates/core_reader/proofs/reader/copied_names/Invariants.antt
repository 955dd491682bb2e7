use Rattle.std.proofs.Common.{◌≡◌, ◌++◌, drop}
use Rattle.core_reader.specs.Lexed.{texts_of}
use Rattle.core_reader.proofs.reader.copied_names.Given as goal

abbrev pub invariant-loop-name : goal.invariant-loop-name
invariant-loop-name l = l.entries.items ++ texts_of (drop l.name-index l.name-items) ≡ texts_of
    l.names.keys
