use Rattle.std.proofs.Common.{◌≡◌, ◌++◌, map, drop}
use Rattle.core_link.specs.Union.{local_text}
use Rattle.core_link.proofs.naming.local_texts.Given as goal

abbrev pub invariant-loop-name : goal.invariant-loop-name
invariant-loop-name l = l.texts.items ++ map local_text (drop l.name-index l.names) ≡ map local_text
    l.names
