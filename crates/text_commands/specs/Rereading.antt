-- What a canonical text that was written means where it is read again.
use Rattle.core_reader.specs.Tree.{Program}
use Rattle.core_reader.specs.Text.{IsText, IsUnbroken}
use Rattle.core_reader.specs.Readable.{IsReadable}
use Rattle.core_print.specs.Canonical.{canonical}
use Rattle.core_link.specs.Laws.{KeepsMeaning}

-- Let a canonical text break no rule on reading. Where the program that is read breaks no rule
-- either, the one that was written breaks none, and both put out the same on each input, within as
-- many units.
abbrev pub CanonicalTextKeepsMeaning : Type 0
CanonicalTextKeepsMeaning =
    (written read : Program) → IsReadable written → IsUnbroken (canonical written)
    → IsText (canonical written) read → KeepsMeaning read written
