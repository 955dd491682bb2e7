-- A program that was written as its canonical text does what the one does that is read of it.
use Rattle.core_reader.specs.Readable.{IsReadable}
use Rattle.core_reader.proofs.Unbroken.{unbroken_is_readable}
use Rattle.core_print.specs.Canonical.{canonical}
use Rattle.core_print.specs.Laws.{CanonicalTextIsOfOneProgram}
use Rattle.core_print.specs.Same.{SameProgram}
use Rattle.arity_check.specs.One.{NormalFormIsUnique}
use Rattle.core_link.proofs.Kept.{same_programs_print_the_same}
use Rattle.core_link.proofs.Turned.{same_turned}
use Rattle.text_commands.specs.Rereading.{CanonicalTextKeepsMeaning}
use Rattle.text_commands.proofs.SameRules.{same_unbroken}

pub canonical_keeps : NormalFormIsUnique → CanonicalTextIsOfOneProgram → CanonicalTextKeepsMeaning
canonical_keeps one stands written read own unbroken is =
    let same : SameProgram written read = stands written read own is in
    let other : IsReadable read = unbroken_is_readable (canonical written) read unbroken is in
    λ ok. (
      same_unbroken read written (same_turned written read same) other own ok,
      λ q d is_q is_d i n. same_programs_print_the_same one written read same own other d q is_d
          is_q i n,
    )
