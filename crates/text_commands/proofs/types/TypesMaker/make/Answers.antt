use Rattle.std.proofs.Common.{refl, ap, ◌∙◌}
use Rattle.core_print.specs.Canonical.{canonical}
use Rattle.core_types.specs.Source.{erased}
use Rattle.core_types.specs.Rules.{IsUnbroken}
use Rattle.core_types.proofs.Checked.{core_unbroken}
use Rattle.text_commands.proofs.types.TypesMaker.make.Goals as goal

pub returns-in-Ok-print-clause-made : goal.returns-in-Ok-print-clause-made
returns-in-Ok-print-clause-made c =
    let found = c.in-Ok.ensures.typed in
    let unbroken = c.in-Ok.ensures.unbroken in
    let fits : IsUnbroken found.source = unbroken.1 found.source found.is_text in
    let formed = c.normal_form_exists.ensures (erased found.source) found.readable
    (core_unbroken found.source (erased found.source) refl fits) in
    record {
      source = found.source;
      unbroken = unbroken;
      stands = found.is_text;
      readable = found.readable;
      is_canonical = c.in-Ok-print.ensures ∙ ap canonical found.core;
      program = formed.0;
      normal = formed.1;
      never_stuck = c.typed_are_never_stuck.ensures found.source formed.0 found.solution
          found.readable fits found.solves formed.1;
    }

pub returns-in-Err-clause-refused : goal.returns-in-Err-clause-refused
returns-in-Err-clause-refused c = c.type_failure_status.ensures.first c.args.text.now
    c.in-Err.ensures.refused
