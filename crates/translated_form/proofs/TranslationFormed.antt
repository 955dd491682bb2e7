-- The translation of a valid program is formed and started.
use Rattle.arity_check.specs.Accepted.{IsValid}
use Rattle.arity_check.specs.Program.{Program}
use Rattle.arity_check.specs.Numbered.{NewBindingsAreNumbered}
use Rattle.grin_syntax.specs.Formed.{Formed}
use Rattle.flow_system.specs.Covers.{CanBeStarted}
use Rattle.flow_system.proofs.Starting.{formed_is_started}
use Rattle.grin_translate.specs.Translation.{tr}
use Rattle.grin_translate.specs.WellFormed.{WellFormed}
use Rattle.translated_form.proofs.Limits.{valid_is_well_formed}
use Rattle.translated_form.proofs.Bodies.{procedures_formed}
use Rattle.translated_form.proofs.Parts.{tags_formed}
use Rattle.translated_form.proofs.Tables.{globals_formed, number_formed, start_formed, argument_formed}
use Rattle.translated_form.proofs.UniquePrograms.{variables_once, sites_once}

pub valid_is_formed : NewBindingsAreNumbered → (p : Program) → IsValid p → Formed (tr p)
valid_is_formed numbered p valid =
    let ok : WellFormed p = valid_is_well_formed p valid in
    record {
      variables_once = variables_once numbered p valid;
      sites_once = sites_once numbered p valid;
      procedures = procedures_formed p ok;
      globals = globals_formed p;
      tags = tags_formed p;
      number_tag = number_formed p;
      start = start_formed p;
      argument = argument_formed p ok;
    }

pub valid_is_started : NewBindingsAreNumbered → (p : Program) → IsValid p → CanBeStarted (tr p)
valid_is_started numbered p valid = formed_is_started (tr p) (valid_is_formed numbered p valid)
