use Rattle.natural_semantics.proofs.by_name.Printed.{program_named, program_needed}
use Rattle.natural_semantics.proofs.sharing_changes_nothing.Goals as goal

pub returns : goal.returns
returns c = λ p valid i out end. (
  program_named p (c.valid_programs_are_well_formed.ensures p valid) i out end,
  program_needed p (c.valid_programs_are_well_formed.ensures p valid) i out end,
)
