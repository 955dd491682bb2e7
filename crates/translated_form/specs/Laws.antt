-- What is known of the translation of each valid program.
use Rattle.std.specs.Prelude.{◌+◌, ◌≤◌, length}
use Rattle.arity_check.specs.Accepted.{IsValid}
use Rattle.arity_check.specs.Program as core
use Rattle.grin_syntax.specs.Tree.{Program}
use Rattle.grin_syntax.specs.Formed.{AllOf, Formed}
use Rattle.grin_meaning.specs.Ready.{most_fields, most_value_fields}
use Rattle.flow_system.specs.Covers.{CanBeStarted}
use Rattle.grin_translate.specs.Translation.{tr}

-- each variable is bound once and before its uses, each site stands once, and what is named is
-- there
abbrev pub ValidTranslationsAreFormed : Type 0
ValidTranslationsAreFormed = (p : core.Program) → IsValid p → Formed (tr p)

-- global cells have no fields, and the argument of the start is one of them
abbrev pub ValidTranslationsCanStart : Type 0
ValidTranslationsCanStart = (p : core.Program) → IsValid p → CanBeStarted (tr p)

-- procedures with few parameters, and tags with few fields; beside the fields of a value there is
-- room for its tag
pub record HasFewWords (g : Program) : Type 0 where
  pub few_params : AllOf (λ q. length q.params ≤ 13) g.procs
  pub few_fields : most_fields g.tags ≤ 13
  pub few_value_fields : 1 + most_value_fields g.tags ≤ 13

abbrev pub ValidTranslationsHaveFewWords : Type 0
ValidTranslationsHaveFewWords = (p : core.Program) → IsValid p → HasFewWords (tr p)
