-- What the walks over a program with types keep.
use Rattle.std.specs.Prelude.{ℕ, Bool, ◌||◌, Option, Some, if◌then◌else◌}
use Rattle.std.specs.Ordering.{nat_cmp}
use Rattle.std.specs.BTreeMap.{get}
use Rattle.std.specs.BTreeSet.{contains}
use Rattle.arity_check.specs.Known.{Known}
use Rattle.core_types.specs.declared.declared.TypeArities as code-params
use Rattle.core_types.specs.declared.declared.Variables as code-variables
use Rattle.core_types.specs.declared.exhaustive.Patterns as code-patterns
use Rattle.core_types.specs.Found.{is_int, CoveredPatterns}

abbrev pub is_known_variable : code-variables.Variables → ℕ → Bool
is_known_variable v n = v.any || contains nat_cmp v.names n

abbrev pub type_arity_by : Known → code-params.TypeArities → ℕ → Option ℕ
type_arity_by k p n = if is_int k n then Some 0 else get nat_cmp p.0 n

abbrev pub covered_patterns : code-patterns.Patterns → CoveredPatterns
covered_patterns p = record {
  constructors = contains nat_cmp p.constructors;
  integers = p.integers;
  default = p.default;
}
