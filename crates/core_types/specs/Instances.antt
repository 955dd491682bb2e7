-- Types that are written, where terms stand for them.
use Rattle.std.specs.Prelude.{ℕ, List}
use Rattle.core_types.specs.declared.instances.Instance as code-instance
use Rattle.core_types.specs.declared.instances.Instance.TheVariants as code
use Rattle.core_types.specs.declared.nodes.Nodes.{Nodes}
use Rattle.core_types.specs.Typing.{AtUse, Typed, Open, Rigid}
use Rattle.core_types.specs.Nodes.{DenoteEach, ExtendsNodes}

-- what a variable of a written type stands for
abbrev pub variable_of : code-instance.Instance → ℕ → Typed
variable_of (code.Used at) v = Open (AtUse at v)
variable_of (code.Rigid f) v = Rigid f v

-- Terms were added, and those at these places stand for types.
pub record AddsTermsForTypes (n n' : Nodes) (ts : List Typed) (xs : List ℕ) : Type 0 where
  pub grows : ExtendsNodes n n'
  pub each : DenoteEach n' ts xs
