-- What the tables know.
use Rattle.std.specs.Prelude.{ℕ, Option, Some, None, slice_get}
use Rattle.std.specs.Ordering.{nat_cmp}
use Rattle.std.specs.BTreeMap as tree
use Rattle.arity_check.specs.declared.globals.NameKind.{NameKind}
use Rattle.arity_check.specs.declared.globals.NameKind.TheVariants.{Plain}
use Rattle.arity_check.specs.declared.globals.Globals.{Globals}
use Rattle.arity_check.specs.Known.{Known}

abbrev pub kind_or_plain : Option NameKind → NameKind
kind_or_plain None = Plain
kind_or_plain (Some k) = k

abbrev pub first_of : Option (ℕ × ℕ) → Option ℕ
first_of None = None
first_of (Some q) = Some q.0

abbrev pub second_of : Option (ℕ × ℕ) → Option ℕ
second_of None = None
second_of (Some q) = Some q.1

abbrev pub known : Globals → Known
known g = record {
  kind = λ x. kind_or_plain (slice_get g.kinds.items x);
  function = λ x. tree.get nat_cmp g.functions x;
  fields = λ c. second_of (tree.get nat_cmp g.constructors c);
  number = λ c. first_of (tree.get nat_cmp g.constructors c);
}

abbrev pub or_else : {X : Type 0} → Option X → Option X → Option X
or_else None b = b
or_else (Some x) b = Some x
