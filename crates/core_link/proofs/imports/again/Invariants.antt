use Rattle.std.proofs.Common.{◌≡◌, drop}
use Rattle.std.specs.Ordering.{nat_cmp}
use Rattle.std.specs.BTreeSet.{contains}
use Rattle.arity_check.specs.Tables.{known}
use Rattle.core_link.specs.Found.{first_repeated_name, with_names_seen, is_declared}
use Rattle.core_link.proofs.imports.again.Given as goal

abbrev pub invariant-loop-name : goal.invariant-loop-name
invariant-loop-name l = record {
  first : first_repeated_name (is_declared (known l.globals)) (contains nat_cmp l.seen) l.first
      (drop l.name-index l.names) ≡ first_repeated_name (is_declared (known l.globals))
      (contains nat_cmp l.fn.seen) l.fn.found l.names;
  seen : with_names_seen (contains nat_cmp l.seen) (drop l.name-index l.names) ≡ with_names_seen
      (contains nat_cmp l.fn.seen) l.names;
}
