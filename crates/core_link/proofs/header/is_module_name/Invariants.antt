use Rattle.std.proofs.Common.{◌≡◌, drop}
use Rattle.std.specs.List.{list_all}
use Rattle.core_link.specs.Module.{is_alphanumeric}
use Rattle.core_link.proofs.header.is_module_name.Given as goal

abbrev pub invariant-loop-b : goal.invariant-loop-b
invariant-loop-b l = list_all is_alphanumeric (drop l.b-index l.name) ≡ list_all is_alphanumeric
    l.name
