use Rattle.std.proofs.Common.{◌≡◌, length, map}
use Rattle.core_reader.specs.Tree as core
use Rattle.lambda_reader.specs.Code.{term, terms_of, member, group_of, alternative, alts_of}
use Rattle.lambda_lift.specs.Abstractions.{in_terms, in_group, in_alts}
use Rattle.lambda_lift.specs.Lifted.{lift_terms, lift_group, lift_alts}
use Rattle.lambda_lift.specs.Gathered.{program_of_names}
use Rattle.lambda_lift.specs.Growing.{with_lifted_functions}
use Rattle.lambda_lift.proofs.lifted.+lift.Given as goal

abbrev pub invariant-app-loop-arg : goal.invariant-app-loop-arg
invariant-app-loop-arg l = record {
  head : l.head ≡ l.initial.head;
  scope : l.scope ≡ l.fn.scope;
  made : map core.function l.made ≡ with_lifted_functions (program_of_names l.words)
      (map core.function l.initial.made)
      (in_terms (program_of_names l.words) l.fn.scope (terms_of (map term l.yielded)));
  args : core.terms_of (map core.term l.args) ≡ lift_terms (program_of_names l.words) l.fn.scope
      (length l.initial.made) (terms_of (map term l.yielded));
}

abbrev pub invariant-members-loop-bind : goal.invariant-members-loop-bind
invariant-members-loop-bind l = record {
  scope : l.scope ≡ l.fn.scope;
  made : map core.function l.made ≡ with_lifted_functions (program_of_names l.words)
      (map core.function l.fn.made)
      (in_group (program_of_names l.words) l.fn.scope (group_of (map member l.yielded)));
  members : map core.bind l.members ≡ lift_group (program_of_names l.words) l.fn.scope
      (length l.fn.made) (group_of (map member l.yielded));
}

abbrev pub invariant-alternatives-loop-alt : goal.invariant-alternatives-loop-alt
invariant-alternatives-loop-alt l = record {
  scope : l.scope ≡ l.fn.scope;
  made : map core.function l.made ≡ with_lifted_functions (program_of_names l.words)
      (map core.function l.fn.made)
      (in_alts (program_of_names l.words) l.fn.scope (alts_of (map alternative l.yielded)));
  arms : core.alts_of (map core.alternative l.arms) ≡ lift_alts (program_of_names l.words)
      l.fn.scope (length l.fn.made) (alts_of (map alternative l.yielded));
}
