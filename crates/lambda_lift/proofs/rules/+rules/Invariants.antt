use Rattle.std.proofs.Common.{◌≡◌, drop, map}
use Rattle.lambda_reader.specs.Code.{term, terms_of, member, group_of, alternative, alts_of}
use Rattle.lambda_lift.specs.Abstractions.{in_terms, in_group, in_alts}
use Rattle.lambda_lift.specs.Gathered.{program_of_names}
use Rattle.lambda_lift.specs.Broadest.{too_broad}
use Rattle.lambda_lift.proofs.rules.+rules.Given as goal

abbrev pub invariant-lambdas_in_application-loop-arg
    : goal.invariant-lambdas_in_application-loop-arg
invariant-lambdas_in_application-loop-arg l = record {
  scope : l.scope ≡ l.fn.scope;
  first : too_broad (program_of_names l.words) l.first
      (in_terms (program_of_names l.words) l.fn.scope
      (terms_of (map term (drop l.arg-index l.arg-items)))) ≡ too_broad (program_of_names l.words)
      l.initial.first
      (in_terms (program_of_names l.words) l.fn.scope (terms_of (map term l.arg-items)));
}

abbrev pub invariant-in_expr-loop-bind : goal.invariant-in_expr-loop-bind
invariant-in_expr-loop-bind l = record {
  scope : l.scope ≡ l.initial.scope;
  first : too_broad (program_of_names l.words) l.first
      (in_group (program_of_names l.words) l.initial.scope
      (group_of (map member (drop l.bind-index l.bind-items)))) ≡ too_broad
      (program_of_names l.words) l.initial.first
      (in_group (program_of_names l.words) l.initial.scope (group_of (map member l.bind-items)));
}

abbrev pub invariant-in_expr-loop-alt : goal.invariant-in_expr-loop-alt
invariant-in_expr-loop-alt l = record {
  scope : l.scope ≡ l.fn.scope;
  first : too_broad (program_of_names l.words) l.first
      (in_alts (program_of_names l.words) l.fn.scope
      (alts_of (map alternative (drop l.alt-index l.alt-items)))) ≡ too_broad
      (program_of_names l.words) l.initial.first
      (in_alts (program_of_names l.words) l.fn.scope (alts_of (map alternative l.alt-items)));
}
