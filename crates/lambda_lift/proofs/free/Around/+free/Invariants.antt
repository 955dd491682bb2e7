use Rattle.std.proofs.Common.{◌≡◌, drop, map}
use Rattle.lambda_reader.specs.Code.{term, terms_of, member, group_of, alternative, alts_of}
use Rattle.lambda_lift.specs.Free.{uses_terms, uses_group, uses_alts}
use Rattle.lambda_lift.specs.Gathered.{scope_names, collected_in_scope}
use Rattle.lambda_lift.proofs.free.Around.+free.Given as goal

abbrev pub invariant-app-loop-arg : goal.invariant-app-loop-arg
invariant-app-loop-arg l = record {
  inside : l.inside ≡ l.fn.inside;
  found : collected_in_scope l.self.words.now l.self.scope.now l.self.limit l.found
      (uses_terms (scope_names l.fn.inside) (terms_of (map term (drop l.arg-index l.arg-items)))) ≡
      collected_in_scope l.self.words.now l.self.scope.now l.self.limit l.initial.found
      (uses_terms (scope_names l.fn.inside) (terms_of (map term l.arg-items)));
}

abbrev pub invariant-expr-loop-bind : goal.invariant-expr-loop-bind
invariant-expr-loop-bind l = record {
  inside : l.inside ≡ l.initial.inside;
  found : collected_in_scope l.self.words.now l.self.scope.now l.self.limit l.found
      (uses_group (scope_names l.initial.inside)
      (group_of (map member (drop l.bind-index l.bind-items)))) ≡ collected_in_scope
      l.self.words.now l.self.scope.now l.self.limit l.initial.found
      (uses_group (scope_names l.initial.inside) (group_of (map member l.bind-items)));
}

abbrev pub invariant-expr-loop-alt : goal.invariant-expr-loop-alt
invariant-expr-loop-alt l = record {
  inside : l.inside ≡ l.fn.inside;
  found : collected_in_scope l.self.words.now l.self.scope.now l.self.limit l.found
      (uses_alts (scope_names l.fn.inside)
      (alts_of (map alternative (drop l.alt-index l.alt-items)))) ≡ collected_in_scope
      l.self.words.now l.self.scope.now l.self.limit l.initial.found
      (uses_alts (scope_names l.fn.inside) (alts_of (map alternative l.alt-items)));
}
