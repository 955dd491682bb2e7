use Rattle.std.proofs.Common.{rules, ◌≡◌, map, refl, subst, ◌∙◌}
use Rattle.grin_syntax.specs.Tree.{procedure_of}
use Rattle.flow_system.specs.Written.{shown}
use Rattle.flow_system.specs.Starts.{NoPartTagBeforeStart}
use Rattle.flow_system.proofs.SoFar.{all_params}
use Rattle.flow_system.proofs.Numbered.{indexed}
use Rattle.flow_system.proofs.system.system.Goals as goal

pub returns-clause-tables : goal.returns-clause-tables
returns-clause-tables c =
    let e : c.in_ok-copied_params.field-0 ≡ map (λ q. q.params)
    (map procedure_of c.args.g.now.procs) = c.in_ok-copied_params.ensures ∙ all_params
    c.args.g.now.procs in
    rw e refl

pub invariant_of-result : goal.invariant_of-result
invariant_of-result c = record {
  begin =
      (let e : c.as_slice-3.result.now ≡ c.args.g.now.tags = search rules
      in subst (λ ts. NoPartTagBeforeStart ts c.in_ok-partial_tag_starts.field-0.items 0) e
      c.in_ok-partial_tag_starts.ensures);
  indexed = indexed _ (shown c.as_slice-listed.result.now)
      c.in_ok-places.places _ _ _ _ c.in_ok-rows.ensures (search rules) (search rules)
      (search rules)
      (search rules) (search rules);
}
