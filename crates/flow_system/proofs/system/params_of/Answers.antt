use Rattle.std.proofs.Common.{rules, ◌≡◌, ap, sym, ◌∙◌}
use Rattle.std.specs.Option.{option_map}
use Rattle.grin_syntax.specs.declared.program.Target.TheVariants.{Vector}
use Rattle.flow_system.specs.Tables.{target_of}
use Rattle.flow_system.proofs.SoFar.{params_there}
use Rattle.flow_system.proofs.system.params_of.Goals as goal

pub returns-in_ok-from_slice-in-Some : goal.returns-in_ok-from_slice-in-Some
returns-in_ok-from_slice-in-Some c =
    let words : c.in_ok-from_slice-in-Some.field-0 ≡ c.in-Some.q.now.params = search rules in
    ap Vector words ∙ ap (λ o. target_of (option_map (λ q. q.params) o)) c.in-Some.ensures.value ∙
    ap target_of (sym (params_there c.args.g.now.procs c.args.f.0))

pub returns-in-None : goal.returns-in-None
returns-in-None c = ap (λ o. target_of (option_map (λ q. q.params) o)) c.in-None.ensures.value ∙ ap
    target_of (sym (params_there c.args.g.now.procs c.args.f.0))
