use Rattle.std.proofs.Common.{rules, sym, ◌∙◌}
use Rattle.std.proofs.lemmas.Iterator.Adapters.{YieldsList-from_vec}
use Rattle.std.proofs.lemmas.Iterator.Consumers.{YieldsList-end}
use Rattle.unbox_theory.specs.Ends.{is_member}
use Rattle.unbox.proofs.Numbered.{no_procs, procs_next, program_made}
use Rattle.unbox.proofs.pass.with_members.Goals as goal
use Rattle.seq.proofs.Lists.{map_same}

pub loop-proc-init : goal.loop-proc-init
loop-proc-init c = no_procs _ _ c.new-procs.ensures

pub loop-proc-preserved : goal.loop-proc-preserved
loop-proc-preserved c = procs_next (is_member c.args.members.now.inside) _ _ _ _ _ _ _ _
    (search rules) c.has-bare.ensures c.in_ok-body.ensures c.in_ok-push.ensures.ok
    c.loop-proc.invariant

pub returns : goal.returns
returns c =
    let all = YieldsList-end (YieldsList-from_vec c.args.g.procs (search rules) (search rules))
    c.loop-proc.yielded c.loop-proc.proc-iterator c.loop-proc.yielded_by _ c.next.new.self
    c.in-None.is c.next.ensures.steps in
    program_made (is_member c.args.members.now.inside) c.args.g _ _ _
    (sym (map_same c.loop-proc.yielded) ∙ all.0) c.loop-proc.invariant
