use Rattle.std.proofs.Common.{◌∙◌}
use Rattle.seq.proofs.Results.{ok_follows}
use Rattle.match_compile.proofs.Rows.{way_opened}
use Rattle.match_compile.specs.RowOf.{pending}
use Rattle.match_compile.proofs.row.Pending.opened.Goals as goal

pub returns-in_ok-put_fields-in-Some : goal.returns-in_ok-put_fields-in-Some
returns-in_ok-put_fields-in-Some c =
    let jobs = pending c.put_fields.new.jobs in
    ok_follows _ _ c.settle.result (λ made e. e
    ∙ way_opened c.args.self.bound c.args.self.jobs c.pop.new.self c.in-Some.field-0-0 c.in-Some.pat
    c.args.places.now jobs
    c.in-Some.ensures c.in_ok-put_fields-in-Some.ensures) c.settle.ensures
