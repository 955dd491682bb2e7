use Rattle.std.proofs.Common.{sym, ap, ◌∙◌}
use Rattle.match_compile.specs.RowOf.{pending, names_bound_row}
use Rattle.match_compile.proofs.Rows.{none_left, bind_name, stops_at}
use Rattle.match_compile.proofs.row.settle.Goals as goal

pub returns-in-None : goal.returns-in-None
returns-in-None c =
    none_left c.names.bound c.pop.new.self c.in-None.ensures.1
    ∙ ap (λ js. names_bound_row c.names.bound (pending js))
    (c.in-None.ensures.1 ∙ sym c.in-None.ensures.0)
    ∙ c.names.invariant

pub names-preserved : goal.names-preserved
names-preserved c =
    ap (λ b. names_bound_row b (pending c.pop.new.self)) c.in_ok-push-in-Some-name_of.ensures.ok
    ∙ bind_name c.names.bound c.names.jobs c.pop.new.self c.in-Some.place c.in-Some.pat
    c.in-Some-name_of.binder c.in-Some.ensures (sym c.name_of.ensures ∙ c.in-Some-name_of.is)
    ∙ c.names.invariant

pub returns-in-None-name_of : goal.returns-in-None-name_of
returns-in-None-name_of c =
    stops_at c.names.bound c.names.jobs c.pop.new.self c.push-in-None-name_of.new.self
    c.in-Some.place c.in-Some.pat c.in-Some.ensures
    (sym c.name_of.ensures ∙ c.in-None-name_of.is) c.in_ok-push-in-None-name_of.ensures.ok
    ∙ c.names.invariant
