use Rattle.std.proofs.Common.{◌++◌, ap, ◌∙◌, subst}
use Rattle.flow_system.specs.Shown.{tables_of, inclusion_of}
use Rattle.points_to.specs.Known.{held}
use Rattle.points_to.specs.Reads.{reads}
use Rattle.points_to.specs.Worklist.{RegistersAt}
use Rattle.points_to.proofs.Sets.{on_ok}
use Rattle.points_to.proofs.worklist.Worklist.register_reads.Goals as goal

pub returns : goal.returns
returns c =
    let places = reads (tables_of c.args.system.now) (held c.args.self.now.facts)
    (inclusion_of c.args.inclusion.now) in
    let registers = RegistersAt c.args.self.now c.register.new.self c.args.n in
    on_ok c.register.result (registers c.as_slice.result.now) (registers places)
    (subst registers
    (c.as_slice.ensures ∙ c.in_ok-reads.ensures ∙ ap (λ l. l ++ places) c.new-places.ensures))
    c.register.ensures
