use Rattle.std.proofs.Common.{map, None, ap, ◌∙◌}
use Rattle.seq.proofs.Results.{ok_follows}
use Rattle.core_reader.specs.Tree.{data_of}
use Rattle.match_compile.specs.SourceOf.{equation_of}
use Rattle.match_compile.specs.Rules.{fields_in}
use Rattle.match_compile.specs.Refusal.{least_refusal}
use Rattle.match_compile.specs.Faults.{orders_faults, patterns_faults}
use Rattle.match_compile.proofs.Walks.{two}
use Rattle.match_compile.proofs.rules.first_fault.Goals as goal

pub returns : goal.returns
returns c =
    let source = c.args.source.now in
    let equations = map equation_of source.equations in
    let fields = fields_in (map data_of source.constructors) in
    ok_follows _ _ c.patterns.result (λ next e. two (orders_faults (λ x. None) None equations)
    (patterns_faults source.names fields equations) c.args.first c.in_ok-first.first next
    (c.in_ok-first.ensures ∙ ap
    (λ es. least_refusal c.args.first (orders_faults (λ x. None) None (map equation_of es)))
    c.as_slice-equations.ensures)
    (e ∙
    (λ i. least_refusal c.in_ok-first.first
    (patterns_faults (c.texts.ensures i)
    (λ x. (c.in_ok-fields.ensures x ∙ ap (λ ds. fields_in (map data_of ds) x)
    c.as_slice.ensures) i) (map equation_of (c.as_slice-equations.ensures i))))))
    c.patterns.ensures
