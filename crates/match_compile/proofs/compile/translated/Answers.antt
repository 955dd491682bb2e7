use Rattle.std.proofs.Common.{rules, ◌≡◌, map, length, sym, ap, ◌∙◌}
use Rattle.std.proofs.lemmas.List.{length-map}
use Rattle.core_reader.specs.Tree.{expr}
use Rattle.match_compile.specs.Source.{Source}
use Rattle.match_compile.specs.SourceOf.{equation_of, equation_source_of}
use Rattle.match_compile.specs.Sizes.{functions}
use Rattle.match_compile.specs.Decisions.{all_decisions, decisions}
use Rattle.match_compile.specs.DecisionOf.{decisions_of}
use Rattle.match_compile.specs.ApartOf.{equations_with_bodies}
use Rattle.match_compile.specs.Translated.{most_params, most_fields_of}
use Rattle.match_compile.proofs.NewNames.{with_counts}
use Rattle.match_compile.proofs.compile.translated.Goals as goal

pub with_new-requires : goal.with_new-requires
with_new-requires c =
    let s : Source = equation_source_of c.args.source in
    let names : c.into_names.result ≡ s.names = search rules in
    let count : c.in_ok-count.count ≡ length c.args.source.equations = search rules in
    let columns : c.in_ok-columns.columns ≡ c.most_params.result = search rules in
    let fields : c.most_fields_of-fields.result ≡ most_fields_of (decisions s)
    = c.most_fields_of-fields.ensures
    ∙ ap (λ ds. most_fields_of (map decisions_of ds)) c.as_slice-3.ensures
    ∙ ap most_fields_of (c.in_ok-decisions.ensures
    ∙ ap (λ es. all_decisions 0 (functions es)) (c.in_ok-clauses.ensures
    ∙ ap (λ hs. equations_with_bodies hs (map expr c.in_ok-headings.bodies)) c.as_slice-2.ensures
    ∙ c.in_ok-headings.ensures.equations)) in
    with_counts s _ _ _ _ names (count ∙ sym (length-map c.args.source.equations equation_of))
    (columns ∙ c.most_params.ensures ∙ ap (λ es. most_params (map equation_of es))
    c.as_slice.ensures)
    fields c.requires

pub clauses-requires : goal.clauses-requires
clauses-requires c = ap length c.as_slice-2.ensures ∙ c.in_ok-headings.ensures.same
