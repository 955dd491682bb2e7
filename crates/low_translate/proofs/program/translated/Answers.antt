use Rattle.std.proofs.Common.{rules, ◌≡◌, ◌<◌, ◌^◌, ◌+◌, map, length, ap, ◌∙◌, arith}
use Rattle.std.proofs.lemmas.List.{length-map}
use Rattle.grin_syntax.specs.Tree.{procedure_of}
use Rattle.grin_meaning.specs.Ready.{most_value_fields}
use Rattle.low_translate.proofs.Programs.{each_many, lowered_is}
use Rattle.low_translate.proofs.program.translated.Goals as goal

pub with_results-requires-clause-many : goal.with_results-requires-clause-many
with_results-requires-clause-many c =
    let each : length c.in_ok-results.results.items ≡ length c.as_slice.result.now
    = each_many _ _ _ (map procedure_of c.as_slice.result.now) c.in_ok-results.ensures.gives ∙
    length-map _ procedure_of in
    ap length c.as_slice-2.ensures.value ∙ each ∙ ap length c.as_slice.ensures

pub returns : goal.returns
returns c =
    let e : c.in_ok-_count._count ≡ length c.args.g.now.tags
    = c.in_ok-_count.ensures ∙ ap length c.as_slice-tags.ensures in
    let lt : c.in_ok-_count._count < 2 ^ 32 = search rules in
    lowered_is c.args.g.now _ c.in_ok-results.results.items _ _ c.as_slice.result.now
    (ap (λ k. k + 1)
    (c.most_value_fields.ensures ∙ ap most_value_fields c.as_slice-tags.ensures))
    c.as_slice.ensures c.in_ok-results.ensures.gives c.in_ok-results.ensures.few
    (omega (arith, e, lt)) c.in_ok-low.ensures.ranged c.as_slice-2.ensures.value
    c.in_ok-low.ensures.is
