use Rattle.std.proofs.Common.{refl, sym, ap, ◌∙◌, ◌++◌, arith}
use Rattle.match_compile.specs.SourceOf.{pat_of}
use Rattle.match_compile.specs.Parts.{names_in}
use Rattle.match_compile.proofs.PatOf.{pat_of-Con}
use Rattle.match_compile.proofs.Walks.{names_of_all, gathered, all_gathered}
use Rattle.match_compile.proofs.parts.+names.Goals as goal

pub loop-field-preserved : goal.loop-field-preserved
loop-field-preserved t c =
    gathered names_of_all (λ p. names_in (pat_of p)) (λ x xs. refl)
    c.as_slice-field-items.result.now c.loop-field.field-index c.field-item.result (omega arith)
    c.field-item.is
    _ c.loop-field.names.items c.add_names.new.names.items c.in_ok-add_names-in-Con.ensures
    c.loop-field.invariant

pub returns-after-loop-field : goal.returns-after-loop-field
returns-after-loop-field t c =
    all_gathered names_of_all refl c.as_slice-field-items.result.now c.loop-field.field-index
    (omega arith) _ c.loop-field.names.items c.loop-field.invariant
    ∙ ap (λ ps. c.args.names.now.items ++ names_of_all ps) c.as_slice-field-items.ensures
    ∙ ap (λ p. c.args.names.now.items ++ names_in p)
    (sym (pat_of-Con _ c.in-Con.fields) ∙ ap pat_of (sym c.in-Con.is))
