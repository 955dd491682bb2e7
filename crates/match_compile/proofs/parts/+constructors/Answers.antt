use Rattle.std.proofs.Common.{length, [], ◌∷◌, refl, sym, ap, ◌∙◌, ◌++◌, append_assoc, arith}
use Rattle.match_compile.specs.SourceOf.{pat_of}
use Rattle.match_compile.specs.Parts.{constructors_in}
use Rattle.match_compile.proofs.PatOf.{pat_of-Con}
use Rattle.match_compile.proofs.Walks.{constructors_of_all, gathered, all_gathered, count_all}
use Rattle.match_compile.proofs.parts.+constructors.Goals as goal

pub loop-field-preserved : goal.loop-field-preserved
loop-field-preserved t c =
    gathered constructors_of_all (λ p. constructors_in (pat_of p)) (λ x xs. refl)
    c.as_slice-field-items.result.now c.loop-field.field-index c.field-item.result (omega arith)
    c.field-item.is
    _ c.loop-field.constructors.items c.add_constructors.new.constructors.items
    c.in_ok-add_constructors-in-Con.ensures c.loop-field.invariant

pub returns-after-loop-field : goal.returns-after-loop-field
returns-after-loop-field t c =
    let con = c.in-Con.con in
    let pushed = c.in_ok-push-in-Con.ensures.items in
    let counted = ap length c.as_slice.ensures ∙ sym (count_all c.in-Con.fields) in
    all_gathered constructors_of_all refl c.as_slice-field-items.result.now c.loop-field.field-index
    (omega arith) _ c.loop-field.constructors.items c.loop-field.invariant
    ∙ (λ i. pushed i ++ constructors_of_all (c.as_slice-field-items.ensures i))
    ∙ append_assoc c.args.constructors.now.items ((con, length c.as_slice.result.now) ∷ [])
    (constructors_of_all c.in-Con.fields)
    ∙ ap (λ n. c.args.constructors.now.items ++ (con, n) ∷ constructors_of_all c.in-Con.fields)
    counted
    ∙ ap (λ p. c.args.constructors.now.items ++ constructors_in p)
    (sym (pat_of-Con con c.in-Con.fields) ∙ ap pat_of (sym c.in-Con.is))
