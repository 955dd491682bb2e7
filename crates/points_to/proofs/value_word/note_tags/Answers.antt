use Rattle.std.proofs.Common.{◌≡◌, ◌||◌, ◌%◌, sym, ap, ◌∙◌}
use Rattle.flow_system.specs.Shown.{tables_of}
use Rattle.points_to.specs.Bits.{block_words}
use Rattle.points_to.specs.ValueWords.{has_field, has_fewer}
use Rattle.points_to.proofs.Spotted.{or_nothing, none_spotted, cells_alone}
use Rattle.points_to.proofs.value_word.note_tags.Goals as goal

pub returns-then-block-eq1-clause-has : goal.returns-then-block-eq1-clause-has
returns-then-block-eq1-clause-has c =
    let has = has_field (tables_of c.args.system.now) c.args.width c.args.j in
    let odd : c.args.block.0 % 2 ≡ 1 = c.if-block-eq1.true in
    sym (ap (λ b. c.args.seen.has || b)
    (none_spotted has (block_words c.args.block)
    (λ x i. ap has (cells_alone c.args.block.0 c.args.block.1 odd x i).1)) ∙ or_nothing
    c.args.seen.has)

pub returns-then-block-eq1-clause-fewer : goal.returns-then-block-eq1-clause-fewer
returns-then-block-eq1-clause-fewer c =
    let fewer = has_fewer (tables_of c.args.system.now) c.args.width c.args.j in
    let odd : c.args.block.0 % 2 ≡ 1 = c.if-block-eq1.true in
    sym (ap (λ b. c.args.seen.fewer || b)
    (none_spotted fewer (block_words c.args.block)
    (λ x i. ap fewer (cells_alone c.args.block.0 c.args.block.1 odd x i).1)) ∙ or_nothing
    c.args.seen.fewer)
