use Rattle.std.proofs.Common.{◌≡◌, ◌≤◌, sym, subst, arith}
use Rattle.rv32_items.specs.Placed.{size_of, AllPlain, LabelsStand}
use Rattle.test_layout.proofs.LongCase.{labels_stand, all_plain, size_chosen}
use Rattle.test_layout.proofs.alternatives.words.Goals as goal

pub place-requires-clause-labels : goal.place-requires-clause-labels
place-requires-clause-labels c = subst (λ is. LabelsStand is) (sym c.in_ok-asm.ensures)
    (labels_stand c.args.count c.args.value)

pub place-requires-clause-plain : goal.place-requires-clause-plain
place-requires-clause-plain c = subst (λ is. AllPlain is) (sym c.in_ok-asm.ensures)
    (all_plain c.args.count c.args.value)

pub place-requires-clause-size : goal.place-requires-clause-size
place-requires-clause-size c =
    let small = size_chosen c.args.count c.args.value in
    let few = c.requires.0 in
    subst (λ is. size_of is ≤ 268435456) (sym c.in_ok-asm.ensures) (omega arith)

pub place-requires-clause-asked : goal.place-requires-clause-asked
place-requires-clause-asked c l lt = absurd (omega arith)
