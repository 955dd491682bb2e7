use Rattle.std.proofs.Common.{◌≡◌, take}
use Rattle.grin_rewrite.specs.Table.{facts_of, AppendsFacts}
use Rattle.copy_prop.specs.Resolved.{note_all}
use Rattle.copy_prop.proofs.resolve.note_copies.Given as goal

abbrev pub invariant-copies : goal.invariant-copies
invariant-copies l = record {
  is : facts_of l.standing ≡ note_all (take l.alias-index l.copies)
      (facts_of l.initial.standing);
  adds : AppendsFacts l.initial.standing l.standing;
}
