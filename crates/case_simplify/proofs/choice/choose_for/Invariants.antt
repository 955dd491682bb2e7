use Rattle.std.proofs.Common.{◌≡◌, map, drop}
use Rattle.grin_syntax.specs.Tree.{arm_of, arms_of}
use Rattle.case_simplify.specs.Choice.{selected_block}
use Rattle.case_simplify.proofs.choice.choose_for.Given as goal

abbrev pub invariant-alts : goal.invariant-alts
invariant-alts l = record {
  place : l.at ≡ l.alt-index;
  is : selected_block l.tag l.second (arms_of (map arm_of l.alts)) ≡
      selected_block l.tag l.second (arms_of (map arm_of (drop l.alt-index l.alts)));
}
