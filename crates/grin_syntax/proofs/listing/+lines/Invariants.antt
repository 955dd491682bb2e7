use Rattle.std.proofs.Common.{◌≡◌, ◌++◌, take}
use Rattle.std.specs.List.{flat_map}
use Rattle.std.specs.Ordering.{nat_cmp}
use Rattle.std.specs.BTreeMap as tree
use Rattle.grin_syntax.specs.Tree.{program_of}
use Rattle.grin_syntax.specs.Statements.{stmt_text, alt_text}
use Rattle.grin_syntax.proofs.listing.+lines.Given as goal

abbrev pub invariant-put_block-loop-stmt : goal.invariant-put_block-loop-stmt
invariant-put_block-loop-stmt l = record {
  margin_stays : l.margin ≡ l.initial.margin;
  so_far : l.text ≡ l.initial.text ++ flat_map
      (stmt_text (program_of l.g) (tree.get nat_cmp l.ranks) l.margin)
      (take l.stmt-index l.stmt-items);
}

abbrev pub invariant-put_alts-loop-alt : goal.invariant-put_alts-loop-alt
invariant-put_alts-loop-alt l = record {
  margin_stays : l.margin ≡ l.initial.margin;
  so_far : l.text ≡ l.initial.text ++ flat_map
      (alt_text (program_of l.g) (tree.get nat_cmp l.ranks) l.margin) (take l.alt-index l.alts);
}
