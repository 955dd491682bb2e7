use Rattle.std.proofs.Common.{◌≡◌, ◌++◌, take}
use Rattle.std.specs.Ordering.{nat_cmp}
use Rattle.std.specs.BTreeMap as tree
use Rattle.grin_syntax.specs.Listing.{spaced, var_text}
use Rattle.grin_syntax.proofs.listing.put_vars.Given as goal

abbrev pub invariant-loop-var : goal.invariant-loop-var
invariant-loop-var l = l.text ≡ l.initial.text ++ spaced (var_text (tree.get nat_cmp l.ranks))
    (take l.var-index l.vars)
