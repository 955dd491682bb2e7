use Rattle.std.proofs.Common.{◌≡◌, map, drop}
use Rattle.grin_syntax.specs.Tree.{arm_of, arms_of}
use Rattle.case_simplify.specs.Simple.{all_arms_return}
use Rattle.case_simplify.proofs.choice.all_arms_return.Given as goal

abbrev pub invariant-alts : goal.invariant-alts
invariant-alts l = all_arms_return l.u (arms_of (map arm_of l.alts)) ≡ all_arms_return l.u
    (arms_of (map arm_of (drop l.alt-index l.alts)))
