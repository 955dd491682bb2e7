use Rattle.std.proofs.Common.{◌≡◌, take, map}
use Rattle.grin_syntax.specs.Tree.{arm_of, arms_of}
use Rattle.low_translate.specs.Writes.{arms_write}
use Rattle.low_translate.proofs.Written.{Statements}
use Rattle.low_translate.proofs.writes.+writes.Given as goal

abbrev pub invariant-block-loop-stmt : goal.invariant-block-loop-stmt
invariant-block-loop-stmt l = Statements l.tags (take l.stmt-index l.stmt-items) l.most

abbrev pub invariant-alternatives-loop-alt : goal.invariant-alternatives-loop-alt
invariant-alternatives-loop-alt l = l.most ≡ arms_write l.tags
    (arms_of (map arm_of (take l.alt-index l.alts)))
