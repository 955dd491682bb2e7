use Rattle.std.proofs.Common.{rules, ◌∙◌}
use Rattle.std.proofs.lemmas.List.{take_all}
use Rattle.grin_syntax.specs.Tree.{before_of, arm_of}
use Rattle.grin_syntax.proofs.TreeOf.{code_again, case_again, images, tree_of}
use Rattle.grin_syntax.proofs.copies.+copies.Goals as goal

pub copy_block-returns : goal.copy_block-returns
copy_block-returns t c = code_again _ _
    (images before_of (search rules) c.loop-stmt.invariant
    (take_all _ _ (search rules) ∙ search rules)) (search (rules, tree_of))

pub copy_op-returns-after-loop-alt : goal.copy_op-returns-after-loop-alt
copy_op-returns-after-loop-alt t c = case_again _ _ _ _ _ c.in-Case.is (search rules)
    (images arm_of (search rules) c.loop-alt.invariant.some
    (take_all _ _ (search rules) ∙ search rules))
