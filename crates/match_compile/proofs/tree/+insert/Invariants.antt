use Rattle.std.specs.Prelude.{◌+◌, ◌*◌}
use Rattle.match_compile.proofs.tree.+insert.Given as goal

abbrev pub decreases-insert : goal.decreases-insert
decreases-insert l = 3 * l.depth

abbrev pub decreases-insert_test : goal.decreases-insert_test
decreases-insert_test l = 3 * l.depth + 2

abbrev pub decreases-insert_branch : goal.decreases-insert_branch
decreases-insert_branch l = 3 * l.depth + 1
