use Rattle.std.proofs.Common.{arith}
use Rattle.std.proofs.lemmas.Grind.{common_steps}
use Rattle.core_reader.proofs.TreeOf.{expr_of-Case}
use Rattle.core_print.proofs.printer.Text.+print_expr.Goals as goal

pub expr-returns-in_ok-alts-in-Case : goal.expr-returns-in_ok-alts-in-Case
expr-returns-in_ok-alts-in-Case t c = rw (c.in-Case.is, expr_of-Case) (grind (arith, common_steps))
