use Rattle.std.proofs.Common.{◌≡◌, IfOk, map, subst}
use Rattle.arity_check.specs.Program.{program}
use Rattle.grin_syntax.specs.Tree.{procedure_of}
use Rattle.grin_translate.proofs.Listed.{procs_made}
use Rattle.grin_translate.proofs.lists.procedures.Goals as goal

pub returns : goal.returns
returns c =
    subst (λ xs. IfOk c.with_start.result (λ qs. map procedure_of qs ≡ xs))
    (procs_made (program c.args.numbered.now.p.now) c.in_ok-waiting.base c.in_ok-waiting.waiting
    c.push.new.self c.in_ok-print.print c.in_ok-waiting.ensures.is c.in_ok-waiting.ensures.next
    c.in_ok-push.ensures.ok c.in_ok-print.ensures)
    c.with_start.ensures
