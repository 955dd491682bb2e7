use Rattle.std.proofs.Common.{rules, ◌∙◌, take}
use Rattle.std.proofs.lemmas.List.{take_all}
use Rattle.grin_syntax.proofs.Listed.{rest-Case, rest-Unit, rest-Fetch, rest-FetchWord, rest-Update, rest-Eval, rest-Apply, rest-Call, rest-Prim, rest-Read, rest-Write, rest-Fail, block_put}
use Rattle.grin_syntax.proofs.listing.+lines.Goals as goal

pub put_block-returns : goal.put_block-returns
put_block-returns t c = (
  block_put _ _ c.args.block.now _ _ (take c.loop-stmt.stmt-index c.as_slice-stmt-items.result.now)
      c.deref.result.now _ _ _ _ c.loop-stmt.invariant.margin_stays c.loop-stmt.invariant.so_far
      (take_all _ _ (search rules) ∙ search rules) (search rules) c.in_ok-append.ensures
      c.in_ok-put_op.ensures.0,
  search rules,
)

pub put_rest-returns-in_ok-put_alts-in-Case-clause-text
    : goal.put_rest-returns-in_ok-put_alts-in-Case-clause-text
put_rest-returns-in_ok-put_alts-in-Case-clause-text t c
    = rw (c.in-Case.is, rest-Case) (search rules)

pub put_rest-returns-in-Unit-clause-text : goal.put_rest-returns-in-Unit-clause-text
put_rest-returns-in-Unit-clause-text t c = rw (c.in-Unit.is, rest-Unit) (search rules)

pub put_rest-returns-in-Fetch-clause-text : goal.put_rest-returns-in-Fetch-clause-text
put_rest-returns-in-Fetch-clause-text t c = rw (c.in-Fetch.is, rest-Fetch) (search rules)

pub put_rest-returns-in-FetchWord-clause-text : goal.put_rest-returns-in-FetchWord-clause-text
put_rest-returns-in-FetchWord-clause-text t c = rw (c.in-FetchWord.is, rest-FetchWord)
    (search rules)

pub put_rest-returns-in-Update-clause-text : goal.put_rest-returns-in-Update-clause-text
put_rest-returns-in-Update-clause-text t c = rw (c.in-Update.is, rest-Update) (search rules)

pub put_rest-returns-in-Eval-clause-text : goal.put_rest-returns-in-Eval-clause-text
put_rest-returns-in-Eval-clause-text t c = rw (c.in-Eval.is, rest-Eval) (search rules)

pub put_rest-returns-in-Apply-clause-text : goal.put_rest-returns-in-Apply-clause-text
put_rest-returns-in-Apply-clause-text t c = rw (c.in-Apply.is, rest-Apply) (search rules)

pub put_rest-returns-in-Call-clause-text : goal.put_rest-returns-in-Call-clause-text
put_rest-returns-in-Call-clause-text t c = rw (c.in-Call.is, rest-Call) (search rules)

pub put_rest-returns-in-Prim-clause-text : goal.put_rest-returns-in-Prim-clause-text
put_rest-returns-in-Prim-clause-text t c = rw (c.in-Prim.is, rest-Prim) (search rules)

pub put_rest-returns-in-Read-clause-text : goal.put_rest-returns-in-Read-clause-text
put_rest-returns-in-Read-clause-text t c = rw (c.in-Read.is, rest-Read) (search rules)

pub put_rest-returns-in-Write-clause-text : goal.put_rest-returns-in-Write-clause-text
put_rest-returns-in-Write-clause-text t c = rw (c.in-Write.is, rest-Write) (search rules)

pub put_rest-returns-in-Fail-clause-text : goal.put_rest-returns-in-Fail-clause-text
put_rest-returns-in-Fail-clause-text t c = rw (c.in-Fail.is, rest-Fail) (search rules)
