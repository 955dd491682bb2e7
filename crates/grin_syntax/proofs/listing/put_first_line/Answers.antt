use Rattle.std.proofs.Common.{arith}
use Rattle.std.proofs.lemmas.Grind.{common_steps}
use Rattle.grin_syntax.proofs.Listed.{line-Unit, line-Fetch, line-FetchWord, line-Update, line-Eval, line-Apply, line-Call, line-Prim, line-Write, line-Case, line-Read, line-Fail, line-Nested}
use Rattle.grin_syntax.proofs.listing.put_first_line.Goals as goal

pub returns-in-Unit : goal.returns-in-Unit
returns-in-Unit c = rw (c.in-Unit.is, line-Unit) (grind (arith, common_steps))

pub returns-in-Fetch : goal.returns-in-Fetch
returns-in-Fetch c = rw (c.in-Fetch.is, line-Fetch) (grind (arith, common_steps))

pub returns-in_ok-put-in-FetchWord : goal.returns-in_ok-put-in-FetchWord
returns-in_ok-put-in-FetchWord c = rw (c.in-FetchWord.is, line-FetchWord)
    (grind (arith, common_steps))

pub returns-in_ok-put_word_after-in-Update : goal.returns-in_ok-put_word_after-in-Update
returns-in_ok-put_word_after-in-Update c = rw (c.in-Update.is, line-Update)
    (grind (arith, common_steps))

pub returns-in-Eval : goal.returns-in-Eval
returns-in-Eval c = rw (c.in-Eval.is, line-Eval) (grind (arith, common_steps))

pub returns-in_ok-put_val_after-in-Apply : goal.returns-in_ok-put_val_after-in-Apply
returns-in_ok-put_val_after-in-Apply c = rw (c.in-Apply.is, line-Apply)
    (grind (arith, common_steps))

pub returns-in-Call : goal.returns-in-Call
returns-in-Call c = rw (c.in-Call.is, line-Call) (grind (arith, common_steps))

pub returns-in-Prim : goal.returns-in-Prim
returns-in-Prim c = rw (c.in-Prim.is, line-Prim) (grind (arith, common_steps))

pub returns-in-Write : goal.returns-in-Write
returns-in-Write c = rw (c.in-Write.is, line-Write) (grind (arith, common_steps))

pub returns-in_ok-put_val_after-in-Case : goal.returns-in_ok-put_val_after-in-Case
returns-in_ok-put_val_after-in-Case c = rw (c.in-Case.is, line-Case) (grind (arith, common_steps))

pub returns-in-Read : goal.returns-in-Read
returns-in-Read c = rw (c.in-Read.is, line-Read) (grind (arith, common_steps))

pub returns-in-Fail : goal.returns-in-Fail
returns-in-Fail c = rw (c.in-Fail.is, line-Fail) (grind (arith, common_steps))

pub returns-in-Nested : goal.returns-in-Nested
returns-in-Nested c = rw (c.in-Nested.is, line-Nested) (grind (arith, common_steps))
