use Rattle.std.proofs.Common.{rules, ◌∙◌, take}
use Rattle.std.proofs.lemmas.List.{take_all}
use Rattle.flow_listing.specs.Binders.{alt_binders}
use Rattle.flow_listing.proofs.Bound.{case_binders, binders-Unit, binders-Fetch, binders-FetchWord, binders-Update, binders-Eval, binders-Apply, binders-Call, binders-Prim, binders-Read, binders-Write, binders-Fail, block_noted, all_pieces}
use Rattle.flow_listing.proofs.binder.+notes.Goals as goal

pub note_block-returns : goal.note_block-returns
note_block-returns t c = block_noted c.args.block.now
    (take c.loop-stmt.stmt-index c.as_slice-stmt-items.result.now) c.deref.result.now _ _ _
    c.loop-stmt.invariant (take_all _ _ (search rules) ∙ search rules) (search rules)
    c.in_ok-note_op.ensures

pub note_op-returns-after-loop-alt : goal.note_op-returns-after-loop-alt
note_op-returns-after-loop-alt t c = rw (c.in-Case.is, case_binders)
    (all_pieces alt_binders _ _ _ _ (take_all _ _ (search rules) ∙ search rules)
    c.loop-alt.invariant)

pub note_op-returns-in-Unit : goal.note_op-returns-in-Unit
note_op-returns-in-Unit t c = rw (c.in-Unit.is, binders-Unit) (search rules)

pub note_op-returns-in-Fetch : goal.note_op-returns-in-Fetch
note_op-returns-in-Fetch t c = rw (c.in-Fetch.is, binders-Fetch) (search rules)

pub note_op-returns-in-FetchWord : goal.note_op-returns-in-FetchWord
note_op-returns-in-FetchWord t c = rw (c.in-FetchWord.is, binders-FetchWord) (search rules)

pub note_op-returns-in-Update : goal.note_op-returns-in-Update
note_op-returns-in-Update t c = rw (c.in-Update.is, binders-Update) (search rules)

pub note_op-returns-in-Eval : goal.note_op-returns-in-Eval
note_op-returns-in-Eval t c = rw (c.in-Eval.is, binders-Eval) (search rules)

pub note_op-returns-in-Apply : goal.note_op-returns-in-Apply
note_op-returns-in-Apply t c = rw (c.in-Apply.is, binders-Apply) (search rules)

pub note_op-returns-in-Call : goal.note_op-returns-in-Call
note_op-returns-in-Call t c = rw (c.in-Call.is, binders-Call) (search rules)

pub note_op-returns-in-Prim : goal.note_op-returns-in-Prim
note_op-returns-in-Prim t c = rw (c.in-Prim.is, binders-Prim) (search rules)

pub note_op-returns-in-Read : goal.note_op-returns-in-Read
note_op-returns-in-Read t c = rw (c.in-Read.is, binders-Read) (search rules)

pub note_op-returns-in-Write : goal.note_op-returns-in-Write
note_op-returns-in-Write t c = rw (c.in-Write.is, binders-Write) (search rules)

pub note_op-returns-in-Fail : goal.note_op-returns-in-Fail
note_op-returns-in-Fail t c = rw (c.in-Fail.is, binders-Fail) (search rules)
