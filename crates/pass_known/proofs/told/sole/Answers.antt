use Rattle.std.proofs.Common.{arith}
use Rattle.seq.proofs.Truth.{not_both}
use Rattle.pass_known.proofs.Soles.{number_there, some_cell, not_one, just_one}
use Rattle.pass_known.proofs.told.sole.Goals as goal

pub returns-then-holds_number : goal.returns-then-holds_number
returns-then-holds_number c = number_there _ _ (c.holds_number.ensures.0 c.if-holds_number.true)

pub returns-in_default : goal.returns-in_default
returns-in_default c = some_cell _ _ c.locs_of.result.now (omega arith) c.locs_of.ensures.exact

pub returns-then-not-is_alone : goal.returns-then-not-is_alone
returns-then-not-is_alone c = not_one _ _ c.in_ok-tags.tags (omega arith)
    c.in_ok-tags.ensures.ascending c.in_ok-tags.ensures.exact

pub returns : goal.returns
returns c = rw c.as_slice.ensures
    (just_one _ _ c.locs_of.result.now c.in_ok-tags.tags _
    (λ h. not_both _ (c.holds_number.ensures.1 h) c.if-holds_number.false) (omega arith)
    c.locs_of.ensures.exact (omega arith) c.in_ok-tags.ensures.exact)
