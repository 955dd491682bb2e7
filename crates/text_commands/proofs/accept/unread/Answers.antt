use Rattle.text_commands.proofs.accept.unread.Goals as goal

pub returns-in-BadByte : goal.returns-in-BadByte
returns-in-BadByte c = λ text h. rw c.refused.ensures (rw c.in-BadByte.is at h)

pub returns-in-Syntax : goal.returns-in-Syntax
returns-in-Syntax c = λ text h. rw c.refused-in-Syntax.ensures (rw c.in-Syntax.is at h)

pub returns-in-NumberRange : goal.returns-in-NumberRange
returns-in-NumberRange c = λ text h. rw c.refused-in-NumberRange.ensures
    (rw c.in-NumberRange.is at h)

pub returns-in-TooDeep : goal.returns-in-TooDeep
returns-in-TooDeep c = λ text h. rw c.refused-in-TooDeep.ensures (rw c.in-TooDeep.is at h)

pub returns-in-TextTooLong : goal.returns-in-TextTooLong
returns-in-TextTooLong c = λ text h. rw c.refused-in-TextTooLong.ensures
    (rw c.in-TextTooLong.is at h)
