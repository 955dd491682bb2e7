use Rattle.std.proofs.Common.{arith}
use Rattle.flow_system.proofs.Begins.{noted, passed}
use Rattle.flow_system.proofs.starts.note.Goals as goal

pub returns-then-f-len : goal.returns-then-f-len
returns-then-f-len c = λ ts e b. noted ts c.args.starts.now.items c.args.at c.in-Some.f.0
    c.args.tag.now e c.in-Some.ensures b

pub returns-else-f-len : goal.returns-else-f-len
returns-else-f-len c = λ ts e b. passed ts c.args.starts.now.items c.args.at c.args.tag.now e
    (λ f r lt. c.in-Some.ensures f r
    (λ same. absurd (omega (arith, same, lt, c.if-f-len.false, c.len.ensures)))) b

pub returns-in_default : goal.returns-in_default
returns-in_default c = λ ts e b. passed ts c.args.starts.now.items c.args.at c.args.tag.now e
    (λ f r lt. c.in_default.ensures f r) b
