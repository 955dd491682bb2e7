use Rattle.std.proofs.Common.{arith}
use Rattle.rv32_machine.specs.Steps.{state_of}
use Rattle.image_trace.proofs.Steps.{all_steps, last_step}
use Rattle.image_trace.proofs.entries.entries.Goals as goal

pub returns-then-not-goes_on : goal.returns-then-not-goes_on
returns-then-not-goes_on c =
    let inv = c.loop-left.invariant in
    let before = c.len.ensures in
    let one = c.put_entry.ensures in
    last_step c.args.starts.now c.args.most c.loop-left.entries.items _
    (state_of c.loop-left.machine) c.put_entry.new.entries.items c.loop-left.left
    c.loop-left-test.true inv.kept c.if-not-goes_on.ensures.states c.in_ok-put_entry.ensures.put
    (omega (arith, inv.few, before, c.if-len-most.false, c.in_ok-put_entry.ensures.one))

pub returns : goal.returns
returns c =
    let inv = c.loop-left.invariant in
    all_steps c.args.starts.now c.args.most c.loop-left.entries.items _
    (state_of c.loop-left.machine) c.loop-left.left (omega (arith, c.loop-left-test.false)) inv.kept
    inv.few
