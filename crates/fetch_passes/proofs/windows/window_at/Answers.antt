use Rattle.std.proofs.Common.{rules}
use Rattle.grin_syntax.specs.Tree.{act_of}
use Rattle.fetch_passes.proofs.Asking.{owned_window, not_owned}
use Rattle.fetch_passes.proofs.windows.window_at.Goals as goal

pub returns-then-not-op_owns : goal.returns-then-not-op_owns
returns-then-not-op_owns c = λ whole left r p b. not_owned c.args.notes.now c.args.tag.0 whole left
    c.args.span c.args.now (act_of c.args.op.now) r c.unowned.result p b (search rules)
    c.unowned.ensures

pub returns : goal.returns
returns c = λ whole left r p b. owned_window c.args.notes.now c.args.tag.0 whole left c.args.span
    c.args.now c.in_ok-after.after (act_of c.args.op.now) r c.tested.result p b (search rules)
    c.in_ok-after.ensures c.tested.ensures
