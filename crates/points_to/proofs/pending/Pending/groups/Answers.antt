use Rattle.std.proofs.Common.{◌*◌, ◌≤◌, length, arith}
use Rattle.points_to.specs.Waiting.{waiting}
use Rattle.points_to.proofs.InGroups.{from_long}
use Rattle.points_to.proofs.pending.Pending.groups.Goals as goal

pub returns : goal.returns
returns c =
    let s = c.args.self.now in
    let le : length (waiting s) ≤ 64 * length s.groups.items = from_long 0 s.groups.items in
    omega (arith, le, s.groups.ok, c.len.ensures)
