use Rattle.grin_compile.proofs.MoreRoom.{more_room_runs_same}
use Rattle.grin_compile.proofs.laws.more_room_runs_same.Goals as goal

pub returns : goal.returns
returns c = more_room_runs_same
