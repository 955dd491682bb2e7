use Rattle.grin_io.proofs.Named.{opens_at}
use Rattle.grin_io.proofs.folder.place_to_open.Goals as goal

pub returns : goal.returns
returns c = opens_at c.args.name.now c.args.files.now c.place_of.result c.place_of.ensures
