use Rattle.std.proofs.Common.{rules}
use Rattle.core_reader.specs.Tree.{program}
use Rattle.core_print.proofs.RoundTrip.{same_again}
use Rattle.core_print.proofs.laws.printing_round_trips.Goals as goal

pub returns : goal.returns
returns c = same_again (program c.args.core.now) c.as_slice.result.now c.read.result c.requires
    (search rules) c.read.ensures.found c.read.ensures.refused
