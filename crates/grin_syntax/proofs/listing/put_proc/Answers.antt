use Rattle.std.proofs.Common.{arith}
use Rattle.std.proofs.lemmas.Grind.{common_steps}
use Rattle.grin_syntax.specs.Tree.{procedure_of}
use Rattle.grin_syntax.proofs.Listed.{proc_put}
use Rattle.grin_syntax.proofs.listing.put_proc.Goals as goal

pub returns : goal.returns
returns c = proc_put _ (procedure_of c.args.proc.now) _ _ _ c.requires (grind (arith, common_steps))
