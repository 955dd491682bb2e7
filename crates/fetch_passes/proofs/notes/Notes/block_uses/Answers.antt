use Rattle.grin_syntax.specs.Tree.{code_of}
use Rattle.fetch_passes.proofs.Places.{block_answer}
use Rattle.fetch_passes.proofs.notes.Notes.block_uses.Goals as goal

pub returns : goal.returns
returns c = block_answer c.args.self.now c.args.here c.in_ok-next.next c.args.x.0
    (code_of c.args.body.now) c.within.result c.requires c.in_ok-next.ensures c.within.ensures
