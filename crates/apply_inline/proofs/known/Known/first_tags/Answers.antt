use Rattle.grin_syntax.specs.Tree.{program_of}
use Rattle.points_to.specs.Found.{found}
use Rattle.apply_inline.proofs.Candidate.{own_tag}
use Rattle.apply_inline.proofs.known.Known.first_tags.Goals as goal

pub returns-in-TagWord-clause-all : goal.returns-in-TagWord-clause-all
returns-in-TagWord-clause-all c = own_tag (program_of c.args.self.now.program.now)
    (found c.args.self.now.flow.now) c.args.word.now c.in-TagWord.t _ c.in-TagWord.is
    c.from_ref.ensures.value
