use Rattle.std.proofs.Common.{sym}
use Rattle.points_to.specs.Found.{found}
use Rattle.unbox.proofs.Readers.{no_tag, first_tag}
use Rattle.unbox.proofs.ties.has_int.Goals as goal

pub returns-in-Some : goal.returns-in-Some
returns-in-Some c = first_tag (found c.args.flow.now) c.args.f.0 _ c.result_of.ensures.ascending
    c.result_of.ensures.exact _ (sym c.in-Some.ensures.value)

pub returns-in-None : goal.returns-in-None
returns-in-None c = no_tag (found c.args.flow.now) c.args.f.0 _ c.result_of.ensures.ascending
    c.result_of.ensures.exact (sym c.in-None.ensures.value)
