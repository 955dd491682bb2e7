use Rattle.std.proofs.Common.{◌&&◌, ap, ◌∙◌, arith}
use Rattle.flow_system.specs.declared.fact.Place.TheVariants.{Var as var}
use Rattle.flow_system.specs.declared.fact.Part.TheVariants.{Word as word}
use Rattle.points_to.specs.Found.{found}
use Rattle.unbox.proofs.Readers.{none_tested, tested_next, only_listed}
use Rattle.unbox.proofs.ties.only_int.Goals as goal

pub loop-tag-init : goal.loop-tag-init
loop-tag-init c = none_tested _

pub loop-tag-preserved : goal.loop-tag-preserved
loop-tag-preserved c = tested_next (found c.args.flow.now (var c.args.x.0) (word 0)) _ _ _ _ _ _
    c.loop-tag-test.true c.is_no_other.ensures c.both-only.ensures c.loop-tag.invariant

pub returns : goal.returns
returns c =
    c.both.ensures ∙ ap (λ b. c.loop-tag.only && b) c.both-no_other_word.ensures
    ∙ only_listed (found c.args.flow.now) c.args.x.0 _ _ _ _ c.holds_number.ensures
    c.is_empty.ensures c.locs_of.ensures.exact c.nodes_of-tag-items.ensures.exact
    c.loop-tag.only _ (omega arith) c.loop-tag.invariant
