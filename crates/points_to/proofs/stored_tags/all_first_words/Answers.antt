use Rattle.flow_system.specs.Shown.{tables_of, inclusions_of}
use Rattle.points_to.specs.Known.{held}
use Rattle.points_to.specs.Stored.{values_in}
use Rattle.points_to.proofs.SiteTags.{none_first}
use Rattle.points_to.proofs.stored_tags.all_first_words.Goals as goal

pub loop-inclusion-init : goal.loop-inclusion-init
loop-inclusion-init c = none_first (tables_of c.args.system.now)
    (values_in (inclusions_of c.args.system.now)) (held c.args.facts.now) c.new-noted.result
    c.new-noted.ensures

pub loop-inclusion-preserved : goal.loop-inclusion-preserved
loop-inclusion-preserved c = c.in_ok-note_first_words.ensures c.loop-inclusion.invariant

pub returns : goal.returns
returns c = c.loop-inclusion.invariant
