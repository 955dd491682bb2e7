use Rattle.std.proofs.Common.{map, ap, ◌∙◌}
use Rattle.grin_syntax.specs.Tree.{procedure_of, program_of}
use Rattle.points_to.specs.Found.{found}
use Rattle.pass_ground.specs.Updated.{updated_of}
use Rattle.arity_raise.proofs.Sites.{no_sites, sites_next, sites_done}
use Rattle.arity_raise.proofs.updated.updated_sites.Goals as goal

pub loop-word-init : goal.loop-word-init
loop-word-init c = no_sites _ _ c.new-sites.result.keys c.new-sites.ensures.empty

pub loop-word-preserved : goal.loop-word-preserved
loop-word-preserved c = sites_next (found c.args.flow.now) (program_of c.args.g.now) _ _ _ _ _
    c.loop-word-test.true c.loop-word.invariant c.in_ok-put_word.ensures

pub returns : goal.returns
returns c = sites_done (found c.args.flow.now) (program_of c.args.g.now) _ _ c.loop-word.sites
    (c.as_slice-word-items.ensures ∙ c.in_ok-words.ensures ∙ ap
    (λ ps. updated_of (map procedure_of ps)) c.as_slice.ensures) c.loop-word-test.false
    c.loop-word.invariant
