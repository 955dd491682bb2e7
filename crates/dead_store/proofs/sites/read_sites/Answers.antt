use Rattle.std.proofs.Common.{map, subst, ap, ◌∙◌}
use Rattle.grin_syntax.specs.Tree.{procedure_of, program_of}
use Rattle.points_to.specs.Found.{found}
use Rattle.points_to.specs.Joined.{Joined}
use Rattle.dead_store.specs.Reads.{reads_of}
use Rattle.dead_store.proofs.SiteSets.{global_sites, sites_next, sites_done}
use Rattle.dead_store.proofs.sites.read_sites.Goals as goal

pub loop-word-init : goal.loop-word-init
loop-word-init c = global_sites (found c.args.flow.now) (program_of c.args.g.now) _ _
    c.new-sites.ensures.empty
    (subst (λ gs. Joined c.new-sites.result.keys (map (λ c. c.site.0) gs)
    c.put_globals.new.sites.keys) c.as_slice.ensures c.in_ok-put_globals.ensures)

pub loop-word-preserved : goal.loop-word-preserved
loop-word-preserved c = sites_next (found c.args.flow.now) (program_of c.args.g.now) _ _ _ _ _
    c.loop-word-test.true c.loop-word.invariant c.in_ok-put_word.ensures

pub returns : goal.returns
returns c =
    sites_done (found c.args.flow.now) (program_of c.args.g.now) c.args.updates_count _ _
    c.loop-word.sites.keys
    (c.as_slice-word-items.ensures ∙ c.in_ok-words.ensures ∙ ap
    (λ ps. reads_of c.args.updates_count (map procedure_of ps)) c.as_slice-procs.ensures)
    c.loop-word-test.false c.loop-word.invariant
