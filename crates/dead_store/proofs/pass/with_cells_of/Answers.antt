use Rattle.std.proofs.Common.{map, ap, ◌∙◌}
use Rattle.grin_syntax.specs.Tree.{procedure_of, program_of}
use Rattle.dead_store.specs.Holding.{set_holds}
use Rattle.dead_store.specs.Without.{is_gone}
use Rattle.dead_store.proofs.Contract.{all_made}
use Rattle.dead_store.proofs.pass.with_cells_of.Goals as goal

pub returns : goal.returns
returns c = all_made (program_of c.args.g) (set_holds c.args.sites.now.keys)
    (set_holds c.in_ok-gone.gone.keys) _
    (λ x. c.in_ok-gone.ensures x ∙ ap
    (λ ps. is_gone (set_holds c.args.sites.now.keys) (map procedure_of ps) x)
    c.as_slice.ensures) c.in_ok-procs.ensures
