use Rattle.std.proofs.Common.{ap, refl, ◌∙◌}
use Rattle.core_reader.specs.Tree.{expr}
use Rattle.match_compile.specs.Trees.{alone_from}
use Rattle.match_compile.specs.RowOf.{rows_of, opening}
use Rattle.match_compile.proofs.Grows.{new_put}
use Rattle.match_compile.proofs.tree.new_branch.Goals as goal

pub returns : goal.returns
returns c =
    new_put c.args.free (expr c.args.body.value) c.args.way c.in_ok-opened.opened c.args.test
    c.in_ok-places.places c.in_ok-places.next (c.in_ok-tree.tree, c.in_ok-tree.free)
    c.in_ok-places.ensures.numbers c.in_ok-places.ensures.next
    (c.in_ok-opened.ensures ∙ ap (opening c.args.way) c.as_slice.ensures)
    (c.in_ok-tree.ensures ∙ ap
    (λ e. alone_from c.in_ok-places.next (rows_of c.in_ok-opened.opened (expr e)))
    c.into_inner.ensures)
    c.args.branches c.push.new.self _ c.in_ok-push.ensures.ok refl refl c.in_ok-boxed.ensures.ok
