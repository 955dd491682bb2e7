use Rattle.std.proofs.Common.{sym, ap, ◌∙◌}
use Rattle.core_reader.specs.Tree.{expr}
use Rattle.match_compile.specs.RowOf.{opening}
use Rattle.match_compile.proofs.Grows.{alone_test}
use Rattle.match_compile.proofs.tree.+alone.Goals as goal

pub returns : goal.returns
returns t c =
    alone_test c.args.free (expr c.args.body) c.args.way c.in_ok-opened.opened c.in-Some.test
    c.in_ok-places.places c.in_ok-places.next (c.in_ok-tree.tree, c.in_ok-tree.free)
    c.in_ok-places.ensures.numbers c.in_ok-places.ensures.next
    (c.in_ok-opened.ensures ∙ ap (opening c.args.way) c.as_slice.ensures) c.in_ok-tree.ensures
    c.in_ok-branches.branches (sym c.first.ensures ∙ c.in-Some.is) c.in_ok-branches.ensures
