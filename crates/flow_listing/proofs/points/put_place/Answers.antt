use Rattle.std.specs.Prelude.{codes}
use Rattle.std.specs.Ordering.{nat_cmp}
use Rattle.std.specs.BTreeMap as tree
use Rattle.grin_syntax.specs.Tree.{program_of}
use Rattle.points_to.specs.Found.{found}
use Rattle.flow_listing.specs.Text.{node_text, word_text}
use Rattle.flow_listing.proofs.Sets.{place_put}
use Rattle.flow_listing.proofs.points.put_place.Goals as goal

pub returns : goal.returns
returns c = place_put (found c.args.flow.now) c.args.place
    (node_text (program_of c.args.g.now) (tree.get nat_cmp c.args.names.now) (found c.args.flow.now)
    c.args.place) (word_text (program_of c.args.g.now) (tree.get nat_cmp c.args.names.now))
    (codes "\n") _ _ _ _ _ _ c.in_ok-nodes.ensures.ascending c.in_ok-nodes.ensures.exact
    c.in_ok-alone.ensures (rw c.as_slice-tags.ensures at c.in_ok-put_nodes.ensures)
    (rw c.as_slice-words.ensures at c.in_ok-put_words.ensures) c.in_ok-put.ensures
