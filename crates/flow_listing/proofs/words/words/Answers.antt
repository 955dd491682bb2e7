use Rattle.flow_listing.proofs.Sets.{all_words}
use Rattle.flow_listing.proofs.words.words.Goals as goal

pub returns : goal.returns
returns c = all_words _ _ _ _ _ _ _ _ _ _ c.in_ok-cells.ensures.ascending
    c.in_ok-cells.ensures.exact c.in_ok-nodes.ensures.ascending c.in_ok-nodes.ensures.exact
    c.in_ok-number.ensures c.new-out.ensures
    (rw c.as_slice-sites.ensures at c.in_ok-add_cells.ensures)
    (rw c.as_slice-tags.ensures at c.in_ok-add_tags.ensures) c.in_ok-add_number.ensures
