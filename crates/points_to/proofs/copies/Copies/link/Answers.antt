use Rattle.std.proofs.Common.{sym}
use Rattle.std.specs.List.{flat_map}
use Rattle.flow_system.specs.Shown.{tables_of, inclusions_of}
use Rattle.points_to.specs.Bits.{block_words}
use Rattle.points_to.proofs.CopiesSound.{one_linked, link_fetched}
use Rattle.points_to.proofs.copies.Copies.link.Goals as goal

pub returns-in_ok-put-in-Some-linked : goal.returns-in_ok-put-in-Some-linked
returns-in_ok-put-in-Some-linked c =
    let p = tables_of c.args.system.now in
    let cs = inclusions_of c.args.system.now in
    let k = c.args.kept.now in
    let before = c.args.self.now in
    let after = c.put_link.new.self in
    let g = c.args.g in
    let f = c.in-Some.fetch in
    let x = c.in-Some-linked.x.0 in
    let us = flat_map block_words c.word_blocks.result.now in
    let put = c.in_ok-put_link-in-Some-linked.ensures in
    λ sound copied. c.in_ok-put-in-Some-linked.ensures p cs
    (λ f' at. link_fetched p cs k before after x g f f' us put.fetches (sym c.in-Some.ensures) at
    (c.in-Some-linked.ensures sound) c.word_blocks.ensures sound)
    (one_linked p cs before after x g f put.fetches put.links (sym c.in-Some.ensures)
    (c.in-Some-linked.ensures sound) copied)
