use Rattle.std.proofs.Common.{◌≡◌, ◌++◌, inl, inr, subst, ⊎_elim}
use Rattle.std.specs.Prelude.{◌⊎◌}
use Rattle.flow_system.specs.declared.fact.Element.{Element}
use Rattle.points_to.specs.Bits.{block_words}
use Rattle.points_to.specs.Held.{In}
use Rattle.seq.proofs.Member.{in_split}
use Rattle.points_to.proofs.Sets.{on_ok}
use Rattle.points_to.proofs.CopiesSound.{fewer_words}
use Rattle.points_to.proofs.copies.put_left.Goals as goal

pub returns : goal.returns
returns c =
    let old = c.args.out.now in
    let new = c.push_block.new.self in
    let block = c.args.block in
    on_ok c.push_block.result (new ≡ old ++ block_words (block.0, c.without-left.result))
    ((u : Element) → In u new → In u old ⊎ In u (block_words block))
    (λ e u h. ⊎_elim (λ a. inl a)
    (λ b. inr (fewer_words block.0 block.1 c.without-left.result c.without-left.ensures u b))
    (in_split old (block_words (block.0, c.without-left.result)) (subst (In u) e h)))
    c.push_block.ensures
