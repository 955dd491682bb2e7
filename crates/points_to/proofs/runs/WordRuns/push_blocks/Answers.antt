use Rattle.std.proofs.Common.{◌++◌, ap, ◌∙◌}
use Rattle.std.specs.List.{flat_map}
use Rattle.std.proofs.lemmas.List.Concat.{flat_map-append}
use Rattle.points_to.specs.Bits.{block_words}
use Rattle.points_to.proofs.runs.WordRuns.push_blocks.Goals as goal

pub returns : goal.returns
returns c = ap (flat_map block_words) c.in_ok-extend_from_slice.ensures.items ∙ flat_map-append
    block_words _ c.args.blocks.now ∙ ap (λ l. l ++ flat_map block_words c.args.blocks.now)
    c.self.view_is
