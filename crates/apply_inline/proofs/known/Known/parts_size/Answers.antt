use Rattle.std.proofs.Common.{map, sym, ap, ◌∙◌}
use Rattle.grin_syntax.specs.Tree.{program_of}
use Rattle.points_to.specs.Found.{found}
use Rattle.inline_theory.specs.Expanded.{saturated_at_64_bits, applied_size, tags_size}
use Rattle.apply_inline.proofs.Filtered.{parts_filtered}
use Rattle.apply_inline.proofs.known.Known.parts_size.Goals as goal

pub returns : goal.returns
returns c =
    c.tags_size.ensures ∙ ap
    (λ l. saturated_at_64_bits (tags_size applied_size c.args.self.now.program.now.tags l))
    (sym (parts_filtered (program_of c.args.self.now.program.now)
    (found c.args.self.now.flow.now) c.args.v.now (map (λ t. t.0) c.candidates.result.now)
    c.candidates.ensures))
