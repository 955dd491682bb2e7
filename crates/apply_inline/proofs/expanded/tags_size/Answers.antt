use Rattle.std.proofs.Common.{ap, ◌∙◌, arith}
use Rattle.inline_theory.specs.Expanded.{saturated_at_64_bits, tags_size}
use Rattle.grin_rewrite.proofs.OpenedLoop.{kept_yes, kept_no, kept_all}
use Rattle.apply_inline.proofs.Sums.{sizes_more}
use Rattle.apply_inline.proofs.expanded.tags_size.Goals.{in-Some, in_default}
use Rattle.apply_inline.proofs.expanded.tags_size.Goals as goal

pub loop-t-preserved : goal.loop-t-preserved
loop-t-preserved g c =
    let size = g.O.OpensBySize.size c.args.of.now in
    let tags = g.O.OpensBySize.tags c.args.of.now in
    let meets = g.O.OpensBySize.meets c.args.of.now in
    elim c.match-met.branch [
      | in-Some w ↦ let e = sizes_more size tags _ _ _ _
          (kept_yes meets c.args.tags.now c.loop-t.t-index _ c.loop-t-test.true w.in-Some.ensures.0)
          w.in-Some.ensures.1 in omega arith
      | in_default w ↦ let e = ap (tags_size size tags)
          (kept_no meets c.args.tags.now c.loop-t.t-index _ c.loop-t-test.true w.in_default.ensures)
          in omega arith
    ]

pub returns : goal.returns
returns g c = c.loop-t.invariant ∙ ap
    (λ l. saturated_at_64_bits
    (tags_size (g.O.OpensBySize.size c.args.of.now) (g.O.OpensBySize.tags c.args.of.now) l))
    (kept_all (g.O.OpensBySize.meets c.args.of.now) c.args.tags.now c.loop-t.t-index
    c.loop-t-test.false)
