use Rattle.std.proofs.Common.{ℕ, ◌≡◌}
use Rattle.arity_raise.proofs.Each.{in_place, one_more_holds, all_hold}
use Rattle.arity_raise.proofs.Judged.{yes, no}
use Rattle.arity_raise.proofs.cells.ProgramFacts.site_has_only.Goals as goal

pub returns-then-other-tag : goal.returns-then-other-tag
returns-then-other-tag c =
    no _ (λ only. c.if-other-tag.true
    (only _ ((c.tags_at-other-items.ensures.exact _).0
    (in_place (λ t. t.0) c.tags_at-other-items.result.now c.loop-other.other-index
    (record { 0 = 0 }) c.loop-other-test.true))))

pub loop-other-preserved : goal.loop-other-preserved
loop-other-preserved c =
    let P : ℕ → Type 0 = λ u. u ≡ c.args.tag.0 in
    one_more_holds (λ t. t.0) P c.tags_at-other-items.result.now c.loop-other.other-index
    (record { 0 = 0 }) c.loop-other-test.true c.loop-other.invariant c.if-other-tag.false

pub returns : goal.returns
returns c =
    let P : ℕ → Type 0 = λ u. u ≡ c.args.tag.0 in
    let each = all_hold (λ t. t.0) P c.tags_at-other-items.result.now c.loop-other.other-index
    c.loop-other-test.false c.loop-other.invariant in
    yes _ (λ u at. each.by u ((c.tags_at-other-items.ensures.exact u).1 at))
