use Rattle.std.proofs.Common.{map, sym, ap, ◌∙◌}
use Rattle.grin_syntax.specs.Tree.{program_of}
use Rattle.points_to.specs.Found.{found}
use Rattle.grin_rewrite.proofs.OpenedLoop.{kept_all}
use Rattle.apply_inline.specs.Applied.{is_nonempty, meets_other}
use Rattle.apply_inline.proofs.Filtered.{others_filtered}
use Rattle.apply_inline.proofs.Loops.{some_kept}
use Rattle.apply_inline.proofs.known.Known.has_other.Goals as goal

pub returns-then-is_other : goal.returns-then-is_other
returns-then-is_other c =
    let p = program_of c.args.self.now.program.now in
    let A = found c.args.self.now.flow.now in
    let ts = c.candidates-t-items.result.now in
    sym (ap is_nonempty
    (others_filtered p A c.args.v.now (map (λ t. t.0) ts) c.candidates-t-items.ensures)
    ∙ some_kept (meets_other p A c.args.v.now) ts c.loop-t.t-index _ c.loop-t-test.true
    (sym c.is_other.ensures ∙ c.if-is_other.true))

pub returns : goal.returns
returns c =
    let p = program_of c.args.self.now.program.now in
    let A = found c.args.self.now.flow.now in
    let ts = c.candidates-t-items.result.now in
    sym (ap is_nonempty
    (others_filtered p A c.args.v.now (map (λ t. t.0) ts) c.candidates-t-items.ensures
    ∙ sym (kept_all (meets_other p A c.args.v.now) ts c.loop-t.t-index c.loop-t-test.false) ∙
    c.loop-t.invariant))
