use Rattle.std.proofs.Common.{◌∙◌}
use Rattle.unbox_theory.specs.Ends.{is_member}
use Rattle.unbox.proofs.Rounding.{tie_kept}
use Rattle.unbox.proofs.Sweeping.{is_kept, taken_out}
use Rattle.unbox.proofs.blocks.Members.heed.Goals as goal

pub returns-then-kept : goal.returns-then-kept
returns-then-kept c =
    let e = is_kept (is_member c.args.self.now.inside) c.args.tie.now _ _ _ c.as_slice-procs.ensures
    c.has_all.ensures c.both-kept.ensures in
    tie_kept _ _ (e ∙ c.if-kept.true)

pub returns : goal.returns
returns c =
    let e = is_kept (is_member c.args.self.now.inside) c.args.tie.now _ _ _ c.as_slice-procs.ensures
    c.has_all.ensures c.both-kept.ensures in
    taken_out _ _ c.args.tie.now _ _ _ c.as_slice-procs.ensures e c.if-kept.false c.take_all.ensures
