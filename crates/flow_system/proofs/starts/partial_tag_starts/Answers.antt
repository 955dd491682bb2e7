use Rattle.std.proofs.Common.{◌≡◌, suc, ◌-◌, subst, arith}
use Rattle.seq.proofs.Lists.{get_is}
use Rattle.flow_system.specs.Starts.{NoPartTagBeforeStart}
use Rattle.flow_system.proofs.starts.partial_tag_starts.Goals as goal

pub back-preserved : goal.back-preserved
back-preserved c =
    let e : c.back.at ≡ suc (c.back.at - 1) = omega arith in
    record {
      within = omega arith;
      begin = c.note.ensures c.args.tags.now
          (get_is c.args.tags.now (c.back.at - 1) _ (omega arith) c.index-tags-at.is)
          (subst (NoPartTagBeforeStart c.args.tags.now c.back.starts.items) e
          c.back.invariant.begin);
    }
