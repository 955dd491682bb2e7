use Rattle.std.proofs.Common.{◌-◌, map, refl, arith}
use Rattle.std.proofs.lemmas.Option.{slice_get_read}
use Rattle.seq.proofs.Lists.{map_get}
use Rattle.grin_syntax.specs.Tree.{program_of}
use Rattle.grin_compile.specs.Passed.{SlimBeside}
use Rattle.grin_compile.proofs.Passed.{one_less}
use Rattle.grin_compile.proofs.later.last_slim.Goals as goal

pub loop-end-preserved : goal.loop-end-preserved
loop-end-preserved c =
    let stages = c.args.stages.now in
    let so_far = c.loop-end.invariant in
    let test = c.loop-end-test.true in
    let at = c.loop-end.end - 1 in
    let there = map_get program_of stages at _
    (slice_get_read stages _ at _ refl (omega (arith, so_far.0, test)) c.index-stages-end.is)
    in (
      omega (arith, so_far.0),
      one_less (SlimBeside c.args.sizes) (map program_of stages) at _
          (λ k h from. so_far.1 k h (omega (arith, from, test))) there
          (c.is_slim.ensures.large c.if-is_slim.false),
    )
