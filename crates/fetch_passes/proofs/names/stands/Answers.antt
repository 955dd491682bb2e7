use Rattle.std.proofs.Common.{rules, pos}
use Rattle.grin_syntax.specs.declared.program.Word.TheVariants.{Lit, Var}
use Rattle.fetch_passes.proofs.Loops.{stands_next}
use Rattle.fetch_passes.proofs.names.stands.Goals as goal

pub loop-name-preserved : goal.loop-name-preserved
loop-name-preserved c = stands_next c.args.names.now c.loop-name.name-index
    (record { var = record { 0 = 0 }; word = Lit (pos 0) }) (Var c.args.x) _ _ c.args.x
    c.loop-name-test.true (search rules) c.loop-name.invariant
