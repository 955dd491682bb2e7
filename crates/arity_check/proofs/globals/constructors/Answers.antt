use Rattle.std.proofs.Common.{arith}
use Rattle.std.specs.Ordering.{nat_cmp}
use Rattle.std.specs.BTreeMap.{get}
use Rattle.std.proofs.lemmas.Grind.{common_steps}
use Rattle.core_reader.specs.declared.syntax.Data.{Data}
use Rattle.arity_check.proofs.Steps.{first_con}
use Rattle.arity_check.proofs.globals.constructors.Goals as goal
use Rattle.arity_check.proofs.globals.constructors.Goals.{then-not-contains_key+in-Ok+in_ok-insert, else-not-contains_key}

pub loop-i-preserved : goal.loop-i-preserved
loop-i-preserved c = λ q.
    let none : Data = record { name = record { 0 = 0 }; fields = 0; at = 0 } in
    let h = first_con c.args.constructors.now c.loop-i.i none (get nat_cmp c.loop-i.table q) q _
    (omega arith) (c.loop-i.invariant q) in
    elim c.if-not-contains_key.branch [
      | then-not-contains_key+in-Ok+in_ok-insert w ↦ grind (arith, common_steps, h)
      | else-not-contains_key w ↦ grind (arith, common_steps, h)
    ]
