use Rattle.std.proofs.Common.{arith}
use Rattle.std.specs.Ordering.{nat_cmp}
use Rattle.std.specs.BTreeMap.{get}
use Rattle.std.proofs.lemmas.Grind.{common_steps}
use Rattle.core_reader.specs.declared.syntax.Data.{Data}
use Rattle.match_compile.proofs.Walks.{more_fields}
use Rattle.match_compile.proofs.rules.fields_of.Goals as goal
use Rattle.match_compile.proofs.rules.fields_of.Goals.{then-not-contains_key+in_ok-insert, else-not-contains_key}

pub loop-constructor-preserved : goal.loop-constructor-preserved
loop-constructor-preserved c = λ q.
    let none : Data = record { name = record { 0 = 0 }; fields = 0; at = 0 } in
    let h = more_fields c.args.constructors.now c.loop-constructor.constructor-index none
    (get nat_cmp c.loop-constructor.fields q) q _ (omega arith) (c.loop-constructor.invariant q)
    in
    elim c.if-not-contains_key.branch [
      | then-not-contains_key+in_ok-insert w ↦ grind (arith, common_steps, h)
      | else-not-contains_key w ↦ grind (arith, common_steps, h)
    ]
