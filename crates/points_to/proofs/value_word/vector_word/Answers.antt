use Rattle.std.proofs.Common.{◌≡◌, ◌++◌, ◌-◌, suc, OnOk, subst, arith}
use Rattle.flow_system.specs.Shown.{tables_of}
use Rattle.points_to.specs.Known.{held}
use Rattle.points_to.specs.ValueWords.{vector_words}
use Rattle.points_to.proofs.value_word.vector_word.Goals as goal

pub returns : goal.returns
returns c =
    let next : suc (c.args.i - 1) ≡ c.args.i = omega (arith, c.if-i-eq0.false) in
    subst (λ n. OnOk c.vector_field.result
    (c.vector_field.new.out ≡ c.args.out.now ++ vector_words (tables_of c.args.system.now)
    (held c.args.facts.now) c.args.words.now n)) next c.vector_field.ensures
