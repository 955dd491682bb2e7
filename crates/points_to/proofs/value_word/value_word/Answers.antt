use Rattle.std.proofs.Common.{◌≡◌, ◌++◌, OnOk, sym, subst}
use Rattle.flow_system.specs.Shown.{tables_of}
use Rattle.points_to.specs.Known.{held}
use Rattle.points_to.specs.ValueWords.{vector_words, value_words}
use Rattle.points_to.proofs.value_word.value_word.Goals as goal

pub returns-in-Vector : goal.returns-in-Vector
returns-in-Vector c =
    let p = tables_of c.args.system.now in
    let H = held c.args.facts.now in
    subst (λ v. OnOk c.vector_word.result
    (c.vector_word.new.out ≡ c.args.out.now ++ value_words p H v c.args.i)) (sym c.in-Vector.is)
    (subst (λ ws. OnOk c.vector_word.result
    (c.vector_word.new.out ≡ c.args.out.now ++ vector_words p H ws c.args.i))
    c.as_slice-in-Vector.ensures c.vector_word.ensures)
