use Rattle.std.proofs.Common.{◌≡◌, ◌-◌, ◌<◌, suc, sym, arith}
use Rattle.flow_system.specs.Shown.{tables_of, inclusions_of, inclusion_of}
use Rattle.grin_syntax.specs.declared.program.Word.TheVariants.{Var}
use Rattle.points_to.specs.Copies.{HoldsFetched}
use Rattle.points_to.specs.Kept.{IsSound}
use Rattle.seq.proofs.Lists.{map_get}
use Rattle.points_to.proofs.CopiesSound.{when_some, field_holds}
use Rattle.points_to.proofs.copies.linked.Goals as goal

pub returns-in-Some-field : goal.returns-in-Some-field
returns-in-Some-field c =
    let p = tables_of c.args.system.now in
    let cs = inclusions_of c.args.system.now in
    let k = c.args.kept.now in
    let f = c.args.fetch in
    let next : f.word ≡ suc (f.word - 1) = omega (arith, c.if-fetch-eq0.false) in
    let lt : f.word - 1 < c.in-Some.fields = omega
    (arith, c.if-fetch-fields.false, c.if-fetch-eq0.false) in
    when_some c.as_variable.result (λ x. c.in-Some-field.w ≡ Var x)
    (λ x. IsSound p cs k → HoldsFetched p cs f x.0)
    (λ x e. field_holds p cs k f c.args.n c.args.t c.in-Some.fields (f.word - 1)
    (inclusion_of c.in-Some-get.inclusion.now) c.in-Some-value_in.v.now c.in-Some-field.w x
    (sym c.in-Some.ensures) lt next (c.reaches.ensures c.if-not-reaches.false)
    (map_get inclusion_of c.args.system.now.inclusions c.args.n c.in-Some-get.inclusion.now
    (sym c.in-Some-get.ensures.value)) (sym c.in-Some-value_in.ensures) c.in-Some-field.ensures
    e)
    c.as_variable.ensures
