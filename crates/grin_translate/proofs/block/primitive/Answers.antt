use Rattle.std.proofs.Common.{◌≡◌, IfOk, map, subst, ap, ◌∙◌, arith}
use Rattle.arity_check.specs.Program.{program}
use Rattle.grin_syntax.specs.Tree.{before_of, code_of, all_before}
use Rattle.grin_translate.specs.Blocks.{word}
use Rattle.grin_translate.specs.Pieces.{evaluated_of}
use Rattle.grin_translate.proofs.Pushed.{primitive_is}
use Rattle.grin_translate.proofs.block.primitive.Goals as goal
use Rattle.grin_syntax.specs.Fresh.{variable}

pub returns-clause-is : goal.returns-clause-is
returns-clause-is c =
    let p = program c.args.numbered.now.p.now in
    let base = c.args.variables.now.base in
    let t = c.args.variables.now.bound in
    let b1 = c.in_ok-first.ensures.base in
    let n1 = c.in_ok-first.ensures.next in
    let b2 = c.in_ok-i.ensures.base in
    let n2 = c.in_ok-i.ensures.next in
    let b3 = c.in_ok-second.ensures.base in
    let n3 = c.in_ok-second.ensures.next in
    let b4 = c.in_ok-j.ensures.base in
    let n4 = c.in_ok-j.ensures.next in
    subst (λ z. IfOk c.evaluated-2.result
    (λ b. code_of b ≡ all_before (map before_of c.args.before) z))
    (primitive_is p base t c.args.op c.in_ok-a.a c.in_ok-b.b (word p base c.args.x)
    (word p base c.args.y) c.in_ok-first.first c.in_ok-i.i c.in_ok-second.second c.in_ok-j.j
    c.in_ok-k.k (code_of c.in_ok-inner.inner) (code_of c.in_ok-middle.middle)
    c.in_ok-a.ensures
    c.in_ok-b.ensures
    c.in_ok-first.ensures.is
    (c.in_ok-i.ensures.is ∙ ap variable (omega (arith, b1, n1)))
    (c.in_ok-second.ensures.is ∙ ap variable (omega (arith, b1, n1, b2, n2)))
    (c.in_ok-j.ensures.is ∙ ap variable (omega (arith, b1, n1, b2, n2, b3, n3)))
    (c.in_ok-k.ensures.is ∙ ap variable (omega (arith, b1, n1, b2, n2, b3, n3, b4, n4)))
    c.in_ok-inner.ensures
    (c.in_ok-middle.ensures ∙ ap
    (λ ss. all_before (map before_of ss)
    (evaluated_of p c.in_ok-b.b c.in_ok-second.second c.in_ok-j.j
    (code_of c.in_ok-inner.inner))) c.new.ensures))
    c.evaluated-2.ensures
