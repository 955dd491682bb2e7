use Rattle.std.proofs.Common.{rules, ◌≡◌, ◌+◌, ◌-◌, Some, None, slice_get, ◌∙◌, ap, subst, arith}
use Rattle.arity_check.specs.Program.{program}
use Rattle.grin_translate.proofs.Lookups.{lacks_place, lacks_fit, lacks_none, lacks_many, no_params, many_tags}
use Rattle.grin_translate.proofs.numbering.NumberedProgram.lacks.Goals as goal

pub returns-then-missing-eq0 : goal.returns-then-missing-eq0
returns-then-missing-eq0 c = c.args.self.now.exact.tags ∙ many_tags (program c.args.self.now.p.now)
    ∙ lacks_none (program c.args.self.now.p.now) c.args.f c.args.missing (omega arith)

pub returns-then-params-missing : goal.returns-then-params-missing
returns-then-params-missing c = c.args.self.now.exact.tags ∙ many_tags
    (program c.args.self.now.p.now) ∙ lacks_many (program c.args.self.now.p.now) c.args.f
    c.args.missing (omega (arith, c.params-params.ensures))

pub overflow_add-result : goal.overflow_add-result
overflow_add-result c =
    let at : slice_get c.args.self.now.numbers.parts c.args.f ≡ Some c.in-Some.first.now
    = search rules in
    let there = subst (λ xs. slice_get xs c.args.f ≡ Some c.in-Some.first.now)
    c.args.self.now.exact.parts at in
    omega (
      arith,
      lacks_fit (program c.args.self.now.p.now) c.args.f c.in-Some.first.now there,
      c.params-params.ensures,
      c.args.self.now.exact.tags,
    )

pub returns-in-Some : goal.returns-in-Some
returns-in-Some c =
    let at : slice_get c.args.self.now.numbers.parts c.args.f ≡ Some c.in-Some.first.now
    = search rules in
    let there = subst (λ xs. slice_get xs c.args.f ≡ Some c.in-Some.first.now)
    c.args.self.now.exact.parts at in
    ap (λ k. c.in-Some.first.now + (k - c.args.missing)) c.params-params.ensures
    ∙ lacks_place (program c.args.self.now.p.now) c.args.f c.args.missing c.in-Some.first.now there
    (omega arith) (omega (arith, c.params-params.ensures))

pub returns-in-None : goal.returns-in-None
returns-in-None c =
    let at : slice_get c.args.self.now.numbers.parts c.args.f ≡ None = search rules in
    let there = subst (λ xs. slice_get xs c.args.f ≡ None) c.args.self.now.exact.parts at in
    absurd (omega
    (arith, no_params (program c.args.self.now.p.now) c.args.f there, c.params-params.ensures))
