use Rattle.std.proofs.Common.{◌∙◌, arith}
use Rattle.arity_check.specs.Program.{program}
use Rattle.grin_translate.proofs.Lookups.{waits_place, waits_absent, many_tags, tags_more}
use Rattle.grin_translate.proofs.numbering.NumberedProgram.waits.Goals as goal

pub overflow_add-result : goal.overflow_add-result
overflow_add-result c = omega (
  arith,
  c.args.self.now.exact.tags,
  c.args.self.now.exact.constructors,
  tags_more (program c.args.self.now.p.now),
)

pub overflow_add-result-then-place-self : goal.overflow_add-result-then-place-self
overflow_add-result-then-place-self c = omega (
  arith,
  c.args.self.now.exact.tags,
  c.args.self.now.exact.constructors,
  c.args.self.now.exact.waiting,
  tags_more (program c.args.self.now.p.now),
)

pub returns-then-place-self : goal.returns-then-place-self
returns-then-place-self c =
    let there = waits_place (program c.args.self.now.p.now) c.args.delay
    (omega (arith, c.place-place.ensures, c.args.self.now.exact.waiting)) in
    omega (arith, there, c.place-place.ensures, c.args.self.now.exact.constructors)

pub returns : goal.returns
returns c = c.args.self.now.exact.tags ∙ many_tags (program c.args.self.now.p.now) ∙ waits_absent
    (program c.args.self.now.p.now) c.args.delay
    (omega (arith, c.place-place.ensures, c.args.self.now.exact.waiting))
