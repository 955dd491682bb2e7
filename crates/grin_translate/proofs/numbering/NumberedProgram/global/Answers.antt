use Rattle.std.proofs.Common.{rules, ◌≡◌, Some, None, slice_get, ◌∙◌, subst}
use Rattle.arity_check.specs.Program.{program}
use Rattle.grin_translate.proofs.Lookups.{global_place, global_absent}
use Rattle.grin_translate.proofs.numbering.NumberedProgram.global.Goals as goal

pub returns-in-Some : goal.returns-in-Some
returns-in-Some c =
    let at : slice_get c.args.self.now.numbers.globals c.args.f ≡ Some c.in-Some.n.now
    = search rules in
    global_place (program c.args.self.now.p.now) c.args.f c.in-Some.n.now
    (subst (λ xs. slice_get xs c.args.f ≡ Some c.in-Some.n.now) c.args.self.now.exact.globals
    at)

pub returns-in-None : goal.returns-in-None
returns-in-None c =
    let at : slice_get c.args.self.now.numbers.globals c.args.f ≡ None = search rules in
    c.args.self.now.exact.shared ∙ global_absent (program c.args.self.now.p.now) c.args.f
    (subst (λ xs. slice_get xs c.args.f ≡ None) c.args.self.now.exact.globals at)
