use Rattle.std.proofs.Common.{rules, ◌≡◌, false, not, nat_eq, Some, None, slice_get, refl}
use Rattle.arity_check.specs.declared.normal.Checked.{Checked}
use Rattle.arity_check.specs.declared.normal.Fun.{Fun}
use Rattle.arity_check.specs.Program.{program}
use Rattle.grin_translate.specs.Tags.{takes_input}
use Rattle.grin_translate.proofs.Delayed.{params-from_get, params-from_none}
use Rattle.grin_translate.proofs.waiting.takes_input.Goals as goal

takes_if : (p : Checked) (f : Fun) → slice_get p.funs p.main ≡ Some f
    → not (nat_eq f.params 0) ≡ takes_input (program p)
unfolding takes_input
takes_if p f e = rw (params-from_get p p.main f e) refl

takes_none : (p : Checked) → slice_get p.funs p.main ≡ None → false ≡ takes_input (program p)
unfolding takes_input
takes_none p e = rw (params-from_none p p.main e) refl

pub returns-in-Some : goal.returns-in-Some
returns-in-Some c = takes_if c.args.p.now c.in-Some.main.now (search rules)

pub returns-in-None : goal.returns-in-None
returns-in-None c = takes_none c.args.p.now (search rules)
