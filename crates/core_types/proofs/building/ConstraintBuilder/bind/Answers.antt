use Rattle.std.proofs.Common.{rules, ◌≡◌, ◌∷◌, refl, sym, ap, subst, ◌∙◌}
use Rattle.arity_check.specs.Tables.{known}
use Rattle.core_types.specs.declared.building.ConstraintBuilder.{ConstraintBuilder}
use Rattle.core_types.specs.Building.{EntersLocals}
use Rattle.core_types.proofs.Grouped.{hidden, seen}
use Rattle.core_types.proofs.Adding.{enters_none, enters_one}
use Rattle.core_types.proofs.building.ConstraintBuilder.bind.Goals as goal

pub returns-then-is_nameless : goal.returns-then-is_nameless
returns-then-is_nameless c = λ s ls t k i d.
    subst (EntersLocals c.args.self.now c.args.self.now)
    (sym (hidden s ls (known c.args.context.now.globals.now) c.args.binder t
    c.is_nameless.result k.names c.is_nameless.ensures c.if-is_nameless.true))
    (enters_none c.args.self.now ls i)

pub returns : goal.returns
returns c = λ s ls t k i d.
    let b : ConstraintBuilder = c.args.self.now in
    let b' : ConstraintBuilder = record b { scope = c.bind.new.self } in
    let local_is : c.in-Ok.local ≡ c.args.term = search rules in
    subst (EntersLocals b b')
    (sym (seen s ls (known c.args.context.now.globals.now) c.args.binder t c.is_nameless.result
    k.names c.is_nameless.ensures c.if-is_nameless.false))
    (enters_one b b' ls c.args.binder.name.0 c.args.term t refl refl refl
    (c.in_ok-bind.ensures ∙ ap (λ x. (c.args.binder.name.0, x) ∷ b.scope) local_is) i d)
