use Rattle.std.proofs.Common.{ℕ, ◌++◌, ap, subst, ◌∙◌}
use Rattle.std.specs.Prelude.{codes}
use Rattle.core_types.specs.declared.sides.Ty.{Ty}
use Rattle.core_types.specs.declared.refusal.TypeRefusal.TheVariants as refusal
use Rattle.core_types.specs.Refused.{IsRefusal}
use Rattle.core_types.specs.Sides.{type_of}
use Rattle.core_types.specs.Shown.{shown_sides}
use Rattle.text_commands.specs.Typing.{Apart}
use Rattle.text_commands.proofs.sides.sided.Goals as goal

pub returns-in-Fault-clause-refused : goal.returns-in-Fault-clause-refused
returns-in-Fault-clause-refused c =
    let h : IsRefusal c.args.text.now (refusal.Fault c.in-Fault.fault)
    = subst (IsRefusal c.args.text.now) c.in-Fault.is c.requires in
    c.type_failure_status.ensures.another h.1 c.args.text.now h.0

pub returns-in-Ok-clause-made : goal.returns-in-Ok-clause-made
returns-in-Ok-clause-made c =
    let at : ℕ = c.in-Mismatch.field-0 in
    let left : Ty = c.in-Mismatch.left in
    let right : Ty = c.in-Mismatch.right in
    let h : IsRefusal c.args.text.now (refusal.Mismatch at left right c.in-Mismatch.names)
    = subst (IsRefusal c.args.text.now) c.in-Mismatch.is c.requires in
    Apart h.1.0 h.0 h.1.1 h.1.2 (c.in-Ok.ensures
    ∙ ap (λ names. shown_sides names (type_of left) (type_of right) ++ codes "\n") h.1.3)
