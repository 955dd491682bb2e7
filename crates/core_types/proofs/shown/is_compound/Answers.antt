use Rattle.std.proofs.Common.{ap, sym, ◌∙◌}
use Rattle.core_types.specs.Shown.{is_compound}
use Rattle.core_types.specs.Sides.{type_of}
use Rattle.core_types.proofs.Sided.{type-Named}
use Rattle.core_types.proofs.Showing.{compound_named}
use Rattle.core_types.proofs.shown.is_compound.Goals as goal

pub returns-in-Named : goal.returns-in-Named
returns-in-Named c =
    let named = c.in-Named in
    compound_named named.field-0.0 named.args c.is_empty.result c.is_empty.ensures.0
    c.is_empty.ensures.1
    ∙ ap is_compound (sym (type-Named named.field-0 named.args))
    ∙ ap (λ t. is_compound (type_of t)) (sym named.is)
