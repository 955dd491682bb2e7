use Rattle.std.proofs.Common.{◌≡◌, List, [], ◌∷◌, length, map, sym, ap, subst, ◌∙◌}
use Rattle.seq.proofs.Lists.{is_empty}
use Rattle.seq.proofs.Results.{ok_follows}
use Rattle.unification.specs.Trees.{Tree, Made}
use Rattle.core_types.specs.Nodes.{TakesArguments}
use Rattle.core_types.specs.Typing.{Typed, Arrow}
use Rattle.core_types.specs.Sides.{type_of, typed_of, trees_from}
use Rattle.core_types.proofs.Sided.{type-Int, type-Named, named_from, integer_from, arrow_from}
use Rattle.core_types.proofs.sides.made.Goals as goal

pub returns-in-Named : goal.returns-in-Named
returns-in-Named c = λ ts e.
    type-Named (record { 0 = c.in-Named.name }) c.args.args ∙ named_from c.in-Named.name
    (map type_of c.args.args) ts e ∙ ap (λ y. typed_of (Made y (trees_from ts)))
    (sym c.in-Named.is)

pub arrow-requires : goal.arrow-requires
arrow-requires c = subst (λ s. TakesArguments s (length c.args.args)) c.in-Arrow.is c.requires

pub returns-in-Arrow : goal.returns-in-Arrow
returns-in-Arrow c =
    ok_follows
    (λ t. (u v : Typed) × (map type_of c.args.args ≡ u ∷ (v ∷ [])) × (type_of t ≡ Arrow u v))
    (λ t. (ts : List Tree) → map type_of c.args.args ≡ map typed_of ts
    → type_of t ≡ typed_of (Made c.args.symbol (trees_from ts))) c.arrow.result
    (λ t a ts e. a.3 ∙ arrow_from a.0 a.1 ts (sym a.2 ∙ e)
    ∙ ap (λ y. typed_of (Made y (trees_from ts))) (sym c.in-Arrow.is)) c.arrow.ensures

pub returns-in-Integer : goal.returns-in-Integer
returns-in-Integer c = λ ts e.
    let none : c.args.args ≡ [] = is_empty c.args.args
    (subst (λ s. TakesArguments s (length c.args.args)) c.in-Integer.is c.requires) in
    type-Int ∙ integer_from (map type_of c.args.args) ts (ap (map type_of) none) e ∙ ap
    (λ y. typed_of (Made y (trees_from ts))) (sym c.in-Integer.is)
