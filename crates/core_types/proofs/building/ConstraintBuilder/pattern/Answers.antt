use Rattle.std.proofs.Common.{[], ◌∷◌, refl}
use Rattle.core_types.specs.SourceOf.{type_of, constructor_of}
use Rattle.core_types.specs.declared.building.ConstraintBuilder.{ConstraintBuilder}
use Rattle.core_types.specs.Typing.{Int, applied, used_at, constraint, of_pattern}
use Rattle.core_types.proofs.Branched.{con_constraint, int_constraint}
use Rattle.core_types.proofs.Adding.{adds_nodes, adds_then, adds_as}
use Rattle.core_types.proofs.building.ConstraintBuilder.pattern.Goals as goal

pub returns-in_ok-equate-in-Con : goal.returns-in_ok-equate-in-Con
returns-in_ok-equate-in-Con c = λ s ls u k i d.
    let b : ConstraintBuilder = c.args.self.now in
    let b1 : ConstraintBuilder = record b { nodes = c.applied.new.nodes } in
    let b2 = c.equate.new.self in
    let p = c.args.pattern.now in
    let name = c.in-Con.name in
    let declared = type_of c.in-Some.found.declared.now in
    let t = applied s declared (used_at s name.at) in
    let r = c.in_ok-right-in-Con.ensures s i.sound in
    let e = c.in_ok-equate-in-Con.ensures s u t r.grows.sound (r.grows.one u c.args.scrutinee d)
    r.denotes in
    adds_as b b2 (constraint s name.at u t ∷ []) (of_pattern s u p)
    (con_constraint s u ls p name c.in-Con.field-1 c.in-Con.is declared
    (constructor_of c.in-Some.found.constructor.now) (c.in-Some.ensures s k))
    (adds_then b b1 b2 [] (constraint s name.at u t ∷ []) (adds_nodes b b1 r.grows refl refl refl)
    e)

pub returns-in_ok-equate-in-Int : goal.returns-in_ok-equate-in-Int
returns-in_ok-equate-in-Int c = λ s ls u k i d.
    let b : ConstraintBuilder = c.args.self.now in
    let b1 : ConstraintBuilder = record b { nodes = c.integer.new.self } in
    let b2 = c.equate-in-Int.new.self in
    let p = c.args.pattern.now in
    let at = c.in-Int.at in
    let r = c.in_ok-right-in-Int.ensures i.sound in
    let e = c.in_ok-equate-in-Int.ensures s u Int r.grows.sound (r.grows.one u c.args.scrutinee d)
    r.denotes in
    adds_as b b2 (constraint s at u Int ∷ []) (of_pattern s u p)
    (int_constraint s u ls p c.in-Int.field-0 at c.in-Int.is)
    (adds_then b b1 b2 [] (constraint s at u Int ∷ []) (adds_nodes b b1 r.grows refl refl refl) e)
