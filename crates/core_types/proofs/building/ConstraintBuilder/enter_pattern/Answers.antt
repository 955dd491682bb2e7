use Rattle.std.proofs.Common.{◌≡◌, refl, sym, subst, ◌∙◌}
use Rattle.core_types.specs.SourceOf.{types_in, type_of, constructor_of}
use Rattle.core_types.specs.declared.building.ConstraintBuilder.{ConstraintBuilder}
use Rattle.core_types.specs.Typing.{read_list, used_at, binds_all, with_pattern}
use Rattle.core_types.specs.Nodes.{DenoteEach}
use Rattle.core_types.specs.Building.{EntersLocals}
use Rattle.core_types.proofs.Branched.{con_names, default_names}
use Rattle.core_types.proofs.Adding.{adds_nodes, at_kept, enters_after}
use Rattle.core_types.proofs.building.ConstraintBuilder.enter_pattern.Goals as goal

pub returns-in_ok-bind_all-in-Con : goal.returns-in_ok-bind_all-in-Con
returns-in_ok-bind_all-in-Con c = λ s ls u k i d.
    let b : ConstraintBuilder = c.args.self.now in
    let b1 : ConstraintBuilder = record b { nodes = c.read_all.new.nodes } in
    let b2 = c.bind_all.new.self in
    let p = c.args.pattern.now in
    let name = c.in-Con.name in
    let at = name.at in
    let ts = read_list s (used_at s at) (types_in c.as_slice-fields.result.now) in
    let r = c.in_ok-terms-in-Con.ensures s k.names i.sound in
    let e = c.in_ok-bind_all-in-Con.ensures s ls ts k
    (at_kept b b1 _ ls (adds_nodes b b1 r.grows refl refl refl) i)
    (subst (DenoteEach b1.nodes ts) (sym c.deref.ensures.value) r.each) in
    let same : with_pattern s u p ls ≡ binds_all s c.as_slice.result.now ts ls =
    con_names s u ls p name c.in-Con.binders c.in-Con.is (type_of c.in-Some.found.declared.now)
    (constructor_of c.in-Some.found.constructor.now) (c.in-Some.ensures s k)
    ∙ (λ j. binds_all s (sym c.as_slice.ensures j)
    (read_list s (used_at s at) (types_in (sym c.as_slice-fields.ensures j))) ls) in
    subst (EntersLocals b b2) (sym same)
    (enters_after b b1 b2 (binds_all s c.as_slice.result.now ts ls) r.grows refl refl refl e)

pub returns-in_ok-bind-in-Default : goal.returns-in_ok-bind-in-Default
returns-in_ok-bind-in-Default c = λ s ls u k i d.
    subst (EntersLocals c.args.self.now c.bind.new.self)
    (sym (default_names s u ls c.args.pattern.now c.in-Default.binder c.in-Default.is))
    (c.in_ok-bind-in-Default.ensures s ls u k i d)
