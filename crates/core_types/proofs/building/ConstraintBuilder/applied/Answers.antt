use Rattle.std.proofs.Common.{◌≡◌, [], ◌∷◌, map, refl, sym, ap, subst, ◌∙◌}
use Rattle.core_reader.specs.Tree.{Application, term as term_of, terms_of, application}
use Rattle.core_reader.proofs.TreeOf.{application_of}
use Rattle.core_types.specs.declared.building.ConstraintBuilder.{ConstraintBuilder}
use Rattle.core_types.specs.Typing.{arrows, constraint, head_place, term_type, terms_types}
use Rattle.core_types.specs.Nodes.{DenoteEach}
use Rattle.core_types.specs.Building.{application_constraint}
use Rattle.core_types.specs.Bare.{place_of}
use Rattle.core_types.proofs.Denoting.{grows_then}
use Rattle.core_types.proofs.Heads.{bare_place}
use Rattle.core_types.proofs.Adding.{locals_kept, adds_nodes, adds_then, adds_as}
use Rattle.core_types.proofs.building.ConstraintBuilder.applied.Goals as goal

pub returns : goal.returns
returns c = λ s ls t k i d.
    let b : ConstraintBuilder = c.args.self.now in
    let n1 = c.bare_type.new.nodes in
    let n2 = c.terms_types.new.nodes in
    let n3 = c.arrows.new.nodes in
    let b3 : ConstraintBuilder = record b { nodes = n3 } in
    let app = c.args.app.now in
    let head = term_of app.head in
    let ht = term_type s ls head in
    let atoms = c.as_slice-args.result.now in
    let ts = terms_types s ls (terms_of (map term_of atoms)) in
    let h = c.in_ok-head.ensures s ls head c.bare-bare.ensures k i.sound i.locals in
    let f = c.in_ok-from.ensures s ls k h.grows.sound
    (locals_kept b.nodes n1 h.grows ls b.scope i.locals) in
    let both = grows_then b.nodes n1 n2 h.grows f.grows in
    let r = c.in_ok-right.ensures ts t f.grows.sound
    (subst (DenoteEach n2 ts) (sym c.deref.ensures.value) f.each) (both.one t c.args.expected d)
    in
    let all = grows_then b.nodes n2 n3 both r.grows in
    let e = c.in_ok-equate.ensures s ht (arrows ts t) r.grows.sound
    ((grows_then n1 n2 n3 f.grows r.grows).one ht c.in_ok-head.head h.denotes) r.denotes in
    let at : head_place s head ≡ c.place_of.result = bare_place s ls head ∙ ap place_of
    (sym c.bare-bare.ensures) ∙ sym c.place_of.ensures in
    adds_as b c.equate.new.self (constraint s c.place_of.result ht (arrows ts t) ∷ [])
    (application_constraint s ls t (application app) ∷ [])
    (ap (λ (a : Application). application_constraint s ls t a ∷ []) (application_of app)
    ∙ (λ j. constraint s (at j) ht
    (arrows (terms_types s ls (terms_of (map term_of (sym c.as_slice-args.ensures j)))) t) ∷
    []))
    (adds_then b b3 c.equate.new.self [] (constraint s c.place_of.result ht (arrows ts t) ∷ [])
    (adds_nodes b b3 all refl refl refl) e)
