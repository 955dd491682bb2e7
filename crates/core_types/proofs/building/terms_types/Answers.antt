use Rattle.std.proofs.Common.{map, ap, subst, arith}
use Rattle.std.proofs.lemmas.List.{take_all}
use Rattle.core_reader.specs.Tree.{term as term_of, terms_of}
use Rattle.core_types.specs.Typing.{term_type, terms_types}
use Rattle.core_types.specs.Instances.{AddsTermsForTypes}
use Rattle.core_types.proofs.Heads.{one_type}
use Rattle.core_types.proofs.Adding.{locals_kept}
use Rattle.core_types.proofs.Instancing.{one_given}
use Rattle.core_types.proofs.building.terms_types.Goals as goal

pub loop-atom-preserved : goal.loop-atom-preserved
loop-atom-preserved c = λ s ls k h d.
    let n = c.args.nodes.now in
    let n' = c.loop-atom.nodes in
    let g = c.loop-atom.invariant s ls k h d in
    one_given n n' c.bare_type.new.nodes _ _ c.loop-atom.terms.items c.push.new.self.items
    (term_type s ls (term_of c.atom-item.result)) c.in_ok-at.at
    (one_type s ls c.args.atoms.now c.loop-atom.atom-index c.atom-item.result (omega arith)
    c.atom-item.is) c.in_ok-push.ensures.items g
    (c.in_ok-at.ensures s ls (term_of c.atom-item.result) c.bare-bare.ensures k g.grows.sound
    (locals_kept n n' g.grows ls c.args.scope.now d))

pub returns : goal.returns
returns c = λ s ls k h d.
    subst (λ ts. AddsTermsForTypes c.args.nodes.now c.loop-atom.nodes ts c.loop-atom.terms.items)
    (ap (λ atoms. terms_types s ls (terms_of (map term_of atoms)))
    (take_all c.loop-atom.atom-index c.args.atoms.now (omega arith)))
    (c.loop-atom.invariant s ls k h d)
