use Rattle.std.proofs.Common.{◌≡◌, length, arith, sym, ap, ◌∙◌, ◌++◌, ◌∷◌, [], None, Some}
use Rattle.unification.specs.declared.term.Term.TheVariants as term
use Rattle.core_types.specs.declared.nodes.Nodes.{Nodes}
use Rattle.core_types.specs.Nodes.{key_of, index_of_key}
use Rattle.core_types.proofs.Denoting.{grows_refl, variable_grows, variable_is}
use Rattle.core_types.proofs.nodes.Nodes.variable.Goals as goal

pub returns-in-Some : goal.returns-in-Some
returns-in-Some c = λ h. record {
  grows = grows_refl c.args.self.now h;
  denotes = h.held (key_of c.args.key) c.in-Some.at c.find-found.ensures.range
      (sym c.find-found.ensures.found ∙ c.in-Some.is);
}

pub returns : goal.returns
returns c = λ h.
    let old : Nodes = c.args.self.now in
    let mid : Nodes = c.enter.new.self in
    let new : Nodes = record mid { terms = c.push.new.self; keys = c.push-2.new.self } in
    let at = c.len-at.result in
    let last : at ≡ length old.terms.items = omega (arith, c.len-at.ensures, old.terms.ok.0) in
    let none : index_of_key old (key_of c.args.key) ≡ None
    = sym c.find-found.ensures.found ∙ c.in_default.is in
    let grown = c.in_ok-push.ensures.items ∙ ap (λ ts. ts ++ term.Variable ∷ [])
    c.in_ok-enter.ensures.terms in
    let keyed = c.in_ok-push-2.ensures.items ∙ ap (λ ks. ks ++ Some c.args.key ∷ [])
    c.in_ok-enter.ensures.keys in
    record {
      grows = variable_grows old new c.args.key at grown keyed last c.in_ok-enter.ensures.entered
          c.in_ok-enter.ensures.range none h;
      denotes = variable_is old new c.args.key at grown keyed last c.in_ok-enter.ensures.entered
          c.in_ok-enter.ensures.range none h;
    }
