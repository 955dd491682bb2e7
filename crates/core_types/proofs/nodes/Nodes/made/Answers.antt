use Rattle.std.proofs.Common.{◌≡◌, length, refl, subst, arith}
use Rattle.std.specs.Prelude.{IfSome}
use Rattle.core_types.specs.declared.nodes.Nodes.{Nodes}
use Rattle.core_types.specs.Nodes.{IsSymbolAt}
use Rattle.core_types.proofs.Denoting.{grows_refl, made_grows, made_is}
use Rattle.core_types.proofs.nodes.Nodes.made.Goals as goal

pub returns-in-Some-clause-grows : goal.returns-in-Some-clause-grows
returns-in-Some-clause-grows c = λ h b takes. grows_refl c.args.self.now h

pub returns-in-Some-clause-made : goal.returns-in-Some-clause-made
returns-in-Some-clause-made c = λ h.
    let is = subst
    (λ o. IfSome o (λ x. IsSymbolAt c.args.self.now x c.args.symbol c.as_slice-2.result.now))
    c.in-Some.is c.again-again.ensures in
    subst (λ xs. IsSymbolAt c.args.self.now c.in-Some.at c.args.symbol xs) c.as_slice-2.ensures is

pub returns-clause-grows : goal.returns-clause-grows
returns-clause-grows c = λ h b takes.
    let old : Nodes = c.args.self.now in
    let new : Nodes = record old
    { terms = c.push.new.self; keys = c.push-2.new.self; marked = c.insert.new.self } in
    made_grows old new c.args.symbol c.args.arguments c.in_ok-push.ensures.items
    c.in_ok-push-2.ensures.items h refl refl b takes

pub returns-clause-made : goal.returns-clause-made
returns-clause-made c = λ h.
    let old : Nodes = c.args.self.now in
    let new : Nodes = record old
    { terms = c.push.new.self; keys = c.push-2.new.self; marked = c.insert.new.self } in
    let last : c.len-at.result ≡ length old.terms.items
    = omega (arith, c.len-at.ensures, old.terms.ok.0) in
    made_is old new c.args.symbol c.args.arguments c.in_ok-push.ensures.items
    c.in_ok-push-2.ensures.items h c.len-at.result last
