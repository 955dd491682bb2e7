use Rattle.std.proofs.Common.{◌≡◌, [], ◌∷◌, ◌++◌, sym, subst}
use Rattle.unification.specs.Classes.{MergingProgresses}
use Rattle.unification.proofs.Pairing.{goes_on}
use Rattle.unification.proofs.joining.unify_pairs.Goals as goal

pub joining-preserved : goal.joining-preserved
joining-preserved c =
    let terms = c.args.terms.now in
    let e : c.joining.todo.items ≡ c.pop.new.self.items ++ c.in-Some.pair ∷ []
    = c.in-Some.ensures.items in
    goes_on terms c.args.classes.now c.joining.classes c.join_pair.new.classes c.args.pairs.items
    c.joining.todo.items c.join_pair.new.todo.items c.joining.invariant
    (subst (λ l. MergingProgresses terms c.joining.classes l c.join_pair.new.classes
    c.join_pair.new.todo.items) (sym e)
    (c.in_ok-join_pair.ensures.advances c.if-not-branch.false))
