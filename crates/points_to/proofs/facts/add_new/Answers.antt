use Rattle.std.proofs.Common.{◌≡◌, ℕ, ◌⊎◌, subst}
use Rattle.points_to.specs.Known.{items_at}
use Rattle.points_to.proofs.facts.add_new.Goals as goal

pub returns-clause-elsewhere : goal.returns-clause-elsewhere
returns-clause-elsewhere c = subst
    (λ f. (m : ℕ) → (m ≡ c.args.n) ⊎ (items_at c.add_there-2.new.sets.items m ≡ f m))
    c.in_ok-grow.ensures.same c.in_ok-add_there.ensures.elsewhere
