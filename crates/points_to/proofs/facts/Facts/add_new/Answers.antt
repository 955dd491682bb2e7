use Rattle.std.proofs.Common.{ℕ, ◌≡◌, false, refl, sym, ap, subst}
use Rattle.points_to.specs.Asked.{facts_at}
use Rattle.points_to.specs.Known.{items_at, held, PutsItems, GrowsByFacts}
use Rattle.points_to.specs.Runs.{items_of_item_run, facts_of_run}
use Rattle.std.specs.Prelude.{◌⊎◌}
use Rattle.flow_system.specs.declared.fact.Place.{Place}
use Rattle.points_to.proofs.Elsewhere.{site_elsewhere, var_elsewhere, result_elsewhere}
use Rattle.points_to.proofs.Sets.{on_ok, if_ok, site_put, var_put, result_put}
use Rattle.points_to.proofs.facts.Facts.add_new.Goals as goal

pub returns-in-Site-clause-grown : goal.returns-in-Site-clause-grown
returns-in-Site-clause-grown c =
    let before = c.args.self.now in
    let after = record before { sites = c.add_new.new.sets } in
    let is = items_of_item_run c.args.run.items in
    on_ok c.add_new.result
    (PutsItems (items_at before.sites.items) (items_at c.add_new.new.sets.items) c.in-Site.n is)
    (GrowsByFacts (held before) (held after) (facts_of_run c.args.run))
    (λ p. subst (λ q. GrowsByFacts (held before) (held after) (facts_at q is)) (sym c.in-Site.is)
    (site_put before after c.in-Site.n is refl refl p)) c.add_new.ensures.puts

pub returns-in-Var-clause-grown : goal.returns-in-Var-clause-grown
returns-in-Var-clause-grown c =
    let before = c.args.self.now in
    let after = record before { vars = c.add_new-in-Var.new.sets } in
    let is = items_of_item_run c.args.run.items in
    on_ok c.add_new-in-Var.result
    (PutsItems (items_at before.vars.items) (items_at c.add_new-in-Var.new.sets.items)
    c.in-Var.n is) (GrowsByFacts (held before) (held after) (facts_of_run c.args.run))
    (λ p. subst (λ q. GrowsByFacts (held before) (held after) (facts_at q is)) (sym c.in-Var.is)
    (var_put before after c.in-Var.n is refl refl p)) c.add_new-in-Var.ensures.puts

pub returns-in-Result-clause-grown : goal.returns-in-Result-clause-grown
returns-in-Result-clause-grown c =
    let before = c.args.self.now in
    let after = record before { results = c.add_new-in-Result.new.sets } in
    let is = items_of_item_run c.args.run.items in
    on_ok c.add_new-in-Result.result
    (PutsItems (items_at before.results.items) (items_at c.add_new-in-Result.new.sets.items)
    c.in-Result.n is) (GrowsByFacts (held before) (held after) (facts_of_run c.args.run))
    (λ p. subst (λ q. GrowsByFacts (held before) (held after) (facts_at q is)) (sym c.in-Result.is)
    (result_put before after c.in-Result.n is refl refl p)) c.add_new-in-Result.ensures.puts

pub returns-in-Site-clause-elsewhere : goal.returns-in-Site-clause-elsewhere
returns-in-Site-clause-elsewhere c =
    let before = c.args.self.now in
    let after = record before { sites = c.add_new.new.sets } in
    let n = c.in-Site.n in
    on_ok c.add_new.result
    ((m : ℕ) → (m ≡ n) ⊎ (items_at after.sites.items m ≡ items_at before.sites.items m))
    ((q : Place) → (q ≡ c.args.run.place) ⊎ (held after q ≡ held before q))
    (site_elsewhere before after n c.args.run.place c.in-Site.is refl refl)
    c.add_new.ensures.elsewhere

pub returns-in-Var-clause-elsewhere : goal.returns-in-Var-clause-elsewhere
returns-in-Var-clause-elsewhere c =
    let before = c.args.self.now in
    let after = record before { vars = c.add_new-in-Var.new.sets } in
    let n = c.in-Var.n in
    on_ok c.add_new-in-Var.result
    ((m : ℕ) → (m ≡ n) ⊎ (items_at after.vars.items m ≡ items_at before.vars.items m))
    ((q : Place) → (q ≡ c.args.run.place) ⊎ (held after q ≡ held before q))
    (var_elsewhere before after n c.args.run.place c.in-Var.is refl refl)
    c.add_new-in-Var.ensures.elsewhere

pub returns-in-Result-clause-elsewhere : goal.returns-in-Result-clause-elsewhere
returns-in-Result-clause-elsewhere c =
    let before = c.args.self.now in
    let after = record before { results = c.add_new-in-Result.new.sets } in
    let n = c.in-Result.n in
    on_ok c.add_new-in-Result.result
    ((m : ℕ) → (m ≡ n) ⊎ (items_at after.results.items m ≡ items_at before.results.items m))
    ((q : Place) → (q ≡ c.args.run.place) ⊎ (held after q ≡ held before q))
    (result_elsewhere before after n c.args.run.place c.in-Result.is refl refl)
    c.add_new-in-Result.ensures.elsewhere

pub returns-in-Site-clause-still : goal.returns-in-Site-clause-still
returns-in-Site-clause-still c =
    let before = c.args.self.now in
    let new = c.add_new.new.sets in
    if_ok c.add_new.result (λ added. added ≡ false → new ≡ before.sites)
    (λ added. added ≡ false → record before { sites = new } ≡ before)
    (λ added same e. ap (λ s. record before { sites = s }) (same e)) c.add_new.ensures.still

pub returns-in-Var-clause-still : goal.returns-in-Var-clause-still
returns-in-Var-clause-still c =
    let before = c.args.self.now in
    let new = c.add_new-in-Var.new.sets in
    if_ok c.add_new-in-Var.result (λ added. added ≡ false → new ≡ before.vars)
    (λ added. added ≡ false → record before { vars = new } ≡ before)
    (λ added same e. ap (λ s. record before { vars = s }) (same e)) c.add_new-in-Var.ensures.still

pub returns-in-Result-clause-still : goal.returns-in-Result-clause-still
returns-in-Result-clause-still c =
    let before = c.args.self.now in
    let new = c.add_new-in-Result.new.sets in
    if_ok c.add_new-in-Result.result (λ added. added ≡ false → new ≡ before.results)
    (λ added. added ≡ false → record before { results = new } ≡ before)
    (λ added same e. ap (λ s. record before { results = s }) (same e))
    c.add_new-in-Result.ensures.still
