use Rattle.std.proofs.Common.{rules, ◌≡◌, ◌∙◌, map, refl, sym, ap, subst}
use Rattle.std.specs.List.{flat_map}
use Rattle.std.specs.List.Sorted.{IsStrictlyIncreasing}
use Rattle.points_to.specs.Rows.{words_in}
use Rattle.points_to.specs.Wanted.{SameSet, site_in, site_id}
use Rattle.points_to.proofs.Read.{unwrapped}
use Rattle.points_to.proofs.tables.sites_of_set.Goals as goal

pub returns-clause-ascending : goal.returns-clause-ascending
returns-clause-ascending c =
    let ns = c.ascending-listed.result in
    let out : c.as_sites.new.out ≡ map site_id ns = search rules in
    subst IsStrictlyIncreasing
    (sym (ap (map (λ s. s.0)) out ∙ unwrapped (λ s. s.0) site_id (λ n. refl) ns))
    c.ascending-listed.ensures.ascending

pub returns-clause-same : goal.returns-clause-same
returns-clause-same c =
    let ns = c.ascending-listed.result in
    let us = words_in c.args.set.now in
    let out : c.as_sites.new.out ≡ map site_id ns = search rules in
    let numbers : c.put_all_sites.new.out ≡ flat_map site_in us = search rules in
    subst (λ l. SameSet l (flat_map site_in us))
    (sym (ap (map (λ s. s.0)) out ∙ unwrapped (λ s. s.0) site_id (λ n. refl) ns))
    (subst (SameSet ns) numbers c.ascending-listed.ensures.same)
