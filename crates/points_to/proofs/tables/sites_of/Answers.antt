use Rattle.std.proofs.Common.{rules, ◌≡◌, map, refl, sym, subst}
use Rattle.points_to.specs.Known.{held}
use Rattle.points_to.specs.Wanted.{Lists, site_id}
use Rattle.points_to.proofs.Read.{unwrapped}
use Rattle.points_to.proofs.tables.sites_of.Goals as goal

pub returns : goal.returns
returns c =
    let X = held c.args.facts.now c.args.place in
    let ns = c.in_ok-numbers.numbers in
    let out : c.as_sites.new.out ≡ map site_id ns = search rules in
    subst (λ ts. Lists c.args.w X (map (λ t. t.0) ts)) (sym out)
    (subst (Lists c.args.w X) (sym (unwrapped (λ t. t.0) site_id (λ n. refl) ns))
    c.in_ok-numbers.ensures)
