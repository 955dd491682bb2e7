use Rattle.std.proofs.Common.{rules, ◌≡◌, map, refl, sym, subst}
use Rattle.std.specs.List.{flat_map}
use Rattle.points_to.specs.Met.{IsSortedSetOf}
use Rattle.points_to.specs.Rows.{numbers_in}
use Rattle.points_to.specs.Stored.{sets_at}
use Rattle.points_to.specs.Wanted.{SameSet}
use Rattle.points_to.proofs.TagsInCells.{ascends_of, ascends_like}
use Rattle.points_to.proofs.Read.{unwrapped}
use Rattle.points_to.proofs.met.met_at.Goals as goal
use Rattle.grin_syntax.specs.Tags.{tag_id}

pub returns : goal.returns
returns c =
    let met = numbers_in c.in_ok-met.met in
    let ms = flat_map (sets_at c.args.sets.now) (map (λ s. s.0) c.args.sites.now) in
    let ns = c.ascending-listed.result in
    let given : c.list_numbers.new.out ≡ met = search rules in
    let out : c.as_tags.new.out ≡ map tag_id ns = search rules in
    subst (λ ts. IsSortedSetOf ms (map (λ t. t.0) ts)) (sym out)
    (subst (IsSortedSetOf ms) (sym (unwrapped (λ t. t.0) tag_id (λ n. refl) ns))
    (ascends_like met ms ns c.in_ok-met.ensures
    (ascends_of met ns (subst (SameSet ns) given c.ascending-listed.ensures.same)
    c.ascending-listed.ensures.ascending)))
