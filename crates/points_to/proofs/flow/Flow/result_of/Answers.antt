use Rattle.std.proofs.Common.{map, sym, subst, inl, inr, ⊎_elim}
use Rattle.flow_system.specs.declared.fact.Place.TheVariants.{Result}
use Rattle.flow_system.specs.declared.fact.Part.TheVariants.{Tags as tags, Word as word}
use Rattle.flow_system.specs.declared.fact.Element.TheVariants.{Tag}
use Rattle.points_to.specs.declared.wanted.Wanted.TheVariants.{Tags as all_tags}
use Rattle.points_to.specs.Found.{known}
use Rattle.points_to.specs.Wanted.{Lists}
use Rattle.points_to.proofs.Read.{tags_and_words}
use Rattle.points_to.proofs.Solved.{known_at, at_known}
use Rattle.points_to.proofs.flow.Flow.result_of.Goals as goal

pub returns-clause-ascending : goal.returns-clause-ascending
returns-clause-ascending c =
    (subst (Lists all_tags (known c.args.self.now (Result c.args.proc.0))) (sym c.tag_entry.ensures)
    (c.args.self.now.tags_of_results c.args.proc.0)).ascending

pub returns-clause-exact : goal.returns-clause-exact
returns-clause-exact c = λ n.
    let H = known c.args.self.now in
    let q = Result c.args.proc.0 in
    let l : Lists all_tags (H q) (map (λ x. x.0) c.tag_entry.result.now)
    = subst (Lists all_tags (H q)) (sym c.tag_entry.ensures)
    (c.args.self.now.tags_of_results c.args.proc.0) in
    let r = tags_and_words (H q) (map (λ x. x.0) c.tag_entry.result.now) l n in (
      λ h. ⊎_elim (λ x. inl (known_at H q tags (Tag n) x))
          (λ y. inr (known_at H q (word 0) (Tag n) y)) (r.0 h),
      λ o. r.1 (⊎_elim (λ x. inl (at_known H q tags (Tag n) x))
          (λ y. inr (at_known H q (word 0) (Tag n) y)) o),
    )
