-- In a well-formed program each function that lacks two or more arguments has a tag for one
-- argument more.
use Rattle.std.proofs.Common.{◌≡◌, ℕ, suc, Bool, true, false, cond, List, [], ◌∷◌, Some, refl, subst}
use Rattle.std.specs.List.{filter}
use Rattle.seq.proofs.Lists.{all_get}
use Rattle.grin_syntax.specs.declared.program.Tag.{Tag}
use Rattle.grin_syntax.specs.declared.program.TagKind.{TagKind}
use Rattle.grin_syntax.specs.declared.program.TagKind.TheVariants as kind
use Rattle.grin_syntax.specs.Tree.{Program}
use Rattle.grin_syntax.specs.Formed.{Formed, KindFormed, TagFormed, HasNext}
use Rattle.grin_syntax.specs.Tags.{is_part, is_part_kind, part_from}
use Rattle.inline_theory.specs.Parts.{PartialTagsAreClosed}
use Rattle.seq.specs.Lists.{is_present}

some_part : (i : ℕ) (ts : List Tag) (f r : ℕ) (u : Tag) (us : List Tag)
    → filter (is_part f r) ts ≡ u ∷ us → is_present (part_from i ts f r) ≡ true
some_part i [] f r u us e = cc
some_part i (t ∷ ts) f r u us e = go (is_part f r t) e (some_part (suc i) ts f r u us)
  where
    go : (b : Bool) → cond b (t ∷ filter (is_part f r) ts) (filter (is_part f r) ts) ≡ u ∷ us
        → (filter (is_part f r) ts ≡ u ∷ us → is_present (part_from (suc i) ts f r) ≡ true)
        → is_present (cond b (Some i) (part_from (suc i) ts f r)) ≡ true
    go true e rest = refl
    go false e rest = rest e

next_of : (p : Program) (k : TagKind) (t : Tag) → KindFormed p k t → is_part_kind k ≡ true
    → HasNext p t.proc t.missing t.fields
next_of p kind.Con t h e = cc
next_of p kind.Fun t h e = cc
next_of p kind.Part t h e = h.2

pub have_next : (p : Program) → Formed p → PartialTagsAreClosed p.tags
have_next p f t i g r is part proc missing =
    let n : HasNext p i.proc i.missing i.fields = next_of p i.kind i
    (all_get (TagFormed p) p.tags t i f.tags is) part in
    let one = subst (λ o. HasNext p o (suc (suc r)) i.fields) proc
    (subst (λ m. HasNext p i.proc m i.fields) missing n) in
    some_part 0 p.tags g.0 (suc r) one.0 [] one.1
