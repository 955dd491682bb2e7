-- The tags of a value, from its candidates.
use Rattle.std.proofs.Common.{◌≡◌, ℕ, ◌<◌, Bool, true, false, not, ◌&&◌, List, length, slice_get, refl, ap, ◌∙◌, arith}
use Rattle.std.specs.List.{filter}
use Rattle.std.proofs.lemmas.Option.{slice_get_past}
use Rattle.grin_syntax.specs.declared.program.Val.{Val}
use Rattle.grin_syntax.specs.Tree.{Program}
use Rattle.grin_meaning.specs.Run.{is_part_kind, is_some_and}
use Rattle.flow_system.specs.Solution.{Solution}
use Rattle.inline_theory.specs.Applications.{value_has, is_part_tag, part_tags_of, others_of}
use Rattle.seq.specs.Lists.{In, those}
use Rattle.seq.proofs.Lists.{some_at}
use Rattle.seq.proofs.Those.{those_filtered, ascends}
use Rattle.seq.proofs.Truth.{and_left}
use Rattle.apply_inline.specs.Applied.{fits, meets_part, meets_other, Candidates}

and_swap : (a b : Bool) → (a && b) ≡ (b && a)
and_swap true true = refl
and_swap true false = refl
and_swap false true = refl
and_swap false false = refl

module _ (p : Program) (A : Solution) (v : Val) (ts : List ℕ) (c : Candidates p A v ts) where
  -- of functions that lack arguments, or of others
  filtered : (of_kind : Bool → Bool) → those (λ t. value_has p A v t && of_kind (is_part_tag p A t))
      0 (length p.tags) ≡ filter
      (λ t. is_some_and (slice_get p.tags t) (λ i. of_kind (is_part_kind i.kind) && fits p A v t i))
      ts
  filtered of_kind = those_filtered _ _ (length p.tags) 0 (length p.tags) ts (omega arith)
      (ascends ts c.ascending)
      (λ t lt h le. c.all t (and_left (value_has p A v t) (of_kind (is_part_tag p A t)) h)) same
      (λ t m le. ap (λ o. is_some_and o (λ i. of_kind (is_part_kind i.kind) && fits p A v t i))
      (slice_get_past p.tags t le))
    where
      same : (t : ℕ) → In t ts → t < length p.tags → is_some_and (slice_get p.tags t)
          (λ i. of_kind (is_part_kind i.kind) && fits p A v t i) ≡
          (value_has p A v t && of_kind (is_part_tag p A t))
      same t m lt =
          let w = some_at p.tags t lt in
          rw w.1 (ap (λ b. of_kind (is_part_kind w.0.kind) && b) (c.fitting t w.0 m w.1) ∙ and_swap
          (of_kind (is_part_kind w.0.kind)) (value_has p A v t))

  pub parts_filtered : part_tags_of p A v ≡ filter (meets_part p A v) ts
  parts_filtered = filtered (λ b. b)

  pub others_filtered : others_of p A v ≡ filter (meets_other p A v) ts
  others_filtered = filtered not
