-- The tags that are listed for a variable, and those that stand in its set.
use Rattle.std.proofs.Common.{◌≡◌, ℕ, ◌≤◌, Bool, ◌&&◌, List, map, take, length, sym, ap, ◌∙◌, inr, arith}
use Rattle.std.specs.Prelude.{◌⊎◌, ◌↔◌, nat_lt}
use Rattle.std.specs.List.{filter}
use Rattle.std.specs.List.Sorted.{IsStrictlyIncreasing}
use Rattle.std.proofs.lemmas.List.{take_all}
use Rattle.seq.proofs.Order.{lt_true, lt_false}
use Rattle.seq.proofs.Those.{those_filtered, ascends}
use Rattle.grin_syntax.specs.declared.program.TagId.{TagId}
use Rattle.flow_system.specs.declared.fact.Element.TheVariants.{Tag as tag}
use Rattle.flow_system.specs.declared.fact.Place.TheVariants.{Var as var}
use Rattle.flow_system.specs.declared.fact.Part.TheVariants.{Tags as tags, Word as word}
use Rattle.flow_system.specs.Solution.{Solution, At}
use Rattle.seq.specs.Lists.{In}
use Rattle.update_special.specs.Updates.{may_have_tag, tags_of}

-- what is asked of each tag that is listed
abbrev pub is_met : ℕ → Solution → ℕ → ℕ → Bool
is_met count A x t = nat_lt t count && may_have_tag A x t

pub all_made : (count : ℕ) (A : Solution) (x : ℕ) (items : List TagId) (i : ℕ) (made : List TagId)
    → IsStrictlyIncreasing (map (λ t. t.0) items)
    → ((t : ℕ) → In t (map (λ t. t.0) items) ↔
    (At A (var x) tags (tag t) ⊎ At A (var x) (word 0) (tag t))) → length items ≤ i
    → map (λ t. t.0) made ≡ filter (is_met count A x) (map (λ t. t.0) (take i items))
    → map (λ t. t.0) made ≡ tags_of count A x
all_made count A x items i made up exact le e = e ∙ ap
    (λ l. filter (is_met count A x) (map (λ t. t.0) l)) (take_all i items le)
    ∙ sym (those_filtered (may_have_tag A x) (is_met count A x) count 0 count (map (λ t. t.0) items)
    (omega arith) (ascends _ up)
    (λ t lt e le. (exact t).1 (inr (record { there = e })))
    (λ t m lt. ap (λ b. b && may_have_tag A x t) (lt_true t count lt))
    (λ t m le. ap (λ b. b && may_have_tag A x t) (lt_false t count le)))
