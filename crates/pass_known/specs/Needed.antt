-- Which alternatives of a case a run may take, by the tags that its value may have.
use Rattle.std.specs.Prelude.{ℕ, ◌≡◌, Bool, true, false, cond, not, nat_eq, List, [], ◌∷◌, map, filter, Option, Some, None}
use Rattle.std.specs.List.{list_any}
use Rattle.grin_syntax.specs.declared.program.VarId.{VarId}
use Rattle.grin_syntax.specs.declared.program.TagId.{TagId}
use Rattle.grin_syntax.specs.declared.program.Shape.{Shape}
use Rattle.grin_syntax.specs.declared.program.Shape.TheVariants as shape
use Rattle.grin_syntax.specs.Tree.{Arms, no_arm, arm}
use Rattle.flow_system.specs.Solution.{Solution}
use Rattle.update_special.specs.Updates.{tags_of}

-- ---- the tags that are left to an alternative, where they are known

abbrev pub any_tag_left : List ℕ → Bool
any_tag_left [] = false
any_tag_left (t ∷ ts) = true

-- a pattern fits a value with one of these tags
abbrev pub pattern_may_match : List ℕ → Shape → Bool
pattern_may_match tags (shape.Node t xs) = list_any (λ u. nat_eq u t.0) tags
pattern_may_match tags (shape.Int k) = list_any (λ u. nat_eq u 0) tags
pattern_may_match tags shape.Else = any_tag_left tags

abbrev pub without : ℕ → List ℕ → List ℕ
without t tags = filter (λ u. not (nat_eq u t)) tags

-- the tags of the values that it leaves to the alternatives behind it
abbrev pub tags_left_by : List ℕ → Shape → List ℕ
tags_left_by tags (shape.Node t xs) = without t.0 tags
tags_left_by tags (shape.Int k) = tags
tags_left_by tags shape.Else = []

abbrev pub arm_may_match : Option (List ℕ) → Shape → Bool
arm_may_match None s = true
arm_may_match (Some tags) s = pattern_may_match tags s

abbrev pub tags_left_after : Option (List ℕ) → Shape → Option (List ℕ)
tags_left_after None s = None
tags_left_after (Some tags) s = Some (tags_left_by tags s)

-- the alternatives that may be taken
abbrev pub needed_arms : Option (List ℕ) → Arms → Arms
needed_arms left no_arm = no_arm
needed_arms left (arm s b as') =
    cond (arm_may_match left s) (arm s b (needed_arms (tags_left_after left s) as'))
    (needed_arms left as')

-- each alternative may be taken
abbrev pub AllArmsNeeded : Option (List ℕ) → Arms → Type 0
AllArmsNeeded left no_arm = Unit {0}
AllArmsNeeded left (arm s b as') =
    (arm_may_match left s ≡ true) × AllArmsNeeded (tags_left_after left s) as'

-- ---- by a solution

abbrev pub if_nonempty : List ℕ → Option (List ℕ)
if_nonempty [] = None
if_nonempty (t ∷ ts) = Some (t ∷ ts)

-- the tags of a value whose tag word is this variable, where it may be a tag
abbrev pub tags_at : ℕ → Solution → Option VarId → Option (List ℕ)
tags_at count A None = None
tags_at count A (Some x) = if_nonempty (tags_of count A x.0)

abbrev pub numbers_left : Option (List TagId) → Option (List ℕ)
numbers_left None = None
numbers_left (Some tags) = Some (map (λ (t : TagId). t.0) tags)
