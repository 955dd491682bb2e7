-- The tags that an application meets.
use Rattle.std.specs.Prelude.{◌≡◌, ℕ, Bool, true, false, not, ◌&&◌, nat_eq, nat_le, List, [], ◌∷◌, length, Some, slice_get}
use Rattle.std.specs.List.Sorted.{IsStrictlyIncreasing}
use Rattle.grin_syntax.specs.declared.program.Tag.{Tag}
use Rattle.grin_syntax.specs.declared.program.Word as W
use Rattle.grin_syntax.specs.declared.program.Val as V
use Rattle.grin_syntax.specs.declared.program.Val.TheVariants.{NodeVar, Node, Vector, One}
use Rattle.grin_syntax.specs.Tree.{Program}
use Rattle.grin_meaning.specs.Run.{is_part_kind, is_some_and}
use Rattle.flow_system.specs.Solution.{Solution}
use Rattle.inline_theory.specs.Applications.{word_has, value_has}
use Rattle.seq.specs.Lists.{In}

-- whether a list has an item
abbrev pub is_nonempty : List ℕ → Bool
is_nonempty [] = false
is_nonempty (x ∷ xs) = true

module _ (p : Program) (A : Solution) where
  -- whether a vector may be a node of a tag with so many fields
  abbrev pub words_fit : List W.Word → ℕ → ℕ → Bool
  words_fit [] t k = false
  words_fit (a ∷ ws) t k = word_has p A t a && nat_le k (length ws)

  -- whether a candidate is a tag that the solution has for the value
  abbrev pub fits : V.Val → ℕ → Tag → Bool
  fits (NodeVar x) t i = true
  fits (Node t' ws) t i = nat_eq t t'.0
  fits (Vector ws) t i = words_fit ws t i.fields
  fits (One a) t i = word_has p A t a && nat_eq i.fields 0

  -- the tag of a function that lacks arguments, and another tag
  abbrev pub meets_part : V.Val → ℕ → Bool
  meets_part v t = is_some_and (slice_get p.tags t) (λ i. is_part_kind i.kind && fits v t i)

  abbrev pub meets_other : V.Val → ℕ → Bool
  meets_other v t = is_some_and (slice_get p.tags t) (λ i. not (is_part_kind i.kind) && fits v t i)

  -- ascending tags, all that the solution has for a value among them
  pub record Candidates (v : V.Val) (ts : List ℕ) : Type 0 where
    pub ascending : IsStrictlyIncreasing ts
    pub all : (t : ℕ) → value_has p A v t ≡ true → In t ts
    pub fitting : (t : ℕ) (i : Tag) → In t ts → slice_get p.tags t ≡ Some i
        → fits v t i ≡ value_has p A v t
