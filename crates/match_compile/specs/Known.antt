-- Which integers the first test of a tree accepts, as far as they are kept beside it.
use Rattle.std.specs.Prelude.{◌≡◌, ℤ, true, false, List}
use Rattle.std.specs.List.{list_any}
use Rattle.std.specs.Ordering.{int_eq}
use Rattle.match_compile.specs.Heads.{Head, Integer, Constructor}
use Rattle.match_compile.specs.Trees.{Tree, Body, Case, Branches, NoBranch, AndBranch, has_head}

-- an integer is among those that are kept; of a constructor nothing is
abbrev pub IsKnown : List ℤ → Head → Type 0
IsKnown ks (Integer k) = list_any (int_eq k) ks ≡ true
IsKnown ks (Constructor c) = Unit {0}

-- an integer that is not among them
abbrev pub IsUnknown : List ℤ → Head → Type 0
IsUnknown ks (Integer k) = list_any (int_eq k) ks ≡ false
IsUnknown ks (Constructor c) = ⊥

-- what is known stays known
abbrev pub KnowsMore : List ℤ → List ℤ → Type 0
KnowsMore ks ls = (h : Head) → IsKnown ks h → IsKnown ls h

-- each integer that a branch accepts is known
abbrev pub AreKnown : List ℤ → Branches → Type 0
AreKnown ks NoBranch = Unit {0}
AreKnown ks (AndBranch h ps t bs) = IsKnown ks h × AreKnown ks bs

-- and each that a branch of a tree's first test accepts
abbrev pub FirstIsKnown : List ℤ → Tree → Type 0
FirstIsKnown ks (Body r) = Unit {0}
FirstIsKnown ks (Case p bs o) = AreKnown ks bs

-- no branch of a tree's first test accepts what the head does
abbrev pub IsNowhere : Head → Tree → Type 0
IsNowhere h (Body r) = Unit {0}
IsNowhere h (Case p bs o) = has_head h bs ≡ false
