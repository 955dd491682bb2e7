-- Which words of a vector stay, and the vectors of which a word may go.
use Rattle.std.specs.Prelude.{ℕ, Bool, true, false, cond, not, nat_eq, List, [], ◌∷◌, map}
use Rattle.grin_syntax.specs.declared.program.VarId.{VarId}
use Rattle.grin_syntax.specs.declared.program.Word as W
use Rattle.grin_syntax.specs.declared.program.Word.TheVariants.{Lit, Var, Global, TagWord}
use Rattle.flow_system.specs.Solution.{Solution}
use Rattle.update_special.specs.Updates.{may_have_tag, tags_of}
use Rattle.seq.specs.Lists.{is_among}

-- the items that stay
abbrev pub picked : {A : Type 0} → List Bool → List A → List A
picked [] xs = []
picked (b ∷ bs) [] = []
picked (b ∷ bs) (x ∷ xs) = cond b (x ∷ picked bs xs) (picked bs xs)

-- of a target's variables those stay that a block uses
abbrev pub stay : List ℕ → List VarId → List Bool
stay used xs = map (λ (x : VarId). is_among x.0 used) xs

abbrev pub first_satisfies : {A : Type 0} → (A → Bool) → List A → Bool
first_satisfies f [] = true
first_satisfies f (x ∷ xs) = f x

abbrev pub no_tag_left : List ℕ → Bool
no_tag_left [] = true
no_tag_left (t ∷ ts) = false

-- in a program with so many tags, by a solution
module _ (count : ℕ) (A : Solution) where
  -- a word that stands for no tag
  abbrev pub is_no_tag : W.Word → Bool
  is_no_tag (Lit k) = true
  is_no_tag (Var x) = no_tag_left (tags_of count A x.0)
  is_no_tag (Global i) = true
  is_no_tag (TagWord t) = false

  -- and one that doesn't stand for the tag of numbers
  abbrev pub is_no_number_tag : W.Word → Bool
  is_no_number_tag (Lit k) = true
  is_no_number_tag (Var x) = not (may_have_tag A x.0 0)
  is_no_number_tag (Global i) = true
  is_no_number_tag (TagWord t) = not (nat_eq t.0 0)

  -- A vector that begins with a tag stands for a node, and one with the tag of numbers has its
  -- number next. So where the first word goes, what stays begins with no tag; and where it stays
  -- without the second, it isn't that tag.
  abbrev pub may_go : List Bool → List W.Word → Bool
  may_go [] ws = true
  may_go (false ∷ bs) ws = first_satisfies is_no_tag (picked (false ∷ bs) ws)
  may_go (true ∷ []) ws = first_satisfies is_no_number_tag ws
  may_go (true ∷ false ∷ bs) ws = first_satisfies is_no_number_tag ws
  may_go (true ∷ true ∷ bs) ws = true
