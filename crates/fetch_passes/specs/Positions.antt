-- Where a cell's words are fetched: after its tag, or as an alternative of the tag's case begins.
use Rattle.std.specs.Prelude.{ℕ, zero, suc, ◌≡◌, ◌<◌, ◌≤◌, ◌⊎◌, true, cond, List, [], ◌∷◌}
use Rattle.grin_syntax.specs.declared.program.VarId.{VarId}
use Rattle.grin_syntax.specs.declared.program.Word as W
use Rattle.grin_syntax.specs.declared.program.Val.TheVariants.{Node}
use Rattle.grin_syntax.specs.declared.program.Shape.TheVariants as shape
use Rattle.grin_syntax.specs.declared.program.Target.{Target}
use Rattle.grin_syntax.specs.declared.program.Target.TheVariants as to
use Rattle.grin_syntax.specs.Tree.{Code, end, store, bind, Act, leaf, unit, fetch, fetch_word, case, nested, Arms, no_arm, arm, Program}
use Rattle.grin_syntax.specs.Formed.{AllOf}
use Rattle.grin_syntax.specs.Fresh.{past_procs}
use Rattle.fetch_passes.specs.Windows.{begins_with, owns, outside}
use Rattle.fetch_passes.specs.Placed.{IsNoWordFetch}
use Rattle.seq.specs.Lists.{times}

-- a cell whose tag was fetched: the variable of the tag, and the words that were fetched since
pub record FetchedCell : Type 0 where
  pub cell : W.Word
  pub tag : ℕ
  pub fetched : List ℕ

abbrev pub fetched_tag_only : W.Word → VarId → FetchedCell
fetched_tag_only a t = record { cell = a; tag = t.0; fetched = [] }

-- with one word more
abbrev pub with_fetched : ℕ → FetchedCell → FetchedCell
with_fetched i m = record { cell = m.cell; tag = m.tag; fetched = i ∷ m.fetched }

-- Where a statement stands, words of the same cell aside: directly after the fetch of a tag; at
-- the front of an alternative of the case on a tag; or at neither.
pub data Position : Type 0 where
  after_tag : FetchedCell → Position
  at_front : FetchedCell → Position
  elsewhere : Position

-- each alternative gives a node with the tag of its pattern
abbrev pub ArmsReturnNodes : Arms → Type 0
ArmsReturnNodes no_arm = Unit {0}
ArmsReturnNodes (arm (shape.Node t xs) (end (leaf (unit (Node u ws)))) as') =
    (t ≡ u) × ArmsReturnNodes as'
ArmsReturnNodes (arm s b as') = ⊥

-- the block gives the node of the tag t by its words, as in place of a fetch that ends a block
abbrev pub ReturnsNodeByWords : (t : ℕ) → Code → Type 0
ReturnsNodeByWords t (bind u (leaf (fetch_word a i)) b) = ReturnsNodeByWords t b
ReturnsNodeByWords t (end (case v as')) = (begins_with t v ≡ true) × ArmsReturnNodes as'
ReturnsNodeByWords t b = ⊥

-- word i of the cell a is one of this cell, and wasn't fetched before
abbrev pub IsNewFetch : FetchedCell → W.Word → ℕ → Type 0
IsNewFetch m a i = (a ≡ m.cell) × (times i m.fetched ≡ 0)

-- ---- after an operation that goes to a target, where the block b follows

abbrev pub after_word : Position → ℕ → Position
after_word (after_tag m) i = after_tag (with_fetched i m)
after_word (at_front m) i = at_front (with_fetched i m)
after_word elsewhere i = elsewhere

-- the position
abbrev pub position_after : Act → Target → Position → Position
position_after (leaf (fetch_word a zero)) (to.One t) here = after_tag (fetched_tag_only a t)
position_after (leaf (fetch_word a zero)) t here = elsewhere
position_after (leaf (fetch_word a (suc i))) t here = after_word here (suc i)
position_after o t here = elsewhere

abbrev pub front_with : Position → ℕ → Code → Position → Position
front_with (after_tag m) i b front = cond (owns m.tag b) (at_front (with_fetched i m)) front
front_with _ i b front = front

-- that at which the alternatives of the case that comes next begin, fetches aside
abbrev pub front_after : Act → Target → Position → Code → Position → Position
front_after (leaf (fetch_word a zero)) (to.One t) here b front =
    cond (owns t.0 b) (at_front (fetched_tag_only a t)) front
front_after (leaf (fetch_word a zero)) t here b front = front
front_after (leaf (fetch_word a (suc i))) t here b front = front_with here (suc i) b front
front_after (leaf (fetch a)) t here b front = front
front_after o t here b front = elsewhere

-- ---- the fetches of a piece

module _ (first : ℕ) where
  -- A word after the tag, for the block b: directly after the tag if it has a use outside the
  -- alternatives of the tag's case, or if the tag is that of a fetch that ended a block.
  abbrev pub WordPlaced : Position → W.Word → ℕ → VarId → Code → Type 0
  WordPlaced (after_tag m) a i x b =
      IsNewFetch m a i × ((outside m.tag x.0 b ≡ true) ⊎ (first ≤ m.tag))
  WordPlaced (at_front m) a i x b = IsNewFetch m a i
  WordPlaced elsewhere a i x b = ⊥

  -- a tag goes to a variable before the first new one, but for that of a fetch that ended a block
  abbrev pub FetchPlaced : Act → Target → Position → Code → Type 0
  FetchPlaced (leaf (fetch_word a zero)) (to.One t) here b =
      (t.0 < first) ⊎ ReturnsNodeByWords t.0 b
  FetchPlaced (leaf (fetch_word a (suc i))) (to.One x) here b = WordPlaced here a (suc i) x b
  FetchPlaced (leaf (fetch_word a (suc i))) t here b = ⊥
  FetchPlaced o t here b = Unit {0}

  -- In a piece at one position, where the alternatives of the case that comes next begin at the
  -- other. No block ends in the fetch of a word.
  unfoldable mutual
    pub ActPlaced : (front : Position) → Act → Type 0
    ActPlaced front (case v as') = ArmsPlaced front as'
    ActPlaced front (nested b) = CodePlaced elsewhere elsewhere b
    ActPlaced front _ = Unit {0}

    pub CodePlaced : (here front : Position) → Code → Type 0
    CodePlaced here front (end o) = IsNoWordFetch o × ActPlaced front o
    CodePlaced here front (store cs b) = CodePlaced elsewhere elsewhere b
    CodePlaced here front (bind t o b) =
        FetchPlaced o t here b × ActPlaced front o
        × CodePlaced (position_after o t here) (front_after o t here b front) b

    pub ArmsPlaced : (front : Position) → Arms → Type 0
    ArmsPlaced front no_arm = Unit {0}
    ArmsPlaced front (arm s b as') = CodePlaced front elsewhere b × ArmsPlaced front as'

-- each word that h fetches after a tag stands where it should, where g is the program before
abbrev pub FetchesPlaced : (g h : Program) → Type 0
FetchesPlaced g h =
    AllOf (λ q. CodePlaced (past_procs g.procs) elsewhere elsewhere q.body) h.procs
