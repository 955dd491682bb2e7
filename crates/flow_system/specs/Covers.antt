-- A solution that covers each run of its program.
use Rattle.std.specs.Prelude.{◌≡◌, ℕ, suc, List, [], ◌∷◌, length, Option, Some, IfSome, slice_get}
use Rattle.grin_syntax.specs.declared.program.GlobalCell.{GlobalCell}
use Rattle.grin_syntax.specs.Tree.{Program}
use Rattle.grin_syntax.specs.Formed.{Formed}
use Rattle.grin_meaning.specs.Values.{Datum, number, tag as tag', cell, Node, Value, node, words, HeapCell, State, and_then, fields_of}
use Rattle.grin_meaning.specs.Run.{run}
use Rattle.grin_meaning.specs.Keeps.{world_of}
use Rattle.grin_meaning.specs.Follows.{HoldsInEveryState}
use Rattle.flow_system.specs.Inclusions.{AbstractWord, cell_of, tag, num, site, var, tags, field, word}
use Rattle.flow_system.specs.Tables.{tables}
use Rattle.flow_system.specs.System.{system}
use Rattle.flow_system.specs.Solution.{Solution, Sets, At, Solves}

-- the site of a cell
abbrev pub site_at : List HeapCell → ℕ → Option ℕ
site_at h a = and_then (slice_get h a) (λ c. Some c.site)

-- a word lies in a set, a cell by its site
abbrev pub DatumIn : List HeapCell → (AbstractWord → Type 0) → Datum → Type 0
DatumIn h S (number k) = S num
DatumIn h S (tag' t) = S (tag t)
DatumIn h S (cell a) = (s : ℕ) × (site_at h a ≡ Some s) × S (cell_of s)

-- words from number i on, each in the set of its number
abbrev pub WordsAreInSets : List HeapCell → (ℕ → AbstractWord → Type 0) → ℕ → List Datum → Type 0
WordsAreInSets h W i [] = Unit {0}
WordsAreInSets h W i (d ∷ ds) = DatumIn h (W i) d × WordsAreInSets h W (suc i) ds

-- a node lies in the sets of a place, and has as many fields as its tag
pub record NodeIn (p : Program) (h : List HeapCell) (X : Sets) (n : Node) : Type 0 where
  pub full : fields_of p n.tag ≡ Some (length n.fields)
  pub tag_in : X tags (tag n.tag)
  pub fields_in : WordsAreInSets h (λ i. X (field n.tag i)) 0 n.fields

abbrev pub ValueIn : Program → List HeapCell → Sets → Value → Type 0
ValueIn p h X (node n) = NodeIn p h X n
ValueIn p h X (words ds) = WordsAreInSets h (λ j. X (word j)) 0 ds

-- the global cells come first
abbrev pub GlobalCellsComeFirst : Program → List HeapCell → Type 0
GlobalCellsComeFirst p h =
    (i : ℕ) → IfSome (slice_get p.globals i) (λ c. site_at h i ≡ Some c.site.0)

-- each variable's value lies at the variable, and each cell's node at its site
pub record StateIsCovered (p : Program) (A : Solution) (s : State) : Type 0 where
  pub variables : (x : ℕ) → IfSome (s.env x) (ValueIn p s.heap (At A (var x)))
  pub cells : (a : ℕ)
      → IfSome (slice_get s.heap a) (λ c. NodeIn p s.heap (At A (site c.site)) c.node)
  pub globals : GlobalCellsComeFirst p s.heap

-- global cells have no fields, and the start's argument is one of them
pub record CanBeStarted (p : Program) : Type 0 where
  pub no_fields : (i : ℕ) → IfSome (slice_get p.globals i) (λ c. fields_of p c.tag.0 ≡ Some 0)
  pub argument_there : IfSome p.argument (λ i. (c : GlobalCell) × (slice_get p.globals i ≡ Some c))

abbrev pub FormedProgramsCanStart : Type 0
FormedProgramsCanStart = (p : Program) → Formed p → CanBeStarted p

-- every state that a run of the program passes through lies in the solution, and so does the heap
-- at its end
pub record Covers (p : Program) (A : Solution) : Type 0 where
  pub passed : (i : List ℕ) (n : ℕ)
      → HoldsInEveryState (StateIsCovered p A) (world_of (run p i n)).seen
  pub at_end : (i : List ℕ) (n a : ℕ)
      → IfSome (slice_get (world_of (run p i n)).cells a) (λ c.
      NodeIn p (world_of (run p i n)).cells (At A (site c.site)) c.node)

abbrev pub SolutionsCover : Type 0
SolutionsCover =
    (p : Program) (A : Solution) → CanBeStarted p → Solves (tables p) (system p) A → Covers p A
