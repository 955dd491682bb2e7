-- What the terms in a vector stand for.
use Rattle.std.specs.Prelude.{◌<◌, ℕ, zero, suc, List, [], map, Option, Some, None, slice_get}
use Rattle.unification.specs.declared.term.Symbol.{Symbol}
use Rattle.unification.specs.declared.term.Term.{Term}
use Rattle.unification.specs.declared.term.Term.TheVariants as term
use Rattle.unification.specs.Trees.{Tree, Open, Made, trees}
use Rattle.seq.specs.Lists.{In}

abbrev pub symbol_in : Option Term → Option Symbol
symbol_in (Some (term.Made s xs)) = Some s
symbol_in (Some term.Variable) = None
symbol_in None = None

abbrev pub arguments_in : Option Term → List ℕ
arguments_in (Some (term.Made s xs)) = xs
arguments_in (Some term.Variable) = []
arguments_in None = []

-- the symbol at a place, and the places of its arguments
abbrev pub symbol_of : List Term → ℕ → Option Symbol
symbol_of terms i = symbol_in (slice_get terms i)

abbrev pub arguments_of : List Term → ℕ → List ℕ
arguments_of terms i = arguments_in (slice_get terms i)

-- Each argument stands before the term that it is an argument of.
abbrev pub AreEarlier : List Term → Type 0
AreEarlier terms = (i x : ℕ) → In x (arguments_of terms i) → x < i

-- The tree of the term at a place, for a number above it. A variable's number is its place.
abbrev pub tree_below : List Term → ℕ → ℕ → Tree
tree_below terms zero i = Open i
tree_below terms (suc n) i =
    elim (symbol_of terms i) [
      | Some s ↦ Made s (trees (tree_below terms n) (arguments_of terms i))
      | None ↦ Open i
    ]

abbrev pub tree : List Term → ℕ → Tree
tree terms i = tree_below terms (suc i) i

-- the equations between the terms at these places
abbrev pub equation : List Term → ℕ × ℕ → Tree × Tree
equation terms p = (tree terms p.0, tree terms p.1)

abbrev pub equations : List Term → List (ℕ × ℕ) → List (Tree × Tree)
equations terms pairs = map (equation terms) pairs

-- the places of these pairs are below a number
abbrev pub PairsAreBelow : ℕ → List (ℕ × ℕ) → Type 0
PairsAreBelow n pairs = (p : ℕ × ℕ) → In p pairs → (p.0 < n) × (p.1 < n)
