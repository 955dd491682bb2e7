-- The rows that the code keeps.
use Rattle.std.specs.Prelude.{ℕ, List, [], ◌∷◌, map, reverse, Option, Some, None}
use denote.Ref.{Bor}
use Rattle.core_reader.specs.declared.syntax.Binder.{Binder}
use Rattle.core_reader.specs.Tree.{Expr}
use Rattle.match_compile.specs.declared.source.Pat as code-pat
use Rattle.match_compile.specs.declared.row.Pending.{Pending}
use Rattle.match_compile.specs.declared.row.Test.{Test}
use Rattle.match_compile.specs.SourceOf.{pat_of}
use Rattle.match_compile.specs.Source.{Pat, Name, Int, Con}
use Rattle.match_compile.specs.Parts.{count}
use Rattle.match_compile.specs.Heads.{Head, Integer, Constructor}
use Rattle.match_compile.specs.Trees.{PendingPattern, Row, row, settled, opened}

abbrev pub pending_pattern_of : ℕ × Bor code-pat.Pat → PendingPattern
pending_pattern_of (p, pat) = (p, pat_of pat.now)

-- the last one is the first
abbrev pub pending : List (ℕ × Bor code-pat.Pat) → List PendingPattern
pending js = map pending_pattern_of (reverse js)

-- the row of each body that is on this way
abbrev pub rows_of : Pending → Expr → Row
rows_of w body = row body w.bound (pending w.jobs)

abbrev pub names_bound_row : List (Binder × ℕ) → List PendingPattern → Expr → Row
names_bound_row bound jobs body = settled body bound jobs

-- the row behind its first job, whose fields have these places
abbrev pub row_with_field_places : Row → List ℕ → Row
row_with_field_places r places = elim r.jobs [ [] ↦ r | j ∷ js ↦ opened r j.1 places ]

abbrev pub opening : Pending → List ℕ → Expr → Row
opening w places body = row_with_field_places (rows_of w body) places

abbrev pub test_at_place : ℕ → Head → ℕ → Test
test_at_place place head fields = record { place = place; head = head; fields = fields }

-- the test that a pattern at a place is
abbrev pub test_of : ℕ → Pat → Option Test
test_of p (Name b) = None
test_of p (Int k at) = Some (test_at_place p (Integer k) 0)
test_of p (Con c ps) = Some (test_at_place p (Constructor c.name.0) (count ps))

abbrev pub first_of : List PendingPattern → Option Test
first_of [] = None
first_of (j ∷ js) = test_of j.0 j.1

abbrev pub name_of : Pat → Option Binder
name_of (Name b) = Some b
name_of (Int k at) = None
name_of (Con c ps) = None
