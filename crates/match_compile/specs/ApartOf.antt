-- Equations whose bodies stand elsewhere.
use Rattle.std.specs.Prelude.{ℕ, List, [], ◌∷◌, map, Option, Some, None, slice_get}
use Rattle.core_reader.specs.Tree.{Expr}
use Rattle.match_compile.specs.declared.compile.Heading.{Heading}
use Rattle.match_compile.specs.Source.{Equation}
use Rattle.match_compile.specs.SourceOf.{pat_of, pats_of}

abbrev pub equation_with_body : Heading → Expr → Equation
equation_with_body h body =
    record { name = h.name.0; at = h.at; pats = pats_of (map pat_of h.pats); body = body }

abbrev pub equations_with_bodies : List Heading → List Expr → List Equation
equations_with_bodies [] bodies = []
equations_with_bodies (h ∷ hs) [] = []
equations_with_bodies (h ∷ hs) (b ∷ bs) = equation_with_body h b ∷ equations_with_bodies hs bs

abbrev pub equation_at : List Heading → (k : ℕ) → Expr → Option Equation
equation_at hs k body =
    elim (slice_get hs k) [ Some h ↦ Some (equation_with_body h body) | None ↦ None ]
