-- Programs that differ in the parameters and bodies of their procedures alone.
use Rattle.std.specs.Prelude.{◌≡◌, ℕ, List, map}
use Rattle.grin_syntax.specs.Tree.{Procedure, Program}

abbrev pub names_of : List Procedure → List (List ℕ)
names_of qs = map (λ q. q.name) qs

-- the second has the tags, the global cells, the start and its argument of the first, and
-- procedures with the same names in the same order
pub record DifferOnlyInBodies (g h : Program) : Type 0 where
  pub same_tags : h.tags ≡ g.tags
  pub same_globals : h.globals ≡ g.globals
  pub same_start : h.start ≡ g.start
  pub same_argument : h.argument ≡ g.argument
  pub same_names : names_of h.procs ≡ names_of g.procs
