-- Programs whose nodes stand in vectors, and what each pass over them keeps of its input.
use Rattle.std.specs.Prelude.{ℕ}
use Rattle.grin_syntax.specs.Tree.{Program}
use Rattle.grin_syntax.specs.Formed.{Formed}
use Rattle.grin_syntax.specs.SameOutside.{DifferOnlyInBodies}
use Rattle.grin_meaning.specs.Ready.{IsFetchedByWords, IsVectorised, Ready, EveryBodyIsOfKind, narrow_kind}

-- well formed, fit for the passes after the inlining, and without node variables
pub record IsVectorForm (g : Program) : Type 0 where
  pub formed : Formed g
  pub ready : Ready g
  pub vectorised : IsVectorised g

-- no operation goes to more than so many variables
abbrev pub NarrowTargets : (most : ℕ) → Program → Type 0
NarrowTargets most g = EveryBodyIsOfKind (narrow_kind most) g.procs

-- h can be taken where g can. It has the tags, the global cells, the start and the names of g; its
-- targets are no wider; and where g fetches no whole node, neither does h
pub record StaysVectorForm (g h : Program) : Type 0 where
  pub of_vectors : IsVectorForm h
  pub outside : DifferOnlyInBodies g h
  pub narrow : (most : ℕ) → NarrowTargets most g → NarrowTargets most h
  pub by_words : IsFetchedByWords g → IsFetchedByWords h
