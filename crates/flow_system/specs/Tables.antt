-- What the inclusions of a program refer to.
use Rattle.std.specs.Prelude.{ℕ, List, map, Option, Some, None, slice_get}
use Rattle.grin_syntax.specs.declared.program.VarId.{VarId}
use Rattle.grin_syntax.specs.declared.program.Tag.{Tag}
use Rattle.grin_syntax.specs.declared.program.GlobalCell.{GlobalCell}
use Rattle.grin_syntax.specs.declared.program.Target.{Target}
use Rattle.grin_syntax.specs.declared.program.Target.TheVariants.{Nothing, Vector}
use Rattle.grin_syntax.specs.Tree.{Program}
use Rattle.grin_meaning.specs.Values.{and_then}

-- the tags of a program, its global cells, and the parameters of its procedures
pub record Tables : Type 0 where
  pub tags : List Tag
  pub globals : List GlobalCell
  pub params : List (List VarId)

abbrev pub tables : Program → Tables
tables p = record { tags = p.tags; globals = p.globals; params = map (λ q. q.params) p.procs }

-- how many fields a tag has
abbrev pub fields_of : Tables → ℕ → Option ℕ
fields_of p t = and_then (slice_get p.tags t) (λ i. Some i.fields)

abbrev pub target_of : Option (List VarId) → Target
target_of None = Nothing
target_of (Some xs) = Vector xs

-- the parameters of a procedure
abbrev pub params_of : Tables → ℕ → Target
params_of p f = target_of (slice_get p.params f)
