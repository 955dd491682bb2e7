-- The shape of a program without nested blocks.
use Rattle.std.specs.Prelude.{ℕ, ◌≡◌}
use Rattle.grin_syntax.specs.Tree.{Act, nested, Program}
use Rattle.grin_meaning.specs.Ready.{PieceKind, any_kind, EveryBodyIsOfKind}
use Rattle.grin_meaning.specs.Slim.{Slim}
use Rattle.pass_ground.specs.Vectors.{StaysVectorForm}
use Rattle.pass_ground.specs.OpenUpdates.{updates_with_variable_tag}
use Rattle.pass_flat.specs.Flat.{flat}

abbrev pub NotNested : Act → Type 0
NotNested (nested b) = ⊥
NotNested _ = Unit {0}

abbrev pub without_nested_blocks : PieceKind
without_nested_blocks = record any_kind { operation = NotNested }

-- h is g with its nested blocks taken apart. So none of its operations is one, and h is as good an
-- input for a pass as g, with as many updates without a literal tag, and no larger.
pub record Flattened (g h : Program) : Type 0 where
  pub stays : StaysVectorForm g h
  pub made : h ≡ flat g
  pub none_nested : EveryBodyIsOfKind without_nested_blocks h.procs
  pub same_open : updates_with_variable_tag h ≡ updates_with_variable_tag g
  pub slim : (size most : ℕ) → Slim size most g → Slim size most h
