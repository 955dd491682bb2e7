-- What the pass makes of a program.
use Rattle.std.specs.Prelude.{ℕ, ◌≡◌, ◌<◌, ◌≤◌, cond, nat_le, List, length, Option, Some, None, IfSome}
use Rattle.grin_syntax.specs.declared.program.VarId.{VarId}
use Rattle.grin_syntax.specs.Tree.{Act, leaf, update, Program}
use Rattle.grin_meaning.specs.Ready.{PieceKind, any_kind, EveryBodyIsOfKind}
use Rattle.flow_system.specs.Tables.{tables}
use Rattle.flow_system.specs.System.{system}
use Rattle.flow_system.specs.Solution.{Solution, IsLeast}
use Rattle.pass_ground.specs.Vectors.{StaysVectorForm}
use Rattle.pass_ground.specs.OpenUpdates.{tag_variable, procs_update_sum, updates_with_variable_tag}
use Rattle.update_special.specs.Updates.{max_case_tags, tags_of, updated}

-- ---- the shape

-- with the tags of each variable: where the tag of an update is a variable, this may be one of more
-- than eight
abbrev pub TagIsLiteralOrMany : (ℕ → List ℕ) → Act → Type 0
TagIsLiteralOrMany T (leaf (update a v)) =
    IfSome (tag_variable v) (λ x. max_case_tags < length (T x.0))
TagIsLiteralOrMany T _ = Unit {0}

abbrev pub literal_kind : (ℕ → List ℕ) → PieceKind
literal_kind T = record any_kind { operation = TagIsLiteralOrMany T }

-- ---- how many updates are left without a literal tag

abbrev pub one_if_wide : (ℕ → List ℕ) → Option VarId → ℕ
one_if_wide T None = 0
one_if_wide T (Some x) = cond (nat_le (length (T x.0)) max_case_tags) 0 1

-- the updates of a program whose tag is a variable that may stand for more than eight
abbrev pub many_tag_updates : Solution → Program → ℕ
many_tag_updates A p =
    let T : ℕ → List ℕ = tags_of (length p.tags) A in
    procs_update_sum (λ v. one_if_wide T (tag_variable v)) p.procs

-- ---- the whole

-- by a solution A for g: the updates of h have literal tags, but for as many as g has with more
-- than eight tags
pub record UpdatesByTags (A : Solution) (g h : Program) : Type 0 where
  pub literal :
      let T : ℕ → List ℕ = tags_of (length g.tags) A in
      EveryBodyIsOfKind (literal_kind T) h.procs
  pub left : updates_with_variable_tag h ≡ many_tag_updates A g
  pub no_more : updates_with_variable_tag h ≤ updates_with_variable_tag g

-- h is what is made of g by the least solution of its flow system
pub record Updated (g h : Program) : Type 0 where
  pub stays : StaysVectorForm g h
  pub solution : Solution
  pub least : IsLeast (tables g) (system g) solution
  pub made : h ≡ updated solution g
  pub updates : UpdatesByTags solution g h

-- h is what the pass makes of g, whatever program this is
pub record MadeByLeastSolution (g h : Program) : Type 0 where
  pub solution : Solution
  pub least : IsLeast (tables g) (system g) solution
  pub made : h ≡ updated solution g
