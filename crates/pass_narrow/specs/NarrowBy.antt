-- The shape of a program without words that nobody reads.
use Rattle.std.specs.Prelude.{ℕ, ◌≡◌, true, length}
use Rattle.grin_syntax.specs.declared.program.VarId.{VarId}
use Rattle.grin_syntax.specs.declared.program.Target.{Target}
use Rattle.grin_syntax.specs.declared.program.Target.TheVariants as to
use Rattle.grin_syntax.specs.Tree.{Code, Act, Program}
use Rattle.grin_syntax.specs.Formed.{AllOf}
use Rattle.grin_meaning.specs.Slim.{Slim}
use Rattle.flow_system.specs.Tables.{tables}
use Rattle.flow_system.specs.System.{system}
use Rattle.flow_system.specs.Solution.{Solution, Solves}
use Rattle.pass_ground.specs.OpenUpdates.{updates_with_variable_tag}
use Rattle.pass_ground.specs.Vectors.{StaysVectorForm}
use Rattle.copy_prop.specs.Lean.{used_in_code}
use Rattle.copy_prop.specs.Copied.{BoundCode, SameHeaps}
use Rattle.seq.specs.Lists.{is_among}
use Rattle.pass_narrow.specs.Picked.{stay}
use Rattle.pass_narrow.specs.Narrow.{act_fits, narrow}

module _ (count : ℕ) (A : Solution) where
  -- the block uses each word of the target's vector, or some end of the operation is none of which
  -- a word may go
  abbrev pub IsRead : Target → Act → Code → Type 0
  IsRead (to.Vector xs) o b =
      act_fits count A (stay (used_in_code b) xs) o ≡ true
      → AllOf (λ (x : VarId). is_among x.0 (used_in_code b) ≡ true) xs
  IsRead _ o b = Unit {0}

-- h is what is made of g by its solution A. In h each word of a vector that is bound is read, where
-- A allows it to go. A solves the flow system of h too. h is as good an input for a pass as g, with
-- as many updates without a literal tag, and no larger, and its heaps are those of g.
pub record NarrowBy (A : Solution) (g h : Program) : Type 0 where
  pub stays : StaysVectorForm g h
  pub made : h ≡ narrow A g
  pub read : AllOf (λ q. BoundCode (IsRead (length g.tags) A) q.body) h.procs
  pub still_solves : Solves (tables h) (system h) A
  pub same_open : updates_with_variable_tag h ≡ updates_with_variable_tag g
  pub slim : (size most : ℕ) → Slim size most g → Slim size most h
  pub heaps : SameHeaps g h
