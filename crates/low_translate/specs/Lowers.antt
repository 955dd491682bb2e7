-- Low code that does what a program of GRIN does, and how small it is beside it.
use Rattle.std.specs.Prelude.{ℕ, ◌+◌, ◌*◌, ◌≡◌, ◌≤◌, List, [], ◌∷◌, map, length}
use Rattle.headline.specs.Carries.{IsBytes, MeaningRefines}
use Rattle.grin_syntax.specs.Tree as grin
use Rattle.grin_syntax.specs.Formed.{AllOf}
use Rattle.grin_meaning.specs.Ready.{most_fields, EveryBodyIsOfKind, narrow_kind}
use Rattle.grin_meaning.specs.Slim.{procs_weight, procs_calls, procedure_words}
use Rattle.grin_meaning.specs.Told.{meaning_of_grin, entered_by_grin}
use Rattle.low_code.specs.Tree as low
use Rattle.low_code.specs.Formed.{variables}
use Rattle.low_code.specs.Size.{AtMostTwoTests, program_size, calls_of}
use Rattle.low_code.specs.Told.{meaning_of_low, entered_by_low}

-- l tells what g tells, enters the procedures that g enters, and has no more words of frames at
-- once than the nesting says, over frames of any sizes; procedure f of l is that of g, a cell has a
-- word for the tag and for each field, and parameters and results are few
pub record Lowers (g : grin.Program) (l : low.Program) : Type 0 where
  pub tells : (frame_words : ℕ → ℕ) (i : List ℕ) → IsBytes i → (n : ℕ)
      → MeaningRefines (meaning_of_grin g i n) (meaning_of_low l frame_words i n)
  pub enters : (frame_words : ℕ → ℕ) (i : List ℕ) → IsBytes i → (n : ℕ)
      → entered_by_low l frame_words i n ≡ entered_by_grin g i n
  pub frames : (frame_words : ℕ → ℕ) (most : ℕ) → ((f : ℕ) → frame_words f ≤ most)
      → (i : List ℕ) → IsBytes i → (n : ℕ)
      → (meaning_of_low l frame_words i n).depth ≤ ((meaning_of_grin g i n).depth + 1) * most
  pub procs : length l.procs ≡ length g.procs
  pub few_params : AllOf (λ q. length q.params ≤ 16) l.procs
  pub few_results : AllOf (λ q. q.results ≤ 13) l.procs
  pub width : l.width ≡ 1 + most_fields g.tags
  pub globals : l.globals ≡ map (λ c. c.tag.0) g.globals
  pub start : l.start ≡ g.start.0
  pub argument : l.argument ≡ g.argument

-- a fact of each procedure and the one that stands at its place
abbrev pub EachProcedurePair : (grin.Procedure → low.Procedure → Type 0)
    → List grin.Procedure → List low.Procedure → Type 0
EachProcedurePair P [] [] = Unit {0}
EachProcedurePair P (q ∷ qs) (r ∷ rs) = P q r × EachProcedurePair P qs rs
EachProcedurePair P _ _ = ⊥

-- no operation goes to more variables than a cell can have words
abbrev pub TargetsFitCells : grin.Program → Type 0
TargetsFitCells g = EveryBodyIsOfKind (narrow_kind 14) g.procs

-- l is small beside g
pub record LoweredIsSmall (g : grin.Program) (l : low.Program) : Type 0 where
  pub few_tests : AtMostTwoTests l
  pub light : program_size l ≤ 4 * procs_weight g.procs
  pub few_calls : calls_of l ≡ procs_calls g.procs
  pub few_words : EachProcedurePair (λ q r. length (variables r) ≤ procedure_words q)
      g.procs l.procs
