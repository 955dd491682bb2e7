-- One pass after another.
use Rattle.std.proofs.Common.{arith}
use Rattle.grin_syntax.specs.Tree.{Program}
use Rattle.grin_meaning.specs.Keeps.{Keeps}
use Rattle.grin_meaning.specs.Ready.{IsFetchedByWords}
use Rattle.grin_meaning.proofs.Kept.{keeps_again}
use Rattle.pass_ground.specs.Vectors.{IsVectorForm}
use Rattle.stage_names.specs.declared.PassName.{PassName}
use Rattle.stage_names.specs.declared.PassName.TheVariants.{Translate, Eval, Apply, Vectorise, Simplify, Fetch}
use Rattle.grin_opt.specs.Schedule.{IsPass, IsFirstPassInput, pass_relation, before, IsOfStage, IsPassResult, IsOptimised, itself, by_pass}
use Rattle.grin_opt.specs.Staying.{IsStageFrom}
use Rattle.grin_opt.proofs.Gives.{gives}

pub of_vectors : (g h : Program) (k : PassName) → IsPass k → IsOptimised g k h → IsVectorForm h
of_vectors g h k has itself = absurd has
of_vectors g h k has (by_pass {h = b} o s keeps) = (gives k b h s).of_vectors

pub by_words : (g h : Program) (k : PassName) → IsStageFrom Fetch k → IsOptimised g k h
    → IsFetchedByWords h
by_words g h k from itself = absurd (omega (arith, from))
by_words g h k from (by_pass {h = b} o s keeps) = (gives k b h s).by_words from
    (λ from. by_words g b (before k) from o)

-- ---- one pass more

-- what a pass gives is of its stage, and so taken by the pass after it
pub of_stage : (k : PassName) (g h : Program) → IsOfStage (before k) g → pass_relation k g h
    → IsOfStage k h
of_stage Translate g h of s = absurd s
of_stage Eval g h of s = absurd s
of_stage Apply g h of s = absurd s
of_stage Vectorise g h of s = (gives Vectorise g h s).of_vectors
of_stage Simplify g h of s = (gives Simplify g h s).of_vectors
of_stage Fetch g h of s = ((gives Fetch g h s).of_vectors, s.by_words)
of_stage k g h of s =
    ((gives k g h s).of_vectors, (gives k g h s).by_words (omega arith) (λ from. of.1))

-- the programs of the schedule are of their stages
pub stage_of : (g h : Program) (k : PassName) → IsFirstPassInput g → IsOptimised g k h
    → IsOfStage k h
stage_of g h k taken itself = taken
stage_of g h k taken (by_pass {h = b} o s keeps) = of_stage k b h (stage_of g b (before k) taken o)
    s

kept : (g h h' : Program) (k : PassName) → IsOptimised g k h → Keeps h h' → Keeps g h'
kept g h h' k itself keeps = keeps
kept g h h' k (by_pass o s so_far) keeps = keeps_again g h h' so_far keeps

pub further : (g h h' : Program) (k : PassName) → IsOptimised g (before k) h → IsPassResult k h h'
    → IsOptimised g k h'
further g h h' k o by = by_pass o by.shape (kept g h h' (before k) o by.keeps)
