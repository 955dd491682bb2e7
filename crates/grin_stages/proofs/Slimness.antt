-- What vectorising makes of a slim program is slim.
use Rattle.std.proofs.Common.{ℕ, ◌≤◌, ◌*◌, List, [], ◌∷◌, subst, arith}
use Rattle.grin_syntax.specs.Tree.{Procedure, Program}
use Rattle.grin_syntax.specs.Formed.{AllOf}
use Rattle.grin_meaning.specs.Slim.{Slim, procedure_words}
use Rattle.inline_theory.specs.Size.{size, largest_procedure}
use Rattle.inline_theory.specs.Small.{IsLinearInSize}
use Rattle.vectorise.specs.Widened.{ProcedureWordsDoNotGrow, Widened}
use Rattle.stage_names.specs.declared.PassName.TheVariants.{Vectorise}
use Rattle.grin_stages.specs.Stage.{VectorisedIsSlim}
use Rattle.grin_stages.proofs.Stages.{from_pass}
use Rattle.grin_stages.proofs.Alike.{inlined_stage}

few_words : (most : ℕ) (qs rs : List Procedure) → ProcedureWordsDoNotGrow qs rs
    → AllOf (λ q. procedure_words q ≤ most) qs → AllOf (λ q. procedure_words q ≤ most) rs
few_words most [] [] f h = tt
few_words most [] (r ∷ rs) f h = absurd f
few_words most (q ∷ qs) [] f h = absurd f
few_words most (q ∷ qs) (r ∷ rs) f h =
    (let a = f.0 in let b = h.0 in omega (arith, a, b), few_words most qs rs f.1 h.1)

widened_is_slim : (s most : ℕ) (g h : Program) → Widened g h → Slim s most g → Slim s most h
widened_is_slim s most g h w slim = record {
  light = (let a = w.light in let b = slim.light in omega (arith, a, b));
  few_calls = (let a = w.few_calls in let b = slim.few_calls in omega (arith, a, b));
  few_words = few_words (20 * most) g.procs h.procs w.few_words slim.few_words;
}

pub vectorised_slim : IsLinearInSize → VectorisedIsSlim
vectorised_slim law p h s A least =
    let from = from_pass p Vectorise h tt s in
    widened_is_slim _ _ from.g h from.shape
    (subst (λ g. Slim (size g) (largest_procedure g) from.g)
    (inlined_stage p from.g from.stage A least) (law from.g))
