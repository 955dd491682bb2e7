-- The laws of Core's relation, from those of any language.
use Rattle.std.proofs.Common.{◌≡◌, ◌≢◌, ◌↔◌, ℕ, List, sym, ◌∙◌, subst}
use Rattle.headline.specs.Carries.{IsPrefixOf}
use Rattle.arity_check.specs.Program.{Program, Term}
use Rattle.core_meaning.specs.Heap.{Value, Env}
use Rattle.core_meaning.specs.Evaluation.{OutOfBound}
use Rattle.core_meaning.specs.Printing.{PrintingEnd, Going, printed}
use Rattle.core_meaning.specs.ByNeed as by_need
use Rattle.natural_semantics.specs.World.{World}
use Rattle.natural_semantics.specs.Natural.{Evaluates}
use Rattle.natural_semantics.specs.Stuck.{EvaluationSticks}
use Rattle.natural_semantics.specs.Prints.{ProgramPrints}
use Rattle.natural_semantics.specs.Laws.{RelationIsThatOfItsMoves}
use Rattle.natural_semantics.specs.CoreMoves.{moves_of, core_program}
use Rattle.natural_semantics.specs.any.Laws.{SaysWhatRunsDo, PartsAgree}
use Rattle.natural_semantics.proofs.any.OneAnswer as any-laws
use Rattle.natural_semantics.proofs.any.Parts as parts
use Rattle.natural_semantics.proofs.Performed.{runs_performed}
use Rattle.natural_semantics.proofs.SameRelation.{evaluates_to, evaluates_from}
use Rattle.natural_semantics.proofs.SameSticking.{evaluation_sticks_to}
use Rattle.natural_semantics.proofs.SamePrints.{program_to, program_from}

pub one_value : (p : Program) (w w' w'' : World) (env : Env) (e : Term) (u v : Value)
    → Evaluates p w env e u w' → Evaluates p w env e v w'' → (u ≡ v) × (w' ≡ w'')
one_value p w w' w'' env e u v a b =
    any-laws.one_value (core_program p) w w' w'' (moves_of p e env) u v
    (evaluates_to p w w' env e u a) (evaluates_to p w w'' env e v b)

pub never_both : (p : Program) (w w' : World) (env : Env) (e : Term) (v : Value)
    → Evaluates p w env e v w' → EvaluationSticks p w env e → ⊥
never_both p w w' env e v a b =
    any-laws.never_both (core_program p) w w' (moves_of p e env) v
    (evaluates_to p w w' env e v a) (evaluation_sticks_to p w env e b)

pub one_output : (p : Program) (i out out' : List ℕ) (end end' : PrintingEnd) → end ≢ Going
    → end' ≢ Going
    → ProgramPrints p i out end → ProgramPrints p i out' end' → (out ≡ out') × (end ≡ end')
one_output p i out out' end end' h h' a b =
    any-laws.one_output (core_program p) i out out' end end' h h'
    (program_to p i out end a) (program_to p i out' end' b)

pub parts_agree : (p : Program) (i : List ℕ) → PartsAgree (ProgramPrints p i)
parts_agree p i =
    let of_moves = parts.parts_agree (core_program p) i in
    record {
      shorter = λ part all end h d.
          program_from p i part Going
          (of_moves.shorter part all end h (program_to p i all end d));
      ended = λ part all end h a b.
          of_moves.ended part all end h (program_to p i part Going a)
          (program_to p i all end b);
      ordered = λ part part' a b.
          of_moves.ordered part part' (program_to p i part Going a)
          (program_to p i part' Going b);
    }

-- a program's runs are those of its moves, where its lookups find what they look for
module _ (p : Program)
    (found : (i : List ℕ) (n : ℕ) → by_need.printed 0 (λ s. OutOfBound s) p i n ≡ printed p i n)
  where
    says : SaysWhatRunsDo (core_program p) (printed p)
    says = subst (λ run. SaysWhatRunsDo (core_program p) run)
        (λ j i n. (sym (runs_performed p i n) ∙ found i n) j)
        (any-laws.says_what_runs_do (core_program p))

    pub ends : (i out : List ℕ) (end : PrintingEnd) → end ≢ Going
        → ((n : ℕ) × ((printed p i n).out ≡ out) × ((printed p i n).end ≡ end))
        ↔ ProgramPrints p i out end
    ends i out end h = (
      λ t. program_from p i out end ((says.ends i out end h).0 t),
      λ d. (says.ends i out end h).1 (program_to p i out end d),
    )

    pub derived : (i : List ℕ) (n : ℕ) → ProgramPrints p i (printed p i n).out Going
    derived i n = program_from p i (printed p i n).out Going (says.derived i n)

    pub met : (i out : List ℕ) → ProgramPrints p i out Going
        → (n : ℕ) × IsPrefixOf out (printed p i n).out
    met i out d = says.met i out (program_to p i out Going d)

    pub goes_on : (i : List ℕ)
        → ((n : ℕ) → (printed p i n).end ≡ Going)
        ↔ ((out : List ℕ) (end : PrintingEnd) → end ≢ Going → ProgramPrints p i out end → ⊥)
    goes_on i = (
      λ all out end h d. (says.goes_on i).0 all out end h (program_to p i out end d),
      λ none. (says.goes_on i).1 (λ out end h d. none out end h (program_from p i out end d)),
    )

pub same : RelationIsThatOfItsMoves
same = record {
  values = λ p w w' env e v. (evaluates_to p w w' env e v, evaluates_from p w w' env e v);
  printing = λ p i out end. (program_to p i out end, program_from p i out end);
}
