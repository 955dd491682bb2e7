-- The law: the shape of what is made, and that this keeps the program.
use Rattle.std.proofs.Common.{ℕ, ◌+◌, ◌≤◌, List, sym, subst, arith}
use Rattle.grin_syntax.specs.Tree.{Program}
use Rattle.grin_meaning.specs.Ready.{most_value_fields, IsInlined, IsFetchedByWords, Ready}
use Rattle.grin_meaning.specs.Keeps.{Keeps}
use Rattle.grin_meaning.specs.Looking.{CheckedRunsNeverMissing}
use Rattle.grin_meaning.proofs.Looked.{looking_law}
use Rattle.flow_system.specs.Tables.{tables}
use Rattle.flow_system.specs.System.{system}
use Rattle.flow_system.specs.Solution.{Solution, Solves}
use Rattle.pass_ground.specs.Vectors.{IsVectorForm}
use Rattle.pass_ground.specs.OpenUpdates.{tag_variable, one_if_some, updates_with_variable_tag}
use Rattle.raise_theory.specs.Raising.{Decisions, raised}
use Rattle.raise_theory.specs.Decided.{IsDecided}
use Rattle.raise_theory.specs.Laws.{RaisedKeeps, RaisingKeeps}
use Rattle.raise_theory.proofs.Gives.{procs_inlined, procs_vectorised, procs_by_words, procs_narrow, procs_give, sums_stay}
use Rattle.raise_theory.proofs.Choices.{few_params}
use Rattle.raise_theory.proofs.Formed.{raised_formed, raised_outside}
use Rattle.raise_theory.proofs.Simulated.{raised_kept}

module _ (g : Program) (A : Solution) (D : List Decisions) (n : ℕ) (of : IsVectorForm g)
    (words : IsFetchedByWords g) (solves : Solves (tables g) (system g) A) (d : IsDecided A g D n)
  where
    kept : CheckedRunsNeverMissing (raised D n g) × Keeps g (raised D n g)
    kept = raised_kept g A D n of words solves d

    inlined : IsInlined (raised D n g)
    inlined = procs_inlined D D g.procs n of.ready.inlined

    ready : Ready (raised D n g)
    ready = record {
      inlined = inlined;
      few_params = few_params A g D D g.procs n 0 d.decided of.ready.few_params;
      few_results = procs_give D (1 + most_value_fields g.tags) 13 (omega arith) D g.procs n
          of.ready.few_results;
      few_fields = of.ready.few_fields;
      never_missing = (looking_law (raised D n g) inlined).never_missing kept.0;
      runs = (looking_law (raised D n g) inlined).runs_well kept.0;
    }

    whole : RaisedKeeps g (raised D n g)
    whole = record {
      of_vectors = record {
        formed = raised_formed A g D n d of.formed words;
        ready = ready;
        vectorised
            = procs_vectorised D D g.procs n of.vectorised;
      };
      outside = raised_outside A g D n d;
      narrow = λ most one. procs_narrow D most one D g.procs n;
      by_words = procs_by_words D D g.procs n words;
      no_more_open = subst (λ m. m ≤ updates_with_variable_tag g)
          (sym (sums_stay D (λ v. one_if_some (tag_variable v)) D g.procs n)) (omega arith);
      keeps = kept.1;
    }

pub raising_law : RaisingKeeps
raising_law g A D n of words solves d = whole g A D n of words solves d
