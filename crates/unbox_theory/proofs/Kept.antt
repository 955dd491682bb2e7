-- The law: the shape of what is made, and that this keeps the program.
use Rattle.std.proofs.Common.{arith}
use Rattle.grin_syntax.specs.Tree.{Program}
use Rattle.grin_meaning.specs.Ready.{Ready}
use Rattle.grin_meaning.specs.Keeps.{Keeps}
use Rattle.grin_meaning.specs.Looking.{CheckedRunsNeverMissing}
use Rattle.grin_meaning.proofs.Looked.{looking_law}
use Rattle.flow_system.specs.Tables.{tables}
use Rattle.flow_system.specs.System.{system}
use Rattle.flow_system.specs.Solution.{Solution, Solves}
use Rattle.pass_ground.specs.Vectors.{IsVectorForm}
use Rattle.unbox_theory.specs.Ends.{Procedures}
use Rattle.unbox_theory.specs.Members.{Closed}
use Rattle.unbox_theory.specs.Unboxing.{unboxed}
use Rattle.unbox_theory.specs.Laws.{UnboxedKeeps, UnboxingKeeps}
use Rattle.unbox_theory.proofs.Simulated.{unboxed_kept}
use Rattle.unbox_theory.proofs.Gives.{procs_inlined, procs_by_words, procs_vectorised, procs_narrow, procs_give, procs_params, procs_one_word, updates_stay}
use Rattle.unbox_theory.proofs.Formed.{unboxed_formed, unboxed_outside}

module _ (g : Program) (A : Solution) (M : Procedures) (of : IsVectorForm g)
    (solves : Solves (tables g) (system g) A) (closed : Closed A g M) where
  kept : CheckedRunsNeverMissing (unboxed M g) × Keeps g (unboxed M g)
  kept = unboxed_kept g A M of.formed
      ((looking_law g of.ready.inlined).sees of.ready.never_missing of.ready.runs) solves closed
      of.ready.inlined of.vectorised

  ready : Ready (unboxed M g)
  ready = record {
    inlined = procs_inlined M g.procs of.ready.inlined;
    few_params = procs_params M 16 0 g.procs of.ready.few_params;
    few_results = procs_give M _ 13 (omega arith) g.procs of.ready.few_results;
    few_fields = of.ready.few_fields;
    never_missing =
        (looking_law (unboxed M g) (procs_inlined M g.procs of.ready.inlined)).never_missing kept.0;
    runs = (looking_law (unboxed M g) (procs_inlined M g.procs of.ready.inlined)).runs_well kept.0;
  }

  whole : UnboxedKeeps g (unboxed M g) M
  whole = record {
    stays = record {
      of_vectors = record {
        formed = unboxed_formed M g of.formed;
        ready = ready;
        vectorised
            = procs_vectorised M g.procs of.vectorised;
      };
      outside = unboxed_outside M g;
      narrow = λ most. procs_narrow M most g.procs;
      by_words = procs_by_words M g.procs;
    };
    one_word = procs_one_word M A 0 g.procs closed;
    same_updates = updates_stay M 0 g.procs;
    keeps = kept.1;
  }

pub unboxing_law : UnboxingKeeps
unboxing_law g A S of solves closed = whole g A S of solves closed
