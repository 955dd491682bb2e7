-- That the pass meets its contract: the shape of what it makes, and that this keeps the program.
use Rattle.std.proofs.Common.{refl, ◌≡◌, ℕ, ◌+◌, ◌≤◌, ◌*◌, length, sym, subst, arith}
use Rattle.grin_syntax.specs.Tree.{Program}
use Rattle.grin_meaning.specs.Ready.{Ready, most_value_fields}
use Rattle.grin_meaning.specs.Keeps.{Keeps}
use Rattle.grin_meaning.specs.Looking.{CheckedRunsNeverMissing}
use Rattle.grin_meaning.specs.Slim.{Slim, procs_weight, procs_calls}
use Rattle.grin_meaning.proofs.Looked.{looking_law}
use Rattle.flow_system.specs.Tables.{tables}
use Rattle.flow_system.specs.System.{system}
use Rattle.flow_system.specs.Solution.{Solution, Solves}
use Rattle.pass_ground.specs.Vectors.{IsVectorForm}
use Rattle.pass_ground.specs.OpenUpdates.{tag_variable, one_if_some}
use Rattle.pass_narrow.specs.Narrow.{narrow}
use Rattle.pass_narrow.specs.NarrowBy.{NarrowBy}
use Rattle.pass_narrow.proofs.Simulated.{narrow_kept, narrow_heaps}
use Rattle.pass_narrow.proofs.Gives.{procs_inlined, procs_by_words, procs_vectorised, procs_narrow, procs_give, procs_params, procs_read, procs_update}
use Rattle.pass_narrow.proofs.Sizes.{procs_lighter, procs_calls_stay, procs_words}
use Rattle.pass_narrow.proofs.Solved.{still_solves}
use Rattle.pass_narrow.proofs.Formed.{narrow_formed, narrow_outside}

module _ (g : Program) (A : Solution) (of : IsVectorForm g)
    (solves : Solves (tables g) (system g) A) where
  abbrev count : ℕ
  count = length g.tags

  kept : CheckedRunsNeverMissing (narrow A g) × Keeps g (narrow A g)
  kept = narrow_kept g A of.formed
      ((looking_law g of.ready.inlined).sees of.ready.never_missing of.ready.runs) solves

  ready : Ready (narrow A g)
  ready = record {
    inlined = procs_inlined count A g.procs of.ready.inlined;
    few_params = procs_params count A 16 g.procs of.ready.few_params;
    few_results = procs_give count A (1 + most_value_fields g.tags) 13 g.procs of.ready.few_results;
    few_fields = of.ready.few_fields;
    never_missing =
        (looking_law (narrow A g) (procs_inlined count A g.procs of.ready.inlined)).never_missing
        kept.0;
    runs = (looking_law (narrow A g) (procs_inlined count A g.procs of.ready.inlined)).runs_well
        kept.0;
  }

  slim : (size most : ℕ) → Slim size most g → Slim size most (narrow A g)
  slim size most s = record {
    light = let l : procs_weight (narrow A g).procs ≤ procs_weight g.procs
        = procs_lighter count A g.procs in let k : procs_weight g.procs ≤ 48 * size = s.light
        in omega (arith, l, k);
    few_calls = let l : procs_calls (narrow A g).procs ≡ procs_calls g.procs
        = procs_calls_stay count A g.procs in let k : procs_calls g.procs ≤ size = s.few_calls
        in omega (arith, l, k);
    few_words = procs_words count A (20 * most) g.procs s.few_words;
  }

  whole : NarrowBy A g (narrow A g)
  whole = record {
    stays = record {
      of_vectors = record {
        formed = narrow_formed A g of.formed of.vectorised;
        ready = ready;
        vectorised
            = procs_vectorised count A g.procs of.vectorised;
      };
      outside = narrow_outside A g;
      narrow = λ most. procs_narrow count A most g.procs;
      by_words = procs_by_words count A g.procs;
    };
    made = refl;
    read = procs_read count A g.procs;
    still_solves = still_solves g A solves;
    same_open = procs_update count A (λ v. one_if_some (tag_variable v)) g.procs;
    slim = slim;
    heaps = narrow_heaps g A of.formed
        ((looking_law g of.ready.inlined).sees of.ready.never_missing of.ready.runs) solves;
  }

pub is_narrow : (g h : Program) (A : Solution) → IsVectorForm g → Solves (tables g) (system g) A
    → h ≡ narrow A g → NarrowBy A g h
is_narrow g h A of solves e = subst (NarrowBy A g) (sym e) (whole g A of solves)

pub is_kept : (g h : Program) (A : Solution) → IsVectorForm g → Solves (tables g) (system g) A
    → h ≡ narrow A g → Keeps g h
is_kept g h A of solves e = subst (Keeps g) (sym e) (kept g A of solves).1
