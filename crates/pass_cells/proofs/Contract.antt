-- That the pass meets its contract: the shape of what it makes, and that this keeps the program.
use Rattle.std.proofs.Common.{◌≡◌, ℕ, ◌≤◌, ◌*◌, ◌+◌, refl, sym, subst, arith}
use Rattle.grin_syntax.specs.Tree.{Program}
use Rattle.grin_meaning.specs.Ready.{Ready, most_value_fields, inlined_kind, without_node_fetches, vectorised_kind, narrow_kind}
use Rattle.grin_meaning.specs.Keeps.{Keeps}
use Rattle.grin_meaning.specs.Looking.{CheckedRunsNeverMissing}
use Rattle.grin_meaning.specs.Slim.{Slim}
use Rattle.grin_meaning.proofs.Looked.{looking_law}
use Rattle.pass_ground.specs.Vectors.{IsVectorForm}
use Rattle.pass_ground.specs.OpenUpdates.{tag_variable, one_if_some}
use Rattle.pass_cells.specs.Remembered.{remembered}
use Rattle.pass_cells.specs.Unknown.{RefetchesNothing}
use Rattle.pass_cells.proofs.Simulated.{remembered_kept}
use Rattle.pass_cells.proofs.Text.{procs_each, procs_narrow, procs_params, sums_stay, weights_stay, calls_stay, words_stay}
use Rattle.pass_cells.proofs.Formed.{remembered_formed, remembered_outside, procs_unknown}

module _ (g : Program) (of : IsVectorForm g) where
  kept : CheckedRunsNeverMissing (remembered g) × Keeps g (remembered g)
  kept = remembered_kept g of.formed of.ready.inlined of.vectorised
      ((looking_law g of.ready.inlined).sees of.ready.never_missing of.ready.runs)

  ready : Ready (remembered g)
  ready =
      let inlined = procs_each inlined_kind (λ w. tt) (λ w. tt) (λ v as' bs' h. tt) (λ b c h. tt)
      g.procs of.ready.inlined in
      record {
        inlined = inlined;
        few_params = procs_params 16 g.procs of.ready.few_params;
        few_results = procs_narrow (1 + most_value_fields g.tags) 13 (omega arith) g.procs
            of.ready.few_results;
        few_fields = of.ready.few_fields;
        never_missing = (looking_law (remembered g) inlined).never_missing kept.0;
        runs = (looking_law (remembered g) inlined).runs_well kept.0;
      }

  slim : (size most : ℕ) → Slim size most g → Slim size most (remembered g)
  slim size most s = record {
    light = subst (λ n. n ≤ 48 * size) (sym (weights_stay g.procs)) s.light;
    few_calls = subst (λ n. n ≤ size) (sym (calls_stay g.procs)) s.few_calls;
    few_words = words_stay (20 * most) g.procs s.few_words;
  }

  whole : RefetchesNothing g (remembered g)
  whole = record {
    stays = record {
      of_vectors = record {
        formed = remembered_formed g of.formed;
        ready = ready;
        vectorised
            = procs_each vectorised_kind (λ w. tt) (λ w. tt) (λ v as' bs' h. tt) (λ b c h. tt) g.procs
            of.vectorised;
      };
      outside = remembered_outside g;
      narrow = λ most. procs_each (narrow_kind most) (λ w. tt) (λ w. tt) (λ v as' bs' h. tt)
          (λ b c h. tt) g.procs;
      by_words = procs_each without_node_fetches (λ w. tt) (λ w. tt) (λ v as' bs' h. tt)
          (λ b c h. tt) g.procs;
    };
    made = refl;
    unknown = procs_unknown g.procs;
    same_open = sums_stay (λ v. one_if_some (tag_variable v)) g.procs;
    slim = slim;
  }

pub fetches_anew : (g h : Program) → h ≡ remembered g → IsVectorForm g → RefetchesNothing g h
fetches_anew g h e of = subst (RefetchesNothing g) (sym e) (whole g of)

pub is_kept : (g h : Program) → h ≡ remembered g → IsVectorForm g → Keeps g h
is_kept g h e of = subst (Keeps g) (sym e) (kept g of).1
