-- That the pass meets its contract: the shape of what it makes, and that this keeps the program.
use Rattle.std.proofs.Common.{◌≡◌, ℕ, ◌≤◌, ◌*◌, ◌+◌, refl, sym, subst, arith}
use Rattle.grin_syntax.specs.Tree.{Program}
use Rattle.grin_meaning.specs.Ready.{Ready, most_value_fields, inlined_kind, without_node_fetches, vectorised_kind, narrow_kind}
use Rattle.grin_meaning.specs.Keeps.{Keeps}
use Rattle.grin_meaning.specs.Looking.{CheckedRunsNeverMissing}
use Rattle.grin_meaning.specs.Slim.{Slim, procs_weight}
use Rattle.grin_meaning.proofs.Looked.{looking_law}
use Rattle.pass_ground.specs.Vectors.{IsVectorForm}
use Rattle.pass_ground.specs.OpenUpdates.{tag_variable, one_if_some}
use Rattle.pass_flat.specs.Flat.{flat}
use Rattle.pass_flat.specs.Flattened.{Flattened}
use Rattle.pass_flat.proofs.Simulated.{flat_kept}
use Rattle.pass_flat.proofs.Gives.{procs_each, procs_flat, procs_narrow, procs_params, procs_sums}
use Rattle.pass_flat.proofs.Sizes.{procs_lighter, procs_calls_stay, procs_words}
use Rattle.pass_flat.proofs.Formed.{flat_formed, flat_outside}

module _ (g : Program) (of : IsVectorForm g) where
  kept : CheckedRunsNeverMissing (flat g) × Keeps g (flat g)
  kept = flat_kept g of.formed of.vectorised
      ((looking_law g of.ready.inlined).sees of.ready.never_missing of.ready.runs)

  ready : Ready (flat g)
  ready =
      let inlined = procs_each inlined_kind (λ v as' bs' h. tt) g.procs of.ready.inlined in
      record {
        inlined = inlined;
        few_params = procs_params 16 g.procs of.ready.few_params;
        few_results = procs_narrow (1 + most_value_fields g.tags) 13 g.procs of.ready.few_results;
        few_fields = of.ready.few_fields;
        never_missing = (looking_law (flat g) inlined).never_missing kept.0;
        runs = (looking_law (flat g) inlined).runs_well kept.0;
      }

  slim : (size most : ℕ) → Slim size most g → Slim size most (flat g)
  slim size most s = record {
    light = let l : procs_weight (flat g).procs ≤ procs_weight g.procs = procs_lighter g.procs
        in let k : procs_weight g.procs ≤ 48 * size = s.light in omega (arith, l, k);
    few_calls = subst (λ n. n ≤ size) (sym (procs_calls_stay g.procs)) s.few_calls;
    few_words = procs_words (20 * most) g.procs s.few_words;
  }

  whole : Flattened g (flat g)
  whole = record {
    stays = record {
      of_vectors = record {
        formed = flat_formed g of.formed;
        ready = ready;
        vectorised
            = procs_each vectorised_kind (λ v as' bs' h. tt) g.procs of.vectorised;
      };
      outside = flat_outside g;
      narrow = λ most. procs_each (narrow_kind most) (λ v as' bs' h. tt) g.procs;
      by_words = procs_each without_node_fetches (λ v as' bs' h. tt) g.procs;
    };
    made = refl;
    none_nested = procs_flat g.procs;
    same_open = procs_sums (λ v. one_if_some (tag_variable v)) g.procs;
    slim = slim;
  }

pub is_flattened : (g h : Program) → h ≡ flat g → IsVectorForm g → Flattened g h
is_flattened g h e of = subst (Flattened g) (sym e) (whole g of)

pub is_kept : (g h : Program) → h ≡ flat g → IsVectorForm g → Keeps g h
is_kept g h e of = subst (Keeps g) (sym e) (kept g of).1
