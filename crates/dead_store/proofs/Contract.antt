-- That the pass meets its contract: the shape of what it makes, that this keeps the program, and
-- what becomes of the heaps.
use Rattle.std.proofs.Common.{◌≡◌, ℕ, Bool, ◌+◌, ◌*◌, ◌≤◌, List, refl, sym, ap, ◌∙◌, subst, arith}
use Rattle.grin_syntax.specs.Tree.{Procedure, Program}
use Rattle.grin_meaning.specs.Ready.{most_value_fields, IsInlined, IsFetchedByWords, Ready}
use Rattle.grin_meaning.specs.Keeps.{Keeps}
use Rattle.grin_meaning.specs.Slim.{procs_weight, procs_calls, Slim}
use Rattle.grin_meaning.proofs.Looked.{looking_law}
use Rattle.flow_system.specs.Tables.{tables}
use Rattle.flow_system.specs.System.{system}
use Rattle.flow_system.specs.Solution.{Solution, Solves}
use Rattle.pass_ground.specs.Vectors.{IsVectorForm}
use Rattle.dead_store.specs.Staying.{AreStaying}
use Rattle.dead_store.specs.Without.{without_procs, is_gone, without}
use Rattle.dead_store.specs.Stored.{KeepsOnlyStayingCells, DeadStoresRemovedBy}
use Rattle.dead_store.proofs.Simulated.{fine, kept_too, heaps_kept}
use Rattle.dead_store.proofs.Gives.{procs_inlined, procs_vectorised, procs_by_words, procs_narrow, procs_give, procs_params, procs_count, procs_lighter, procs_calls_fewer, procs_words, procs_sites_stay}
use Rattle.dead_store.proofs.Formed.{without_formed, without_outside}

module _ (g : Program) (A : Solution) (stays : ℕ → Bool) (of : IsVectorForm g)
    (words : IsFetchedByWords g) (solves : Solves (tables g) (system g) A)
    (decided : AreStaying A g stays) where
  abbrev gone : ℕ → Bool
  gone = is_gone stays g.procs

  kept : Keeps g (without stays g)
  kept = (kept_too g A stays of words solves decided).1

  inlined : IsInlined (without stays g)
  inlined = procs_inlined stays gone g.procs of.ready.inlined

  ready : Ready (without stays g)
  ready = record {
    inlined = inlined;
    few_params = procs_params stays gone 16 g.procs of.ready.few_params;
    few_results = procs_give stays gone (1 + most_value_fields g.tags) 13 g.procs
        of.ready.few_results;
    few_fields = of.ready.few_fields;
    never_missing = (looking_law (without stays g) inlined).never_missing
        (kept_too g A stays of words solves decided).0;
    runs = (looking_law (without stays g) inlined).runs_well
        (kept_too g A stays of words solves decided).0;
  }

  slim : (size most : ℕ) → Slim size most g → Slim size most (without stays g)
  slim size most s = record {
    light = let l : procs_weight (without stays g).procs ≤ procs_weight g.procs
        = procs_lighter stays gone g.procs in let k : procs_weight g.procs ≤ 48 * size = s.light
        in omega (arith, l, k);
    few_calls = let l : procs_calls (without stays g).procs ≤ procs_calls g.procs
        = procs_calls_fewer stays gone g.procs in let k : procs_calls g.procs ≤ size = s.few_calls
        in omega (arith, l, k);
    few_words = procs_words stays gone (20 * most) g.procs s.few_words;
  }

  whole : DeadStoresRemovedBy A g (without stays g)
  whole = record {
    of_vectors = record {
      formed = without_formed A g stays (fine g A stays of words solves decided) of.formed;
      ready = ready;
      vectorised = procs_vectorised stays gone g.procs of.vectorised;
    };
    outside = without_outside A g stays;
    narrow = λ most. procs_narrow stays gone most g.procs;
    by_words = procs_by_words stays gone g.procs words;
    no_more_open = procs_count stays gone g.procs;
    left_by = record { stays = stays; decided = decided; made = refl };
    all_stay = procs_sites_stay stays gone g.procs;
    no_larger = procs_lighter stays gone g.procs;
    slim = slim;
    heaps = heaps_kept g A stays of words solves decided;
  }

pub is_stored : (g h : Program) (A : Solution) → IsVectorForm g → IsFetchedByWords g
    → Solves (tables g) (system g) A → KeepsOnlyStayingCells A g h → DeadStoresRemovedBy A g h
is_stored g h A of words solves m = subst (DeadStoresRemovedBy A g) (sym m.made)
    (whole g A m.stays of words solves m.decided)

pub is_kept : (g h : Program) (A : Solution) → IsVectorForm g → IsFetchedByWords g
    → Solves (tables g) (system g) A → KeepsOnlyStayingCells A g h → Keeps g h
is_kept g h A of words solves m = subst (Keeps g) (sym m.made)
    (kept g A m.stays of words solves m.decided)

pub left_by : {g h : Program} {A : Solution} {stays : ℕ → Bool} → AreStaying A g stays
    → h ≡ without stays g → KeepsOnlyStayingCells A g h
left_by {stays = stays} d e = record { stays = stays; decided = d; made = e }

pub all_made : (g : Program) (stays gone : ℕ → Bool) (ps : List Procedure)
    → ((x : ℕ) → gone x ≡ is_gone stays g.procs x) → ps ≡ without_procs stays gone g.procs
    → record g { procs = ps } ≡ without stays g
all_made g stays gone ps h e = ap (λ ps. record g { procs = ps })
    (e ∙ ap (λ k. without_procs stays k g.procs) (λ i x. h x i))
