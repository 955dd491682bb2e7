-- That the pass meets its contract: the shape of what it makes, and that this keeps the program.
use Rattle.std.proofs.Common.{◌≡◌, ℕ, ◌≤◌, List, [], ◌∷◌, ◌+◌, ◌∙◌, refl, sym, ap, subst, arith}
use Rattle.grin_syntax.specs.Binders.{code_sites, procs_sites}
use Rattle.grin_syntax.specs.Tree.{Procedure, Program}
use Rattle.grin_meaning.specs.Ready.{most_value_fields, Ready, inlined_kind, without_node_fetches, vectorised_kind, narrow_kind}
use Rattle.grin_meaning.specs.Keeps.{Keeps}
use Rattle.grin_meaning.specs.Follows.{Same}
use Rattle.grin_meaning.specs.Looking.{CheckedRunsNeverMissing}
use Rattle.grin_meaning.proofs.Bodies.{AnyState, every_any}
use Rattle.grin_meaning.proofs.Looked.{looking_law}
use Rattle.grin_meaning.proofs.Kept.{keeps_again}
use Rattle.pass_ground.specs.Vectors.{IsVectorForm, StaysVectorForm}
use Rattle.pass_ground.proofs.Vectors.{stays_again}
use Rattle.grin_rewrite.specs.Table.{nothing_known}
use Rattle.grin_rewrite.specs.WithFacts.{walk_code}
use Rattle.grin_rewrite.proofs.KeptByWords.{sites_kept}
use Rattle.grin_rewrite.proofs.FactText.{procs_by, kept}
use Rattle.grin_rewrite.proofs.FactSound.{stays, keeps}
use Rattle.seq.specs.Lists.{times}
use Rattle.seq.proofs.Counted.{times_fewer}
use Rattle.copy_prop.specs.Resolved.{as_word, copies_stand, resolved}
use Rattle.copy_prop.specs.Lean.{lean}
use Rattle.copy_prop.specs.Copied.{SameHeaps, Copied}
use Rattle.copy_prop.proofs.LeanSimulated.{lean_kept, lean_heaps}
use Rattle.copy_prop.proofs.LeanFormed as leaned
use Rattle.copy_prop.proofs.Standing.{sound}
use Rattle.copy_prop.proofs.EndHeaps.{same_end_heaps}
use Rattle.copy_prop.proofs.ResolvedRuns.{goes_likewise}
use Rattle.copy_prop.proofs.Unused.{procs_unused}

-- ---- copies

module _ (g : Program) (g_is : IsVectorForm g) where
  resolved_stays : StaysVectorForm g (resolved g)
  resolved_stays = stays copies_stand as_word g nothing_known AnyState (sound g) g_is
      (λ i n. every_any _)

  resolved_keeps : Keeps g (resolved g)
  resolved_keeps = keeps copies_stand as_word g nothing_known AnyState (sound g) g_is
      (λ i n. every_any _)

  resolved_heaps : SameHeaps g (resolved g)
  resolved_heaps i n =
      let before = g_is.ready in let after = resolved_stays.of_vectors.ready in
      same_end_heaps g (resolved g) i n Same (goes_likewise g g_is i n)
      ((looking_law g before.inlined).sees before.never_missing before.runs i n)
      ((looking_law (resolved g) after.inlined).sees after.never_missing after.runs i n)

  abbrev procs_resolved : List Procedure → List Procedure
  procs_resolved = procs_by copies_stand as_word nothing_known

  no_store_new : (s : ℕ) (qs : List Procedure) → times s (procs_sites (procs_resolved qs)) ≤ times s
      (procs_sites qs)
  unfolding sites_kept
  no_store_new s [] = omega arith
  no_store_new s (q ∷ qs) = times_fewer s (code_sites (walk_code copies_stand nothing_known q.body))
      (procs_sites (procs_resolved qs)) (code_sites q.body) (procs_sites qs)
      (kept copies_stand as_word (sound g).by (sites_kept s) ((sound g).cases (sites_kept s))
      (λ f v. tt) nothing_known q.body) (no_store_new s qs)

-- ---- idle statements

module _ (g : Program) (g_is : IsVectorForm g) where
  lean_both : CheckedRunsNeverMissing (lean g) × Keeps g (lean g)
  lean_both = lean_kept g
      ((looking_law g g_is.ready.inlined).sees g_is.ready.never_missing g_is.ready.runs)

  heaps_stay : SameHeaps g (lean g)
  heaps_stay = lean_heaps g
      ((looking_law g g_is.ready.inlined).sees g_is.ready.never_missing g_is.ready.runs)

  lean_ready : Ready (lean g)
  lean_ready =
      let inl = leaned.procs_each inlined_kind leaned.inlined_stays g.procs g_is.ready.inlined in
      record {
        inlined = inl;
        few_params = leaned.procs_params 16 g.procs g_is.ready.few_params;
        few_results = leaned.procs_narrow (1 + most_value_fields g.tags) 13 g.procs
            g_is.ready.few_results;
        few_fields = g_is.ready.few_fields;
        never_missing = (looking_law (lean g) inl).never_missing lean_both.0;
        runs = (looking_law (lean g) inl).runs_well lean_both.0;
      }

  lean_stays : StaysVectorForm g (lean g)
  lean_stays = record {
    of_vectors = record {
      formed = leaned.lean_formed g g_is.formed g_is.vectorised;
      ready = lean_ready;
      vectorised = leaned.procs_each vectorised_kind (λ o h. tt) g.procs g_is.vectorised;
    };
    outside = leaned.lean_outside g;
    narrow = λ most h. leaned.procs_each (narrow_kind most) (λ o u. tt) g.procs h;
    by_words = λ h. leaned.procs_each without_node_fetches leaned.by_words_stays g.procs h;
  }

-- ---- both

copied_program : (g : Program) → IsVectorForm g → Copied g (lean (resolved g))
copied_program g g_is =
    let first : StaysVectorForm g (resolved g) = resolved_stays g g_is in
    record {
      stays = stays_again g (resolved g) (lean (resolved g)) first
          (lean_stays (resolved g) first.of_vectors);
      made = refl;
      needed = leaned.procs_needed (resolved g).procs
          (procs_unused g g.procs g_is.formed.procedures g_is.vectorised
          g_is.formed.variables_once);
      no_new_stores = λ s. subst (λ l. times s l ≤ times s (procs_sites g.procs))
          (sym (leaned.sites_stay (resolved g).procs)) (no_store_new g g_is s g.procs);
      heaps = λ i n. heaps_stay (resolved g) first.of_vectors i n ∙ resolved_heaps g g_is i n;
    }

copied_keeps : (g : Program) → IsVectorForm g → Keeps g (lean (resolved g))
copied_keeps g g_is = keeps_again g (resolved g) (lean (resolved g)) (resolved_keeps g g_is)
    (lean_both (resolved g) (resolved_stays g g_is).of_vectors).1

pub is_copied : (g h k : Program) → h ≡ resolved g → k ≡ lean h → IsVectorForm g → Copied g k
is_copied g h k e f o = subst (Copied g) (sym (f ∙ ap lean e)) (copied_program g o)

pub is_kept : (g h k : Program) → h ≡ resolved g → k ≡ lean h → IsVectorForm g → Keeps g k
is_kept g h k e f o = subst (Keeps g) (sym (f ∙ ap lean e)) (copied_keeps g o)
