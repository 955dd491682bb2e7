-- That leaving out updates of cells that no fetch reads meets its contract.
use Rattle.std.proofs.Common.{◌≡◌, ℕ, ◌+◌, Bool, refl, sym, subst}
use Rattle.grin_syntax.specs.Tree.{Leaf, Act, Program}
use Rattle.grin_meaning.specs.Ready.{most_value_fields, inlined_kind, without_node_fetches, vectorised_kind, narrow_kind, IsInlined, Ready}
use Rattle.grin_meaning.specs.Keeps.{Keeps}
use Rattle.grin_meaning.proofs.Looked.{looking_law}
use Rattle.flow_system.specs.Tables.{tables}
use Rattle.flow_system.specs.System.{system}
use Rattle.flow_system.specs.Solution.{Solution, Solves}
use Rattle.pass_ground.specs.Vectors.{IsVectorForm}
use Rattle.pass_ground.specs.OpenUpdates.{tag_variable, one_if_some}
use Rattle.grin_rewrite.proofs.Text.{bodies_each, bodies_give, params_stay, rewritten_formed, rewritten_outside}
use Rattle.dead_store.specs.Staying.{AreFetched}
use Rattle.dead_store.specs.Unread.{read_leaf, with_read_updates, UnreadUpdatesRemovedBy}
use Rattle.dead_store.proofs.UpdatesAlike.{updates_kept, heaps_agree}
use Rattle.dead_store.proofs.UpdatesText.{adds, leaf_formed, leaf_of_kind, leaf_gives, procs_read, procs_count, stays_slim}
use Rattle.dead_store.proofs.UpdatesSolved.{still_solves}

module _ (g : Program) (A : Solution) (fetched : ℕ → Bool) (of : IsVectorForm g)
    (solves : Solves (tables g) (system g) A) (decided : AreFetched A g fetched) where
  abbrev after : Program
  after = with_read_updates A fetched g

  abbrev rule : Leaf → Act
  rule = read_leaf A fetched

  inlined : IsInlined after
  inlined = bodies_each rule inlined_kind inlined_kind
      (record {
        cases = λ v as' bs' h. h;
        blocks = λ b b' h. h;
        targets = λ t h. h;
        values
            = λ v h. h;
        patterns = λ xs h. h;
      })
      (leaf_of_kind A fetched inlined_kind tt tt) g.procs of.ready.inlined

  ready : Ready after
  ready = record {
    inlined = inlined;
    few_params = params_stay rule 16 g.procs of.ready.few_params;
    few_results = bodies_give rule (1 + most_value_fields g.tags) 13
        (leaf_gives A fetched (1 + most_value_fields g.tags) 13) g.procs of.ready.few_results;
    few_fields = of.ready.few_fields;
    never_missing = (looking_law after inlined).never_missing
        (updates_kept g A fetched of solves decided).0;
    runs = (looking_law after inlined).runs_well (updates_kept g A fetched of solves decided).0;
  }

  whole : UnreadUpdatesRemovedBy A g after
  whole = record {
    stays = record {
      of_vectors = record {
        formed = rewritten_formed rule (adds A fetched) g (leaf_formed A fetched g) of.formed;
        ready = ready;
        vectorised = bodies_each rule vectorised_kind vectorised_kind
            (record {
              cases = λ v as' bs' h. h;
              blocks = λ b b' h. h;
              targets = λ t h. h;
              values
                  = λ v h. h;
              patterns = λ xs h. h;
            })
            (leaf_of_kind A fetched vectorised_kind tt tt) g.procs of.vectorised;
      };
      outside = rewritten_outside rule g;
      narrow = λ most. bodies_each rule (narrow_kind most) (narrow_kind most)
          (record {
            cases = λ v as' bs' h. h;
            blocks = λ b b' h. h;
            targets = λ t h. h;
            values
                = λ v h. h;
            patterns = λ xs h. h;
          })
          (leaf_of_kind A fetched (narrow_kind most) tt tt) g.procs;
      by_words = bodies_each rule without_node_fetches without_node_fetches
          (record {
            cases = λ v as' bs' h. h;
            blocks = λ b b' h. h;
            targets = λ t h. h;
            values
                = λ v h. h;
            patterns = λ xs h. h;
          })
          (leaf_of_kind A fetched without_node_fetches tt tt) g.procs;
    };
    fetched = fetched;
    decided = decided;
    made = refl;
    all_read = procs_read A fetched g.procs;
    still_solves = still_solves g A fetched solves;
    no_more_open = procs_count A fetched (λ v. one_if_some (tag_variable v)) g.procs;
    slim = stays_slim A fetched g;
    heaps = heaps_agree g A fetched of solves decided;
  }

pub updates_read : (g h : Program) (A : Solution) (fetched : ℕ → Bool) → IsVectorForm g
    → Solves (tables g) (system g) A → AreFetched A g fetched → h ≡ with_read_updates A fetched g
    → UnreadUpdatesRemovedBy A g h
updates_read g h A fetched of solves decided e = subst (UnreadUpdatesRemovedBy A g) (sym e)
    (whole g A fetched of solves decided)

pub is_kept : (g h : Program) (A : Solution) (fetched : ℕ → Bool) → IsVectorForm g
    → Solves (tables g) (system g) A → AreFetched A g fetched → h ≡ with_read_updates A fetched g
    → Keeps g h
is_kept g h A fetched of solves decided e = subst (Keeps g) (sym e)
    (updates_kept g A fetched of solves decided).1
