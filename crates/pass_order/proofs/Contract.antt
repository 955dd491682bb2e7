-- That the pass meets its contract: the shape of what it makes, and that this keeps the program.
use Rattle.std.proofs.Common.{◌≡◌, ℕ, ◌≤◌, refl, sym, subst, arith}
use Rattle.grin_syntax.specs.declared.program.Val.{Val}
use Rattle.grin_syntax.specs.Tree.{Program}
use Rattle.grin_meaning.specs.Keeps.{Keeps}
use Rattle.grin_meaning.specs.Ready.{PieceKind, EveryBodyIsOfKind, inlined_kind, without_node_fetches, vectorised_kind, narrow_kind, IsInlined, Ready}
use Rattle.grin_meaning.proofs.Looked.{looking_law}
use Rattle.pass_ground.specs.OpenUpdates.{tag_variable, one_if_some}
use Rattle.pass_ground.specs.Vectors.{IsVectorForm, StaysVectorForm}
use Rattle.grin_rewrite.specs.ByWords.{val_by}
use Rattle.grin_rewrite.proofs.KeptByWords.{Blind, each_kept, inlined_blind, by_words_blind, vectorised_blind, narrow_blind, no_variable, results_kept, updates_kept}
use Rattle.grin_rewrite.proofs.FactText.{walked_outside, params_stay, bodies_each, bodies_give, updates_fewer}
use Rattle.pass_order.specs.Order.{delayed_tags, ordered}
use Rattle.pass_order.specs.Ordered.{Ordered}
use Rattle.pass_order.proofs.Kept.{unchanged, cases_keep, updates_swap, each_swap, results_swap}
use Rattle.pass_order.proofs.Sides.{R, by, of_kind, kept}
use Rattle.pass_order.proofs.Formed.{slim, formed}
use Rattle.pass_order.proofs.Gives.{bodies_stand}

module _ (g : Program) (of : IsVectorForm g) where
  stays_of_kind : (K : PieceKind) (blind : Blind K)
      → ((v : Val) → (each_kept K blind).value v (val_by (λ a. a) v))
      → EveryBodyIsOfKind K g.procs → EveryBodyIsOfKind K (ordered g).procs
  stays_of_kind K blind values = bodies_each (R g) unchanged tt (by g) K blind
      (cases_keep (each_kept K blind) (each_swap K blind) (delayed_tags g.tags)) (λ f. values)
      g.procs

  inlined : IsInlined (ordered g)
  unfolding each_kept
  inlined = stays_of_kind inlined_kind inlined_blind (λ v h. tt) of.ready.inlined

  ready : Ready (ordered g)
  ready = record {
    inlined = inlined;
    few_params = params_stay (R g) unchanged tt 16 g.procs of.ready.few_params;
    few_results = bodies_give (R g) unchanged tt (by g) _ 13
        (cases_keep (results_kept _ 13) (results_swap _ 13) (delayed_tags g.tags)) g.procs
        of.ready.few_results;
    few_fields = of.ready.few_fields;
    never_missing = (looking_law (ordered g) inlined).never_missing (kept g of).0;
    runs = (looking_law (ordered g) inlined).runs_well (kept g of).0;
  }

  stays : StaysVectorForm g (ordered g)
  unfolding each_kept
  stays = record {
    of_vectors = record {
      formed = formed g (of_kind g of) of.formed;
      ready = ready;
      vectorised = stays_of_kind vectorised_kind vectorised_blind
          (λ v. no_variable (λ a. a) v) of.vectorised;
    };
    outside = walked_outside (R g) unchanged tt g;
    narrow = λ most. stays_of_kind (narrow_kind most) (narrow_blind most) (λ v h. tt);
    by_words = stays_of_kind without_node_fetches by_words_blind (λ v h. tt);
  }

  abbrev open_tags : Val → ℕ
  open_tags v = one_if_some (tag_variable v)

  whole : Ordered g (ordered g)
  unfolding updates_kept
  whole = record {
    stays = stays;
    made = refl;
    tests = bodies_stand (delayed_tags g.tags) g.procs;
    no_more_open = updates_fewer (R g) unchanged tt (by g) open_tags
        (cases_keep (updates_kept open_tags) (updates_swap open_tags) (delayed_tags g.tags))
        (λ f v. subst (λ u. open_tags u ≤ open_tags v) ((by g).values f v) (omega arith)) g.procs;
    slim = slim g;
  }

pub is_ordered : (g h : Program) → h ≡ ordered g → IsVectorForm g → Ordered g h
is_ordered g h e of = subst (Ordered g) (sym e) (whole g of)

pub is_kept : (g h : Program) → h ≡ ordered g → IsVectorForm g → Keeps g h
is_kept g h e of = subst (Keeps g) (sym e) (kept g of).1
