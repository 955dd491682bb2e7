-- A rule by what is known at each place that is sound: what a program that it rewrites keeps.
use Rattle.std.proofs.Common.{ℕ, List, [], ◌∷◌, sym, subst}
use Rattle.grin_syntax.specs.declared.program.Val.{Val}
use Rattle.grin_syntax.specs.declared.program.Word.{Word}
use Rattle.grin_syntax.specs.Tree.{Code, end, store, bind, Act, leaf, unit, update, apply, case, nested, Arms, no_arm, arm, Procedure, Program}
use Rattle.grin_meaning.specs.Values.{State}
use Rattle.grin_meaning.specs.Run.{run}
use Rattle.grin_meaning.specs.Rewritten.{rewritten}
use Rattle.grin_meaning.specs.Follows.{HoldsInEveryState}
use Rattle.grin_meaning.specs.Keeps.{world_of, Keeps}
use Rattle.grin_meaning.specs.Looking.{CheckedRunsNeverMissing}
use Rattle.grin_meaning.specs.Ready.{PieceKind, EachAct, EachCode, EachArms, EveryBodyIsOfKind, inlined_kind, without_node_fetches, vectorised_kind, narrow_kind, IsInlined, Ready}
use Rattle.grin_meaning.proofs.LooksBack.{look_agrees}
use Rattle.grin_meaning.proofs.Looked.{looking_law}
use Rattle.pass_ground.specs.Vectors.{IsVectorForm, StaysVectorForm}
use Rattle.grin_rewrite.specs.WithFacts.{WithFacts, walk_code}
use Rattle.grin_rewrite.specs.ByWords.{val_by}
use Rattle.grin_rewrite.proofs.KeptByWords.{Kept, Blind, each_kept, inlined_blind, by_words_blind, vectorised_blind, narrow_blind, no_variable, results_kept}
use Rattle.grin_rewrite.proofs.FactText.{ByWords, CasesKeep, Places, walked_outside, params_stay, bodies_each, bodies_give, walked_formed}
use Rattle.grin_rewrite.proofs.FactSides.{Holding, walked_kept}

-- ---- inlined pieces without node variables

abbrev pub inlined_vectors : PieceKind
inlined_vectors = record vectorised_kind { operation = inlined_kind.operation }

mutual
  unfolding EachAct

  both_act : (o : Act) → EachAct inlined_kind o → EachAct vectorised_kind o
      → EachAct inlined_vectors o
  both_act (case v as') h k = (h.0, k.1, both_arms as' h.2 k.2)
  both_act (nested b) h k = (h.0, both_code b h.1 k.1)
  both_act (leaf (unit v)) h k = (h.0, k.1)
  both_act (leaf (update a v)) h k = (h.0, k.1)
  both_act (leaf (apply v a)) h k = (h.0, k.1)
  both_act (leaf _) h k = h

  both_code : (b : Code) → EachCode inlined_kind b → EachCode vectorised_kind b
      → EachCode inlined_vectors b
  both_code (end o) h k = both_act o h k
  both_code (store cs b) h k = (k.0, both_code b h.1 k.1)
  both_code (bind t o b) h k = (k.0, both_act o h.1 k.1, both_code b h.2 k.2)

  both_arms : (as' : Arms) → EachArms inlined_kind as' → EachArms vectorised_kind as'
      → EachArms inlined_vectors as'
  both_arms no_arm h k = tt
  both_arms (arm s b as') h k = (k.0, both_code b h.1 k.1, both_arms as' h.2 k.2)

pub both_bodies : (qs : List Procedure) → EveryBodyIsOfKind inlined_kind qs
    → EveryBodyIsOfKind vectorised_kind qs → EveryBodyIsOfKind inlined_vectors qs
both_bodies [] h k = tt
both_bodies (q ∷ qs) h k = (both_code q.body h.0 k.0, both_bodies qs h.1 k.1)

-- ---- rules

-- P is known of all states of the program
pub record FactsAreSound {F : Type 0} (R : WithFacts F) (word : F → Word → Word) (g : Program)
    (start : F) (P : State → Type 0) : Type 1 where
  pub by : ByWords R word
  pub cases : (q : Kept) → CasesKeep R word q
  pub places : Places R word g start inlined_vectors
  pub holding : Holding R word g start inlined_vectors places P

module _ {F : Type 0} (R : WithFacts F) (word : F → Word → Word) (g : Program) (start : F)
    (P : State → Type 0) (sound : FactsAreSound R word g start P) (of : IsVectorForm g)
    (passed : (i : List ℕ) (n : ℕ) → HoldsInEveryState P (world_of (run g i n)).seen) where
  abbrev after : Program
  after = rewritten (walk_code R start) g

  never : CheckedRunsNeverMissing g
  never = (looking_law g of.ready.inlined).sees of.ready.never_missing of.ready.runs

  of_kind : EveryBodyIsOfKind inlined_vectors g.procs
  of_kind = both_bodies g.procs of.ready.inlined of.vectorised

  kept : CheckedRunsNeverMissing after × Keeps g after
  kept = walked_kept R word g start inlined_vectors sound.places P sound.by sound.holding of.formed
      of_kind never
      (λ i n. subst (λ a. HoldsInEveryState P (world_of a).seen)
      (sym (look_agrees g i n (never i n))) (passed i n))

  stays_of_kind : (K : PieceKind) (blind : Blind K)
      → ((f : F) (v : Val) → (each_kept K blind).value v (val_by (word f) v))
      → EveryBodyIsOfKind K g.procs → EveryBodyIsOfKind K after.procs
  stays_of_kind K blind values = bodies_each R word start sound.by K blind
      (sound.cases (each_kept K blind)) values g.procs

  inlined : IsInlined after
  unfolding each_kept
  inlined = stays_of_kind inlined_kind inlined_blind (λ f v h. tt) of.ready.inlined

  ready : Ready after
  ready = record {
    inlined = inlined;
    few_params = params_stay R word start 16 g.procs of.ready.few_params;
    few_results = bodies_give R word start sound.by _ 13 (sound.cases (results_kept _ 13)) g.procs
        of.ready.few_results;
    few_fields = of.ready.few_fields;
    never_missing = (looking_law after inlined).never_missing kept.0;
    runs = (looking_law after inlined).runs_well kept.0;
  }

  pub stays : StaysVectorForm g after
  unfolding each_kept
  stays = record {
    of_vectors = record {
      formed = walked_formed R word g start inlined_vectors sound.by sound.places sound.cases
          of_kind of.formed;
      ready = ready;
      vectorised = stays_of_kind vectorised_kind vectorised_blind (λ f v. no_variable (word f) v)
          of.vectorised;
    };
    outside = walked_outside R word start g;
    narrow = λ most. stays_of_kind (narrow_kind most) (narrow_blind most) (λ f v h. tt);
    by_words = stays_of_kind without_node_fetches by_words_blind (λ f v h. tt);
  }

  pub keeps : Keeps g after
  keeps = kept.1
