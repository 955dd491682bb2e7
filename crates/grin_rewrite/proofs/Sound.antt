-- A rule that is sound: what a program that it rewrites keeps.
use Rattle.std.proofs.Common.{◌≡◌, ℕ, List, [], ◌∷◌, Option, Some, None, refl, sym, ◌∙◌, subst}
use Rattle.grin_syntax.specs.declared.program.Val.{Val}
use Rattle.grin_syntax.specs.Tree.{Code, end, store, bind, Act, Leaf, leaf, unit, update, apply, case, nested, Arms, no_arm, arm, Procedure, Program}
use Rattle.grin_syntax.specs.Formed.{AllOf, Scope, ValFormed, ActFormed}
use Rattle.grin_meaning.specs.Values.{State}
use Rattle.grin_meaning.specs.Run.{run}
use Rattle.grin_meaning.specs.Rewritten.{rewritten}
use Rattle.grin_meaning.specs.Follows.{HoldsInEveryState}
use Rattle.grin_meaning.specs.Keeps.{world_of, Keeps}
use Rattle.grin_meaning.specs.Looking.{CheckedRunsNeverMissing}
use Rattle.grin_meaning.specs.Ready.{PieceKind, any_kind, EachAct, EachCode, EachArms, EveryBodyIsOfKind, inlined_kind, without_node_fetches, vectorised_kind, narrow_kind, NarrowAct, IsInlined, Ready}
use Rattle.grin_meaning.proofs.LooksBack.{look_agrees}
use Rattle.grin_meaning.proofs.Looked.{looking_law}
use Rattle.pass_ground.specs.OpenUpdates.{act_update_sum, procs_update_sum}
use Rattle.pass_ground.specs.Vectors.{IsVectorForm, StaysVectorForm}
use Rattle.grin_rewrite.specs.Rewriting.{rewrite_code}
use Rattle.grin_rewrite.specs.Expanding.{Expansion, alternatives, expanded}
use Rattle.grin_rewrite.proofs.Text.{AddsNothing, procs_by, rewritten_formed, rewritten_outside, params_stay, bodies_each, bodies_give, bodies_sum}
use Rattle.grin_rewrite.proofs.Sides.{looking, Stands, EachStands, rewritten_kept}
use Rattle.grin_meaning.proofs.Procedures.{side_by_side}
use Rattle.grin_rewrite.proofs.Expanded.{TakesNode, by_update, by_apply, Expands, itself_stands, expansion_stands, expansion_adds, all_formed, all_each, all_give, no_sum}

-- P is known of all states of the program
pub record RuleIsSound (g : Program) (P : State → Type 0) (rule : Leaf → Act) : Type 0 where
  pub adds : (l : Leaf) → AddsNothing (rule l)
  pub formed : (scope : Scope) (l : Leaf) → ActFormed g scope (leaf l) → ActFormed g scope (rule l)
  pub inlined : (l : Leaf) → EachAct inlined_kind (leaf l) → EachAct inlined_kind (rule l)
  pub by_words : (l : Leaf) → EachAct without_node_fetches (leaf l)
      → EachAct without_node_fetches (rule l)
  pub vectorised : (l : Leaf) → EachAct vectorised_kind (leaf l) → EachAct vectorised_kind (rule l)
  pub narrow : (most : ℕ) (l : Leaf) → EachAct (narrow_kind most) (leaf l)
      → EachAct (narrow_kind most) (rule l)
  pub results : (width most : ℕ) (l : Leaf) → NarrowAct width most (leaf l)
      → NarrowAct width most (rule l)
  pub stands : EachStands g P rule

module _ (g : Program) (P : State → Type 0) (rule : Leaf → Act) (sound : RuleIsSound g P rule)
    (of : IsVectorForm g)
    (passed : (i : List ℕ) (n : ℕ) → HoldsInEveryState P (world_of (run g i n)).seen) where
  abbrev after : Program
  after = rewritten (rewrite_code rule) g

  never : CheckedRunsNeverMissing g
  never = (looking_law g of.ready.inlined).sees of.ready.never_missing of.ready.runs

  kept : CheckedRunsNeverMissing after × Keeps g after
  kept = rewritten_kept g P rule sound.stands never
      (λ i n. subst (λ a. HoldsInEveryState P (world_of a).seen)
      (sym (look_agrees g i n (never i n))) (passed i n))

  inlined : IsInlined after
  inlined = bodies_each rule inlined_kind inlined_kind
      (record {
        cases = λ v as' bs' h. h;
        blocks = λ b b' h. h;
        targets = λ t h. h;
        values
            = λ v h. h;
        patterns = λ xs h. h;
      }) sound.inlined g.procs of.ready.inlined

  ready : Ready after
  ready = record {
    inlined = inlined;
    few_params = params_stay rule 16 g.procs of.ready.few_params;
    few_results = bodies_give rule _ 13 (sound.results _ 13) g.procs of.ready.few_results;
    few_fields = of.ready.few_fields;
    never_missing = (looking_law after inlined).never_missing kept.0;
    runs = (looking_law after inlined).runs_well kept.0;
  }

  pub stays : StaysVectorForm g after
  stays = record {
    of_vectors = record {
      formed = rewritten_formed rule sound.adds g sound.formed of.formed;
      ready = ready;
      vectorised = bodies_each rule vectorised_kind vectorised_kind
          (record {
            cases = λ v as' bs' h. h;
            blocks = λ b b' h. h;
            targets = λ t h. h;
            values
                = λ v h. h;
            patterns = λ xs h. h;
          }) sound.vectorised g.procs of.vectorised;
    };
    outside = rewritten_outside rule g;
    narrow = λ most. bodies_each rule (narrow_kind most) (narrow_kind most)
        (record {
          cases = λ v as' bs' h. h;
          blocks = λ b b' h. h;
          targets = λ t h. h;
          values
              = λ v h. h;
          patterns = λ xs h. h;
        }) (sound.narrow most) g.procs;
    by_words = bodies_each rule without_node_fetches without_node_fetches
        (record {
          cases = λ v as' bs' h. h;
          blocks = λ b b' h. h;
          targets = λ t h. h;
          values
              = λ v h. h;
          patterns = λ xs h. h;
        }) sound.by_words g.procs;
  }

  pub keeps : Keeps g after
  keeps = kept.1

-- ---- kinds that ask of operations alone

pub all_any : {X : Type 0} (xs : List X) → AllOf (λ x. Unit {0}) xs
all_any [] = tt
all_any (x ∷ xs) = (tt, all_any xs)

mutual
  unfolding EachAct

  any_each : (o : Act) → EachAct any_kind o
  any_each (case v as') = (tt, tt, any_arms as')
  any_each (nested b) = (tt, any_code b)
  any_each (leaf (unit v)) = (tt, tt)
  any_each (leaf (update a v)) = (tt, tt)
  any_each (leaf (apply v a)) = (tt, tt)
  any_each (leaf _) = tt

  any_code : (b : Code) → EachCode any_kind b
  any_code (end o) = any_each o
  any_code (store cs b) = (all_any cs, any_code b)
  any_code (bind t o b) = (tt, any_each o, any_code b)

  any_arms : (as' : Arms) → EachArms any_kind as'
  any_arms no_arm = tt
  any_arms (arm s b as') = (tt, any_code b, any_arms as')

pub any_bodies : (qs : List Procedure) → EveryBodyIsOfKind any_kind qs
any_bodies [] = tt
any_bodies (q ∷ qs) = (any_code q.body, any_bodies qs)

module _ (Q : Act → Type 0) where
  abbrev operations : PieceKind
  operations = record any_kind { operation = Q }

  pub leaf_each : (l : Leaf) → Q (leaf l) → EachAct operations (leaf l)
  unfolding EachAct
  leaf_each (unit v) q = (q, tt)
  leaf_each (update a v) q = (q, tt)
  leaf_each (apply v a) q = (q, tt)
  leaf_each _ q = q

-- ---- expansions

-- asked of an operation that stays, and of all those that take the place of one
abbrev pub Asked : (Act → Type 0) → Leaf → Option Expansion → Type 0
Asked Q l None = Q (leaf l)
Asked Q l (Some x) = (t : ℕ) → Q (leaf (x.each t))

-- what updates count: those that take the place of one nothing
abbrev pub Counts : (Val → ℕ) → (Val → ℕ) → Leaf → Option Expansion → Type 0
Counts f f' l None = act_update_sum f (leaf l) ≡ act_update_sum f' (leaf l)
Counts f f' l (Some x) = ((t : ℕ) → act_update_sum f (leaf (x.each t)) ≡ 0)
    × (0 ≡ act_update_sum f' (leaf l))

module _ (expand : Leaf → Option Expansion) where
  abbrev pub rule : Leaf → Act
  rule l = expanded l (expand l)

  module _ (g : Program) (P : State → Type 0)
      (expands : (l : Leaf) (x : Expansion) → expand l ≡ Some x → Expands g P l x) where
    -- what holds of an operation that stays, and of the case that takes the place of one that does
    -- not
    either : (Q : Act → Type 0) (l : Leaf) → Q (leaf l)
        → ((x : Expansion) → Expands g P l x → Q (expanded l (Some x))) → Q (expanded l (expand l))
    either Q l stays goes = at (expand l) refl
      where
        at : (o : Option Expansion) → expand l ≡ o → Q (expanded l o)
        at None e = stays
        at (Some x) e = goes x (expands l x e)

    value_each : (K : PieceKind) {v : Val} {l : Leaf} → TakesNode v l → EachAct K (leaf l)
        → K.value v
    unfolding EachAct
    value_each K (by_update {a} {v}) h = h.1
    value_each K (by_apply {a} {v}) h = h.1

    case_each : (K : PieceKind) (none_ok : K.pattern []) (l : Leaf) (x : Expansion)
        → Expands g P l x → K.operation (case x.value (alternatives x.each x.tags))
        → ((t : ℕ) → EachAct K (leaf (x.each t))) → EachAct K (leaf l)
        → EachAct K (case x.value (alternatives x.each x.tags))
    unfolding EachAct
    case_each K none_ok l x k ok each h =
        (ok, value_each K k.takes h, all_each K none_ok x.each each x.tags)

    value_formed : (scope : Scope) {v : Val} {l : Leaf} → TakesNode v l → ActFormed g scope (leaf l)
        → ValFormed g scope v
    unfolding ActFormed
    value_formed scope (by_update {a} {v}) h = h.1
    value_formed scope (by_apply {a} {v}) h = h.0

    case_formed : (scope : Scope) (l : Leaf) (x : Expansion) → Expands g P l x
        → ActFormed g scope (leaf l) → ActFormed g scope (case x.value (alternatives x.each x.tags))
    unfolding ActFormed
    case_formed scope l x k h = (
      value_formed scope k.takes h,
      all_formed g scope x.each (λ t lt. k.formed scope t lt h)
          x.tags k.known,
    )

    leaf_narrow : (most : ℕ) (l : Leaf) → EachAct (narrow_kind most) (leaf l)
    unfolding EachAct
    leaf_narrow most (unit v) = (tt, tt)
    leaf_narrow most (update a v) = (tt, tt)
    leaf_narrow most (apply v a) = (tt, tt)
    leaf_narrow most _ = tt

    case_gives : (width most : ℕ) (l : Leaf) (x : Expansion) → Expands g P l x
        → NarrowAct width most (case x.value (alternatives x.each x.tags))
    unfolding NarrowAct
    case_gives width most l x k = all_give width most x.each (k.results width most) x.tags

    pub expansion_is_sound : RuleIsSound g P rule
    expansion_is_sound = record {
      adds = λ l. expansion_adds l (expand l);
      formed = λ scope l h. either (ActFormed g scope) l h (λ x k. case_formed scope l x k h);
      inlined = λ l h. either (EachAct inlined_kind) l h
          (λ x k. case_each inlined_kind tt l x k tt k.inlined h);
      by_words = λ l h. either (EachAct without_node_fetches) l h
          (λ x k. case_each without_node_fetches tt l x k tt k.by_words h);
      vectorised = λ l h. either (EachAct vectorised_kind) l h
          (λ x k. case_each vectorised_kind refl l x k tt (λ t. k.vectorised t h) h);
      narrow = λ most l h. either (EachAct (narrow_kind most)) l h
          (λ x k. case_each (narrow_kind most) tt l x k tt (λ t. leaf_narrow most (x.each t)) h);
      results = λ width most l h. either (NarrowAct width most) l h
          (λ x k. case_gives width most l x k);
      stands = λ c c' cb cf l. either
          (Stands (side_by_side (looking g P (procs_by rule g.procs)) c c' cb cf) l) l
          (itself_stands g P (procs_by rule g.procs) c c' cb cf l)
          (λ x k. expansion_stands g P (procs_by rule g.procs) c c' cb cf l x k);
    }

  -- what is asked of operations alone
  module _ (Q : Act → Type 0) (cases : (v : Val) (as' : Arms) → Q (case v as'))
      (blocks : (b : Code) → Q (nested b)) where
    asked_each : (l : Leaf) (o : Option Expansion) → Asked Q l o
        → EachAct (operations Q) (expanded l o)
    unfolding EachAct
    asked_each l None h = leaf_each Q l h
    asked_each l (Some x) h = (
      cases x.value (alternatives x.each x.tags),
      tt,
      all_each (operations Q) tt x.each (λ t. leaf_each Q (x.each t) (h t)) x.tags,
    )

    pub bodies_asked : ((l : Leaf) → Asked Q l (expand l)) → (qs : List Procedure)
        → EveryBodyIsOfKind (operations Q) (procs_by rule qs)
    bodies_asked h qs = bodies_each rule any_kind (operations Q)
        (record {
          cases = λ v as' bs' k. cases v bs';
          blocks = λ b b' k. blocks b';
          targets
              = λ t k. k;
          values = λ v k. k;
          patterns = λ xs k. k;
        })
        (λ l k. asked_each l (expand l) (h l)) qs (any_bodies qs)

  module _ (f f' : Val → ℕ) where
    count : (l : Leaf) (o : Option Expansion) → Counts f f' l o
        → act_update_sum f (expanded l o) ≡ act_update_sum f' (leaf l)
    unfolding act_update_sum
    count l None h = h
    count l (Some x) h = no_sum f x.each h.0 x.tags ∙ h.1

    pub bodies_count : ((l : Leaf) → Counts f f' l (expand l)) → (qs : List Procedure)
        → procs_update_sum f (procs_by rule qs) ≡ procs_update_sum f' qs
    bodies_count h qs = bodies_sum rule f f' (λ l. count l (expand l) (h l)) qs
