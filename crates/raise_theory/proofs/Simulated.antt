-- A program with raised parameters keeps the program.
use Rattle.std.proofs.Common.{◌≡◌, ℕ, zero, suc, ◌+◌, ◌<◌, ◌≤◌, true, List, [], ◌∷◌, ◌++◌, Option, Some, None, slice_get, refl, sym, ap, ◌∙◌, subst, arith}
use Rattle.grin_syntax.specs.declared.program.VarId.{VarId}
use Rattle.grin_syntax.specs.Tree.{Procedure, Program}
use Rattle.grin_syntax.specs.Binders.{numbers_of, code_vars, procs_vars}
use Rattle.grin_syntax.specs.Formed.{InScope}
use Rattle.grin_syntax.specs.Fresh.{past_vars, past_code, past_procs}
use Rattle.grin_syntax.proofs.Unbound.{past_vars_none, past_code_none}
use Rattle.grin_meaning.specs.Values.{Datum, Value, HeapCell, Binding, with_vars, one_each}
use Rattle.grin_meaning.specs.Run.{Calls, start_words}
use Rattle.grin_meaning.specs.Checks.{is_given}
use Rattle.grin_meaning.specs.Ready.{EachCode, IsFetchedByWords, EveryBodyIsOfKind, inlined_kind, without_node_fetches}
use Rattle.grin_meaning.specs.Keeps.{world_of, Keeps}
use Rattle.grin_meaning.specs.Looking.{checked_run, CheckedRunsNeverMissing}
use Rattle.grin_meaning.specs.Follows.{Same, same, HoldsInEveryState}
use Rattle.grin_meaning.proofs.Back.{CallsBack}
use Rattle.grin_meaning.proofs.Beside.{no_deeper, Likewise, Seen}
use Rattle.grin_meaning.proofs.Rules.{CallsFollow}
use Rattle.grin_meaning.proofs.Procedures.{BodyFollows, BodiesFollow, no_more, one_more, run_follows}
use Rattle.grin_meaning.proofs.KeptBy.{likewise_kept, looking_kept}
use Rattle.grin_meaning.proofs.Looked.{looking_law}
use Rattle.grin_meaning.proofs.LooksBack.{look_agrees}
use Rattle.flow_system.specs.Inclusions.{into_result}
use Rattle.flow_system.specs.Tables.{tables}
use Rattle.flow_system.specs.System.{system, code_flows, globals_flow, procs_flow, start_flows}
use Rattle.flow_system.specs.Solution.{Solution, AllMet, Solves}
use Rattle.flow_system.specs.Covers.{StateIsCovered}
use Rattle.flow_system.proofs.Covered.{covers}
use Rattle.flow_system.proofs.Heap.{met_front, met_back}
use Rattle.flow_system.proofs.Starting.{formed_is_started}
use Rattle.pass_ground.specs.Vectors.{IsVectorForm}
use Rattle.raise_theory.specs.Raising.{Decisions, or_no_decisions, decided, decisions_at, new_code, raised_params, raised_procedure, raised_procs, raised}
use Rattle.raise_theory.specs.Raisable.{Raisable}
use Rattle.raise_theory.specs.Decided.{AllDecided, new_params, IsDecided}
use Rattle.pass_ground.proofs.Bound.{vars_out, one_each_names}
use Rattle.raise_theory.proofs.Facts.{all_in}
use Rattle.raise_theory.proofs.Frozen.{every_both, Later, all_frozen}
use Rattle.raise_theory.proofs.Related.{ArgsFor, Plain, Related}
use Rattle.raise_theory.proofs.Entry.{Enters, enters}
use Rattle.raise_theory.proofs.Arguments.{AllRaisable}
use Rattle.raise_theory.proofs.Leaves.{plan, it}
use Rattle.raise_theory.proofs.Bodies.{Known, body_like}
use Rattle.raise_theory.proofs.Parameters.{stays_for, none_decided, past_top, new_ones, params_once, all_raisable, raisable_at, DecidedAt, decided_at}
use Rattle.seq.specs.Lists.{times}
use Rattle.seq.proofs.Counted.{times_append}
use Rattle.grin_meaning.proofs.Scopes.{scope_below}
use Rattle.grin_meaning.proofs.Paired.{nothing}

-- what a piece binds is scope_below the first variable that is past it

-- ---- where a procedure begins

none_some : {X : Type 0} {o : Option X} {v : X} → o ≡ None → o ≡ Some v → ⊥
none_some e q = cc

entry_related : (F : List HeapCell) (first : ℕ) (ds : Decisions) (xs : List VarId)
    (ws ws' : List Datum) (bs : List Binding) →
    ((y : ℕ) → times y (numbers_of xs) + times y (numbers_of (new_params ds)) ≤ 1)
    → ((y : ℕ) → InScope (numbers_of xs) y → y < first) → ArgsFor F ds ws ws'
    → one_each xs ws ≡ Some bs
    → (bs' : List Binding) × (one_each (raised_params ds xs) ws' ≡ Some bs')
    × Related F first (decided ds xs) (with_vars bs nothing) (with_vars bs' nothing)
entry_related F first ds xs ws ws' bs once low a e = (
  k.bs',
  k.binds,
  record {
    same = λ y v n h. on (times y (numbers_of xs)) y v refl n h;
    low = λ y v h. lower (times y (numbers_of xs)) y v refl h;
    fields = λ y r v n h. k.fields nothing nothing y r v n h;
  },
)
  where
    k : Enters F ds xs bs ws'
    k = enters F ds xs ws ws' bs once a e

    unbound : (y : ℕ) (v : Value) → times y (numbers_of xs) ≡ 0 → with_vars bs nothing y ≡ Some v
        → ⊥
    unbound y v z h = none_some
        (vars_out bs nothing y (ap (times y) (one_each_names xs ws bs e) ∙ z)) h

    on : (m y : ℕ) (v : Value) → times y (numbers_of xs) ≡ m → decided ds xs y ≡ None
        → with_vars bs nothing y ≡ Some v → with_vars k.bs' nothing y ≡ Some v
    on zero y v q n h = absurd (unbound y v q h)
    on (suc m) y v q n h = k.same nothing nothing y v (omega (arith, q)) n h

    lower : (m y : ℕ) (v : Value) → times y (numbers_of xs) ≡ m → with_vars bs nothing y ≡ Some v
        → y < first
    lower zero y v q h = absurd (unbound y v q h)
    lower (suc m) y v q h = low y (omega (arith, q))

module _ (g : Program) (A : Solution) (D : List Decisions) (n : ℕ) (of : IsVectorForm g)
    (worded : IsFetchedByWords g) (solves : Solves (tables g) (system g) A)
    (dec : IsDecided A g D n) where
  abbrev first : ℕ
  first = past_procs g.procs

  known : Known g A D
  known f ds e =
      let k : DecidedAt g A g.procs 0 f ds = decided_at g A 0 g.procs D dec.decided f ds e in
      (k.q, k.there, all_raisable g A (0 + f) k.q ds k.so)

  -- what holds of the procedures from number f on
  record Rest (f : ℕ) (qs : List Procedure) (dss : List Decisions) : Type 0 where
    pub so : AllDecided A g f qs dss
    pub at : (j : ℕ) → slice_get D (f + j) ≡ slice_get dss j
    pub inlined : EveryBodyIsOfKind inlined_kind qs
    pub by_words : EveryBodyIsOfKind without_node_fetches qs
    pub once : (y : ℕ) → times y (procs_vars qs) ≤ 1
    pub past : past_procs qs ≤ first
    pub met : AllMet (tables g) A (procs_flow g f qs)

  module _ (F : List HeapCell) (c c' : Calls) (cb : CallsBack (plan g A D n F).P c)
      (cf : CallsFollow (plan g A D n F) c c') where
    given_too : {v v' : Value} → Same v v' → Seen true (is_given g v) → Seen true (is_given g v')
        × Same v v'
    given_too (same {a = v}) s = (s, same)

    body_follows : (f m : ℕ) (q : Procedure) (ds : Decisions) → n ≤ m → slice_get D f ≡ Some ds
        → AllRaisable g A q q.params ds → EachCode inlined_kind q.body
        → EachCode without_node_fetches q.body
        → ((y : ℕ) → times y (numbers_of q.params) + times y (code_vars q.body) ≤ 1)
        → past_vars q.params ≤ first → past_code q.body ≤ first
        → AllMet (tables g) A (code_flows g (into_result f) q.body)
        → BodyFollows (it g A D n F c c' cb cf) f q (raised_procedure D m ds q)
    body_follows f m q ds le at ra iq bq once pq pb met = record {
      R = λ cells. Related F first (decided ds q.params);
      V = Same;
      enters = λ cells xs xs' bs a e lies. entry_related F first ds q.params xs xs' bs
          (params_once g D n dec.numbered f ds q.params at
          (λ y. (let o : times y (numbers_of q.params) + times y (code_vars q.body) ≤ 1 = once y
          in omega (arith, o))) out)
          (scope_below first (numbers_of q.params) out)
          (subst (λ l. ArgsFor F l xs xs') (ap or_no_decisions at) a) e;
      body = body_like g A D n F known (past_top g D n dec.numbered) c c' cb cf q
          (decided ds q.params) (new_ones g D n dec.numbered f ds q.params at)
          (λ y r e. raisable_at g A q y r q.params ds ra e) (into_result f) m q.body le (record {
            free = λ y r e.
                (let R : Raisable A g q y r.tag.0 r.fields = raisable_at g A q y r q.params ds ra e
                in R.only_fetched);
            plain = all_in (Plain first (decided ds q.params)) (code_vars q.body)
                (λ y i. (
                  low y i,
                  none_decided y ds q.params
                      (let o : times y (numbers_of q.params) + times y (code_vars q.body) ≤ 1 = once y
                      in omega (arith, o, i)),
                ));
            inlined = iq;
            by_words = bq;
            met = met;
          });
      given = λ v v' u seen. given_too u seen;
    }
      where
        out : (y : ℕ) → first ≤ y → times y (numbers_of q.params) ≡ 0
        out y h = past_vars_none y q.params (omega (arith, h, pq))

        low : (y : ℕ) → InScope (code_vars q.body) y → y < first
        low y i = let l : y < past_code q.body = scope_below (past_code q.body) (code_vars q.body)
            (λ y h. past_code_none y q.body h) y i in omega (arith, l, pb)

    bodies_follow : (f m : ℕ) (qs : List Procedure) (dss : List Decisions) → n ≤ m → Rest f qs dss
        → BodiesFollow (it g A D n F c c' cb cf) f qs (raised_procs D m dss qs)
    bodies_follow f m [] [] le h = no_more
    bodies_follow f m [] (ds ∷ dss) le h = absurd h.so
    bodies_follow f m (q ∷ qs) [] le h = absurd h.so
    bodies_follow f m (q ∷ qs) (ds ∷ dss) le h = one_more {f = f} {q = q}
        {r = raised_procedure D m ds q}
        (body_follows f m q ds le (ap (slice_get D) (let z : f ≡ f + 0 = omega arith in z) ∙ h.at 0)
        (all_raisable g A f q ds h.so.0) h.inlined.0 h.by_words.0 here
        (let p : past_procs (q ∷ qs) ≤ first = h.past in omega (arith, p))
        (let p : past_procs (q ∷ qs) ≤ first = h.past in omega (arith, p))
        (met_front g A (code_flows g (into_result f) q.body) (procs_flow g (suc f) qs) h.met))
        (bodies_follow (suc f) (m + new_code D q.body) qs dss (omega (arith, le)) (record {
          so = h.so.1;
          at = λ j. ap (slice_get D) (let z : suc f + j ≡ f + suc j = omega arith in z) ∙ h.at
              (suc j);
          inlined = h.inlined.1;
          by_words = h.by_words.1;
          once = later;
          past = let p : past_procs (q ∷ qs) ≤ first = h.past in omega (arith, p);
          met = met_back g A (code_flows g (into_result f) q.body) (procs_flow g (suc f) qs) h.met;
        }))
      where
        here : (y : ℕ) → times y (numbers_of q.params) + times y (code_vars q.body) ≤ 1
        here y =
            let o : times y ((numbers_of q.params ++ code_vars q.body) ++ procs_vars qs) ≤ 1
            = h.once y in
            let e : times y ((numbers_of q.params ++ code_vars q.body) ++ procs_vars qs) ≡ times y
            (numbers_of q.params ++ code_vars q.body) + times y (procs_vars qs)
            = times_append y (numbers_of q.params ++ code_vars q.body) (procs_vars qs) in
            let f : times y (numbers_of q.params ++ code_vars q.body) ≡ times y
            (numbers_of q.params) + times y (code_vars q.body)
            = times_append y (numbers_of q.params) (code_vars q.body) in
            omega (arith, o, e, f)

        later : (y : ℕ) → times y (procs_vars qs) ≤ 1
        later y =
            let o : times y ((numbers_of q.params ++ code_vars q.body) ++ procs_vars qs) ≤ 1
            = h.once y in
            let e : times y ((numbers_of q.params ++ code_vars q.body) ++ procs_vars qs) ≡ times y
            (numbers_of q.params ++ code_vars q.body) + times y (procs_vars qs)
            = times_append y (numbers_of q.params ++ code_vars q.body) (procs_vars qs) in
            omega (arith, o, e)

  -- ---- the whole program

  never : CheckedRunsNeverMissing g
  never = (looking_law g of.ready.inlined).sees of.ready.never_missing of.ready.runs

  all_lie : (i : List ℕ) (m : ℕ) → HoldsInEveryState (StateIsCovered g A)
      (world_of (checked_run g i m)).seen
  all_lie i m = subst (λ a. HoldsInEveryState (StateIsCovered g A) (world_of a).seen)
      (sym (look_agrees g i m (never i m)))
      ((covers g A (formed_is_started g of.formed) solves).passed i m)

  all_rest : Rest 0 g.procs D
  all_rest = record {
    so = dec.decided;
    at = λ j. ap (slice_get D) (let z : 0 + j ≡ j = omega arith in z);
    inlined = of.ready.inlined;
    by_words = worded;
    once = of.formed.variables_once;
    past = omega arith;
    met = met_back g A (globals_flow g g.globals) (procs_flow g 0 g.procs)
        (met_back g A (start_flows g g.argument)
        (globals_flow g g.globals ++ procs_flow g 0 g.procs) solves);
  }

  start_args : (F : List HeapCell) → ArgsFor F (decisions_at D g.start.0) (start_words g.argument)
      (start_words g.argument)
  start_args F = go (slice_get D g.start.0) refl
    where
      go : (o : Option Decisions) → slice_get D g.start.0 ≡ o
          → ArgsFor F (or_no_decisions o) (start_words g.argument) (start_words g.argument)
      go None e = refl
      go (Some ds) e =
          let k : DecidedAt g A g.procs 0 g.start.0 ds
          = decided_at g A 0 g.procs D dec.decided g.start.0 ds e in
          stays_for F k.q.params ds (k.so.start (omega arith)) (start_words g.argument)

  goes_likewise : (i : List ℕ) (m : ℕ) → Likewise no_deeper Same (checked_run g i m)
      (checked_run (raised D n g) i m)
  goes_likewise i m =
      let F : List HeapCell = (world_of (checked_run g i m)).cells in
      run_follows (plan g A D n F)
      (λ c c' cb cf. bodies_follow F c c' cb cf 0 n g.procs D (omega arith) all_rest) i m
      (start_args F) same
      (every_both (StateIsCovered g A) (λ s. Later g A s.heap F) (world_of (checked_run g i m)).seen
      (all_lie i m) (all_frozen g A of.ready.inlined i m (all_lie i m)))

  pub raised_kept : CheckedRunsNeverMissing (raised D n g) × Keeps g (raised D n g)
  raised_kept = looking_kept g (raised D n g) never
      (λ i m. likewise_kept no_deeper Same (checked_run g i m) (checked_run (raised D n g) i m)
      (goes_likewise i m))
