-- Joins: a block gives its words to variables, and what follows goes on with them.
use Rattle.std.proofs.Common.{◌≡◌, ℕ, suc, ◌+◌, ◌≤◌, List, [], ◌∷◌, ◌++◌, map, length, true, Some, None, inl, inr, refl, sym, ap, ◌∙◌, subst, arith, length-append, Bool}
use Rattle.std.specs.Prelude.{Option, slice_get}
use Rattle.parallel_move.specs.declared.Spot.{Spot}
use Rattle.low_code.specs.Tree.{Code, join, Procedure, Program}
use Rattle.low_code.specs.Formed.{uses, variables}
use Rattle.low_code.specs.Values.{Word, Env, World, need, with_vars}
use Rattle.low_code.specs.Run.{Calls, code}
use Rattle.register_alloc.specs.Fits.{slots_of}
use Rattle.register_alloc.specs.Assignment.{Assignment, place_of, words_at}
use Rattle.rv32_items.specs.declared.Item.{Item}
use Rattle.rv32_items.specs.declared.Item.TheVariants.{Label}
use Rattle.rv32_items.specs.Course.{Layout}
use Rattle.rv32_select.specs.declared.source.Continuation.{Continuation}
use Rattle.rv32_select.specs.declared.source.Continuation.TheVariants.{Follows}
use Rattle.rv32_select.specs.IsSelected.{first_label}
use Rattle.rv32_select.proofs.EmittedLabels.{emits_up}
use Rattle.rv32_select.proofs.Courses.{front, back}
use Rattle.rv32_select.proofs.Straight.{Data, at}
use Rattle.rv32_select.proofs.FrameViews.{spots}
use Rattle.rv32_select.proofs.Relation.{bases, word_of, AllHold, Stood, Ran, Does', does_after, does_then, Given, Needed}
use Rattle.rv32_select.proofs.PlaceFacts.{ProcedureFine, Setting}
use Rattle.rv32_select.proofs.BlockFacts.{room, Block, Simulates, bound_word, still_scoped, apart_not_among, apart_different}
use Rattle.rv32_select.proofs.OneBound.{Cut, cut, ready_at}
use Rattle.rv32_select.proofs.TakeStatement.{scope_owned}
use Rattle.rv32_select.proofs.Stops.{passes_label}
use Rattle.seq.specs.Lists.{is_among}
use Rattle.seq.proofs.Counted.{among_left, among_right}

-- less is needed
pub stood_weaken : (l : Program) (a : Assignment) (cells stack : ℕ) (lay : Layout) (framed : Bool)
    (f j slots : ℕ) (d0 : Data) (link : ℕ) (Needs Needs' : ℕ → Word → Type 0) (d : Data) (w : World)
    → ((y : ℕ) (v : Word) → Needs' y v → Needs y v)
    → Stood l a cells stack lay framed f j slots d0 link Needs d w
    → Stood l a cells stack lay framed f j slots d0 link Needs' d w
stood_weaken l a cells stack lay framed f j slots d0 link Needs Needs' d w h st
    = record {
      world = st.world;
      frame = st.frame;
      home = st.home;
      vars
          = λ y v need. st.vars y v (h y v need);
      untouched = st.untouched;
    }

module _ (l : Program) (a : Assignment) (cells stack : ℕ) (lay : Layout) (items : List Item)
    (begins : List ℕ) (s : Setting l a cells stack lay items begins) (calls_n : Calls) (n : ℕ)
    (f : ℕ) (q : Procedure) (pf : ProcedureFine l a f q) (framed : Bool) (j m : ℕ) (outer : List ℕ)
    (d0 : Data) (u : ℕ) where
  module _ (xs : List ℕ) (bb c : Code) (to : List Spot) (way : Continuation)
      (Must : ℕ → Word → Type 0) (k k' : ℕ) (block : List Item) (p : ℕ) (scope later : List ℕ)
      (env : Env) (top : ℕ) (under : Option ℕ) (d : Data) (w : World)
      (b : Block l a cells stack lay items begins f q framed pf.slots j m outer d0 u n
      (join xs bb c) to way Must k k' block p scope later env top under d w) where
    parts : Cut items p (b.emits.1 ++ Label k ∷ []) b.emits.3.0 block
    parts = cut items p (b.emits.1 ++ Label k ∷ []) b.emits.3.0 block b.emits.3.1 b.stands

    label_here : slice_get items (p + length b.emits.1) ≡ Some (Label k)
    label_here = (back items p b.emits.1 (Label k ∷ []) parts.first).0

    needed_live : (y : ℕ) (v : Word) → Needed c env Must y v → (is_among y scope ≡ true)
        × (is_among y (uses c ++ later) ≡ true)
    needed_live y v (inl h) = (b.scoped y v h.1, among_left y (uses c) later h.0)
    needed_live y v (inr h) = let both = b.must y v h
        in (both.0, among_right y (uses c) later both.1)

    pub inner : Block l a cells stack lay items begins f q framed pf.slots j m outer d0 u n bb
        (map (place_of a) xs) (Follows k) (Needed c env Must) (suc k) b.emits.0 b.emits.1 p scope
        (uses c ++ later) env top None d w
    inner = record {
      emits = b.emits.2;
      stands = front items p b.emits.1 (Label k ∷ []) parts.first;
      ready = label_here;
      above = let le = b.above in omega arith;
      fine = b.fine.0;
      scoped = b.scoped;
      owned = b.owned;
      must = needed_live;
      clear = λ y v h. apart_not_among l a scope xs c later y b.fine.1.0.0 (needed_live y v h);
      to_own = b.fine.1.0.1;
      to_differ = apart_different l a scope xs c later b.fine.1.0.0;
      in_registers = tt;
      stood = stood_weaken l a cells stack lay framed f j pf.slots d0 (lay.address m)
          (Needed (join xs bb c) env Must) (Needed bb env (Needed c env Must)) d w weaker b.stood;
      base = b.base;
      left = b.left;
      top_is = b.top_is;
      under_is = λ v e. absurd (cc);
    }
      where
        weaker : (y : ℕ) (v : Word) → Needed bb env (Needed c env Must) y v
            → Needed (join xs bb c) env Must y v
        weaker y v (inl h) = inl (among_left y (uses bb) (uses c) h.0, h.1)
        weaker y v (inr (inl h)) = inl (among_right y (uses bb) (uses c) h.0, h.1)
        weaker y v (inr (inr h)) = inr h

    pub join_simulated : Simulates l a cells stack lay items begins f q framed pf.slots j m outer d0
        u n calls_n bb (map (place_of a) xs) (Follows k) (Needed c env Must) p env top None d w
        → ((rs : List Word) (env' : Env) (d' : Data) (v : World)
        → Block l a cells stack lay items begins f q framed pf.slots j m outer d0 u n c to way
        Must b.emits.0 k' b.emits.3.0 (p + length (b.emits.1 ++ Label k ∷ [])) (xs ++ scope)
        later env' top under d' v
        → Simulates l a cells stack lay items begins f q framed pf.slots j m outer d0 u n calls_n c
        to way Must (p + length (b.emits.1 ++ Label k ∷ [])) env' top under d' v)
        → Simulates l a cells stack lay items begins f q framed pf.slots j m outer d0 u n calls_n
        (join xs bb c) to way Must p env top under d w
    unfolding code
    join_simulated block_done more =
        does_then lay items begins l.width cells
        (Given l a cells stack lay items framed f j pf.slots d0 m outer (map (place_of a) xs)
        (Follows k) (Needed c env Must))
        (Given l a cells stack lay items framed f j pf.slots d0 m outer to way Must)
        (at (bases stack) lay items p d) (m ∷ outer) w
        (code l (words_at a) (room l a cells stack lay items begins) calls_n env top None bb w)
        (λ rs w'. need (with_vars xs rs env) w'
        (λ env'. code l (words_at a) (room l a cells stack lay items begins) calls_n env' top
        under c w')) block_done
        (λ rs v p' c' le given.
        let onward = λ (rs : List Word) (w' : World). need (with_vars xs rs env) w'
        (λ env'. code l (words_at a) (room l a cells stack lay items begins) calls_n env' top
        under c w') in
        let two : Some given.0 ≡ Some (p + length b.emits.1)
        = sym given.1.1.0 ∙ s.once (p + length b.emits.1) k label_here in
        let place : given.0 ≡ p + length b.emits.1 = cc in
        subst (λ x. Does' lay items begins l.width cells
        (Given l a cells stack lay items framed f j pf.slots d0 m outer to way Must) x c' v
        (onward rs v))
        (sym (given.1.1.1.0 ∙ ap (λ y. at (bases stack) lay items y given.1.0) place))
        (subst (λ x. Does' lay items begins l.width cells
        (Given l a cells stack lay items framed f j pf.slots d0 m outer to way Must)
        (at (bases stack) lay items (p + length b.emits.1) given.1.0) x v (onward rs v))
        (sym given.1.1.1.1.0)
        (by_vars (with_vars xs rs env) rs refl given.1.0 v le given.1.1.1.1.1.0 given.1.1.1.1.1.1)))
      where
        by_vars : (r : Option Env) (rs : List Word) → with_vars xs rs env ≡ r
            → (e : Data) (v : World) → v.left ≤ w.left
            → Stood l a cells stack lay framed f j pf.slots d0 (lay.address m) (Needed c env Must) e
            v → AllHold l.width (map (place_of a) xs) rs (spots lay.code (bases stack) j pf.slots e)
            → Does' lay items begins l.width cells
            (Given l a cells stack lay items framed f j pf.slots d0 m outer to way Must)
            (at (bases stack) lay items (p + length b.emits.1) e) (m ∷ outer) v
            (need r v
            (λ env'. code l (words_at a) (room l a cells stack lay items begins) calls_n env'
            top under c v))
        by_vars None rs bind e v left st hold = tt
        by_vars (Some env') rs bind e v left st hold =
            let ran = passes_label l a cells stack lay items begins s k (p + length b.emits.1) e
            (m ∷ outer) v (let le = b.above in omega arith) label_here in
            let behind : suc (p + length b.emits.1) ≡ p + length (b.emits.1 ++ Label k ∷ []) = let y
            = length-append b.emits.1 (Label k ∷ []) in omega arith in
            does_after lay items begins l.width cells
            (Given l a cells stack lay items framed f j pf.slots d0 m outer to way Must)
            (code l (words_at a) (room l a cells stack lay items begins) calls_n env' top under
            c v)
            (subst (λ y. Ran lay items begins (at (bases stack) lay items (p + length b.emits.1) e)
            (m ∷ outer) v (at (bases stack) lay items y e) (m ∷ outer) v) behind ran)
            (more rs env' e v (record {
              emits = b.emits.3.2;
              stands = parts.more;
              ready = ready_at l a cells stack lay items begins way (p + length block)
                  (p + length (b.emits.1 ++ Label k ∷ []) + length b.emits.3.0) parts.end b.ready;
              above = up;
              fine = b.fine.1.1;
              scoped = still_scoped xs rs scope env env' bind b.scoped;
              owned = scope_owned l a f (slots_of (place_of a) (variables q)) xs scope b.fine.1.0.1
                  b.owned;
              must = λ y z e. let both = b.must y z e in (among_right y xs scope both.0, both.1);
              clear = b.clear;
              to_own = b.to_own;
              to_differ = b.to_differ;
              in_registers = b.in_registers;
              stood = record {
                world = st.world;
                frame = st.frame;
                home = st.home;
                vars
                    = vars e rs env' bind hold st.vars;
                untouched = st.untouched;
              };
              base = b.base;
              left = let le = b.left in omega arith;
              top_is = b.top_is;
              under_is = b.under_is;
            }))
          where
            up : first_label l ≤ b.emits.0
            up = let le = b.above in let more = emits_up l a cells stack (words_at a f)
                (slots_of (place_of a) (variables q)) framed bb (map (place_of a) xs) (Follows k)
                (suc k) b.emits.0 b.emits.1 b.emits.2 in omega arith

            vars : (e : Data) (rs : List Word) (env' : Env) → with_vars xs rs env ≡ Some env'
                → AllHold l.width (map (place_of a) xs) rs
                (spots lay.code (bases stack) j pf.slots e)
                → ((y : ℕ) (v : Word) → Needed c env Must y v
                → spots lay.code (bases stack) j pf.slots e (place_of a y) ≡ word_of l.width v)
                → (y : ℕ) (v : Word) → Needed c env' Must y v
                → spots lay.code (bases stack) j pf.slots e (place_of a y) ≡ word_of l.width v
            vars e rs env' bind hold before y v (inl h)
                = elim (bound_word l.width (place_of a) xs rs env env'
                (spots lay.code (bases stack) j pf.slots e) y v bind hold h.1) [
                  | inl z ↦ z
                  | inr z ↦ before y v (inl (h.0, z))
                ]
            vars e rs env' bind hold before y v (inr h) = before y v (inr h)
