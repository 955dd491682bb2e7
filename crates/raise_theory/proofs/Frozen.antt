-- Cells that no update reaches keep their nodes from each state of a run to its end.
--
-- A cell that no update reaches has the same node from each moment of the run to its end. So the
-- fields that the caller fetches before the call are those that the procedure would have fetched
-- later. A parameter is related to these fields by the heap at the end of the run.
use Rattle.std.proofs.Common.{◌≡◌, ℕ, zero, suc, Bool, true, false, cond, nat_eq, List, [], ◌∷◌, ◌++◌, length, Option, Some, None, slice_get, slice_set, refl, sym, ap, ◌∙◌, subst}
use Rattle.seq.proofs.Order.{eq_from, differs_from}
use Rattle.seq.proofs.Lists.{all_get}
use Rattle.grin_syntax.specs.declared.program.Word.{Word}
use Rattle.grin_syntax.specs.Tree.{Code, end, store, bind, Act, leaf, unit, fetch, fetch_word, update, eval, apply, call, prim, read, write, case, nested, fail, Arms, no_arm, arm, Procedure, Program}
use Rattle.grin_syntax.specs.Formed.{AllOf}
use Rattle.grin_meaning.specs.Values.{Datum, number, words, Node, Value, Env, HeapCell, State, World, Answer, gives, stops, missing, then_do, need, and_then, Binding, with_vars, one_each, MatchOutcome, fits, fits_not, unclear, fit_of, word_of, words_of, value_of, node_of, bindings_of}
use Rattle.grin_meaning.specs.Run.{Calls, act_by, code_by, arms_by, calls_by, run_by, require_if_checked, require_value_if_checked, choose, byte_or_end, after_read, spend, spent, with_state_seen, places, cells_of, with_cells, with_node, place_of, number_of, apply_arithmetic, start_words, start_world}
use Rattle.grin_meaning.specs.Checks.{is_given}
use Rattle.grin_meaning.specs.Keeps.{world_of}
use Rattle.grin_meaning.specs.Looking.{checked_run}
use Rattle.grin_meaning.specs.Follows.{HoldsInEveryState}
use Rattle.grin_meaning.specs.Ready.{EachAct, EachCode, EachArms, IsInlined, inlined_kind}
use Rattle.grin_meaning.proofs.Back.{Back, need_back, looking_back, every_front, every_last, CallsBack, code_by_back, calls_by_back}
use Rattle.flow_system.specs.declared.fact.Element.TheVariants.{Cell as cell_of}
use Rattle.flow_system.specs.Tables.{tables}
use Rattle.flow_system.specs.Solution.{Solution, StandsFor}
use Rattle.flow_system.specs.Covers.{site_at, StateIsCovered}
use Rattle.flow_system.proofs.Lying.{from_some, place_lies}
use Rattle.pass_ground.specs.Updated.{act_updated, code_updated, arms_updated, updated_of}
use Rattle.raise_theory.specs.Raisable.{NeverUpdated}
use Rattle.pass_ground.proofs.Tests.{all_front, all_back}
use Rattle.flow_system.proofs.Covered.{site_is}
use Rattle.grin_meaning.proofs.Fullness.{every_and}

-- ---- places in heaps

append_get : (c more : List HeapCell) (a : ℕ) (y : HeapCell) → slice_get c a ≡ Some y
    → slice_get (c ++ more) a ≡ Some y
append_get [] more a y e = cc
append_get (x ∷ c) more zero y e = e
append_get (x ∷ c) more (suc a) y e = append_get c more a y e

set_elsewhere : (c : List HeapCell) (i a : ℕ) (new y : HeapCell) → (a ≡ i → ⊥)
    → slice_get c a ≡ Some y → slice_get (slice_set c i new) a ≡ Some y
set_elsewhere [] i a new y n e = e
set_elsewhere (x ∷ c) zero zero new y n e = absurd (n refl)
set_elsewhere (x ∷ c) zero (suc a) new y n e = e
set_elsewhere (x ∷ c) (suc i) zero new y n e = e
set_elsewhere (x ∷ c) (suc i) (suc a) new y n e = set_elsewhere c i a new y (λ q. n (ap suc q)) e

pub every_both : (P Q : State → Type 0) (ss : List State) → HoldsInEveryState P ss
    → HoldsInEveryState Q ss → HoldsInEveryState (λ s. P s × Q s) ss
every_both P Q [] h k = tt
every_both P Q (s ∷ ss) h k = ((h.0, k.0), every_both P Q ss h.1 k.1)

module _ (g : Program) (A : Solution) where
  -- a cell of the first heap at a site that is never updated is there in the second, with its node
  pub record Later (c c' : List HeapCell) : Type 0 where
    pub kept : (a : ℕ) (y : HeapCell) → slice_get c a ≡ Some y → NeverUpdated A g y.site
        → slice_get c' a ≡ Some y

  later_self : (c : List HeapCell) → Later c c
  later_self c = record { kept = λ a y e n. e }

  later_on : (c c' c'' : List HeapCell) → Later c c' → Later c' c'' → Later c c''
  later_on c c' c'' h k = record { kept = λ a y e n. k.kept a y (h.kept a y e n) n }

  later_more : (c more : List HeapCell) → Later c (c ++ more)
  later_more c more = record { kept = λ a y e n. append_get c more a y e }

  later_set : (c : List HeapCell) (i : ℕ) (z new : HeapCell) → slice_get c i ≡ Some z
      → (NeverUpdated A g z.site → ⊥) → Later c (slice_set c i new)
  later_set c i z new q not = record { kept = λ a y e n. go a y e n (nat_eq a i) refl }
    where
      go : (a : ℕ) (y : HeapCell) → slice_get c a ≡ Some y → NeverUpdated A g y.site → (b : Bool)
          → nat_eq a i ≡ b → slice_get (slice_set c i new) a ≡ Some y
      go a y e n true t =
          let at : slice_get c a ≡ Some z = ap (slice_get c) (eq_from a i t) ∙ q in
          let both : Some y ≡ Some z = sym e ∙ at in
          let same : y ≡ z = cc in
          absurd (not (subst (λ x. NeverUpdated A g x.site) same n))
      go a y e n false t = set_elsewhere c i a new y (differs_from a i t) e

  -- each state so far is earlier than the heap now
  abbrev Good : World → Type 0
  Good w = HoldsInEveryState (λ s. Later s.heap w.cells) w.seen

  good_on : (c c' : List HeapCell) → Later c c' → (ss : List State)
      → HoldsInEveryState (λ s. Later s.heap c) ss → HoldsInEveryState (λ s. Later s.heap c') ss
  good_on c c' l [] h = tt
  good_on c c' l (s ∷ ss) h = (later_on s.heap c c' h.0 l, good_on c c' l ss h.1)

  record Moved (w w' : World) : Type 0 where
    pub cells : Later w.cells w'.cells
    pub seen : Good w'

  -- where all states lie in the solution
  abbrev Moves : World → Answer → Type 0
  Moves w a = HoldsInEveryState (StateIsCovered g A) (world_of a).seen → Good w
      → Moved w (world_of a)

  still : (w : World) → Good w → Moved w w
  still w h = record { cells = later_self w.cells; seen = h }

  chain : (w w' : World) (a : Answer) → (Good w → Moved w w') → Moves w' a → Moves w a
  chain w w' a f k = λ all good.
      let x : Moved w w' = f good in
      let y : Moved w' (world_of a) = k all x.seen in
      record { cells = later_on w.cells w'.cells (world_of a).cells x.cells y.cells; seen = y.seen }

  need_moves : {B : Type 0} (o : Option B) (w : World) (k : B → Answer)
      → ((b : B) → o ≡ Some b → Moves w (k b)) → Moves w (need o w k)
  need_moves None w k f = λ all. still w
  need_moves (Some b) w k f = f b refl

  cond_moves : (b : Bool) (w : World) (x y : Answer) → Moves w x → Moves w y → Moves w (cond b x y)
  cond_moves true w x y f h = f
  cond_moves false w x y f h = h

  looking_moves : (looks b : Bool) (w : World) (a : Answer) → Moves w a
      → Moves w (require_if_checked looks b w a)
  looking_moves false b w a f = f
  looking_moves true b w a f = cond_moves b w a (stops missing w) f (λ all. still w)

  choose_moves : (f : MatchOutcome) (w : World) (k : List Binding → Answer) (x : Answer)
      → ((bs : List Binding) → Moves w (k bs)) → Moves w x → Moves w (choose f w k x)
  choose_moves (fits bs) w k x h m = h bs
  choose_moves fits_not w k x h m = m
  choose_moves unclear w k x h m = λ all. still w

  spend_moves : (l : ℕ) (w : World) (k : ℕ → Answer) → ((m : ℕ) → Moves w (k m))
      → Moves w (spend l w k)
  spend_moves zero w k f = λ all. still w
  spend_moves (suc m) w k f = f m

  then_moves : (w : World) (a : Answer) (k : Value → World → Answer)
      → ((v : Value) (w' : World) → Back (StateIsCovered g A) w' (k v w')) → Moves w a
      → ((v : Value) (w' : World) → Moves w' (k v w')) → Moves w (then_do a k)
  then_moves w (gives v w') k b f h = λ all. chain w w' (k v w') (f (b v w' all)) (h v w') all
  then_moves w (stops s w') k b f h = f

  -- no update of a piece reaches a cell that is never updated
  abbrev Apart : List Word → Type 0
  Apart us = (s : ℕ) → NeverUpdated A g s → AllOf (λ a. StandsFor (tables g) A a (cell_of s) → ⊥) us

  apart_front : (us vs : List Word) → Apart (us ++ vs) → Apart us
  apart_front us vs h s n = all_front (λ a. StandsFor (tables g) A a (cell_of s) → ⊥) us vs (h s n)

  apart_back : (us vs : List Word) → Apart (us ++ vs) → Apart vs
  apart_back us vs h s n = all_back (λ a. StandsFor (tables g) A a (cell_of s) → ⊥) us vs (h s n)

  abbrev state : Env → World → State
  state env w = record { env = env; heap = w.cells }

  record CallsMove (c : Calls) : Type 0 where
    pub by : (f : ℕ) (xs : List Datum) (d : ℕ) (w : World) → Moves w (c f xs d w)

  read_moves : (i : List ℕ) (w : World) → Moves w
      (gives (words (number (byte_or_end i) ∷ [])) (after_read i w))
  read_moves [] w = λ all. still w
  read_moves (k ∷ rest) w = λ all good. record { cells = later_self w.cells; seen = good }

  module _ (looks : Bool) (c : Calls) (cb : CallsBack (StateIsCovered g A) c) (cm : CallsMove c)
    where
      -- a block goes on, in a state that the run passes through
      entering : (env : Env) (d : ℕ) (b : Code) (w : World)
          → (StateIsCovered g A (state env w) → Moves (with_state_seen env w)
          (code_by g c looks env d b (with_state_seen env w)))
          → Moves w (code_by g c looks env d b (with_state_seen env w))
      entering env d b w f = λ all good.
          let at : StateIsCovered g A (state env w) = every_last (StateIsCovered g A) w.seen _
          (code_by_back (StateIsCovered g A) g c cb looks env d b (with_state_seen env w) all) in
          let x : Moved (with_state_seen env w)
          (world_of (code_by g c looks env d b (with_state_seen env w)))
          = f at all
          (every_and (λ s. Later s.heap w.cells) w.seen (state env w) good (later_self w.cells))
          in
          record { cells = x.cells; seen = x.seen }

      put_moves : (env : Env) (w : World) → StateIsCovered g A (state env w) → (a : Word)
          → Apart (a ∷ []) → (i : ℕ) (y : HeapCell) (n : Node)
          → and_then (word_of g env a) place_of ≡ Some i → slice_get w.cells i ≡ Some y
          → Moves w (gives (words []) (with_node i n y w))
      put_moves env w lies a apart i y n e q = λ all good. record
          { cells = set; seen = good_on w.cells _ set w.seen good }
        where
          at : (s : ℕ) × (site_at w.cells i ≡ Some s) × StandsFor (tables g) A a (cell_of s)
          at = from_some
              (λ i. (s : ℕ) × (site_at w.cells i ≡ Some s) × StandsFor (tables g) A a (cell_of s))
              (and_then (word_of g env a) place_of) i
              (place_lies g w.cells A lies.globals env lies.variables a) e

          stands : StandsFor (tables g) A a (cell_of y.site)
          stands = subst (λ s. StandsFor (tables g) A a (cell_of s)) (site_is w.cells i at.0 y at.1 q)
              at.2

          set : Later w.cells (slice_set w.cells i (record { site = y.site; node = n }))
          set = later_set w.cells i y (record { site = y.site; node = n }) q
              (λ never. (apart y.site never).0 stands)

      mutual
        unfolding act_by EachAct act_updated

        act_moves : (env : Env) (d : ℕ) (o : Act) (w : World) → StateIsCovered g A (state env w)
            → EachAct inlined_kind o → Apart (act_updated o) → Moves w (act_by g c looks env d o w)
        act_moves env d (leaf (unit v)) w lies l ap' = need_moves (value_of g env v) w _
            (λ y e. looking_moves looks _ w _ (λ all. still w))
        act_moves env d (leaf (fetch a)) w lies l ap'
            = need_moves (and_then (word_of g env a) place_of) w _
            (λ i e. need_moves (slice_get w.cells i) w _ (λ y q all. still w))
        act_moves env d (leaf (fetch_word a k)) w lies l ap'
            = need_moves (and_then (word_of g env a) place_of) w _
            (λ i e. need_moves (slice_get w.cells i) w _ (λ y q all. still w))
        act_moves env d (leaf (update a v)) w lies l ap'
            = need_moves (and_then (word_of g env a) place_of) w _
            (λ i e. need_moves (slice_get w.cells i) w _ (λ y q.
            need_moves (node_of g env v) w _
            (λ n r. looking_moves looks _ w _ (put_moves env w lies a ap' i y n e q))))
        act_moves env d (leaf (eval a)) w lies l ap' = absurd l
        act_moves env d (leaf (apply v a)) w lies l ap' = absurd l.0
        act_moves env d (leaf (call f ws)) w lies l ap'
            = need_moves (words_of g env ws) w _ (λ xs e. cm.by f.0 xs d w)
        act_moves env d (leaf (prim f a b)) w lies l ap'
            = need_moves (word_of g env a) w _
            (λ x e. need_moves (word_of g env b) w _
            (λ y q. need_moves (apply_arithmetic f x y) w _ (λ v r all. still w)))
        act_moves env d (leaf read) w lies l ap' = read_moves w.input w
        act_moves env d (leaf (write a)) w lies l ap'
            = need_moves (and_then (word_of g env a) number_of) w _
            (λ k e all good. record { cells = later_self w.cells; seen = good })
        act_moves env d (case v as') w lies l ap' = need_moves (value_of g env v) w _
            (λ y e. arms_move env d y as' w lies l.2 ap')
        act_moves env d (nested b) w lies l ap' = code_moves env d b w lies l.1 ap'
        act_moves env d (leaf fail) w lies l ap' = λ all. still w

        code_moves : (env : Env) (d : ℕ) (b : Code) (w : World) → StateIsCovered g A (state env w)
            → EachCode inlined_kind b → Apart (code_updated b) → Moves w (code_by g c looks env d b w)
        code_moves env d (end o) w lies l ap' = act_moves env d o w lies l ap'
        code_moves env d (store cs b) w lies l ap' = need_moves
            (cells_of g (with_vars (places (length w.cells) cs) env) cs) w _
            (λ hs e. looking_moves looks _ w _
            (chain w (with_cells hs w)
            (code_by g c looks (with_vars (places (length w.cells) cs) env) d b
            (with_state_seen (with_vars (places (length w.cells) cs) env) (with_cells hs w)))
            (λ good. record {
              cells = later_more w.cells hs;
              seen
                  = good_on w.cells (w.cells ++ hs) (later_more w.cells hs) w.seen good;
            })
            (entering (with_vars (places (length w.cells) cs) env) d b (with_cells hs w)
            (λ at. code_moves (with_vars (places (length w.cells) cs) env) d b
            (with_state_seen (with_vars (places (length w.cells) cs) env) (with_cells hs w)) at
            l.1 ap'))))
        code_moves env d (bind t o b) w lies l ap' = then_moves w (act_by g c looks env (suc d) o w) _
            (λ v w'. looking_back (StateIsCovered g A) looks _ w' _
            (need_back (StateIsCovered g A) (bindings_of g t v) w' _
            (λ bs all. every_front (StateIsCovered g A) w'.seen _
            (code_by_back (StateIsCovered g A) g c cb looks (with_vars bs env) d b
            (with_state_seen (with_vars bs env) w') all))))
            (act_moves env (suc d) o w lies l.1 (apart_front (act_updated o) (code_updated b) ap'))
            (λ v w'. looking_moves looks _ w' _ (need_moves (bindings_of g t v) w' _ (λ bs e.
            entering (with_vars bs env) d b w'
            (λ at. code_moves (with_vars bs env) d b (with_state_seen (with_vars bs env) w') at
            l.2 (apart_back (act_updated o) (code_updated b) ap')))))

        arms_move : (env : Env) (d : ℕ) (v : Value) (as' : Arms) (w : World)
            → StateIsCovered g A (state env w) → EachArms inlined_kind as' → Apart (arms_updated as')
            → Moves w (arms_by g c looks env d v as' w)
        arms_move env d v no_arm w lies l ap' = λ all. still w
        arms_move env d v (arm s b as') w lies l ap' = choose_moves (fit_of g s v) w _ _
            (λ bs. entering (with_vars bs env) d b w
            (λ at. code_moves (with_vars bs env) d b (with_state_seen (with_vars bs env) w) at l.1
            (apart_front (code_updated b) (arms_updated as') ap')))
            (arms_move env d v as' w lies l.2 (apart_back (code_updated b) (arms_updated as') ap'))

  -- ---- calls

  given_moves : (looks : Bool) (w : World) (f : Value → Bool) (a : Answer) → Moves w a
      → Moves w (require_value_if_checked looks f a)
  given_moves false w f a m = m
  given_moves true w f a m = then_moves w a _ (λ v w'. back (f v) v w') m
      (λ v w'. cond_moves (f v) w' _ _ (λ all. still w') (λ all. still w'))
    where
      back : (b : Bool) (v : Value) (w : World) → Back (StateIsCovered g A) w
          (cond b (gives v w) (stops missing w))
      back true v w = λ e. e
      back false v w = λ e. e

  updated_at : (P : Word → Type 0) (qs : List Procedure) (f : ℕ) (q : Procedure)
      → slice_get qs f ≡ Some q → AllOf P (updated_of qs) → AllOf P (code_updated q.body)
  updated_at P [] f q e h = cc
  updated_at P (x ∷ qs) zero q e h = let same : x ≡ q = cc
      in subst (λ y. AllOf P (code_updated y.body)) same
      (all_front P (code_updated x.body) (updated_of qs) h)
  updated_at P (x ∷ qs) (suc f) q e h = updated_at P qs f q e
      (all_back P (code_updated x.body) (updated_of qs) h)

  module _ (inlined : IsInlined g) where
    calls_move : (looks : Bool) (n : ℕ) → CallsMove (calls_by g looks n)
    unfolding calls_by
    calls_move looks zero = record { by = λ f xs d w all. still w }
    calls_move looks (suc n) = record {
      by = λ f xs d w. spend_moves w.left w _
          (λ m. need_moves (slice_get g.procs f) w _
          (λ q e. need_moves (one_each q.params xs) w _ (λ bs r.
          let env : Env = with_vars bs (λ y. None) in
          given_moves looks w (is_given g)
          (code_by g (calls_by g looks n) looks env d q.body
          (with_state_seen env (spent f d m w)))
          (chain w (spent f d m w)
          (code_by g (calls_by g looks n) looks env d q.body
          (with_state_seen env (spent f d m w)))
          (λ good. record { cells = later_self w.cells; seen = good })
          (entering looks (calls_by g looks n) (calls_by_back (StateIsCovered g A) g looks n)
          (calls_move looks n) env d q.body (spent f d m w)
          (λ at. code_moves looks (calls_by g looks n)
          (calls_by_back (StateIsCovered g A) g looks n) (calls_move looks n) env d q.body
          (with_state_seen env (spent f d m w)) at
          (all_get (λ q. EachCode inlined_kind q.body) g.procs f q inlined e)
          (λ s never. updated_at (λ a. StandsFor (tables g) A a (cell_of s) → ⊥) g.procs f q e
          never)))))));
    }

    -- each state that a looking run passes through is earlier than the heap at its end
    pub all_frozen : (i : List ℕ) (n : ℕ) → HoldsInEveryState (StateIsCovered g A)
        (world_of (checked_run g i n)).seen → HoldsInEveryState
        (λ s. Later s.heap (world_of (checked_run g i n)).cells) (world_of (checked_run g i n)).seen
    unfolding run_by
    all_frozen i n all =
        ((calls_move true n).by g.start.0 (start_words g.argument) 0 (start_world g i n) all
        tt).seen
