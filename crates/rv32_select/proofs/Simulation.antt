-- The machine does what runs of low code do: blocks by their structure, and calls by the units that
-- are left.
use Rattle.std.proofs.Common.{◌≡◌, ℕ, zero, suc, ◌+◌, ◌*◌, List, [], ◌∷◌, ◌++◌, map, length, Bool, true, false, Some, None, refl, arith, inl, inr}
use Rattle.std.specs.Prelude.{Option}
use Rattle.parallel_move.specs.declared.Spot.{Spot}
use Rattle.low_code.specs.declared.program.Operand.{Operand}
use Rattle.low_code.specs.declared.program.PrimOp.{PrimOp}
use Rattle.low_code.specs.Tree.{Code, set, prim, load, save, take, put, get, call, join, give, tail, choose, fail, Arms, otherwise, arm, Procedure, Program}
use Rattle.low_code.specs.Formed.{uses, variables}
use Rattle.low_code.specs.Values.{Word, Env, World, with_var}
use Rattle.low_code.specs.Run.{Calls, calls}
use Rattle.register_alloc.specs.Assignment.{Assignment, place_of, words_at}
use Rattle.register_alloc.specs.Fits.{slots_of}
use Rattle.rv32_items.specs.declared.Item.{Item}
use Rattle.rv32_items.specs.declared.Item.TheVariants.{Label}
use Rattle.rv32_items.specs.Course.{Layout, address_from}
use Rattle.rv32_select.specs.declared.source.Continuation.{Continuation}
use Rattle.rv32_select.specs.declared.source.Continuation.TheVariants.{Returns, Follows}
use Rattle.rv32_select.specs.Emit.{plain, prim_code, branch_items, result_spots, match_items}
use Rattle.rv32_select.specs.Decides.{decides, tested, condition, other_condition}
use Rattle.rv32_select.specs.IsSelected.{continued_by_jump, source, tests_items, first_arm_goes_last, Then, Emits, EmitsArms, EmitsLast, EmitsDecided, EmitsDecidedFirst, EmitsDecidedLast}
use Rattle.rv32_select.proofs.Straight.{Data, at}
use Rattle.rv32_select.proofs.Relation.{bases, Back, Needed}
use Rattle.rv32_select.proofs.PlaceFacts.{ProcedureFine, Setting}
use Rattle.rv32_select.proofs.BlockFacts.{room, Block, Simulates, CallsSimulated}
use Rattle.rv32_select.proofs.OneBound.{set_simulated}
use Rattle.rv32_select.proofs.WordStatements.{prim_simulated, load_simulated, save_simulated}
use Rattle.rv32_select.proofs.TakeStatement.{take_simulated}
use Rattle.rv32_select.proofs.BlockEnds.{fail_simulated}
use Rattle.rv32_select.proofs.GiveStatement.{give_simulated}
use Rattle.rv32_select.proofs.TailStatement.{tail_simulated}
use Rattle.rv32_select.proofs.RoundStatements.{put_round, get_round, call_round}
use Rattle.rv32_select.proofs.JoinStatement.{inner, join_simulated}
use Rattle.rv32_select.proofs.ChoiceStatement.{ArmsBlock, ArmsSimulates, arm_simulated, turned_arm, arms_block, choice, last_arm}
use Rattle.rv32_select.proofs.DecidedStatement.{decided, decided_first, decided_last}
use Rattle.rv32_select.proofs.SearchStatement.{EachSimulates, searched}
use Rattle.rv32_select.proofs.EmittedLabels.{whichever}
use Rattle.rv32_select.proofs.ProcedureEntry.{NoMust}
use Rattle.rv32_select.proofs.ProcedureCall.{waits_here, call_simulated}

-- what follows of both, and of the first where it is that
whichever_so : {A : Type 0} (T F : Type 0) (r : Bool) → (r ≡ true → T → A) → (F → A)
    → elim r as (λ x. Type 0) [ true ↦ T | false ↦ F ] → A
whichever_so T F true f g h = f refl h
whichever_so T F false f g h = g h

module _ (l : Program) (a : Assignment) (cells stack : ℕ) (lay : Layout) (items : List Item)
    (begins : List ℕ) (s : Setting l a cells stack lay items begins) (calls_n : Calls) (n : ℕ)
    (called : CallsSimulated l a cells stack lay items begins calls_n n)
    (f : ℕ) (q : Procedure) (pf : ProcedureFine l a f q) (framed : Bool) (j m : ℕ) (outer : List ℕ)
    (d0 : Data) (u : ℕ) (found : address_from 0 items lay (lay.address m) ≡ Some m)
    (total : 4 * (j + (1 + pf.slots) + u) ≡ stack) where
  mutual
    pub simulate : (c : Code) (to : List Spot) (way : Continuation) (Must : ℕ → Word → Type 0)
        (k k' : ℕ) (block : List Item) (p : ℕ) (scope later : List ℕ) (env : Env) (top : ℕ)
        (under : Option ℕ) (d : Data) (w : World)
        → Block l a cells stack lay items begins f q framed pf.slots j m outer d0 u n c to way Must
        k k' block p scope later env top under d w
        → Simulates l a cells stack lay items begins f q framed pf.slots j m outer d0 u n calls_n c
        to way Must p env top under d w
    simulate (set x o c) to way Must k k' block p scope later env top under d w b =
        set_simulated l a cells stack lay items begins s calls_n n f q pf framed j m outer d0 u x o
        c to way Must k k' block p scope later env top under d w b
        (λ v rest p' d' b'. simulate c to way Must k k' rest p' (x ∷ scope) later (with_var x v env)
        top under d' w b')
    simulate (prim g x o o' c) to way Must k k' block p scope later env top under d w b =
        whichever_so
        (EmitsDecided l a cells stack (words_at a f) (slots_of (place_of a) (variables q))
        framed g (source l a o) (source l a o') to way c k k' block)
        (Then (plain (prim_code g (place_of a x) (source l a o) (source l a o')))
        (Emits l a cells stack (words_at a f) (slots_of (place_of a) (variables q)) framed to
        way c k k') block) (decides g x c)
        (λ is h. simulate_decided c g x o o' to way Must k k' block p scope later env top under d w
        b is h)
        (λ h. prim_simulated l a cells stack lay items begins s calls_n n f q pf framed j m outer d0
        u g x o o' c to way Must k k' block p scope later env top under d w b h
        (λ v rest p' d' b'. simulate c to way Must k k' rest p' (x ∷ scope) later (with_var x v env)
        top under d' w b'))
        b.emits
    simulate (load x o i c) to way Must k k' block p scope later env top under d w b =
        load_simulated l a cells stack lay items begins s calls_n n f q pf framed j m outer d0 u x o
        i c to way Must k k' block p scope later env top under d w b
        (λ v rest p' d' b'. simulate c to way Must k k' rest p' (x ∷ scope) later (with_var x v env)
        top under d' w b')
    simulate (save o i o' c) to way Must k k' block p scope later env top under d w b =
        save_simulated l a cells stack lay items begins s calls_n n f q pf framed j m outer d0 u o i
        o' c to way Must k k' block p scope later env top under d w b
        (λ w' rest p' d' b'. simulate c to way Must k k' rest p' scope later env top under d' w' b')
    simulate (take xs c) to way Must k k' block p scope later env top under d w b =
        take_simulated l a cells stack lay items begins s calls_n n f q pf framed j m outer d0 u xs
        c to way Must k k' block p scope later env top under d w b
        (λ env' rest p' d' w' b'. simulate c to way Must k k' rest p' (xs ++ scope) later env' top
        under d' w' b')
    simulate (put o c) to way Must k k' block p scope later env top under d w b =
        put_round l a cells stack lay items begins s calls_n n f q pf framed j m outer d0 u o c to
        way Must k k' block p scope later env top under d w b
        (λ w' rest p' d' b'. simulate c to way Must k k' rest p' scope later env top under d' w' b')
    simulate (get x c) to way Must k k' block p scope later env top under d w b =
        get_round l a cells stack lay items begins s calls_n n f q pf framed j m outer d0 u x c to
        way Must k k' block p scope later env top under d w b
        (λ v w' rest p' d' b'. simulate c to way Must k k' rest p' (x ∷ scope) later
        (with_var x v env) top under d' w' b')
    simulate (call g site os xs c) to way Must k k' block p scope later env top under d w b =
        call_round l a cells stack lay items begins s calls_n n f q pf called framed j m outer d0 u
        found total g site os xs c to way Must k k' block p scope later env top under d w b
        (λ env' rest p' d' v b'. simulate c to way Must k k' rest p' (xs ++ scope) later env' top
        under d' v b')
    simulate (join xs bb c) to way Must k k' block p scope later env top under d w b =
        join_simulated l a cells stack lay items begins s calls_n n f q pf framed j m outer d0 u xs
        bb c to way Must k k' block p scope later env top under d w b
        (simulate bb (map (place_of a) xs) (Follows k) (Needed c env Must) (suc k) b.emits.0
        b.emits.1 p scope (uses c ++ later) env top None d w
        (inner l a cells stack lay items begins s calls_n n f q pf framed j m outer d0 u xs bb c
        to way Must k k' block p scope later env top under d w b))
        (λ rs env' d' v b'. simulate c to way Must b.emits.0 k' b.emits.3.0
        (p + length (b.emits.1 ++ Label k ∷ [])) (xs ++ scope) later env' top under d' v b')
    simulate (give os) to way Must k k' block p scope later env top under d w b =
        give_simulated l a cells stack lay items begins s calls_n n f q pf framed j m outer d0 u
        found os to way Must k k' block p scope later env top under d w b
    simulate (tail g site os) to way Must k k' block p scope later env top under d w b =
        tail_simulated l a cells stack lay items begins s calls_n n called f q pf framed j m outer
        d0 u found total g site os to way Must k k' block p scope later env top under d w b
    simulate (choose as') to way Must k k' block p scope later env top under d w b =
        choice l a cells stack lay items begins s calls_n n f q pf framed j m outer d0 u as' to way
        Must k k' block p scope later env top under d w
        (elim b.emits [
          | inl h ↦
              searched l a cells stack lay items begins s calls_n n f q pf framed j m outer d0 u to
              way Must scope later env top under w as' k k' block p d b h
              (simulate_each as' to way Must scope later env top under w)
          | inr h ↦
              whichever
              (EmitsLast l a cells stack (words_at a f) (slots_of (place_of a) (variables q))
              framed to way as' k k' block)
              (EmitsArms l a cells stack (words_at a f) (slots_of (place_of a) (variables q))
              framed to way as' k k' block) (first_arm_goes_last way as')
              (λ h. simulate_last as' to way Must k k' block p scope later env top under d w b h)
              (λ h.
              simulate_arms as' to way Must k k' block p scope later env top under d w
              (arms_block l a cells stack lay items begins s calls_n n f q pf framed j m outer d0 u
              as' to way Must k k' block p scope later env top under d w b h))
              h
        ])
    simulate fail to way Must k k' block p scope later env top under d w b =
        fail_simulated l a cells stack lay items begins s calls_n n f q pf framed j m outer d0 u to
        way Must k k' block p scope later env top under d w b

    pub simulate_arms : (as' : Arms) (to : List Spot) (way : Continuation)
        (Must : ℕ → Word → Type 0) (k k' : ℕ) (block : List Item) (p : ℕ) (scope later : List ℕ)
        (env : Env) (top : ℕ) (under : Option ℕ) (d : Data) (w : World)
        → ArmsBlock l a cells stack lay items begins s calls_n n f q pf framed j m outer d0 u as' to
        way Must k k' block p scope later env top under d w
        → ArmsSimulates l a cells stack lay items begins s calls_n n f q pf framed j m outer d0 u
        as' to way Must p env top under d w
    simulate_arms (otherwise c) to way Must k k' block p scope later env top under d w b =
        last_arm l a cells stack lay items begins s calls_n n f q pf framed j m outer d0 u c to way
        Must k k' block p scope later env top under d w
        (simulate c to way Must k k' block p scope later env top under d w b)
    simulate_arms (arm ts c as') to way Must k k' block p scope later env top under d w b =
        let h = b.emits in
        arm_simulated l a cells stack lay items begins s calls_n n f q pf framed j m outer d0 u ts c
        as' to way Must k k' block p scope later env top under d w b h
        (λ d' b'. simulate c to (continued_by_jump way) Must (suc k) h.0 h.1
        (p + length (tests_items l a k ts)) scope later env top under d' w b')
        (λ d' b'. simulate_arms as' to way Must h.0 k' h.3.0
        (p + length (tests_items l a k ts ++ (h.1 ++ Label k ∷ []))) scope later env top under
        d' w b')

    simulate_each : (as' : Arms) (to : List Spot) (way : Continuation) (Must : ℕ → Word → Type 0)
        (scope later : List ℕ) (env : Env) (top : ℕ) (under : Option ℕ) (w : World)
        → EachSimulates l a cells stack lay items begins s calls_n n f q pf framed j m outer d0 u to
        way Must scope later env top under w as'
    simulate_each (otherwise c) to way Must scope later env top under w
        = λ k k' block p d b. simulate c to way Must k k' block p scope later env top under d w b
    simulate_each (arm ts c as') to way Must scope later env top under w = (
      (λ k k' block p d b. simulate c to (continued_by_jump way) Must k k' block p scope later
          env top under d w b),
      simulate_each as' to way Must scope later env top under w,
    )

    pub simulate_last : (as' : Arms) (to : List Spot) (way : Continuation)
        (Must : ℕ → Word → Type 0) (k k' : ℕ) (block : List Item) (p : ℕ) (scope later : List ℕ)
        (env : Env) (top : ℕ) (under : Option ℕ) (d : Data) (w : World)
        → Block l a cells stack lay items begins f q framed pf.slots j m outer d0 u n (choose as')
        to way Must k k' block p scope later env top under d w
        → EmitsLast l a cells stack (words_at a f) (slots_of (place_of a) (variables q)) framed to
        way as' k k' block
        → ArmsSimulates l a cells stack lay items begins s calls_n n f q pf framed j m outer d0 u
        as' to way Must p env top under d w
    simulate_last (otherwise c) to way Must k k' block p scope later env top under d w b h
        = absurd h
    simulate_last (arm ts c as') to way Must k k' block p scope later env top under d w b h =
        let test = match_items k (source l a h.0.left) h.0.right in
        turned_arm l a cells stack lay items begins s calls_n n f q pf framed j m outer d0 u ts h.0
        c as' to way Must k k' block p scope later env top under d w h.1 b (h.2, h.3, h.4, h.5)
        (λ d' b'. simulate c to way Must h.2 k' h.5.0 (p + length (test ++ (h.3 ++ Label k ∷ [])))
        scope later env top under d' w b')
        (λ d' b'. simulate_arms as' to (continued_by_jump way) Must (suc k) h.2 h.3
        (p + length test) scope later env top under d' w b')

    -- a comparison that decides the choice right behind it
    pub simulate_decided : (c : Code) (g : PrimOp) (x : ℕ) (o o' : Operand) (to : List Spot)
        (way : Continuation) (Must : ℕ → Word → Type 0) (k k' : ℕ) (block : List Item) (p : ℕ)
        (scope later : List ℕ) (env : Env) (top : ℕ) (under : Option ℕ) (d : Data) (w : World)
        → Block l a cells stack lay items begins f q framed pf.slots j m outer d0 u n
        (prim g x o o' c) to way Must k k' block p scope later env top under d w
        → decides g x c ≡ true
        → EmitsDecided l a cells stack (words_at a f) (slots_of (place_of a) (variables q)) framed g
        (source l a o) (source l a o') to way c k k' block
        → Simulates l a cells stack lay items begins f q framed pf.slots j m outer d0 u n calls_n
        (prim g x o o' c) to way Must p env top under d w
    simulate_decided (choose as') g x o o' to way Must k k' block p scope later env top under d w b
        is h =
        whichever
        (EmitsDecidedLast l a cells stack (words_at a f) (slots_of (place_of a) (variables q))
        framed g (source l a o) (source l a o') to way as' k k' block)
        (EmitsDecidedFirst l a cells stack (words_at a f) (slots_of (place_of a) (variables q))
        framed g (source l a o) (source l a o') to way as' k k' block)
        (first_arm_goes_last way as')
        (λ z. simulate_decided_last as' g x o o' to way Must k k' block p scope later env top under
        d w b is z)
        (λ z. simulate_decided_first as' g x o o' to way Must k k' block p scope later env top under
        d w b is z) h
    simulate_decided (set y r c) g x o o' to way Must k k' block p scope later env top under d w b
        is h = absurd h
    simulate_decided (prim y z r e c) g x o o' to way Must k k' block p scope later env top under d
        w b is h = absurd h
    simulate_decided (load y r i c) g x o o' to way Must k k' block p scope later env top under d w
        b is h = absurd h
    simulate_decided (save r i e c) g x o o' to way Must k k' block p scope later env top under d w
        b is h = absurd h
    simulate_decided (take ys c) g x o o' to way Must k k' block p scope later env top under d w b
        is h = absurd h
    simulate_decided (put r c) g x o o' to way Must k k' block p scope later env top under d w b is
        h = absurd h
    simulate_decided (get y c) g x o o' to way Must k k' block p scope later env top under d w b is
        h = absurd h
    simulate_decided (call y site os ys c) g x o o' to way Must k k' block p scope later env top
        under d w b is h = absurd h
    simulate_decided (join ys r c) g x o o' to way Must k k' block p scope later env top under d w b
        is h = absurd h
    simulate_decided (give os) g x o o' to way Must k k' block p scope later env top under d w b is
        h = absurd h
    simulate_decided (tail y site os) g x o o' to way Must k k' block p scope later env top under d
        w b is h = absurd h
    simulate_decided fail g x o o' to way Must k k' block p scope later env top under d w b is h
        = absurd h

    pub simulate_decided_first : (as' : Arms) (g : PrimOp) (x : ℕ) (o o' : Operand) (to : List Spot)
        (way : Continuation) (Must : ℕ → Word → Type 0) (k k' : ℕ) (block : List Item) (p : ℕ)
        (scope later : List ℕ) (env : Env) (top : ℕ) (under : Option ℕ) (d : Data) (w : World)
        → Block l a cells stack lay items begins f q framed pf.slots j m outer d0 u n
        (prim g x o o' (choose as')) to way Must k k' block p scope later env top under d w
        → decides g x (choose as') ≡ true
        → EmitsDecidedFirst l a cells stack (words_at a f) (slots_of (place_of a) (variables q))
        framed g (source l a o) (source l a o') to way as' k k' block
        → Simulates l a cells stack lay items begins f q framed pf.slots j m outer d0 u n calls_n
        (prim g x o o' (choose as')) to way Must p env top under d w
    simulate_decided_first (otherwise c) g x o o' to way Must k k' block p scope later env top under
        d w b is h = absurd h
    simulate_decided_first (arm ts c as') g x o o' to way Must k k' block p scope later env top
        under d w b is h =
        decided_first l a cells stack lay items begins s calls_n n f q pf framed j m outer d0 u g x
        o o' ts c as' to way Must k k' block p scope later env top under d w b
        (decided g x ts c as' is) h
        (λ v d' b'. simulate c to (continued_by_jump way) Must (suc k) h.0 h.1
        (p + length
        (branch_items (other_condition g (tested ts)) k (source l a o) (source l a o')))
        (x ∷ scope) later (with_var x v env) top under d' w b')
        (λ v d' b'. simulate_arms as' to way Must h.0 k' h.3.0
        (p + length
        (branch_items (other_condition g (tested ts)) k (source l a o) (source l a o')
        ++ (h.1 ++ Label k ∷ []))) (x ∷ scope) later (with_var x v env) top under d' w b')

    pub simulate_decided_last : (as' : Arms) (g : PrimOp) (x : ℕ) (o o' : Operand) (to : List Spot)
        (way : Continuation) (Must : ℕ → Word → Type 0) (k k' : ℕ) (block : List Item) (p : ℕ)
        (scope later : List ℕ) (env : Env) (top : ℕ) (under : Option ℕ) (d : Data) (w : World)
        → Block l a cells stack lay items begins f q framed pf.slots j m outer d0 u n
        (prim g x o o' (choose as')) to way Must k k' block p scope later env top under d w
        → decides g x (choose as') ≡ true
        → EmitsDecidedLast l a cells stack (words_at a f) (slots_of (place_of a) (variables q))
        framed g (source l a o) (source l a o') to way as' k k' block
        → Simulates l a cells stack lay items begins f q framed pf.slots j m outer d0 u n calls_n
        (prim g x o o' (choose as')) to way Must p env top under d w
    simulate_decided_last (otherwise c) g x o o' to way Must k k' block p scope later env top under
        d w b is h = absurd h
    simulate_decided_last (arm ts c as') g x o o' to way Must k k' block p scope later env top under
        d w b is h =
        decided_last l a cells stack lay items begins s calls_n n f q pf framed j m outer d0 u g x o
        o' ts c as' to way Must k k' block p scope later env top under d w b
        (decided g x ts c as' is) h
        (λ v d' b'. simulate_arms as' to (continued_by_jump way) Must (suc k) h.0 h.1
        (p + length (branch_items (condition g (tested ts)) k (source l a o) (source l a o')))
        (x ∷ scope) later (with_var x v env) top under d' w b')
        (λ v d' b'. simulate c to way Must h.0 k' h.3.0
        (p + length
        (branch_items (condition g (tested ts)) k (source l a o) (source l a o')
        ++ (h.1 ++ Label k ∷ []))) (x ∷ scope) later (with_var x v env) top under d' w b')

module _ (l : Program) (a : Assignment) (cells stack : ℕ) (lay : Layout) (items : List Item)
    (begins : List ℕ) (s : Setting l a cells stack lay items begins) where
  -- calls with so many units
  pub calls_simulated : (n : ℕ) → CallsSimulated l a cells stack lay items begins
      (calls l (words_at a) (room l a cells stack lay items begins) n) n
  unfolding calls
  calls_simulated zero f q t m outer vs under bound w d is_q found h base sp total link home args
      units =
      waits_here l a cells stack lay items begins s f q t (m ∷ outer) d w
      (λ rs w' p calls'. (d' : Data) ×
      ((p ≡ at (bases stack) lay items m d') ×
      ((calls' ≡ outer) ×
      (Back l a cells stack lay f bound d (result_spots 10 q.results) rs d' w'
      × (length rs ≡ q.results))))) is_q found (omega arith)
  calls_simulated (suc n) f q t m outer vs under bound w d is_q found h base sp total link home args
      units =
      let more = calls_simulated n in
      call_simulated l a cells stack lay items begins s n f q (s.fine f q is_q)
      (λ framed j m' outer' d0 u k k' block p env d' w' found' total' b.
      simulate l a cells stack lay items begins s
      (calls l (words_at a) (room l a cells stack lay items begins) n) n more f q
      (s.fine f q is_q) framed j m' outer' d0 u found' total' q.body (result_spots 10 q.results)
      Returns (NoMust l a cells stack lay items begins s f q (s.fine f q is_q)) k k' block p
      q.params [] env (u + words_at a f) (Some u) d' w' b)
      t m outer vs under bound w d is_q found h base sp total link home args units
