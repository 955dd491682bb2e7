-- A run goes on by turns: what holds behind so many steps holds behind one more.
use Rattle.std.proofs.Common.{◌≡◌, ℕ, zero, suc, ◌+◌, ◌-◌, ◌<◌, ◌≤◌, List, [], ◌∷◌, ◌++◌, length, drop, length-append, None, Some, Option, Bool, true, false, append_assoc, append-nil, refl, sym, ap, ◌∙◌, subst, arith}
use Rattle.std.specs.Prelude.{◌⊎◌, slice_get}
use mathlib.Core.Logic.{inl, inr}
use Rattle.std.specs.List.{concat}
use Rattle.std.proofs.lemmas.List.Folds.{concat-append}
use Rattle.std.proofs.lemmas.List.{append_cancel_left}
use Rattle.grin_io.specs.Changes.{source_change, sink_change, BeginsWith, ReadExactly, TookExactly, SinkAtFault}
use Rattle.grin_io.specs.declared.outside.Fault.{Fault}
use Rattle.grin_io.specs.declared.outside.Fault.TheVariants.{Read, Write}
use Rattle.rv32_machine.specs.declared.machine.StepResult.TheVariants.{Read as Read'}
use Rattle.rv32_machine.specs.OneByte.{ReadsOneByte}
use Rattle.rv32_machine.specs.declared.machine.Stop.{Stop}
use Rattle.rv32_machine.specs.declared.machine.Stop.TheVariants.{Steps}
use Rattle.rv32_machine.specs.Steps.{State, Outcome, Next, Written, Asked, Ended, Trapped, Stand, state_of, Does, IsAt, step, given}
use Rattle.rv32_machine.specs.Runs.{MachineEnd, Going, Exited, Stopped, after, onward, run, piece_of, next_piece, pieces, used, continued, has_ended, MachineMatchesRun, StandsAt, AsksForMore, IsRunAnswer, Counted, BrokenByIoFault, PiecesAreTheOutput}
use Rattle.rv32_machine.proofs.Composed.{runs_compose, end_stays, input_is_used_in_order, run_none, run_more}
use Rattle.rv32_machine.proofs.Counts.{ends, all_steps, count_ends}
use Rattle.rv32_machine.proofs.OneStep.{Turns, byte_turns, end_turns, byte_used, read_piece_is}
use Rattle.rv32_machine.proofs.Sources.{narrow, behind, followed, gave_none, gave_byte, gave_end}
use Rattle.grin_io.proofs.Changes.{took_none, took_join, paused_none, broke_join}

-- ---- the run

one_more : (out left : List ℕ) (e : MachineEnd) (m : Stand) → StandsAt e Steps m
    → continued 1 (record { out = out; left = left; end = e }) ≡ after out (run 1 left (state_of m))
one_more out left (Going s) m h = ap (λ t. after out (run 1 left t)) (sym h.1.0)
one_more out left (Exited code s) m h = cc
one_more out left (Stopped kind s) m h = cc

-- the next step of a run, from where the machine stands
pub joined : (k : ℕ) (i : List ℕ) (s : State) (m : Stand) → StandsAt (run k i s).end Steps m
    → run (k + 1) i s ≡ after (run k i s).out (run 1 (run k i s).left (state_of m))
joined k i s m h =
    let r = run k i s in
    runs_compose k 1 i s ∙ one_more r.out r.left r.end m h

-- ---- the pieces

pieces_none : (i : List ℕ) (s : State) → pieces 0 i s ≡ []
unfolding pieces
pieces_none i s = refl

pieces_more : (n : ℕ) (i : List ℕ) (s : State) → pieces (suc n) i s ≡ pieces n i s
    ++ next_piece (run n i s).end
unfolding pieces
pieces_more n i s = refl

-- one more step puts what the machine's next instruction writes
pub joined_pieces : (k : ℕ) (i : List ℕ) (s : State) (m : Stand) → StandsAt (run k i s).end Steps m
    → pieces (k + 1) i s ≡ pieces k i s ++ piece_of (step (state_of m))
joined_pieces k i s m h =
    let count : k + 1 ≡ suc k = omega arith in
    ap (λ n. pieces n i s) count ∙ pieces_more k i s ∙ ap (λ p. pieces k i s ++ p)
    (next_is (run k i s).end h)
  where
    next_is : (e : MachineEnd) → StandsAt e Steps m → next_piece e ≡ piece_of (step (state_of m))
    next_is (Going s) h = ap (λ t. piece_of (step t)) (sym h.1.0)
    next_is (Exited code s) h = cc
    next_is (Stopped kind s) h = cc

-- more steps only put more
pub more_pieces : (m n : ℕ) (i : List ℕ) (s : State) → (more : List (List ℕ))
    × (pieces (m + n) i s ≡ pieces m i s ++ more)
more_pieces m zero i s =
    let count : m + 0 ≡ m = omega arith in
    ([], ap (λ n. pieces n i s) count ∙ sym (append-nil (pieces m i s)))
more_pieces m (suc n) i s =
    let h = more_pieces m n i s in
    let count : m + suc n ≡ suc (m + n) = omega arith in (
      h.0 ++ next_piece (run (m + n) i s).end,
      ap (λ n. pieces n i s) count ∙ pieces_more (m + n) i s ∙ ap
          (λ p. p ++ next_piece (run (m + n) i s).end) h.1 ∙ append_assoc (pieces m i s) h.0 _,
    )

-- a run that has ended puts no more
pub all_pieces : (m n : ℕ) (i : List ℕ) (s : State) → has_ended (run m i s).end ≡ true
    → pieces (m + n) i s ≡ pieces m i s
all_pieces m zero i s h = let count : m + 0 ≡ m = omega arith in ap (λ n. pieces n i s) count
all_pieces m (suc n) i s h =
    let count : m + suc n ≡ suc (m + n) = omega arith in
    let stays : (run (m + n) i s).end ≡ (run m i s).end = ap (λ r. r.end) (end_stays m n i s h) in
    ap (λ n. pieces n i s) count
    ∙ pieces_more (m + n) i s
    ∙ ap (λ p. p ++ next_piece (run (m + n) i s).end) (all_pieces m n i s h)
    ∙ ap (λ p. pieces m i s ++ p) (ap next_piece stays ∙ nothing (run m i s).end h)
    ∙ append-nil (pieces m i s)
  where
    nothing : (e : MachineEnd) → has_ended e ≡ true → next_piece e ≡ []
    nothing (Going s) h = cc
    nothing (Exited code s) h = refl
    nothing (Stopped kind s) h = refl

-- the bytes of the pieces
pub pieces_are_the_output : PiecesAreTheOutput
pieces_are_the_output zero i s = ap concat (pieces_none i s) ∙ sym (ap (λ r. r.out) (run_none i s))
pieces_are_the_output (suc n) i s =
    let count : n + 1 ≡ suc n = omega arith in
    ap concat (pieces_more n i s)
    ∙ concat-append (pieces n i s) (next_piece (run n i s).end)
    ∙ ap (λ l. l ++ concat (next_piece (run n i s).end)) (pieces_are_the_output n i s)
    ∙ last (run n i s).out (run n i s).left (run n i s).end
    ∙ sym (ap (λ r. r.out) (ap (λ k. run k i s) (sym count) ∙ runs_compose n 1 i s))
  where
    by_step : (i : List ℕ) (s : State) (o : Outcome)
        → concat (piece_of o) ≡ (onward (run 0) i s o).out
    by_step i s (Next t) = sym (ap (λ r. r.out) (run_none i t))
    by_step i s (Written a l bytes t) = ap (λ l. bytes ++ l) (sym (ap (λ r. r.out) (run_none i t)))
    by_step i s (Asked a) = sym (ap (λ r. r.out) (run_none (drop 1 i) (given s (slice_get i 0))))
    by_step i s (Ended code) = refl
    by_step i s (Trapped kind) = refl

    last : (out left : List ℕ) (e : MachineEnd) → out
        ++ concat (next_piece e) ≡ (continued 1 (record { out = out; left = left; end = e })).out
    last out left (Going t) = ap (λ l. out ++ l)
        (by_step left t (step t) ∙ sym (ap (λ r. r.out) (run_more 0 left t)))
    last out left (Exited code t) = append-nil out
    last out left (Stopped kind t) = append-nil out

-- what is due of more steps
more_due : (steps k : ℕ) (i : List ℕ) (s : State) → k < steps → (rest : List (List ℕ))
    × (pieces steps i s ≡ pieces (k + 1) i s ++ rest)
more_due steps k i s lt =
    let count : steps ≡ (k + 1) + (steps - (k + 1)) = omega arith in
    let g = more_pieces (k + 1) (steps - (k + 1)) i s in
    (g.0, ap (λ n. pieces n i s) count ∙ g.1)

all_put : (steps k : ℕ) (i : List ℕ) (s : State) (stop : Stop) (m : Stand) → k < steps
    → (stop ≡ Steps → ⊥) → StandsAt (run (k + 1) i s).end stop m
    → pieces steps i s ≡ pieces (k + 1) i s
all_put steps k i s stop m lt ended h =
    let count : steps ≡ (k + 1) + (steps - (k + 1)) = omega arith in
    ap (λ n. pieces n i s) count ∙ all_pieces (k + 1) (steps - (k + 1)) i s
    (ends (run (k + 1) i s).end stop m ended h)

-- ---- what is left

-- where nothing is left nothing comes back
pub none_left : (m n : ℕ) (i : List ℕ) (s : State) → (run m i s).left ≡ []
    → (run (m + n) i s).left ≡ []
none_left m n i s none =
    let u = input_is_used_in_order m n i s in
    nothing u.0 (run (m + n) i s).left (sym u.1 ∙ none)
  where
    nothing : (xs ys : List ℕ) → xs ++ ys ≡ [] → ys ≡ []
    nothing [] ys e = e
    nothing (x ∷ xs) ys e = cc

pub asks_later : (m n : ℕ) (s : State) (given : List ℕ) → AsksForMore m s given
    → AsksForMore (m + n) s given
asks_later m n s given asks byte = none_left m n (given ++ (byte ∷ [])) s (asks byte)

asks_within : (m steps : ℕ) → m ≤ steps → (s : State) (given : List ℕ) → AsksForMore m s given
    → AsksForMore steps s given
asks_within m steps le s given asks =
    let count : m + (steps - m) ≡ steps = omega arith
    in subst (λ n. AsksForMore n s given) count (asks_later m (steps - m) s given asks)

-- ---- the turns of a run

module _ {I K : Type 0} (reads : I → ℕ → Option (List ℕ) → I → Type 0) (left : I → Option (List ℕ))
    (is_over : I → Type 0) (lost : I → ℕ)
    (gives : K → List ℕ → Bool → K → Type 0) (taken : K → Option (List ℕ)) (faults : K → ℕ)
    (s : State) (first : I) (old : K) where
  -- where a run stands that goes on, what its source gave, and what its sink took
  abbrev pub Kept : (k : ℕ) → Stand → I → K → Type 0
  Kept k m input out = IsRunAnswer (source_change reads left is_over lost first input)
      (sink_change gives taken faults old out) k s Steps m

  -- at the start
  pub starts : (m : Stand) → state_of m ≡ s → m.over ≡ false → m.waiting ≡ false
      → Kept 0 m first old
  starts m at over waiting = record {
    given = [];
    ended = false;
    gave = gave_none reads left is_over lost first;
    wanted = λ e. cc;
    stays = λ i b. subst (λ q. MachineMatchesRun q i [] Steps m) (sym (run_none i s))
        (record { stands = (refl, (at, over, waiting)); used_is = refl });
    took = λ i b. took_none gives taken faults old (pieces 0 i s) (pieces_none i s);
  }

  module _ (k : ℕ) (m : Stand) (input : I) (out : K) (kept : Kept k m input out) where
    -- what one more turn says of the whole run
    pub one_turn : (more : List ℕ) (ended : Bool) (all : List ℕ) → all ≡ kept.given ++ more
        → (kept.ended ≡ true → (more ≡ []) × (ended ≡ true))
        → (later : I) → ReadExactly (source_change reads left is_over lost first later) all ended
        → (ended ≡ true → AsksForMore (k + 1) s all)
        → (new : Stand) (stop : Stop) → Turns (state_of m) more ended stop new
        → (out' : K) → TookExactly (sink_change gives taken faults out out')
        (piece_of (step (state_of m)))
        → IsRunAnswer (source_change reads left is_over lost first later)
        (sink_change gives taken faults old out') (k + 1) s stop new
    one_turn more ended all is back later gave wanted new stop t out' o = record {
      given = all;
      ended = ended;
      gave = gave;
      wanted = wanted;
      stays = λ i b.
          let h = kept.stays i (narrow kept.given more kept.ended ended all i is back b) in
          let rest = (run k i s).left in
          let q = run 1 rest (state_of m) in
          let r = t rest (behind kept.given more ended all i rest is h.used_is b) in
          let used : i ≡ all ++ q.left =
          h.used_is ∙ ap (λ l. kept.given ++ l) r.used_is ∙ sym
          (append_assoc kept.given more q.left) ∙ ap (λ l. l ++ q.left) (sym is) in
          let a : MachineMatchesRun (after (run k i s).out q) i all stop new
          = record { stands = r.stands; used_is = used } in
          subst (λ x. MachineMatchesRun x i all stop new) (sym (joined k i s m h.stands)) a;
      took = λ i b.
          let c = narrow kept.given more kept.ended ended all i is back b in
          subst (λ p. TookExactly (sink_change gives taken faults old out') p)
          (sym (joined_pieces k i s m (kept.stays i c).stands))
          (took_join gives taken faults old out out' (pieces k i s) (piece_of (step (state_of m)))
          (kept.took i c) o);
    }

    -- a turn in which nothing is asked for
    pub plain_turn : (new : Stand) (stop : Stop) → Turns (state_of m) [] kept.ended stop new
        → (out' : K) → TookExactly (sink_change gives taken faults out out')
        (piece_of (step (state_of m)))
        → IsRunAnswer (source_change reads left is_over lost first input)
        (sink_change gives taken faults old out') (k + 1) s stop new
    plain_turn new stop t out' o =
        one_turn [] kept.ended kept.given (sym (append-nil kept.given)) (λ e. (refl, e)) input
        kept.gave (λ e. asks_later k 1 s kept.given (kept.wanted e)) new stop t out' o

    -- where a byte is asked for, it would be used
    asks_here : (address : ℕ) (mid : Stand) → Does (state_of m) (step (state_of m)) (Read' address)
        mid → AsksForMore (k + 1) s kept.given
    asks_here address mid h = asks kept.ended refl
      where
        asks : (e : Bool) → kept.ended ≡ e → AsksForMore (k + 1) s kept.given
        asks true is byte = none_left k 1 (kept.given ++ (byte ∷ [])) s (kept.wanted is byte)
        asks false is byte =
            let i = kept.given ++ (byte ∷ []) in
            let r = kept.stays i (followed kept.given kept.ended byte is) in
            let rest : (run k i s).left ≡ byte ∷ []
            = append_cancel_left kept.given _ _ (sym r.used_is) in
            ap (λ x. x.left) (joined k i s m r.stands) ∙ ap (λ l. (run 1 l (state_of m)).left) rest
            ∙ byte_used (state_of m) address mid h byte

    -- a turn in which a byte is asked for
    pub read_turn : (address : ℕ) (mid new : Stand)
        → Does (state_of m) (step (state_of m)) (Read' address) mid
        → (answer : Option ℕ) → IsAt new (given (state_of mid) answer) false false → (later : I)
        → ReadsOneByte (source_change reads left is_over lost input later) answer
        → Kept (k + 1) new later out
    read_turn address mid new h (Some byte) at later one =
        let going : kept.ended ≡ false = goes kept.ended refl in
        let gave : ReadExactly (source_change reads left is_over lost first input) kept.given false
        = subst (λ e. ReadExactly (source_change reads left is_over lost first input) kept.given
        e) going kept.gave in
        one_turn (byte ∷ []) false (kept.given ++ (byte ∷ [])) refl
        (λ e. let no : true ≡ false = sym e ∙ going in cc) later
        (gave_byte reads left is_over lost first input later kept.given byte gave one) (λ e. cc) new
        Steps
        (byte_turns (state_of m) address mid new byte false h at) out
        (took_none gives taken faults out (piece_of (step (state_of m)))
        (read_piece_is (state_of m) address mid h))
      where
        goes : (e : Bool) → kept.ended ≡ e → kept.ended ≡ false
        goes false is = is
        goes true is = let no = (one.over (kept.gave.over is)).0 in cc
    read_turn address mid new h None at later one =
        one_turn [] true kept.given (sym (append-nil kept.given)) (λ e. (refl, refl)) later
        (gave_end reads left is_over lost first input later kept.given kept.ended kept.gave one)
        (λ e. asks_here address mid h) new Steps
        (end_turns (state_of m) address mid new h at) out
        (took_none gives taken faults out (piece_of (step (state_of m)))
        (read_piece_is (state_of m) address mid h))

    -- a turn that ends the run
    pub last_turn : (new : Stand) (steps : ℕ) (stop : Stop) → k < steps → (stop ≡ Steps → ⊥)
        → Turns (state_of m) [] kept.ended stop new → (out' : K)
        → TookExactly (sink_change gives taken faults out out') (piece_of (step (state_of m)))
        → IsRunAnswer (source_change reads left is_over lost first input)
        (sink_change gives taken faults old out') steps s stop new
    last_turn new steps stop lt ended t out' o =
        let h = plain_turn new stop t out' o in
        let within : k + 1 ≤ steps = omega arith in record {
          given = h.given;
          ended = h.ended;
          gave = h.gave;
          wanted = λ e. asks_within (k + 1) steps within s h.given (h.wanted e);
          stays = λ i b. let y = h.stays i b in subst (λ r. MachineMatchesRun r i h.given stop new)
              (sym (all_steps steps k i s stop new lt ended y.stands)) y;
          took = λ i b. subst (λ p. TookExactly (sink_change gives taken faults old out') p)
              (sym (all_put steps k i s stop new lt ended (h.stays i b).stands)) (h.took i b);
        }

    -- so that the steps up to it are counted
    pub counted_turn : (new : Stand) (steps : ℕ) (stop : Stop) → k < steps → (stop ≡ Steps → ⊥)
        → Turns (state_of m) [] kept.ended stop new → (out' : K)
        → TookExactly (sink_change gives taken faults out out') (piece_of (step (state_of m)))
        → Counted (source_change reads left is_over lost first input)
        (sink_change gives taken faults old out') steps s stop (k + 1) new
    unfolding last_turn plain_turn one_turn
    counted_turn new steps stop lt ended t out' o = record {
      answered = last_turn new steps stop lt ended t out' o;
      counts = λ i b. count_ends k steps i s stop m new lt ended (kept.stays i b).stands
          ((plain_turn new stop t out' o).stays i b).stands;
    }

    due_in : (steps : ℕ) (fault : Fault) → k < steps → (out' : K) → faults old ≤ faults out
        → SinkAtFault fault (sink_change gives taken faults out out') (piece_of (step (state_of m)))
        → (i : List ℕ) → BeginsWith kept.given kept.ended i
        → SinkAtFault fault (sink_change gives taken faults old out') (pieces steps i s)
    due_in steps fault lt out' later b i c =
        let h = kept.stays i c in
        let d = more_due steps k i s lt in
        let due : (pieces k i s ++ piece_of (step (state_of m))) ++ d.0 ≡ pieces steps i s
        = ap (λ l. l ++ d.0) (sym (joined_pieces k i s m h.stands)) ∙ sym d.1 in
        subst (λ p. SinkAtFault fault (sink_change gives taken faults old out') p) due
        (broke_join gives taken faults old out out' (pieces k i s)
        (piece_of (step (state_of m))) d.0 fault later (kept.took i c) b)

    -- the bytes that were given so far are used within all steps
    uses_in : (steps : ℕ) → k < steps → (i : List ℕ) → BeginsWith kept.given kept.ended i
        → length kept.given ≤ used i (run steps i s)
    uses_in steps lt i b =
        let u = input_is_used_in_order k (steps - k) i s in
        let count : k + (steps - k) ≡ steps = omega arith in
        let parts : length i ≡ length kept.given + length (run k i s).left
        = ap length (kept.stays i b).used_is ∙ length-append kept.given (run k i s).left in
        let later : length u.0 + (length i - length (run k i s).left) ≡ length i - length
        (run steps i s).left = u.2 ∙ ap (λ n. length i - length (run n i s).left) count in
        omega (arith, parts, later)

    -- a turn in which the read fails
    pub read_fails : (address : ℕ) (mid : Stand) → Does (state_of m) (step (state_of m))
        (Read' address) mid → (steps : ℕ) → k < steps → faults old ≤ faults out → (last : I)
        → reads input 1 None last
        → BrokenByIoFault (source_change reads left is_over lost first last)
        (sink_change gives taken faults old out) steps s Read
    read_fails address mid h steps lt later last refused = record {
      given = kept.given;
      ended = kept.ended;
      gave = record { last = input; gave = kept.gave; refused = refused };
      wanted = λ e. let within : k + 1 ≤ steps = omega arith
          in asks_within (k + 1) steps within s kept.given (asks_here address mid h);
      uses = uses_in steps lt;
      puts = due_in steps Read lt out later
          (paused_none gives taken faults Read out (piece_of (step (state_of m))) refl);
    }

    -- a turn in which the put fails
    pub put_fails : (steps : ℕ) → k < steps → faults old ≤ faults out → (out' : K)
        → SinkAtFault Write (sink_change gives taken faults out out') (piece_of (step (state_of m)))
        → BrokenByIoFault (source_change reads left is_over lost first input)
        (sink_change gives taken faults old out') steps s Write
    put_fails steps lt later out' b = record {
      given = kept.given;
      ended = kept.ended;
      gave = kept.gave;
      wanted = λ e. let within : k ≤ steps = omega arith
          in asks_within k steps within s kept.given (kept.wanted (met e));
      uses = uses_in steps lt;
      puts = due_in steps Write lt out' later b;
    }
      where
        met : (kept.ended ≡ true) ⊎ (Write ≡ Read) → kept.ended ≡ true
        met (inl e) = e
        met (inr e) = cc
