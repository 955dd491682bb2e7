-- A call of a procedure, from its label to its return.
use Rattle.std.proofs.Common.{◌≡◌, ℕ, zero, suc, ◌+◌, ◌-◌, ◌*◌, ◌≤◌, List, [], ◌∷◌, map, length, cond, Bool, true, false, Some, None, refl, sym, ◌∙◌, subst, arith}
use Rattle.std.specs.Prelude.{Option, nat_eq, nat_lt, slice_get}
use Rattle.std.proofs.lemmas.Bool.Decides.{nat_tests}
use Rattle.std.proofs.lemmas.Option.{slice_get_within}
use Rattle.low_code.specs.Tree.{Procedure, Program}
use Rattle.low_code.specs.Formed.{variables}
use Rattle.low_code.specs.Values.{Word, Env, World, with_vars, no_vars, need, gives, stops, stack_full as stack_full', missing, out_of_units}
use Rattle.low_code.specs.Run.{code, calls, spent, spend, with_result_count, body}
use Rattle.register_alloc.specs.Fits.{slots_of}
use Rattle.register_alloc.specs.Assignment.{Assignment, place_of, words_at}
use Rattle.rv32_items.specs.declared.Item.{Item}
use Rattle.rv32_items.specs.declared.Item.TheVariants.{Label}
use Rattle.rv32_items.specs.Course.{Layout, Point, label_from, address_from}
use Rattle.rv32_select.specs.declared.source.Continuation.TheVariants.{Returns}
use Rattle.rv32_select.specs.Emit.{argument_spots, result_spots}
use Rattle.rv32_select.proofs.Courses.{Stands, stays}
use Rattle.rv32_select.specs.IsSelected.{is_lasting}
use Rattle.limits.specs.Limits.{stack_end}
use Rattle.rv32_select.proofs.Straight.{Data, at}
use Rattle.rv32_select.proofs.Relation.{bases, regs_of, AllHold, HoldsWorld, Back, quiet, Does', does_after, does_then, Given, HasBase}
use Rattle.rv32_select.proofs.PlaceFacts.{ProcedureFine, Setting}
use Rattle.rv32_select.proofs.BlockFacts.{room, Block, Simulates, still_scoped, own_at, free_own}
use Rattle.rv32_select.proofs.ProcedureEntry.{NoMust, at_stands, entered, stack_is_full}
use Rattle.seq.proofs.Counted.{among_all}

-- no unit is left, and the machine waits at the procedure's label
pub waits_here : (l : Program) (a : Assignment) (cells stack : ℕ) (lay : Layout) (items : List Item)
    (begins : List ℕ) (s : Setting l a cells stack lay items begins) (f : ℕ) (q : Procedure) (t : ℕ)
    (open_calls : List ℕ) (d : Data) (w : World) (G : List Word → World → Point → List ℕ → Type 0)
    → slice_get l.procs f ≡ Some q → label_from 0 items f ≡ Some t → w.left ≡ 0
    → Does' lay items begins l.width cells G (at (bases stack) lay items t d) open_calls w
    (stops out_of_units w)
waits_here l a cells stack lay items begins s f q t open_calls d w G is_q found e =
    let here = s.procedures f q is_q in
    let first = (subst (λ x. Stands items here.place x) here.emits.is here.stands).0 in
    let two : Some here.place ≡ Some t = sym (s.once here.place f first) ∙ found in
    let place : here.place ≡ t = cc in (
      at (bases stack) lay items t d,
      (
        open_calls,
        (
          quiet lay items begins w w
              (stays lay items w.input (at (bases stack) lay items t d) open_calls) refl refl refl
              refl refl,
          record {
            proc = f;
            stands = subst (λ x. slice_get items x ≡ Some (Label f)) place first;
            is_procedure = s.begins_procedures f (slice_get_within l.procs f q is_q);
            spent = e;
          },
        ),
      ),
    )

module _ (l : Program) (a : Assignment) (cells stack : ℕ) (lay : Layout) (items : List Item)
    (begins : List ℕ) (s : Setting l a cells stack lay items begins) (n f : ℕ) (q : Procedure)
    (pf : ProcedureFine l a f q) where
  -- what is to be known of the procedure's block
  abbrev pub BodySimulates : Type 0
  BodySimulates =
      (framed : Bool) (j m : ℕ) (outer : List ℕ) (d0 : Data) (u k k' : ℕ) (block : List Item)
      (p : ℕ) (env : Env) (d : Data) (w : World)
      → address_from 0 items lay (lay.address m) ≡ Some m → 4 * (j + (1 + pf.slots) + u) ≡ stack
      → Block l a cells stack lay items begins f q framed pf.slots j m outer d0 u n q.body
      (result_spots 10 q.results) Returns (NoMust l a cells stack lay items begins s f q pf) k
      k' block p q.params [] env (u + words_at a f) (Some u) d w
      → Simulates l a cells stack lay items begins f q framed pf.slots j m outer d0 u n
      (calls l (words_at a) (room l a cells stack lay items begins) n) q.body
      (result_spots 10 q.results) Returns (NoMust l a cells stack lay items begins s f q pf) p
      env (u + words_at a f) (Some u) d w

  pub call_simulated : BodySimulates → (t m : ℕ) (outer : List ℕ) (vs : List Word) (under bound : ℕ)
      (w : World) (d : Data)
      → slice_get l.procs f ≡ Some q → label_from 0 items f ≡ Some t
      → HoldsWorld l a cells stack lay d w → HasBase (is_lasting a) (stack_end - stack) d
      → d.regs 2 ≡ (bases stack).stack + 4 * bound → 4 * (bound + under) ≡ stack
      → d.regs 1 ≡ lay.address m → address_from 0 items lay (lay.address m) ≡ Some m
      → AllHold l.width (argument_spots 0 (map (place_of a) q.params)) vs (regs_of d)
      → w.left ≤ suc n
      → Does' lay items begins l.width cells
      (λ rs w' p calls'. (d' : Data) ×
      ((p ≡ at (bases stack) lay items m d') ×
      ((calls' ≡ outer) ×
      (Back l a cells stack lay f bound d (result_spots 10 q.results) rs d' w'
      × (length rs ≡ q.results)))))
      (at (bases stack) lay items t d) (m ∷ outer) w
      (calls l (words_at a) (room l a cells stack lay items begins) (suc n) f vs under w)
  unfolding calls
  call_simulated bodies t m outer vs under bound w d is_q found h base sp total link home args units
      = by_units w.left refl
    where
      G : List Word → World → Point → List ℕ → Type 0
      G rs w' p calls' = (d' : Data) ×
          ((p ≡ at (bases stack) lay items m d') ×
          ((calls' ≡ outer) ×
          (Back l a cells stack lay f bound d (result_spots 10 q.results) rs d' w'
          × (length rs ≡ q.results))))

      by_length : (vs' : List Word) (w' : World) (d' : Data)
          → Back l a cells stack lay f bound d (result_spots 10 q.results) vs' d' w' → (b : Bool)
          → nat_eq (length vs') q.results ≡ b
          → Does' lay items begins l.width cells
          (λ rs w' p calls'. (d' : Data) ×
          ((p ≡ at (bases stack) lay items m d')
          × ((calls' ≡ outer) ×
          (Back l a cells stack lay f bound d (result_spots 10 q.results) rs d' w'
          × (length rs ≡ q.results))))) (at (bases stack) lay items m d') outer w'
          (cond b (gives vs' w') (stops missing w'))
      by_length vs' w' d' back false e = tt
      by_length vs' w' d' back true e = (
        at (bases stack) lay items m d',
        (
          outer,
          (
            quiet lay items begins w' w'
                (stays lay items w'.input (at (bases stack) lay items m d') outer) refl refl refl
                refl
                refl,
            (d', (refl, (refl, (back, grind (arith, nat_tests))))),
          ),
        ),
      )

      by_limit : (left : ℕ) → w.left ≡ suc left → (env : Env)
          → with_vars q.params vs no_vars ≡ Some env → (b : Bool)
          → nat_lt stack (4 * (under + words_at a f)) ≡ b
          → Does' lay items begins l.width cells
          (λ rs w' p calls'. (d' : Data) ×
          ((p ≡ at (bases stack) lay items m d')
          × ((calls' ≡ outer) ×
          (Back l a cells stack lay f bound d (result_spots 10 q.results) rs d' w'
          × (length rs ≡ q.results)))))
          (at (bases stack) lay items t d) (m ∷ outer) w (elim b [
            | true ↦ stops stack_full' (spent f (under + words_at a f) left w)
            | false ↦ with_result_count q.results
                (code l (words_at a) (room l a cells stack lay items begins)
                (calls l (words_at a) (room l a cells stack lay items begins) n) env
                (under + words_at a f) (Some under) q.body (spent f (under + words_at a f) left w))
          ])
      by_limit left e env bind true over = stack_is_full l a cells stack lay items begins s f q pf t
          m bound under left outer vs w d is_q found h base sp total link args e
          (grind (arith, nat_tests))
      by_limit left e env bind false fits =
          let room_is : 4 * (under + words_at a f) ≤ stack = grind (arith, nat_tests) in
          let z = entered l a cells stack lay items begins s f q pf t m bound under left outer vs w
          d is_q found h base sp total link args e env room_is bind in
          let st = at_stands l a cells stack lay items begins s f q pf t m bound under left outer vs
          w d is_q found h base sp total link args e in
          let words = pf.words in
          let j = bound - (1 + pf.slots) in
          let w' = spent f (under + words_at a f) left w in
          let whole : bound - (1 + pf.slots) + (1 + pf.slots) ≡ bound = omega arith in
          let block : Block l a cells stack lay items begins f q st.emits.framed pf.slots
          (bound - (1 + pf.slots)) m outer d under n q.body (result_spots 10 q.results) Returns
          (NoMust l a cells stack lay items begins s f q pf) st.first st.last st.emits.block
          z.start q.params [] env (under + words_at a f) (Some under) z.to
          (spent f (under + words_at a f) left w) = record {
            emits = st.emits.body;
            stands = z.stands;
            ready = tt;
            above = st.above;
            fine = pf.body;
            scoped = λ x v k. among_all x q.params
                (still_scoped q.params vs [] no_vars env bind (λ y u k'. absurd (cc)) x v k);
            owned = λ x k. own_at l a f (slots_of (place_of a) (variables q)) x q.params pf.params.1
                k;
            must = λ x v k. absurd k;
            clear = λ x v k. absurd k;
            to_own = free_own l a f (slots_of (place_of a) (variables q))
                (result_spots 10 q.results) pf.results;
            to_differ = pf.results_differ;
            in_registers = refl;
            stood = z.stood;
            base = base;
            left = omega arith;
            top_is = omega arith;
            under_is = λ v k. ((cc), refl);
          } in
          let done = bodies st.emits.framed (bound - (1 + pf.slots)) m outer d under st.first
          st.last st.emits.block z.start env z.to w' home (omega arith) block in
          let answer = code l (words_at a) (room l a cells stack lay items begins)
          (calls l (words_at a) (room l a cells stack lay items begins) n) env
          (under + words_at a f) (Some under) q.body w' in
          let GB = Given l a cells stack lay items st.emits.framed f (bound - (1 + pf.slots))
          pf.slots d m outer (result_spots 10 q.results) Returns
          (NoMust l a cells stack lay items begins s f q pf) in
          let G' = λ (rs : List Word) (w' : World) (p : Point) (calls' : List ℕ). (d' : Data)
          × ((p ≡ at (bases stack) lay items m d')
          × ((calls' ≡ outer) ×
          (Back l a cells stack lay f bound d (result_spots 10 q.results) rs d' w'
          × (length rs ≡ q.results)))) in
          does_after lay items begins l.width cells G' (with_result_count q.results answer) z.ran
          (does_then lay items begins l.width cells GB G' (at (bases stack) lay items z.start z.to)
          (m ∷ outer) w'
          answer (λ rs w'. cond (nat_eq (length rs) q.results) (gives rs w') (stops missing w'))
          done
          (λ rs v p' c' le given.
          let back = subst
          (λ x. Back l a cells stack lay f x d (result_spots 10 q.results) rs given.0 v) whole
          given.1.1.1 in
          subst (λ x. Does' lay items begins l.width cells G' x c' v
          (cond (nat_eq (length rs) q.results) (gives rs v) (stops missing v))) (sym given.1.0)
          (subst (λ x. Does' lay items begins l.width cells G'
          (at (bases stack) lay items m given.0) x v
          (cond (nat_eq (length rs) q.results) (gives rs v) (stops missing v)))
          (sym given.1.1.0)
          (by_length rs v given.0 back (nat_eq (length rs) q.results) refl))))

      by_vars : (left : ℕ) → w.left ≡ suc left → (r : Option Env)
          → with_vars q.params vs no_vars ≡ r
          → Does' lay items begins l.width cells
          (λ rs w' p calls'. (d' : Data) ×
          ((p ≡ at (bases stack) lay items m d')
          × ((calls' ≡ outer) ×
          (Back l a cells stack lay f bound d (result_spots 10 q.results) rs d' w'
          × (length rs ≡ q.results)))))
          (at (bases stack) lay items t d) (m ∷ outer) w
          (need r w
          (λ env. body l (words_at a) (room l a cells stack lay items begins)
          (calls l (words_at a) (room l a cells stack lay items begins) n) f under left q env
          w))
      by_vars left e None k = tt
      by_vars left e (Some env) k = by_limit left e env k
          (nat_lt stack (4 * (under + words_at a f))) refl

      by_units : (r : ℕ) → w.left ≡ r
          → Does' lay items begins l.width cells
          (λ rs w' p calls'. (d' : Data) ×
          ((p ≡ at (bases stack) lay items m d')
          × ((calls' ≡ outer) ×
          (Back l a cells stack lay f bound d (result_spots 10 q.results) rs d' w'
          × (length rs ≡ q.results)))))
          (at (bases stack) lay items t d) (m ∷ outer) w
          (spend r w
          (λ left. need (slice_get l.procs f) w
          (λ q. need (with_vars q.params vs no_vars) w
          (λ env. body l (words_at a) (room l a cells stack lay items begins)
          (calls l (words_at a) (room l a cells stack lay items begins) n) f under left q env
          w))))
      by_units zero e = waits_here l a cells stack lay items begins s f q t (m ∷ outer) d w
          (λ rs w' p calls'. (d' : Data) ×
          ((p ≡ at (bases stack) lay items m d') ×
          ((calls' ≡ outer) ×
          (Back l a cells stack lay f bound d (result_spots 10 q.results) rs d' w'
          × (length rs ≡ q.results))))) is_q found e
      by_units (suc left) e =
          subst (λ o. Does' lay items begins l.width cells
          (λ rs w' p calls'. (d' : Data) ×
          ((p ≡ at (bases stack) lay items m d')
          × ((calls' ≡ outer) ×
          (Back l a cells stack lay f bound d (result_spots 10 q.results) rs d' w'
          × (length rs ≡ q.results)))))
          (at (bases stack) lay items t d) (m ∷ outer) w
          (need o w
          (λ q. need (with_vars q.params vs no_vars) w
          (λ env. body l (words_at a) (room l a cells stack lay items begins)
          (calls l (words_at a) (room l a cells stack lay items begins) n) f under left q env
          w)))) (sym is_q)
          (by_vars left e (with_vars q.params vs no_vars) refl)
