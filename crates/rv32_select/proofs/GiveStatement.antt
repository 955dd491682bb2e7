-- Words that a block gives.
use Rattle.std.proofs.Common.{◌≡◌, ℕ, suc, ◌+◌, ◌≤◌, List, [], ◌∷◌, ◌++◌, length, get_or, Some, None, inr, refl, sym, ap, ◌∙◌, subst, arith, Bool, inl}
use Rattle.std.specs.Prelude.{Option, pos, slice_get}
use Rattle.rv32_isa.specs.declared.instr.Instr.TheVariants.{Jalr}
use Rattle.rv32_machine.specs.Steps.{set_reg}
use Rattle.parallel_move.specs.declared.Spot.{Spot}
use Rattle.parallel_move.specs.Moves.{Values}
use Rattle.low_code.specs.declared.program.Operand.{Operand}
use Rattle.low_code.specs.Tree.{give, Procedure, Program}
use Rattle.low_code.specs.Formed.{variables}
use Rattle.low_code.specs.Values.{Word, Env, World, need, gives}
use Rattle.low_code.specs.Run.{Calls, code, operands}
use Rattle.register_alloc.specs.Fits.{slots_of}
use Rattle.register_alloc.specs.Assignment.{Assignment, place_of, words_at}
use Rattle.rv32_items.specs.declared.Item.{Item}
use Rattle.rv32_items.specs.declared.Item.TheVariants.{Label, Plain, Jump}
use Rattle.rv32_items.specs.Course.{Layout, address_from}
use Rattle.rv32_select.specs.declared.source.Continuation.{Continuation}
use Rattle.rv32_select.specs.declared.source.Continuation.TheVariants.{Returns, Follows, Jumps}
use Rattle.rv32_select.specs.Emit.{plain, moves_code, number_moves, leave_code, return_items, result_spots}
use Rattle.rv32_select.specs.IsSelected.{sources, way_out}
use Rattle.rv32_select.proofs.Courses.{Stands, front, back, stays}
use Rattle.rv32_select.proofs.Straight.{Data, good_reg, at}
use Rattle.rv32_select.proofs.JumpStretches.{with_regs, jumped, jumps, returns_to, there_less, address_small}
use Rattle.rv32_select.proofs.FrameViews.{spots}
use Rattle.rv32_select.proofs.OperandsRead.{read, IsPlace}
use Rattle.rv32_select.proofs.Gathering.{AllPlaces, gathered}
use Rattle.rv32_select.proofs.Relation.{bases, AllHold, home_kept, Stood, Back, Ran, ran_on, quiet, Does', does_after, Given, Needed}
use Rattle.rv32_select.proofs.PlaceFacts.{IsOwn, AllOwn, ProcedureFine, Setting}
use Rattle.rv32_select.proofs.BlockFacts.{Block, Simulates, Changed, InRegisters, Ready, own_place, own_places, world_kept, stood_changed}
use Rattle.rv32_select.proofs.OneBound.{cut, ready_at, plain_ran}
use Rattle.rv32_select.proofs.WordStatements.{stood_same}
use Rattle.rv32_select.proofs.BlockEnds.{all_hold, results_in_registers, same_registers, leaves, world_same, good_jumped, jumped_reg, jumped_spot, operands_read}
use Rattle.rv32_machine.proofs.Registers.{set_there}

pub all_same : (l : Program) (lay : Layout) (stack j slots : ℕ) (to : List Spot) (vs : List Word)
    (u u' : Values) → AllPlaces lay.code (bases stack) j slots to
    → ((t : Spot) → IsPlace lay.code (bases stack) j slots t → u' t ≡ u t) → AllHold l.width to vs u
    → AllHold l.width to vs u'
all_same l lay stack j slots [] vs u u' o e h = tt
all_same l lay stack j slots (t ∷ to) [] u u' o e h = tt
all_same l lay stack j slots (t ∷ to) (v ∷ vs) u u' o e h
    = (e t o.0 ∙ h.0, all_same l lay stack j slots to vs u u' o.1 e h.1)

module _ (l : Program) (a : Assignment) (cells stack : ℕ) (lay : Layout) (items : List Item)
    (begins : List ℕ) (s : Setting l a cells stack lay items begins) (calls_n : Calls) (n : ℕ)
    (f : ℕ) (q : Procedure) (pf : ProcedureFine l a f q) (framed : Bool) (j m : ℕ) (outer : List ℕ)
    (d0 : Data) (u : ℕ) (found : address_from 0 items lay (lay.address m) ≡ Some m) where
  abbrev own : ℕ
  own = slots_of (place_of a) (variables q)

  -- what stands in this frame stands behind a jump
  pub stood_jumped : (p : ℕ) (i : Item) (Needs : ℕ → Word → Type 0) (d : Data) (w : World)
      → slice_get items p ≡ Some i →
      ((y : ℕ) (v : Word) → Needs y v → IsOwn l a f (slots_of (place_of a) (variables q))
      (place_of a y))
      → Stood l a cells stack lay framed f j pf.slots d0 (lay.address m) Needs d w
      → Stood l a cells stack lay framed f j pf.slots d0 (lay.address m) Needs
      (jumped (bases stack) lay items p 0 d) w
  stood_jumped p i Needs d w here owned st =
      let d' = jumped (bases stack) lay items p 0 d in
      let world = world_same l a cells stack lay d d' w st.world
      (good_jumped l a cells stack lay items begins s p 0 i d here st.world.good)
      (jumped_reg l a cells stack lay items begins s p 0 3 d (omega arith) (omega arith)
      (omega arith))
      (jumped_reg l a cells stack lay items begins s p 0 4 d (omega arith) (omega arith)
      (omega arith)) refl refl in
      stood_same l a cells stack lay framed f j pf.slots (slots_of (place_of a) (variables q)) d0
      (lay.address m) Needs Needs d d' w w pf.enough st world
      (home_kept l a cells stack lay framed j (lay.address m) d d'
      (jumped_reg l a cells stack lay items begins s p 0 1 d (omega arith) (omega arith)
      (omega arith)) refl st.home)
      (jumped_reg l a cells stack lay items begins s p 0 2 d (omega arith) (omega arith)
      (omega arith)) refl (λ t. refl)
      (λ t o. jumped_spot l a cells stack lay items begins s p 0 j pf.slots d t (omega arith) o)
      (λ y v h. (h, owned y v h))

  -- the frame goes, and the procedure returns
  pub returns_from : (p : ℕ) (vs : List Word) (Must : ℕ → Word → Type 0) (d : Data) (w : World)
      → Stands items p (return_items framed (words_at a f))
      → Stood l a cells stack lay framed f j pf.slots d0 (lay.address m) Must d w
      → AllHold l.width (result_spots 10 q.results) vs (spots lay.code (bases stack) j pf.slots d)
      → (d' : Data) ×
      (Ran lay items begins (at (bases stack) lay items p d) (m ∷ outer) w
      (at (bases stack) lay items m d') outer w
      × Back l a cells stack lay f (j + (1 + pf.slots)) d0 (result_spots 10 q.results) vs d' w)
  returns_from p vs Must d w stands st hold =
      let is = leave_code framed (words_at a f) in
      let L = leaves l a cells stack lay framed (words_at a f) j pf.slots d st.world.good st.frame
      pf.words pf.small in
      let s1 = front items p (plain is) (Plain (Jalr 0 1 (pos 0)) ∷ []) stands in
      let s2 : Stands items (p + length (plain is)) (Plain (Jalr 0 1 (pos 0)) ∷ [])
      = back items p (plain is) (Plain (Jalr 0 1 (pos 0)) ∷ []) stands in
      let n2 = p + length (plain is) in
      let ran = plain_ran l a cells stack lay items begins is p d L.to (m ∷ outer) w st.world.good
      L.does s1 in
      let regs' = set_reg L.to.regs 0 (lay.address (suc n2)) in
      let d' = with_regs L.to regs' in
      let step = returns_to (bases stack) lay items n2 m L.to w.input outer s2.0
      (L.link (lay.address m) st.home) found in
      let inside = there_less items n2 (Plain (Jalr 0 1 (pos 0))) s2.0 in
      let small = address_small lay items s.rises (suc n2) (omega arith) in
      let good = good_reg lay.code (bases stack) L.to 0 (lay.address (suc n2)) L.does.good small in
      let eights = λ (r : ℕ) (h : 8 ≤ r). set_there L.to.regs 0 (lay.address (suc n2)) r
      (omega arith) ∙ L.eights r h in (
        d',
        (
          ran_on lay items begins ran (quiet lay items begins w w step refl refl refl refl refl),
          record {
            world = world_same l a cells stack lay d d' w st.world good L.next L.end L.heap
                (ap length L.stack');
            sp = L.sp;
            untouched = record {
              above = λ t h. ap (λ x. get_or x t 0) L.stack' ∙ st.untouched.above t h;
              others = λ r k. eights r k.low ∙ st.untouched.others r k;
            };
            results = same_registers l 10 q.results vs d d' (omega arith) eights
                (results_in_registers l lay stack j pf.slots 10 q.results vs d hold);
          },
        ),
      )

  -- the words are at their spots, and what is left of the block is its way out
  way_goes : (way : Continuation) (to : List Spot) (Must : ℕ → Word → Type 0) (p : ℕ)
      (vs : List Word) (d : Data) (w : World) → Stands items p (way_out framed (words_at a f) way)
      → Ready l a cells stack lay items begins way (p + length (way_out framed (words_at a f) way))
      → InRegisters l a cells stack lay items begins f q framed pf.slots j m outer d0 u n way to
      → AllOwn l a f (slots_of (place_of a) (variables q)) to
      → ((y : ℕ) (v : Word) → Must y v → IsOwn l a f (slots_of (place_of a) (variables q))
      (place_of a y))
      → Stood l a cells stack lay framed f j pf.slots d0 (lay.address m) Must d w
      → AllHold l.width to vs (spots lay.code (bases stack) j pf.slots d)
      → Does' lay items begins l.width cells
      (Given l a cells stack lay items framed f j pf.slots d0 m outer to way Must)
      (at (bases stack) lay items p d) (m ∷ outer) w (gives vs w)
  way_goes Returns to Must p vs d w stands ready in_registers to_own owned st hold =
      let r = returns_from p vs Must d w stands st
      (subst (λ x. AllHold l.width x vs (spots lay.code (bases stack) j pf.slots d))
      in_registers hold) in (
        at (bases stack) lay items m r.0,
        (
          outer,
          (
            r.1.0,
            (
              r.0,
              (
                refl,
                (
                  refl,
                  subst (λ x. Back l a cells stack lay f (j + (1 + pf.slots)) d0 x vs r.0 w)
                      (sym in_registers) r.1.1,
                ),
              ),
            ),
          ),
        ),
      )
  way_goes (Follows k) to Must p vs d w stands ready in_registers to_own owned st hold =
      let none : p + 0 ≡ p = omega arith in
      let here = subst (λ x. slice_get items x ≡ Some (Label k)) none ready in
      let ran = quiet lay items begins w w
      (stays lay items w.input (at (bases stack) lay items p d) (m ∷ outer)) refl refl refl refl
      refl in (
        at (bases stack) lay items p d,
        (m ∷ outer, (ran, (p, (d, (s.once p k here, (refl, (refl, (st, hold)))))))),
      )
  way_goes (Jumps k) to Must p vs d w stands ready in_registers to_own owned st hold =
      let t = ready.0 in
      let to_label = s.once t k ready.1 in
      let d' = jumped (bases stack) lay items p 0 d in
      let step = jumps (bases stack) lay items p t k d w.input (m ∷ outer) stands.0 to_label in
      let ran = quiet lay items begins w w step refl refl refl refl refl in
      let hold' = all_same l lay stack j pf.slots to vs (spots lay.code (bases stack) j pf.slots d)
      (spots lay.code (bases stack) j pf.slots d')
      (own_places l a lay stack f j pf.slots (slots_of (place_of a) (variables q)) to pf.enough
      to_own)
      (λ x o. jumped_spot l a cells stack lay items begins s p 0 j pf.slots d x (omega arith) o)
      hold in (
        at (bases stack) lay items t d',
        (
          m ∷ outer,
          (
            ran,
            (
              t,
              (
                d',
                (
                  to_label,
                  (refl, (refl, (stood_jumped p (Jump 0 k) Must d w stands.0 owned st, hold'))),
                ),
              ),
            ),
          ),
        ),
      )

  pub give_simulated : (os : List Operand) (to : List Spot) (way : Continuation)
      (Must : ℕ → Word → Type 0) (k k' : ℕ) (block : List Item) (p : ℕ) (scope later : List ℕ)
      (env : Env) (top : ℕ) (under : Option ℕ) (d : Data) (w : World)
      → Block l a cells stack lay items begins f q framed pf.slots j m outer d0 u n (give os) to way
      Must k k' block p scope later env top under d w
      → Simulates l a cells stack lay items begins f q framed pf.slots j m outer d0 u n calls_n
      (give os) to way Must p env top under d w
  unfolding code
  give_simulated os to way Must k k' block p scope later env top under d w b
      = go (operands l (words_at a) env os) refl
    where
      go : (r : Option (List Word)) → operands l (words_at a) env os ≡ r
          → Does' lay items begins l.width cells
          (Given l a cells stack lay items framed f j pf.slots d0 m outer to way Must)
          (at (bases stack) lay items p d) (m ∷ outer) w (need r w (λ vs. gives vs w))
      go None e = tt
      go (Some vs) e =
          let ss = sources l a os in
          let steps = b.emits.1 in
          let is = moves_code steps ++ number_moves to ss in
          let parts = cut items p (plain is) (way_out framed (words_at a f) way) block b.emits.3
          b.stands in
          let reads = operands_read l a cells stack lay items begins s calls_n n f q pf framed j m
          outer d0 u (give os) scope env Must d w os vs b.stood b.scoped b.owned (λ x h. h)
          b.fine e in
          let places = own_places l a lay stack f j pf.slots (slots_of (place_of a) (variables q))
          to pf.enough b.to_own in
          let z = gathered lay.code (bases stack) j pf.slots steps to ss d b.emits.2
          b.stood.world.good b.stood.frame places reads.readable b.to_differ in
          let ran = plain_ran l a cells stack lay items begins is p d z.data' (m ∷ outer) w
          b.stood.world.good z.does parts.first in
          let hold = all_hold l.width (read lay.code (bases stack) j pf.slots d)
          (spots lay.code (bases stack) j pf.slots z.data') to ss vs reads.as_many z.each
          reads.are in
          let ch : Changed l stack j pf.slots lay to vs d z.data'
          = record {
            held = hold;
            others = z.others;
            sp = z.keeps.frame;
            words
                = z.keeps.words;
            outside = z.keeps.outside;
          } in
          let owned = λ (y : ℕ) (v : Word) (h : Must y v). b.owned y (b.must y v h).0 in
          let stood = stood_changed l a cells stack lay framed f j pf.slots
          (slots_of (place_of a) (variables q)) d0 (lay.address m) (Needed (give os) env Must)
          Must to vs d z.data' w w b.stood
          (world_kept l a cells stack lay j pf.slots d z.data' w b.stood.world z.does.good
          z.keeps) ch
          (home_kept l a cells stack lay framed j (lay.address m) d z.data' z.keeps.link
          (z.keeps.outside j (inl (omega arith))) b.stood.home) b.to_own
          (λ y v h. z.others (place_of a y)
          (own_place l a lay stack f j pf.slots (slots_of (place_of a) (variables q))
          (place_of a y) pf.enough (owned y v h)) (b.clear y v h) ∙ b.stood.vars y v (inr h)) in
          does_after lay items begins l.width cells
          (Given l a cells stack lay items framed f j pf.slots d0 m outer to way Must)
          (gives vs w) ran
          (way_goes way to Must (p + length (plain is)) vs z.data' w parts.more
          (ready_at l a cells stack lay items begins way (p + length block)
          (p + length (plain is) + length (way_out framed (words_at a f) way)) parts.end
          b.ready) b.in_registers b.to_own owned stood hold)
