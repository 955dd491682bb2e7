-- Tail calls.
use Rattle.std.proofs.Common.{◌≡◌, ◌≢◌, ℕ, ◌+◌, ◌*◌, ◌<◌, ◌≤◌, List, [], ◌∷◌, ◌++◌, map, length, get_or, Some, None, inl, inr, refl, sym, ap, ◌∙◌, subst, arith, append_assoc, Bool, ◌-◌}
use Rattle.std.specs.Prelude.{Option}
use Rattle.parallel_move.specs.declared.Spot.{Spot}
use Rattle.parallel_move.specs.declared.Spot.TheVariants.{Reg, Slot, Scratch}
use Rattle.low_code.specs.declared.program.Operand.{Operand}
use Rattle.low_code.specs.Tree.{tail, Procedure, Program}
use Rattle.low_code.specs.Values.{Word, Env, World, need}
use Rattle.low_code.specs.Run.{Calls, code, operands}
use Rattle.register_alloc.specs.Assignment.{Assignment, place_of, words_at}
use Rattle.rv32_items.specs.declared.Item.{Item}
use Rattle.rv32_items.specs.declared.Item.TheVariants.{Jump}
use Rattle.rv32_items.specs.Course.{Layout, Point, address_from}
use Rattle.rv32_select.specs.declared.source.Continuation.{Continuation}
use Rattle.rv32_select.specs.declared.source.Continuation.TheVariants.{Returns}
use Rattle.rv32_select.specs.Emit.{plain, moves_code, spot_moves, number_moves, leave_code, argument_spots, result_spots}
use Rattle.rv32_select.specs.IsSelected.{sources, params_of, argument_spots_of, IsOrder}
use Rattle.limits.specs.Limits.{stack_end}
use Rattle.rv32_select.proofs.Courses.{Stands}
use Rattle.rv32_select.proofs.Straight.{Data, Does, does_on, at}
use Rattle.rv32_select.proofs.JumpStretches.{jumped, jumps}
use Rattle.rv32_select.proofs.FrameViews.{spots, in_frame}
use Rattle.rv32_select.proofs.OperandsRead.{read}
use Rattle.rv32_select.proofs.Gathering.{gathered}
use Rattle.rv32_select.proofs.Relation.{bases, regs_of, AllHold, home_kept, Back, ran_on, quiet, Does', does_after, does_map, Given, base_lasts, Keeps}
use Rattle.rv32_select.proofs.PlaceFacts.{AllFree, CallFits, ProcedureFine, Setting}
use Rattle.rv32_select.proofs.BlockFacts.{Block, Simulates, CallsSimulated, InRegisters, own_places, kept_not_own, world_kept}
use Rattle.rv32_select.proofs.OneBound.{cut, plain_ran}
use Rattle.rv32_select.proofs.BlockEnds.{all_hold, results_widen, leaves, world_same, good_jumped, jumped_reg, operands_read}

-- words in the registers of arguments are there whatever the frame, where the registers are the
-- same
pub free_hold : (l : Program) (a : Assignment) (lay : Layout) (stack j slots g : ℕ) (ss : List Spot)
    (vs : List Word) (d d' : Data) → AllFree l a g ss
    → ((r : ℕ) → 8 ≤ r → r < 32 → d'.regs r ≡ d.regs r)
    → AllHold l.width ss vs (spots lay.code (bases stack) j slots d)
    → AllHold l.width ss vs (regs_of d')
free_hold l a lay stack j slots g [] vs d d' o e h = tt
free_hold l a lay stack j slots g (s ∷ ss) [] d d' o e h = tt
free_hold l a lay stack j slots g (Reg r ∷ ss) (v ∷ vs) d d' o e h
    = (e r o.0.0 o.0.1.0 ∙ h.0, free_hold l a lay stack j slots g ss vs d d' o.1 e h.1)
free_hold l a lay stack j slots g (Slot k ∷ ss) (v ∷ vs) d d' o e h = let none = o.0
    in absurd (omega arith)
free_hold l a lay stack j slots g (Scratch ∷ ss) (v ∷ vs) d d' o e h = absurd o.0

module _ (l : Program) (a : Assignment) (cells stack : ℕ) (lay : Layout) (items : List Item)
    (begins : List ℕ) (s : Setting l a cells stack lay items begins) (calls_n : Calls) (n : ℕ)
    (called : CallsSimulated l a cells stack lay items begins calls_n n)
    (f : ℕ) (q : Procedure) (pf : ProcedureFine l a f q) (framed : Bool) (j m : ℕ) (outer : List ℕ)
    (d0 : Data) (u : ℕ) (found : address_from 0 items lay (lay.address m) ≡ Some m)
    (total : 4 * (j + (1 + pf.slots) + u) ≡ stack) where
  pub tail_simulated : (g site : ℕ) (os : List Operand) (to : List Spot) (way : Continuation)
      (Must : ℕ → Word → Type 0) (k k' : ℕ) (block : List Item) (p : ℕ) (scope later : List ℕ)
      (env : Env) (top : ℕ) (under : Option ℕ) (d : Data) (w : World)
      → Block l a cells stack lay items begins f q framed pf.slots j m outer d0 u n (tail g site os)
      to way Must k k' block p scope later env top under d w
      → Simulates l a cells stack lay items begins f q framed pf.slots j m outer d0 u n calls_n
      (tail g site os) to way Must p env top under d w
  unfolding code
  tail_simulated g site os to way Must k k' block p scope later env top under d w b
      = by_under under refl
    where
      fits : CallFits l a f g
      fits = b.fine.1

      args : List Spot
      args = argument_spots 0 (map (place_of a) fits.called.params)

      by_words : way ≡ Returns → (vs : List Word) → operands l (words_at a) env os ≡ Some vs
          → Does' lay items begins l.width cells
          (Given l a cells stack lay items framed f j pf.slots d0 m outer to way Must)
          (at (bases stack) lay items p d) (m ∷ outer) w (calls_n g vs u w)
      by_words returning vs e =
          let fit = b.fine.1 in
          let g_fine = s.fine g fit.called fit.is_called in
          let to_args = argument_spots 0 (map (place_of a) fit.called.params) in
          let args_are : argument_spots_of l a g ≡ argument_spots 0
          (map (place_of a) fit.called.params) = ap (params_of a) fit.is_called in
          let ss = sources l a os in
          let steps = b.emits.1 in
          let order = subst (λ x. IsOrder steps (spot_moves x (sources l a os))) args_are b.emits.2
          in
          let is = moves_code steps ++ (number_moves to_args ss ++ leave_code framed (words_at a f))
          in
          let block_is = subst
          (λ x. block ≡ plain
          (moves_code steps ++
          (number_moves x (sources l a os) ++ leave_code framed (words_at a f)))
          ++ Jump 0 g ∷ []) args_are b.emits.3 in
          let parts = cut items p (plain is) (Jump 0 g ∷ []) block block_is b.stands in
          let reads = operands_read l a cells stack lay items begins s calls_n n f q pf framed j m
          outer d0 u (tail g site os) scope env Must d w os vs b.stood b.scoped b.owned
          (λ x h. h) b.fine.0 e in
          let places = own_places l a lay stack g j pf.slots 0 to_args (omega arith)
          g_fine.arguments in
          let z = gathered lay.code (bases stack) j pf.slots steps to_args ss d order
          b.stood.world.good b.stood.frame places reads.readable g_fine.arguments_differ in
          let frame1 = in_frame lay.code (bases stack) j pf.slots b.stood.frame z.keeps in
          let L = leaves l a cells stack lay framed (words_at a f) j pf.slots z.data' z.does.good
          frame1 pf.words pf.small in
          let does = subst (λ x. Does lay.code (bases stack) x d L.to)
          (append_assoc (moves_code steps) (number_moves to_args ss)
          (leave_code framed (words_at a f))) (does_on lay.code (bases stack) z.does L.does) in
          let ran1 = plain_ran l a cells stack lay items begins is p d L.to (m ∷ outer) w
          b.stood.world.good does parts.first in
          let p2 = p + length (plain is) in
          let there = s.procedures g fit.called fit.is_called in
          let first = (subst (λ x. Stands items there.place x) there.emits.is there.stands).0 in
          let label_is = s.once there.place g first in
          let t = there.place in
          let d2 = jumped (bases stack) lay items p2 0 L.to in
          let step = jumps (bases stack) lay items p2 there.place g L.to w.input (m ∷ outer)
          parts.more.0 label_is in
          let ran = ran_on lay items begins ran1
          (quiet lay items begins w w step refl refl refl refl refl) in
          let jump_reg = λ (r : ℕ) (z0 : r ≢ 0) (z7 : r ≢ 7). jumped_reg l a cells stack lay items
          begins s p2 0 r L.to z0 z7 z0 in
          let regs_same = λ (r : ℕ) (lo : 8 ≤ r). jump_reg r (omega arith) (omega arith) ∙ L.eights
          r lo in
          let world1 = world_kept l a cells stack lay j pf.slots d z.data' w b.stood.world
          z.does.good z.keeps in
          let world2 = world_same l a cells stack lay z.data' d2 w world1
          (good_jumped l a cells stack lay items begins s p2 0 (Jump 0 g) L.to parts.more.0
          L.does.good)
          (jump_reg 3 (omega arith) (omega arith) ∙ L.next)
          (jump_reg 4 (omega arith) (omega arith) ∙ L.end) L.heap (ap length L.stack') in
          let hold = all_hold l.width (read lay.code (bases stack) j pf.slots d)
          (spots lay.code (bases stack) j pf.slots z.data') to_args ss vs reads.as_many z.each
          reads.are in
          let hold2 = free_hold l a lay stack j pf.slots g to_args vs z.data' d2 g_fine.arguments
          (λ r lo hi. regs_same r lo) hold in
          let link = jump_reg 1 (omega arith) (omega arith) ∙ L.link (lay.address m)
          (home_kept l a cells stack lay framed j (lay.address m) d z.data' z.keeps.link
          (z.keeps.outside j (inl (omega arith))) b.stood.home) in
          let kept2 = λ (r : ℕ) (keep : Keeps l a g r).
          regs_same r keep.low ∙ z.others (Reg r) ((keep.low, keep.high), λ e. absurd (cc))
          (kept_not_own l a g 0 r to_args keep g_fine.arguments) in
          let base2 = base_lasts l a g (stack_end - stack) d d2 kept2
          (base_lasts l a f (stack_end - stack) d0 d b.stood.untouched.others b.base) in
          let callee = called g fit.called there.place m outer vs u (j + (1 + pf.slots)) w d2
          fit.is_called label_is world2 base2 (jump_reg 2 (omega arith) (omega arith) ∙ L.sp)
          total link found hold2 b.left in
          let G1 = λ (rs : List Word) (w' : World) (p' : Point) (calls' : List ℕ). (d' : Data)
          × ((p' ≡ at (bases stack) lay items m d')
          × ((calls' ≡ outer) ×
          (Back l a cells stack lay g (j + (1 + pf.slots)) d2
          (result_spots 10 fit.called.results) rs d' w' × (length rs ≡ fit.called.results)))) in
          let G2 = Given l a cells stack lay items framed f j pf.slots d0 m outer to Returns Must in
          let to_is = subst
          (λ x. InRegisters l a cells stack lay items begins f q framed pf.slots j m outer d0 u
          n x to) returning b.in_registers in
          let mapped = does_map lay items begins l.width cells G1 G2
          (at (bases stack) lay items there.place d2)
          (m ∷ outer) w (calls_n g vs u w) (λ rs v p' c' h. (
            h.0,
            (
              h.1.0,
              (
                h.1.1.0,
                record {
                  world = h.1.1.1.0.world;
                  sp = h.1.1.1.0.sp;
                  untouched = record {
                    above = λ x le. h.1.1.1.0.untouched.above x le ∙ ap (λ st. get_or st x 0)
                        L.stack' ∙ z.keeps.outside x (inr le) ∙ b.stood.untouched.above x le;
                    others = λ r keep.
                        h.1.1.1.0.untouched.others r (fit.keeps r keep) ∙ regs_same r keep.low
                        ∙ z.others (Reg r) ((keep.low, keep.high), λ e. absurd (cc))
                        (kept_not_own l a g 0 r to_args (fit.keeps r keep) g_fine.arguments)
                        ∙ b.stood.untouched.others r keep;
                  };
                  results = subst (λ x. AllHold l.width x rs (regs_of h.0)) (sym to_is)
                      (results_widen l.width 10 fit.called.results q.results rs (regs_of h.0)
                      h.1.1.1.1 h.1.1.1.0.results);
                },
              ),
            ),
          )) callee in
          does_after lay items begins l.width cells
          (Given l a cells stack lay items framed f j pf.slots d0 m outer to way Must)
          (calls_n g vs u w) ran
          (subst (λ x. Does' lay items begins l.width cells
          (Given l a cells stack lay items framed f j pf.slots d0 m outer to x Must)
          (at (bases stack) lay items there.place d2) (m ∷ outer) w (calls_n g vs u w))
          (sym returning) mapped)

      by_operands : (v : ℕ) → v ≡ u → way ≡ Returns → (r : Option (List Word))
          → operands l (words_at a) env os ≡ r
          → Does' lay items begins l.width cells
          (Given l a cells stack lay items framed f j pf.slots d0 m outer to way Must)
          (at (bases stack) lay items p d) (m ∷ outer) w (need r w (λ vs. calls_n g vs v w))
      by_operands v same returning None e = tt
      by_operands v same returning (Some vs) e = subst
          (λ x. Does' lay items begins l.width cells
          (Given l a cells stack lay items framed f j pf.slots d0 m outer to way Must)
          (at (bases stack) lay items p d) (m ∷ outer) w (calls_n g vs x w)) (sym same)
          (by_words returning vs e)

      by_under : (r : Option ℕ) → under ≡ r
          → Does' lay items begins l.width cells
          (Given l a cells stack lay items framed f j pf.slots d0 m outer to way Must)
          (at (bases stack) lay items p d) (m ∷ outer) w
          (need r w (λ v. need (operands l (words_at a) env os) w (λ vs. calls_n g vs v w)))
      by_under None e = tt
      by_under (Some v) e = let is = b.under_is v e
          in by_operands v is.0 is.1 (operands l (words_at a) env os) refl
