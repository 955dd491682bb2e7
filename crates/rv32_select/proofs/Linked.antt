-- The return address goes to the frame's first word, and comes back from there.
use Rattle.std.proofs.Common.{◌≡◌, ◌≢◌, ℕ, ◌+◌, ◌*◌, ◌<◌, List, length, get_or, set, Bool, true, false, inl, inr, refl, ◌∙◌, arith, get_or-set_same, get_or-set_other, ◌∷◌}
use Rattle.std.specs.Prelude.{pos, Option}
use Rattle.std.proofs.Math.ListN.{length-set}
use Rattle.rv32_machine.specs.Arithmetic.{plus}
use Rattle.rv32_steps.specs.Straight.{register_value}
use Rattle.parallel_move.specs.declared.Spot.{Spot}
use Rattle.parallel_move.specs.declared.Spot.TheVariants.{Reg, Slot, Scratch}
use Rattle.low_code.specs.Tree.{Code, Procedure, Program}
use Rattle.low_code.specs.Formed.{variables}
use Rattle.low_code.specs.Values.{Word, Env, World}
use Rattle.low_code.specs.Run.{Calls, code}
use Rattle.register_alloc.specs.Fits.{slots_of}
use Rattle.register_alloc.specs.Assignment.{Assignment, place_of, words_at}
use Rattle.rv32_items.specs.declared.Item.{Item}
use Rattle.rv32_items.specs.Course.{Layout}
use Rattle.rv32_select.specs.declared.source.Continuation.{Continuation}
use Rattle.rv32_select.specs.Emit.{plain, put_link, take_link, link_put}
use Rattle.rv32_select.specs.IsSelected.{Then}
use Rattle.rv32_select.proofs.Straight.{Data, with_reg, with_stack, Good, Does, does_nothing, does_store_stack, does_load_stack}
use Rattle.rv32_select.proofs.FrameViews.{spots}
use Rattle.rv32_select.proofs.Relation.{bases, Home, does_after, Given, Needed}
use Rattle.rv32_select.proofs.PlaceFacts.{IsOwn, ProcedureFine, Setting}
use Rattle.rv32_select.proofs.BlockFacts.{room, Opened, Simulates}
use Rattle.rv32_select.proofs.OneBound.{cut, ready_at, plain_ran}
use Rattle.rv32_select.proofs.BlockEnds.{world_same}
use Rattle.rv32_machine.proofs.Registers.{set_there}

module _ (l : Program) (a : Assignment) (cells stack : ℕ) (lay : Layout) where
  -- what puts it there leaves registers, the heap and the other words
  pub record LinkPut (framed : Bool) (j : ℕ) (d : Data) : Type 0 where
    pub to : Data
    pub does : Does lay.code (bases stack) (link_put framed) d to
    pub regs : (r : ℕ) → to.regs r ≡ d.regs r
    pub heap : to.heap ≡ d.heap
    pub words : length to.stack ≡ length d.stack
    pub home : (address : ℕ) → d.regs 1 ≡ address → Home l a cells stack lay framed j address to
    pub others : (t : ℕ) → t ≢ j → get_or to.stack t 0 ≡ get_or d.stack t 0

  pub link_put_done : (framed : Bool) (j : ℕ) (d : Data) → Good lay.code (bases stack) d
      → d.regs 2 ≡ (bases stack).stack + 4 * j → j < length d.stack → LinkPut framed j d
  link_put_done true j d g sp inside =
      let top = g.top in
      let place : plus (register_value d.regs 2) 0 ≡ (bases stack).stack + 4 * j = omega arith in
      let one : register_value d.regs 1 ≡ d.regs 1 = refl in
      record {
        to = with_stack d (set d.stack j (d.regs 1));
        does = does_store_stack lay.code (bases stack) 1 2 (pos 0) j (d.regs 1) d g (omega arith)
            place inside one;
        regs = λ r. refl;
        heap = refl;
        words = length-set d.stack j (d.regs 1);
        home = λ address e. get_or-set_same d.stack j (d.regs 1) 0 inside ∙ e;
        others = λ t ne. get_or-set_other d.stack j t (d.regs 1) 0 ne;
      }
  link_put_done false j d g sp inside = record {
    to = d;
    does = does_nothing lay.code (bases stack) d g;
    regs = λ r. refl;
    heap = refl;
    words = refl;
    home = λ address e. e;
    others = λ t ne. refl;
  }

module _ (l : Program) (a : Assignment) (cells stack : ℕ) (lay : Layout) (items : List Item)
    (begins : List ℕ) (s : Setting l a cells stack lay items begins) (calls_n : Calls) (n : ℕ)
    (f : ℕ) (q : Procedure) (pf : ProcedureFine l a f q) (framed : Bool) (j m : ℕ) (outer : List ℕ)
    (d0 : Data) (u : ℕ) where
  -- before a piece that needs x1
  pub link_aside : (Rest : List Item → Type 0) (c : Code) (to : List Spot) (way : Continuation)
      (Must : ℕ → Word → Type 0) (k : ℕ) (block : List Item) (p : ℕ) (scope later : List ℕ)
      (env : Env) (top : ℕ) (under : Option ℕ) (d : Data) (w : World)
      → Opened l a cells stack lay items begins f q framed pf.slots j m outer d0 u n false
      (Then (plain put_link) Rest block) c to way Must k block p scope later env top under d w
      → ((rest : List Item) (p' : ℕ) (d' : Data) → Opened l a cells stack lay items begins f q
      framed pf.slots j m outer d0 u n true (Rest rest) c to way Must k rest p' scope later env
      top under d' w
      → Simulates l a cells stack lay items begins f q framed pf.slots j m outer d0 u n calls_n c to
      way Must p' env top under d' w)
      → Simulates l a cells stack lay items begins f q framed pf.slots j m outer d0 u n calls_n c to
      way Must p env top under d w
  link_aside Rest c to way Must k block p scope later env top under d w b more =
      let in_stack = b.stood.frame.room in
      let P = link_put_done l a cells stack lay true j d b.stood.world.good b.stood.frame.sp
      (omega arith) in
      let parts = cut items p (plain put_link) b.emits.0 block b.emits.1 b.stands in
      let ran = plain_ran l a cells stack lay items begins put_link p d P.to (m ∷ outer) w
      b.stood.world.good P.does parts.first in
      does_after lay items begins l.width cells
      (Given l a cells stack lay items framed f j pf.slots d0 m outer to way Must)
      (code l (words_at a) (room l a cells stack lay items begins) calls_n env top under c w)
      ran
      (more b.emits.0 (p + length (plain put_link)) P.to (record {
        emits = b.emits.2;
        stands = parts.more;
        ready = ready_at l a cells stack lay items begins way (p + length block)
            (p + length (plain put_link) + length b.emits.0) parts.end b.ready;
        above = b.above;
        fine = b.fine;
        scoped = b.scoped;
        owned = b.owned;
        must = b.must;
        clear = b.clear;
        to_own = b.to_own;
        to_differ = b.to_differ;
        in_registers = b.in_registers;
        stood = record {
          world = world_same l a cells stack lay d P.to w b.stood.world P.does.good (P.regs 3)
              (P.regs 4) P.heap P.words;
          frame = record
              { sp = P.regs 2 ∙ b.stood.frame.sp; room = let e = P.words in omega arith };
          home = P.home (lay.address m) b.stood.home;
          vars = λ y v h. same P.to P.regs P.others (place_of a y) ∙ b.stood.vars y v h;
          untouched = record {
            above = λ t le. P.others t (omega arith) ∙ b.stood.untouched.above t le;
            others = λ r h. P.regs r ∙ b.stood.untouched.others r h;
          };
        };
        base = b.base;
        left = b.left;
        top_is = b.top_is;
        under_is = b.under_is;
      }))
    where
      same : (e : Data) → ((r : ℕ) → e.regs r ≡ d.regs r)
          → ((t : ℕ) → t ≢ j → get_or e.stack t 0 ≡ get_or d.stack t 0) → (x : Spot)
          → spots lay.code (bases stack) j pf.slots e x ≡ spots lay.code (bases stack) j pf.slots d
          x
      same e regs others (Reg r) = regs r
      same e regs others (Slot i) = others (j + (1 + i)) (omega arith)
      same e regs others Scratch = regs 5

  -- and behind it
  pub link_back : (Rest : List Item → Type 0) (c : Code) (to : List Spot) (way : Continuation)
      (Must : ℕ → Word → Type 0) (k : ℕ) (block : List Item) (p : ℕ) (scope later : List ℕ)
      (env : Env) (top : ℕ) (under : Option ℕ) (d : Data) (w : World)
      → Opened l a cells stack lay items begins f q framed pf.slots j m outer d0 u n true
      (Then (plain take_link) Rest block) c to way Must k block p scope later env top under d w
      → ((rest : List Item) (p' : ℕ) (d' : Data) → Opened l a cells stack lay items begins f q
      framed pf.slots j m outer d0 u n false (Rest rest) c to way Must k rest p' scope later env
      top under d' w
      → Simulates l a cells stack lay items begins f q framed pf.slots j m outer d0 u n calls_n c to
      way Must p' env top under d' w)
      → Simulates l a cells stack lay items begins f q framed pf.slots j m outer d0 u n calls_n c to
      way Must p env top under d w
  link_back Rest c to way Must k block p scope later env top under d w b more =
      let in_stack = b.stood.frame.room in
      let g = b.stood.world.good in
      let top_small = g.top in
      let sp = b.stood.frame.sp in
      let place : plus (register_value d.regs 2) 0 ≡ (bases stack).stack + 4 * j = omega arith in
      let link = get_or d.stack j 0 in
      let d' = with_reg d 1 link in
      let L = does_load_stack lay.code (bases stack) 1 2 (pos 0) j d g place (omega arith) in
      let parts = cut items p (plain take_link) b.emits.0 block b.emits.1 b.stands in
      let ran = plain_ran l a cells stack lay items begins take_link p d d' (m ∷ outer) w g L
      parts.first in
      does_after lay items begins l.width cells
      (Given l a cells stack lay items framed f j pf.slots d0 m outer to way Must)
      (code l (words_at a) (room l a cells stack lay items begins) calls_n env top under c w)
      ran
      (more b.emits.0 (p + length (plain take_link)) d' (record {
        emits = b.emits.2;
        stands = parts.more;
        ready = ready_at l a cells stack lay items begins way (p + length block)
            (p + length (plain take_link) + length b.emits.0) parts.end b.ready;
        above = b.above;
        fine = b.fine;
        scoped = b.scoped;
        owned = b.owned;
        must = b.must;
        clear = b.clear;
        to_own = b.to_own;
        to_differ = b.to_differ;
        in_registers = b.in_registers;
        stood = record {
          world = world_same l a cells stack lay d d' w b.stood.world L.good refl refl refl refl;
          frame = record { sp = sp; room = in_stack };
          home = b.stood.home;
          vars = λ y v h. same link (place_of a y) (owned_of y v h) ∙ b.stood.vars y v h;
          untouched = record {
            above = b.stood.untouched.above;
            others = λ r h. (let lo = h.low in set_there d.regs 1 link r (omega arith)) ∙
                b.stood.untouched.others r h;
          };
        };
        base = b.base;
        left = b.left;
        top_is = b.top_is;
        under_is = b.under_is;
      }))
    where
      owned_of : (y : ℕ) (v : Word) → Needed c env Must y v
          → IsOwn l a f (slots_of (place_of a) (variables q)) (place_of a y)
      owned_of y v (inl h) = b.owned y (b.scoped y v h.1)
      owned_of y v (inr h) = b.owned y (b.must y v h).0

      same : (x : ℕ) (t : Spot) → IsOwn l a f (slots_of (place_of a) (variables q)) t
          → spots lay.code (bases stack) j pf.slots (with_reg d 1 x) t ≡ spots lay.code
          (bases stack) j pf.slots d t
      same x (Reg r) o = let lo = o.0 in set_there d.regs 1 x r (omega arith)
      same x (Slot i) o = refl
      same x Scratch o = refl
