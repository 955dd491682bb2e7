-- Items that take cells, where x3 goes first and where it goes last.
use Rattle.std.proofs.Common.{◌≡◌, ℕ, suc, ◌+◌, ◌*◌, ◌^◌, ◌<◌, ◌≤◌, List, [], ◌∷◌, ◌++◌, length, get_or, Bool, true, false, refl, ap, ◌∙◌, subst, arith, length-append}
use Rattle.std.specs.Prelude.{pos, if◌then◌else◌}
use Rattle.std.proofs.lemmas.Bool.Decides.{nat_tests}
use Rattle.rv32_isa.specs.declared.instr.Instr.TheVariants.{OpImm}
use Rattle.rv32_isa.specs.declared.instr.ImmKind.TheVariants.{Addi}
use Rattle.rv32_machine.specs.Arithmetic.{plus}
use Rattle.rv32_machine.proofs.Registers.{set_there}
use Rattle.parallel_move.specs.declared.Spot.{Spot}
use Rattle.parallel_move.specs.declared.Spot.TheVariants.{Reg, Slot, Scratch}
use Rattle.low_code.specs.Tree.{Program}
use Rattle.low_code.specs.Values.{World}
use Rattle.register_alloc.specs.Assignment.{Assignment}
use Rattle.rv32_items.specs.declared.Item.{Item}
use Rattle.rv32_items.specs.Course.{Layout}
use Rattle.rv32_select.specs.Emit.{plain, is_offset, room_items, raise_items, cells_code, cells_below, near_cells, far_cells, take_items}
use Rattle.rv32_select.proofs.Courses.{Stands, front, back}
use Rattle.rv32_select.proofs.Straight.{Data, with_reg, Good, does_on, does_imm, at}
use Rattle.rv32_select.proofs.FrameViews.{spots, InFrame, Outside, in_frame}
use Rattle.rv32_select.proofs.OperandsRead.{IsPlace}
use Rattle.rv32_select.proofs.Gathering.{AllPlaces}
use Rattle.rv32_select.proofs.TakenCells.{AllAt, celled, put_below}
use Rattle.rv32_select.proofs.Relation.{bases, Ran, Ends, ran_on}
use Rattle.rv32_select.proofs.PlaceFacts.{NotAmong, AllApart, Setting}
use Rattle.rv32_select.proofs.OneBound.{plain_ran}
use Rattle.rv32_select.proofs.Stops.{tested, raised}

module _ (l : Program) (a : Assignment) (cells stack : ℕ) (lay : Layout) (items : List Item)
    (begins : List ℕ) (s : Setting l a cells stack lay items begins) (j slots : ℕ) (calls : List ℕ)
    (w : World) where
  unseen_three : (e : Data) (x : ℕ) (y : Spot) → IsPlace lay.code (bases stack) j slots y
      → spots lay.code (bases stack) j slots (with_reg e 3 x) y ≡ spots lay.code (bases stack) j
      slots e y
  unseen_three e x (Reg r) o = let lo = o.0.0 in set_there e.regs 3 x r (omega arith)
  unseen_three e x (Slot i) o = refl
  unseen_three e x Scratch o = absurd (o.1 refl)

  at_three : (step : ℕ) (e : Data) (x : ℕ) (ss : List Spot) (from : ℕ)
      → AllPlaces lay.code (bases stack) j slots ss
      → AllAt step ss from (spots lay.code (bases stack) j slots e)
      → AllAt step ss from (spots lay.code (bases stack) j slots (with_reg e 3 x))
  at_three step e x [] from o z = tt
  at_three step e x (y ∷ ss) from o z =
      (unseen_three e x y o.0 ∙ z.0, at_three step e x ss (from + step) o.1 z.1)

  -- places have the addresses of cells from x3 on, and x3 is behind them
  pub record Taken (step : ℕ) (ss : List Spot) (piece : List Item) (p : ℕ) (d : Data) : Type 0 where
    pub to : Data
    pub good : Good lay.code (bases stack) to
    pub each : AllAt step ss (d.regs 3) (spots lay.code (bases stack) j slots to)
    pub others : (t : Spot) → IsPlace lay.code (bases stack) j slots t → NotAmong t ss
        → spots lay.code (bases stack) j slots to t ≡ spots lay.code (bases stack) j slots d t
    pub next : to.regs 3 ≡ d.regs 3 + step * length ss
    pub end : to.regs 4 ≡ d.regs 4
    pub heap : to.heap ≡ d.heap
    pub link : to.regs 1 ≡ d.regs 1
    pub sp : to.regs 2 ≡ d.regs 2
    pub words : length to.stack ≡ length d.stack
    pub outside : (t : ℕ) → Outside lay.code (bases stack) j slots t
        → get_or to.stack t 0 ≡ get_or d.stack t 0
    pub ran : Ran lay items begins (at (bases stack) lay items p d) calls w
        (at (bases stack) lay items (p + length piece) to) calls w

  -- they are taken where there is room, and else the heap is full
  pub record Takes (step : ℕ) (ss : List Spot) (piece : List Item) (p : ℕ) (d : Data) : Type 0 where
    pub enough : d.regs 3 + step * length ss ≤ d.regs 4 → Taken step ss piece p d
    pub full : d.regs 4 < d.regs 3 + step * length ss
        → Ends lay items begins l.width cells (at (bases stack) lay items p d) calls w w 4

  takes_near : (step : ℕ) (ss : List Spot) (p : ℕ) (d : Data) → 1 ≤ step → step * length ss < 2048
      → Stands items p (near_cells step (1 + length l.procs) ss) → Good lay.code (bases stack) d
      → InFrame lay.code (bases stack) j slots d → AllPlaces lay.code (bases stack) j slots ss
      → AllApart ss → d.regs 3 + step * length ss < 2 ^ 32
      → Takes step ss (near_cells step (1 + length l.procs) ss) p d
  takes_near step ss p d some few stands g f places apart small =
      let raise = raise_items (step * length ss) (1 + length l.procs) in
      let is = cells_below step ss in
      let r = raised l a cells stack lay items begins s (step * length ss) p d calls w
      (front items p raise (plain is) stands) g small in
      let d1 = with_reg d 3 (d.regs 3 + step * length ss) in
      let f1 : InFrame lay.code (bases stack) j slots d1 = record { sp = f.sp; room = f.room } in
      let z = put_below lay.code (bases stack) j slots step ss d1 (d.regs 3) r.good f1 places apart
      refl some few small in
      let two : p + 2 ≡ suc (suc p) = omega arith in
      let here = subst (λ x. Stands items x (plain is)) two (back items p raise (plain is) stands)
      in
      let ran = plain_ran l a cells stack lay items begins is (suc (suc p)) d1 z.to calls w r.good
      z.does here in
      let behind : suc (suc p) + length (plain is) ≡ p + length (raise ++ plain is) = omega arith in
      record {
        enough = λ le. record {
          to = z.to;
          good = z.does.good;
          each = z.each;
          others = λ t o ne. z.others t o ne ∙ unseen_three d (d.regs 3 + step * length ss) t o;
          next = z.keeps.next;
          end = z.keeps.end;
          heap = z.keeps.heap;
          link = z.keeps.link;
          sp = z.keeps.frame;
          words = z.keeps.words;
          outside = z.keeps.outside;
          ran = ran_on lay items begins (r.enough le)
              (subst (λ y. Ran lay items begins (at (bases stack) lay items (suc (suc p)) d1) calls
              w (at (bases stack) lay items y z.to) calls w) behind ran);
        };
        full = r.full;
      }

  takes_far : (step : ℕ) (ss : List Spot) (p : ℕ) (d : Data) → step * length ss < 2 ^ 32
      → Stands items p (far_cells step (1 + length l.procs) ss) → Good lay.code (bases stack) d
      → InFrame lay.code (bases stack) j slots d → AllPlaces lay.code (bases stack) j slots ss
      → AllApart ss → d.regs 3 + step * length ss < 2 ^ 32
      → Takes step ss (far_cells step (1 + length l.procs) ss) p d
  takes_far step ss p d fits stands g f places apart small =
      let room = room_items (step * length ss) (1 + length l.procs) in
      let is = cells_code step 0 ss ++ OpImm Addi 3 5 (pos 0) ∷ [] in
      let end = d.regs 3 + step * length ss in
      let t = tested l a cells stack lay items begins s (step * length ss) p d calls w
      (front items p room (plain is) stands) g fits small in
      let keeps = t.keeps j slots in
      let from : t.to.regs 3 + 0 ≡ d.regs 3 = let three = keeps.next in omega arith in
      let made = celled lay.code (bases stack) j slots step 0 ss t.to (d.regs 3) t.good
      (in_frame lay.code (bases stack) j slots f keeps) places apart from small in
      let five : made.to.regs 5 ≡ d.regs 3 + step * length ss = made.five ∙ t.five in
      let sum : plus (made.to.regs 5) 0 ≡ d.regs 3 + step * length ss = omega arith in
      let last = does_imm lay.code (bases stack) Addi 3 5 (pos 0) end made.to made.does.good sum
      small in
      let does = does_on lay.code (bases stack) made.does last in
      let to = with_reg made.to 3 end in
      let ran = plain_ran l a cells stack lay items begins is (p + length room) t.to to calls w
      t.good does (back items p room (plain is) stands) in
      let behind : p + length room + length (plain is) ≡ p + length (room ++ plain is) = let e
      = length-append room (plain is) in omega arith in
      record {
        enough = λ le. record {
          to = to;
          good = does.good;
          each = at_three step made.to end ss (d.regs 3) places made.each;
          others = λ y o ne. unseen_three made.to end y o ∙ made.others y o ne ∙ seen t.to t.eights
              t.stack' y o;
          next = refl;
          end = made.end ∙ keeps.end;
          heap = made.heap ∙ keeps.heap;
          link = made.link ∙ keeps.link;
          sp = made.sp ∙ keeps.frame;
          words = made.words ∙ keeps.words;
          outside = λ y o. made.outside y o ∙ keeps.outside y o;
          ran = ran_on lay items begins (t.enough le)
              (subst (λ y. Ran lay items begins (at (bases stack) lay items (p + length room) t.to)
              calls w (at (bases stack) lay items y to) calls w) behind ran);
        };
        full = t.full;
      }
    where
      seen : (e : Data) → ((r : ℕ) → 8 ≤ r → e.regs r ≡ d.regs r) → e.stack ≡ d.stack → (y : Spot)
          → IsPlace lay.code (bases stack) j slots y
          → spots lay.code (bases stack) j slots e y ≡ spots lay.code (bases stack) j slots d y
      seen e eights same (Reg r) o = eights r o.0.0
      seen e eights same (Slot i) o = ap (λ y. get_or y (j + (1 + i)) 0) same
      seen e eights same Scratch o = absurd (o.1 refl)

  pub takes : (step : ℕ) (ss : List Spot) (p : ℕ) (d : Data) → 1 ≤ step → step * length ss < 2 ^ 32
      → Stands items p (take_items step (1 + length l.procs) ss) → Good lay.code (bases stack) d
      → InFrame lay.code (bases stack) j slots d → AllPlaces lay.code (bases stack) j slots ss
      → AllApart ss → d.regs 3 + step * length ss < 2 ^ 32
      → Takes step ss (take_items step (1 + length l.procs) ss) p d
  takes step ss p d some fits stands g f places apart small
      = by_size (is_offset (step * length ss)) refl stands
    where
      by_size : (t : Bool) → is_offset (step * length ss) ≡ t
          → Stands items p
          (if t then near_cells step (1 + length l.procs) ss
          else far_cells step (1 + length l.procs) ss)
          → Takes step ss
          (if t then near_cells step (1 + length l.procs) ss
          else far_cells step (1 + length l.procs) ss) p d
      by_size true e here = takes_near step ss p d some (grind (arith, nat_tests)) here g f places
          apart small
      by_size false e here = takes_far step ss p d fits here g f places apart small
