-- Code that takes cells: each place gets the address of its cell, and x3 goes to the cell behind
-- them.
use Rattle.std.proofs.Common.{◌≡◌, ◌≢◌, ℕ, suc, ◌+◌, ◌-◌, ◌*◌, ◌^◌, ◌<◌, ◌≤◌, List, [], ◌∷◌, ◌++◌, length, get_or, Bool, true, false, refl, sym, ap, ◌∙◌, subst, arith}
use Rattle.std.specs.Prelude.{ℤ, pos, nat_lt, ◌||◌, if◌then◌else◌}
use Rattle.std.proofs.lemmas.Bool.Decides.{nat_tests}
use Rattle.rv32_isa.specs.Bits.{lower}
use Rattle.rv32_isa.specs.declared.instr.Instr.TheVariants.{OpImm}
use Rattle.rv32_isa.specs.declared.instr.ImmKind.TheVariants.{Addi}
use Rattle.rv32_machine.specs.Memory.{Stretch}
use Rattle.rv32_machine.specs.Arithmetic.{plus, pattern, negated}
use Rattle.rv32_steps.specs.Data.{Bases}
use Rattle.parallel_move.specs.declared.Spot.{Spot}
use Rattle.parallel_move.specs.declared.Spot.TheVariants.{Reg, Slot, Scratch}
use Rattle.parallel_move.specs.Moves.{Values}
use Rattle.rv32_select.specs.Emit.{target, keep, is_offset, next_offset, go_on, cells_code, cells_below}
use Rattle.rv32_select.proofs.Straight.{Data, with_reg, Good, Does, does_nothing, does_to, does_on, does_imm}
use Rattle.rv32_select.proofs.NumberParts.{again, nothing_set, short_part}
use Rattle.rv32_select.proofs.FrameViews.{spots, InFrame, Outside, Kept, kept, in_frame, kept_reg, kept_on, seen_reg, stores}
use Rattle.rv32_select.proofs.OperandsRead.{IsPlace, put_here, put_there, seen_past}
use Rattle.rv32_select.proofs.Gathering.{AllPlaces}
use Rattle.rv32_select.proofs.PlaceFacts.{NotAmong, AllApart}
use Rattle.rv32_machine.proofs.Registers.{set_there, set_here}

-- cells from an address on stand at spots, one for each
abbrev pub AllAt : (step : ℕ) → List Spot → ℕ → Values → Type 0
AllAt step [] from u = Unit {0}
AllAt step (s ∷ ss) from u = (u s ≡ from) × AllAt step ss (from + step) u

module _ (c : Stretch) (b : Bases) (j slots : ℕ) where
  -- the address in x3, and so many bytes, goes to a place
  record Put (off : ℤ) (s : Spot) (d : Data) (n : ℕ) : Type 0 where
    pub to : Data
    pub does : Does c b (OpImm Addi (target 6 s) 3 off ∷ keep 6 s) d to
    pub here : spots c b j slots to s ≡ n
    pub others : (t : Spot) → IsPlace c b j slots t → t ≢ s
        → spots c b j slots to t ≡ spots c b j slots d t
    pub five : to.regs 5 ≡ d.regs 5
    pub keeps : Kept c b j slots d to

  put_cell : (off : ℤ) (s : Spot) (d : Data) (n : ℕ) → Good c b d → InFrame c b j slots d
      → IsPlace c b j slots s → plus (d.regs 3) (pattern off) ≡ n → n < 2 ^ 32 → Put off s d n
  put_cell off (Reg r) d n g f o sum lt =
      let low = o.0.0 in
      record {
        to = with_reg d r n;
        does = does_imm c b Addi r 3 off n d g sum lt;
        here = set_here d.regs r n;
        others = λ t p ne. seen_reg c b j slots d r n low t p.0 ∙ put_there (Reg r) t n
            (spots c b j slots d) ne;
        five = set_there d.regs r n 5 (omega arith);
        keeps = kept_reg c b j slots d r n (omega arith);
      }
  put_cell off (Slot k) d n g f o sum lt =
      let d1 = with_reg d 6 n in
      let first = does_imm c b Addi 6 3 off n d g sum lt in
      let kept1 = kept_reg c b j slots d 6 n (omega arith) in
      let z = stores c b j slots k 6 d1 first.good (in_frame c b j slots f kept1) o.0 (omega arith)
      in
      record {
        to = z.to;
        does = does_on c b first z.does;
        here = z.spots_are (Slot k) o.0 ∙ put_here (Slot k) n (spots c b j slots d1);
        others = λ t p ne. z.spots_are t p.0 ∙ put_there (Slot k) t n (spots c b j slots d1) ne ∙
            seen_past c b j slots d 6 n (omega arith) (omega arith) t p;
        five = z.spots_are Scratch tt;
        keeps = kept_on c b j slots kept1 z.keeps;
      }
  put_cell off Scratch d n g f o sum lt = absurd (o.1 refl)

  -- x3 goes on where the offset would be too large
  record Gone (step off : ℕ) (d : Data) (n : ℕ) : Type 0 where
    pub three : ℕ
    pub does : Does c b (go_on step off) d (with_reg d 3 three)
    pub next : three + next_offset step off ≡ n

  gone : (step off : ℕ) (d : Data) (n : ℕ) → Good c b d → d.regs 3 + off + step ≡ n → n < 2 ^ 32
      → Gone step off d n
  gone step off d n g e lt = by_test (is_offset (off + step)) refl
    where
      made : (t : Bool) → is_offset (off + step) ≡ t → (three : ℕ)
          → Does c b (if t then [] else OpImm Addi 3 3 (pos off) ∷ OpImm Addi 3 3 (pos step) ∷ []) d
          (with_reg d 3 three) → three + (if t then off + step else 0) ≡ n → Gone step off d n
      made t e three does next = record {
        three = three;
        does = subst
            (λ x. Does c b
            (if x then [] else OpImm Addi 3 3 (pos off) ∷ OpImm Addi 3 3 (pos step) ∷ []) d
            (with_reg d 3 three)) (sym e) does;
        next = ap (λ x. three + (if x then off + step else 0)) e ∙ next;
      }

      by_test : (t : Bool) → is_offset (off + step) ≡ t → Gone step off d n
      by_test true h = made true h (d.regs 3)
          (does_to c b (does_nothing c b d g) (sym (nothing_set d 3))) (omega arith)
      by_test false h =
          let sum : plus (d.regs 3) off ≡ d.regs 3 + off = omega arith in
          let first = does_imm c b Addi 3 3 (pos off) (d.regs 3 + off) d g sum (omega arith) in
          let sum' : plus (d.regs 3 + off) step ≡ n = omega arith in
          let second = does_imm c b Addi 3 3 (pos step) n (with_reg d 3 (d.regs 3 + off)) first.good
          sum' lt in
          made false h n (does_to c b (does_on c b first second) (again d 3 (d.regs 3 + off) n))
          (omega arith)

  -- cells for all places
  pub record Celled (step off : ℕ) (ss : List Spot) (d : Data) (n : ℕ) : Type 0 where
    pub to : Data
    pub does : Does c b (cells_code step off ss) d to
    pub each : AllAt step ss n (spots c b j slots to)
    pub others : (t : Spot) → IsPlace c b j slots t → NotAmong t ss
        → spots c b j slots to t ≡ spots c b j slots d t
    pub five : to.regs 5 ≡ d.regs 5
    pub link : to.regs 1 ≡ d.regs 1
    pub sp : to.regs 2 ≡ d.regs 2
    pub end : to.regs 4 ≡ d.regs 4
    pub heap : to.heap ≡ d.heap
    pub words : length to.stack ≡ length d.stack
    pub outside : (t : ℕ) → Outside c b j slots t → get_or to.stack t 0 ≡ get_or d.stack t 0

  seen_three : (d : Data) (x : ℕ) (t : Spot) → IsPlace c b j slots t
      → spots c b j slots (with_reg d 3 x) t ≡ spots c b j slots d t
  seen_three d x (Reg r) o = let low = o.0.0 in set_there d.regs 3 x r (omega arith)
  seen_three d x (Slot k) o = refl
  seen_three d x Scratch o = absurd (o.1 refl)

  pub celled : (step off : ℕ) (ss : List Spot) (d : Data) (n : ℕ) → Good c b d
      → InFrame c b j slots d → AllPlaces c b j slots ss → AllApart ss → d.regs 3 + off ≡ n
      → n + step * length ss < 2 ^ 32 → Celled step off ss d n
  celled step off [] d n g f places df e lt = record {
    to = d;
    does = does_nothing c b d g;
    each = tt;
    others = λ t o ne. refl;
    five = refl;
    link
        = refl;
    sp = refl;
    end = refl;
    heap = refl;
    words = refl;
    outside = λ t o. refl;
  }
  celled step off (s ∷ ss) d n g f places df e lt =
      let more_room : step * suc (length ss) ≡ step + step * length ss = omega arith in
      let sum : plus (d.regs 3) off ≡ n = omega arith in
      let p = put_cell (pos off) s d n g f places.0 sum (omega arith) in
      let three : p.to.regs 3 ≡ d.regs 3 = p.keeps.next in
      let z = gone step off p.to (n + step) p.does.good (omega arith) (omega arith) in
      let d2 = with_reg p.to 3 z.three in
      let f2 : InFrame c b j slots d2 = record {
        sp = p.keeps.frame ∙ f.sp;
        room = let r = f.room in let w = p.keeps.words
            in omega arith;
      } in
      let more = celled step (next_offset step off) ss d2 (n + step) z.does.good f2 places.1 df.1
      z.next (omega arith) in
      let whole : Does c b
      ((OpImm Addi (target 6 s) 3 (pos off) ∷ keep 6 s)
      ++ (go_on step off ++ cells_code step (next_offset step off) ss)) d more.to
      = does_on c b p.does (does_on c b z.does more.does) in
      record {
        to = more.to;
        does = whole;
        each = (
          more.others s places.0 df.0 ∙ seen_three p.to z.three s places.0 ∙ p.here,
          more.each,
        );
        others = λ t o ne. more.others t o ne.1 ∙ seen_three p.to z.three t o ∙ p.others t o ne.0;
        five = more.five ∙ p.five;
        link = more.link ∙ p.keeps.link;
        sp = more.sp ∙ p.keeps.frame;
        end = more.end ∙ p.keeps.end;
        heap = more.heap ∙ p.keeps.heap;
        words = more.words ∙ p.keeps.words;
        outside = λ t o. more.outside t o ∙ p.keeps.outside t o;
      }

  -- ---- cells below x3

  -- a number of 11 bits, taken off
  below_part : (k : ℕ) → 1 ≤ k → k < 2048 → pattern (lower (negated k)) ≡ 2 ^ 32 - k
  below_part k some few = short_part (negated k) (omega arith)
      (by_high (nat_lt (negated k) 2048) high) ∙ omega arith
    where
      high : nat_lt 4294965247 (negated k) ≡ true
      high = let h : 4294965247 < negated k = omega arith in grind (arith, nat_tests)

      by_high : (t : Bool) → nat_lt 4294965247 (negated k) ≡ true
          → t || nat_lt 4294965247 (negated k) ≡ true
      by_high true h = refl
      by_high false h = h

  pub record Below (step : ℕ) (ss : List Spot) (d : Data) (n : ℕ) : Type 0 where
    pub to : Data
    pub does : Does c b (cells_below step ss) d to
    pub each : AllAt step ss n (spots c b j slots to)
    pub others : (t : Spot) → IsPlace c b j slots t → NotAmong t ss
        → spots c b j slots to t ≡ spots c b j slots d t
    pub keeps : Kept c b j slots d to

  -- x3 stands behind cells from n on
  pub put_below : (step : ℕ) (ss : List Spot) (d : Data) (n : ℕ) → Good c b d
      → InFrame c b j slots d → AllPlaces c b j slots ss → AllApart ss
      → d.regs 3 ≡ n + step * length ss → 1 ≤ step → step * length ss < 2048
      → n + step * length ss < 2 ^ 32 → Below step ss d n
  put_below step [] d n g f places df e some few lt
      = record {
        to = d;
        does = does_nothing c b d g;
        each = tt;
        others = λ t o ne. refl;
        keeps
            = kept c b j slots d;
      }
  put_below step (s ∷ ss) d n g f places df e some few lt =
      let more_room : step * suc (length ss) ≡ step + step * length ss = omega arith in
      let k = step * suc (length ss) in
      let part : pattern (lower (negated (step * suc (length ss)))) ≡ 2 ^ 32 - step * suc
      (length ss) = below_part k (omega arith) few in
      let back : plus (d.regs 3) (2 ^ 32 - step * suc (length ss)) ≡ n = omega arith in
      let p = put_cell (lower (negated k)) s d n g f places.0 (ap (plus (d.regs 3)) part ∙ back)
      (omega arith) in
      let next : p.to.regs 3 ≡ n + step + step * length ss = p.keeps.next ∙ e ∙ omega arith in
      let more = put_below step ss p.to (n + step) p.does.good (in_frame c b j slots f p.keeps)
      places.1 df.1 next some (omega arith) (omega arith) in
      record {
        to = more.to;
        does = does_on c b p.does more.does;
        each = (more.others s places.0 df.0 ∙ p.here, more.each);
        others = λ t o ne. more.others t o ne.1 ∙ p.others t o ne.0;
        keeps = kept_on c b j slots p.keeps more.keeps;
      }
