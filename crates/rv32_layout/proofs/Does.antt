-- The machine does with the instructions of an item what the item does.
use Rattle.std.proofs.Common.{◌≡◌, ◌≢◌, ℕ, ◌+◌, ◌*◌, ◌/◌, ◌%◌, ◌≤◌, Bool, true, false, not, nat_eq, List, [], ◌∷◌, Some, refl, sym, ap, ◌∙◌, subst, arith}
use Rattle.std.specs.Prelude.{ℤ, pos, negsuc, ◌&&◌, if◌then◌else◌}
use Rattle.std.proofs.lemmas.Bool.{eqb-true, eqb-false, ne_eqb, and_parts, true≢false}
use Rattle.rv32_isa.specs.declared.instr.Instr.{Instr}
use Rattle.rv32_isa.specs.declared.instr.Instr.TheVariants.{Lui, Auipc, Jal, Jalr, Branch as Branch', Load, Store, OpImm, Shift, Op, Fence, Ecall, Ebreak}
use Rattle.rv32_machine.specs.declared.memory.Right.TheVariants.{Read, Write}
use Rattle.rv32_machine.specs.declared.memory.Access.{Access}
use Rattle.rv32_machine.specs.declared.memory.Access.TheVariants.{At, Outside}
use Rattle.rv32_machine.specs.declared.machine.TrapKind.TheVariants.{MisalignedAccess, UnknownCall}
use Rattle.rv32_machine.specs.Memory.{Stretch, access, bytes_of}
use Rattle.rv32_machine.specs.Arithmetic.{plus, pattern, is_taken, load_value, load_size, store_size}
use Rattle.rv32_machine.specs.Steps.{State, Outcome, Next, Written, Asked, Ended, Trapped, step, act, set_reg, reg, load, loaded, store, stored, put, no_file, written, write_from, write_call, asked, read_call, call}
use Rattle.rv32_steps.specs.Leads.{at}
use Rattle.rv32_steps.specs.Straight.{register_value}
use Rattle.rv32_steps.specs.Trace.{is_return, instruction_at, writes_link, returns as returns'}
use Rattle.rv32_items.specs.declared.Cond.{Cond}
use Rattle.rv32_items.specs.declared.Cond.TheVariants.{Eq, Ne, Lt, Ge, Ltu, Geu}
use Rattle.rv32_items.specs.declared.Item.{Item}
use Rattle.rv32_items.specs.declared.Item.TheVariants.{Plain, Branch, Jump}
use Rattle.rv32_items.specs.Course.{kind_of}
use Rattle.rv32_items.specs.Placed.{IsPlain, is_jump, StepsAtRisingPcs, Closes}
use Rattle.rv32_items.specs.Told.{is_call, returns}
use Rattle.rv32_layout.specs.declared.form.Way.{Way}
use Rattle.rv32_layout.specs.declared.form.Way.TheVariants.{ByBranch, ByJump, ByAddress}
use Rattle.rv32_layout.specs.Forms.{offset, distance, upper, opposite, by_address, branch_code, jump_code, branch_width, jump_width}
use Rattle.rv32_layout.proofs.Reach.{address, offset_lands, distance_lands}
use Rattle.rv32_layout.proofs.Steps.{HasAll, jal, auipc, jalr, taken, not_taken}
use Rattle.rv32_machine.proofs.Registers.{set_there as kept, set_again, set_here}
use Rattle.rv32_isa.specs.Bits.{lower}

-- ---- registers

-- a register that is set again

swap_at : (b c : Bool) (x y z : ℕ) → (b ≡ true → c ≡ true → ⊥)
    → (if b then y else (if c then x else z)) ≡ (if c then x else (if b then y else z))
swap_at true true x y z apart = absurd (apart refl refl)
swap_at true false x y z apart = refl
swap_at false true x y z apart = refl
swap_at false false x y z apart = refl

-- two registers that are set, the one before the other
set_both : (regs : ℕ → ℕ) (r q x y : ℕ) → r ≢ q → set_reg (set_reg regs r x) q y ≡ set_reg
    (set_reg regs q y) r x
set_both regs r q x y ne = λ i p. swap_at (nat_eq p q) (nat_eq p r) x y (regs p)
    (λ e f. ne (sym (eqb-true p r f) ∙ eqb-true p q e)) i

-- ---- branches and jumps

not_not : (b : Bool) → b ≡ not (not b)
not_not true = refl
not_not false = refl

turned : (c : Cond) (a b : ℕ) → is_taken (kind_of (opposite c)) a b ≡ not (is_taken (kind_of c) a b)
turned Eq a b = refl
turned Ne a b = not_not _
turned Lt a b = refl
turned Ge a b = not_not _
turned Ltu a b = refl
turned Geu a b = not_not _

-- what AUIPC puts into its register on the way from word to word
abbrev pub halfway : (from to : ℕ) → ℕ
halfway from to = plus (address from) (upper (distance from to) * 4096)

-- what the way of a branch or a jump that is taken leaves of the registers
abbrev pub branch_far : Way → (at to : ℕ) → (regs : ℕ → ℕ) → ℕ → ℕ
branch_far ByBranch at to regs = regs
branch_far ByJump at to regs = set_reg regs 0 (address (at + 2))
branch_far ByAddress at to regs = set_reg (set_reg regs 7 (halfway (at + 1) to)) 0
    (address (at + 3))

abbrev pub jump_far : Way → (at to link : ℕ) → (regs : ℕ → ℕ) → ℕ → ℕ
jump_far ByBranch at to link regs = regs
jump_far ByJump at to link regs = regs
jump_far ByAddress at to link regs = if nat_eq link 0 then set_reg regs 7 (halfway at to) else regs

pub branch_far_keeps : (w : Way) (at to r : ℕ) (regs : ℕ → ℕ) → r ≢ 0 → r ≢ 7
    → branch_far w at to regs r ≡ regs r
branch_far_keeps ByBranch at to r regs n0 n7 = refl
branch_far_keeps ByJump at to r regs n0 n7 = kept regs 0 (address (at + 2)) r n0
branch_far_keeps ByAddress at to r regs n0 n7 =
    kept (set_reg regs 7 (halfway (at + 1) to)) 0 (address (at + 3)) r n0 ∙ kept regs 7
    (halfway (at + 1) to) r n7

pub jump_far_keeps : (w : Way) (at to link r : ℕ) (regs : ℕ → ℕ) → r ≢ 0 → r ≢ 7
    → jump_far w at to link regs r ≡ regs r
jump_far_keeps ByBranch at to link r regs n0 n7 = refl
jump_far_keeps ByJump at to link r regs n0 n7 = refl
jump_far_keeps ByAddress at to link r regs n0 n7 = go (nat_eq link 0)
  where
    go : (b : Bool) → (if b then set_reg regs 7 (halfway at to) else regs) r ≡ regs r
    go true = kept regs 7 (halfway at to) r n7
    go false = refl

-- some steps of an item that climb, as many at most
pub record Goes (i : Item) (most end : ℕ) (s t : State) : Type 0 where
  pub steps : ℕ
  pub few : steps ≤ most
  pub climbs : StepsAtRisingPcs i steps end s t

-- the last instruction of an item, by what is read
pub closes : (i : Item) (j : Instr) (end : ℕ) (s : State) → instruction_at s ≡ Some j
    → is_return j ≡ returns (Some i) → writes_link (Some j) ≡ is_call (Some i)
    → (is_jump i ≡ true → s.pc + 4 ≡ end) → Closes i end s
closes i j end s e r l last = record
    { returning = ap returns' e ∙ r; linking = ap writes_link e ∙ l; at_end = last }

-- a jump by an address that is no return
jump_is_no_return : (link through : ℕ) (z : ℤ) → (link ≡ 0 → through ≡ 1 → ⊥)
    → is_return (Jalr link through z) ≡ false
jump_is_no_return link through (negsuc n) apart = refl
jump_is_no_return link through (pos n) apart = at (nat_eq link 0) (nat_eq through 1) refl refl
  where
    at : (a b : Bool) → nat_eq link 0 ≡ a → nat_eq through 1 ≡ b → a && (b && nat_eq n 0) ≡ false
    at true true ea eb = absurd (apart (eqb-true link 0 ea) (eqb-true through 1 eb))
    at true false ea eb = refl
    at false b ea eb = refl

module _ (c : Stretch) (rest : List Stretch) where
  abbrev here : (ℕ → ℕ) → ℕ → State
  here regs pc = at regs pc (c ∷ rest)

  -- AUIPC and JALR, which close an item
  by_address_goes : (i : Item) (through link from to pc end : ℕ) (regs : ℕ → ℕ)
      → returns (Some i) ≡ false → nat_eq link 1 ≡ is_call (Some i) → through ≢ 0
      → (link ≡ 0 → through ≡ 1 → ⊥) → from ≤ 268435457 → to ≤ 268435456 → pc ≡ address from
      → pc + 4 + 4 ≡ end → HasAll c pc (by_address through link from to)
      → StepsAtRisingPcs i 2 end (here regs pc)
      (here (set_reg (set_reg regs through (halfway from to)) link (pc + 4 + 4)) (address to))
  by_address_goes i through link from to pc end regs still links ne apart hf ht e last has =
      let half = halfway from to in
      let low = lower (distance from to) in
      let first : step (here regs pc) ≡ Next (here (set_reg regs through half) (pc + 4)) =
      auipc c pc regs rest through _ has.0.holds ∙ ap
      (λ p. Next
      (here (set_reg regs through (plus p (upper (distance from to) * 4096))) (pc + 4))) e in
      let read : register_value (set_reg regs through half) through ≡ half =
      ap (λ b. if b then 0 else set_reg regs through half through) (ne_eqb through 0 ne) ∙ set_here
      regs through half in
      let lands : plus (register_value (set_reg regs through half) through) (pattern low) / 2 * 2 ≡
      address to =
      ap (λ v. plus v (pattern low) / 2 * 2) read ∙ distance_lands from to hf ht in
      let four : address to % 4 ≡ 0 = omega arith in
      let second = jalr c (pc + 4) (set_reg regs through half) rest link through (address to) low
      has.1.0.holds lands four in
      let closed = closes i (Jalr link through low) end (here (set_reg regs through half) (pc + 4))
      (has.1.0.reads (set_reg regs through half) rest)
      (jump_is_no_return link through low apart ∙ sym still) links (λ jump. last) in (
        here (set_reg regs through half) (pc + 4),
        (
          omega arith,
          (first, (ap returns' (has.0.reads regs rest), (omega arith, (second, closed)))),
        ),
      )

  -- a branch that is taken
  pub branch_taken : (w : Way) (at to next : ℕ) (cond : Cond) (left right l : ℕ) (regs : ℕ → ℕ)
      → at ≤ 268435456 → to ≤ 268435456 → next ≡ at + branch_width w
      → HasAll c (address at) (branch_code w at to cond left right)
      → is_taken (kind_of cond) (register_value regs left) (register_value regs right) ≡ true
      → Goes (Branch cond left right l) 3 (address next) (here regs (address at))
      (here (branch_far w at to regs) (address to))
  branch_taken ByBranch at to next cond left right l regs ha ht e has test =
      let four : address to % 4 ≡ 0 = omega arith in
      let closed = closes (Branch cond left right l)
      (Branch' (kind_of cond) left right (offset at to)) (address next) (here regs (address at))
      (has.0.reads regs rest) refl refl (λ jump. cc) in
      record {
        steps = 1;
        few = omega arith;
        climbs = (
          omega arith,
          (
            taken c (address at) regs rest (kind_of cond) left right (offset at to) (address to)
                has.0.holds test (offset_lands at to (omega arith) ht) four,
            closed,
          ),
        );
      }
  branch_taken ByJump at to next cond left right l regs ha ht e has test =
      let four : address to % 4 ≡ 0 = omega arith in
      let stays : is_taken (kind_of (opposite cond)) (register_value regs left)
      (register_value regs right) ≡ false = turned cond _ _ ∙ ap not test in
      let first = not_taken c (address at) regs rest (kind_of (opposite cond)) left right (pos 8)
      has.0.holds stays in
      let word : address at + 4 ≡ address (at + 1) = omega arith in
      let link : address at + 4 + 4 ≡ address (at + 2) = omega arith in
      let lands : plus (address at + 4) (pattern (offset (at + 1) to)) ≡ address to
      = ap (λ p. plus p (pattern (offset (at + 1) to))) word ∙ offset_lands (at + 1) to
      (omega arith) ht in
      let second = jal c (address at + 4) regs rest 0 (offset (at + 1) to) (address to)
      has.1.0.holds lands four in
      let closed = closes (Branch cond left right l) (Jal 0 (offset (at + 1) to)) (address next)
      (here regs (address at + 4)) (has.1.0.reads regs rest) refl refl (λ jump. cc) in
      record {
        steps = 2;
        few = omega arith;
        climbs = (
          here regs (address at + 4),
          (
            omega arith,
            (
              first,
              (
                ap returns' (has.0.reads regs rest),
                (
                  omega arith,
                  (second ∙ ap (λ v. Next (here (set_reg regs 0 v) (address to))) link, closed),
                ),
              ),
            ),
          ),
        );
      }
  branch_taken ByAddress at to next cond left right l regs ha ht e has test =
      let i = Branch cond left right l in
      let stays : is_taken (kind_of (opposite cond)) (register_value regs left)
      (register_value regs right) ≡ false = turned cond _ _ ∙ ap not test in
      let first = not_taken c (address at) regs rest (kind_of (opposite cond)) left right (pos 12)
      has.0.holds stays in
      let word : address at + 4 ≡ address (at + 1) = omega arith in
      let link : address at + 4 + 4 + 4 ≡ address (at + 3) = omega arith in
      let more = by_address_goes i 7 0 (at + 1) to (address at + 4) (address next) regs refl refl
      (λ z. cc) (λ a b. cc) (omega arith) ht word (omega arith) has.1 in
      let end = subst
      (λ v. StepsAtRisingPcs i 2 (address next) (here regs (address at + 4))
      (here (set_reg (set_reg regs 7 (halfway (at + 1) to)) 0 v) (address to))) link more in
      record {
        steps = 3;
        few = omega arith;
        climbs = (
          here regs (address at + 4),
          (omega arith, (first, (ap returns' (has.0.reads regs rest), end))),
        );
      }

  -- a branch that is not taken
  pub branch_stays : (w : Way) (at to next : ℕ) (cond : Cond) (left right l : ℕ) (regs : ℕ → ℕ)
      → at ≤ 268435456 → next ≡ at + branch_width w
      → HasAll c (address at) (branch_code w at to cond left right)
      → is_taken (kind_of cond) (register_value regs left) (register_value regs right) ≡ false
      → Goes (Branch cond left right l) 1 (address next) (here regs (address at))
      (here regs (address next))
  branch_stays ByBranch at to next cond left right l regs ha e has test =
      let behind : address at + 4 ≡ address next = omega arith in
      let closed = closes (Branch cond left right l)
      (Branch' (kind_of cond) left right (offset at to)) (address next) (here regs (address at))
      (has.0.reads regs rest) refl refl (λ jump. cc) in
      record {
        steps = 1;
        few = omega arith;
        climbs = (
          omega arith,
          (
            not_taken c (address at) regs rest (kind_of cond) left right (offset at to) has.0.holds
                test ∙ ap (λ p. Next (here regs p)) behind,
            closed,
          ),
        );
      }
  branch_stays ByJump at to next cond left right l regs ha e has test =
      let goes : is_taken (kind_of (opposite cond)) (register_value regs left)
      (register_value regs right) ≡ true = turned cond _ _ ∙ ap not test in
      let four : address next % 4 ≡ 0 = omega arith in
      let lands : plus (address at) 8 ≡ address next = omega arith in
      let closed = closes (Branch cond left right l)
      (Branch' (kind_of (opposite cond)) left right (pos 8)) (address next)
      (here regs (address at)) (has.0.reads regs rest) refl refl (λ jump. cc) in
      record {
        steps = 1;
        few = omega arith;
        climbs = (
          omega arith,
          (
            taken c (address at) regs rest (kind_of (opposite cond)) left right (pos 8)
                (address next) has.0.holds goes lands four,
            closed,
          ),
        );
      }
  branch_stays ByAddress at to next cond left right l regs ha e has test =
      let goes : is_taken (kind_of (opposite cond)) (register_value regs left)
      (register_value regs right) ≡ true = turned cond _ _ ∙ ap not test in
      let four : address next % 4 ≡ 0 = omega arith in
      let lands : plus (address at) 12 ≡ address next = omega arith in
      let closed = closes (Branch cond left right l)
      (Branch' (kind_of (opposite cond)) left right (pos 12)) (address next)
      (here regs (address at)) (has.0.reads regs rest) refl refl (λ jump. cc) in
      record {
        steps = 1;
        few = omega arith;
        climbs = (
          omega arith,
          (
            taken c (address at) regs rest (kind_of (opposite cond)) left right (pos 12)
                (address next) has.0.holds goes lands four,
            closed,
          ),
        );
      }

  jump_near : (at to next link l : ℕ) (regs : ℕ → ℕ) → at ≤ 268435456 → to ≤ 268435456
      → next ≡ at + 1 → HasAll c (address at) (Jal link (offset at to) ∷ [])
      → Goes (Jump link l) 3 (address next) (here regs (address at))
      (here (set_reg regs link (address next)) (address to))
  jump_near at to next link l regs ha ht e has =
      let four : address to % 4 ≡ 0 = omega arith in
      let behind : address at + 4 ≡ address next = omega arith in
      let closed = closes (Jump link l) (Jal link (offset at to)) (address next)
      (here regs (address at)) (has.0.reads regs rest) refl refl (λ jump. behind) in
      record {
        steps = 1;
        few = omega arith;
        climbs = (
          omega arith,
          (
            jal c (address at) regs rest link (offset at to) (address to) has.0.holds
                (offset_lands at to (omega arith) ht) four ∙ ap
                (λ v. Next (here (set_reg regs link v) (address to))) behind,
            closed,
          ),
        );
      }

  jump_by_address : (b : Bool) (at to next link l : ℕ) (regs : ℕ → ℕ) → nat_eq link 0 ≡ b
      → at ≤ 268435456 → to ≤ 268435456 → next ≡ at + 2
      → HasAll c (address at) (by_address (if b then 7 else link) link at to)
      → Goes (Jump link l) 3 (address next) (here regs (address at))
      (here (if b then set_reg (set_reg regs link (address next)) 7 (halfway at to)
      else set_reg regs link (address next)) (address to))
  jump_by_address true at to next link l regs z ha ht e has =
      let zero_is = eqb-true link 0 z in
      let behind : address at + 4 + 4 ≡ address next = omega arith in
      let more = by_address_goes (Jump link l) 7 link at to (address at) (address next) regs refl
      refl (λ s. cc) (λ a b. cc) (omega arith) ht refl behind has in
      let same : set_reg (set_reg regs 7 (halfway at to)) link (address at + 4 + 4) ≡ set_reg
      (set_reg regs link (address next)) 7 (halfway at to) =
      ap (λ v. set_reg (set_reg regs 7 (halfway at to)) link v) behind ∙ set_both regs 7 link
      (halfway at to) (address next) (λ s. omega arith) in
      record {
        steps = 2;
        few = omega arith;
        climbs
            = subst (λ r. StepsAtRisingPcs (Jump link l) 2 (address next) (here regs (address at))
            (here r (address to))) same more;
      }
  jump_by_address false at to next link l regs z ha ht e has =
      let some = eqb-false link 0 z in
      let behind : address at + 4 + 4 ≡ address next = omega arith in
      let more = by_address_goes (Jump link l) link link at to (address at) (address next) regs refl
      refl some (λ a b. some a) (omega arith) ht refl behind has in
      let same : set_reg (set_reg regs link (halfway at to)) link (address at + 4 + 4) ≡ set_reg
      regs link (address next) =
      ap (λ v. set_reg (set_reg regs link (halfway at to)) link v) behind ∙ set_again regs link
      (halfway at to) (address next) in
      record {
        steps = 2;
        few = omega arith;
        climbs
            = subst (λ r. StepsAtRisingPcs (Jump link l) 2 (address next) (here regs (address at))
            (here r (address to))) same more;
      }

  pub jump_goes : (w : Way) (at to next link l : ℕ) (regs : ℕ → ℕ) → at ≤ 268435456 → to ≤ 268435456
      → next ≡ at + jump_width w → HasAll c (address at) (jump_code w at to link)
      → Goes (Jump link l) 3 (address next) (here regs (address at))
      (here (jump_far w at to link (set_reg regs link (address next))) (address to))
  jump_goes ByBranch at to next link l regs ha ht e has
      = jump_near at to next link l regs ha ht e has
  jump_goes ByJump at to next link l regs ha ht e has = jump_near at to next link l regs ha ht e has
  jump_goes ByAddress at to next link l regs ha ht e has
      = jump_by_address (nat_eq link 0) at to next link l regs refl ha ht e has

-- ---- plain instructions

-- what goes on goes on behind the instruction
abbrev pub Behind : (pc : ℕ) → Outcome → Type 0
Behind pc (Next t) = t.pc ≡ pc
Behind pc (Written a len bytes t) = t.pc ≡ pc
Behind pc (Asked a) = Unit {0}
Behind pc (Ended code) = Unit {0}
Behind pc (Trapped kind) = Unit {0}

either : (pc : ℕ) (b : Bool) (x y : Outcome) → Behind pc x → Behind pc y
    → Behind pc (if b then x else y)
either pc true x y hx hy = hx
either pc false x y hx hy = hy

loads : (s : State) (r : ℕ) (v : ℕ → ℕ) (len : ℕ) (a : Access)
    → Behind (plus s.pc 4) (loaded s r v len a)
loads s r v len (Outside a) = tt
loads s r v len (At n o) = refl

stores : (s : State) (bytes : List ℕ) (a : Access) → Behind (plus s.pc 4) (stored s bytes a)
stores s bytes (Outside a) = tt
stores s bytes (At n o) = refl

writes : (s : State) (address len : ℕ) (a : Access)
    → Behind (plus s.pc 4) (write_from s address len a)
writes s address len (Outside a) = tt
writes s address len (At n o) = refl

asks : (pc address : ℕ) (a : Access) → Behind pc (asked address a)
asks pc address (Outside a) = tt
asks pc address (At n o) = tt

load_behind : (s : State) (r : ℕ) (v : ℕ → ℕ) (len address : ℕ)
    → Behind (plus s.pc 4) (load s r v len address)
load_behind s r v len address =
    either (plus s.pc 4) (nat_eq (address % len) 0)
    (loaded s r v len (access Read s.memory address len)) (Trapped (MisalignedAccess address))
    (loads s r v len (access Read s.memory address len)) tt

store_behind : (s : State) (v len address : ℕ) → Behind (plus s.pc 4) (store s v len address)
store_behind s v len address =
    either (plus s.pc 4) (nat_eq (address % len) 0)
    (stored s (bytes_of len v) (access Write s.memory address len))
    (Trapped (MisalignedAccess address))
    (stores s (bytes_of len v) (access Write s.memory address len)) tt

write_behind : (s : State) (file address len : ℕ) → Behind (plus s.pc 4)
    (write_call s file address len)
write_behind s file address len =
    let from = write_from s address len (access Read s.memory address len) in
    either (plus s.pc 4) (nat_eq file 1) (if nat_eq len 0 then written s address 0 [] else from)
    (put s 10 no_file)
    (either (plus s.pc 4) (nat_eq len 0) (written s address 0 []) from refl
    (writes s address len (access Read s.memory address len))) refl

read_behind : (s : State) (file address len : ℕ) → Behind (plus s.pc 4)
    (read_call s file address len)
read_behind s file address len =
    let byte = asked address (access Write s.memory address len) in
    either (plus s.pc 4) (nat_eq file 0) (if nat_eq len 0 then put s 10 0 else byte)
    (put s 10 no_file)
    (either (plus s.pc 4) (nat_eq len 0) (put s 10 0) byte refl
    (asks (plus s.pc 4) address (access Write s.memory address len))) refl

call_behind : (s : State) → Behind (plus s.pc 4) (call s)
call_behind s =
    let number = reg s 17 in
    let writing = write_call s (reg s 10) (reg s 11) (reg s 12) in
    let reading = read_call s (reg s 10) (reg s 11) (reg s 12) in
    let unknown : Outcome = if nat_eq number 63 then reading else Trapped (UnknownCall number) in
    let more : Outcome = if nat_eq number 64 then writing else unknown in
    either (plus s.pc 4) (nat_eq number 93) (Ended (reg s 10)) more tt
    (either (plus s.pc 4) (nat_eq number 64) writing unknown
    (write_behind s (reg s 10) (reg s 11) (reg s 12))
    (either (plus s.pc 4) (nat_eq number 63) reading (Trapped (UnknownCall number))
    (read_behind s (reg s 10) (reg s 11) (reg s 12)) tt))

pub plain_goes_behind : (s : State) (i : Instr) → IsPlain (Plain i) → is_return i ≡ false
    → Behind (plus s.pc 4) (act s i)
plain_goes_behind s (Lui rd imm) p other = refl
plain_goes_behind s (Auipc rd imm) p other = absurd p
plain_goes_behind s (Jal rd off) p other = absurd p
plain_goes_behind s (Jalr rd rs1 imm) p other = absurd (true≢false (sym p ∙ other))
plain_goes_behind s (Branch' kind rs1 rs2 off) p other = absurd p
plain_goes_behind s (Load kind rd rs1 imm) p other = load_behind s rd (load_value kind)
    (load_size kind) (plus (reg s rs1) (pattern imm))
plain_goes_behind s (Store kind rs2 rs1 imm) p other
    = store_behind s (reg s rs2) (store_size kind) (plus (reg s rs1) (pattern imm))
plain_goes_behind s (OpImm kind rd rs1 imm) p other = refl
plain_goes_behind s (Shift kind rd rs1 amount) p other = refl
plain_goes_behind s (Op kind rd rs1 rs2) p other = refl
plain_goes_behind s (Fence top rs1 rd) p other = refl
plain_goes_behind s Ecall p other = call_behind s
plain_goes_behind s Ebreak p other = tt

-- the one instruction that returns
pub return_is : (i : Instr) → is_return i ≡ true → i ≡ Jalr 0 1 (pos 0)
return_is (Jalr rd rs1 (pos imm)) h =
    let a = and_parts (nat_eq rd 0) (nat_eq rs1 1 && nat_eq imm 0) h in
    let b = and_parts (nat_eq rs1 1) (nat_eq imm 0) a.1 in
    let e0 = eqb-true rd 0 a.0 in
    let e1 = eqb-true rs1 1 b.0 in
    let e2 = eqb-true imm 0 b.1 in
    λ i. Jalr (e0 i) (e1 i) (pos (e2 i))
return_is (Jalr rd rs1 (negsuc imm)) h = absurd (true≢false (sym h))
return_is (Lui rd imm) h = absurd (true≢false (sym h))
return_is (Auipc rd imm) h = absurd (true≢false (sym h))
return_is (Jal rd off) h = absurd (true≢false (sym h))
return_is (Branch' kind rs1 rs2 off) h = absurd (true≢false (sym h))
return_is (Load kind rd rs1 imm) h = absurd (true≢false (sym h))
return_is (Store kind rs2 rs1 imm) h = absurd (true≢false (sym h))
return_is (OpImm kind rd rs1 imm) h = absurd (true≢false (sym h))
return_is (Shift kind rd rs1 amount) h = absurd (true≢false (sym h))
return_is (Op kind rd rs1 rs2) h = absurd (true≢false (sym h))
return_is (Fence top rs1 rd) h = absurd (true≢false (sym h))
return_is Ecall h = absurd (true≢false (sym h))
return_is Ebreak h = absurd (true≢false (sym h))

-- a plain instruction does not link x1
pub plain_links_nothing : (i : Instr) → IsPlain (Plain i) → writes_link (Some i) ≡ false
plain_links_nothing (Jalr rd rs1 imm) p = ap (λ j. writes_link (Some j))
    (return_is (Jalr rd rs1 imm) p)
plain_links_nothing (Jal rd off) p = absurd p
plain_links_nothing (Lui rd imm) p = refl
plain_links_nothing (Auipc rd imm) p = refl
plain_links_nothing (Branch' kind rs1 rs2 off) p = refl
plain_links_nothing (Load kind rd rs1 imm) p = refl
plain_links_nothing (Store kind rs2 rs1 imm) p = refl
plain_links_nothing (OpImm kind rd rs1 imm) p = refl
plain_links_nothing (Shift kind rd rs1 amount) p = refl
plain_links_nothing (Op kind rd rs1 rs2) p = refl
plain_links_nothing (Fence top rs1 rd) p = refl
plain_links_nothing Ecall p = refl
plain_links_nothing Ebreak p = refl
