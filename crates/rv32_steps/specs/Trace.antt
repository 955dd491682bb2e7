-- The procedures that a run enters, by their addresses, how it goes forward between them, and where
-- it leaves them.
use Rattle.std.specs.Prelude.{◌⊎◌, ◌≡◌, ℕ, zero, suc, ◌<◌, ◌≤◌, pos, nat_eq, ◌&&◌, ◌||◌, Bool, true, false, if◌then◌else◌, List, [], ◌∷◌, ◌++◌, drop, Option, Some, None, slice_get}
use Rattle.rv32_isa.specs.declared.instr.Instr.{Instr}
use Rattle.rv32_isa.specs.declared.instr.Instr.TheVariants.{Jal, Jalr}
use Rattle.rv32_isa.specs.Table.{instr_of}
use Rattle.rv32_machine.specs.declared.memory.Right.TheVariants.{Execute}
use Rattle.rv32_machine.specs.Memory.{access, read_at, little_endian}
use Rattle.rv32_machine.specs.Arithmetic.{plus}
use Rattle.rv32_machine.specs.Steps.{State, Outcome, Next, Written, Asked, Ended, Trapped, step, given}

-- the places of the instructions behind an outcome
abbrev pub trace_after : (rest : List ℕ → State → List ℕ) → (input : List ℕ)
    → State → Outcome → List ℕ
trace_after rest input s (Next t) = rest input t
trace_after rest input s (Written a len bytes t) = rest input t
trace_after rest input s (Asked a) = rest (drop 1 input) (given s (slice_get input 0))
trace_after rest input s (Ended code) = []
trace_after rest input s (Trapped kind) = []

-- the place of the instruction of each of so many steps on an input
unfoldable pub trace : ℕ → (input : List ℕ) → State → List ℕ
trace zero input s = []
trace (suc m) input s = s.pc ∷ trace_after (trace m) input s (step s)

abbrev pub is_one_of : List ℕ → ℕ → Bool
is_one_of [] a = false
is_one_of (b ∷ bs) a = nat_eq a b || is_one_of bs a

abbrev pub AllDifferent : List ℕ → Type 0
AllDifferent [] = Unit {0}
AllDifferent (a ∷ bs) = (is_one_of bs a ≡ false) × AllDifferent bs

-- the number of the procedure that has this address, or label; they are counted from f
abbrev pub procedure_from : (f : ℕ) → (begins : List ℕ) → ℕ → List ℕ
procedure_from f [] a = []
procedure_from f (b ∷ bs) a = if nat_eq a b then f ∷ [] else procedure_from (suc f) bs a

-- the procedures that are met on a way, in order
abbrev pub procedures_at : (begins way : List ℕ) → List ℕ
procedures_at begins [] = []
procedures_at begins (a ∷ way) = procedure_from 0 begins a ++ procedures_at begins way

-- ---- the last step before an address

-- each address of a way is this one, or lies behind it
abbrev pub AllAtOrAfter : (end : ℕ) → (way : List ℕ) → Type 0
AllAtOrAfter end [] = Unit {0}
AllAtOrAfter end (a ∷ way) = (end ≤ a) × AllAtOrAfter end way

-- the last address of a way that lies before `end`
pub record IsLastBefore (end : ℕ) (way : List ℕ) (at : ℕ) : Type 0 where
  pub before : List ℕ
  pub behind : List ℕ
  pub splits : way ≡ before ++ at ∷ behind
  pub below : at < end
  pub past : AllAtOrAfter end behind

-- ---- going forward

abbrev pub decoded : Option (List ℕ) → Option Instr
decoded None = None
decoded (Some bytes) = instr_of (little_endian bytes)

abbrev pub instruction_at : State → Option Instr
instruction_at s = decoded (read_at s.memory 4 (access Execute s.memory s.pc 4))

abbrev pub writes_link : Option Instr → Bool
writes_link (Some (Jal rd off)) = nat_eq rd 1
writes_link (Some (Jalr rd rs1 imm)) = nat_eq rd 1
writes_link _ = false

-- a return: `jalr x0, 0(x1)`
abbrev pub is_return : Instr → Bool
is_return (Jalr rd rs1 (pos imm)) = nat_eq rd 0 && (nat_eq rs1 1 && nat_eq imm 0)
is_return _ = false

abbrev pub returns : Option Instr → Bool
returns None = false
returns (Some i) = is_return i

module _ (addresses : List ℕ) where
  abbrev pub NoneBetween : ℕ → ℕ → Type 0
  NoneBetween a b = (c : ℕ) → a < c → c < b → is_one_of addresses c ≡ false

  -- no procedure is entered any more
  abbrev pub Leaves : (input : List ℕ) → State → Type 0
  Leaves input s = (m : ℕ) → procedures_at addresses (trace m input s) ≡ []

  -- to where a procedure begins; or on, with none that begins in between; or on to where none is
  -- entered any more
  abbrev pub Onward : (from : ℕ) → (input : List ℕ) → State → Type 0
  Onward from input s =
      (is_one_of addresses s.pc ≡ true)
      ⊎ (((from < s.pc) × NoneBetween from s.pc) ⊎ ((from < s.pc) × Leaves input s))

  abbrev pub back_to : (rest : List ℕ → State → (calls : List ℕ) → Type 0)
      → (input calls : List ℕ) → State → Type 0
  back_to rest input [] t = ⊥
  back_to rest input (a ∷ calls) t = (t.pc ≡ a) × rest input t calls

  -- where s went to t, with these calls open: a call opens one more, a return closes the last one,
  -- and every other step goes on
  abbrev pub forward_by : (rest : List ℕ → State → (calls : List ℕ) → Type 0) → (input : List ℕ)
      → State → (calls : List ℕ) → State → (closes opens : Bool) → Type 0
  forward_by rest input s calls t true opens = back_to rest input calls t
  forward_by rest input s calls t false true = rest input t (plus s.pc 4 ∷ calls)
  forward_by rest input s calls t false false = Onward s.pc input t × rest input t calls

  abbrev pub forward_to : (rest : List ℕ → State → (calls : List ℕ) → Type 0)
      → (input : List ℕ) → State → (calls : List ℕ) → Outcome → Type 0
  forward_to rest input s calls (Next t) =
      let i = instruction_at s in
      forward_by rest input s calls t (returns i) (writes_link i && is_one_of addresses t.pc)
  forward_to rest input s calls (Written a len bytes t) = Onward s.pc input t × rest input t calls
  forward_to rest input s calls (Asked a) =
      let t = given s (slice_get input 0) in
      Onward s.pc (drop 1 input) t × rest (drop 1 input) t calls
  forward_to rest input s calls (Ended code) = Unit {0}
  forward_to rest input s calls (Trapped kind) = ⊥

  -- the run goes forward for so many steps; `calls` are the addresses behind the calls that are
  -- open, the last call first
  unfoldable pub Forward : ℕ → (input : List ℕ) → State → (calls : List ℕ) → Type 0
  Forward zero input s calls = Unit {0}
  Forward (suc m) input s calls = forward_to (λ i t c. Forward m i t c) input s calls (step s)
