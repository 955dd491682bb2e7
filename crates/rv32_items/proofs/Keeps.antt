-- The code stays the first segment, whatever an instruction does.
use Rattle.std.proofs.Common.{◌≡◌, ℕ, zero, suc, ◌+◌, ◌-◌, ◌%◌, ◌^◌, ◌≤◌, Bool, true, false, nat_eq, nat_le, ◌&&◌, List, [], ◌∷◌, Option, Some, None, refl, sym, ap, ◌∙◌, arith}
use Rattle.std.specs.Prelude.{if◌then◌else◌}
use Rattle.rv32_isa.specs.declared.instr.Instr.{Instr}
use Rattle.rv32_isa.specs.declared.instr.Instr.TheVariants.{Lui, Auipc, Jal, Jalr, Branch, Load, Store, OpImm, Shift, Op, Fence, Ecall, Ebreak}
use Rattle.rv32_machine.specs.declared.memory.Right.{Right}
use Rattle.rv32_machine.specs.declared.memory.Right.TheVariants.{Read, Write}
use Rattle.rv32_machine.specs.declared.memory.Access.{Access}
use Rattle.rv32_machine.specs.declared.memory.Access.TheVariants.{At, Outside}
use Rattle.rv32_machine.specs.declared.machine.TrapKind.TheVariants.{MisalignedAccess, MisalignedJump, UnknownCall}
use Rattle.rv32_machine.specs.Memory.{Stretch, allows, is_in, end_of, segment_at, place_from, at_place, access, bytes_of, stored_at, stored_to}
use Rattle.rv32_machine.specs.Arithmetic.{plus, pattern, is_taken, load_value, load_size, store_size}
use Rattle.rv32_machine.specs.Steps.{State, Outcome, Next, Written, Asked, Ended, Trapped, act, reg, go_to, with_reg, next_pc, jump, load, loaded, store, stored, put, no_file, written, write_from, write_call, asked, read_call, given, call}
use Rattle.rv32_steps.specs.Leads.{at}

abbrev pub First : Stretch → List Stretch → Type 0
First c memory = (rest : List Stretch) × (memory ≡ c ∷ rest)

-- what goes on has the segment still
abbrev pub Keeps : Stretch → Outcome → Type 0
Keeps c (Next t) = First c t.memory
Keeps c (Written a len bytes t) = First c t.memory
Keeps c (Asked a) = Unit {0}
Keeps c (Ended code) = Unit {0}
Keeps c (Trapped kind) = Unit {0}

place_above : (right : Right) (a n k : ℕ) (memory : List Stretch)
    → place_from right a n memory ≡ Some k → n ≤ k
place_above right a n k [] e = cc
place_above right a n k (s ∷ memory) e = go (allows right s && is_in a s) e
    (λ h. place_above right a (n + 1) k memory h)
  where
    go : (b : Bool) → (if b then Some n else place_from right a (n + 1) memory) ≡ Some k
        → (place_from right a (n + 1) memory ≡ Some k → n + 1 ≤ k) → n ≤ k
    go true e rest = let same : n ≡ k = cc in omega arith
    go false e rest = let h = rest e in omega arith

-- a write does not go to a segment that may not be written
written_above : (c : Stretch) (rest : List Stretch) (a len n o : ℕ) → c.write ≡ false
    → access Write (c ∷ rest) a len ≡ At n o → 1 ≤ n
unfolding access
written_above c rest a len n o fixed e =
    let skip : place_from Write a 0 (c ∷ rest) ≡ place_from Write a 1 rest
    = ap (λ b. if b && is_in a c then Some 0 else place_from Write a 1 rest) fixed in
    go (place_from Write a 1 rest) refl (sym (ap (at_place (c ∷ rest) a len) skip) ∙ e)
  where
    inside : (k : ℕ) → 1 ≤ k → (b : Bool) →
        (if b then At k (a - (segment_at (c ∷ rest) k).first)
        else Outside (end_of (segment_at (c ∷ rest) k) % 2 ^ 32)) ≡ At n o → 1 ≤ n
    inside k h true e = let same : k ≡ n = cc in omega arith
    inside k h false e = cc

    go : (q : Option ℕ) → place_from Write a 1 rest ≡ q → at_place (c ∷ rest) a len q ≡ At n o
        → 1 ≤ n
    go None p e = cc
    go (Some k) p e = inside k (place_above Write a 1 k rest p)
        (nat_le (a + len) (end_of (segment_at (c ∷ rest) k))) e

stored_first : (c : Stretch) (rest : List Stretch) (n o : ℕ) (bytes : List ℕ) → 1 ≤ n
    → First c (stored_at (c ∷ rest) n o bytes)
stored_first c rest zero o bytes h = absurd (omega arith)
stored_first c rest (suc n) o bytes h = (_, refl)

module _ (c : Stretch) (fixed : c.write ≡ false) (regs : ℕ → ℕ) (pc : ℕ) (rest : List Stretch) where
  abbrev s : State
  s = at regs pc (c ∷ rest)

  same : First c (c ∷ rest)
  same = (rest, refl)

  either : (b : Bool) (x y : Outcome) → Keeps c x → Keeps c y → Keeps c (if b then x else y)
  either true x y hx hy = hx
  either false x y hx hy = hy

  loads : (r : ℕ) (v : ℕ → ℕ) (len : ℕ) (a : Access) → Keeps c (loaded s r v len a)
  loads r v len (Outside a) = tt
  loads r v len (At n o) = same

  load_keeps : (r : ℕ) (v : ℕ → ℕ) (len address : ℕ) → Keeps c (load s r v len address)
  load_keeps r v len address =
      either (nat_eq (address % len) 0) (loaded s r v len (access Read (c ∷ rest) address len))
      (Trapped (MisalignedAccess address))
      (loads r v len (access Read (c ∷ rest) address len)) tt

  stores : (bytes : List ℕ) (address len : ℕ) (a : Access) → access Write (c ∷ rest) address len ≡ a
      → Keeps c (stored s bytes a)
  stores bytes address len (Outside a) e = tt
  stores bytes address len (At n o) e = stored_first c rest n o bytes
      (written_above c rest address len n o fixed e)

  store_keeps : (v len address : ℕ) → Keeps c (store s v len address)
  store_keeps v len address =
      either (nat_eq (address % len) 0)
      (stored s (bytes_of len v) (access Write (c ∷ rest) address len))
      (Trapped (MisalignedAccess address))
      (stores (bytes_of len v) address len (access Write (c ∷ rest) address len) refl) tt

  writes : (address len : ℕ) (a : Access) → Keeps c (write_from s address len a)
  writes address len (Outside a) = tt
  writes address len (At n o) = same

  asks : (address : ℕ) (a : Access) → Keeps c (asked address a)
  asks address (Outside a) = tt
  asks address (At n o) = tt

  write_keeps : (file address len : ℕ) → Keeps c (write_call s file address len)
  write_keeps file address len =
      let from = write_from s address len (access Read (c ∷ rest) address len) in
      either (nat_eq file 1) (if nat_eq len 0 then written s address 0 [] else from)
      (put s 10 no_file)
      (either (nat_eq len 0) (written s address 0 []) from same
      (writes address len (access Read (c ∷ rest) address len))) same

  read_keeps : (file address len : ℕ) → Keeps c (read_call s file address len)
  read_keeps file address len =
      let byte = asked address (access Write (c ∷ rest) address len) in
      either (nat_eq file 0) (if nat_eq len 0 then put s 10 0 else byte) (put s 10 no_file)
      (either (nat_eq len 0) (put s 10 0) byte same
      (asks address (access Write (c ∷ rest) address len))) same

  call_keeps : Keeps c (call s)
  call_keeps =
      let number = reg s 17 in
      let writing = write_call s (reg s 10) (reg s 11) (reg s 12) in
      let reading = read_call s (reg s 10) (reg s 11) (reg s 12) in
      let unknown : Outcome = if nat_eq number 63 then reading else Trapped (UnknownCall number) in
      let more : Outcome = if nat_eq number 64 then writing else unknown in
      either (nat_eq number 93) (Ended (reg s 10)) more tt
      (either (nat_eq number 64) writing unknown (write_keeps (reg s 10) (reg s 11) (reg s 12))
      (either (nat_eq number 63) reading (Trapped (UnknownCall number))
      (read_keeps (reg s 10) (reg s 11) (reg s 12)) tt))

  jump_keeps : (target rd link : ℕ) → Keeps c (jump target (Next (with_reg s rd link target)))
  jump_keeps target rd link =
      either (nat_eq (target % 4) 0) (Next (with_reg s rd link target)) (Trapped MisalignedJump)
      same tt

  pub act_keeps : (i : Instr) → Keeps c (act s i)
  act_keeps (Lui rd imm) = same
  act_keeps (Auipc rd imm) = same
  act_keeps (Jal rd off) = jump_keeps (plus pc (pattern off)) rd (next_pc s)
  act_keeps (Jalr rd rs1 imm) = jump_keeps _ rd (next_pc s)
  act_keeps (Branch kind rs1 rs2 off) =
      let target = plus pc (pattern off) in
      either (is_taken kind (reg s rs1) (reg s rs2)) (jump target (Next (go_to s target)))
      (Next (go_to s (next_pc s)))
      (either (nat_eq (target % 4) 0) (Next (go_to s target)) (Trapped MisalignedJump) same tt) same
  act_keeps (Load kind rd rs1 imm) = load_keeps rd (load_value kind) (load_size kind)
      (plus (reg s rs1) (pattern imm))
  act_keeps (Store kind rs2 rs1 imm) = store_keeps (reg s rs2) (store_size kind)
      (plus (reg s rs1) (pattern imm))
  act_keeps (OpImm kind rd rs1 imm) = same
  act_keeps (Shift kind rd rs1 amount) = same
  act_keeps (Op kind rd rs1 rs2) = same
  act_keeps (Fence top rs1 rd) = same
  act_keeps Ecall = call_keeps
  act_keeps Ebreak = tt

  to_keeps : (bytes : List ℕ) (address len : ℕ) (a : Access)
      → access Write (c ∷ rest) address len ≡ a → First c (stored_to (c ∷ rest) bytes a)
  to_keeps bytes address len (Outside a) e = same
  to_keeps bytes address len (At n o) e = stored_first c rest n o bytes
      (written_above c rest address len n o fixed e)

  pub given_keeps : (byte : Option ℕ) → First c (given s byte).memory
  given_keeps None = same
  given_keeps (Some b) = to_keeps (bytes_of 1 b) (reg s 11) 1 (access Write (c ∷ rest) (reg s 11) 1)
      refl
