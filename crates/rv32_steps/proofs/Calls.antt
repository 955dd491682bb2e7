-- Calls: what a program writes, reads, and ends with.
use Rattle.std.proofs.Common.{◌≡◌, ℕ, ◌+◌, List, [], ◌∷◌, false, Some, ap, ◌∙◌, subst, arith}
use Rattle.std.specs.Prelude.{nat_eq, if◌then◌else◌}
use Rattle.std.proofs.lemmas.Bool.Decides.{nat_tests}
use Rattle.rv32_isa.specs.declared.instr.Instr.TheVariants.{Ecall}
use Rattle.rv32_machine.specs.declared.memory.Right.TheVariants.{Read, Write}
use Rattle.rv32_machine.specs.declared.memory.Access.TheVariants.{At}
use Rattle.rv32_machine.specs.declared.machine.TrapKind.TheVariants.{UnknownCall}
use Rattle.rv32_machine.specs.Memory.{Stretch, access, bytes_at, bytes_of, stored_at, stored_to}
use Rattle.rv32_machine.specs.Arithmetic.{plus}
use Rattle.rv32_machine.specs.Steps.{State, Outcome, Written, Ended, Trapped, step, set_reg, write_call, write_from, written, read_call, asked, given}
use Rattle.rv32_steps.specs.Leads.{at, StepsToOnInput}
use Rattle.rv32_steps.specs.Code.{InstructionIsAt}
use Rattle.rv32_steps.specs.Laws.{HasCallRegisters, WriteCallsWrite, ReadCallsTake, ReadCallsEnd, ExitCallsEnd}
use Rattle.rv32_steps.proofs.Moves.{on_input, one_write, one_read, one_exit}

-- by the number in x17
unfoldable pub dispatch : State → ℕ → ℕ → ℕ → ℕ → Outcome
dispatch s number file address len =
    if nat_eq number 93 then Ended file
    else if nat_eq number 64 then write_call s file address len
    else if nat_eq number 63 then read_call s file address len
    else Trapped (UnknownCall number)

pub write : WriteCallsWrite
unfolding dispatch
write c pc regs rest a len segment offset input h r some e =
    let m = c ∷ rest in
    let s : State = at regs pc m in
    let full : nat_eq len 0 ≡ false = grind (arith, nat_tests) in
    on_input input (one_write _ _ a len _ (h.steps regs rest
    ∙ ap (λ x. dispatch s x (regs 10) (regs 11) (regs 12)) r.number_is
    ∙ ap (λ x. write_call s x (regs 11) (regs 12)) r.file_is
    ∙ ap (λ x. write_call s 1 x (regs 12)) r.address_is
    ∙ ap (λ x. write_call s 1 a x) r.len_is
    ∙ ap (λ b. if b then written s a 0 [] else write_from s a len (access Read m a len)) full
    ∙ ap (write_from s a len) e
    ∙ ap (λ p. Written a len (bytes_at m segment offset len) (at (set_reg regs 10 len) p m))
    h.next))

asks : (c : Stretch) (pc : ℕ) (regs : ℕ → ℕ) (rest : List Stretch) (a segment offset : ℕ)
    → InstructionIsAt c pc Ecall → HasCallRegisters 63 0 a 1 regs
    → access Write (c ∷ rest) a 1 ≡ At segment offset
    → step (at regs pc (c ∷ rest)) ≡ asked a (At segment offset)
unfolding dispatch
asks c pc regs rest a segment offset h r e =
    let m = c ∷ rest in
    let s : State = at regs pc m in
    h.steps regs rest
    ∙ ap (λ x. dispatch s x (regs 10) (regs 11) (regs 12)) r.number_is
    ∙ ap (λ x. read_call s x (regs 11) (regs 12)) r.file_is
    ∙ ap (λ x. read_call s 0 x (regs 12)) r.address_is
    ∙ ap (λ x. read_call s 0 a x) r.len_is
    ∙ ap (asked a) e

pub read : ReadCallsTake
read c pc regs rest a segment offset byte input h r e =
    let m = c ∷ rest in
    let s : State = at regs pc m in
    let answer : given s (Some byte) ≡ at (set_reg regs 10 1) (pc + 4)
    (stored_at m segment offset (bytes_of 1 byte)) =
    ap (λ x. at (set_reg regs 10 1) (plus pc 4)
    (stored_to m (bytes_of 1 byte) (access Write m x 1))) r.address_is
    ∙ ap (λ x. at (set_reg regs 10 1) (plus pc 4) (stored_to m (bytes_of 1 byte) x)) e
    ∙ ap (λ p. at (set_reg regs 10 1) p (stored_at m segment offset (bytes_of 1 byte))) h.next in
    subst (λ t. StepsToOnInput 1 (byte ∷ input) s [] input t) answer
    (one_read s a (byte ∷ input) (asks c pc regs rest a segment offset h r e))

pub read_end : ReadCallsEnd
read_end c pc regs rest a segment offset h r e =
    let s : State = at regs pc (c ∷ rest) in
    subst (λ t. StepsToOnInput 1 [] s [] [] t)
    (ap (λ p. at (set_reg regs 10 0) p (c ∷ rest)) h.next)
    (one_read s a [] (asks c pc regs rest a segment offset h r e))

pub leave : ExitCallsEnd
unfolding dispatch
leave c pc regs rest input h number =
    let s : State = at regs pc (c ∷ rest) in
    one_exit _ _ input
    (h.steps regs rest ∙ ap (λ x. dispatch s x (regs 10) (regs 11) (regs 12)) number)
