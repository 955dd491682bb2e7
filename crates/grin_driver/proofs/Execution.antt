-- The runs of executables.
use Rattle.std.proofs.Common.{◌≡◌, ℕ, zero, suc, ◌<◌, false, List, length, Option, Some, None, refl, sym, subst, arith}
use Rattle.elf32.specs.Image.{Image}
use Rattle.elf32.specs.Rules.{Breaks, KeepsBelow, rule}
use Rattle.elf32.specs.declared.refusal.ElfRefusal.{ElfRefusal}
use Rattle.elf32.specs.declared.refusal.ElfRefusal.TheVariants.{ImageTooLong, Memory}
use Rattle.grin_io.specs.Changes.{SourceChange, SinkChange, FaultWasCounted}
use Rattle.grin_io.specs.declared.outside.Fault.{Fault}
use Rattle.rv32_machine.specs.Steps.{Stand, IsAt, start_of, state_of}
use Rattle.rv32_machine.specs.Runs.{MachineEnd, Going, Exited, Stopped, StandsAt, run, IsRunAnswer, BrokenByIoFault}
use Rattle.rv32_machine.specs.declared.machine.Stop.{Stop}
use Rattle.rv32_machine.specs.declared.machine.Stop.TheVariants.{Steps, Exit, Trap}
use Rattle.text_commands.specs.declared.status.Status.{Status}
use Rattle.text_commands.specs.declared.status.Status.TheVariants.{Refused, OutOfMemory}
use Rattle.grin_driver.specs.Execution.{IsUnloadable, shown_number, status_of, stop_at, OfGiven, Stops, Fails, Execution}
use Rattle.grin_driver.specs.Costs.{CostsExecution}
use Rattle.grin_driver.specs.declared.cost.Cost.{Cost}
use Rattle.elf32.proofs.Chain.{below40}

-- a refusal that is no want of memory is the smallest broken rule
pub unloadable : (r : ElfRefusal) (bytes : List ℕ) → Breaks r bytes × KeepsBelow (rule r) bytes
    → IsUnloadable bytes (rule r) (shown_number r)
unloadable r bytes h = record
    { refusal = r; broken = h.0; smallest = h.1; rule_is = refl; number_is = refl }

-- ---- images that are too long

-- of an image that is too long so much of its front is too long
unloadable_long : (front bytes : List ℕ) → 1342177280 < length front → 1342177280 < length bytes
    → (k at : ℕ) → IsUnloadable front k at → IsUnloadable bytes k at
unloadable_long front bytes short long k at u = go u.refusal u.broken u.smallest u.rule_is
    u.number_is
  where
    go : (r : ElfRefusal) → Breaks r front → KeepsBelow (rule r) front → rule r ≡ k
        → shown_number r ≡ at → IsUnloadable bytes k at
    go ImageTooLong broken smallest rule_is number_is
        = record {
          refusal = ImageTooLong;
          broken = long;
          smallest = below40 bytes;
          rule_is
              = rule_is;
          number_is = number_is;
        }
    go (Memory e) broken smallest rule_is number_is = absurd broken
    go r broken smallest rule_is number_is = absurd (smallest ImageTooLong (omega arith) short)

-- ---- the statuses

-- no answer of the machine is a refusal
pub refuses_none : (stop : Stop) (k at : ℕ) → status_of stop ≡ Refused k at → ⊥
refuses_none Steps k at e = cc
refuses_none (Exit zero) k at e = cc
refuses_none (Exit (suc code)) k at e = cc
refuses_none (Trap kind pc) k at e = cc

-- the end that an answer of the machine names
stop_is : (e : MachineEnd) (stop : Stop) (m : Stand) → StandsAt e stop m → stop_at e ≡ stop
stop_is (Going s) stop m h = sym h.0
stop_is (Exited code s) stop m h = sym h.0
stop_is (Stopped kind s) stop m h = sym h.0

module _ {I K : Type 0} (i : SourceChange I) (o : SinkChange K) where
  -- what the machine answers of a run from the start of a program
  pub stops_as : (program : Image) (new : Stand) (steps : ℕ) (stop : Stop)
      → (a : IsRunAnswer i o steps (start_of program) stop new)
      → Stops i o program steps stop a.given a.ended
  stops_as program new steps stop a = record {
    gave = a.gave;
    wanted = a.wanted;
    stands = λ bytes b. let s = a.stays bytes b in
        (stop_is (run steps bytes (start_of program)).end stop new s.stands, s.used_is);
    took = a.took;
  }

  pub failed : (program : Image) (m : Stand) (steps : ℕ) (fault : Fault)
      → IsAt m (start_of program) false false
      → FaultWasCounted fault i o → BrokenByIoFault i o steps (state_of m) fault
      → OfGiven i o (Fails i o program steps fault)
  failed program m steps fault begins raised h =
      let a : BrokenByIoFault i o steps (start_of program) fault
      = subst (λ s. BrokenByIoFault i o steps s fault) begins.0 h in (
        a.given,
        (
          a.ended,
          record
              { raised = raised; gave = a.gave; wanted = a.wanted; uses = a.uses; puts = a.puts },
        ),
      )

  pub execution_long : (front bytes : List ℕ) (steps : ℕ) → 1342177280 < length front
      → 1342177280 < length bytes → (status : Status)
      → (h : Execution i o front steps status) → (cost : Option Cost)
      → CostsExecution i o front steps status h cost
      → (ran : Execution i o bytes steps status) × CostsExecution i o bytes steps status ran cost
  execution_long front bytes steps short long (Refused k at) h None none =
      ((unloadable_long front bytes short long k at h.0, h.1), none)
  execution_long front bytes steps short long (Refused k at) h (Some cost) is = absurd is.2
  execution_long front bytes steps short long OutOfMemory h None none = (h, none)
  execution_long front bytes steps short long OutOfMemory h (Some cost) is = absurd is.2
  execution_long front bytes steps short long _ h cost is
      = absurd (h.1.unbroken ImageTooLong (omega arith) short)
