-- The numbers and lines of the statuses.
use Rattle.std.specs.Prelude.{ℕ, List, [], ◌++◌, codes, decimal}
use Rattle.rv32_machine.specs.declared.machine.TrapKind.{TrapKind}
use Rattle.rv32_machine.specs.declared.machine.TrapKind.TheVariants.{IllegalInstruction, MisalignedJump, MisalignedAccess, AccessOutside, UnknownCall, Breakpoint}
use Rattle.text_commands.specs.declared.status.Status.{Status}
use Rattle.text_commands.specs.declared.status.Status.TheVariants.{Done, Refused, Usage, NoAlternative, HeapFull, StackFull, StepLimit, Exited, Trapped, OutOfMemory, ReadFault, WriteFault}

-- the status of the process
abbrev pub exit_code_of : Status → ℕ
exit_code_of Done = 0
exit_code_of (Refused rule number) = 1
exit_code_of Usage = 2
exit_code_of NoAlternative = 3
exit_code_of HeapFull = 4
exit_code_of StackFull = 5
exit_code_of StepLimit = 6
exit_code_of (Exited code) = 7
exit_code_of (Trapped kind pc) = 7
exit_code_of OutOfMemory = 8
exit_code_of ReadFault = 9
exit_code_of WriteFault = 10

-- the reason of a trap
abbrev pub trap_kind_text : TrapKind → List ℕ
trap_kind_text (IllegalInstruction word) = codes "illegal-instruction " ++ decimal word
trap_kind_text MisalignedJump = codes "misaligned-jump"
trap_kind_text (MisalignedAccess address) = codes "misaligned-access " ++ decimal address
trap_kind_text (AccessOutside address) = codes "access-outside " ++ decimal address
trap_kind_text (UnknownCall number) = codes "unknown-call " ++ decimal number
trap_kind_text Breakpoint = codes "breakpoint"

-- the line on the error output
abbrev pub error_line_of : Status → List ℕ
error_line_of Done = []
error_line_of (Refused rule number) =
    codes "grinc: refused " ++ (decimal rule ++ (codes " at " ++ (decimal number ++ codes "\n")))
error_line_of Usage = codes "grinc: usage\n"
error_line_of NoAlternative = codes "grinc: no alternative\n"
error_line_of HeapFull = codes "grinc: heap full\n"
error_line_of StackFull = codes "grinc: stack full\n"
error_line_of StepLimit = codes "grinc: step limit\n"
error_line_of (Exited code) = codes "grinc: exited " ++ (decimal code ++ codes "\n")
error_line_of (Trapped kind pc) =
    codes "grinc: trap " ++ (trap_kind_text kind ++ (codes " at " ++ (decimal pc ++ codes "\n")))
error_line_of OutOfMemory = codes "grinc: out of memory\n"
error_line_of ReadFault = codes "grinc: read fault\n"
error_line_of WriteFault = codes "grinc: write fault\n"
