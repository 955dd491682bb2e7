use Rattle.rv32_steps.proofs.Calls.{write, read, read_end, leave}
use Rattle.rv32_steps.proofs.system_calls_work.Goals as goal

pub returns : goal.returns
returns c = record { writes = write; reads = read; reads_end = read_end; exits = leave }
