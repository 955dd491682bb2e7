use Rattle.rv32_steps.proofs.Bytes.{bytes_are_written, bytes_are_asked, bytes_are_taken}
use Rattle.rv32_steps.proofs.byte_calls_use_words.Goals as goal

pub returns : goal.returns
returns c = record { written = bytes_are_written; asked = bytes_are_asked; taken = bytes_are_taken }
