-- A walk from the start names the files of the whole line.
use Rattle.std.proofs.Common.{map, string_bytes, refl}
use Rattle.command_line.proofs.Links.{files_of_words}
use Rattle.command_line.proofs.files.FileOperands.read.Goals as goal

pub loop-word-init : goal.loop-word-init
loop-word-init c = record
    { counted = refl; said = files_of_words (map string_bytes c.args.words.now) }
