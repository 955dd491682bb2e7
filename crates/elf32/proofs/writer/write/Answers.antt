use Rattle.std.proofs.Common.{◌≡◌, List, ℕ, ◌*◌, sym, subst, length}
use Rattle.elf32.specs.File.{headers, program}
use Rattle.elf32.specs.Rules.{Loads}
use Rattle.elf32.proofs.Written.{loads, pieces}
use Rattle.elf32.proofs.writer.write.Goals as goal

pub returns-clause-bytes : goal.returns-clause-bytes
returns-clause-bytes c =
    let front : c.put_headers.new.file.items ≡ headers (4 * length c.args.code.now)
    c.args.heap_bytes c.args.stack_bytes = cc
    (c.in_ok-put_headers.ensures, c.in_ok-file.ensures.items) in
    pieces c.args.code.now c.args.heap_bytes c.args.stack_bytes _ _ _ front c.in_ok-pad.ensures
    c.in_ok-put_words.ensures

pub returns-clause-loads : goal.returns-clause-loads
returns-clause-loads c =
    let front : c.put_headers.new.file.items ≡ headers (4 * length c.args.code.now)
    c.args.heap_bytes c.args.stack_bytes = cc
    (c.in_ok-put_headers.ensures, c.in_ok-file.ensures.items) in
    let whole = pieces c.args.code.now c.args.heap_bytes c.args.stack_bytes _ _ _ front
    c.in_ok-pad.ensures c.in_ok-put_words.ensures in
    subst (λ (file : List ℕ). Loads file
    (program c.args.code.now c.args.heap_bytes c.args.stack_bytes)) (sym whole)
    (loads c.args.code.now c.args.heap_bytes c.args.stack_bytes c.requires)
