use Rattle.std.proofs.Common.{◌≡◌, ◌∙◌, subst}
use Rattle.elf32.specs.Image.{IsLoadable}
use Rattle.elf32.specs.Headers.{headers_of}
use Rattle.elf32.proofs.Loading.{headers_inside, loadable, assembled}
use Rattle.elf32.proofs.reader.read.Goals as goal

pub program_headers-requires-clause-inside : goal.program_headers-requires-clause-inside
program_headers-requires-clause-inside c = headers_inside c.args.file.now
    c.in_ok-check_file.ensures.ok.1

pub invariant_of-result : goal.invariant_of-result
invariant_of-result c =
    let same : c.deref-2.result.now ≡ headers_of c.args.file.now
    = c.deref-2.ensures.value ∙ c.in_ok-headers.ensures.headers in
    let whole = assembled c.args.file.now c.deref-2.result.now c.word_at-entry.result
    c.in_ok-segments.segments same c.word_at-entry.ensures c.in_ok-segments.ensures in
    subst IsLoadable whole (loadable c.args.file.now c.in_ok-check_segments.ensures.sound)
