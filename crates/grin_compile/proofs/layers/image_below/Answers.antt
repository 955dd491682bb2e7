use Rattle.std.proofs.Common.{◌≡◌, ◌*◌, ◌<◌, ◌≤◌, length, ap, sym, ◌∙◌, subst, arith}
use Rattle.elf32.specs.File as elf
use Rattle.elf32.specs.Rules.{Loads}
use Rattle.grin_syntax.specs.Tree.{program_of}
use Rattle.low_code.specs.Tree as low
use Rattle.grin_compile.specs.Limits.{heap_bytes, whole_words}
use Rattle.grin_compile.proofs.CompiledProgram.{narrow_cells, small_heap, sizes_of, fits_layout}
use Rattle.grin_compile.proofs.layers.image_below.Goals as goal

pub layers_below-requires-clause-sizes : goal.layers_below-requires-clause-sizes
layers_below-requires-clause-sizes c = sizes_of c.args.options.cells c.args.options.stack
    c.requires.range

pub overflow_mul-heap-2 : goal.overflow_mul-heap-2
overflow_mul-heap-2 c =
    let stack = whole_words c.args.options.stack in
    let narrow = narrow_cells (program_of c.args.g.now) c.in_ok-layers.layers c.args.options.cells
    stack c.requires.lowerable c.in_ok-layers.ensures in
    omega (
      arith,
      small_heap c.in_ok-layers.layers.low.width c.args.options.cells narrow
          c.requires.range.few_cells,
    )

pub write-requires : goal.write-requires
write-requires c =
    let cells = c.args.options.cells in
    let layers = c.in_ok-layers.ensures in
    let narrow = narrow_cells (program_of c.args.g.now) c.in_ok-layers.layers cells
    (whole_words c.args.options.stack) c.requires.lowerable layers in
    let same = sym c.as_slice.ensures.value in
    fits_layout c.as_slice.result.now c.in_ok-layers.layers.low.width cells
    (whole_words c.args.options.stack)
    (subst (λ words. 0 < length words) same layers.some_words)
    (subst (λ words. length words ≤ 268435456) same layers.few_words)
    narrow (sizes_of cells c.args.options.stack c.requires.range)

pub returns : goal.returns
returns c =
    let g = program_of c.args.g.now in
    let cells = c.args.options.cells in
    let stack = whole_words c.args.options.stack in
    let layers = c.in_ok-layers.ensures in
    let code = c.as_slice.ensures.value in
    let file = c.in_ok-image.image.items in
    let heap : 4 * (low.program_of c.in_ok-layers.layers.low).width * cells ≡ heap_bytes g cells
    = ap (λ w. 4 * w * cells) layers.made.lowers.width in
    record {
      layers = layers;
      is_file = c.in_ok-image.ensures.bytes ∙ ap
          (λ words. elf.file_of words (4 * (low.program_of c.in_ok-layers.layers.low).width * cells)
          stack) code
          ∙ ap (λ h. elf.file_of c.in_ok-layers.layers.code.items h stack) heap;
      loads =
          subst (λ h. Loads file (elf.program c.in_ok-layers.layers.code.items h stack)) heap
          (subst (λ words. Loads file
          (elf.program words (4 * (low.program_of c.in_ok-layers.layers.low).width * cells)
          stack)) code c.in_ok-image.ensures.loads);
    }
