use Rattle.std.proofs.Common.{◌≡◌, map, ap, arith}
use Rattle.grin_syntax.specs.Tree.{procedure_of, program_of}
use Rattle.inline_theory.specs.Size.{total}
use Rattle.inline_theory.specs.Applications.{inlined_size}
use Rattle.points_to.specs.Found.{found}
use Rattle.inline_theory.specs.Expanded.{expanded_procedure}
use Rattle.inline_theory.proofs.Measured.{measured}
use Rattle.inline_theory.proofs.OneArgumentMore.{have_next}
use Rattle.apply_inline.proofs.expanded_size.Goals as goal

pub returns : goal.returns
returns c = λ formed fits.
    let p = program_of c.args.g.now in
    let A = found c.args.flow.now in
    let m : inlined_size A p ≡ total (expanded_procedure p A) p.procs
    = measured p A (have_next p formed) in
    let s = ap (λ l. total (expanded_procedure p A) (map procedure_of l)) c.as_slice.ensures in
    omega arith
