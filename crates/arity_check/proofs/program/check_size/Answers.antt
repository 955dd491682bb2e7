use Rattle.std.proofs.Common.{◌≡◌, sym, rules}
use Rattle.std.specs.Prelude.{nat_lt, false}
use Rattle.core_reader.specs.Tree.{program}
use Rattle.core_reader.specs.Size.{program_size}
use Rattle.arity_check.specs.Order.{counts}
use Rattle.arity_check.proofs.Least.{size_uncounted}
use Rattle.arity_check.proofs.program.check_size.Goals as goal

pub returns-else-counts : goal.returns-else-counts
returns-else-counts c =
    let size = program_size (program c.args.core.now) in
    let e : counts c.args.walk.now.first.order 35 ≡ false = search rules in
    sym (size_uncounted c.args.walk.now.first (nat_lt 16384 size) size e)
