use Rattle.std.proofs.Common.{◌++◌, ◌∷◌, [], ap, ◌∙◌, arith}
use Rattle.std.specs.Prelude.{decimal}
use Rattle.match_compile.proofs.NewNames.{one_behind, all_behind}
use Rattle.match_compile.proofs.names.add_numbered.Goals as goal

pub loop-number-preserved : goal.loop-number-preserved
loop-number-preserved c =
    one_behind (λ k. c.args.start.now ++ decimal k) c.loop-number.entries.items
    c.push.new.self.items _ c.loop-number.number c.args.count (omega arith)
    (c.in_ok-push.ensures.items ∙ ap (λ t. c.loop-number.entries.items ++ t ∷ [])
    c.in_ok-numbered.ensures)
    c.loop-number.invariant

pub returns : goal.returns
returns c = all_behind (λ k. c.args.start.now ++ decimal k) c.loop-number.entries.items _
    c.loop-number.number c.args.count (omega arith) c.loop-number.invariant
