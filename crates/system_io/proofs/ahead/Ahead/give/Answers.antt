use Rattle.std.proofs.Common.{subst, ◌∙◌}
use Rattle.grin_io.specs.Content.{FillsBuffer}
use Rattle.system_io.proofs.Bytes.{window}
use Rattle.system_io.proofs.ahead.Ahead.give.Goals as goal

pub returns-clause-fills : goal.returns-clause-fills
returns-clause-fills c =
    let s = c.self.inside in
    subst (λ l. FillsBuffer l c.args.buf.now c.copy_front-count.new.buf c.copy_front-count.result)
    (window s.bytes s.given s.filled c.self.invariant.0 ∙ c.self.view_is)
    c.copy_front-count.ensures.fills
