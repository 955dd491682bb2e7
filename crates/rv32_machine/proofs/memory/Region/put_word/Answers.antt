use Rattle.std.proofs.Common.{ap, ◌∙◌}
use Rattle.rv32_machine.specs.Memory.{bytes_of}
use Rattle.rv32_machine.specs.Zeros.{with_zeros}
use Rattle.rv32_machine.proofs.Zeroed.{reached_put, word_put}
use Rattle.rv32_machine.proofs.memory.Region.put_word.Goals as goal

pub returns : goal.returns
returns c =
    let old = c.self.inside in
    let reached = c.reach.new.bytes.items in
    ap (λ l. record {
      first = old.first;
      write = old.write;
      exec = old.exec;
      bytes
          = with_zeros old.size l;
    }) (word_put reached c.args.offset c.args.value c.ranges.value.fits)
    ∙ reached_put old.size c.args.offset reached (bytes_of 4 c.args.value) _ _ c.self.view_is
    c.reach.ensures.same c.reach.ensures.reached
