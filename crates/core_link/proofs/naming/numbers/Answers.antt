use Rattle.std.proofs.Common.{ap, arith, ◌∙◌, Some}
use Rattle.core_reader.specs.LexedOf.{texts_of}
use Rattle.core_link.proofs.Interned.{grows_twice, more_numbers}
use Rattle.core_link.proofs.naming.numbers.Goals as goal

pub loop-text-preserved : goal.loop-text-preserved
loop-text-preserved c = record {
  grows = grows_twice _ _ _ c.loop-text.invariant.grows c.in_ok-number.ensures.grows;
  numbers = more_numbers (texts_of c.loop-text.known.keys) (texts_of c.number.new.known.keys)
      c.args.texts.now c.loop-text.numbers.items c.push.new.self.items c.loop-text.text-index
      c.text-item.result c.in_ok-number.field-0
      (omega arith) c.text-item.is c.in_ok-number.ensures.grows c.loop-text.invariant.numbers
      (c.in_ok-number.ensures.number ∙ ap Some c.as_slice.ensures) c.in_ok-push.ensures.items;
}
