use Rattle.std.proofs.Common.{take}
use Rattle.core_reader.specs.LexedOf.{texts_of}
use Rattle.core_link.specs.Renaming.{TextsAreAtNumbers, NamesAreExtended}
use Rattle.core_link.proofs.naming.numbers.Given as goal

abbrev pub invariant-loop-text : goal.invariant-loop-text
invariant-loop-text l = record {
  grows : NamesAreExtended (texts_of l.fn.known.keys) (texts_of l.known.keys);
  numbers : TextsAreAtNumbers (texts_of l.known.keys) (take l.text-index l.texts) l.numbers.items;
}
