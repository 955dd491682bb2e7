use Rattle.std.proofs.Common.{◌≡◌, ◌++◌, take}
use Rattle.fetch_passes.specs.Notes.{words_used}
use Rattle.fetch_passes.proofs.scan.Scan.words.Given as goal

abbrev pub invariant-loop-word : goal.invariant-loop-word
invariant-loop-word l = record {
  used : l.self.used.items ≡ l.fn.self.used.items ++ words_used (take l.word-index l.words);
  sizes : l.self.sizes.items ≡ l.fn.self.sizes.items;
}
