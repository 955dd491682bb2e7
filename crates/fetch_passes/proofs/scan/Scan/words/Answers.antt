use Rattle.std.proofs.Common.{rules}
use Rattle.fetch_passes.proofs.Scanned.{words_pushed}
use Rattle.fetch_passes.proofs.scan.Scan.words.Goals as goal

pub loop-word-preserved : goal.loop-word-preserved
loop-word-preserved c = record {
  used = words_pushed c.args.words.now c.loop-word.word-index _ c.args.self.now.used.items
      c.loop-word.self.used.items c.word.new.self.used.items c.loop-word-test.true
      c.in_ok-word.ensures.used c.loop-word.invariant.used;
  sizes = search rules;
}
