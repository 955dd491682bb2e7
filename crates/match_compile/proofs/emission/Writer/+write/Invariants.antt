use Rattle.std.proofs.Common.{◌≡◌, map}
use Rattle.core_reader.specs.Tree.{Alts, alternative}
use Rattle.match_compile.specs.Translated.{alts_of}
use Rattle.match_compile.specs.TreeOf.{branches_of}
use Rattle.match_compile.specs.EmissionOf.{put_before, alternatives_of_rest}
use Rattle.match_compile.proofs.emission.Writer.+write.Given as goal

abbrev pub invariant-alts-loop-branch : goal.invariant-alts-loop-branch
invariant-alts-loop-branch l = record {
  places : l.places ≡ l.fn.places;
  made : (others : Alts) → put_before (map alternative l.made) others ≡ alts_of l.self.words.now
      l.self.at l.self.params (alternatives_of_rest l.self.words.now l.self.at l.onward) l.fn.places
      (branches_of l.yielded) others;
}
