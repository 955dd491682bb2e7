use Rattle.std.proofs.Common.{map}
use Rattle.core_reader.specs.Tree.{function}
use Rattle.match_compile.proofs.Compiled.{first_more, others_one_more}
use Rattle.match_compile.proofs.compile.functions.Goals as goal

pub loop-group-preserved : goal.loop-group-preserved
loop-group-preserved c = record {
  firsts = first_more c.args.words.now (map function c.loop-group.firsts)
      (map function c.add_function.new.firsts) c.loop-group.yielded c.in-Some.group
      c.loop-group.invariant.firsts c.in_ok-add_function.ensures.firsts;
  others = others_one_more c.args.words.now (map function c.loop-group.others)
      (map function c.add_function.new.others) c.loop-group.yielded c.in-Some.group
      c.loop-group.invariant.others c.in_ok-add_function.ensures.others;
}
