use Rattle.std.proofs.Common.{◌+◌, ◌<◌, length, sym, ap, ◌∙◌, arith, rules}
use Rattle.std.proofs.lemmas.List.{length_push}
use Rattle.std.proofs.lemmas.Iterator.Adapters.{YieldsList-from_vec}
use Rattle.std.proofs.lemmas.Iterator.Consumers.{YieldsList-turn}
use Rattle.core_link.proofs.Together.{more_constructors, more_of_functions}
use Rattle.core_link.proofs.join.all_declared.Goals as goal

pub loop-named-preserved : goal.loop-named-preserved
loop-named-preserved c =
    let t = YieldsList-turn (YieldsList-from_vec c.args.modules.items (search rules) (search rules))
    c.loop-named.yielded c.loop-named.named-iterator c.loop-named.yielded_by _ c.next.new.self
    c.in-Some.named c.in-Some.is c.next.ensures.steps in
    let within : c.loop-named.at < length c.args.renamings.now
    = omega (arith, t.0, c.requires, c.loop-named.invariant.at) in
    record {
      at = ap (λ k. k + 1) c.loop-named.invariant.at ∙ sym
          (length_push c.loop-named.yielded c.in-Some.named);
      constructors = more_constructors c.loop-named.yielded c.in-Some.named c.args.renamings.now
          c.index-renamings-at.result c.loop-named.at c.loop-named.invariant.at within
          c.index-renamings-at.is _ _ c.loop-named.invariant.constructors
          c.in_ok-add.ensures.constructors;
      functions = more_of_functions c.loop-named.yielded c.in-Some.named c.args.renamings.now
          c.index-renamings-at.result c.loop-named.at c.loop-named.invariant.at within
          c.index-renamings-at.is _ _ c.loop-named.invariant.functions
          c.in_ok-add.ensures.functions;
    }
