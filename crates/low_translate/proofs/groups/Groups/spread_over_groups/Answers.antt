use Rattle.std.proofs.Common.{rules, ◌≡◌, ◌<◌, ℕ, List, length, get_or, ap, ◌∙◌, arith}
use Rattle.low_translate.proofs.Parents.{at_any, few_still, same_more, spread_more}
use Rattle.low_translate.proofs.groups.Groups.spread_over_groups.Goals as goal

pub loop-x-preserved : goal.loop-x-preserved
loop-x-preserved c =
    let ps : List ℕ = c.args.self.now.parents.items in
    let vs : List ℕ = c.loop-x.values.items in
    let x : ℕ = c.loop-x.x in
    let i = c.loop-x.invariant in
    let kx : x < length ps = search rules in
    let kv : x < length vs = omega (arith, kx, i.many, c.requires.many) in
    let p : c.index.result.now ≡ get_or ps x 0 = c.index.ensures ∙ at_any ps x _ 0 kx in
    let o = c.requires.ordered x kx in
    let kp : c.index.result.now < length vs = omega (arith, p, o, kv) in
    let v : c.index-in-loop-x.result.now ≡ get_or vs (get_or ps x 0) 0
    = c.index-in-loop-x.ensures ∙ at_any vs _ _ 0 kp ∙ ap (λ k. get_or vs k 0) p in
    record {
      many = search rules;
      more = spread_more c.args.values.now.items ps vs x _ kv v (c.requires.raised x kx) i.more;
      same = same_more ps vs x _ c.requires.ordered kx (i.many ∙ c.requires.many) v i.same;
      few = λ most h. few_still vs x _ kv most
          (let q = i.few most h (get_or ps x 0) in omega (arith, v, q)) (i.few most h);
    }
