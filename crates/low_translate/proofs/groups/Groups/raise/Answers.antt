use Rattle.std.proofs.Common.{rules, ◌≡◌, ◌≤◌, ◌<◌, ◌+◌, ◌-◌, ℕ, List, length, get_or, ◌∙◌, arith}
use Rattle.low_translate.proofs.Parents.{at_any, more_still, few_still, raised_more}
use Rattle.low_translate.proofs.groups.Groups.raise.Goals as goal

pub loop-x-preserved : goal.loop-x-preserved
loop-x-preserved c =
    let ps : List ℕ = c.args.self.now.parents.items in
    let vs : List ℕ = c.loop-x.values.items in
    let x : ℕ = c.loop-x.x - 1 in
    let p : ℕ = c.index.result.now in
    let v : ℕ = c.max.result in
    let i = c.loop-x.invariant in
    let below : x + 1 ≡ c.loop-x.x = omega (arith, c.loop-x-test.true) in
    let kx : x < length ps = omega (arith, below, i.within) in
    let ep : p ≡ get_or ps x 0 = c.index.ensures ∙ at_any ps x _ 0 kx in
    let o = c.requires.ordered x kx in
    let kv : x < length vs = omega (arith, kx, i.many, c.requires.many) in
    let kp : p < length vs = omega (arith, ep, o, kv) in
    let a : c.index-in-loop-x.result.now ≡ get_or vs x 0
    = c.index-in-loop-x.ensures ∙ at_any vs x _ 0 kv in
    let b : c.index-in-loop-x-2.result.now ≡ get_or vs p 0
    = c.index-in-loop-x-2.ensures ∙ at_any vs p _ 0 kp in
    let lx : get_or vs x 0 ≤ v = omega (arith, a, b, c.max.ensures) in
    let lp : get_or vs p 0 ≤ v = omega (arith, a, b, c.max.ensures) in
    record {
      many = search rules;
      within = omega (arith, below, i.within);
      more = λ y. let h = i.more y in let k = more_still vs p v kp lp y in omega (arith, h, k);
      raised = raised_more ps vs x p v c.requires.ordered kx kp ep lx lp
          (λ y le ly. i.raised y (omega (arith, le, below)) ly);
      few = λ most h. few_still vs p v kp most
          (let d = i.few most h x in let e = i.few most h p
          in omega (arith, a, b, c.max.ensures, d, e)) (i.few most h);
    }
