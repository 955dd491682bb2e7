use Rattle.std.proofs.Common.{◌<◌, [], ◌∷◌, ◌++◌, get_or, take, sym, ap, subst, ◌∙◌}
use Rattle.seq.proofs.Lists.{append_again}
use Rattle.unification.specs.Classes.{paired}
use Rattle.unification.proofs.Pairing.{paired_more}
use Rattle.unification.proofs.joining.push_pairs.Goals as goal

pub loop-i-preserved : goal.loop-i-preserved
loop-i-preserved c =
    let xs = c.args.xs.now in
    let ys = c.args.ys.now in
    let i = c.loop-i.i in
    let old = c.args.todo.now.items in
    c.in_ok-push.ensures.items
    ∙ ap (λ l. l ++ (get_or xs i 0, get_or ys i 0) ∷ []) c.loop-i.invariant
    ∙ append_again old (paired (take i xs) (take i ys)) ((get_or xs i 0, get_or ys i 0) ∷ [])
    ∙ ap (λ l. old ++ l)
    (sym (paired_more xs ys i c.loop-i-test.true
    (subst (λ n. i < n) c.requires c.loop-i-test.true)))
