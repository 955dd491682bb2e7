use Rattle.std.proofs.Common.{◌≡◌, ℕ, zero, suc, ◌+◌, List, [], ◌∷◌, ◌++◌, replicate, refl, sym, ap, ◌∙◌, append_assoc, arith}
use Rattle.std.proofs.lemmas.List.{append-nil}
use Rattle.rv32_items.specs.declared.Item.{Item}
use Rattle.rv32_items.specs.declared.Item.TheVariants.{Plain}
use Rattle.test_layout.proofs.spread.repeat.Goals as goal

one_more : (x : Item) (n : ℕ) → replicate n x ++ x ∷ [] ≡ replicate (n + 1) x
one_more x zero = refl
one_more x (suc n) =
    let e : suc (n + 1) ≡ suc n + 1 = omega arith in
    ap (λ is. x ∷ is) (one_more x n) ∙ ap (λ k. replicate k x) e

pub loop-init : goal.loop-init
loop-init c = sym (append-nil c.args.items.now)

pub loop-preserved : goal.loop-preserved
loop-preserved c =
    let x : Item = Plain c.args.instr.now in
    let before : List Item = c.args.items.now in
    c.in_ok-push.ensures.ok ∙ ap (λ is. is ++ x ∷ []) c.loop.invariant
    ∙ append_assoc before (replicate c.loop.counter x) (x ∷ []) ∙ ap (λ is. before ++ is)
    (one_more x c.loop.counter)
