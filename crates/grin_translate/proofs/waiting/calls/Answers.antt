use Rattle.std.proofs.Common.{◌≡◌, ℕ, suc, ◌+◌, List, [], ◌∷◌, ◌++◌, map, refl, sym, ap, ◌∙◌, arith}
use Rattle.grin_translate.specs.declared.tags.Delay.{Delay}
use Rattle.grin_translate.specs.declared.tags.Delay.TheVariants.{Calls}
use Rattle.grin_translate.proofs.Lookups.{numbers_more}
use Rattle.grin_translate.proofs.waiting.calls.Goals as goal
use Rattle.seq.specs.Lists.{numbers_from}

map_more : (ns : List ℕ) (n : ℕ) → map Calls (ns ++ n ∷ []) ≡ map Calls ns ++ Calls n ∷ []
map_more [] n = refl
map_more (m ∷ ns) n = ap (λ ds. Calls m ∷ ds) (map_more ns n)

one_more : (f : ℕ) (found : List Delay) → found ≡ map Calls (numbers_from 0 f) → found
    ++ Calls f ∷ [] ≡ map Calls (numbers_from 0 (f + 1))
one_more f found h =
    let e : suc f ≡ f + 1 = omega arith in
    let z : 0 + f ≡ f = omega arith in
    ap (λ xs. xs ++ Calls f ∷ []) h ∙ sym (map_more (numbers_from 0 f) f) ∙ ap
    (λ k. map Calls (numbers_from 0 f ++ k ∷ [])) (sym z) ∙ ap (map Calls)
    (sym (numbers_more f 0)) ∙ ap (λ k. map Calls (numbers_from 0 k)) e

pub loop-f-preserved : goal.loop-f-preserved
loop-f-preserved c = c.in_ok-push.ensures.items ∙ one_more c.loop-f.f _ c.loop-f.invariant
