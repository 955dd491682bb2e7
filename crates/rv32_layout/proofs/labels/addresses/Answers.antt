use Rattle.std.proofs.Common.{◌≡◌, ℕ, ◌+◌, ◌*◌, [], ◌∷◌, ◌++◌, map, sym, ap, ◌∙◌, subst, refl, arith}
use Rattle.std.specs.Prelude.{IsSome, unwrap_or}
use Rattle.std.specs.List.{range_with_len}
use Rattle.std.proofs.lemmas.List.FromFn.{map-range_with_len_more}
use Rattle.std.proofs.lemmas.Option.{same_Some}
use Rattle.rv32_layout.specs.Spots.{label_address}
use Rattle.rv32_layout.proofs.labels.addresses.Goals as goal

pub find-requires : goal.find-requires
find-requires c = subst (λ o. IsSome o)
    (sym (c.requires c.loop-label.label c.loop-label-test.true).1) refl

pub overflow_mul-find : goal.overflow_mul-find
overflow_mul-find c =
    let spot = c.requires c.loop-label.label c.loop-label-test.true in
    let same : c.find.result ≡ spot.0 = same_Some _ _ (sym c.find.ensures ∙ spot.1) in
    record { fits = omega (arith, spot.2) }

pub overflow_add-find : goal.overflow_add-find
overflow_add-find c =
    let spot = c.requires c.loop-label.label c.loop-label-test.true in
    let same : c.find.result ≡ spot.0 = same_Some _ _ (sym c.find.ensures ∙ spot.1) in
    record { fits = omega (arith, spot.2) }

pub loop-label-preserved : goal.loop-label-preserved
loop-label-preserved c =
    let l : ℕ = c.loop-label.label in
    let here : 65536 + 4 * c.find.result ≡ label_address c.args.spots.now l
    = ap (λ o. 65536 + 4 * unwrap_or o 0) (sym c.find.ensures) in
    let put : c.loop-label.addresses.items ++ (65536 + 4 * c.find.result) ∷ [] ≡ map
    (label_address c.args.spots.now) (range_with_len 0 l)
    ++ label_address c.args.spots.now l ∷ [] = λ i. c.loop-label.invariant i ++ here i ∷ [] in
    c.in_ok-push.ensures.items ∙ put ∙ sym
    (map-range_with_len_more (label_address c.args.spots.now) 0 l l (omega arith))
