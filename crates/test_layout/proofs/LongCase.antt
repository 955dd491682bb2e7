-- A case of many alternatives can be placed.
use Rattle.std.proofs.Common.{◌≡◌, ℕ, ◌+◌, ◌*◌, ◌<◌, ◌≤◌, ◌++◌, Some, refl, arith}
use Rattle.std.proofs.lemmas.Option.{same_Some}
use Rattle.rv32_items.specs.declared.Item.{Item}
use Rattle.rv32_items.specs.Placed.{size_of, times, target_of, IsPlain, AllPlain, LabelsStand}
use Rattle.test_layout.specs.Alternatives.{alternative, alternatives, first_items, last_items, chosen}
use Rattle.test_layout.proofs.Placeable.{Each, each_get, each_append}
use Rattle.test_layout.proofs.Pieces.{each_piece, size_pieces, once as label_once}
use Rattle.rv32_items.proofs.Counted.{size_append}

-- ---- what holds of each item

each_chosen : (P : Item → Type 0) (count value : ℕ) → Each P (first_items count value)
    → ((k : ℕ) → k < count → Each P (alternative count k)) → Each P (last_items count)
    → Each P (chosen count value)
each_chosen P count value first h last =
    each_append P (first_items count value) (alternatives count count ++ last_items count) first
    (each_append P (alternatives count count) (last_items count)
    (each_piece (alternative count) P count h count (omega arith)) last)

pub all_plain : (count value : ℕ) → AllPlain (chosen count value)
all_plain count value n i e =
    each_get IsPlain (chosen count value) n i
    (each_chosen IsPlain count value (tt, (tt, (tt, tt)))
    (λ k lt. (tt, (tt, (tt, (tt, (tt, tt)))))) (tt, (tt, (tt, tt)))) e

-- ---- labels

once : (l count value : ℕ) → l ≤ count → times l (chosen count value) ≡ 1
once l count value h = label_once (alternative count) l (λ k. refl) count (last_items count) refl h

pub labels_stand : (count value : ℕ) → LabelsStand (chosen count value)
labels_stand count value n l i e t = once l count value
    (each_get Goes (chosen count value) n i goes e t)
  where
    Goes : Item → Type 0
    Goes i = target_of i ≡ Some l → l ≤ count

    up_to : (k : ℕ) → k ≤ count → Some k ≡ Some l → l ≤ count
    up_to k h e = let s = same_Some k l e in omega arith

    goes : Each Goes (chosen count value)
    goes =
        each_chosen Goes count value (λ h. cc, (λ h. cc, (up_to count (omega arith), tt)))
        (λ k lt. (
          λ h. cc,
          (up_to k (omega arith), (λ h. cc, (up_to count (omega arith), (λ h. cc, tt)))),
        ))
        (λ h. cc, (λ h. cc, (λ h. cc, tt)))

-- ---- size

pub size_chosen : (count value : ℕ) → size_of (chosen count value) ≡ 8 * count + 7
size_chosen count value =
    let a = size_append (first_items count value) (alternatives count count ++ last_items count) in
    let b = size_append (alternatives count count) (last_items count) in
    let c = size_pieces (alternative count) 8 (λ k. refl) count in
    omega arith
