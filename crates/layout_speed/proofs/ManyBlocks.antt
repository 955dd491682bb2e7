-- Blocks can be placed.
use Rattle.std.proofs.Common.{◌≡◌, ℕ, ◌+◌, ◌*◌, ◌<◌, ◌≤◌, Some, refl, arith}
use Rattle.std.proofs.lemmas.Option.{same_Some}
use Rattle.rv32_items.specs.declared.Item.{Item}
use Rattle.rv32_items.specs.Placed.{size_of, times, target_of, IsPlain, AllPlain, LabelsStand}
use Rattle.layout_speed.specs.Blocks.{block, blocks, last_block, all_blocks}
use Rattle.test_layout.proofs.Placeable.{Each, each_get, each_append}
use Rattle.test_layout.proofs.Pieces.{each_piece, size_pieces, once as label_once}
use Rattle.rv32_items.proofs.Counted.{size_append}

each_of_all : (P : Item → Type 0) (count : ℕ) → ((k : ℕ) → k < count → Each P (block count k))
    → Each P (last_block count) → Each P (all_blocks count)
each_of_all P count h end = each_append P (blocks count count) (last_block count)
    (each_piece (block count) P count h count (omega arith)) end

pub all_plain : (count : ℕ) → AllPlain (all_blocks count)
all_plain count n i e =
    each_get IsPlain (all_blocks count) n i
    (each_of_all IsPlain count (λ k lt. (tt, (tt, (tt, (tt, (tt, (tt, (tt, (tt, tt)))))))))
    (tt, (tt, tt))) e

once : (l count : ℕ) → l ≤ count → times l (all_blocks count) ≡ 1
once l count h = label_once (block count) l (λ k. refl) count (last_block count) refl h

pub labels_stand : (count : ℕ) → LabelsStand (all_blocks count)
labels_stand count n l i e t = once l count (each_get Goes (all_blocks count) n i goes e t)
  where
    Goes : Item → Type 0
    Goes i = target_of i ≡ Some l → l ≤ count

    up_to : (k : ℕ) → k ≤ count → Some k ≡ Some l → l ≤ count
    up_to k h e = let s = same_Some k l e in omega arith

    goes : Each Goes (all_blocks count)
    goes =
        each_of_all Goes count
        (λ k lt. (
          λ h. cc,
          (
            λ h. cc,
            (
              λ h. cc,
              (
                λ h. cc,
                (
                  up_to k (omega arith),
                  (λ h. cc, (up_to count (omega arith), (up_to count (omega arith), tt))),
                ),
              ),
            ),
          ),
        ))
        (λ h. cc, (λ h. cc, tt))

pub size_all : (count : ℕ) → size_of (all_blocks count) ≡ 13 * count + 1
size_all count =
    let a = size_append (blocks count count) (last_block count) in
    let b = size_pieces (block count) 13 (λ k. refl) count in
    omega arith
