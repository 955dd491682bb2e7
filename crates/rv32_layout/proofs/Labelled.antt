-- The addresses that labels have by their spots are those at which they stand in the layout.
use Rattle.std.proofs.Common.{◌≡◌, ℕ, zero, suc, ◌+◌, ◌*◌, ◌<◌, ◌≤◌, List, ◌∷◌, length, map, refl, sym, ap, ◌∙◌, arith}
use Rattle.std.specs.Prelude.{unwrap_or}
use Rattle.std.specs.List.{range_with_len}
use Rattle.rv32_items.specs.declared.Item.{Item}
use Rattle.rv32_items.specs.Placed.{size_of, AllPlain, LabelsStand, times}
use Rattle.rv32_items.specs.Laws.{address_of, addresses_of}
use Rattle.rv32_layout.specs.declared.Placement.{Placement}
use Rattle.rv32_layout.specs.declared.form.Way.{Way}
use Rattle.rv32_layout.specs.declared.spots.Spots.{Spots}
use Rattle.rv32_layout.specs.Addresses.{IsPlacement}
use Rattle.rv32_layout.specs.Places.{code, Encode}
use Rattle.rv32_layout.specs.Spots.{KnowsLabelSpots, label_address}
use Rattle.rv32_layout.proofs.Laid.{layout, laid}
use Rattle.rv32_layout.proofs.Table.{in_table}

module _ (items : List Item) (ways : List Way) (table : Spots)
    (known : KnowsLabelSpots items ways (length items) table) where
  addresses_are : (words : List ℕ) (from count : ℕ)
      → ((l : ℕ) → l < from + count → times l items ≡ 1)
      → map (label_address table) (range_with_len from count) ≡ addresses_of
      (layout ways items words) items (range_with_len from count)
  addresses_are words from zero once = refl
  addresses_are words from (suc count) once =
      let here : label_address table from ≡ address_of (layout ways items words) items from
      = ap (λ o. 65536 + 4 * unwrap_or o 0)
      (in_table items ways table known from (once from (omega arith))) in
      let more = addresses_are words (from + 1) count (λ l lt. once l (omega arith)) in
      λ i. here i ∷ more i

  pub is_placement : size_of items ≤ 268435456 → LabelsStand items → AllPlain items → (labels : ℕ)
      → ((l : ℕ) → l < labels → times l items ≡ 1)
      → (m : Placement) → Encode (code ways items (length items)) m.words.items
      → m.addresses.items ≡ map (label_address table) (range_with_len 0 labels)
      → IsPlacement items labels m
  is_placement few stand plain labels once m encode addresses =
      let there = laid ways items m.words.items few encode stand plain in
      record {
        placed = there.0;
        addresses = addresses ∙ addresses_are m.words.items 0 labels (λ l lt. once l (omega arith))
            ∙ ap (λ lay. addresses_of lay items (range_with_len 0 labels)) (sym there.1);
      }
