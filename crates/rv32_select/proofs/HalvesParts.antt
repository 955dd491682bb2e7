-- The items of a search by halves: their labels, where they go, and how many words they take.
use Rattle.std.proofs.Common.{◌≡◌, ℕ, suc, ◌+◌, ◌*◌, ◌≤◌, Bool, true, false, List, [], ◌∷◌, ◌++◌, length, Some, inl, inr, refl, sym, ap, subst, arith, length-append}
use Rattle.std.specs.Prelude.{Option, if◌then◌else◌}
use Rattle.rv32_items.specs.declared.Cond.TheVariants.{Ne, Geu}
use Rattle.rv32_items.specs.declared.Item.{Item}
use Rattle.rv32_items.specs.declared.Item.TheVariants.{Label, Plain, Branch, Jump}
use Rattle.rv32_items.specs.Placed.{size_of}
use Rattle.rv32_select.specs.declared.source.Source.{Source}
use Rattle.rv32_select.specs.Emit.{compare_items, test_items}
use Rattle.rv32_select.specs.Halves.{SearchedArm, is_alone, last_test, Halves, one, two}
use Rattle.rv32_select.proofs.Flowing.{Goes, Counts}
use Rattle.rv32_select.proofs.Parts.{Part, inside_part, part_then, compare_part, closed_part, tested_part}
use Rattle.rv32_select.proofs.HalvesFacts.{AllOf, all_front, all_back, IsUp, halves_up}

-- the words of the blocks
abbrev pub sizes : List SearchedArm → ℕ
sizes [] = 0
sizes (s ∷ ss) = size_of s.block + sizes ss

sizes_append : (xs ys : List SearchedArm) → sizes (xs ++ ys) ≡ sizes xs + sizes ys
sizes_append [] ys = omega arith
sizes_append (x ∷ xs) ys = let more = sizes_append xs ys in omega (arith, more)

module _ (procs : ℕ) where
  -- items that go to some labels go to those among more
  pub goes_wider : (Far Near : ℕ → Type 0) → ((l : ℕ) → Near l → Far l) → (xs : List Item)
      → Goes procs Near xs → Goes procs Far xs
  goes_wider Far Near w [] g = tt
  goes_wider Far Near w (Label k ∷ xs) g = (g.0, goes_wider Far Near w xs g.1)
  goes_wider Far Near w (Plain i ∷ xs) g = (g.0, goes_wider Far Near w xs g.1)
  goes_wider Far Near w (Branch c a b l ∷ xs) g =
      (elim g.0 [ inl h ↦ inl h | inr h ↦ inr (w l h) ], goes_wider Far Near w xs g.1)
  goes_wider Far Near w (Jump r l ∷ xs) g =
      ((elim g.0.0 [ inl h ↦ inl h | inr h ↦ inr (w l h) ], g.0.1), goes_wider Far Near w xs g.1)

  module _ (Far : ℕ → Type 0) where
    abbrev pub SoughtPart : SearchedArm → Type 0
    SoughtPart s = Counts s.first s.next s.block × Goes procs Far s.block

    module _ (miss : ℕ) (word : Source) (far : Far miss) where
      last_part : (n number : ℕ) (alone : Bool) → Part procs Far n n 8 (Unit {0})
          (if alone then [] else test_items miss word number)
      last_part n number true = record
          { counts = λ k. omega arith; goes = tt; size = λ f. omega arith }
      last_part n number false = compare_part procs Far (Unit {0}) Ne n miss word number far

      -- eight words for each number, and eight for each branch between two
      pub halves_part : (low : ℕ) (high : Option ℕ) (all : List SearchedArm) (n m : ℕ)
          (items : List Item) → Halves miss word low high all n m items → procs ≤ n → AllOf IsUp all
          → AllOf SoughtPart all
          → (most : ℕ) ×
          ((8 + most ≤ 16 * length all + sizes all) × Part procs Far n m most (Unit {0}) items)
      halves_part low high all n m items (one s is first next from below made) le ups parts =
          let own = (subst (AllOf SoughtPart) is parts).0 in
          let count = ap length is in
          let words = ap sizes is in
          let block : Part procs Far s.first s.next (size_of s.block) (Unit {0}) s.block
          = record { counts = own.0; goes = own.1; size = λ f. omega arith } in
          let placed : Part procs Far n m (size_of s.block) (Unit {0}) s.block =
          subst (λ x. Part procs Far x m (size_of s.block) (Unit {0}) s.block) (sym first)
          (subst (λ x. Part procs Far s.first x (size_of s.block) (Unit {0}) s.block) (sym next)
          block) in (
            8 + size_of s.block,
            (
              omega (arith, count, words),
              part_then procs Far (Unit {0}) n n m 8 (size_of s.block) (8 + size_of s.block)
                  (last_test miss word low high s.number) s.block items made (omega arith)
                  (last_part n s.number (is_alone low high)) placed,
            ),
          )
      halves_part low high all n m items (two bound lower upper k xs ys both first second made) le
          ups parts =
          let ups' = subst (AllOf IsUp) both ups in
          let parts' = subst (AllOf SoughtPart) both parts in
          let up = halves_up miss word low (Some bound) lower (suc n) k xs first
          (all_front IsUp lower upper ups') in
          let a = halves_part low (Some bound) lower (suc n) k xs first (omega (arith, le))
          (all_front IsUp lower upper ups') (all_front SoughtPart lower upper parts') in
          let b = halves_part bound high upper k m ys second (omega (arith, le, up))
          (all_back IsUp lower upper ups') (all_back SoughtPart lower upper parts') in
          let few = a.1.0 in
          let few' = b.1.0 in
          let count = ap length both in
          let counts = length-append lower upper in
          let words = ap sizes both in
          let words' = sizes_append lower upper in
          let test = compare_items Geu n word bound in
          let closed = closed_part procs Far (Unit {0}) Far n k a.0 xs le (λ l h. inr h) a.1.1 in
          let tested = tested_part procs Far (Unit {0}) n k 8 a.0 test xs le
          (compare_part procs (λ l. n ≡ l) (Unit {0}) Geu n n word bound refl)
          (inside_part procs (suc n) k xs (omega (arith, le)) a.1.1.counts) closed in (
            8 + a.0 + b.0,
            (
              omega (arith, few, few', count, counts, words, words'),
              part_then procs Far (Unit {0}) n k m (8 + a.0) b.0 (8 + a.0 + b.0)
                  (test ++ (xs ++ Label n ∷ [])) ys items made (omega arith) tested b.1.1,
            ),
          )
