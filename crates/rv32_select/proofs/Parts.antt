-- Parts of the items: the labels that stand there, where the items go, and how many words they
-- take.
use Rattle.std.proofs.Common.{◌≡◌, ℕ, suc, ◌+◌, ◌*◌, ◌<◌, ◌≤◌, Bool, true, false, List, [], ◌∷◌, ◌++◌, length, ◌⊎◌, inl, inr, sym, subst, arith}
use Rattle.std.specs.Prelude.{nat_eq, pos, if◌then◌else◌}
use Rattle.std.proofs.lemmas.Bool.Decides.{nat_tests}
use Rattle.rv32_isa.specs.declared.instr.Instr.{Instr}
use Rattle.rv32_isa.specs.declared.instr.Instr.TheVariants.{OpImm}
use Rattle.rv32_isa.specs.declared.instr.ImmKind.TheVariants.{Addi}
use Rattle.parallel_move.specs.declared.Spot.{Spot}
use Rattle.parallel_move.specs.declared.Move.{Move}
use Rattle.rv32_items.specs.declared.Cond.{Cond}
use Rattle.rv32_items.specs.declared.Cond.TheVariants.{Ltu}
use Rattle.rv32_items.specs.declared.Item.{Item}
use Rattle.rv32_items.specs.declared.Item.TheVariants.{Label, Branch, Jump}
use Rattle.rv32_items.specs.Placed.{size_of, times}
use Rattle.rv32_select.specs.declared.source.Source.{Source}
use Rattle.rv32_select.specs.declared.source.Source.TheVariants.{Number}
use Rattle.rv32_select.specs.Emit.{plain, hold, held, add_to, moves_code, spot_moves, number_moves, cells_code, is_offset, room_items, cells_below, near_cells, far_cells, take_items, branch_items, compare_items}
use Rattle.rv32_select.specs.IsSelected.{IsOrder, moves_between}
use Rattle.rv32_select.proofs.StaticPieces.{Piece, piece_append, piece_more, piece_one, hold_piece, held_number_piece, add_piece, moves_piece, sent_piece, cells_piece, below_piece}
use Rattle.rv32_select.proofs.Flowing.{Inside, Ahead, Goes, ahead_behind, goes_both, goes_then, goes_plain, inside_of, times_plain, below_more, Counts, counts_append, size_plain}
use Rattle.rv32_items.proofs.Counted.{size_append, times_append}

-- ---- words that go to spots at once

pub sent_code : (steps : List Move) (to : List Spot) (from : List Source)
    → IsOrder steps (spot_moves to from) → Piece (6 * length from)
    (moves_code steps ++ number_moves to from)
sent_code steps to from order =
    let numbers = sent_piece to from in
    piece_more (3 * _ + numbers.0) (6 * length from) _ (omega (arith, order.few, numbers.1.1))
    (piece_append _ numbers.0 (moves_code steps) (number_moves to from) (moves_piece steps)
    numbers.1.0)

between_few : (to from : List Spot) → length (moves_between to from) ≤ length to
between_few [] from = omega arith
between_few (t ∷ to) [] = omega arith
between_few (t ∷ to) (s ∷ from) = let more = between_few to from in omega arith

pub between_code : (steps : List Move) (to from : List Spot) → IsOrder steps (moves_between to from)
    → Piece (6 * length to) (moves_code steps)
between_code steps to from order =
    piece_more _ (6 * length to) _ (omega (arith, order.few, between_few to from))
    (moves_piece steps)

-- ---- parts

module _ (procs : ℕ) where
  -- items in which the labels from n on stand, below m, which go to labels there or far ones, and
  -- which take at most so many
  -- words where there are few tests
  pub record Part (Far : ℕ → Type 0) (n m most : ℕ) (Few : Type 0) (items : List Item)
      : Type 0 where
    pub counts : Counts n m items
    pub goes : Goes procs Far items
    pub size : Few → size_of items ≤ most

  pub inside_part : (n m : ℕ) (items : List Item) → procs ≤ n → Counts n m items
      → Inside procs items
  inside_part n m items le counts = inside_of procs items none
    where
      none : (l : ℕ) → l < procs → times l items ≡ 0
      none l lt = let c = counts l in let before : l < n = omega arith in grind (arith, nat_tests)

  module _ (Far : ℕ → Type 0) (Few : Type 0) where
    pub code_part : (n k : ℕ) (code : List Instr) → Piece k code → Part Far n n k Few (plain code)
    code_part n k code p = record {
      counts = λ l. let e = times_plain l code in omega arith;
      goes = goes_plain procs Far code p.straight;
      size = λ f. let e = size_plain code in omega (arith, p.few);
    }

    pub part_append : (n k m a b : ℕ) (xs ys : List Item) → Part Far n k a Few xs
        → Part Far k m b Few ys → Part Far n m (a + b) Few (xs ++ ys)
    part_append n k m a b xs ys p q = record {
      counts = counts_append n k m xs ys p.counts q.counts;
      goes = goes_both procs Far xs ys p.goes q.goes;
      size = λ f. let e = size_append xs ys in omega (arith, p.size f, q.size f);
    }

    pub part_more : (n m a b : ℕ) (items : List Item) → a ≤ b → Part Far n m a Few items
        → Part Far n m b Few items
    part_more n m a b items le p = record {
      counts = p.counts;
      goes = p.goes;
      size = λ f. omega (arith, le, p.size f);
    }

    -- a piece and the items behind it
    pub part_then : (n k m a b most : ℕ) (piece rest items : List Item) → items ≡ piece ++ rest
        → a + b ≤ most → Part Far n k a Few piece → Part Far k m b Few rest
        → Part Far n m most Few items
    part_then n k m a b most piece rest items e le p q =
        subst (Part Far n m most Few) (sym e)
        (part_more n m (a + b) most (piece ++ rest) le (part_append n k m a b piece rest p q))

    pub jump_part : (n link l : ℕ) → Far l → (nat_eq link 1 ≡ true → l < procs)
        → Part Far n n 3 Few (Jump link l ∷ [])
    jump_part n link l far call = record {
      counts = λ k. omega arith;
      goes = ((inr far, call), tt);
      size = λ f. omega arith;
    }

    pub branch_part : (n : ℕ) (c : Cond) (q r l : ℕ) → Far l
        → Part Far n n 3 Few (Branch c q r l ∷ [])
    branch_part n c q r l far = record {
      counts = λ k. omega arith;
      goes = (inr far, tt);
      size = λ f. omega arith;
    }

    pub room_part : (n bytes full : ℕ) → Far full → Part Far n n 6 Few (room_items bytes full)
    room_part n bytes full far =
        part_append n n n 3 3 (plain (add_to 5 3 bytes)) _ (code_part n 3 _ (add_piece 5 3 bytes))
        (branch_part n Ltu 4 5 full far)

    far_part : (n step full : ℕ) (ss : List Spot) → Far full
        → Part Far n n (7 + 6 * length ss) Few (far_cells step full ss)
    far_part n step full ss far =
        let last = OpImm Addi 3 5 (pos 0) in
        part_more n n (6 + (6 * length ss + 1)) (7 + 6 * length ss) _ (omega arith)
        (part_append n n n 6 (6 * length ss + 1) (room_items (step * length ss) full)
        (plain (cells_code step 0 ss ++ last ∷ [])) (room_part n (step * length ss) full far)
        (code_part n (6 * length ss + 1) (cells_code step 0 ss ++ last ∷ [])
        (piece_append (6 * length ss) 1 (cells_code step 0 ss) (last ∷ [])
        (cells_piece step 0 ss) (piece_one last tt))))

    near_part : (n step full : ℕ) (ss : List Spot) → Far full
        → Part Far n n (7 + 6 * length ss) Few (near_cells step full ss)
    near_part n step full ss far =
        let up = OpImm Addi 3 3 (pos (step * length ss)) in
        part_more n n (1 + (3 + 4 * length ss)) (7 + 6 * length ss) _ (omega arith)
        (part_append n n n 1 (3 + 4 * length ss) (plain (up ∷ []))
        (Branch Ltu 4 3 full ∷ plain (cells_below step ss))
        (code_part n 1 (up ∷ []) (piece_one up tt))
        (part_append n n n 3 (4 * length ss) (Branch Ltu 4 3 full ∷ [])
        (plain (cells_below step ss)) (branch_part n Ltu 4 3 full far)
        (code_part n (4 * length ss) (cells_below step ss) (below_piece step ss))))

    pub take_part : (n step full : ℕ) (ss : List Spot) → Far full
        → Part Far n n (7 + 6 * length ss) Few (take_items step full ss)
    take_part n step full ss far = by_size (is_offset (step * length ss))
      where
        by_size : (t : Bool) → Part Far n n (7 + 6 * length ss) Few
            (if t then near_cells step full ss else far_cells step full ss)
        by_size true = near_part n step full ss far
        by_size false = far_part n step full ss far

    pub compare_part : (c : Cond) (n next : ℕ) (word : Source) (k : ℕ) → Far next
        → Part Far n n 8 Few (compare_items c next word k)
    compare_part c n next word k far =
        part_append n n n 5 3 (plain (hold 5 word ++ hold 6 (Number k))) _
        (code_part n 5 _
        (piece_append 3 2 (hold 5 word) _ (hold_piece 5 word) (held_number_piece 6 k)))
        (branch_part n c (held 5 word) (held 6 (Number k)) next far)

    pub two_words_part : (c : Cond) (n next : ℕ) (left right : Source) → Far next
        → Part Far n n 9 Few (branch_items c next left right)
    two_words_part c n next left right far =
        part_append n n n 6 3 (plain (hold 5 left ++ hold 6 right)) _
        (code_part n 6 _
        (piece_append 3 3 (hold 5 left) _ (hold_piece 5 left) (hold_piece 6 right)))
        (branch_part n c (held 5 left) (held 6 right) next far)

    -- a block whose far labels are far from here, or the one behind it
    pub closed_part : (Near : ℕ → Type 0) (n k a : ℕ) (block : List Item) → procs ≤ n
        → ((l : ℕ) → Near l → (n ≡ l) ⊎ Far l)
        → Part Near (suc n) k a Few block → Part Far n k a Few (block ++ Label n ∷ [])
    closed_part Near n k a block le near p = record {
      counts = counts;
      goes = goes_then procs Far Near block (Label n ∷ [])
          (inside_part (suc n) k block (omega (arith, le)) p.counts) reached p.goes
          ((λ lt. absurd (omega (arith, le, lt))), tt);
      size = λ f. let e = size_append block (Label n ∷ []) in omega (arith, p.size f);
    }
      where
        counts : Counts n k (block ++ Label n ∷ [])
        counts l = let c = p.counts l in let e = times_append l block (Label n ∷ []) in let b
            = below_more n l 0 in omega arith

        reached : (l : ℕ) → Near l → Ahead procs l (Label n ∷ []) ⊎ Far l
        reached l h = elim (near l h) [ inl e ↦ inl (le, inl e) | inr f ↦ inr f ]

    -- tests before a block that they leave for the label behind it
    pub tested_part : (n k a b : ℕ) (tests block : List Item) → procs ≤ n
        → Part (λ l. n ≡ l) n n a Few tests → Inside procs block
        → Part Far n k b Few (block ++ Label n ∷ [])
        → Part Far n k (a + b) Few (tests ++ (block ++ Label n ∷ []))
    tested_part n k a b tests block le p inside q = record {
      counts = counts_append n n k tests (block ++ Label n ∷ []) p.counts q.counts;
      goes = goes_then procs Far (λ l. n ≡ l) tests (block ++ Label n ∷ [])
          (inside_part n n tests le p.counts) reached p.goes q.goes;
      size = λ f. let e = size_append tests (block ++ Label n ∷ [])
          in omega (arith, p.size f, q.size f);
    }
      where
        reached : (l : ℕ) → n ≡ l → Ahead procs l (block ++ Label n ∷ []) ⊎ Far l
        reached l e = inl (ahead_behind procs l block (Label n ∷ []) inside (le, inl e))

  pub part_under : (Far : ℕ → Type 0) (Few Fewer : Type 0) (n m most : ℕ) (items : List Item)
      → (Fewer → Few) → Part Far n m most Few items → Part Far n m most Fewer items
  part_under Far Few Fewer n m most items h p = record {
    counts = p.counts;
    goes = p.goes;
    size = λ f. p.size (h f);
  }
