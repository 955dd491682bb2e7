-- Sets of numbers as rows of bits, in blocks of 64, and the numbers of words.
use Rattle.std.specs.Prelude.{◌≡◌, ℕ, zero, suc, ◌+◌, ◌*◌, ◌/◌, ◌%◌, ◌<◌, ◌≤◌, ◌⊎◌, nat_eq, nat_lt, cond, List, [], ◌∷◌, ◌++◌, map, length, get_or, Option, MatchOption, Result, MatchResult}
use Rattle.flow_system.specs.declared.fact.Element.{Element}
use Rattle.flow_system.specs.declared.fact.Element.TheVariants.{Cell, Tag, Number}
use Rattle.points_to.specs.Held.{In}

-- the numbers of those of the lowest k bits that are 1, where the lowest bit has the number n
unfoldable pub numbers : ℕ → ℕ → ℕ → List ℕ
numbers zero n bits = []
numbers (suc k) n bits = cond (nat_eq (bits % 2) 1) (n ∷ []) [] ++ numbers k (suc n) (bits / 2)

-- the numbers in a block, by its number and its bits
abbrev pub block_numbers : ℕ × ℕ → List ℕ
block_numbers b = numbers 64 (b.0 * 64) b.1

-- the number of the block at a place
abbrev pub block_number_at : List (ℕ × ℕ) → ℕ → ℕ
block_number_at bs i = (get_or bs i (0, 0)).0

-- blocks stand in the order of their numbers, and no two have the same number
abbrev pub Ascending : List (ℕ × ℕ) → Type 0
Ascending bs = (i j : ℕ) → i < j → j < length bs → block_number_at bs i < block_number_at bs j

-- the bits of the block with this number, and 0 where there is none
pub record BitsAt (bs : List (ℕ × ℕ)) (q w : ℕ) : Type 0 where
  pub held : (w ≡ 0) ⊎ In (q, w) bs
  pub only : (v : ℕ) → In (q, v) bs → v ≡ w

-- all blocks before a place have lower numbers, and none from another place on has
pub record IsPlace (bs : List (ℕ × ℕ)) (q low high : ℕ) : Type 0 where
  pub inside : low ≤ high
  pub bound : high ≤ length bs
  pub before : (i : ℕ) → i < low → block_number_at bs i < q
  pub after : (i : ℕ) → high ≤ i → i < length bs → q ≤ block_number_at bs i

-- the block with the number stands at this place
pub record StandsAt (bs : List (ℕ × ℕ)) (q k : ℕ) : Type 0 where
  pub within : k < length bs
  pub number : block_number_at bs k ≡ q

-- no block has the number, and one that has it would go to this place
pub record GoesTo (bs : List (ℕ × ℕ)) (q k : ℕ) : Type 0 where
  pub bound : k ≤ length bs
  pub before : (i : ℕ) → i < k → block_number_at bs i < q
  pub after : (i : ℕ) → k ≤ i → i < length bs → q < block_number_at bs i

abbrev pub Finds : List (ℕ × ℕ) → ℕ → Result ℕ ℕ → Type 0
Finds bs q r = MatchResult r (StandsAt bs q) (GoesTo bs q)

-- the first of a list is taken, where there is one
abbrev pub Takes : List ℕ → List ℕ → Option ℕ → Type 0
Takes old new first = MatchOption first (old ≡ []) (λ n. old ≡ n ∷ new)

-- each word has a number, and each number is that of a word; blocks of cells and of other words
-- take turns
abbrev pub number_of : Element → ℕ
number_of (Cell s) = s / 64 * 128 + 64 + s % 64
number_of (Tag t) = (t + 1) / 64 * 128 + (t + 1) % 64
number_of Number = 0

-- a number alone, and the tags after it
abbrev pub number_or_tag : ℕ → Element
number_or_tag zero = Number
number_or_tag (suc t) = Tag t

abbrev pub word_of : ℕ → Element
word_of n =
    cond (nat_lt (n % 128) 64) (number_or_tag (n / 128 * 64 + n % 64))
    (Cell (n / 128 * 64 + n % 64))

-- the words of a block
abbrev pub block_words : ℕ × ℕ → List Element
block_words b = map word_of (block_numbers b)
