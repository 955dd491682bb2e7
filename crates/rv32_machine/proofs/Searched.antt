-- A segment is found by where it begins.
use Rattle.std.proofs.Common.{rules, ◌≡◌, ℕ, suc, ◌+◌, ◌<◌, ◌≤◌, List, [], ◌∷◌, length, Bool, true, false, Option, Some, None, refl, sym, ap, ◌∙◌, arith}
use Rattle.std.specs.Prelude.{IsSome, ◌&&◌, nat_le, nat_lt, slice_index_or, if◌then◌else◌}
use mathlib.Core.Logic.{inl, inr}
use Rattle.std.proofs.lemmas.Bool.{leb-true, ltb-true}
use Rattle.std.proofs.lemmas.List.{get_or_default}
use Rattle.std.proofs.Math.ListN.{get_or-eq_default}
use Rattle.seq.proofs.Order.{lt_or_le, lt_true, lt_false}
use Rattle.rv32_machine.specs.declared.memory.Right.{Right}
use Rattle.rv32_machine.specs.Memory.{Stretch, no_stretch, allows, is_in, end_of, place_from, segment_at, IsPlace}
use Rattle.rv32_machine.specs.Decoded.{SegmentsAreDisjoint}
use Rattle.rv32_machine.specs.Starts.{Starts}
use Rattle.rv32_machine.proofs.Stores.{and_left, and_right}

low : (address : ℕ) (s : Stretch) → is_in address s ≡ true → s.first ≤ address
low address s h = leb-true s.first address
    (and_left (nat_le s.first address) (nat_lt address (end_of s)) h)

high : (address : ℕ) (s : Stretch) → is_in address s ≡ true → address < end_of s
high address s h = ltb-true address (end_of s)
    (and_right (nat_le s.first address) (nat_lt address (end_of s)) h)

le_true : (a b : ℕ) → a ≤ b → nat_le a b ≡ true
le_true a b h = search rules

between : (s a : ℕ) (r : Stretch) → is_in a r ≡ true → r.first ≤ s → s ≤ a → is_in s r ≡ true
between s a r h from to = let t = high a r h in
    (λ i. le_true r.first s from i && lt_true s (end_of r) (omega (arith, t, to)) i)

-- a segment that has an address is there
pub beyond : (memory : List Stretch) (n address : ℕ) → is_in address (segment_at memory n) ≡ true
    → n < length memory
beyond memory n address h = elim (lt_or_le n (length memory)) [
  | inl lt ↦ lt
  | inr le ↦
      let none : is_in address no_stretch ≡ true = ap (is_in address)
      (sym (get_or-eq_default memory no_stretch le)) ∙ h in
      absurd (let t = high address no_stretch none in omega (arith, t))
]

-- the segment that begins last, at the address or before, is the only one that may have it
pub only : (memory : List Stretch) (starts : ℕ → Option ℕ) (address s m n : ℕ)
    → SegmentsAreDisjoint memory → Starts memory (length memory) starts → starts s ≡ Some m
    → s < address + 1
    → ((t : ℕ) → t < address + 1 → IsSome (starts t) → t ≤ s)
    → is_in address (segment_at memory n) ≡ true → n ≡ m
only memory starts address s m n apart are at before last h =
    let first = (segment_at memory n).first in
    let from : first ≤ address = low address (segment_at memory n) h in
    let reached : first ≤ s = last first (omega (arith, from))
    (are.listed n address (beyond memory n address h) h) in
    apart s n m (between s address (segment_at memory n) h reached (omega (arith, before)))
    (are.found s m at)

-- ---- no segment serves

none_from : (right : Right) (address k : ℕ) (l : List Stretch)
    → ((i : ℕ) → allows right (segment_at l i) && is_in address (segment_at l i) ≡ true → ⊥)
    → place_from right address k l ≡ None
none_from right address k [] none = refl
none_from right address k (x ∷ l) none = ap
    (λ b. if b then Some k else place_from right address (k + 1) l)
    (not_here (allows right x && is_in address x) refl) ∙ none_from right address (k + 1) l
    (λ i h. none (suc i) h)
  where
    not_here : (b : Bool) → allows right x && is_in address x ≡ b → b ≡ false
    not_here true e = absurd (none 0 e)
    not_here false e = refl

no_place : (right : Right) (memory : List Stretch) (address : ℕ)
    → ((i : ℕ) → allows right (segment_at memory i) && is_in address (segment_at memory i) ≡ true
    → ⊥) → IsPlace right address memory (length memory)
no_place right memory address none = none_from right address 0 memory none ∙ sym
    (ap (λ b. if b then Some (length memory) else None)
    (lt_false (length memory) (length memory) (omega arith)))

-- the only segment that may have the address doesn't serve
pub only_fails : (right : Right) (memory : List Stretch) (address m : ℕ)
    → ((n : ℕ) → is_in address (segment_at memory n) ≡ true → n ≡ m)
    → (s : Stretch) → true ≡ nat_lt m (length memory) → s ≡ slice_index_or memory m s
    → allows right s && is_in address s ≡ false → IsPlace right address memory (length memory)
only_fails right memory address m only s there read fails =
    no_place right memory address (λ i h.
    let same : i ≡ m = only i
    (and_right (allows right (segment_at memory i)) (is_in address (segment_at memory i)) h) in
    let is : segment_at memory m ≡ s = get_or_default memory m no_stretch s
    (ltb-true m (length memory) (sym there)) ∙ sym read in
    let c : false ≡ true = sym fails ∙ ap (λ x. allows right x && is_in address x)
    (sym (ap (segment_at memory) same ∙ is)) ∙ h in
    cc)

-- or it isn't there
pub only_absent : (right : Right) (memory : List Stretch) (address m : ℕ)
    → ((n : ℕ) → is_in address (segment_at memory n) ≡ true → n ≡ m) → length memory ≤ m
    → IsPlace right address memory (length memory)
only_absent right memory address m only absent =
    no_place right memory address (λ i h.
    let has = and_right (allows right (segment_at memory i)) (is_in address (segment_at memory i)) h
    in
    let same = only i has in
    let there = beyond memory i address has in
    omega (arith, same, there, absent))
