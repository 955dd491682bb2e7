-- The segments at the start of a program share no address.
use Rattle.std.proofs.Common.{◌≡◌, ℕ, ◌+◌, ◌-◌, ◌%◌, ◌<◌, ◌≤◌, List, [], ◌++◌, length, take, replicate, Bool, true, false, Option, All, refl, sym, ap, ◌∙◌, subst, arith}
use Rattle.std.specs.Prelude.{map, nat_le, nat_lt, ◌&&◌, slice_index_or, AllPairs, ◌⊎◌}
use mathlib.Core.Logic.{inl, inr}
use Rattle.std.proofs.lemmas.Bool.{leb-true, ltb-true, ltb-false, cases_eq}
use Rattle.std.proofs.lemmas.List.{length-append, length-replicate, get_or-replicate, get_or_default}
use Rattle.std.proofs.Math.ListN.{get_or-map, get_or-eq_default}
use Rattle.elf32.specs.Image.{ImageSegment, IsSoundSegment, ContainsAddress, SegmentsDoNotOverlap}
use Rattle.rv32_machine.specs.declared.store.Decoded.{Decoded}
use Rattle.rv32_machine.specs.Memory.{Stretch, stretch_of, is_in, end_of, segment_at}
use Rattle.rv32_machine.specs.Decoded.{SegmentsAreDisjoint, IsMemoryWithCache}
use Rattle.rv32_machine.specs.Starts.{Starts}

abbrev no_part : ImageSegment
no_part = record { addr = 0; size = 0; bytes = []; write = false; exec = false }

both : (a b : Bool) → a && b ≡ true → (a ≡ true) × (b ≡ true)
both true b h = (refl, h)
both false b h = let c : false ≡ true = h in absurd cc

stretch_end : (p : ImageSegment) → IsSoundSegment p → end_of (stretch_of p) ≡ p.addr + p.size
stretch_end p h =
    let filled : length (p.bytes ++ replicate (p.size - length p.bytes) 0) ≡ length p.bytes +
    (p.size - length p.bytes) =
    length-append p.bytes (replicate (p.size - length p.bytes) 0) ∙ ap (λ n. length p.bytes + n)
    (length-replicate (p.size - length p.bytes) 0) in
    let fit = h.bytes_fit in
    omega (arith, filled, fit)

has : (address : ℕ) (p : ImageSegment) → IsSoundSegment p → is_in address (stretch_of p) ≡ true
    → ContainsAddress p address
has address p h e =
    let t = both (nat_le p.addr address) (nat_lt address (end_of (stretch_of p))) e in (
      leb-true p.addr address t.0,
      omega
          (arith, ltb-true address (end_of (stretch_of p)) t.1, stretch_end p h),
    )

module _ (parts : List ImageSegment) (are : All IsSoundSegment parts)
    (apart : AllPairs SegmentsDoNotOverlap parts) where
  abbrev part : ℕ → ImageSegment
  part n = slice_index_or parts n no_part

  is_part : (n : ℕ) → IsSoundSegment (part n)
  is_part n = elim (below_or_not n (length parts)) [
    | inl lt ↦ are n no_part lt
    | inr le ↦ subst IsSoundSegment (sym (get_or-eq_default parts no_part le))
        (record { bytes_fit = omega arith; ends = omega arith })
  ]
    where
      below_or_not : (a b : ℕ) → (a < b) ⊎ (b ≤ a)
      below_or_not a b = go (nat_lt a b) refl
        where
          go : (t : Bool) → nat_lt a b ≡ t → (a < b) ⊎ (b ≤ a)
          go true e = inl (ltb-true a b e)
          go false e = inr (ltb-false a b e)

  part_has : (address n : ℕ) → is_in address (segment_at (map stretch_of parts) n) ≡ true
      → ContainsAddress (part n) address
  part_has address n e = has address (part n) (is_part n)
      (ap (is_in address) (sym (get_or-map stretch_of parts n no_part)) ∙ e)

  there : (address n : ℕ) → ContainsAddress (part n) address → (length parts ≤ n) → ⊥
  there address n h beyond =
      let none : ContainsAddress no_part address = subst (λ p. ContainsAddress p address)
      (get_or-eq_default parts no_part beyond) h in
      omega (arith, none.0, none.1)

  pub begun_apart : SegmentsAreDisjoint (map stretch_of parts)
  begun_apart address m n a b = elim (cases_eq m n) [
    | inl e ↦ e
    | inr d ↦ absurd (go (nat_lt m n) refl d)
  ]
    where
      hm : ContainsAddress (part m) address
      hm = part_has address m a

      hn : ContainsAddress (part n) address
      hn = part_has address n b

      below : (k : ℕ) → ContainsAddress (part k) address → k < length parts
      below k h = at (nat_lt k (length parts)) refl
        where
          at : (t : Bool) → nat_lt k (length parts) ≡ t → k < length parts
          at true e = ltb-true k (length parts) e
          at false e = absurd (there address k h (ltb-false k (length parts) e))

      go : (t : Bool) → nat_lt m n ≡ t → (m ≡ n → ⊥) → ⊥
      go true e d = apart m n no_part (ltb-true m n e) (below n hn) address hm hn
      go false e d =
          let over : n ≤ m = ltb-false m n e in
          let less : n < m = omega (arith, over, d) in
          apart n m no_part less (below m hm) address hn hm

  -- nothing is kept yet
  pub begun : (memory : List Stretch) (empty : Decoded) → memory ≡ map stretch_of parts
      → empty.address ≡ 1 → (starts : ℕ → Option ℕ) → Starts memory (length memory) starts
      → (decoded : List Decoded) → decoded ≡ replicate 65536 empty
      → IsMemoryWithCache memory starts decoded
  begun memory empty is odd starts begin decoded full = record {
    apart = subst SegmentsAreDisjoint (sym is) begun_apart;
    starts = begin;
    places = ap length full ∙ length-replicate 65536 empty;
    kept = λ k d lt aligned. absurd (go k d lt aligned);
  }
    where
      filled : (n k : ℕ) → k < n → (d : Decoded) → slice_index_or (replicate n empty) k d ≡ empty
      filled n k lt d = get_or-replicate n k empty d lt

      go : (k : ℕ) (d : Decoded) → k < length decoded → (slice_index_or decoded k d).address % 4 ≡ 0
          → ⊥
      go k d lt aligned =
          let at : slice_index_or decoded k d ≡ empty
          = ap (λ l. slice_index_or l k d) full ∙ filled 65536 k
          (omega (arith, lt, ap length full, length-replicate 65536 empty)) d in
          omega (arith, sym aligned ∙ ap (λ x. x.address % 4) at ∙ ap (λ n. n % 4) odd)

-- one segment more
pub one_part_more : (parts : List ImageSegment) (n : ℕ) (p : ImageSegment)
    → ((k : ℕ) (d : ImageSegment) → k < n → IsSoundSegment (slice_index_or parts k d))
    → slice_index_or parts n p ≡ p → n < length parts → IsSoundSegment p
    → (k : ℕ) (d : ImageSegment) → k < n + 1 → IsSoundSegment (slice_index_or parts k d)
one_part_more parts n p are is there h k d lt = elim (cases_eq k n) [
  | inl e ↦ subst (λ j. IsSoundSegment (slice_index_or parts j d)) (sym e)
      (subst IsSoundSegment (sym (get_or_default parts n d p there ∙ is)) h)
  | inr other ↦ are k d (omega (arith, lt, other))
]

-- what a list without elements is resized to
pub filled_is : {A : Type 0} (xs old : List A) (len : ℕ) (v : A) → xs ≡ take 65536 old
    ++ replicate (65536 - len) v → old ≡ [] → len ≡ 0 → xs ≡ replicate 65536 v
filled_is xs old len v is none zero = is ∙
    (λ i. take 65536 (none i) ++ replicate (65536 - zero i) v)
