-- Instructions that are kept decoded stay right: a store changes only segments that may be written.
use Rattle.std.proofs.Common.{◌≡◌, ◌≢◌, ℕ, zero, suc, ◌+◌, ◌-◌, ◌%◌, ◌<◌, ◌≤◌, List, [], ◌∷◌, ◌++◌, length, take, Bool, true, false, Option, Some, None, refl, sym, ap, ◌∙◌, subst, arith}
use Rattle.std.specs.Prelude.{IsSome, drop, ◌^◌, nat_le, nat_lt, ◌&&◌, slice_index_or, slice_get, slice_set, if◌then◌else◌}
use Rattle.std.proofs.lemmas.Bool.{cases_eq, leb-true, ltb-true}
use Rattle.std.proofs.lemmas.Grind.{common_steps}
use Rattle.std.proofs.lemmas.Option.{get_or_from_slice_get, same_Some}
use mathlib.Core.Logic.{inl, inr}
use Rattle.std.proofs.lemmas.List.{length-set, get_or-set_same, get_or-set_other, get_or_default}
use Rattle.std.proofs.lemmas.List.Elements.{All-set}
use Rattle.seq.proofs.Order.{lt_true, lt_false}
use Rattle.rv32_machine.specs.declared.memory.Right.{Right}
use Rattle.rv32_machine.specs.declared.memory.Right.TheVariants.{Read, Write, Execute}
use Rattle.rv32_machine.specs.declared.memory.Access.TheVariants.{At, Outside}
use Rattle.rv32_machine.specs.declared.store.Decoded.{Decoded}
use Rattle.rv32_machine.specs.Memory.{Stretch, no_stretch, allows, is_in, end_of, place_from, segment_at, within, at_place, access, put_over, with_bytes, stored_at, little_endian, IsPlace, IsInside, IsAllowed}
use Rattle.rv32_machine.specs.Decoded.{IsCachedInstr, SegmentsAreDisjoint, IsMemoryWithCache}
use Rattle.rv32_machine.specs.Starts.{Starts}

over_length : (old : List ℕ) (offset : ℕ) (new : List ℕ)
    → length (put_over old offset new) ≡ length old
over_length old offset [] = refl
over_length old offset (b ∷ bs) = over_length (slice_set old offset b) (offset + 1) bs ∙ length-set
    old offset b

pub and_left : (a b : Bool) → a && b ≡ true → a ≡ true
and_left true b h = refl
and_left false b h = let c : false ≡ true = h in absurd cc

access_is : (right : Right) (memory : List Stretch) (address len : ℕ)
    → access right memory address len ≡ at_place memory address len
    (place_from right address 0 memory)
unfolding access
access_is right memory address len = refl

-- a store in the segment m
module _ (memory : List Stretch) (m offset : ℕ) (new : List ℕ) (there : m < length memory) where
  abbrev old : Stretch
  old = segment_at memory m

  abbrev changed : Stretch
  changed = with_bytes old (put_over old.bytes offset new)

  abbrev after : List Stretch
  after = stored_at memory m offset new

  same_end : end_of changed ≡ end_of old
  same_end = ap (λ n. old.first + n) (over_length old.bytes offset new)

  -- what of a segment does not change
  kept : {A : Type 0} (f : Stretch → A) → f changed ≡ f old → (n : ℕ)
      → f (segment_at after n) ≡ f (segment_at memory n)
  kept f same n = elim (cases_eq n m) [
    | inl e ↦ subst (λ k. f (segment_at after k) ≡ f (segment_at memory k)) (sym e)
        (ap f (get_or-set_same memory m changed no_stretch there) ∙ same)
    | inr d ↦ ap f (get_or-set_other memory m n changed no_stretch d)
  ]

  pub other : (n : ℕ) → n ≢ m → segment_at after n ≡ segment_at memory n
  other n d = get_or-set_other memory m n changed no_stretch d

  same_in : (address : ℕ) → is_in address changed ≡ is_in address old
  same_in address = ap (λ e. nat_le old.first address && nat_lt address e) same_end

  pub in_kept : (address n : ℕ) → is_in address (segment_at after n) ≡ is_in address
      (segment_at memory n)
  in_kept address = kept (is_in address) (same_in address)

  allows_kept : (right : Right) → allows right changed ≡ allows right old
  allows_kept Read = refl
  allows_kept Write = refl
  allows_kept Execute = refl

  serves_kept : (right : Right) (address : ℕ) → allows right changed && is_in address changed ≡
      allows right old && is_in address old
  serves_kept right address = λ i. allows_kept right i && same_in address i

  write_kept : (n : ℕ) → (segment_at after n).write ≡ (segment_at memory n).write
  write_kept = kept (λ s. s.write) refl

  -- an access goes where it went
  pub access_kept : (right : Right) (address len : ℕ)
      → access right after address len ≡ access right memory address len
  access_kept right address len =
      access_is right after address len ∙ ap (at_place after address len)
      (place_kept right address 0 memory m changed (serves_kept right address)) ∙ at_kept
      (place_from right address 0 memory) ∙ sym (access_is right memory address len)
    where
      at_kept : (p : Option ℕ) → at_place after address len p ≡ at_place memory address len p
      at_kept None = refl
      at_kept (Some n) = kept (within address len n)
          (ap (λ e. if nat_le (address + len) e then At n (address - old.first)
          else Outside (e % 2 ^ 32)) same_end) n

      place_kept : (right : Right) (address k : ℕ) (l : List Stretch) (n : ℕ) (s : Stretch)
          → allows right s && is_in address s ≡ allows right (segment_at l n) && is_in address
          (segment_at l n) → place_from right address k (slice_set l n s) ≡ place_from right address
          k l
      place_kept right address k [] n s e = refl
      place_kept right address k (x ∷ l) zero s e = ap
          (λ b. if b then Some k else place_from right address (k + 1) l) e
      place_kept right address k (x ∷ l) (suc n) s e
          = ap (λ p. if allows right x && is_in address x then Some k else p)
          (place_kept right address (k + 1) l n s e)

  -- what is kept decoded stays right
  module _ (writes : old.write ≡ true) where
    decoded_kept : (d : Decoded) → IsCachedInstr memory d → IsCachedInstr after d
    decoded_kept d h = record {
      segment = h.segment;
      offset = h.offset;
      word = h.word;
      stands = (
        access_kept Execute d.address 4 ∙ h.stands.0,
        ap (λ s. little_endian (take 4 (drop h.offset s.bytes))) (other h.segment apart) ∙
            h.stands.1,
      );
      decodes = h.decodes;
      fixed = write_kept h.segment ∙ h.fixed;
    }
      where
        apart : h.segment ≢ m
        apart e = let c : true ≡ false = sym writes ∙ ap (λ n. (segment_at memory n).write) (sym e)
            ∙ h.fixed in absurd cc

    same_length : length after ≡ length memory
    same_length = length-set memory m changed

    first_kept : (n : ℕ) → (segment_at after n).first ≡ (segment_at memory n).first
    first_kept = kept (λ s. s.first) refl

    starts_kept : (starts : ℕ → Option ℕ) → Starts memory (length memory) starts
        → Starts after (length after) starts
    starts_kept starts s = record {
      found = λ a n e. in_kept a n ∙ s.found a n e;
      listed = λ n a lt h. subst (λ f. IsSome (starts f)) (sym (first_kept n))
          (s.listed n a (omega (arith, lt, same_length)) (sym (in_kept a n) ∙ h));
    }

    pub store_kept : (starts : ℕ → Option ℕ) (decoded : List Decoded)
        → IsMemoryWithCache memory starts decoded → IsMemoryWithCache after starts decoded
    store_kept starts decoded s = record {
      apart = λ address i j a b. s.apart address i j (sym (in_kept address i) ∙ a)
          (sym (in_kept address j) ∙ b);
      starts = starts_kept starts s.starts;
      places = s.places;
      kept = λ k x lt aligned. decoded_kept (slice_index_or decoded k x) (s.kept k x lt aligned);
    }

-- one more is kept
pub store_more : (memory : List Stretch) (starts : ℕ → Option ℕ) (decoded : List Decoded)
    (place : ℕ) (d : Decoded) → IsMemoryWithCache memory starts decoded → IsCachedInstr memory d
    → IsMemoryWithCache memory starts (slice_set decoded place d)
store_more memory starts decoded place d s h = record {
  apart = s.apart;
  starts = s.starts;
  places = length-set decoded place d ∙ s.places;
  kept = All-set (λ d. d.address % 4 ≡ 0 → IsCachedInstr memory d) decoded place d (λ _. h) s.kept;
}

-- ---- the segment that has an address is the one that an access finds

pub and_right : (a b : Bool) → a && b ≡ true → b ≡ true
and_right true b h = h
and_right false b h = let c : false ≡ true = h in absurd cc

module _ (right : Right) (address : ℕ) where
  found_from : (k : ℕ) (l : List Stretch) (j : ℕ) → j < length l
      → allows right (segment_at l j) && is_in address (segment_at l j) ≡ true
      → ((i : ℕ) → is_in address (segment_at l i) ≡ true → i ≡ j)
      → place_from right address k l ≡ Some (k + j)
  found_from k [] j lt s alone = absurd (omega (arith, lt))
  found_from k (x ∷ l) zero lt s alone = ap
      (λ b. if b then Some k else place_from right address (k + 1) l) s ∙ ap Some (omega arith)
  found_from k (x ∷ l) (suc j) lt s alone =
      ap (λ b. if b then Some k else place_from right address (k + 1) l)
      (not_here (allows right x && is_in address x) refl)
      ∙ found_from (k + 1) l j (omega (arith, lt)) s
      (λ i h. let e : suc i ≡ suc j = alone (suc i) h in omega (arith, e))
      ∙ ap Some (omega arith)
    where
      not_here : (b : Bool) → allows right x && is_in address x ≡ b → b ≡ false
      not_here true e = let z : 0 ≡ suc j = alone 0 (and_right (allows right x) (is_in address x) e)
          in absurd (omega (arith, z))
      not_here false e = refl

is_there : (l : List Stretch) (n : ℕ) (s : Stretch) → slice_get l n ≡ Some s → n < length l
is_there [] n s e = let c : None ≡ Some s = e in absurd cc
is_there (x ∷ l) zero s e = omega arith
is_there (x ∷ l) (suc n) s e = omega (arith, is_there l n s e)

-- the segments as a write leaves them
pub written_back : {A : Type 0} (len : ℕ) (new old : List A) → length new ≡ length old
    → len ≡ length old → take len (new ++ drop (length new) old) ≡ new
written_back len new old same all = grind (arith, common_steps)

-- ---- places of segments

-- a segment that is found serves, and is there
pub record Serves (right : Right) (address : ℕ) (memory : List Stretch) (n : ℕ) : Type 0 where
  pub there : n < length memory
  pub serves : allows right (segment_at memory n) && is_in address (segment_at memory n) ≡ true

found_serves : (right : Right) (address k : ℕ) (l : List Stretch) (p : ℕ)
    → place_from right address k l ≡ Some p → (j : ℕ) × ((p ≡ k + j) × Serves right address l j)
found_serves right address k [] p e = let c : None ≡ Some p = e in absurd cc
found_serves right address k (x ∷ l) p e = here (λ f. found_serves right address (k + 1) l p f)
    (allows right x && is_in address x) refl e
  where
    here : (place_from right address (k + 1) l ≡ Some p → (j : ℕ)
        × ((p ≡ (k + 1) + j) × Serves right address l j)) → (b : Bool)
        → allows right x && is_in address x ≡ b →
        (if b then Some k else place_from right address (k + 1) l) ≡ Some p → (j : ℕ)
        × ((p ≡ k + j) × Serves right address (x ∷ l) j)
    here later true t e =
        (0, (omega (arith, same_Some k p e), record { there = omega arith; serves = t }))
    here later false t e =
        let h = later e in (
          suc h.0,
          (
            omega (arith, h.1.0),
            record
                { there = omega (arith, h.1.1.there); serves = h.1.1.serves },
          ),
        )

place_serves : (right : Right) (address : ℕ) (memory : List Stretch) (n : ℕ)
    → place_from right address 0 memory ≡ Some n → Serves right address memory n
place_serves right address memory n e =
    let h = found_serves right address 0 memory n e in
    subst (Serves right address memory) (sym (h.1.0 ∙ omega arith)) h.1.1

module _ (right : Right) (address len n : ℕ) (memory : List Stretch)
    (place : IsPlace right address memory n) where
  pub at_none : length memory ≤ n → Outside address ≡ access right memory address len
  at_none beyond =
      sym (access_is right memory address len ∙ ap (at_place memory address len)
      (place ∙ ap (λ b. if b then Some n else None) (lt_false n (length memory) beyond)))

  module _ (s : Stretch) (there : true ≡ nat_lt n (length memory))
      (read : s ≡ slice_index_or memory n s) where
    inside : n < length memory
    inside = ltb-true n (length memory) (sym there)

    is : segment_at memory n ≡ s
    is = get_or_default memory n no_stretch s inside ∙ sym read

    found : place_from right address 0 memory ≡ Some n
    found = place ∙ ap (λ b. if b then Some n else None) (sym there)

    serves : allows right s && is_in address s ≡ true
    serves = subst (λ x. allows right x && is_in address x ≡ true) is
        (place_serves right address memory n found).serves

    has : is_in address s ≡ true
    has = and_right (allows right s) (is_in address s) serves

    pub begins : s.first ≤ address
    begins = leb-true s.first address
        (and_left (nat_le s.first address) (nat_lt address (end_of s)) has)

    pub at_found : within address len n s ≡ access right memory address len
    at_found = sym
        (access_is right memory address len ∙ ap (at_place memory address len) found ∙ ap
        (within address len n) is)

    pub at_inside : IsInside memory len (within address len n s)
    at_inside = go (nat_le (address + len) (end_of s)) refl
      where
        go : (b : Bool) → nat_le (address + len) (end_of s) ≡ b
            → IsInside memory len
            (if b then At n (address - s.first) else Outside (end_of s % 2 ^ 32))
        go true e =
            let ends : address + len ≤ end_of s = leb-true (address + len) (end_of s) e in
            let low = begins in
            let same : length (segment_at memory n).bytes ≡ length s.bytes
            = ap (λ x. length x.bytes) is in
            (inside, omega (arith, ends, low, same))
        go false e = tt

    pub at_allowed : IsAllowed right memory (within address len n s)
    at_allowed = go (nat_le (address + len) (end_of s))
      where
        go : (b : Bool) → IsAllowed right memory
            (if b then At n (address - s.first) else Outside (end_of s % 2 ^ 32))
        go true = ap (allows right) is ∙ and_left (allows right s) (is_in address s) serves
        go false = tt

-- a segment that serves is the place
pub serving_place : (right : Right) (memory : List Stretch) (address n : ℕ) (s : Stretch)
    → SegmentsAreDisjoint memory → slice_get memory n ≡ Some s
    → allows right s && is_in address s ≡ true → IsPlace right address memory n
serving_place right memory address n s apart at serves =
    let is : segment_at memory n ≡ s = get_or_from_slice_get memory n s no_stretch at in
    let there : n < length memory = is_there memory n s at in
    found_from right address 0 memory n there
    (ap (λ x. allows right x && is_in address x) is ∙ serves)
    (λ i h. apart address i n h
    (and_right (allows right (segment_at memory n)) (is_in address (segment_at memory n))
    (ap (λ x. allows right x && is_in address x) is ∙ serves)))
    ∙ ap Some (omega arith)
    ∙ sym (ap (λ b. if b then Some n else None) (lt_true n (length memory) there))
