-- The program of a file whose segments are sound.
use Rattle.std.proofs.Common.{◌≡◌, ℕ, zero, suc, ◌+◌, ◌*◌, ◌%◌, ◌<◌, ◌≤◌, List, [], ◌∷◌, Bool, true, false, cond, length, map, filter, refl, sym, ◌∙◌, ap, subst, ◌⊎◌, inl, inr, arith}
use Rattle.std.specs.Prelude.{IsTrue, All, AllPairs, Any, fold, nat_eq, slice_index_or}
use Rattle.elf32.specs.declared.header.ProgramHeader.{ProgramHeader}
use Rattle.elf32.specs.declared.refusal.ElfRefusal.TheVariants.{HeaderOutside}
use Rattle.elf32.specs.Image.{ImageSegment, SegmentsDoNotOverlap, EntryIsExecutable, IsLoadable}
use Rattle.elf32.specs.Headers.{entry_of, headers_offset, header_count, headers_of, is_loadable, part_of, image_of}
use Rattle.elf32.specs.Rules.{Covers, header, IsExecutableAtEntry, KeepsBelow, IsSound}

-- rule 44 says where the program headers are
pub headers_inside : (file : List ℕ) → KeepsBelow 45 file → 0 < header_count file
    → headers_offset file + 32 * header_count file ≤ length file
headers_inside file below some = elim
    (split (length file) (headers_offset file + 32 * header_count file)) [
      | inl lt ↦ absurd (below HeaderOutside (omega arith) (some, lt))
      | inr le ↦ le
    ]
  where
    split : (a b : ℕ) → (a < b) ⊎ (b ≤ a)
    split a b = grind arith

all_cons : {X : Type 0} (P : X → Type 0) (x : X) (xs : List X) → P x → All P xs → All P (x ∷ xs)
all_cons P x xs h hs zero d lt = h
all_cons P x xs h hs (suc k) d lt = hs k d (omega arith)

pairs_cons : {X : Type 0} (R : X → X → Type 0) (x : X) (xs : List X) → All (R x) xs → AllPairs R xs
    → AllPairs R (x ∷ xs)
pairs_cons R x xs head tail i zero d lt within = absurd (omega arith)
pairs_cons R x xs head tail zero (suc j) d lt within = head j d (omega arith)
pairs_cons R x xs head tail (suc i) (suc j) d lt within = tail i j d (omega arith) (omega arith)

any_cons : {X : Type 0} (P : X → Type 0) (x : X) (xs : List X) → Any P xs → Any P (x ∷ xs)
any_cons P x xs (k, y, lt, is, h) = (suc k, y, omega arith, is, h)

module _ (file : List ℕ) where
  parts : List ProgramHeader → List ImageSegment
  parts hs = map (part_of file) (filter is_loadable hs)

  apart_from : (x : ProgramHeader) (xs : List ProgramHeader) → IsTrue (is_loadable x)
      → ((j a : ℕ) → Covers x a → Covers (header xs j) a → ⊥)
      → All (SegmentsDoNotOverlap (part_of file x)) (parts xs)
  unfolding parts
  apart_from x [] load h = λ k d lt. absurd (omega arith)
  apart_from x (y ∷ ys) load h = go (apart_from x ys load (λ j a. h (suc j) a)) (is_loadable y) refl
    where
      go : All (SegmentsDoNotOverlap (part_of file x)) (map (part_of file) (filter is_loadable ys))
          → (b : Bool) → is_loadable y ≡ b → All (SegmentsDoNotOverlap (part_of file x))
          (map (part_of file) (cond b (y ∷ filter is_loadable ys) (filter is_loadable ys)))
      go rest true e = all_cons (SegmentsDoNotOverlap (part_of file x)) (part_of file y)
          (map (part_of file) (filter is_loadable ys))
          (λ a p q. h 0 a (load, p.0, p.1) (e, q.0, q.1)) rest
      go rest false e = rest

  apart_parts : (hs : List ProgramHeader) →
      ((i j a : ℕ) → i < j → Covers (header hs i) a → Covers (header hs j) a → ⊥)
      → AllPairs SegmentsDoNotOverlap (parts hs)
  unfolding parts
  apart_parts [] h = λ i j d lt within. absurd (omega arith)
  apart_parts (x ∷ xs) h = go (apart_parts xs (λ i j a lt. h (suc i) (suc j) a (omega arith)))
      (λ e. apart_from x xs e (λ j a. h 0 (suc j) a (omega arith))) (is_loadable x) refl
    where
      go : AllPairs SegmentsDoNotOverlap (map (part_of file) (filter is_loadable xs))
          → (IsTrue (is_loadable x) → All (SegmentsDoNotOverlap (part_of file x))
          (map (part_of file) (filter is_loadable xs)))
          → (b : Bool) → is_loadable x ≡ b → AllPairs SegmentsDoNotOverlap
          (map (part_of file) (cond b (x ∷ filter is_loadable xs) (filter is_loadable xs)))
      go rest first true e = pairs_cons SegmentsDoNotOverlap (part_of file x)
          (map (part_of file) (filter is_loadable xs)) (first e) rest
      go rest first false e = rest

  may : (entry : ℕ) (x : ProgramHeader) → IsExecutableAtEntry entry x
      → EntryIsExecutable entry (part_of file x)
  may entry x h = (test (x.flags % 2) h.0, (h.1.1, h.1.2))
    where
      test : (n : ℕ) → n ≡ 1 → IsTrue (nat_eq n 1)
      test n e = subst (λ (m : ℕ). IsTrue (nat_eq m 1)) (sym e) refl

  entered_parts : (entry : ℕ) (hs : List ProgramHeader) (k : ℕ) → k < length hs
      → IsExecutableAtEntry entry (header hs k) → Any (EntryIsExecutable entry) (parts hs)
  unfolding parts
  entered_parts entry [] k lt h = absurd (omega arith)
  entered_parts entry (x ∷ xs) zero lt h = go (is_loadable x) h.1.0
    where
      go : (b : Bool) → b ≡ true → Any (EntryIsExecutable entry)
          (map (part_of file) (cond b (x ∷ filter is_loadable xs) (filter is_loadable xs)))
      go true e = (0, part_of file x, omega arith, refl, may entry x h)
      go false e = cc
  entered_parts entry (x ∷ xs) (suc k) lt h = go (entered_parts entry xs k (omega arith) h)
      (is_loadable x)
    where
      go : Any (EntryIsExecutable entry) (map (part_of file) (filter is_loadable xs)) → (b : Bool)
          → Any (EntryIsExecutable entry)
          (map (part_of file) (cond b (x ∷ filter is_loadable xs) (filter is_loadable xs)))
      go rest true = any_cons (EntryIsExecutable entry) (part_of file x)
          (map (part_of file) (filter is_loadable xs)) rest
      go rest false = rest

  sizes_from : (a : ℕ) (hs : List ProgramHeader) → fold (λ (s : ℕ) (p : ImageSegment). s + p.size) a
      (map (part_of file) hs) ≡ fold (λ (s : ℕ) (h : ProgramHeader). s + h.memory_size) a hs
  sizes_from a [] = refl
  sizes_from a (x ∷ xs) = sizes_from (a + x.memory_size) xs

header_is : (hs : List ProgramHeader) (k : ℕ) (x : ProgramHeader) → k < length hs
    → slice_index_or hs k x ≡ x → header hs k ≡ x
header_is [] k x lt e = absurd (omega arith)
header_is (y ∷ ys) zero x lt e = e
header_is (y ∷ ys) (suc k) x lt e = header_is ys k x (omega arith) e

-- a sound file's program can be loaded
pub loadable : (file : List ℕ) → IsSound file → IsLoadable (image_of file)
unfolding parts
loadable file s = record {
  apart = apart_parts file (headers_of file) (λ i j a lt p q. s.apart j (i, a, lt, p, q));
  entered = let e = s.entered in entered_parts file (entry_of file) (headers_of file) e.0 e.2
      (subst (IsExecutableAtEntry (entry_of file))
      (sym (header_is (headers_of file) e.0 e.1 e.2 e.3)) e.4);
  small = subst (λ (n : ℕ). n ≤ 2147483648)
      (sym (sizes_from file 0 (filter is_loadable (headers_of file)))) s.small;
}

-- the program that is put together from the parts
pub assembled : (file : List ℕ) (hs : List ProgramHeader) (entry : ℕ) (segments : List ImageSegment)
    → hs ≡ headers_of file → entry ≡ entry_of file → segments ≡ map (part_of file)
    (filter is_loadable hs)
    → image_of file ≡ record { entry = entry; segments = segments }
assembled file hs entry segments same at made =
    let e : segments ≡ map (part_of file) (filter is_loadable (headers_of file))
    = made ∙ ap (λ (l : List ProgramHeader). map (part_of file) (filter is_loadable l)) same in
    let i : record { entry = entry; segments = segments } ≡ image_of file
    = λ k. record { entry = at k; segments = e k } in
    sym i
