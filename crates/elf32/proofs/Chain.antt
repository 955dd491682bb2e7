-- The rules one after the other, by their numbers.
use Rattle.std.proofs.Common.{◌≡◌, ℕ, suc, ◌+◌, ◌*◌, ◌<◌, ◌≤◌, List, [], ◌∷◌, length, take, refl, ◌⊎◌, inl, inr, Option, Some, None, subst, arith}
use Rattle.std.specs.Prelude.{Any, MatchOption}
use Rattle.elf32.specs.declared.header.ProgramHeader.{ProgramHeader}
use Rattle.elf32.specs.declared.refusal.ElfRefusal.{ElfRefusal}
use Rattle.elf32.specs.declared.refusal.ElfRefusal.TheVariants.{ImageTooLong, TooShort, NotElf, NotRiscv32Exec, HeaderOutside, SegmentOutside, SegmentsOverlap, EntryOutside, SegmentsTooLarge, Memory}
use Rattle.elf32.specs.Headers.{entry_of, headers_offset, header_count, headers_of}
use Rattle.elf32.specs.Rules.{IsRiscv32Exec, SegmentIsOutOfBounds, IsLeast, header, Overlaps, IsExecutableAtEntry, loaded_size, Breaks, rule, KeepsBelow}

-- no rule has a smaller number than the first one
pub below40 : (file : List ℕ) → KeepsBelow 40 file
below40 file (Memory e) lt b = b
below40 file _ lt b = absurd (omega arith)

next : (n : ℕ) (file : List ℕ) → KeepsBelow n file →
    ((r : ElfRefusal) → rule r ≡ n → Breaks r file → ⊥) → KeepsBelow (suc n) file
next n file below at r lt b = elim (split (rule r) n lt)
    [ inl less ↦ below r less b | inr same ↦ at r same b ]
  where
    split : (a c : ℕ) → a < suc c → (a < c) ⊎ (a ≡ c)
    split a c h = grind arith

pub below41 : (file : List ℕ) → length file ≤ 1342177280 → KeepsBelow 41 file
below41 file fits = next 40 file (below40 file) here
  where
    here : (r : ElfRefusal) → rule r ≡ 40 → Breaks r file → ⊥
    here ImageTooLong e b = omega arith
    here _ e b = absurd (omega arith)

pub below42 : (file : List ℕ) → KeepsBelow 41 file → 52 ≤ length file → KeepsBelow 42 file
below42 file below long = next 41 file below here
  where
    here : (r : ElfRefusal) → rule r ≡ 41 → Breaks r file → ⊥
    here TooShort e b = omega arith
    here _ e b = absurd (omega arith)

pub below43 : (file : List ℕ) → KeepsBelow 42 file → take 4 file ≡ (0x7F ∷ 0x45 ∷ 0x4C ∷ 0x46 ∷ [])
    → KeepsBelow 43 file
below43 file below mark = next 42 file below here
  where
    here : (r : ElfRefusal) → rule r ≡ 42 → Breaks r file → ⊥
    here NotElf e b = b mark
    here _ e b = absurd (omega arith)

pub below44 : (file : List ℕ) → KeepsBelow 43 file → IsRiscv32Exec file → KeepsBelow 44 file
below44 file below kind = next 43 file below here
  where
    here : (r : ElfRefusal) → rule r ≡ 43 → Breaks r file → ⊥
    here NotRiscv32Exec e b = b kind
    here _ e b = absurd (omega arith)

pub below45 : (file : List ℕ) → KeepsBelow 44 file →
    ((0 < header_count file) × (length file < headers_offset file + 32 * header_count file) → ⊥)
    → KeepsBelow 45 file
below45 file below inside = next 44 file below here
  where
    here : (r : ElfRefusal) → rule r ≡ 44 → Breaks r file → ⊥
    here HeaderOutside e b = inside b
    here _ e b = absurd (omega arith)

pub below46 : (file : List ℕ) → KeepsBelow 45 file →
    ((i : ℕ) → SegmentIsOutOfBounds (length file) (header (headers_of file) i) → ⊥)
    → KeepsBelow 46 file
below46 file below inside = next 45 file below here
  where
    here : (r : ElfRefusal) → rule r ≡ 45 → Breaks r file → ⊥
    here (SegmentOutside i) e b = inside i b.0
    here _ e b = absurd (omega arith)

pub below47 : (file : List ℕ) → KeepsBelow 46 file → ((j : ℕ) → Overlaps (headers_of file) j → ⊥)
    → KeepsBelow 47 file
below47 file below apart = next 46 file below here
  where
    here : (r : ElfRefusal) → rule r ≡ 46 → Breaks r file → ⊥
    here (SegmentsOverlap j) e b = apart j b.0
    here _ e b = absurd (omega arith)

pub below48 : (file : List ℕ) → KeepsBelow 47 file → Any (IsExecutableAtEntry (entry_of file))
    (headers_of file) → KeepsBelow 48 file
below48 file below entered = next 47 file below here
  where
    here : (r : ElfRefusal) → rule r ≡ 47 → Breaks r file → ⊥
    here EntryOutside e b = b entered
    here _ e b = absurd (omega arith)

pub below49 : (file : List ℕ) → KeepsBelow 48 file → loaded_size (headers_of file) ≤ 2147483648
    → KeepsBelow 49 file
below49 file below small = next 48 file below here
  where
    here : (r : ElfRefusal) → rule r ≡ 48 → Breaks r file → ⊥
    here SegmentsTooLarge e b = omega arith
    here _ e b = absurd (omega arith)

none_of : {T : Type 0} (o : Option T) (P : Type 0) (Q : T → Type 0) → MatchOption o P Q
    → ((x : T) → o ≡ Some x → ⊥) → P
none_of None P Q h none = h
none_of (Some x) P Q h none = absurd (none x refl)

some_of : {T : Type 0} (o : Option T) (x : T) (P : Type 0) (Q : T → Type 0) → MatchOption o P Q
    → o ≡ Some x → Q x
some_of None x P Q h e = cc
some_of (Some y) x P Q h e = let same : y ≡ x = cc in subst Q same h

-- what the searches through the headers say
abbrev Outside : List ℕ → List ProgramHeader → Option ℕ → Type 0
Outside file hs o = MatchOption o ((i : ℕ) → SegmentIsOutOfBounds (length file) (header hs i) → ⊥)
    (λ i. IsLeast (λ k. SegmentIsOutOfBounds (length file) (header hs k)) i)

abbrev Overlapping : List ProgramHeader → Option ℕ → Type 0
Overlapping hs o = MatchOption o ((j : ℕ) → Overlaps hs j → ⊥) (λ j. IsLeast (Overlaps hs) j)

pub all_inside : (file : List ℕ) (hs : List ProgramHeader) (o : Option ℕ) → hs ≡ headers_of file
    → Outside file hs o → ((x : ℕ) → o ≡ Some x → ⊥)
    → (i : ℕ) → SegmentIsOutOfBounds (length file) (header (headers_of file) i) → ⊥
all_inside file hs o same found none = none_of o _ _
    (subst (λ (l : List ProgramHeader). Outside file l o) same found) none

pub all_apart : (file : List ℕ) (hs : List ProgramHeader) (o : Option ℕ) → hs ≡ headers_of file
    → Overlapping hs o → ((x : ℕ) → o ≡ Some x → ⊥)
    → (j : ℕ) → Overlaps (headers_of file) j → ⊥
all_apart file hs o same found none = none_of o _ _
    (subst (λ (l : List ProgramHeader). Overlapping l o) same found) none

pub overlapping : (file : List ℕ) (hs : List ProgramHeader) (o : Option ℕ) (j : ℕ)
    → hs ≡ headers_of file → Overlapping hs o → o ≡ Some j → IsLeast (Overlaps (headers_of file)) j
overlapping file hs o j same found at = some_of o j _ _
    (subst (λ (l : List ProgramHeader). Overlapping l o) same found) at
