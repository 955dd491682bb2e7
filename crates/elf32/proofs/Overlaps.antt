-- The segments before a header, by where they begin.
use Rattle.std.proofs.Common.{◌≡◌, ℕ, ◌+◌, ◌<◌, ◌≤◌, ◌↔◌, zero, suc, length, List, [], ◌∷◌, Option, Some, None, Bool, true, false, refl, sym, ◌⊎◌, inl, inr, ◌∙◌, Less, Greater, arith, ap, subst}
use Rattle.std.specs.Prelude.{IsSome, IsTrue}
use Rattle.std.specs.Ordering.{nat_cmp, is_lt, is_eq}
use Rattle.std.specs.Cmp.{nat_cmp_is}
use Rattle.seq.proofs.Order.{lt_or_le, compared}
use Rattle.elf32.specs.declared.header.ProgramHeader.{ProgramHeader}
use Rattle.elf32.specs.Headers.{is_loadable}
use Rattle.elf32.specs.Rules.{Overlaps, Covers, header, no_header, IsLeast}
use Rattle.elf32.specs.Ends.{IsLastSegmentBelow, AreSegmentEnds}

pub less : (s t : ℕ) → s < t → nat_cmp s t ≡ Less
less s t h = sym (nat_cmp_is s t Less h)

greater : (s t : ℕ) → t < s → nat_cmp s t ≡ Greater
greater s t h = sym (nat_cmp_is s t Greater h)

pub not_less : (s t : ℕ) → is_lt (nat_cmp s t) ≡ false → t ≤ s
not_less s t h = elim (lt_or_le s t)
    [ inl lt ↦ let e : true ≡ false = ap is_lt (sym (less s t lt)) ∙ h in cc | inr le ↦ le ]

pub other_key : (k q : ℕ) → (q ≡ k → ⊥) → is_eq (nat_cmp k q) ≡ false
other_key k q h = elim (compared k q) [
  | inl lt ↦ ap is_eq (less k q lt)
  | inr more ↦ elim more
      [ inl e ↦ absurd (h (sym e)) | inr gt ↦ ap is_eq (greater k q gt) ]
]

-- an earlier segment that begins before this one's end and ends after its start shares an address
-- with it
pub hit : (hs : List ProgramHeader) (j : ℕ) (ends : ℕ → Option ℕ) (s e : ℕ)
    → AreSegmentEnds hs j ends → IsTrue (is_loadable (header hs j)) → 0 < (header hs j).memory_size
    → ends s ≡ Some e → s < (header hs j).addr + (header hs j).memory_size → (header hs j).addr < e
    → Overlaps hs j
hit hs j ends s e t load some at below above =
    let f = t.found s e at in
    let k = f.0 in
    elim (lt_or_le s (header hs j).addr) [
      | inl lt ↦ (
        k,
        (header hs j).addr,
        f.1,
        (f.2, omega arith, omega arith),
        (load, omega arith, omega arith),
      )
      | inr le ↦ (k, s, f.1, (f.2, omega arith, omega arith), (load, omega arith, omega arith))
    ]

-- two of the first n segments that share an address
shared : (hs : List ProgramHeader) (n i k a : ℕ) (ends : ℕ → Option ℕ) → AreSegmentEnds hs n ends
    → i < n → k < n → Covers (header hs i) a → Covers (header hs k) a → i ≡ k
shared hs n i k a ends t hi hk ci ck = elim (compared i k) [
  | inl lt ↦ absurd (t.apart k hk (i, a, lt, ci, ck))
  | inr more ↦ elim more [ inl e ↦ e | inr gt ↦ absurd (t.apart i hi (k, a, gt, ck, ci)) ]
]

-- where the last segment that begins before this one's end ends before its start, there is no
-- shared address
pub miss : (hs : List ProgramHeader) (j : ℕ) (ends : ℕ → Option ℕ) (s e : ℕ)
    → AreSegmentEnds hs j ends
    → IsLastSegmentBelow ends ((header hs j).addr + (header hs j).memory_size) s e
    → e ≤ (header hs j).addr → Overlaps hs j → ⊥
miss hs j ends s e t l le (i, a, lt, ci, cj) =
    let f = t.found s e l.ends_there in
    let k = f.0 in
    let there = t.listed i lt ci.0 (omega arith) in
    let some : IsSome (ends (header hs i).addr) = subst IsSome (sym there) refl in
    let before : (header hs i).addr ≤ s = l.last (header hs i).addr (omega arith) some in
    elim (lt_or_le (header hs i).addr s) [
      | inl gt ↦ elim (lt_or_le s ((header hs i).addr + (header hs i).memory_size)) [
        | inl within ↦
            let same = shared hs j i k s ends t lt f.1 (ci.0, omega arith, within)
            (f.2, omega arith, omega arith) in
            let at = ap (λ (n : ℕ). (header hs n).addr) same in
            omega arith
        | inr past ↦ omega arith
      ]
      | inr not ↦
          let at : (header hs i).addr ≡ s = omega arith in
          let there' : ends s ≡ Some ((header hs i).addr + (header hs i).memory_size)
          = ap ends (sym at) ∙ there in
          let same : Some e ≡ Some ((header hs i).addr + (header hs i).memory_size)
          = sym l.ends_there ∙ there' in
          let ends_same : e ≡ (header hs i).addr + (header hs i).memory_size = cc in
          omega arith
    ]

pub none_below : (hs : List ProgramHeader) (j : ℕ) (ends : ℕ → Option ℕ) → AreSegmentEnds hs j ends
    → ((t : ℕ) → t < (header hs j).addr + (header hs j).memory_size → ends t ≡ None) → Overlaps hs j
    → ⊥
none_below hs j ends t none (i, a, lt, ci, cj) =
    let there = t.listed i lt ci.0 (omega arith) in
    let gone = none (header hs i).addr (omega arith) in
    cc

-- a header without addresses changes nothing
pub passed : (hs : List ProgramHeader) (j : ℕ) (ends : ℕ → Option ℕ) → AreSegmentEnds hs j ends
    → (IsTrue (is_loadable (header hs j)) → 0 < (header hs j).memory_size → ⊥)
    → AreSegmentEnds hs (j + 1) ends
passed hs j ends t empty = record {
  found = λ s e at. let f = t.found s e at in (f.0, omega arith, f.2, f.3, f.4, f.5);
  listed = λ k lt load some. elim (lt_or_le k j) [
    | inl before ↦ t.listed k before load some
    | inr not ↦ let at : k ≡ j = omega arith in absurd
        (empty (subst (λ (n : ℕ). IsTrue (is_loadable (header hs n))) at load)
        (subst (λ (n : ℕ). 0 < (header hs n).memory_size) at some))
  ];
  apart = λ k lt o. elim (lt_or_le k j) [
    | inl before ↦ t.apart k before o
    | inr not ↦ let at : k ≡ j = omega arith in let here = subst (Overlaps hs) at o
        in empty here.4.0 (omega arith)
  ];
}

-- one more segment
pub added : (hs : List ProgramHeader) (j : ℕ) (ends ends' : ℕ → Option ℕ) → AreSegmentEnds hs j ends
    → IsTrue (is_loadable (header hs j)) → 0 < (header hs j).memory_size
    → (Overlaps hs j → ⊥) → ends' (header hs j).addr ≡ Some
    ((header hs j).addr + (header hs j).memory_size)
    → ((q : ℕ) → (q ≡ (header hs j).addr → ⊥) → ends' q ≡ ends q) → AreSegmentEnds hs (j + 1) ends'
added hs j ends ends' t load some fresh here others = record {
  found = λ s e at. elim (same_or_not s (header hs j).addr) [
    | inl same ↦
        let both : Some e ≡ Some ((header hs j).addr + (header hs j).memory_size)
        = sym at ∙ ap ends' same ∙ here in
        let ends_same : e ≡ (header hs j).addr + (header hs j).memory_size = cc in
        (j, omega arith, load, sym same, omega arith, omega arith)
    | inr other ↦ let f = t.found s e (sym (others s other) ∙ at)
        in (f.0, omega arith, f.2, f.3, f.4, f.5)
  ];
  listed = λ k lt loaded more. elim (lt_or_le k j) [
    | inl before ↦ others (header hs k).addr
        (λ same. fresh (
          k,
          (header hs j).addr,
          before,
          (loaded, omega arith, omega arith),
          (load, omega arith, omega arith),
        )) ∙ t.listed k before loaded more
    | inr not ↦ let at : k ≡ j = omega arith in subst
        (λ (n : ℕ). ends' (header hs n).addr ≡ Some
        ((header hs n).addr + (header hs n).memory_size)) (sym at) here
  ];
  apart = λ k lt o. elim (lt_or_le k j) [
    | inl before ↦ t.apart k before o
    | inr not ↦ let at : k ≡ j = omega arith in fresh (subst (Overlaps hs) at o)
  ];
}
  where
    same_or_not : (a b : ℕ) → (a ≡ b) ⊎ (a ≡ b → ⊥)
    same_or_not a b = elim (compared a b) [
      | inl lt ↦ inr (λ e. omega arith)
      | inr more ↦ elim more
          [ inl e ↦ inl e | inr gt ↦ inr (λ e. omega arith) ]
    ]

-- the first header that overlaps
pub least : (hs : List ProgramHeader) (j : ℕ) (ends : ℕ → Option ℕ) → AreSegmentEnds hs j ends
    → Overlaps hs j → IsLeast (Overlaps hs) j
least hs j ends t o = (o, λ k lt. t.apart k lt)

header_past : (hs : List ProgramHeader) (j : ℕ) → length hs ≤ j → header hs j ≡ no_header
header_past [] zero h = refl
header_past [] (suc j) h = refl
header_past (x ∷ xs) zero h = absurd (omega arith)
header_past (x ∷ xs) (suc j) h = header_past xs j (omega arith)

-- past the last header there is none that overlaps
pub past : (hs : List ProgramHeader) (j : ℕ) → length hs ≤ j → Overlaps hs j → ⊥
past hs j le (i, a, lt, ci, cj) = let e = header_past hs j le in let k
    : IsTrue (is_loadable no_header) = subst (λ (h : ProgramHeader). IsTrue (is_loadable h)) e cj.0
    in cc

pub none : (hs : List ProgramHeader) (n : ℕ) (ends : ℕ → Option ℕ) → AreSegmentEnds hs n ends
    → length hs ≤ n → (j : ℕ) → Overlaps hs j → ⊥
none hs n ends t le j o = elim (lt_or_le j n)
    [ inl lt ↦ t.apart j lt o | inr not ↦ past hs j (omega arith) o ]

-- the answer of a search among the earlier ends
pub earlier : (hs : List ProgramHeader) (j : ℕ) (ends : ℕ → Option ℕ) (b : Bool)
    → AreSegmentEnds hs j ends
    → IsTrue (is_loadable (header hs j)) → 0 < (header hs j).memory_size
    → (IsTrue b → (s : ℕ) × (e : ℕ) × IsLastSegmentBelow ends
    ((header hs j).addr + (header hs j).memory_size) s e × ((header hs j).addr < e))
    → (b ≡ false → ((s : ℕ) → s < (header hs j).addr + (header hs j).memory_size → ends s ≡ None)
    ⊎ ((s : ℕ) × (e : ℕ) × IsLastSegmentBelow ends
    ((header hs j).addr + (header hs j).memory_size) s e × (e ≤ (header hs j).addr)))
    → IsTrue b ↔ Overlaps hs j
earlier hs j ends true t load some found missed = (
  λ _. let h = found refl in hit hs j ends h.0 h.1 t load some h.2.ends_there h.2.below h.3,
  λ _. refl,
)
earlier hs j ends false t load some found missed = (
  λ b. cc,
  λ o. elim (missed refl) [
    | inl empty ↦ absurd (none_below hs j ends t empty o)
    | inr l ↦ absurd
        (miss hs j ends l.0 l.1 t l.2 l.3 o)
  ],
)
