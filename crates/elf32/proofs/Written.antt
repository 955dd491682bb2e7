-- The file of a program loads as the program.
use Rattle.std.proofs.Common.{◌≡◌, ℕ, zero, suc, ◌+◌, ◌-◌, ◌*◌, ◌^◌, ◌<◌, ◌≤◌, List, [], ◌∷◌, ◌++◌, true, false, length, take, drop, map, filter, replicate, refl, sym, ◌∙◌, ap, subst, ◌⊎◌, inl, inr, append_assoc, take_all, arith}
use Rattle.std.specs.Prelude.{Any}
use Rattle.std.proofs.lemmas.List.{length-replicate, length-append}
use Rattle.std.proofs.Math.Seq.{drop-append_seam}
use Rattle.byteorder.specs.Endian.{little_number, little_bytes}
use Rattle.byteorder.specs.Numbers.{little_number-reads_back}
use Rattle.elf32.specs.declared.header.ProgramHeader.{ProgramHeader}
use Rattle.elf32.specs.File.{words, headers, file_of, program, SizesFitLayout}
use Rattle.elf32.specs.Headers.{entry_of, header_at, headers_of, is_loadable, part_of, image_of}
use Rattle.elf32.specs.Rules.{SegmentIsOutOfBounds, Covers, header, Overlaps, IsExecutableAtEntry, loaded_size, KeepsBelow, Loads}
use Rattle.elf32.proofs.Chain.{below41, below42, below43, below44, below45, below46, below47, below48, below49}

length_words : (numbers : List ℕ) → length (words numbers) ≡ 4 * length numbers
length_words [] = refl
length_words (x ∷ xs) = let e = length_words xs in omega (arith, e)

back : (n : ℕ) → n < 2 ^ 32 → little_number 4 (little_bytes 4 n) ≡ n
back n lt = little_number-reads_back 4 n [] lt

abbrev code_header : ℕ → ProgramHeader
code_header n = record
    { kind = 1; offset = 4096; addr = 0x00010000; file_size = n; memory_size = n; flags = 5 }

abbrev data_header : (addr size : ℕ) → ProgramHeader
data_header addr size = record
    { kind = 1; offset = 0; addr = addr; file_size = 0; memory_size = size; flags = 6 }

abbrev three : (n h s : ℕ) → List ProgramHeader
three n h s = code_header n ∷ data_header 0x50000000 h ∷ data_header (0x78000000 - s) s ∷ []

first : (n h s : ℕ) (rest : List ℕ) → n < 2 ^ 32 → header_at (headers n h s ++ rest) 52 ≡
    code_header n
first n h s rest lt = let e = back n lt in λ k. code_header (e k)

second : (n h s : ℕ) (rest : List ℕ) → h < 2 ^ 32 → header_at (headers n h s ++ rest) 84 ≡
    data_header 0x50000000 h
second n h s rest lt = let e = back h lt in λ k. data_header 0x50000000 (e k)

third : (n h s : ℕ) (rest : List ℕ) → s < 2 ^ 32 → header_at (headers n h s ++ rest) 116 ≡
    data_header (0x78000000 - s) s
third n h s rest lt = let e = back s lt in let a = back (0x78000000 - s) (omega arith)
    in λ k. data_header (a k) (e k)

listed : (n h s : ℕ) (rest : List ℕ) → n < 2 ^ 32 → h < 2 ^ 32 → s < 2 ^ 32
    → headers_of (headers n h s ++ rest) ≡ three n h s
unfolding headers_of
listed n h s rest ln lh ls =
    let e1 = first n h s rest ln in
    let e2 = second n h s rest lh in
    let e3 = third n h s rest ls in
    λ k. e1 k ∷ e2 k ∷ e3 k ∷ []

-- ---- the segments of the three headers
record Regions (n h s : ℕ) : Type 0 where
  pub some : 0 < n
  pub code : n ≤ 1073741824
  pub memory : 0x50000000 + h + s ≤ 0x78000000

inside : (n h s i : ℕ) → Regions n h s → SegmentIsOutOfBounds (4096 + n) (header (three n h s) i)
    → ⊥
inside n h s zero r (load, inl past) = omega arith
inside n h s zero r (load, inr (inl more)) = omega arith
inside n h s zero r (load, inr (inr high)) = omega arith
inside n h s (suc zero) r (load, inl past) = omega arith
inside n h s (suc zero) r (load, inr (inl more)) = omega arith
inside n h s (suc zero) r (load, inr (inr high)) = omega arith
inside n h s (suc (suc zero)) r (load, inl past) = omega arith
inside n h s (suc (suc zero)) r (load, inr (inl more)) = omega arith
inside n h s (suc (suc zero)) r (load, inr (inr high)) = omega arith
inside n h s (suc (suc (suc i))) r (load, past) = cc

abbrev Region : (s i a : ℕ) → Type 0
Region s i a = ((i ≡ 0) × (a < 0x50000000)) ⊎
    (((i ≡ 1) × (0x50000000 ≤ a) × (a + s < 0x78000000)) ⊎ ((i ≡ 2) × (0x78000000 ≤ a + s)))

region : (n h s i a : ℕ) → Regions n h s → Covers (header (three n h s) i) a → Region s i a
region n h s zero a r c = inl (refl, omega arith)
region n h s (suc zero) a r c = inr (inl (refl, omega arith, omega arith))
region n h s (suc (suc zero)) a r c = inr (inr (refl, omega arith))
region n h s (suc (suc (suc i))) a r c = let e = c.0 in cc

same_region : (s i j a : ℕ) → s ≤ 0x28000000 → Region s i a → Region s j a → i ≡ j
same_region s i j a le (inl p) (inl q) = omega arith
same_region s i j a le (inl p) (inr (inl q)) = omega arith
same_region s i j a le (inl p) (inr (inr q)) = omega arith
same_region s i j a le (inr (inl p)) (inl q) = omega arith
same_region s i j a le (inr (inl p)) (inr (inl q)) = omega arith
same_region s i j a le (inr (inl p)) (inr (inr q)) = omega arith
same_region s i j a le (inr (inr p)) (inl q) = omega arith
same_region s i j a le (inr (inr p)) (inr (inl q)) = omega arith
same_region s i j a le (inr (inr p)) (inr (inr q)) = omega arith

apart : (n h s j : ℕ) → Regions n h s → Overlaps (three n h s) j → ⊥
apart n h s j r (i, a, lt, ci, cj) =
    let e = same_region s i j a (omega arith) (region n h s i a r ci) (region n h s j a r cj) in
    omega arith

entered : (n h s : ℕ) → Regions n h s → Any (IsExecutableAtEntry 0x00010000) (three n h s)
entered n h s r = (0, code_header n, omega arith, refl, (refl, (refl, omega arith, omega arith)))

small : (n h s : ℕ) → Regions n h s → loaded_size (three n h s) ≤ 2147483648
small n h s r = omega arith

-- ---- the whole file
abbrev tail : List ℕ → List ℕ
tail code = replicate 3948 0 ++ words code

length_headers : (n h s : ℕ) → length (headers n h s) ≡ 148
length_headers n h s = refl

length_file : (n h s : ℕ) (code : List ℕ) → length (headers n h s ++ tail code) ≡ 4096 + 4 * length
    code
length_file n h s code =
    let e1 = length-append (headers n h s) (tail code) in
    let e2 = length_headers n h s in
    let e3 = length-append (replicate 3948 0) (words code) in
    let e4 = length-replicate {A = ℕ} 3948 0 in
    let e5 = length_words code in
    omega (arith, e1, e2, e3, e4, e5)

code_part : (n h s : ℕ) (code : List ℕ) → drop 4096 (headers n h s ++ tail code) ≡ words code
code_part n h s code =
    let front = headers n h s ++ replicate 3948 0 in
    let e1 = length-append (headers n h s) (replicate 3948 0) in
    let e2 = length_headers n h s in
    let e3 = length-replicate {A = ℕ} 3948 0 in
    let long : length front ≡ 4096 = omega (arith, e1, e2, e3) in
    let cut = drop-append_seam front (words code) in
    ap (drop 4096) (sym (append_assoc (headers n h s) (replicate 3948 0) (words code)))
    ∙ subst (λ (k : ℕ). drop k (front ++ words code) ≡ words code) long cut

kept : (h s : ℕ) (code : List ℕ) → Regions (4 * length code) h s
    → KeepsBelow 49 (headers (4 * length code) h s ++ tail code)
kept h s code r =
    let n = 4 * length code in
    let file = headers n h s ++ tail code in
    let long = length_file n h s code in
    let same = listed n h s (tail code) (omega arith) (omega arith) (omega arith) in
    let b42 = below42 file (below41 file (omega (arith, long))) (omega (arith, long)) in
    let b44 = below44 file (below43 file b42 refl)
    (record { class = refl; order = refl; type = refl; machine = refl; headers = λ _. refl }) in
    let b45 = below45 file b44 (λ p. let past = p.1 in omega (arith, long, past)) in
    let b46 = below46 file b45
    (subst (λ (hs : List ProgramHeader). (i : ℕ)
    → SegmentIsOutOfBounds (length file) (header hs i) → ⊥) (sym same)
    (subst (λ (l : ℕ). (i : ℕ) → SegmentIsOutOfBounds l (header (three n h s) i) → ⊥) (sym long)
    (λ i. inside n h s i r))) in
    let b47 = below47 file b46
    (subst (λ (hs : List ProgramHeader). (j : ℕ) → Overlaps hs j → ⊥) (sym same)
    (λ j. apart n h s j r)) in
    let b48 = below48 file b47
    (subst (λ (hs : List ProgramHeader). Any (IsExecutableAtEntry (entry_of file)) hs)
    (sym same) (entered n h s r)) in
    below49 file b48
    (subst (λ (hs : List ProgramHeader). loaded_size hs ≤ 2147483648) (sym same)
    (small n h s r))

image : (h s : ℕ) (code : List ℕ) → Regions (4 * length code) h s
    → program code h s ≡ image_of (headers (4 * length code) h s ++ tail code)
image h s code r =
    let n = 4 * length code in
    let file = headers n h s ++ tail code in
    let same = listed n h s (tail code) (omega arith) (omega arith) (omega arith) in
    let whole = take_all n (words code) (let e = length_words code in omega (arith, e)) in
    let code_bytes : take n (drop 4096 file) ≡ words code
    = ap (take n) (code_part n h s code) ∙ whole in
    let parts : map (part_of file) (filter is_loadable (three n h s)) ≡ (program code h s).segments
    =
    λ k. record { addr = 0x00010000; size = n; bytes = code_bytes k; write = false; exec = true }
    ∷ record { addr = 0x50000000; size = h; bytes = []; write = true; exec = false }
    ∷ record { addr = 0x78000000 - s; size = s; bytes = []; write = true; exec = false }
    ∷ [] in
    let all : map (part_of file) (filter is_loadable (headers_of file)) ≡
    (program code h s).segments =
    ap (λ (hs : List ProgramHeader). map (part_of file) (filter is_loadable hs)) same ∙ parts in
    let turned = sym all in
    λ k. record { entry = 0x00010000; segments = turned k }

pub loads : (code : List ℕ) (h s : ℕ) → SizesFitLayout code h s
    → Loads (file_of code h s) (program code h s)
unfolding file_of
loads code h s fits =
    let r : Regions (4 * length code) h s = let a = fits.some in let b = fits.code_fits in let d
    = fits.data_fits in record { some = omega arith; code = omega arith; memory = omega arith }
    in
    subst (λ (file : List ℕ). Loads file (program code h s))
    (sym (append_assoc (headers (4 * length code) h s) (replicate 3948 0) (words code)))
    (record { unbroken = kept h s code r; program = image h s code r })

pub pieces : (code : List ℕ) (h s : ℕ) (f1 f2 f3 : List ℕ) → f1 ≡ headers (4 * length code) h s
    → f2 ≡ f1 ++ replicate (4096 - length f1) 0 → f3 ≡ f2 ++ words code → f3 ≡ file_of code h s
unfolding file_of
pieces code h s f1 f2 f3 e1 e2 e3 = e3 ∙ ap (λ (f : List ℕ). f ++ words code)
    (e2 ∙ ap (λ (f : List ℕ). f ++ replicate (4096 - length f) 0) e1)
