-- What shelves, sources and sinks hold, and what a call does to it. An object that tells its
-- content before a call tells it after the call; of one that doesn't tell it nothing is said.
use Rattle.std.specs.Prelude.{◌≡◌, ℕ, ◌+◌, ◌≤◌, ◌<◌, ◌↔◌, List, [], ◌++◌, length, take, drop, Option, Some, None, IfSome, IsSome, IfOk, option_map, unwrap_or, Result, Ok, Err, bytes_eq}
use Rattle.std.specs.Map.{lookup}

-- named files, and which of them is open at which place
pub record Files : Type 0 where
  pub named : List (List ℕ × List ℕ)
  pub opened : Option (List ℕ × ℕ)

-- the bytes under a name: of several files with one name, those of the first
abbrev pub file_named : List ℕ → List (List ℕ × List ℕ) → Option (List ℕ)
file_named name named = lookup (λ n. bytes_eq n name) named

-- the bytes of the open file from its place on
abbrev pub unread_rest : List (List ℕ × List ℕ) → Option (List ℕ × ℕ) → List ℕ
unread_rest named None = []
unread_rest named (Some (name, at)) = drop at (unwrap_or (file_named name named) [])

-- the open file's place, so many bytes on
abbrev pub advanced_place : ℕ → Option (List ℕ × ℕ) → Option (List ℕ × ℕ)
advanced_place k opened = option_map (λ p. (p.0, p.1 + k)) opened

-- the first k bytes of what was left stand at the buffer's front, and its other bytes are as they
-- were; a buffer that isn't empty gets none exactly where nothing was left
pub record FillsBuffer (left buffer filled : List ℕ) (k : ℕ) : Type 0 where
  pub within : k ≤ length left
  pub front : filled ≡ take k left ++ drop k buffer
  pub ends : 0 < length buffer → (k ≡ 0) ↔ (left ≡ [])

-- an opening: that file at its start, which is there, or no file; the files stay
abbrev pub OpensFile : {E : Type 0} → Option Files → Option Files → List ℕ → Result Unit E → Type 0
OpensFile before now name (Ok _) = IfSome before (λ old. IsSome (file_named name old.named)
    × (now ≡ Some (record { named = old.named; opened = Some (name, 0) })))
OpensFile before now name (Err _) =
    IfSome before (λ old. now ≡ Some (record { named = old.named; opened = None }))

-- a reading of the open file: the place moves by the bytes that were read; at a failure it stays
abbrev pub ReadsFile : {E : Type 0} → Option Files → Option Files
    → List ℕ → List ℕ → Result ℕ E → Type 0
ReadsFile before now buffer filled (Ok k) = IfSome before (λ old.
    FillsBuffer (unread_rest old.named old.opened) buffer filled k
    × (now ≡ Some (record { named = old.named; opened = advanced_place k old.opened })))
ReadsFile before now buffer filled (Err _) = IfSome before (λ old. now ≡ Some old)

-- a reading of what is left: the bytes that were read are no longer left; at a failure all stay
abbrev pub Reads : {E : Type 0} → Option (List ℕ) → Option (List ℕ)
    → List ℕ → List ℕ → Result ℕ E → Type 0
Reads before now buffer filled (Ok k) =
    IfSome before (λ left. FillsBuffer left buffer filled k × (now ≡ Some (drop k left)))
Reads before now buffer filled (Err _) = IfSome before (λ left. now ≡ Some left)

-- the bytes that a read gave, which stand at the buffer's front
abbrev pub bytes_read : {E : Type 0} → Result ℕ E → (filled : List ℕ) → Option (List ℕ)
bytes_read (Ok k) filled = Some (take k filled)
bytes_read (Err _) filled = None

-- A read that has room and gives nothing meets the end. From then on no read gives a byte.
pub record EndIsFinal {E : Type 0} (before now : Type 0) (room : ℕ) (result : Result ℕ E)
    : Type 0 where
  pub met : IfOk result (λ k. 0 < room → k ≡ 0 → now)
  pub stays : before → now
  pub none : before → IfOk result (λ k. k ≡ 0)

-- a put: the whole piece is taken, or at a failure some of it from its front on
abbrev pub PutTakesPrefix : {E : Type 0} → Option (List ℕ) → Option (List ℕ)
    → List ℕ → Result Unit E → Type 0
PutTakesPrefix before now piece (Ok _) = IfSome before (λ taken. now ≡ Some (taken ++ piece))
PutTakesPrefix before now piece (Err _) =
    IfSome before (λ taken. (k : ℕ) × (now ≡ Some (taken ++ take k piece)))
