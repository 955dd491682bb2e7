-- What each status says of the files that a command names.
use Rattle.std.specs.Prelude.{◌≡◌, ◌⊎◌, ℕ, min, List, length, map, take, Some}
use Rattle.std.specs.List.{AllZip}
use Rattle.grin_io.specs.Content.{file_named}
use Rattle.grin_io.specs.Changes.{KnownContent, ShelfChange}
use Rattle.text_commands.specs.declared.status.Status.{Status}
use Rattle.text_commands.specs.Reading.{IsUnread, open_behind, open_last}

-- the most bytes that are taken of a text: one more than those of the longest one
abbrev pub text_read_limit : ℕ
text_read_limit = 1048577

-- Where the shelf tells its files, this one has these bytes; as many of them were taken as there
-- are, but not more than the most.
abbrev pub FileIsTaken : {F : Type 0} → ShelfChange F → (most : ℕ) → (file bytes : List ℕ) → Type 0
FileIsTaken f most file bytes =
    KnownContent (f.content f.old) (λ files. (file_named file files.named ≡ Some bytes)
    × (f.content f.new ≡ Some (open_behind files file (min (length bytes) most))))

-- the bytes of a file have this outcome
abbrev pub HoldsOfFileBytes : {F : Type 0} → ShelfChange F → (most : ℕ) → (file : List ℕ)
    → (outcome : List ℕ → Type 0) → Type 0
HoldsOfFileBytes f most file outcome =
    (bytes : List ℕ) × FileIsTaken f most file bytes × outcome bytes

-- A status says of a file that it was not read, by a fault of the shelf or for want of memory, and
-- then all else is untouched; or it says this of the file's bytes.
abbrev pub HoldsOfOperandFile : {F : Type 0} → ShelfChange F → (most : ℕ) → (untouched : Type 0)
    → (file : List ℕ) → (outcome : List ℕ → Status → Type 0) → Status → Type 0
HoldsOfOperandFile f most untouched file outcome status =
    (IsUnread f status × untouched) ⊎ HoldsOfFileBytes f most file (λ bytes. outcome bytes status)

-- Where the shelf tells its files, these have these texts. Of each in turn as many bytes were taken
-- as there are, but not more than the most, and the last one is still open.
abbrev pub FilesAreTaken : {F : Type 0} → ShelfChange F → (most : ℕ) → (files texts : List (List ℕ))
    → Type 0
FilesAreTaken f most files texts =
    AllZip (λ file text. KnownContent (f.content f.old) (λ shelf.
    file_named file shelf.named ≡ Some text))
    files texts
    × KnownContent (f.content f.old) (λ shelf.
    f.content f.new ≡ Some (open_last shelf files (map (take most) texts)))

-- the texts of files have this outcome
abbrev pub HoldsOfFileTexts : {F : Type 0} → ShelfChange F → (most : ℕ) → (files : List (List ℕ))
    → (outcome : List (List ℕ) → Type 0) → Type 0
HoldsOfFileTexts f most files outcome =
    (texts : List (List ℕ)) × FilesAreTaken f most files texts × outcome texts

-- The same of a status for files of which one was not read, or for all their texts.
abbrev pub HoldsOfOperandFiles : {F : Type 0} → ShelfChange F → (most : ℕ) → (untouched : Type 0)
    → (files : List (List ℕ)) → (outcome : List (List ℕ) → Status → Type 0) → Status → Type 0
HoldsOfOperandFiles f most untouched files outcome status =
    (IsUnread f status × untouched) ⊎ HoldsOfFileTexts f most files (λ texts. outcome texts status)
