-- Files as they are read.
use Rattle.std.specs.Prelude.{◌≡◌, ℕ, ◌<◌, ◌≤◌, Bool, true, false, List, [], ◌∷◌, ◌++◌, length, map, take, Option, Some}
use Rattle.std.specs.List.{AllZip}
use Rattle.seq.specs.Lists.{In}
use Rattle.grin_io.specs.Causes.{CountGrew}
use Rattle.grin_io.specs.Content.{Files, file_named}
use Rattle.grin_io.specs.Changes.{KnownContent, ShelfChange}
use Rattle.text_commands.specs.declared.status.Status.{Status}
use Rattle.text_commands.specs.declared.status.Status.TheVariants.{OutOfMemory, ReadFault}

-- the file is open behind these bytes, which are the first ones of it
pub record IsBehind (files : Files) (file text : List ℕ) : Type 0 where
  pub bytes : List ℕ
  pub named : file_named file files.named ≡ Some bytes
  pub opened : files.opened ≡ Some (file, length text)
  pub front : text ≡ take (length text) bytes
  pub within : length text ≤ length bytes

-- the files stay, and of the open one these bytes were read, where the shelf tells it
abbrev pub Reading : (before now : Option Files) → (file text : List ℕ) → Type 0
Reading before now file text =
    (old : Files) → before ≡ Some old
    → (new : Files) × (now ≡ Some new) × (new.named ≡ old.named) × IsBehind new file text

-- bytes were read, or nothing of the file is behind these
abbrev pub Goes : Files → (file text text' : List ℕ) → Bool → Type 0
Goes new file text text' true = length text < length text'
Goes new file text text' false = file_named file new.named ≡ Some text'

-- where the file was open behind these bytes, it is now open behind those
abbrev pub ReadsOn : (before now : Option Files) → (text text' : List ℕ) → Bool → Type 0
ReadsOn before now text text' more =
    (old : Files) → before ≡ Some old → (file : List ℕ) → IsBehind old file text
    → (new : Files) × (now ≡ Some new) × (new.named ≡ old.named)
    × IsBehind new file text' × Goes new file text text' more

-- the files, with this one open behind so many bytes
abbrev pub open_behind : Files → (file : List ℕ) → ℕ → Files
open_behind files file place = record { named = files.named; opened = Some (file, place) }

-- all bytes of the file were read, or as many as the most that are read, and no further ones
pub record IsRead {F : Type 0} (f : ShelfChange F) (most : ℕ) (file text : List ℕ) : Type 0 where
  pub front : KnownContent (f.content f.old) (λ files.
      (bytes : List ℕ) × (file_named file files.named ≡ Some bytes) × (text ≡ take most bytes)
      × (f.content f.new ≡ Some (open_behind files file (length text))))
  pub short : length text ≤ most

-- the files stay, whichever is open
abbrev pub Stay : (before now : Option Files) → Type 0
Stay before now =
    KnownContent before (λ old. (new : Files) × (now ≡ Some new) × (new.named ≡ old.named))

-- why a file was not read
abbrev pub IsUnread : {F : Type 0} → ShelfChange F → Status → Type 0
IsUnread f ReadFault =
    CountGrew (f.faults f.old) (f.faults f.new) × Stay (f.content f.old) (f.content f.new)
IsUnread f OutOfMemory = Stay (f.content f.old) (f.content f.new)
IsUnread f _ = ⊥

-- ---- several files

-- this holds of each of the files
abbrev pub HoldsOfEachFile : (List ℕ → Type 0) → (files : List (List ℕ)) → Type 0
HoldsOfEachFile Holds files = (file : List ℕ) → In file files → Holds file

-- the files, where each of these was opened in turn: the last one is open behind what was read of
-- it
abbrev pub open_last : Files → (files fronts : List (List ℕ)) → Files
open_last shelf [] fronts = shelf
open_last shelf (file ∷ files) [] = shelf
open_last shelf (file ∷ files) (front ∷ fronts) =
    open_last (open_behind shelf file (length front)) files fronts

-- each of these files has the text beside it
abbrev pub HaveTexts : Files → (files texts : List (List ℕ)) → Type 0
HaveTexts shelf files texts =
    AllZip (λ file text. file_named file shelf.named ≡ Some text) files texts

-- of each of these files all bytes were read, or as many as the most, and no further ones
pub record AreRead (before now : Option Files) (most : ℕ) (files fronts : List (List ℕ))
    : Type 0 where
  pub front : KnownContent before (λ shelf. (texts : List (List ℕ)) × HaveTexts shelf files texts
      × (fronts ≡ map (take most) texts) × (now ≡ Some (open_last shelf files fronts)))
  pub short : AllZip (λ file front. length front ≤ most) files fronts

-- what was read of these files stands behind the texts that were there
abbrev pub AddsFronts : (before now : Option Files) → (most : ℕ)
    → (files old new : List (List ℕ)) → Type 0
AddsFronts before now most files old new =
    (fronts : List (List ℕ)) × AreRead before now most files fronts × (new ≡ old ++ fronts)
