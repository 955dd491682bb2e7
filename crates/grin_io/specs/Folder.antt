-- Files in memory, with the place of the open one among them.
use Rattle.std.specs.Prelude.{◌≡◌, ℕ, ◌≤◌, List, map, length, Option, Some, None, IfSome, IsSomeAnd, option_map, slice_get, is_some, string_bytes}
use Rattle.grin_io.specs.declared.memory.MemFile.{MemFile}
use Rattle.grin_io.specs.declared.folder.Folder.TheInside.{Inside}
use Rattle.grin_io.specs.Content.{Files, file_named}

-- each file's name and bytes
abbrev pub named_files : List MemFile → List (List ℕ × List ℕ)
named_files files = map (λ f. (string_bytes f.name, f.bytes.items)) files

-- the name of the open file, and the place in it
abbrev pub open_place : List (List ℕ × List ℕ) → Option ℕ → ℕ → Option (List ℕ × ℕ)
open_place named None at = None
open_place named (Some index) at = option_map (λ f. (f.0, at)) (slice_get named index)

abbrev pub files_of : Inside → Files
files_of f = record {
  named = named_files f.files.items;
  opened = open_place (named_files f.files.items) f.index f.at;
}

-- the open file is there, is the first of its name, and the place is in it
abbrev pub IsOpenIn : List (List ℕ × List ℕ) → Option ℕ → ℕ → Type 0
IsOpenIn named index at = IfSome index (λ i. IsSomeAnd (slice_get named i) (λ f.
    (file_named f.0 named ≡ Some f.1) × (at ≤ length f.1)))

abbrev pub OpenFileIsValid : Inside → Type 0
OpenFileIsValid f = IsOpenIn (named_files f.files.items) f.index f.at

-- a file that is opened at this place is the first one with the name, at its start; where there is
-- none no file is open
pub record OpensFileAt (name : List ℕ) (named : List (List ℕ × List ℕ)) (index : Option ℕ)
    : Type 0 where
  pub found : is_some index ≡ is_some (file_named name named)
  pub opened : open_place named index 0 ≡ option_map (λ _. (name, 0)) (file_named name named)
  pub sound : IsOpenIn named index 0
