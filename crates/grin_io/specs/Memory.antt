-- The objects in memory: the calls that they are to fail, and what each call does.
use Rattle.std.specs.Prelude.{ℕ, ◌+◌, ◌-◌, ◌^◌, min, Bool, cond, not, ◌&&◌, ◌||◌, ◌==◌, nat_le, List, ◌++◌, length, take, drop, Option, Some, None, is_some, option_map}
use Rattle.std.specs.List.{list_any}
use Rattle.grin_io.specs.Content.{Files, file_named, unread_rest, advanced_place}

-- the calls that are to fail, by their numbers; the number of the next call, from 0 on; and the
-- faults so far
pub record CallSchedule : Type 0 where
  pub planned : List ℕ
  pub made : ℕ
  pub faults : ℕ

-- one more, up to the last value of a u64
abbrev pub raised : ℕ → ℕ
raised n = min (n + 1) (2 ^ 64 - 1)

-- an object that had no call yet
abbrev pub no_calls : List ℕ → CallSchedule
no_calls planned = record { planned = planned; made = 0; faults = 0 }

-- whether the next call is to fail
abbrev pub is_planned : CallSchedule → Bool
is_planned c = list_any (λ k. k == c.made) c.planned

-- one call later: a planned failure is a fault
abbrev pub called : CallSchedule → CallSchedule
called c = record {
  planned = c.planned;
  made = raised c.made;
  faults = cond (is_planned c) (raised c.faults) c.faults;
}

-- one fault more
abbrev pub faulted : CallSchedule → CallSchedule
faulted c = record { planned = c.planned; made = c.made; faults = raised c.faults }

-- a shelf in memory
pub record FilesInMemory : Type 0 where
  pub files : Files
  pub calls : CallSchedule

-- the files with the first one of a name open at its start, or with none open where no file has the
-- name
abbrev pub opened_file : Files → List ℕ → Files
opened_file f name =
    record { named = f.named; opened = option_map (λ _. (name, 0)) (file_named name f.named) }

-- the files with none open
abbrev pub closed : Files → Files
closed f = record { named = f.named; opened = None }

-- how many bytes a read into so much room gives: as many as there are left and fit
abbrev pub read_length : Files → ℕ → ℕ
read_length f room = min (length (unread_rest f.named f.opened)) room

-- the files with the open one's place so many bytes on
abbrev pub after_reading : Files → ℕ → Files
after_reading f k = record { named = f.named; opened = advanced_place k f.opened }

-- whether an opening goes well: it isn't to fail, and there is a file with the name
abbrev pub is_opened : FilesInMemory → List ℕ → Bool
is_opened s name = not (is_planned s.calls) && is_some (file_named name s.files.named)

-- a planned failure and a name that isn't there are a fault each, after which no file is open
abbrev pub after_open : FilesInMemory → List ℕ → FilesInMemory
after_open s name = record {
  files = cond (is_planned s.calls) (closed s.files) (opened_file s.files name);
  calls = cond (is_planned s.calls || is_opened s name) (called s.calls) (faulted (called s.calls));
}

-- the answer to a read into so much room: none at a planned failure
abbrev pub file_read_answer : FilesInMemory → ℕ → Option ℕ
file_read_answer s room = cond (is_planned s.calls) None (Some (read_length s.files room))

abbrev pub after_file_read : FilesInMemory → ℕ → FilesInMemory
after_file_read s room = record {
  files = cond (is_planned s.calls) s.files (after_reading s.files (read_length s.files room));
  calls = called s.calls;
}

-- a shelf in memory that fails only at names that aren't there
pub record UnfailingFiles : Type 0 where
  pub files : Files
  pub faults : ℕ

abbrev pub after_sure_open : UnfailingFiles → List ℕ → UnfailingFiles
after_sure_open s name = record {
  files = opened_file s.files name;
  faults = cond (is_some (file_named name s.files.named)) s.faults (raised s.faults);
}

abbrev pub after_sure_read : UnfailingFiles → ℕ → UnfailingFiles
after_sure_read s room =
    record { files = after_reading s.files (read_length s.files room); faults = s.faults }

-- a source in memory: the bytes that are left
pub record SourceInMemory : Type 0 where
  pub left : List ℕ
  pub calls : CallSchedule

-- the answer to a read into so much room: none at a planned failure, else as many bytes as there
-- are and fit
abbrev pub source_read_answer : SourceInMemory → ℕ → Option (List ℕ)
source_read_answer s room = cond (is_planned s.calls) None (Some (take room s.left))

abbrev pub after_read : SourceInMemory → ℕ → SourceInMemory
after_read s room = record {
  left = cond (is_planned s.calls) s.left (drop room s.left);
  calls = called s.calls;
}

-- a sink in memory: the bytes that it took, and how many it can take
pub record Store : Type 0 where
  pub taken : List ℕ
  pub capacity : ℕ
  pub calls : CallSchedule

-- as many bytes of a piece as there is room for
abbrev pub part_that_fits : Store → List ℕ → List ℕ
part_that_fits s piece = take (min (length piece) (s.capacity - length s.taken)) piece

-- whether a put takes the whole piece: it isn't to fail, and the piece fits
abbrev pub is_stored : Store → List ℕ → Bool
is_stored s piece = not (is_planned s.calls) && nat_le (length piece) (s.capacity - length s.taken)

-- a planned failure takes no byte; a put past the capacity takes what fits, and is a fault
abbrev pub after_put : Store → List ℕ → Store
after_put s piece = record {
  taken = cond (is_planned s.calls) s.taken (s.taken ++ part_that_fits s piece);
  capacity = s.capacity;
  calls =
      cond (is_planned s.calls || is_stored s piece) (called s.calls) (faulted (called s.calls));
}
