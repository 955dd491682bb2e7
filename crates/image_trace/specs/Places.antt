-- How often each address was that of an instruction that was done, as it is kept while a run goes
-- on.
use Rattle.std.specs.Prelude.{ℕ, ◌/◌, ◌%◌, nat_eq, nat_lt, ◌&&◌, Bool, length, slice_index, if◌then◌else◌}
use Rattle.seq.specs.Lists.{times}
use Rattle.image_trace.specs.declared.places.Places.{Places}

-- the word at an address has a number of its own among so many
abbrev pub is_word : (len a : ℕ) → Bool
is_word len a = nat_eq (a % 4) 0 && nat_lt (a / 4) len

-- how often an address was noted
abbrev pub times_noted : Places → ℕ → ℕ
times_noted p a =
    if is_word (length p.words.items) a then slice_index p.words.items (a / 4)
    else times a p.others.items
