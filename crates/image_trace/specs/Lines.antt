-- The text of a trace: a line for each entry, indented by the frames around it.
use Rattle.std.specs.Prelude.{ℕ, zero, suc, min, nat_lt, List, [], ◌∷◌, ◌++◌, take, codes, Option, Some, None, slice_get}
use Rattle.std.specs.List.{prefix_len}
use Rattle.image_trace.specs.declared.entries.Entry.{Entry}

-- two blanks for each level
abbrev pub indent : (levels : ℕ) → List ℕ
indent zero = []
indent (suc levels) = codes "  " ++ indent levels

-- the line of a procedure that so many frames enclose, of which at most 40 are shown
unfoldable pub entry_line : (name : List ℕ) → (levels : ℕ) → List ℕ
entry_line name levels = indent (min levels 40) ++ (name ++ codes "\n")

abbrev pub line_of : Option (List ℕ) → (levels : ℕ) → List ℕ
line_of None levels = []
line_of (Some name) levels = entry_line name levels

-- how many frames are around one that begins at x2, from the outermost one on: the stack grows
-- downwards
abbrev pub levels_around : (x2 : ℕ) → (frames : List ℕ) → ℕ
levels_around x2 frames = prefix_len (λ begin. nat_lt x2 begin) frames

-- the lines of entries, where these frames are open: one that doesn't begin above has ended
abbrev pub lines_within : (names : List (List ℕ)) → (frames : List ℕ) → List Entry → List ℕ
lines_within names frames [] = []
lines_within names frames (e ∷ entries) =
    let levels = levels_around e.x2 frames in
    line_of (slice_get names e.procedure) levels
    ++ lines_within names (take levels frames ++ (e.x2 ∷ [])) entries

abbrev pub trace_text : (names : List (List ℕ)) → List Entry → List ℕ
trace_text names entries = lines_within names [] entries
