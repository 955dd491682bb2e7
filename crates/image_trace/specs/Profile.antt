-- The profile of a run: how often each procedure was entered, and how many instructions were done
-- in its code.
use Rattle.std.specs.Prelude.{ℕ, zero, suc, ◌+◌, ◌-◌, nat_eq, if◌then◌else◌, List, [], ◌∷◌, ◌++◌, map, codes, decimal}
use Rattle.seq.specs.Lists.{times, sum_of}
use Rattle.image_trace.specs.declared.profile.Count.{Count}

-- the instructions that were done of so many words from an address on, where `done` says how often
-- the one at an address was
abbrev pub done_within : (done : ℕ → ℕ) → (words begin : ℕ) → ℕ
done_within done zero begin = 0
done_within done (suc words) begin = done begin + done_within done words (begin + 4)

-- a procedure is entered as often as its first instruction is done
abbrev pub count_of : (done : ℕ → ℕ) → (begin words : ℕ) → Count
count_of done begin words =
    record { entries = done begin; instructions = done_within done words begin }

-- the counts of procedures that begin at these addresses and have code of so many words
abbrev pub counts_of : (done : ℕ → ℕ) → (begins words : List ℕ) → List Count
counts_of done [] words = []
counts_of done (begin ∷ begins) [] = []
counts_of done (begin ∷ begins) (n ∷ words) = count_of done begin n ∷ counts_of done begins words

-- the same of a run, of which `way` has the place of each instruction that was done
abbrev pub counts_in : (way : List ℕ) → (begins words : List ℕ) → List Count
counts_in way begins words = counts_of (λ a. times a way) begins words

-- the instructions of a run of so many that were done outside of procedures
abbrev pub outside : (all : ℕ) → List Count → ℕ
outside all counts = all - sum_of (map (λ c. c.instructions) counts)

-- ---- as a text

unfoldable pub number_of : (what : List ℕ) → (number : ℕ) → List ℕ
number_of what number = what ++ decimal number

unfoldable pub start_line : (instructions : ℕ) → List ℕ
start_line instructions = number_of (codes "start instructions ") instructions ++ codes "\n"

unfoldable pub count_line : (name : List ℕ) → (entries instructions : ℕ) → List ℕ
count_line name entries instructions =
    name ++ (number_of (codes " entries ") entries
    ++ (number_of (codes " instructions ") instructions ++ codes "\n"))

-- the line of a procedure, if an instruction of its was done
abbrev pub line_of_count : (name : List ℕ) → Count → List ℕ
line_of_count name c =
    if nat_eq c.instructions 0 then [] else count_line name c.entries c.instructions

abbrev pub count_lines : (names : List (List ℕ)) → List Count → List ℕ
count_lines [] counts = []
count_lines (name ∷ names) [] = []
count_lines (name ∷ names) (c ∷ counts) = line_of_count name c ++ count_lines names counts

-- the profile of a run of so many instructions: a line for what was done outside of procedures, and
-- one for each procedure in which something was done
abbrev pub profile_text : (names : List (List ℕ)) → (all : ℕ) → List Count → List ℕ
profile_text names all counts = start_line (outside all counts) ++ count_lines names counts
