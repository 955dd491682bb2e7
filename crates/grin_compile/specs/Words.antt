-- The words of an image's code, and how many steps they are enough for.
use Rattle.std.specs.Prelude.{ℕ, ◌+◌, ◌-◌, ◌*◌, ◌/◌, ◌≤◌, nat_lt, min, max, if◌then◌else◌, List, [], ◌∷◌, map, length, slice_index_or}
use Rattle.seq.specs.Lists.{sum_of}
use Rattle.headline.specs.Carries.{IsBytes, Meaning, Machine, ReachesResult}
use Rattle.rv32_machine.specs.Steps.{State}
use Rattle.rv32_steps.specs.Trace.{trace, procedures_at}
use Rattle.grin_compile.specs.Limits.{greatest}
use Rattle.limits.specs.Limits.{code_start}

-- the first of these addresses behind a, and `end` where there is none
abbrev pub next_address : (addresses : List ℕ) → (end a : ℕ) → ℕ
next_address [] end a = end
next_address (b ∷ bs) end a =
    if nat_lt a b then min b (next_address bs end a) else next_address bs end a

-- where the code of procedures ends: nine words before the end
abbrev pub procedures_end : (code : List ℕ) → ℕ
procedures_end code = code_start + 4 * (length code - 9)

-- the words from an address to the next one at which a procedure begins, or to the end of all
abbrev pub words_from : (code addresses : List ℕ) → ℕ → ℕ
words_from code addresses a = (next_address addresses (procedures_end code) a - a) / 4

-- the words before the first procedure, and those of each one
abbrev pub start_words : (code addresses : List ℕ) → ℕ
start_words code addresses = words_from code addresses code_start

abbrev pub code_words : (code addresses : List ℕ) → List ℕ
code_words code addresses = map (words_from code addresses) addresses

-- the words of the procedures that are entered, each one's for each time
abbrev pub entered_words : (words entered : List ℕ) → ℕ
entered_words words entered = sum_of (map (λ f. slice_index_or words f 0) entered)

-- after any number of steps of a run no more are done than there are words at the start, in each
-- procedure that was entered, each time, and nine behind
abbrev pub StepsAreWithinWords : (code addresses : List ℕ) → (start : State) → Type 0
StepsAreWithinWords code addresses start =
    (i : List ℕ) → IsBytes i → (m : ℕ) →
    let way = trace m i start in
    length way ≤ start_words code addresses
    + entered_words (code_words code addresses) (procedures_at addresses way) + 9

-- the machine keeps pace with a meaning to the word: so many steps are enough for the start, the
-- words of each procedure that is entered, and the nine words behind
abbrev pub KeepsPaceByWords : (start : ℕ) → (words : List ℕ) → Meaning
    → (entered : List ℕ → ℕ → List ℕ) → Machine → Type 0
KeepsPaceByWords start words told entered seen =
    (i : List ℕ) → IsBytes i → (n m : ℕ) → start + entered_words words (entered i n) + 9 ≤ m
    → ReachesResult (told i n) (seen i m)

-- so many steps are enough for the start with the nine words behind, and for each unit
abbrev pub most_steps : (code addresses : List ℕ) → ℕ
most_steps code addresses =
    max (start_words code addresses + 9) (greatest (code_words code addresses))
