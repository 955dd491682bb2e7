-- The tables in which the code looks up the numbers of tags, procedures and global cells.
use Rattle.std.specs.Prelude.{◌≡◌, ℕ, ◌+◌, ◌==◌, List, [], ◌∷◌, map, length, if◌then◌else◌}
use Rattle.arity_check.specs.Program.{Program, Function}
use Rattle.grin_translate.specs.declared.numbering.Numbers.{Numbers}
use Rattle.grin_translate.specs.declared.tags.Delay.{Delay}
use Rattle.grin_translate.specs.declared.tags.Delay.TheVariants.{Calls, Applies, Operates, Reads}
use Rattle.grin_translate.specs.Tags.{delays as all_that_waits}

-- the first number for each function, where each has as many as it has parameters; and the number
-- after them
abbrev pub prefix_sums : ℕ → List ℕ → List ℕ
prefix_sums first [] = []
prefix_sums first (n ∷ ns) = first ∷ prefix_sums (first + n) ns

abbrev pub after : ℕ → List ℕ → ℕ
after first [] = first
after first (n ∷ ns) = after (first + n) ns

-- for each function the number of those without parameters before it; and the number of all
abbrev pub one_if_parameterless : ℕ → ℕ
one_if_parameterless n = if n == 0 then 1 else 0

abbrev pub globals_before : ℕ → List ℕ → List ℕ
globals_before count [] = []
globals_before count (n ∷ ns) = count ∷ globals_before (count + one_if_parameterless n) ns

abbrev pub global_count : ℕ → List ℕ → ℕ
global_count count [] = count
global_count count (n ∷ ns) = global_count (count + one_if_parameterless n) ns

abbrev pub parameter_counts : List Function → List ℕ
parameter_counts fs = map (λ f. f.params) fs

-- something other than a call of a function
abbrev pub IsNotCall : Delay → Type 0
IsNotCall (Calls f) = ⊥
IsNotCall (Applies m) = Unit {0}
IsNotCall (Operates op) = Unit {0}
IsNotCall Reads = Unit {0}

pub record NumbersMatchProgram (p : Program) (n : Numbers) : Type 0 where
  pub functions : n.functions ≡ length p.funs
  pub constructors : n.constructors ≡ length p.cons
  pub delays : n.delays ≡ all_that_waits p
  pub waiting : n.waiting ≡ length (all_that_waits p)
  pub parts : n.parts
      ≡ prefix_sums (1 + length p.cons + length (all_that_waits p)) (parameter_counts p.funs)
  pub tags : n.tags
      ≡ after (1 + length p.cons + length (all_that_waits p)) (parameter_counts p.funs)
  pub globals : n.globals ≡ globals_before 0 (parameter_counts p.funs)
  pub shared : n.shared ≡ global_count 0 (parameter_counts p.funs)
