-- The forms take options that there are, and each of them once.
use Rattle.std.proofs.Common.{◌≡◌, ℕ, ◌≤◌, ◌⊎◌, inl, inr, Bool, true, false, ◌&&◌, List, [], ◌∷◌, length, codes, Option, Some, None, refl, sym, ◌∙◌, arith}
use Rattle.std.specs.List.{list_any}
use Rattle.std.specs.Option.{option_map, option_and_then}
use Rattle.std.specs.Str.{bytes_eq}
use Rattle.std.proofs.lemmas.Slice.Eq.{bytes_eq-Decides}
use Rattle.command_line.specs.Commands.{CommandLine, RunFile, TraceFile, ExecImage, GenRun, Given, Form, only, option_number, option_stands, cells_of, stack_of, steps_of, stats_of, units_of, run_form, list_form, sized_form, trace_form, exec_form, gen_form, file_form, of_operand, without_operand, seed_of, size_of}
use Rattle.command_line.specs.Walk.{option_names}

-- A form has no option but those that there are, and asks for nothing where there are two operands
-- or one of its options has
-- two values.
pub record Strict (form : Form) : Type 0 where
  pub known : (name : List ℕ) → list_any (bytes_eq name) option_names ≡ false
      → list_any (bytes_eq name) form.options ≡ false
  pub once : (given : Given) (name : List ℕ) (operands : List (List ℕ))
      → list_any (bytes_eq name) form.options ≡ true → 2 ≤ length (given name)
      → form.asks given operands ≡ None
  pub alone : (given : Given) (operands : List (List ℕ)) → 2 ≤ length operands
      → form.asks given operands ≡ None

-- lists of two or more
pub only_two : {T : Type 0} (xs : List T) → 2 ≤ length xs → only xs ≡ None
only_two [] two = absurd (omega arith)
only_two (x ∷ []) two = absurd (omega arith)
only_two (x ∷ y ∷ rest) two = refl

number_two : (default least most : ℕ) (values : List (List ℕ)) → 2 ≤ length values
    → option_number default least most values ≡ None
number_two default least most [] two = absurd (omega arith)
number_two default least most (x ∷ []) two = absurd (omega arith)
number_two default least most (x ∷ y ∷ rest) two = refl

stands_two : (values : List (List ℕ)) → 2 ≤ length values → option_stands values ≡ None
stands_two [] two = absurd (omega arith)
stands_two (x ∷ []) two = absurd (omega arith)
stands_two (x ∷ y ∷ rest) two = refl

-- an option of a list is the first or one of the others
first_or_other : (name first : List ℕ) (others : List (List ℕ))
    → list_any (bytes_eq name) (first ∷ others) ≡ true
    → (name ≡ first) ⊎ (list_any (bytes_eq name) others ≡ true)
first_or_other name first others is = by_first (bytes_eq name first) refl where
  by_first : (test : Bool) → bytes_eq name first ≡ test → (name ≡ first)
      ⊎ (list_any (bytes_eq name) others ≡ true)
  by_first true same = inl ((bytes_eq-Decides name first).0 same)
  by_first false other = inr (rw other at is)

-- what has none in it is none
then_none : {S T : Type 0} (o : Option S) (f : S → Option T) → ((x : S) → f x ≡ None)
    → option_and_then f o ≡ None
then_none None f none = refl
then_none (Some x) f none = none x

-- two operands are not one
of_two : (asks : List ℕ → Option CommandLine) (operands : List (List ℕ)) → 2 ≤ length operands
    → of_operand asks operands ≡ None
of_two asks operands two = rw (only_two operands two) refl

-- what asks for nothing, whichever its operand is
of_none : (asks : List ℕ → Option CommandLine) (operands : List (List ℕ))
    → ((operand : List ℕ) → asks operand ≡ None) → of_operand asks operands ≡ None
of_none asks operands none = then_none (only operands) asks none

-- what is said to `run` where one of it is none
module _ (file : List ℕ) (cells stack steps : Option ℕ) (stats : Option Bool) where
  abbrev counted : (c s : ℕ) → Option CommandLine
  counted c s = option_and_then (λ n. option_map (RunFile file c s n) stats) steps

  abbrev run_asks : Option CommandLine
  run_asks = option_and_then (λ c. option_and_then (λ s. counted c s) stack) cells

  no_stack : stack ≡ None → run_asks ≡ None
  no_stack none = then_none cells (λ c. option_and_then (λ s. counted c s) stack)
      (λ c. rw none refl)

  not_counted : ((c s : ℕ) → counted c s ≡ None) → run_asks ≡ None
  not_counted none =
      then_none cells (λ c. option_and_then (λ s. counted c s) stack)
      (λ c. then_none stack (λ s. counted c s) (λ s. none c s))

  no_steps : steps ≡ None → run_asks ≡ None
  no_steps none = not_counted (λ c s. rw none refl)

  no_stats : stats ≡ None → run_asks ≡ None
  no_stats none = not_counted
      (λ c s. then_none steps (λ n. option_map (RunFile file c s n) stats) (λ n. rw none refl))

run_once : (given : Given) (name : List ℕ) (operands : List (List ℕ))
    → list_any (bytes_eq name) run_form.options ≡ true → 2 ≤ length (given name)
    → run_form.asks given operands ≡ None
run_once given name operands is two = of_none _ operands
    (λ file. elim
    (first_or_other name (codes "heap") (codes "stack" ∷ codes "steps" ∷ codes "stats" ∷ []) is) [
      | inl heap ↦ rw (number_two 1000000 1 8000000 (given (codes "heap")) (rw heap at two)) refl
      | inr other ↦ elim
          (first_or_other name (codes "stack") (codes "steps" ∷ codes "stats" ∷ []) other) [
            | inl stack ↦ no_stack file (cells_of given) (stack_of given) (steps_of given)
                (stats_of given)
                (number_two 1048576 1024 67108864 (given (codes "stack")) (rw stack at two))
            | inr third ↦ elim (first_or_other name (codes "steps") (codes "stats" ∷ []) third) [
              | inl steps ↦ no_steps file (cells_of given) (stack_of given) (steps_of given)
                  (stats_of given)
                  (number_two 1000000000 1 1000000000000 (given (codes "steps")) (rw steps at two))
              | inr last ↦ elim (first_or_other name (codes "stats") [] last) [
                | inl stats ↦ no_stats file (cells_of given) (stack_of given) (steps_of given)
                    (stats_of given) (stands_two (given (codes "stats")) (rw stats at two))
                | inr none ↦ absurd (cc none)
              ]
            ]
          ]
    ])

list_once : (given : Given) (name : List ℕ) (operands : List (List ℕ))
    → list_any (bytes_eq name) list_form.options ≡ true → 2 ≤ length (given name)
    → list_form.asks given operands ≡ None
list_once given name operands is two = of_none _ operands
    (λ file. elim (first_or_other name (codes "after") [] is) [
      | inl after ↦ rw (only_two (given (codes "after")) (rw after at two)) refl
      | inr none ↦ absurd (cc none)
    ])

-- two numbers where the second is none
sized_none : (ask : (cells stack : ℕ) → CommandLine) (cells stack : Option ℕ) → stack ≡ None
    → option_and_then (λ c. option_map (ask c) stack) cells ≡ None
sized_none ask cells stack none = then_none cells (λ c. option_map (ask c) stack)
    (λ c. rw none refl)

sized_once : (ask : List ℕ → (cells stack : ℕ) → CommandLine) (given : Given) (name : List ℕ)
    (operands : List (List ℕ))
    → list_any (bytes_eq name) (sized_form ask).options ≡ true → 2 ≤ length (given name)
    → (sized_form ask).asks given operands ≡ None
sized_once ask given name operands is two = of_none _ operands
    (λ file. elim (first_or_other name (codes "heap") (codes "stack" ∷ []) is) [
      | inl heap ↦ rw (number_two 1000000 1 8000000 (given (codes "heap")) (rw heap at two)) refl
      | inr other ↦ elim (first_or_other name (codes "stack") [] other) [
        | inl stack ↦ sized_none (ask file) (cells_of given) (stack_of given)
            (number_two 1048576 1024 67108864 (given (codes "stack")) (rw stack at two))
        | inr none ↦ absurd (cc none)
      ]
    ])

trace_once : (given : Given) (name : List ℕ) (operands : List (List ℕ))
    → list_any (bytes_eq name) trace_form.options ≡ true → 2 ≤ length (given name)
    → trace_form.asks given operands ≡ None
trace_once given name operands is two = of_none _ operands
    (λ file. elim (first_or_other name (codes "units") [] is) [
      | inl units ↦ rw (number_two 1000 1 1000000 (given (codes "units")) (rw units at two)) refl
      | inr none ↦ absurd (cc none)
    ])

-- what is said to `exec` where the second is none
executed_none : (image : List ℕ) (steps : Option ℕ) (stats : Option Bool) → stats ≡ None
    → option_and_then (λ n. option_map (ExecImage image n) stats) steps ≡ None
executed_none image steps stats none = then_none steps (λ n. option_map (ExecImage image n) stats)
    (λ n. rw none refl)

exec_once : (given : Given) (name : List ℕ) (operands : List (List ℕ))
    → list_any (bytes_eq name) exec_form.options ≡ true → 2 ≤ length (given name)
    → exec_form.asks given operands ≡ None
exec_once given name operands is two = of_none _ operands
    (λ image. elim (first_or_other name (codes "steps") (codes "stats" ∷ []) is) [
      | inl steps ↦
          rw (number_two 1000000000 1 1000000000000 (given (codes "steps")) (rw steps at two))
          refl
      | inr other ↦ elim (first_or_other name (codes "stats") [] other) [
        | inl stats ↦ executed_none image (steps_of given) (stats_of given)
            (stands_two (given (codes "stats")) (rw stats at two))
        | inr none ↦ absurd (cc none)
      ]
    ])

-- nothing is asked for of no operand
without_none : (asked : Option CommandLine) (operands : List (List ℕ)) → asked ≡ None
    → without_operand asked operands ≡ None
without_none asked [] none = none
without_none asked (operand ∷ operands) none = refl

-- two operands are not none
without_two : (asked : Option CommandLine) (operands : List (List ℕ)) → 2 ≤ length operands
    → without_operand asked operands ≡ None
without_two asked [] two = absurd (omega arith)
without_two asked (operand ∷ operands) two = refl

-- the numbers of `gen` where one is none
generated_none : (seed size : Option ℕ) → size ≡ None
    → option_and_then (λ s. option_map (GenRun s) size) seed ≡ None
generated_none seed size none = then_none seed (λ s. option_map (GenRun s) size) (λ s. rw none refl)

gen_once : (given : Given) (name : List ℕ) (operands : List (List ℕ))
    → list_any (bytes_eq name) gen_form.options ≡ true → 2 ≤ length (given name)
    → gen_form.asks given operands ≡ None
gen_once given name operands is two = without_none _ operands
    (elim (first_or_other name (codes "seed") (codes "size" ∷ []) is) [
      | inl seed ↦ rw (only_two (given (codes "seed")) (rw seed at two)) refl
      | inr other ↦ elim (first_or_other name (codes "size") [] other) [
        | inl size ↦ generated_none (seed_of given) (size_of given)
            (rw (only_two (given (codes "size")) (rw size at two)) refl)
        | inr none ↦ absurd (cc none)
      ]
    ])

-- each option of a list is one of these names
abbrev among : (options names : List (List ℕ)) → Bool
among [] names = true
among (option ∷ options) names = list_any (bytes_eq option) names && among options names

known_among : (options names : List (List ℕ)) → among options names ≡ true → (name : List ℕ)
    → list_any (bytes_eq name) names ≡ false
    → list_any (bytes_eq name) options ≡ false
known_among [] names all name none = refl
known_among (option ∷ options) names all name none = by_test (bytes_eq name option) refl
    (list_any (bytes_eq option) names) refl (known_among options names) where
      by_test : (same : Bool) → bytes_eq name option ≡ same → (known : Bool)
          → list_any (bytes_eq option) names ≡ known
          → (among options names ≡ true → (name : List ℕ) → list_any (bytes_eq name) names ≡ false
          → list_any (bytes_eq name) options ≡ false)
          → list_any (bytes_eq name) (option ∷ options) ≡ false
      by_test same is false known rest = absurd (cc (rw known at all))
      by_test true is true known rest =
          let found : list_any (bytes_eq name) names ≡ true
          = rw ((bytes_eq-Decides name option).0 is) known in
          absurd (cc (sym found ∙ none))
      by_test false is true known rest = rw is (rest (rw known at all) name none)

pub run_strict : Strict run_form
run_strict = record {
  known = known_among run_form.options option_names refl;
  once = run_once;
  alone
      = λ given operands two. of_two _ operands two;
}

pub file_strict : (ask : List ℕ → CommandLine) → Strict (file_form ask)
file_strict ask = record {
  known = λ name other. refl;
  once = λ given name operands is two. absurd (cc is);
  alone
      = λ given operands two. of_two _ operands two;
}

pub list_strict : Strict list_form
list_strict = record {
  known = known_among list_form.options option_names refl;
  once = list_once;
  alone
      = λ given operands two. of_two _ operands two;
}

pub sized_strict : (ask : List ℕ → (cells stack : ℕ) → CommandLine) → Strict (sized_form ask)
sized_strict ask = record {
  known = known_among (codes "heap" ∷ codes "stack" ∷ []) option_names refl;
  once = sized_once ask;
  alone
      = λ given operands two. of_two _ operands two;
}

pub trace_strict : Strict trace_form
trace_strict = record {
  known = known_among trace_form.options option_names refl;
  once = trace_once;
  alone
      = λ given operands two. of_two _ operands two;
}

pub exec_strict : Strict exec_form
exec_strict = record {
  known = known_among exec_form.options option_names refl;
  once = exec_once;
  alone
      = λ given operands two. of_two _ operands two;
}

pub gen_strict : Strict gen_form
gen_strict = record {
  known = known_among gen_form.options option_names refl;
  once = gen_once;
  alone
      = λ given operands two. without_two _ operands two;
}
