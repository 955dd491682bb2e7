-- What laws and `compile_source` ask of equations.
use Rattle.std.specs.Prelude.{ℕ, List, ◌++◌, length}
use Rattle.seq.specs.Lists.{In}
use Rattle.match_compile.specs.Source.{Source}
use Rattle.match_compile.specs.Rules.{Broken}
use Rattle.match_compile.specs.Readable.{IsReadable}
use Rattle.match_compile.specs.Sound.{name_of_equation}
use Rattle.match_compile.specs.Decisions.{decisions}
use Rattle.match_compile.specs.Translated.{numbered_texts, param_name, field_name, most_params, most_fields_of}

-- the equations break none of the rules that speak of them
abbrev pub BreakNoRule : Source → Type 0
BreakNoRule c = (k at : ℕ) → Broken c k at → ⊥

-- the new names of the program for so many equations, parameters and fields
abbrev pub new_names : (equations params fields : ℕ) → List (List ℕ)
new_names equations params fields =
    numbered_texts equations name_of_equation
    ++ (numbered_texts params param_name ++ numbered_texts fields field_name)

-- none of these names is one of them
abbrev pub AreFree : (equations params fields : ℕ) → List (List ℕ) → Type 0
AreFree equations params fields names =
    (w : List ℕ) → In w names → In w (new_names equations params fields) → ⊥

-- no name of the equations is one that their program has beside theirs
abbrev pub HasNoNewName : Source → Type 0
HasNoNewName c =
    AreFree (length c.equations) (most_params c.equations) (most_fields_of (decisions c)) c.names

-- the equations can be compiled
pub record IsCompilable (c : Source) : Type 0 where
  pub readable : IsReadable c
  pub unbroken : BreakNoRule c
  pub no_new_name : HasNoNewName c
