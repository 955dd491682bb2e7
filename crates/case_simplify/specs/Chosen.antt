-- What a choice among alternatives says.
use Rattle.std.specs.Prelude.{ℕ, ◌<◌, List, Option, Some, None, slice_get}
use Rattle.grin_syntax.specs.declared.program.Alt.{Alt}
use Rattle.grin_syntax.specs.Tree.{Code, end, leaf, fail, code_of}
use Rattle.grin_meaning.specs.Values.{and_then}
use Rattle.case_simplify.specs.declared.choice.Choice as chosen
use Rattle.case_simplify.specs.declared.choice.Choice.TheVariants.{Takes, Nothing, Open}

-- the block that a case becomes
abbrev pub chosen_body : chosen.Choice → List Alt → Option Code
chosen_body (Takes i) alts = and_then (slice_get alts i) (λ a. Some (code_of a.body))
chosen_body Nothing alts = Some (end (leaf fail))
chosen_body Open alts = None

-- the alternative is there
abbrev pub IsInRange : chosen.Choice → ℕ → Type 0
IsInRange (Takes i) count = i < count
IsInRange _ count = Unit {0}
