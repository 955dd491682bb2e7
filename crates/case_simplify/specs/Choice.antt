-- Which alternative a case takes, where its tag is known.
use Rattle.std.specs.Prelude.{ℤ, cond, nat_eq, Option, Some, None}
use Rattle.grin_syntax.specs.declared.program.TagId.{TagId}
use Rattle.grin_syntax.specs.declared.program.Val as V
use Rattle.grin_syntax.specs.declared.program.Shape.{Shape}
use Rattle.grin_syntax.specs.declared.program.Shape.TheVariants as shape
use Rattle.grin_syntax.specs.Tree.{Code, end, leaf, fail, Arms, no_arm, arm}
use Rattle.numbers.specs.Numbers.{same_number}
pub use Rattle.case_simplify.specs.declared.choice.Verdict.{Verdict}
pub use Rattle.case_simplify.specs.declared.choice.Verdict.TheVariants.{Takes, Passes, Open}
use Rattle.case_simplify.specs.Known.{Known, Tag, Number, Facts, known_first_word, known_second_word}

-- an integer pattern, where the tag is that of a number
abbrev pub number_verdict : ℤ → Option Known → Verdict
number_verdict k (Some (Number i)) = cond (same_number k i) Takes Passes
number_verdict k _ = Open

-- what a pattern does with a value of this tag, of whose second word so much is known
abbrev pub verdict : TagId → Option Known → Shape → Verdict
verdict t second (shape.Node u xs) = cond (nat_eq t.0 u.0) Takes Passes
verdict t second (shape.Int k) = cond (nat_eq t.0 0) (number_verdict k second) Passes
verdict t second shape.Else = Takes

abbrev pub by_verdict : Verdict → Code → Option Code → Option Code
by_verdict Takes b later = Some b
by_verdict Passes b later = later
by_verdict Open b later = None

-- The block of the alternative that is taken. It is None where an integer pattern leaves that
-- open; a case of which no alternative is taken never runs.
abbrev pub selected_block : TagId → Option Known → Arms → Option Code
selected_block t second no_arm = Some (end (leaf fail))
selected_block t second (arm s b as') =
    by_verdict (verdict t second s) b (selected_block t second as')

abbrev pub selected_block_by_tag : Option Known → Option Known → Arms → Option Code
selected_block_by_tag (Some (Tag t)) second as' = selected_block t second as'
selected_block_by_tag _ second as' = None

-- by what is known of the value of a case
abbrev pub selected_block_for_value : Facts → V.Val → Arms → Option Code
selected_block_for_value facts v as' =
    selected_block_by_tag (known_first_word facts v) (known_second_word facts v) as'
