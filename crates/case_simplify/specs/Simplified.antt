-- The shape of a simplified program: no case on a known tag is left but an open one, and none that
-- only gives back its value.
use Rattle.std.specs.Prelude.{◌≡◌, List, ◌++◌, Option, Some}
use Rattle.grin_syntax.specs.declared.program.TagId.{TagId}
use Rattle.grin_syntax.specs.declared.program.Word as W
use Rattle.grin_syntax.specs.declared.program.Val as V
use Rattle.grin_syntax.specs.declared.program.Val.TheVariants.{Vector}
use Rattle.grin_syntax.specs.Tree.{Code, end, store, bind, Act, leaf, unit, case, nested, Arms, no_arm, arm, Program}
use Rattle.grin_syntax.specs.Formed.{AllOf}
use Rattle.pass_ground.specs.Vectors.{StaysVectorForm}
use Rattle.case_simplify.specs.Known.{Known, Tag, Facts, nothing_known, known_first_word, known_second_word, known_after, facts_in_alternative}
use Rattle.case_simplify.specs.Choice.{Verdict, Takes, Passes, Open, verdict}
use Rattle.case_simplify.specs.Simple.{simplified}

-- ---- cases on a known tag

-- An integer pattern leaves open which alternative is taken, by a number that is not known.
abbrev pub IsUndecidedAt : Verdict → Type 0 → Type 0
IsUndecidedAt Takes later = ⊥
IsUndecidedAt Passes later = later
IsUndecidedAt Open later = Unit {0}

abbrev pub IsUndecided : TagId → Option Known → Arms → Type 0
IsUndecided t second no_arm = ⊥
IsUndecided t second (arm s b as') = IsUndecidedAt (verdict t second s) (IsUndecided t second as')

-- where the tag of a case is known, the case is open
abbrev pub UndecidedIfTagKnown : Facts → V.Val → Arms → Type 0
UndecidedIfTagKnown facts v as' =
    (t : TagId) → known_first_word facts v ≡ Some (Tag t)
    → IsUndecided t (known_second_word facts v) as'

-- ---- cases that give back their value

-- a value, or of a vector the first words
abbrev pub IsPrefixOf : V.Val → V.Val → Type 0
IsPrefixOf (Vector us) (Vector ws) = (rest : List W.Word) × (ws ≡ us ++ rest)
IsPrefixOf u v = u ≡ v

abbrev pub EachArmReturns : V.Val → Arms → Type 0
EachArmReturns u no_arm = Unit {0}
EachArmReturns u (arm s b as') = (b ≡ end (leaf (unit u))) × EachArmReturns u as'

-- there is an alternative, and each one gives back v or the same first words of it
abbrev pub IsIdentity : V.Val → Arms → Type 0
IsIdentity v no_arm = ⊥
IsIdentity v (arm s b as') = (u : V.Val) × IsPrefixOf u v × EachArmReturns u (arm s b as')

-- ---- the shape

unfoldable mutual
  pub SimpleAct : Facts → Act → Type 0
  SimpleAct facts (case v as') =
      UndecidedIfTagKnown facts v as' × (IsIdentity v as' → ⊥) × SimpleArms facts v as'
  SimpleAct facts (nested b) = SimpleCode facts b
  SimpleAct facts _ = Unit {0}

  pub SimpleCode : Facts → Code → Type 0
  SimpleCode facts (end o) = SimpleAct facts o
  SimpleCode facts (store cs b) = SimpleCode facts b
  -- what is known of a word is known of its copy
  SimpleCode facts (bind t o b) = SimpleAct facts o × SimpleCode (known_after t o facts) b

  -- in the alternatives of a case on v more is known
  pub SimpleArms : Facts → V.Val → Arms → Type 0
  SimpleArms facts v no_arm = Unit {0}
  SimpleArms facts v (arm s b as') =
      SimpleCode (facts_in_alternative v s facts) b × SimpleArms facts v as'

-- h is g simplified, and as good an input for a pass as g
pub record Simplified (g h : Program) : Type 0 where
  pub stays : StaysVectorForm g h
  pub made : h ≡ simplified g
  pub simple : AllOf (λ q. SimpleCode nothing_known q.body) h.procs
