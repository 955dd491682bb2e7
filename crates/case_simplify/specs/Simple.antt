-- A program with fewer cases: one on a known tag is the alternative that it takes, and one that
-- only gives back its value is a unit.
use Rattle.std.specs.Prelude.{Bool, true, false, cond, nat_eq, ◌&&◌, List, [], ◌∷◌, Option, Some, None}
use Rattle.grin_syntax.specs.declared.program.Word as W
use Rattle.grin_syntax.specs.declared.program.Word.TheVariants.{Lit, Var, Global, TagWord}
use Rattle.grin_syntax.specs.declared.program.Val as V
use Rattle.grin_syntax.specs.declared.program.Val.TheVariants.{NodeVar, Node, Vector, One}
use Rattle.grin_syntax.specs.Tree.{Code, end, Act, leaf, unit, case, fail, Arms, no_arm, arm, Program, as_act}
use Rattle.grin_meaning.specs.Checks.{is_some_and}
use Rattle.grin_meaning.specs.Rewritten.{rewritten}
use Rattle.grin_rewrite.specs.WithFacts.{WithFacts, walk_act, walk_code, walk_arms}
use Rattle.numbers.specs.Numbers.{same_number}
use Rattle.case_simplify.specs.Known.{Facts, nothing_known, known_after, facts_in_alternative}
use Rattle.case_simplify.specs.Choice.{selected_block_for_value}

-- ---- what a case gives back

abbrev pub same_word : W.Word → W.Word → Bool
same_word (Lit a) (Lit b) = same_number a b
same_word (Var x) (Var y) = nat_eq x.0 y.0
same_word (Global i) (Global j) = nat_eq i j
same_word (TagWord t) (TagWord u) = nat_eq t.0 u.0
same_word _ _ = false

-- the first words are the front of the second ones
abbrev pub is_prefix : List W.Word → List W.Word → Bool
is_prefix [] ws = true
is_prefix (a ∷ as') [] = false
is_prefix (a ∷ as') (w ∷ ws) = same_word a w && is_prefix as' ws

abbrev pub same_words : List W.Word → List W.Word → Bool
same_words ws us = is_prefix ws us && is_prefix us ws

abbrev pub same_val : V.Val → V.Val → Bool
same_val (NodeVar x) (NodeVar y) = nat_eq x.0 y.0
same_val (Node t ws) (Node u us) = nat_eq t.0 u.0 && same_words ws us
same_val (Vector ws) (Vector us) = same_words ws us
same_val (One a) (One b) = same_word a b
same_val _ _ = false

-- a value, or of a vector the first words
abbrev pub is_prefix_val : V.Val → V.Val → Bool
is_prefix_val (Vector us) (Vector ws) = is_prefix us ws
is_prefix_val u v = same_val u v

-- the value that a block only gives
abbrev pub returned_value : Code → Option V.Val
returned_value (end (leaf (unit u))) = Some u
returned_value _ = None

abbrev pub returns_val : V.Val → Code → Bool
returns_val u b = is_some_and (returned_value b) (same_val u)

abbrev pub all_arms_return : V.Val → Arms → Bool
all_arms_return u no_arm = true
all_arms_return u (arm s b as') = returns_val u b && all_arms_return u as'

-- whether all alternatives of a case on v only give v back, or the same first words of it
abbrev pub returns_scrutinee : V.Val → Arms → Bool
returns_scrutinee v no_arm = false
returns_scrutinee v (arm s b as') =
    is_some_and (returned_value b) (λ u. is_prefix_val u v && all_arms_return u (arm s b as'))

-- ---- the pass

abbrev pub first_act : Arms → Act
first_act no_arm = leaf fail
first_act (arm s b as') = as_act b

abbrev pub unit_or_case : V.Val → Arms → Act
unit_or_case v as' = cond (returns_scrutinee v as') (first_act as') (case v as')

abbrev pub block_or_case : V.Val → Arms → Option Code → Act
block_or_case v as' (Some b) = as_act b
block_or_case v as' None = unit_or_case v as'

-- what a case becomes, whose alternatives are simple
abbrev pub simple_case : Facts → V.Val → Arms → Act
simple_case facts v as' = block_or_case v as' (selected_block_for_value facts v as')

-- what becomes of each piece: a case, by what is known where it stands
abbrev pub simplifying : WithFacts Facts
simplifying = record {
  leaf_becomes = λ facts l. leaf l;
  value_becomes = λ facts v. v;
  cells_become = λ facts cs. cs;
  case_becomes = simple_case;
  after = λ facts t o. known_after t o facts;
  inside = λ facts v s. facts_in_alternative v s facts;
}

abbrev pub simple_act : Facts → Act → Act
simple_act = walk_act simplifying

abbrev pub simple_code : Facts → Code → Code
simple_code = walk_code simplifying

-- the alternatives of a case on v
abbrev pub simple_arms : Facts → V.Val → Arms → Arms
simple_arms = walk_arms simplifying

abbrev pub simplified : Program → Program
simplified g = rewritten (simple_code nothing_known) g
