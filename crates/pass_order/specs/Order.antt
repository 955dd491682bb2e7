-- A program in which each case tests for values before it tests for delayed calls.
use Rattle.std.specs.Prelude.{Bool, true, false, cond, ◌||◌, List, map, get_or}
use Rattle.grin_syntax.specs.declared.program.Tag.{Tag}
use Rattle.grin_syntax.specs.declared.program.Shape.{Shape}
use Rattle.grin_syntax.specs.declared.program.Shape.TheVariants as shape
use Rattle.grin_syntax.specs.Tags.{is_fun_kind}
use Rattle.grin_syntax.specs.Tree.{Code, leaf, case, Arms, no_arm, arm, Program}
use Rattle.grin_meaning.specs.Rewritten.{rewritten}
use Rattle.grin_rewrite.specs.WithFacts.{WithFacts, walk_code}

-- for each tag, whether it is that of a delayed call
abbrev pub delayed_tags : List Tag → List Bool
delayed_tags tags = map (λ t. is_fun_kind t.kind) tags

abbrev pub is_else : Shape → Bool
is_else (shape.Node t xs) = false
is_else (shape.Int k) = false
is_else shape.Else = true

module _ (delayed : List Bool) where
  -- the pattern fits delayed calls alone
  abbrev pub is_delayed_call : Shape → Bool
  is_delayed_call (shape.Node t xs) = get_or delayed t.0 false
  is_delayed_call (shape.Int k) = false
  is_delayed_call shape.Else = false

  -- an alternative behind those for values
  abbrev pub behind_values : Shape → Code → Arms → Arms
  behind_values s b no_arm = arm s b no_arm
  behind_values s b (arm u c as') =
      cond (is_delayed_call u || is_else u) (arm s b (arm u c as'))
      (arm u c (behind_values s b as'))

  -- the alternatives for delayed calls behind those for values, each group in its order
  abbrev pub values_first : Arms → Arms
  values_first no_arm = no_arm
  values_first (arm s b as') =
      cond (is_delayed_call s) (behind_values s b (values_first as')) (arm s b (values_first as'))

  -- what becomes of each piece, wherever it stands
  abbrev pub ordering : WithFacts (Unit {0})
  ordering = record {
    leaf_becomes = λ _ l. leaf l;
    value_becomes = λ _ v. v;
    cells_become = λ _ cs. cs;
    case_becomes = λ _ v as'. case v (values_first as');
    after = λ _ t o. tt;
    inside = λ _ v s. tt;
  }

  abbrev pub ordered_code : Code → Code
  ordered_code = walk_code ordering tt

abbrev pub ordered : Program → Program
ordered g = rewritten (ordered_code (delayed_tags g.tags)) g
