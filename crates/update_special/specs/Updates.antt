-- Updates whose tag is a variable become cases over the tags that a solution has for the variable.
use Rattle.std.specs.Prelude.{ℕ, Bool, cond, nat_le, List, length, Option, Some, None, slice_set}
use Rattle.grin_syntax.specs.declared.program.VarId.{VarId}
use Rattle.grin_syntax.specs.declared.program.Word as W
use Rattle.grin_syntax.specs.declared.program.Word.TheVariants.{TagWord}
use Rattle.grin_syntax.specs.declared.program.Val as V
use Rattle.grin_syntax.specs.declared.program.Val.TheVariants.{NodeVar, Node, Vector, One}
use Rattle.grin_syntax.specs.Tags.{tag_id}
use Rattle.grin_syntax.specs.Tree.{Code, Act, Leaf, update, Program}
use Rattle.grin_meaning.specs.Rewritten.{rewritten}
use Rattle.flow_system.specs.declared.fact.Element.TheVariants.{Tag as tag}
use Rattle.flow_system.specs.declared.fact.Place.TheVariants.{Var as var}
use Rattle.flow_system.specs.declared.fact.Part.TheVariants.{Word as word}
use Rattle.flow_system.specs.Solution.{Solution, among}
use Rattle.pass_ground.specs.OpenUpdates.{tag_variable}
use Rattle.grin_rewrite.specs.Rewriting.{rewrite_code}
use Rattle.grin_rewrite.specs.Expanding.{Expansion, expanded}
use Rattle.seq.specs.Lists.{those}

-- ---- tags of variables

-- a solution has the tag in the set of a variable
abbrev pub may_have_tag : Solution → ℕ → ℕ → Bool
may_have_tag A x t = among (tag t) (A (var x) (word 0))

-- the tags in the set of a variable, ascending, in a program with so many tags
abbrev pub tags_of : ℕ → Solution → ℕ → List ℕ
tags_of count A x = those (may_have_tag A x) 0 count

-- ---- tags of values

-- a value with a literal tag in place of its first word
abbrev pub with_literal_tag : ℕ → V.Val → V.Val
with_literal_tag t (NodeVar x) = NodeVar x
with_literal_tag t (Node u ws) = Node u ws
with_literal_tag t (Vector ws) = Vector (slice_set ws 0 (TagWord (tag_id t)))
with_literal_tag t (One a) = One (TagWord (tag_id t))

-- ---- the pass

-- an update with more tags than these stays
abbrev pub max_case_tags : ℕ
max_case_tags = 8

-- an update as a case over these tags, in each of whose alternatives the tag is known
abbrev pub over_tags : W.Word → V.Val → List ℕ → Expansion
over_tags a v ts = record { value = v; tags = ts; each = λ t. update a (with_literal_tag t v) }

abbrev pub if_few : W.Word → V.Val → List ℕ → Option Expansion
if_few a v ts = cond (nat_le (length ts) max_case_tags) (Some (over_tags a v ts)) None

-- with the tags of each variable
module _ (T : ℕ → List ℕ) where
  abbrev pub by_variable : W.Word → V.Val → Option VarId → Option Expansion
  by_variable a v None = None
  by_variable a v (Some x) = if_few a v (T x.0)

  abbrev pub special : Leaf → Option Expansion
  special (update a v) = by_variable a v (tag_variable v)
  special _ = None

  abbrev pub update_leaf : Leaf → Act
  update_leaf l = expanded l (special l)

  abbrev pub update_code : Code → Code
  update_code = rewrite_code update_leaf

-- a program with its updates as cases, by a solution
abbrev pub updated : Solution → Program → Program
updated A p = rewritten (update_code (tags_of (length p.tags) A)) p
