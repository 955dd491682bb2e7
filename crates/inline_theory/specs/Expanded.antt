-- The size that a program will have once its evaluations and applications are inlined, by the
-- program's own text.
use Rattle.std.specs.Prelude.{ℕ, zero, suc, ◌+◌, ◌-◌, ◌^◌, min, cond, List, [], ◌∷◌, length, Option, Some, None, slice_get}
use Rattle.grin_syntax.specs.declared.program.ProcId.{ProcId}
use Rattle.grin_syntax.specs.declared.program.Tag.{Tag}
use Rattle.grin_syntax.specs.declared.program.Word as W
use Rattle.grin_syntax.specs.declared.program.Val.{Val}
use Rattle.grin_syntax.specs.Tree.{Code, end, store, bind, Act, leaf, unit, fetch, fetch_word, update, eval, apply, call, prim, read, write, case, nested, fail, Arms, no_arm, arm, Procedure, Program}
use Rattle.grin_meaning.specs.Run.{is_fun_kind}
use Rattle.flow_system.specs.Solution.{Solution}
use Rattle.inline_theory.specs.Size.{shape_size, val_size, target_size, cells_size, act_size}
use Rattle.inline_theory.specs.Evaluations.{tags_of}
use Rattle.inline_theory.specs.Applications.{part_tags_of, others_of}

-- a number of 64 bits, the largest one for all that are larger
abbrev pub saturated_at_64_bits : ℕ → ℕ
saturated_at_64_bits n = min n (2 ^ 64 - 1)

-- the body of an alternative of an evaluation: a call of the fields, the update and the unit, or a
-- unit alone
abbrev pub eval_call_size : Option ProcId → ℕ → ℕ
eval_call_size None k = 1
eval_call_size (Some f) k = 7 + k

abbrev pub eval_body_size : Tag → ℕ
eval_body_size t = cond (is_fun_kind t.kind) (eval_call_size t.proc t.fields) 2

-- the body of an alternative of an application: a call of the fields and the argument, or a node of
-- them
abbrev pub applied_body_size : ℕ → ℕ → ℕ
applied_body_size zero k = 1
applied_body_size (suc r) k = 2 + k

abbrev pub part_body_size : Tag → Option ProcId → ℕ
part_body_size t None = 1
part_body_size t (Some f) = applied_body_size t.missing t.fields

abbrev pub applied_size : Tag → ℕ
applied_size t = part_body_size t t.proc

-- the alternatives for tags, by the size of what is done with each
module _ (body_size : Tag → ℕ) where
  abbrev pub tag_size : Option Tag → ℕ
  tag_size None = 0
  tag_size (Some t) = t.fields + body_size t

  abbrev pub tags_size : List Tag → List ℕ → ℕ
  tags_size tags [] = 0
  tags_size tags (t ∷ ts) = tag_size (slice_get tags t) + tags_size tags ts

module _ (p : Program) (A : Solution) where
  -- a fetch that binds a node variable, and the case
  abbrev pub evaluation_size : W.Word → ℕ
  evaluation_size a = 5 + tags_size eval_body_size p.tags (tags_of p A a)

  abbrev pub else_size : List ℕ → ℕ
  else_size [] = 0
  else_size (t ∷ ts) = 1

  abbrev pub application_size : Val → ℕ
  application_size v =
      1 + val_size v + tags_size applied_size p.tags (part_tags_of p A v)
      + else_size (others_of p A v)

  unfoldable mutual
    pub expanded_act : Act → ℕ
    expanded_act (leaf (unit v)) = act_size (leaf (unit v))
    expanded_act (leaf (fetch a)) = act_size (leaf (fetch a))
    expanded_act (leaf (fetch_word a i)) = act_size (leaf (fetch_word a i))
    expanded_act (leaf (update a v)) = act_size (leaf (update a v))
    expanded_act (leaf (eval a)) = evaluation_size a
    expanded_act (leaf (apply v a)) = application_size v
    expanded_act (leaf (call f ws)) = act_size (leaf (call f ws))
    expanded_act (leaf (prim f a b)) = act_size (leaf (prim f a b))
    expanded_act (leaf read) = act_size (leaf read)
    expanded_act (leaf (write a)) = act_size (leaf (write a))
    expanded_act (case v as') = 1 + val_size v + expanded_arms as'
    expanded_act (nested b) = 1 + expanded_code b
    expanded_act (leaf fail) = act_size (leaf fail)

    pub expanded_code : Code → ℕ
    expanded_code (end o) = expanded_act o
    expanded_code (store cs b) = cells_size cs + expanded_code b
    expanded_code (bind t o b) = target_size t + expanded_act o + expanded_code b

    pub expanded_arms : Arms → ℕ
    expanded_arms no_arm = 0
    expanded_arms (arm s b as') = shape_size s + expanded_code b + expanded_arms as'

  abbrev pub expanded_procedure : Procedure → ℕ
  expanded_procedure q = length q.params + expanded_code q.body
