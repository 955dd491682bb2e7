-- Applications become cases over the functions that a solution has for them.
use Rattle.std.specs.Prelude.{ℕ, zero, suc, Bool, false, not, ◌&&◌, ◌||◌, nat_eq, nat_le, List, [], ◌∷◌, ◌++◌, map, length, Option, Some, None, slice_get}
use Rattle.grin_syntax.specs.declared.program.ProcId.{ProcId}
use Rattle.grin_syntax.specs.declared.program.Tag.{Tag}
use Rattle.grin_syntax.specs.declared.program.Word as W
use Rattle.grin_syntax.specs.declared.program.Word.TheVariants.{Var, TagWord}
use Rattle.grin_syntax.specs.declared.program.Val as V
use Rattle.grin_syntax.specs.declared.program.Val.TheVariants.{NodeVar, Node as NodeVal, Vector as VectorVal, One as OneVal}
use Rattle.grin_syntax.specs.declared.program.Shape.TheVariants.{Else}
use Rattle.grin_syntax.specs.Tree.{Code, end, Act, Leaf, leaf, unit, apply, call, case, fail, Arms, no_arm, arm, Program}
use Rattle.grin_syntax.specs.Tags.{tag_id}
use Rattle.grin_syntax.specs.Fresh.{variables}
use Rattle.grin_meaning.specs.Run.{is_part_kind, is_some_and, part_from}
use Rattle.flow_system.specs.declared.fact.Element.TheVariants.{Tag as tag}
use Rattle.flow_system.specs.declared.fact.Place.TheVariants.{Var as var}
use Rattle.flow_system.specs.declared.fact.Part.TheVariants.{Tags as tags, Word as word}
use Rattle.flow_system.specs.Solution.{Solution, among}
use Rattle.inline_theory.specs.Evaluations.{eval_inlined}
use Rattle.inline_theory.specs.Size.{size}
use Rattle.grin_rewrite.specs.Counted.{CountedRule, counted}
use Rattle.grin_rewrite.specs.Opening.{Opening, opening_arms, opening_room}
use Rattle.seq.specs.Lists.{those}

module _ (p : Program) (A : Solution) where
  -- whether the solution has a tag for a value
  abbrev pub word_has : ℕ → W.Word → Bool
  word_has t (Var x) = among (tag t) (A (var x.0) (word 0))
  word_has t (TagWord t') = nat_eq t t'.0
  word_has t _ = false

  abbrev pub value_has : V.Val → ℕ → Bool
  value_has (NodeVar x) t = among (tag t) (A (var x.0) tags) || among (tag t) (A (var x.0) (word 0))
  value_has (NodeVal t' ws) t = nat_eq t t'.0
  value_has (VectorVal []) t = false
  value_has (VectorVal (a ∷ ws)) t =
      word_has t a && is_some_and (slice_get p.tags t) (λ i. nat_le i.fields (length ws))
  value_has (OneVal a) t = word_has t a && is_some_and (slice_get p.tags t) (λ i. nat_eq i.fields 0)

  abbrev pub is_part_tag : ℕ → Bool
  is_part_tag t = is_some_and (slice_get p.tags t) (λ i. is_part_kind i.kind)

  abbrev pub with_one_more : ℕ → Option ℕ → List W.Word → Code
  with_one_more f None ws = end (leaf fail)
  with_one_more f (Some t) ws = end (leaf (unit (NodeVal (tag_id t) ws)))

  abbrev pub apply_body : ℕ → ℕ → List W.Word → Code
  apply_body f zero ws = end (leaf fail)
  apply_body f (suc zero) ws = end (leaf (call (record { 0 = f }) ws))
  apply_body f (suc (suc r)) ws = with_one_more f (part_from 0 p.tags f (suc r)) ws

  abbrev pub part_body : ℕ → W.Word → Tag → Option ProcId → Code
  part_body x a t None = end (leaf fail)
  part_body x a t (Some f) = apply_body f.0 t.missing (map Var (variables x t.fields) ++ a ∷ [])

  -- `last` is an else that fails where the solution has another tag
  abbrev pub apply_opening : W.Word → Arms → Opening
  apply_opening a last = record { more = 0; body = λ x i. part_body x a i i.proc; last = last }

  abbrev pub apply_arms : W.Word → ℕ → List ℕ → Arms → Arms
  apply_arms a x ts last = opening_arms p.tags (apply_opening a last) x ts

  abbrev pub part_tags_of : V.Val → List ℕ
  part_tags_of v = those (λ t. value_has v t && is_part_tag t) 0 (length p.tags)

  abbrev pub others_of : V.Val → List ℕ
  others_of v = those (λ t. value_has v t && not (is_part_tag t)) 0 (length p.tags)

  abbrev pub else_fail : List ℕ → Arms
  else_fail [] = no_arm
  else_fail (t ∷ ts) = arm Else (end (leaf fail)) no_arm

  abbrev pub parts_room : List ℕ → ℕ
  parts_room = opening_room p.tags 0

  -- an application is that case
  abbrev pub apply_room : Leaf → ℕ
  apply_room (apply v a) = parts_room (part_tags_of v)
  apply_room _ = 0

  abbrev pub apply_becomes : ℕ → Leaf → Act
  apply_becomes x (apply v a) = case v (apply_arms a x (part_tags_of v) (else_fail (others_of v)))
  apply_becomes x l = leaf l

  abbrev pub apply_rule : CountedRule
  apply_rule = record { room = apply_room; before = λ x l. []; becomes = apply_becomes }

-- a program with its applications inlined, and with its evaluations inlined before
abbrev pub apply_inlined : Solution → Program → Program
apply_inlined A p = counted (apply_rule p A) p

abbrev pub inlined : Solution → Program → Program
inlined A p = apply_inlined A (eval_inlined A p)

abbrev pub inlined_size : Solution → Program → ℕ
inlined_size A p = size (inlined A p)
