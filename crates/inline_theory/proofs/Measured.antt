-- The size of a program with its evaluations and applications inlined, from its text before.
use Rattle.std.proofs.Common.{◌≡◌, ℕ, zero, suc, ◌+◌, Bool, true, false, cond, List, [], ◌∷◌, ◌++◌, map, length, Option, Some, None, slice_get, refl, sym, ap, ◌∙◌, length-append, arith}
use Rattle.std.proofs.lemmas.List.{length-map}
use Rattle.grin_syntax.specs.declared.program.ProcId.{ProcId}
use Rattle.grin_syntax.specs.declared.program.Tag.{Tag}
use Rattle.grin_syntax.specs.declared.program.Word as W
use Rattle.grin_syntax.specs.declared.program.Word.TheVariants.{Var}
use Rattle.grin_syntax.specs.declared.program.Val.TheVariants.{NodeVar}
use Rattle.grin_syntax.specs.declared.program.Target.{Target}
use Rattle.grin_syntax.specs.Tree.{Code, end, store, bind, Leaf, leaf, unit, eval, apply, case, nested, Arms, no_arm, arm, Procedure, Program}
use Rattle.grin_syntax.specs.Fresh.{variable, variables, past_procs}
use Rattle.grin_meaning.specs.Run.{is_fun_kind, is_part_kind, is_some_and, part_from}
use Rattle.flow_system.specs.Solution.{Solution}
use Rattle.inline_theory.specs.Size.{target_size, act_size, code_size, arms_size, procedure_size, total}
use Rattle.grin_rewrite.specs.Counted.{bound_before, act_room, code_room, all_room, counted_act, counted_code, counted_all, counted_procs}
use Rattle.grin_rewrite.specs.Opening.{Opening, fields_at, opening_arm, opening_arms}
use Rattle.grin_rewrite.proofs.CountedSides.{Both}
use Rattle.grin_syntax.specs.Formed.{AllOf}
use Rattle.inline_theory.specs.Evaluations.{call_body, eval_opening, eval_room, eval_rule, tags_of, eval_inlined}
use Rattle.inline_theory.specs.Applications.{is_part_tag, value_has, with_one_more, apply_body, part_body, apply_opening, part_tags_of, others_of, else_fail, apply_rule, inlined_size}
use Rattle.inline_theory.specs.Expanded.{eval_call_size, eval_body_size, applied_body_size, part_body_size, applied_size, tag_size, tags_size, else_size, expanded_act, expanded_code, expanded_arms, expanded_procedure}
use Rattle.inline_theory.specs.Parts.{PartialTagsAreClosed}
use Rattle.inline_theory.proofs.ApplicationsKeep.{those_parts}
use Rattle.inline_theory.proofs.EvaluationsStay.{one_then_other}
use Rattle.grin_syntax.proofs.Counted.{length_variables}
use Rattle.seq.specs.Lists.{is_present}

pub words_many : (x k : ℕ) → length (map Var (variables x k)) ≡ k
words_many x k = length-map (variables x k) Var ∙ length_variables x k

with_argument : (x k : ℕ) (a : W.Word) → length (map Var (variables x k) ++ a ∷ []) ≡ suc k
with_argument x k a = omega
    (arith, length-append (map Var (variables x k)) (a ∷ []), words_many x k)

-- what is bound before a block
abbrev pub before_size : List (Target × Leaf) → ℕ
before_size [] = 0
before_size (s ∷ ss) = target_size s.0 + act_size (leaf s.1) + before_size ss

pub before_measured : (ss : List (Target × Leaf)) (c : Code)
    → code_size (bound_before ss c) ≡ before_size ss + code_size c
unfolding act_size
before_measured [] c = omega arith
before_measured (s ∷ ss) c = omega (arith, before_measured ss c)

-- alternatives that open a node, for tags of which something is known
module _ (tags : List Tag) (O : Opening) (body_size : Tag → ℕ) (Known : ℕ → Type 0)
    (body : (x t : ℕ) (i : Tag) → slice_get tags t ≡ Some i → Known t
    → code_size (O.body x i) ≡ body_size i) where
  opening_size : (x : ℕ) (ts : List ℕ) → AllOf Known ts
      → arms_size (opening_arms tags O x ts) ≡ tags_size body_size tags ts + arms_size O.last
  unfolding act_size
  opening_size x [] known = omega arith
  opening_size x (t ∷ ts) known = go (slice_get tags t) refl (λ y. opening_size y ts known.1)
    where
      go : (o : Option Tag) → slice_get tags t ≡ o →
          ((y : ℕ) → arms_size (opening_arms tags O y ts) ≡ tags_size body_size tags ts + arms_size
          O.last)
          → arms_size
          (opening_arm tags O x t o (opening_arms tags O (O.more + (x + fields_at o)) ts)) ≡
          tag_size body_size o + tags_size body_size tags ts + arms_size O.last
      go None is later = omega (arith, later (O.more + (x + 0)))
      go (Some i) is later = omega (
        arith,
        length_variables x i.fields,
        body x t i is known.0,
        later (O.more + (x + i.fields)),
      )

module _ (p : Program) (A : Solution) where
  abbrev e : Program
  e = eval_inlined A p

  -- evaluations
  called : (a : W.Word) (x k : ℕ) (o : Option ProcId)
      → code_size (call_body p A a x k o) ≡ eval_call_size o k
  unfolding act_size
  called a x k None = refl
  called a x k (Some f) = omega (arith, words_many x k)

  body_size : (a : W.Word) (n x : ℕ) (t : Tag) (b : Bool)
      → code_size
      (cond b (call_body p A a x t.fields t.proc) (end (leaf (unit (NodeVar (variable n)))))) ≡ cond
      b (eval_call_size t.proc t.fields) 2
  unfolding act_size
  body_size a n x t true = called a x t.fields t.proc
  body_size a n x t false = refl

  -- applications
  module _ (next : PartialTagsAreClosed p.tags) where
    one_more : (f r : ℕ) (ws : List W.Word) (k : ℕ) → length ws ≡ suc k
        → is_present (part_from 0 p.tags f r) ≡ true
        → code_size (with_one_more e A f (part_from 0 p.tags f r) ws) ≡ 2 + k
    unfolding act_size
    one_more f r ws k l h = go (part_from 0 p.tags f r) h
      where
        go : (o : Option ℕ) → is_present o ≡ true → code_size (with_one_more e A f o ws) ≡ 2 + k
        go None h = cc
        go (Some t) h = omega arith

    applied : (f r : ℕ) (ws : List W.Word) (k : ℕ) → length ws ≡ suc k
        → ((s : ℕ) → r ≡ suc (suc s) → is_present (part_from 0 p.tags f (suc s)) ≡ true)
        → code_size (apply_body e A f r ws) ≡ applied_body_size r k
    unfolding act_size
    applied f zero ws k l h = refl
    applied f (suc zero) ws k l h = omega arith
    applied f (suc (suc r)) ws k l h = one_more f (suc r) ws k l (h r refl)

    part : (x : ℕ) (a : W.Word) (t : ℕ) (i : Tag) (o : Option ProcId) → slice_get p.tags t ≡ Some i
        → is_part_kind i.kind ≡ true → i.proc ≡ o → code_size (part_body e A x a i o) ≡
        part_body_size i o
    unfolding act_size
    part x a t i None is kind proc = refl
    part x a t i (Some f) is kind proc = applied f.0 i.missing
        (map Var (variables x i.fields) ++ a ∷ []) i.fields (with_argument x i.fields a)
        (λ r m. next t i f r is kind proc m)

  all_known : (ts : List ℕ) → AllOf (λ t. Unit {0}) ts
  all_known [] = tt
  all_known (t ∷ ts) = (tt, all_known ts)

  last_size : (ts : List ℕ) → arms_size (else_fail e A ts) ≡ else_size p A ts
  unfolding act_size
  last_size [] = refl
  last_size (t ∷ ts) = refl

  module _ (next : PartialTagsAreClosed p.tags) where
    abbrev both : (x y : ℕ) (l : Leaf) → Both (eval_rule p A) (apply_rule e A) x y l
    both = one_then_other p A

    leaf_measured : (x y : ℕ) (l : Leaf) → before_size (both x y l).before + act_size
        (both x y l).becomes ≡ expanded_act p A (leaf l)
    unfolding act_size expanded_act one_then_other
    leaf_measured x y (eval a) = omega (
      arith,
      opening_size p.tags (eval_opening p A a x) eval_body_size (λ t. Unit {0})
          (λ y t i is k. body_size a x y i (is_fun_kind i.kind)) (suc x) (tags_of p A a)
          (all_known (tags_of p A a)),
    )
    leaf_measured x y (apply v a) = omega (
      arith,
      opening_size p.tags (apply_opening e A a (else_fail e A (others_of p A v)))
          applied_size (λ t. is_part_tag p A t ≡ true)
          (λ x t i is k. part next x a t i i.proc is
          (ap (λ o. is_some_and o (λ i. is_part_kind i.kind)) (sym is) ∙ k) refl) y
          (part_tags_of p A v) (those_parts p A (value_has p A v) 0 (length p.tags)),
      last_size (others_of p A v),
    )
    leaf_measured x y l = omega arith

    mutual
      unfolding counted_act act_room act_size expanded_act

      code_measured : (x y : ℕ) (b : Code) → code_size
          (counted_code (apply_rule e A) y (counted_code (eval_rule p A) x b)) ≡ expanded_code p A b
      code_measured x y (end (leaf l)) = ap code_size (both x y l).ended ∙ omega (
        arith,
        before_measured (both x y l).before (end (both x y l).becomes),
        leaf_measured x y l,
      )
      code_measured x y (end (case v as')) = omega (arith, arms_measured x y as')
      code_measured x y (end (nested c)) = omega (arith, code_measured x y c)
      code_measured x y (store cs b) = omega (arith, code_measured x y b)
      code_measured x y (bind t (leaf l) b) =
          let k = both x y l in
          let r = x + eval_room p A l in
          ap code_size (k.bound t (counted_code (eval_rule p A) r b))
          ∙ omega (
            arith,
            before_measured k.before
                (bind t k.becomes
                (counted_code (apply_rule e A) k.next (counted_code (eval_rule p A) r b))),
            leaf_measured x y l,
            code_measured r k.next b,
          )
      code_measured x y (bind t (case v as') b) =
          omega (
            arith,
            arms_measured x y as',
            code_measured (x + all_room (eval_rule p A) as')
                (y + all_room (apply_rule e A) (counted_all (eval_rule p A) x as')) b,
          )
      code_measured x y (bind t (nested c) b) =
          omega (
            arith,
            code_measured x y c,
            code_measured (x + code_room (eval_rule p A) c)
                (y + code_room (apply_rule e A) (counted_code (eval_rule p A) x c)) b,
          )

      arms_measured : (x y : ℕ) (as' : Arms) → arms_size
          (counted_all (apply_rule e A) y (counted_all (eval_rule p A) x as')) ≡ expanded_arms p A
          as'
      arms_measured x y no_arm = refl
      arms_measured x y (arm s b as') = omega (
        arith,
        code_measured x y b,
        arms_measured (x + code_room (eval_rule p A) b)
            (y + code_room (apply_rule e A) (counted_code (eval_rule p A) x b)) as',
      )

    procs_measured : (x y : ℕ) (qs : List Procedure)
        → total procedure_size
        (counted_procs (apply_rule e A) y (counted_procs (eval_rule p A) x qs)) ≡ total
        (expanded_procedure p A) qs
    procs_measured x y [] = refl
    procs_measured x y (q ∷ qs) =
        omega (
          arith,
          code_measured x y q.body,
          procs_measured
              (x + code_room (eval_rule p A) q.body)
              (y + code_room (apply_rule e A) (counted_code (eval_rule p A) x q.body)) qs,
        )

    pub measured : inlined_size A p ≡ total (expanded_procedure p A) p.procs
    measured = procs_measured (past_procs p.procs) (past_procs e.procs) p.procs
