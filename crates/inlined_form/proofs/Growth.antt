-- How much larger a program becomes when its evaluations and its applications are inlined.
use Rattle.std.proofs.Common.{◌≡◌, ℕ, zero, suc, ◌≤◌, ◌+◌, ◌*◌, Bool, true, false, cond, List, [], ◌∷◌, ◌++◌, map, length, length-append, Option, Some, None, slice_get, refl, arith}
use Rattle.std.proofs.Math.Nat.{mul-add, add-mul}
use Rattle.seq.proofs.Order.{more_times}
use Rattle.grin_syntax.specs.declared.program.ProcId.{ProcId}
use Rattle.grin_syntax.specs.declared.program.Tag.{Tag}
use Rattle.grin_syntax.specs.declared.program.Val.TheVariants.{NodeVar}
use Rattle.grin_syntax.specs.declared.program.Word.{Word}
use Rattle.grin_syntax.specs.declared.program.Word.TheVariants.{Var}
use Rattle.grin_syntax.specs.Tree.{Code, end, store, bind, Act, Leaf, leaf, unit, eval, apply, case, nested, Arms, no_arm, arm, Procedure, Program}
use Rattle.grin_syntax.specs.Fresh.{variable, variables, past_procs}
use Rattle.grin_meaning.specs.Run.{is_fun_kind, part_from}
use Rattle.grin_meaning.specs.Ready.{most_fields}
use Rattle.flow_system.specs.Solution.{Solution}
use Rattle.inline_theory.specs.Size.{val_size, target_size, cells_size, shape_size, act_size, code_size, arms_size, procedure_size, total, size}
use Rattle.grin_rewrite.specs.Counted.{CountedRule, act_room, code_room, before_act, counted_act, counted_code, counted_all, counted_procs}
use Rattle.inline_theory.specs.Evaluations.{call_body, eval_body, eval_arms, evaluation, eval_before, eval_becomes, eval_rule, eval_inlined, tags_of}
use Rattle.inline_theory.specs.Applications.{with_one_more, apply_body, part_body, apply_arms, part_tags_of, others_of, else_fail, apply_becomes, apply_rule, inlined}
use Rattle.inline_theory.proofs.Measured.{words_many, before_size, before_measured}
use Rattle.seq.specs.Lists.{those}
use Rattle.grin_syntax.proofs.Counted.{length_variables}
use Rattle.grin_meaning.proofs.Fields.{field_bound}

-- ---- numbers

-- so much for each of a number of things
pub one_more : (n m : ℕ) → suc n * m ≡ m + n * m
one_more n m = let e : suc n ≡ n + 1 = omega arith in rw (e, add-mul n 1 m) (omega arith)

pub both_grow : (g a b a' b' : ℕ) → a' ≤ g * a → b' ≤ g * b → a' + b' ≤ g * (a + b)
both_grow g a b a' b' la lb = omega (arith, mul-add g a b)

-- at most so many times as large
abbrev pub growth : List Tag → ℕ
growth ts = 5 + length ts * (2 * most_fields ts + 7)

at_least : (g n : ℕ) → 1 ≤ g → n ≤ g * n
at_least g n le = omega (arith, more_times 1 g n le)

-- ---- pieces

those_few : (test : ℕ → Bool) (i k : ℕ) → length (those test i k) ≤ k
those_few test i zero = omega arith
those_few test i (suc k) = on (test i) (those_few test (suc i) k)
  where
    on : (b : Bool) → length (those test (suc i) k) ≤ k
        → length (cond b (i ∷ those test (suc i) k) (those test (suc i) k)) ≤ suc k
    on true le = omega (arith, le)
    on false le = omega (arith, le)

module _ (p : Program) (A : Solution) where
  abbrev G : ℕ
  G = growth p.tags

  abbrev M : ℕ
  M = 2 * most_fields p.tags + 7

  large : (n : ℕ) → n ≤ G * n
  large n = at_least G n (omega arith)

  -- a rule that makes each operation larger by the factor at most does so with a program
  module _ (R : CountedRule)
      (grows : (x : ℕ) (l : Leaf) → before_size (R.before x l) + act_size (R.becomes x l) ≤ G *
      act_size (leaf l)) where
    mutual
      unfolding act_size counted_act

      act_grows : (o : Act) (x : ℕ) → before_size (before_act R x o) + act_size (counted_act R x o)
          ≤ G * act_size o
      act_grows (leaf l) x = grows x l
      act_grows (case v as') x = omega (
        arith,
        both_grow G (1 + val_size v) (arms_size as') _ _ (large (1 + val_size v))
            (all_grow as' x),
      )
      act_grows (nested b) x = omega
          (arith, both_grow G 1 (code_size b) _ _ (large 1) (code_grows b x))

      code_grows : (b : Code) (x : ℕ) → code_size (counted_code R x b) ≤ G * code_size b
      code_grows (end o) x = omega
          (arith, before_measured (before_act R x o) (end (counted_act R x o)), act_grows o x)
      code_grows (store cs b) x = both_grow G (cells_size cs) (code_size b) _ _
          (large (cells_size cs)) (code_grows b x)
      code_grows (bind t o b) x =
          let c = counted_code R (x + act_room R o) b in
          omega (
            arith,
            before_measured (before_act R x o) (bind t (counted_act R x o) c),
            act_grows o x,
            code_grows b (x + act_room R o),
            large (target_size t),
            mul-add G (target_size t + act_size o) (code_size b),
            mul-add G (target_size t) (act_size o),
          )

      all_grow : (as' : Arms) (x : ℕ) → arms_size (counted_all R x as') ≤ G * arms_size as'
      all_grow no_arm x = omega arith
      all_grow (arm s b as') x = both_grow G (shape_size s + code_size b) (arms_size as') _ _
          (both_grow G (shape_size s) (code_size b) _ _ (large (shape_size s)) (code_grows b x))
          (all_grow as' (x + code_room R b))

    procs_grow : (qs : List Procedure) (x : ℕ) → total procedure_size (counted_procs R x qs) ≤ G *
        total procedure_size qs
    procs_grow [] x = omega arith
    procs_grow (q ∷ qs) x = both_grow G (procedure_size q) (total procedure_size qs) _ _
        (both_grow G (length q.params) (code_size q.body) _ _ (large (length q.params))
        (code_grows q.body x)) (procs_grow qs (x + code_room R q.body))

  -- ---- evaluations

  call_size : (a : Word) (y k : ℕ) (o : Option ProcId) → code_size (call_body p A a y k o) ≤ k + 7
  unfolding act_size
  call_size a y k None = omega arith
  call_size a y k (Some f) = omega (arith, words_many y k)

  eval_body_size : (a : Word) (n y : ℕ) (i : Tag) → code_size (eval_body p A a n y i) ≤ i.fields + 7
  unfolding act_size
  eval_body_size a n y i = on (is_fun_kind i.kind)
    where
      on : (b : Bool) → code_size
          (cond b (call_body p A a y i.fields i.proc) (end (leaf (unit (NodeVar (variable n)))))) ≤
          i.fields + 7
      on true = call_size a y i.fields i.proc
      on false = omega arith

  eval_arms_size : (a : Word) (n y : ℕ) (ks : List ℕ)
      → arms_size (eval_arms p A a n y ks) ≤ length ks * M
  unfolding act_size
  eval_arms_size a n y [] = omega arith
  eval_arms_size a n y (t ∷ ts) = on (slice_get p.tags t) refl (λ z. eval_arms_size a n z ts)
    where
      on : (o : Option Tag) → slice_get p.tags t ≡ o
          → ((z : ℕ) → arms_size (eval_arms p A a n z ts) ≤ length ts * M)
          → arms_size (eval_arms p A a n y (t ∷ ts)) ≤ length (t ∷ ts) * M
      on None e later = rw e (omega (arith, one_more (length ts) M, later (1 + (y + 0))))
      on (Some i) e later = rw e
          (omega (
            arith,
            one_more (length ts) M,
            later (1 + (y + i.fields)),
            length_variables y i.fields,
            eval_body_size a n y i,
            field_bound p.tags t i e,
          ))

  case_size : (x : ℕ) (a : Word) → act_size (evaluation p A x a) + 3 ≤ G
  unfolding act_size
  case_size x a = omega (
    arith,
    eval_arms_size a x (suc x) (tags_of p A a),
    more_times (length (tags_of p A a)) (length p.tags) M (those_few _ 0 (length p.tags)),
  )

  eval_grows : (x : ℕ) (l : Leaf) → before_size (eval_before p A x l) + act_size
      (eval_becomes p A x l) ≤ G * act_size (leaf l)
  unfolding act_size
  eval_grows x (eval a) = omega (arith, case_size x a, more_times 1 2 G (omega arith))
  eval_grows x l = omega (arith, large (act_size (leaf l)))

  -- ---- applications

  more_size : (f : ℕ) (o : Option ℕ) (ws : List Word)
      → code_size (with_one_more p A f o ws) ≤ length ws + 1
  unfolding act_size
  more_size f None ws = omega arith
  more_size f (Some t) ws = omega arith

  apply_body_size : (f m : ℕ) (ws : List Word) → code_size (apply_body p A f m ws) ≤ length ws + 1
  unfolding act_size
  apply_body_size f zero ws = omega arith
  apply_body_size f (suc zero) ws = omega arith
  apply_body_size f (suc (suc r)) ws = more_size f (part_from 0 p.tags f (suc r)) ws

  part_size : (x : ℕ) (a : Word) (i : Tag) (o : Option ProcId)
      → code_size (part_body p A x a i o) ≤ i.fields + 2
  unfolding act_size
  part_size x a i None = omega arith
  part_size x a i (Some f) = omega (
    arith,
    apply_body_size f.0 i.missing (map Var (variables x i.fields) ++ a ∷ []),
    length-append (map Var (variables x i.fields)) (a ∷ []),
    words_many x i.fields,
  )

  apply_arms_size : (a : Word) (x : ℕ) (ks : List ℕ) (last : Arms)
      → arms_size (apply_arms p A a x ks last) ≤ length ks * M + arms_size last
  unfolding act_size
  apply_arms_size a x [] last = omega arith
  apply_arms_size a x (t ∷ ts) last = on (slice_get p.tags t) refl
      (λ z. apply_arms_size a z ts last)
    where
      on : (o : Option Tag) → slice_get p.tags t ≡ o
          → ((z : ℕ) → arms_size (apply_arms p A a z ts last) ≤ length ts * M + arms_size last)
          → arms_size (apply_arms p A a x (t ∷ ts) last) ≤ length (t ∷ ts) * M + arms_size last
      on None e later = rw e (omega (arith, one_more (length ts) M, later (0 + (x + 0))))
      on (Some i) e later = rw e
          (omega (
            arith,
            one_more (length ts) M,
            later (0 + (x + i.fields)),
            length_variables x i.fields,
            part_size x a i i.proc,
            field_bound p.tags t i e,
          ))

  last_size : (ks : List ℕ) → arms_size (else_fail p A ks) ≤ 1
  unfolding act_size
  last_size [] = omega arith
  last_size (k ∷ ks) = omega arith

  apply_grows : (x : ℕ) (l : Leaf) → 0 + act_size (apply_becomes p A x l) ≤ G * act_size (leaf l)
  unfolding act_size
  apply_grows x (apply v a) =
      let few = more_times (length (part_tags_of p A v)) (length p.tags) M
      (those_few _ 0 (length p.tags)) in
      omega (
        arith,
        apply_arms_size a x (part_tags_of p A v) (else_fail p A (others_of p A v)),
        last_size (others_of p A v),
        few,
        mul-add G 2 (val_size v),
        large (val_size v),
        more_times 1 2 G (omega arith),
      )
  apply_grows x l = omega (arith, large (act_size (leaf l)))

-- each inlining makes a program larger by this factor at most
pub inlined_grows : (p : Program) (A : Solution) → size (inlined A p) ≤ growth p.tags *
    (growth p.tags * size p)
inlined_grows p A =
    let q = eval_inlined A p in
    omega (
      arith,
      procs_grow q A (apply_rule q A) (apply_grows q A) q.procs (past_procs q.procs),
      mul_le (growth p.tags) (size q) (growth p.tags * size p)
          (procs_grow p A (eval_rule p A) (eval_grows p A) p.procs (past_procs p.procs)),
    )
  where
    mul_le : (g a b : ℕ) → a ≤ b → g * a ≤ g * b
    mul_le zero a b le = omega arith
    mul_le (suc g) a b le = omega (arith, one_more g a, one_more g b, mul_le g a b le, le)
