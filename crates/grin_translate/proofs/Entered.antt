-- The procedure of what is delayed does what evaluation does once its unit is spent.
use Rattle.std.proofs.Common.{◌≡◌, ◌≢◌, ℕ, negsuc, zero, suc, ◌+◌, ◌≤◌, ◌<◌, pos, cond, List, [], ◌∷◌, map, length, Some, None, slice_get, slice_index, refl, sym, ap, ◌∙◌, subst, arith, length-append}
use Rattle.std.proofs.lemmas.Bool.{eq-eqb}
use Rattle.std.proofs.lemmas.Option.{same_Some, none-some}
use Rattle.seq.proofs.Lists.{all_get}
use Rattle.seq.proofs.Order.{eq_false}
use mathlib.Core.Logic.{inl, inr}
use Rattle.arity_check.specs.declared.normal.Var.TheVariants.{Local}
use Rattle.arity_check.specs.Program.{Program, Function}
use Rattle.core_meaning.specs.Heap as core
use Rattle.core_meaning.specs.Heap.{Int, Con, Delayed, Call, Apply, Prim, Global, Input, Known, Waiting, Heap, with_local, with_locals}
use Rattle.core_meaning.specs.Evaluation as core'
use Rattle.core_meaning.specs.Evaluation.{State, DelayedEvaluator, append, taken, nil, cons, params, names, parameters, next_byte, enter_body, proceed}
use Rattle.grin_meaning.specs.Values.{Datum, number, cell, node, words, World, Env, with_vars, one_each, need}
use Rattle.grin_meaning.specs.Values as grin
use Rattle.grin_meaning.specs.Run.{Calls, act, code, with_state_seen, byte_or_end, after_read}
use Rattle.grin_translate.specs.declared.tags.Delay.{Delay}
use Rattle.grin_translate.specs.declared.tags.Delay.TheVariants.{Applies, Reads}
use Rattle.grin_translate.specs.declared.tags.Kind.TheVariants.{Number, Waits}
use Rattle.grin_translate.specs.Tags.{delays, tag, delays_in, is_delayed, delay_params}
use Rattle.grin_translate.specs.Blocks.{local, temp}
use Rattle.grin_translate.specs.Translation.{tr, delay_body, byte_body, input_body, fun_body}
use Rattle.grin_translate.specs.WellFormed.{AllOf, InLocals, FunOk, VarOk, WellFormed}
use Rattle.grin_translate.proofs.Places.{Has, has_number_from}
use Rattle.grin_translate.proofs.Found.{has_number}
use Rattle.grin_translate.proofs.Alike.{delay_of, args_of, value_node, Names, IsDelayed, heaps_long, Alike, alike_passing, alike_append, Match, both_give}
use Rattle.grin_translate.proofs.Forcing.{CallsMatch, params_are, value_made, delayed_made}
use Rattle.grin_translate.proofs.Scoping.{Knows, KnowsFields, knows_fields}
use Rattle.grin_translate.proofs.Forms.{apply_match, prim_match}
use Rattle.grin_translate.proofs.Expressions.{Waits as WaitsAll, any_has, tag_zero, eval_match}
use Rattle.seq.specs.Lists.{numbers_from}
use Rattle.seq.proofs.Counted.{length_numbers}

pub has_at : {A : Type 0} (xs : List A) (i : ℕ) (x : A) → slice_get xs i ≡ Some x → Has x xs
has_at [] i x e = absurd (none-some x e)
has_at (y ∷ xs) zero x e = inl (sym (same_Some y x e))
has_at (y ∷ xs) (suc i) x e = inr (has_at xs i x e)

-- ---- the locals from 0 on are the arguments

numbers_before : (n k : ℕ) (xs : List ℕ) (env : core.Env) (x : ℕ) → x < k
    → with_locals env (numbers_from k n) xs x ≡ env x
numbers_before zero k xs env x lt = refl
numbers_before (suc n) k [] env x lt = refl
numbers_before (suc n) k (a ∷ xs) env x lt =
    let ne : x ≢ k = λ e. omega (arith, lt, e) in
    numbers_before n (suc k) xs (with_local env k a) x (omega (arith, lt)) ∙ ap
    (λ b. cond b a (env x)) (eq_false x k ne)

numbers_at : (n k j : ℕ) (xs : List ℕ) (env : core.Env) → length xs ≡ n → j < n
    → with_locals env (numbers_from k n) xs (k + j) ≡ slice_index xs j
numbers_at zero k j xs env e lt = absurd (omega (arith, lt))
numbers_at (suc n) k j [] env e lt = absurd (omega (arith, e))
numbers_at (suc n) k zero (a ∷ xs) env e lt =
    let z : k + 0 ≡ k = omega arith in
    rw z (numbers_before n (suc k) xs (with_local env k a) k (omega arith) ∙ ap
    (λ b. cond b a (env k)) (eq-eqb k k refl))
numbers_at (suc n) k (suc j) (a ∷ xs) env e lt =
    let z : k + suc j ≡ suc k + j = omega arith in
    rw z (numbers_at n (suc k) j xs (with_local env k a) (omega (arith, e)) (omega (arith, lt)))

in_numbers_from : (n k x : ℕ) → k ≤ x → x < k + n → InLocals (numbers_from k n) x
in_numbers_from n k x le lt = of_has (numbers_from k n) (has_number_from n k x le lt)
  where
    of_has : (ys : List ℕ) → Has x ys → InLocals ys x
    of_has [] h = h
    of_has (y ∷ ys) (inl e) = inl e
    of_has (y ∷ ys) (inr h) = inr (of_has ys h)

-- the names of the locals from k on
names_from : (p : Program) (n k : ℕ) (env : core.Env) (xs : List ℕ) → length xs ≡ n
    → ((j : ℕ) → j < n → env (k + j) ≡ slice_index xs j)
    → names p env (map Local (numbers_from k n)) ≡ xs
names_from p zero k env [] e h = refl
names_from p zero k env (x ∷ xs) e h = absurd (omega (arith, e))
names_from p (suc n) k env [] e h = absurd (omega (arith, e))
names_from p (suc n) k env (x ∷ xs) e h =
    let z : k + 0 ≡ k = omega arith in
    let first : env k ≡ x = subst (λ i. env i ≡ x) z (h 0 (omega arith)) in
    let rest = names_from p n (suc k) env xs (omega (arith, e))
    (λ j lt. let z : k + suc j ≡ suc k + j = omega arith
    in subst (λ i. env i ≡ slice_index xs j) z (h (suc j) (omega (arith, lt)))) in
    rw (first, rest) refl

all_locals : (p : Program) (S : ℕ → Type 0) (n k : ℕ) → ((j : ℕ) → j < n → S (k + j))
    → AllOf (VarOk p S) (map Local (numbers_from k n))
all_locals p S zero k h = tt
all_locals p S (suc n) k h =
    let z : k + 0 ≡ k = omega arith in (
      subst S z (h 0 (omega arith)),
      all_locals p S n (suc k)
          (λ j lt. let z : k + suc j ≡ suc k + j = omega arith
          in subst S z (h (suc j) (omega (arith, lt)))),
    )

module _ (p : Program) where
  abbrev nothing : Env
  nothing = λ y. None

  record KnowsArguments (base n N : ℕ) (xs : List ℕ) : Type 0 where
    bindings : List grin.Binding
    is : one_each (map (local p base) (numbers_from 0 n)) (map cell xs) ≡ Some bindings
    knows : Knows p base (λ x. x < n) N (parameters xs) (with_vars bindings nothing)

  knows_arguments : (base n N : ℕ) (xs : List ℕ) → length xs ≡ n → Names p N xs
      → KnowsArguments base n N xs
  knows_arguments base n N xs e g =
      let none : Knows p base (λ x. ⊥) N (λ x. 0) nothing
      = record { below = λ x z. absurd z; bound = λ x z. absurd z } in
      let f : KnowsFields p base (numbers_from 0 n) xs (λ x. ⊥) N (λ x. 0) nothing
      = knows_fields p base (numbers_from 0 n) xs (λ x. ⊥) N (λ x. 0) nothing
      (e ∙ sym (length_numbers 0 n)) g none in
      let at : (x : ℕ) → x < n → with_locals (λ x. 0) (numbers_from 0 n) xs x ≡ slice_index xs x
      = λ x lt. let z : 0 + x ≡ x = omega arith
      in subst (λ y. with_locals (λ x. 0) (numbers_from 0 n) xs y ≡ slice_index xs x) z
      (numbers_at n 0 x xs (λ x. 0) e lt) in
      record {
        bindings = f.bindings;
        is = f.is;
        knows = record {
          below = λ x lt. subst (λ a. a < N) (at x lt)
              (f.knows.below x (inr (in_numbers_from n 0 x (omega arith) (omega (arith, lt)))));
          bound = λ x lt. f.knows.bound x
              (inr (in_numbers_from n 0 x (omega arith) (omega (arith, lt)))) ∙ ap
              (λ a. Some (words (cell a ∷ []))) (at x lt);
        };
      }

  module _ (ok : WellFormed p) where
    waits_all : (f : ℕ) (fun : Function) → slice_get p.funs f ≡ Some fun → WaitsAll p fun.body
    unfolding is_delayed
    waits_all f fun e d h = any_has (λ g. delays_in d g.body) p.funs fun (has_at p.funs f fun e) h

    module _ (o : DelayedEvaluator) (c : Calls) (on : CallsMatch p o c) where
      -- a call with these arguments, once its unit is spent: w' is the world before
      abbrev Enters : ℕ → Delay → List Datum → ℕ → World → World → grin.Answer
      Enters base d xs nest w' w = need
          (one_each (map (local p base) (numbers_from 0 (delay_params p d))) xs) w'
          (λ bs. code (tr p) c (with_vars bs nothing) nest (delay_body p base d)
          (with_state_seen (with_vars bs nothing) w))

      -- what follows the next byte
      abbrev Reading : ℕ → ℕ → List ℕ → State → World → Env → List ℕ → Type 0
      Reading base d i s w genv out =
          let genv1 : Env = with_vars
          (((temp p base 0).0, words (number (byte_or_end i) ∷ [])) ∷ []) genv in
          Match p (length s.heap) out (next_byte p o i s)
          (code (tr p) c genv1 d (byte_body p base) (with_state_seen genv1 (after_read i w)))

      reading : (i : List ℕ) (base d : ℕ) (out : List ℕ) (s : State) (w : World) (genv : Env)
          → Alike p out s w → Has Reads (delays p) → Reading base d i s w genv out
      unfolding act
      reading [] base d out s w genv al h =
          rw (
            eq-eqb (temp p base 0).0 (temp p base 0).0 refl,
            value_made p 0 (Int (negsuc 0)) tt,
            eq-eqb (temp p base 1).0 (temp p base 1).0 refl,
            tag_zero p Number (has_number p),
            value_made p 0 (Con (nil p) []) (ok.nil_fields, tt),
          )
          (both_give {v = Con (nil p) []} {s = s} (omega arith) (ok.nil_fields, tt)
          (alike_passing p out s _ _
          (alike_passing p out s _ _ (alike_passing p out s w _ al))))
      reading (k ∷ rest) base d out s w genv al h =
          let more : Heap = Known (Int (pos k)) ∷ Waiting Input ∷ [] in
          let s' : State = append (taken s rest) more in
          let long : length s'.heap ≡ suc (suc (length s.heap))
          = omega (arith, length-append s.heap more) in
          let names : Names p (length s'.heap) (length s.heap ∷ suc (length s.heap) ∷ [])
          = (omega (arith, long), (omega (arith, long), tt)) in
          let apart : (temp p base 0).0 ≢ (temp p base 1).0 = λ e. omega (arith, e) in
          let two : (local p base 0).0 ≢ (local p base 1).0 = λ e. omega (arith, e) in
          let zero_one : (temp p base 0).0 ≢ (local p base 1).0 = λ e. omega (arith, e) in
          let zero_zero : (temp p base 0).0 ≢ (local p base 0).0 = λ e. omega (arith, e) in
          let al1 : Alike p out (taken s rest) (after_read (k ∷ rest) w)
          = record {
            heaps = al.heaps;
            room = al.room;
            left = al.left;
            depth = al.depth;
            input
                = refl;
            used = ap suc al.used;
            written = al.written;
          } in
          rw (
            eq-eqb (temp p base 0).0 (temp p base 0).0 refl,
            value_made p 0 (Int (pos k)) tt,
            eq-eqb (temp p base 1).0 (temp p base 1).0 refl,
            tag_zero p Number (has_number p),
            heaps_long p (length s.heap) s.heap w.cells al.heaps,
            eq_false (temp p base 0).0 (local p base 1).0 zero_one,
            eq_false (temp p base 0).0 (local p base 0).0 zero_zero,
            eq_false (temp p base 0).0 (temp p base 1).0 apart,
            eq_false (local p base 0).0 (local p base 1).0 two,
            eq-eqb (local p base 0).0 (local p base 0).0 refl,
            eq-eqb (local p base 1).0 (local p base 1).0 refl,
            eq-eqb (temp p base 0).0 (temp p base 0).0 refl,
            value_made p 0 (Int (pos k)) tt,
            delayed_made p 0 Input h,
            value_made p (length s'.heap) (Con (cons p) (length s.heap ∷ suc (length s.heap) ∷ []))
                (ok.cons_fields, names),
          )
          (both_give {v = Con (cons p) (length s.heap ∷ suc (length s.heap) ∷ [])} {s = s'}
          (omega (arith, long)) (ok.cons_fields, names)
          (alike_passing p out s' _ _
          (alike_append p out (taken s rest) _ more
          (record { site = (local p base 0).0; node = value_node p (Int (pos k)) } ∷
          (record {
            site = (local p base 1).0;
            node
                = record { tag = (tag p (Waits Reads)).0; fields = [] };
          } ∷ []))
          (alike_passing p out (taken s rest) _ _
          (alike_passing p out (taken s rest) _ _ (alike_passing p out (taken s rest) _ _ al1)))
          (refl, tt, (refl, h, tt)))))

      input_match : (base d : ℕ) (out : List ℕ) (s : State) (w : World) (genv : Env)
          → Alike p out s w → Has Reads (delays p) → Match p (length s.heap) out
          (next_byte p o s.input s) (code (tr p) c genv d (input_body p base) w)
      unfolding act
      input_match base d out s w genv al h =
          subst (λ i. let genv1 : Env = with_vars
          (((temp p base 0).0, words (number (byte_or_end i) ∷ [])) ∷ []) genv
          in Match p (length s.heap) out (next_byte p o s.input s)
          (code (tr p) c genv1 d (byte_body p base) (with_state_seen genv1 (after_read i w))))
          (sym al.input) (reading s.input base d out s w genv al h)

      -- a function's body
      fun_entered : (base f : ℕ) (fun : Function) (xs : List ℕ) (bs : List grin.Binding) (d : ℕ)
          (out : List ℕ) (s : State) (w : World) → Alike p out s w → slice_get p.funs f ≡ Some fun
          → Knows p base (λ x. x < fun.params) (length s.heap) (parameters xs)
          (with_vars bs nothing)
          → Match p (length s.heap) out (enter_body p o (slice_get p.funs f) xs d s)
          (code (tr p) c (with_vars bs nothing) d (fun_body p base (slice_get p.funs f))
          (with_state_seen (with_vars bs nothing) w))
      fun_entered base f fun xs bs d out s w al is knows =
          rw is (eval_match p o c on base fun.body (λ x. x < fun.params) (parameters xs) 0 d out s
          (with_state_seen _ w) (with_vars bs nothing) (alike_passing p out s w _ al) knows
          (all_get (FunOk p) p.funs f fun ok.bodies is) (waits_all f fun is))

      pub entered : (t : Delayed) (base d : ℕ) (out : List ℕ) (s : State) (w' w : World)
          → Alike p out s w → IsDelayed p (length s.heap) t
          → Match p (length s.heap) out (proceed p o t d s)
          (Enters base (delay_of p t) (args_of p t) d w' w)
      entered (Call f xs) base d out s w' w al g =
          let fun : Function = g.0.0 in
          let is : slice_get p.funs f ≡ Some fun = g.0.1 in
          let many : length xs ≡ params p f = sym (params_are p f fun is ∙ g.0.2) in
          let args : KnowsArguments base (params p f) (length s.heap) xs
          = knows_arguments base (params p f) (length s.heap) xs many g.1 in
          let knows : Knows p base (λ x. x < fun.params) (length s.heap) (parameters xs)
          (with_vars args.bindings nothing) = subst
          (λ n. Knows p base (λ x. x < n) (length s.heap) (parameters xs)
          (with_vars args.bindings nothing)) (params_are p f fun is) args.knows in
          rw args.is (fun_entered base f fun xs args.bindings d out s w al is knows)
      entered (Global f) base d out s w' w al g =
          let fun : Function = g.0 in
          let is : slice_get p.funs f ≡ Some fun = g.1 in
          let none : params p f ≡ 0 = params_are p f fun is ∙ g.2 in
          let knows : Knows p base (λ x. x < fun.params) (length s.heap) (parameters []) nothing
          = record {
            below = λ x lt. absurd (omega (arith, lt, g.2));
            bound
                = λ x lt. absurd (omega (arith, lt, g.2));
          } in
          rw none (fun_entered base f fun [] [] d out s w al is knows)
      entered (Apply a bs) base d out s w' w al g =
          let m : ℕ = length bs in
          let args : KnowsArguments base (suc m) (length s.heap) (a ∷ bs)
          = knows_arguments base (suc m) (length s.heap) (a ∷ bs) refl (g.1, g.2) in
          let same : names p (parameters (a ∷ bs)) (map Local (numbers_from 1 m)) ≡ bs
          = names_from p m 1 (parameters (a ∷ bs)) bs refl
          (λ j lt. let z : 1 + j ≡ suc j = omega arith in ap (parameters (a ∷ bs)) z) in
          rw args.is
          (subst (λ ys. Match p (length s.heap) out (core'.apply p o a ys d s)
          (code (tr p) c (with_vars args.bindings nothing) d (delay_body p base (Applies m))
          (with_state_seen (with_vars args.bindings nothing) w))) same
          (apply_match p o c on base (λ x. x < suc m) (parameters (a ∷ bs)) (Local 0)
          (map Local (numbers_from 1 m)) 0 d out s (with_state_seen _ w)
          (with_vars args.bindings nothing) (alike_passing p out s w _ al) args.knows
          (omega arith) (all_locals p (λ x. x < suc m) m 1 (λ j lt. omega (arith, lt)))))
      entered (Prim op a b) base d out s w' w al g =
          let args : KnowsArguments base 2 (length s.heap) (a ∷ b ∷ [])
          = knows_arguments base 2 (length s.heap) (a ∷ b ∷ []) refl (g.1, (g.2, tt)) in
          let bs : List grin.Binding = ((local p base 0).0, words (cell a ∷ [])) ∷
          (((local p base 1).0, words (cell b ∷ [])) ∷ []) in
          let knows : Knows p base (λ x. x < 2) (length s.heap) (parameters (a ∷ b ∷ []))
          (with_vars bs nothing) = subst
          (λ z. Knows p base (λ x. x < 2) (length s.heap) (parameters (a ∷ b ∷ []))
          (with_vars z nothing)) (sym (same_Some bs args.bindings args.is)) args.knows in
          prim_match p o c on base (λ x. x < 2) (parameters (a ∷ b ∷ [])) op (Local 0) (Local 1) 0 d
          out s (with_state_seen _ w) (with_vars bs nothing) (alike_passing p out s w _ al)
          knows (omega arith) (omega arith)
      entered Input base d out s w' w al g = input_match base d out s (with_state_seen nothing w)
          nothing (alike_passing p out s w _ al) g
