-- The tags and procedures of the translated program are found by what they stand for.
use Rattle.std.proofs.Common.{◌≡◌, ℕ, zero, suc, ◌+◌, ◌≤◌, ◌<◌, Bool, true, false, cond, nat_eq, List, [], ◌∷◌, ◌++◌, map, filter, length, Option, Some, None, slice_get, refl, sym, ap, ◌∙◌, subst, arith, eqb-true}
use Rattle.std.proofs.lemmas.Bool.{eq-eqb}
use Rattle.std.proofs.lemmas.Option.{same_Some, none-some, slice_get_within}
use Rattle.seq.proofs.Truth.{and_left, and_right, not_both}
use Rattle.seq.proofs.Lists.{all_append}
use mathlib.Core.Logic.{inl, inr}
use Rattle.arity_check.specs.declared.normal.PrimOp.{PrimOp}
use Rattle.arity_check.specs.declared.normal.PrimOp.TheVariants.{Add, Sub, Mul, Quot, Rem, Eq, Lt}
use Rattle.arity_check.specs.Program.{Program, Function}
use Rattle.grin_meaning.specs.Run.{part_from, is_part}
use Rattle.grin_translate.specs.declared.tags.Delay.{Delay}
use Rattle.grin_translate.specs.declared.tags.Delay.TheVariants.{Calls, Applies, Operates, Reads}
use Rattle.grin_translate.specs.declared.tags.Kind.{Kind}
use Rattle.grin_translate.specs.declared.tags.Kind.TheVariants.{Number, Constructor, Waits, Lacks}
use Rattle.grin_translate.specs.Tags.{operations, op_number, same_thunk_kind, same_tag_meaning, first_index_where, is_delayed, takes_input, delays, kinds, parts, function_parts, tag, tag_of, con_tag, proc}
use Rattle.grin_translate.specs.WellFormed.{AllOf, HasFields}
use Rattle.grin_translate.proofs.Places.{Has, has_left, has_right, has_map, has_filter, has_number_from, all_map, found, places_tell}
use Rattle.seq.specs.Lists.{numbers_from}

nth_operation : ℕ → PrimOp
nth_operation zero = Add
nth_operation (suc zero) = Sub
nth_operation (suc (suc zero)) = Mul
nth_operation (suc (suc (suc zero))) = Quot
nth_operation (suc (suc (suc (suc zero)))) = Rem
nth_operation (suc (suc (suc (suc (suc zero))))) = Eq
nth_operation (suc (suc (suc (suc (suc (suc n)))))) = Lt

op_back : (a : PrimOp) → nth_operation (op_number a) ≡ a
unfolding nth_operation
op_back Add = refl
op_back Sub = refl
op_back Mul = refl
op_back Quot = refl
op_back Rem = refl
op_back Eq = refl
op_back Lt = refl

same_op : (a b : PrimOp) → op_number a ≡ op_number b → a ≡ b
same_op a b e = sym (op_back a) ∙ ap nth_operation e ∙ op_back b

pub delay_sound : (a b : Delay) → same_thunk_kind a b ≡ true → a ≡ b
delay_sound (Calls f) (Calls g) e = ap Calls (eqb-true f g e)
delay_sound (Calls f) (Applies n) e = cc
delay_sound (Calls f) (Operates op) e = cc
delay_sound (Calls f) Reads e = cc
delay_sound (Applies m) (Calls g) e = cc
delay_sound (Applies m) (Applies n) e = ap Applies (eqb-true m n e)
delay_sound (Applies m) (Operates op) e = cc
delay_sound (Applies m) Reads e = cc
delay_sound (Operates a) (Calls g) e = cc
delay_sound (Operates a) (Applies n) e = cc
delay_sound (Operates a) (Operates b) e = ap Operates (same_op a b (eqb-true _ _ e))
delay_sound (Operates a) Reads e = cc
delay_sound Reads (Calls g) e = cc
delay_sound Reads (Applies n) e = cc
delay_sound Reads (Operates op) e = cc
delay_sound Reads Reads e = refl

pub delay_itself : (a : Delay) → same_thunk_kind a a ≡ true
delay_itself (Calls f) = eq-eqb f f refl
delay_itself (Applies n) = eq-eqb n n refl
delay_itself (Operates op) = eq-eqb _ _ refl
delay_itself Reads = refl

pub kind_sound : (a b : Kind) → same_tag_meaning a b ≡ true → a ≡ b
kind_sound Number Number e = refl
kind_sound Number (Constructor d) e = cc
kind_sound Number (Waits b) e = cc
kind_sound Number (Lacks g q) e = cc
kind_sound (Constructor c) Number e = cc
kind_sound (Constructor c) (Constructor d) e = ap Constructor (eqb-true c d e)
kind_sound (Constructor c) (Waits b) e = cc
kind_sound (Constructor c) (Lacks g q) e = cc
kind_sound (Waits a) Number e = cc
kind_sound (Waits a) (Constructor d) e = cc
kind_sound (Waits a) (Waits b) e = ap Waits (delay_sound a b e)
kind_sound (Waits a) (Lacks g q) e = cc
kind_sound (Lacks f r) Number e = cc
kind_sound (Lacks f r) (Constructor d) e = cc
kind_sound (Lacks f r) (Waits b) e = cc
kind_sound (Lacks f r) (Lacks g q) e =
    let i : f ≡ g = eqb-true f g (and_left _ _ e) in
    let j : r ≡ q = eqb-true r q (and_right (nat_eq f g) _ e) in
    cc

pub kind_itself : (a : Kind) → same_tag_meaning a a ≡ true
kind_itself Number = refl
kind_itself (Constructor c) = eq-eqb c c refl
kind_itself (Waits d) = delay_itself d
kind_itself (Lacks f r) = rw (eq-eqb f f refl, eq-eqb r r refl) refl

module _ (p : Program) where
  -- ---- what stands in the lists

  pub has_calls : (f : ℕ) (g : Function) → slice_get p.funs f ≡ Some g → Has (Calls f) (delays p)
  unfolding delays
  has_calls f g e = has_left _ (map Calls (numbers_from 0 (length p.funs))) _
      (has_map Calls f _
      (has_number_from (length p.funs) 0 f (omega arith)
      (omega (arith, slice_get_within p.funs f g e))))

  has_calls_below : (f : ℕ) → f < length p.funs → Has (Calls f) (delays p)
  unfolding delays
  has_calls_below f lt = has_left _ (map Calls (numbers_from 0 (length p.funs))) _
      (has_map Calls f _ (has_number_from (length p.funs) 0 f (omega arith) (omega (arith, lt))))

  pub has_applies : (m : ℕ) → m < 13 → is_delayed p (Applies m) ≡ true → Has (Applies m) (delays p)
  unfolding delays
  has_applies m lt e =
      has_right _ (map Calls (numbers_from 0 (length p.funs))) _
      (has_left _
      (filter (is_delayed p) (map Applies (numbers_from 0 13) ++ map Operates operations)) _
      (has_filter (is_delayed p) (Applies m)
      (map Applies (numbers_from 0 13) ++ map Operates operations) e
      (has_left (Applies m) (map Applies (numbers_from 0 13)) (map Operates operations)
      (has_map Applies m (numbers_from 0 13)
      (has_number_from 13 0 m (omega arith) (omega (arith, lt)))))))

  has_operation : (op : PrimOp) → Has op operations
  has_operation Add = inl refl
  has_operation Sub = inr (inl refl)
  has_operation Mul = inr (inr (inl refl))
  has_operation Quot = inr (inr (inr (inl refl)))
  has_operation Rem = inr (inr (inr (inr (inl refl))))
  has_operation Eq = inr (inr (inr (inr (inr (inl refl)))))
  has_operation Lt = inr (inr (inr (inr (inr (inr (inl refl))))))

  pub has_operates : (op : PrimOp) → is_delayed p (Operates op) ≡ true
      → Has (Operates op) (delays p)
  unfolding delays
  has_operates op e =
      has_right _ (map Calls (numbers_from 0 (length p.funs))) _
      (has_left _
      (filter (is_delayed p) (map Applies (numbers_from 0 13) ++ map Operates operations)) _
      (has_filter (is_delayed p) (Operates op)
      (map Applies (numbers_from 0 13) ++ map Operates operations) e
      (has_right (Operates op) (map Applies (numbers_from 0 13)) (map Operates operations)
      (has_map Operates op operations (has_operation op)))))

  has_reads_if : (b : Bool) → b ≡ true → Has Reads (cond b (Reads ∷ []) [])
  has_reads_if true e = inl refl
  has_reads_if false e = not_both false e refl

  pub has_reads : takes_input p ≡ true → Has Reads (delays p)
  unfolding delays
  has_reads e =
      has_right _ (map Calls (numbers_from 0 (length p.funs))) _
      (has_right _
      (filter (is_delayed p) (map Applies (numbers_from 0 13) ++ map Operates operations)) _
      (has_reads_if (takes_input p) e))

  pub has_number : Has Number (kinds p)
  unfolding kinds
  has_number = inl refl

  pub has_constructor : (c k : ℕ) → HasFields p c k → Has (Constructor c) (kinds p)
  unfolding kinds
  has_constructor c k h = inr
      (has_left _ (map Constructor (numbers_from 0 (length p.cons))) _
      (has_map Constructor c _
      (has_number_from (length p.cons) 0 c (omega arith)
      (omega (arith, slice_get_within p.cons c h.0 h.1)))))

  pub has_waits : (d : Delay) → Has d (delays p) → Has (Waits d) (kinds p)
  unfolding kinds
  has_waits d h = inr
      (has_right _ (map Constructor (numbers_from 0 (length p.cons))) _
      (has_left _ (map Waits (delays p)) _ (has_map Waits d _ h)))

  has_part_of : (f n r : ℕ) → r < n → Has (Lacks f (suc r)) (function_parts f n)
  has_part_of f zero r lt = absurd (omega (arith, lt))
  has_part_of f (suc n) r lt = at_first (nat_eq r n) refl (λ less. has_part_of f n r less)
    where
      below : (r ≡ n → ⊥) → r < n
      below ne = omega (arith, lt, ne)

      at_first : (b : Bool) → nat_eq r n ≡ b → (r < n → Has (Lacks f (suc r)) (function_parts f n))
          → Has (Lacks f (suc r)) (Lacks f (suc n) ∷ function_parts f n)
      at_first true e ih = inl (ap (λ k. Lacks f (suc k)) (eqb-true r n e))
      at_first false e ih = inr (ih (below (λ q. not_both _ (eq-eqb r n q) e)))

  has_part : (gs : List Function) (f i : ℕ) (g : Function) (r : ℕ) → slice_get gs i ≡ Some g
      → r < g.params → Has (Lacks (f + i) (suc r)) (parts gs f)
  has_part [] f i g r e lt = absurd (none-some g e)
  has_part (h ∷ gs) f zero g r e lt =
      let same : h ≡ g = same_Some h g e in
      let first : f + 0 ≡ f = omega arith in
      rw first (has_left _ (function_parts f h.params) _
      (has_part_of f h.params r (subst (λ x. r < x.params) (sym same) lt)))
  has_part (h ∷ gs) f (suc i) g r e lt =
      let next : f + suc i ≡ suc f + i = omega arith in
      rw next (has_right _ (function_parts f h.params) _ (has_part gs (suc f) i g r e lt))

  pub has_lacks : (f : ℕ) (g : Function) (r : ℕ) → slice_get p.funs f ≡ Some g → r < g.params
      → Has (Lacks f (suc r)) (kinds p)
  unfolding kinds
  has_lacks f g r e lt =
      let zero_on : 0 + f ≡ f = omega arith in
      inr (has_right _ (map Constructor (numbers_from 0 (length p.cons))) _
      (has_right _ (map Waits (delays p)) _
      (subst (λ k. Has (Lacks k (suc r)) (parts p.funs 0)) zero_on
      (has_part p.funs 0 f g r e lt))))

  -- ---- and where

  pub tag_found : (k : Kind) → Has k (kinds p) → slice_get (map (tag_of p) (kinds p)) (tag p k).0 ≡
      Some (tag_of p k)
  tag_found k h = found same_tag_meaning kind_sound kind_itself (tag_of p) k (kinds p) h

  pub tags_tell : (k l : Kind) → Has k (kinds p) → Has l (kinds p)
      → nat_eq (tag p k).0 (tag p l).0 ≡ same_tag_meaning k l
  tags_tell k l h i = places_tell same_tag_meaning kind_sound kind_itself k l (kinds p) h i

  -- a part is one of a function
  abbrev Good : Kind → Type 0
  Good Number = Unit {0}
  Good (Constructor c) = Unit {0}
  Good (Waits d) = Unit {0}
  Good (Lacks g q) = Has (Calls g) (delays p)

  good_parts_of : (f n : ℕ) → Has (Calls f) (delays p) → AllOf Good (function_parts f n)
  good_parts_of f zero h = tt
  good_parts_of f (suc n) h = (h, good_parts_of f n h)

  good_parts : (gs : List Function) (f : ℕ) → f + length gs ≤ length p.funs
      → AllOf Good (parts gs f)
  good_parts [] f le = tt
  good_parts (g ∷ gs) f le = all_append Good (function_parts f g.params) _
      (good_parts_of f g.params (has_calls_below f (omega (arith, le))))
      (good_parts gs (suc f) (omega (arith, le)))

  good : AllOf Good (kinds p)
  unfolding kinds
  good = (
    tt,
    all_append Good (map Constructor (numbers_from 0 (length p.cons))) _
        (all_map Good Constructor _ (λ c. tt))
        (all_append Good (map Waits (delays p)) _ (all_map Good Waits _ (λ d. tt))
        (good_parts p.funs 0 (omega arith))),
  )

  con_no_part : (F r : ℕ) (o : Option _) → is_part F r (con_tag o) ≡ false
  con_no_part F r None = refl
  con_no_part F r (Some c) = refl

  part_tells : (f r : ℕ) (k : Kind) → Has (Calls f) (delays p) → Good k
      → is_part (proc p (Calls f)).0 r (tag_of p k) ≡ same_tag_meaning (Lacks f r) k
  part_tells f r Number h g = refl
  part_tells f r (Constructor c) h g = con_no_part _ r (slice_get p.cons c)
  part_tells f r (Waits d) h g = refl
  part_tells f r (Lacks f' q) h g =
      let e : nat_eq (proc p (Calls f')).0 (proc p (Calls f)).0 ≡ nat_eq f' f
      = places_tell same_thunk_kind delay_sound delay_itself (Calls f') (Calls f) (delays p) g h
      in
      rw (e, nat_eq_turned f' f, nat_eq_turned q r) refl
    where
      nat_eq_turned : (a b : ℕ) → nat_eq a b ≡ nat_eq b a
      nat_eq_turned a b = by_test (nat_eq a b) refl (nat_eq b a) refl
        where
          by_test : (x : Bool) → nat_eq a b ≡ x → (y : Bool) → nat_eq b a ≡ y → x ≡ y
          by_test true e true f = refl
          by_test false e false f = refl
          by_test true e false f = not_both _ (eq-eqb b a (sym (eqb-true a b e))) f
          by_test false e true f = not_both _ (eq-eqb a b (sym (eqb-true b a f))) e

  part_from_found : (F f r : ℕ) (ks : List Kind) (i : ℕ)
      → AllOf (λ k. is_part F r (tag_of p k) ≡ same_tag_meaning (Lacks f r) k) ks
      → Has (Lacks f r) ks
      → part_from i (map (tag_of p) ks) F r ≡ Some
      (i + first_index_where (same_tag_meaning (Lacks f r)) ks)
  part_from_found F f r [] i a h = absurd h
  part_from_found F f r (k ∷ ks) i a h = rw a.0
      (at_first (same_tag_meaning (Lacks f r) k) refl h (part_from_found F f r ks (suc i) a.1))
    where
      at_first : (b : Bool) → same_tag_meaning (Lacks f r) k ≡ b → Has (Lacks f r) (k ∷ ks)
          → (Has (Lacks f r) ks → part_from (suc i) (map (tag_of p) ks) F r ≡ Some
          (suc i + first_index_where (same_tag_meaning (Lacks f r)) ks))
          → cond b (Some i) (part_from (suc i) (map (tag_of p) ks) F r) ≡ Some
          (i + cond b 0 (suc (first_index_where (same_tag_meaning (Lacks f r)) ks)))
      at_first true e h ih = let q : i ≡ i + 0 = omega arith in ap Some q
      at_first false e (inl j) ih = not_both (same_tag_meaning (Lacks f r) k)
          (subst (λ z. same_tag_meaning (Lacks f r) z ≡ true) j (kind_itself (Lacks f r))) e
      at_first false e (inr j) ih = let q : suc i + first_index_where (same_tag_meaning (Lacks f r))
          ks ≡ i + suc (first_index_where (same_tag_meaning (Lacks f r)) ks) = omega arith
          in ih j ∙ ap Some q

  all_tell : (f r : ℕ) (ks : List Kind) → Has (Calls f) (delays p) → AllOf Good ks
      → AllOf (λ k. is_part (proc p (Calls f)).0 r (tag_of p k) ≡ same_tag_meaning (Lacks f r) k) ks
  all_tell f r [] h a = tt
  all_tell f r (k ∷ ks) h a = (part_tells f r k h a.0, all_tell f r ks h a.1)

  pub part_found : (f : ℕ) (g : Function) (r : ℕ) → slice_get p.funs f ≡ Some g → r < g.params
      → part_from 0 (map (tag_of p) (kinds p)) (proc p (Calls f)).0 (suc r) ≡ Some
      (tag p (Lacks f (suc r))).0
  part_found f g r e lt =
      let q : 0 + (tag p (Lacks f (suc r))).0 ≡ (tag p (Lacks f (suc r))).0 = omega arith in
      part_from_found (proc p (Calls f)).0 f (suc r) (kinds p) 0
      (all_tell f (suc r) (kinds p) (has_calls f g e) good) (has_lacks f g r e lt) ∙ ap Some q
