-- Where things stand in the lists of what waits and of what the tags stand for.
use Rattle.std.proofs.Common.{◌≡◌, ◌≢◌, ℕ, zero, suc, ◌+◌, ◌-◌, ◌≤◌, ◌<◌, Bool, true, false, cond, nat_eq, List, [], ◌∷◌, ◌++◌, map, filter, length, take, drop, Some, None, slice_get, refl, sym, ap, ◌∙◌, subst, arith, eqb-true, length-append, append_assoc}
use Rattle.std.specs.List.{count_by}
use Rattle.std.proofs.lemmas.Bool.{eq-eqb}
use Rattle.std.proofs.lemmas.List.{length-map, map-append}
use Rattle.std.proofs.lemmas.Option.{same_Some, none-some}
use Rattle.seq.proofs.Order.{eq_false}
use Rattle.seq.proofs.Lists.{all_filter, all_append}
use Rattle.seq.proofs.Truth.{not_both}
use Rattle.arity_check.specs.Program.{Program, Function}
use Rattle.core_meaning.specs.Evaluation.{params, params_of, global}
use Rattle.grin_translate.specs.declared.tags.Delay.{Delay}
use Rattle.grin_translate.specs.declared.tags.Delay.TheVariants.{Calls, Applies, Operates, Reads}
use Rattle.grin_translate.specs.declared.tags.Kind.{Kind}
use Rattle.grin_translate.specs.declared.tags.Kind.TheVariants.{Number, Constructor, Waits, Lacks}
use Rattle.grin_translate.specs.Tags.{operations, same_thunk_kind, same_tag_meaning, first_index_where, is_delayed, takes_input, delays, kinds, parts, function_parts, tag, proc}
use Rattle.grin_translate.specs.Numbered.{IsNotCall, prefix_sums, after, globals_before, global_count, one_if_parameterless, parameter_counts}
use Rattle.grin_translate.specs.WellFormed.{AllOf}
use Rattle.core_meaning.proofs.Shared.{count_more}
use Rattle.grin_translate.proofs.Places.{all_map}
use Rattle.seq.specs.Lists.{numbers_from}
use Rattle.seq.proofs.Counted.{length_numbers}

-- ---- first places

module _ {A : Type 0} (t : A → Bool) where
  abbrev Fails : A → Type 0
  Fails x = t x ≡ false

  pub miss : (xs : List A) → AllOf Fails xs → first_index_where t xs ≡ length xs
  miss [] f = refl
  miss (x ∷ xs) f = rw f.0 (ap suc (miss xs f.1))

  pub skip : (xs ys : List A) → AllOf Fails xs → first_index_where t (xs ++ ys) ≡ length xs +
      first_index_where t ys
  skip [] ys f = omega arith
  skip (x ∷ xs) ys f = rw f.0 (let h = skip xs ys f.1 in omega (arith, h))

  pub hit : (xs ys : List A) → first_index_where t xs < length xs
      → first_index_where t (xs ++ ys) ≡ first_index_where t xs
  hit [] ys lt = absurd (omega (arith, lt))
  hit (x ∷ xs) ys lt = by_test (t x) lt (hit xs ys)
    where
      by_test : (b : Bool) → cond b 0 (suc (first_index_where t xs)) < suc (length xs)
          → (first_index_where t xs < length xs → first_index_where t (xs ++ ys) ≡ first_index_where
          t xs) → cond b 0 (suc (first_index_where t (xs ++ ys))) ≡ cond b 0
          (suc (first_index_where t xs))
      by_test true lt ih = refl
      by_test false lt ih = ap suc (ih (omega (arith, lt)))

  pub at_most : (xs : List A) → first_index_where t xs ≤ length xs
  at_most [] = omega arith
  at_most (x ∷ xs) = by_test (t x) (at_most xs)
    where
      by_test : (b : Bool) → first_index_where t xs ≤ length xs
          → cond b 0 (suc (first_index_where t xs)) ≤ suc (length xs)
      by_test true le = omega arith
      by_test false le = omega (arith, le)

  -- what is not found fails everywhere
  pub missed : (xs : List A) → first_index_where t xs ≡ length xs → AllOf Fails xs
  missed [] e = tt
  missed (x ∷ xs) e = by_test (t x) refl e (missed xs)
    where
      by_test : (b : Bool) → t x ≡ b → cond b 0 (suc (first_index_where t xs)) ≡ suc (length xs)
          → (first_index_where t xs ≡ length xs → AllOf Fails xs) → Fails x × AllOf Fails xs
      by_test true q e ih = absurd (omega (arith, e))
      by_test false q e ih = (q, ih (omega (arith, e)))

pub place_map : {A B : Type 0} (t : B → Bool) (f : A → B) (xs : List A)
    → first_index_where t (map f xs) ≡ first_index_where (λ x. t (f x)) xs
place_map t f [] = refl
place_map t f (x ∷ xs) = ap (λ n. cond (t (f x)) 0 (suc n)) (place_map t f xs)

pub number_at : (n k j : ℕ) → j < n → first_index_where (nat_eq (k + j)) (numbers_from k n) ≡ j
number_at zero k j lt = absurd (omega (arith, lt))
number_at (suc n) k zero lt = let z : k + 0 ≡ k = omega arith in rw (z, eq-eqb k k refl) refl
number_at (suc n) k (suc j) lt =
    let z : k + suc j ≡ suc k + j = omega arith in
    let ne : suc k + j ≢ k = λ e. omega (arith, e) in
    subst (λ m. first_index_where (nat_eq m) (numbers_from k (suc n)) ≡ suc j) (sym z)
    (rw (eq_false (suc k + j) k ne) (ap suc (number_at n (suc k) j (omega (arith, lt)))))

pub number_absent : (n k f : ℕ) → k + n ≤ f → AllOf (λ x. nat_eq f x ≡ false) (numbers_from k n)
number_absent zero k f le = tt
number_absent (suc n) k f le = let ne : f ≢ k = λ e. omega (arith, le, e)
    in (eq_false f k ne, number_absent n (suc k) f (omega (arith, le)))

pub numbers_more : (n k : ℕ) → numbers_from k (suc n) ≡ numbers_from k n ++ (k + n) ∷ []
numbers_more zero k = let z : k + 0 ≡ k = omega arith in rw z refl
numbers_more (suc n) k = let z : k + suc n ≡ suc k + n = omega arith
    in rw z (ap (λ xs. k ∷ xs) (numbers_more n (suc k)))

pub mapped_more : {A : Type 0} (f : ℕ → A) (k n : ℕ)
    → map f (numbers_from k (n + 1)) ≡ map f (numbers_from k n) ++ f (k + n) ∷ []
mapped_more f k n =
    let e : n + 1 ≡ suc n = omega arith in
    ap (λ m. map f (numbers_from k m)) e ∙ ap (map f) (numbers_more n k) ∙ map-append f
    (numbers_from k n) ((k + n) ∷ [])

-- a list of what stands for each number grows by one
pub one_pushed : {A : Type 0} (f : ℕ → A) (k n : ℕ) (before made pushed : List A) (x : A)
    → pushed ≡ made ++ x ∷ [] → made ≡ before ++ map f (numbers_from k n) → x ≡ f (k + n)
    → pushed ≡ before ++ map f (numbers_from k (n + 1))
one_pushed f k n before made pushed x e g h =
    e ∙ (λ z. g z ++ h z ∷ []) ∙ append_assoc before (map f (numbers_from k n)) (f (k + n) ∷ []) ∙
    ap (λ xs. before ++ xs) (sym (mapped_more f k n))

pub zero_pushed : {A : Type 0} (f : ℕ → A) (n : ℕ) (before made pushed : List A) (x : A)
    → pushed ≡ made ++ x ∷ [] → made ≡ before ++ map f (numbers_from 0 n) → x ≡ f n
    → pushed ≡ before ++ map f (numbers_from 0 (n + 1))
zero_pushed f n before made pushed x e g h = let z : n ≡ 0 + n = omega arith
    in one_pushed f 0 n before made pushed x e g (h ∙ ap f z)

pub all_fail : {A : Type 0} (t : A → Bool) (P : A → Type 0) → ((x : A) → P x → t x ≡ false)
    → (xs : List A) → AllOf P xs → AllOf (λ x. t x ≡ false) xs
all_fail t P h [] a = tt
all_fail t P h (x ∷ xs) a = (h x a.0, all_fail t P h xs a.1)

pub dropped : {A : Type 0} (n : ℕ) (xs ys : List A) → length xs ≡ n → drop n (xs ++ ys) ≡ ys
dropped zero [] ys e = refl
dropped zero (x ∷ xs) ys e = absurd (omega (arith, e))
dropped (suc n) [] ys e = absurd (omega (arith, e))
dropped (suc n) (x ∷ xs) ys e = dropped n xs ys (omega (arith, e))

-- ---- what waits

no_call_same : (f : ℕ) (d : Delay) → IsNotCall d → same_thunk_kind (Calls f) d ≡ false
no_call_same f (Calls g) n = absurd n
no_call_same f (Applies m) n = refl
no_call_same f (Operates op) n = refl
no_call_same f Reads n = refl

other_same : (d : Delay) → IsNotCall d → (f : ℕ) → same_thunk_kind d (Calls f) ≡ false
other_same (Calls g) n f = absurd n
other_same (Applies m) n f = refl
other_same (Operates op) n f = refl
other_same Reads n f = refl

module _ (p : Program) where
  abbrev called : List Delay
  called = map Calls (numbers_from 0 (length p.funs))

  abbrev others : List Delay
  others = filter (is_delayed p) (map Applies (numbers_from 0 13) ++ map Operates operations)
      ++ cond (takes_input p) (Reads ∷ []) []

  long_called : length called ≡ length p.funs
  long_called = length-map (numbers_from 0 (length p.funs)) Calls ∙ length_numbers 0 (length p.funs)

  no_calls : AllOf IsNotCall others
  no_calls = all_append IsNotCall
      (filter (is_delayed p) (map Applies (numbers_from 0 13) ++ map Operates operations)) _
      (all_filter IsNotCall (is_delayed p)
      (map Applies (numbers_from 0 13) ++ map Operates operations)
      (all_append IsNotCall (map Applies (numbers_from 0 13)) (map Operates operations)
      (all_map IsNotCall Applies (numbers_from 0 13) (λ m. tt))
      (all_map IsNotCall Operates operations (λ op. tt)))) (last (takes_input p))
    where
      last : (b : Bool) → AllOf IsNotCall (cond b (Reads ∷ []) [])
      last true = (tt, tt)
      last false = tt

  pub functions_within : length p.funs ≤ length (delays p)
  unfolding delays
  functions_within = omega (arith, length-append called others, long_called)

  pub call_place : (f : ℕ) → f < length p.funs → f ≡ (proc p (Calls f)).0
  unfolding delays
  call_place f lt =
      let e : first_index_where (same_thunk_kind (Calls f)) called ≡ f
      = place_map (same_thunk_kind (Calls f)) Calls (numbers_from 0 (length p.funs)) ∙
      number_at_zero in
      let within : first_index_where (same_thunk_kind (Calls f)) called < length called
      = omega (arith, e, lt, long_called) in
      sym (hit (same_thunk_kind (Calls f)) called others within ∙ e)
    where
      number_at_zero : first_index_where (nat_eq f) (numbers_from 0 (length p.funs)) ≡ f
      number_at_zero = let z : 0 + f ≡ f = omega arith
          in subst (λ g. first_index_where (nat_eq g) (numbers_from 0 (length p.funs)) ≡ f) z
          (number_at (length p.funs) 0 f lt)

  pub call_absent : (f : ℕ) → length p.funs ≤ f → length (delays p) ≡ (proc p (Calls f)).0
  unfolding delays
  call_absent f le =
      let a : AllOf (λ d. same_thunk_kind (Calls f) d ≡ false) called
      = all_map' (numbers_from 0 (length p.funs))
      (number_absent (length p.funs) 0 f (omega (arith, le))) in
      let b : AllOf (λ d. same_thunk_kind (Calls f) d ≡ false) others
      = all_fail (same_thunk_kind (Calls f)) IsNotCall (no_call_same f) others no_calls in
      sym (miss (same_thunk_kind (Calls f)) (called ++ others)
      (all_append (λ d. same_thunk_kind (Calls f) d ≡ false) called others a b))
    where
      all_map' : (ns : List ℕ) → AllOf (λ x. nat_eq f x ≡ false) ns
          → AllOf (λ d. same_thunk_kind (Calls f) d ≡ false) (map Calls ns)
      all_map' [] h = tt
      all_map' (n ∷ ns) h = (h.0, all_map' ns h.1)

  pub other_place : (d : Delay) → IsNotCall d → length p.funs + first_index_where
      (same_thunk_kind d) (drop (length p.funs) (delays p)) ≡ (proc p d).0
  unfolding delays
  other_place d n =
      rw (dropped (length p.funs) called others long_called)
      (ap (λ k. k + first_index_where (same_thunk_kind d) others) (sym long_called)
      ∙ sym (skip (same_thunk_kind d) called others
      (all_map (λ e. same_thunk_kind d e ≡ false) Calls (numbers_from 0 (length p.funs))
      (other_same d n))))

  pub other_found : (d : Delay) (functions at : ℕ) (others' all : List Delay)
      → functions ≡ length p.funs → all ≡ delays p → others' ≡ drop functions all
      → at ≡ first_index_where (same_thunk_kind d) others' → IsNotCall d
      → functions + at ≡ (proc p d).0
  other_found d functions at others' all e f g h n =
      ap (λ k. functions + k) h ∙ ap (λ xs. functions + first_index_where (same_thunk_kind d) xs)
      (g ∙ ap (drop functions) f) ∙ ap
      (λ k. k + first_index_where (same_thunk_kind d) (drop k (delays p))) e ∙ other_place d n

  pub place_at_most : (d : Delay) → (proc p d).0 ≤ length (delays p)
  place_at_most d = at_most (same_thunk_kind d) (delays p)

  -- ---- tags

  abbrev constructors : List Kind
  constructors = map Constructor (numbers_from 0 (length p.cons))

  long_constructors : length constructors ≡ length p.cons
  long_constructors = length-map (numbers_from 0 (length p.cons)) Constructor ∙ length_numbers 0
      (length p.cons)

  long_waits : length (map Waits (delays p)) ≡ length (delays p)
  long_waits = length-map (delays p) Waits

  length-parts_of : (f n : ℕ) → length (function_parts f n) ≡ n
  length-parts_of f zero = refl
  length-parts_of f (suc n) = ap suc (length-parts_of f n)

  after_parts : (first : ℕ) (fs : List Function) (f : ℕ)
      → after first (parameter_counts fs) ≡ first + length (parts fs f)
  after_parts first [] f = omega arith
  after_parts first (g ∷ gs) f = omega (
    arith,
    after_parts (first + g.params) gs (suc f),
    length-append (function_parts f g.params) (parts gs (suc f)),
    length-parts_of f g.params,
  )

  -- where the tags of functions that lack arguments begin
  abbrev pub first_part : ℕ
  first_part = 1 + length p.cons + length (delays p)

  pub many_tags : after first_part (parameter_counts p.funs) ≡ length (kinds p)
  unfolding kinds
  many_tags = omega (
    arith,
    after_parts first_part p.funs 0,
    length-append constructors
        (map Waits (delays p) ++ parts p.funs 0),
    length-append (map Waits (delays p))
        (parts p.funs 0),
    long_constructors,
    long_waits,
  )

  pub number_place : 0 ≡ (tag p Number).0
  unfolding kinds
  number_place = refl

  no_waits : (k : Kind) → ((d : Delay) → same_tag_meaning k (Waits d) ≡ false)
      → AllOf (λ l. same_tag_meaning k l ≡ false) (map Waits (delays p))
  no_waits k h = all_map (λ l. same_tag_meaning k l ≡ false) Waits (delays p) h

  no_parts_of : (k : Kind) → ((f r : ℕ) → same_tag_meaning k (Lacks f r) ≡ false) → (f n : ℕ)
      → AllOf (λ l. same_tag_meaning k l ≡ false) (function_parts f n)
  no_parts_of k h f zero = tt
  no_parts_of k h f (suc n) = (h f (suc n), no_parts_of k h f n)

  no_parts : (k : Kind) → ((f r : ℕ) → same_tag_meaning k (Lacks f r) ≡ false)
      → (fs : List Function) (f : ℕ) → AllOf (λ l. same_tag_meaning k l ≡ false) (parts fs f)
  no_parts k h [] f = tt
  no_parts k h (g ∷ gs) f = all_append (λ l. same_tag_meaning k l ≡ false)
      (function_parts f g.params) _ (no_parts_of k h f g.params) (no_parts k h gs (suc f))

  no_constructors : (k : Kind) → ((c : ℕ) → same_tag_meaning k (Constructor c) ≡ false)
      → AllOf (λ l. same_tag_meaning k l ≡ false) constructors
  no_constructors k h = all_map (λ l. same_tag_meaning k l ≡ false) Constructor
      (numbers_from 0 (length p.cons)) h

  pub constructor_place : (c : ℕ) → c < length p.cons → 1 + c ≡ (tag p (Constructor c)).0
  unfolding kinds
  constructor_place c lt =
      let e : first_index_where (same_tag_meaning (Constructor c)) constructors ≡ c
      = place_map (same_tag_meaning (Constructor c)) Constructor
      (numbers_from 0 (length p.cons)) ∙ number_at_zero in
      let within : first_index_where (same_tag_meaning (Constructor c)) constructors < length
      constructors = omega (arith, e, lt, long_constructors) in
      let h = hit (same_tag_meaning (Constructor c)) constructors
      (map Waits (delays p) ++ parts p.funs 0) within ∙ e in
      omega (arith, h)
    where
      number_at_zero : first_index_where (nat_eq c) (numbers_from 0 (length p.cons)) ≡ c
      number_at_zero = let z : 0 + c ≡ c = omega arith
          in subst (λ g. first_index_where (nat_eq g) (numbers_from 0 (length p.cons)) ≡ c) z
          (number_at (length p.cons) 0 c lt)

  pub constructor_absent : (c : ℕ) → length p.cons ≤ c
      → length (kinds p) ≡ (tag p (Constructor c)).0
  unfolding kinds
  constructor_absent c le =
      let k : Kind = Constructor c in
      let a : AllOf (λ l. same_tag_meaning k l ≡ false) constructors
      = all_map' (numbers_from 0 (length p.cons))
      (number_absent (length p.cons) 0 c (omega (arith, le))) in
      let b : AllOf (λ l. same_tag_meaning k l ≡ false) (map Waits (delays p))
      = no_waits k (λ d. refl) in
      let rest : AllOf (λ l. same_tag_meaning k l ≡ false)
      (constructors ++ (map Waits (delays p) ++ parts p.funs 0))
      = all_append (λ l. same_tag_meaning k l ≡ false) constructors _ a
      (all_append (λ l. same_tag_meaning k l ≡ false) (map Waits (delays p)) _ b
      (no_parts k (λ f r. refl) p.funs 0)) in
      sym (miss (same_tag_meaning k)
      (Number ∷ (constructors ++ (map Waits (delays p) ++ parts p.funs 0))) (refl, rest))
    where
      all_map' : (ns : List ℕ) → AllOf (λ x. nat_eq c x ≡ false) ns
          → AllOf (λ l. same_tag_meaning (Constructor c) l ≡ false) (map Constructor ns)
      all_map' [] h = tt
      all_map' (n ∷ ns) h = (h.0, all_map' ns h.1)

  pub waits_place : (d : Delay) → (proc p d).0 < length (delays p)
      → 1 + length p.cons + (proc p d).0 ≡ (tag p (Waits d)).0
  unfolding kinds
  waits_place d lt =
      let k : Kind = Waits d in
      let e : first_index_where (same_tag_meaning k) (map Waits (delays p)) ≡ (proc p d).0
      = place_map (same_tag_meaning k) Waits (delays p) in
      let within : first_index_where (same_tag_meaning k) (map Waits (delays p)) < length
      (map Waits (delays p)) = omega (arith, e, lt, long_waits) in
      let h = hit (same_tag_meaning k) (map Waits (delays p)) (parts p.funs 0) within in
      let s = skip (same_tag_meaning k) constructors (map Waits (delays p) ++ parts p.funs 0)
      (no_constructors k (λ c. refl)) in
      omega (arith, e, h, s, long_constructors)

  pub waits_absent : (d : Delay) → length (delays p) ≤ (proc p d).0
      → length (kinds p) ≡ (tag p (Waits d)).0
  unfolding kinds
  waits_absent d le =
      let k : Kind = Waits d in
      let m : AllOf (λ e. same_thunk_kind d e ≡ false) (delays p)
      = missed (same_thunk_kind d) (delays p) (omega (arith, le, place_at_most d)) in
      let a : AllOf (λ l. same_tag_meaning k l ≡ false) constructors = no_constructors k (λ c. refl)
      in
      let b : AllOf (λ l. same_tag_meaning k l ≡ false) (map Waits (delays p))
      = all_map' (delays p) m in
      let rest : AllOf (λ l. same_tag_meaning k l ≡ false)
      (constructors ++ (map Waits (delays p) ++ parts p.funs 0))
      = all_append (λ l. same_tag_meaning k l ≡ false) constructors _ a
      (all_append (λ l. same_tag_meaning k l ≡ false) (map Waits (delays p)) _ b
      (no_parts k (λ f r. refl) p.funs 0)) in
      sym (miss (same_tag_meaning k)
      (Number ∷ (constructors ++ (map Waits (delays p) ++ parts p.funs 0))) (refl, rest))
    where
      all_map' : (ds : List Delay) → AllOf (λ e. same_thunk_kind d e ≡ false) ds
          → AllOf (λ l. same_tag_meaning (Waits d) l ≡ false) (map Waits ds)
      all_map' [] h = tt
      all_map' (e ∷ ds) h = (h.0, all_map' ds h.1)

  -- ---- the parts of functions

  -- no part of the functions from f on has r arguments missing
  other_function : (f r g n : ℕ) → f ≢ g → AllOf (λ l. same_tag_meaning (Lacks f r) l ≡ false)
      (function_parts g n)
  other_function f r g zero ne = tt
  other_function f r g (suc n) ne = (rw (eq_false f g ne) refl, other_function f r g n ne)

  other_functions : (f r : ℕ) (fs : List Function) (g : ℕ) → f < g
      → AllOf (λ l. same_tag_meaning (Lacks f r) l ≡ false) (parts fs g)
  other_functions f r [] g lt = tt
  other_functions f r (h ∷ fs) g lt = all_append (λ l. same_tag_meaning (Lacks f r) l ≡ false)
      (function_parts g h.params) _ (other_function f r g h.params (λ e. omega (arith, lt, e)))
      (other_functions f r fs (suc g) (omega (arith, lt)))

  part_of_place : (f n r : ℕ) → r < n → first_index_where (same_tag_meaning (Lacks f (suc r)))
      (function_parts f n) ≡ n - suc r
  part_of_place f zero r lt = absurd (omega (arith, lt))
  part_of_place f (suc n) r lt = rw (eq-eqb f f refl)
      (by_test (nat_eq (suc r) (suc n)) refl (part_of_place f n r))
    where
      by_test : (b : Bool) → nat_eq (suc r) (suc n) ≡ b
          → (r < n → first_index_where (same_tag_meaning (Lacks f (suc r))) (function_parts f n) ≡ n
          - suc r) → cond b 0
          (suc (first_index_where (same_tag_meaning (Lacks f (suc r))) (function_parts f n))) ≡ suc
          n - suc r
      by_test true e ih = let i = eqb-true (suc r) (suc n) e in omega (arith, i)
      by_test false e ih =
          let ne : r ≢ n = λ q. not_both (nat_eq (suc r) (suc n))
          (eq-eqb (suc r) (suc n) (ap suc q)) e in
          let h = ih (omega (arith, lt, ne)) in
          omega (arith, h, lt, ne)

  part_of_absent : (f n r : ℕ) → n < r → AllOf (λ l. same_tag_meaning (Lacks f r) l ≡ false)
      (function_parts f n)
  part_of_absent f zero r lt = tt
  part_of_absent f (suc n) r lt = (
    rw (eq-eqb f f refl, eq_false r (suc n) (λ e. omega (arith, lt, e))) refl,
    part_of_absent f n r (omega (arith, lt)),
  )

  part_of_none : (f n : ℕ) → AllOf (λ l. same_tag_meaning (Lacks f 0) l ≡ false)
      (function_parts f n)
  part_of_none f zero = tt
  part_of_none f (suc n) =
      (rw (eq-eqb f f refl, eq_false 0 (suc n) (λ e. omega (arith, e))) refl, part_of_none f n)

  part_at : (fs : List Function) (first k f r start n : ℕ)
      → slice_get (prefix_sums first (parameter_counts fs)) f ≡ Some start
      → slice_get (parameter_counts fs) f ≡ Some n → r < n
      → first + first_index_where (same_tag_meaning (Lacks (k + f) (suc r))) (parts fs k) ≡ start +
      (n - suc r)
  part_at [] first k f r start n e g lt = absurd (none-some start e)
  part_at (h ∷ fs) first k zero r start n e g lt =
      let z : k + 0 ≡ k = omega arith in
      let same : first ≡ start = same_Some first start e in
      let many : h.params ≡ n = same_Some h.params n g in
      let here = part_of_place k h.params r (omega (arith, many, lt)) in
      rw z (let i = hit (same_tag_meaning (Lacks k (suc r))) (function_parts k h.params)
      (parts fs (suc k)) (omega (arith, here, many, lt, length-parts_of k h.params))
      in omega (arith, i, here, same, many))
  part_at (h ∷ fs) first k (suc f) r start n e g lt =
      let z : k + suc f ≡ suc k + f = omega arith in
      let s = skip (same_tag_meaning (Lacks (suc k + f) (suc r))) (function_parts k h.params)
      (parts fs (suc k)) (other_function (suc k + f) (suc r) k h.params (λ q. omega (arith, q)))
      in
      let ih = part_at fs (first + h.params) (suc k) f r start n e g lt in
      rw z (omega (arith, s, ih, length-parts_of k h.params))

  after_more : (first : ℕ) (ns : List ℕ) → first ≤ after first ns
  after_more first [] = omega arith
  after_more first (n ∷ ns) = omega (arith, after_more (first + n) ns)

  pub tags_more : first_part ≤ after first_part (parameter_counts p.funs)
  tags_more = after_more first_part (parameter_counts p.funs)

  start_fits : (ns : List ℕ) (first f start n : ℕ) → slice_get (prefix_sums first ns) f ≡ Some start
      → slice_get ns f ≡ Some n → start + n ≤ after first ns
  start_fits [] first f start n e g = absurd (none-some start e)
  start_fits (m ∷ ns) first zero start n e g = omega
      (arith, same_Some first start e, same_Some m n g, after_more (first + m) ns)
  start_fits (m ∷ ns) first (suc f) start n e g = start_fits ns (first + m) f start n e g

  params_at : (fs : List Function) (f n : ℕ) → slice_get (parameter_counts fs) f ≡ Some n
      → (g : Function) × (slice_get fs f ≡ Some g) × (g.params ≡ n)
  params_at [] f n e = absurd (none-some n e)
  params_at (h ∷ fs) zero n e = (h, refl, same_Some h.params n e)
  params_at (h ∷ fs) (suc f) n e = params_at fs f n e

  start_at : (ns : List ℕ) (first f start : ℕ) → slice_get (prefix_sums first ns) f ≡ Some start
      → (n : ℕ) × (slice_get ns f ≡ Some n)
  start_at [] first f start e = absurd (none-some start e)
  start_at (n ∷ ns) first zero start e = (n, refl)
  start_at (n ∷ ns) first (suc f) start e = start_at ns (first + n) f start e

  known_params : (f start : ℕ) → slice_get (prefix_sums first_part (parameter_counts p.funs)) f ≡
      Some start → slice_get (parameter_counts p.funs) f ≡ Some (params p f)
  known_params f start e =
      let n = start_at (parameter_counts p.funs) first_part f start e in
      let g = params_at p.funs f n.0 n.1 in
      let many : params p f ≡ n.0 = ap (params_of p) g.1 ∙ g.2 in
      n.1 ∙ ap Some (sym many)

  no_start : (fs : List Function) (first f : ℕ) → slice_get
      (prefix_sums first (parameter_counts fs)) f ≡ None → slice_get fs f ≡ None
  no_start [] first f e = refl
  no_start (h ∷ fs) first zero e = absurd (none-some first (sym e))
  no_start (h ∷ fs) first (suc f) e = no_start fs (first + h.params) f e

  pub no_params : (f : ℕ) → slice_get (prefix_sums first_part (parameter_counts p.funs)) f ≡ None
      → params p f ≡ 0
  no_params f e = ap (params_of p) (no_start p.funs first_part f e)

  -- ---- global cells

  abbrev without_params : Function → Bool
  without_params g = nat_eq g.params 0

  one_if : (n : ℕ) → one_if_parameterless n ≡ cond (nat_eq n 0) 1 0
  one_if n = refl

  shared_at : (fs : List Function) (k f n : ℕ) → slice_get (globals_before k (parameter_counts fs))
      f ≡ Some n → n ≡ k + count_by without_params (take f fs)
  shared_at [] k f n e = absurd (none-some n e)
  shared_at (g ∷ gs) k zero n e = let i = same_Some k n e in omega (arith, i)
  shared_at (g ∷ gs) k (suc f) n e = let ih = shared_at gs (k + one_if_parameterless g.params) f n e
      in let m = count_more g (take f gs) in omega (arith, ih, m, one_if g.params)

  shared_all : (fs : List Function) (k f : ℕ) → slice_get (globals_before k (parameter_counts fs)) f
      ≡ None → global_count k (parameter_counts fs) ≡ k + count_by without_params (take f fs)
  shared_all [] k zero e = omega arith
  shared_all [] k (suc f) e = omega arith
  shared_all (g ∷ gs) k zero e = absurd (none-some k (sym e))
  shared_all (g ∷ gs) k (suc f) e = let ih = shared_all gs (k + one_if_parameterless g.params) f e
      in let m = count_more g (take f gs) in omega (arith, ih, m, one_if g.params)

  pub global_place : (f n : ℕ) → slice_get (globals_before 0 (parameter_counts p.funs)) f ≡ Some n
      → n ≡ global p f
  global_place f n e = let i = shared_at p.funs 0 f n e in omega (arith, i)

  pub global_absent : (f : ℕ) → slice_get (globals_before 0 (parameter_counts p.funs)) f ≡ None
      → global_count 0 (parameter_counts p.funs) ≡ global p f
  global_absent f e = let i = shared_all p.funs 0 f e in omega (arith, i)

  -- the tag of a function that lacks so many arguments, from where its tags begin
  pub lacks_place : (f missing start : ℕ) → slice_get
      (prefix_sums first_part (parameter_counts p.funs)) f ≡ Some start → 0 < missing
      → missing ≤ params p f → start + (params p f - missing) ≡ (tag p (Lacks f missing)).0
  unfolding kinds
  lacks_place f zero start e lt le = absurd (omega (arith, lt))
  lacks_place f (suc r) start e lt le =
      let k : Kind = Lacks f (suc r) in
      let z : 0 + f ≡ f = omega arith in
      let at : first_part + first_index_where (same_tag_meaning k) (parts p.funs 0) ≡ start +
      (params p f - suc r) = subst
      (λ g. first_part + first_index_where (same_tag_meaning (Lacks g (suc r))) (parts p.funs 0)
      ≡ start + (params p f - suc r)) z
      (part_at p.funs first_part 0 f r start (params p f) e (known_params f start e)
      (omega (arith, le))) in
      let s = skip (same_tag_meaning k) constructors (map Waits (delays p) ++ parts p.funs 0)
      (no_constructors k (λ c. refl)) in
      let t = skip (same_tag_meaning k) (map Waits (delays p)) (parts p.funs 0)
      (no_waits k (λ d. refl)) in
      omega (arith, at, s, t, long_constructors, long_waits)

  pub lacks_fit : (f start : ℕ) → slice_get (prefix_sums first_part (parameter_counts p.funs)) f ≡
      Some start → start + params p f ≤ after first_part (parameter_counts p.funs)
  lacks_fit f start e = start_fits (parameter_counts p.funs) first_part f start (params p f) e
      (known_params f start e)

  absent_parts : (f missing : ℕ) (fs : List Function) (g : ℕ)
      → ((i n : ℕ) → f ≡ g + i → slice_get (parameter_counts fs) i ≡ Some n
      → AllOf (λ l. same_tag_meaning (Lacks f missing) l ≡ false) (function_parts f n))
      → AllOf (λ l. same_tag_meaning (Lacks f missing) l ≡ false) (parts fs g)
  absent_parts f missing [] g h = tt
  absent_parts f missing (x ∷ fs) g h = all_append
      (λ l. same_tag_meaning (Lacks f missing) l ≡ false) (function_parts g x.params) _
      (first (nat_eq f g) refl)
      (absent_parts f missing fs (suc g) (λ i n e at. h (suc i) n (omega (arith, e)) at))
    where
      first : (b : Bool) → nat_eq f g ≡ b → AllOf
          (λ l. same_tag_meaning (Lacks f missing) l ≡ false) (function_parts g x.params)
      first true e = let i = eqb-true f g e in subst
          (λ k. AllOf (λ l. same_tag_meaning (Lacks f missing) l ≡ false)
          (function_parts k x.params)) i (h 0 x.params (omega (arith, i)) refl)
      first false e = other_function f missing g x.params
          (λ i. not_both (nat_eq f g) (eq-eqb f g i) e)

  lacks_absent : (f missing : ℕ) → AllOf (λ l. same_tag_meaning (Lacks f missing) l ≡ false)
      (parts p.funs 0) → length (kinds p) ≡ (tag p (Lacks f missing)).0
  unfolding kinds
  lacks_absent f missing h =
      let k : Kind = Lacks f missing in
      let rest : AllOf (λ l. same_tag_meaning k l ≡ false)
      (constructors ++ (map Waits (delays p) ++ parts p.funs 0))
      = all_append (λ l. same_tag_meaning k l ≡ false) constructors _
      (no_constructors k (λ c. refl))
      (all_append (λ l. same_tag_meaning k l ≡ false) (map Waits (delays p)) _
      (no_waits k (λ d. refl)) h) in
      sym (miss (same_tag_meaning k)
      (Number ∷ (constructors ++ (map Waits (delays p) ++ parts p.funs 0))) (refl, rest))

  pub lacks_none : (f missing : ℕ) → missing ≡ 0 → length (kinds p) ≡ (tag p (Lacks f missing)).0
  lacks_none f missing z = rw z
      (lacks_absent f 0 (absent_parts f 0 p.funs 0 (λ i n e at. part_of_none f n)))

  pub lacks_many : (f missing : ℕ) → params p f < missing
      → length (kinds p) ≡ (tag p (Lacks f missing)).0
  lacks_many f missing lt = lacks_absent f missing
      (absent_parts f missing p.funs 0 (λ i n e at. part_of_absent f n missing (more i n e at)))
    where
      more : (i n : ℕ) → f ≡ 0 + i → slice_get (parameter_counts p.funs) i ≡ Some n → n < missing
      more i n e at =
          let g = params_at p.funs i n at in
          let j : i ≡ f = omega (arith, e) in
          let many : params p f ≡ n = subst (λ k. params p k ≡ n) j (ap (params_of p) g.1 ∙ g.2) in
          omega (arith, many, lt)
