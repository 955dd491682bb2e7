-- What evaluation by need derives evaluation by name does.
use Rattle.std.proofs.Common.{◌≡◌, ◌≢◌, ℕ, zero, suc, ◌+◌, ◌<◌, Bool, true, false, List, [], ◌∷◌, ◌++◌, map, length, Some, refl, ap, sym, ◌∙◌, subst, arith, inl, inr, slice_get, length-append}
use Rattle.std.specs.Prelude.{◌⊎◌, ◌==◌, if◌then◌else◌}
use Rattle.std.proofs.lemmas.Bool.{eq-eqb}
use Rattle.std.proofs.lemmas.List.{length-map}
use Rattle.std.proofs.lemmas.Option.{slice_get_within, same_Some}
use Rattle.seq.proofs.Lists.{all_get}
use Rattle.arity_check.specs.declared.normal.Bound.{Bound}
use Rattle.arity_check.specs.declared.normal.Flat.{Flat}
use Rattle.arity_check.specs.declared.normal.Flat.TheVariants as flat
use Rattle.arity_check.specs.declared.normal.Var.{Var}
use Rattle.arity_check.specs.declared.normal.Var.TheVariants as var
use Rattle.arity_check.specs.Program.{Program}
use Rattle.core_meaning.specs.Heap.{Value, Delayed, Prim, Input, Binding, Known, Waiting, Heap, Env, with_local}
use Rattle.core_meaning.specs.Evaluation.{global, name, names, binding, with_group}
use Rattle.core_meaning.specs.WellFormed.{AllOf, InGroup, HasFields, HasParams, VarOk, FormOk}
use Rattle.natural_semantics.specs.World.{World, extended}
use Rattle.natural_semantics.specs.ByName.{Meant, Number, Built, Lacks, CallOf, ApplyOf, PrimOf, GlobalOf, Rest, Member, OutOfScope, Sense, with_meant, meant, meants, form, with_members, in_group, Means, ANumber, AConstructor, AFunction, OfMember}
use Rattle.natural_semantics.proofs.by_name.Related.{Rel, Each, NoneLeft, Both, Same, SameNumber, SameCon, SamePart, Delays, DelaysCall, DelaysApply, DelaysPrim, DelaysGlobal, DelaysInput, DelaysMember, same_more, delays_more, Fits, Grows}

-- ---- lists

pub get_append : {A : Type 0} (xs ys : List A) (a : ℕ) (x : A) → slice_get (xs ++ ys) a ≡ Some x
    → (slice_get xs a ≡ Some x) ⊎ ((k : ℕ) × ((a ≡ length xs + k) × (slice_get ys k ≡ Some x)))
get_append [] ys a x e = inr (a, (omega arith, e))
get_append (y ∷ xs) ys zero x e = inl e
get_append (y ∷ xs) ys (suc a) x e = go (get_append xs ys a x e)
  where
    go : (slice_get xs a ≡ Some x) ⊎ ((k : ℕ) × ((a ≡ length xs + k) × (slice_get ys k ≡ Some x)))
        → (slice_get xs a ≡ Some x)
        ⊎ ((k : ℕ) × ((suc a ≡ suc (length xs) + k) × (slice_get ys k ≡ Some x)))
    go (inl h) = inl h
    go (inr h) = let q = h.1.0 in inr (h.0, (omega (arith, q), h.1.1))

get_map : {A B : Type 0} (f : A → B) (xs : List A) (k : ℕ) (b : B) → slice_get (map f xs) k ≡ Some b
    → (x : A) × ((slice_get xs k ≡ Some x) × (f x ≡ b))
get_map f [] k b e = absurd cc
get_map f (x ∷ xs) zero b e = (x, (refl, same_Some (f x) b e))
get_map f (x ∷ xs) (suc k) b e = get_map f xs k b e

abbrev pub value_in : Value → Binding → Value
value_in x (Known y) = y
value_in x (Waiting t) = x

abbrev pub delayed_in : Delayed → Binding → Delayed
delayed_in x (Known y) = x
delayed_in x (Waiting t) = t

module _ (p : Program) where
  -- ---- forms

  names_each : (R : Rel) (S : ℕ → Type 0) (env : Env) (s : Sense)
      → ((x : ℕ) → S x → R (env x) (s x))
      → ((f : ℕ) → HasParams p f (λ n. n ≡ 0) → R (global p f) (GlobalOf f)) → (xs : List Var)
      → AllOf (VarOk p S) xs → Each R (names p env xs) (meants s xs)
  names_each R S env s e g [] h = NoneLeft
  names_each R S env s e g (var.Local x ∷ xs) h =
      Both (e x h.0) (names_each R S env s e g xs h.1)
  names_each R S env s e g (var.Global f ∷ xs) h =
      Both (g f h.0) (names_each R S env s e g xs h.1)

  pub name_is : (R : Rel) (S : ℕ → Type 0) (env : Env) (s : Sense)
      → ((x : ℕ) → S x → R (env x) (s x))
      → ((f : ℕ) → HasParams p f (λ n. n ≡ 0) → R (global p f) (GlobalOf f)) → (x : Var)
      → VarOk p S x → R (name p env x) (meant s x)
  name_is R S env s e g (var.Local x) h = e x h
  name_is R S env s e g (var.Global f) h = g f h

  pub form_known : (R : Rel) (S : ℕ → Type 0) (env : Env) (s : Sense)
      → ((x : ℕ) → S x → R (env x) (s x))
      → ((f : ℕ) → HasParams p f (λ n. n ≡ 0) → R (global p f) (GlobalOf f)) → (f : Flat)
      → FormOk p S f → (v : Value) → binding p env f ≡ Known v
      → (u : Meant) × (Means p (form s f) u × Same p R v u)
  form_known R S env s e g (flat.Int k) h v q =
      subst (λ y. (u : Meant) × (Means p (Number k) u × Same p R y u)) (ap (value_in v) q)
      (Number k, (ANumber, SameNumber))
  form_known R S env s e g (flat.Con c xs) h v q =
      subst (λ y. (u : Meant) × (Means p (Built c (meants s xs)) u × Same p R y u))
      (ap (value_in v) q) (
        Built c (meants s xs),
        (
          AConstructor,
          SameCon
              (subst (λ n. HasFields p c n) (sym (length-map xs (name p env))) h.0)
              (names_each R S env s e g xs h.1),
        ),
      )
  form_known R S env s e g (flat.Part f xs) h v q =
      subst (λ y. (u : Meant) × (Means p (Lacks f (meants s xs)) u × Same p R y u))
      (ap (value_in v) q) (
        Lacks f (meants s xs),
        (
          AFunction,
          SamePart
              (subst (λ n. HasParams p f (λ m. n < m)) (sym (length-map xs (name p env))) h.0)
              (names_each R S env s e g xs h.1),
        ),
      )
  form_known R S env s e g (flat.Call f xs) h v q = absurd cc
  form_known R S env s e g (flat.Apply x xs) h v q = absurd cc
  form_known R S env s e g (flat.Prim op x y) h v q = absurd cc

  pub form_waits : (R : Rel) (S : ℕ → Type 0) (env : Env) (s : Sense)
      → ((x : ℕ) → S x → R (env x) (s x))
      → ((f : ℕ) → HasParams p f (λ n. n ≡ 0) → R (global p f) (GlobalOf f)) → (i : List ℕ)
      (f : Flat) → FormOk p S f → (t : Delayed) → binding p env f ≡ Waiting t
      → Delays p R i t (form s f)
  form_waits R S env s e g i (flat.Int k) h t q = absurd cc
  form_waits R S env s e g i (flat.Con c xs) h t q = absurd cc
  form_waits R S env s e g i (flat.Part f xs) h t q = absurd cc
  form_waits R S env s e g i (flat.Call f xs) h t q =
      subst (λ y. Delays p R i y (CallOf f (meants s xs))) (ap (delayed_in t) q)
      (DelaysCall (subst (λ n. HasParams p f (λ m. m ≡ n)) (sym (length-map xs (name p env))) h.0)
      (names_each R S env s e g xs h.1))
  form_waits R S env s e g i (flat.Apply x xs) h t q =
      subst (λ y. Delays p R i y (ApplyOf (meant s x) (meants s xs))) (ap (delayed_in t) q)
      (DelaysApply (name_is R S env s e g x h.1) (names_each R S env s e g xs h.2))
  form_waits R S env s e g i (flat.Prim op x y) h t q =
      subst (λ z. Delays p R i z (PrimOf op (meant s x) (meant s y))) (ap (delayed_in t) q)
      (DelaysPrim (name_is R S env s e g x h.0) (name_is R S env s e g y h.1))

  pub no_input : (env : Env) (f : Flat) (t : Delayed) → binding p env f ≡ Waiting t → t ≢ Input
  no_input env (flat.Int k) t q r = cc
  no_input env (flat.Con c xs) t q r = cc
  no_input env (flat.Part f xs) t q r = cc
  no_input env (flat.Call f xs) t q r = cc
  no_input env (flat.Apply x xs) t q r = cc
  no_input env (flat.Prim op x y) t q r = cc

  -- ---- the rest of the input

  abbrev InputIs : List ℕ → Meant → Type 0
  InputIs i (Rest j) = j ≡ i
  InputIs i (Number k) = ⊥
  InputIs i (Built c ms) = ⊥
  InputIs i (Lacks f ms) = ⊥
  InputIs i (CallOf f ms) = ⊥
  InputIs i (ApplyOf m ms) = ⊥
  InputIs i (PrimOf op m n) = ⊥
  InputIs i (GlobalOf f) = ⊥
  InputIs i (Member s g f) = ⊥
  InputIs i OutOfScope = ⊥

  form_is_no_input : (s : Sense) (f : Flat) (i : List ℕ) → InputIs i (form s f) → ⊥
  form_is_no_input s (flat.Int k) i h = h
  form_is_no_input s (flat.Con c xs) i h = h
  form_is_no_input s (flat.Part f xs) i h = h
  form_is_no_input s (flat.Call f xs) i h = h
  form_is_no_input s (flat.Apply x xs) i h = h
  form_is_no_input s (flat.Prim op x y) i h = h

  pub input_is : (R : Rel) (i : List ℕ) (t : Delayed) (m : Meant) → Delays p R i t m → t ≡ Input
      → InputIs i m
  input_is R i t m (DelaysCall f e) q = absurd cc
  input_is R i t m (DelaysApply r e) q = absurd cc
  input_is R i t m (DelaysPrim r r') q = absurd cc
  input_is R i t m (DelaysGlobal f) q = absurd cc
  input_is R i t m DelaysInput q = refl
  input_is R i t m (DelaysMember {s = s} {group = group} {f = f} d) q =
      form_is_no_input (in_group s group) f i (input_is R i t (form (in_group s group) f) d q)

  pub input_rest : (i : List ℕ) (m : Meant) → InputIs i m → Rest i ≡ m
  input_rest i (Rest j) h = ap (λ x. Rest x) (sym h)
  input_rest i (Number k) h = absurd h
  input_rest i (Built c ms) h = absurd h
  input_rest i (Lacks f ms) h = absurd h
  input_rest i (CallOf f ms) h = absurd h
  input_rest i (ApplyOf m ms) h = absurd h
  input_rest i (PrimOf op m n) h = absurd h
  input_rest i (GlobalOf f) h = absurd h
  input_rest i (Member s g f) h = absurd h
  input_rest i OutOfScope h = absurd h

  pub delays_of_others : (R : Rel) (i j : List ℕ) (t : Delayed) (m : Meant) → t ≢ Input
      → Delays p R i t m → Delays p R j t m
  delays_of_others R i j t m n (DelaysCall f e) = DelaysCall f e
  delays_of_others R i j t m n (DelaysApply r e) = DelaysApply r e
  delays_of_others R i j t m n (DelaysPrim r r') = DelaysPrim r r'
  delays_of_others R i j t m n (DelaysGlobal f) = DelaysGlobal f
  delays_of_others R i j t m n DelaysInput = absurd (n refl)
  delays_of_others R i j t m n (DelaysMember {s = s} {group = group} {f = f} d) =
      DelaysMember (delays_of_others R i j t (form (in_group s group) f) n d)

  -- ---- groups

  with_group_means : (R : Rel) (around : Sense) (whole group : List Bound) (k : ℕ) (env : Env)
      (s : Sense) (S : ℕ → Type 0) → ((x : ℕ) → S x → R (env x) (s x))
      → ((j : ℕ) (b : Bound) → slice_get group j ≡ Some b → R (k + j) (Member around whole b.flat))
      → (x : ℕ) → S x ⊎ InGroup group x
      → R (with_group p env group k x) (with_members around whole s group x)
  with_group_means R around whole [] k env s S e m x (inl h) = e x h
  with_group_means R around whole [] k env s S e m x (inr h) = absurd h
  with_group_means R around whole (b ∷ group) k env s S e m x h =
      with_group_means R around whole group (suc k) (with_local env b.local k)
      (with_meant s b.local (Member around whole b.flat)) (λ y. S y ⊎ (y ≡ b.local))
      (λ y i. one y i (y == b.local) refl)
      (λ j c q. later j c (m (suc j) c q))
      x (moved h)
    where
      later : (j : ℕ) (c : Bound) → R (k + suc j) (Member around whole c.flat)
          → R (suc k + j) (Member around whole c.flat)
      later j c r = let e : k + suc j ≡ suc k + j = omega arith in
          subst (λ n. R n (Member around whole c.flat)) e r

      first : R (k + 0) (Member around whole b.flat) → R k (Member around whole b.flat)
      first r = let e : k + 0 ≡ k = omega arith in
          subst (λ n. R n (Member around whole b.flat)) e r

      one : (y : ℕ) → S y ⊎ (y ≡ b.local) → (l : Bool) → (y == b.local) ≡ l
          → R (if y == b.local then k else env y)
          (if y == b.local then Member around whole b.flat else s y)
      one y i true q =
          subst (λ l. R (if l then k else env y) (if l then Member around whole b.flat else s y))
          (sym q) (first (m 0 b refl))
      one y (inl i) false q =
          subst (λ l. R (if l then k else env y) (if l then Member around whole b.flat else s y))
          (sym q) (e y i)
      one y (inr i) false q = absurd
          (let z : true ≡ false = sym (eq-eqb y b.local i) ∙ q in cc)

      moved : S x ⊎ ((x ≡ b.local) ⊎ InGroup group x)
          → (S x ⊎ (x ≡ b.local)) ⊎ InGroup group x
      moved (inl h) = inl (inl h)
      moved (inr (inl h)) = inl (inr h)
      moved (inr (inr h)) = inr h

  abbrev pub InScope : (ℕ → Type 0) → List Bound → ℕ → Type 0
  InScope S group x = S x ⊎ InGroup group x

  abbrev pub Knows : Rel → (ℕ → Type 0) → Env → Sense → Type 0
  Knows R S env s = (x : ℕ) → S x → R (env x) (s x)

  -- the names of a group's members are new
  abbrev pub with_names : Rel → ℕ → (ℕ → Type 0) → Env → List Bound → Rel
  with_names R k S env group a m =
      R a m ⊎ ((s : Sense) × (Knows R S env s × ((j : ℕ) × ((b : Bound)
      × ((slice_get group j ≡ Some b) × ((a ≡ k + j) × (Member s group b.flat ≡ m)))))))

  group_knows : (R : Rel) (k : ℕ) (S : ℕ → Type 0) (env : Env) (group : List Bound) (s : Sense)
      → Knows R S env s
      → Knows (with_names R k S env group) (InScope S group) (with_group p env group k)
      (in_group s group)
  group_knows R k S env group s e =
      with_group_means (with_names R k S env group) s group group k env s S
      (λ x h. inl (e x h))
      (λ j b q. inr (s, (e, (j, (b, (q, (refl, refl)))))))

  module _ (w : World) (S : ℕ → Type 0) (env : Env) (group : List Bound) (R : Rel)
      (fits : Fits p R w)
      (ok : AllOf (λ b. FormOk p (InScope S group) b.flat) group) (inner : Env)
      (is : inner ≡ with_group p env group (length w.heap)) where
    abbrev pub grown : Rel
    grown = with_names R (length w.heap) S env group

    abbrev bindings : Heap
    bindings = map (λ b. binding p inner b.flat) group

    pub inner_knows : (s : Sense) → Knows R S env s
        → Knows grown (InScope S group) inner (in_group s group)
    inner_knows s e = subst (λ (y : Env). Knows grown (InScope S group) y (in_group s group))
        (sym is)
        (group_knows R (length w.heap) S env group s e)

    old_is_old : (a : ℕ) (m : Meant) → a < length w.heap → grown a m → R a m
    old_is_old a m lt (inl r) = r
    old_is_old a m lt (inr h) = let q = h.1.1.1.1.1.0 in absurd (omega (arith, lt, q))

    old_there : (a : ℕ) (m : Meant) → grown a m → a < length (w.heap ++ bindings)
    old_there a m (inl r) =
        let e = length-append w.heap bindings in omega (arith, e, fits.there a m r)
    old_there a m (inr h) =
        let e = length-append w.heap bindings in
        let f = length-map group (λ b. binding p inner b.flat) in
        let q = h.1.1.1.1.1.0 in
        let lt = slice_get_within group h.1.1.0 h.1.1.1.0 h.1.1.1.1.0 in
        omega (arith, e, f, q, lt)

    known_in : (a : ℕ) (m : Meant) (v : Value) → grown a m
        → (slice_get w.heap a ≡ Some (Known v)) ⊎ ((k : ℕ) × ((a ≡ length w.heap + k)
        × (slice_get bindings k ≡ Some (Known v))))
        → (u : Meant) × (Means p m u × Same p grown v u)
    known_in a m v (inl r) (inl e) =
        let f = fits.known a m v r e in
        (f.0, (f.1.0, same_more p R grown (λ b n q. inl q) v f.0 f.1.1))
    known_in a m v (inl r) (inr e) =
        let lt = fits.there a m r in let q = e.1.0 in absurd (omega (arith, lt, q))
    known_in a m v (inr h) (inl e) =
        let lt = slice_get_within w.heap a (Known v) e in
        let q = h.1.1.1.1.1.0 in absurd (omega (arith, lt, q))
    known_in a m v (inr h) (inr e) =
        let q = h.1.1.1.1.1.0 in
        let q' = e.1.0 in
        let same : e.0 ≡ h.1.1.0 = omega (arith, q, q') in
        let g = get_map (λ (b : Bound). binding p inner b.flat) group e.0 (Known v) e.1.1 in
        let bound : g.0 ≡ h.1.1.1.0 = same_Some g.0 h.1.1.1.0
        (sym g.1.0 ∙ ap (λ k. slice_get group k) same ∙ h.1.1.1.1.0) in
        let f = form_known grown (InScope S group) inner (in_group h.0 group)
        (inner_knows h.0 h.1.0) (λ f c. inl (fits.shared f c)) g.0.flat
        (all_get (λ (b : Bound). FormOk p (InScope S group) b.flat) group e.0 g.0 ok g.1.0) v g.1.1
        in
        subst (λ n. (u : Meant) × (Means p n u × Same p grown v u))
        (ap (λ (b : Bound). Member h.0 group b.flat) bound ∙ h.1.1.1.1.1.1)
        (f.0, (OfMember f.1.0, f.1.1))

    waits_in : (a : ℕ) (m : Meant) (t : Delayed) → grown a m
        → (slice_get w.heap a ≡ Some (Waiting t)) ⊎ ((k : ℕ) × ((a ≡ length w.heap + k)
        × (slice_get bindings k ≡ Some (Waiting t))))
        → Delays p grown w.input t m
    waits_in a m t (inl r) (inl e) =
        delays_more p R grown (λ b n q. inl q) w.input t m (fits.waits a m t r e)
    waits_in a m t (inl r) (inr e) =
        let lt = fits.there a m r in let q = e.1.0 in absurd (omega (arith, lt, q))
    waits_in a m t (inr h) (inl e) =
        let lt = slice_get_within w.heap a (Waiting t) e in
        let q = h.1.1.1.1.1.0 in absurd (omega (arith, lt, q))
    waits_in a m t (inr h) (inr e) =
        let q = h.1.1.1.1.1.0 in
        let q' = e.1.0 in
        let same : e.0 ≡ h.1.1.0 = omega (arith, q, q') in
        let g = get_map (λ (b : Bound). binding p inner b.flat) group e.0 (Waiting t) e.1.1 in
        let bound : g.0 ≡ h.1.1.1.0 = same_Some g.0 h.1.1.1.0
        (sym g.1.0 ∙ ap (λ k. slice_get group k) same ∙ h.1.1.1.1.0) in
        subst (λ n. Delays p grown w.input t n)
        (ap (λ (b : Bound). Member h.0 group b.flat) bound ∙ h.1.1.1.1.1.1)
        (DelaysMember (form_waits grown (InScope S group) inner (in_group h.0 group)
        (inner_knows h.0 h.1.0) (λ f c. inl (fits.shared f c)) w.input g.0.flat
        (all_get (λ (b : Bound). FormOk p (InScope S group) b.flat) group e.0 g.0 ok g.1.0) t
        g.1.1))

    input_in : (a : ℕ)
        → (slice_get w.heap a ≡ Some (Waiting Input)) ⊎ ((k : ℕ) × ((a ≡ length w.heap + k)
        × (slice_get bindings k ≡ Some (Waiting Input))))
        → slice_get w.heap a ≡ Some (Waiting Input)
    input_in a (inl e) = e
    input_in a (inr e) =
        let g = get_map (λ (b : Bound). binding p inner b.flat) group e.0 (Waiting Input) e.1.1 in
        absurd (no_input inner g.0.flat Input g.1.1 refl)

    pub group_grows : Grows p R w grown (extended w bindings)
    group_grows = record {
      more = λ a m r. inl r;
      old = old_is_old;
      longer = let e = length-append w.heap bindings in omega (arith, e);
      fits = record {
        there = old_there;
        known = λ a m v r e. known_in a m v r (get_append w.heap bindings a (Known v) e);
        waits = λ a m t r e. waits_in a m t r (get_append w.heap bindings a (Waiting t) e);
        shared = λ f c. inl (fits.shared f c);
        one_input = λ a b e f. fits.one_input a b
            (input_in a (get_append w.heap bindings a (Waiting Input) e))
            (input_in b (get_append w.heap bindings b (Waiting Input) f));
      };
    }
