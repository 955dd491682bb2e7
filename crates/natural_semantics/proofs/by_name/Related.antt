-- Names of a heap, and what they mean by name.
use Rattle.std.proofs.Common.{◌≡◌, ◌≢◌, ℕ, zero, suc, ◌<◌, ◌≤◌, Bool, true, false, List, [], ◌∷◌, ◌++◌, length, Option, Some, None, refl, ap, sym, ◌∙◌, subst, arith, eqb-true, slice_get}
use Rattle.std.specs.Prelude.{◌==◌, ℤ, slice_set}
use Rattle.std.proofs.lemmas.Bool.{eq-eqb}
use Rattle.std.proofs.lemmas.List.{length-set}
use Rattle.arity_check.specs.declared.normal.Bound.{Bound}
use Rattle.arity_check.specs.declared.normal.Flat.{Flat}
use Rattle.arity_check.specs.declared.normal.PrimOp.{PrimOp}
use Rattle.arity_check.specs.Program.{Program}
use Rattle.core_meaning.specs.Heap.{Value, Int, Con, Part, Delayed, Call, Apply, Prim, Global, Input, Binding, Known, Waiting}
use Rattle.core_meaning.specs.Evaluation.{global, parameters}
use Rattle.core_meaning.specs.WellFormed.{HasFields, HasParams}
use Rattle.natural_semantics.specs.World.{World, updated}
use Rattle.natural_semantics.specs.ByName.{Meant, Number, Built, Lacks, CallOf, ApplyOf, PrimOf, GlobalOf, Rest, Member, Meants, Few, And, Sense, count, and_last, nth, form, in_group, Means, ANumber, AConstructor, AFunction}

-- ---- lists

pub get_set : {A : Type 0} (xs : List A) (a : ℕ) (x : A) → a < length xs
    → slice_get (slice_set xs a x) a ≡ Some x
get_set [] a x lt = absurd (omega (arith, lt))
get_set (y ∷ xs) zero x lt = refl
get_set (y ∷ xs) (suc a) x lt = get_set xs a x (omega (arith, lt))

pub get_other : {A : Type 0} (xs : List A) (a b : ℕ) (x : A) → b ≢ a
    → slice_get (slice_set xs a x) b ≡ slice_get xs b
get_other [] a b x n = refl
get_other (y ∷ xs) zero zero x n = absurd (n refl)
get_other (y ∷ xs) zero (suc b) x n = refl
get_other (y ∷ xs) (suc a) zero x n = refl
get_other (y ∷ xs) (suc a) (suc b) x n = get_other xs a b x (λ e. n (ap (λ k. suc k) e))

-- ---- what stands for what

abbrev pub Rel : Type 1
Rel = ℕ → Meant → Type 0

pub data Each (R : Rel) : List ℕ → Meants → Type 0 where
  NoneLeft : Each R [] Few
  Both : {a : ℕ} {m : Meant} {xs : List ℕ} {ms : Meants} → R a m → Each R xs ms
      → Each R (a ∷ xs) (And m ms)

pub each_more : (R R' : Rel) → ((a : ℕ) (m : Meant) → R a m → R' a m) → (xs : List ℕ) (ms : Meants)
    → Each R xs ms → Each R' xs ms
each_more R R' h xs ms NoneLeft = NoneLeft
each_more R R' h xs ms (Both {xs = ys} {ms = ns} r e) = Both (h _ _ r) (each_more R R' h ys ns e)

pub each_count : (R : Rel) (xs : List ℕ) (ms : Meants) → Each R xs ms → count ms ≡ length xs
each_count R xs ms NoneLeft = refl
each_count R xs ms (Both {xs = ys} {ms = ns} r e) = ap (λ k. suc k) (each_count R ys ns e)

pub each_last : (R : Rel) (xs : List ℕ) (ms : Meants) (a : ℕ) (m : Meant) → Each R xs ms → R a m
    → Each R (xs ++ a ∷ []) (and_last ms m)
each_last R xs ms a m NoneLeft r = Both r NoneLeft
each_last R xs ms a m (Both {xs = ys} {ms = ns} q e) r = Both q (each_last R ys ns a m e r)

pub each_nth : (R : Rel) (xs : List ℕ) (ms : Meants) → Each R xs ms → (x : ℕ) → x < length xs
    → R (parameters xs x) (nth ms x)
each_nth R xs ms NoneLeft x lt = absurd (omega (arith, lt))
each_nth R xs ms (Both r e) zero lt = r
each_nth R xs ms (Both {xs = ys} {ms = ns} r e) (suc x) lt =
    each_nth R ys ns e x (omega (arith, lt))

-- a value, and one by name
pub data Same (p : Program) (R : Rel) : Value → Meant → Type 0 where
  SameNumber : {k : ℤ} → Same p R (Int k) (Number k)
  SameCon : {c : ℕ} {xs : List ℕ} {ms : Meants} → HasFields p c (length xs) → Each R xs ms
      → Same p R (Con c xs) (Built c ms)
  SamePart : {f : ℕ} {xs : List ℕ} {ms : Meants} → HasParams p f (λ n. length xs < n)
      → Each R xs ms → Same p R (Part f xs) (Lacks f ms)

-- what waits, and what is put off; so many bytes of the input are left
pub data Delays (p : Program) (R : Rel) (i : List ℕ) : Delayed → Meant → Type 0 where
  DelaysCall : {f : ℕ} {xs : List ℕ} {ms : Meants} → HasParams p f (λ n. n ≡ length xs)
      → Each R xs ms → Delays p R i (Call f xs) (CallOf f ms)
  DelaysApply : {a : ℕ} {m : Meant} {bs : List ℕ} {ms : Meants} → R a m → Each R bs ms
      → Delays p R i (Apply a bs) (ApplyOf m ms)
  DelaysPrim : {op : PrimOp} {a b : ℕ} {m n : Meant} → R a m → R b n
      → Delays p R i (Prim op a b) (PrimOf op m n)
  DelaysGlobal : {f : ℕ} → HasParams p f (λ n. n ≡ 0) → Delays p R i (Global f) (GlobalOf f)
  DelaysInput : Delays p R i Input (Rest i)
  DelaysMember : {t : Delayed} {s : Sense} {group : List Bound} {f : Flat}
      → Delays p R i t (form (in_group s group) f) → Delays p R i t (Member s group f)

pub same_more : (p : Program) (R R' : Rel) → ((a : ℕ) (m : Meant) → R a m → R' a m) → (v : Value)
    (u : Meant) → Same p R v u → Same p R' v u
same_more p R R' h v u SameNumber = SameNumber
same_more p R R' h v u (SameCon f e) = SameCon f (each_more R R' h _ _ e)
same_more p R R' h v u (SamePart f e) = SamePart f (each_more R R' h _ _ e)

pub delays_more : (p : Program) (R R' : Rel) → ((a : ℕ) (m : Meant) → R a m → R' a m) → (i : List ℕ)
    (t : Delayed) (m : Meant) → Delays p R i t m → Delays p R' i t m
delays_more p R R' h i t m (DelaysCall f e) = DelaysCall f (each_more R R' h _ _ e)
delays_more p R R' h i t m (DelaysApply r e) = DelaysApply (h _ _ r) (each_more R R' h _ _ e)
delays_more p R R' h i t m (DelaysPrim r r') = DelaysPrim (h _ _ r) (h _ _ r')
delays_more p R R' h i t m (DelaysGlobal f) = DelaysGlobal f
delays_more p R R' h i t m DelaysInput = DelaysInput
delays_more p R R' h i t m (DelaysMember {s = s} {group = group} {f = f} d) =
    DelaysMember (delays_more p R R' h i t (form (in_group s group) f) d)

-- a value means itself
pub value_means : (p : Program) (R : Rel) (v : Value) (u : Meant) → Same p R v u → Means p u u
value_means p R v u SameNumber = ANumber
value_means p R v u (SameCon f e) = AConstructor
value_means p R v u (SamePart f e) = AFunction

-- a world whose names are those of a relation
pub record Fits (p : Program) (R : Rel) (w : World) : Type 0 where
  pub there : (a : ℕ) (m : Meant) → R a m → a < length w.heap
  pub known : (a : ℕ) (m : Meant) (v : Value) → R a m → slice_get w.heap a ≡ Some (Known v)
      → (u : Meant) × (Means p m u × Same p R v u)
  pub waits : (a : ℕ) (m : Meant) (t : Delayed) → R a m → slice_get w.heap a ≡ Some (Waiting t)
      → Delays p R w.input t m
  pub shared : (f : ℕ) → HasParams p f (λ n. n ≡ 0) → R (global p f) (GlobalOf f)
  pub one_input : (a b : ℕ) → slice_get w.heap a ≡ Some (Waiting Input)
      → slice_get w.heap b ≡ Some (Waiting Input) → a ≡ b

-- the relation grows with the world, by names that the world hadn't
pub record Grows (p : Program) (R : Rel) (w : World) (R' : Rel) (w' : World) : Type 0 where
  pub more : (a : ℕ) (m : Meant) → R a m → R' a m
  pub old : (a : ℕ) (m : Meant) → a < length w.heap → R' a m → R a m
  pub longer : length w.heap ≤ length w'.heap
  pub fits : Fits p R' w'

pub grows_not : (p : Program) (R : Rel) (w : World) → Fits p R w → Grows p R w R w
grows_not p R w f = record {
  more = λ a m r. r;
  old = λ a m lt r. r;
  longer = omega arith;
  fits = f;
}

pub grows_then : (p : Program) (R R' R'' : Rel) (w w' w'' : World) → Grows p R w R' w'
    → Grows p R' w' R'' w'' → Grows p R w R'' w''
grows_then p R R' R'' w w' w'' g h = record {
  more = λ a m r. h.more a m (g.more a m r);
  old = λ a m lt r. g.old a m lt (h.old a m (omega (arith, lt, g.longer)) r);
  longer = omega (arith, g.longer, h.longer);
  fits = h.fits;
}

-- ---- a name becomes a value

pub updated_fits : (p : Program) (R : Rel) (w : World) (a : ℕ) (v : Value) → a < length w.heap
    → Fits p R w
    → ((m : Meant) → R a m → (u : Meant) × (Means p m u × Same p R v u))
    → Fits p R (updated w a v)
updated_fits p R w a v lt fits h = record {
  there = λ b m r. let e = length-set w.heap a (Known v) in omega (arith, e, fits.there b m r);
  known = λ b m x r e. known_at b m x r e (b == a) refl;
  waits = λ b m t r e. fits.waits b m t r (still b t e);
  shared = fits.shared;
  one_input = λ b c e f. fits.one_input b c (still b Input e) (still c Input f);
}
  where
    value_in : Value → Option Binding → Value
    value_in x (Some (Known y)) = y
    value_in x (Some (Waiting t)) = x
    value_in x None = x

    known_at : (b : ℕ) (m : Meant) (x : Value) → R b m
        → slice_get (slice_set w.heap a (Known v)) b ≡ Some (Known x) → (l : Bool) → (b == a) ≡ l
        → (u : Meant) × (Means p m u × Same p R x u)
    known_at b m x r e true q =
        let same : b ≡ a = eqb-true b a q in
        let is : Some (Known v) ≡ Some (Known x)
        = sym (get_set w.heap a (Known v) lt) ∙ ap (λ k. slice_get (slice_set w.heap a (Known v)) k)
        (sym same) ∙ e in
        subst (λ y. (u : Meant) × (Means p m u × Same p R y u)) (ap (value_in v) is)
        (h m (subst (λ k. R k m) same r))
    known_at b m x r e false q =
        fits.known b m x r
        (sym (get_other w.heap a b (Known v) (λ s. let z : true ≡ false = sym (eq-eqb b a s) ∙ q in
        cc)) ∙ e)

    still : (b : ℕ) (t : Delayed)
        → slice_get (slice_set w.heap a (Known v)) b ≡ Some (Waiting t)
        → slice_get w.heap b ≡ Some (Waiting t)
    still b t e = go (b == a) refl
      where
        go : (l : Bool) → (b == a) ≡ l → slice_get w.heap b ≡ Some (Waiting t)
        go true q =
            let same : b ≡ a = eqb-true b a q in
            let is : Some (Known v) ≡ Some (Waiting t)
            = sym (get_set w.heap a (Known v) lt)
            ∙ ap (λ k. slice_get (slice_set w.heap a (Known v)) k) (sym same) ∙ e in cc
        go false q =
            sym (get_other w.heap a b (Known v)
            (λ s. let z : true ≡ false = sym (eq-eqb b a s) ∙ q in cc)) ∙ e
