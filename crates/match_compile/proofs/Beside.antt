-- Two languages with the same functions, heaps and values, of which one may spend more units than
-- the other: what each form of evaluation does in both.
--
-- The equations of a function may become several functions, one after the other, so the program
-- may spend more units than the equations. `Beside` compares two such languages with a number of
-- units to spare. `Served` shows that the functions that serve an equation do what trying the
-- equations from the top does, and `Meant` that the program's functions serve the equations.
use Rattle.std.proofs.Common.{◌≡◌, ℕ, zero, suc, ◌+◌, ◌*◌, ◌≤◌, ◌<◌, Bool, true, false, max, List, [], ◌∷◌, ◌++◌, length, Option, Some, None, refl, sym, subst, arith, length-append}
use Rattle.std.specs.Prelude.{ℤ, pos, nat_lt, if◌then◌else◌, slice_get}
use Rattle.seq.specs.Lists.{AllOf}
use Rattle.seq.proofs.Lists.{all_append, all_set}
use Rattle.seq.proofs.Order.{lt_from, le_from}
use Rattle.core_meaning.specs.Heap.{Value, Int, Con, Part, Delayed, Call, Apply, Prim, Global, Input, Binding, Known, Waiting, Heap}
use Rattle.core_meaning.specs.Forcing as forcing
use Rattle.core_meaning.specs.Evaluation.{State, Answer, Gives, NoAlternative, OutOfBound, DelayedEvaluator, and_then, with_number, spend_of, append, update, taken}
use Rattle.core_meaning.specs.Numbers.{primitive_result}

-- The second language has so many units more for each one of the first, or at most as many as the
-- first, or the same.
pub data Pace : Type 0 where
  Ahead : (extra : ℕ) → Pace
  Behind : Pace
  Together : Pace

-- the second has u' units where the first has u, so many of them to spare
abbrev pub Fits : Pace → (spare u u' : ℕ) → Type 0
Fits (Ahead extra) spare u u' = suc extra * u + spare ≤ u'
Fits Behind spare u u' = u' ≤ u
Fits Together spare u u' = u' ≡ u

-- what an entry of the first has to spare in the second
abbrev pub extra : Pace → ℕ
extra (Ahead k) = k
extra Behind = 0
extra Together = 0

abbrev pub IsAhead : Pace → Type 0
IsAhead (Ahead k) = Unit {0}
IsAhead Behind = ⊥
IsAhead Together = ⊥

abbrev pub IsBehind : Pace → Type 0
IsBehind (Ahead k) = ⊥
IsBehind Behind = Unit {0}
IsBehind Together = ⊥

-- the state with other units and another depth
abbrev pub units : State → ℕ → ℕ → State
units s u e = record { heap = s.heap; left = u; depth = e; input = s.input; used = s.used }

pub fits_less : (pace : Pace) (spare spare' u u' : ℕ) → spare' ≤ spare → Fits pace spare u u'
    → Fits pace spare' u u'
fits_less (Ahead k) spare spare' u u' le f = omega (arith, le, f)
fits_less Behind spare spare' u u' le f = f
fits_less Together spare spare' u u' le f = f

-- Functions have so many parameters, constructors so many fields, and these are the functions of
-- both.
module _ (arity arity' many : ℕ → ℕ) (IsFun : ℕ → Type 0)
    (counts : (f : ℕ) → IsFun f → arity' f ≡ arity f) where
  pub data ValueOk : Value → Type 0 where
    OkInt : {k : ℤ} → ValueOk (Int k)
    OkCon : {c : ℕ} {xs : List ℕ} → length xs ≡ many c → ValueOk (Con c xs)
    OkPart : {f : ℕ} {xs : List ℕ} → IsFun f → length xs < arity f → ValueOk (Part f xs)

  pub data DelayedOk : Delayed → Type 0 where
    OkCall : {f : ℕ} {xs : List ℕ} → IsFun f → length xs ≡ arity f → DelayedOk (Call f xs)
    OkApply : {a : ℕ} {xs : List ℕ} → DelayedOk (Apply a xs)
    OkPrim : {op : _} {a b : ℕ} → DelayedOk (Prim op a b)
    OkGlobal : {f : ℕ} → IsFun f → arity f ≡ 0 → DelayedOk (Global f)
    OkInput : DelayedOk Input

  pub data BindingOk : Binding → Type 0 where
    OkKnown : {v : Value} → ValueOk v → BindingOk (Known v)
    OkWaiting : {t : Delayed} → DelayedOk t → BindingOk (Waiting t)

  abbrev pub HeapOk : Heap → Type 0
  HeapOk = AllOf BindingOk

  -- the first stands so, with at most n units, and the second has u units, at most m
  pub record Beside (pace : Pace) (n m spare : ℕ) (s : State) (u : ℕ) : Type 0 where
    pub heap : HeapOk s.heap
    pub fits : Fits pace spare s.left u
    pub first : s.left ≤ n
    pub second : u ≤ m

  pub data Answers (pace : Pace) (n m spare : ℕ) : Answer → Answer → Type 0 where
    BothGive : {v : Value} {s : State} {u e : ℕ} → ValueOk v → Beside pace n m spare s u
        → Answers pace n m spare (Gives v s) (Gives v (units s u e))
    NeitherAccepts : {s t : State} → Answers pace n m spare (NoAlternative s) (NoAlternative t)
    BothEnd : {s t : State} → Answers pace n m spare (OutOfBound s) (OutOfBound t)
    FirstEnds : {s : State} {r : Answer} → IsAhead pace → Answers pace n m spare (OutOfBound s) r
    SecondEnds : {r : Answer} {t : State} → IsBehind pace → Answers pace n m spare r (OutOfBound t)

  pub besides : (pace : Pace) (n n' m m' spare spare' : ℕ) (s : State) (u : ℕ) → n ≤ n' → m ≤ m'
      → spare' ≤ spare → Beside pace n m spare s u → Beside pace n' m' spare' s u
  besides pace n n' m m' spare spare' s u a b c k = record {
    heap = k.heap;
    fits = fits_less pace spare spare' s.left u c k.fits;
    first = let f = k.first in omega (arith, a, f);
    second = let f = k.second in omega (arith, b, f);
  }

  pub wider : (pace : Pace) (n n' m m' spare spare' : ℕ) {r r' : Answer} → n ≤ n' → m ≤ m'
      → spare' ≤ spare → Answers pace n m spare r r' → Answers pace n' m' spare' r r'
  wider pace n n' m m' spare spare' a b c (BothGive {s = s} {u = u} v k)
      = BothGive v (besides pace n n' m m' spare spare' s u a b c k)
  wider pace n n' m m' spare spare' a b c NeitherAccepts = NeitherAccepts
  wider pace n n' m m' spare spare' a b c BothEnd = BothEnd
  wider pace n n' m m' spare spare' a b c (FirstEnds i) = FirstEnds i
  wider pace n n' m m' spare spare' a b c (SecondEnds i) = SecondEnds i

  pub appended : (pace : Pace) (n m spare : ℕ) (s : State) (u : ℕ) (more : Heap)
      → Beside pace n m spare s u → HeapOk more → Beside pace n m spare (append s more) u
  appended pace n m spare s u more k h = record {
    heap = all_append BindingOk s.heap more k.heap h;
    fits = k.fits;
    first = k.first;
    second
        = k.second;
  }

  updated : (pace : Pace) (n m spare : ℕ) (s : State) (u a : ℕ) (v : Value)
      → Beside pace n m spare s u → ValueOk v → Beside pace n m spare (update s a v) u
  updated pace n m spare s u a v k g = record {
    heap = all_set BindingOk s.heap a (Known v) k.heap (OkKnown g);
    fits = k.fits;
    first
        = k.first;
    second = k.second;
  }

  -- ---- one after the other

  -- what follows may need some that were to spare
  pub then_after : (pace : Pace) (n m spare spare' : ℕ) {r r' : Answer}
      (go go' : Value → State → Answer) → Answers pace n m spare r r'
      → ((v : Value) (s : State) (u e : ℕ) → r ≡ Gives v s → ValueOk v → Beside pace n m spare s u
      → Answers pace n m spare' (go v s) (go' v (units s u e)))
      → Answers pace n m spare' (and_then r go) (and_then r' go')
  then_after pace n m spare spare' go go' (BothGive {v = v} {s = s} {u = u} {e = e} g k) h
      = h v s u e refl g k
  then_after pace n m spare spare' go go' NeitherAccepts h = NeitherAccepts
  then_after pace n m spare spare' go go' BothEnd h = BothEnd
  then_after pace n m spare spare' go go' (FirstEnds i) h = FirstEnds i
  then_after pace n m spare spare' go go' (SecondEnds i) h = SecondEnds i

  pub then_beside : (pace : Pace) (n m spare : ℕ) {r r' : Answer} (go go' : Value → State → Answer)
      → Answers pace n m spare r r'
      → ((v : Value) (s : State) (u e : ℕ) → ValueOk v → Beside pace n m spare s u
      → Answers pace n m spare (go v s) (go' v (units s u e)))
      → Answers pace n m spare (and_then r go) (and_then r' go')
  then_beside pace n m spare go go' a h = then_after pace n m spare spare go go' a
      (λ v s u e _ g k. h v s u e g k)

  number_beside : (pace : Pace) (n m spare : ℕ) (v : Value) (s t : State) (go go' : ℤ → Answer)
      → ((k : ℤ) → Answers pace n m spare (go k) (go' k))
      → Answers pace n m spare (with_number v s go) (with_number v t go')
  number_beside pace n m spare (Int k) s t go go' h = h k
  number_beside pace n m spare (Con c xs) s t go go' h = NeitherAccepts
  number_beside pace n m spare (Part f xs) s t go go' h = NeitherAccepts

  abbrev pub SameOnward : (pace : Pace) (n m : ℕ) → DelayedEvaluator → DelayedEvaluator → Type 0
  SameOnward pace n m onward onward' =
      (t : Delayed) → DelayedOk t → (spare d : ℕ) (s : State) (u e : ℕ) → Beside pace n m spare s u
      → Answers pace n m spare (onward t d s) (onward' t d (units s u e))

  -- ---- spending

  -- a unit in both
  pub spent : (pace : Pace) (spare u u' : ℕ) → Fits pace spare (suc u) (suc u')
      → Fits pace (extra pace + spare) u u'
  spent (Ahead k) spare u u' f = omega (arith, f)
  spent Behind spare u u' f = omega (arith, f)
  spent Together spare u u' f = omega (arith, f)

  pub both_spend : (pace : Pace) (n m spare left u d e : ℕ) (s : State) (go go' : State → Answer)
      → s.left ≡ left → Beside pace (suc n) (suc m) spare s u
      → ((s : State) (u e : ℕ) → Beside pace n m (extra pace + spare) s u
      → Answers pace n m spare (go s) (go' (units s u e)))
      → Answers pace n m spare (spend_of left d s go) (spend_of u d (units s u e) go')
  both_spend (Ahead k) n m spare zero u d e s go go' is b h = FirstEnds tt
  both_spend Behind n m spare zero zero d e s go go' is b h = BothEnd
  both_spend Behind n m spare zero (suc u) d e s go go' is b h = let f = b.fits
      in absurd (omega (arith, f, is))
  both_spend Together n m spare zero zero d e s go go' is b h = BothEnd
  both_spend Together n m spare zero (suc u) d e s go go' is b h = let f = b.fits
      in absurd (omega (arith, f, is))
  both_spend (Ahead k) n m spare (suc l) zero d e s go go' is b h = let f
      : suc k * suc l + spare ≤ 0 = subst (λ w. suc k * w + spare ≤ 0) is b.fits
      in absurd (omega (arith, f))
  both_spend Behind n m spare (suc l) zero d e s go go' is b h = SecondEnds tt
  both_spend Together n m spare (suc l) zero d e s go go' is b h = let f = b.fits
      in absurd (omega (arith, f, is))
  both_spend pace n m spare (suc l) (suc u) d e s go go' is b h =
      let t : State = record
      { heap = s.heap; left = l; depth = max s.depth d; input = s.input; used = s.used } in
      let first = b.first in
      let second = b.second in
      let k : Beside pace n m (extra pace + spare) t u =
      record {
        heap = b.heap;
        fits = spent pace spare l u
            (subst (λ w. Fits pace spare w (suc u)) is b.fits);
        first
            = omega (arith, first, is);
        second = omega (arith, second);
      } in
      h t u (max e d) k

  -- ---- forcing

  abbrev FoundOk : Option Binding → Type 0
  FoundOk None = Unit {0}
  FoundOk (Some b) = BindingOk b

  found_ok : (heap : Heap) (a : ℕ) → HeapOk heap → FoundOk (slice_get heap a)
  found_ok [] a h = tt
  found_ok (b ∷ heap) zero h = h.0
  found_ok (b ∷ heap) (suc a) h = found_ok heap a h.1

  module _ (pace : Pace) (n m : ℕ) (onward onward' : DelayedEvaluator)
      (on : SameOnward pace n m onward onward') where
    abbrev Same : (State → Answer) → (State → Answer) → Type 0
    Same go go' = (spare : ℕ) (s : State) (u e : ℕ) → Beside pace n m spare s u
        → Answers pace n m spare (go s) (go' (units s u e))

    found_beside : (o : Option Binding) → FoundOk o → (a d : ℕ)
        → Same (forcing.force_binding arity NoAlternative onward o a d)
        (forcing.force_binding arity' NoAlternative onward' o a d)
    found_beside None h a d spare s u e k = NeitherAccepts
    found_beside (Some b) h a d spare s u e k = by h
      where
        by : {b : Binding} → BindingOk b → Answers pace n m spare
            (forcing.force_binding arity NoAlternative onward (Some b) a d s)
            (forcing.force_binding arity' NoAlternative onward' (Some b) a d (units s u e))
        by (OkKnown g) = BothGive g k
        by (OkWaiting {t = t} w) =
            then_beside pace n m spare (λ v s. Gives v (update s a v))
            (λ v s. Gives v (update s a v)) (on t w spare (suc d) s u e k)
            (λ v s u e g k. BothGive g (updated pace n m spare s u a v k g))

    pub force_beside : (a d : ℕ) → Same (forcing.force arity NoAlternative onward a d)
        (forcing.force arity' NoAlternative onward' a d)
    force_beside a d spare s u e k = found_beside (slice_get s.heap a) (found_ok s.heap a k.heap) a
        d spare s u e k

    given_beside : (f : ℕ) (xs : List ℕ) (b d : ℕ) → IsFun f → length xs < arity f → (few : Bool)
        → nat_lt (suc (length xs)) (arity f) ≡ few
        → Same (λ s. if few then Gives (Part f (xs ++ b ∷ [])) s
        else onward (Call f (xs ++ b ∷ [])) d s)
        (λ s. if few then Gives (Part f (xs ++ b ∷ [])) s
        else onward' (Call f (xs ++ b ∷ [])) d s)
    given_beside f xs b d is lt true h spare s u e k =
        let long : length (xs ++ b ∷ []) ≡ length xs + 1 = length-append xs (b ∷ []) in
        let few = lt_from (suc (length xs)) (arity f) h in
        BothGive (OkPart is (omega (arith, few, long))) k
    given_beside f xs b d is lt false h spare s u e k =
        let long : length (xs ++ b ∷ []) ≡ length xs + 1 = length-append xs (b ∷ []) in
        let few = le_from (suc (length xs)) (arity f) h in
        on (Call f (xs ++ b ∷ [])) (OkCall is (omega (arith, few, long, lt))) spare d s u e k

    give_beside : {v : Value} (b d : ℕ) → ValueOk v
        → Same (forcing.give arity onward v b d) (forcing.give arity' onward' v b d)
    give_beside b d OkInt spare s u e k = NeitherAccepts
    give_beside b d (OkCon h) spare s u e k = NeitherAccepts
    give_beside b d (OkPart {f = f} {xs = xs} is lt) spare s u e k
        = rw (counts f is)
        (given_beside f xs b d is lt (nat_lt (suc (length xs)) (arity f)) refl spare s u e k)

    give_all_beside : (bs : List ℕ) (v : Value) (d : ℕ) → ValueOk v
        → Same (forcing.give_all arity onward v bs d) (forcing.give_all arity' onward' v bs d)
    give_all_beside [] v d g spare s u e k = BothGive g k
    give_all_beside (b ∷ []) v d g spare s u e k = give_beside b d g spare s u e k
    give_all_beside (b ∷ c ∷ bs) v d g spare s u e k =
        then_beside pace n m spare (λ v. forcing.give_all arity onward v (c ∷ bs) d)
        (λ v. forcing.give_all arity' onward' v (c ∷ bs) d)
        (give_beside b (suc d) g spare s u e k)
        (λ v s u e g k. give_all_beside (c ∷ bs) v d g spare s u e k)

    pub apply_beside : (a : ℕ) (bs : List ℕ) (d : ℕ)
        → Same (forcing.apply arity NoAlternative onward a bs d)
        (forcing.apply arity' NoAlternative onward' a bs d)
    apply_beside a [] d spare s u e k = force_beside a d spare s u e k
    apply_beside a (b ∷ bs) d spare s u e k =
        then_beside pace n m spare (λ v. forcing.give_all arity onward v (b ∷ bs) d)
        (λ v. forcing.give_all arity' onward' v (b ∷ bs) d)
        (force_beside a (suc d) spare s u e k)
        (λ v s u e g k. give_all_beside (b ∷ bs) v d g spare s u e k)

    pub prim_beside : (op : _) (a b d : ℕ) → Same (forcing.prim arity NoAlternative onward op a b d)
        (forcing.prim arity' NoAlternative onward' op a b d)
    prim_beside op a b d spare s u e k =
        then_beside pace n m spare _ _ (force_beside a (suc d) spare s u e k)
        (λ v s u e g k. number_beside pace n m spare v s (units s u e) _ _ (λ i.
        then_beside pace n m spare _ _ (force_beside b (suc d) spare s u e k)
        (λ w s u e g k. number_beside pace n m spare w s (units s u e) _ _
        (λ j. BothGive (OkInt {k = primitive_result op i j}) k))))

  -- ---- languages

  module _ (pace : Pace) (nil cons nil' cons' : ℕ) (same_nil : nil' ≡ nil)
      (same_cons : cons' ≡ cons) (no_fields : many nil ≡ 0) (two_fields : many cons ≡ 2)
      (enter enter' : DelayedEvaluator → ℕ → List ℕ → ℕ → State → Answer) where
    abbrev pub within : ℕ → DelayedEvaluator
    within n = forcing.within arity NoAlternative nil cons enter n

    abbrev pub within' : ℕ → DelayedEvaluator
    within' m = forcing.within arity' NoAlternative nil' cons' enter' m

    -- an entry in both, where the second has some units to spare
    abbrev pub Entered : Type 0
    Entered =
        (n : ℕ) → ((m : ℕ) → SameOnward pace n m (within n) (within' m)) → (m f : ℕ) → IsFun f
        → (xs : List ℕ) → length xs ≡ arity f
        → (spare d : ℕ) (s : State) (u e : ℕ) → Beside pace n m (extra pace + spare) s u
        → Answers pace n m spare (enter (within n) f xs d s)
        (enter' (within' m) f xs d (units s u e))

    byte_beside : (n m spare : ℕ) (i : List ℕ) (s : State) (u e : ℕ) → Beside pace n m spare s u
        → Answers pace n m spare (forcing.next_byte nil cons i s)
        (forcing.next_byte nil' cons' i (units s u e))
    byte_beside n m spare [] s u e k = rw same_nil (BothGive (OkCon (sym no_fields)) k)
    byte_beside n m spare (b ∷ rest) s u e k =
        let more : Heap = Known (Int (pos b)) ∷ Waiting Input ∷ [] in
        let took : Beside pace n m spare (taken s rest) u
        = record { heap = k.heap; fits = k.fits; first = k.first; second = k.second } in
        rw same_cons
        (BothGive (OkCon (sym two_fields))
        (appended pace n m spare (taken s rest) u more took
        (OkKnown OkInt, (OkWaiting OkInput, tt))))

    -- with fewer to spare
    pub less : (n m spare : ℕ) (s : State) (u : ℕ) → Beside pace n m (extra pace + spare) s u
        → Beside pace n m spare s u
    less n m spare s u k = besides pace n n m m (extra pace + spare) spare s u (omega arith)
        (omega arith) (omega arith) k

    module _ (entered : Entered) where
      proceed_beside : (n m : ℕ) → ((m : ℕ) → SameOnward pace n m (within n) (within' m))
          → (spare : ℕ) (t : Delayed) → DelayedOk t → (d : ℕ) (s : State) (u e : ℕ)
          → Beside pace n m (extra pace + spare) s u
          → Answers pace n m spare
          (forcing.proceed arity NoAlternative nil cons enter (within n) t d s)
          (forcing.proceed arity' NoAlternative nil' cons' enter' (within' m) t d (units s u e))
      proceed_beside n m on spare t (OkCall {f = f} {xs = xs} is len) d s u e k
          = entered n on m f is xs len spare d s u e k
      proceed_beside n m on spare t (OkApply {a = a} {xs = xs}) d s u e k
          = apply_beside pace n m (within n) (within' m) (on m) a xs d spare s u e
          (less n m spare s u k)
      proceed_beside n m on spare t (OkPrim {op = op} {a = a} {b = b}) d s u e k
          = prim_beside pace n m (within n) (within' m) (on m) op a b d spare s u e
          (less n m spare s u k)
      proceed_beside n m on spare t (OkGlobal {f = f} is z) d s u e k
          = entered n on m f is [] (sym z) spare d s u e k
      proceed_beside n m on spare t OkInput d s u e k
          = byte_beside n m spare s.input s u e (less n m spare s u k)

      -- the first has no units
      first_none : (pace : Pace) (m u spare d e : ℕ) (t : Delayed) (s : State)
          → Beside pace 0 m spare s u → Answers pace 0 m spare (OutOfBound s)
          (within' m t d (units s u e))
      first_none (Ahead k) m u spare d e t s b = FirstEnds tt
      first_none Behind zero u spare d e t s b = BothEnd
      first_none Together zero u spare d e t s b = BothEnd
      first_none Behind (suc m) zero spare d e t s b = BothEnd
      first_none Together (suc m) zero spare d e t s b = BothEnd
      first_none Behind (suc m) (suc u) spare d e t s b = let f = b.fits in let z = b.first
          in absurd (omega (arith, f, z))
      first_none Together (suc m) (suc u) spare d e t s b = let f = b.fits in let z = b.first
          in absurd (omega (arith, f, z))

      -- the second has none
      second_none : (pace : Pace) (n left u spare d : ℕ) (s s' : State) (go : State → Answer)
          → s.left ≡ left → Beside pace n 0 spare s u
          → Answers pace n 0 spare (spend_of left d s go) (OutOfBound s')
      second_none pace n zero u spare d s s' go is b = BothEnd
      second_none (Ahead k) n (suc l) u spare d s s' go is b =
          let f : suc k * suc l + spare ≤ u = subst (λ w. suc k * w + spare ≤ u) is b.fits in
          let z = b.second in
          absurd (omega (arith, f, z))
      second_none Behind n (suc l) u spare d s s' go is b = SecondEnds tt
      second_none Together n (suc l) u spare d s s' go is b = let f = b.fits in let z = b.second
          in absurd (omega (arith, f, z, is))

      pub within_beside : (n m : ℕ) → SameOnward pace n m (within n) (within' m)
      within_beside zero m t g spare d s u e k = first_none pace m u spare d e t s k
      within_beside (suc n) zero t g spare d s u e k
          = second_none pace (suc n) s.left u spare d s (units s u e)
          (forcing.proceed arity NoAlternative nil cons enter (within n) t d) refl k
      within_beside (suc n) (suc m) t g spare d s u e k =
          wider pace n (suc n) m (suc m) spare spare (omega arith) (omega arith) (omega arith)
          (both_spend pace n m spare s.left u d e s
          (forcing.proceed arity NoAlternative nil cons enter (within n) t d)
          (forcing.proceed arity' NoAlternative nil' cons' enter' (within' m) t d) refl k
          (λ s u e k. proceed_beside n m (within_beside n) spare t g d s u e k))
