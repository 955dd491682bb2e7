-- Two languages whose functions correspond put out the same: each function of one stands for a
-- function of the other that was given some names first.
--
-- A closure in the text corresponds to a partial application in the lifted program: its
-- environment is the first arguments. Two heaps correspond name by name. A general lemma says of
-- any two languages whose functions correspond so that they put out the same; a second proof shows
-- that a text and its lifted program are such a pair.
use Rattle.std.proofs.Common.{◌≡◌, ℕ, zero, suc, ◌+◌, ◌≤◌, ◌<◌, Bool, true, false, max, List, [], ◌∷◌, ◌++◌, length, Option, Some, None, refl, sym, ap, ◌∙◌, subst, arith, append_assoc, length-append}
use Rattle.std.specs.Prelude.{ℤ, pos, nat_lt, ◌==◌, if◌then◌else◌, slice_get, slice_set}
use Rattle.std.proofs.lemmas.Bool.{ltb-true, ltb-false, lt-ltb, le-ltb, eq-eqb}
use Rattle.arity_check.specs.declared.normal.PrimOp.{PrimOp}
use Rattle.core_meaning.specs.Heap.{ValueOf, Int, Con, Part, DelayedOf, Call, Apply, Prim, Global, Input, BindingOf, Known, Waiting, HeapOf}
use Rattle.core_meaning.specs.Forcing.{StateOf, AnswerOf, Gives, NoAlternative, OutOfBound, DelayedEvaluatorOf, PrintedRun, PrintingEnd, Unaccepted, Going, and_then, with_number, spend_of, spend, append, update, taken, start, stops, on_value, on_list, on_byte, give, give_all, force_binding, force, apply, prim, next_byte, proceed, within, print, printed_from_input, printed}
use Rattle.core_meaning.specs.Numbers.{primitive_result}
use Rattle.numbers.specs.Numbers.{low_byte}

-- The functions of one, the names that are given first, and the functions of the other; and how
-- many fields a
-- constructor has.
module _ {F G : Type 0} (R : F → List ℕ → G → Type 0) (arity : F → ℕ) (arity' : G → ℕ)
    (counts : (f : F) (front : List ℕ) (g : G) → R f front g → arity' g ≡ length front + arity f)
    (many : ℕ → ℕ) where
  -- ---- what corresponds

  pub data ValueLike : ValueOf F → ValueOf G → Type 0 where
    LikeInt : {k : ℤ} → ValueLike (Int k) (Int k)
    LikeCon : {c : ℕ} {xs : List ℕ} → length xs ≡ many c → ValueLike (Con c xs) (Con c xs)
    LikePart : {f : F} {g : G} {xs ys : List ℕ} (front : List ℕ) → R f front g → length xs < arity f
        → ys ≡ front ++ xs → ValueLike (Part f xs) (Part g ys)

  pub data DelayedLike : DelayedOf F → DelayedOf G → Type 0 where
    LikeCall : {f : F} {g : G} {xs ys : List ℕ} (front : List ℕ) → R f front g → length xs ≡ arity f
        → ys ≡ front ++ xs → DelayedLike (Call f xs) (Call g ys)
    LikeApply : {a : ℕ} {xs : List ℕ} → DelayedLike (Apply a xs) (Apply a xs)
    LikePrim : {op : PrimOp} {a b : ℕ} → DelayedLike (Prim op a b) (Prim op a b)
    LikeGlobal : {f : F} {g : G} → R f [] g → arity f ≡ 0 → DelayedLike (Global f) (Global g)
    LikeInput : DelayedLike Input Input

  pub data BindingLike : BindingOf F → BindingOf G → Type 0 where
    LikeKnown : {v : ValueOf F} {w : ValueOf G} → ValueLike v w → BindingLike (Known v) (Known w)
    LikeWaiting : {t : DelayedOf F} {u : DelayedOf G} → DelayedLike t u
        → BindingLike (Waiting t) (Waiting u)

  abbrev pub HeapLike : HeapOf F → HeapOf G → Type 0
  HeapLike [] [] = Unit {0}
  HeapLike [] (c ∷ heap') = ⊥
  HeapLike (b ∷ heap) [] = ⊥
  HeapLike (b ∷ heap) (c ∷ heap') = BindingLike b c × HeapLike heap heap'

  pub record StateLike (s : StateOf F) (t : StateOf G) : Type 0 where
    pub heap : HeapLike s.heap t.heap
    pub left : t.left ≡ s.left
    pub depth : t.depth ≡ s.depth
    pub input : t.input ≡ s.input
    pub used : t.used ≡ s.used

  pub data AnswerLike : AnswerOf F → AnswerOf G → Type 0 where
    BothGive : {v : ValueOf F} {w : ValueOf G} {s : StateOf F} {t : StateOf G} → ValueLike v w
        → StateLike s t → AnswerLike (Gives v s) (Gives w t)
    NeitherAccepts : {s : StateOf F} {t : StateOf G} → StateLike s t
        → AnswerLike (NoAlternative s) (NoAlternative t)
    BothEnd : {s : StateOf F} {t : StateOf G} → StateLike s t
        → AnswerLike (OutOfBound s) (OutOfBound t)

  -- ---- heaps

  pub as_long : (xs : HeapOf F) (ys : HeapOf G) → HeapLike xs ys → length ys ≡ length xs
  as_long [] [] h = refl
  as_long [] (c ∷ ys) h = absurd h
  as_long (b ∷ xs) [] h = absurd h
  as_long (b ∷ xs) (c ∷ ys) h = ap suc (as_long xs ys h.1)

  abbrev FoundLike : Option (BindingOf F) → Option (BindingOf G) → Type 0
  FoundLike None None = Unit {0}
  FoundLike None (Some c) = ⊥
  FoundLike (Some b) None = ⊥
  FoundLike (Some b) (Some c) = BindingLike b c

  get_like : (xs : HeapOf F) (ys : HeapOf G) (a : ℕ) → HeapLike xs ys
      → FoundLike (slice_get xs a) (slice_get ys a)
  get_like [] [] a h = tt
  get_like [] (c ∷ ys) a h = absurd h
  get_like (b ∷ xs) [] a h = absurd h
  get_like (b ∷ xs) (c ∷ ys) zero h = h.0
  get_like (b ∷ xs) (c ∷ ys) (suc a) h = get_like xs ys a h.1

  set_like : (xs : HeapOf F) (ys : HeapOf G) (a : ℕ) (b : BindingOf F) (c : BindingOf G)
      → BindingLike b c → HeapLike xs ys → HeapLike (slice_set xs a b) (slice_set ys a c)
  set_like [] [] a b c e h = tt
  set_like [] (y ∷ ys) a b c e h = absurd h
  set_like (x ∷ xs) [] a b c e h = absurd h
  set_like (x ∷ xs) (y ∷ ys) zero b c e h = (e, h.1)
  set_like (x ∷ xs) (y ∷ ys) (suc a) b c e h = (h.0, set_like xs ys a b c e h.1)

  pub heaps_append : (xs more : HeapOf F) (ys more' : HeapOf G) → HeapLike xs ys
      → HeapLike more more' → HeapLike (xs ++ more) (ys ++ more')
  heaps_append [] more [] more' h g = g
  heaps_append [] more (c ∷ ys) more' h g = absurd h
  heaps_append (b ∷ xs) more [] more' h g = absurd h
  heaps_append (b ∷ xs) more (c ∷ ys) more' h g = (h.0, heaps_append xs more ys more' h.1 g)

  pub append_like : (s : StateOf F) (t : StateOf G) (more : HeapOf F) (more' : HeapOf G)
      → StateLike s t → HeapLike more more' → StateLike (append s more) (append t more')
  append_like s t more more' k h = record {
    heap = heaps_append s.heap more t.heap more' k.heap h;
    left = k.left;
    depth = k.depth;
    input
        = k.input;
    used = k.used;
  }

  update_like : (s : StateOf F) (t : StateOf G) (a : ℕ) (v : ValueOf F) (w : ValueOf G)
      → StateLike s t → ValueLike v w → StateLike (update s a v) (update t a w)
  update_like s t a v w k g = record {
    heap = set_like s.heap t.heap a (Known v) (Known w) (LikeKnown g) k.heap;
    left
        = k.left;
    depth = k.depth;
    input = k.input;
    used = k.used;
  }

  -- ---- one after the other

  pub then_like : {r : AnswerOf F} {q : AnswerOf G} (go : ValueOf F → StateOf F → AnswerOf F)
      (go' : ValueOf G → StateOf G → AnswerOf G) → AnswerLike r q
      → ((v : ValueOf F) (w : ValueOf G) (s : StateOf F) (t : StateOf G) → ValueLike v w
      → StateLike s t → AnswerLike (go v s) (go' w t))
      → AnswerLike (and_then r go) (and_then q go')
  then_like go go' (BothGive {v = v} {w = w} {s = s} {t = t} g k) h = h v w s t g k
  then_like go go' (NeitherAccepts k) h = NeitherAccepts k
  then_like go go' (BothEnd k) h = BothEnd k

  pub number_like : {v : ValueOf F} {w : ValueOf G} (s : StateOf F) (t : StateOf G)
      (go : ℤ → AnswerOf F) (go' : ℤ → AnswerOf G) → ValueLike v w → StateLike s t
      → ((k : ℤ) → AnswerLike (go k) (go' k)) → AnswerLike (with_number v s go)
      (with_number w t go')
  number_like s t go go' (LikeInt {k = i}) k h = h i
  number_like s t go go' (LikeCon e) k h = NeitherAccepts k
  number_like s t go go' (LikePart front r lt e) k h = NeitherAccepts k

  spend_like : (n d : ℕ) (s : StateOf F) (t : StateOf G) (go : StateOf F → AnswerOf F)
      (go' : StateOf G → AnswerOf G) → StateLike s t
      → ((s : StateOf F) (t : StateOf G) → StateLike s t → AnswerLike (go s) (go' t))
      → AnswerLike (spend_of n d s go) (spend_of n d t go')
  spend_like zero d s t go go' k h = BothEnd k
  spend_like (suc n) d s t go go' k h =
      h (record s { left = n; depth = max s.depth d })
      (record t { left = n; depth = max t.depth d })
      (record {
        heap = k.heap;
        left = refl;
        depth = ap (λ m. max m d) k.depth;
        input
            = k.input;
        used = k.used;
      })

  abbrev pub SameOnward : DelayedEvaluatorOf F → DelayedEvaluatorOf G → Type 0
  SameOnward onward onward' =
      (t : DelayedOf F) (u : DelayedOf G) → DelayedLike t u
      → (d : ℕ) (s : StateOf F) (s' : StateOf G) → StateLike s s'
      → AnswerLike (onward t d s) (onward' u d s')

  module _ (lost : StateOf F → AnswerOf F) (lost' : StateOf G → AnswerOf G)
      (both_lost : (s : StateOf F) (t : StateOf G) → StateLike s t → AnswerLike (lost s) (lost' t))
    where
      module _ (onward : DelayedEvaluatorOf F) (onward' : DelayedEvaluatorOf G)
          (on : SameOnward onward onward') where
        found_like : (o : Option (BindingOf F)) (o' : Option (BindingOf G)) → FoundLike o o'
            → (a d : ℕ) (s : StateOf F) (t : StateOf G) → StateLike s t
            → AnswerLike (force_binding arity lost onward o a d s)
            (force_binding arity' lost' onward' o' a d t)
        found_like None None h a d s t k = both_lost s t k
        found_like None (Some c) h a d s t k = absurd h
        found_like (Some b) None h a d s t k = absurd h
        found_like (Some b) (Some c) h a d s t k = by h
          where
            by : {b : BindingOf F} {c : BindingOf G} → BindingLike b c
                → AnswerLike (force_binding arity lost onward (Some b) a d s)
                (force_binding arity' lost' onward' (Some c) a d t)
            by (LikeKnown g) = BothGive g k
            by (LikeWaiting {t = u} {u = u'} w) = then_like (λ v s. Gives v (update s a v))
                (λ v s. Gives v (update s a v)) (on u u' w (suc d) s t k)
                (λ v w s t g k. BothGive g (update_like s t a v w k g))

        pub force_like : (a d : ℕ) (s : StateOf F) (t : StateOf G) → StateLike s t
            → AnswerLike (force arity lost onward a d s) (force arity' lost' onward' a d t)
        force_like a d s t k = found_like (slice_get s.heap a) (slice_get t.heap a)
            (get_like s.heap t.heap a k.heap) a d s t k

        -- one more name is missing on one side exactly where it is on the other
        as_few : (f : F) (g : G) (xs ys front : List ℕ) → R f front g → ys ≡ front ++ xs
            → nat_lt (suc (length ys)) (arity' g) ≡ nat_lt (suc (length xs)) (arity f)
        as_few f g xs ys front r e = by (nat_lt (suc (length xs)) (arity f)) refl
          where
            long : length ys ≡ length front + length xs
            long = ap length e ∙ length-append front xs

            by : (b : Bool) → nat_lt (suc (length xs)) (arity f) ≡ b
                → nat_lt (suc (length ys)) (arity' g) ≡ b
            by true h = let lt = ltb-true (suc (length xs)) (arity f) h
                in lt-ltb (suc (length ys)) (arity' g) (omega (arith, lt, long, counts f front g r))
            by false h = let le = ltb-false (suc (length xs)) (arity f) h
                in le-ltb (suc (length ys)) (arity' g) (omega (arith, le, long, counts f front g r))

        given_like : (f : F) (g : G) (xs ys front : List ℕ) (b d : ℕ) (s : StateOf F)
            (t : StateOf G)
            → R f front g → length xs < arity f → ys ≡ front ++ xs → StateLike s t
            → (few : Bool) → nat_lt (suc (length xs)) (arity f) ≡ few
            → AnswerLike
            (if few then Gives (Part f (xs ++ b ∷ [])) s else onward (Call f (xs ++ b ∷ [])) d s)
            (if few then Gives (Part g (ys ++ b ∷ [])) t else onward' (Call g (ys ++ b ∷ [])) d t)
        given_like f g xs ys front b d s t r lt e k true h =
            let long : length (xs ++ b ∷ []) ≡ length xs + 1 = length-append xs (b ∷ []) in
            let few = ltb-true (suc (length xs)) (arity f) h in
            BothGive (LikePart front r (omega (arith, few, long))
            (ap (λ w. w ++ b ∷ []) e ∙ append_assoc front xs (b ∷ []))) k
        given_like f g xs ys front b d s t r lt e k false h =
            let long : length (xs ++ b ∷ []) ≡ length xs + 1 = length-append xs (b ∷ []) in
            let few = ltb-false (suc (length xs)) (arity f) h in
            on (Call f (xs ++ b ∷ [])) (Call g (ys ++ b ∷ []))
            (LikeCall front r (omega (arith, few, long, lt))
            (ap (λ w. w ++ b ∷ []) e ∙ append_assoc front xs (b ∷ []))) d s t k

        give_like : {v : ValueOf F} {w : ValueOf G} (b d : ℕ) (s : StateOf F) (t : StateOf G)
            → ValueLike v w → StateLike s t → AnswerLike (give arity onward v b d s)
            (give arity' onward' w b d t)
        give_like b d s t LikeInt k = NeitherAccepts k
        give_like b d s t (LikeCon e) k = NeitherAccepts k
        give_like b d s t (LikePart {f = f} {g = g} {xs = xs} {ys = ys} front r lt e) k =
            rw (as_few f g xs ys front r e)
            (given_like f g xs ys front b d s t r lt e k (nat_lt (suc (length xs)) (arity f))
            refl)

        give_all_like : (bs : List ℕ) (v : ValueOf F) (w : ValueOf G) (d : ℕ) (s : StateOf F)
            (t : StateOf G) → ValueLike v w → StateLike s t
            → AnswerLike (give_all arity onward v bs d s) (give_all arity' onward' w bs d t)
        give_all_like [] v w d s t g k = BothGive g k
        give_all_like (b ∷ []) v w d s t g k = give_like b d s t g k
        give_all_like (b ∷ c ∷ bs) v w d s t g k =
            then_like (λ v s. give_all arity onward v (c ∷ bs) d s)
            (λ w t. give_all arity' onward' w (c ∷ bs) d t) (give_like b (suc d) s t g k)
            (λ v w s t g k. give_all_like (c ∷ bs) v w d s t g k)

        pub apply_like : (a : ℕ) (bs : List ℕ) (d : ℕ) (s : StateOf F) (t : StateOf G)
            → StateLike s t
            → AnswerLike (apply arity lost onward a bs d s) (apply arity' lost' onward' a bs d t)
        apply_like a [] d s t k = force_like a d s t k
        apply_like a (b ∷ bs) d s t k =
            then_like (λ v s. give_all arity onward v (b ∷ bs) d s)
            (λ w t. give_all arity' onward' w (b ∷ bs) d t) (force_like a (suc d) s t k)
            (λ v w s t g k. give_all_like (b ∷ bs) v w d s t g k)

        pub prim_like : (op : PrimOp) (a b d : ℕ) (s : StateOf F) (t : StateOf G) → StateLike s t
            → AnswerLike (prim arity lost onward op a b d s) (prim arity' lost' onward' op a b d t)
        prim_like op a b d s t k =
            then_like _ _ (force_like a (suc d) s t k) (λ v w s t g k. number_like s t _ _ g k (λ i.
            then_like _ _ (force_like b (suc d) s t k)
            (λ v w s t g k. number_like s t _ _ g k
            (λ j. BothGive (LikeInt {k = primitive_result op i j}) k))))

      module _ (nil cons : ℕ) (no_fields : many nil ≡ 0) (two_fields : many cons ≡ 2)
          (enter : DelayedEvaluatorOf F → F → List ℕ → ℕ → StateOf F → AnswerOf F)
          (enter' : DelayedEvaluatorOf G → G → List ℕ → ℕ → StateOf G → AnswerOf G)
          (entered : (onward : DelayedEvaluatorOf F) (onward' : DelayedEvaluatorOf G)
          → SameOnward onward onward' → (f : F) (front : List ℕ) (g : G) → R f front g
          → (xs : List ℕ) → length xs ≡ arity f → (d : ℕ) (s : StateOf F) (t : StateOf G)
          → StateLike s t → AnswerLike (enter onward f xs d s)
          (enter' onward' g (front ++ xs) d t)) where
        byte_like : (i : List ℕ) (s : StateOf F) (t : StateOf G) → StateLike s t
            → AnswerLike (next_byte nil cons i s) (next_byte nil cons i t)
        byte_like [] s t k = BothGive (LikeCon (sym no_fields)) k
        byte_like (b ∷ rest) s t k =
            let more : HeapOf F = Known (Int (pos b)) ∷ Waiting Input ∷ [] in
            let more' : HeapOf G = Known (Int (pos b)) ∷ Waiting Input ∷ [] in
            let took : StateLike (taken s rest) (taken t rest)
            = record {
              heap = k.heap;
              left = k.left;
              depth = k.depth;
              input = refl;
              used
                  = ap suc k.used;
            } in
            rw (as_long s.heap t.heap k.heap)
            (BothGive (LikeCon (sym two_fields))
            (append_like (taken s rest) (taken t rest) more more' took
            (LikeKnown LikeInt, (LikeWaiting LikeInput, tt))))

        proceed_like : (onward : DelayedEvaluatorOf F) (onward' : DelayedEvaluatorOf G)
            → SameOnward onward onward' → SameOnward (proceed arity lost nil cons enter onward)
            (proceed arity' lost' nil cons enter' onward')
        proceed_like onward onward' on t u (LikeCall {f = f} {g = g} {xs = xs} front r n e) d s s' k
            =
            subst (λ ys. AnswerLike (enter onward f xs d s) (enter' onward' g ys d s')) (sym e)
            (entered onward onward' on f front g r xs n d s s' k)
        proceed_like onward onward' on t u (LikeApply {a = a} {xs = xs}) d s s' k
            = apply_like onward onward' on a xs d s s' k
        proceed_like onward onward' on t u (LikePrim {op = op} {a = a} {b = b}) d s s' k
            = prim_like onward onward' on op a b d s s' k
        proceed_like onward onward' on t u (LikeGlobal {f = f} {g = g} r z) d s s' k
            = entered onward onward' on f [] g r [] (sym z) d s s' k
        proceed_like onward onward' on t u LikeInput d s s' k
            = subst (λ i. AnswerLike (next_byte nil cons s.input s) (next_byte nil cons i s'))
            (sym k.input) (byte_like s.input s s' k)

        within_like : (n : ℕ) → SameOnward (within arity lost nil cons enter n)
            (within arity' lost' nil cons enter' n)
        within_like zero t u h d s s' k = BothEnd k
        within_like (suc n) t u h d s s' k =
            subst (λ m. AnswerLike
            (spend d s
            (proceed arity lost nil cons enter (within arity lost nil cons enter n) t d))
            (spend_of m d s'
            (proceed arity' lost' nil cons enter' (within arity' lost' nil cons enter' n) u d)))
            (sym k.left)
            (spend_like s.left d s s'
            (proceed arity lost nil cons enter (within arity lost nil cons enter n) t d)
            (proceed arity' lost' nil cons enter' (within arity' lost' nil cons enter' n) u d) k
            (λ s s' k. proceed_like (within arity lost nil cons enter n)
            (within arity' lost' nil cons enter' n) (within_like n) t u h d s s' k))

        -- ---- printing

        stops_like : (out : List ℕ) (e : PrintingEnd) (s : StateOf F) (t : StateOf G)
            → StateLike s t
            → stops out e t ≡ stops out e s
        stops_like out e s t k = λ i. record {
          out = out;
          end = e;
          cells = as_long s.heap t.heap k.heap i;
          depth = k.depth i;
          used
              = k.used i;
        }

        value_like : {r : AnswerOf F} {q : AnswerOf G} (out : List ℕ)
            (go : ValueOf F → StateOf F → PrintedRun) (go' : ValueOf G → StateOf G → PrintedRun)
            → AnswerLike r q
            → ((v : ValueOf F) (w : ValueOf G) (s : StateOf F) (t : StateOf G) → ValueLike v w
            → StateLike s t → go' w t ≡ go v s) → on_value q out go' ≡ on_value r out go
        value_like out go go' (BothGive {v = v} {w = w} {s = s} {t = t} g k) h = h v w s t g k
        value_like out go go' (NeitherAccepts {s = s} {t = t} k) h = stops_like out Unaccepted s t k
        value_like out go go' (BothEnd {s = s} {t = t} k) h = stops_like out Going s t k

        cases_like : (b : Bool) (x' x y' y : PrintedRun) → x' ≡ x → y' ≡ y
            → elim b as (λ _. PrintedRun) [ true ↦ x' | false ↦ y' ] ≡ elim b as (λ _. PrintedRun)
            [ true ↦ x | false ↦ y ]
        cases_like true x' x y' y e f = e
        cases_like false x' x y' y e f = f

        abbrev con : ℕ → List ℕ → ValueOf F
        con c xs = Con c xs

        abbrev con' : ℕ → List ℕ → ValueOf G
        con' c xs = Con c xs

        con_like : (c : ℕ) (xs : List ℕ) (out : List ℕ) (s : StateOf F) (t : StateOf G)
            (go go' : ℕ → ℕ → PrintedRun) → StateLike s t → ((h tl : ℕ) → go' h tl ≡ go h tl)
            → on_list nil cons (con' c xs) out t go' ≡ on_list nil cons (con c xs) out s go
        con_like c [] out s t go go' k e = stops_like out _ s t k
        con_like c (h ∷ []) out s t go go' k e = stops_like out Unaccepted s t k
        con_like c (h ∷ tl ∷ []) out s t go go' k e = cases_like (c == cons) _ _ _ _ (e h tl)
            (stops_like out Unaccepted s t k)
        con_like c (h ∷ tl ∷ u ∷ xs) out s t go go' k e = stops_like out Unaccepted s t k

        list_like : {v : ValueOf F} {w : ValueOf G} (out : List ℕ) (s : StateOf F) (t : StateOf G)
            (go go' : ℕ → ℕ → PrintedRun) → ValueLike v w → StateLike s t
            → ((h tl : ℕ) → go' h tl ≡ go h tl)
            → on_list nil cons w out t go' ≡ on_list nil cons v out s go
        list_like out s t go go' LikeInt k e = stops_like out Unaccepted s t k
        list_like out s t go go' (LikeCon {c = c} {xs = xs} f) k e
            = con_like c xs out s t go go' k e
        list_like out s t go go' (LikePart front r lt f) k e = stops_like out Unaccepted s t k

        byte_put : {v : ValueOf F} {w : ValueOf G} (out : List ℕ) (s : StateOf F) (t : StateOf G)
            (go go' : ℕ → PrintedRun) → ValueLike v w → StateLike s t → ((b : ℕ) → go' b ≡ go b)
            → on_byte w out t go' ≡ on_byte v out s go
        byte_put out s t go go' (LikeInt {k = i}) k e = e (low_byte i)
        byte_put out s t go go' (LikeCon f) k e = stops_like out Unaccepted s t k
        byte_put out s t go go' (LikePart front r lt f) k e = stops_like out Unaccepted s t k

        pub print_like : (n a : ℕ) (out : List ℕ) (s : StateOf F) (t : StateOf G) → StateLike s t
            → print arity' lost' nil cons enter' n a out t ≡ print arity lost nil cons enter n a out
            s
        print_like zero a out s t k = stops_like out Going s t k
        print_like (suc n) a out s t k =
            let on = within arity lost nil cons enter n in
            let on' = within arity' lost' nil cons enter' n in
            let first : AnswerLike (spend 0 s (force arity lost on a 1))
            (spend 0 t (force arity' lost' on' a 1)) =
            subst (λ m. AnswerLike (spend 0 s (force arity lost on a 1))
            (spend_of m 0 t (force arity' lost' on' a 1))) (sym k.left)
            (spend_like s.left 0 s t (force arity lost on a 1) (force arity' lost' on' a 1) k
            (λ s t k. force_like on on' (within_like n) a 1 s t k)) in
            value_like out _ _ first (λ v w s t g k. list_like out s t _ _ g k (λ h tl.
            value_like out _ _ (force_like on on' (within_like n) h 1 s t k)
            (λ v w s t g k. byte_put out s t _ _ g k
            (λ byte. print_like n tl (out ++ byte ∷ []) s t k))))

        -- programs whose heaps and main functions correspond
        module _ (heap : HeapOf F) (heap' : HeapOf G) (heaps : HeapLike heap heap') (main : F)
            (main' : G) (mains : R main [] main') (few : arity main ≤ 1) (name : ℕ) where
          start_like : (i : List ℕ) (n : ℕ) → StateLike (start heap i n) (start heap' i n)
          start_like i n = record
              { heap = heaps; left = refl; depth = refl; input = refl; used = refl }

          as_many : arity' main' ≡ arity main
          as_many = omega (arith, counts main [] main' mains)

          from_input_like : arity main ≡ 1 → (i : List ℕ) (n : ℕ)
              → printed_from_input arity' lost' nil cons enter' heap' main' name i n ≡
              printed_from_input arity lost nil cons enter heap main name i n
          from_input_like one i zero = stops_like [] Going (start heap i 0) (start heap' i 0)
              (start_like i 0)
          from_input_like one i (suc n) =
              let m : ℕ = length heap in
              let more : HeapOf F = Waiting Input ∷ Waiting (Call main (m ∷ [])) ∷ [] in
              let more' : HeapOf G = Waiting Input ∷ Waiting (Call main' (m ∷ [])) ∷ [] in
              let likes : HeapLike more more' =
              (LikeWaiting LikeInput, (LikeWaiting (LikeCall [] mains (sym one) refl), tt)) in
              rw (as_long heap heap' heaps)
              (print_like n (suc m) [] (append (start heap i n) more)
              (append (start heap' i n) more')
              (append_like (start heap i n) (start heap' i n) more more' (start_like i n) likes))

          pub printed_like : (i : List ℕ) (n : ℕ) → printed arity' lost' nil cons enter' heap' main'
              name i n ≡ printed arity lost nil cons enter heap main name i n
          printed_like i n =
              subst (λ m. elim (m == 0) as (λ _. PrintedRun) [
                | true ↦ print arity' lost' nil cons enter' n name [] (start heap' i n)
                | false ↦
                    printed_from_input arity' lost' nil cons enter' heap' main' name i n
              ] ≡ printed
              arity lost nil cons enter heap main name i n) (sym as_many)
              (by (arity main == 0) refl)
            where
              by : (b : Bool) → (arity main == 0) ≡ b
                  → elim b as (λ _. PrintedRun) [
                    | true ↦ print arity' lost' nil cons enter' n name [] (start heap' i n)
                    | false
                        ↦ printed_from_input arity' lost' nil cons enter' heap' main' name i n
                  ]
                  ≡ elim b as (λ _. PrintedRun) [
                    | true ↦ print arity lost nil cons enter n name [] (start heap i n)
                    | false ↦
                        printed_from_input arity lost nil cons enter heap main name i n
                  ]
              by true e = print_like n name [] (start heap i n) (start heap' i n) (start_like i n)
              by false e =
                  let some : arity main ≡ 0 → ⊥ = λ z. let t : true ≡ false
                  = sym (eq-eqb (arity main) 0 z) ∙ e in cc in
                  from_input_like (omega (arith, some, few)) i n
