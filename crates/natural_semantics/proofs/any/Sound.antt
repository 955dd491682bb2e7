-- What the evaluator answers is derived.
--
-- In one direction the relation is derived by induction on the evaluator's recursion. In the
-- other, by induction on the derivation, there is a number of units with which the evaluator gives
-- that answer. It needs that more units change no answer.
use Rattle.std.proofs.Common.{◌≡◌, ℕ, zero, suc, ◌<◌, ◌≤◌, max, Bool, true, false, List, [], ◌∷◌, ◌++◌, length, Option, Some, None, refl}
use Rattle.std.specs.Prelude.{ℤ, nat_lt, slice_get, if◌then◌else◌}
use Rattle.std.proofs.lemmas.Bool.{ltb-true, ltb-false}
use Rattle.arity_check.specs.declared.normal.PrimOp.{PrimOp}
use Rattle.core_meaning.specs.Heap.{ValueOf, Int, Con, Part, DelayedOf, Call, Apply, Prim, Global, Input, BindingOf, Known, Waiting}
use Rattle.core_meaning.specs.Numbers.{primitive_result}
use Rattle.core_meaning.specs.Forcing.{StateOf, AnswerOf, Gives, NoAlternative, OutOfBound, and_then, with_number, spend_of, append, update, DelayedEvaluatorOf, next_byte}
use Rattle.natural_semantics.specs.World.{WorldOf, AConstructor, AFunction, ANumber, AConstructor'}
use Rattle.natural_semantics.specs.any.Moves.{Moves, Ends, Adds, Demands, Then, Refuses, Absent, ProgramOf, lost_where, force_binding, force, apply, prim, give, give_all, ends, does, proceed, within}
use Rattle.natural_semantics.specs.any.Natural.{Forces, Runs, Takes, Yields, Is, Becomes, Calls, Shared, Applies, Computes, NoByte, Byte, Nothing, Waits, Enters, AtOnce, Computed, Binds, Needs, GoesOn}
use Rattle.natural_semantics.specs.any.Stuck.{ForceSticks, RunSticks, TakingSticks, YieldSticks, NoName, Becoming, Calling, Sharing, AtHead, AtArguments, AtFirst, FirstIsNone, AtSecond, SecondIsNone, TakesNone, Waiting', Entering, Behind, Refused, NoFunction', Computing, Binding as Binding', AtDemand, BehindDemand, AtMoves, BehindMoves}

-- what is left of a state without its units, its nesting and its count
abbrev pub world : {F : Type 0} → StateOf F → WorldOf F
world s = record { heap = s.heap; input = s.input }

-- an answer that is a value is derived, and so is one that nothing accepts
pub data Meets {F : Type 0} (R : ValueOf F → WorldOf F → Type 0) (S : Type 0) : AnswerOf F
    → Type 0 where
  Derived : {v : ValueOf F} {s : StateOf F} → R v (world s) → Meets R S (Gives v s)
  Stuck : {s : StateOf F} → S → Meets R S (NoAlternative s)
  Cut : {s : StateOf F} → Meets R S (OutOfBound s)

then_meets : {F : Type 0} {R R' : ValueOf F → WorldOf F → Type 0} {S S' : Type 0} {r : AnswerOf F}
    (go : ValueOf F → StateOf F → AnswerOf F) → Meets R S r
    → ((v : ValueOf F) (s : StateOf F) → R v (world s) → Meets R' S' (go v s)) → (S → S')
    → Meets R' S' (and_then r go)
then_meets go (Derived {v = v} {s = s} m) g h = g v s m
then_meets go (Stuck m) g h = Stuck (h m)
then_meets go Cut g h = Cut

as_meets : {F : Type 0} {R R' : ValueOf F → WorldOf F → Type 0} {S S' : Type 0} {r : AnswerOf F}
    → Meets R S r
    → ((v : ValueOf F) (w : WorldOf F) → R v w → R' v w) → (S → S') → Meets R' S' r
as_meets (Derived {v = v} {s = s} m) g h = Derived (g v (world s) m)
as_meets (Stuck m) g h = Stuck (h m)
as_meets Cut g h = Cut

-- a lookup that fails is refused, or no answer
lost_meets : {F : Type 0} {R : ValueOf F → WorldOf F → Type 0} {S : Type 0} (b : Bool)
    (s : StateOf F) → (b ≡ true → S) → Meets R S (lost_where b s)
lost_meets true s h = Stuck (h refl)
lost_meets false s h = Cut

-- whether a function lacks more than one name, as an order of numbers
lacks_more : (m n : ℕ) → nat_lt m n ≡ true → m < n
lacks_more m n e = ltb-true m n e

lacks_one : (m n : ℕ) → nat_lt m n ≡ false → n ≤ m
lacks_one m n e = ltb-false m n e

module _ {F : Type 0} (p : ProgramOf F) where
  -- what the relations say of evaluations in a world
  abbrev Forced : WorldOf F → ℕ → AnswerOf F → Type 0
  Forced w a r = Meets (λ v w'. Forces p w a v w') (ForceSticks p w a) r

  abbrev Ran : WorldOf F → DelayedOf F → AnswerOf F → Type 0
  Ran w t r = Meets (λ v w'. Runs p w t v w') (RunSticks p w t) r

  abbrev Took : WorldOf F → ValueOf F → List ℕ → AnswerOf F → Type 0
  Took w u bs r = Meets (λ v w'. Takes p w u bs v w') (TakingSticks p w u bs) r

  abbrev Had : WorldOf F → Moves F → AnswerOf F → Type 0
  Had w m r = Meets (λ v w'. Yields p w m v w') (YieldSticks p w m) r

  module _ (onward : DelayedEvaluatorOf F)
      (on : (t : DelayedOf F) (d : ℕ) (s : StateOf F) → Ran (world s) t (onward t d s)) where
    forced : (a d : ℕ) (s : StateOf F) → Forced (world s) a (force p onward a d s)
    forced a d s = go (slice_get s.heap a) refl
      where
        go : (o : Option (BindingOf F)) → slice_get s.heap a ≡ o
            → Forced (world s) a (force_binding p onward o a d s)
        go None e = lost_meets p.absent_is_refused s (λ x. NoName x e)
        go (Some (Known v)) e = Derived (Is e)
        go (Some (Waiting t)) e =
            then_meets (λ v s. Gives v (update s a v)) (on t (suc d) s)
            (λ v s' r. Derived (Becomes e r)) (λ x. Becoming e x)

    given_last : (u : ValueOf F) (b d : ℕ) (s : StateOf F) → Took (world s) u (b ∷ [])
        (give p onward u b d s)
    given_last (Int k) b d s = Stuck (TakesNone ANumber)
    given_last (Con c xs) b d s = Stuck (TakesNone AConstructor')
    given_last (Part f xs) b d s = go (nat_lt (suc (length xs)) (p.arity f)) refl
      where
        go : (l : Bool) → nat_lt (suc (length xs)) (p.arity f) ≡ l
            → Took (world s) (Part f xs) (b ∷ [])
            (if l then Gives (Part f (xs ++ b ∷ [])) s else onward (Call f (xs ++ b ∷ [])) d s)
        go true e = Derived (Waits (lacks_more _ _ e) Nothing)
        go false e =
            as_meets (on (Call f (xs ++ b ∷ [])) d s)
            (λ v w r. Enters (lacks_one _ _ e) r Nothing) (λ x. Entering (lacks_one _ _ e) x)

    given_more : (u : ValueOf F) (b : ℕ) (bs : List ℕ) (d : ℕ) (s : StateOf F)
        (go : ValueOf F → StateOf F → AnswerOf F)
        → ((v : ValueOf F) (s : StateOf F) → Took (world s) v bs (go v s))
        → Took (world s) u (b ∷ bs) (and_then (give p onward u b d s) go)
    given_more (Int k) b bs d s go h = Stuck (TakesNone ANumber)
    given_more (Con c xs) b bs d s go h = Stuck (TakesNone AConstructor')
    given_more (Part f xs) b bs d s go h = cases (nat_lt (suc (length xs)) (p.arity f)) refl
      where
        cases : (l : Bool) → nat_lt (suc (length xs)) (p.arity f) ≡ l
            → Took (world s) (Part f xs) (b ∷ bs)
            (and_then
            (if l then Gives (Part f (xs ++ b ∷ [])) s else onward (Call f (xs ++ b ∷ [])) d s)
            go)
        cases true e =
            as_meets (h (Part f (xs ++ b ∷ [])) s)
            (λ v w r. Waits (lacks_more _ _ e) r) (λ x. Waiting' (lacks_more _ _ e) x)
        cases false e =
            then_meets go (on (Call f (xs ++ b ∷ [])) d s)
            (λ u' s' r. as_meets (h u' s') (λ v w r'. Enters (lacks_one _ _ e) r r')
            (λ x. Behind (lacks_one _ _ e) r x)) (λ x. Entering (lacks_one _ _ e) x)

    took : (bs : List ℕ) (u : ValueOf F) (d : ℕ) (s : StateOf F)
        → Took (world s) u bs (give_all p onward u bs d s)
    took [] u d s = Derived Nothing
    took (b ∷ []) u d s = given_last u b d s
    took (b ∷ c ∷ bs) u d s =
        given_more u b (c ∷ bs) (suc d) s (λ w s. give_all p onward w (c ∷ bs) d s)
        (λ v s. took (c ∷ bs) v d s)

    applied : (a : ℕ) (bs : List ℕ) (d : ℕ) (s : StateOf F)
        → Ran (world s) (Apply a bs) (apply p onward a bs d s)
    applied a [] d s =
        as_meets (forced a d s) (λ v w r. Applies r Nothing) (λ x. AtHead x)
    applied a (b ∷ bs) d s =
        then_meets (λ v s. give_all p onward v (b ∷ bs) d s)
        (forced a (suc d) s)
        (λ u s' r. as_meets (took (b ∷ bs) u d s') (λ v w r'. Applies r r')
        (λ x. AtArguments r x)) (λ x. AtHead x)

    computed : (op : PrimOp) (a b d : ℕ) (s : StateOf F)
        → Ran (world s) (Prim op a b) (prim p onward op a b d s)
    computed op a b d s =
        then_meets _ (forced a (suc d) s) first (λ x. AtFirst x)
      where
        second : (i : ℤ) (w : WorldOf F) → Forces p (world s) a (Int i) w
            → (v : ValueOf F) (s'' : StateOf F)
            → Forces p w b v (world s'')
            → Ran (world s) (Prim op a b)
            (with_number v s'' (λ j. Gives (Int (primitive_result op i j)) s''))
        second i w r (Int j) s'' r' = Derived (Computes r r')
        second i w r (Con c xs) s'' r' = Stuck (SecondIsNone r r' AConstructor)
        second i w r (Part f xs) s'' r' = Stuck (SecondIsNone r r' AFunction)

        first : (u : ValueOf F) (s' : StateOf F) → Forces p (world s) a u (world s')
            → Ran (world s) (Prim op a b)
            (with_number u s'
            (λ i. and_then (force p onward b (suc d) s') (λ w s.
            with_number w s (λ j. Gives (Int (primitive_result op i j)) s))))
        first (Int i) s' r =
            then_meets _ (forced b (suc d) s')
            (λ v s'' r'. second i (world s') r v s'' r') (λ x. AtSecond r x)
        first (Con c xs) s' r = Stuck (FirstIsNone r AConstructor)
        first (Part f xs) s' r = Stuck (FirstIsNone r AFunction)

    ended : (b : BindingOf F) (d : ℕ) (s : StateOf F)
        → Had (world s) (Ends b) (ends p onward b d s)
    ended (Known v) d s = Derived AtOnce
    ended (Waiting (Call f xs)) d s =
        as_meets (on _ d s) (λ v w r. Computed r) (λ x. Computing x)
    ended (Waiting (Apply a xs)) d s =
        as_meets (applied _ _ d s) (λ v w r. Computed r) (λ x. Computing x)
    ended (Waiting (Prim op a b)) d s =
        as_meets (computed op _ _ d s) (λ v w r. Computed r) (λ x. Computing x)
    ended (Waiting (Global f)) d s =
        as_meets (on _ d s) (λ v w r. Computed r) (λ x. Computing x)
    ended (Waiting Input) d s = as_meets (on _ d s) (λ v w r. Computed r) (λ x. Computing x)

    had : (m : Moves F) (d : ℕ) (s : StateOf F) → Had (world s) m (does p onward m d s)
    had (Ends b) d s = ended b d s
    had (Adds more next) d s =
        as_meets (had (next (length s.heap)) d (append s (more (length s.heap))))
        (λ v w r. Binds r) (λ x. Binding' x)
    had (Demands a next) d s =
        then_meets _ (forced a (suc d) s)
        (λ u s' r. as_meets (had (next u) d s') (λ v w r'. Needs r r') (λ x. BehindDemand r x))
        (λ x. AtDemand x)
    had (Then moves next) d s =
        then_meets _ (had moves (suc d) s)
        (λ u s' r. as_meets (had (next u) d s') (λ v w r'. GoesOn r r') (λ x. BehindMoves r x))
        (λ x. AtMoves x)
    had Refuses d s = Stuck Refused
    had Absent d s = lost_meets p.absent_is_refused s (λ x. NoFunction' x)

    proceeded : (t : DelayedOf F) (d : ℕ) (s : StateOf F)
        → Ran (world s) t (proceed p onward t d s)
    proceeded (Call f xs) d s =
        as_meets (had (p.body f xs) d s) (λ v w r. Calls r) (λ x. Calling x)
    proceeded (Global f) d s =
        as_meets (had (p.body f []) d s) (λ v w r. Shared r) (λ x. Sharing x)
    proceeded (Apply a bs) d s = applied a bs d s
    proceeded (Prim op a b) d s = computed op a b d s
    proceeded Input d s = go s.input refl
      where
        go : (i : List ℕ) → s.input ≡ i → Ran (world s) Input (next_byte p.nil p.cons i s)
        go [] e = Derived (NoByte e)
        go (k ∷ rest) e = Derived (Byte e)

  spent : (n : ℕ) (t : DelayedOf F) (d : ℕ) (s : StateOf F)
      → ((t : DelayedOf F) (d : ℕ) (s : StateOf F) → Ran (world s) t
      (within p n t d s)) → (l : ℕ)
      → Ran (world s) t
      (spend_of l d s (proceed p (within p n) t d))
  spent n t d s on zero = Cut
  spent n t d s on (suc l) = proceeded (within p n) on t d
      (record s { left = l; depth = max s.depth d })

  ran : (n : ℕ) (t : DelayedOf F) (d : ℕ) (s : StateOf F) → Ran (world s) t
      (within p n t d s)
  ran zero t d s = Cut
  ran (suc n) t d s = spent n t d s (ran n) s.left

  -- what forcing a name by the evaluator answers is derived
  pub forced_within : (n a d : ℕ) (s : StateOf F)
      → Meets (λ v w'. Forces p (world s) a v w') (ForceSticks p (world s) a)
      (force p (within p n) a d s)
  forced_within n a d s = forced (within p n) (ran n) a d s
