-- What is derived to meet what nothing accepts the evaluator answers so, given enough units.
use Rattle.std.proofs.Common.{◌≡◌, ℕ, zero, suc, ◌+◌, ◌<◌, ◌≤◌, max, true, List, [], ◌∷◌, ◌++◌, length, refl, ap, sym, ◌∙◌, subst, arith}
use Rattle.std.specs.Prelude.{ℤ, slice_get, if◌then◌else◌}
use Rattle.std.proofs.lemmas.Bool.{lt-ltb, le-ltb}
use Rattle.core_meaning.specs.Heap.{ValueOf, Int, Part, DelayedOf, Call, Apply, Prim, Global, Input, Waiting}
use Rattle.core_meaning.specs.Forcing.{StateOf, AnswerOf, Gives, NoAlternative, and_then, with_number, spend_of, append}
use Rattle.natural_semantics.specs.World.{WorldOf, extended, NoNumber, AConstructor, AFunction, NoFunction, ANumber, AConstructor'}
use Rattle.natural_semantics.specs.any.Moves.{Moves, Ends as Ends', ProgramOf, lost_where, force_binding, force, apply, give_all, does, proceed, within}
use Rattle.natural_semantics.specs.any.Stuck.{ForceSticks, RunSticks, TakingSticks, YieldSticks, NoName, Becoming, Calling, Sharing, AtHead, AtArguments, AtFirst, FirstIsNone, AtSecond, SecondIsNone, TakesNone, Waiting', Entering, Behind, Refused, NoFunction', Computing, Binding as Binding', AtDemand, BehindDemand, AtMoves, BehindMoves}
use Rattle.natural_semantics.proofs.any.Sound.{world}
use Rattle.natural_semantics.proofs.any.Complete.{Found, Finds, forces_found, runs_found, yields_found, within_finds, heap_of}

-- the answer is that nothing accepts a value
pub record Ends {F : Type 0} (r : AnswerOf F) : Type 0 where
  pub state : StateOf F
  pub is : r ≡ NoAlternative state

-- an evaluation ends so in each state of a world that has as many units
pub record Sticks {F : Type 0} (w : WorldOf F) (c : ℕ → ℕ → StateOf F → AnswerOf F) : Type 0 where
  pub units : ℕ
  pub sticks : (n d : ℕ) (s : StateOf F) → world s ≡ w → units ≤ s.left → s.left ≤ n
      → Ends (c n d s)

at_once : {F : Type 0} (s : StateOf F) → Ends (NoAlternative s)
at_once s = record { state = s; is = refl }

ends_as : {F : Type 0} (r r' : AnswerOf F) → r' ≡ r → Ends r → Ends r'
ends_as r r' e f = record { state = f.state; is = e ∙ f.is }

ends_first : {F : Type 0} (r : AnswerOf F) (go : ValueOf F → StateOf F → AnswerOf F) → Ends r
    → Ends (and_then r go)
ends_first r go f = record { state = f.state; is = ap (λ y. and_then y go) f.is }

ends_then : {F : Type 0} (s : StateOf F) (n k l : ℕ) (v : ValueOf F) (w : WorldOf F)
    (r : AnswerOf F)
    (go : ValueOf F → StateOf F → AnswerOf F) → Found s k v w r
    → k + l ≤ s.left → s.left ≤ n →
    ((s' : StateOf F) → world s' ≡ w → l ≤ s'.left → s'.left ≤ n → Ends (go v s'))
    → Ends (and_then r go)
ends_then s n k l v w r go f le top g =
    let h = g f.state f.there (omega (arith, f.spent, le)) (omega (arith, f.kept, top)) in
    record { state = h.state; is = ap (λ y. and_then y go) f.is ∙ h.is }

no_number : {F : Type 0} (v : ValueOf F) (s : StateOf F) (go : ℤ → AnswerOf F) → NoNumber v
    → Ends (with_number v s go)
no_number v s go AConstructor = at_once s
no_number v s go AFunction = at_once s

module _ {F : Type 0} (p : ProgramOf F) where
  within_sticks : (w : WorldOf F) (t : DelayedOf F)
      (m : Sticks w (λ n d s. proceed p (within p n) t d s))
      → (n d : ℕ) (s : StateOf F)
      → world s ≡ w → suc m.units ≤ s.left → s.left ≤ n → Ends (within p n t d s)
  within_sticks w t m zero d s e le top = absurd (omega (arith, le, top))
  within_sticks w t m (suc n) d s e le top = go s.left refl
    where
      go : (l : ℕ) → s.left ≡ l → Ends (spend_of l d s (proceed p (within p n) t d))
      go zero z = absurd (omega (arith, le, z))
      go (suc l) z =
          let s' : StateOf F = record s { left = l; depth = max s.depth d } in
          m.sticks n d s' e (omega (arith, z, le)) (omega (arith, z, top))

  takes_none : (n d : ℕ) (s : StateOf F) (u : ValueOf F) (b : ℕ) (bs : List ℕ) → NoFunction u
      → Ends (give_all p (within p n) u (b ∷ bs) d s)
  takes_none n d s u b [] ANumber = at_once s
  takes_none n d s u b [] AConstructor' = at_once s
  takes_none n d s u b (c ∷ bs) ANumber = at_once s
  takes_none n d s u b (c ∷ bs) AConstructor' = at_once s

  -- a function that lacks more than one name takes one
  waiting : (w : WorldOf F) (f : F) (b : ℕ) (xs cs : List ℕ) → suc (length xs) < p.arity f
      → (m : Sticks w (λ n d s. give_all p (within p n) (Part f (xs ++ b ∷ [])) cs d s)) (n d : ℕ)
      (s : StateOf F) → world s ≡ w
      → m.units ≤ s.left → s.left ≤ n → Ends (give_all p (within p n) (Part f xs) (b ∷ cs) d s)
  waiting w f b xs [] lt m n d s e le top =
      ends_as _ _
      (ap (λ l. if l then Gives (Part f (xs ++ b ∷ [])) s
      else within p n (Call f (xs ++ b ∷ [])) d s) (lt-ltb _ _ lt))
      (m.sticks n d s e le top)
  waiting w f b xs (c ∷ cs) lt m n d s e le top =
      ends_as _ _
      (ap (λ l. and_then
      (if l then Gives (Part f (xs ++ b ∷ [])) s
      else within p n (Call f (xs ++ b ∷ [])) (suc d) s)
      (λ w s. give_all p (within p n) w (c ∷ cs) d s)) (lt-ltb _ _ lt)) (m.sticks n d s e le top)

  -- one that lacks one name alone is entered
  entering : (w : WorldOf F) (f : F) (b : ℕ) (xs cs : List ℕ) → p.arity f ≤ suc (length xs)
      → (m : Sticks w (λ n d s. proceed p (within p n) (Call f (xs ++ b ∷ [])) d s)) (n d : ℕ)
      (s : StateOf F) → world s ≡ w
      → suc m.units ≤ s.left → s.left ≤ n → Ends (give_all p (within p n) (Part f xs) (b ∷ cs) d s)
  entering w f b xs [] less m n d s e le top =
      ends_as _ _
      (ap (λ l. if l then Gives (Part f (xs ++ b ∷ [])) s
      else within p n (Call f (xs ++ b ∷ [])) d s) (le-ltb _ _ less))
      (within_sticks w _ m n d s e le top)
  entering w f b xs (c ∷ cs) less m n d s e le top =
      ends_as _ _
      (ap (λ l. and_then
      (if l then Gives (Part f (xs ++ b ∷ [])) s
      else within p n (Call f (xs ++ b ∷ [])) (suc d) s)
      (λ w s. give_all p (within p n) w (c ∷ cs) d s)) (le-ltb _ _ less))
      (ends_first _ _ (within_sticks w _ m n (suc d) s e le top))

  behind : (w w1 : WorldOf F) (f : F) (b : ℕ) (xs cs : List ℕ) (u : ValueOf F)
      → p.arity f ≤ suc (length xs)
      → (m : Finds w (λ n d s. proceed p (within p n) (Call f (xs ++ b ∷ [])) d s) u w1)
      (m' : Sticks w1 (λ n d s. give_all p (within p n) u cs d s)) (n d : ℕ) (s : StateOf F)
      → world s ≡ w
      → suc m.units + m'.units ≤ s.left → s.left ≤ n
      → Ends (give_all p (within p n) (Part f xs) (b ∷ cs) d s)
  behind w w1 f b xs [] u less m m' n d s e le top =
      let g = within_finds p w w1 (Call f (xs ++ b ∷ [])) u m n d s e (omega (arith, le)) top in
      let h = m'.sticks n d g.state g.there (omega (arith, le, g.spent))
      (omega (arith, g.kept, top)) in
      record {
        state = h.state;
        is = ap (λ l. if l then Gives (Part f (xs ++ b ∷ [])) s
            else within p n (Call f (xs ++ b ∷ [])) d s) (le-ltb _ _ less) ∙ g.is ∙ h.is;
      }
  behind w w1 f b xs (c ∷ cs) u less m m' n d s e le top =
      ends_as _ _
      (ap (λ l. and_then
      (if l then Gives (Part f (xs ++ b ∷ [])) s
      else within p n (Call f (xs ++ b ∷ [])) (suc d) s)
      (λ w s. give_all p (within p n) w (c ∷ cs) d s)) (le-ltb _ _ less))
      (ends_then s n (suc m.units) m'.units u w1 _ _
      (within_finds p w w1 (Call f (xs ++ b ∷ [])) u m n (suc d) s e (omega (arith, le)) top) le
      top
      (λ s' e' le' top'. m'.sticks n d s' e' le' top'))

  -- a name with arguments, where its value doesn't take them
  at_arguments : (w w1 : WorldOf F) (a : ℕ) (bs : List ℕ) (u : ValueOf F)
      (m : Finds w (λ n d s. force p (within p n) a d s) u w1)
      (m' : Sticks w1 (λ n d s. give_all p (within p n) u bs d s)) (n d : ℕ) (s : StateOf F)
      → world s ≡ w
      → m.units + m'.units ≤ s.left → s.left ≤ n → Ends (apply p (within p n) a bs d s)
  at_arguments w w1 a [] u m m' n d s e le top =
      let f = m.finds n d s e (omega (arith, le)) top in
      let h = m'.sticks n d f.state f.there (omega (arith, le, f.spent))
      (omega (arith, f.kept, top)) in
      record { state = h.state; is = f.is ∙ h.is }
  at_arguments w w1 a (b ∷ bs) u m m' n d s e le top =
      ends_then s n m.units m'.units u w1 _ _ (m.finds n (suc d) s e (omega (arith, le)) top) le top
      (λ s' e' le' top'. m'.sticks n d s' e' le' top')

  at_head : (w : WorldOf F) (a : ℕ) (bs : List ℕ)
      (m : Sticks w (λ n d s. force p (within p n) a d s))
      (n d : ℕ) (s : StateOf F)
      → world s ≡ w → m.units ≤ s.left → s.left ≤ n → Ends (apply p (within p n) a bs d s)
  at_head w a [] m n d s e le top = m.sticks n d s e le top
  at_head w a (b ∷ bs) m n d s e le top = ends_first _ _ (m.sticks n (suc d) s e le top)

  -- what ends as one that waits
  computing : (w : WorldOf F) (t : DelayedOf F)
      → Sticks w (λ n d s. proceed p (within p n) t d s)
      → Sticks w (λ n d s. does p (within p n) (Ends' (Waiting t)) d s)
  computing w (Call f xs) m = record {
    units = suc m.units;
    sticks = λ n d s e le top. within_sticks w _ m n d s e le top;
  }
  computing w (Global f) m = record {
    units = suc m.units;
    sticks = λ n d s e le top. within_sticks w _ m n d s e le top;
  }
  computing w Input m = record {
    units = suc m.units;
    sticks = λ n d s e le top. within_sticks w _ m n d s e le top;
  }
  computing w (Apply a xs) m = record { units = m.units; sticks = m.sticks }
  computing w (Prim op a b) m = record { units = m.units; sticks = m.sticks }

  -- a lookup that fails
  absent : (s : StateOf F) → p.absent_is_refused ≡ true → Ends (lost_where p.absent_is_refused s)
  absent s e = record { state = s; is = ap (λ b. lost_where b s) e }

  mutual
    pub force_sticks : (w : WorldOf F) (a : ℕ) → ForceSticks p w a
        → Sticks w (λ n d s. force p (within p n) a d s)
    force_sticks w a (NoName x i) = record {
      units = 0;
      sticks = λ n d s e le top. ends_as _ _
          (ap (λ o. force_binding p (within p n) o a d s)
          (ap (λ (y : WorldOf F). slice_get y.heap a) e ∙ i))
          (absent s x);
    }
    force_sticks w a (Becoming {t = t} i r) =
        let m = run_sticks w t r in
        record {
          units = suc m.units;
          sticks = λ n d s e le top. ends_as _ _
              (ap (λ o. force_binding p (within p n) o a d s) (heap_of p s w a (Waiting t) e i))
              (ends_first _ _ (within_sticks w t m n (suc d) s e le top));
        }

    run_sticks : (w : WorldOf F) (t : DelayedOf F) → RunSticks p w t
        → Sticks w (λ n d s. proceed p (within p n) t d s)
    run_sticks w t (Calling {f = f} {xs = xs} r) =
        let m = yield_sticks w (p.body f xs) r in
        record { units = m.units; sticks = λ n d s e le top. m.sticks n d s e le top }
    run_sticks w t (Sharing {f = f} r) =
        let m = yield_sticks w (p.body f []) r in
        record { units = m.units; sticks = λ n d s e le top. m.sticks n d s e le top }
    run_sticks w t (AtHead {a = a} {bs = bs} r) =
        let m = force_sticks w a r in record
        { units = m.units; sticks = λ n d s e le top. at_head w a bs m n d s e le top }
    run_sticks w t (AtArguments {w' = w1} {a = a} {bs = bs} {u = u} r r') =
        let m = forces_found p w w1 a u r in
        let m' = taking_sticks w1 u bs r' in
        record {
          units = m.units + m'.units;
          sticks
              = λ n d s e le top. at_arguments w w1 a bs u m m' n d s e le top;
        }
    run_sticks w t (AtFirst {a = a} r) =
        let m = force_sticks w a r in
        record {
          units = m.units;
          sticks = λ n d s e le top. ends_first _ _
              (m.sticks n (suc d) s e le top);
        }
    run_sticks w t (FirstIsNone {w' = w1} {a = a} {u = u} r hn) =
        let m = forces_found p w w1 a u r in
        record {
          units = m.units + 0;
          sticks = λ n d s e le top. ends_then s n m.units 0 u w1 _ _
              (m.finds n (suc d) s e (omega (arith, le)) top) le top
              (λ s' e' le' top'. no_number u s' _ hn);
        }
    run_sticks w t (AtSecond {w' = w1} {a = a} {b = b} {i = i} r r') =
        let m = forces_found p w w1 a (Int i) r in
        let m' = force_sticks w1 b r' in
        record {
          units = m.units + m'.units;
          sticks = λ n d s e le top. ends_then s n m.units m'.units (Int i) w1 _ _
              (m.finds n (suc d) s e (omega (arith, le)) top) le top
              (λ s' e' le' top'. ends_first _ _ (m'.sticks n (suc d) s' e' le' top'));
        }
    run_sticks w t (SecondIsNone {w' = w1} {w'' = w2} {a = a} {b = b} {i = i} {v = v} r r' hn) =
        let m = forces_found p w w1 a (Int i) r in
        let m' = forces_found p w1 w2 b v r' in
        record {
          units = m.units + (m'.units + 0);
          sticks = λ n d s e le top.
              ends_then s n m.units (m'.units + 0) (Int i) w1 _ _
              (m.finds n (suc d) s e (omega (arith, le)) top) le top
              (λ s' e' le' top'. ends_then s' n m'.units 0 v w2 _ _
              (m'.finds n (suc d) s' e' (omega (arith, le')) top') le' top'
              (λ s'' e'' le'' top''. no_number v s'' _ hn));
        }

    taking_sticks : (w : WorldOf F) (u : ValueOf F) (bs : List ℕ) → TakingSticks p w u bs
        → Sticks w (λ n d s. give_all p (within p n) u bs d s)
    taking_sticks w u bs (TakesNone {b = b} {bs = cs} hn)
        = record { units = 0; sticks = λ n d s e le top. takes_none n d s u b cs hn }
    taking_sticks w u bs (Waiting' {f = f} {b = b} {xs = xs} {bs = cs} lt r) =
        let m = taking_sticks w (Part f (xs ++ b ∷ [])) cs r in
        record {
          units = m.units;
          sticks = λ n d s e le top. waiting w f b xs cs lt m n d s e le
              top;
        }
    taking_sticks w u bs (Entering {f = f} {b = b} {xs = xs} {bs = cs} less r) =
        let m = run_sticks w (Call f (xs ++ b ∷ [])) r in
        record {
          units = suc m.units;
          sticks = λ n d s e le top. entering w f b xs cs less m n d s e
              le top;
        }
    taking_sticks w u bs (Behind {w' = w1} {f = f} {b = b} {xs = xs} {bs = cs} {u = u'} less r r') =
        let m = runs_found p w w1 (Call f (xs ++ b ∷ [])) u' r in
        let m' = taking_sticks w1 u' cs r' in
        record {
          units = suc m.units + m'.units;
          sticks
              = λ n d s e le top. behind w w1 f b xs cs u' less m m' n d s e le top;
        }

    pub yield_sticks : (w : WorldOf F) (moves : Moves F) → YieldSticks p w moves
        → Sticks w (λ n d s. does p (within p n) moves d s)
    yield_sticks w moves Refused = record
        { units = 0; sticks = λ n d s e le top. at_once s }
    yield_sticks w moves (NoFunction' x) = record
        { units = 0; sticks = λ n d s e le top. absent s x }
    yield_sticks w moves (Computing {t = t} r) = computing w t (run_sticks w t r)
    yield_sticks w moves (Binding' {more = more} {next = next} r) =
        let m = yield_sticks (extended w (more (length w.heap))) (next (length w.heap)) r in
        record {
          units = m.units;
          sticks = λ n d s e le top.
              let h : length w.heap ≡ length s.heap = ap (λ (y : WorldOf F). length y.heap) (sym e)
              in
              subst (λ k. Ends (does p (within p n) (next k) d (append s (more k)))) h
              (m.sticks n d (append s (more (length w.heap)))
              (ap (λ x. extended x (more (length w.heap))) e) le top);
        }
    yield_sticks w moves (AtDemand {a = a} r) =
        let m = force_sticks w a r in
        record {
          units = m.units;
          sticks = λ n d s e le top. ends_first _ _ (m.sticks n (suc d) s e le top);
        }
    yield_sticks w moves (BehindDemand {w' = w1} {a = a} {next = next} {u = u} r r') =
        let m = forces_found p w w1 a u r in
        let m' = yield_sticks w1 (next u) r' in
        record {
          units = m.units + m'.units;
          sticks = λ n d s e le top. ends_then s n m.units m'.units u w1 _ _
              (m.finds n (suc d) s e (omega (arith, le)) top) le top
              (λ s' e' le' top'. m'.sticks n d s' e' le' top');
        }
    yield_sticks w moves (AtMoves {moves = first} r) =
        let m = yield_sticks w first r in
        record {
          units = m.units;
          sticks = λ n d s e le top. ends_first _ _ (m.sticks n (suc d) s e le top);
        }
    yield_sticks w moves (BehindMoves {w' = w1} {moves = first} {next = next} {u = u} r r') =
        let m = yields_found p w w1 first u r in
        let m' = yield_sticks w1 (next u) r' in
        record {
          units = m.units + m'.units;
          sticks = λ n d s e le top. ends_then s n m.units m'.units u w1 _ _
              (m.finds n (suc d) s e (omega (arith, le)) top) le top
              (λ s' e' le' top'. m'.sticks n d s' e' le' top');
        }
