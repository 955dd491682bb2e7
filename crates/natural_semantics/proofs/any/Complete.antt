-- What is derived the evaluator answers, given enough units.
use Rattle.std.proofs.Common.{◌≡◌, ℕ, zero, suc, ◌+◌, ◌<◌, ◌≤◌, max, List, [], ◌∷◌, ◌++◌, length, Some, refl, ap, sym, ◌∙◌, subst, arith}
use Rattle.std.specs.Prelude.{slice_get, if◌then◌else◌}
use Rattle.std.proofs.lemmas.Bool.{lt-ltb, le-ltb}
use Rattle.core_meaning.specs.Heap.{ValueOf, Int, Con, Part, DelayedOf, Call, Apply, Prim, Global, Input, BindingOf, Known, Waiting}
use Rattle.core_meaning.specs.Forcing.{StateOf, AnswerOf, Gives, and_then, spend_of, append, update, next_byte}
use Rattle.natural_semantics.specs.World.{WorldOf, extended, updated, after_byte}
use Rattle.natural_semantics.specs.any.Moves.{Moves, Ends, ProgramOf, force_binding, force, apply, give_all, does, proceed, within}
use Rattle.natural_semantics.specs.any.Natural.{Forces, Runs, Takes, Yields, Is, Becomes, Calls, Shared, Applies, Computes, NoByte, Byte, Nothing, Waits, Enters, AtOnce, Computed, Binds, Needs, GoesOn}
use Rattle.natural_semantics.proofs.any.Sound.{world}

-- the answer of a state is this value in this world, for at most k units
pub record Found {F : Type 0} (s : StateOf F) (k : ℕ) (v : ValueOf F) (w : WorldOf F)
    (r : AnswerOf F) : Type 0 where
  pub state : StateOf F
  pub is : r ≡ Gives v state
  pub there : world state ≡ w
  pub spent : s.left ≤ state.left + k
  pub kept : state.left ≤ s.left

-- so does an evaluation answer in each state of a world that has as many units; it recurs as often
-- as there are units
pub record Finds {F : Type 0} (w : WorldOf F) (c : ℕ → ℕ → StateOf F → AnswerOf F) (v : ValueOf F)
    (w' : WorldOf F) : Type 0 where
  pub units : ℕ
  pub finds : (n d : ℕ) (s : StateOf F) → world s ≡ w → units ≤ s.left → s.left ≤ n
      → Found s units v w' (c n d s)

found_then : {F : Type 0} (s : StateOf F) (n k l : ℕ) (v x : ValueOf F) (w w' : WorldOf F)
    (r : AnswerOf F)
    (go : ValueOf F → StateOf F → AnswerOf F) → Found s k v w r
    → k + l ≤ s.left → s.left ≤ n
    → ((s' : StateOf F) → world s' ≡ w → l ≤ s'.left → s'.left ≤ n → Found s' l x w' (go v s'))
    → Found s (k + l) x w' (and_then r go)
found_then s n k l v x w w' r go f le top g =
    let h = g f.state f.there (omega (arith, f.spent, le)) (omega (arith, f.kept, top)) in
    record {
      state = h.state;
      is = ap (λ y. and_then y go) f.is ∙ h.is;
      there = h.there;
      spent = omega (arith, f.spent, h.spent);
      kept = omega (arith, f.kept, h.kept);
    }

-- a value that is there already
found_at_once : {F : Type 0} (s : StateOf F) (v : ValueOf F) (w : WorldOf F) (t : StateOf F)
    → world t ≡ w → t.left ≡ s.left
    → Found s 0 v w (Gives v t)
found_at_once s v w t e l = record
    { state = t; is = refl; there = e; spent = omega (arith, l); kept = omega (arith, l) }

-- the same with an answer that is equal
found_as : {F : Type 0} (s : StateOf F) (k : ℕ) (v : ValueOf F) (w : WorldOf F) (r r' : AnswerOf F)
    → r' ≡ r → Found s k v w r
    → Found s k v w r'
found_as s k v w r r' e f = record
    { state = f.state; is = e ∙ f.is; there = f.there; spent = f.spent; kept = f.kept }

module _ {F : Type 0} (p : ProgramOf F) where
  -- a unit is spent, and then all goes on
  pub within_finds : (w w' : WorldOf F) (t : DelayedOf F) (v : ValueOf F)
      (m : Finds w (λ n d s. proceed p (within p n) t d s) v w')
      → (n d : ℕ) (s : StateOf F) → world s ≡ w → suc m.units ≤ s.left → s.left ≤ n
      → Found s (suc m.units) v w' (within p n t d s)
  within_finds w w' t v m zero d s e le top = absurd (omega (arith, le, top))
  within_finds w w' t v m (suc n) d s e le top = go s.left refl
    where
      go : (l : ℕ) → s.left ≡ l → Found s (suc m.units) v w'
          (spend_of l d s (proceed p (within p n) t d))
      go zero z = absurd (omega (arith, le, z))
      go (suc l) z =
          let s' : StateOf F = record s { left = l; depth = max s.depth d } in
          let f = m.finds n d s' e (omega (arith, z, le)) (omega (arith, z, top)) in
          record {
            state = f.state;
            is = f.is;
            there = f.there;
            spent = omega (arith, z, f.spent);
            kept = omega (arith, z, f.kept);
          }

  -- what a name with arguments does
  applied_finds : (w w1 w' : WorldOf F) (a : ℕ) (bs : List ℕ) (u v : ValueOf F)
      (m : Finds w (λ n d s. force p (within p n) a d s) u w1)
      (m' : Finds w1 (λ n d s. give_all p (within p n) u bs d s) v w') (n d : ℕ) (s : StateOf F)
      → world s ≡ w
      → m.units + m'.units ≤ s.left → s.left ≤ n → Found s (m.units + m'.units) v w'
      (apply p (within p n) a bs d s)
  applied_finds w w1 w' a [] u v m m' n d s e le top =
      let f = m.finds n d s e (omega (arith, le)) top in
      let h = m'.finds n d f.state f.there (omega (arith, le, f.spent)) (omega (arith, f.kept, top))
      in
      record {
        state = h.state;
        is = f.is ∙ h.is;
        there = h.there;
        spent = omega (arith, f.spent, h.spent);
        kept = omega (arith, f.kept, h.kept);
      }
  applied_finds w w1 w' a (b ∷ bs) u v m m' n d s e le top =
      found_then s n m.units m'.units u v w1 w' _ _ (m.finds n (suc d) s e (omega (arith, le)) top)
      le top
      (λ s' e' le' top'. m'.finds n d s' e' le' top')

  -- what a function does that lacks more than one name
  waited : (w w' : WorldOf F) (f : F) (b : ℕ) (xs cs : List ℕ) (v : ValueOf F)
      → suc (length xs) < p.arity f
      → (m : Finds w (λ n d s. give_all p (within p n) (Part f (xs ++ b ∷ [])) cs d s) v w')
      (n d : ℕ) (s : StateOf F) → world s ≡ w
      → m.units ≤ s.left → s.left ≤ n → Found s m.units v w'
      (give_all p (within p n) (Part f xs) (b ∷ cs) d s)
  waited w w' f b xs [] v lt m n d s e le top =
      found_as s m.units v w' _ _
      (ap (λ l. if l then Gives (Part f (xs ++ b ∷ [])) s
      else within p n (Call f (xs ++ b ∷ [])) d s) (lt-ltb _ _ lt))
      (m.finds n d s e le top)
  waited w w' f b xs (c ∷ cs) v lt m n d s e le top =
      found_as s m.units v w' _ _
      (ap (λ l. and_then
      (if l then Gives (Part f (xs ++ b ∷ [])) s
      else within p n (Call f (xs ++ b ∷ [])) (suc d) s)
      (λ w s. give_all p (within p n) w (c ∷ cs) d s)) (lt-ltb _ _ lt))
      (m.finds n d s e le top)

  -- what one does that lacks one name alone
  entered : (w w1 w' : WorldOf F) (f : F) (b : ℕ) (xs cs : List ℕ) (u v : ValueOf F)
      → p.arity f ≤ suc (length xs)
      → (m : Finds w (λ n d s. proceed p (within p n) (Call f (xs ++ b ∷ [])) d s) u w1)
      (m' : Finds w1 (λ n d s. give_all p (within p n) u cs d s) v w') (n d : ℕ) (s : StateOf F)
      → world s ≡ w
      → suc m.units + m'.units ≤ s.left → s.left ≤ n
      → Found s (suc m.units + m'.units) v w' (give_all p (within p n) (Part f xs) (b ∷ cs) d s)
  entered w w1 w' f b xs [] u v less m m' n d s e le top =
      let g = within_finds w w1 (Call f (xs ++ b ∷ [])) u m n d s e (omega (arith, le)) top in
      let h = m'.finds n d g.state g.there (omega (arith, le, g.spent)) (omega (arith, g.kept, top))
      in
      record {
        state = h.state;
        is = ap (λ l. if l then Gives (Part f (xs ++ b ∷ [])) s
            else within p n (Call f (xs ++ b ∷ [])) d s) (le-ltb _ _ less) ∙ g.is ∙ h.is;
        there = h.there;
        spent = omega (arith, g.spent, h.spent);
        kept = omega (arith, g.kept, h.kept);
      }
  entered w w1 w' f b xs (c ∷ cs) u v less m m' n d s e le top =
      found_as s (suc m.units + m'.units) v w' _ _
      (ap (λ l. and_then
      (if l then Gives (Part f (xs ++ b ∷ [])) s
      else within p n (Call f (xs ++ b ∷ [])) (suc d) s)
      (λ w s. give_all p (within p n) w (c ∷ cs) d s)) (le-ltb _ _ less))
      (found_then s n (suc m.units) m'.units u v w1 w' _ _
      (within_finds w w1 (Call f (xs ++ b ∷ [])) u m n (suc d) s e (omega (arith, le)) top) le
      top
      (λ s' e' le' top'. m'.finds n d s' e' le' top'))

  -- what ends as one that waits: a call spends a unit, and an application and an operation don't
  computed : (w w' : WorldOf F) (t : DelayedOf F) (v : ValueOf F)
      → Finds w (λ n d s. proceed p (within p n) t d s) v w'
      → Finds w (λ n d s. does p (within p n) (Ends (Waiting t)) d s) v w'
  computed w w' (Call f xs) v m = record {
    units = suc m.units;
    finds = λ n d s e le top. within_finds w w' _ v m n d s e le top;
  }
  computed w w' (Global f) v m = record {
    units = suc m.units;
    finds = λ n d s e le top. within_finds w w' _ v m n d s e le top;
  }
  computed w w' Input v m = record {
    units = suc m.units;
    finds = λ n d s e le top. within_finds w w' _ v m n d s e le top;
  }
  computed w w' (Apply a xs) v m = record { units = m.units; finds = m.finds }
  computed w w' (Prim op a b) v m = record { units = m.units; finds = m.finds }

  pub heap_of : (s : StateOf F) (w : WorldOf F) (a : ℕ) (b : BindingOf F) → world s ≡ w
      → slice_get w.heap a ≡ Some b
      → slice_get s.heap a ≡ Some b
  heap_of s w a b e i = ap (λ (x : WorldOf F). slice_get x.heap a) e ∙ i

  mutual
    pub forces_found : (w w' : WorldOf F) (a : ℕ) (v : ValueOf F) → Forces p w a v w'
        → Finds w (λ n d s. force p (within p n) a d s) v w'
    forces_found w w' a v (Is i) = record {
      units = 0;
      finds = λ n d s e le top. found_as s 0 v w' _ _
          (ap (λ o. force_binding p (within p n) o a d s) (heap_of s w a (Known v) e i))
          (found_at_once s v w' s e refl);
    }
    forces_found w w' a v (Becomes {w' = w1} {t = t} i r) =
        let m = runs_found w w1 t v r in
        record {
          units = suc m.units;
          finds = λ n d s e le top. found_as s (suc m.units) v w' _ _
              (ap (λ o. force_binding p (within p n) o a d s) (heap_of s w a (Waiting t) e i))
              (let f = within_finds w w1 t v m n (suc d) s e le top in
              record {
                state = update f.state a v;
                is = ap (λ y. and_then y (λ v s. Gives v (update s a v))) f.is;
                there = ap (λ x. updated x a v) f.there;
                spent = f.spent;
                kept = f.kept;
              });
        }

    pub runs_found : (w w' : WorldOf F) (t : DelayedOf F) (v : ValueOf F) → Runs p w t v w'
        → Finds w (λ n d s. proceed p (within p n) t d s) v w'
    runs_found w w' t v (Calls {f = f} {xs = xs} r) =
        let m = yields_found w w' (p.body f xs) v r in
        record { units = m.units; finds = λ n d s e le top. m.finds n d s e le top }
    runs_found w w' t v (Shared {f = f} r) =
        let m = yields_found w w' (p.body f []) v r in
        record { units = m.units; finds = λ n d s e le top. m.finds n d s e le top }
    runs_found w w' t v (Applies {w' = w1} {a = a} {bs = bs} {u = u} r r') =
        let m = forces_found w w1 a u r in
        let m' = takes_found w1 w' u bs v r' in
        record {
          units = m.units + m'.units;
          finds = λ n d s e le top. applied_finds w w1 w' a bs u
              v m m' n d s e le top;
        }
    runs_found w w' t v (Computes {w' = w1} {op = op} {a = a} {b = b} {i = i} {j = j} r r') =
        let m = forces_found w w1 a (Int i) r in
        let m' = forces_found w1 w' b (Int j) r' in
        record {
          units = m.units + (m'.units + 0);
          finds = λ n d s e le top.
              found_then s n m.units (m'.units + 0) (Int i) v w1 w' _ _
              (m.finds n (suc d) s e (omega (arith, le)) top) (omega (arith, le)) top
              (λ s' e' le' top'. found_then s' n m'.units 0 (Int j) v w' w' _ _
              (m'.finds n (suc d) s' e' (omega (arith, le')) top')
              (omega (arith, le')) top'
              (λ s'' e'' le'' top''. found_at_once s'' v w' s'' e'' refl));
        }
    runs_found w w' t v (NoByte i) = record {
      units = 0;
      finds = λ n d s e le top. found_as s 0 v w' _ _
          (ap (λ x. next_byte p.nil p.cons x s) (ap (λ (x : WorldOf F). x.input) e ∙ i))
          (found_at_once s v w' s e refl);
    }
    runs_found w w' t v (Byte {k = k} {rest = rest} i) = record {
      units = 0;
      finds = λ n d s e le top. found_as s 0 v w' _ _
          (ap (λ x. next_byte p.nil p.cons x s) (ap (λ (x : WorldOf F). x.input) e ∙ i))
          (subst (λ (x : WorldOf F). Found s 0
          (Con (p.cons) (length x.heap ∷ suc (length x.heap) ∷ []))
          (after_byte x k rest)
          (next_byte p.nil p.cons (k ∷ rest) s)) e (found_at_once s _ _ _ refl refl));
    }

    takes_found : (w w' : WorldOf F) (u : ValueOf F) (bs : List ℕ) (v : ValueOf F)
        → Takes p w u bs v w'
        → Finds w (λ n d s. give_all p (within p n) u bs d s) v w'
    takes_found w w' u bs v Nothing = record
        { units = 0; finds = λ n d s e le top. found_at_once s v w' s e refl }
    takes_found w w' u bs v (Waits {f = f} {b = b} {xs = xs} {bs = cs} lt r) =
        let m = takes_found w w' (Part f (xs ++ b ∷ [])) cs v r in
        record {
          units = m.units;
          finds = λ n d s e le top. waited w w' f b xs cs v lt m n d s e le
              top;
        }
    takes_found w w' u bs v (Enters {w' = w1} {f = f} {b = b} {xs = xs} {bs = cs} {u = u'} le r r')
        =
        let m = runs_found w w1 (Call f (xs ++ b ∷ [])) u' r in
        let m' = takes_found w1 w' u' cs v r' in
        record {
          units = suc m.units + m'.units;
          finds
              = λ n d s e less top. entered w w1 w' f b xs cs u' v le m m' n d s e less top;
        }

    pub yields_found : (w w' : WorldOf F) (moves : Moves F) (v : ValueOf F)
        → Yields p w moves v w' → Finds w (λ n d s. does p (within p n) moves d s) v w'
    yields_found w w' moves v AtOnce = record
        { units = 0; finds = λ n d s e le top. found_at_once s v w' s e refl }
    yields_found w w' moves v (Computed {t = t} r) = computed w w' t v (runs_found w w' t v r)
    yields_found w w' moves v (Binds {more = more} {next = next} r) =
        let m = yields_found (extended w (more (length w.heap))) w' (next (length w.heap)) v r in
        record {
          units = m.units;
          finds = λ n d s e le top.
              let h : length w.heap ≡ length s.heap = ap (λ (y : WorldOf F). length y.heap) (sym e)
              in
              subst (λ k. Found s m.units v w'
              (does p (within p n) (next k) d (append s (more k)))) h
              (let f = m.finds n d (append s (more (length w.heap)))
              (ap (λ x. extended x (more (length w.heap))) e) le top in
              record {
                state = f.state;
                is = f.is;
                there = f.there;
                spent = f.spent;
                kept = f.kept;
              });
        }
    yields_found w w' moves v (Needs {w' = w1} {a = a} {next = next} {u = u} r r') =
        let m = forces_found w w1 a u r in
        let m' = yields_found w1 w' (next u) v r' in
        record {
          units = m.units + m'.units;
          finds = λ n d s e le top.
              found_then s n m.units m'.units u v w1 w' _ _
              (m.finds n (suc d) s e (omega (arith, le)) top) le top
              (λ s' e' le' top'. m'.finds n d s' e' le' top');
        }
    yields_found w w' moves v (GoesOn {w' = w1} {moves = first} {next = next} {u = u} r r') =
        let m = yields_found w w1 first u r in
        let m' = yields_found w1 w' (next u) v r' in
        record {
          units = m.units + m'.units;
          finds = λ n d s e le top.
              found_then s n m.units m'.units u v w1 w' _ _
              (m.finds n (suc d) s e (omega (arith, le)) top) le top
              (λ s' e' le' top'. m'.finds n d s' e' le' top');
        }
