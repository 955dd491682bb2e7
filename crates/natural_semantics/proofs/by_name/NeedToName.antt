-- What evaluation by need derives evaluation by name does, by induction on the derivation.
use Rattle.std.proofs.Common.{◌≡◌, ◌≢◌, ℕ, suc, ◌<◌, ◌≤◌, Bool, true, false, List, [], ◌∷◌, ◌++◌, map, length, Some, refl, ap, sym, ◌∙◌, subst, arith, inl, inr, slice_get, length-append}
use Rattle.std.specs.Prelude.{◌⊎◌, ◌==◌, ℤ, if◌then◌else◌}
use Rattle.std.proofs.lemmas.Bool.{eq-eqb}
use Rattle.std.proofs.lemmas.List.{length-set}
use Rattle.std.proofs.lemmas.Option.{slice_get_within, same_Some}
use Rattle.seq.proofs.Lists.{all_get}
use Rattle.arity_check.specs.declared.normal.PrimOp.{PrimOp}
use Rattle.arity_check.specs.Program.{Program, Function, Term, Branches}
use Rattle.core_meaning.specs.Heap.{Value, Int, Con, Part, Delayed, Call, Apply, Prim, Global, Input, Known, Waiting, Env, with_local, with_locals}
use Rattle.core_meaning.specs.Numbers.{primitive_result}
use Rattle.core_meaning.specs.Evaluation.{params, params_of, binding, parameters, fields_of, nil, cons}
use Rattle.core_meaning.specs.WellFormed.{InLocals, HasParams, TermOk, BranchesOk, FunOk, WellFormed}
use Rattle.natural_semantics.specs.World.{World, extended, updated, after_byte}
use Rattle.natural_semantics.specs.Natural as need
use Rattle.natural_semantics.specs.ByName.{Meant, Number, Built, Lacks, CallOf, ApplyOf, PrimOf, Rest, Meants, Few, Sense, and_last, nth, with_meant, with_meants, form, in_group, parts_of, Means, Takes, Evaluates, Selects, OfCall, OfGlobal, OfApply, OfPrim, NoByte, OfMember, Nothing, Waits, Enters, OfForm, OfLet, OfCase, OfCon, OfInt, OfAny, OfNamed, PastCon, PastInt}
use Rattle.natural_semantics.proofs.by_name.Related.{Rel, Each, NoneLeft, Both, each_more, each_count, each_last, each_nth, Same, SameNumber, SameCon, SamePart, Delays, DelaysCall, DelaysApply, DelaysPrim, DelaysGlobal, DelaysMember, Fits, Grows, grows_not, grows_then, updated_fits}
use Rattle.natural_semantics.proofs.by_name.Named.{form_known, form_waits, no_input, input_is, input_rest, Knows, InScope, inner_knows, group_grows, grown}
use Rattle.natural_semantics.proofs.by_name.Steps.{with_fields, same_con, same_int, fields_known, valued, value_grows, byted, byte_grows, read_gives}

module _ (p : Program) (ok : WellFormed p) where
  -- A derivation by need, of a value in a world, has a relation for the world behind it, in which
  -- the
  -- value stands for one that is derived by name. So it is for all that may stand at its begin.
  pub record Found (R : Rel) (w w' : World) (v : Value) (A : Type 0) (Gives : A → Meant → Type 0)
      : Type 1 where
    pub rel : Rel
    pub grows : Grows p R w rel w'
    pub gives : (x : A) → (u : Meant) × (Gives x u × Same p rel v u)

  abbrev pub Forced : World → World → ℕ → Value → Type 1
  Forced w w' a v = (R : Rel) → Fits p R w
      → Found R w w' v ((m : Meant) × R a m) (λ x u. Means p x.0 u)

  pub data Reads (w : World) : Value → World → Type 0 where
    NoneLeft' : w.input ≡ [] → Reads w (Con (nil p) []) w
    OneByte : {k : ℕ} {rest : List ℕ} → w.input ≡ k ∷ rest
        → Reads w (Con (cons p) (length w.heap ∷ (suc (length w.heap) ∷ []))) (after_byte w k rest)

  pub record Ran (w w' : World) (t : Delayed) (v : Value) : Type 1 where
    pub general : t ≢ Input → (R : Rel) → Fits p R w
        → Found R w w' v ((m : Meant) × Delays p R w.input t m) (λ x u. Means p x.0 u)
    pub reads : t ≡ Input → Reads w v w'

  abbrev pub Took : World → World → Value → List ℕ → Value → Type 1
  Took w w' u bs v = (R : Rel) → Fits p R w
      → Found R w w' v ((x : Meant) × ((ms : Meants) × (Same p R u x × Each R bs ms)))
      (λ x y. Takes p x.0 x.1.0 y)

  abbrev pub Had : World → World → Env → Term → Value → Type 1
  Had w w' env e v = (S : ℕ → Type 0) → TermOk p S e → (R : Rel) → Fits p R w
      → Found R w w' v ((s : Sense) × Knows p R S env s) (λ x u. Evaluates p x.0 e u)

  abbrev pub Chose : World → World → Env → Branches → Value → Value → Type 1
  Chose w w' env bs u v = (S : ℕ → Type 0) → BranchesOk p S bs → (R : Rel) → Fits p R w
      → Found R w w' v ((s : Sense) × ((x : Meant) × (Knows p R S env s × Same p R u x)))
      (λ x y. Selects p x.0 bs x.1.0 y)

  -- ---- names

  becomes : (w w' : World) (a : ℕ) (t : Delayed) (v : Value)
      → slice_get w.heap a ≡ Some (Waiting t) → t ≢ Input → Ran w w' t v
      → Forced w (updated w' a v) a v
  becomes w w' a t v i n r R fits =
      let f = r.general n R fits in
      let lt = slice_get_within w.heap a (Waiting t) i in
      let l = f.grows.longer in
      let e = length-set w'.heap a (Known v) in
      record {
        rel = f.rel;
        grows = record {
          more = f.grows.more;
          old = f.grows.old;
          longer = omega (arith, e, l);
          fits = updated_fits p f.rel w' a v (omega (arith, lt, l)) f.grows.fits
              (λ m q. f.gives (m, fits.waits a m t (f.grows.old a m lt q) i));
        };
        gives = λ x. f.gives (x.0, fits.waits a x.0 t x.1 i);
      }

  nothing_read : (w : World) (a : ℕ) (R : Rel) → Fits p R w
      → slice_get w.heap a ≡ Some (Waiting Input) → w.input ≡ [] → (m : Meant) → R a m
      → (u : Meant) × (Means p m u × Same p R (Con (nil p) []) u)
  nothing_read w a R fits i e m r = (
    Built (nil p) Few,
    (
      subst (λ n. Means p n (Built (nil p) Few))
          (input_rest p w.input m (input_is p R w.input Input m (fits.waits a m Input r i) refl))
          (subst (λ j. Means p (Rest j) (Built (nil p) Few)) (sym e) NoByte),
      SameCon ok.nil_fields NoneLeft,
    ),
  )

  becomes_input : (w w' : World) (a : ℕ) (v : Value) → slice_get w.heap a ≡ Some (Waiting Input)
      → Reads w v w' → Forced w (updated w' a v) a v
  becomes_input w w' a v i (NoneLeft' e) R fits =
      let lt = slice_get_within w.heap a (Waiting Input) i in
      let l = length-set w.heap a (Known (Con (nil p) [])) in
      record {
        rel = R;
        grows = record {
          more = λ b m r. r;
          old = λ b m q r. r;
          longer = omega (arith, l);
          fits = updated_fits p R w a (Con (nil p) []) lt fits (nothing_read w a R fits i e);
        };
        gives = λ x. nothing_read w a R fits i e x.0 x.1;
      }
  becomes_input w w' a v i (OneByte {k = k} {rest = rest} e) R fits = record {
    rel = byted p ok w R fits a k rest e i;
    grows = byte_grows p ok w R fits a k rest e i;
    gives = λ x. read_gives p ok w R fits a k rest e i x.0 x.1;
  }

  forced_by : (w w' : World) (a : ℕ) (t : Delayed) (v : Value)
      → slice_get w.heap a ≡ Some (Waiting t) → Ran w w' t v → Forced w (updated w' a v) a v
  forced_by w w' a (Call f xs) v i r = becomes w w' a (Call f xs) v i (λ q. cc) r
  forced_by w w' a (Apply b bs) v i r = becomes w w' a (Apply b bs) v i (λ q. cc) r
  forced_by w w' a (Prim op b c) v i r = becomes w w' a (Prim op b c) v i (λ q. cc) r
  forced_by w w' a (Global f) v i r = becomes w w' a (Global f) v i (λ q. cc) r
  forced_by w w' a Input v i r = becomes_input w w' a v i (r.reads refl)

  -- ---- what waits, by name

  call_gives : (R rel : Rel) (j : List ℕ) (f : ℕ) (xs : List ℕ) (v : Value) (g : Function)
      → slice_get p.funs f ≡ Some g
      → ((ms : Meants) → HasParams p f (λ n. n ≡ length xs) → Each R xs ms
      → (u : Meant) × (Evaluates p (nth ms) g.body u × Same p rel v u)) → (m : Meant)
      → Delays p R j (Call f xs) m → (u : Meant) × (Means p m u × Same p rel v u)
  call_gives R rel j f xs v g q k m (DelaysCall h e) =
      let r = k _ h e in (r.0, (OfCall g q r.1.0, r.1.1))
  call_gives R rel j f xs v g q k m (DelaysMember {s = s} {group = group} {f = form'} d) =
      let r = call_gives R rel j f xs v g q k (form (in_group s group) form') d in
      (r.0, (OfMember r.1.0, r.1.1))

  called : (w w' : World) (f : ℕ) (xs : List ℕ) (v : Value) (g : Function)
      → slice_get p.funs f ≡ Some g → Had w w' (parameters xs) g.body v → (R : Rel) → Fits p R w
      → Found R w w' v ((m : Meant) × Delays p R w.input (Call f xs) m) (λ x u. Means p x.0 u)
  called w w' f xs v g q h R fits =
      let r = h (λ x. x < g.params) (all_get (FunOk p) p.funs f g ok.bodies q) R fits in
      record {
        rel = r.rel;
        grows = r.grows;
        gives = λ x. call_gives R r.rel w.input f xs v g q
            (λ ms c e. r.gives (
              nth ms,
              λ y lt.
                  let same : c.0.params ≡ g.params
                  = ap (λ (f : Function). f.params) (same_Some c.0 g (sym c.1 ∙ q)) in
                  let l = c.2 in
                  each_nth R xs ms e y (omega (arith, lt, same, l)),
            ))
            x.0 x.1;
      }

  global_gives : (R rel : Rel) (j : List ℕ) (f : ℕ) (v : Value) (g : Function)
      → slice_get p.funs f ≡ Some g
      → (HasParams p f (λ n. n ≡ 0)
      → (u : Meant) × (Evaluates p (nth Few) g.body u × Same p rel v u)) → (m : Meant)
      → Delays p R j (Global f) m → (u : Meant) × (Means p m u × Same p rel v u)
  global_gives R rel j f v g q k m (DelaysGlobal h) =
      let r = k h in (r.0, (OfGlobal g q r.1.0, r.1.1))
  global_gives R rel j f v g q k m (DelaysMember {s = s} {group = group} {f = form'} d) =
      let r = global_gives R rel j f v g q k (form (in_group s group) form') d in
      (r.0, (OfMember r.1.0, r.1.1))

  shared : (w w' : World) (f : ℕ) (v : Value) (g : Function)
      → slice_get p.funs f ≡ Some g → Had w w' (parameters []) g.body v → (R : Rel) → Fits p R w
      → Found R w w' v ((m : Meant) × Delays p R w.input (Global f) m) (λ x u. Means p x.0 u)
  shared w w' f v g q h R fits =
      let r = h (λ x. x < g.params) (all_get (FunOk p) p.funs f g ok.bodies q) R fits in
      record {
        rel = r.rel;
        grows = r.grows;
        gives = λ x. global_gives R r.rel w.input f v g q
            (λ c. r.gives (
              nth Few,
              λ y lt.
                  let same : c.0.params ≡ g.params
                  = ap (λ (f : Function). f.params) (same_Some c.0 g (sym c.1 ∙ q)) in
                  let l = c.2 in absurd (omega (arith, lt, same, l)),
            ))
            x.0 x.1;
      }

  apply_gives : (R rel : Rel) (j : List ℕ) (a : ℕ) (bs : List ℕ) (v : Value)
      → ((n : Meant) (ms : Meants) → R a n → Each R bs ms
      → (u : Meant) × (Means p (ApplyOf n ms) u × Same p rel v u)) → (m : Meant)
      → Delays p R j (Apply a bs) m → (u : Meant) × (Means p m u × Same p rel v u)
  apply_gives R rel j a bs v k m (DelaysApply r e) = k _ _ r e
  apply_gives R rel j a bs v k m (DelaysMember {s = s} {group = group} {f = form'} d) =
      let r = apply_gives R rel j a bs v k (form (in_group s group) form') d in
      (r.0, (OfMember r.1.0, r.1.1))

  applied : (w w1 w' : World) (a : ℕ) (bs : List ℕ) (u v : Value) → Forced w w1 a u
      → Took w1 w' u bs v → (R : Rel) → Fits p R w
      → Found R w w' v ((m : Meant) × Delays p R w.input (Apply a bs) m) (λ x u. Means p x.0 u)
  applied w w1 w' a bs u v h h' R fits =
      let r = h R fits in
      let r' = h' r.rel r.grows.fits in
      record {
        rel = r'.rel;
        grows = grows_then p R r.rel r'.rel w w1 w' r.grows r'.grows;
        gives = λ x. apply_gives R r'.rel w.input a bs v
            (λ n ms q e. let k = r.gives (n, q) in
            let k' = r'.gives (k.0, (ms, (k.1.1, each_more R r.rel r.grows.more bs ms e))) in
            (k'.0, (OfApply k.1.0 k'.1.0, k'.1.1)))
            x.0 x.1;
      }

  pub number_is : (R : Rel) (i : ℤ) (u : Meant) → Same p R (Int i) u → u ≡ Number i
  number_is R i u SameNumber = refl

  prim_gives : (R rel : Rel) (j : List ℕ) (op : PrimOp) (a b : ℕ) (v : Value)
      → ((m n : Meant) → R a m → R b n
      → (u : Meant) × (Means p (PrimOf op m n) u × Same p rel v u)) → (m : Meant)
      → Delays p R j (Prim op a b) m → (u : Meant) × (Means p m u × Same p rel v u)
  prim_gives R rel j op a b v k m (DelaysPrim r r') = k _ _ r r'
  prim_gives R rel j op a b v k m (DelaysMember {s = s} {group = group} {f = form'} d) =
      let r = prim_gives R rel j op a b v k (form (in_group s group) form') d in
      (r.0, (OfMember r.1.0, r.1.1))

  computed : (w w1 w' : World) (op : PrimOp) (a b : ℕ) (i j : ℤ) → Forced w w1 a (Int i)
      → Forced w1 w' b (Int j) → (R : Rel) → Fits p R w
      → Found R w w' (Int (primitive_result op i j))
      ((m : Meant) × Delays p R w.input (Prim op a b) m) (λ x u. Means p x.0 u)
  computed w w1 w' op a b i j h h' R fits =
      let r = h R fits in
      let r' = h' r.rel r.grows.fits in
      record {
        rel = r'.rel;
        grows = grows_then p R r.rel r'.rel w w1 w' r.grows r'.grows;
        gives = λ x. prim_gives R r'.rel w.input op a b (Int (primitive_result op i j))
            (λ m n q q'. let k = r.gives (m, q) in
            let k' = r'.gives (n, r.grows.more b n q') in (
              Number (primitive_result op i j),
              (
                OfPrim
                    (subst (λ u. Means p m u) (number_is r.rel i k.0 k.1.1) k.1.0)
                    (subst (λ u. Means p n u) (number_is r'.rel j k'.0 k'.1.1) k'.1.0),
                SameNumber,
              ),
            ))
            x.0 x.1;
      }

  -- ---- arguments

  nothing_gives : (R : Rel) (v : Value) (x : Meant) (ms : Meants) → Same p R v x → Each R [] ms
      → (y : Meant) × (Takes p x ms y × Same p R v y)
  nothing_gives R v x ms s NoneLeft = (x, (Nothing, s))

  waits_gives : (R rel : Rel) (f b : ℕ) (xs bs : List ℕ) (v : Value)
      → suc (length xs) < params p f
      → ((y : Meant) (ns : Meants) → Same p R (Part f (xs ++ b ∷ [])) y → Each R bs ns
      → (z : Meant) × (Takes p y ns z × Same p rel v z)) → (x : Meant) (ms : Meants)
      → Same p R (Part f xs) x → Each R (b ∷ bs) ms
      → (z : Meant) × (Takes p x ms z × Same p rel v z)
  waits_gives R rel f b xs bs v lt k x ms (SamePart {ms = given} h e) (Both {m = m} {ms = ns} r e')
      =
      let l = length-append xs (b ∷ []) in
      let same : params p f ≡ h.0.params = ap (params_of p) h.1 in
      let c = each_count R xs given e in
      let z = k (Lacks f (and_last given m)) ns
      (SamePart (h.0, h.1, omega (arith, lt, l, same)) (each_last R xs given b m e r)) e' in
      (z.0, (Waits (omega (arith, lt, c)) z.1.0, z.1.1))

  enters_gives : (R rel rel' : Rel) (f b : ℕ) (xs bs : List ℕ) (u v : Value)
      → params p f ≤ suc (length xs) → ((a : ℕ) (m : Meant) → R a m → rel a m)
      → ((ms : Meants) → HasParams p f (λ n. n ≡ length (xs ++ b ∷ []))
      → Each R (xs ++ b ∷ []) ms → (y : Meant) × (Means p (CallOf f ms) y × Same p rel u y))
      → ((y : Meant) (ns : Meants) → Same p rel u y → Each rel bs ns
      → (z : Meant) × (Takes p y ns z × Same p rel' v z)) → (x : Meant) (ms : Meants)
      → Same p R (Part f xs) x → Each R (b ∷ bs) ms
      → (z : Meant) × (Takes p x ms z × Same p rel' v z)
  enters_gives R rel rel' f b xs bs u v le up k k' x ms
      (SamePart {ms = given} h e) (Both {m = m} {ms = ns} r e') =
      let l = length-append xs (b ∷ []) in
      let same : params p f ≡ h.0.params = ap (params_of p) h.1 in
      let c = each_count R xs given e in
      let lt = h.2 in
      let y = k (and_last given m) (h.0, h.1, omega (arith, le, l, same, lt))
      (each_last R xs given b m e r) in
      let z = k' y.0 ns y.1.1 (each_more R rel up bs ns e') in
      (z.0, (Enters (omega (arith, le, c)) y.1.0 z.1.0, z.1.1))

  -- ---- a local more

  pub local_knows : (R : Rel) (S : ℕ → Type 0) (env : Env) (s : Sense) → Knows p R S env s
      → (x a : ℕ) (m : Meant) → R a m
      → Knows p R (λ y. S y ⊎ (y ≡ x)) (with_local env x a) (with_meant s x m)
  local_knows R S env s e x a m r y i = go i (y == x) refl
    where
      go : S y ⊎ (y ≡ x) → (l : Bool) → (y == x) ≡ l
          → R (if y == x then a else env y) (if y == x then m else s y)
      go j true q = subst (λ b. R (if b then a else env y) (if b then m else s y)) (sym q) r
      go (inl j) false q =
          subst (λ b. R (if b then a else env y) (if b then m else s y)) (sym q) (e y j)
      go (inr j) false q = absurd (let w : true ≡ false = sym (eq-eqb y x j) ∙ q in cc)

  -- ---- the induction

  mutual
    pub forced : (w w' : World) (a : ℕ) (v : Value) → need.Forces p w a v w' → Forced w w' a v
    forced w w' a v (need.Is i) R fits = record {
      rel = R;
      grows = grows_not p R w fits;
      gives = λ x. fits.known a x.0 v x.1 i;
    }
    forced w w' a v (need.Becomes {w' = w1} {t = t} i r) R fits =
        forced_by w w1 a t v i (ran w w1 t v r) R fits

    pub ran : (w w' : World) (t : Delayed) (v : Value) → need.Runs p w t v w' → Ran w w' t v
    ran w w' t v (need.Calls {f = f} {xs = xs} g i r) = record {
      general = λ n R fits. called w w' f xs v g i (had w w' (parameters xs) g.body v r) R fits;
      reads = λ q. absurd cc;
    }
    ran w w' t v (need.Shared {f = f} g i r) = record {
      general = λ n R fits. shared w w' f v g i (had w w' (parameters []) g.body v r) R fits;
      reads = λ q. absurd cc;
    }
    ran w w' t v (need.Applies {w' = w1} {a = a} {bs = bs} {u = u} r r') = record {
      general = λ n R fits.
          applied w w1 w' a bs u v (forced w w1 a u r) (took w1 w' u bs v r') R fits;
      reads = λ q. absurd cc;
    }
    ran w w' t v (need.Computes {w' = w1} {op = op} {a = a} {b = b} {i = i} {j = j} r r') = record {
      general = λ n R fits.
          computed w w1 w' op a b i j (forced w w1 a (Int i) r) (forced w1 w' b (Int j) r') R fits;
      reads = λ q. absurd cc;
    }
    ran w w' t v (need.NoByte i) = record {
      general = λ n R fits. absurd (n refl);
      reads = λ q. NoneLeft' i;
    }
    ran w w' t v (need.Byte i) = record {
      general = λ n R fits. absurd (n refl);
      reads = λ q. OneByte i;
    }

    pub took : (w w' : World) (u : Value) (bs : List ℕ) (v : Value) → need.Takes p w u bs v w'
        → Took w w' u bs v
    took w w' u bs v need.Nothing R fits = record {
      rel = R;
      grows = grows_not p R w fits;
      gives = λ x. nothing_gives R v x.0 x.1.0 x.1.1.0 x.1.1.1;
    }
    took w w' u bs v (need.Waits {f = f} {b = b} {xs = xs} {bs = cs} lt r) R fits =
        let h = took w w' (Part f (xs ++ b ∷ [])) cs v r R fits in
        record {
          rel = h.rel;
          grows = h.grows;
          gives = λ x. waits_gives R h.rel f b xs cs v lt
              (λ y ns s e. h.gives (y, (ns, (s, e)))) x.0 x.1.0 x.1.1.0 x.1.1.1;
        }
    took w w' u bs v
        (need.Enters {w' = w1} {f = f} {b = b} {xs = xs} {bs = cs} {u = y} le r r') R fits =
        let run = ran w w1 (Call f (xs ++ b ∷ [])) y r in
        let h = run.general (λ q. cc) R fits in
        let h' = took w1 w' y cs v r' h.rel h.grows.fits in
        record {
          rel = h'.rel;
          grows = grows_then p R h.rel h'.rel w w1 w' h.grows h'.grows;
          gives = λ x. enters_gives R h.rel h'.rel f b xs cs y v le h.grows.more
              (λ ms c e. h.gives (CallOf f ms, DelaysCall c e))
              (λ z ns s e. h'.gives (z, (ns, (s, e)))) x.0 x.1.0 x.1.1.0 x.1.1.1;
        }

    pub had : (w w' : World) (env : Env) (e : Term) (v : Value) → need.Evaluates p w env e v w'
        → Had w w' env e v
    had w w' env e v (need.AtOnce {f = f} i) S c R fits = record {
      rel = R;
      grows = grows_not p R w fits;
      gives = λ x. let k = form_known p R S env x.0 x.1 fits.shared f c v i in
          (k.0, (OfForm k.1.0, k.1.1));
    }
    had w w' env e v (need.Computed {f = f} {t = t} i r) S c R fits =
        let run = ran w w' t v r in
        let h = run.general (no_input p env f t i) R fits in
        record {
          rel = h.rel;
          grows = h.grows;
          gives = λ x. let k = h.gives
              (form x.0 f, form_waits p R S env x.0 x.1 fits.shared w.input f c t i) in
              (k.0, (OfForm k.1.0, k.1.1));
        }
    had w w' env e v (need.Binds {group = group} {body = body} inner i r) S c R fits =
        let g = group_grows p w S env group R fits c.0 inner i in
        let h = had (extended w (map (λ b. binding p inner b.flat) group)) w' inner body v r
        (InScope p S group) c.1 (grown p w S env group R fits c.0 inner i) g.fits in
        record {
          rel = h.rel;
          grows = grows_then p R (grown p w S env group R fits c.0 inner i) h.rel w
              (extended w (map (λ b. binding p inner b.flat) group)) w' g h.grows;
          gives = λ x. let k = h.gives (
            in_group x.0 group,
            inner_knows p w S env group R fits c.0 inner i x.0 x.1,
          ) in
              (k.0, (OfLet k.1.0, k.1.1));
        }
    had w w' env e v
        (need.Chooses {w' = w1} {tested = tested} {branches = branches} {u = u} r r') S c R fits =
        let h = had w w1 env tested u r S c.0 R fits in
        let h' = chose w1 w' env branches u v r' S c.1 h.rel h.grows.fits in
        record {
          rel = h'.rel;
          grows = grows_then p R h.rel h'.rel w w1 w' h.grows h'.grows;
          gives = λ x. let k = h.gives x in
              let k' = h'.gives (
                x.0,
                (
                  k.0,
                  (
                    (λ y i. h.grows.more (env y) (x.0 y) (x.1 y i)),
                    k.1.1,
                  ),
                ),
              ) in
              (k'.0, (OfCase k.1.0 k'.1.0, k'.1.1));
        }

    chose : (w w' : World) (env : Env) (bs : Branches) (u v : Value)
        → need.Selects p w env bs u v w' → Chose w w' env bs u v
    chose w w' env bs u v (need.OfCon {c = d} {xs = xs} {body = body} i r) S c R fits =
        let h = had w w' (with_locals env xs (fields_of u)) body v r
        (λ x. S x ⊎ InLocals xs x) c.1 R fits in
        record {
          rel = h.rel;
          grows = h.grows;
          gives = λ x. let f = fields_known p R d xs u x.1.0 x.1.1.1 i c.0 in
              let k = h.gives (
                with_meants x.0 xs (parts_of x.1.0),
                with_fields p R env x.0 S x.1.1.0 (fields_of u) xs (parts_of x.1.0) f.0 f.1,
              ) in
              (k.0, (OfCon (sym (same_con p R d u x.1.0 x.1.1.1) ∙ i) k.1.0, k.1.1));
        }
    chose w w' env bs u v (need.OfInt {k = n} {body = body} i r) S c R fits =
        let h = had w w' env body v r S c.0 R fits in
        record {
          rel = h.rel;
          grows = h.grows;
          gives = λ x. let k = h.gives (x.0, x.1.1.0) in
              (k.0, (OfInt (sym (same_int p R n u x.1.0 x.1.1.1) ∙ i) k.1.0, k.1.1));
        }
    chose w w' env bs u v (need.OfAny {body = body} r) S c R fits =
        let h = had w w' env body v r S c.0 R fits in
        record {
          rel = h.rel;
          grows = h.grows;
          gives = λ x. let k = h.gives (x.0, x.1.1.0) in (k.0, (OfAny k.1.0, k.1.1));
        }
    chose w w' env bs u v (need.OfNamed {x = x} {body = body} r) S c R fits =
        let g = value_grows p w R fits u in
        let h = had (extended w (Known u ∷ [])) w' (with_local env x (length w.heap)) body v r
        (λ y. S y ⊎ (y ≡ x)) c.0 (valued p w R fits u) g.fits in
        record {
          rel = h.rel;
          grows = grows_then p R (valued p w R fits u) h.rel w (extended w (Known u ∷ [])) w' g
              h.grows;
          gives = λ z. let k = h.gives (
            with_meant z.0 x z.1.0,
            local_knows (valued p w R fits u) S env z.0 (λ y i. inl (z.1.1.0 y i)) x
                (length w.heap) z.1.0 (inr (refl, z.1.1.1)),
          ) in
              (k.0, (OfNamed k.1.0, k.1.1));
        }
    chose w w' env bs u v (need.PastCon {c = d} {rest = rest} i r) S c R fits =
        let h = chose w w' env rest u v r S c.2 R fits in
        record {
          rel = h.rel;
          grows = h.grows;
          gives = λ x. let k = h.gives x in
              (k.0, (PastCon (sym (same_con p R d u x.1.0 x.1.1.1) ∙ i) k.1.0, k.1.1));
        }
    chose w w' env bs u v (need.PastInt {k = n} {rest = rest} i r) S c R fits =
        let h = chose w w' env rest u v r S c.1 R fits in
        record {
          rel = h.rel;
          grows = h.grows;
          gives = λ x. let k = h.gives x in
              (k.0, (PastInt (sym (same_int p R n u x.1.0 x.1.1.1) ∙ i) k.1.0, k.1.1));
        }
