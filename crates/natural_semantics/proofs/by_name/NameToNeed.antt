-- What evaluation by name derives evaluation by need does, by induction on the derivation. That by
-- need which is found derives something by name again, and by name there is one value at most.
use Rattle.std.proofs.Common.{◌≡◌, ℕ, suc, ◌<◌, ◌≤◌, true, false, List, [], ◌∷◌, ◌++◌, map, length, Some, refl, ap, sym, ◌∙◌, subst, arith, inl, inr, slice_get, length-append}
use Rattle.std.specs.Prelude.{◌⊎◌, ℤ}
use Rattle.std.proofs.lemmas.Option.{same_Some}
use Rattle.seq.proofs.Lists.{all_get}
use Rattle.arity_check.specs.declared.normal.Flat.{Flat}
use Rattle.arity_check.specs.Program.{Program, Function, Term, App, Branches}
use Rattle.core_meaning.specs.Heap.{Value, Int, Con, Part, Delayed, Call, Prim, Input, Binding, Known, Waiting, Env, with_local, with_locals}
use Rattle.core_meaning.specs.Numbers.{primitive_result}
use Rattle.core_meaning.specs.Evaluation.{params, params_of, binding, with_group, parameters, fields_of, nil, cons}
use Rattle.core_meaning.specs.WellFormed.{InLocals, HasParams, TermOk, BranchesOk, FunOk, WellFormed}
use Rattle.natural_semantics.specs.World.{World, extended, updated, after_byte}
use Rattle.natural_semantics.specs.Natural as need
use Rattle.natural_semantics.specs.ByName.{Meant, Number, Built, Lacks, CallOf, ApplyOf, PrimOf, GlobalOf, Rest, Member, OutOfScope, Meants, Few, Sense, and_last, nth, with_meant, with_meants, form, in_group, parts_of, Means, Takes, Evaluates, Selects, ANumber, AConstructor, AFunction, OfCall, OfGlobal, OfApply, OfPrim, NoByte, Byte, OfMember, Nothing, Waits, Enters, OfForm, OfLet, OfCase, OfCon, OfInt, OfAny, OfNamed, PastCon, PastInt}
use Rattle.natural_semantics.proofs.by_name.Related.{Rel, Each, NoneLeft, Both, each_more, each_count, each_last, each_nth, Same, SameNumber, SamePart, Delays, DelaysCall, DelaysApply, DelaysPrim, DelaysGlobal, DelaysInput, DelaysMember, Fits, Grows}
use Rattle.natural_semantics.proofs.by_name.Named.{form_waits, Knows, InScope, inner_knows, group_grows, grown}
use Rattle.natural_semantics.proofs.by_name.Steps.{with_fields, same_con, same_int, fields_known, valued, value_grows}
use Rattle.natural_semantics.proofs.by_name.NeedToName.{forced, ran, had, local_knows}
use Rattle.seq.proofs.Lists.{some_at}

module _ (p : Program) where
  -- ---- one value at most

  abbrev number_in : ℤ → Meant → ℤ
  number_in k (Number j) = j
  number_in k m = k

  pub same_function : (f : ℕ) (g h : Function) → slice_get p.funs f ≡ Some g
      → slice_get p.funs f ≡ Some h → h ≡ g
  same_function f g h e e' = same_Some h g (sym e' ∙ e)

  mutual
    pub means_one : (m u v : Meant) → Means p m u → Means p m v → u ≡ v
    means_one m u v ANumber ANumber = refl
    means_one m u v AConstructor AConstructor = refl
    means_one m u v AFunction AFunction = refl
    means_one m u v (OfCall {f = f} {ms = ms} g e r) (OfCall g' e' r') =
        evaluates_one (nth ms) g.body u v r
        (subst (λ (h : Function). Evaluates p (nth ms) h.body v) (same_function f g g' e e') r')
    means_one m u v (OfGlobal {f = f} g e r) (OfGlobal g' e' r') =
        evaluates_one (nth Few) g.body u v r
        (subst (λ (h : Function). Evaluates p (nth Few) h.body v) (same_function f g g' e e') r')
    means_one m u v (OfApply {m = n} {u = x} {ms = ms} r t) (OfApply {u = y} r' t') =
        takes_one x ms u v t
        (subst (λ z. Takes p z ms v) (sym (means_one n x y r r')) t')
    means_one m u v (OfPrim {op = op} {m = a} {n = b} {i = i} {j = j} r s)
        (OfPrim {i = i'} {j = j'} r' s') =
        let e : i ≡ i' = ap (number_in i) (means_one a (Number i) (Number i') r r') in
        let f : j ≡ j' = ap (number_in j) (means_one b (Number j) (Number j') s s') in
        λ k. Number (primitive_result op (e k) (f k))
    means_one m u v NoByte NoByte = refl
    means_one m u v Byte Byte = refl
    means_one m u v (OfMember {s = s} {group = group} {f = f} r) (OfMember r') =
        means_one (form (in_group s group) f) u v r r'

    takes_one : (x : Meant) (ns : Meants) (u v : Meant) → Takes p x ns u → Takes p x ns v → u ≡ v
    takes_one x ns u v Nothing Nothing = refl
    takes_one x ns u v (Waits {f = f} {ms = ms} {ns = ks} {n = n} lt r) (Waits lt' r') =
        takes_one (Lacks f (and_last ms n)) ks u v r r'
    takes_one x ns u v (Waits lt r) (Enters le r' t') = absurd (omega (arith, lt, le))
    takes_one x ns u v (Enters le r t) (Waits lt r') = absurd (omega (arith, lt, le))
    takes_one x ns u v (Enters {f = f} {ms = ms} {ns = ks} {n = n} {u = a} le r t)
        (Enters {u = b} le' r' t') =
        takes_one a ks u v t
        (subst (λ z. Takes p z ks v) (sym (means_one (CallOf f (and_last ms n)) a b r r')) t')

    pub evaluates_one : (s : Sense) (e : Term) (u v : Meant) → Evaluates p s e u → Evaluates p s e v
        → u ≡ v
    evaluates_one s e u v (OfForm {f = f} r) (OfForm r') = means_one (form s f) u v r r'
    evaluates_one s e u v (OfLet {group = group} {body = body} r) (OfLet r') =
        evaluates_one (in_group s group) body u v r r'
    evaluates_one s e u v (OfCase {tested = tested} {branches = branches} {u = a} r t)
        (OfCase {u = b} r' t') =
        selects_one s branches a u v t
        (subst (λ z. Selects p s branches z v) (sym (evaluates_one s tested a b r r')) t')

    selects_one : (s : Sense) (bs : Branches) (x u v : Meant) → Selects p s bs x u
        → Selects p s bs x v → u ≡ v
    selects_one s bs x u v (OfCon {xs = xs} {body = body} i r) (OfCon i' r') =
        evaluates_one (with_meants s xs (parts_of x)) body u v r r'
    selects_one s bs x u v (OfCon i r) (PastCon i' r') =
        absurd (let z : true ≡ false = sym i ∙ i' in cc)
    selects_one s bs x u v (PastCon i r) (OfCon i' r') =
        absurd (let z : true ≡ false = sym i' ∙ i in cc)
    selects_one s bs x u v (PastCon {rest = rest} i r) (PastCon i' r') =
        selects_one s rest x u v r r'
    selects_one s bs x u v (OfInt {body = body} i r) (OfInt i' r') =
        evaluates_one s body u v r r'
    selects_one s bs x u v (OfInt i r) (PastInt i' r') =
        absurd (let z : true ≡ false = sym i ∙ i' in cc)
    selects_one s bs x u v (PastInt i r) (OfInt i' r') =
        absurd (let z : true ≡ false = sym i' ∙ i in cc)
    selects_one s bs x u v (PastInt {rest = rest} i r) (PastInt i' r') =
        selects_one s rest x u v r r'
    selects_one s bs x u v (OfAny {body = body} r) (OfAny r') = evaluates_one s body u v r r'
    selects_one s bs x u v (OfNamed {x = y} {body = body} r) (OfNamed r') =
        evaluates_one (with_meant s y x) body u v r r'

  -- ---- what waits is no value, nor the list of the bytes but for the input

  abbrev PutOff : Meant → Type 0
  PutOff (Number k) = ⊥
  PutOff (Built c ms) = ⊥
  PutOff (Lacks f ms) = ⊥
  PutOff (CallOf f ms) = Unit {0}
  PutOff (ApplyOf m ms) = Unit {0}
  PutOff (PrimOf op m n) = Unit {0}
  PutOff (GlobalOf f) = Unit {0}
  PutOff (Rest i) = Unit {0}
  PutOff (Member s group f) = Unit {0}
  PutOff OutOfScope = Unit {0}

  put_off : (R : Rel) (i : List ℕ) (t : Delayed) (m : Meant) → Delays p R i t m → PutOff m
  put_off R i t m (DelaysCall h e) = tt
  put_off R i t m (DelaysApply r e) = tt
  put_off R i t m (DelaysPrim r r') = tt
  put_off R i t m (DelaysGlobal h) = tt
  put_off R i t m DelaysInput = tt
  put_off R i t m (DelaysMember d) = tt

  abbrev bytes_in : List ℕ → Meant → List ℕ
  bytes_in i (Rest j) = j
  bytes_in i m = i

  rest_is : (R : Rel) (i j : List ℕ) (t : Delayed) (m : Meant) → Delays p R i t m → m ≡ Rest j
      → (Input ≡ t) × (i ≡ j)
  rest_is R i j t m (DelaysCall h e) q = absurd cc
  rest_is R i j t m (DelaysApply r e) q = absurd cc
  rest_is R i j t m (DelaysPrim r r') q = absurd cc
  rest_is R i j t m (DelaysGlobal h) q = absurd cc
  rest_is R i j t m DelaysInput q = (refl, ap (bytes_in i) q)
  rest_is R i j t m (DelaysMember d) q = absurd cc

  pub int_is : (R : Rel) (v : Value) (i : ℤ) → Same p R v (Number i) → v ≡ Int i
  int_is R v i SameNumber = refl

  -- ---- from by name to by need

  module _ (ok : WellFormed p) where
    abbrev pub Running : World → Delayed → Type 0
    Running w t = (v : Value) × ((w' : World) × need.Runs p w t v w')

    abbrev Evaluating : World → Env → Term → Type 0
    Evaluating w env e = (v : Value) × ((w' : World) × need.Evaluates p w env e v w')

    -- a name has a value, which stands for the one by name
    pub record ForcedTo (R : Rel) (w : World) (a : ℕ) (u : Meant) : Type 1 where
      pub value : Value
      pub world : World
      pub derived : need.Forces p w a value world
      pub rel : Rel
      pub grows : Grows p R w rel world
      pub same : Same p rel value u

    forced_to : (R : Rel) (w : World) (a : ℕ) (m u : Meant) → Fits p R w → R a m → Means p m u
        → (v : Value) → (w' : World) → need.Forces p w a v w' → ForcedTo R w a u
    forced_to R w a m u fits r d v w' f =
        let h = forced p ok w w' a v f R fits in
        let k = h.gives (m, r) in
        record {
          value = v;
          world = w';
          derived = f;
          rel = h.rel;
          grows = h.grows;
          same = subst (λ x. Same p h.rel v x) (sym (means_one m u k.0 d k.1.0)) k.1.1;
        }

    pub force_to : (R : Rel) (w : World) (a : ℕ) (m u : Meant) → Fits p R w → R a m → Means p m u
        → ((t : Delayed) → Delays p R w.input t m → Running w t) → ForcedTo R w a u
    force_to R w a m u fits r d go =
        let b = some_at w.heap a (fits.there a m r) in by_binding b.0 b.1
      where
        by_binding : (b : Binding) → slice_get w.heap a ≡ Some b → ForcedTo R w a u
        by_binding (Known v) e = forced_to R w a m u fits r d v w (need.Is e)
        by_binding (Waiting t) e =
            let x = go t (fits.waits a m t r e) in
            forced_to R w a m u fits r d x.0 (updated x.1.0 a x.0) (need.Becomes e x.1.1)

    by_form : (w : World) (env : Env) (f : Flat)
        → ((t : Delayed) → binding p env f ≡ Waiting t → Running w t) → Evaluating w env (App f)
    by_form w env f go = by_binding (binding p env f) refl
      where
        by_binding : (b : Binding) → binding p env f ≡ b → Evaluating w env (App f)
        by_binding (Known v) e = (v, (w, need.AtOnce e))
        by_binding (Waiting t) e =
            let x = go t e in (x.0, (x.1.0, need.Computed e x.1.1))

    pub one_more : (f b : ℕ) (xs : List ℕ) → HasParams p f (λ n. length xs < n)
        → suc (length xs) < params p f → HasParams p f (λ n. length (xs ++ b ∷ []) < n)
    one_more f b xs h lt =
        let l = length-append xs (b ∷ []) in
        let same : params p f ≡ h.0.params = ap (params_of p) h.1 in
        (h.0, h.1, omega (arith, lt, l, same))

    pub all_given : (f b : ℕ) (xs : List ℕ) → HasParams p f (λ n. length xs < n)
        → params p f ≤ suc (length xs) → HasParams p f (λ n. n ≡ length (xs ++ b ∷ []))
    all_given f b xs h le =
        let l = length-append xs (b ∷ []) in
        let same : params p f ≡ h.0.params = ap (params_of p) h.1 in
        let lt = h.2 in
        (h.0, h.1, omega (arith, le, l, same, lt))

    mutual
      pub runs : (m u : Meant) → Means p m u → (R : Rel) (w : World) (t : Delayed) → Fits p R w
          → Delays p R w.input t m → Running w t
      runs m u ANumber R w t fits d = absurd (put_off R w.input t m d)
      runs m u AConstructor R w t fits d = absurd (put_off R w.input t m d)
      runs m u AFunction R w t fits d = absurd (put_off R w.input t m d)
      runs m u (OfCall {f = f} {ms = ms} g e r) R w t fits (DelaysCall {xs = xs} h each) =
          let same : h.0.params ≡ g.params
          = ap (λ (f : Function). f.params) (same_Some h.0 g (sym h.1 ∙ e)) in
          let l = h.2 in
          let x = evaluates (nth ms) g.body u r R w (parameters xs) (λ y. y < g.params)
          (all_get (FunOk p) p.funs f g ok.bodies e) fits
          (λ y lt. each_nth R xs ms each y (omega (arith, lt, same, l))) in
          (x.0, (x.1.0, need.Calls g e x.1.1))
      runs m u (OfGlobal {f = f} g e r) R w t fits (DelaysGlobal h) =
          let same : h.0.params ≡ g.params
          = ap (λ (f : Function). f.params) (same_Some h.0 g (sym h.1 ∙ e)) in
          let l = h.2 in
          let x = evaluates (nth Few) g.body u r R w (parameters []) (λ y. y < g.params)
          (all_get (FunOk p) p.funs f g ok.bodies e) fits
          (λ y lt. absurd (omega (arith, lt, same, l))) in
          (x.0, (x.1.0, need.Shared g e x.1.1))
      runs m u (OfApply {m = n} {u = y} {ms = ms} r r') R w t fits
          (DelaysApply {a = a} {bs = bs} q each) =
          let f = force_to R w a n y fits q r (λ t d. runs n y r R w t fits d) in
          let x = takes y ms u r' f.rel f.world f.value bs f.grows.fits f.same
          (each_more R f.rel f.grows.more bs ms each) in
          (x.0, (x.1.0, need.Applies f.derived x.1.1))
      runs m u (OfPrim {op = op} {m = n} {n = n'} {i = i} {j = j} r r') R w t fits
          (DelaysPrim {a = a} {b = b} q q') =
          let f = force_to R w a n (Number i) fits q r (λ t d. runs n (Number i) r R w t fits d) in
          let f' = force_to f.rel f.world b n' (Number j) f.grows.fits (f.grows.more b n' q') r'
          (λ t d. runs n' (Number j) r' f.rel f.world t f.grows.fits d) in (
            Int (primitive_result op i j),
            (
              f'.world,
              need.Computes
                  (subst (λ v. need.Forces p w a v f.world) (int_is f.rel f.value i f.same)
                  f.derived)
                  (subst (λ v. need.Forces p f.world b v f'.world)
                  (int_is f'.rel f'.value j f'.same)
                  f'.derived),
            ),
          )
      runs m u NoByte R w t fits d =
          let q = rest_is R w.input [] t m d refl in
          subst (λ t. Running w t) q.0 (Con (nil p) [], (w, need.NoByte q.1))
      runs m u (Byte {k = k} {rest = rest}) R w t fits d =
          let q = rest_is R w.input (k ∷ rest) t m d refl in
          subst (λ t. Running w t) q.0 (
            Con (cons p) (length w.heap ∷ (suc (length w.heap) ∷ [])),
            (after_byte w k rest, need.Byte q.1),
          )
      runs m u (OfMember {s = s} {group = group} {f = f} r) R w t fits (DelaysMember d) =
          runs (form (in_group s group) f) u r R w t fits d

      takes : (x : Meant) (ns : Meants) (y : Meant) → Takes p x ns y → (R : Rel) (w : World)
          (v : Value) (bs : List ℕ) → Fits p R w → Same p R v x → Each R bs ns
          → (z : Value) × ((w' : World) × need.Takes p w v bs z w')
      takes x ns y Nothing R w v bs fits s NoneLeft = (v, (w, need.Nothing))
      takes x ns y (Waits {f = f} {ms = ms} {ns = ks} {n = n} lt r) R w v bs fits
          (SamePart {xs = xs} h e) (Both {a = b} {xs = cs} q e') =
          let c = each_count R xs ms e in
          let lt' : suc (length xs) < params p f = omega (arith, lt, c) in
          let k = takes (Lacks f (and_last ms n)) ks y r R w (Part f (xs ++ b ∷ [])) cs fits
          (SamePart (one_more f b xs h lt') (each_last R xs ms b n e q)) e' in
          (k.0, (k.1.0, need.Waits lt' k.1.1))
      takes x ns y (Enters {f = f} {ms = ms} {ns = ks} {n = n} {u = z} le r r') R w v bs fits
          (SamePart {xs = xs} h e) (Both {a = b} {xs = cs} q e') =
          let c = each_count R xs ms e in
          let le' : params p f ≤ suc (length xs) = omega (arith, le, c) in
          let d : Delays p R w.input (Call f (xs ++ b ∷ [])) (CallOf f (and_last ms n))
          = DelaysCall (all_given f b xs h le') (each_last R xs ms b n e q) in
          let k = runs (CallOf f (and_last ms n)) z r R w (Call f (xs ++ b ∷ [])) fits d in
          let a = ran p ok w k.1.0 (Call f (xs ++ b ∷ [])) k.0 k.1.1 in
          let g = a.general (λ q. cc) R fits in
          let j = g.gives (CallOf f (and_last ms n), d) in
          let same = subst (λ o. Same p g.rel k.0 o)
          (sym (means_one (CallOf f (and_last ms n)) z j.0 r j.1.0)) j.1.1 in
          let l = takes z ks y r' g.rel k.1.0 k.0 cs g.grows.fits same
          (each_more R g.rel g.grows.more cs ks e') in
          (l.0, (l.1.0, need.Enters le' k.1.1 l.1.1))

      pub evaluates : (s : Sense) (e : Term) (u : Meant) → Evaluates p s e u → (R : Rel) (w : World)
          (env : Env) (S : ℕ → Type 0) → TermOk p S e → Fits p R w → Knows p R S env s
          → Evaluating w env e
      evaluates s e u (OfForm {f = f} r) R w env S c fits k =
          by_form w env f (λ t i. runs (form s f) u r R w t fits
          (form_waits p R S env s k fits.shared w.input f c t i))
      evaluates s e u (OfLet {group = group} {body = body} r) R w env S c fits k =
          let inner : Env = with_group p env group (length w.heap) in
          let g = group_grows p w S env group R fits c.0 inner refl in
          let x = evaluates (in_group s group) body u r
          (grown p w S env group R fits c.0 inner refl)
          (extended w (map (λ b. binding p inner b.flat) group)) inner (InScope p S group) c.1
          g.fits (inner_knows p w S env group R fits c.0 inner refl s k) in
          (x.0, (x.1.0, need.Binds inner refl x.1.1))
      evaluates s e u (OfCase {tested = tested} {branches = branches} {u = y} r r') R w env S c fits
          k
          =
          let x = evaluates s tested y r R w env S c.0 fits k in
          let h = had p ok w x.1.0 env tested x.0 x.1.1 S c.0 R fits in
          let j = h.gives (s, k) in
          let same = subst (λ o. Same p h.rel x.0 o)
          (sym (evaluates_one s tested y j.0 r j.1.0)) j.1.1 in
          let l = selects s branches y u r' h.rel x.1.0 env x.0 S c.1 h.grows.fits
          (λ z i. h.grows.more (env z) (s z) (k z i)) same in
          (l.0, (l.1.0, need.Chooses x.1.1 l.1.1))

      selects : (s : Sense) (bs : Branches) (y u : Meant) → Selects p s bs y u → (R : Rel)
          (w : World) (env : Env) (v : Value) (S : ℕ → Type 0) → BranchesOk p S bs → Fits p R w
          → Knows p R S env s → Same p R v y
          → (z : Value) × ((w' : World) × need.Selects p w env bs v z w')
      selects s bs y u (OfCon {c = d} {xs = xs} {body = body} i r) R w env v S c fits k q =
          let i' = same_con p R d v y q ∙ i in
          let f = fields_known p R d xs v y q i' c.0 in
          let x = evaluates (with_meants s xs (parts_of y)) body u r R w
          (with_locals env xs (fields_of v)) (λ z. S z ⊎ InLocals xs z) c.1 fits
          (with_fields p R env s S k (fields_of v) xs (parts_of y) f.0 f.1) in
          (x.0, (x.1.0, need.OfCon i' x.1.1))
      selects s bs y u (OfInt {k = n} {body = body} i r) R w env v S c fits k q =
          let x = evaluates s body u r R w env S c.0 fits k in
          (x.0, (x.1.0, need.OfInt (same_int p R n v y q ∙ i) x.1.1))
      selects s bs y u (OfAny {body = body} r) R w env v S c fits k q =
          let x = evaluates s body u r R w env S c.0 fits k in (x.0, (x.1.0, need.OfAny x.1.1))
      selects s bs y u (OfNamed {x = a} {body = body} r) R w env v S c fits k q =
          let g = value_grows p w R fits v in
          let x = evaluates (with_meant s a y) body u r (valued p w R fits v)
          (extended w (Known v ∷ [])) (with_local env a (length w.heap))
          (λ z. S z ⊎ (z ≡ a)) c.0 g.fits
          (local_knows p ok (valued p w R fits v) S env s (λ z i. inl (k z i)) a
          (length w.heap) y (inr (refl, q))) in
          (x.0, (x.1.0, need.OfNamed x.1.1))
      selects s bs y u (PastCon {c = d} {rest = rest} i r) R w env v S c fits k q =
          let x = selects s rest y u r R w env v S c.2 fits k q in
          (x.0, (x.1.0, need.PastCon (same_con p R d v y q ∙ i) x.1.1))
      selects s bs y u (PastInt {k = n} {rest = rest} i r) R w env v S c fits k q =
          let x = selects s rest y u r R w env v S c.1 fits k q in
          (x.0, (x.1.0, need.PastInt (same_int p R n v y q ∙ i) x.1.1))
