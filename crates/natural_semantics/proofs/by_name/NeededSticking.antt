-- Where evaluation by name meets what nothing accepts, evaluation by need does.
use Rattle.std.proofs.Common.{◌≡◌, ℕ, suc, ◌<◌, ◌≤◌, List, [], ◌∷◌, ◌++◌, map, length, Some, refl, ap, sym, ◌∙◌, subst, arith, inl, inr, slice_get}
use Rattle.std.specs.Prelude.{◌⊎◌}
use Rattle.std.proofs.lemmas.Option.{same_Some}
use Rattle.seq.proofs.Lists.{all_get, some_at}
use Rattle.arity_check.specs.declared.normal.Flat.{Flat}
use Rattle.arity_check.specs.Program.{Program, Function, Term, App, Branches}
use Rattle.core_meaning.specs.Heap.{Value, Part, Delayed, Call, Binding, Known, Waiting as Waits-for, Env, with_local, with_locals}
use Rattle.core_meaning.specs.Evaluation.{params, binding, with_group, parameters, fields_of}
use Rattle.core_meaning.specs.WellFormed.{InLocals, TermOk, BranchesOk, FunOk, WellFormed}
use Rattle.natural_semantics.specs.World as world
use Rattle.natural_semantics.specs.World.{World, extended}
use Rattle.natural_semantics.specs.Natural as need
use Rattle.natural_semantics.specs.Stuck as stuck
use Rattle.natural_semantics.specs.ByName.{Meant, Number, CallOf, Lacks, Meants, Few, Sense, and_last, nth, with_meant, with_meants, form, in_group, parts_of, NoNumber, NoFunction, MeantSticks, TakingSticks, EvaluationSticks, SelectionSticks, InCall, InGlobal, AtHead, AtArguments, AtFirst, FirstIsNone, AtSecond, SecondIsNone, InMember, TakesNone, Waiting, Entering, Later, InForm, InLet, AtTested, AtBranches, NoneLeft, InCon, InInt, InAny, InNamed, AfterCon, AfterInt}
use Rattle.natural_semantics.proofs.by_name.Related.{Rel, Each, Both, each_more, each_count, each_last, each_nth, Same, SameNumber, SameCon, SamePart, Delays, DelaysCall, DelaysApply, DelaysPrim, DelaysGlobal, DelaysMember, Fits}
use Rattle.natural_semantics.proofs.by_name.Named.{form_known, form_waits, Knows, InScope, inner_knows, group_grows, grown}
use Rattle.natural_semantics.proofs.by_name.Steps.{with_fields, same_con, same_int, fields_known, valued, value_grows}
use Rattle.natural_semantics.proofs.by_name.NeedToName.{ran, had, local_knows}
use Rattle.natural_semantics.proofs.by_name.NameToNeed.{means_one, evaluates_one, one_more, all_given, int_is, force_to, runs, evaluates}
use Rattle.natural_semantics.proofs.by_name.NeverBoth.{means_never}

module _ (p : Program) where
  pub no_number_back : (R : Rel) (v : Value) (x : Meant) → Same p R v x → NoNumber x
      → world.NoNumber v
  no_number_back R v x SameNumber none = absurd none
  no_number_back R v x (SameCon h e) none = world.AConstructor
  no_number_back R v x (SamePart h e) none = world.AFunction

  no_function_back : (R : Rel) (v : Value) (x : Meant) → Same p R v x → NoFunction x
      → world.NoFunction v
  no_function_back R v x SameNumber none = world.ANumber
  no_function_back R v x (SameCon h e) none = world.AConstructor'
  no_function_back R v x (SamePart h e) none = absurd none

  -- a name whose meaning sticks has no value yet
  pub force_sticks : (R : Rel) (w : World) (a : ℕ) (m : Meant) → Fits p R w → R a m
      → MeantSticks p m
      → ((t : Delayed) → Delays p R w.input t m → stuck.RunSticks p w t) → stuck.ForceSticks p w a
  force_sticks R w a m fits r x go =
      let b = some_at w.heap a (fits.there a m r) in by_binding b.0 b.1
    where
      by_binding : (b : Binding) → slice_get w.heap a ≡ Some b → stuck.ForceSticks p w a
      by_binding (Known v) e =
          let k = fits.known a m v r e in absurd (means_never p m k.0 k.1.0 x)
      by_binding (Waits-for t) e = stuck.Becoming e (go t (fits.waits a m t r e))

  form_sticks : (R : Rel) (S : ℕ → Type 0) (w : World) (env : Env) (s : Sense) → Knows p R S env s
      → Fits p R w → (f : Flat) → TermOk p S (App f) → MeantSticks p (form s f)
      → ((t : Delayed) → Delays p R w.input t (form s f) → stuck.RunSticks p w t)
      → stuck.EvaluationSticks p w env (App f)
  form_sticks R S w env s k fits f c x go = by_binding (binding p env f) refl
    where
      by_binding : (b : Binding) → binding p env f ≡ b → stuck.EvaluationSticks p w env (App f)
      by_binding (Known v) i =
          let u = form_known p R S env s k fits.shared f c v i in
          absurd (means_never p (form s f) u.0 u.1.0 x)
      by_binding (Waits-for t) i =
          stuck.Computing i (go t (form_waits p R S env s k fits.shared w.input f c t i))

  module _ (ok : WellFormed p) where
    mutual
      pub run_needed : (m : Meant) → MeantSticks p m → (R : Rel) (w : World) (t : Delayed)
          → Fits p R w → Delays p R w.input t m → stuck.RunSticks p w t
      run_needed m (InCall {f = f} {ms = ms} g e x) R w t fits (DelaysCall {xs = xs} h each) =
          let same : h.0.params ≡ g.params
          = ap (λ (f : Function). f.params) (same_Some h.0 g (sym h.1 ∙ e)) in
          let l = h.2 in
          stuck.Calling g e (evaluation_needed (nth ms) g.body x R w (parameters xs)
          (λ y. y < g.params) (all_get (FunOk p) p.funs f g ok.bodies e) fits
          (λ y lt. each_nth R xs ms each y (omega (arith, lt, same, l))))
      run_needed m (InGlobal {f = f} g e x) R w t fits (DelaysGlobal h) =
          let same : h.0.params ≡ g.params
          = ap (λ (f : Function). f.params) (same_Some h.0 g (sym h.1 ∙ e)) in
          let l = h.2 in
          stuck.Sharing g e (evaluation_needed (nth Few) g.body x R w (parameters [])
          (λ y. y < g.params) (all_get (FunOk p) p.funs f g ok.bodies e) fits
          (λ y lt. absurd (omega (arith, lt, same, l))))
      run_needed m (AtHead {m = n} x) R w t fits (DelaysApply {a = a} q each) =
          stuck.AtHead (force_sticks R w a n fits q x (λ t d. run_needed n x R w t fits d))
      run_needed m (AtArguments {m = n} {u = y} {ms = ms} r x) R w t fits
          (DelaysApply {a = a} {bs = bs} q each) =
          let f = force_to p ok R w a n y fits q r (λ t d. runs p ok n y r R w t fits d) in
          stuck.AtArguments f.derived
          (taking_needed y ms x f.rel f.world f.value bs f.grows.fits f.same
          (each_more R f.rel f.grows.more bs ms each))
      run_needed m (AtFirst {m = n} x) R w t fits (DelaysPrim {a = a} q q') =
          stuck.AtFirst (force_sticks R w a n fits q x (λ t d. run_needed n x R w t fits d))
      run_needed m (FirstIsNone {m = n} {u = y} r none) R w t fits (DelaysPrim {a = a} q q') =
          let f = force_to p ok R w a n y fits q r (λ t d. runs p ok n y r R w t fits d) in
          stuck.FirstIsNone f.derived (no_number_back f.rel f.value y f.same none)
      run_needed m (AtSecond {m = n} {n = n'} {i = i} r x) R w t fits
          (DelaysPrim {a = a} {b = b} q q') =
          let f = force_to p ok R w a n (Number i) fits q r
          (λ t d. runs p ok n (Number i) r R w t fits d) in
          stuck.AtSecond
          (subst (λ v. need.Forces p w a v f.world) (int_is p f.rel f.value i f.same) f.derived)
          (force_sticks f.rel f.world b n' f.grows.fits (f.grows.more b n' q') x
          (λ t d. run_needed n' x f.rel f.world t f.grows.fits d))
      run_needed m (SecondIsNone {m = n} {n = n'} {v = y} {i = i} r r' none) R w t fits
          (DelaysPrim {a = a} {b = b} q q') =
          let f = force_to p ok R w a n (Number i) fits q r
          (λ t d. runs p ok n (Number i) r R w t fits d) in
          let f' = force_to p ok f.rel f.world b n' y f.grows.fits (f.grows.more b n' q') r'
          (λ t d. runs p ok n' y r' f.rel f.world t f.grows.fits d) in
          stuck.SecondIsNone
          (subst (λ v. need.Forces p w a v f.world) (int_is p f.rel f.value i f.same) f.derived)
          f'.derived (no_number_back f'.rel f'.value y f'.same none)
      run_needed m (InMember {s = s} {group = group} {f = f} x) R w t fits (DelaysMember d) =
          run_needed (form (in_group s group) f) x R w t fits d

      taking_needed : (x : Meant) (ns : Meants) → TakingSticks p x ns → (R : Rel) (w : World)
          (v : Value) (bs : List ℕ) → Fits p R w → Same p R v x → Each R bs ns
          → stuck.TakingSticks p w v bs
      taking_needed x ns (TakesNone none) R w v bs fits s (Both q e') =
          stuck.TakesNone (no_function_back R v x s none)
      taking_needed x ns (Waiting {f = f} {ms = ms} {ns = ks} {n = n} lt t) R w v bs fits
          (SamePart {xs = xs} h e) (Both {a = b} {xs = cs} q e') =
          let c = each_count R xs ms e in
          let lt' : suc (length xs) < params p f = omega (arith, lt, c) in
          stuck.Waiting' lt'
          (taking_needed (Lacks f (and_last ms n)) ks t R w (Part f (xs ++ b ∷ [])) cs fits
          (SamePart (one_more p ok f b xs h lt') (each_last R xs ms b n e q)) e')
      taking_needed x ns (Entering {f = f} {ms = ms} {n = n} le t) R w v bs fits
          (SamePart {xs = xs} h e) (Both {a = b} q e') =
          let c = each_count R xs ms e in
          let le' : params p f ≤ suc (length xs) = omega (arith, le, c) in
          stuck.Entering le'
          (run_needed (CallOf f (and_last ms n)) t R w (Call f (xs ++ b ∷ [])) fits
          (DelaysCall (all_given p ok f b xs h le') (each_last R xs ms b n e q)))
      taking_needed x ns (Later {f = f} {ms = ms} {ns = ks} {n = n} {u = z} le r t) R w v bs fits
          (SamePart {xs = xs} h e) (Both {a = b} {xs = cs} q e') =
          let c = each_count R xs ms e in
          let le' : params p f ≤ suc (length xs) = omega (arith, le, c) in
          let d : Delays p R w.input (Call f (xs ++ b ∷ [])) (CallOf f (and_last ms n))
          = DelaysCall (all_given p ok f b xs h le') (each_last R xs ms b n e q) in
          let k = runs p ok (CallOf f (and_last ms n)) z r R w (Call f (xs ++ b ∷ [])) fits d in
          let a = ran p ok w k.1.0 (Call f (xs ++ b ∷ [])) k.0 k.1.1 in
          let g = a.general (λ q. cc) R fits in
          let j = g.gives (CallOf f (and_last ms n), d) in
          let same = subst (λ o. Same p g.rel k.0 o)
          (sym (means_one p (CallOf f (and_last ms n)) z j.0 r j.1.0)) j.1.1 in
          stuck.Behind le' k.1.1
          (taking_needed z ks t g.rel k.1.0 k.0 cs g.grows.fits same
          (each_more R g.rel g.grows.more cs ks e'))

      evaluation_needed : (s : Sense) (e : Term) → EvaluationSticks p s e → (R : Rel) (w : World)
          (env : Env) (S : ℕ → Type 0) → TermOk p S e → Fits p R w → Knows p R S env s
          → stuck.EvaluationSticks p w env e
      evaluation_needed s e (InForm {f = f} x) R w env S c fits k =
          form_sticks R S w env s k fits f c x
          (λ t d. run_needed (form s f) x R w t fits d)
      evaluation_needed s e (InLet {group = group} {body = body} x) R w env S c fits k =
          let inner : Env = with_group p env group (length w.heap) in
          let g = group_grows p w S env group R fits c.0 inner refl in
          stuck.Binding inner refl (evaluation_needed (in_group s group) body x
          (grown p w S env group R fits c.0 inner refl)
          (extended w (map (λ b. binding p inner b.flat) group)) inner (InScope p S group) c.1
          g.fits (inner_knows p w S env group R fits c.0 inner refl s k))
      evaluation_needed s e (AtTested {tested = tested} x) R w env S c fits k =
          stuck.AtTested (evaluation_needed s tested x R w env S c.0 fits k)
      evaluation_needed s e (AtBranches {tested = tested} {branches = branches} {u = y} r x) R w env
          S c fits k =
          let v = evaluates p ok s tested y r R w env S c.0 fits k in
          let h = had p ok w v.1.0 env tested v.0 v.1.1 S c.0 R fits in
          let j = h.gives (s, k) in
          let same = subst (λ o. Same p h.rel v.0 o)
          (sym (evaluates_one p s tested y j.0 r j.1.0)) j.1.1 in
          stuck.AtBranches v.1.1
          (selection_needed s branches y x h.rel v.1.0 env v.0 S c.1 h.grows.fits
          (λ z i. h.grows.more (env z) (s z) (k z i)) same)

      selection_needed : (s : Sense) (bs : Branches) (y : Meant) → SelectionSticks p s bs y
          → (R : Rel) (w : World) (env : Env) (v : Value) (S : ℕ → Type 0) → BranchesOk p S bs
          → Fits p R w → Knows p R S env s → Same p R v y → stuck.SelectionSticks p w env bs v
      selection_needed s bs y NoneLeft R w env v S c fits k q = stuck.NoneLeft
      selection_needed s bs y (InCon {c = d} {xs = xs} {body = body} i x) R w env v S c fits k q =
          let i' = same_con p R d v y q ∙ i in
          let f = fields_known p R d xs v y q i' c.0 in
          stuck.InCon i' (evaluation_needed (with_meants s xs (parts_of y)) body x R w
          (with_locals env xs (fields_of v)) (λ z. S z ⊎ InLocals xs z) c.1 fits
          (with_fields p R env s S k (fields_of v) xs (parts_of y) f.0 f.1))
      selection_needed s bs y (InInt {k = n} {body = body} i x) R w env v S c fits k q =
          stuck.InInt (same_int p R n v y q ∙ i) (evaluation_needed s body x R w env S c.0 fits k)
      selection_needed s bs y (InAny {body = body} x) R w env v S c fits k q =
          stuck.InAny (evaluation_needed s body x R w env S c.0 fits k)
      selection_needed s bs y (InNamed {x = a} {body = body} x) R w env v S c fits k q =
          let g = value_grows p w R fits v in
          stuck.InNamed (evaluation_needed (with_meant s a y) body x (valued p w R fits v)
          (extended w (Known v ∷ [])) (with_local env a (length w.heap))
          (λ z. S z ⊎ (z ≡ a)) c.0 g.fits
          (local_knows p ok (valued p w R fits v) S env s (λ z i. inl (k z i)) a
          (length w.heap) y (inr (refl, q))))
      selection_needed s bs y (AfterCon {c = d} {rest = rest} i x) R w env v S c fits k q =
          stuck.PastCon' (same_con p R d v y q ∙ i)
          (selection_needed s rest y x R w env v S c.2 fits k q)
      selection_needed s bs y (AfterInt {k = n} {rest = rest} i x) R w env v S c fits k q =
          stuck.PastInt' (same_int p R n v y q ∙ i)
          (selection_needed s rest y x R w env v S c.1 fits k q)
