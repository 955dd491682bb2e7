-- Where evaluation by need meets what nothing accepts, evaluation by name does.
use Rattle.std.proofs.Common.{◌≡◌, ℕ, ◌<◌, List, [], ◌∷◌, ◌++◌, map, length, refl, ap, sym, ◌∙◌, subst, arith, inl, inr}
use Rattle.std.specs.Prelude.{◌⊎◌}
use Rattle.std.proofs.lemmas.Option.{same_Some}
use Rattle.seq.proofs.Lists.{all_get}
use Rattle.arity_check.specs.declared.normal.PrimOp.{PrimOp}
use Rattle.arity_check.specs.Program.{Program, Function, Term, Branches}
use Rattle.core_meaning.specs.Heap.{Value, Int, Part, Delayed, Call, Apply, Prim, Global, Known, Env, with_local, with_locals}
use Rattle.core_meaning.specs.Evaluation.{binding, parameters, fields_of}
use Rattle.core_meaning.specs.WellFormed.{InLocals, HasParams, TermOk, BranchesOk, FunOk, WellFormed}
use Rattle.natural_semantics.specs.World as world
use Rattle.natural_semantics.specs.World.{World, extended}
use Rattle.natural_semantics.specs.Stuck as stuck
use Rattle.natural_semantics.specs.ByName.{Meant, CallOf, GlobalOf, ApplyOf, PrimOf, Lacks, Meants, Few, Sense, and_last, nth, with_meant, with_meants, form, in_group, parts_of, NoNumber, NoFunction, Means, MeantSticks, TakingSticks, EvaluationSticks, SelectionSticks, InCall, InGlobal, AtHead, AtArguments, AtFirst, FirstIsNone, AtSecond, SecondIsNone, InMember, TakesNone, Waiting, Entering, Later, InForm, InLet, AtTested, AtBranches, NoneLeft, InCon, InInt, InAny, InNamed, AfterCon, AfterInt}
use Rattle.natural_semantics.proofs.by_name.Related.{Rel, Each, Both, each_more, each_count, each_last, each_nth, Same, SameNumber, SameCon, SamePart, Delays, DelaysCall, DelaysApply, DelaysPrim, DelaysGlobal, DelaysMember, Fits}
use Rattle.natural_semantics.proofs.by_name.Named.{form_waits, Knows, InScope, inner_knows, group_grows, grown}
use Rattle.natural_semantics.proofs.by_name.Steps.{with_fields, same_con, same_int, fields_known, valued, value_grows}
use Rattle.natural_semantics.proofs.by_name.NeedToName.{forced, ran, had, number_is, local_knows}
use Rattle.natural_semantics.proofs.by_name.NameToNeed.{one_more, all_given}

module _ (p : Program) where
  -- ---- values that are not accepted

  pub no_number : (R : Rel) (v : Value) (x : Meant) → Same p R v x → world.NoNumber v → NoNumber x
  no_number R v x SameNumber none = elim none [ ]
  no_number R v x (SameCon h e) world.AConstructor = tt
  no_number R v x (SamePart h e) world.AFunction = tt

  pub no_function : (R : Rel) (v : Value) (x : Meant) → Same p R v x → world.NoFunction v
      → NoFunction x
  no_function R v x SameNumber world.ANumber = tt
  no_function R v x (SameCon h e) world.AConstructor' = tt
  no_function R v x (SamePart h e) none = elim none [ ]

  -- ---- what waits, by name

  call_sticks : (R : Rel) (j : List ℕ) (f : ℕ) (xs : List ℕ)
      → ((ms : Meants) → HasParams p f (λ n. n ≡ length xs) → Each R xs ms
      → MeantSticks p (CallOf f ms)) → (m : Meant) → Delays p R j (Call f xs) m → MeantSticks p m
  call_sticks R j f xs k m (DelaysCall h e) = k _ h e
  call_sticks R j f xs k m (DelaysMember {s = s} {group = group} {f = form'} d) =
      InMember (call_sticks R j f xs k (form (in_group s group) form') d)

  global_sticks : (R : Rel) (j : List ℕ) (f : ℕ)
      → (HasParams p f (λ n. n ≡ 0) → MeantSticks p (GlobalOf f)) → (m : Meant)
      → Delays p R j (Global f) m → MeantSticks p m
  global_sticks R j f k m (DelaysGlobal h) = k h
  global_sticks R j f k m (DelaysMember {s = s} {group = group} {f = form'} d) =
      InMember (global_sticks R j f k (form (in_group s group) form') d)

  apply_sticks : (R : Rel) (j : List ℕ) (a : ℕ) (bs : List ℕ)
      → ((n : Meant) (ms : Meants) → R a n → Each R bs ms → MeantSticks p (ApplyOf n ms))
      → (m : Meant) → Delays p R j (Apply a bs) m → MeantSticks p m
  apply_sticks R j a bs k m (DelaysApply r e) = k _ _ r e
  apply_sticks R j a bs k m (DelaysMember {s = s} {group = group} {f = form'} d) =
      InMember (apply_sticks R j a bs k (form (in_group s group) form') d)

  prim_sticks : (R : Rel) (j : List ℕ) (op : PrimOp) (a b : ℕ)
      → ((m n : Meant) → R a m → R b n → MeantSticks p (PrimOf op m n)) → (m : Meant)
      → Delays p R j (Prim op a b) m → MeantSticks p m
  prim_sticks R j op a b k m (DelaysPrim r r') = k _ _ r r'
  prim_sticks R j op a b k m (DelaysMember {s = s} {group = group} {f = form'} d) =
      InMember (prim_sticks R j op a b k (form (in_group s group) form') d)

  -- ---- the induction

  module _ (ok : WellFormed p) where
    mutual
      pub force_named : (w : World) (a : ℕ) → stuck.ForceSticks p w a → (R : Rel) → Fits p R w
          → (m : Meant) → R a m → MeantSticks p m
      force_named w a (stuck.Becoming {t = t} e x) R fits m r =
          run_named w t x R fits m (fits.waits a m t r e)

      run_named : (w : World) (t : Delayed) → stuck.RunSticks p w t → (R : Rel) → Fits p R w
          → (m : Meant) → Delays p R w.input t m → MeantSticks p m
      run_named w t (stuck.Calling {f = f} {xs = xs} g e x) R fits m d =
          call_sticks R w.input f xs
          (λ ms h each.
          let same : h.0.params ≡ g.params
          = ap (λ (f : Function). f.params) (same_Some h.0 g (sym h.1 ∙ e)) in
          let l = h.2 in
          InCall g e (evaluation_named w (parameters xs) g.body x (λ y. y < g.params)
          (all_get (FunOk p) p.funs f g ok.bodies e) R fits (nth ms)
          (λ y lt. each_nth R xs ms each y (omega (arith, lt, same, l)))))
          m d
      run_named w t (stuck.Sharing {f = f} g e x) R fits m d =
          global_sticks R w.input f
          (λ h.
          let same : h.0.params ≡ g.params
          = ap (λ (f : Function). f.params) (same_Some h.0 g (sym h.1 ∙ e)) in
          let l = h.2 in
          InGlobal g e (evaluation_named w (parameters []) g.body x (λ y. y < g.params)
          (all_get (FunOk p) p.funs f g ok.bodies e) R fits (nth Few)
          (λ y lt. absurd (omega (arith, lt, same, l)))))
          m d
      run_named w t (stuck.AtHead {a = a} {bs = bs} x) R fits m d =
          apply_sticks R w.input a bs (λ n ms q each. AtHead (force_named w a x R fits n q)) m d
      run_named w t (stuck.AtArguments {w' = w1} {a = a} {bs = bs} {u = u} r x) R fits m d =
          let h = forced p ok w w1 a u r R fits in
          apply_sticks R w.input a bs
          (λ n ms q each. let k = h.gives (n, q) in
          AtArguments k.1.0 (taking_named w1 u bs x h.rel h.grows.fits k.0 ms k.1.1
          (each_more R h.rel h.grows.more bs ms each)))
          m d
      run_named w t (stuck.AtFirst {op = op} {a = a} {b = b} x) R fits m d =
          prim_sticks R w.input op a b (λ n n' q q'. AtFirst (force_named w a x R fits n q)) m d
      run_named w t (stuck.FirstIsNone {w' = w1} {op = op} {a = a} {b = b} {u = u} r none) R fits m
          d
          =
          let h = forced p ok w w1 a u r R fits in
          prim_sticks R w.input op a b
          (λ n n' q q'. let k = h.gives (n, q) in
          FirstIsNone k.1.0 (no_number h.rel u k.0 k.1.1 none))
          m d
      run_named w t (stuck.AtSecond {w' = w1} {op = op} {a = a} {b = b} {i = i} r x) R fits m d =
          let h = forced p ok w w1 a (Int i) r R fits in
          prim_sticks R w.input op a b
          (λ n n' q q'. let k = h.gives (n, q) in
          AtSecond (subst (λ u. Means p n u) (number_is p ok h.rel i k.0 k.1.1) k.1.0)
          (force_named w1 b x h.rel h.grows.fits n' (h.grows.more b n' q')))
          m d
      run_named w t
          (stuck.SecondIsNone {w' = w1} {w'' = w2} {op = op} {a = a} {b = b} {i = i} {v = v} r r'
          none) R fits m d =
          let h = forced p ok w w1 a (Int i) r R fits in
          let h' = forced p ok w1 w2 b v r' h.rel h.grows.fits in
          prim_sticks R w.input op a b
          (λ n n' q q'. let k = h.gives (n, q) in
          let k' = h'.gives (n', h.grows.more b n' q') in
          SecondIsNone (subst (λ u. Means p n u) (number_is p ok h.rel i k.0 k.1.1) k.1.0)
          k'.1.0 (no_number h'.rel v k'.0 k'.1.1 none))
          m d

      taking_named : (w : World) (u : Value) (bs : List ℕ) → stuck.TakingSticks p w u bs
          → (R : Rel) → Fits p R w → (x : Meant) (ms : Meants) → Same p R u x → Each R bs ms
          → TakingSticks p x ms
      taking_named w u bs (stuck.TakesNone none) R fits x ms s (Both r e) =
          TakesNone (no_function R u x s none)
      taking_named w u bs (stuck.Waiting' {f = f} {b = b} {xs = xs} {bs = cs} lt t) R fits x ms
          (SamePart {ms = given} h e) (Both {m = m} {ms = ns} r e') =
          let c = each_count R xs given e in
          Waiting (omega (arith, lt, c))
          (taking_named w (Part f (xs ++ b ∷ [])) cs t R fits (Lacks f (and_last given m)) ns
          (SamePart (one_more p ok f b xs h lt) (each_last R xs given b m e r)) e')
      taking_named w u bs (stuck.Entering {f = f} {b = b} {xs = xs} le x') R fits x ms
          (SamePart {ms = given} h e) (Both {m = m} r e') =
          let c = each_count R xs given e in
          Entering (omega (arith, le, c))
          (run_named w (Call f (xs ++ b ∷ [])) x' R fits (CallOf f (and_last given m))
          (DelaysCall (all_given p ok f b xs h le) (each_last R xs given b m e r)))
      taking_named w u bs
          (stuck.Behind {w' = w1} {f = f} {b = b} {xs = xs} {bs = cs} {u = y} le r' t) R fits x ms
          (SamePart {ms = given} h e) (Both {m = m} {ms = ns} r e') =
          let c = each_count R xs given e in
          let run = ran p ok w w1 (Call f (xs ++ b ∷ [])) y r' in
          let g = run.general (λ q. cc) R fits in
          let k = g.gives (
            CallOf f (and_last given m),
            DelaysCall (all_given p ok f b xs h le) (each_last R xs given b m e r),
          ) in
          Later (omega (arith, le, c)) k.1.0
          (taking_named w1 y cs t g.rel g.grows.fits k.0 ns k.1.1
          (each_more R g.rel g.grows.more cs ns e'))

      evaluation_named : (w : World) (env : Env) (e : Term) → stuck.EvaluationSticks p w env e
          → (S : ℕ → Type 0) → TermOk p S e → (R : Rel) → Fits p R w → (s : Sense)
          → Knows p R S env s → EvaluationSticks p s e
      evaluation_named w env e (stuck.Computing {f = f} {t = t} i x) S c R fits s k =
          InForm (run_named w t x R fits (form s f)
          (form_waits p R S env s k fits.shared w.input f c t i))
      evaluation_named w env e (stuck.Binding {group = group} {body = body} inner i x) S c R fits s
          k
          =
          let g = group_grows p w S env group R fits c.0 inner i in
          InLet (evaluation_named (extended w (map (λ b. binding p inner b.flat) group)) inner body
          x
          (InScope p S group) c.1 (grown p w S env group R fits c.0 inner i) g.fits
          (in_group s group) (inner_knows p w S env group R fits c.0 inner i s k))
      evaluation_named w env e (stuck.AtTested {tested = tested} x) S c R fits s k =
          AtTested (evaluation_named w env tested x S c.0 R fits s k)
      evaluation_named w env e
          (stuck.AtBranches {w' = w1} {tested = tested} {branches = branches} {u = u} r x) S c R
          fits
          s k =
          let h = had p ok w w1 env tested u r S c.0 R fits in
          let j = h.gives (s, k) in
          AtBranches j.1.0 (selection_named w1 env branches u x S c.1 h.rel h.grows.fits s j.0
          (λ y i. h.grows.more (env y) (s y) (k y i)) j.1.1)

      selection_named : (w : World) (env : Env) (bs : Branches) (u : Value)
          → stuck.SelectionSticks p w env bs u → (S : ℕ → Type 0) → BranchesOk p S bs → (R : Rel)
          → Fits p R w → (s : Sense) (y : Meant) → Knows p R S env s → Same p R u y
          → SelectionSticks p s bs y
      selection_named w env bs u stuck.NoneLeft S c R fits s y k q = NoneLeft
      selection_named w env bs u (stuck.InCon {c = d} {xs = xs} {body = body} i x) S c R fits s y k
          q
          =
          let f = fields_known p R d xs u y q i c.0 in
          InCon (sym (same_con p R d u y q) ∙ i)
          (evaluation_named w (with_locals env xs (fields_of u)) body x
          (λ z. S z ⊎ InLocals xs z) c.1 R fits (with_meants s xs (parts_of y))
          (with_fields p R env s S k (fields_of u) xs (parts_of y) f.0 f.1))
      selection_named w env bs u (stuck.InInt {k = n} {body = body} i x) S c R fits s y k q =
          InInt (sym (same_int p R n u y q) ∙ i) (evaluation_named w env body x S c.0 R fits s k)
      selection_named w env bs u (stuck.InAny {body = body} x) S c R fits s y k q =
          InAny (evaluation_named w env body x S c.0 R fits s k)
      selection_named w env bs u (stuck.InNamed {x = a} {body = body} x) S c R fits s y k q =
          let g = value_grows p w R fits u in
          InNamed (evaluation_named (extended w (Known u ∷ [])) (with_local env a (length w.heap))
          body x (λ z. S z ⊎ (z ≡ a)) c.0 (valued p w R fits u) g.fits (with_meant s a y)
          (local_knows p ok (valued p w R fits u) S env s (λ z i. inl (k z i)) a
          (length w.heap) y (inr (refl, q))))
      selection_named w env bs u (stuck.PastCon' {c = d} {rest = rest} i x) S c R fits s y k q =
          AfterCon (sym (same_con p R d u y q) ∙ i)
          (selection_named w env rest u x S c.2 R fits s y k q)
      selection_named w env bs u (stuck.PastInt' {k = n} {rest = rest} i x) S c R fits s y k q =
          AfterInt (sym (same_int p R n u y q) ∙ i)
          (selection_named w env rest u x S c.1 R fits s y k q)
