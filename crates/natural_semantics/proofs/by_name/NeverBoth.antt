-- By name too, where there is a value, nothing is met that nothing accepts.
use Rattle.std.proofs.Common.{◌≡◌, true, false, sym, ◌∙◌, subst, arith}
use Rattle.arity_check.specs.Program.{Program, Function, Term, Branches}
use Rattle.natural_semantics.specs.ByName.{Meant, Number, Lacks, CallOf, Meants, Few, Sense, and_last, nth, with_meant, with_meants, form, in_group, parts_of, NoNumber, Means, Takes, Evaluates, Selects, ANumber, AConstructor, AFunction, NoByte, Byte, OfCall, OfGlobal, OfApply, OfPrim, OfMember, Nothing, Waits, Enters, OfForm, OfLet, OfCase, OfCon, OfInt, OfAny, OfNamed, PastCon, PastInt, MeantSticks, TakingSticks, EvaluationSticks, SelectionSticks, InCall, InGlobal, AtHead, AtArguments, AtFirst, FirstIsNone, AtSecond, SecondIsNone, InMember, TakesNone, Waiting, Entering, Later, InForm, InLet, AtTested, AtBranches, InCon, InInt, InAny, InNamed, AfterCon, AfterInt}
use Rattle.natural_semantics.proofs.by_name.NameToNeed.{same_function, means_one, evaluates_one}

module _ (p : Program) where
  mutual
    pub means_never : (m u : Meant) → Means p m u → MeantSticks p m → ⊥
    means_never m u ANumber x = elim x [ ]
    means_never m u AConstructor x = elim x [ ]
    means_never m u AFunction x = elim x [ ]
    means_never m u NoByte x = elim x [ ]
    means_never m u Byte x = elim x [ ]
    means_never m u (OfCall {f = f} {ms = ms} g e r) (InCall g' e' x) =
        evaluates_never (nth ms) g.body u r
        (subst (λ (h : Function). EvaluationSticks p (nth ms) h.body)
        (same_function p f g g' e e') x)
    means_never m u (OfGlobal {f = f} g e r) (InGlobal g' e' x) =
        evaluates_never (nth Few) g.body u r
        (subst (λ (h : Function). EvaluationSticks p (nth Few) h.body)
        (same_function p f g g' e e') x)
    means_never m u (OfApply {m = n} {u = y} r t) (AtHead x) = means_never n y r x
    means_never m u (OfApply {m = n} {u = y} {ms = ms} r t) (AtArguments {u = z} r' x) =
        takes_never y ms u t
        (subst (λ k. TakingSticks p k ms) (sym (means_one p n y z r r')) x)
    means_never m u (OfPrim {m = a} {i = i} r s) (AtFirst x) = means_never a (Number i) r x
    means_never m u (OfPrim {m = a} {i = i} r s) (FirstIsNone {u = y} r' none) =
        subst NoNumber (sym (means_one p a (Number i) y r r')) none
    means_never m u (OfPrim {n = b} {j = j} r s) (AtSecond r' x) = means_never b (Number j) s x
    means_never m u (OfPrim {n = b} {j = j} r s) (SecondIsNone {v = y} r' s' none) =
        subst NoNumber (sym (means_one p b (Number j) y s s')) none
    means_never m u (OfMember {s = s} {group = group} {f = f} r) (InMember x) =
        means_never (form (in_group s group) f) u r x

    takes_never : (x : Meant) (ns : Meants) (u : Meant) → Takes p x ns u → TakingSticks p x ns → ⊥
    takes_never x ns u Nothing t = elim t [ ]
    takes_never x ns u (Waits lt r) (TakesNone none) = none
    takes_never x ns u (Waits {f = f} {ms = ms} {ns = ks} {n = n} lt r) (Waiting lt' x') =
        takes_never (Lacks f (and_last ms n)) ks u r x'
    takes_never x ns u (Waits lt r) (Entering le x') = omega (arith, lt, le)
    takes_never x ns u (Waits lt r) (Later le r' x') = omega (arith, lt, le)
    takes_never x ns u (Enters le r t) (TakesNone none) = none
    takes_never x ns u (Enters le r t) (Waiting lt x') = omega (arith, lt, le)
    takes_never x ns u (Enters {f = f} {ms = ms} {n = n} {u = a} le r t) (Entering le' x') =
        means_never (CallOf f (and_last ms n)) a r x'
    takes_never x ns u (Enters {f = f} {ms = ms} {ns = ks} {n = n} {u = a} le r t)
        (Later {u = b} le' r' x') =
        takes_never a ks u t
        (subst (λ z. TakingSticks p z ks)
        (sym (means_one p (CallOf f (and_last ms n)) a b r r')) x')

    evaluates_never : (s : Sense) (e : Term) (u : Meant) → Evaluates p s e u
        → EvaluationSticks p s e → ⊥
    evaluates_never s e u (OfForm {f = f} r) (InForm x) = means_never (form s f) u r x
    evaluates_never s e u (OfLet {group = group} {body = body} r) (InLet x) =
        evaluates_never (in_group s group) body u r x
    evaluates_never s e u (OfCase {tested = tested} {u = a} r t) (AtTested x) =
        evaluates_never s tested a r x
    evaluates_never s e u (OfCase {tested = tested} {branches = branches} {u = a} r t)
        (AtBranches {u = b} r' x) =
        selects_never s branches a u t
        (subst (λ z. SelectionSticks p s branches z)
        (sym (evaluates_one p s tested a b r r')) x)

    selects_never : (s : Sense) (bs : Branches) (y u : Meant) → Selects p s bs y u
        → SelectionSticks p s bs y → ⊥
    selects_never s bs y u (OfCon {xs = xs} {body = body} i r) (InCon i' x) =
        evaluates_never (with_meants s xs (parts_of y)) body u r x
    selects_never s bs y u (OfCon i r) (AfterCon i' x) =
        let z : true ≡ false = sym i ∙ i' in cc
    selects_never s bs y u (PastCon i r) (InCon i' x) =
        let z : true ≡ false = sym i' ∙ i in cc
    selects_never s bs y u (PastCon {rest = rest} i r) (AfterCon i' x) =
        selects_never s rest y u r x
    selects_never s bs y u (OfInt {body = body} i r) (InInt i' x) = evaluates_never s body u r x
    selects_never s bs y u (OfInt i r) (AfterInt i' x) =
        let z : true ≡ false = sym i ∙ i' in cc
    selects_never s bs y u (PastInt i r) (InInt i' x) =
        let z : true ≡ false = sym i' ∙ i in cc
    selects_never s bs y u (PastInt {rest = rest} i r) (AfterInt i' x) =
        selects_never s rest y u r x
    selects_never s bs y u (OfAny {body = body} r) (InAny x) = evaluates_never s body u r x
    selects_never s bs y u (OfNamed {x = a} {body = body} r) (InNamed x) =
        evaluates_never (with_meant s a y) body u r x
