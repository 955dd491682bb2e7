-- What a program prints by need it prints by name.
use Rattle.std.proofs.Common.{◌≡◌, ◌≢◌, ℕ, zero, suc, ◌+◌, ◌<◌, ◌≤◌, Bool, true, false, cond, nat_eq, List, [], ◌∷◌, ◌++◌, take, length, Option, Some, None, refl, ap, sym, ◌∙◌, subst, arith, inl, inr, slice_get, length-append}
use Rattle.std.specs.Prelude.{◌⊎◌}
use Rattle.std.specs.List.{count_by}
use Rattle.std.proofs.lemmas.Bool.{eq-eqb}
use Rattle.std.proofs.lemmas.Option.{same_Some, none-some, slice_get_within}
use Rattle.arity_check.specs.Program.{Program, Function}
use Rattle.core_meaning.specs.Heap.{Value, Int, Con, Call, Delayed, Global, Input, Binding, Known, Waiting}
use Rattle.core_meaning.specs.Evaluation.{global, globals, params, params_of, nil, cons}
use Rattle.core_meaning.specs.Printing.{PrintingEnd}
use Rattle.core_meaning.specs.WellFormed.{HasParams, WellFormed}
use Rattle.core_meaning.proofs.Shared.{global_below, count_more}
use Rattle.natural_semantics.specs.World.{World, extended}
use Rattle.natural_semantics.specs.Natural.{Forces}
use Rattle.natural_semantics.specs.Prints as need
use Rattle.natural_semantics.specs.any.Prints as list
use Rattle.natural_semantics.specs.ByName.{Meant, Number, Built, CallOf, GlobalOf, Rest, Few, And, NoList, Means, Prints, Behind, AtNil, NotAList, ListSticks, Puts, NotAByte, ByteSticks, ProgramPrints, OfItself, OfInput}
use Rattle.natural_semantics.proofs.by_name.Related.{Rel, NoneLeft, Both, Same, SameNumber, SameCon, SamePart, Delays, DelaysCall, DelaysGlobal, DelaysInput, Fits}
use Rattle.natural_semantics.proofs.by_name.Named.{get_append}
use Rattle.natural_semantics.proofs.by_name.NeedToName.{forced, number_is}
use Rattle.natural_semantics.proofs.by_name.NameToNeed.{force_to, runs, int_is}
use Rattle.natural_semantics.proofs.by_name.NamedSticking.{no_number, force_named}
use Rattle.natural_semantics.proofs.by_name.NeededSticking.{no_number_back, force_sticks, run_needed}

module _ (p : Program) (ok : WellFormed p) where
  nil_is : (R : Rel) (u : Meant) → Same p R (Con (nil p) []) u → u ≡ Built (nil p) Few
  nil_is R u (SameCon f NoneLeft) = refl

  -- the head and the tail of a list
  record Cell (R : Rel) (h t : ℕ) (u : Meant) : Type 0 where
    pub head : Meant
    pub tail : Meant
    pub is : u ≡ Built (cons p) (And head (And tail Few))
    pub has_head : R h head
    pub has_tail : R t tail

  cell_is : (R : Rel) (h t : ℕ) (u : Meant) → Same p R (Con (cons p) (h ∷ (t ∷ []))) u
      → Cell R h t u
  cell_is R h t u (SameCon f (Both {m = m} r (Both {m = n} r' NoneLeft))) =
      record { head = m; tail = n; is = refl; has_head = r; has_tail = r' }

  no_list : (R : Rel) (v : Value) (u : Meant) → Same p R v u → list.NoList (nil p) (cons p) v
      → NoList (nil p) (cons p) u
  no_list R v u SameNumber list.ANumber = tt
  no_list R v u (SamePart f e) list.AFunction = tt
  no_list R v u (SameCon f NoneLeft) (list.NotNil n) = n
  no_list R v u (SameCon f (Both r NoneLeft)) list.OneField = tt
  no_list R v u (SameCon f (Both r (Both r' NoneLeft))) (list.NotCons n) = n
  no_list R v u (SameCon f (Both r (Both r' (Both r'' e)))) list.ManyFields = tt

  prints_named : (w : World) (a : ℕ) (out : List ℕ) (end : PrintingEnd) → need.Prints p w a out end
      → (R : Rel) → Fits p R w → (m : Meant) → R a m → Prints p m out end
  prints_named w a out end need.Behind R fits m r = Behind
  prints_named w a out end (need.AtNil {w' = w1} f) R fits m r =
      let h = forced p ok w w1 a (Con (nil p) []) f R fits in
      let k = h.gives (m, r) in
      AtNil (subst (λ u. Means p m u) (nil_is h.rel k.0 k.1.1) k.1.0)
  prints_named w a out end (need.NoList' {w' = w1} {v = v} f none) R fits m r =
      let h = forced p ok w w1 a v f R fits in
      let k = h.gives (m, r) in
      NotAList k.1.0 (no_list h.rel v k.0 k.1.1 none)
  prints_named w a out end (need.ListSticks x) R fits m r =
      ListSticks (force_named p ok w a x R fits m r)
  prints_named w a out end
      (need.Puts {w' = w1} {w'' = w2} {h = h} {t = t} {k = i} {out = more} f g rest) R fits m r =
      let x = forced p ok w w1 a (Con (cons p) (h ∷ (t ∷ []))) f R fits in
      let k = x.gives (m, r) in
      let c = cell_is x.rel h t k.0 k.1.1 in
      let y = forced p ok w1 w2 h (Int i) g x.rel x.grows.fits in
      let k' = y.gives (c.head, c.has_head) in
      Puts (subst (λ u. Means p m u) c.is k.1.0)
      (subst (λ u. Means p c.head u) (number_is p ok y.rel i k'.0 k'.1.1) k'.1.0)
      (prints_named w2 t more end rest y.rel y.grows.fits c.tail
      (y.grows.more t c.tail c.has_tail))
  prints_named w a out end
      (need.NoByte' {w' = w1} {w'' = w2} {h = h} {t = t} {v = v} f g none) R fits m r =
      let x = forced p ok w w1 a (Con (cons p) (h ∷ (t ∷ []))) f R fits in
      let k = x.gives (m, r) in
      let c = cell_is x.rel h t k.0 k.1.1 in
      let y = forced p ok w1 w2 h v g x.rel x.grows.fits in
      let k' = y.gives (c.head, c.has_head) in
      NotAByte (subst (λ u. Means p m u) c.is k.1.0) k'.1.0 (no_number p y.rel v k'.0 k'.1.1 none)
  prints_named w a out end (need.ByteSticks {w' = w1} {h = h} {t = t} f s) R fits m r =
      let x = forced p ok w w1 a (Con (cons p) (h ∷ (t ∷ []))) f R fits in
      let k = x.gives (m, r) in
      let c = cell_is x.rel h t k.0 k.1.1 in
      ByteSticks (subst (λ u. Means p m u) c.is k.1.0)
      (force_named p ok w1 h s x.rel x.grows.fits c.head c.has_head)

  -- ---- the start

  global_at : (gs : List Function) (k f : ℕ) (fun : Function) → slice_get gs f ≡ Some fun
      → fun.params ≡ 0
      → slice_get (globals p gs k) (count_by (λ g. nat_eq g.params 0) (take f gs))
      ≡ Some (Waiting (Global (k + f)))
  global_at [] k f fun e z = absurd (none-some fun e)
  global_at (g ∷ gs) k zero fun e z =
      let same : g ≡ fun = same_Some g fun e in
      let n : k ≡ k + 0 = omega arith in
      rw (eq-eqb g.params 0 (ap (λ g. g.params) same ∙ z))
      (ap (λ j. Some (Waiting (Global j))) n)
  global_at (g ∷ gs) k (suc f) fun e z =
      let more = count_more g (take f gs) in
      let n : suc k + f ≡ k + suc f = omega arith in
      let there = global_at gs (suc k) f fun e z
      ∙ ap (λ j. Some (Waiting (Global j))) n in
      rw more (by_test (nat_eq g.params 0) there)
    where
      by_test : (b : Bool)
          → slice_get (globals p gs (suc k)) (count_by (λ g. nat_eq g.params 0) (take f gs))
          ≡ Some (Waiting (Global (k + suc f)))
          → slice_get (cond b (Waiting (Global k) ∷ []) [] ++ globals p gs (suc k))
          (cond b 1 0 + count_by (λ g. nat_eq g.params 0) (take f gs))
          ≡ Some (Waiting (Global (k + suc f)))
      by_test true q =
          let c = count_by (λ g. nat_eq g.params 0) (take f gs) in
          let z : suc c ≡ 1 + c = omega arith in
          subst (λ n. slice_get (Waiting (Global k) ∷ globals p gs (suc k)) n
          ≡ Some (Waiting (Global (k + suc f)))) z q
      by_test false q =
          let c = count_by (λ g. nat_eq g.params 0) (take f gs) in
          let z : c ≡ 0 + c = omega arith in
          subst (λ n. slice_get (globals p gs (suc k)) n ≡ Some (Waiting (Global (k + suc f)))) z q

  only_globals : (gs : List Function) (k a : ℕ) (b : Binding)
      → slice_get (globals p gs k) a ≡ Some b
      → (f : ℕ) × (b ≡ Waiting (Global f))
  only_globals [] k a b e = absurd (none-some b e)
  only_globals (g ∷ gs) k a b e =
      by_test (nat_eq g.params 0) a e (λ n q. only_globals gs (suc k) n b q)
    where
      first : (a : ℕ)
          → slice_get (Waiting (Global k) ∷ globals p gs (suc k)) a ≡ Some b
          → ((n : ℕ) → slice_get (globals p gs (suc k)) n ≡ Some b
          → (f : ℕ) × (b ≡ Waiting (Global f)))
          → (f : ℕ) × (b ≡ Waiting (Global f))
      first zero q others = (k, sym (same_Some (Waiting (Global k)) b q))
      first (suc a) q others = others a q

      by_test : (l : Bool) (a : ℕ)
          → slice_get (cond l (Waiting (Global k) ∷ []) [] ++ globals p gs (suc k)) a ≡ Some b
          → ((n : ℕ) → slice_get (globals p gs (suc k)) n ≡ Some b
          → (f : ℕ) × (b ≡ Waiting (Global f)))
          → (f : ℕ) × (b ≡ Waiting (Global f))
      by_test true a q others = first a q others
      by_test false a q others = others a q

  abbrev at_start : Rel
  at_start a m = (f : ℕ) × (HasParams p f (λ n. n ≡ 0) × ((a ≡ global p f) × (GlobalOf f ≡ m)))

  abbrev binding_waits_for : Delayed → Option Binding → Delayed
  binding_waits_for t None = t
  binding_waits_for t (Some (Known v)) = t
  binding_waits_for t (Some (Waiting u)) = u

  start_waits : (R : Rel) (i : List ℕ) (a : ℕ) (m : Meant) (t : Delayed) → at_start a m
      → slice_get (globals p p.funs 0) a ≡ Some (Waiting t) → Delays p R i t m
  start_waits R i a m t h e =
      let zero' : h.0 ≡ 0 + h.0 = omega arith in
      let is : Some (Waiting (Global h.0)) ≡ Some (Waiting t)
      = ap (λ n. Some (Waiting (Global n))) zero'
      ∙ sym (global_at p.funs 0 h.0 h.1.0.0 h.1.0.1 h.1.0.2)
      ∙ ap (λ n. slice_get (globals p p.funs 0) n) (sym h.1.1.0) ∙ e in
      subst (λ u. Delays p R i u m) (ap (binding_waits_for t) is)
      (subst (λ n. Delays p R i (Global h.0) n) h.1.1.1 (DelaysGlobal h.1.0))

  start_there : (a : ℕ) (m : Meant) → at_start a m → a < length (globals p p.funs 0)
  start_there a m h = let lt = global_below p h.0 h.1.0 in let q = h.1.1.0 in omega (arith, lt, q)

  not_known : (a : ℕ) (v : Value) → slice_get (globals p p.funs 0) a ≡ Some (Known v) → ⊥
  not_known a v e = let g = only_globals p.funs 0 a (Known v) e in let q = g.1 in cc

  not_input : (a : ℕ) → slice_get (globals p p.funs 0) a ≡ Some (Waiting Input) → ⊥
  not_input a e = let g = only_globals p.funs 0 a (Waiting Input) e in let q = g.1 in cc

  start_fits : (i : List ℕ) → Fits p at_start (need.first_world p i)
  start_fits i = record {
    there = start_there;
    known = λ a m v r e. absurd (not_known a v e);
    waits = start_waits at_start i;
    shared = λ f h. (f, (h, (refl, refl)));
    one_input = λ a b e f. absurd (not_input a e);
  }

  -- ---- the start of a program that takes the input

  module _ (i : List ℕ) (at : ℕ) (is : at ≡ length (globals p p.funs 0))
      (takes : params p p.main ≢ 0) where
    abbrev begin : World
    begin = extended (need.first_world p i) (Waiting Input ∷ (Waiting (Call p.main (at ∷ [])) ∷ []))

    abbrev with_input : Rel
    with_input a m = at_start a m
        ⊎ (((a ≡ at) × (Rest i ≡ m)) ⊎ ((a ≡ suc at) × (CallOf p.main (And (Rest i) Few) ≡ m)))

    input_there : (a : ℕ) (m : Meant) → with_input a m → a < length begin.heap
    input_there a m (inl r) =
        let lt = start_there a m r in
        let l = length-append (globals p p.funs 0)
        (Waiting Input ∷ (Waiting (Call p.main (at ∷ [])) ∷ [])) in omega (arith, lt, l)
    input_there a m (inr (inl h)) =
        let q = h.0 in
        let l = length-append (globals p p.funs 0)
        (Waiting Input ∷ (Waiting (Call p.main (at ∷ [])) ∷ [])) in omega (arith, q, is, l)
    input_there a m (inr (inr h)) =
        let q = h.0 in
        let l = length-append (globals p p.funs 0)
        (Waiting Input ∷ (Waiting (Call p.main (at ∷ [])) ∷ [])) in omega (arith, q, is, l)

    data Cell' (a : ℕ) (b : Binding) : Type 0 where
      AGlobal : slice_get (globals p p.funs 0) a ≡ Some b → Cell' a b
      TheInput : a ≡ at → Waiting Input ≡ b → Cell' a b
      TheMain : a ≡ suc at → Waiting (Call p.main (at ∷ [])) ≡ b → Cell' a b

    cell' : (a : ℕ) (b : Binding)
        → (slice_get (globals p p.funs 0) a ≡ Some b)
        ⊎ ((k : ℕ) × ((a ≡ length (globals p p.funs 0) + k)
        × (slice_get (Waiting Input ∷ (Waiting (Call p.main (at ∷ [])) ∷ [])) k ≡ Some b)))
        → Cell' a b
    cell' a b (inl e) = AGlobal e
    cell' a b (inr e) = new e.0 e.1.0 e.1.1
      where
        new : (k : ℕ) → a ≡ length (globals p p.funs 0) + k
            → slice_get (Waiting Input ∷ (Waiting (Call p.main (at ∷ [])) ∷ [])) k ≡ Some b
            → Cell' a b
        new zero q f = TheInput (omega (arith, q, is)) (same_Some (Waiting Input) b f)
        new (suc zero) q f =
            TheMain (omega (arith, q, is)) (same_Some (Waiting (Call p.main (at ∷ []))) b f)
        new (suc (suc zero)) q f = absurd cc
        new (suc (suc (suc k))) q f = absurd cc

    cell_of : (a : ℕ) (b : Binding) → slice_get begin.heap a ≡ Some b → Cell' a b
    cell_of a b e = cell' a b (get_append (globals p p.funs 0)
        (Waiting Input ∷ (Waiting (Call p.main (at ∷ [])) ∷ [])) a b e)

    no_value : (a : ℕ) (v : Value) → Cell' a (Known v) → ⊥
    no_value a v (AGlobal e) = not_known a v e
    no_value a v (TheInput q e) = cc
    no_value a v (TheMain q e) = cc

    abbrev waits_for : Delayed → Binding → Delayed
    waits_for t (Known v) = t
    waits_for t (Waiting u) = u

    main_has_one : HasParams p p.main (λ n. n ≡ 1)
    main_has_one =
        let h = ok.main in
        let same : params p p.main ≡ h.0.params = ap (params_of p) h.1 in
        let le = h.2 in
        (h.0, h.1, one h.0.params le (λ z. takes (same ∙ z)))
      where
        one : (n : ℕ) → n ≤ 1 → n ≢ 0 → n ≡ 1
        one zero le ne = absurd (ne refl)
        one (suc zero) le ne = refl
        one (suc (suc n)) le ne = absurd (omega (arith, le))

    input_waits : (a : ℕ) (m : Meant) (t : Delayed) → with_input a m → Cell' a (Waiting t)
        → Delays p with_input i t m
    input_waits a m t (inl r) (AGlobal e) = start_waits with_input i a m t r e
    input_waits a m t (inl r) (TheInput q e) =
        let lt = start_there a m r in absurd (omega (arith, lt, q, is))
    input_waits a m t (inl r) (TheMain q e) =
        let lt = start_there a m r in absurd (omega (arith, lt, q, is))
    input_waits a m t (inr (inl h)) (AGlobal e) =
        let lt = slice_get_within (globals p p.funs 0) a (Waiting t) e in
        let q = h.0 in absurd (omega (arith, lt, q, is))
    input_waits a m t (inr (inl h)) (TheInput q e) =
        subst (λ u. Delays p with_input i u m) (ap (waits_for t) e)
        (subst (λ n. Delays p with_input i Input n) h.1 DelaysInput)
    input_waits a m t (inr (inl h)) (TheMain q e) =
        let q' = h.0 in absurd (omega (arith, q, q'))
    input_waits a m t (inr (inr h)) (AGlobal e) =
        let lt = slice_get_within (globals p p.funs 0) a (Waiting t) e in
        let q = h.0 in absurd (omega (arith, lt, q, is))
    input_waits a m t (inr (inr h)) (TheInput q e) =
        let q' = h.0 in absurd (omega (arith, q, q'))
    input_waits a m t (inr (inr h)) (TheMain q e) =
        subst (λ u. Delays p with_input i u m) (ap (waits_for t) e)
        (subst (λ n. Delays p with_input i (Call p.main (at ∷ [])) n) h.1
        (DelaysCall main_has_one (Both (inr (inl (refl, refl))) NoneLeft)))

    is_input : (a : ℕ) → Cell' a (Waiting Input) → a ≡ at
    is_input a (AGlobal e) = absurd (not_input a e)
    is_input a (TheInput q e) = q
    is_input a (TheMain q e) = absurd cc

    input_fits : Fits p with_input begin
    input_fits = record {
      there = input_there;
      known = λ a m v r e. absurd (no_value a v (cell_of a (Known v) e));
      waits = λ a m t r e. input_waits a m t r (cell_of a (Waiting t) e);
      shared = λ f h. inl (f, (h, (refl, refl)));
      one_input = λ a b e f. is_input a (cell_of a (Waiting Input) e)
          ∙ sym (is_input b (cell_of b (Waiting Input) f));
    }

  pub program_named : (i out : List ℕ) (end : PrintingEnd) → need.ProgramPrints p i out end
      → ProgramPrints p i out end
  program_named i out end (need.OfItself e d) =
      let h = ok.main in
      let same : params p p.main ≡ h.0.params = ap (params_of p) h.1 in
      OfItself e (prints_named (need.first_world p i) (global p p.main) out end d at_start
      (start_fits i) (GlobalOf p.main)
      (p.main, ((h.0, h.1, sym same ∙ e), (refl, refl))))
  program_named i out end (need.OfInput at m e d) =
      OfInput m (prints_named (begin i at e m) (suc at) out end d (with_input i at e m)
      (input_fits i at e m) (CallOf p.main (And (Rest i) Few)) (inr (inr (refl, refl))))

  -- ---- from by name to by need

  nil_back : (R : Rel) (v : Value) → Same p R v (Built (nil p) Few) → v ≡ Con (nil p) []
  nil_back R v (SameCon f NoneLeft) = refl

  record CellBack (R : Rel) (v : Value) (head tail : Meant) : Type 0 where
    pub first : ℕ
    pub rest : ℕ
    pub is : v ≡ Con (cons p) (first ∷ (rest ∷ []))
    pub has_head : R first head
    pub has_tail : R rest tail

  cell_back : (R : Rel) (v : Value) (head tail : Meant)
      → Same p R v (Built (cons p) (And head (And tail Few))) → CellBack R v head tail
  cell_back R v head tail (SameCon f (Both {a = a} r (Both {a = b} r' NoneLeft))) =
      record { first = a; rest = b; is = refl; has_head = r; has_tail = r' }

  no_list_back : (R : Rel) (v : Value) (u : Meant) → Same p R v u → NoList (nil p) (cons p) u
      → list.NoList (nil p) (cons p) v
  no_list_back R v u SameNumber none = list.ANumber
  no_list_back R v u (SamePart f e) none = list.AFunction
  no_list_back R v u (SameCon f NoneLeft) none = list.NotNil none
  no_list_back R v u (SameCon f (Both r NoneLeft)) none = list.OneField
  no_list_back R v u (SameCon f (Both r (Both r' NoneLeft))) none = list.NotCons none
  no_list_back R v u (SameCon f (Both r (Both r' (Both r'' e)))) none = list.ManyFields

  prints_needed : (m : Meant) (out : List ℕ) (end : PrintingEnd) → Prints p m out end → (R : Rel)
      (w : World) (a : ℕ) → Fits p R w → R a m → need.Prints p w a out end
  prints_needed m out end Behind R w a fits r = need.Behind
  prints_needed m out end (AtNil d) R w a fits r =
      let f = force_to p ok R w a m (Built (nil p) Few) fits r d
      (λ t e. runs p ok m (Built (nil p) Few) d R w t fits e) in
      need.AtNil (subst (λ v. Forces p w a v f.world) (nil_back f.rel f.value f.same) f.derived)
  prints_needed m out end (NotAList {u = u} d none) R w a fits r =
      let f = force_to p ok R w a m u fits r d (λ t e. runs p ok m u d R w t fits e) in
      need.NoList' f.derived (no_list_back f.rel f.value u f.same none)
  prints_needed m out end (ListSticks x) R w a fits r =
      need.ListSticks (force_sticks p R w a m fits r x (λ t d. run_needed p ok m x R w t fits d))
  prints_needed m out end
      (Puts {head = head} {tail = tail} {k = k} {out = more} d d' rest) R w a fits r =
      let u : Meant = Built (cons p) (And head (And tail Few)) in
      let f = force_to p ok R w a m u fits r d (λ t e. runs p ok m u d R w t fits e) in
      let c = cell_back f.rel f.value head tail f.same in
      let g = force_to p ok f.rel f.world c.first head (Number k) f.grows.fits c.has_head d'
      (λ t e. runs p ok head (Number k) d' f.rel f.world t f.grows.fits e) in
      need.Puts (subst (λ v. Forces p w a v f.world) c.is f.derived)
      (subst (λ v. Forces p f.world c.first v g.world) (int_is p g.rel g.value k g.same) g.derived)
      (prints_needed tail more end rest g.rel g.world c.rest g.grows.fits
      (g.grows.more c.rest tail c.has_tail))
  prints_needed m out end (NotAByte {head = head} {tail = tail} {u = v} d d' none) R w a fits r =
      let u : Meant = Built (cons p) (And head (And tail Few)) in
      let f = force_to p ok R w a m u fits r d (λ t e. runs p ok m u d R w t fits e) in
      let c = cell_back f.rel f.value head tail f.same in
      let g = force_to p ok f.rel f.world c.first head v f.grows.fits c.has_head d'
      (λ t e. runs p ok head v d' f.rel f.world t f.grows.fits e) in
      need.NoByte' (subst (λ v. Forces p w a v f.world) c.is f.derived) g.derived
      (no_number_back p g.rel g.value v g.same none)
  prints_needed m out end (ByteSticks {head = head} {tail = tail} d x) R w a fits r =
      let u : Meant = Built (cons p) (And head (And tail Few)) in
      let f = force_to p ok R w a m u fits r d (λ t e. runs p ok m u d R w t fits e) in
      let c = cell_back f.rel f.value head tail f.same in
      need.ByteSticks (subst (λ v. Forces p w a v f.world) c.is f.derived)
      (force_sticks p f.rel f.world c.first head f.grows.fits c.has_head x
      (λ t e. run_needed p ok head x f.rel f.world t f.grows.fits e))

  pub program_needed : (i out : List ℕ) (end : PrintingEnd) → ProgramPrints p i out end
      → need.ProgramPrints p i out end
  program_needed i out end (OfItself e d) =
      let h = ok.main in
      let same : params p p.main ≡ h.0.params = ap (params_of p) h.1 in
      need.OfItself e (prints_needed (GlobalOf p.main) out end d at_start (need.first_world p i)
      (global p p.main) (start_fits i) (p.main, ((h.0, h.1, sym same ∙ e), (refl, refl))))
  program_needed i out end (OfInput m d) =
      let at : ℕ = length (globals p p.funs 0) in
      need.OfInput at m refl (prints_needed (CallOf p.main (And (Rest i) Few)) out end d
      (with_input i at refl m) (begin i at refl m) (suc at) (input_fits i at refl m)
      (inr (inr (refl, refl))))
