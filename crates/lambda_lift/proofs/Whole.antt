-- The lifted program puts out the same as its text.
use Rattle.std.proofs.Common.{◌≡◌, ℕ, zero, suc, ◌+◌, ◌≤◌, ◌<◌, Bool, true, false, cond, not, nat_eq, nat_lt, List, [], ◌∷◌, ◌++◌, length, take, Option, Some, None, slice_get, codes, refl, sym, ap, ◌∙◌, subst, arith, length-append}
use Rattle.std.specs.Prelude.{fold}
use Rattle.std.specs.List.{count_by, position_or_len}
use Rattle.std.specs.Str.{bytes_eq}
use Rattle.std.proofs.lemmas.Slice.Eq.{bytes_eq-Decides}
use Rattle.seq.specs.Lists.{AllOf}
use Rattle.seq.proofs.Lists.{get_left, all_get, some_is, none_is_some, length_map, some_at}
use Rattle.seq.proofs.Order.{eq_false, eq_from, lt_from}
use Rattle.seq.proofs.Truth.{both_ways}
use Rattle.core_reader.specs.Tree as core
use Rattle.core_reader.specs.Tree.{Data}
use Rattle.lambda_reader.specs.Tree.{Function, Program}
use Rattle.arity_check.specs.declared.normal.Con as constructors
use Rattle.arity_check.specs.Accepted as check
use Rattle.arity_check.specs.Normal.{Pairwise, IsFunction, IsConstructor, IsNormalForm}
use Rattle.arity_check.specs.Program as normal
use Rattle.arity_check.specs.Scope.{is_named}
use Rattle.core_meaning.specs.Heap.{HeapOf, Waiting, Global}
use Rattle.core_meaning.specs.Forcing as forcing
use Rattle.core_meaning.specs.Forcing.{StateOf, NoAlternative}
use Rattle.core_meaning.specs.ByNeed as by_need
use Rattle.core_meaning.specs.Printing as printing
use Rattle.core_meaning.specs.WellFormed.{HasFields, FunOk, WellFormed}
use Rattle.core_meaning.proofs.Shared.{count_more}
use Rattle.lambda_lift.specs.Headers.{program_headers, within}
use Rattle.lambda_lift.specs.Free.{free}
use Rattle.lambda_lift.specs.Abstractions.{Abstraction, abstractions, count}
use Rattle.lambda_lift.specs.Lifted.{lifted, lifted_bodies, lifted_functions, parameters}
use Rattle.lambda_lift.specs.Meaning as meaning
use Rattle.lambda_lift.specs.Meaning.{Fun, Top, Closure, arity}
use Rattle.lambda_lift.proofs.Matching.{HasTop}
use Rattle.lambda_lift.proofs.Scopes.{free_alike}
use Rattle.lambda_lift.proofs.Standing.{located_first, Stands, AsTop, AsClosure}
use Rattle.lambda_lift.proofs.AppliedForms.{some_length}
use Rattle.lambda_lift.proofs.Evaluated.{Ground, fields, fields_in}
use Rattle.lambda_lift.proofs.Entered.{Code, TopAt, Bodies, entered}
use Rattle.lambda_lift.proofs.Texts.{FunctionFits, ProgramFits}
use Rattle.lambda_lift.proofs.Program.{HasSome, some_functions, lambdas, body_at, agree, agree_named, calls, found, named_as, not_main}
use Rattle.lambda_lift.proofs.Simulated as both

-- ---- counting the functions without parameters

one_more : (k a : ℕ) (gs : List Function) → fold
    (λ a (g : Function). a + cond (nat_eq (length g.params) 0) 1 0) (k + a) gs ≡ k + fold
    (λ a (g : Function). a + cond (nat_eq (length g.params) 0) 1 0) a gs
one_more k a [] = refl
one_more k a (g ∷ gs) =
    let e : k + a + cond (nat_eq (length g.params) 0) 1 0 ≡ k +
    (a + cond (nat_eq (length g.params) 0) 1 0) = omega arith in
    rw e (one_more k (a + cond (nat_eq (length g.params) 0) 1 0) gs)

text_more : (g : Function) (gs : List Function) → count_by
    (λ (g : Function). nat_eq (length g.params) 0) (g ∷ gs) ≡ cond (nat_eq (length g.params) 0) 1 0
    + count_by (λ (g : Function). nat_eq (length g.params) 0) gs
text_more g gs =
    let e : 0 + cond (nat_eq (length g.params) 0) 1 0 ≡ cond (nat_eq (length g.params) 0) 1 0 + 0
    = omega arith in
    rw e (one_more (cond (nat_eq (length g.params) 0) 1 0) 0 gs)

record PairAt {X Y : Type 0} (R : X → Y → Type 0) (ys : List Y) (i : ℕ) (x : X) : Type 0 where
  other : Y
  is : slice_get ys i ≡ Some other
  related : R x other

pair_at : {X Y : Type 0} (R : X → Y → Type 0) (xs : List X) (ys : List Y) (i : ℕ) (x : X)
    → Pairwise R xs ys → slice_get xs i ≡ Some x → PairAt R ys i x
pair_at R [] ys i x w e = none_is_some e
pair_at R (z ∷ xs) [] i x w e = absurd w
pair_at R (z ∷ xs) (y ∷ ys) zero x w e = record
    { other = y; is = refl; related = subst (λ z. R z y) (some_is e) w.0 }
pair_at R (z ∷ xs) (y ∷ ys) (suc i) x w e = let r = pair_at R xs ys i x w.1 e
    in record { other = r.other; is = r.is; related = r.related }

-- ---- texts

bytes_turned : (a b : List ℕ) → bytes_eq a b ≡ bytes_eq b a
bytes_turned a b = both_ways (bytes_eq a b) (bytes_eq b a)
    (λ e. (bytes_eq-Decides b a).1 (sym ((bytes_eq-Decides a b).0 e)))
    (λ e. (bytes_eq-Decides a b).1 (sym ((bytes_eq-Decides b a).0 e)))

module _ (c : Program) (p : normal.Program) (fits : ProgramFits c)
    (ok : check.BreaksNoRule (lifted c)) (nf : IsNormalForm (lifted c) p) (well : WellFormed p)
  where
    -- ---- bodies

    code : (i : ℕ) (f : core.Function) → slice_get (lifted c).functions i ≡ Some f → Code c p i f
    code i f e =
        let r = pair_at (IsFunction (lifted c)) (lifted c).functions p.funs i f nf.funs e in
        record {
          function = r.other;
          is = r.is;
          related = r.related;
          ok
              = all_get (FunOk p) p.funs i r.other well.bodies r.is;
        }

    tops : (i : ℕ) (f : Function) → slice_get c.functions i ≡ Some f → TopAt c p i f
    tops i f e =
        let r = body_at c fits c.functions 0 i f
        (record {
          at = λ j a h. let z : j ≡ 0 + j = omega arith
              in subst (λ n. slice_get (abstractions c) n ≡ Some a) z h;
        }) e in
        let w = all_get (FunctionFits (length c.names)) c.functions i f fits.functions e in
        record {
          number = r.number;
          is = get_left (lifted_bodies c 0 c.functions)
              (lifted_functions c 0 (abstractions c)) i _ r.is;
          located = r.located;
          below
              = w.params;
          fits = w.body;
        }

    bodies : Bodies c p
    bodies = record
        { code = code; tops = tops; lambdas = lambdas c fits; found = found c fits (λ y a. ⊥) }

    -- ---- how many parameters

    params_is : (i : ℕ) (f : core.Function) → slice_get (lifted c).functions i ≡ Some f
        → by_need.params p i ≡ length f.params
    params_is i f e = let r = code i f e in ap (by_need.params_of p) r.is ∙ r.related.params

    counts : (f : Fun) (front : List ℕ) (g : ℕ) → Stands c f front g
        → by_need.params p g ≡ length front + arity c f
    counts f front g (AsTop {f = i} {k = k} top) =
        let t = tops i top.function top.is in
        let a : arity c (Top i) ≡ length top.function.params
        = ap (λ (o : Option Function). elim o [ Some g ↦ length g.params | None ↦ 0 ]) top.is in
        let n = params_is i _ t.is in
        omega (arith, a, n)
    counts f front g (AsClosure {s = s} {env = env} {params = params} {body = body} k l ef eg) =
        let h = lambdas c fits k _ (located_first _ _ _ k l.located) in
        let n = params_is (length c.functions + k) _ h in
        let same : free c env params body ≡ free c s params body
        = free_alike c s env params body l.alike in
        let m1 : length (parameters l.at (free c s params body) ++ params) ≡ length
        (parameters l.at (free c s params body)) + length params
        = length-append (parameters l.at (free c s params body)) params in
        let m2 : length (parameters l.at (free c s params body)) ≡ length (free c s params body)
        = length_map _ (free c s params body) in
        let m3 : length front ≡ length (free c env params body)
        = ap length ef ∙ length_map _ (free c env params body) in
        let m4 = ap length same in
        let n' = ap (by_need.params p) eg in
        omega (arith, n, n', m1, m2, m3, m4)

    -- ---- functions without parameters

    global_is : (fs : List Function) (gs : List normal.Function) (k : ℕ) (more : List core.Function)
        (i : ℕ) (f : Function) → Pairwise (IsFunction (lifted c)) (lifted_bodies c k fs ++ more) gs
        → slice_get fs i ≡ Some f
        → count_by (λ (g : normal.Function). nat_eq g.params 0) (take i gs) ≡ count_by
        (λ (g : Function). nat_eq (length g.params) 0) (take i fs)
    global_is [] gs k more i f w e = none_is_some e
    global_is (g ∷ fs) [] k more i f w e = absurd w
    global_is (g ∷ fs) (h ∷ gs) k more zero f w e = refl
    global_is (g ∷ fs) (h ∷ gs) k more (suc i) f w e =
        count_more h (take i gs) ∙
        (λ j. cond (nat_eq (w.0.params j) 0) 1 0 + global_is fs gs
        (k + count c (within c g.params []) g.body) more i f w.1 e j) ∙ sym
        (text_more g (take i fs))

    globals : (f : ℕ) → HasTop c f 0 → by_need.global p f ≡ meaning.global c f
    globals f top = global_is c.functions p.funs 0 (lifted_functions c 0 (abstractions c)) f
        top.function nf.funs top.is

    ground : Ground c p
    ground = record
        { agree = agree c fits; calls = calls c fits; counts = counts; globals = globals }

    -- ---- the heaps at the start

    abbrev HeapLike : HeapOf Fun → HeapOf ℕ → Type 0
    HeapLike = both.HeapLike (Stands c) (arity c) (by_need.params p) ground.counts
        (fields c p ground)

    none_waits : (fs : List core.Function) (gs : List normal.Function) (f : ℕ)
        → Pairwise (IsFunction (lifted c)) fs gs → AllOf
        (λ (g : core.Function). 0 < length g.params)
        fs → by_need.globals p gs f ≡ []
    none_waits [] [] f w h = refl
    none_waits [] (g ∷ gs) f w h = absurd w
    none_waits (g ∷ fs) [] f w h = absurd w
    none_waits (g ∷ fs) (h ∷ gs) f w l =
        let e : nat_eq h.params 0 ≡ false = eq_false h.params 0
        (λ z. let n = w.0.params in let lt = l.0 in omega (arith, z, n, lt)) in
        ap (λ b. cond b (Waiting (Global f) ∷ []) [] ++ by_need.globals p gs (suc f)) e ∙ none_waits
        fs gs (suc f) w.1 l.1

    heaps_like : (fs : List Function) (gs : List normal.Function) (k f : ℕ)
        (more : List core.Function) → Pairwise (IsFunction (lifted c))
        (lifted_bodies c k fs ++ more)
        gs → AllOf (λ (g : core.Function). 0 < length g.params) more
        → ((i : ℕ) (g : Function) → slice_get fs i ≡ Some g
        → slice_get c.functions (f + i) ≡ Some g)
        → HeapLike (meaning.globals c fs f) (by_need.globals p gs f)
    heaps_like [] gs k f more w l at = subst (λ h. HeapLike [] h) (sym (none_waits more gs f w l))
        tt
    heaps_like (g ∷ fs) [] k f more w l at = absurd w
    heaps_like (g ∷ fs) (h ∷ gs) k f more w l at =
        let z : f + 0 ≡ f = omega arith in
        let here = subst (λ j. slice_get c.functions j ≡ Some g) z (at 0 g refl) in
        let rest = heaps_like fs gs (k + count c (within c g.params []) g.body) (suc f) more w.1 l
        (λ i x e. let s : f + suc i ≡ suc f + i = omega arith
        in subst (λ j. slice_get c.functions j ≡ Some x) s (at (suc i) x e)) in
        subst (λ n. HeapLike
        (cond (nat_eq (length g.params) 0) (Waiting (Global (Top f)) ∷ []) []
        ++ meaning.globals c fs (suc f))
        (cond (nat_eq n 0) (Waiting (Global f) ∷ []) [] ++ by_need.globals p gs (suc f)))
        (sym w.0.params)
        (by here rest (nat_eq (length g.params) 0) refl)
      where
        by : slice_get c.functions f ≡ Some g → HeapLike (meaning.globals c fs (suc f))
            (by_need.globals p gs (suc f)) → (b : Bool) → nat_eq (length g.params) 0 ≡ b
            → HeapLike (cond b (Waiting (Global (Top f)) ∷ []) [] ++ meaning.globals c fs (suc f))
            (cond b (Waiting (Global f) ∷ []) [] ++ by_need.globals p gs (suc f))
        by here rest false e = rest
        by here rest true e =
            let a : arity c (Top f) ≡ 0 = ap
            (λ (o : Option Function). elim o [ Some g ↦ length g.params | None ↦ 0 ]) here ∙
            eq_from (length g.params) 0 e in (
              both.LikeWaiting
                  (both.LikeGlobal (AsTop (record { function = g; is = here; params = refl })) a),
              rest,
            )

    lifted_some : (as' : List Abstraction) (n : ℕ) → HasSome as'
        → AllOf (λ (g : core.Function). 0 < length g.params) (lifted_functions c n as')
    lifted_some [] n h = tt
    lifted_some (a ∷ as') n h =
        let pos = some_length a.params h.0 in
        let m = length-append (parameters a.at (free c a.scope a.params a.body)) a.params in
        (omega (arith, pos, m), lifted_some as' (suc n) h.1)

    heaps : HeapLike (meaning.globals c c.functions 0) (by_need.globals p p.funs 0)
    heaps = heaps_like c.functions p.funs 0 0 (lifted_functions c 0 (abstractions c)) nf.funs
        (lifted_some (abstractions c) 0
        (some_functions c (length c.names) c.functions fits.functions))
        (λ i g e. let z : i ≡ 0 + i = omega arith in subst (λ j. slice_get c.functions j ≡ Some g) z
        e)

    -- ---- main

    abbrev is_main : core.Function → Bool
    is_main f = is_named (lifted c) (codes "main") f.name

    abbrev is_text_main : Function → Bool
    is_text_main f = is_named (program_headers c) (codes "main") f.name

    none_first : (fs : List core.Function) → AllOf (λ (f : core.Function). is_main f ≡ false) fs
        → position_or_len is_main fs ≡ length fs
    none_first [] h = refl
    none_first (f ∷ fs) h = let z : 1 + position_or_len is_main fs ≡ suc
        (position_or_len is_main fs)
        = omega arith in ap (λ b. cond (not b) (1 + position_or_len is_main fs) 0) h.0 ∙ z ∙ ap suc
        (none_first fs h.1)

    -- the same place, within a list
    record SamePlace (n n' len' : ℕ) : Type 0 where
      same : n ≡ n'
      within : n' < len'

    main_is : (fs : List Function) (k : ℕ) (more : List core.Function)
        → AllOf (FunctionFits (length c.names)) fs → AllOf
        (λ (f : core.Function). is_main f ≡ false)
        more → position_or_len is_main (lifted_bodies c k fs ++ more) < length
        (lifted_bodies c k fs ++ more)
        → SamePlace (position_or_len is_main (lifted_bodies c k fs ++ more))
        (position_or_len is_text_main fs) (length fs)
    main_is [] k more h n lt = let e = none_first more n in absurd (omega (arith, e, lt))
    main_is (f ∷ fs) k more h n lt =
        let rest = lifted_bodies c (k + count c (within c f.params []) f.body) fs ++ more in
        let same : is_text_main f ≡ is_named (lifted c) (codes "main") f.name
        = sym (agree_named c fits (codes "main") f.name h.0.name) in
        subst (λ b. SamePlace
        (cond (not (is_named (lifted c) (codes "main") f.name)) (1 + position_or_len is_main rest)
        0) (cond (not b) (1 + position_or_len is_text_main fs) 0) (suc (length fs))) (sym same)
        (by (is_named (lifted c) (codes "main") f.name) (position_or_len is_main rest) (length rest)
        (position_or_len is_text_main fs) lt
        (λ lt. main_is fs (k + count c (within c f.params []) f.body) more h.1 n lt))
      where
        by : (b : Bool) (m len m' : ℕ) → cond (not b) (1 + m) 0 < suc len
            → (m < len → SamePlace m m' (length fs)) → SamePlace (cond (not b) (1 + m) 0)
            (cond (not b) (1 + m') 0) (suc (length fs))
        by true m len m' lt later = record { same = refl; within = omega arith }
        by false m len m' lt later = let r = later (omega (arith, lt))
            in record
            { same = ap (λ j. 1 + j) r.same; within = let w = r.within in omega (arith, w) }

    main_at : (position_or_len is_main (lifted c).functions ≡ p.main)
        × (position_or_len is_main (lifted c).functions < length (lifted c).functions)
    main_at = by
        (nat_lt (position_or_len is_main (lifted c).functions) (length (lifted c).functions))
        refl nf.main
      where
        by : (b : Bool) → nat_lt (position_or_len is_main (lifted c).functions)
            (length (lifted c).functions) ≡ b → cond b
            (Some (position_or_len is_main (lifted c).functions)) None ≡ Some p.main
            → (position_or_len is_main (lifted c).functions ≡ p.main)
            × (position_or_len is_main (lifted c).functions < length (lifted c).functions)
        by true l i = (some_is i, lt_from _ _ l)
        by false l i = none_is_some i

    main_place : SamePlace (position_or_len is_main (lifted c).functions) (meaning.main c)
        (length c.functions)
    main_place = main_is c.functions 0 (lifted_functions c 0 (abstractions c)) fits.functions
        (not_main c fits (abstractions c) 0 (omega arith)) main_at.1

    main_same : p.main ≡ meaning.main c
    main_same = sym main_at.0 ∙ main_place.same

    main_top : (f : Function) × (slice_get c.functions (meaning.main c) ≡ Some f)
    main_top = some_at c.functions (meaning.main c) main_place.within

    mains : Stands c (Top (meaning.main c)) [] p.main
    mains = subst (λ g. Stands c (Top (meaning.main c)) [] g) (sym main_same)
        (AsTop (record { function = main_top.0; is = main_top.1; params = refl }))

    few : arity c (Top (meaning.main c)) ≤ 1
    few =
        let n = counts (Top (meaning.main c)) [] p.main mains in
        let m : by_need.params p p.main ≡ well.main.0.params = ap (by_need.params_of p) well.main.1
        in
        let l = well.main.2 in
        omega (arith, n, m, l)

    -- ---- the list's constructors

    cons_is : (name : List ℕ) (ds : List Data) (cs : List constructors.Con)
        → Pairwise (IsConstructor (lifted c)) ds cs
        → AllOf (λ (d : Data). d.name < length c.names) ds
        → by_need.con_named name cs ≡ position_or_len
        (λ (d : Data). is_named (program_headers c) name d.name) ds
    cons_is name [] [] w h = refl
    cons_is name [] (e ∷ cs) w h = absurd w
    cons_is name (d ∷ ds) [] w h = absurd w
    cons_is name (d ∷ ds) (e ∷ cs) w h =
        let same : is_named (program_headers c) name d.name ≡ bytes_eq name e.name
        = sym (agree_named c fits name d.name h.0) ∙ named_as (lifted c) d.name e.name name
        w.0.name ∙ bytes_turned e.name name in
        subst (λ b. cond (bytes_eq name e.name) 0 (by_need.con_named name cs + 1) ≡ cond (not b)
        (1 + position_or_len (λ (d : Data). is_named (program_headers c) name d.name) ds) 0)
        (sym same)
        (by (bytes_eq name e.name) _ _ (cons_is name ds cs w.1 h.1))
      where
        by : (b : Bool) (m n : ℕ) → m ≡ n → cond b 0 (m + 1) ≡ cond (not b) (1 + n) 0
        by true m n e = refl
        by false m n e = omega (arith, e)

    nil_is : by_need.nil p ≡ meaning.con_named c (codes "Nil")
    nil_is = cons_is (codes "Nil") c.constructors p.cons nf.cons fits.constructors

    cons_are : by_need.cons p ≡ meaning.con_named c (codes "Cons")
    cons_are = cons_is (codes "Cons") c.constructors p.cons nf.cons fits.constructors

    fields_are : (d k : ℕ) → HasFields p d k → fields c p ground d ≡ k
    fields_are d k h = ap fields_in h.1 ∙ h.2

    -- ---- the whole

    pub keeps : (i : List ℕ) (n : ℕ) → printing.printed p i n ≡ meaning.printed c i n
    keeps i n =
        both.printed_like (Stands c) (arity c) (by_need.params p) ground.counts (fields c p ground)
        NoAlternative NoAlternative (λ s t k. both.NeitherAccepts k)
        (by_need.nil p) (by_need.cons p) (fields_are (by_need.nil p) 0 well.nil_fields)
        (fields_are (by_need.cons p) 2 well.cons_fields)
        (meaning.enter c) (by_need.enter 0 NoAlternative p)
        (λ onward onward' on f front g r xs e d s t k. entered c p ground bodies onward onward' on
        f front g r xs e d s t k)
        (meaning.globals c c.functions 0) (by_need.globals p p.funs 0) heaps (Top (meaning.main c))
        p.main mains few (by_need.global p p.main) i n
        ∙ (λ j. forcing.printed (arity c) NoAlternative (nil_is j) (cons_are j) (meaning.enter c)
        (meaning.globals c c.functions 0) (Top (meaning.main c)) (named j) i n)
      where
        named : by_need.global p p.main ≡ meaning.global c (meaning.main c)
        named = ap (by_need.global p) main_same ∙ global_is c.functions p.funs 0
            (lifted_functions c 0 (abstractions c)) (meaning.main c) main_top.0 nf.funs main_top.1
