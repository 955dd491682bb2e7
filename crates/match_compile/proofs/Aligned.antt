-- Two programs whose first functions have as many parameters, where all further functions of one
-- have some,
-- begin with the same heap.
use Rattle.std.proofs.Common.{◌≡◌, ℕ, zero, suc, ◌+◌, ◌≤◌, false, cond, nat_eq, List, [], ◌∷◌, ◌++◌, take, length, fold, Some, slice_get, refl, sym, ap, ◌∙◌, arith}
use Rattle.std.specs.Prelude.{◌==◌}
use Rattle.seq.specs.Lists.{AllOf}
use Rattle.seq.proofs.Lists.{some_is, get_within}
use Rattle.arity_check.specs.Normal.{Pairwise}
use Rattle.arity_check.specs.Program.{Program, Function}
use Rattle.core_meaning.specs.Heap.{Waiting, Global}
use Rattle.core_meaning.specs.Evaluation.{params_of, params, global, globals}

abbrev pub SameParams : List Function → List Function → Type 0
SameParams = Pairwise (λ (f : Function) (g : Function). f.params ≡ g.params)

abbrev pub SomeParams : List Function → Type 0
SomeParams = AllOf (λ (f : Function). (f.params == 0) ≡ false)

module _ (p p' : Program) where
  no_globals : (more : List Function) (k : ℕ) → SomeParams more → globals p more k ≡ []
  no_globals [] k h = refl
  no_globals (f ∷ more) k h = rw h.0 (no_globals more (suc k) h.1)

  globals_same : (fs gs more : List Function) (k : ℕ) → SameParams fs gs → SomeParams more
      → globals p (fs ++ more) k ≡ globals p' gs k
  globals_same [] [] more k h s = no_globals more k s
  globals_same [] (g ∷ gs) more k h s = absurd h
  globals_same (f ∷ fs) [] more k h s = absurd h
  globals_same (f ∷ fs) (g ∷ gs) more k h s = λ i. cond (h.0 i == 0) (Waiting (Global k) ∷ []) []
      ++ globals_same fs gs more (suc k) h.1 s i

  counted : ℕ → Function → ℕ
  counted a g = a + cond (nat_eq g.params 0) 1 0

  count_same : (fs gs more : List Function) (f a : ℕ) → SameParams fs gs → f ≤ length gs
      → fold counted a (take f (fs ++ more)) ≡ fold counted a (take f gs)
  unfolding counted
  count_same fs gs more zero a h le = refl
  count_same [] [] more (suc f) a h le = absurd (omega (arith, le))
  count_same [] (g ∷ gs) more (suc f) a h le = absurd h
  count_same (x ∷ fs) [] more (suc f) a h le = absurd h
  count_same (x ∷ fs) (g ∷ gs) more (suc f) a h le =
      (λ i. fold counted (a + cond (nat_eq (h.0 i) 0) 1 0) (take f (fs ++ more))) ∙ count_same fs gs
      more f (a + cond (nat_eq g.params 0) 1 0) h.1 (omega (arith, le))

  params_same : (fs gs more : List Function) (f : ℕ) (g : Function) → SameParams fs gs
      → slice_get gs f ≡ Some g → params_of p (slice_get (fs ++ more) f) ≡ g.params
  params_same [] [] more f g h e = absurd cc
  params_same [] (y ∷ gs) more f g h e = absurd h
  params_same (x ∷ fs) [] more f g h e = absurd h
  params_same (x ∷ fs) (y ∷ gs) more zero g h e = h.0 ∙ ap (λ (w : Function). w.params) (some_is e)
  params_same (x ∷ fs) (y ∷ gs) more (suc f) g h e = params_same fs gs more f g h.1 e

  -- the functions of one are aligned with the first functions of the other
  pub record Aligned : Type 0 where
    pub firsts : List Function
    pub more : List Function
    pub are : p.funs ≡ firsts ++ more
    pub same : SameParams firsts p'.funs
    pub some : SomeParams more

  pub same_heap : Aligned → globals p p.funs 0 ≡ globals p' p'.funs 0
  same_heap a = ap (λ w. globals p w 0) a.are ∙ globals_same a.firsts p'.funs a.more 0 a.same a.some

  pub same_params : Aligned → (f : ℕ) (g : Function) → slice_get p'.funs f ≡ Some g
      → params p f ≡ params p' f
  same_params a f g e = ap (λ w. params_of p (slice_get w f)) a.are ∙ params_same a.firsts p'.funs
      a.more f g a.same e ∙ sym (ap (params_of p') e)

  pub same_name : Aligned → (f : ℕ) (g : Function) → slice_get p'.funs f ≡ Some g
      → global p f ≡ global p' f
  unfolding counted
  same_name a f g e =
      let lt = get_within p'.funs f g e in
      ap (λ w. fold counted 0 (take f w)) a.are ∙ count_same a.firsts p'.funs a.more f 0 a.same
      (omega (arith, lt))
