-- Terms that are alike have the same value in environments that agree on their locals.
use Rattle.std.proofs.Common.{◌≡◌, ℕ, suc, Bool, true, false, List, [], ◌∷◌, map, length, refl, sym, ap, ◌∙◌, subst, arith, inl, inr}
use Rattle.seq.specs.Lists.{AllOf}
use Rattle.seq.proofs.Lists.{length_map}
use Rattle.seq.proofs.Order.{eq_true, eq_false, eq_from}
use Rattle.arity_check.specs.declared.normal.Bound.{Bound}
use Rattle.arity_check.specs.declared.normal.Flat.{Flat}
use Rattle.arity_check.specs.declared.normal.Var.{Var}
use Rattle.arity_check.specs.Normal.{Pairwise}
use Rattle.arity_check.specs.Program.{Program, Term, Branches}
use Rattle.core_meaning.specs.Heap.{Value, Con, Part, Call, Apply, Prim, Binding, Known, Waiting, Heap, Env, with_local, with_locals}
use Rattle.core_meaning.specs.Evaluation.{State, Answer, Gives, DelayedEvaluator, is_con, is_int, fields_of, append, params, global, name, names, binding, with_group, apply, prim, form, eval, select}
use Rattle.match_compile.specs.Alike.{LocalPairs, LocalsCorrespond, linked_all, linked_group, VarAlike, AlikeLocal, AlikeGlobal, VarsAlike, FlatAlike, AlikeInt, AlikeCon, AlikePart, AlikeCall, AlikeApply, AlikePrim, TermAlike, AlikeApp, AlikeLet, AlikeCase, BranchesAlike, AlikeNoMore, AlikeOnCon, AlikeOnInt, AlikeOnAny, AlikeOnName}
use Rattle.match_compile.proofs.Beside as both
use Rattle.match_compile.proofs.Beside.{Pace, units}

-- ---- environments

abbrev pub Agree : Env → Env → LocalPairs → Type 0
Agree env env' ps = (x y : ℕ) → LocalsCorrespond ps x y → env' y ≡ env x

pub agree_local : (env env' : Env) (ps : LocalPairs) (x y a : ℕ) → Agree env env' ps
    → Agree (with_local env x a) (with_local env' y a) ((x, y) ∷ ps)
agree_local env env' ps x y a g z w (inl h) = rw (eq_true z x h.0, eq_true w y h.1) refl
agree_local env env' ps x y a g z w (inr h) = rw (eq_false z x h.0, eq_false w y h.1.0)
    (g z w h.1.1)

pub agree_all : (xs ys as' : List ℕ) (env env' : Env) (ps : LocalPairs) → length xs ≡ length as'
    → length ys ≡ length as' → Agree env env' ps → Agree (with_locals env xs as')
    (with_locals env' ys as') (linked_all xs ys ps)
agree_all [] [] as' env env' ps e f g = g
agree_all [] (y ∷ ys) as' env env' ps e f g = absurd (omega (arith, e, f))
agree_all (x ∷ xs) [] as' env env' ps e f g = absurd (omega (arith, e, f))
agree_all (x ∷ xs) (y ∷ ys) [] env env' ps e f g = absurd (omega (arith, e))
agree_all (x ∷ xs) (y ∷ ys) (a ∷ as') env env' ps e f g =
    agree_all xs ys as' (with_local env x a) (with_local env' y a) ((x, y) ∷ ps) (omega (arith, e))
    (omega (arith, f)) (agree_local env env' ps x y a g)

module _ (p p' : Program) where
  pub agree_group : (R : Bound → Bound → Type 0) (bs cs : List Bound) (a : ℕ) (env env' : Env)
      (ps : LocalPairs) → Pairwise R bs cs → Agree env env' ps
      → Agree (with_group p env bs a) (with_group p' env' cs a) (linked_group bs cs ps)
  agree_group R [] [] a env env' ps h g = g
  agree_group R [] (c ∷ cs) a env env' ps h g = absurd h
  agree_group R (b ∷ bs) [] a env env' ps h g = absurd h
  agree_group R (b ∷ bs) (c ∷ cs) a env env' ps h g =
      agree_group R bs cs (suc a) (with_local env b.local a) (with_local env' c.local a)
      ((b.local, c.local) ∷ ps) h.1 (agree_local env env' ps b.local c.local a g)

  module _ (many : ℕ → ℕ) (IsFun : ℕ → Type 0)
      (counts : (f : ℕ) → IsFun f → params p' f ≡ params p f)
      (same_global : (f : ℕ) → IsFun f → params p f ≡ 0 → global p' f ≡ global p f) where
    -- ---- names

    name_same : (env env' : Env) (ps : LocalPairs) → Agree env env' ps → (x y : Var)
        → VarAlike (params p) many IsFun ps x y → name p' env' y ≡ name p env x
    name_same env env' ps g x y (AlikeLocal {x = a} {y = b} l) = g a b l
    name_same env env' ps g x y (AlikeGlobal {f = f} is z) = same_global f is z

    pub names_same : (env env' : Env) (ps : LocalPairs) → Agree env env' ps → (xs ys : List Var)
        → VarsAlike (params p) many IsFun ps xs ys → names p' env' ys ≡ names p env xs
    names_same env env' ps g [] [] h = refl
    names_same env env' ps g [] (y ∷ ys) h = absurd h
    names_same env env' ps g (x ∷ xs) [] h = absurd h
    names_same env env' ps g (x ∷ xs) (y ∷ ys) h = λ i. name_same env env' ps g x y h.0 i ∷
        names_same env env' ps g xs ys h.1 i

    names_long : (env : Env) (xs : List Var) → length (names p env xs) ≡ length xs
    names_long env xs = length_map (name p env) xs

    -- ---- bindings

    abbrev BindingOk : Binding → Type 0
    BindingOk = both.BindingOk (params p) (params p') many IsFun counts

    abbrev ValueOk : Value → Type 0
    ValueOk = both.ValueOk (params p) (params p') many IsFun counts

    binding_ok : (env : Env) (ps : LocalPairs) (f g : Flat) → FlatAlike (params p) many IsFun ps f g
        → BindingOk (binding p env f)
    binding_ok env ps f g AlikeInt = both.OkKnown both.OkInt
    binding_ok env ps f g (AlikeCon {xs = xs} e h) = both.OkKnown
        (both.OkCon (names_long env xs ∙ e))
    binding_ok env ps f g (AlikePart {xs = xs} is lt h) = let l = names_long env xs
        in both.OkKnown (both.OkPart is (omega (arith, l, lt)))
    binding_ok env ps f g (AlikeCall {xs = xs} is e h)
        = both.OkWaiting (both.OkCall is (names_long env xs ∙ e))
    binding_ok env ps f g (AlikeApply a h) = both.OkWaiting both.OkApply
    binding_ok env ps f g (AlikePrim a b) = both.OkWaiting both.OkPrim

    binding_same : (env env' : Env) (ps : LocalPairs) → Agree env env' ps → (f g : Flat)
        → FlatAlike (params p) many IsFun ps f g → binding p' env' g ≡ binding p env f
    binding_same env env' ps a f g AlikeInt = refl
    binding_same env env' ps a f g (AlikeCon {c = c} {xs = xs} {ys = ys} e h)
        = ap (λ w. Known (Con c w)) (names_same env env' ps a xs ys h)
    binding_same env env' ps a f g (AlikePart {f = k} {xs = xs} {ys = ys} is lt h)
        = ap (λ w. Known (Part k w)) (names_same env env' ps a xs ys h)
    binding_same env env' ps a f g (AlikeCall {f = k} {xs = xs} {ys = ys} is e h)
        = ap (λ w. Waiting (Call k w)) (names_same env env' ps a xs ys h)
    binding_same env env' ps a f g (AlikeApply {x = x} {y = y} {xs = xs} {ys = ys} v h)
        = λ i. Waiting
        (Apply (name_same env env' ps a x y v i) (names_same env env' ps a xs ys h i))
    binding_same env env' ps a f g (AlikePrim {op = op} {x = x} {y = y} {x' = x'} {y' = y'} v w)
        = λ i. Waiting
        (Prim op (name_same env env' ps a x x' v i) (name_same env env' ps a y y' w i))

    abbrev made : Program → Env → List Bound → Heap
    made r env bs = map (λ b. binding r env b.flat) bs

    group_ok : (env : Env) (ps : LocalPairs) (bs cs : List Bound)
        → Pairwise (λ b c. FlatAlike (params p) many IsFun ps b.flat c.flat) bs cs
        → AllOf BindingOk (made p env bs)
    group_ok env ps [] [] h = tt
    group_ok env ps [] (c ∷ cs) h = absurd h
    group_ok env ps (b ∷ bs) [] h = absurd h
    group_ok env ps (b ∷ bs) (c ∷ cs) h =
        (binding_ok env ps b.flat c.flat h.0, group_ok env ps bs cs h.1)

    group_same : (env env' : Env) (ps : LocalPairs) → Agree env env' ps → (bs cs : List Bound)
        → Pairwise (λ b c. FlatAlike (params p) many IsFun ps b.flat c.flat) bs cs
        → made p' env' cs ≡ made p env bs
    group_same env env' ps a [] [] h = refl
    group_same env env' ps a [] (c ∷ cs) h = absurd h
    group_same env env' ps a (b ∷ bs) [] h = absurd h
    group_same env env' ps a (b ∷ bs) (c ∷ cs) h = λ i. binding_same env env' ps a b.flat c.flat h.0
        i ∷ group_same env env' ps a bs cs h.1 i

    -- the fields of a value that is one of a constructor
    pub has_fields : (c : ℕ) (v : Value) → ValueOk v → is_con c v ≡ true
        → length (fields_of v) ≡ many c
    has_fields c v both.OkInt e = absurd cc
    has_fields c v (both.OkCon {c = k} {xs = xs} h) e = h ∙ ap many (eq_from k c e)
    has_fields c v (both.OkPart is lt) e = absurd cc

    -- ---- evaluation

    module _ (pace : Pace) (n m : ℕ) (onward onward' : DelayedEvaluator)
        (on : both.SameOnward (params p) (params p') many IsFun counts pace n m onward onward')
      where
        abbrev Answers : (spare : ℕ) → Answer → Answer → Type 0
        Answers = both.Answers (params p) (params p') many IsFun counts pace n m

        abbrev Beside : (spare : ℕ) → State → ℕ → Type 0
        Beside = both.Beside (params p) (params p') many IsFun counts pace n m

        form_beside : (env env' : Env) (ps : LocalPairs) → Agree env env' ps → (f g : Flat)
            → FlatAlike (params p) many IsFun ps f g → (spare d : ℕ) (s : State) (u e : ℕ)
            → Beside spare s u
            → Answers spare (form p onward env f d s) (form p' onward' env' g d (units s u e))
        form_beside env env' ps a f g AlikeInt spare d s u e k = both.BothGive both.OkInt k
        form_beside env env' ps a f g (AlikeCon {c = c} {xs = xs} {ys = ys} l h) spare d s u e k =
            subst (λ w. Answers spare (Gives (Con c (names p env xs)) s)
            (Gives (Con c w) (units s u e))) (sym (names_same env env' ps a xs ys h))
            (both.BothGive (both.OkCon (names_long env xs ∙ l)) k)
        form_beside env env' ps a f g (AlikePart {f = i} {xs = xs} {ys = ys} is lt h) spare d s u e
            k
            =
            let l = names_long env xs in
            subst (λ w. Answers spare (Gives (Part i (names p env xs)) s)
            (Gives (Part i w) (units s u e))) (sym (names_same env env' ps a xs ys h))
            (both.BothGive (both.OkPart is (omega (arith, l, lt))) k)
        form_beside env env' ps a f g (AlikeCall {f = i} {xs = xs} {ys = ys} is l h) spare d s u e k
            =
            subst (λ w. Answers spare (onward (Call i (names p env xs)) d s)
            (onward' (Call i w) d (units s u e))) (sym (names_same env env' ps a xs ys h))
            (on (Call i (names p env xs)) (both.OkCall is (names_long env xs ∙ l)) spare d s u e k)
        form_beside env env' ps a f g (AlikeApply {x = x} {y = y} {xs = xs} {ys = ys} v h) spare d s
            u
            e k =
            subst (λ (w : ℕ × List ℕ). Answers spare
            (apply p onward (name p env x) (names p env xs) d s)
            (apply p' onward' w.0 w.1 d (units s u e)))
            (λ i. (
              sym (name_same env env' ps a x y v) i,
              sym (names_same env env' ps a xs ys h) i,
            ))
            (both.apply_beside (params p) (params p') many IsFun counts pace n m onward onward' on
            (name p env x) (names p env xs) d spare s u e k)
        form_beside env env' ps a f g (AlikePrim {op = op} {x = x} {y = y} {x' = x'} {y' = y'} v w)
            spare d s u e k =
            subst (λ (w : ℕ × ℕ). Answers spare (prim p onward op (name p env x) (name p env y) d s)
            (prim p' onward' op w.0 w.1 d (units s u e)))
            (λ i. (
              sym (name_same env env' ps a x x' v) i,
              sym (name_same env env' ps a y y' w) i,
            ))
            (both.prim_beside (params p) (params p') many IsFun counts pace n m onward onward' on op
            (name p env x) (name p env y) d spare s u e k)

        pub cases_beside : (spare : ℕ) (b : Bool) (x x' y y' : Answer)
            → (b ≡ true → Answers spare x x') → Answers spare y y'
            → Answers spare (elim b [ true ↦ x | false ↦ y ]) (elim b [ true ↦ x' | false ↦ y' ])
        cases_beside spare true x x' y y' f g = f refl
        cases_beside spare false x x' y y' f g = g

        mutual
          pub eval_beside : (env env' : Env) (ps : LocalPairs) (t t' : Term)
              → TermAlike (params p) many IsFun ps t t' → Agree env env' ps
              → (spare d : ℕ) (s : State) (u e : ℕ) → Beside spare s u
              → Answers spare (eval p onward t env d s) (eval p' onward' t' env' d (units s u e))
          eval_beside env env' ps t t' (AlikeApp {f = f} {g = g} h) a spare d s u e k
              = form_beside env env' ps a f g h spare d s u e k
          eval_beside env env' ps t t' (AlikeLet {bs = bs} {cs = cs} {e = x} {e' = x'} h b) a spare
              d
              s u e k =
              let ps' : LocalPairs = linked_group bs cs ps in
              let inner : Env = with_group p env bs (length s.heap) in
              let inner' : Env = with_group p' env' cs (length s.heap) in
              let a' : Agree inner inner' ps' = agree_group
              (λ b c. FlatAlike (params p) many IsFun ps' b.flat c.flat) bs cs (length s.heap) env
              env' ps h a in
              subst (λ w. Answers spare (eval p onward x inner d (append s (made p inner bs)))
              (eval p' onward' x' inner' d (append (units s u e) w)))
              (sym (group_same inner inner' ps' a' bs cs h))
              (eval_beside inner inner' ps' x x' b a' spare d (append s (made p inner bs)) u e
              (both.appended (params p) (params p') many IsFun counts pace n m spare s u
              (made p inner bs) k (group_ok inner ps' bs cs h)))
          eval_beside env env' ps t t' (AlikeCase {e = x} {e' = x'} {bs = bs} {cs = cs} h b) a spare
              d
              s u e k =
              both.then_beside (params p) (params p') many IsFun counts pace n m spare
              (λ v s. select p onward bs v env d s) (λ v s. select p' onward' cs v env' d s)
              (eval_beside env env' ps x x' h a spare (suc d) s u e k)
              (λ v s u e g k. select_beside env env' ps bs cs b a v g spare d s u e k)

          pub select_beside : (env env' : Env) (ps : LocalPairs) (bs cs : Branches)
              → BranchesAlike (params p) many IsFun ps bs cs → Agree env env' ps → (v : Value)
              → ValueOk v → (spare d : ℕ) (s : State) (u e : ℕ) → Beside spare s u
              → Answers spare (select p onward bs v env d s)
              (select p' onward' cs v env' d (units s u e))
          select_beside env env' ps bs cs AlikeNoMore a v g spare d s u e k = both.NeitherAccepts
          select_beside env env' ps bs cs
              (AlikeOnCon {c = c} {xs = xs} {ys = ys} {e = x} {e' = x'} l l' h b) a v g spare d s u
              e
              k =
              cases_beside spare (is_con c v) _ _ _ _
              (λ i. let f = has_fields c v g i in
              eval_beside (with_locals env xs (fields_of v)) (with_locals env' ys (fields_of v))
              (linked_all xs ys ps) x x' h
              (agree_all xs ys (fields_of v) env env' ps (l ∙ sym f) (l' ∙ sym f) a) spare d s u e
              k)
              (select_beside env env' ps _ _ b a v g spare d s u e k)
          select_beside env env' ps bs cs (AlikeOnInt {k = i} {e = x} {e' = x'} h b) a v g spare d s
              u
              e k =
              cases_beside spare (is_int i v) _ _ _ _
              (λ i. eval_beside env env' ps x x' h a spare d s u e k)
              (select_beside env env' ps _ _ b a v g spare d s u e k)
          select_beside env env' ps bs cs (AlikeOnAny {e = x} {e' = x'} h b) a v g spare d s u e k
              = eval_beside env env' ps x x' h a spare d s u e k
          select_beside env env' ps bs cs (AlikeOnName {x = x} {y = y} {e = b} {e' = b'} h r) a v g
              spare d s u e k =
              eval_beside (with_local env x (length s.heap)) (with_local env' y (length s.heap))
              ((x, y) ∷ ps) b b' h (agree_local env env' ps x y (length s.heap) a) spare d
              (append s (Known v ∷ [])) u e
              (both.appended (params p) (params p') many IsFun counts pace n m spare s u
              (Known v ∷ []) k (both.OkKnown g, tt))
