-- An expression and its lifted form have the same value: evaluation goes the same way in both.
use Rattle.std.proofs.Common.{◌≡◌, ℕ, suc, ◌+◌, ◌≤◌, ◌<◌, Bool, true, false, List, [], ◌∷◌, ◌++◌, map, length, Option, Some, None, slice_get, codes, refl, sym, ap, ◌∙◌, subst, arith, inl, inr}
use Rattle.std.specs.Prelude.{◌==◌, ℤ, cond}
use Rattle.std.specs.List.{range_with_len}
use Rattle.std.proofs.lemmas.List.FromFn.{length-range_with_len}
use Rattle.seq.specs.Lists.{AllOf}
use Rattle.seq.proofs.Lists.{append_nil, length_map}
use Rattle.seq.proofs.Order.{eq_from}
use Rattle.core_reader.specs.declared.syntax.Pattern.TheVariants as pattern
use Rattle.core_reader.specs.Tree as core
use Rattle.lambda_reader.specs.Tree.{Term, Terms, Group, Expr, App, Let, Case, Alts, NoAlts, AndAlt, Program}
use Rattle.numbers.specs.Numbers.{same_number}
use Rattle.arity_check.specs.declared.normal.Bound.{Bound}
use Rattle.arity_check.specs.declared.normal.Flat as flats
use Rattle.arity_check.specs.declared.normal.Flat.TheVariants as flat
use Rattle.arity_check.specs.declared.normal.Var.{Var}
use Rattle.arity_check.specs.declared.normal.Con as constructors
use Rattle.arity_check.specs.declared.meaning.Meaning.TheVariants as stands
use Rattle.arity_check.specs.Program as normal
use Rattle.arity_check.specs.Scope as scope
use Rattle.arity_check.specs.Scope.{Scope, con_number, is_named, binds, binds_all}
use Rattle.arity_check.specs.Normal.{Pairwise, IsFlat, IsGroup, IsNormal, PlainApp, BoundApp, Choice, AreBranches, NoBranches, ConBranch, IntBranch, NamelessBranch, NamedBranch}
use Rattle.arity_check.specs.Normal as form
use Rattle.arity_check.proofs.Numbers.{flat_numbered}
use Rattle.core_meaning.specs.Heap.{ValueOf, Con, DelayedOf, Call, Apply, Prim, BindingOf, Known, Waiting, HeapOf, Env, with_local, with_locals}
use Rattle.core_meaning.specs.Forcing.{StateOf, AnswerOf, DelayedEvaluatorOf, Gives, NoAlternative, append, is_con, is_int, fields_of}
use Rattle.core_meaning.specs.ByNeed as by_need
use Rattle.core_meaning.specs.WellFormed.{HasFields, FormOk, TermOk, BranchesOk}
use Rattle.lambda_lift.specs.Headers.{names_of, binders_of, program_headers, within}
use Rattle.lambda_lift.specs.Free.{free}
use Rattle.lambda_lift.specs.Abstractions as inside
use Rattle.lambda_lift.specs.Abstractions.{Abstraction, in_term, in_terms, in_expr, in_alts, abstractions, count_term, count_group, count}
use Rattle.lambda_lift.specs.Lifted as lifted
use Rattle.lambda_lift.specs.Lifted.{lifted_name, lift_term, lift_terms, lift_group, lift, lift_alts}
use Rattle.lambda_lift.specs.Meaning as meaning
use Rattle.lambda_lift.specs.Meaning.{Fun, Binding, Heap, arguments, members, bindings_of, places_of, with_all, number_of, global, arity, does, eval, select}
use Rattle.lambda_lift.proofs.Fits.{And, Below, FitsTerm, FitsTerms, FitsGroup, Fits, FitsAlts, more as fits_more}
use Rattle.lambda_lift.proofs.Matching.{HasTop, AgreeBelow, Sees, sees_more, sees_all, sees_nameless}
use Rattle.lambda_lift.proofs.Scopes.{Alike, binds_all_alike}
use Rattle.lambda_lift.proofs.Standing.{Located, located_left, located_right, Stands}
use Rattle.lambda_lift.proofs.Environments.{At, local_here, local_other, group_before, group_at, locals_before, locals_at}
use Rattle.lambda_lift.proofs.AppliedForms.{NameLike, LocalLike, GlobalLike, NamesLike, FormLike, IntLike, ConLike, PartLike, CallLike, ApplyLike, PrimLike, NewsLike, Placed}
use Rattle.lambda_lift.proofs.Flats.{flat_like, args_like}
use Rattle.lambda_lift.proofs.Groups.{Moved, group_like, group_long, group_numbered, names_lifted}
use Rattle.lambda_lift.proofs.Simulated as both

-- ---- later locals have larger numbers

mutual
  normal_grows : {p : core.Program} {s : Scope} {n m : ℕ} {e : core.Expr} {t : normal.Term}
      → IsNormal p s n e t m → n ≤ m
  normal_grows (PlainApp d) = omega arith
  normal_grows (BoundApp d) = omega arith
  normal_grows (form.Group inner xs bounds e g b) = let h = normal_grows b in omega (arith, h)
  normal_grows (Choice a b) = let h = normal_grows a in let i = branches_grow b
      in omega (arith, h, i)

  branches_grow : {p : core.Program} {s : Scope} {n m : ℕ} {alts : core.Alts}
      {branches : normal.Branches} → AreBranches p s n alts branches m → n ≤ m
  branches_grow NoBranches = omega arith
  branches_grow (ConBranch xs e r a b) = let h = normal_grows a in let i = branches_grow b
      in omega (arith, h, i)
  branches_grow (IntBranch a b) = let h = normal_grows a in let i = branches_grow b
      in omega (arith, h, i)
  branches_grow (NamelessBranch e a b) = let h = normal_grows a in let i = branches_grow b
      in omega (arith, h, i)
  branches_grow (NamedBranch e a b) = let h = normal_grows a in let i = branches_grow b
      in omega (arith, h, i)

pairs : (xs ys : List ℕ) → length xs ≡ length ys → Pairwise (λ x y. Unit {0}) xs ys
pairs [] [] e = tt
pairs [] (y ∷ ys) e = absurd (omega (arith, e))
pairs (x ∷ xs) [] e = absurd (omega (arith, e))
pairs (x ∷ xs) (y ∷ ys) e = (tt, pairs xs ys (omega (arith, e)))

pairs_long : (R : ℕ → ℕ → Type 0) (xs ys : List ℕ) → Pairwise R xs ys → length ys ≡ length xs
pairs_long R [] [] h = refl
pairs_long R [] (y ∷ ys) h = absurd h
pairs_long R (x ∷ xs) [] h = absurd h
pairs_long R (x ∷ xs) (y ∷ ys) h = ap suc (pairs_long R xs ys h.1)

pairs_more : (R Q : ℕ → ℕ → Type 0) → ((x y : ℕ) → R x y → Q x y) → (xs ys : List ℕ)
    → Pairwise R xs ys → Pairwise Q xs ys
pairs_more R Q f [] [] h = tt
pairs_more R Q f [] (y ∷ ys) h = absurd h
pairs_more R Q f (x ∷ xs) [] h = absurd h
pairs_more R Q f (x ∷ xs) (y ∷ ys) h = (f x y h.0, pairs_more R Q f xs ys h.1)

-- how many fields a constructor has
abbrev pub fields_in : Option constructors.Con → ℕ
fields_in (Some d) = d.fields
fields_in None = 0

-- What is known of a text and the normal form of its lifted program.
pub record Ground (c : Program) (p : normal.Program) : Type 0 where
  pub agree : AgreeBelow (lifted.lifted c) (program_headers c) (length c.names)
  pub calls : (t : Scope) → AllOf (λ b. b.0 < length c.names) t → (k : ℕ) (a : Abstraction)
      → slice_get (abstractions c) k ≡ Some a
      → scope.means (lifted.lifted c) t (lifted_name c k) ≡ stands.Function (length c.functions + k)
      (length (free c a.scope a.params a.body) + length a.params)
  pub counts : (f : Fun) (front : List ℕ) (g : ℕ) → Stands c f front g
      → by_need.params p g ≡ length front + arity c f
  pub globals : (f : ℕ) → HasTop c f 0 → by_need.global p f ≡ global c f

module _ (c : Program) (p : normal.Program) (ground : Ground c p) where
  abbrev pub fields : ℕ → ℕ
  fields d = fields_in (slice_get p.cons d)

  has_fields : (d k : ℕ) → HasFields p d k → fields d ≡ k
  has_fields d k h = ap fields_in h.1 ∙ h.2

  abbrev pub ValueLike : ValueOf Fun → ValueOf ℕ → Type 0
  ValueLike = both.ValueLike (Stands c) (arity c) (by_need.params p) ground.counts fields

  abbrev pub BindingLike : BindingOf Fun → BindingOf ℕ → Type 0
  BindingLike = both.BindingLike (Stands c) (arity c) (by_need.params p) ground.counts fields

  abbrev pub DelayedLike : DelayedOf Fun → DelayedOf ℕ → Type 0
  DelayedLike = both.DelayedLike (Stands c) (arity c) (by_need.params p) ground.counts fields

  abbrev pub HeapLike : HeapOf Fun → HeapOf ℕ → Type 0
  HeapLike = both.HeapLike (Stands c) (arity c) (by_need.params p) ground.counts fields

  abbrev pub StateLike : StateOf Fun → StateOf ℕ → Type 0
  StateLike = both.StateLike (Stands c) (arity c) (by_need.params p) ground.counts fields

  abbrev pub AnswerLike : AnswerOf Fun → AnswerOf ℕ → Type 0
  AnswerLike = both.AnswerLike (Stands c) (arity c) (by_need.params p) ground.counts fields

  abbrev pub SameOnward : DelayedEvaluatorOf Fun → DelayedEvaluatorOf ℕ → Type 0
  SameOnward = both.SameOnward (Stands c) (arity c) (by_need.params p) ground.counts fields

  -- ---- forms as bindings

  module _ (env : Env) (m : ℕ) where
    name_is : {v : Var} {a : ℕ} → NameLike c (At env m) v a → by_need.name p env v ≡ a
    name_is (LocalLike g) = g.name
    name_is (GlobalLike {f = f} top e) = ground.globals f top ∙ sym e

    names_are : (xs : List Var) (as' : List ℕ) → NamesLike c (At env m) xs as'
        → by_need.names p env xs ≡ as'
    names_are [] [] h = refl
    names_are [] (a ∷ as') h = absurd h
    names_are (x ∷ xs) [] h = absurd h
    names_are (x ∷ xs) (a ∷ as') h = λ i. name_is h.0 i ∷ names_are xs as' h.1 i

    binding_like : {b : Binding} {f : flats.Flat} (S : ℕ → Type 0) → FormLike c (At env m) b f
        → FormOk p S f → BindingLike b (by_need.binding p env f)
    binding_like S IntLike ok = both.LikeKnown both.LikeInt
    binding_like S (ConLike {d = d} {as' = as'} {xs = xs} l) ok =
        let long : length as' ≡ fields d = pairs_vars xs as' l ∙ sym (has_fields d (length xs) ok.0)
        in
        subst (λ ys. BindingLike (Known (Con d as')) (Known (Con d ys))) (sym (names_are xs as' l))
        (both.LikeKnown (both.LikeCon long))
      where
        pairs_vars : (xs : List Var) (as' : List ℕ) → NamesLike c (At env m) xs as'
            → length as' ≡ length xs
        pairs_vars [] [] h = refl
        pairs_vars [] (a ∷ as') h = absurd h
        pairs_vars (x ∷ xs) [] h = absurd h
        pairs_vars (x ∷ xs) (a ∷ as') h = ap suc (pairs_vars xs as' h.1)
    binding_like S (PartLike {xs = xs} front bs st lt l e) ok
        = both.LikeKnown (both.LikePart front st lt (names_are xs bs l ∙ e))
    binding_like S (CallLike {xs = xs} front bs st n l e) ok
        = both.LikeWaiting (both.LikeCall front st n (names_are xs bs l ∙ e))
    binding_like S (ApplyLike {a = a} {x = x} {as' = as'} {xs = xs} g l) ok =
        subst (λ y. BindingLike (Waiting (Apply a as'))
        (Waiting (Apply y (by_need.names p env xs)))) (sym (name_is g))
        (subst (λ ys. BindingLike (Waiting (Apply a as')) (Waiting (Apply a ys)))
        (sym (names_are xs as' l)) (both.LikeWaiting both.LikeApply))
    binding_like S (PrimLike {op = op} {a = a} {b = b} {x = x} {y = y} g h) ok =
        subst (λ z. BindingLike (Waiting (Prim op a b))
        (Waiting (Prim op z (by_need.name p env y)))) (sym (name_is g))
        (subst (λ z. BindingLike (Waiting (Prim op a b)) (Waiting (Prim op a z))) (sym (name_is h))
        (both.LikeWaiting both.LikePrim))

    news_like : (S : ℕ → Type 0) (fs : Heap) (bs : List Bound) → NewsLike c (At env m) fs bs
        → AllOf (λ b. FormOk p S b.flat) bs → HeapLike fs
        (map (λ (b : Bound). by_need.binding p env b.flat) bs)
    news_like S [] [] h ok = tt
    news_like S [] (b ∷ bs) h ok = absurd h
    news_like S (f ∷ fs) [] h ok = absurd h
    news_like S (f ∷ fs) (b ∷ bs) h ok = (binding_like S h.0 ok.0, news_like S fs bs h.1 ok.1)

  grown : (env : Env) (m n y a : ℕ) → m ≤ n → At env m y a → At env n y a
  grown env m n y a le h = record { name = h.name; below = let b = h.below in omega (arith, b, le) }

  module _ (onward : DelayedEvaluatorOf Fun) (onward' : DelayedEvaluatorOf ℕ)
      (on : SameOnward onward onward') where
    -- what a form does
    known_does : {b : Binding} {w : ValueOf ℕ} (d : ℕ) (σ : StateOf Fun) (τ : StateOf ℕ)
        → BindingLike b (Known w) → StateLike σ τ → AnswerLike (does c onward b d σ) (Gives w τ)
    known_does d σ τ (both.LikeKnown v) k = both.BothGive v k

    waiting_does : {b : Binding} {u : DelayedOf ℕ} (go : AnswerOf ℕ) (d : ℕ) (σ : StateOf Fun)
        (τ : StateOf ℕ) → BindingLike b (Waiting u)
        → ((t : DelayedOf Fun) → DelayedLike t u → AnswerLike (does c onward (Waiting t) d σ) go)
        → AnswerLike (does c onward b d σ) go
    waiting_does go d σ τ (both.LikeWaiting {t = t} h) f = f t h

    both_lost : (s : StateOf Fun) (t : StateOf ℕ) → StateLike s t
        → AnswerLike (NoAlternative s) (NoAlternative t)
    both_lost s t k = both.NeitherAccepts k

    does_like : (env : Env) (b : Binding) (f : flats.Flat) (d : ℕ) (σ : StateOf Fun) (τ : StateOf ℕ)
        → BindingLike b (by_need.binding p env f) → StateLike σ τ
        → AnswerLike (does c onward b d σ) (by_need.form 0 NoAlternative p onward' env f d τ)
    does_like env b (flat.Int k) d σ τ h st = known_does d σ τ h st
    does_like env b (flat.Con e xs) d σ τ h st = known_does d σ τ h st
    does_like env b (flat.Part g xs) d σ τ h st = known_does d σ τ h st
    does_like env b (flat.Call g xs) d σ τ h st = waiting_does _ d σ τ h by
      where
        by : (t : DelayedOf Fun) → DelayedLike t (Call g (by_need.names p env xs))
            → AnswerLike (does c onward (Waiting t) d σ)
            (onward' (Call g (by_need.names p env xs)) d τ)
        by t (both.LikeCall {f = f} {xs = ys} front r n e)
            = on (Call f ys) (Call g (by_need.names p env xs)) (both.LikeCall front r n e) d σ τ st
    does_like env b (flat.Apply x xs) d σ τ h st = waiting_does _ d σ τ h by
      where
        by : {a : ℕ} {ys : List ℕ} (t : DelayedOf Fun) → DelayedLike t (Apply a ys)
            → AnswerLike (does c onward (Waiting t) d σ)
            (by_need.apply 0 NoAlternative p onward' a ys d τ)
        by t (both.LikeApply {a = a} {xs = ys}) = both.apply_like (Stands c) (arity c)
            (by_need.params p) ground.counts fields NoAlternative NoAlternative both_lost onward
            onward' on a ys d σ τ st
    does_like env b (flat.Prim op x y) d σ τ h st = waiting_does _ d σ τ h by
      where
        by : {i j : ℕ} (t : DelayedOf Fun) → DelayedLike t (Prim op i j)
            → AnswerLike (does c onward (Waiting t) d σ)
            (by_need.prim 0 NoAlternative p onward' op i j d τ)
        by t (both.LikePrim {op = op} {a = i} {b = j})
            = both.prim_like (Stands c) (arity c) (by_need.params p) ground.counts fields
            NoAlternative NoAlternative both_lost onward onward' on op i j d σ τ st

    -- ---- an application

    -- where a piece stands: its scope in the text, that in the lifted program, the text's
    -- environment, the locals' names, and the names that it may use
    app_like : (head : Term) (args : Terms) (s t env : Scope) (ρ : Env) (V : ℕ → Type 0)
        (k m0 m m' : ℕ) (e' : normal.Term) (S : ℕ → Type 0) → FitsTerm (length c.names) V head
        → FitsTerms (length c.names) V args → Located (abstractions c)
        (in_term c s head ++ in_terms c s args) k → Alike s env
        → Sees c (lifted.lifted c) ground.agree V (At ρ m0) t env → m0 ≤ m
        → IsNormal (lifted.lifted c) t m (lift c s k (App head args)) e' m' → TermOk p S e'
        → (d : ℕ) (σ : StateOf Fun) (τ : StateOf ℕ) → StateLike σ τ
        → AnswerLike (eval c onward (App head args) env d σ)
        (by_need.eval 0 NoAlternative p onward' e' ρ d τ)
    app_like head args s t env ρ V k m0 m m' e' S fh fa l al sees le (PlainApp {form = form'} w) ok
        d σ τ st =
        let made = meaning.flat c env (length τ.heap) head (arguments c env args) in
        let sees' = sees_more c (lifted.lifted c) ground.agree V V (At ρ m0) (At ρ m) t env
        (λ x v. v) (λ y a h. grown ρ m0 m y a le h) sees in
        let r = flat_like c (At ρ m) t s env V sees'.names al (ground.calls t sees.below) head k _
        (arguments c env args) m (length τ.heap) [] form' fh
        (located_left _ (in_term c s head) (in_terms c s args) k l)
        (args_like c (At ρ m) t s env V sees'.names al (ground.calls t sees.below) args
        (k + count_term c s head) fa
        (located_right _ (in_term c s head) (in_terms c s args) k l)) w
        (record { at = λ i y a lt f g. absurd (omega (arith, lt)) }) in
        let heap = both.heaps_append (Stands c) (arity c) (by_need.params p) ground.counts fields
        σ.heap made.news τ.heap [] st.heap (news_like ρ m S made.news [] r.news tt) in
        let state : StateLike (append σ made.news) τ
        = record {
          heap = subst (λ h. HeapLike (σ.heap ++ made.news) h) (append_nil τ.heap)
              heap;
          left = st.left;
          depth = st.depth;
          input = st.input;
          used = st.used;
        } in
        subst (λ n. AnswerLike
        (does c onward (meaning.flat c env n head (arguments c env args)).form d
        (append σ (meaning.flat c env n head (arguments c env args)).news))
        (by_need.form 0 NoAlternative p onward' ρ form' d τ)) (long σ τ st)
        (does_like ρ made.form form' d (append σ made.news) τ (binding_like ρ m S r.form ok) state)
      where
        long : (σ : StateOf Fun) (τ : StateOf ℕ) → StateLike σ τ → length τ.heap ≡ length σ.heap
        long σ τ st = both.as_long (Stands c) (arity c) (by_need.params p) ground.counts fields
            σ.heap τ.heap st.heap
    app_like head args s t env ρ V k m0 m m' e' S fh fa l al sees le
        (BoundApp {new = new} {news = news} {form = form'} w) ok d σ τ st =
        let made = meaning.flat c env (length τ.heap) head (arguments c env args) in
        let ρ' = by_need.with_group p ρ (new ∷ news) (length τ.heap) in
        let m1 = m + length (new ∷ news) in
        let numbered = flat_numbered (lifted.lifted c) t w in
        let good : (y a : ℕ) → At ρ m0 y a → At ρ' m1 y a
        = λ y a h. record {
          name = group_before p (new ∷ news) ρ m (length τ.heap) y numbered
              (let b = h.below in omega (arith, b, le)) ∙ h.name;
          below = let b = h.below
              in omega (arith, b, le);
        } in
        let placed : Placed c (At ρ' m1) m (length τ.heap) (length (new ∷ news))
        = record {
          at = λ i y a lt f g. record {
            name = ap ρ' f ∙ group_at p (new ∷ news) ρ m (length τ.heap) i numbered lt ∙ sym g;
            below = omega (arith, f, lt);
          };
        } in
        let sees' = sees_more c (lifted.lifted c) ground.agree V V (At ρ m0) (At ρ' m1) t env
        (λ x v. v) good sees in
        let r = flat_like c (At ρ' m1) t s env V sees'.names al (ground.calls t sees.below) head k _
        (arguments c env args) m (length τ.heap) (new ∷ news) form' fh
        (located_left _ (in_term c s head) (in_terms c s args) k l)
        (args_like c (At ρ' m1) t s env V sees'.names al (ground.calls t sees.below) args
        (k + count_term c s head) fa
        (located_right _ (in_term c s head) (in_terms c s args) k l)) w placed in
        let more = map (λ (b : Bound). by_need.binding p ρ' b.flat) (new ∷ news) in
        let state = both.append_like (Stands c) (arity c) (by_need.params p) ground.counts fields σ
        τ made.news more st (news_like ρ' m1 _ made.news (new ∷ news) r.news ok.0) in
        subst (λ n. AnswerLike
        (does c onward (meaning.flat c env n head (arguments c env args)).form d
        (append σ (meaning.flat c env n head (arguments c env args)).news))
        (by_need.form 0 NoAlternative p onward' ρ' form' d (append τ more))) (long σ τ st)
        (does_like ρ' made.form form' d (append σ made.news) (append τ more)
        (binding_like ρ' m1 _ r.form ok.1) state)
      where
        long : (σ : StateOf Fun) (τ : StateOf ℕ) → StateLike σ τ → length τ.heap ≡ length σ.heap
        long σ τ st = both.as_long (Stands c) (arity c) (by_need.params p) ground.counts fields
            σ.heap τ.heap st.heap

    -- ---- a group

    pub record GroupLike (group : Group) (s t' env env' : Scope) (ρ' : Env) (V : ℕ → Type 0)
        (m1 n : ℕ) (bounds : List Bound) : Type 0 where
      pub sees : Sees c (lifted.lifted c) ground.agree (And V (names_of (binders_of group)))
          (At ρ' m1) t' env'
      pub alike : Alike (within c (binders_of group) s) env'
      pub heap : HeapLike (bindings_of c (members c env' n group))
          (map (λ (b : Bound). by_need.binding p ρ' b.flat) bounds)

    enters_group : (group : Group) (s t t' env : Scope) (ρ : Env) (V S : ℕ → Type 0) (k m0 m n : ℕ)
        (bounds : List Bound) (xs : List ℕ) → Below (length c.names) (names_of (binders_of group))
        → FitsGroup (length c.names) (And V (names_of (binders_of group))) group
        → Located (abstractions c) (inside.in_group c (within c (binders_of group) s) group) k
        → Alike s env → Sees c (lifted.lifted c) ground.agree V (At ρ m0) t env → m0 ≤ m
        → t' ≡ binds_all (lifted.lifted c) (names_of (binders_of group)) xs t
        → IsGroup (lifted.lifted c) t' m (lift_group c (within c (binders_of group) s) k group)
        bounds xs
        → AllOf (λ (b : Bound). FormOk p S b.flat) bounds
        → GroupLike group s t' env (meaning.in_group c env n group)
        (by_need.with_group p ρ bounds n) V (m + length bounds) n bounds
    enters_group group s t t' env ρ V S k m0 m n bounds xs below fits l al sees le et g ok =
        let names = names_of (binders_of group) in
        let s' = within c (binders_of group) s in
        let q = lifted.lifted c in
        let ρ' = by_need.with_group p ρ bounds n in
        let m1 = m + length bounds in
        let numbered = group_numbered g in
        let count : length xs ≡ length names = group_long g ∙ sym
        (length_map _ (lift_group c s' k group)) ∙ ap length (names_lifted c s' k group) in
        let dummy = with_all c (binders_of group) names env in
        let sees1 = subst (λ i. Sees c q ground.agree (And V names) (λ y a. Unit {0}) i dummy)
        (sym et)
        (sees_all c q ground.agree (λ y a. Unit {0}) names xs names V t env below count
        (pairs xs names count)
        (sees_more c q ground.agree V V (At ρ m0) (λ y a. Unit {0}) t env (λ x v. v)
        (λ y a h. tt) sees)) in
        let alike1 = binds_all_alike c names names names s env refl refl al in
        let r1 = group_like c (λ y a. Unit {0}) t' s' dummy (And V names) sees1.names alike1
        (ground.calls t' sees1.below) group k m n bounds xs fits l g
        (record { at = λ i y a lt f h. tt }) in
        let places = places_of c n (members c dummy n group) in
        let at : (x a : ℕ) → Moved m n (length bounds) x a → At ρ' m1 x a
        = λ x a o. record {
          name = ap ρ' o.local ∙ group_at p bounds ρ m n o.offset numbered o.within ∙ sym
              o.name;
          below = let w = o.within in let i = o.local in omega (arith, w, i);
        } in
        let good : (y a : ℕ) → At ρ m0 y a → At ρ' m1 y a
        = λ y a h. record {
          name = group_before p bounds ρ m n y numbered
              (let b = h.below in omega (arith, b, le)) ∙ h.name;
          below = let b = h.below
              in omega (arith, b, le);
        } in
        let env' = with_all c (binders_of group) places env in
        let sees2 = subst (λ i. Sees c q ground.agree (And V names) (At ρ' m1) i env') (sym et)
        (sees_all c q ground.agree (At ρ' m1) names xs places V t env below count
        (pairs_more _ _ at xs places r1.places)
        (sees_more c q ground.agree V V (At ρ m0) (At ρ' m1) t env (λ x v. v) good sees)) in
        let alike2 = binds_all_alike c names names places s env refl
        (pairs_long _ xs places r1.places ∙ count) al in
        let placed : Placed c (At ρ' m1) m n (length bounds)
        = record {
          at = λ i y a lt f h. record {
            name = ap ρ' f ∙ group_at p bounds ρ m n i numbered lt ∙ sym h;
            below
                = omega (arith, f, lt);
          };
        } in
        let r2 = group_like c (At ρ' m1) t' s' env' (And V names) sees2.names alike2
        (ground.calls t' sees2.below) group k m n bounds xs fits l g placed in
        record {
          sees = sees2;
          alike = alike2;
          heap
              = news_like ρ' m1 S (bindings_of c (members c env' n group)) bounds r2.news ok;
        }

    -- ---- alternatives

    con_cases : {v : ValueOf Fun} {w : ValueOf ℕ} (number : ℕ) (some : List ℕ → AnswerOf Fun)
        (some' : List ℕ → AnswerOf ℕ) (none : AnswerOf Fun) (none' : AnswerOf ℕ) → ValueLike v w
        → ((ys : List ℕ) → length ys ≡ fields number → AnswerLike (some ys) (some' ys))
        → AnswerLike none none'
        → AnswerLike
        (elim (is_con number v) as (λ _. AnswerOf Fun)
        [ true ↦ some (fields_of v) | false ↦ none ])
        (elim (is_con number w) as (λ _. AnswerOf ℕ)
        [ true ↦ some' (fields_of w) | false ↦ none' ])
    con_cases number some some' none none' both.LikeInt h k = k
    con_cases number some some' none none' (both.LikePart front r lt e) h k = k
    con_cases number some some' none none' (both.LikeCon {c = e} {xs = ys} long) h k
        = by (e == number) refl
      where
        by : (b : Bool) → (e == number) ≡ b → AnswerLike
            (elim b as (λ _. AnswerOf Fun) [ true ↦ some ys | false ↦ none ])
            (elim b as (λ _. AnswerOf ℕ) [ true ↦ some' ys | false ↦ none' ])
        by true s = h ys (long ∙ ap fields (eq_from e number s))
        by false s = k

    int_cases : {v : ValueOf Fun} {w : ValueOf ℕ} (number : ℤ) (some none : AnswerOf Fun)
        (some' none' : AnswerOf ℕ) → ValueLike v w → AnswerLike some some' → AnswerLike none none'
        → AnswerLike (elim (is_int number v) as (λ _. AnswerOf Fun) [ true ↦ some | false ↦ none ])
        (elim (is_int number w) as (λ _. AnswerOf ℕ) [ true ↦ some' | false ↦ none' ])
    int_cases number some none some' none' (both.LikeInt {k = i}) h k = by (same_number number i)
      where
        by : (b : Bool) → AnswerLike (elim b as (λ _. AnswerOf Fun) [ true ↦ some | false ↦ none ])
            (elim b as (λ _. AnswerOf ℕ) [ true ↦ some' | false ↦ none' ])
        by true = h
        by false = k
    int_cases number some none some' none' (both.LikePart front r lt e) h k = k
    int_cases number some none some' none' (both.LikeCon e) h k = k

    number_is : (d number : ℕ) → con_number (lifted.lifted c) d ≡ Some number
        → number_of c d ≡ number
    number_is d number e = ap (λ (o : Option ℕ). elim o [ Some k ↦ k | None ↦ 0 ]) e

    -- one more local
    with_one : (t env : Scope) (ρ : Env) (V : ℕ → Type 0) (m0 m n x : ℕ) → x < length c.names
        → Sees c (lifted.lifted c) ground.agree V (At ρ m0) t env → m0 ≤ m
        → Sees c (lifted.lifted c) ground.agree (And V (x ∷ [])) (At (with_local ρ m n) (m + 1))
        (binds (lifted.lifted c) x m t) (binds (program_headers c) x n env)
    with_one t env ρ V m0 m n x lt sees le =
        let q = lifted.lifted c in
        let good : (y a : ℕ) → At ρ m0 y a → At (with_local ρ m n) (m + 1) y a
        = λ y a h. record {
          name = local_other ρ m n y (let b = h.below in omega (arith, b, le)) ∙ h.name;
          below
              = let b = h.below in omega (arith, b, le);
        } in
        sees_all c q ground.agree (At (with_local ρ m n) (m + 1)) (x ∷ []) (m ∷ []) (n ∷ []) V t env
        (lt, tt) refl (record { name = local_here ρ m n; below = omega arith }, tt)
        (sees_more c q ground.agree V V (At ρ m0) (At (with_local ρ m n) (m + 1)) t env
        (λ x v. v) good sees)

    -- a constructor's fields
    with_fields : (names : List ℕ) (t env : Scope) (ρ : Env) (V : ℕ → Type 0) (m0 m len : ℕ)
        (ys : List ℕ) → Below (length c.names) names → len ≡ length names → length ys ≡ len
        → Sees c (lifted.lifted c) ground.agree V (At ρ m0) t env → m0 ≤ m
        → Sees c (lifted.lifted c) ground.agree (And V names)
        (At (with_locals ρ (range_with_len m len) ys) (m + len))
        (binds_all (lifted.lifted c) names (range_with_len m len) t)
        (binds_all (program_headers c) names ys env)
    with_fields names t env ρ V m0 m len ys below count long sees le =
        let q = lifted.lifted c in
        let ρ' = with_locals ρ (range_with_len m len) ys in
        let good : (y a : ℕ) → At ρ m0 y a → At ρ' (m + len) y a
        = λ y a h. record {
          name = locals_before len m ys ρ y (let b = h.below in omega (arith, b, le)) ∙ h.name;
          below = let b = h.below in omega (arith, b, le);
        } in
        sees_all c q ground.agree (At ρ' (m + len)) names (range_with_len m len) ys V t env below
        (length-range_with_len m len ∙ count) (locals_at len m (m + len) ys ρ long refl)
        (sees_more c q ground.agree V V (At ρ m0) (At ρ' (m + len)) t env (λ x v. v) good sees)

    mutual
      pub eval_like : (e : Expr) (s t env : Scope) (ρ : Env) (V : ℕ → Type 0) (k m0 m m' : ℕ)
          (e' : normal.Term) (S : ℕ → Type 0) → Fits (length c.names) V e
          → Located (abstractions c) (in_expr c s e) k → Alike s env
          → Sees c (lifted.lifted c) ground.agree V (At ρ m0) t env → m0 ≤ m
          → IsNormal (lifted.lifted c) t m (lift c s k e) e' m' → TermOk p S e'
          → (d : ℕ) (σ : StateOf Fun) (τ : StateOf ℕ) → StateLike σ τ
          → AnswerLike (eval c onward e env d σ) (by_need.eval 0 NoAlternative p onward' e' ρ d τ)
      eval_like (App head args) s t env ρ V k m0 m m' e' S f l al sees le w ok d σ τ st
          = app_like head args s t env ρ V k m0 m m' e' S f.0 f.1 l al sees le w ok d σ τ st
      eval_like (Let group body) s t env ρ V k m0 m m' e' S f l al sees le
          (form.Group {e = e1} inner xs bounds ei g b) ok d σ τ st =
          let s' = within c (binders_of group) s in
          let et = ei ∙ ap (λ names. binds_all (lifted.lifted c) names xs t)
          (names_lifted c s' k group) in
          let here = inside.in_group c s' group in
          let r = enters_group group s t inner env ρ V _ k m0 m (length τ.heap) bounds xs f.0 f.1
          (located_left _ here (in_expr c s' body) k l) al sees le et g ok.0 in
          let env' = meaning.in_group c env (length τ.heap) group in
          let ρ' = by_need.with_group p ρ bounds (length τ.heap) in
          let more = map (λ (b : Bound). by_need.binding p ρ' b.flat) bounds in
          let state = both.append_like (Stands c) (arity c) (by_need.params p) ground.counts fields
          σ τ (bindings_of c (members c env' (length τ.heap) group)) more st r.heap in
          let same = both.as_long (Stands c) (arity c) (by_need.params p) ground.counts fields
          σ.heap τ.heap st.heap in
          subst (λ n. AnswerLike
          (eval c onward body (meaning.in_group c env n group) d
          (append σ (bindings_of c (members c (meaning.in_group c env n group) n group))))
          (by_need.eval 0 NoAlternative p onward' e1 ρ' d (append τ more))) same
          (eval_like body s' inner env' ρ' (And V (names_of (binders_of group)))
          (k + count_group c s' group) (m + length bounds) (m + length bounds) m' e1 _ f.2
          (located_right _ here (in_expr c s' body) k l) r.alike r.sees (omega arith) b ok.1 d _
          _ state)
      eval_like (Case tested alts) s t env ρ V k m0 m m' e' S f l al sees le
          (Choice {k = j} {branches = branches} a b) ok d σ τ st =
          let grows = normal_grows a in
          both.then_like (Stands c) (arity c) (by_need.params p) ground.counts fields
          (λ v s. select c onward alts v env d s)
          (λ w s. by_need.select 0 NoAlternative p onward' branches w ρ d s)
          (eval_like tested s t env ρ V k m0 m j _ S f.0
          (located_left _ (in_expr c s tested) (in_alts c s alts) k l) al sees le a ok.0 (suc d)
          σ τ st)
          (λ v w σ τ vw st. select_like alts s t env ρ V (k + count c s tested) m0 j m' branches S
          f.1 (located_right _ (in_expr c s tested) (in_alts c s alts) k l) al sees
          (omega (arith, le, grows)) b ok.1 v w vw d σ τ st)

      select_like : (alts : Alts) (s t env : Scope) (ρ : Env) (V : ℕ → Type 0) (k m0 m m' : ℕ)
          (branches : normal.Branches) (S : ℕ → Type 0) → FitsAlts (length c.names) V alts
          → Located (abstractions c) (in_alts c s alts) k → Alike s env
          → Sees c (lifted.lifted c) ground.agree V (At ρ m0) t env → m0 ≤ m
          → AreBranches (lifted.lifted c) t m (lift_alts c s k alts) branches m'
          → BranchesOk p S branches → (v : ValueOf Fun) (w : ValueOf ℕ) → ValueLike v w
          → (d : ℕ) (σ : StateOf Fun) (τ : StateOf ℕ) → StateLike σ τ
          → AnswerLike (select c onward alts v env d σ)
          (by_need.select 0 NoAlternative p onward' branches w ρ d τ)
      select_like NoAlts s t env ρ V k m0 m m' branches S f l al sees le NoBranches ok v w vw d σ τ
          st = both.NeitherAccepts st
      select_like (AndAlt (pattern.Con at binders) body rest) s t env ρ V k m0 m m' branches S f l
          al sees le (ConBranch {k = j} {number = number} {e = e1} {branches = others} xs e r a b)
          ok v w vw d σ τ st =
          let s' = within c binders s in
          let names = names_of binders in
          let here = in_expr c s' body in
          let grows = normal_grows a in
          let named : length binders ≡ length names = sym (length_map _ binders) in
          let many : length xs ≡ length binders = ap length r ∙ length-range_with_len m
          (length binders) in
          let a' = subst
          (λ xs. IsNormal (lifted.lifted c) (binds_all (lifted.lifted c) names xs t)
          (m + length binders) (lift c s' k body) e1 j) r a in
          subst (λ i. AnswerLike
          (elim (is_con i v) as (λ _. AnswerOf Fun) [
            | true ↦ eval c onward body (with_all c binders (fields_of v) env) d σ
            | false ↦
                select c onward rest v env d σ
          ])
          (by_need.select 0 NoAlternative p onward' (normal.OnCon number xs e1 others) w ρ d τ))
          (sym (number_is at.name.0 number e))
          (con_cases number (λ ys. eval c onward body (with_all c binders ys env) d σ)
          (λ ys. by_need.eval 0 NoAlternative p onward' e1 (with_locals ρ xs ys) d τ) _ _ vw
          (λ ys long. let long' : length ys ≡ length binders
          = long ∙ has_fields number (length xs) ok.0 ∙ many in
          subst (λ xs. AnswerLike (eval c onward body (with_all c binders ys env) d σ)
          (by_need.eval 0 NoAlternative p onward' e1 (with_locals ρ xs ys) d τ)) (sym r)
          (eval_like body s' _ (with_all c binders ys env)
          (with_locals ρ (range_with_len m (length binders)) ys) (And V names) k
          (m + length binders) (m + length binders) j e1 _ f.1
          (located_left _ here (in_alts c s rest) k l)
          (binds_all_alike c names names ys s env refl (long' ∙ named) al)
          (with_fields names t env ρ V m0 m (length binders) ys f.0 named long' sees le)
          (omega arith) a' ok.1 d σ τ st))
          (select_like rest s t env ρ V (k + count c s' body) m0 j m' others S f.2
          (located_right _ here (in_alts c s rest) k l) al sees (omega (arith, le, grows)) b
          ok.2 v w vw d σ τ st))
      select_like (AndAlt (pattern.Int i at) body rest) s t env ρ V k m0 m m' branches S f l al sees
          le (IntBranch {k = j} {e = e1} {branches = others} a b) ok v w vw d σ τ st =
          let here = in_expr c s body in
          let grows = normal_grows a in
          int_cases i _ _ _ _ vw
          (eval_like body s t env ρ V k m0 m j e1 _ (plainly f.1)
          (located_left _ here (in_alts c s rest) k l) al sees le a ok.0 d σ τ st)
          (select_like rest s t env ρ V (k + count c s body) m0 j m' others S f.2
          (located_right _ here (in_alts c s rest) k l) al sees (omega (arith, le, grows)) b
          ok.1 v w vw d σ τ st)
        where
          nothing : (x : ℕ) → And V [] x → V x
          nothing x (inl v) = v
          nothing x (inr a) = absurd cc

          plainly : Fits (length c.names) (And V []) body → Fits (length c.names) V body
          plainly f = fits_more (length c.names) (And V []) V nothing body f
      select_like (AndAlt (pattern.Default x) body rest) s t env ρ V k m0 m m' branches S f l al
          sees le (NamelessBranch {k = j} {e = e1} {branches = others} e a b) ok v w vw d σ τ st =
          let s' = within c (x ∷ []) s in
          let here = in_expr c s' body in
          let e' : is_named (program_headers c) (codes "_") x.name.0 ≡ true
          = sym (ground.agree.named (codes "_") x.name.0 f.0.0) ∙ e in
          let alike : Alike s' env = subst (λ b. Alike (cond b s ((x.name.0, x.name.0) ∷ s)) env)
          (sym e') al in
          subst (λ b. AnswerLike
          (elim b as (λ _. AnswerOf Fun) [
            | true ↦ eval c onward body env d σ
            | false ↦ eval c onward body
                (binds (program_headers c) x.name.0 (length σ.heap) env) d
                (append σ (Known v ∷ []))
          ]) (by_need.eval 0 NoAlternative p onward' e1 ρ d τ))
          (sym e')
          (eval_like body s' t env ρ (And V (x.name.0 ∷ [])) k m0 m j e1 _ f.1
          (located_left _ here (in_alts c s rest) k l) alike
          (sees_nameless c (lifted.lifted c) ground.agree (At ρ m0) V t env x.name.0 e sees) le
          a ok.0 d σ τ st)
      select_like (AndAlt (pattern.Default x) body rest) s t env ρ V k m0 m m' branches S f l al
          sees le (NamedBranch {k = j} {e = e1} {branches = others} e a b) ok v w vw d σ τ st =
          let s' = within c (x ∷ []) s in
          let here = in_expr c s' body in
          let e' : is_named (program_headers c) (codes "_") x.name.0 ≡ false
          = sym (ground.agree.named (codes "_") x.name.0 f.0.0) ∙ e in
          let n = length τ.heap in
          let same = both.as_long (Stands c) (arity c) (by_need.params p) ground.counts fields
          σ.heap τ.heap st.heap in
          let state = both.append_like (Stands c) (arity c) (by_need.params p) ground.counts fields
          σ τ (Known v ∷ []) (Known w ∷ []) st (both.LikeKnown vw, tt) in
          subst (λ b. AnswerLike
          (elim b as (λ _. AnswerOf Fun) [
            | true ↦ eval c onward body env d σ
            | false ↦ eval c onward body
                (binds (program_headers c) x.name.0 (length σ.heap) env) d
                (append σ (Known v ∷ []))
          ])
          (by_need.eval 0 NoAlternative p onward' e1 (with_local ρ m n) d
          (append τ (Known w ∷ [])))) (sym e')
          (subst (λ n'. AnswerLike
          (eval c onward body (binds (program_headers c) x.name.0 n' env) d
          (append σ (Known v ∷ [])))
          (by_need.eval 0 NoAlternative p onward' e1 (with_local ρ m n) d
          (append τ (Known w ∷ [])))) same
          (eval_like body s' _ (binds (program_headers c) x.name.0 n env) (with_local ρ m n)
          (And V (x.name.0 ∷ [])) k (m + 1) (m + 1) j e1 _ f.1
          (located_left _ here (in_alts c s rest) k l)
          (binds_all_alike c (x.name.0 ∷ []) (x.name.0 ∷ []) (n ∷ []) s env refl refl al)
          (with_one t env ρ V m0 m n x.name.0 f.0.0 sees le) (omega arith) a ok.0 d
          (append σ (Known v ∷ [])) (append τ (Known w ∷ [])) state))
