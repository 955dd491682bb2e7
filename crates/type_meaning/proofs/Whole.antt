-- A program that breaks no rule and whose constraints are solved is well typed.
use Rattle.std.proofs.Common.{◌≡◌, ℕ, zero, suc, ◌+◌, ◌≤◌, true, List, [], ◌∷◌, map, length, get_or, Option, Some, None, slice_get, refl, sym, ap, ◌∙◌, subst, arith, inl, inr}
use Rattle.std.specs.Prelude.{◌⊎◌, All, codes, if◌then◌else◌}
use Rattle.std.specs.List.{range_with_len, flat_map, find}
use Rattle.seq.specs.Lists.{AllOf}
use Rattle.seq.proofs.Lists.{some_is, none_is_some, all_get, get_within, length_map}
use Rattle.core_reader.specs.declared.syntax.Binder.{Binder}
use Rattle.core_reader.specs.Grammar.{IsNonemptyAlts}
use Rattle.core_reader.specs.Readable.{IsReadable, ReadableExpr, ReadableAlts, ReadableFunction}
use Rattle.core_reader.specs.Tree as tree
use Rattle.core_reader.specs.Tree.{Expr, App, Let, Case, Alts, NoAlts, AndAlt}
use Rattle.arity_check.specs.Broken as core
use Rattle.arity_check.specs.declared.normal.Bound.{Bound}
use Rattle.arity_check.specs.declared.normal.Flat.{Flat}
use Rattle.arity_check.specs.declared.normal.Flat.TheVariants as flat
use Rattle.arity_check.specs.Patterns.{pattern_place}
use Rattle.arity_check.specs.Program as normal
use Rattle.arity_check.specs.Scope as scope
use Rattle.arity_check.specs.Scope.{Scope}
use Rattle.arity_check.specs.Normal.{IsFunction, IsNormalForm}
use Rattle.core_types.specs.Source.{TypeDecl, Source, erased}
use Rattle.core_types.specs.Rules.{IsUnbroken, InCore, NotExhaustive, HasCase, HasCaseIn}
use Rattle.core_types.specs.Lists.{is_list}
use Rattle.core_types.specs.Typing.{Typed, Int, Rigid, Locals, binds, binds_all, of_expr, of_function, of_signature, constraints, constraint, Constraint, signature_of, signed, own_type, param_type, result_type, integers, is_main, Substitution, under, Solves}
use Rattle.core_types.specs.Typing as types
use Rattle.core_meaning.specs.WellFormed.{WellFormed, FormOk, TermOk, BranchesOk, FunOk}
use Rattle.core_meaning.proofs.Valid.{valid_is_well_formed, different_places}
use Rattle.type_meaning.specs.Judgement.{Instance, instance, Context, TermHas, IsTypedFunction, IsTyped}
use Rattle.type_meaning.specs.SourceTypes.{ConstructorHasType, FunctionHasType}
use Rattle.type_meaning.proofs.Types.{instance_same, instance_after, after}
use Rattle.type_meaning.proofs.Readings.{under_both, Signed}
use Rattle.type_meaning.proofs.Constructors.{pair_on, pair_back, Placed, placed}
use Rattle.type_meaning.proofs.Flats.{solves_left, solves_right, AllCounted, Counted}
use Rattle.type_meaning.proofs.Scopes.{Within, within_also}
use Rattle.type_meaning.proofs.Cases.{Complete}
use Rattle.type_meaning.proofs.Terms.{TermCounted, BranchesCounted, term_has}
use Rattle.type_meaning.proofs.Lists as lists
use Rattle.type_meaning.proofs.Fields as fields

-- ---- what well-formed programs count

module _ (p : normal.Program) where
  form_counted : (S : ℕ → Type 0) (f : Flat) → FormOk p S f → Counted p f
  form_counted S (flat.Int k) h = tt
  form_counted S (flat.Con c xs) h = h.0
  form_counted S (flat.Part f xs) h = tt
  form_counted S (flat.Call f xs) h = tt
  form_counted S (flat.Apply x xs) h = tt
  form_counted S (flat.Prim op x y) h = tt

  group_counted : (S : ℕ → Type 0) (group : List Bound) → AllOf (λ b. FormOk p S b.flat) group
      → AllCounted p group
  group_counted S [] h = tt
  group_counted S (b ∷ group) h = (form_counted S b.flat h.0, group_counted S group h.1)

  mutual
    term_counted : (t : normal.Term) (S : ℕ → Type 0) → TermOk p S t → TermCounted p t
    term_counted (normal.App f) S h = form_counted S f h
    term_counted (normal.Let group e) S h = (group_counted _ group h.0, term_counted e _ h.1)
    term_counted (normal.Case e branches) S h =
        (term_counted e S h.0, branches_counted branches S h.1)

    branches_counted : (bs : normal.Branches) (S : ℕ → Type 0) → BranchesOk p S bs
        → BranchesCounted p bs
    branches_counted normal.NoMore S h = tt
    branches_counted (normal.OnCon c xs e rest) S h
        = (h.0, term_counted e _ h.1, branches_counted rest S h.2)
    branches_counted (normal.OnInt k e rest) S h =
        (term_counted e S h.0, branches_counted rest S h.1)
    branches_counted (normal.OnAny None e rest) S h
        = (term_counted e S h.0, branches_counted rest S h.1)
    branches_counted (normal.OnAny (Some x) e rest) S h
        = (term_counted e _ h.0, branches_counted rest S h.1)

-- ---- cases that were read

mutual
  readable_case : (names : List (List ℕ)) (e : Expr) (alts : Alts) → ReadableExpr names e
      → HasCase e alts → IsNonemptyAlts alts
  readable_case names (App app) alts r h = absurd h
  readable_case names (Let group e) alts r h = readable_case names e alts r.2 h
  readable_case names (Case e these) alts r (inl h) = subst IsNonemptyAlts (sym h) r.0
  readable_case names (Case e these) alts r (inr (inl h)) = readable_case names e alts r.1 h
  readable_case names (Case e these) alts r (inr (inr h)) = readable_case_in names these alts r.2 h

  readable_case_in : (names : List (List ℕ)) (these alts : Alts) → ReadableAlts names these
      → HasCaseIn these alts → IsNonemptyAlts alts
  readable_case_in names NoAlts alts r h = absurd h
  readable_case_in names (AndAlt pat e rest) alts r (inl h) = readable_case names e alts r.1 h
  readable_case_in names (AndAlt pat e rest) alts r (inr h) = readable_case_in names rest alts r.2 h

at_place : {X : Type 0} (P : X → Type 0) (xs : List X) (i : ℕ) (x : X) → All P xs
    → slice_get xs i ≡ Some x → P x
at_place P xs i x h e = subst P (is xs i x e) (h i x (get_within xs i x e))
  where
    is : {X : Type 0} (xs : List X) (i : ℕ) (x : X) → slice_get xs i ≡ Some x → get_or xs i x ≡ x
    is [] i x e = none_is_some e
    is (y ∷ ys) zero x e = some_is e
    is (y ∷ ys) (suc i) x e = is ys i x e

-- ---- constraints of functions

solves_at : (σ : Substitution) (s : Source) (fs : List tree.Function) (i : ℕ) (f : tree.Function)
    → Solves σ (flat_map (of_function s) fs) → slice_get fs i ≡ Some f → Solves σ (of_function s f)
solves_at σ s [] i f h e = none_is_some e
solves_at σ s (g ∷ fs) zero f h e = subst (λ g. Solves σ (of_function s g)) (some_is e)
    (solves_left σ (of_function s g) (flat_map (of_function s) fs) h)
solves_at σ s (g ∷ fs) (suc i) f h e = solves_at σ s fs i f
    (solves_right σ (of_function s g) (flat_map (of_function s) fs) h) e

params_at : (G : Typed → Typed) (g : Binder → Typed) (bs : List Binder) (i : ℕ) (t : Typed)
    → slice_get (map g bs) i ≡ Some t → slice_get (map (λ b. G (g b)) bs) i ≡ Some (G t)
params_at G g [] i t e = none_is_some e
params_at G g (b ∷ bs) zero t e = ap (λ t. Some (G t)) (some_is e)
params_at G g (b ∷ bs) (suc i) t e = params_at G g bs i t e

module _ (s : Source) (p : normal.Program) (σ : Substitution) (readable : IsReadable (erased s))
    (unbroken : IsUnbroken s) (solved : Solves σ (constraints s)) (nf : IsNormalForm (erased s) p)
  where
    well : WellFormed p
    well = valid_is_well_formed (erased s) p nf (λ k at b. unbroken k at (InCore b))
        (different_places s.names readable.different)

    signs : Signed s σ
    signs f g i at e =
        (subst (λ o. Solves σ
        (elim o as (λ _. List Constraint) [
          | Some g ↦ constraint s f.at (signed s (λ n. Rigid f.name n) g) (own_type s f) ∷ []
          | None ↦
              []
        ])) e
        (solves_left σ (of_signature s f)
        (of_expr s (binds_all s f.params (map (param_type s f) f.params) []) (result_type s f)
        f.body) (solves_at σ s s.functions i f solved at))).0

    complete : (f : tree.Function) (i : ℕ) → slice_get s.functions i ≡ Some f → (alts : Alts)
        → HasCase f.body alts → Complete s alts
    complete f i at alts h = record {
      some = readable_case s.names f.body alts
          (at_place (ReadableFunction s.names) s.functions i f readable.functions at).2 h;
      whole = λ q first none partial. unbroken 84 (pattern_place q)
          (NotExhaustive i at h first none partial);
    }

    module _ (ρ : Instance) where
      abbrev F : Typed → Typed
      F t = under_both σ ρ t

      abbrev Scoped : Scope → Locals → Context → ℕ → Type 0
      Scoped = Within s p unbroken nf.cons σ signs ρ

      within_params : (bs : List Binder) (us : List Typed) (sc : Scope) (ls : Locals) (Γ : Context)
          (n m : ℕ) → length bs ≡ length us → n + length bs ≤ m
          → ((i : ℕ) (t : Typed) → slice_get us i ≡ Some t → Γ (n + i) ≡ Some (F t))
          → Scoped sc ls Γ m
          → Scoped (scope.binds_all (erased s) (map (λ (b : Binder). b.name.0) bs)
          (range_with_len n (length bs)) sc) (binds_all s bs us ls) Γ m
      within_params [] us sc ls Γ n m e le at w = w
      within_params (b ∷ bs) [] sc ls Γ n m e le at w = absurd (omega (arith, e))
      within_params (b ∷ bs) (u ∷ us) sc ls Γ n m e le at w =
          let z : n + 0 ≡ n = omega arith in
          within_params bs us (scope.binds (erased s) b.name.0 n sc) (binds s b u ls) Γ (n + 1) m
          (omega (arith, e)) (omega (arith, le))
          (λ i t q. let o : n + suc i ≡ (n + 1) + i = omega arith
          in subst (λ n. Γ n ≡ Some (F t)) o (at (suc i) t q))
          (within_also s p unbroken nf.cons σ signs ρ sc ls Γ m n b u (omega (arith, le))
          (subst (λ n. Γ n ≡ Some (F u)) z (at 0 u refl)) w)

      body_has : (f : tree.Function) (i : ℕ) (g : normal.Function) → slice_get s.functions i ≡ Some f
          → slice_get p.funs i ≡ Some g → IsFunction (erased s) f g
          → TermHas (ConstructorHasType s) (FunctionHasType s σ)
          (slice_get (map (λ b. instance ρ (under σ (param_type s f b))) f.params)) g.body
          (F (result_type s f))
      body_has f i g at gat h =
          let ts : List Typed = map (λ b. instance ρ (under σ (param_type s f b))) f.params in
          let us : List Typed = map (param_type s f) f.params in
          let ls : Locals = binds_all s f.params us [] in
          let n : ℕ = length f.params in
          let empty : Scoped [] [] (slice_get ts) n = record { names = tt; fits = tt; below = tt } in
          let w = within_params f.params us [] [] (slice_get ts) 0 n
          (sym (length_map (param_type s f) f.params)) (omega arith)
          (λ j t q. let z : 0 + j ≡ j = omega arith in subst (λ k. slice_get ts k ≡ Some (F t))
          (sym z) (params_at F (param_type s f) f.params j t q)) empty in
          let in_body = solves_right σ (of_signature s f) (of_expr s ls (result_type s f) f.body)
          (solves_at σ s s.functions i f solved at) in
          term_has s p unbroken nf.cons σ signs ρ h.body ls (slice_get ts) (result_type s f) w in_body
          (term_counted p g.body _ (all_get (FunOk p) p.funs i g well.bodies gat))
          (complete f i at)

    bodies : (f : ℕ) (ts : List Typed) (t : Typed) → FunctionHasType s σ f ts t
        → IsTypedFunction (ConstructorHasType s) (FunctionHasType s σ) p f ts t
    bodies f ts t h =
        let on = pair_on (IsFunction (erased s)) s.functions p.funs f h.function nf.funs h.is in
        let us : List Typed = map (λ b. instance h.ρ (under σ (param_type s h.function b)))
        h.function.params in
        let body = body_has h.ρ h.function f on.other h.is on.is on.pair in
        record {
          function = on.other;
          is = on.is;
          params = ap length h.params ∙ length_map _ h.function.params ∙ sym on.pair.params;
          body = subst
              (λ ts. TermHas (ConstructorHasType s) (FunctionHasType s σ) (slice_get ts) on.other.body
              t) (sym h.params)
              (subst (λ t. TermHas (ConstructorHasType s) (FunctionHasType s σ) (slice_get us)
              on.other.body t) (sym h.result) body);
        }

    map_after : (ρ' ρ : Instance) (f : tree.Function) (bs : List Binder)
        → map (instance ρ') (map (λ b. instance ρ (under σ (param_type s f b))) bs) ≡ map
        (λ b. instance (after ρ' ρ) (under σ (param_type s f b))) bs
    map_after ρ' ρ f [] = refl
    map_after ρ' ρ f (b ∷ bs) = λ i. instance_after ρ' ρ (under σ (param_type s f b)) i ∷ map_after ρ'
        ρ f bs i

    fun_instances : (f : ℕ) (ts : List Typed) (t : Typed) (ρ : Instance) → FunctionHasType s σ f ts t
        → FunctionHasType s σ f (map (instance ρ) ts) (instance ρ t)
    fun_instances f ts t ρ h = record {
      function = h.function;
      is = h.is;
      ρ = after ρ h.ρ;
      params = ap (map (instance ρ)) h.params ∙ map_after ρ h.ρ h.function h.function.params;
      result = ap (instance ρ) h.result ∙ instance_after ρ h.ρ (under σ (result_type s h.function));
    }

    no_params : (bs : List Binder) → length bs ≡ 0 → bs ≡ []
    no_params [] e = refl
    no_params (b ∷ bs) e = absurd (omega (arith, e))

    general : (f : ℕ) (function : normal.Function) → slice_get p.funs f ≡ Some function
        → function.params ≡ 0 → (g : Typed) × FunctionHasType s σ f [] g
        × ((t : Typed) → FunctionHasType s σ f [] t → (ρ : Instance) × (t ≡ instance ρ g))
    general f function at none =
        let back = pair_back (IsFunction (erased s)) s.functions p.funs f function nf.funs at in
        let own = back.other in
        let params : own.params ≡ [] = no_params own.params (sym back.pair.params ∙ none) in
        let g : Typed = under σ (result_type s own) in (
          g,
          record {
            function = own;
            is = back.is;
            ρ = Rigid;
            params
                = sym (ap (map (λ b. instance Rigid (under σ (param_type s own b)))) params);
            result
                = sym (instance_same g);
          },
          λ t h. (
            h.ρ,
            h.result ∙ ap (λ f. instance h.ρ (under σ (result_type s f)))
                (some_is (sym h.is ∙ back.is)),
          ),
        )

    -- ---- main

    integers_closed : (ρ : Instance) → integers s ≡ instance ρ (under σ (integers s))
    integers_closed ρ = by_found (find (is_list s) s.types)
      where
        integers_by : Option TypeDecl → Typed
        integers_by o = elim o
            [ Some d ↦ types.Named d.name.name.0 (types.AndTyped Int types.NoTypeds) | None ↦ Int ]

        by_found : (o : Option TypeDecl) → integers_by o ≡ instance ρ (under σ (integers_by o))
        by_found None = refl
        by_found (Some d) = refl

    main_has : FunctionHasType s σ p.main [] (integers s)
        ⊎ FunctionHasType s σ p.main (integers s ∷ []) (integers s)
    main_has = by_params f.params refl
      where
        here : Placed (λ (f : tree.Function). scope.is_named (erased s) (codes "main") f.name)
            s.functions p.main
        here = placed (λ (f : tree.Function). scope.is_named (erased s) (codes "main") f.name)
            s.functions p.main nf.main

        f : tree.Function
        f = here.item

        main : is_main s f ≡ true
        main = here.passes

        result : integers s ≡ instance Rigid (under σ (result_type s f))
        result = integers_closed Rigid ∙ ap
            (λ b. instance Rigid
            (under σ (if b then integers s else types.Open (types.AtResult f.at)))) (sym main)

        param : (b : Binder) → integers s ≡ instance Rigid (under σ (param_type s f b))
        param b = integers_closed Rigid ∙ ap
            (λ c. instance Rigid (under σ (if c then integers s else types.binder_type_variable b)))
            (sym main)

        by_params : (bs : List Binder) → f.params ≡ bs → FunctionHasType s σ p.main [] (integers s)
            ⊎ FunctionHasType s σ p.main (integers s ∷ []) (integers s)
        by_params [] e = inl
            (record {
              function = f;
              is = here.is;
              ρ = Rigid;
              params
                  = sym (ap (map (λ b. instance Rigid (under σ (param_type s f b)))) e);
              result = result;
            })
        by_params (b ∷ []) e = inr
            (record {
              function = f;
              is = here.is;
              ρ = Rigid;
              params
                  = ap (λ t. t ∷ []) (param b) ∙ sym
                  (ap (map (λ b. instance Rigid (under σ (param_type s f b)))) e);
              result = result;
            })
        by_params (b ∷ c ∷ bs) e =
            let l : length f.params ≡ suc (suc (length bs)) = ap length e in
            absurd (unbroken 20 f.at
            (InCore (core.MainHasParameters p.main here.is main (omega (arith, l)))))

    pub well_typed : IsTyped (ConstructorHasType s) (FunctionHasType s σ) p (integers s)
    well_typed = record {
      bodies = bodies;
      con_instances = fields.con_instances s;
      fun_instances = fun_instances;
      general = general;
      con_named = fields.con_named s;
      con_fields = fields.con_fields s p unbroken nf.cons;
      nil_has = lists.nil_has s p unbroken nf.cons names;
      cons_has = lists.cons_has s p unbroken nf.cons names;
      list_has = lists.list_has s p unbroken nf.cons names;
      main_has = main_has;
    }
      where
        names : (i j : ℕ) (b : List ℕ) → slice_get s.names i ≡ Some b → slice_get s.names j ≡ Some b
            → i ≡ j
        names = different_places s.names readable.different
