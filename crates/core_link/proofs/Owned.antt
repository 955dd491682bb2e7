-- The first rule that a module breaks by itself.
use Rattle.std.proofs.Common.{◌≡◌, ℕ, zero, suc, ◌+◌, ◌≤◌, Bool, true, false, List, [], ◌∷◌, length, refl, sym, ap, subst, ◌∙◌, arith, Option, Some, None, ◌⊎◌, inl, inr}
use Rattle.std.specs.Prelude.{◌==◌, not, slice_get, is_some, if◌then◌else◌}
use Rattle.std.proofs.lemmas.Bool.{eqb-true, eq-eqb}
use Rattle.seq.proofs.Truth.{two_ways}
use Rattle.core_reader.specs.declared.syntax.Binder.{Binder}
use Rattle.core_reader.specs.Tree.{Program, Data, Function}
use Rattle.arity_check.specs.declared.refusal.CheckRefusal.{CheckRefusal}
use Rattle.arity_check.specs.declared.refusal.CheckRefusal.TheVariants as refusal
use Rattle.arity_check.specs.declared.order.Order.TheVariants as order
use Rattle.arity_check.specs.Order.{ranks_of_order, IsBefore}
use Rattle.arity_check.specs.First.{IsFirstRefusal}
use Rattle.arity_check.specs.Broken.{Broken}
use Rattle.arity_check.specs.Whole.{known_of, function_at, fields_at}
use Rattle.core_link.specs.Module.{Module, body}
use Rattle.core_link.specs.Rules.{IsDeclared, AsFunction, AsConstructor, BreaksOwnRule}
use Rattle.core_link.specs.Rules as rules
use Rattle.core_link.specs.Found.{IsFirstPlaceWhere, NamesFirstBrokenRule, sooner, earliest, binder_place, place_of, declared_by, is_declared}
use Rattle.core_link.proofs.Firsts.{And, sooner_first, same_first, same_of, PassedAt, first_passed}

-- ---- the refusals of the check

not_later : (g k k' at at' : ℕ) → IsBefore (g, at, k) (g, at', k') → at ≤ at'
not_later g k k' at at' (inl l) = absurd (omega (arith, l))
not_later g k k' at at' (inr (e, inl l)) = omega (arith, l)
not_later g k k' at at' (inr (e, inr m)) = let s = m.0 in omega (arith, s)

pub unknown_first : (p : Program) (r : Option CheckRefusal)
    → IsFirstRefusal (ranks_of_order order.Unknown) p r
    → IsFirstPlaceWhere (Broken p 14) (place_of r)
unknown_first p None h = λ at b. h 14 at b tt
unknown_first p (Some (refusal.UnknownName at)) h =
    (h.broken, λ at' b. not_later 1 14 14 at at' (h.first 14 at' b))
unknown_first p (Some (refusal.DuplicateConstructor at)) h = absurd h.counts
unknown_first p (Some (refusal.DuplicateFunction at)) h = absurd h.counts
unknown_first p (Some (refusal.DuplicateName at)) h = absurd h.counts
unknown_first p (Some (refusal.ReservedName at)) h = absurd h.counts
unknown_first p (Some (refusal.ConstructorArity at)) h = absurd h.counts
unknown_first p (Some (refusal.DefaultNotLast at)) h = absurd h.counts
unknown_first p (Some (refusal.DuplicateAlternative at)) h = absurd h.counts
unknown_first p (Some (refusal.MixedAlternatives at)) h = absurd h.counts
unknown_first p (Some (refusal.PrimitiveArity at)) h = absurd h.counts
unknown_first p (Some refusal.NoMain) h = absurd h.counts
unknown_first p (Some (refusal.MainHasParameters at)) h = absurd h.counts
unknown_first p (Some refusal.NoListConstructors) h = absurd h.counts
unknown_first p (Some (refusal.TooManyFunctions at)) h = absurd h.counts
unknown_first p (Some (refusal.TooManyConstructors at)) h = absurd h.counts
unknown_first p (Some (refusal.TooManyParameters at)) h = absurd h.counts
unknown_first p (Some (refusal.TooManyFields at)) h = absurd h.counts
unknown_first p (Some (refusal.CoreTooLarge size)) h = absurd h.counts
unknown_first p (Some (refusal.Memory e)) h = absurd h.counts

abbrev pub Doubled : Program → ℕ → Type 0
Doubled p at = Broken p 11 at ⊎ Broken p 12 at

-- ---- what is declared

record FunctionFound (fs : List Function) (x : ℕ) : Type 0 where
  i : ℕ
  function : Function
  is : slice_get fs i ≡ Some function
  name : function.name ≡ x

function_found : (fs : List Function) (f x : ℕ) → is_some (function_at fs f x) ≡ true
    → FunctionFound fs x
function_found [] f x e = absurd cc
function_found (g ∷ gs) f x e = elim (two_ways (g.name == x)) [
  | inl y ↦ record { i = zero; function = g; is = refl; name = eqb-true g.name x y }
  | inr n ↦
      let w = function_found gs (f + 1) x
      (sym (ap (λ b. is_some
      (if b then Some (f, length g.params) else function_at gs (f + 1) x)) n) ∙ e) in
      record { i = suc w.i; function = w.function; is = w.is; name = w.name }
]

function_known : (fs : List Function) (f x i : ℕ) (g : Function) → slice_get fs i ≡ Some g
    → g.name ≡ x → is_some (function_at fs f x) ≡ true
function_known [] f x i g e n = absurd cc
function_known (h ∷ hs) f x zero g e n =
    let same : h ≡ g = cc in
    ap (λ b. is_some (if b then Some (f, length h.params) else function_at hs (f + 1) x))
    (eq-eqb h.name x (ap (λ (w : Function). w.name) same ∙ n))
function_known (h ∷ hs) f x (suc i) g e n = elim (two_ways (h.name == x)) [
  | inl y ↦ ap (λ b. is_some (if b then Some (f, length h.params) else function_at hs (f + 1) x)) y
  | inr m ↦ ap (λ b. is_some (if b then Some (f, length h.params) else function_at hs (f + 1) x)) m
      ∙ function_known hs (f + 1) x i g e n
]

record ConstructorFound (ds : List Data) (x : ℕ) : Type 0 where
  i : ℕ
  constructor : Data
  is : slice_get ds i ≡ Some constructor
  name : constructor.name ≡ x

constructor_found : (ds : List Data) (x : ℕ) → is_some (fields_at ds x) ≡ true
    → ConstructorFound ds x
constructor_found [] x e = absurd cc
constructor_found (d ∷ ds) x e = elim (two_ways (d.name == x)) [
  | inl y ↦ record { i = zero; constructor = d; is = refl; name = eqb-true d.name x y }
  | inr n ↦
      let w = constructor_found ds x
      (sym (ap (λ b. is_some (if b then Some d.fields else fields_at ds x)) n) ∙ e) in
      record { i = suc w.i; constructor = w.constructor; is = w.is; name = w.name }
]

constructor_known : (ds : List Data) (x i : ℕ) (d : Data) → slice_get ds i ≡ Some d → d.name ≡ x
    → is_some (fields_at ds x) ≡ true
constructor_known [] x i d e n = absurd cc
constructor_known (c ∷ ds) x zero d e n =
    let same : c ≡ d = cc in
    ap (λ b. is_some (if b then Some c.fields else fields_at ds x))
    (eq-eqb c.name x (ap (λ (w : Data). w.name) same ∙ n))
constructor_known (c ∷ ds) x (suc i) d e n = elim (two_ways (c.name == x)) [
  | inl y ↦ ap (λ b. is_some (if b then Some c.fields else fields_at ds x)) y
  | inr m ↦ ap (λ b. is_some (if b then Some c.fields else fields_at ds x)) m ∙ constructor_known ds
      x i d e n
]

either_declared : (f : Option (ℕ × ℕ)) (c : Option ℕ) → declared_by f c ≡ true → (is_some f ≡ true)
    ⊎ (is_some c ≡ true)
either_declared None c e = inr e
either_declared (Some f) c e = inl refl

declared_function : (f : Option (ℕ × ℕ)) (c : Option ℕ) → is_some f ≡ true → declared_by f c ≡ true
declared_function None c e = absurd cc
declared_function (Some f) c e = refl

declared_constructor : (f : Option (ℕ × ℕ)) (c : Option ℕ) → is_some c ≡ true
    → declared_by f c ≡ true
declared_constructor None c e = e
declared_constructor (Some f) c e = refl

module _ (m : Module) where
  pub declared_in : (x : ℕ) → is_declared (known_of (body m)) x ≡ true → IsDeclared m x
  declared_in x e = elim
      (either_declared (function_at m.functions 0 x) (fields_at m.constructors x) e) [
        | inl f ↦ let w = function_found m.functions 0 x f in AsFunction w.i w.is w.name
        | inr c ↦ let w = constructor_found m.constructors x c in AsConstructor w.i w.is w.name
      ]

  pub in_declared : (x : ℕ) → IsDeclared m x → is_declared (known_of (body m)) x ≡ true
  in_declared x (AsFunction {f = f} i e n) = declared_function (function_at m.functions 0 x)
      (fields_at m.constructors x) (function_known m.functions 0 x i f e n)
  in_declared x (AsConstructor {d = d} i e n) = declared_constructor (function_at m.functions 0 x)
      (fields_at m.constructors x) (constructor_known m.constructors x i d e n)

  abbrev pub is_unknown : Binder → Bool
  is_unknown b = not (is_declared (known_of (body m)) b.name.0)

  pub record UnknownExport (at : ℕ) : Type 0 where
    pub i : ℕ
    pub export : Binder
    pub is : slice_get m.exports i ≡ Some export
    pub unknown : IsDeclared m export.name.0 → ⊥
    pub place : export.at ≡ at

  not_both : (b : Bool) → not b ≡ true → b ≡ true → ⊥
  not_both true e f = cc
  not_both false e f = cc

  not_is : (b : Bool) → (b ≡ true → ⊥) → not b ≡ true
  not_is true h = absurd (h refl)
  not_is false h = refl

  abbrev Passes : ℕ → Type 0
  Passes = PassedAt is_unknown binder_place m.exports

  to_unknown : (at : ℕ) → Passes at → UnknownExport at
  to_unknown at w = record {
    i = w.number;
    export = w.item;
    is = w.is;
    unknown
        = λ d. not_both (is_declared (known_of (body m)) w.item.name.0) w.passes
        (in_declared w.item.name.0 d);
    place = w.there;
  }

  from_unknown : (at : ℕ) → UnknownExport at → Passes at
  from_unknown at u = record {
    number = u.i;
    item = u.export;
    is = u.is;
    passes
        = not_is (is_declared (known_of (body m)) u.export.name.0)
        (λ e. u.unknown (declared_in u.export.name.0 e));
    there = u.place;
  }

  pub exports_first : IsFirstPlaceWhere UnknownExport
      (earliest is_unknown binder_place None m.exports)
  exports_first = same_first Passes UnknownExport to_unknown from_unknown
      (earliest is_unknown binder_place None m.exports)
      (first_passed is_unknown binder_place m.exports)

  -- ---- all rules of a module by itself

  nowhere : ℕ → ℕ → Type 0
  nowhere k at = ⊥

  abbrev First : ℕ → ℕ → Type 0
  First = And nowhere 22 (Broken (body m) 22)

  abbrev Second : ℕ → ℕ → Type 0
  Second = And First 55 UnknownExport

  abbrev Third : ℕ → ℕ → Type 0
  Third = And Second 58 (Doubled (body m))

  below_first : (k at : ℕ) → First k at → k ≤ 55
  unfolding nowhere
  below_first k at (inl h) = absurd h
  below_first k at (inr h) = let e = h.0 in omega (arith, e)

  below_second : (k at : ℕ) → Second k at → k ≤ 58
  below_second k at (inl h) = let e = below_first k at h in omega (arith, e)
  below_second k at (inr h) = let e = h.0 in omega (arith, e)

  doubled_own : (at : ℕ) → Doubled (body m) at → BreaksOwnRule m 58 at
  doubled_own at (inl b) = rules.AgainConstructor b
  doubled_own at (inr b) = rules.AgainFunction b

  to_own : (k at : ℕ) → Third k at → BreaksOwnRule m k at
  unfolding nowhere
  to_own k at (inl (inl (inl h))) = absurd h
  to_own k at (inl (inl (inr h))) = subst (λ n. BreaksOwnRule m n at) (sym h.0)
      (rules.ReservedName h.1)
  to_own k at (inl (inr h)) = subst (λ n. BreaksOwnRule m n at) (sym h.0)
      (subst (BreaksOwnRule m 55) h.1.place (rules.ExportUnknown h.1.i h.1.is h.1.unknown))
  to_own k at (inr h) = subst (λ n. BreaksOwnRule m n at) (sym h.0) (doubled_own at h.1)

  from_own : (k at : ℕ) → BreaksOwnRule m k at → Third k at
  from_own k at (rules.ReservedName b) = inl (inl (inr (refl, b)))
  from_own k at (rules.ExportUnknown {b = b} i e u)
      = inl (inr (refl, record { i = i; export = b; is = e; unknown = u; place = refl }))
  from_own k at (rules.AgainConstructor b) = inr (refl, inl b)
  from_own k at (rules.AgainFunction b) = inr (refl, inr b)

  never : (k at : ℕ) → nowhere k at → k ≤ 22
  unfolding nowhere
  never k at h = absurd h

  none_of : NamesFirstBrokenRule nowhere None
  unfolding nowhere
  none_of = λ k at h. h

  pub own_first : (reserved export double : Option ℕ)
      → IsFirstPlaceWhere (Broken (body m) 22) reserved → IsFirstPlaceWhere UnknownExport export
      → IsFirstPlaceWhere (Doubled (body m)) double
      → NamesFirstBrokenRule (BreaksOwnRule m)
      (sooner (sooner (sooner None 22 reserved) 55 export) 58 double)
  own_first reserved export double r e d =
      same_of Third (BreaksOwnRule m) to_own from_own
      (sooner (sooner (sooner None 22 reserved) 55 export) 58 double)
      (sooner_first Second 58 (Doubled (body m)) (sooner (sooner None 22 reserved) 55 export) double
      below_second
      (sooner_first First 55 UnknownExport (sooner None 22 reserved) export below_first
      (sooner_first nowhere 22 (Broken (body m) 22) None reserved never none_of r) e) d)
