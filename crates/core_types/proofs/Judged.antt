-- The first rule that a program with types breaks.
use Rattle.std.proofs.Common.{◌≡◌, ℕ, ◌<◌, ◌≤◌, Bool, true, false, List, refl, sym, ap, subst, ◌∙◌, arith, Option, Some, None, ◌⊎◌, inl, inr}
use Rattle.std.specs.Prelude.{slice_get, if◌then◌else◌, nat_lt}
use Rattle.std.specs.List.{find}
use Rattle.seq.proofs.Order.{compared}
use Rattle.seq.proofs.Truth.{two_ways}
use Rattle.core_reader.specs.declared.syntax.NameId.{NameId}
use Rattle.core_reader.specs.Tree.{Program}
use Rattle.arity_check.specs.declared.refusal.CheckRefusal.{CheckRefusal}
use Rattle.arity_check.specs.declared.order.Order.TheVariants.{Check}
use Rattle.arity_check.specs.Refusal.{rule, number}
use Rattle.arity_check.specs.Order.{ranks_of_order, IsBefore}
use Rattle.arity_check.specs.Order as core-order
use Rattle.arity_check.specs.Broken as core
use Rattle.arity_check.specs.First.{IsFirstRefusal}
use Rattle.arity_check.specs.Known.{Known}
use Rattle.arity_check.specs.Whole.{known_of}
use Rattle.arity_check.proofs.Names.{nil_named, cons_named}
use Rattle.core_types.specs.declared.refusal.TypeFault.TheVariants as fault
use Rattle.core_types.specs.declared.rules.Verdict.TheVariants as verdict
use Rattle.core_types.specs.Source.{TypeDecl, Source, erased}
use Rattle.core_types.specs.Rules.{Broken, rank, IsFirstBroken, IsUnbroken}
use Rattle.core_types.specs.Lists.{is_list, is_list_by}
use Rattle.core_types.specs.Rules as rules
use Rattle.core_types.specs.Typing.{Typed, Int, Named, AndTyped, NoTypeds, integers}
use Rattle.core_types.specs.Refused.{NamesFirstBrokenRule, IsVerdict}
use Rattle.core_types.specs.Found.{IsFirstPlaceWhere, name_of, IsFirstMismatch, earlier_fault, is_nil_name, is_cons_name, first_declaration_fault, declared_fault, first_duplicate_type, first_unknown_name, first_bad_signature, partial_in_functions}
use Rattle.core_types.proofs.Firsts.{lt_true, lt_false}
use Rattle.core_types.proofs.Finding.{find_none, find_some}
use Rattle.core_types.proofs.Mismatched.{one_mismatch, no_mismatch}
use Rattle.core_types.proofs.Unknowns as declared
use Rattle.core_types.proofs.Again as again
use Rattle.core_types.proofs.Partial as partial

-- ---- the ranks

core_rank : (p : Program) (k at : ℕ) → core.Broken p k at → rank k at ≡ core-order.rank k at
core_rank p k at (core.DuplicateConstructor l a b e) = refl
core_rank p k at (core.DuplicateFunction l a b e) = refl
core_rank p k at (core.DuplicateName b r) = refl
core_rank p k at (core.UnknownName u e) = refl
core_rank p k at (core.UnknownConstructor u e) = refl
core_rank p k at (core.UnknownPattern i f a e) = refl
core_rank p k at (core.ConstructorArity u e n) = refl
core_rank p k at (core.PatternArity i f a e n) = refl
core_rank p k at (core.DefaultNotLast i f a e) = refl
core_rank p k at (core.DuplicateCon i j f l a b e) = refl
core_rank p k at (core.DuplicateInt i j f l a b) = refl
core_rank p k at (core.MixedAlternatives i j f q l a d) = refl
core_rank p k at (core.ReservedBinder i n b a c e) = refl
core_rank p k at (core.ReservedFunction i n a b e) = refl
core_rank p k at (core.ReservedConstructor i a e) = refl
core_rank p k at (core.PrimitiveArity u e n) = refl
core_rank p k at (core.NoMain h) = refl
core_rank p k at (core.MainHasParameters i a e l) = refl
core_rank p k at (core.NoListConstructors h) = refl
core_rank p k at (core.TooManyFunctions e) = refl
core_rank p k at (core.TooManyConstructors e) = refl
core_rank p k at (core.TooManyParameters i a l) = refl
core_rank p k at (core.TooManyArguments f c l) = refl
core_rank p k at (core.TooManyFields i a l) = refl
core_rank p k at (core.CoreTooLarge l) = refl

core_early : (p : Program) (k at : ℕ) → core.Broken p k at → (rank k at).0 ≤ 2
core_early p k at (core.DuplicateConstructor l a b e) = omega arith
core_early p k at (core.DuplicateFunction l a b e) = omega arith
core_early p k at (core.DuplicateName b r) = omega arith
core_early p k at (core.UnknownName u e) = omega arith
core_early p k at (core.UnknownConstructor u e) = omega arith
core_early p k at (core.UnknownPattern i f a e) = omega arith
core_early p k at (core.ConstructorArity u e n) = omega arith
core_early p k at (core.PatternArity i f a e n) = omega arith
core_early p k at (core.DefaultNotLast i f a e) = omega arith
core_early p k at (core.DuplicateCon i j f l a b e) = omega arith
core_early p k at (core.DuplicateInt i j f l a b) = omega arith
core_early p k at (core.MixedAlternatives i j f q l a d) = omega arith
core_early p k at (core.ReservedBinder i n b a c e) = omega arith
core_early p k at (core.ReservedFunction i n a b e) = omega arith
core_early p k at (core.ReservedConstructor i a e) = omega arith
core_early p k at (core.PrimitiveArity u e n) = omega arith
core_early p k at (core.NoMain h) = omega arith
core_early p k at (core.MainHasParameters i a e l) = omega arith
core_early p k at (core.NoListConstructors h) = omega arith
core_early p k at (core.TooManyFunctions e) = omega arith
core_early p k at (core.TooManyConstructors e) = omega arith
core_early p k at (core.TooManyParameters i a l) = omega arith
core_early p k at (core.TooManyArguments f c l) = omega arith
core_early p k at (core.TooManyFields i a l) = omega arith
core_early p k at (core.CoreTooLarge l) = omega arith

-- ---- which rules are broken

module _ (s : Source) where
  abbrev NoList : Type 0
  NoList = (i : ℕ) (d : TypeDecl) → slice_get s.types i ≡ Some d → is_list s d ≡ false

  -- a broken rule, by what the walks look for
  data Found (k at : ℕ) : Type 0 where
    InCore : core.Broken (erased s) k at → Found k at
    Rule81 : k ≡ 81 → again.Rule81 s at → Found k at
    Rule82 : k ≡ 82 → declared.Rule82 s at → Found k at
    Rule85 : k ≡ 85 → again.Rule85 s at → Found k at
    Rule86 : k ≡ 86 → at ≡ 0 → NoList → Found k at
    Rule83 : k ≡ 83 → IsFirstMismatch s (Some at) → Found k at
    Rule84 : k ≡ 84 → partial.Rule84 s at → Found k at

  found : (k at : ℕ) → Broken s k at → Found k at
  found k at (rules.InCore b) = InCore b
  found k at (rules.DuplicateType {i = i} {j = j} {d = d} {e = e} l a b n)
      = Rule81 refl (again.type_again s i j d e l a b n)
  found k at (rules.DuplicateParameter {i = i} {j = j} {d = d} {x = x} {y = y} m e l a b n)
      = Rule81 refl (again.param_again s i j m d x y e l a b n)
  found k at (rules.ReservedType {d = d} i e h) = Rule81 refl (again.type_is_int s i d e h)
  found k at (rules.UnknownType {b = b} {args = args} h n)
      = Rule82 refl (declared.type_unknown s b args h n)
  found k at (rules.UnknownVariable {d = d} {x = x} i e h n)
      = Rule82 refl (declared.variable_unknown s d x i e h n)
  found k at (rules.SignedAgain {i = i} {j = j} {g = g} {h = h} l a b n)
      = Rule85 refl (again.signed_again s i j g h l a b n)
  found k at (rules.SignedUnknown {g = g} i e h) = Rule85 refl (again.signed_unknown s i g e h)
  found k at (rules.ListType h) = Rule86 refl refl h
  found k at (rules.Mismatch {c = c} i h) = Rule83 refl (i, c, h, refl)
  found k at (rules.NotExhaustive {f = f} {alts = alts} {p = p} i e q first none h)
      = Rule84 refl (partial.not_exhaustive s i f alts p e q first none h)

  abbrev NoCore : Type 0
  NoCore = (k at : ℕ) → core.Broken (erased s) k at → ⊥

  abbrev None81 : Type 0
  None81 = (at : ℕ) → again.Rule81 s at → ⊥

  -- ---- the rules of the program without its types

  none_in_core : IsFirstRefusal (ranks_of_order Check) (erased s) None → NoCore
  none_in_core h k at b = h k at b tt

  later : (k at : ℕ) (a : ℕ × ℕ × ℕ) → a.0 ≤ 2 → Found k at
      → (NoCore ⊎
      ((k' at' : ℕ) → core.Broken (erased s) k' at' → IsBefore a (core-order.rank k' at')))
      → IsBefore a (rank k at)
  later k at a l (InCore b) (inl n) = absurd (n k at b)
  later k at a l (InCore b) (inr f) = subst (IsBefore a) (sym (core_rank (erased s) k at b))
      (f k at b)
  later k at a l (Rule81 e r) f = subst (λ n. IsBefore a (rank n at)) (sym e)
      (inl (omega (arith, l)))
  later k at a l (Rule82 e r) f = subst (λ n. IsBefore a (rank n at)) (sym e)
      (inl (omega (arith, l)))
  later k at a l (Rule85 e r) f = subst (λ n. IsBefore a (rank n at)) (sym e)
      (inl (omega (arith, l)))
  later k at a l (Rule86 e z r) f = subst (λ n. IsBefore a (rank n at)) (sym e)
      (inl (omega (arith, l)))
  later k at a l (Rule83 e r) f = subst (λ n. IsBefore a (rank n at)) (sym e)
      (inl (omega (arith, l)))
  later k at a l (Rule84 e r) f = subst (λ n. IsBefore a (rank n at)) (sym e)
      (inl (omega (arith, l)))

  pub core_first : (r : CheckRefusal) → IsFirstRefusal (ranks_of_order Check) (erased s) (Some r)
      → NamesFirstBrokenRule s (fault.Unchecked r)
  core_first r h =
      let b : core.Broken (erased s) (rule r) (number r) = h.broken in
      record {
        broken = rules.InCore b;
        first = λ k at d. subst (λ a. IsBefore a (rank k at))
            (sym (core_rank (erased s) (rule r) (number r) b))
            (later k at (core-order.rank (rule r) (number r))
            (subst (λ (a : ℕ × ℕ × ℕ). a.0 ≤ 2) (core_rank (erased s) (rule r) (number r) b)
            (core_early (erased s) (rule r) (number r) b)) (found k at d)
            (inr (λ k' at' c. h.first k' at' c)));
      }

  -- ---- rules 81, 82 and 85 by place

  -- the rule of this number is broken at a place
  data Declared : (k at : ℕ) → Type 0 where
    In81 : (at : ℕ) → again.Rule81 s at → Declared 81 at
    In82 : (at : ℕ) → declared.Rule82 s at → Declared 82 at
    In85 : (at : ℕ) → again.Rule85 s at → Declared 85 at

  -- not after another rule of these
  abbrev NotAfter : ℕ × ℕ → ℕ → ℕ → Type 0
  NotAfter f k at = (f.1 < at) ⊎ ((f.1 ≡ at) × (f.0 ≤ k))

  -- the first of the rules that Q tells
  abbrev IsFirstIn : (ℕ → ℕ → Type 0) → Option (ℕ × ℕ) → Type 0
  IsFirstIn Q None = (k at : ℕ) → Q k at → ⊥
  IsFirstIn Q (Some f) = Q f.0 f.1 × ((k at : ℕ) → Q k at → NotAfter f k at)

  abbrev And : (ℕ → ℕ → Type 0) → ℕ → (ℕ → Type 0) → ℕ → ℕ → Type 0
  And P k Q k' at = P k' at ⊎ ((k' ≡ k) × Q at)

  none_before : (P : ℕ → ℕ → Type 0) (k : ℕ) (Q : ℕ → Type 0) → ((k' at : ℕ) → P k' at → ⊥)
      → (at : ℕ) → ((at' : ℕ) → Q at' → at ≤ at') → (k' at' : ℕ) → And P k Q k' at'
      → NotAfter (k, at) k' at'
  none_before P k Q none at least k' at' (inl p) = absurd (none k' at' p)
  none_before P k Q none at least k' at' (inr q) = elim (compared at at') [
    | inl l ↦ inl l
    | inr m ↦ elim m [
      | inl e ↦ inr (e, (let f = q.0 in omega (arith, f)))
      | inr g ↦ absurd
          (let l = least at' q.1 in omega (arith, g, l))
    ]
  ]

  new_first : (P : ℕ → ℕ → Type 0) (k : ℕ) (Q : ℕ → Type 0) (f : ℕ × ℕ) (at : ℕ)
      → ((k' at' : ℕ) → P k' at' → NotAfter f k' at') → ((at' : ℕ) → Q at' → at ≤ at') → at < f.1
      → (k' at' : ℕ) → And P k Q k' at' → NotAfter (k, at) k' at'
  new_first P k Q f at first least l k' at' (inl p)
      = elim (first k' at' p)
      [ inl m ↦ inl (omega (arith, l, m)) | inr e ↦ inl (let g = e.0 in omega (arith, l, g)) ]
  new_first P k Q f at first least l k' at' (inr q) = elim (compared at at') [
    | inl m ↦ inl m
    | inr m ↦ elim m [
      | inl e ↦ inr (e, (let g = q.0 in omega (arith, g)))
      | inr g ↦ absurd
          (let m = least at' q.1 in omega (arith, g, m))
    ]
  ]

  old_first : (P : ℕ → ℕ → Type 0) (k : ℕ) (Q : ℕ → Type 0) (f : ℕ × ℕ) (at : ℕ)
      → ((k' at' : ℕ) → P k' at' → NotAfter f k' at') → ((at' : ℕ) → Q at' → at ≤ at') → f.1 ≤ at
      → f.0 ≤ k → (k' at' : ℕ) → And P k Q k' at' → NotAfter f k' at'
  old_first P k Q f at first least l n k' at' (inl p) = first k' at' p
  old_first P k Q f at first least l n k' at' (inr q) =
      let m = least at' q.1 in
      let e = q.0 in
      elim (compared f.1 at') [
        | inl g ↦ inl g
        | inr h ↦ elim h
            [ inl g ↦ inr (g, omega (arith, e, n)) | inr g ↦ absurd (omega (arith, g, l, m)) ]
      ]

  -- the rules that were found before have smaller numbers
  sooner_first : (P : ℕ → ℕ → Type 0) (k : ℕ) (Q : ℕ → Type 0) (f : Option (ℕ × ℕ))
      (place : Option ℕ) → ((k' at : ℕ) → P k' at → k' ≤ k) → IsFirstIn P f
      → IsFirstPlaceWhere Q place → IsFirstIn (And P k Q) (earlier_fault f k place)
  sooner_first P k Q None None below h g = λ k' at b. elim b
      [ inl p ↦ h k' at p | inr q ↦ g at q.1 ]
  sooner_first P k Q (Some f) None below h g =
      (inl h.0, λ k' at b. elim b [ inl p ↦ h.1 k' at p | inr q ↦ absurd (g at q.1) ])
  sooner_first P k Q None (Some at) below h g = (inr (refl, g.0), none_before P k Q h at g.1)
  sooner_first P k Q (Some f) (Some at) below h g = elim (two_ways (nat_lt at f.1)) [
    | inl y ↦ subst (IsFirstIn (And P k Q)) (ap (λ b. if b then Some (k, at) else Some f) (sym y))
        (inr (refl, g.0), new_first P k Q f at h.1 g.1 (lt_true at f.1 y))
    | inr n ↦ subst (IsFirstIn (And P k Q)) (ap (λ b. if b then Some (k, at) else Some f) (sym n))
        (inl h.0, old_first P k Q f at h.1 g.1 (lt_false at f.1 n) (below f.0 f.1 h.0))
  ]

  nowhere : ℕ → ℕ → Type 0
  nowhere k at = ⊥

  abbrev One : ℕ → ℕ → Type 0
  One = And nowhere 81 (again.Rule81 s)

  abbrev Two : ℕ → ℕ → Type 0
  Two = And One 82 (declared.Rule82 s)

  abbrev Three : ℕ → ℕ → Type 0
  Three = And Two 85 (again.Rule85 s)

  below_none : (k at : ℕ) → nowhere k at → k ≤ 81
  unfolding nowhere
  below_none k at h = absurd h

  below_one : (k at : ℕ) → One k at → k ≤ 82
  unfolding nowhere
  below_one k at (inl h) = absurd h
  below_one k at (inr h) = let e = h.0 in omega (arith, e)

  below_two : (k at : ℕ) → Two k at → k ≤ 85
  below_two k at (inl h) = let e = below_one k at h in omega (arith, e)
  below_two k at (inr h) = let e = h.0 in omega (arith, e)

  none_of : IsFirstIn nowhere None
  unfolding nowhere
  none_of = λ k at h. h

  abbrev first_declared : Option (ℕ × ℕ)
  first_declared = first_declaration_fault (known_of (erased s)) s.types s.signatures

  three_first : IsFirstIn Three first_declared
  three_first =
      let k = known_of (erased s) in
      let a = first_duplicate_type k (λ n. false) None s.types in
      let b = first_unknown_name k s.types s.signatures in
      let c = first_bad_signature k (λ n. false) None s.signatures in
      sooner_first Two 85 (again.Rule85 s) (earlier_fault (earlier_fault None 81 a) 82 b) c
      below_two
      (sooner_first One 82 (declared.Rule82 s) (earlier_fault None 81 a) b below_one
      (sooner_first nowhere 81 (again.Rule81 s) None a below_none none_of (again.again_first s))
      (declared.unknown_first s)) (again.signed_first s)

  three_broken : (k at : ℕ) → Three k at → Broken s k at
  unfolding nowhere
  three_broken k at (inl (inl (inl h))) = absurd h
  three_broken k at (inl (inl (inr h))) = subst (λ n. Broken s n at) (sym h.0)
      (again.again_breaks s at h.1)
  three_broken k at (inl (inr h)) = subst (λ n. Broken s n at) (sym h.0)
      (declared.unknown_breaks s at h.1)
  three_broken k at (inr h) = subst (λ n. Broken s n at) (sym h.0) (again.signed_breaks s at h.1)

  three_ranks : (k at : ℕ) → Three k at → rank k at ≡ (3, at, k)
  unfolding nowhere
  three_ranks k at (inl (inl (inl h))) = absurd h
  three_ranks k at (inl (inl (inr h))) = subst (λ n. rank n at ≡ (3, at, n)) (sym h.0) refl
  three_ranks k at (inl (inr h)) = subst (λ n. rank n at ≡ (3, at, n)) (sym h.0) refl
  three_ranks k at (inr h) = subst (λ n. rank n at ≡ (3, at, n)) (sym h.0) refl

  three_fault : (k at : ℕ) → Three k at → IsFirstBroken s k at
      → NamesFirstBrokenRule s (declared_fault k at)
  unfolding nowhere
  three_fault k at (inl (inl (inl h))) b = absurd h
  three_fault k at (inl (inl (inr h))) b = subst
      (λ n. IsFirstBroken s n at → NamesFirstBrokenRule s (declared_fault n at)) (sym h.0) (λ b. b)
      b
  three_fault k at (inl (inr h)) b = subst
      (λ n. IsFirstBroken s n at → NamesFirstBrokenRule s (declared_fault n at)) (sym h.0) (λ b. b)
      b
  three_fault k at (inr h) b = subst
      (λ n. IsFirstBroken s n at → NamesFirstBrokenRule s (declared_fault n at)) (sym h.0) (λ b. b)
      b

  after_three : (f : ℕ × ℕ) → NoCore → ((k at : ℕ) → Three k at → NotAfter f k at) → (k at : ℕ)
      → Found k at → IsBefore (3, f.1, f.0) (rank k at)
  after_three f none first k at (InCore b) = absurd (none k at b)
  after_three f none first k at (Rule81 e r) = among (first k at (inl (inl (inr (e, r)))))
      (three_ranks k at (inl (inl (inr (e, r)))))
    where
      among : NotAfter f k at → rank k at ≡ (3, at, k) → IsBefore (3, f.1, f.0) (rank k at)
      among n e = subst (IsBefore (3, f.1, f.0)) (sym e) (inr (refl, n))
  after_three f none first k at (Rule82 e r) = among (first k at (inl (inr (e, r))))
      (three_ranks k at (inl (inr (e, r))))
    where
      among : NotAfter f k at → rank k at ≡ (3, at, k) → IsBefore (3, f.1, f.0) (rank k at)
      among n e = subst (IsBefore (3, f.1, f.0)) (sym e) (inr (refl, n))
  after_three f none first k at (Rule85 e r) = among (first k at (inr (e, r)))
      (three_ranks k at (inr (e, r)))
    where
      among : NotAfter f k at → rank k at ≡ (3, at, k) → IsBefore (3, f.1, f.0) (rank k at)
      among n e = subst (IsBefore (3, f.1, f.0)) (sym e) (inr (refl, n))
  after_three f none first k at (Rule86 e z r) = subst (λ n. IsBefore (3, f.1, f.0) (rank n at))
      (sym e) (inl (omega arith))
  after_three f none first k at (Rule83 e r) = subst (λ n. IsBefore (3, f.1, f.0) (rank n at))
      (sym e) (inl (omega arith))
  after_three f none first k at (Rule84 e r) = subst (λ n. IsBefore (3, f.1, f.0) (rank n at))
      (sym e) (inl (omega arith))

  first_by : (f : Option (ℕ × ℕ)) → IsFirstIn Three f → NoCore → (k at : ℕ) → f ≡ Some (k, at)
      → NamesFirstBrokenRule s (declared_fault k at)
  first_by None h none k at e = absurd cc
  first_by (Some f) h none k at e =
      let same : f ≡ (k, at) = cc in
      let h2 : IsFirstIn Three (Some (k, at)) = subst (λ g. IsFirstIn Three (Some g)) same h in
      three_fault k at h2.0 (record {
        broken = three_broken k at h2.0;
        first = λ k' at' b. subst (λ a. IsBefore a (rank k' at')) (sym (three_ranks k at h2.0))
            (after_three (k, at) none h2.1 k' at' (found k' at' b));
      })

  pub declared_is_first : (k at : ℕ) → IsFirstRefusal (ranks_of_order Check) (erased s) None
      → first_declared ≡ Some (k, at) → NamesFirstBrokenRule s (declared_fault k at)
  declared_is_first k at h e = first_by first_declared three_first (none_in_core h) k at e

  abbrev NoThree : Type 0
  NoThree = (k at : ℕ) → Three k at → ⊥

  none_by : (f : Option (ℕ × ℕ)) → IsFirstIn Three f → f ≡ None → NoThree
  none_by None h e = h
  none_by (Some f) h e = absurd cc

  -- ---- the type of lists

  abbrev lists : TypeDecl → Bool
  lists = is_list_by (is_nil_name (known_of (erased s))) (is_cons_name (known_of (erased s)))

  lists_is : (d : TypeDecl) → lists d ≡ is_list s d
  lists_is d = λ i. is_list_by (λ n. nil_named (erased s) n i) (λ n. cons_named (erased s) n i) d

  abbrev list_name : Option NameId
  list_name = name_of (find lists s.types)

  found_by_name : (o : Option TypeDecl) (n : NameId) → name_of o ≡ Some n → (d : TypeDecl)
      × (o ≡ Some d) × (d.name.name ≡ n)
  found_by_name None n e = absurd cc
  found_by_name (Some d) n e = (d, refl, cc)

  missing : (o : Option TypeDecl) → name_of o ≡ None → o ≡ None
  missing None e = refl
  missing (Some d) e = absurd cc

  none_lists : list_name ≡ None → NoList
  none_lists e i d is = sym (lists_is d) ∙ find_none lists s.types i d
      (missing (find lists s.types) e) is

  some_lists : (n : NameId) → list_name ≡ Some n → NoList → ⊥
  some_lists n e none =
      let f = found_by_name (find lists s.types) n e in
      let r = find_some lists s.types f.0 f.1 in
      let both : true ≡ false = sym (sym (lists_is f.0) ∙ r.2) ∙ none r.0 f.0 r.1 in
      cc

  -- the list of integers
  abbrev listed : Option TypeDecl → Typed
  listed o = elim o [ Some d ↦ Named d.name.name.0 (AndTyped Int NoTypeds) | None ↦ Int ]

  pub named_integers : (n : NameId) → list_name ≡ Some n
      → integers s ≡ Named n.0 (AndTyped Int NoTypeds)
  named_integers n e =
      let f = found_by_name (find lists s.types) n e in
      (λ i. listed (find (λ d. sym (lists_is d) i) s.types)) ∙ ap listed f.1 ∙ ap
      (λ (n : NameId). Named n.0 (AndTyped Int NoTypeds)) f.2

  after_list : NoCore → NoThree → (k at : ℕ) → Found k at → IsBefore (4, 0, 86) (rank k at)
  after_list none three k at (InCore b) = absurd (none k at b)
  after_list none three k at (Rule81 e r) = absurd (three k at (inl (inl (inr (e, r)))))
  after_list none three k at (Rule82 e r) = absurd (three k at (inl (inr (e, r))))
  after_list none three k at (Rule85 e r) = absurd (three k at (inr (e, r)))
  after_list none three k at (Rule86 e z r) = subst (λ n. IsBefore (4, 0, 86) (rank n at)) (sym e)
      (subst (λ n. IsBefore (4, 0, 86) (4, n, 86)) (sym z) (inr (refl, inr (refl, omega arith))))
  after_list none three k at (Rule83 e r) = subst (λ n. IsBefore (4, 0, 86) (rank n at)) (sym e)
      (inl (omega arith))
  after_list none three k at (Rule84 e r) = subst (λ n. IsBefore (4, 0, 86) (rank n at)) (sym e)
      (inl (omega arith))

  pub list_is_first : IsFirstRefusal (ranks_of_order Check) (erased s) None → first_declared ≡ None
      → list_name ≡ None → NamesFirstBrokenRule s fault.ListType
  list_is_first h d e = record {
    broken = rules.ListType (none_lists e);
    first = λ k at b. after_list (none_in_core h) (none_by first_declared three_first d) k at
        (found k at b);
  }

  -- ---- types

  after_mismatch : NoCore → NoThree → (NoList → ⊥) → (place : ℕ) → IsFirstMismatch s (Some place)
      → (k at : ℕ) → Found k at → IsBefore (5, place, 83) (rank k at)
  after_mismatch none three list place m k at (InCore b) = absurd (none k at b)
  after_mismatch none three list place m k at (Rule81 e r)
      = absurd (three k at (inl (inl (inr (e, r)))))
  after_mismatch none three list place m k at (Rule82 e r) = absurd (three k at (inl (inr (e, r))))
  after_mismatch none three list place m k at (Rule85 e r) = absurd (three k at (inr (e, r)))
  after_mismatch none three list place m k at (Rule86 e z r) = absurd (list r)
  after_mismatch none three list place m k at (Rule83 e r)
      = subst (λ n. IsBefore (5, place, 83) (rank n at)) (sym e)
      (subst (λ (n : ℕ). IsBefore (5, place, 83) (5, n, 83)) (one_mismatch s place at m r)
      (inr (refl, inr (refl, omega arith))))
  after_mismatch none three list place m k at (Rule84 e r)
      = subst (λ n. IsBefore (5, place, 83) (rank n at)) (sym e) (inl (omega arith))

  pub mismatch_is_first : (n : NameId) (at : ℕ) → IsFirstRefusal (ranks_of_order Check) (erased s)
      None → first_declared ≡ None → list_name ≡ Some n → IsFirstMismatch s (Some at)
      → NamesFirstBrokenRule s (fault.Mismatch at)
  mismatch_is_first n at h d l m = record {
    broken = subst (Broken s 83) m.3 (rules.Mismatch m.0 m.2);
    first = λ k' at' b. after_mismatch (none_in_core h) (none_by first_declared three_first d)
        (some_lists n l) at m k' at' (found k' at' b);
  }

  -- ---- cases

  after_cases : NoCore → NoThree → (NoList → ⊥) → IsFirstMismatch s None → (place : ℕ)
      → ((at : ℕ) → partial.Rule84 s at → place ≤ at) → (k at : ℕ) → Found k at
      → IsBefore (6, place, 84) (rank k at)
  after_cases none three list fits place least k at (InCore b) = absurd (none k at b)
  after_cases none three list fits place least k at (Rule81 e r)
      = absurd (three k at (inl (inl (inr (e, r)))))
  after_cases none three list fits place least k at (Rule82 e r)
      = absurd (three k at (inl (inr (e, r))))
  after_cases none three list fits place least k at (Rule85 e r) = absurd (three k at (inr (e, r)))
  after_cases none three list fits place least k at (Rule86 e z r) = absurd (list r)
  after_cases none three list fits place least k at (Rule83 e r) = absurd (no_mismatch s at fits r)
  after_cases none three list fits place least k at (Rule84 e r)
      = subst (λ n. IsBefore (6, place, 84) (rank n at)) (sym e) (elim (compared place at) [
        | inl l ↦ inr (refl, inl l)
        | inr m ↦ elim m [
          | inl g ↦ inr (refl, inr (g, omega arith))
          | inr g ↦ absurd
              (let l = least at r in omega (arith, g, l))
        ]
      ])

  abbrev first_partial : Option ℕ
  first_partial = partial_in_functions s.types None s.functions

  case_by : (o : Option ℕ) → IsFirstPlaceWhere (partial.Rule84 s) o → NoCore → NoThree
      → (NoList → ⊥) → IsFirstMismatch s None → (at : ℕ) → o ≡ Some at
      → NamesFirstBrokenRule s (fault.NotExhaustive at)
  case_by None h none three list fits at e = absurd cc
  case_by (Some p) h none three list fits at e =
      let same : p ≡ at = cc in
      let h2 : IsFirstPlaceWhere (partial.Rule84 s) (Some at)
      = subst (λ q. IsFirstPlaceWhere (partial.Rule84 s) (Some q)) same h in
      record {
        broken = partial.partial_breaks s at h2.0;
        first
            = λ k' at' b. after_cases none three list fits at h2.1 k' at' (found k' at' b);
      }

  pub case_is_first : (n : NameId) (at : ℕ) → IsFirstRefusal (ranks_of_order Check) (erased s) None
      → first_declared ≡ None → list_name ≡ Some n → IsFirstMismatch s None
      → first_partial ≡ Some at → NamesFirstBrokenRule s (fault.NotExhaustive at)
  case_is_first n at h d l fits e = case_by first_partial (partial.partial_first s) (none_in_core h)
      (none_by first_declared three_first d) (some_lists n l) fits at e

  no_case : (o : Option ℕ) → IsFirstPlaceWhere (partial.Rule84 s) o → o ≡ None → (at : ℕ)
      → partial.Rule84 s at → ⊥
  no_case None h e = h
  no_case (Some p) h e = absurd cc

  never : NoCore → NoThree → (NoList → ⊥) → IsFirstMismatch s None
      → ((at : ℕ) → partial.Rule84 s at → ⊥) → (k at : ℕ) → Found k at → ⊥
  never none three list fits cases k at (InCore b) = none k at b
  never none three list fits cases k at (Rule81 e r) = three k at (inl (inl (inr (e, r))))
  never none three list fits cases k at (Rule82 e r) = three k at (inl (inr (e, r)))
  never none three list fits cases k at (Rule85 e r) = three k at (inr (e, r))
  never none three list fits cases k at (Rule86 e z r) = list r
  never none three list fits cases k at (Rule83 e r) = no_mismatch s at fits r
  never none three list fits cases k at (Rule84 e r) = cases at r

  pub none_broken : (n : NameId) → IsFirstRefusal (ranks_of_order Check) (erased s) None
      → first_declared ≡ None → list_name ≡ Some n → IsFirstMismatch s None → first_partial ≡ None
      → IsVerdict s verdict.Unbroken
  none_broken n h d l fits e = (
    λ k at b. never (none_in_core h) (none_by first_declared three_first d) (some_lists n l) fits
        (no_case first_partial (partial.partial_first s) e) k at (found k at b),
    fits,
  )

-- the name of the type of lists, by any table that knows the names of the program
abbrev pub list_in : Source → Option NameId
list_in s = name_of
    (find (is_list_by (is_nil_name (known_of (erased s))) (is_cons_name (known_of (erased s))))
    s.types)

pub list_is : (s : Source) (k : Known) (types : List TypeDecl) (o o' : Option NameId)
    → k ≡ known_of (erased s) → types ≡ s.types → o ≡ name_of
    (find (is_list_by (is_nil_name k) (is_cons_name k)) types) → o ≡ o' → list_in s ≡ o'
list_is s k types o o' e f g h =
    (λ i. name_of (find (is_list_by (is_nil_name (sym e i)) (is_cons_name (sym e i))) (sym f i))) ∙
    sym g ∙ h
