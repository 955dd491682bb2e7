-- What the walk over cases finds is what breaks the rule on them.
use Rattle.std.proofs.Common.{◌≡◌, ℕ, zero, suc, Bool, true, false, List, [], ◌∷◌, refl, sym, ap, subst, ◌∙◌, Option, Some, None, ◌⊎◌, inl, inr}
use Rattle.std.specs.Prelude.{◌≢◌, ◌==◌, ◌&&◌, ◌||◌, not, slice_get, if◌then◌else◌}
use Rattle.std.specs.List.{list_any}
use Rattle.std.proofs.lemmas.Bool.{eqb-true, eq-eqb}
use Rattle.core_reader.specs.declared.syntax.Binder.{Binder}
use Rattle.core_reader.specs.declared.syntax.Pattern.{Pattern}
use Rattle.core_reader.specs.declared.syntax.Pattern.TheVariants as pattern
use Rattle.core_reader.specs.Tree.{Expr, App, Let, Case, Alts, NoAlts, AndAlt, Function}
use Rattle.arity_check.specs.Patterns.{alt_at, pattern_place}
use Rattle.core_types.specs.Source.{Constructor, TypeDecl, Source}
use Rattle.core_types.specs.Rules.{HasCase, HasCaseIn, names_constructor, type_with, IsPartial, Broken}
use Rattle.core_types.specs.Rules as rules
use Rattle.seq.proofs.Truth.{two_ways}
use Rattle.core_types.specs.Found.{IsFirstPlaceWhere, earlier_place_if, CoveredPatterns, no_patterns, with_pattern, with_patterns, is_missing, type_lacks_pattern, is_partial, partial_case, partial_in, partial_in_alts, partial_in_functions}
use Rattle.core_types.specs.Found as found
use Rattle.core_types.proofs.Firsts.{Here, Adds, here_adds, then_adds, none_adds, all_added}
use Rattle.core_types.proofs.Unknowns.{is_not, not_is}

-- ---- patterns that pass a test

abbrev is_default : Pattern → Bool
is_default (pattern.Con c xs) = false
is_default (pattern.Int k at) = false
is_default (pattern.Default x) = true

abbrev is_integer : Pattern → Bool
is_integer (pattern.Con c xs) = false
is_integer (pattern.Int k at) = true
is_integer (pattern.Default x) = false

abbrev is_of : ℕ → Pattern → Bool
is_of n (pattern.Con c xs) = c.name.0 == n
is_of n (pattern.Int k at) = false
is_of n (pattern.Default x) = false

abbrev some_pattern : (Pattern → Bool) → Alts → Bool
some_pattern test NoAlts = false
some_pattern test (AndAlt pat body rest) = test pat || some_pattern test rest

record Passes (test : Pattern → Bool) (alts : Alts) : Type 0 where
  j : ℕ
  item : Pattern
  is : alt_at alts j ≡ Some item
  passes : test item ≡ true

or_parts : (a b : Bool) → (a || b) ≡ true → (a ≡ true) ⊎ (b ≡ true)
or_parts true b e = inl refl
or_parts false b e = inr e

or_right : (a b : Bool) → b ≡ true → (a || b) ≡ true
or_right true b e = refl
or_right false b e = e

or_left : (a b : Bool) → a ≡ true → (a || b) ≡ true
or_left true b e = refl
or_left false b e = absurd cc

and_parts : (a b : Bool) → (a && b) ≡ true → (a ≡ true) × (b ≡ true)
and_parts true b e = (refl, e)
and_parts false b e = absurd cc

and_from : (a b : Bool) → a ≡ true → b ≡ true → (a && b) ≡ true
and_from true b e f = f
and_from false b e f = absurd cc

not_so : (b : Bool) → (b ≡ true → ⊥) → b ≡ false
not_so true h = absurd (h refl)
not_so false h = refl

false_true : (b : Bool) → b ≡ false → b ≡ true → ⊥
false_true true e f = cc
false_true false e f = cc

passes : (test : Pattern → Bool) (alts : Alts) → some_pattern test alts ≡ true → Passes test alts
passes test NoAlts e = absurd cc
passes test (AndAlt pat body rest) e = elim (or_parts (test pat) (some_pattern test rest) e) [
  | inl h ↦ record { j = zero; item = pat; is = refl; passes = h }
  | inr h ↦ let w = passes test rest h in record
      { j = suc w.j; item = w.item; is = w.is; passes = w.passes }
]

passing : (test : Pattern → Bool) (alts : Alts) (j : ℕ) (p : Pattern) → alt_at alts j ≡ Some p
    → test p ≡ true → some_pattern test alts ≡ true
passing test NoAlts j p e h = absurd cc
passing test (AndAlt pat body rest) zero p e h = let same : pat ≡ p = cc
    in or_left (test pat) (some_pattern test rest) (ap test same ∙ h)
passing test (AndAlt pat body rest) (suc j) p e h = or_right (test pat) (some_pattern test rest)
    (passing test rest j p e h)

none_passes : (test : Pattern → Bool) (alts : Alts) → some_pattern test alts ≡ false
    → (j : ℕ) (p : Pattern) → alt_at alts j ≡ Some p → test p ≡ true → ⊥
none_passes test alts e j p is h = false_true (some_pattern test alts) e
    (passing test alts j p is h)

no_default : (alts : Alts) → some_pattern is_default alts ≡ false → (j : ℕ) (x : Binder)
    → alt_at alts j ≢ Some (pattern.Default x)
no_default alts e j x is = none_passes is_default alts e j (pattern.Default x) is refl

default_is : (alts : Alts) (j : ℕ) (p : Pattern) → alt_at alts j ≡ Some p → is_default p ≡ true
    → ((j : ℕ) (x : Binder) → alt_at alts j ≢ Some (pattern.Default x)) → ⊥
default_is alts j (pattern.Con c xs) is e h = absurd cc
default_is alts j (pattern.Int k at) is e h = absurd cc
default_is alts j (pattern.Default x) is e h = h j x is

default_none : (alts : Alts) → ((j : ℕ) (x : Binder) → alt_at alts j ≢ Some (pattern.Default x))
    → some_pattern is_default alts ≡ false
default_none alts h = not_so (some_pattern is_default alts)
    (λ e. let w = passes is_default alts e in default_is alts w.j w.item w.is w.passes h)

-- ---- a constructor that stands in no pattern

abbrev missing : Alts → Constructor → Bool
missing alts c = not (some_pattern (is_of c.name.name.0) alts)

-- the same of a type, where there is one
abbrev lacks_one : Alts → Option TypeDecl → Bool
lacks_one alts None = false
lacks_one alts (Some d) = list_any (missing alts) d.constructors

abbrev lacks : List TypeDecl → Alts → Pattern → Bool
lacks ds alts (pattern.Con c xs) = lacks_one alts (type_with ds c.name.0)
lacks ds alts (pattern.Int k at) = false
lacks ds alts (pattern.Default x) = false

record Missing (alts : Alts) (cs : List Constructor) : Type 0 where
  i : ℕ
  item : Constructor
  is : slice_get cs i ≡ Some item
  misses : missing alts item ≡ true

any_missing : (alts : Alts) (cs : List Constructor) → list_any (missing alts) cs ≡ true
    → Missing alts cs
any_missing alts [] e = absurd cc
any_missing alts (c ∷ cs) e = elim (or_parts (missing alts c) (list_any (missing alts) cs) e) [
  | inl h ↦ record { i = zero; item = c; is = refl; misses = h }
  | inr h ↦ let w = any_missing alts cs h in record
      { i = suc w.i; item = w.item; is = w.is; misses = w.misses }
]

missing_any : (alts : Alts) (cs : List Constructor) (i : ℕ) (c : Constructor)
    → slice_get cs i ≡ Some c → missing alts c ≡ true → list_any (missing alts) cs ≡ true
missing_any alts [] i c e h = absurd cc
missing_any alts (d ∷ cs) zero c e h = let same : d ≡ c = cc
    in or_left (missing alts d) (list_any (missing alts) cs) (ap (missing alts) same ∙ h)
missing_any alts (d ∷ cs) (suc i) c e h = or_right (missing alts d) (list_any (missing alts) cs)
    (missing_any alts cs i c e h)

abbrev Absent : Alts → Constructor → Type 0
Absent alts c = (j : ℕ) (b : Binder) (ys : List Binder) → alt_at alts j ≡ Some (pattern.Con b ys)
    → b.name.0 ≢ c.name.name.0

absent : (alts : Alts) (c : Constructor) → missing alts c ≡ true → Absent alts c
absent alts c e j b ys is same = none_passes (is_of c.name.name.0) alts
    (is_not (some_pattern (is_of c.name.name.0) alts) e) j (pattern.Con b ys) is
    (eq-eqb b.name.0 c.name.name.0 same)

of_it : (alts : Alts) (n j : ℕ) (p : Pattern) → alt_at alts j ≡ Some p → is_of n p ≡ true
    → ((j : ℕ) (b : Binder) (ys : List Binder) → alt_at alts j ≡ Some (pattern.Con b ys)
    → b.name.0 ≢ n) → ⊥
of_it alts n j (pattern.Con c xs) is e h = h j c xs is (eqb-true c.name.0 n e)
of_it alts n j (pattern.Int k at) is e h = absurd cc
of_it alts n j (pattern.Default x) is e h = absurd cc

absent_misses : (alts : Alts) (c : Constructor) → Absent alts c → missing alts c ≡ true
absent_misses alts c h = not_is (some_pattern (is_of c.name.name.0) alts)
    (not_so (some_pattern (is_of c.name.name.0) alts)
    (λ e. let w = passes (is_of c.name.name.0) alts e
    in of_it alts c.name.name.0 w.j w.item w.is w.passes h))

-- ---- what the walk keeps of the patterns

or_false : (b : Bool) → b ≡ (b || false)
or_false true = refl
or_false false = refl

or_true : (b : Bool) → true ≡ (b || true)
or_true true = refl
or_true false = refl

turned : (a b c : Bool) → ((a || b) || c) ≡ (b || (a || c))
turned true true c = refl
turned true false c = refl
turned false true c = refl
turned false false c = refl

seen_constructors : (s : CoveredPatterns) (alts : Alts) (n : ℕ)
    → (with_patterns s alts).constructors n ≡ (s.constructors n || some_pattern (is_of n) alts)
seen_constructors s NoAlts n = or_false (s.constructors n)
seen_constructors s (AndAlt (pattern.Con c xs) body rest) n
    = seen_constructors (with_pattern s (pattern.Con c xs)) rest n ∙ turned (c.name.0 == n)
    (s.constructors n) (some_pattern (is_of n) rest)
seen_constructors s (AndAlt (pattern.Int k at) body rest) n
    = seen_constructors (with_pattern s (pattern.Int k at)) rest n
seen_constructors s (AndAlt (pattern.Default x) body rest) n
    = seen_constructors (with_pattern s (pattern.Default x)) rest n

seen_integers : (s : CoveredPatterns) (alts : Alts)
    → (with_patterns s alts).integers ≡ (s.integers || some_pattern is_integer alts)
seen_integers s NoAlts = or_false s.integers
seen_integers s (AndAlt (pattern.Con c xs) body rest)
    = seen_integers (with_pattern s (pattern.Con c xs)) rest
seen_integers s (AndAlt (pattern.Int k at) body rest)
    = seen_integers (with_pattern s (pattern.Int k at)) rest ∙ or_true s.integers
seen_integers s (AndAlt (pattern.Default x) body rest)
    = seen_integers (with_pattern s (pattern.Default x)) rest

seen_default : (s : CoveredPatterns) (alts : Alts) → (with_patterns s alts).default ≡
    (s.default || some_pattern is_default alts)
seen_default s NoAlts = or_false s.default
seen_default s (AndAlt (pattern.Con c xs) body rest)
    = seen_default (with_pattern s (pattern.Con c xs)) rest
seen_default s (AndAlt (pattern.Int k at) body rest)
    = seen_default (with_pattern s (pattern.Int k at)) rest
seen_default s (AndAlt (pattern.Default x) body rest)
    = seen_default (with_pattern s (pattern.Default x)) rest ∙ or_true s.default

abbrev all_seen : Alts → CoveredPatterns
all_seen alts = with_patterns no_patterns alts

missing_is : (alts : Alts) (c : Constructor) → is_missing (all_seen alts) c ≡ missing alts c
missing_is alts c = ap not (seen_constructors no_patterns alts c.name.name.0)

lacks_is : (alts : Alts) (ds : List TypeDecl) (n : ℕ)
    → type_lacks_pattern (all_seen alts) ds n ≡ lacks_one alts (type_with ds n)
lacks_is alts [] n = refl
lacks_is alts (d ∷ ds) n =
    let test : is_missing (all_seen alts) ≡ missing alts = λ i c. missing_is alts c i in
    elim (two_ways (names_constructor n d.constructors)) [
      | inl y ↦ ap
          (λ b. if b then list_any (is_missing (all_seen alts)) d.constructors
          else type_lacks_pattern (all_seen alts) ds n) y ∙ ap (λ t. list_any t d.constructors) test
          ∙ ap (λ b. lacks_one alts (if b then Some d else type_with ds n)) (sym y)
      | inr m ↦ ap
          (λ b. if b then list_any (is_missing (all_seen alts)) d.constructors
          else type_lacks_pattern (all_seen alts) ds n) m ∙ lacks_is alts ds n ∙ ap
          (λ b. lacks_one alts (if b then Some d else type_with ds n)) (sym m)
    ]

lacks_same : (alts : Alts) (ds : List TypeDecl) (p : Pattern)
    → found.misses_constructor ds (all_seen alts) p ≡ lacks ds alts p
lacks_same alts ds (pattern.Con c xs) = lacks_is alts ds c.name.0
lacks_same alts ds (pattern.Int k at) = refl
lacks_same alts ds (pattern.Default x) = refl

abbrev partial_by : List TypeDecl → Alts → Pattern → Bool
partial_by ds alts p = not (some_pattern is_default alts) &&
    (some_pattern is_integer alts || lacks ds alts p)

partial_same : (ds : List TypeDecl) (alts : Alts) (p : Pattern)
    → is_partial ds (all_seen alts) p ≡ partial_by ds alts p
partial_same ds alts p = λ i. not (seen_default no_patterns alts i) &&
    (seen_integers no_patterns alts i || lacks_same alts ds p i)

module _ (s : Source) where
  lacks_some : (alts : Alts) (b : Binder) (xs : List Binder) (o : Option TypeDecl)
      → type_with s.types b.name.0 ≡ o → lacks_one alts o ≡ true
      → IsPartial s alts (pattern.Con b xs)
  lacks_some alts b xs None e h = absurd cc
  lacks_some alts b xs (Some d) e h = let w = any_missing alts d.constructors h
      in rules.Lacks w.i e w.is (absent alts w.item w.misses)

  lacking : (alts : Alts) (p : Pattern) → lacks s.types alts p ≡ true → IsPartial s alts p
  lacking alts (pattern.Con c xs) e = lacks_some alts c xs (type_with s.types c.name.0) refl e
  lacking alts (pattern.Int k at) e = absurd cc
  lacking alts (pattern.Default x) e = absurd cc

  integer_is : (alts : Alts) (p : Pattern) (j : ℕ) (q : Pattern) → alt_at alts j ≡ Some q
      → is_integer q ≡ true → IsPartial s alts p
  integer_is alts p j (pattern.Con c xs) is e = absurd cc
  integer_is alts p j (pattern.Int k at) is e = rules.OfIntegers j is
  integer_is alts p j (pattern.Default x) is e = absurd cc

  partly : (alts : Alts) (p : Pattern) → (some_pattern is_integer alts || lacks s.types alts p) ≡
      true → IsPartial s alts p
  partly alts p e = elim (or_parts (some_pattern is_integer alts) (lacks s.types alts p) e) [
    | inl h ↦ let w = passes is_integer alts h in integer_is alts p w.j w.item w.is w.passes
    | inr h ↦ lacking alts p h
  ]

  in_part : (alts : Alts) (p : Pattern) → IsPartial s alts p
      → (some_pattern is_integer alts || lacks s.types alts p) ≡ true
  in_part alts p (rules.OfIntegers {k = k} {at = at} i e)
      = or_left (some_pattern is_integer alts) (lacks s.types alts p)
      (passing is_integer alts i (pattern.Int k at) e refl)
  in_part alts p (rules.Lacks {b = b} {xs = xs} {d = d} {c = c} i e is h) =
      or_right (some_pattern is_integer alts) (lacks s.types alts (pattern.Con b xs))
      (ap (lacks_one alts) e ∙ missing_any alts d.constructors i c is (absent_misses alts c h))

  abbrev ds : List TypeDecl
  ds = s.types

  abbrev CaseHere : Alts → ℕ → Type 0
  CaseHere NoAlts at = ⊥
  CaseHere (AndAlt pat body rest) at = Here (is_partial ds (all_seen (AndAlt pat body rest)) pat)
      (pattern_place pat) at

  abbrev mutual
    PartialIn : Expr → ℕ → Type 0
    PartialIn (App app) at = ⊥
    PartialIn (Let group body) at = PartialIn body at
    PartialIn (Case tested alts) at = (PartialIn tested at ⊎ CaseHere alts at)
        ⊎ PartialInAlts alts at

    PartialInAlts : Alts → ℕ → Type 0
    PartialInAlts NoAlts at = ⊥
    PartialInAlts (AndAlt pat body rest) at = PartialIn body at ⊎ PartialInAlts rest at

  case_adds : (alts : Alts) → Adds (CaseHere alts) (λ o. partial_case ds o alts)
  case_adds NoAlts = none_adds
  case_adds (AndAlt pat body rest) = here_adds (is_partial ds (all_seen (AndAlt pat body rest)) pat)
      (pattern_place pat)

  mutual
    expr_adds : (e : Expr) → Adds (PartialIn e) (λ o. partial_in ds o e)
    expr_adds (App app) = none_adds
    expr_adds (Let group body) = expr_adds body
    expr_adds (Case tested alts) =
        then_adds (λ at. PartialIn tested at ⊎ CaseHere alts at) (PartialInAlts alts)
        (λ o. partial_case ds (partial_in ds o tested) alts) (λ o. partial_in_alts ds o alts)
        (then_adds (PartialIn tested) (CaseHere alts) (λ o. partial_in ds o tested)
        (λ o. partial_case ds o alts) (expr_adds tested) (case_adds alts)) (alts_adds alts)

    alts_adds : (alts : Alts) → Adds (PartialInAlts alts) (λ o. partial_in_alts ds o alts)
    alts_adds NoAlts = none_adds
    alts_adds (AndAlt pat body rest) = then_adds (PartialIn body) (PartialInAlts rest)
        (λ o. partial_in ds o body) (λ o. partial_in_alts ds o rest) (expr_adds body)
        (alts_adds rest)

  record Partly (Q : Alts → Type 0) (at : ℕ) : Type 0 where
    alts : Alts
    stands : Q alts
    here : CaseHere alts at

  moved : (Q R : Alts → Type 0) (at : ℕ) → ((alts : Alts) → Q alts → R alts) → Partly Q at
      → Partly R at
  moved Q R at f w = record { alts = w.alts; stands = f w.alts w.stands; here = w.here }

  mutual
    to_case : (e : Expr) (at : ℕ) → PartialIn e at → Partly (HasCase e) at
    to_case (App app) at h = absurd h
    to_case (Let group body) at h = moved (HasCase body) (HasCase (Let group body)) at (λ alts q. q)
        (to_case body at h)
    to_case (Case tested alts) at (inl (inl h)) = moved (HasCase tested)
        (HasCase (Case tested alts)) at (λ these q. inr (inl q)) (to_case tested at h)
    to_case (Case tested alts) at (inl (inr h)) = record
        { alts = alts; stands = inl refl; here = h }
    to_case (Case tested alts) at (inr h) = moved (HasCaseIn alts) (HasCase (Case tested alts)) at
        (λ these q. inr (inr q)) (to_case_in alts at h)

    to_case_in : (alts : Alts) (at : ℕ) → PartialInAlts alts at → Partly (HasCaseIn alts) at
    to_case_in NoAlts at h = absurd h
    to_case_in (AndAlt pat body rest) at (inl h) = moved (HasCase body)
        (HasCaseIn (AndAlt pat body rest)) at (λ these q. inl q) (to_case body at h)
    to_case_in (AndAlt pat body rest) at (inr h) = moved (HasCaseIn rest)
        (HasCaseIn (AndAlt pat body rest)) at (λ these q. inr q) (to_case_in rest at h)

  mutual
    from_case : (e : Expr) (alts : Alts) (at : ℕ) → CaseHere alts at → HasCase e alts
        → PartialIn e at
    from_case (App app) alts at h q = absurd q
    from_case (Let group body) alts at h q = from_case body alts at h q
    from_case (Case tested these) alts at h (inl q) = inl (inr (subst (λ a. CaseHere a at) q h))
    from_case (Case tested these) alts at h (inr (inl q)) = inl (inl (from_case tested alts at h q))
    from_case (Case tested these) alts at h (inr (inr q)) = inr (from_case_in these alts at h q)

    from_case_in : (these alts : Alts) (at : ℕ) → CaseHere alts at → HasCaseIn these alts
        → PartialInAlts these at
    from_case_in NoAlts alts at h q = absurd q
    from_case_in (AndAlt pat body rest) alts at h (inl q) = inl (from_case body alts at h q)
    from_case_in (AndAlt pat body rest) alts at h (inr q) = inr (from_case_in rest alts at h q)

  abbrev PartialFunctions : List Function → ℕ → Type 0
  PartialFunctions [] at = ⊥
  PartialFunctions (f ∷ fs) at = PartialIn f.body at ⊎ PartialFunctions fs at

  functions_adds : (fs : List Function) → Adds (PartialFunctions fs)
      (λ o. partial_in_functions ds o fs)
  functions_adds [] = none_adds
  functions_adds (f ∷ fs) = then_adds (PartialIn f.body) (PartialFunctions fs)
      (λ o. partial_in ds o f.body) (λ o. partial_in_functions ds o fs) (expr_adds f.body)
      (functions_adds fs)

  record FunctionPartly (fs : List Function) (at : ℕ) : Type 0 where
    i : ℕ
    item : Function
    is : slice_get fs i ≡ Some item
    partial : PartialIn item.body at

  to_function : (fs : List Function) (at : ℕ) → PartialFunctions fs at → FunctionPartly fs at
  to_function [] at h = absurd h
  to_function (f ∷ fs) at (inl h) = record { i = zero; item = f; is = refl; partial = h }
  to_function (f ∷ fs) at (inr h) = let w = to_function fs at h
      in record { i = suc w.i; item = w.item; is = w.is; partial = w.partial }

  from_function : (fs : List Function) (i : ℕ) (f : Function) (at : ℕ) → slice_get fs i ≡ Some f
      → PartialIn f.body at → PartialFunctions fs at
  from_function [] i f at e h = absurd cc
  from_function (g ∷ fs) zero f at e h = let same : g ≡ f = cc
      in inl (subst (λ (w : Function). PartialIn w.body at) (sym same) h)
  from_function (g ∷ fs) (suc i) f at e h = inr (from_function fs i f at e h)

  abbrev pub Rule84 : ℕ → Type 0
  Rule84 at = PartialFunctions s.functions at

  case_breaks : (f : Function) (i at : ℕ) (alts : Alts) → slice_get s.functions i ≡ Some f
      → HasCase f.body alts → CaseHere alts at → Broken s 84 at
  case_breaks f i at NoAlts e q h = absurd h
  case_breaks f i at (AndAlt pat body rest) e q h =
      let alts = AndAlt pat body rest in
      let parts = and_parts (not (some_pattern is_default alts))
      (some_pattern is_integer alts || lacks ds alts pat) (sym (partial_same ds alts pat) ∙ h.0)
      in
      subst (Broken s 84) h.1
      (rules.NotExhaustive i e q refl
      (no_default alts (is_not (some_pattern is_default alts) parts.0))
      (partly alts pat parts.1))

  pub partial_breaks : (at : ℕ) → Rule84 at → Broken s 84 at
  partial_breaks at h =
      let w = to_function s.functions at h in
      let c = to_case w.item.body at w.partial in
      case_breaks w.item w.i at c.alts w.is c.stands c.here

  case_here : (alts : Alts) (p : Pattern) → alt_at alts 0 ≡ Some p
      → ((j : ℕ) (x : Binder) → alt_at alts j ≢ Some (pattern.Default x)) → IsPartial s alts p
      → CaseHere alts (pattern_place p)
  case_here NoAlts p e none h = absurd cc
  case_here (AndAlt pat body rest) p e none h =
      let alts = AndAlt pat body rest in
      let same : pat ≡ p = cc in
      let h2 : IsPartial s alts pat = subst (IsPartial s alts) (sym same) h in (
        partial_same ds alts pat ∙ and_from (not (some_pattern is_default alts))
            (some_pattern is_integer alts || lacks ds alts pat)
            (not_is (some_pattern is_default alts) (default_none alts none)) (in_part alts pat h2),
        ap pattern_place same,
      )

  pub not_exhaustive : (i : ℕ) (f : Function) (alts : Alts) (p : Pattern)
      → slice_get s.functions i ≡ Some f → HasCase f.body alts → alt_at alts 0 ≡ Some p
      → ((j : ℕ) (x : Binder) → alt_at alts j ≢ Some (pattern.Default x)) → IsPartial s alts p
      → Rule84 (pattern_place p)
  not_exhaustive i f alts p e q first none h = from_function s.functions i f (pattern_place p) e
      (from_case f.body alts (pattern_place p) (case_here alts p first none h) q)

  pub partial_first : IsFirstPlaceWhere Rule84 (partial_in_functions ds None s.functions)
  partial_first = all_added Rule84 (λ o. partial_in_functions ds o s.functions)
      (functions_adds s.functions)
