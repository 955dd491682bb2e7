-- The answer for a text that was read, by the first places where the two rules are broken.
use Rattle.std.proofs.Common.{◌≡◌, ℕ, zero, suc, ◌+◌, ◌<◌, ◌≤◌, Bool, true, false, cond, nat_lt, List, [], ◌∷◌, length, refl, sym, ap, subst, ◌∙◌, arith, Option, Some, None, ◌⊎◌, inl, inr}
use Rattle.std.specs.Prelude.{slice_get}
use Rattle.std.proofs.lemmas.Bool.{ltb-true, cases_lt}
use Rattle.lambda_reader.specs.Tree.{Program}
use Rattle.lambda_reader.specs.Programs.{IsSourceText, BreaksNoReadingRule}
use Rattle.lambda_reader.specs.Reserved.{HasReserved, Stands, IsFirstReserved}
use Rattle.lambda_lift.specs.Free.{free}
use Rattle.lambda_lift.specs.Abstractions.{Abstraction, abstractions}
use Rattle.lambda_lift.specs.Rules.{Broken, TooManyParameters, ReservedLift, IsBefore, Unlifted, IsUnbroken, IsTooBroad, TooBroad}
use Rattle.lambda_lift.specs.Broadest.{earlier, earlier_place_if, exceeds_parameter_limit, too_broad}
use Rattle.lambda_lift.specs.declared.refusal.LiftRefusal.{LiftRefusal}
use Rattle.lambda_lift.specs.declared.refusal.LiftRefusal.TheVariants as refusal
use Rattle.lambda_lift.specs.Choosing.{earliest_refusal}
use Rattle.lambda_lift.specs.Refusal.{IsCause, IsFirstTooBroad}

-- ---- the first place of a lambda that is too broad

record Broad (c : Program) (xs : List Abstraction) (at : ℕ) : Type 0 where
  number : ℕ
  one : Abstraction
  stands : slice_get xs number ≡ Some one
  broad : exceeds_parameter_limit c one ≡ true
  place : one.at ≡ at

later : {c : Program} (a : Abstraction) {xs : List Abstraction} {at : ℕ} → Broad c xs at
    → Broad c (a ∷ xs) at
later a w = record
    { number = suc w.number; one = w.one; stands = w.stands; broad = w.broad; place = w.place }

-- this is the first of the place that was met and of those of the list
record First (c : Program) (met : Option ℕ) (xs : List Abstraction) (at : ℕ) : Type 0 where
  from : (met ≡ Some at) ⊎ Broad c xs at
  before : (m : ℕ) → met ≡ Some m → at ≤ m
  all : (b : Abstraction) (i : ℕ) → slice_get xs i ≡ Some b → exceeds_parameter_limit c b ≡ true
      → at ≤ b.at

pub record None_met (c : Program) (met : Option ℕ) (xs : List Abstraction) : Type 0 where
  pub before : met ≡ None
  pub all : (b : Abstraction) (i : ℕ) → slice_get xs i ≡ Some b → exceeds_parameter_limit c b ≡ true
      → ⊥

same_item : {X : Type 0} (x y : X) → Some x ≡ Some y → x ≡ y
same_item x y e = cc

earlier_le : (met : Option ℕ) (at : ℕ) → earlier met at ≤ at
earlier_le None at = omega arith
earlier_le (Some m) at = by (nat_lt at m) refl
  where
    by : (b : Bool) → nat_lt at m ≡ b → cond b at m ≤ at
    by true e = omega arith
    by false e = grind (arith, e)

earlier_met : (m at : ℕ) → earlier (Some m) at ≤ m
earlier_met m at = by (nat_lt at m) refl
  where
    by : (b : Bool) → nat_lt at m ≡ b → cond b at m ≤ m
    by true e = omega (arith, ltb-true at m e)
    by false e = omega arith

earlier_from : (met : Option ℕ) (at place : ℕ) → earlier met at ≡ place → (met ≡ Some place)
    ⊎ (at ≡ place)
earlier_from None at place e = inr e
earlier_from (Some m) at place e = by (nat_lt at m) e
  where
    by : (b : Bool) → cond b at m ≡ place → (Some m ≡ Some place) ⊎ (at ≡ place)
    by true e = inr e
    by false e = inl (ap (λ n. Some n) e)

module _ (c : Program) where
  -- nothing more is met at the first one
  first_past : (a : Abstraction) (met : Option ℕ) (xs : List Abstraction) (at : ℕ)
      → exceeds_parameter_limit c a ≡ false → First c met xs at → First c met (a ∷ xs) at
  first_past a met xs at f w = record {
    from = elim w.from [ inl g ↦ inl g | inr g ↦ inr (later a g) ];
    before = w.before;
    all
        = all;
  }
    where
      all : (b : Abstraction) (i : ℕ) → slice_get (a ∷ xs) i ≡ Some b
          → exceeds_parameter_limit c b ≡ true → at ≤ b.at
      all b zero g h = let no : true ≡ false = sym h ∙ sym
          (ap (exceeds_parameter_limit c) (same_item a b g)) ∙ f in absurd cc
      all b (suc i) g h = w.all b i g h

  -- the first one is met
  first_here : (a : Abstraction) (met : Option ℕ) (xs : List Abstraction) (at : ℕ)
      → exceeds_parameter_limit c a ≡ true → First c (Some (earlier met a.at)) xs at
      → First c met (a ∷ xs) at
  first_here a met xs at f w = record { from = from w.from; before = before; all = all }
    where
      from : (Some (earlier met a.at) ≡ Some at) ⊎ Broad c xs at → (met ≡ Some at)
          ⊎ Broad c (a ∷ xs) at
      from (inl g) = elim (earlier_from met a.at at (same_item (earlier met a.at) at g)) [
        | inl h ↦ inl h
        | inr h ↦ inr (record { number = 0; one = a; stands = refl; broad = f; place = h })
      ]
      from (inr g) = inr (later a g)

      before : (m : ℕ) → met ≡ Some m → at ≤ m
      before m g = let le = w.before (earlier met a.at) refl in let le' : earlier met a.at ≤ m
          = subst (λ o. earlier o a.at ≤ m) (sym g) (earlier_met m a.at) in omega arith

      all : (b : Abstraction) (i : ℕ) → slice_get (a ∷ xs) i ≡ Some b
          → exceeds_parameter_limit c b ≡ true → at ≤ b.at
      all b zero g h =
          let le = w.before (earlier met a.at) refl in
          let le' = earlier_le met a.at in
          let here : at ≤ a.at = omega arith in
          subst (λ (b : Abstraction). at ≤ b.at) (same_item a b g) here
      all b (suc i) g h = w.all b i g h

  first_by : (a : Abstraction) (met : Option ℕ) (xs : List Abstraction) (at : ℕ)
      → ((met : Option ℕ) → too_broad c met xs ≡ Some at → First c met xs at) → (broad : Bool)
      → exceeds_parameter_limit c a ≡ broad
      → too_broad c (earlier_place_if broad a.at met) xs ≡ Some at → First c met (a ∷ xs) at
  first_by a met xs at rest false f e = first_past a met xs at f (rest met e)
  first_by a met xs at rest true f e = first_here a met xs at f (rest (Some (earlier met a.at)) e)

  first_of : (met : Option ℕ) (xs : List Abstraction) (at : ℕ) → too_broad c met xs ≡ Some at
      → First c met xs at
  unfolding too_broad
  first_of met [] at e = record {
    from = inl e;
    before = λ m f. omega (arith, same_item m at (sym f ∙ e));
    all
        = λ b i f g. absurd cc;
  }
  first_of met (a ∷ xs) at e = first_by a met xs at (λ met e. first_of met xs at e)
      (exceeds_parameter_limit c a) refl e

  none_by : (a : Abstraction) (met : Option ℕ) (xs : List Abstraction)
      → ((met : Option ℕ) → too_broad c met xs ≡ None → None_met c met xs) → (broad : Bool)
      → exceeds_parameter_limit c a ≡ broad
      → too_broad c (earlier_place_if broad a.at met) xs ≡ None → None_met c met (a ∷ xs)
  none_by a met xs rest true f e = let no : Some (earlier met a.at) ≡ None
      = (rest (Some (earlier met a.at)) e).before in absurd cc
  none_by a met xs rest false f e = let w = rest met e
      in record { before = w.before; all = all w.all }
    where
      all : ((b : Abstraction) (i : ℕ) → slice_get xs i ≡ Some b
          → exceeds_parameter_limit c b ≡ true → ⊥) → (b : Abstraction) (i : ℕ)
          → slice_get (a ∷ xs) i ≡ Some b → exceeds_parameter_limit c b ≡ true → ⊥
      all w b zero g h = let no : true ≡ false = sym h ∙ sym
          (ap (exceeds_parameter_limit c) (same_item a b g)) ∙ f in absurd cc
      all w b (suc i) g h = w b i g h

  pub none_of : (met : Option ℕ) (xs : List Abstraction) → too_broad c met xs ≡ None
      → None_met c met xs
  unfolding too_broad
  none_of met [] e = record { before = e; all = λ b i f g. absurd cc }
  none_of met (a ∷ xs) e = none_by a met xs (λ met e. none_of met xs e)
      (exceeds_parameter_limit c a) refl e

-- ---- the rules

le_before : (k at k' at' : ℕ) → at ≤ at' → k ≤ k' → IsBefore k at k' at'
le_before k at k' at' h g = elim (cases_lt at at') [ inl l ↦ inl l | inr m ↦ inr (omega arith, g) ]

broad_number : (c : Program) (a : Abstraction) → exceeds_parameter_limit c a ≡ true
    → 12 < length (free c a.scope a.params a.body) + length a.params
broad_number c a e = ltb-true 12 (length (free c a.scope a.params a.body) + length a.params) e

number_broad : (c : Program) (a : Abstraction) → 12 < length (free c a.scope a.params a.body) +
    length a.params → exceeds_parameter_limit c a ≡ true
number_broad c a l = grind arith

-- ---- a tree

too_broad_at : (c : Program) (at : ℕ) → Broad c (abstractions c) at → IsTooBroad c at
too_broad_at c at w = subst (IsTooBroad c) w.place
    (TooBroad w.number w.stands (broad_number c w.one w.broad))

pub first_too_broad : (c : Program) (at : ℕ) → Some at ≡ too_broad c None (abstractions c)
    → IsFirstTooBroad c at
first_too_broad c at e =
    let w = first_of c None (abstractions c) at (sym e) in
    record {
      broken = too_broad_at c at (elim w.from [ inl g ↦ absurd cc | inr g ↦ g ]);
      first
          = λ at' b. before w at' b;
    }
  where
    before : First c None (abstractions c) at → (at' : ℕ) → IsTooBroad c at' → at ≤ at'
    before w at' (TooBroad {a = a} i g l) = w.all a i g (number_broad c a l)

pub none_too_broad : (c : Program) → None ≡ too_broad c None (abstractions c) → (at : ℕ)
    → IsTooBroad c at → ⊥
none_too_broad c e at (TooBroad {a = a} i g l) = (none_of c None (abstractions c) (sym e)).all a i g
    (number_broad c a l)

-- ---- a text

module _ (text : List ℕ) (c : Program) (is_text : IsSourceText text c)
    (one : (d : Program) → IsSourceText text d → d ≡ c) (reserved : Option ℕ)
    (met : IsFirstReserved text reserved) (first : Option ℕ)
    (is : first ≡ too_broad c None (abstractions c)) (read : BreaksNoReadingRule text) where
  -- a broken rule, by what was looked for
  data Judged (k at : ℕ) : Type 0 where
    Of61 : k ≡ 61 → (b : Abstraction) (i : ℕ) → slice_get (abstractions c) i ≡ Some b
        → exceeds_parameter_limit c b ≡ true → b.at ≡ at → Judged k at
    Of62 : k ≡ 62 → HasReserved text at → Judged k at

  judge_one : (d : Program) → d ≡ c → (a : Abstraction) (i : ℕ)
      → slice_get (abstractions d) i ≡ Some a → 12 < length (free d a.scope a.params a.body) +
      length a.params → Judged 61 a.at
  judge_one d e a i g l =
      Of61 refl a i (subst (λ d. slice_get (abstractions d) i ≡ Some a) e g)
      (number_broad c a
      (subst (λ d. 12 < length (free d a.scope a.params a.body) + length a.params) e l)) refl

  judge : {k at : ℕ} → Broken text k at → Judged k at
  judge (TooManyParameters {c = d} {a = a} i t g l) = judge_one d (one d t) a i g l
  judge (ReservedLift {pieces = pieces} {piece = piece} i t g r) = Of62 refl (Stands i t g r)

  broken_one : (at : ℕ) → Broad c (abstractions c) at → Broken text 61 at
  broken_one at w = subst (Broken text 61) w.place
      (TooManyParameters w.number is_text w.stands (broad_number c w.one w.broad))

  broken_two : (at : ℕ) → HasReserved text at → Broken text 62 at
  broken_two at (Stands i t g r) = ReservedLift i t g r

  abbrev Met61 : Option ℕ → Type 0
  Met61 None = None_met c None (abstractions c)
  Met61 (Some at) = First c None (abstractions c) at

  met_one : (o : Option ℕ) → o ≡ too_broad c None (abstractions c) → Met61 o
  met_one None e = none_of c None (abstractions c) (sym e)
  met_one (Some at) e = first_of c None (abstractions c) at (sym e)

  broad_of : (at : ℕ) → First c None (abstractions c) at → Broad c (abstractions c) at
  broad_of at w = elim w.from [ inl e ↦ absurd cc | inr g ↦ g ]

  -- what the answer says
  abbrev pub Says : Option LiftRefusal → Type 0
  Says None = IsUnbroken text
  Says (Some r) = IsCause text r

  says : (o p : Option ℕ) → Met61 o → IsFirstReserved text p → Says (earliest_refusal o p)
  says None None a b = record { read = read; lifted = λ k at w. no k at (judge w) }
    where
      no : (k at : ℕ) → Judged k at → ⊥
      no k at (Of61 e x i g h p) = a.all x i g h
      no k at (Of62 e h) = b at h
  says None (Some at) a b = Unlifted read (broken_two at b.0) (λ k' at' w. by k' at' (judge w))
    where
      by : (k' at' : ℕ) → Judged k' at' → IsBefore 62 at k' at'
      by k' at' (Of61 e x i g h p) = absurd (a.all x i g h)
      by k' at' (Of62 e h) = le_before 62 at k' at' (b.1 at' h) (omega (arith, e))
  says (Some at) None a b = Unlifted read (broken_one at (broad_of at a))
      (λ k' at' w. by k' at' (judge w))
    where
      by : (k' at' : ℕ) → Judged k' at' → IsBefore 61 at k' at'
      by k' at' (Of61 e x i g h p) = le_before 61 at k' at' (omega (arith, a.all x i g h, p))
          (omega (arith, e))
      by k' at' (Of62 e h) = absurd (b at' h)
  says (Some place) (Some at) a b = by (nat_lt at place) refl
    where
      first_two : at < place → (k' at' : ℕ) → Judged k' at' → IsBefore 62 at k' at'
      first_two l k' at' (Of61 e x i g h p) = inl (omega (arith, a.all x i g h, p))
      first_two l k' at' (Of62 e h) = le_before 62 at k' at' (b.1 at' h) (omega (arith, e))

      first_one : place ≤ at → (k' at' : ℕ) → Judged k' at' → IsBefore 61 place k' at'
      first_one l k' at' (Of61 e x i g h p) = le_before 61 place k' at'
          (omega (arith, a.all x i g h, p)) (omega (arith, e))
      first_one l k' at' (Of62 e h) = le_before 61 place k' at' (omega (arith, b.1 at' h))
          (omega (arith, e))

      by : (sooner : Bool) → nat_lt at place ≡ sooner
          → IsCause text (cond sooner (refusal.ReservedLift at) (refusal.TooManyParameters place))
      by true e = Unlifted read (broken_two at b.0)
          (λ k' at' w. first_two (ltb-true at place e) k' at' (judge w))
      by false e = Unlifted read (broken_one place (broad_of place a))
          (λ k' at' w. first_one (grind (arith, e)) k' at' (judge w))

  pub answer : (o : Option LiftRefusal) → o ≡ earliest_refusal first reserved → Says o
  answer o e = subst Says (sym e) (says first reserved (met_one first is) met)
