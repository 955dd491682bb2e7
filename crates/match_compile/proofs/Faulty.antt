-- The faults that the check meets are the broken rules.
use Rattle.std.proofs.Common.{◌≡◌, ◌≢◌, ℕ, Bool, true, false, List, [], ◌∷◌, ◌++◌, refl, sym, ap, subst, ◌∙◌, append_assoc, Option, Some, None, ◌⊎◌, inl, inr}
use Rattle.std.specs.Prelude.{◌==◌, not, ◌&&◌, ◌||◌, codes, if◌then◌else◌}
use Rattle.std.proofs.lemmas.List.{append-nil}
use Rattle.std.proofs.lemmas.Slice.Eq.{bytes_eq-Decides}
use Rattle.seq.specs.Lists.{In, here}
use Rattle.seq.proofs.Member.{none_in, one_in, in_left, in_right, in_split, when_in, in_when, in_flat, flat_in}
use Rattle.seq.proofs.Truth.{two_ways, not_true, and_parts, and_from, or_true}
use Rattle.seq.proofs.Order.{eq_self, eq_from, eq_false, differs_from}
use Rattle.core_reader.specs.declared.syntax.Binder.{Binder}
use Rattle.match_compile.specs.declared.refusal.MatchRefusal.{MatchRefusal}
use Rattle.match_compile.specs.declared.refusal.MatchRefusal.TheVariants.{DuplicateFunction, DuplicateName, UnknownName, ArityDiffers, PatternArity}
use Rattle.match_compile.specs.Source.{Source, Equation}
use Rattle.match_compile.specs.Parts.{count, names_of, constructors_of}
use Rattle.match_compile.specs.Rules.{Behind, text_in, fields_in, arity_in, last_name, Broken}
use Rattle.match_compile.specs.Rules as rules
use Rattle.match_compile.specs.Refusal.{rule, place, refusal_if}
use Rattle.match_compile.specs.Faults.{is_last, first_arity, with_equation, order_faults, orders_faults, with_member, is_nameless, names_faults, constructor_faults, equation_faults, faults}

some_same : {X : Type 0} (a b : X) → ◌≡◌ {A = Option X} (Some a) (Some b) → a ≡ b
some_same a b e = cc

-- ---- the order of the equations

one_arity : (b : Bool) (n : ℕ) → ◌≡◌ {A = Option ℕ} (if b then Some n else None)
    (first_arity None n b)
one_arity true n = refl
one_arity false n = refl

arity_by : (b : Bool) (m n : ℕ) (o p : Option ℕ) (c : Bool) → o ≡ first_arity p n c
    → ◌≡◌ {A = Option ℕ} (if b then Some m else o) (first_arity (if b then Some m else p) n c)
arity_by true m n o p c e = refl
arity_by false m n o p c e = e

arity_last : (before : List Equation) (e : Equation) (y : ℕ)
    → arity_in (before ++ e ∷ []) y ≡ with_equation e.name (count e.pats) (arity_in before) y
arity_last [] e y = one_arity (e.name == y) (count e.pats)
arity_last (f ∷ fs) e y = arity_by (f.name == y) (count f.pats) (count e.pats)
    (arity_in (fs ++ e ∷ []) y) (arity_in fs y) (e.name == y) (arity_last fs e y)

name_last : (before : List Equation) (e : Equation) → last_name (before ++ e ∷ []) ≡ Some e.name
name_last [] e = refl
name_last (f ∷ []) e = refl
name_last (f ∷ g ∷ fs) e = name_last (g ∷ fs) e

-- the equations behind one more
behind_one : (before : List Equation) (e : Equation) (es : List Equation)
    → orders_faults (with_equation e.name (count e.pats) (arity_in before)) (Some e.name) es ≡
    orders_faults (arity_in (before ++ e ∷ [])) (last_name (before ++ e ∷ [])) es
behind_one before e es = λ i. orders_faults (λ y. sym (arity_last before e y) i)
    (sym (name_last before e) i) es

last_is : (o : Option ℕ) (x : ℕ) → is_last o x ≡ false → o ≢ Some x
last_is None x e h = cc
last_is (Some y) x e h = differs_from y x e (some_same y x h)

last_not : (o : Option ℕ) (x : ℕ) → o ≢ Some x → is_last o x ≡ false
last_not None x h = refl
last_not (Some y) x h = eq_false y x (λ e. h (ap Some e))

order_sound : (c : Source) (before : List Equation) (e : Equation) → Behind before e c.equations
    → (o : Option ℕ) → arity_in before e.name ≡ o → (r : MatchRefusal)
    → In r (order_faults o (is_last (last_name before) e.name) (count e.pats) e.at)
    → Broken c (rule r) (place r)
order_sound c before e b None h r i = none_in i
order_sound c before e b (Some m) h r i = elim (in_split _ _ i) [
  | inl j ↦
      let w = when_in (not (is_last (last_name before) e.name)) (DuplicateFunction e.at ∷ []) j in
      subst (λ (r : MatchRefusal). Broken c (rule r) (place r))
      (sym (one_in (DuplicateFunction e.at) w.1))
      (rules.DuplicateFunction b h (last_is (last_name before) e.name (not_true _ w.0)))
  | inr j ↦
      let w = when_in (not (m == count e.pats)) (ArityDiffers e.at ∷ []) j in
      subst (λ (r : MatchRefusal). Broken c (rule r) (place r))
      (sym (one_in (ArityDiffers e.at) w.1))
      (rules.ArityDiffers b h (differs_from m (count e.pats) (not_true _ w.0)))
]

orders_sound : (c : Source) (before es : List Equation) → c.equations ≡ before ++ es
    → (r : MatchRefusal) → In r (orders_faults (arity_in before) (last_name before) es)
    → Broken c (rule r) (place r)
orders_sound c before [] h r i = none_in i
orders_sound c before (e ∷ es) h r i = elim (in_split _ _ i) [
  | inl j ↦ order_sound c before e (record { after = es; is = h }) (arity_in before e.name) refl r j
  | inr j ↦ orders_sound c (before ++ e ∷ []) es (h ∙ sym (append_assoc before (e ∷ []) es)) r
      (subst (In r) (behind_one before e es) j)
]

in_orders : (before us : List Equation) (e : Equation) (after : List Equation) (r : MatchRefusal)
    → In r (order_faults (arity_in (before ++ us) e.name)
    (is_last (last_name (before ++ us)) e.name) (count e.pats) e.at)
    → In r (orders_faults (arity_in before) (last_name before) (us ++ e ∷ after))
in_orders before [] e after r i =
    in_left (order_faults (arity_in before e.name) (is_last (last_name before) e.name)
    (count e.pats) e.at) _
    (subst (λ w. In r
    (order_faults (arity_in w e.name) (is_last (last_name w) e.name) (count e.pats) e.at))
    (append-nil before) i)
in_orders before (u ∷ us) e after r i =
    let here = order_faults (arity_in before u.name) (is_last (last_name before) u.name)
    (count u.pats) u.at in
    let moved = subst
    (λ w. In r
    (order_faults (arity_in w e.name) (is_last (last_name w) e.name) (count e.pats) e.at))
    (sym (append_assoc before (u ∷ []) us)) i in
    in_right here _
    (subst (In r) (sym (behind_one before u (us ++ e ∷ after)))
    (in_orders (before ++ u ∷ []) us e after r moved))

-- the faults of an equation behind others are met
met_order : (c : Source) (before : List Equation) (e : Equation) (n : ℕ) (r : MatchRefusal)
    → Behind before e c.equations → arity_in before e.name ≡ Some n
    → In r (order_faults (Some n) (is_last (last_name before) e.name) (count e.pats) e.at)
    → In r (faults c)
met_order c before e n r b h i =
    let j = subst
    (λ o. In r (order_faults o (is_last (last_name before) e.name) (count e.pats) e.at)) (sym h)
    i in
    in_left _ _
    (subst (λ es. In r (orders_faults (λ x. None) None es)) (sym b.is)
    (in_orders [] before e b.after r j))

-- ---- the names of patterns

-- these are the names that were seen
record Seen (seen : ℕ → Bool) (before : List Binder) : Type 0 where
  from : (y : ℕ) → seen y ≡ true → (x : Binder) × In x before × (x.name.0 ≡ y)
  to : (x : Binder) → In x before → seen x.name.0 ≡ true

none_seen : Seen (λ x. false) []
none_seen = record { from = λ y e. absurd cc; to = λ x i. none_in i }

or_parts : (a b : Bool) → (a || b) ≡ true → (a ≡ true) ⊎ (b ≡ true)
or_parts true b e = inl refl
or_parts false b e = inr e

one_seen : (seen : ℕ → Bool) (before : List Binder) (x : Binder) → Seen seen before
    → Seen (with_member x.name.0 seen) (before ++ x ∷ [])
one_seen seen before x w = record { from = from; to = to }
  where
    from : (y : ℕ) → with_member x.name.0 seen y ≡ true → (z : Binder) × In z (before ++ x ∷ [])
        × (z.name.0 ≡ y)
    from y e = elim (or_parts (x.name.0 == y) (seen y) e) [
      | inl h ↦ (x, in_right before (x ∷ []) here, eq_from x.name.0 y h)
      | inr h ↦ let z = w.from y h in (z.0, in_left before (x ∷ []) z.1, z.2)
    ]

    to : (z : Binder) → In z (before ++ x ∷ []) → with_member x.name.0 seen z.name.0 ≡ true
    to z i = elim (in_split before (x ∷ []) i) [
      | inl j ↦ ap (λ b. (x.name.0 == z.name.0) || b) (w.to z j) ∙ or_true (x.name.0 == z.name.0)
      | inr j ↦ ap (λ b. b || seen z.name.0)
          (ap (λ (v : Binder). x.name.0 == v.name.0) (one_in x j) ∙ eq_self x.name.0)
    ]

-- a name that stands again
record Again (names : List (List ℕ)) (all : List Binder) (r : MatchRefusal) : Type 0 where
  before : List Binder
  first : Binder
  second : Binder
  behind : Behind before second all
  among : In first before
  same : first.name.0 ≡ second.name.0
  named : text_in names second.name.0 ≢ codes "_"
  is : r ≡ DuplicateName second.at

names_sound : (names : List (List ℕ)) (all before xs : List Binder) (seen : ℕ → Bool)
    → Seen seen before → all ≡ before ++ xs → (r : MatchRefusal) → In r (names_faults names seen xs)
    → Again names all r
names_sound names all before [] seen w h r i = none_in i
names_sound names all before (x ∷ xs) seen w h r i = elim (in_split _ _ i) [
  | inl j ↦
      let met = when_in (not (is_nameless names x.name.0) && seen x.name.0)
      (DuplicateName x.at ∷ []) j in
      let b = and_parts (not (is_nameless names x.name.0)) (seen x.name.0) met.0 in
      let z = w.from x.name.0 b.1 in
      record {
        before = before;
        first = z.0;
        second = x;
        behind = record { after = xs; is = h };
        among = z.1;
        same = z.2;
        named = λ e. not_nameless (is_nameless names x.name.0) b.0
            ((bytes_eq-Decides (text_in names x.name.0) (codes "_")).1 e);
        is = one_in (DuplicateName x.at) met.1;
      }
  | inr j ↦ names_sound names all (before ++ x ∷ []) xs (with_member x.name.0 seen)
      (one_seen seen before x w) (h ∙ sym (append_assoc before (x ∷ []) xs)) r j
]
  where
    not_nameless : (b : Bool) → not b ≡ true → b ≡ true → ⊥
    not_nameless true e f = cc
    not_nameless false e f = cc

in_names : (names : List (List ℕ)) (before us : List Binder) (y : Binder) (after : List Binder)
    (seen : ℕ → Bool) → Seen seen before → (x : Binder) → In x (before ++ us) → x.name.0 ≡ y.name.0
    → is_nameless names y.name.0 ≡ false
    → In (DuplicateName y.at) (names_faults names seen (us ++ y ∷ after))
in_names names before [] y after seen w x i s n =
    let met : seen y.name.0 ≡ true = subst (λ v. seen v ≡ true) s
    (w.to x (subst (In x) (append-nil before) i)) in
    in_left _ _
    (in_when (not (is_nameless names y.name.0) && seen y.name.0) (DuplicateName y.at ∷ [])
    (and_from (not (is_nameless names y.name.0)) (seen y.name.0) (ap not n) met) here)
in_names names before (u ∷ us) y after seen w x i s n =
    in_right (refusal_if (not (is_nameless names u.name.0) && seen u.name.0) (DuplicateName u.at)) _
    (in_names names (before ++ u ∷ []) us y after (with_member u.name.0 seen)
    (one_seen seen before u w) x (subst (In x) (sym (append_assoc before (u ∷ []) us)) i) s n)

nameless_not : (names : List (List ℕ)) (x : ℕ) → text_in names x ≢ codes "_"
    → is_nameless names x ≡ false
nameless_not names x h = elim (two_ways (is_nameless names x)) [
  | inl y ↦ absurd (h ((bytes_eq-Decides (text_in names x) (codes "_")).0 y))
  | inr n ↦ n
]

-- ---- the constructors of patterns

con_sound : (c : Source) (e : Equation) (con : Binder × ℕ) → In e c.equations
    → In con (constructors_of e.pats) → (o : Option ℕ) → fields_in c.constructors con.0.name.0 ≡ o
    → (r : MatchRefusal) → In r (constructor_faults o con.1 con.0.at) → Broken c (rule r) (place r)
con_sound c e con i j None h r k = subst (λ (r : MatchRefusal). Broken c (rule r) (place r))
    (sym (one_in (UnknownName con.0.at) k)) (rules.UnknownName i j h)
con_sound c e con i j (Some m) h r k =
    let w = when_in (not (m == con.1)) (PatternArity con.0.at ∷ []) k in
    subst (λ (r : MatchRefusal). Broken c (rule r) (place r))
    (sym (one_in (PatternArity con.0.at) w.1))
    (rules.PatternArity i j h (differs_from m con.1 (not_true _ w.0)))

equation_sound : (c : Source) (e : Equation) → In e c.equations → (r : MatchRefusal)
    → In r (equation_faults c.names (fields_in c.constructors) e) → Broken c (rule r) (place r)
equation_sound c e i r k = elim (in_split _ _ k) [
  | inl j ↦
      let w = names_sound c.names (names_of e.pats) [] (names_of e.pats) (λ x. false) none_seen refl
      r j in
      subst (λ (r : MatchRefusal). Broken c (rule r) (place r)) (sym w.is)
      (rules.DuplicateName i w.behind w.among w.same w.named)
  | inr j ↦
      let w = flat_in
      (λ con. constructor_faults (fields_in c.constructors con.0.name.0) con.1 con.0.at)
      (constructors_of e.pats) j in
      con_sound c e w.0 i w.1 (fields_in c.constructors w.0.0.name.0) refl r w.2
]

-- what is met is broken
pub sound : (c : Source) (r : MatchRefusal) → In r (faults c) → Broken c (rule r) (place r)
sound c r i = elim (in_split _ _ i) [
  | inl j ↦ orders_sound c [] c.equations refl r j
  | inr j ↦ let w = flat_in (equation_faults c.names (fields_in c.constructors)) c.equations j
      in equation_sound c w.0 w.1 r w.2
]

-- a refusal of a rule at a place is met
pub record Met (c : Source) (k at : ℕ) : Type 0 where
  pub refusal : MatchRefusal
  pub met : In refusal (faults c)
  pub rule_is : rule refusal ≡ k
  pub place_is : place refusal ≡ at

met_equation : (c : Source) (e : Equation) (r : MatchRefusal) → In e c.equations
    → In r (equation_faults c.names (fields_in c.constructors) e) → In r (faults c)
met_equation c e r i j = in_right (orders_faults (λ x. None) None c.equations) _
    (in_flat (equation_faults c.names (fields_in c.constructors)) c.equations i j)

met_con : (c : Source) (e : Equation) (con : Binder × ℕ) (o : Option ℕ) (r : MatchRefusal)
    → In e c.equations → In con (constructors_of e.pats) → fields_in c.constructors con.0.name.0 ≡ o
    → In r (constructor_faults o con.1 con.0.at) → In r (faults c)
met_con c e con o r i j h k =
    met_equation c e r i
    (in_right (names_faults c.names (λ x. false) (names_of e.pats)) _
    (in_flat (λ con. constructor_faults (fields_in c.constructors con.0.name.0) con.1 con.0.at)
    (constructors_of e.pats) j
    (subst (λ o. In r (constructor_faults o con.1 con.0.at)) (sym h) k)))

-- what is broken is met
pub complete : (c : Source) {k at : ℕ} → Broken c k at → Met c k at
complete c (rules.DuplicateFunction {before = before} {e = e} {n = n} b h l) = record {
  refusal = DuplicateFunction e.at;
  met = met_order c before e n (DuplicateFunction e.at) b h
      (in_left _ _
      (in_when (not (is_last (last_name before) e.name)) (DuplicateFunction e.at ∷ [])
      (ap not (last_not (last_name before) e.name l)) here));
  rule_is = refl;
  place_is = refl;
}
complete c (rules.ArityDiffers {before = before} {e = e} {n = n} b h d) = record {
  refusal = ArityDiffers e.at;
  met = met_order c before e n (ArityDiffers e.at) b h
      (in_right (refusal_if (not (is_last (last_name before) e.name)) (DuplicateFunction e.at)) _
      (in_when (not (n == count e.pats)) (ArityDiffers e.at ∷ [])
      (ap not (eq_false n (count e.pats) d)) here));
  rule_is = refl;
  place_is = refl;
}
complete c (rules.DuplicateName {e = e} {before = before} {x = x} {y = y} i b j s n) =
    let found = in_names c.names [] before y b.after (λ x. false) none_seen x j s
    (nameless_not c.names y.name.0 n) in
    let moved = subst (λ all. In (DuplicateName y.at) (names_faults c.names (λ x. false) all))
    (sym b.is) found in
    record {
      refusal = DuplicateName y.at;
      met = met_equation c e (DuplicateName y.at) i
          (in_left _ _ moved);
      rule_is = refl;
      place_is = refl;
    }
complete c (rules.UnknownName {e = e} {con = con} i j h) = record {
  refusal = UnknownName con.0.at;
  met = met_con c e con None (UnknownName con.0.at) i j h here;
  rule_is = refl;
  place_is = refl;
}
complete c (rules.PatternArity {e = e} {con = con} {n = n} i j h d) = record {
  refusal = PatternArity con.0.at;
  met = met_con c e con (Some n) (PatternArity con.0.at) i j h
      (in_when (not (n == con.1)) (PatternArity con.0.at ∷ []) (ap not (eq_false n con.1 d)) here);
  rule_is = refl;
  place_is = refl;
}
