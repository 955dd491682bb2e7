-- What a module breaks by what it imports, and what is known in it.
use Rattle.std.proofs.Common.{◌≡◌, ℕ, zero, suc, ◌<◌, Bool, true, false, List, [], ◌∷◌, ◌++◌, map, refl, sym, ap, subst, ◌∙◌, arith, Option, Some, None, ◌⊎◌, inl, inr, cond}
use Rattle.std.specs.Prelude.{◌==◌, ◌||◌, slice_get, fold, not}
use Rattle.std.specs.List.{flat_map, filter}
use Rattle.std.proofs.lemmas.Bool.{eqb-true, eq-eqb}
use Rattle.seq.specs.Lists.{or_empty}
use Rattle.seq.proofs.Lists.{map_get, append_nil, append_again}
use Rattle.core_reader.specs.declared.syntax.Binder.{Binder}
use Rattle.core_reader.specs.Tree.{Program}
use Rattle.arity_check.specs.Faults.{with_member}
use Rattle.arity_check.specs.Whole.{known_of}
use Rattle.core_link.specs.Module.{Module, Import, body, seen, imported, begins_upper, as_function, as_constructor}
use Rattle.core_link.specs.Rules.{NameIsTaken, Before, Declared}
use Rattle.core_link.specs.Found.{IsFirstPlaceWhere, earlier_place_if, first_repeated_name, is_declared}
use Rattle.core_link.specs.Shared.{declare_as, declare, declare_all, ImportsTakenName}
use Rattle.core_link.proofs.Firsts.{Here, here_first, same_first, regroup, regroup_back}
use Rattle.core_link.proofs.Places.{mapped_at}
use Rattle.core_link.proofs.Owned.{declared_in, in_declared}

-- ---- names that are taken

either : (b c : Bool) → (b || c) ≡ true → (b ≡ true) ⊎ (c ≡ true)
either true c e = inl refl
either false c e = inr e

left : (b c : Bool) → b ≡ true → (b || c) ≡ true
left true c e = refl
left false c e = absurd cc

right : (b c : Bool) → c ≡ true → (b || c) ≡ true
right true c e = refl
right false c e = e

module _ (declared : ℕ → Bool) where
  abbrev Again : (ℕ → Bool) → List Binder → ℕ → Type 0
  Again seen [] at = ⊥
  Again seen (b ∷ bs) at = Here (seen b.name.0 || declared b.name.0) b.at at
      ⊎ Again (with_member b.name.0 seen) bs at

  only_left : (seen : ℕ → Bool) (P : ℕ → Type 0) (at : ℕ) → P at ⊎ Again seen [] at → P at
  only_left seen P at (inl p) = p
  only_left seen P at (inr q) = absurd q

  again_from : (bs : List Binder) (seen : ℕ → Bool) (P : ℕ → Type 0) (o : Option ℕ)
      → IsFirstPlaceWhere P o → IsFirstPlaceWhere (λ at. P at ⊎ Again seen bs at)
      (first_repeated_name declared seen o bs)
  again_from [] seen P o h = same_first P (λ at. P at ⊎ Again seen [] at) (λ at p. inl p)
      (only_left seen P) o h
  again_from (b ∷ bs) seen P o h =
      let test : Bool = seen b.name.0 || declared b.name.0 in
      let next : ℕ → Type 0 = λ at. P at ⊎ Here test b.at at in
      same_first (λ at. next at ⊎ Again (with_member b.name.0 seen) bs at)
      (λ at. P at ⊎ Again seen (b ∷ bs) at)
      (λ at. regroup (P at) (Here test b.at at) (Again (with_member b.name.0 seen) bs at))
      (λ at. regroup_back (P at) (Here test b.at at) (Again (with_member b.name.0 seen) bs at))
      (first_repeated_name declared (with_member b.name.0 seen) (earlier_place_if test o b.at) bs)
      (again_from bs (with_member b.name.0 seen) next (earlier_place_if test o b.at)
      (here_first test b.at P o h))

  -- a name is taken at this place of a list, where some were seen before
  data TakenAt (seen : ℕ → Bool) (bs : List Binder) (n : ℕ) (b : Binder) : Type 0 where
    Seen : seen b.name.0 ≡ true → TakenAt seen bs n b
    Earlier : {c : Binder} (j : ℕ) → j < n → slice_get bs j ≡ Some c → c.name.0 ≡ b.name.0
        → TakenAt seen bs n b
    Known : declared b.name.0 ≡ true → TakenAt seen bs n b

  record AgainAt (seen : ℕ → Bool) (bs : List Binder) (at : ℕ) : Type 0 where
    number : ℕ
    name : Binder
    is : slice_get bs number ≡ Some name
    taken : TakenAt seen bs number name
    place : name.at ≡ at

  next_taken : (seen : ℕ → Bool) (b : Binder) (bs : List Binder) (n : ℕ) (c : Binder)
      → TakenAt (with_member b.name.0 seen) bs n c → TakenAt seen (b ∷ bs) (suc n) c
  next_taken seen b bs n c (Seen e) = elim (either (b.name.0 == c.name.0) (seen c.name.0) e) [
    | inl y ↦ Earlier zero (omega arith) refl (eqb-true b.name.0 c.name.0 y)
    | inr s ↦ Seen s
  ]
  next_taken seen b bs n c (Earlier j l e s) = Earlier (suc j) (omega (arith, l)) e s
  next_taken seen b bs n c (Known e) = Known e

  again_at : (bs : List Binder) (seen : ℕ → Bool) (at : ℕ) → Again seen bs at → AgainAt seen bs at
  again_at [] seen at h = absurd h
  again_at (b ∷ bs) seen at (inl h) = record
      { number = zero; name = b; is = refl; taken = here_taken h.0; place = h.1 }
    where
      here_taken : (seen b.name.0 || declared b.name.0) ≡ true → TakenAt seen (b ∷ bs) zero b
      here_taken e = elim (either (seen b.name.0) (declared b.name.0) e)
          [ inl s ↦ Seen s | inr k ↦ Known k ]
  again_at (b ∷ bs) seen at (inr h) =
      let w = again_at bs (with_member b.name.0 seen) at h in
      record {
        number = suc w.number;
        name = w.name;
        is = w.is;
        taken
            = next_taken seen b bs w.number w.name w.taken;
        place = w.place;
      }

  later_taken : (seen : ℕ → Bool) (b : Binder) (bs : List Binder) (n : ℕ) (c : Binder)
      → TakenAt seen (b ∷ bs) (suc n) c → TakenAt (with_member b.name.0 seen) bs n c
  later_taken seen b bs n c (Seen e) = Seen (right (b.name.0 == c.name.0) (seen c.name.0) e)
  later_taken seen b bs n c (Earlier {c = d} zero l e s) = let same : b ≡ d = cc
      in Seen (left (b.name.0 == c.name.0) (seen c.name.0)
      (eq-eqb b.name.0 c.name.0 (ap (λ (w : Binder). w.name.0) same ∙ s)))
  later_taken seen b bs n c (Earlier (suc j) l e s) = Earlier j (omega (arith, l)) e s
  later_taken seen b bs n c (Known e) = Known e

  first_taken : (seen : ℕ → Bool) (bs : List Binder) (b : Binder) → TakenAt seen bs zero b
      → (seen b.name.0 || declared b.name.0) ≡ true
  first_taken seen bs b (Seen e) = left (seen b.name.0) (declared b.name.0) e
  first_taken seen bs b (Earlier j l e s) = absurd (omega (arith, l))
  first_taken seen bs b (Known e) = right (seen b.name.0) (declared b.name.0) e

  at_again : (bs : List Binder) (seen : ℕ → Bool) (n : ℕ) (c : Binder) → slice_get bs n ≡ Some c
      → TakenAt seen bs n c → Again seen bs c.at
  at_again [] seen n c e t = absurd cc
  at_again (b ∷ bs) seen zero c e t =
      let same : b ≡ c = cc in
      inl (
        subst (λ (w : Binder). (seen w.name.0 || declared w.name.0) ≡ true) (sym same)
            (first_taken seen (b ∷ bs) c t),
        ap (λ (w : Binder). w.at) same,
      )
  at_again (b ∷ bs) seen (suc n) c e t = inr
      (at_again bs (with_member b.name.0 seen) n c e (later_taken seen b bs n c t))

  nothing : ℕ → Type 0
  nothing at = ⊥

  to_again : (bs : List Binder) (seen : ℕ → Bool) (at : ℕ) → nothing at ⊎ Again seen bs at
      → AgainAt seen bs at
  unfolding nothing
  to_again bs seen at (inl h) = absurd h
  to_again bs seen at (inr h) = again_at bs seen at h

  from_again : (bs : List Binder) (seen : ℕ → Bool) (at : ℕ) → AgainAt seen bs at → nothing at
      ⊎ Again seen bs at
  from_again bs seen at w = inr
      (subst (Again seen bs) w.place (at_again bs seen w.number w.name w.is w.taken))

  none_first : IsFirstPlaceWhere nothing None
  unfolding nothing
  none_first = λ at h. h

  again_first : (bs : List Binder) (seen : ℕ → Bool)
      → IsFirstPlaceWhere (AgainAt seen bs) (first_repeated_name declared seen None bs)
  again_first bs seen = same_first (λ at. nothing at ⊎ Again seen bs at) (AgainAt seen bs)
      (to_again bs seen) (from_again bs seen) (first_repeated_name declared seen None bs)
      (again_from bs seen nothing None none_first)

module _ (m : Module) where
  abbrev names : List Binder
  names = map (λ i. i.1) (imported m)

  abbrev known : ℕ → Bool
  known = is_declared (known_of (body m))

  abbrev none : ℕ → Bool
  none x = false

  to_taken : (n : ℕ) (x : Binder × Binder) → slice_get (imported m) n ≡ Some x
      → TakenAt known none names n x.1 → NameIsTaken m n x.1
  to_taken n x is (Seen e) = absurd cc
  to_taken n x is (Earlier {c = c} j l e s) = let w
      = mapped_at (λ (i : Binder × Binder). i.1) (imported m) j c e
      in Before j l w.is (ap (λ (b : Binder). b.name.0) w.same ∙ s)
  to_taken n x is (Known e) = Declared (declared_in m x.1.name.0 e)

  from_taken : (n : ℕ) (b : Binder) → NameIsTaken m n b → TakenAt known none names n b
  from_taken n b (Before {x = x} j l e s) = Earlier j l
      (map_get (λ (i : Binder × Binder). i.1) (imported m) j x e) s
  from_taken n b (Declared d) = Known (in_declared m b.name.0 d)

  to_retakes : (at : ℕ) → AgainAt known none names at → ImportsTakenName m at
  to_retakes at w =
      let i = mapped_at (λ (i : Binder × Binder). i.1) (imported m) w.number w.name w.is in
      record {
        number = w.number;
        name = i.item;
        is = i.is;
        taken
            = to_taken w.number i.item i.is
            (subst (TakenAt known none names w.number) (sym i.same) w.taken);
        place
            = ap (λ (b : Binder). b.at) i.same ∙ w.place;
      }

  from_retakes : (at : ℕ) → ImportsTakenName m at → AgainAt known none names at
  from_retakes at w = record {
    number = w.number;
    name = w.name.1;
    is = map_get (λ (i : Binder × Binder). i.1) (imported m)
        w.number w.name w.is;
    taken = from_taken w.number w.name.1 w.taken;
    place = w.place;
  }

  pub retakes_first : IsFirstPlaceWhere (ImportsTakenName m)
      (first_repeated_name known none None names)
  retakes_first = same_first (AgainAt known none names) (ImportsTakenName m) to_retakes from_retakes
      (first_repeated_name known none None names) (again_first known names none)

-- ---- what is known

abbrev Pair : Type 0
Pair = Binder × Binder

abbrev upper : List (List ℕ) → Pair → Bool
upper names i = begins_upper (or_empty (slice_get names i.1.name.0))

abbrev with_imports : Program → List Pair → Program
with_imports p xs = record {
  names = p.names;
  constructors = p.constructors ++ map as_constructor (filter (upper p.names) xs);
  functions = p.functions ++ map as_function (filter (λ i. not (upper p.names i)) xs);
}

-- one more, in front of others
abbrev chosen : Bool → Program → Pair → List Pair → Program
chosen b p x xs = record {
  names = p.names;
  constructors = p.constructors ++ map as_constructor
      (cond b (x ∷ filter (upper p.names) xs) (filter (upper p.names) xs));
  functions = p.functions ++ map as_function
      (cond (not b) (x ∷ filter (λ i. not (upper p.names i)) xs)
      (filter (λ i. not (upper p.names i)) xs));
}

chosen_is : (b : Bool) (p : Program) (x : Pair) (xs : List Pair)
    → with_imports (declare_as b p x.1) xs ≡ chosen b p x xs
chosen_is true p x xs = λ i. record {
  names = p.names;
  constructors = append_again p.constructors (as_constructor x ∷ [])
      (map as_constructor (filter (upper p.names) xs)) i;
  functions = p.functions ++ map as_function (filter (λ i. not (upper p.names i)) xs);
}
chosen_is false p x xs = λ i. record {
  names = p.names;
  constructors = p.constructors ++ map as_constructor (filter (upper p.names) xs);
  functions = append_again p.functions (as_function x ∷ [])
      (map as_function (filter (λ i. not (upper p.names i)) xs)) i;
}

declared_next : (p : Program) (x : Pair) (xs : List Pair)
    → with_imports (declare p x.1) xs ≡ with_imports p (x ∷ xs)
declared_next p x xs = chosen_is (upper p.names x) p x xs

declared_all : (xs : List Pair) (p : Program) → fold (λ (q : Program) (i : Pair). declare q i.1) p
    xs ≡ with_imports p xs
declared_all [] p = λ i. record {
  names = p.names;
  constructors = sym (append_nil p.constructors) i;
  functions
      = sym (append_nil p.functions) i;
}
declared_all (x ∷ xs) p = declared_all xs (declare p x.1) ∙ declared_next p x xs

fold_append : {A B : Type 0} (f : B → A → B) (b : B) (xs ys : List A)
    → fold f b (xs ++ ys) ≡ fold f (fold f b xs) ys
fold_append f b [] ys = refl
fold_append f b (x ∷ xs) ys = fold_append f (f b x) xs ys

of_names : (from : Binder) (names : List Binder) (p : Program)
    → fold declare p names ≡ fold (λ (q : Program) (i : Pair). declare q i.1) p
    (map (λ b. (from, b)) names)
of_names from [] p = refl
of_names from (b ∷ names) p = of_names from names (declare p b)

abbrev pub pairs : Import → List Pair
pairs i = map (λ b. (i.from, b)) i.names

of_imports : (imports : List Import) (p : Program) → declare_all p imports ≡ fold
    (λ (q : Program) (i : Pair). declare q i.1) p (flat_map pairs imports)
of_imports [] p = refl
of_imports (i ∷ imports) p =
    of_imports imports (fold declare p i.names)
    ∙ ap (λ q. fold (λ (r : Program) (j : Pair). declare r j.1) q (flat_map pairs imports))
    (of_names i.from i.names p)
    ∙ sym (fold_append (λ (r : Program) (j : Pair). declare r j.1) p (pairs i)
    (flat_map pairs imports))

pub seen_is : (m : Module) → declare_all (body m) m.imports ≡ seen m
seen_is m = of_imports m.imports (body m) ∙ declared_all (imported m) (body m)

-- the names that are imported, with no regard to where they come from
abbrev pub names_of : List Import → List Binder
names_of imports = map (λ i. i.1) (flat_map pairs imports)
