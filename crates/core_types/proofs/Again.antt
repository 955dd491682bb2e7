-- What the walks over declared names find is what breaks the rules.
use Rattle.std.proofs.Common.{◌≡◌, ℕ, zero, suc, ◌+◌, ◌<◌, Bool, true, false, List, [], ◌∷◌, length, refl, sym, ap, subst, ◌∙◌, arith, Some, None, ◌⊎◌, inl, inr}
use Rattle.std.specs.Prelude.{◌≢◌, ◌==◌, slice_get, codes, if◌then◌else◌}
use Rattle.std.proofs.lemmas.Bool.{eqb-true, eq-eqb}
use Rattle.seq.proofs.Truth.{two_ways}
use Rattle.core_reader.specs.declared.syntax.Binder.{Binder}
use Rattle.core_reader.specs.Tree.{Function}
use Rattle.arity_check.specs.Faults.{with_member}
use Rattle.arity_check.specs.Known.{Known}
use Rattle.arity_check.specs.Whole.{known_of, function_at}
use Rattle.arity_check.proofs.Names.{int_named}
use Rattle.core_types.specs.Source.{TypeDecl, Signature, Source, erased}
use Rattle.core_types.specs.Rules.{Broken}
use Rattle.core_types.specs.Lists.{is_named}
use Rattle.core_types.specs.Rules as rules
use Rattle.core_types.specs.Found.{IsFirstPlaceWhere, earlier_place_if, first_repeated_name, is_int, first_duplicate_type, is_unknown, first_bad_signature}
use Rattle.core_types.proofs.Firsts.{Here, Adds, here_adds, then_adds, none_adds, all_added}
use Rattle.core_types.proofs.Unknowns.{also_parts, also_same, also_before}

-- ---- names that stand again, each item of a list having a name

module _ {X : Type 0} (name : X → ℕ) where
  -- an earlier item has the name, or it was seen before
  abbrev pub Earlier : (ℕ → Bool) → List X → ℕ → ℕ → Type 0
  Earlier seen xs j n = (seen n ≡ true) ⊎
      ((i : ℕ) × (x : X) × (i < j) × (slice_get xs i ≡ Some x) × (name x ≡ n))

  pub later_seen : (seen : ℕ → Bool) (x : X) (xs : List X) (j n : ℕ)
      → Earlier (with_member (name x) seen) xs j n → Earlier seen (x ∷ xs) (suc j) n
  later_seen seen x xs j n (inl e) = elim (also_parts (name x) n seen e)
      [ inl y ↦ inr (zero, x, omega arith, refl, y) | inr b ↦ inl b ]
  later_seen seen x xs j n (inr h) = let l = h.2 in inr (suc h.0, h.1, omega (arith, l), h.3, h.4)

  pub seen_later : (seen : ℕ → Bool) (x : X) (xs : List X) (j n : ℕ)
      → Earlier seen (x ∷ xs) (suc j) n → Earlier (with_member (name x) seen) xs j n
  seen_later seen x xs j n (inl e) = inl (also_before (name x) n seen e)
  seen_later seen x xs j n (inr h) = go h.0 h.1 h.2 h.3 h.4
    where
      go : (i : ℕ) (y : X) → i < suc j → slice_get (x ∷ xs) i ≡ Some y → name y ≡ n
          → Earlier (with_member (name x) seen) xs j n
      go zero y l e f = let same : x ≡ y = cc in inl (also_same (name x) n seen (ap name same ∙ f))
      go (suc i) y l e f = inr (i, y, omega (arith, l), e, f)

  pub none_earlier : (seen : ℕ → Bool) (xs : List X) (n : ℕ) → Earlier seen xs zero n
      → seen n ≡ true
  none_earlier seen xs n (inl e) = e
  none_earlier seen xs n (inr h) = absurd (let l = h.2 in omega (arith, l))

binder_name : Binder → ℕ
binder_name b = b.name.0

abbrev AgainIn : (ℕ → Bool) → List Binder → ℕ → Type 0
AgainIn seen [] at = ⊥
AgainIn seen (x ∷ xs) at = Here (seen x.name.0) x.at at ⊎ AgainIn (with_member x.name.0 seen) xs at

again_adds : (seen : ℕ → Bool) (xs : List Binder) → Adds (AgainIn seen xs)
    (λ o. first_repeated_name seen o xs)
again_adds seen [] = none_adds
again_adds seen (x ∷ xs) = then_adds (Here (seen x.name.0) x.at)
    (AgainIn (with_member x.name.0 seen) xs) (λ o. earlier_place_if (seen x.name.0) o x.at)
    (λ o. first_repeated_name (with_member x.name.0 seen) o xs) (here_adds (seen x.name.0) x.at)
    (again_adds (with_member x.name.0 seen) xs)

abbrev name_in : Binder → ℕ
name_in b = b.name.0

record Again (seen : ℕ → Bool) (xs : List Binder) (at : ℕ) : Type 0 where
  j : ℕ
  item : Binder
  is : slice_get xs j ≡ Some item
  place : item.at ≡ at
  before : Earlier name_in seen xs j item.name.0

to_again : (seen : ℕ → Bool) (xs : List Binder) (at : ℕ) → AgainIn seen xs at → Again seen xs at
to_again seen [] at h = absurd h
to_again seen (x ∷ xs) at (inl h) = record
    { j = zero; item = x; is = refl; place = h.1; before = inl h.0 }
to_again seen (x ∷ xs) at (inr h) =
    let w = to_again (with_member x.name.0 seen) xs at h in
    record {
      j = suc w.j;
      item = w.item;
      is = w.is;
      place = w.place;
      before
          = later_seen name_in seen x xs w.j w.item.name.0 w.before;
    }

from_again : (seen : ℕ → Bool) (xs : List Binder) (j : ℕ) (x : Binder) → slice_get xs j ≡ Some x
    → Earlier name_in seen xs j x.name.0 → AgainIn seen xs x.at
from_again seen [] j x e h = absurd cc
from_again seen (y ∷ xs) zero x e h =
    let same : y ≡ x = cc in
    inl (
      ap (λ (w : Binder). seen w.name.0) same ∙ none_earlier name_in seen (y ∷ xs) x.name.0 h,
      ap (λ (w : Binder). w.at) same,
    )
from_again seen (y ∷ xs) (suc j) x e h = inr
    (from_again (with_member y.name.0 seen) xs j x e (seen_later name_in seen y xs j x.name.0 h))

-- ---- types

abbrev type_name : TypeDecl → ℕ
type_name d = d.name.name.0

abbrev signed_name : Signature → ℕ
signed_name g = g.function.name.0

abbrev no_names : ℕ → Bool
no_names n = false

module _ (k : Known) where
  abbrev TypeAgain : (ℕ → Bool) → TypeDecl → ℕ → Type 0
  TypeAgain seen d at =
      (Here (seen d.name.name.0) d.name.at at ⊎ Here (is_int k d.name.name.0) d.name.at at)
      ⊎ AgainIn no_names d.params at

  abbrev TypesAgain : (ℕ → Bool) → List TypeDecl → ℕ → Type 0
  TypesAgain seen [] at = ⊥
  TypesAgain seen (d ∷ ds) at = TypeAgain seen d at
      ⊎ TypesAgain (with_member d.name.name.0 seen) ds at

  types_adds : (seen : ℕ → Bool) (ds : List TypeDecl)
      → Adds (TypesAgain seen ds) (λ o. first_duplicate_type k seen o ds)
  types_adds seen [] = none_adds
  types_adds seen (d ∷ ds) =
      let n = d.name.name.0 in
      then_adds (TypeAgain seen d) (TypesAgain (with_member n seen) ds)
      (λ o. first_repeated_name no_names
      (earlier_place_if (is_int k n) (earlier_place_if (seen n) o d.name.at) d.name.at)
      d.params) (λ o. first_duplicate_type k (with_member n seen) o ds)
      (then_adds (λ at. Here (seen n) d.name.at at ⊎ Here (is_int k n) d.name.at at)
      (AgainIn no_names d.params)
      (λ o. earlier_place_if (is_int k n) (earlier_place_if (seen n) o d.name.at) d.name.at)
      (λ o. first_repeated_name no_names o d.params)
      (then_adds (Here (seen n) d.name.at) (Here (is_int k n) d.name.at)
      (λ o. earlier_place_if (seen n) o d.name.at)
      (λ o. earlier_place_if (is_int k n) o d.name.at) (here_adds (seen n) d.name.at)
      (here_adds (is_int k n) d.name.at)) (again_adds no_names d.params))
      (types_adds (with_member n seen) ds)

  -- what the first of these breaks
  data TypeBroken (seen : ℕ → Bool) (ds : List TypeDecl) (at : ℕ) : Type 0 where
    Twice : (j : ℕ) (d : TypeDecl) → slice_get ds j ≡ Some d → d.name.at ≡ at
        → Earlier type_name seen ds j d.name.name.0 → TypeBroken seen ds at
    Reserved : (j : ℕ) (d : TypeDecl) → slice_get ds j ≡ Some d → d.name.at ≡ at
        → is_int k d.name.name.0 ≡ true → TypeBroken seen ds at
    Parameter : (j : ℕ) (d : TypeDecl) → slice_get ds j ≡ Some d → Again no_names d.params at
        → TypeBroken seen ds at

  later_type : (seen : ℕ → Bool) (d : TypeDecl) (ds : List TypeDecl) (at : ℕ)
      → TypeBroken (with_member d.name.name.0 seen) ds at → TypeBroken seen (d ∷ ds) at
  later_type seen d ds at (Twice j e is p b) = Twice (suc j) e is p
      (later_seen type_name seen d ds j e.name.name.0 b)
  later_type seen d ds at (Reserved j e is p b) = Reserved (suc j) e is p b
  later_type seen d ds at (Parameter j e is b) = Parameter (suc j) e is b

  to_types : (seen : ℕ → Bool) (ds : List TypeDecl) (at : ℕ) → TypesAgain seen ds at
      → TypeBroken seen ds at
  to_types seen [] at h = absurd h
  to_types seen (d ∷ ds) at (inl (inl (inl h))) = Twice zero d refl h.1 (inl h.0)
  to_types seen (d ∷ ds) at (inl (inl (inr h))) = Reserved zero d refl h.1 h.0
  to_types seen (d ∷ ds) at (inl (inr h)) = Parameter zero d refl (to_again no_names d.params at h)
  to_types seen (d ∷ ds) at (inr h) = later_type seen d ds at
      (to_types (with_member d.name.name.0 seen) ds at h)

  type_twice : (seen : ℕ → Bool) (ds : List TypeDecl) (j : ℕ) (d : TypeDecl)
      → slice_get ds j ≡ Some d → Earlier type_name seen ds j d.name.name.0
      → TypesAgain seen ds d.name.at
  type_twice seen [] j d e h = absurd cc
  type_twice seen (c ∷ ds) zero d e h =
      let same : c ≡ d = cc in
      inl (inl (inl (
        ap (λ (w : TypeDecl). seen w.name.name.0) same ∙ none_earlier type_name seen (c ∷ ds)
            d.name.name.0 h,
        ap (λ (w : TypeDecl). w.name.at) same,
      )))
  type_twice seen (c ∷ ds) (suc j) d e h = inr
      (type_twice (with_member c.name.name.0 seen) ds j d e
      (seen_later type_name seen c ds j d.name.name.0 h))

  type_reserved : (seen : ℕ → Bool) (ds : List TypeDecl) (j : ℕ) (d : TypeDecl)
      → slice_get ds j ≡ Some d → is_int k d.name.name.0 ≡ true → TypesAgain seen ds d.name.at
  type_reserved seen [] j d e h = absurd cc
  type_reserved seen (c ∷ ds) zero d e h =
      let same : c ≡ d = cc in
      inl (inl (inr (
        ap (λ (w : TypeDecl). is_int k w.name.name.0) same ∙ h,
        ap (λ (w : TypeDecl). w.name.at) same,
      )))
  type_reserved seen (c ∷ ds) (suc j) d e h = inr
      (type_reserved (with_member c.name.name.0 seen) ds j d e h)

  parameter_again : (seen : ℕ → Bool) (ds : List TypeDecl) (j : ℕ) (d : TypeDecl) (at : ℕ)
      → slice_get ds j ≡ Some d → AgainIn no_names d.params at → TypesAgain seen ds at
  parameter_again seen [] j d at e h = absurd cc
  parameter_again seen (c ∷ ds) zero d at e h =
      let same : c ≡ d = cc in
      inl (inr (subst (λ (w : TypeDecl). AgainIn no_names w.params at) (sym same) h))
  parameter_again seen (c ∷ ds) (suc j) d at e h = inr
      (parameter_again (with_member c.name.name.0 seen) ds j d at e h)

  -- ---- signatures

  abbrev SignaturesAgain : (ℕ → Bool) → List Signature → ℕ → Type 0
  SignaturesAgain seen [] at = ⊥
  SignaturesAgain seen (g ∷ gs) at =
      (Here (seen g.function.name.0) g.function.at at
      ⊎ Here (is_unknown (k.function g.function.name.0)) g.function.at at)
      ⊎ SignaturesAgain (with_member g.function.name.0 seen) gs at

  signatures_adds : (seen : ℕ → Bool) (gs : List Signature)
      → Adds (SignaturesAgain seen gs) (λ o. first_bad_signature k seen o gs)
  signatures_adds seen [] = none_adds
  signatures_adds seen (g ∷ gs) =
      let n = g.function.name.0 in
      let u = is_unknown (k.function n) in
      then_adds (λ at. Here (seen n) g.function.at at ⊎ Here u g.function.at at)
      (SignaturesAgain (with_member n seen) gs)
      (λ o. earlier_place_if u (earlier_place_if (seen n) o g.function.at) g.function.at)
      (λ o. first_bad_signature k (with_member n seen) o gs)
      (then_adds (Here (seen n) g.function.at) (Here u g.function.at)
      (λ o. earlier_place_if (seen n) o g.function.at) (λ o. earlier_place_if u o g.function.at)
      (here_adds (seen n) g.function.at) (here_adds u g.function.at))
      (signatures_adds (with_member n seen) gs)

  data SignatureBroken (seen : ℕ → Bool) (gs : List Signature) (at : ℕ) : Type 0 where
    SignedTwice : (j : ℕ) (g : Signature) → slice_get gs j ≡ Some g → g.function.at ≡ at
        → Earlier signed_name seen gs j g.function.name.0 → SignatureBroken seen gs at
    NoFunction : (j : ℕ) (g : Signature) → slice_get gs j ≡ Some g → g.function.at ≡ at
        → is_unknown (k.function g.function.name.0) ≡ true → SignatureBroken seen gs at

  later_signature : (seen : ℕ → Bool) (g : Signature) (gs : List Signature) (at : ℕ)
      → SignatureBroken (with_member g.function.name.0 seen) gs at
      → SignatureBroken seen (g ∷ gs) at
  later_signature seen g gs at (SignedTwice j h is p b)
      = SignedTwice (suc j) h is p (later_seen signed_name seen g gs j h.function.name.0 b)
  later_signature seen g gs at (NoFunction j h is p b) = NoFunction (suc j) h is p b

  to_signatures : (seen : ℕ → Bool) (gs : List Signature) (at : ℕ) → SignaturesAgain seen gs at
      → SignatureBroken seen gs at
  to_signatures seen [] at h = absurd h
  to_signatures seen (g ∷ gs) at (inl (inl h)) = SignedTwice zero g refl h.1 (inl h.0)
  to_signatures seen (g ∷ gs) at (inl (inr h)) = NoFunction zero g refl h.1 h.0
  to_signatures seen (g ∷ gs) at (inr h) = later_signature seen g gs at
      (to_signatures (with_member g.function.name.0 seen) gs at h)

  signed_twice : (seen : ℕ → Bool) (gs : List Signature) (j : ℕ) (g : Signature)
      → slice_get gs j ≡ Some g → Earlier signed_name seen gs j g.function.name.0
      → SignaturesAgain seen gs g.function.at
  signed_twice seen [] j g e h = absurd cc
  signed_twice seen (f ∷ gs) zero g e h =
      let same : f ≡ g = cc in
      inl (inl (
        ap (λ (w : Signature). seen w.function.name.0) same ∙ none_earlier signed_name seen
            (f ∷ gs) g.function.name.0 h,
        ap (λ (w : Signature). w.function.at) same,
      ))
  signed_twice seen (f ∷ gs) (suc j) g e h = inr
      (signed_twice (with_member f.function.name.0 seen) gs j g e
      (seen_later signed_name seen f gs j g.function.name.0 h))

  no_function : (seen : ℕ → Bool) (gs : List Signature) (j : ℕ) (g : Signature)
      → slice_get gs j ≡ Some g → is_unknown (k.function g.function.name.0) ≡ true
      → SignaturesAgain seen gs g.function.at
  no_function seen [] j g e h = absurd cc
  no_function seen (f ∷ gs) zero g e h =
      let same : f ≡ g = cc in
      inl (inr (
        ap (λ (w : Signature). is_unknown (k.function w.function.name.0)) same ∙ h,
        ap (λ (w : Signature). w.function.at) same,
      ))
  no_function seen (f ∷ gs) (suc j) g e h = inr
      (no_function (with_member f.function.name.0 seen) gs j g e h)

-- ---- functions by their names

found_function : (fs : List Function) (i n : ℕ) → is_unknown (function_at fs i n) ≡ true
    → (j : ℕ) (f : Function) → slice_get fs j ≡ Some f → f.name ≢ n
found_function [] i n e j f is = absurd cc
found_function (g ∷ gs) i n e j f is = elim (two_ways (g.name == n)) [
  | inl y ↦ absurd
      (true_false
      (sym (ap (λ b. is_unknown (if b then Some (i, length g.params) else function_at gs (i + 1) n))
      y) ∙ e))
  | inr m ↦ go j is
      (found_function gs (i + 1) n
      (sym (ap (λ b. is_unknown (if b then Some (i, length g.params) else function_at gs (i + 1) n))
      m) ∙ e)) m
]
  where
    true_false : false ≡ true → ⊥
    true_false e = cc

    go : (j : ℕ) → slice_get (g ∷ gs) j ≡ Some f →
        ((j : ℕ) (f : Function) → slice_get gs j ≡ Some f → f.name ≢ n) → (g.name == n) ≡ false
        → f.name ≢ n
    go zero is later m same =
        let h : g ≡ f = cc in
        let t : (g.name == n) ≡ true = eq-eqb g.name n (ap (λ (w : Function). w.name) h ∙ same) in
        true_false (sym m ∙ t)
    go (suc j) is later m same = later j f is same

unfound_function : (fs : List Function) (i n : ℕ) →
    ((j : ℕ) (f : Function) → slice_get fs j ≡ Some f → f.name ≢ n)
    → is_unknown (function_at fs i n) ≡ true
unfound_function [] i n h = refl
unfound_function (g ∷ gs) i n h = elim (two_ways (g.name == n)) [
  | inl y ↦ absurd (h zero g refl (eqb-true g.name n y))
  | inr m ↦ ap (λ b. is_unknown (if b then Some (i, length g.params) else function_at gs (i + 1) n))
      m ∙ unfound_function gs (i + 1) n (λ j f is. h (suc j) f is)
]

unseen : {X : Type 0} (name : X → ℕ) (xs : List X) (j n : ℕ) → Earlier name no_names xs j n
    → (i : ℕ) × (x : X) × (i < j) × (slice_get xs i ≡ Some x) × (name x ≡ n)
unseen name xs j n (inl e) = absurd cc
unseen name xs j n (inr h) = h

module _ (s : Source) where
  abbrev known : Known
  known = known_of (erased s)

  abbrev pub Rule81 : ℕ → Type 0
  Rule81 at = TypesAgain known no_names s.types at

  abbrev pub Rule85 : ℕ → Type 0
  Rule85 at = SignaturesAgain known no_names s.signatures at

  type_breaks : (at : ℕ) → TypeBroken known no_names s.types at → Broken s 81 at
  type_breaks at (Twice j d e p h) = let w = unseen type_name s.types j d.name.name.0 h
      in subst (Broken s 81) p (rules.DuplicateType w.2 w.3 e (sym w.4))
  type_breaks at (Reserved j d e p h) = subst (Broken s 81) p
      (rules.ReservedType j e (sym (int_named (erased s) d.name.name.0) ∙ h))
  type_breaks at (Parameter j d e a) = let w = unseen name_in d.params a.j a.item.name.0 a.before
      in subst (Broken s 81) a.place (rules.DuplicateParameter j e w.2 w.3 a.is (sym w.4))

  pub again_breaks : (at : ℕ) → Rule81 at → Broken s 81 at
  again_breaks at h = type_breaks at (to_types known no_names s.types at h)

  pub type_again : (i j : ℕ) (d e : TypeDecl) → i < j → slice_get s.types i ≡ Some d
      → slice_get s.types j ≡ Some e → e.name.name.0 ≡ d.name.name.0 → Rule81 e.name.at
  type_again i j d e l f g n = type_twice known no_names s.types j e g (inr (i, d, l, f, sym n))

  pub param_again : (i j n : ℕ) (d : TypeDecl) (x y : Binder) → slice_get s.types n ≡ Some d → i < j
      → slice_get d.params i ≡ Some x → slice_get d.params j ≡ Some y → y.name.0 ≡ x.name.0
      → Rule81 y.at
  param_again i j n d x y e l f g m = parameter_again known no_names s.types n d y.at e
      (from_again no_names d.params j y g (inr (i, x, l, f, sym m)))

  pub type_is_int : (i : ℕ) (d : TypeDecl) → slice_get s.types i ≡ Some d
      → is_named s (codes "Int") d.name.name.0 ≡ true → Rule81 d.name.at
  type_is_int i d e h = type_reserved known no_names s.types i d e
      (int_named (erased s) d.name.name.0 ∙ h)

  pub again_first : IsFirstPlaceWhere Rule81 (first_duplicate_type known no_names None s.types)
  again_first = all_added Rule81 (λ o. first_duplicate_type known no_names o s.types)
      (types_adds known no_names s.types)

  signature_breaks : (at : ℕ) → SignatureBroken known no_names s.signatures at → Broken s 85 at
  signature_breaks at (SignedTwice j g e p h) = let w
      = unseen signed_name s.signatures j g.function.name.0 h
      in subst (Broken s 85) p (rules.SignedAgain w.2 w.3 e (sym w.4))
  signature_breaks at (NoFunction j g e p h) = subst (Broken s 85) p
      (rules.SignedUnknown j e (found_function s.functions 0 g.function.name.0 h))

  pub signed_breaks : (at : ℕ) → Rule85 at → Broken s 85 at
  signed_breaks at h = signature_breaks at (to_signatures known no_names s.signatures at h)

  pub signed_again : (i j : ℕ) (g h : Signature) → i < j → slice_get s.signatures i ≡ Some g
      → slice_get s.signatures j ≡ Some h → h.function.name.0 ≡ g.function.name.0
      → Rule85 h.function.at
  signed_again i j g h l e f n = signed_twice known no_names s.signatures j h f
      (inr (i, g, l, e, sym n))

  pub signed_unknown : (i : ℕ) (g : Signature) → slice_get s.signatures i ≡ Some g
      → ((j : ℕ) (f : Function) → slice_get s.functions j ≡ Some f → f.name ≢ g.function.name.0)
      → Rule85 g.function.at
  signed_unknown i g e h = no_function known no_names s.signatures i g e
      (unfound_function s.functions 0 g.function.name.0 h)

  pub signed_first : IsFirstPlaceWhere Rule85 (first_bad_signature known no_names None s.signatures)
  signed_first = all_added Rule85 (λ o. first_bad_signature known no_names o s.signatures)
      (signatures_adds known no_names s.signatures)
