-- The patterns of a text have forms by the numbers of their constructors, and the first functions
-- of the program are
-- numbered as those of the text.
use Rattle.std.proofs.Common.{◌≡◌, ℕ, zero, suc, ◌+◌, ◌<◌, Bool, true, false, cond, List, [], ◌∷◌, ◌++◌, length, refl, sym, ap, subst, ◌∙◌, arith, Some, None}
use Rattle.std.specs.Prelude.{◌==◌, slice_get, codes, if◌then◌else◌}
use Rattle.std.specs.List.{position, position_from}
use Rattle.std.proofs.lemmas.Iterator.Adapters.{position_from-zero}
use Rattle.seq.specs.Lists.{AllOf, In, here, there}
use Rattle.seq.proofs.Lists.{some_is, append_again}
use Rattle.seq.proofs.Member.{in_left, in_right}
use Rattle.seq.proofs.Order.{eq_from}
use Rattle.core_reader.specs.Tree.{Data, Function}
use Rattle.arity_check.specs.declared.normal.Con as constructors
use Rattle.arity_check.specs.Scope.{con_number, is_named}
use Rattle.arity_check.specs.Normal.{Pairwise, IsConstructor}
use Rattle.match_compile.specs.Source.{Pat, Name, Int, Con, Pats, NoPats, AndPat, Equation, Source}
use Rattle.match_compile.specs.Parts.{count, constructors_in, constructors_of}
use Rattle.match_compile.specs.Rules as rules
use Rattle.match_compile.specs.Sizes.{functions, rows}
use Rattle.match_compile.specs.Decisions.{decisions_from, all_decisions}
use Rattle.match_compile.specs.Translated.{name_supply_of, first_of, firsts, translated}
use Rattle.match_compile.specs.Form.{Form, Any, Is, Has, Forms, NoForms, AndForm, head_of, heads, program_of_heads, IsForm, OfName, OfInt, OfCon, AreForms, NoneOf, OneOf}
use Rattle.match_compile.specs.Jobs as jobs
use Rattle.match_compile.specs.Decides as decides
use Rattle.match_compile.proofs.Grounds.{same_named, name_kept, SameHead, NoHead, OneHead, same_head}

-- ---- lists

pub pair_get : {X Y : Type 0} (R : X → Y → Type 0) (xs : List X) (ys : List Y) (i : ℕ) (x : X)
    → Pairwise R xs ys → slice_get xs i ≡ Some x → (y : Y) × (slice_get ys i ≡ Some y) × R x y
pair_get R [] ys i x h e = absurd cc
pair_get R (z ∷ xs) [] i x h e = absurd h
pair_get R (z ∷ xs) (y ∷ ys) zero x h e = (y, refl, subst (λ w. R w y) (some_is e) h.0)
pair_get R (z ∷ xs) (y ∷ ys) (suc i) x h e = pair_get R xs ys i x h.1 e

pub pair_back : {X Y : Type 0} (R : X → Y → Type 0) (xs : List X) (ys : List Y) (i : ℕ) (y : Y)
    → Pairwise R xs ys → slice_get ys i ≡ Some y → (x : X) × (slice_get xs i ≡ Some x) × R x y
pair_back R [] [] i y h e = absurd cc
pair_back R [] (z ∷ ys) i y h e = absurd h
pair_back R (x ∷ xs) [] i y h e = absurd h
pair_back R (x ∷ xs) (z ∷ ys) zero y h e = (x, refl, subst (R x) (some_is e) h.0)
pair_back R (x ∷ xs) (z ∷ ys) (suc i) y h e = pair_back R xs ys i y h.1 e

get_from : {X : Type 0} (test : X → Bool) (i : ℕ) (xs : List X) (n : ℕ)
    → position_from test i xs ≡ Some n → (k : ℕ) × (x : X) × (n ≡ i + k) × (slice_get xs k ≡ Some x)
    × (test x ≡ true)
get_from test i [] n e = absurd cc
get_from {X = X} test i (x ∷ xs) n e = go (test x) refl e (λ f. get_from test (i + 1) xs n f)
  where
    go : (b : Bool) → test x ≡ b → cond b (Some i) (position_from test (i + 1) xs) ≡ Some n
        → (position_from test (i + 1) xs ≡ Some n → (k : ℕ) × (y : X) × (n ≡ i + 1 + k)
        × (slice_get xs k ≡ Some y) × (test y ≡ true)) → (k : ℕ) × (y : X) × (n ≡ i + k)
        × (slice_get (x ∷ xs) k ≡ Some y) × (test y ≡ true)
    go true t e f = let s = some_is e in (0, x, omega (arith, s), refl, t)
    go false t e f = let r = f e in let q = r.2 in (suc r.0, r.1, omega (arith, q), r.3, r.4)

pub get_position : {X : Type 0} (test : X → Bool) (xs : List X) (n : ℕ) → position test xs ≡ Some n
    → (x : X) × (slice_get xs n ≡ Some x) × (test x ≡ true)
get_position test xs n e =
    let r = get_from test 0 xs n (sym (position_from-zero test xs) ∙ e) in
    let k = r.2 in
    let same : n ≡ r.0 = omega (arith, k) in
    (r.1, ap (slice_get xs) same ∙ r.3, r.4)

-- ---- constructors

-- a constructor that is declared has a number
numbered_from : (ds : List Data) (i d k : ℕ) → rules.fields_in ds d ≡ Some k → (n : ℕ) × (x : Data)
    × (position_from (λ y. y.name == d) i ds ≡ Some (i + n)) × (slice_get ds n ≡ Some x)
    × (x.fields ≡ k)
numbered_from [] i d k e = absurd cc
numbered_from (x ∷ ds) i d k e = go (x.name == d) e (λ f. numbered_from ds (i + 1) d k f)
  where
    go : (b : Bool) → (if b then Some x.fields else rules.fields_in ds d) ≡ Some k
        → (rules.fields_in ds d ≡ Some k → (n : ℕ) × (y : Data)
        × (position_from (λ y. y.name == d) (i + 1) ds ≡ Some (i + 1 + n))
        × (slice_get ds n ≡ Some y) × (y.fields ≡ k))
        → (n : ℕ) × (y : Data) ×
        (cond b (Some i) (position_from (λ y. y.name == d) (i + 1) ds) ≡ Some (i + n))
        × (slice_get (x ∷ ds) n ≡ Some y) × (y.fields ≡ k)
    go true e f = let z : i ≡ i + 0 = omega arith in (0, x, ap Some z, refl, some_is e)
    go false e f = let r = f e in let z : i + 1 + r.0 ≡ i + suc r.0 = omega arith
        in (suc r.0, r.1, r.2 ∙ ap Some z, r.3, r.4)

module _ (c : Source) (cons : List constructors.Con)
    (matched : Pairwise (IsConstructor (translated c)) c.constructors cons) where
  abbrev pub many : ℕ → ℕ
  many n = decides.fields_in (slice_get cons n)

  known : (d k : ℕ) → rules.fields_in c.constructors d ≡ Some k → (n : ℕ)
      × (con_number (program_of_heads c) d ≡ Some n) × (many n ≡ k)
  known d k e =
      let r = numbered_from c.constructors 0 d k e in
      let z : 0 + r.0 ≡ r.0 = omega arith in
      let con = pair_get (IsConstructor (translated c)) c.constructors cons r.0 r.1 matched r.3 in (
        r.0,
        position_from-zero (λ y. y.name == d) c.constructors ∙ r.2 ∙ ap Some z,
        ap decides.fields_in con.1 ∙ con.2.fields ∙ r.4,
      )

  -- constructors of one number have one name
  pub one_name : (d e n : ℕ) → con_number (program_of_heads c) d ≡ Some n
      → con_number (program_of_heads c) e ≡ Some n → d ≡ e
  one_name d e n f g =
      let a = get_position (λ y. y.name == d) c.constructors n f in
      let b = get_position (λ y. y.name == e) c.constructors n g in
      let same : a.0 ≡ b.0 = some_is (sym a.1 ∙ b.1) in
      sym (eq_from a.0.name d a.2) ∙ ap (λ (x : Data). x.name) same ∙ eq_from b.0.name e b.2

  pub record FormMade (p : Pat) : Type 0 where
    pub form : Form
    pub is : IsForm c p form
    pub ok : decides.FormOk many form

  pub record FormsMade (ps : Pats) : Type 0 where
    pub forms : Forms
    pub are : AreForms c ps forms
    pub ok : decides.FormsOk many forms
    pub count_is : jobs.count forms ≡ count ps

  mutual
    form_made : (p : Pat) →
        ((b : _) → In b (constructors_in p) → rules.fields_in c.constructors b.0.name.0 ≡ Some b.1)
        → FormMade p
    form_made (Name b) h = record { form = Any; is = OfName; ok = tt }
    form_made (Int k at) h = record { form = Is k; is = OfInt; ok = tt }
    form_made (Con b ps) h =
        let fs = forms_made ps (λ d i. h d (there i)) in
        let n = known b.name.0 (count ps) (h (b, count ps) here) in
        record {
          form = Has n.0 fs.forms;
          is = OfCon n.1 fs.are;
          ok
              = (fs.count_is ∙ sym n.2, fs.ok);
        }

    pub forms_made : (ps : Pats) →
        ((b : _) → In b (constructors_of ps) → rules.fields_in c.constructors b.0.name.0 ≡ Some b.1)
        → FormsMade ps
    forms_made NoPats h = record { forms = NoForms; are = NoneOf; ok = tt; count_is = refl }
    forms_made (AndPat p ps) h =
        let f = form_made p (λ d i. h d (in_left (constructors_in p) (constructors_of ps) i)) in
        let fs = forms_made ps (λ d i. h d (in_right (constructors_in p) (constructors_of ps) i)) in
        record {
          forms = AndForm f.form fs.forms;
          are = OneOf f.is fs.are;
          ok
              = (f.ok, fs.ok);
          count_is = ap suc fs.count_is;
        }

  -- they are the constructors of the text
  pub headed_constructors : AllOf (λ (d : Data). d.name < length c.names) c.constructors
      → Pairwise (IsConstructor (program_of_heads c)) c.constructors cons
  headed_constructors below = each c.constructors cons below matched
    where
      each : (ds : List Data) (cs : List constructors.Con)
          → AllOf (λ (d : Data). d.name < length c.names) ds
          → Pairwise (IsConstructor (translated c)) ds cs
          → Pairwise (IsConstructor (program_of_heads c)) ds cs
      each [] [] b h = tt
      each [] (x ∷ cs) b h = absurd h
      each (d ∷ ds) [] b h = absurd h
      each (d ∷ ds) (x ∷ cs) b h = (
        record { name = sym (name_kept c d.name b.0) ∙ h.0.name; fields = h.0.fields },
        each ds cs b.1 h.1,
      )

-- ---- the main function

module _ (c : Source) where
  abbrev there_main : Function → Bool
  there_main f = is_named (translated c) (codes "main") f.name

  abbrev here_main : Function → Bool
  here_main f = is_named (program_of_heads c) (codes "main") f.name

  -- no function is named so
  none_main : (fs : List Function) (i : ℕ) → AllOf (λ (f : Function). there_main f ≡ false) fs
      → position_from there_main i fs ≡ None
  none_main [] i h = refl
  none_main (f ∷ fs) i h = ap (λ b. cond b (Some i) (position_from there_main (i + 1) fs)) h.0 ∙
      none_main fs (i + 1) h.1

  one_main : (hs gs hs' gs' : List Function) → SameHead hs gs
      → AllOf (λ (h : Function). h.name < length c.names) hs
      → ((i : ℕ) → position_from there_main i gs' ≡ position_from here_main i hs') → (i : ℕ)
      → position_from there_main i (gs ++ gs') ≡ position_from here_main i (hs ++ hs')
  one_main hs gs hs' gs' NoHead b h i = h i
  one_main hs gs hs' gs' (OneHead {f = f} {g = g} e l) b h i
      = λ j. cond
      ((ap (is_named (translated c) (codes "main")) (sym e) ∙ same_named c (codes "main") f.name
      b.0) j) (Some i) (h (i + 1) j)

  heads_below : (f : List Equation) → AllOf (λ (e : Equation). e.name < length c.names) f
      → AllOf (λ (h : Function). h.name < length c.names) (head_of f)
  heads_below [] h = tt
  heads_below (e ∷ es) h = (h.0, tt)

  mains : (fs : List (List Equation)) (k : ℕ) (others : List Function)
      → AllOf (AllOf (λ (e : Equation). e.name < length c.names)) fs
      → AllOf (λ (f : Function). there_main f ≡ false) others
      → (i : ℕ) → position_from there_main i
      (firsts (name_supply_of c) (all_decisions k fs) ++ others) ≡ position_from here_main i
      (heads fs)
  mains [] k others b h i = none_main others i h
  mains (f ∷ fs) k others b h i =
      ap (position_from there_main i)
      (append_again (first_of (name_supply_of c) (decisions_from k (rows f)))
      (firsts (name_supply_of c) (all_decisions (k + length f) fs)) others)
      ∙ one_main (head_of f) (first_of (name_supply_of c) (decisions_from k (rows f))) (heads fs)
      (firsts (name_supply_of c) (all_decisions (k + length f) fs) ++ others) (same_head c k f)
      (heads_below f b.0) (mains fs (k + length f) others b.1 h) i

  pub same_main : (others : List Function) → AllOf
      (AllOf (λ (e : Equation). e.name < length c.names)) (functions c.equations)
      → AllOf (λ (f : Function). there_main f ≡ false) others
      → position there_main
      (firsts (name_supply_of c) (all_decisions 0 (functions c.equations)) ++ others) ≡ position
      here_main (program_of_heads c).functions
  same_main others b h =
      position_from-zero there_main
      (firsts (name_supply_of c) (all_decisions 0 (functions c.equations)) ++ others)
      ∙ mains (functions c.equations) 0 others b h 0 ∙ sym
      (position_from-zero here_main (program_of_heads c).functions)
