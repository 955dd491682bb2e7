-- The locals in scope of an expression and of its normal form, and the types of groups.
use Rattle.std.proofs.Common.{◌≡◌, ◌≢◌, ℕ, suc, ◌+◌, ◌<◌, ◌≤◌, Bool, true, false, cond, nat_eq, List, [], ◌∷◌, ◌++◌, map, length, Some, refl, sym, ap, ◌∙◌, subst, arith, eqb-true, length-append}
use Rattle.std.specs.Prelude.{codes}
use Rattle.std.specs.List.{range_with_len}
use Rattle.std.proofs.lemmas.Bool.{eq-eqb}
use Rattle.seq.specs.Lists.{AllOf}
use Rattle.core_reader.specs.declared.syntax.Binder.{Binder}
use Rattle.core_reader.specs.Tree.{Term, Terms, Name, Con, Int, Bracket, NoTerms, AndTerm, Bind}
use Rattle.arity_check.specs.declared.normal.Bound.{Bound}
use Rattle.arity_check.specs.declared.normal.Flat.{Flat}
use Rattle.arity_check.specs.Program as normal
use Rattle.arity_check.specs.Scope as scope
use Rattle.arity_check.specs.Scope.{Scope}
use Rattle.arity_check.specs.Numbered.{LocalsAreConsecutive}
use Rattle.arity_check.specs.Normal.{Pairwise, IsConstructor, bound, IsFlat, LoneHead, LoneBracket, IsGroup, NoMembers, AndMember}
use Rattle.arity_check.proofs.Numbers.{flat_numbered, numbered_both}
use Rattle.core_types.specs.Source.{Source, erased}
use Rattle.core_types.specs.Rules.{IsUnbroken}
use Rattle.core_types.specs.Typing.{Typed, Locals, binder_type_variable, binds, binds_all, with_group, of_app, of_terms, of_group, term_type, terms_types, within_term, within_terms, Substitution, under, Solves, arrows}
use Rattle.type_meaning.specs.Judgement.{Instance, instance, Context, with_type, with_types, group_types}
use Rattle.type_meaning.proofs.Readings.{under_both, both_carry, carry_arrows, Signed}
use Rattle.type_meaning.proofs.Flats as flats
use Rattle.type_meaning.proofs.Flats.{all_left, all_right, solves_left, solves_right, NewsIn, news_left, news_right, AllCounted, Counted, flat_has, has_append}

with_here : (Γ : Context) (x : ℕ) (t : Typed) → with_type Γ x t x ≡ Some t
with_here Γ x t = ap (λ b. cond b (Some t) (Γ x)) (eq-eqb x x refl)

with_other : (Γ : Context) (x y : ℕ) (t : Typed) → y ≢ x → with_type Γ x t y ≡ Γ y
with_other Γ x y t ne = by_test (nat_eq y x) refl
  where
    by_test : (b : Bool) → nat_eq y x ≡ b → cond b (Some t) (Γ y) ≡ Γ y
    by_test true e = absurd (ne (eqb-true y x e))
    by_test false e = refl

-- a group says nothing of the locals before it
outside : (group : List Bound) (ts : List Typed) (Γ : Context) (n y : ℕ)
    → LocalsAreConsecutive n group → y < n → group_types Γ group ts y ≡ Γ y
outside [] ts Γ n y g lt = refl
outside (b ∷ group) [] Γ n y g lt = refl
outside (b ∷ group) (t ∷ ts) Γ n y g lt =
    let l = g.0 in
    outside group ts (with_type Γ b.local t) (n + 1) y g.1 (omega (arith, lt)) ∙ with_other Γ
    b.local y t (omega (arith, l, lt))

pub group_in : (group : List Bound) (ts : List Typed) (Γ : Context) (n : ℕ)
    → LocalsAreConsecutive n group → length group ≡ length ts
    → NewsIn (group_types Γ group ts) group ts
group_in [] [] Γ n g e = tt
group_in [] (t ∷ ts) Γ n g e = absurd (omega (arith, e))
group_in (b ∷ group) [] Γ n g e = absurd (omega (arith, e))
group_in (b ∷ group) (t ∷ ts) Γ n g e =
    let l = g.0 in (
      outside group ts (with_type Γ b.local t) (n + 1) b.local g.1 (omega (arith, l)) ∙ with_here Γ
          b.local t,
      group_in group ts (with_type Γ b.local t) (n + 1) g.1 (omega (arith, e)),
    )

module _ (s : Source) (p : normal.Program) (unbroken : IsUnbroken s)
    (cons : Pairwise (IsConstructor (erased s)) (erased s).constructors p.cons) (σ : Substitution)
    (signs : Signed s σ) (ρ : Instance) where
  abbrev F : Typed → Typed
  F t = under_both σ ρ t

  abbrev pub Fits : Scope → Locals → Context → Type 0
  Fits = flats.Fits s p unbroken cons σ signs ρ

  abbrev pub SameNames : Scope → Locals → Type 0
  SameNames = flats.SameNames s p unbroken cons σ signs ρ

  abbrev pub FlatHas : Scope → Locals → List Bound → Flat → Typed → Type 0
  FlatHas = flats.FlatHas s p unbroken cons σ signs ρ

  abbrev pub Has : Context → List Bound → List Typed → Type 0
  Has = flats.Has s p unbroken cons σ signs ρ

  abbrev Below : ℕ → Scope → Type 0
  Below n sc = AllOf (λ (b : ℕ × ℕ). b.1 < n) sc

  -- the locals in scope, whose numbers are below n, have the types that are listed
  pub record Within (sc : Scope) (ls : Locals) (Γ : Context) (n : ℕ) : Type 0 where
    pub names : SameNames sc ls
    pub fits : Fits sc ls Γ
    pub below : Below n sc

  below_more : (n m : ℕ) (sc : Scope) → n ≤ m → Below n sc → Below m sc
  below_more n m [] le h = tt
  below_more n m (b ∷ sc) le h = let l = h.0 in (omega (arith, l, le), below_more n m sc le h.1)

  fits_also : (sc : Scope) (ls : Locals) (Γ Δ : Context) (n : ℕ) → ((y : ℕ) → y < n → Δ y ≡ Γ y)
      → Below n sc → Fits sc ls Γ → Fits sc ls Δ
  fits_also [] [] Γ Δ n same b h = tt
  fits_also [] (l ∷ ls) Γ Δ n same b h = absurd h
  fits_also (x ∷ sc) [] Γ Δ n same b h = absurd h
  fits_also (x ∷ sc) (l ∷ ls) Γ Δ n same b h =
      (same x.1 b.0 ∙ h.0, fits_also sc ls Γ Δ n same b.1 h.1)

  pub within_more : (sc : Scope) (ls : Locals) (Γ : Context) (n m : ℕ) → n ≤ m → Within sc ls Γ n
      → Within sc ls Γ m
  within_more sc ls Γ n m le w = record
      { names = w.names; fits = w.fits; below = below_more n m sc le w.below }

  pub within_group : (sc : Scope) (ls : Locals) (Γ : Context) (n : ℕ) (group : List Bound)
      (ts : List Typed) → LocalsAreConsecutive n group → Within sc ls Γ n
      → Within sc ls (group_types Γ group ts) n
  within_group sc ls Γ n group ts g w = record {
    names = w.names;
    fits = fits_also sc ls Γ (group_types Γ group ts) n
        (λ y lt. outside group ts Γ n y g lt) w.below w.fits;
    below = w.below;
  }

  -- a local that has its type already
  pub within_also : (sc : Scope) (ls : Locals) (Γ : Context) (n x : ℕ) (b : Binder) (t : Typed)
      → x < n → Γ x ≡ Some (F t) → Within sc ls Γ n
      → Within (scope.binds (erased s) b.name.0 x sc) (binds s b t ls) Γ n
  within_also sc ls Γ n x b t lt e w = by_test (scope.is_named (erased s) (codes "_") b.name.0)
    where
      by_test : (c : Bool) → Within (cond c sc ((b.name.0, x) ∷ sc))
          (cond c ls ((b.name.0, t) ∷ ls)) Γ n
      by_test true = w
      by_test false = record { names = (refl, w.names); fits = (e, w.fits); below = (lt, w.below) }

  pub within_bind : (sc : Scope) (ls : Locals) (Γ : Context) (n : ℕ) (b : Binder) (t : Typed)
      → Within sc ls Γ n → Within (scope.binds (erased s) b.name.0 n sc) (binds s b t ls)
      (with_type Γ n (F t)) (n + 1)
  within_bind sc ls Γ n b t w =
      within_also sc ls (with_type Γ n (F t)) (n + 1) n b t (omega arith) (with_here Γ n (F t))
      (record {
        names = w.names;
        fits = fits_also sc ls Γ (with_type Γ n (F t)) n
            (λ y lt. with_other Γ n y (F t) (omega (arith, lt))) w.below w.fits;
        below = below_more n (n + 1) sc (omega arith) w.below;
      })

  -- binders with these types, numbered from n on
  pub within_binders : (bs : List Binder) (ts : List Typed) (sc : Scope) (ls : Locals) (Γ : Context)
      (n : ℕ) → length bs ≡ length ts → Within sc ls Γ n
      → Within (scope.binds_all (erased s) (map (λ (b : Binder). b.name.0) bs)
      (range_with_len n (length bs)) sc) (binds_all s bs ts ls)
      (with_types Γ (range_with_len n (length bs)) (map F ts)) (n + length bs)
  within_binders [] ts sc ls Γ n e w = within_more sc ls Γ n (n + 0) (omega arith) w
  within_binders (b ∷ bs) [] sc ls Γ n e w = absurd (omega (arith, e))
  within_binders (b ∷ bs) (t ∷ ts) sc ls Γ n e w =
      let q : (n + 1) + length bs ≡ n + suc (length bs) = omega arith in
      subst (λ m. Within
      (scope.binds_all (erased s) (map (λ (b : Binder). b.name.0) (b ∷ bs))
      (range_with_len n (length (b ∷ bs))) sc) (binds_all s (b ∷ bs) (t ∷ ts) ls)
      (with_types Γ (range_with_len n (length (b ∷ bs))) (map F (t ∷ ts))) m) q
      (within_binders bs ts (scope.binds (erased s) b.name.0 n sc) (binds s b t ls)
      (with_type Γ n (F t)) (n + 1) (omega (arith, e)) (within_bind sc ls Γ n b t w))

  -- ---- applications

  unbracket : {sc : Scope} {n at : ℕ} {head : Term} {args : Terms} {news : List Bound} {form : Flat}
      → IsFlat (erased s) sc n (Bracket head args at) NoTerms news form
      → IsFlat (erased s) sc n head args news form
  unbracket (LoneHead d) = d
  unbracket (LoneBracket d) = d

  module _ (sc : Scope) (ls : Locals) (same : SameNames sc ls) (u : Typed) where
    plain_has : {n : ℕ} (head : Term) (args : Terms) {news : List Bound} {form : Flat}
        → IsFlat (erased s) sc n head args news form
        → (under σ (term_type s ls head) ≡ under σ (arrows (terms_types s ls args) u))
        × Solves σ (within_term s ls head ++ within_terms s ls args) → AllCounted p news
        → Counted p form → FlatHas sc ls news form (F u)
    plain_has head args d h all c =
        let types : F (term_type s ls head) ≡ arrows (map F (terms_types s ls args)) (F u)
        = ap (instance ρ) h.0 ∙ carry_arrows F _ (both_carry σ ρ) (terms_types s ls args) u in
        flat_has s p unbroken cons σ signs ρ sc ls d (F u) same types
        (solves_left σ (within_term s ls head) (within_terms s ls args) h.1)
        (solves_right σ (within_term s ls head) (within_terms s ls args) h.1) all c

    pub app_has : {n : ℕ} (head : Term) (args : Terms) {news : List Bound} {form : Flat}
        → IsFlat (erased s) sc n head args news form → Solves σ (of_terms s ls u head args)
        → AllCounted p news → Counted p form → FlatHas sc ls news form (F u)
    app_has (Name x at) NoTerms d h all c = plain_has (Name x at) NoTerms d h all c
    app_has (Name x at) (AndTerm a as') d h all c = plain_has (Name x at) (AndTerm a as') d h all c
    app_has (Con x at) NoTerms d h all c = plain_has (Con x at) NoTerms d h all c
    app_has (Con x at) (AndTerm a as') d h all c = plain_has (Con x at) (AndTerm a as') d h all c
    app_has (Int k at) NoTerms d h all c = plain_has (Int k at) NoTerms d h all c
    app_has (Int k at) (AndTerm a as') d h all c = plain_has (Int k at) (AndTerm a as') d h all c
    app_has (Bracket head args at) NoTerms d h all c = app_has head args (unbracket d) h all c
    app_has (Bracket head args at) (AndTerm a as') d h all c
        = plain_has (Bracket head args at) (AndTerm a as') d h all c

  -- ---- groups

  -- the binders' locals have the types of their binders
  abbrev pub MembersIn : Context → List Bind → List ℕ → Type 0
  MembersIn Γ [] [] = Unit {0}
  MembersIn Γ [] (x ∷ xs) = ⊥
  MembersIn Γ (b ∷ bs) [] = ⊥
  MembersIn Γ (b ∷ bs) (x ∷ xs) = (Γ x ≡ Some (F (binder_type_variable b.binder)))
      × MembersIn Γ bs xs

  pub record IsGroupTyped (inner : Scope) (ls : Locals) (n : ℕ) (group : List Bind)
      (bounds : List Bound) (xs : List ℕ) : Type 0 where
    pub types : List Typed
    pub long : length bounds ≡ length types
    pub numbered : LocalsAreConsecutive n bounds
    pub below : AllOf (λ x. x < n + length bounds) xs
    pub members : (Γ : Context) → NewsIn Γ bounds types → MembersIn Γ group xs
    pub has : (Γ : Context) → Fits inner ls Γ → NewsIn Γ bounds types → Has Γ bounds types

  numbers_more : (n m : ℕ) (xs : List ℕ) → n ≤ m → AllOf (λ x. x < n) xs → AllOf (λ x. x < m) xs
  numbers_more n m [] le h = tt
  numbers_more n m (x ∷ xs) le h = let l = h.0 in (omega (arith, l, le), numbers_more n m xs le h.1)

  pub group_typed : {inner : Scope} (ls : Locals) {n : ℕ} {group : List Bind} {bounds : List Bound}
      {xs : List ℕ} → IsGroup (erased s) inner n group bounds xs → SameNames inner ls
      → Solves σ (of_group s ls group) → AllCounted p bounds
      → IsGroupTyped inner ls n group bounds xs
  group_typed ls NoMembers same h all = record
      { types = []; long = refl; numbered = tt; below = tt; members = λ Γ g. tt; has = λ Γ f g. tt }
  group_typed {inner = inner} ls {n = n}
      (AndMember {b = b} {bs = bs} {xs = xs} news bounds form t d place rest q) same h all =
      let tail : List Bound = bound t form ∷ bounds in
      let all' : AllCounted p (news ++ tail) = subst (AllCounted p) q all in
      let counted = all_right (λ b. Counted p b.flat) news tail all' in
      let u : Typed = F (binder_type_variable b.binder) in
      let one = app_has inner ls same (binder_type_variable b.binder) b.app.head b.app.args d
      (solves_left σ (of_app s ls (binder_type_variable b.binder) b.app) (of_group s ls bs) h)
      (all_left (λ b. Counted p b.flat) news tail all') counted.0 in
      let more = group_typed ls rest same
      (solves_right σ (of_app s ls (binder_type_variable b.binder) b.app) (of_group s ls bs) h)
      counted.1 in
      let ts : List Typed = one.types ++ u ∷ more.types in
      let l1 = length-append news tail in
      let l2 = length-append one.types (u ∷ more.types) in
      let l3 = one.long in
      let l4 = more.long in
      let long : length (news ++ tail) ≡ length ts = omega (arith, l1, l2, l3, l4) in
      subst (λ group. IsGroupTyped inner ls n (b ∷ bs) group (t ∷ xs)) (sym q) (record {
        types = ts;
        long = long;
        numbered = numbered_both n t news tail place (flat_numbered (erased s) inner d)
            (refl, more.numbered);
        below = (
          omega (arith, l1, place),
          numbers_more (t + 1 + length bounds)
              (n + length (news ++ tail)) xs (omega (arith, l1, place)) more.below,
        );
        members = λ Γ g. let right = news_right Γ news tail one.types (u ∷ more.types) one.long g
            in (right.0, more.members Γ right.1);
        has = λ Γ f g.
            let v = one.has Γ f (news_left Γ news tail one.types (u ∷ more.types) one.long g) in
            let right = news_right Γ news tail one.types (u ∷ more.types) one.long g in
            has_append s p unbroken cons σ signs ρ Γ news tail one.types (u ∷ more.types) v.0
            (v.1, more.has Γ f right.1);
      })

  -- the names of a group in scope
  pub same_members : (group : List Bind) (xs : List ℕ) (sc : Scope) (ls : Locals)
      → length group ≡ length xs → SameNames sc ls → SameNames
      (scope.binds_all (erased s) (map (λ b. b.binder.name.0) group) xs sc) (with_group s group ls)
  same_members [] [] sc ls e h = h
  same_members [] (x ∷ xs) sc ls e h = absurd (omega (arith, e))
  same_members (b ∷ bs) [] sc ls e h = absurd (omega (arith, e))
  same_members (b ∷ bs) (x ∷ xs) sc ls e h = same_members bs xs
      (scope.binds (erased s) b.binder.name.0 x sc)
      (binds s b.binder (binder_type_variable b.binder) ls) (omega (arith, e))
      (by_test (scope.is_named (erased s) (codes "_") b.binder.name.0))
    where
      by_test : (c : Bool) → SameNames (cond c sc ((b.binder.name.0, x) ∷ sc))
          (cond c ls ((b.binder.name.0, binder_type_variable b.binder) ∷ ls))
      by_test true = h
      by_test false = (refl, h)

  pub within_members : (group : List Bind) (xs : List ℕ) (sc : Scope) (ls : Locals) (Γ : Context)
      (n : ℕ) → MembersIn Γ group xs → AllOf (λ x. x < n) xs → Within sc ls Γ n
      → Within (scope.binds_all (erased s) (map (λ b. b.binder.name.0) group) xs sc)
      (with_group s group ls) Γ n
  within_members [] [] sc ls Γ n m lt w = w
  within_members [] (x ∷ xs) sc ls Γ n m lt w = absurd m
  within_members (b ∷ bs) [] sc ls Γ n m lt w = absurd m
  within_members (b ∷ bs) (x ∷ xs) sc ls Γ n m lt w =
      within_members bs xs (scope.binds (erased s) b.binder.name.0 x sc)
      (binds s b.binder (binder_type_variable b.binder) ls) Γ n m.1 lt.1
      (within_also sc ls Γ n x b.binder (binder_type_variable b.binder) lt.0 m.0 w)

  pub group_long : {inner : Scope} {n : ℕ} {group : List Bind} {bounds : List Bound} {xs : List ℕ}
      → IsGroup (erased s) inner n group bounds xs → length group ≡ length xs
  group_long NoMembers = refl
  group_long (AndMember news bounds form t d place rest q) = ap suc (group_long rest)
