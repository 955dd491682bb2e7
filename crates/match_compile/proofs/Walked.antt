-- The pieces of a tree as an expression: those of the bodies of equations, the cases on places, and
-- what is done with
-- values that no row accepts.
use Rattle.std.proofs.Common.{◌≡◌, ℕ, zero, suc, ◌<◌, ◌≤◌, Bool, true, false, List, [], ◌∷◌, ◌++◌, length, refl, sym, ap, subst, ◌∙◌, arith, Some, ◌⊎◌, inl, inr}
use Rattle.std.specs.Prelude.{◌&&◌, codes}
use Rattle.seq.specs.Lists.{In}
use Rattle.seq.proofs.Lists.{length_map, some_is}
use Rattle.seq.proofs.Truth.{and_left, and_right, or_left, or_right}
use Rattle.core_reader.specs.declared.syntax.Binder.{Binder}
use Rattle.core_reader.specs.declared.syntax.Pattern.{Pattern}
use Rattle.core_reader.specs.declared.syntax.Pattern.TheVariants as pattern
use Rattle.core_reader.specs.Tree.{Term, Terms, NoTerms, AndTerm, Application, Expr, App, Alts, NoAlts, AndAlt}
use Rattle.core_reader.specs.Tree as core
use Rattle.arity_check.specs.Scope.{Scope, is_named}
use Rattle.arity_check.specs.Patterns.{alt_at, IsDefault}
use Rattle.arity_check.specs.Standing as standing
use Rattle.arity_check.specs.Standing.{IsTermAmong, First, Later, HeadIsApplied, AsName, AsCon, InArgument, Contains, Whole, InItsHead, InItsArgs}
use Rattle.arity_check.specs.Pieces.{FunctionPart, AnApp, SomeAlts, bound_by, within, Has, TheApp, TheAlts, InTested, InAlts, HasAlts, InThis, InLater}
use Rattle.match_compile.specs.Source.{Equation, Source}
use Rattle.match_compile.specs.Parts as parts
use Rattle.match_compile.specs.Rules.{fields_in, Broken}
use Rattle.match_compile.specs.Heads.{Head, Integer, Constructor}
use Rattle.match_compile.specs.Sound.{equations_as_functions, IsSound}
use Rattle.match_compile.specs.Trees.{Tree, Body, Case, Branches, NoBranch, AndBranch, Default, NoDefault, ATree, can_fail, branches_fail, default_fails}
use Rattle.match_compile.specs.Renamed.{renamed_name, renamed_expr}
use Rattle.match_compile.specs.Translated.{name_supply_of, all_bind, branches_bind, default_binds, most_params, with_nameless, nameless, place_name, taken, binder, with_fields, binders, pattern_of, expr_of, alts_of, default_of, translated}
use Rattle.match_compile.proofs.NamedAs.{new_named}
use Rattle.match_compile.proofs.Bodies.{is_local, local_within, Renamed, has_renamed, Fair, new_fair}
use Rattle.match_compile.proofs.Sown.{Beside, AllBeside, EachBeside, Fine, FineBranches, FineDefault}
use Rattle.match_compile.proofs.Placed.{WasRead, IsGood, good_binders, good_nameless, good_none, Placed, Known, placed_less, placed_within, field_place, known_branch, place_new, fits_row}

-- ---- alternatives

-- nothing, or one default
abbrev pub IsLast : Alts → Type 0
IsLast NoAlts = Unit {0}
IsLast (AndAlt p e NoAlts) = IsDefault p
IsLast (AndAlt p e (AndAlt q f rest)) = ⊥

last_default : (others : Alts) → IsLast others → (i : ℕ) (p : Pattern) → alt_at others i ≡ Some p
    → IsDefault p × (i ≡ 0)
last_default NoAlts l i p e = absurd cc
last_default (AndAlt q e NoAlts) l zero p h = (subst IsDefault (some_is h) l, refl)
last_default (AndAlt q e NoAlts) l (suc i) p h = absurd cc
last_default (AndAlt q e (AndAlt r f rest)) l i p h = absurd l

module _ (c : Source) (at params : ℕ) where
  -- the pattern of a branch
  pub record OfHead (h : Head) (p : Pattern) : Type 0 where
    pub fields : List Binder
    pub is : p ≡ pattern_of (name_supply_of c) at params h fields

  -- two patterns of one case, the one before the other
  pub record Apart (p q : Pattern) : Type 0 where
    pub head : Head
    pub first : OfHead head p
    pub second : IsDefault q ⊎ ((g : Head) × OfHead g q × Beside head g)

  no_default : (h : Head) (fields : List Binder) → IsDefault
      (pattern_of (name_supply_of c) at params h fields) → ⊥
  no_default (Integer k) fields d = d
  no_default (Constructor f) fields d = d

  pub not_default : {p q : Pattern} → Apart p q → IsDefault p → ⊥
  not_default a d = no_default a.head a.first.fields (subst IsDefault a.first.is d)

  module _ (rest : Alts) where
    -- alternatives behind one of a head
    later_head : (h : Head) (places : Scope) (bs : Branches) (others : Alts) → IsLast others
        → AllBeside h bs → (j : ℕ) (q : Pattern) → alt_at
        (alts_of (name_supply_of c) at params rest places bs others) j ≡ Some q → IsDefault q
        ⊎ ((g : Head) × OfHead g q × Beside h g)
    later_head h places NoBranch others l b j q e = inl (last_default others l j q e).0
    later_head h places (AndBranch g ps t bs) others l b zero q e
        = inr (
          g,
          record {
            fields = binders (name_supply_of c) at params
                (with_fields (name_supply_of c) at params t ps places) ps;
            is = sym (some_is e);
          },
          b.0,
        )
    later_head h places (AndBranch g ps t bs) others l b (suc j) q e
        = later_head h places bs others l b.1 j q e

    apart : (places : Scope) (bs : Branches) (others : Alts) → IsLast others → EachBeside bs
        → (i j : ℕ) (p q : Pattern) → i < j → alt_at
        (alts_of (name_supply_of c) at params rest places bs others) i ≡ Some p
        → alt_at (alts_of (name_supply_of c) at params rest places bs others) j ≡ Some q → Apart p q
    apart places NoBranch others l b i j p q lt e f = let z : j ≡ 0
        = (last_default others l j q f).1 in absurd (omega (arith, lt, z))
    apart places (AndBranch h ps t bs) others l b i zero p q lt e f = absurd (omega (arith, lt))
    apart places (AndBranch h ps t bs) others l b zero (suc j) p q lt e f = record {
      head = h;
      first = record {
        fields = binders (name_supply_of c) at params
            (with_fields (name_supply_of c) at params t ps places) ps;
        is = sym (some_is e);
      };
      second = later_head h places bs others l b.0 j q f;
    }
    apart places (AndBranch h ps t bs) others l b (suc i) (suc j) p q lt e f
        = apart places bs others l b.1 i j p q (omega (arith, lt)) e f

    -- constructors have their fields
    fields_are : (n : ℕ) (ks : List ℕ) (places : Scope) (bs : Branches) (others : Alts)
        → IsLast others → FineBranches c n ks bs → (i : ℕ) (d : Binder) (fields : List Binder)
        → alt_at (alts_of (name_supply_of c) at params rest places bs others) i ≡ Some
        (pattern.Con d fields)
        → fields_in c.constructors d.name.0 ≡ Some (length fields)
    fields_are n ks places NoBranch others l f i d fields e
        = absurd (last_default others l i (pattern.Con d fields) e).0
    fields_are n ks places (AndBranch (Integer k) ps t bs) others l f zero d fields e = absurd cc
    fields_are n ks places (AndBranch (Constructor g) ps t bs) others l f zero d fields e =
        let s : Scope = with_fields (name_supply_of c) at params t ps places in
        go (binders (name_supply_of c) at params s ps)
        (length_map (λ p. binder (name_supply_of c) at params (renamed_name s p)) ps)
        (some_is e)
      where
        go : (xs : List Binder) → length xs ≡ length ps
            → pattern.Con (binder (name_supply_of c) at params g) xs ≡ pattern.Con d fields
            → fields_in c.constructors d.name.0 ≡ Some (length fields)
        go xs len q =
            let a : binder (name_supply_of c) at params g ≡ d = cc in
            let b : xs ≡ fields = cc in
            ap (λ (w : Binder). fields_in c.constructors w.name.0) (sym a) ∙ f.0 ∙ ap Some
            (sym len ∙ ap length b)
    fields_are n ks places (AndBranch h ps t bs) others l f (suc i) d fields e
        = fields_are n ks places bs others l f.5 i d fields e

module _ (c : Source) (unbroken : (k at : ℕ) → Broken c k at → ⊥) (sound : IsSound c)
    (read : WasRead c) where
  -- ---- what a case and an application must have

  pub record GoodAlts (at params : ℕ) (within_most : params ≤ most_params c.equations) (alts : Alts)
      : Type 0 where
    pub apart : (i j : ℕ) (p q : Pattern) → i < j → alt_at alts i ≡ Some p → alt_at alts j ≡ Some q
        → Apart c at params p q
    pub fields : (i : ℕ) (d : Binder) (fields : List Binder)
        → alt_at alts i ≡ Some (pattern.Con d fields)
        → fields_in c.constructors d.name.0 ≡ Some (length fields)
    pub lists : (i : ℕ) (p : Pattern) → alt_at alts i ≡ Some p
        → IsGood c unbroken sound read params within_most (bound_by p)

  pub record GoodApp (now : Scope) (app : Application) : Type 0 where
    pub names : (y at k : ℕ) → HeadIsApplied app.head app.args (core.Name y at) k → Fair c now y k
    pub constructors : (d at k : ℕ) → HeadIsApplied app.head app.args (core.Con d at) k → ⊥
    pub short : (inner : Application) → Contains app inner → standing.count inner.args ≤ 12

  -- where a piece of a function comes from
  pub data Origin (at params : ℕ) (within_most : params ≤ most_params c.equations) (now : Scope)
      : FunctionPart → Type 0 where
    OfBody : {q : FunctionPart} (e : Equation) → In e c.equations
        → Renamed c (within (equations_as_functions c) (parts.names_of e.pats) []) e.body now q
        → Origin at params within_most now q
    OfAlts : {alts : Alts} → GoodAlts at params within_most alts
        → Origin at params within_most now (SomeAlts alts)
    OfApp : {app : Application} → GoodApp now app → Origin at params within_most now (AnApp app)

  -- a name by itself
  name_good : (now : Scope) (y at : ℕ) → ((k : ℕ) → Fair c now y k)
      → GoodApp now (record { head = core.Name y at; args = NoTerms })
  name_good now y at f = record {
    names = λ z b k s. one z b k s;
    constructors = λ d b k s. none d b k s;
    short = λ inner h. few inner h;
  }
    where
      no_argument : {t : Term} → IsTermAmong t NoTerms → ⊥
      no_argument a = elim a [ ]

      one : (z b k : ℕ) → HeadIsApplied (core.Name y at) NoTerms (core.Name z b) k → Fair c now z k
      one z b k AsName = f k
      one z b k (InArgument a s) = absurd (no_argument a)

      none : (d b k : ℕ) → HeadIsApplied (core.Name y at) NoTerms (core.Con d b) k → ⊥
      none d b k (InArgument a s) = no_argument a

      few : (inner : Application) → Contains (record { head = core.Name y at; args = NoTerms })
          inner → standing.count inner.args ≤ 12
      few inner Whole = omega arith
      few inner (InItsHead q h) = absurd cc
      few inner (InItsArgs a h) = absurd (no_argument a)

  module _ (at params : ℕ) (within_most : params ≤ most_params c.equations) where
    abbrev Good : List Binder → Type 0
    Good xs = IsGood c unbroken sound read params within_most xs

    abbrev From : Scope → FunctionPart → Type 0
    From now q = Origin at params within_most now q

    abbrev KnownAt : List ℕ → (ℕ → ℕ → Bool) → Scope → Scope → Type 0
    KnownAt ks binds places inner = Known c unbroken read params within_most ks binds places inner

    -- names in one scope are in the other
    abbrev pub Widens : Scope → Scope → Type 0
    Widens outer inner = (y : ℕ) → is_local outer y ≡ true → is_local inner y ≡ true

    module _ (rest : Alts) (is_last : IsLast rest)
        (good_rest : (i : ℕ) (p : Pattern) → alt_at rest i ≡ Some p → Good (bound_by p))
        (whole : Tree) (outer : Scope)
        (rest_from : (inner : Scope) → Widens outer inner → can_fail whole ≡ true
        → (now : Scope) (q : FunctionPart) → HasAlts (translated c) inner rest now q
        → From now q) where
      default_last : (places : Scope) (o : Default)
          → IsLast (default_of (name_supply_of c) at params rest places o)
      default_last places NoDefault = is_last
      default_last places (ATree t) = tt

      good_default : (places : Scope) (o : Default) (i : ℕ) (p : Pattern)
          → alt_at (default_of (name_supply_of c) at params rest places o) i ≡ Some p
          → Good (bound_by p)
      good_default places NoDefault i p e = good_rest i p e
      good_default places (ATree t) zero p e = subst (λ q. Good (bound_by q)) (some_is e)
          (good_nameless c unbroken sound read params within_most at)
      good_default places (ATree t) (suc i) p e = absurd cc

      good_branch : (n : ℕ) (ks : List ℕ) (places : Scope) (h : Head) (ps : List ℕ) (t : Tree)
          (bs : Branches) → FineBranches c n ks (AndBranch h ps t bs)
          → Good (bound_by
          (pattern_of (name_supply_of c) at params h
          (binders (name_supply_of c) at params
          (with_fields (name_supply_of c) at params t ps places) ps)))
      good_branch n ks places (Integer k) ps t bs f
          = good_none c unbroken sound read params within_most
      good_branch n ks places (Constructor d) ps t bs f =
          good_binders c unbroken sound read params within_most at n (ps ++ ks) t
          (with_fields (name_supply_of c) at params t ps places) ps f.4 f.1
          (field_place c unbroken read params within_most at t ps places f.1)

      good_lists : (n : ℕ) (ks : List ℕ) (places : Scope) (bs : Branches) (others : Alts)
          → FineBranches c n ks bs →
          ((i : ℕ) (p : Pattern) → alt_at others i ≡ Some p → Good (bound_by p))
          → (i : ℕ) (p : Pattern) → alt_at
          (alts_of (name_supply_of c) at params rest places bs others) i ≡ Some p
          → Good (bound_by p)
      good_lists n ks places NoBranch others f g i p e = g i p e
      good_lists n ks places (AndBranch h ps t bs) others f g zero p e
          = subst (λ q. Good (bound_by q)) (some_is e) (good_branch n ks places h ps t bs f)
      good_lists n ks places (AndBranch h ps t bs) others f g (suc i) p e
          = good_lists n ks places bs others f.5 g i p e

      good_case : (n : ℕ) (ks : List ℕ) (places : Scope) (p : ℕ) (bs : Branches) (o : Default)
          → Fine c n ks (Case p bs o) → GoodAlts at params within_most
          (alts_of (name_supply_of c) at params rest places bs
          (default_of (name_supply_of c) at params rest places o))
      good_case n ks places p bs o f =
          let others : Alts = default_of (name_supply_of c) at params rest places o in
          record {
            apart = apart c at params rest places bs others (default_last places o) f.2;
            fields = fields_are c at params rest n ks places bs others (default_last places o) f.3;
            lists = good_lists n ks places bs others f.3 (good_default places o);
          }

      -- a branch's names are in scope
      known_in : (n : ℕ) (ks : List ℕ) (h : Head) (ps : List ℕ) (t : Tree) (bs : Branches)
          (places inner : Scope) → FineBranches c n ks (AndBranch h ps t bs)
          → KnownAt ks (λ p x. all_bind p x t) places inner
          → KnownAt (ps ++ ks) (λ p x. all_bind p x t)
          (with_fields (name_supply_of c) at params t ps places)
          (within (translated c)
          (bound_by
          (pattern_of (name_supply_of c) at params h
          (binders (name_supply_of c) at params
          (with_fields (name_supply_of c) at params t ps places) ps))) inner)
      known_in n ks (Constructor d) ps t bs places inner f k
          = known_branch c unbroken read params within_most at t ps ks places inner f.1 f.2 k
      known_in n ks (Integer i) [] t bs places inner f k = k
      known_in n ks (Integer i) (p ∷ ps) t bs places inner f k = absurd (omega (arith, f.0))

      place_good : (n : ℕ) (ks : List ℕ) (places inner : Scope) (p : ℕ) (bs : Branches)
          (o : Default) → Fine c n ks (Case p bs o)
          → KnownAt ks (λ q x. all_bind q x (Case p bs o)) places inner
          → GoodApp inner (record { head = core.Name (renamed_name places p) at; args = NoTerms })
      place_good n ks places inner p bs o f k = go (k p f.0)
        where
          y : ℕ
          y = renamed_name places p

          no_both : (b d : Bool) → b ≡ false → (b && d) ≡ true → ⊥
          no_both true d e h = absurd cc
          no_both false d e h = absurd cc

          go : Placed c unbroken read params within_most (λ q x. all_bind q x (Case p bs o)) inner p
              y → GoodApp inner (record { head = core.Name y at; args = NoTerms })
          go w = by w.place w.local
            where
              by : (y ≡ place_name (name_supply_of c) params p)
                  ⊎ (all_bind p y (Case p bs o) ≡ true)
                  → (is_named (translated c) (codes "_") y ≡ false → is_local inner y ≡ true)
                  → GoodApp inner (record { head = core.Name y at; args = NoTerms })
              by (inl e) g =
                  let le : length (with_nameless c.names) ≤ y
                  = subst (λ z. length (with_nameless c.names) ≤ z) (sym e)
                  (place_new c unbroken read params p) in
                  name_good inner y at (λ m. new_fair c inner y m le (g (new_named c y le)))
              by (inr e) g = absurd (no_both (branches_bind p y bs) (default_binds p y o) (f.1 y) e)

      mutual
        pub tree_from : (n : ℕ) (ks : List ℕ) (t : Tree) (places inner : Scope) → Fine c n ks t
            → KnownAt ks (λ p x. all_bind p x t) places inner → Widens outer inner
            → (can_fail t ≡ true → can_fail whole ≡ true)
            → {now : Scope} {q : FunctionPart} → Has (translated c) inner
            (expr_of (name_supply_of c) at params rest places t) now q → From now q
        tree_from n ks (Body r) places inner f k w fails {now = now} {q = q} h =
            let d = f.0 in
            OfBody d.equation d.is_in
            (has_renamed c (taken (name_supply_of c) places r.bound)
            (within (equations_as_functions c) (parts.names_of d.equation.pats) []) inner
            d.equation.body
            (fits_row c unbroken read params within_most ks r d places inner f.1 k)
            (subst (λ e. Has (translated c) inner
            (renamed_expr (taken (name_supply_of c) places r.bound) e) now q) d.body h))
        tree_from n ks (Case p bs o) places inner f k w fails TheAlts
            = OfAlts (good_case n ks places p bs o f)
        tree_from n ks (Case p bs o) places inner f k w fails (InTested TheApp)
            = OfApp (place_good n ks places inner p bs o f k)
        tree_from n ks (Case p bs o) places inner f k w fails (InAlts h) =
            alts_from n ks bs places inner (default_of (name_supply_of c) at params rest places o)
            f.3
            (λ q i. placed_less c unbroken read params within_most
            (λ q x. all_bind q x (Case p bs o)) (λ q x. branches_bind q x bs) inner q
            (renamed_name places q)
            (λ e. and_left (branches_bind q (renamed_name places q) bs)
            (default_binds q (renamed_name places q) o) e) (k q i))
            w (λ e. fails (or_right (default_fails o) (branches_fail bs) e))
            (λ g. default_from n ks o places inner f.4
            (λ q i. placed_less c unbroken read params within_most
            (λ q x. all_bind q x (Case p bs o)) (λ q x. default_binds q x o) inner q
            (renamed_name places q)
            (λ e. and_right (branches_bind q (renamed_name places q) bs)
            (default_binds q (renamed_name places q) o) e) (k q i))
            w (λ e. fails (or_left (default_fails o) (branches_fail bs) e)) g) h

        alts_from : (n : ℕ) (ks : List ℕ) (bs : Branches) (places inner : Scope) (others : Alts)
            → FineBranches c n ks bs → KnownAt ks (λ p x. branches_bind p x bs) places inner
            → Widens outer inner → (branches_fail bs ≡ true → can_fail whole ≡ true)
            → {now : Scope} {q : FunctionPart} →
            (HasAlts (translated c) inner others now q → From now q)
            → HasAlts (translated c) inner
            (alts_of (name_supply_of c) at params rest places bs others) now q → From now q
        alts_from n ks NoBranch places inner others f k w fails g h = g h
        alts_from n ks (AndBranch d ps t bs) places inner others f k w fails g (InThis h) =
            let s : Scope = with_fields (name_supply_of c) at params t ps places in
            let fields : List Binder = bound_by
            (pattern_of (name_supply_of c) at params d
            (binders (name_supply_of c) at params s ps)) in
            let old : KnownAt ks (λ p x. all_bind p x t) places inner
            = λ q i. placed_less c unbroken read params within_most
            (λ q x. branches_bind q x (AndBranch d ps t bs)) (λ q x. all_bind q x t) inner q
            (renamed_name places q)
            (λ e. and_left (all_bind q (renamed_name places q) t)
            (branches_bind q (renamed_name places q) bs) e) (k q i) in
            tree_from n (ps ++ ks) t s (within (translated c) fields inner) f.4
            (known_in n ks d ps t bs places inner f old)
            (λ y l. local_within (translated c) fields inner y (w y l))
            (λ e. fails (or_left (can_fail t) (branches_fail bs) e)) h
        alts_from n ks (AndBranch d ps t bs) places inner others f k w fails g (InLater h) =
            alts_from n ks bs places inner others f.5
            (λ q i. placed_less c unbroken read params within_most
            (λ q x. branches_bind q x (AndBranch d ps t bs)) (λ q x. branches_bind q x bs) inner
            q (renamed_name places q)
            (λ e. and_right (all_bind q (renamed_name places q) t)
            (branches_bind q (renamed_name places q) bs) e) (k q i))
            w (λ e. fails (or_right (can_fail t) (branches_fail bs) e)) g h

        default_from : (n : ℕ) (ks : List ℕ) (o : Default) (places inner : Scope)
            → FineDefault c n ks o → KnownAt ks (λ p x. default_binds p x o) places inner
            → Widens outer inner → (default_fails o ≡ true → can_fail whole ≡ true)
            → {now : Scope} {q : FunctionPart} → HasAlts (translated c) inner
            (default_of (name_supply_of c) at params rest places o) now q → From now q
        default_from n ks NoDefault places inner f k w fails {now = now} {q = q} h
            = rest_from inner w (fails refl) now q h
        default_from n ks (ATree t) places inner f k w fails (InThis h) =
            let bs : List Binder = binder (name_supply_of c) at params (nameless (name_supply_of c))
            ∷ [] in
            tree_from n ks t places (within (translated c) bs inner) f
            (λ q i. placed_within c unbroken read params within_most (λ q x. all_bind q x t) bs
            inner q (renamed_name places q) (k q i))
            (λ y l. local_within (translated c) bs inner y (w y l)) fails h
        default_from n ks (ATree t) places inner f k w fails (InLater h) = elim h [ ]
