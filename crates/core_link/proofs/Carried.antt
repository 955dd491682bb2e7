-- A tree that agrees with another but in names, where each name means the same, has its normal
-- form.
use Rattle.std.proofs.Common.{◌≡◌, ℕ, suc, ◌+◌, ℤ, true, List, [], ◌∷◌, length, map, refl, sym, ap, ◌∙◌, subst, Some, None}
use Rattle.std.specs.Prelude.{codes, slice_get, if◌then◌else◌}
use Rattle.std.specs.List.{AllZip, range_with_len}
use Rattle.std.proofs.lemmas.List.Elements.{length_all_zip}
use Rattle.core_reader.specs.declared.syntax.Binder.{Binder}
use Rattle.core_reader.specs.declared.syntax.Pattern.{Pattern}
use Rattle.core_reader.specs.declared.syntax.Pattern.TheVariants as pattern
use Rattle.core_reader.specs.Tree as tree
use Rattle.core_reader.specs.Tree.{Program, Term, Terms, NoTerms, AndTerm, Application, Expr, Alts, NoAlts, AndAlt, Bind}
use Rattle.core_print.specs.Renamed.{RenamedBinder, RenamedTerm, RenamedTerms, RenamedBind, RenamedPattern, RenamedExpr, RenamedAlts, RenamedFunction}
use Rattle.arity_check.specs.declared.normal.Bound.{Bound}
use Rattle.arity_check.specs.declared.normal.Flat.{Flat}
use Rattle.arity_check.specs.declared.normal.Var.{Var}
use Rattle.arity_check.specs.declared.meaning.Meaning.{Meaning}
use Rattle.arity_check.specs.declared.meaning.Meaning.TheVariants.{Unbound}
use Rattle.arity_check.specs.Scope.{Scope, means, con_number, is_named, binds, binds_all}
use Rattle.arity_check.specs.Pieces.{names_of, binders_of}
use Rattle.arity_check.specs.Program as normal
use Rattle.arity_check.specs.Normal as form
use Rattle.arity_check.specs.Normal.{append, HasTerm, itself, itself_as, IsFlat, IsNamed, IsApplied, AreArgs, IsArg, IsGroup, IsNormal, AreBranches, IsFunction}
use Rattle.std.proofs.lemmas.List.FromFn.{length-range_with_len}
use Rattle.seq.proofs.Lists.{length_map}

names_are : (group : List Bind) → names_of (binders_of group) ≡ map (λ b. b.binder.name.0) group
names_are [] = refl
names_are (b ∷ bs) = ap (λ xs. b.binder.name.0 ∷ xs) (names_are bs)

-- two programs, how their names go together (Renamed), and which pairs of scopes with their numbers
-- of locals the scopes of that relation stand for
module _ (p q : Program) {S : Type 0} (enter : List Binder → List Binder → S → S)
    (OfBinder OfCon : ℕ → ℕ → Type 0) (OfUse : S → ℕ → ℕ → Type 0)
    (Fits : S → Scope → Scope → Type 0) where
  abbrev ZBinders : List Binder → List Binder → Type 0
  ZBinders = AllZip (RenamedBinder enter OfBinder OfCon OfUse)

  -- names that go together mean the same: binders enter the scopes in the same way, a use that
  -- means
  -- something means the same in both, a constructor has one number, and `_` is `_`
  pub record MeansTheSame : Type 0 where
    pub cons : (n m : ℕ) → OfCon n m → con_number p n ≡ con_number q m
    pub nameless : (n m : ℕ) → OfBinder n m → is_named p (codes "_") n ≡ is_named q (codes "_") m
    pub uses : (c : S) (s t : Scope) (n m : ℕ) → Fits c s t → OfUse c n m
        → (means p s n ≡ Unbound → ⊥) → means p s n ≡ means q t m
    pub entered : (c : S) (s t : Scope) (bs cs : List Binder) (xs : List ℕ) → ZBinders bs cs
        → length xs ≡ length bs → Fits c s t → Fits (enter bs cs c) (binds_all p (names_of bs) xs s)
        (binds_all q (names_of cs) xs t)

  module _ (same : MeansTheSame) where
    abbrev RTerm : S → Term → Term → Type 0
    RTerm = RenamedTerm enter OfBinder OfCon OfUse

    abbrev RTerms : S → Terms → Terms → Type 0
    RTerms = RenamedTerms enter OfBinder OfCon OfUse

    abbrev RExpr : S → Expr → Expr → Type 0
    RExpr = RenamedExpr enter OfBinder OfCon OfUse

    abbrev RAlts : S → Alts → Alts → Type 0
    RAlts = RenamedAlts enter OfBinder OfCon OfUse

    abbrev RPattern : Pattern → Pattern → Type 0
    RPattern = RenamedPattern enter OfBinder OfCon OfUse

    abbrev RBind : S → Bind → Bind → Type 0
    RBind = RenamedBind enter OfBinder OfCon OfUse

    -- ---- what stands on the other side

    record NameLike (c : S) (n : ℕ) (b : Term) : Type 0 where
      m : ℕ
      to : ℕ
      is : b ≡ tree.Name m to
      like : OfUse c n m

    name_like : (c : S) (n at : ℕ) (b : Term) → RTerm c (tree.Name n at) b → NameLike c n b
    name_like c n at (tree.Name m to) r = record { m = m; to = to; is = refl; like = r }
    name_like c n at (tree.Con m to) r = absurd r
    name_like c n at (tree.Int k to) r = absurd r
    name_like c n at (tree.Bracket g ys to) r = absurd r

    record ConLike (n : ℕ) (b : Term) : Type 0 where
      m : ℕ
      to : ℕ
      is : b ≡ tree.Con m to
      like : OfCon n m

    con_like : (c : S) (n at : ℕ) (b : Term) → RTerm c (tree.Con n at) b → ConLike n b
    con_like c n at (tree.Name m to) r = absurd r
    con_like c n at (tree.Con m to) r = record { m = m; to = to; is = refl; like = r }
    con_like c n at (tree.Int k to) r = absurd r
    con_like c n at (tree.Bracket g ys to) r = absurd r

    record IntLike (k : ℤ) (b : Term) : Type 0 where
      to : ℕ
      is : b ≡ tree.Int k to

    int_like : (c : S) (k : ℤ) (at : ℕ) (b : Term) → RTerm c (tree.Int k at) b → IntLike k b
    int_like c k at (tree.Name m to) r = absurd r
    int_like c k at (tree.Con m to) r = absurd r
    int_like c k at (tree.Int j to) r = record { to = to; is = ap (λ i. tree.Int i to) (sym r) }
    int_like c k at (tree.Bracket g ys to) r = absurd r

    record BracketLike (c : S) (f : Term) (xs : Terms) (b : Term) : Type 0 where
      head : Term
      args : Terms
      to : ℕ
      is : b ≡ tree.Bracket head args to
      like : RTerm c f head
      likes : RTerms c xs args

    bracket_like : (c : S) (f : Term) (xs : Terms) (at : ℕ) (b : Term)
        → RTerm c (tree.Bracket f xs at) b → BracketLike c f xs b
    bracket_like c f xs at (tree.Name m to) r = absurd r
    bracket_like c f xs at (tree.Con m to) r = absurd r
    bracket_like c f xs at (tree.Int j to) r = absurd r
    bracket_like c f xs at (tree.Bracket g ys to) r
        = record { head = g; args = ys; to = to; is = refl; like = r.0; likes = r.1 }

    none_like : (c : S) (bs : Terms) → RTerms c NoTerms bs → bs ≡ NoTerms
    none_like c NoTerms r = refl
    none_like c (AndTerm b bs) r = absurd r

    record AndLike (c : S) (a : Term) (as' bs : Terms) : Type 0 where
      first : Term
      rest : Terms
      is : bs ≡ AndTerm first rest
      like : RTerm c a first
      likes : RTerms c as' rest

    and_like : (c : S) (a : Term) (as' bs : Terms) → RTerms c (AndTerm a as') bs
        → AndLike c a as' bs
    and_like c a as' NoTerms r = absurd r
    and_like c a as' (AndTerm b bs) r = record
        { first = b; rest = bs; is = refl; like = r.0; likes = r.1 }

    record SplitLike (c : S) (first rest bs : Terms) : Type 0 where
      front : Terms
      behind : Terms
      whole : bs ≡ append front behind
      is_front : RTerms c first front
      is_behind : RTerms c rest behind

    split_like : (c : S) (first rest bs : Terms) → RTerms c (append first rest) bs
        → SplitLike c first rest bs
    split_like c NoTerms rest bs r = record
        { front = NoTerms; behind = bs; whole = refl; is_front = tt; is_behind = r }
    split_like c (AndTerm a first) rest NoTerms r = absurd r
    split_like c (AndTerm a first) rest (AndTerm b bs) r =
        let w = split_like c first rest bs r.1 in
        record {
          front = AndTerm b w.front;
          behind = w.behind;
          whole
              = ap (AndTerm b) w.whole;
          is_front = (r.0, w.is_front);
          is_behind = w.is_behind;
        }

    has_like : (c : S) (as' bs : Terms) → RTerms c as' bs → HasTerm as' → HasTerm bs
    has_like c NoTerms bs r h = absurd h
    has_like c (AndTerm a as') NoTerms r h = absurd r
    has_like c (AndTerm a as') (AndTerm b bs) r h = tt

    -- ---- applications

    module _ (c : S) (s t : Scope) (fits : Fits c s t) where
      itself_some : (a b : Term) (x : Var) → RTerm c a b → itself p s a ≡ Some x
          → itself q t b ≡ Some x
      itself_some (tree.Name n at) (tree.Name m to) x r e
          = sym (ap itself_as
          (same.uses c s t n m fits r
          (λ u. (let z : None ≡ Some x = sym (ap itself_as u) ∙ e in cc)))) ∙ e
      itself_some (tree.Name n at) b x r e = absurd r
      itself_some (tree.Con n at) b x r e = absurd cc
      itself_some (tree.Int k at) b x r e = absurd cc
      itself_some (tree.Bracket f NoTerms at) (tree.Bracket g NoTerms to) x r e
          = itself_some f g x r.0 e
      itself_some (tree.Bracket f NoTerms at) (tree.Bracket g (AndTerm y ys) to) x r e = absurd r.1
      itself_some (tree.Bracket f NoTerms at) b x r e = absurd r
      itself_some (tree.Bracket f (AndTerm z zs) at) b x r e = absurd cc

      named_bound : {n : ℕ} {m : Meaning} {args : Terms} {news : List Bound} {f : Flat}
          → IsNamed p s n m args news f → m ≡ Unbound → ⊥
      named_bound (form.OfPrimitive a) e = cc
      named_bound (form.OfLocal a) e = cc
      named_bound (form.OfGlobal a) e = cc
      named_bound (form.Called l a) e = cc
      named_bound (form.Partial l a) e = cc
      named_bound (form.Exceeded first rest news1 news2 xs es h l a d is) e = cc

      itself_none : {n : ℕ} {a : Term} {args : Terms} {news : List Bound} {f : Flat}
          → IsFlat p s n a args news f → (b : Term) → RTerm c a b → itself p s a ≡ None
          → itself q t b ≡ None
      itself_none (form.Number {at = at} {k = k}) b r e = ap (itself q t) (int_like c k at b r).is
      itself_none (form.NumberApplied {at = at} {k = k} d) b r e
          = ap (itself q t) (int_like c k at b r).is
      itself_none (form.Constructor {c = d} {at = at} h a) b r e
          = ap (itself q t) (con_like c d at b r).is
      itself_none (form.Named {f = x} {at = at} a) b r e = let w = name_like c x at b r
          in ap (itself q t) w.is ∙ ap itself_as
          (sym (same.uses c s t x w.m fits w.like (named_bound a))) ∙ e
      itself_none
          (form.BracketApplied {at = at} {head = head} {a = y} {as' = ys} inner news1 news2 a d is)
          b r e =
          let w = bracket_like c head (AndTerm y ys) at b r in
          let z = and_like c y ys w.args w.likes in
          ap (itself q t) (w.is ∙ ap (λ zs. tree.Bracket w.head zs w.to) z.is)
      itself_none (form.LoneHead {at = at} {head = head} a) b r e =
          let w = bracket_like c head NoTerms at b r
          in ap (itself q t)
          (w.is ∙ ap (λ zs. tree.Bracket w.head zs w.to) (none_like c w.args w.likes)) ∙
          itself_none a w.head w.like e
      itself_none (form.LoneBracket {at = at} {head = head} {args = NoTerms} a) b r e =
          let w = bracket_like c head NoTerms at b r
          in ap (itself q t)
          (w.is ∙ ap (λ zs. tree.Bracket w.head zs w.to) (none_like c w.args w.likes)) ∙
          itself_none a w.head w.like e
      itself_none (form.LoneBracket {at = at} {head = head} {args = AndTerm y ys} a) b r e =
          let w = bracket_like c head (AndTerm y ys) at b r in
          let z = and_like c y ys w.args w.likes in
          ap (itself q t) (w.is ∙ ap (λ zs. tree.Bracket w.head zs w.to) z.is)

      moved : {n : ℕ} {b b' : Term} {bs bs' : Terms} {news : List Bound} {f : Flat} → b ≡ b'
          → bs ≡ bs' → IsFlat q t n b' bs' news f → IsFlat q t n b bs news f
      moved {n = n} {b = b} {bs' = bs'} {news = news} {f = f} e g h
          = subst (λ w. IsFlat q t n b w news f) (sym g)
          (subst (λ w. IsFlat q t n w bs' news f) (sym e) h)

      mutual
        flat_carried : {n : ℕ} {head : Term} {args : Terms} {news : List Bound} {f : Flat}
            → IsFlat p s n head args news f → (b : Term) (bs : Terms) → RTerm c head b
            → RTerms c args bs → IsFlat q t n b bs news f
        flat_carried (form.Number {at = at} {k = k}) b bs r rs
            = moved (int_like c k at b r).is (none_like c bs rs) form.Number
        flat_carried (form.Constructor {c = d} {at = at} e a) b bs r rs = let w
            = con_like c d at b r in moved w.is refl
            (form.Constructor (sym (same.cons d w.m w.like) ∙ e) (args_carried a bs rs))
        flat_carried {n = n} {news = news} {f = g} (form.Named {f = x} {at = at} a) b bs r rs =
            let w = name_like c x at b r in moved w.is refl
            (form.Named
            (subst (λ m. IsNamed q t n m bs news g)
            (same.uses c s t x w.m fits w.like (named_bound a)) (named_carried a bs rs)))
        flat_carried (form.NumberApplied {at = at} {k = k} {a = x} {as' = xs} a) b bs r rs =
            let w = and_like c x xs bs rs in moved (int_like c k at b r).is w.is
            (form.NumberApplied (applied_carried a (AndTerm w.first w.rest) (w.like, w.likes)))
        flat_carried
            (form.BracketApplied {at = at} {head = head} {a = x} {b = y} {as' = xs} {bs = ys} inner
            news1 news2 a d is) b bs r rs =
            let w = bracket_like c head (AndTerm x xs) at b r in
            let z = and_like c x xs w.args w.likes in
            let l = and_like c y ys bs rs in
            moved (w.is ∙ ap (λ zs. tree.Bracket w.head zs w.to) z.is) l.is
            (form.BracketApplied inner news1 news2
            (flat_carried a w.head (AndTerm z.first z.rest) w.like (z.like, z.likes))
            (applied_carried d (AndTerm l.first l.rest) (l.like, l.likes)) is)
        flat_carried (form.LoneHead {at = at} {head = head} a) b bs r rs =
            let w = bracket_like c head NoTerms at b r
            in moved (w.is ∙ ap (λ zs. tree.Bracket w.head zs w.to)
            (none_like c w.args w.likes)) refl
            (form.LoneHead (flat_carried a w.head bs w.like rs))
        flat_carried (form.LoneBracket {at = at} {head = head} {args = args} a) b bs r rs =
            let w = bracket_like c head args at b r
            in moved w.is (none_like c bs rs)
            (form.LoneBracket (flat_carried a w.head w.args w.like w.likes))

        named_carried : {n : ℕ} {m : Meaning} {args : Terms} {news : List Bound} {f : Flat}
            → IsNamed p s n m args news f → (bs : Terms) → RTerms c args bs
            → IsNamed q t n m bs news f
        named_carried (form.OfPrimitive a) bs rs = form.OfPrimitive (args_carried a bs rs)
        named_carried (form.OfLocal a) bs rs = form.OfLocal (args_carried a bs rs)
        named_carried (form.OfGlobal a) bs rs = form.OfGlobal (args_carried a bs rs)
        named_carried (form.Called l a) bs rs = form.Called l (args_carried a bs rs)
        named_carried (form.Partial l a) bs rs = form.Partial l (args_carried a bs rs)
        named_carried (form.Exceeded first rest news1 news2 xs es h l a d is) bs rs =
            let w = split_like c first rest bs (subst (λ ts. RTerms c ts bs) es rs) in
            form.Exceeded w.front w.behind news1 news2 xs w.whole
            (has_like c rest w.behind w.is_behind h) l (args_carried a w.front w.is_front)
            (applied_carried d w.behind w.is_behind) is

        applied_carried : {n : ℕ} {f g : Flat} {args : Terms} {news : List Bound}
            → IsApplied p s n f args news g → (bs : Terms) → RTerms c args bs
            → IsApplied q t n f bs news g
        applied_carried (form.Applied a) bs rs = form.Applied (args_carried a bs rs)

        args_carried : {n : ℕ} {args : Terms} {news : List Bound} {xs : List Var}
            → AreArgs p s n args news xs → (bs : Terms) → RTerms c args bs
            → AreArgs q t n bs news xs
        args_carried {n = n} form.NoArgs bs rs = subst (λ w. AreArgs q t n w [] [])
            (sym (none_like c bs rs)) form.NoArgs
        args_carried {n = n} {news = news} {xs = zs}
            (form.AndArg {a = x} {as' = xs} news1 news2 a d is) bs rs =
            let w = and_like c x xs bs rs in subst (λ w. AreArgs q t n w news zs) (sym w.is)
            (form.AndArg news1 news2 (arg_carried a w.first w.like)
            (args_carried d w.rest w.likes) is)

        arg_carried : {n : ℕ} {a : Term} {news : List Bound} {x : Var} → IsArg p s n a news x
            → (b : Term) → RTerm c a b → IsArg q t n b news x
        arg_carried (form.Itself {a = a} {x = x} e) b r = form.Itself (itself_some a b x r e)
        arg_carried (form.New {a = a} k e d is is') b r
            = form.New k (itself_none d b r e) (flat_carried d b NoTerms r tt) is is'

      group_carried : {n : ℕ} {group : List Bind} {bounds : List Bound} {xs : List ℕ}
          → IsGroup p s n group bounds xs → (others : List Bind) → AllZip (RBind c) group others
          → IsGroup q t n others bounds xs
      group_carried form.NoMembers [] r = form.NoMembers
      group_carried form.NoMembers (o ∷ os) r = absurd r
      group_carried (form.AndMember news bounds f k a is g e) [] r = absurd r
      group_carried (form.AndMember news bounds f k a is g e) (o ∷ os) r
          = form.AndMember news bounds f k (flat_carried a o.app.head o.app.args r.0.1.0 r.0.1.1) is
          (group_carried g os r.1) e

    -- ---- expressions

    group_length : {s : Scope} {n : ℕ} {group : List Bind} {bounds : List Bound} {xs : List ℕ}
        → IsGroup p s n group bounds xs → length xs ≡ length group
    group_length form.NoMembers = refl
    group_length (form.AndMember news bounds f k a is g e) = ap suc (group_length g)

    group_binders : (c : S) (group others : List Bind) → AllZip (RBind c) group others
        → ZBinders (binders_of group) (binders_of others)
    group_binders c [] [] r = tt
    group_binders c [] (o ∷ os) r = absurd r
    group_binders c (b ∷ bs) [] r = absurd r
    group_binders c (b ∷ bs) (o ∷ os) r = (r.0.0, group_binders c bs os r.1)

    same_length : (bs cs : List Binder) → ZBinders bs cs → length bs ≡ length cs
    same_length bs cs r = length_all_zip (RenamedBinder enter OfBinder OfCon OfUse) bs cs r

    nameless_binds : (n k : ℕ) (s : Scope) → is_named p (codes "_") n ≡ true → binds p n k s ≡ s
    nameless_binds n k s e = ap (λ b. if b then s else (n, k) ∷ s) e

    nameless_other : (n k : ℕ) (s : Scope) → is_named q (codes "_") n ≡ true → binds q n k s ≡ s
    nameless_other n k s e = ap (λ b. if b then s else (n, k) ∷ s) e

    mutual
      pub normal_carried : {s : Scope} {n m : ℕ} {e : Expr} {u : normal.Term} → IsNormal p s n e u m
          → (c : S) (t : Scope) (d : Expr) → Fits c s t → RExpr c e d → IsNormal q t n d u m
      normal_carried {s = s} (form.PlainApp a) c t (tree.App b) fits r
          = form.PlainApp (flat_carried c s t fits a b.head b.args r.0 r.1)
      normal_carried (form.PlainApp a) c t (tree.Let others d) fits r = absurd r
      normal_carried (form.PlainApp a) c t (tree.Case d alts) fits r = absurd r
      normal_carried {s = s} (form.BoundApp a) c t (tree.App b) fits r
          = form.BoundApp (flat_carried c s t fits a b.head b.args r.0 r.1)
      normal_carried (form.BoundApp a) c t (tree.Let others d) fits r = absurd r
      normal_carried (form.BoundApp a) c t (tree.Case d alts) fits r = absurd r
      normal_carried (form.Group inner xs bounds e g b) c t (tree.App a) fits r = absurd r
      normal_carried {s = s} (form.Group {group = group} inner xs bounds e g b) c t
          (tree.Let others d) fits r =
          let inside : S = enter (binders_of group) (binders_of others) c in
          let outer : Scope = binds_all q (map (λ b. b.binder.name.0) others) xs t in
          let entered : Fits inside (binds_all p (names_of (binders_of group)) xs s)
          (binds_all q (names_of (binders_of others)) xs t) =
          same.entered c s t (binders_of group) (binders_of others) xs
          (group_binders inside group others r.0)
          (group_length g ∙ sym (length_map (λ b. b.binder) group)) fits in
          let left : binds_all p (names_of (binders_of group)) xs s ≡ inner
          = ap (λ ns. binds_all p ns xs s) (names_are group) ∙ sym e in
          let right : binds_all q (names_of (binders_of others)) xs t ≡ outer
          = ap (λ ns. binds_all q ns xs t) (names_are others) in
          let there : Fits inside inner outer = subst (Fits inside inner) right
          (subst (λ w. Fits inside w (binds_all q (names_of (binders_of others)) xs t)) left
          entered) in
          form.Group outer xs bounds refl (group_carried inside inner outer there g others r.0)
          (normal_carried b inside outer d there r.1)
      normal_carried (form.Group inner xs bounds e g b) c t (tree.Case d alts) fits r = absurd r
      normal_carried (form.Choice a b) c t (tree.App o) fits r = absurd r
      normal_carried (form.Choice a b) c t (tree.Let others d) fits r = absurd r
      normal_carried (form.Choice a b) c t (tree.Case d alts) fits r
          = form.Choice (normal_carried a c t d fits r.0) (branches_carried b c t alts fits r.1)

      branches_carried : {s : Scope} {n m : ℕ} {alts : Alts} {bs : normal.Branches}
          → AreBranches p s n alts bs m → (c : S) (t : Scope) (others : Alts) → Fits c s t
          → RAlts c alts others → AreBranches q t n others bs m
      branches_carried form.NoBranches c t NoAlts fits r = form.NoBranches
      branches_carried form.NoBranches c t (AndAlt pat d rest) fits r = absurd r
      branches_carried (form.ConBranch xs e is a b) c t NoAlts fits r = absurd r
      branches_carried {s = s} {n = n}
          (form.ConBranch {k = k} {at = at} {fields = fields} {e = u} xs e is a b) c t
          (AndAlt (pattern.Con o others) d rest) fits r =
          let len = same_length fields others r.0.1 in
          let inner : Scope = binds_all q (names_of others) xs t in
          let body : IsNormal q inner (n + length fields) d u k
          = normal_carried a (enter fields others c) inner d
          (same.entered c s t fields others xs r.0.1
          (ap length is ∙ length-range_with_len n (length fields)) fits) r.1 in
          form.ConBranch xs (sym (same.cons at.name.0 o.name.0 r.0.0) ∙ e)
          (is ∙ ap (range_with_len n) len)
          (subst (λ l. IsNormal q inner (n + l) d u k) len body)
          (branches_carried b c t rest fits r.2)
      branches_carried (form.ConBranch xs e is a b) c t (AndAlt (pattern.Int j to) d rest) fits r
          = absurd r.0
      branches_carried (form.ConBranch xs e is a b) c t (AndAlt (pattern.Default y) d rest) fits r
          = absurd r.0
      branches_carried (form.IntBranch a b) c t NoAlts fits r = absurd r
      branches_carried (form.IntBranch a b) c t (AndAlt (pattern.Con o others) d rest) fits r
          = absurd r.0
      branches_carried {s = s} {n = n} {m = m}
          (form.IntBranch {number = i} {e = u} {branches = bs} a b) c t
          (AndAlt (pattern.Int j to) d rest) fits r =
          subst (λ w. AreBranches q t n (AndAlt (pattern.Int w to) d rest) (normal.OnInt i u bs) m)
          r.0 (form.IntBranch (normal_carried a c t d fits r.1)
          (branches_carried b c t rest fits r.2))
      branches_carried (form.IntBranch a b) c t (AndAlt (pattern.Default y) d rest) fits r
          = absurd r.0
      branches_carried (form.NamelessBranch e a b) c t NoAlts fits r = absurd r
      branches_carried (form.NamelessBranch e a b) c t (AndAlt (pattern.Con o others) d rest) fits r
          = absurd r.0
      branches_carried (form.NamelessBranch e a b) c t (AndAlt (pattern.Int j to) d rest) fits r
          = absurd r.0
      branches_carried {s = s} (form.NamelessBranch {x = x} e a b) c t
          (AndAlt (pattern.Default y) d rest) fits r =
          let inside : S = enter (x ∷ []) (y ∷ []) c in
          let f : is_named q (codes "_") y.name.0 ≡ true
          = sym (same.nameless x.name.0 y.name.0 r.0) ∙ e in
          let entered : Fits inside (binds p x.name.0 0 s) (binds q y.name.0 0 t)
          = same.entered c s t (x ∷ []) (y ∷ []) (0 ∷ []) (r.0, tt) refl fits in
          let there : Fits inside s t = subst (Fits inside s) (nameless_other y.name.0 0 t f)
          (subst (λ w. Fits inside w (binds q y.name.0 0 t)) (nameless_binds x.name.0 0 s e)
          entered) in
          form.NamelessBranch f (normal_carried a inside t d there r.1)
          (branches_carried b c t rest fits r.2)
      branches_carried (form.NamedBranch e a b) c t NoAlts fits r = absurd r
      branches_carried (form.NamedBranch e a b) c t (AndAlt (pattern.Con o others) d rest) fits r
          = absurd r.0
      branches_carried (form.NamedBranch e a b) c t (AndAlt (pattern.Int j to) d rest) fits r
          = absurd r.0
      branches_carried {s = s} {n = n} (form.NamedBranch {x = x} e a b) c t
          (AndAlt (pattern.Default y) d rest) fits r =
          form.NamedBranch (sym (same.nameless x.name.0 y.name.0 r.0) ∙ e)
          (normal_carried a (enter (x ∷ []) (y ∷ []) c) (binds q y.name.0 n t) d
          (same.entered c s t (x ∷ []) (y ∷ []) (n ∷ []) (r.0, tt) refl fits) r.1)
          (branches_carried b c t rest fits r.2)

    -- a function has the parameters and the body of one that agrees but in names
    pub function_carried : (OfFunction : ℕ → ℕ → Type 0) (c : S) (f g : tree.Function)
        (u : normal.Function) (name : List ℕ) → Fits c [] []
        → RenamedFunction enter OfBinder OfCon OfUse OfFunction c f g
        → slice_get q.names g.name ≡ Some name → IsFunction p f u
        → IsFunction q g (record { name = name; params = u.params; body = u.body })
    function_carried OfFunction c f g u name fits r named a =
        let len = same_length f.params g.params r.1 in
        let numbers : List ℕ = range_with_len 0 (length f.params) in
        let inner : Scope = binds_all q (names_of g.params) numbers [] in
        let body : IsNormal q inner (length f.params) g.body u.body a.after =
        normal_carried a.body (enter f.params g.params c) inner g.body
        (same.entered c [] [] f.params g.params numbers r.1
        (length-range_with_len 0 (length f.params)) fits) r.2 in
        record {
          name = named;
          params = a.params ∙ len;
          after = a.after;
          body
              = subst (λ l. IsNormal q (binds_all q (names_of g.params) (range_with_len 0 l) []) l
              g.body u.body a.after) len body;
        }
