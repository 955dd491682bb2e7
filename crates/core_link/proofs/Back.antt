-- What stands in a renamed tree stands in the other one too.
use Rattle.std.proofs.Common.{◌≡◌, ℕ, zero, suc, ◌+◌, List, [], ◌∷◌, refl, ap, subst, Some}
use Rattle.std.specs.List.{AllZip}
use Rattle.core_reader.specs.declared.syntax.Binder.{Binder}
use Rattle.core_reader.specs.declared.syntax.Pattern.{Pattern}
use Rattle.core_reader.specs.declared.syntax.Pattern.TheVariants as pattern
use Rattle.core_reader.specs.Tree as tree
use Rattle.core_reader.specs.Tree.{Program, Term, Terms, NoTerms, AndTerm, Application, Bind, Expr, App, Let, Case, Alts, NoAlts, AndAlt}
use Rattle.core_print.specs.Renamed.{RenamedBinder, RenamedTerm, RenamedTerms, RenamedApp, RenamedBind, RenamedPattern, RenamedExpr, RenamedAlts, behind}
use Rattle.arity_check.specs.Scope.{Scope}
use Rattle.arity_check.specs.Standing.{count, IsTermAmong, First, Later, HeadIsApplied, AsName, AsCon, LoneHead, LoneBracket, InHead, InArgument, Contains, Whole, InItsHead, InItsArgs}
use Rattle.arity_check.specs.Patterns.{alt_at}
use Rattle.arity_check.specs.Pieces.{FunctionPart, AnApp, AGroup, SomeAlts, binders_of, bound_by, within, Has, TheApp, TheGroup, InMember, InBody, TheAlts, InTested, InAlts, HasAlts, InThis, InLater}
use Rattle.core_link.proofs.Beside.{beside_back}

-- two programs, how their names go together (Renamed), and which scopes of theirs that relation's
-- scopes stand for
module _ (p q : Program) {S : Type 0} (enter : List Binder → List Binder → S → S)
    (OfBinder OfCon : ℕ → ℕ → Type 0) (OfUse : S → ℕ → ℕ → Type 0)
    (Fits : S → Scope → Scope → Type 0) where
  abbrev RBinder : Binder → Binder → Type 0
  RBinder = RenamedBinder enter OfBinder OfCon OfUse

  abbrev RTerm : S → Term → Term → Type 0
  RTerm = RenamedTerm enter OfBinder OfCon OfUse

  abbrev RTerms : S → Terms → Terms → Type 0
  RTerms = RenamedTerms enter OfBinder OfCon OfUse

  abbrev RApp : S → Application → Application → Type 0
  RApp = RenamedApp enter OfBinder OfCon OfUse

  abbrev RBind : S → Bind → Bind → Type 0
  RBind = RenamedBind enter OfBinder OfCon OfUse

  abbrev RPattern : Pattern → Pattern → Type 0
  RPattern = RenamedPattern enter OfBinder OfCon OfUse

  abbrev RExpr : S → Expr → Expr → Type 0
  RExpr = RenamedExpr enter OfBinder OfCon OfUse

  abbrev RAlts : S → Alts → Alts → Type 0
  RAlts = RenamedAlts enter OfBinder OfCon OfUse

  -- ---- applications

  module _ (c : S) where
    pub count_like : (xs ys : Terms) → RTerms c xs ys → count xs ≡ count ys
    count_like NoTerms NoTerms r = refl
    count_like NoTerms ys r = absurd r
    count_like (AndTerm a xs) (AndTerm b ys) r = ap (λ n. n + 1) (count_like xs ys r.1)
    count_like (AndTerm a xs) ys r = absurd r

    record LikeAmong (xs : Terms) (b : Term) : Type 0 where
      term : Term
      among : IsTermAmong term xs
      like : RTerm c term b

    among_back : (b : Term) (ys : Terms) → IsTermAmong b ys → (xs : Terms) → RTerms c xs ys
        → LikeAmong xs b
    among_back b ys First NoTerms r = absurd r
    among_back b ys First (AndTerm a xs) r = record { term = a; among = First; like = r.0 }
    among_back b ys (Later h) NoTerms r = absurd r
    among_back b (AndTerm z ys) (Later h) (AndTerm a xs) r = let w = among_back b ys h xs r.1
        in record { term = w.term; among = Later w.among; like = w.like }

    pub record StandsLike (a : Term) (xs : Terms) (h : Term) (k : ℕ) : Type 0 where
      pub head : Term
      pub stands : HeadIsApplied a xs head k
      pub like : RTerm c head h

    stands_back : (b h : Term) (ys : Terms) (k : ℕ) → HeadIsApplied b ys h k
        → (a : Term) (xs : Terms) → RTerm c a b → RTerms c xs ys → StandsLike a xs h k
    stands_back b h ys k (AsName {x = x} {at = to}) (tree.Name n at) xs r rs
        = record {
          head = tree.Name n at;
          stands = subst
              (HeadIsApplied (tree.Name n at) xs (tree.Name n at)) (count_like xs ys rs) AsName;
          like
              = r;
        }
    stands_back b h ys k (AsName {x = x} {at = to}) a xs r rs = absurd r
    stands_back b h ys k (AsCon {c = d} {at = to}) (tree.Con n at) xs r rs
        = record {
          head = tree.Con n at;
          stands = subst
              (HeadIsApplied (tree.Con n at) xs (tree.Con n at)) (count_like xs ys rs) AsCon;
          like = r;
        }
    stands_back b h ys k (AsCon {c = d} {at = to}) a xs r rs = absurd r
    stands_back b h ys k (LoneHead {head = g} s) (tree.Bracket f NoTerms at) xs r rs = let w
        = stands_back g h ys k s f xs r.0 rs in record
        { head = w.head; stands = LoneHead w.stands; like = w.like }
    stands_back b h ys k (LoneHead {head = g} s) (tree.Bracket f (AndTerm z zs) at) xs r rs
        = absurd r.1
    stands_back b h ys k (LoneHead {head = g} s) a xs r rs = absurd r
    stands_back b h ys k (LoneBracket {head = g} {a = z} {as' = zs} s)
        (tree.Bracket f (AndTerm x more) at) NoTerms r rs = let w
        = stands_back g h (AndTerm z zs) k s f (AndTerm x more) r.0 r.1
        in record { head = w.head; stands = LoneBracket w.stands; like = w.like }
    stands_back b h ys k (LoneBracket {head = g} s) (tree.Bracket f (AndTerm x more) at)
        (AndTerm y xs) r rs = absurd rs
    stands_back b h ys k (LoneBracket {head = g} s) (tree.Bracket f NoTerms at) xs r rs = absurd r.1
    stands_back b h ys k (LoneBracket {head = g} s) a xs r rs = absurd r
    stands_back b h ys k (InHead {head = g} {a = z} {as' = zs} s)
        (tree.Bracket f (AndTerm x more) at) (AndTerm y xs) r rs = let w
        = stands_back g h (AndTerm z zs) k s f (AndTerm x more) r.0 r.1
        in record { head = w.head; stands = InHead w.stands; like = w.like }
    stands_back b h ys k (InHead {head = g} s) (tree.Bracket f (AndTerm x more) at) NoTerms r rs
        = absurd rs
    stands_back b h ys k (InHead {head = g} s) (tree.Bracket f NoTerms at) xs r rs = absurd r.1
    stands_back b h ys k (InHead {head = g} s) a xs r rs = absurd r
    stands_back b h ys k (InArgument {a = z} i s) a xs r rs =
        let u = among_back z ys i xs rs in
        let w = stands_back z h NoTerms k s u.term NoTerms u.like tt in
        record { head = w.head; stands = InArgument u.among w.stands; like = w.like }

    record BracketBefore (a g : Term) (ys : Terms) : Type 0 where
      head : Term
      args : Terms
      at : ℕ
      is : a ≡ tree.Bracket head args at
      like : RTerm c head g
      likes : RTerms c args ys

    bracket_before : (a g : Term) (ys : Terms) (to : ℕ) → RTerm c a (tree.Bracket g ys to)
        → BracketBefore a g ys
    bracket_before (tree.Bracket f xs at) g ys to r
        = record { head = f; args = xs; at = at; is = refl; like = r.0; likes = r.1 }
    bracket_before a g ys to r = absurd r

    pub record ContainsLike (app inner : Application) : Type 0 where
      pub part : Application
      pub contains : Contains app part
      pub like : RApp c part inner

    pub contains_back : (there inner : Application) → Contains there inner → (app : Application)
        → RApp c app there → ContainsLike app inner
    contains_back there inner Whole app r = record { part = app; contains = Whole; like = r }
    contains_back there inner (InItsHead {head = g} {args = ys} {at = to} e h) app r =
        let v = bracket_before app.head g ys to (subst (RTerm c app.head) e r.0) in
        let w = contains_back (record { head = g; args = ys }) inner h
        (record { head = v.head; args = v.args }) (v.like, v.likes) in
        record { part = w.part; contains = InItsHead v.is w.contains; like = w.like }
    contains_back there inner (InItsArgs {head = g} {args = ys} {at = to} i h) app r =
        let u = among_back (tree.Bracket g ys to) there.args i app.args r.1 in
        let v = bracket_before u.term g ys to u.like in
        let w = contains_back (record { head = g; args = ys }) inner h
        (record { head = v.head; args = v.args }) (v.like, v.likes) in
        record {
          part = w.part;
          contains = InItsArgs
              (subst (λ a. IsTermAmong a app.args) v.is u.among) w.contains;
          like = w.like;
        }

    pub stands_like : (app there : Application) (h : Term) (k : ℕ) → RApp c app there
        → HeadIsApplied there.head there.args h k → StandsLike app.head app.args h k
    stands_like app there h k r s = stands_back there.head h there.args k s app.head app.args r.0
        r.1

    -- ---- alternatives

    pub alt_back : (ys : Alts) (i : ℕ) (b : Pattern) → alt_at ys i ≡ Some b → (xs : Alts)
        → RAlts c xs ys → (a : Pattern) × (alt_at xs i ≡ Some a) × RPattern a b
    alt_back NoAlts i b e xs r = absurd cc
    alt_back (AndAlt y d ys) i b e NoAlts r = absurd r
    alt_back (AndAlt y d ys) zero b e (AndAlt x f xs) r = let same : y ≡ b = cc
        in (x, refl, subst (RPattern x) same r.0)
    alt_back (AndAlt y d ys) (suc i) b e (AndAlt x f xs) r = alt_back ys i b e xs r.2

    pub alt_onward : (xs : Alts) (i : ℕ) (a : Pattern) → alt_at xs i ≡ Some a → (ys : Alts)
        → RAlts c xs ys → (b : Pattern) × (alt_at ys i ≡ Some b) × RPattern a b
    alt_onward NoAlts i a e ys r = absurd cc
    alt_onward (AndAlt x f xs) i a e NoAlts r = absurd r
    alt_onward (AndAlt x f xs) zero a e (AndAlt y d ys) r = let same : x ≡ a = cc
        in (y, refl, subst (λ w. RPattern w y) same r.0)
    alt_onward (AndAlt x f xs) (suc i) a e (AndAlt y d ys) r = alt_onward xs i a e ys r.2

  -- ---- pieces of a function

  abbrev pub LikePiece : S → FunctionPart → FunctionPart → Type 0
  LikePiece c (AnApp a) (AnApp b) = RApp c a b
  LikePiece c (AGroup group) (AGroup others) = AllZip
      (RBind (enter (binders_of group) (binders_of others) c)) group others
  LikePiece c (SomeAlts xs) (SomeAlts ys) = RAlts c xs ys
  LikePiece c a b = ⊥

  pub record HasLike (s : Scope) (e : Expr) (t : Scope) (there : FunctionPart) : Type 0 where
    pub context : S
    pub scope : Scope
    pub piece : FunctionPart
    pub has : Has p s e scope piece
    pub fits : Fits context scope t
    pub like : LikePiece context piece there

  record HasAltsLike (s : Scope) (alts : Alts) (t : Scope) (there : FunctionPart) : Type 0 where
    context : S
    scope : Scope
    piece : FunctionPart
    has : HasAlts p s alts scope piece
    fits : Fits context scope t
    like : LikePiece context piece there

  -- binders enter the scopes in the same way
  abbrev pub Enters : Type 0
  Enters = (c : S) (s t : Scope) (bs cs : List Binder) → AllZip RBinder bs cs → Fits c s t
      → Fits (enter bs cs c) (within p bs s) (within q cs t)

  pub group_binders : (c : S) (group others : List Bind) → AllZip (RBind c) group others
      → AllZip RBinder (binders_of group) (binders_of others)
  group_binders c [] [] r = tt
  group_binders c [] (o ∷ os) r = absurd r
  group_binders c (b ∷ bs) [] r = absurd r
  group_binders c (b ∷ bs) (o ∷ os) r = (r.0.0, group_binders c bs os r.1)

  pub bound_like : (a b : Pattern) → RPattern a b → AllZip RBinder (bound_by a) (bound_by b)
  bound_like (pattern.Con c fields) (pattern.Con d others) r = r.1
  bound_like (pattern.Con c fields) b r = absurd r
  bound_like (pattern.Int k at) (pattern.Int j to) r = tt
  bound_like (pattern.Int k at) b r = absurd r
  bound_like (pattern.Default x) (pattern.Default y) r = (r, tt)
  bound_like (pattern.Default x) b r = absurd r

  module _ (entered : Enters) where
    behind_fits : (c : S) (s t : Scope) (a b : Pattern) → RPattern a b → Fits c s t
        → Fits (behind enter OfBinder OfCon OfUse a b c) (within p (bound_by a) s)
        (within q (bound_by b) t)
    behind_fits c s t (pattern.Con d fields) (pattern.Con f others) r fits
        = entered c s t fields others r.1 fits
    behind_fits c s t (pattern.Con d fields) b r fits = absurd r
    behind_fits c s t (pattern.Int k at) (pattern.Int j to) r fits = fits
    behind_fits c s t (pattern.Int k at) b r fits = absurd r
    behind_fits c s t (pattern.Default x) (pattern.Default y) r fits
        = entered c s t (x ∷ []) (y ∷ []) (r, tt) fits
    behind_fits c s t (pattern.Default x) b r fits = absurd r

    group_fits : (c : S) (s t : Scope) (group others : List Bind)
        → AllZip (RBind (enter (binders_of group) (binders_of others) c)) group others → Fits c s t
        → Fits (enter (binders_of group) (binders_of others) c) (within p (binders_of group) s)
        (within q (binders_of others) t)
    group_fits c s t group others r fits = entered c s t (binders_of group) (binders_of others)
        (group_binders (enter (binders_of group) (binders_of others) c) group others r) fits

    mutual
      pub has_back : {t out : Scope} {d : Expr} {there : FunctionPart} → Has q t d out there
          → (c : S) (s : Scope) (e : Expr) → Fits c s t → RExpr c e d → HasLike s e out there
      has_back TheApp c s (App a) fits r = record
          { context = c; scope = s; piece = AnApp a; has = TheApp; fits = fits; like = r }
      has_back TheApp c s e fits r = absurd r
      has_back TheGroup c s (Let group e) fits r = record
          { context = c; scope = s; piece = AGroup group; has = TheGroup; fits = fits; like = r.0 }
      has_back TheGroup c s e fits r = absurd r
      has_back {t = t} (InMember {group = others} {b = b} i is) c s (Let group e) fits r =
          let inner : S = enter (binders_of group) (binders_of others) c in
          let w = beside_back (RBind inner) group others r.0 i b is in
          record {
            context = inner;
            scope = within p (binders_of group) s;
            piece
                = AnApp w.0.app;
            has = InMember i w.1;
            fits
                = group_fits c s t group others r.0 fits;
            like = w.2.1;
          }
      has_back (InMember i is) c s e fits r = absurd r
      has_back {t = t} (InBody {group = others} h) c s (Let group e) fits r =
          let w = has_back h (enter (binders_of group) (binders_of others) c)
          (within p (binders_of group) s) e (group_fits c s t group others r.0 fits) r.1 in
          record {
            context = w.context;
            scope = w.scope;
            piece = w.piece;
            has = InBody w.has;
            fits
                = w.fits;
            like = w.like;
          }
      has_back (InBody h) c s e fits r = absurd r
      has_back TheAlts c s (Case e alts) fits r = record
          { context = c; scope = s; piece = SomeAlts alts; has = TheAlts; fits = fits; like = r.1 }
      has_back TheAlts c s e fits r = absurd r
      has_back (InTested h) c s (Case e alts) fits r = let w = has_back h c s e fits r.0
          in record {
            context = w.context;
            scope = w.scope;
            piece = w.piece;
            has = InTested w.has;
            fits
                = w.fits;
            like = w.like;
          }
      has_back (InTested h) c s e fits r = absurd r
      has_back (InAlts h) c s (Case e alts) fits r = let w = alts_back h c s alts fits r.1
          in record {
            context = w.context;
            scope = w.scope;
            piece = w.piece;
            has = InAlts w.has;
            fits
                = w.fits;
            like = w.like;
          }
      has_back (InAlts h) c s e fits r = absurd r

      alts_back : {t out : Scope} {others : Alts} {there : FunctionPart}
          → HasAlts q t others out there → (c : S) (s : Scope) (alts : Alts) → Fits c s t
          → RAlts c alts others → HasAltsLike s alts out there
      alts_back (InThis h) c s NoAlts fits r = absurd r
      alts_back {t = t} (InThis {pat = b} h) c s (AndAlt a e rest) fits r =
          let w = has_back h (behind enter OfBinder OfCon OfUse a b c) (within p (bound_by a) s) e
          (behind_fits c s t a b r.0 fits) r.1 in
          record {
            context = w.context;
            scope = w.scope;
            piece = w.piece;
            has = InThis w.has;
            fits
                = w.fits;
            like = w.like;
          }
      alts_back (InLater h) c s NoAlts fits r = absurd r
      alts_back (InLater h) c s (AndAlt a e rest) fits r = let w = alts_back h c s rest fits r.2
          in record {
            context = w.context;
            scope = w.scope;
            piece = w.piece;
            has = InLater w.has;
            fits
                = w.fits;
            like = w.like;
          }
