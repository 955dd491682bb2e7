-- A renamed body has a normal form: so has the body itself, and the two are alike.
use Rattle.std.proofs.Common.{◌≡◌, ℕ, suc, ◌+◌, ◌-◌, ◌≤◌, ◌<◌, true, false, List, [], ◌∷◌, ◌++◌, map, length, Some, None, codes, refl, sym, ap, ◌∙◌, subst, arith, length-append, inl}
use Rattle.std.specs.List.{range_with_len}
use Rattle.std.proofs.lemmas.List.FromFn.{length-range_with_len}
use Rattle.seq.specs.Lists.{AllOf}
use Rattle.seq.proofs.Lists.{length_map}
use Rattle.core_reader.specs.declared.syntax.Binder.{Binder}
use Rattle.core_reader.specs.declared.syntax.Pattern.{Pattern}
use Rattle.core_reader.specs.declared.syntax.Pattern.TheVariants as pattern
use Rattle.core_reader.specs.Tree.{Application, Bind, Expr, App, Let, Case, Alts, NoAlts, AndAlt, Program}
use Rattle.arity_check.specs.declared.normal.Bound.{Bound}
use Rattle.arity_check.specs.declared.normal.Flat.{Flat}
use Rattle.arity_check.specs.Program as normal
use Rattle.arity_check.specs.Scope.{Scope, con_number, is_named, binds, binds_all}
use Rattle.arity_check.specs.Pieces.{binders_of, bound_by}
use Rattle.arity_check.specs.Normal.{bound, Pairwise, IsFlat, IsGroup, NoMembers, AndMember, IsNormal, PlainApp, BoundApp, Group, Choice, AreBranches, NoBranches, ConBranch, IntBranch, NamelessBranch, NamedBranch}
use Rattle.arity_check.specs.Numbered.{LocalsAreConsecutive}
use Rattle.arity_check.proofs.Numbers.{flat_numbered, numbered_both}
use Rattle.match_compile.specs.Renamed.{shadowing, renamed_app, renamed_bind, renamed_expr, renamed_alts}
use Rattle.match_compile.specs.Alike.{LocalPairs, LocalsCorrespond, linked_all, FlatAlike, TermAlike, AlikeApp, AlikeLet, AlikeCase, BranchesAlike, AlikeNoMore, AlikeOnCon, AlikeOnInt, AlikeOnAny, AlikeOnName}
use Rattle.match_compile.proofs.AlikeFlats.{FitsTerm, FitsTerms, ConFits, NewsFit, left_of, right_of, pairs_long, pairs_append, Sees, placed_left, placed_right, NewsAlike, flat_alike}
use Rattle.match_compile.proofs.AlikeScopes.{Below, grown, kept_one, below_one, below_more, kept_grown, below_grown, placed_grown, group_grown, sees_more, sees_one, sees_nameless, sees_all, placed_pairs}

-- ---- what is renamed to an expression

pub record IsApp (s : Scope) (a' : Application) (x : Expr) : Type 0 where
  pub app : Application
  pub is : x ≡ App app
  pub app_is : a' ≡ renamed_app s app

app_of : (s : Scope) {a' : Application} (x : Expr) → App a' ≡ renamed_expr s x → IsApp s a' x
app_of s {a' = a'} (App a) e = let f : a' ≡ renamed_app s a = cc
    in record { app = a; is = refl; app_is = f }
app_of s (Let g x) e = absurd cc
app_of s (Case x alts) e = absurd cc

pub record IsLet (s : Scope) (g' : List Bind) (y : Expr) (x : Expr) : Type 0 where
  pub group : List Bind
  pub body : Expr
  pub is : x ≡ Let group body
  pub group_is : g' ≡ map (renamed_bind (shadowing (binders_of group) s)) group
  pub body_is : y ≡ renamed_expr (shadowing (binders_of group) s) body

let_of : (s : Scope) {g' : List Bind} {y : Expr} (x : Expr) → Let g' y ≡ renamed_expr s x
    → IsLet s g' y x
let_of s (App a) e = absurd cc
let_of s {g' = g'} {y = y} (Let g x) e =
    let f : g' ≡ map (renamed_bind (shadowing (binders_of g) s)) g = cc in
    let i : y ≡ renamed_expr (shadowing (binders_of g) s) x = cc in
    record { group = g; body = x; is = refl; group_is = f; body_is = i }
let_of s (Case x alts) e = absurd cc

pub record IsCase (s : Scope) (y : Expr) (ys : Alts) (x : Expr) : Type 0 where
  pub tested : Expr
  pub alts : Alts
  pub is : x ≡ Case tested alts
  pub tested_is : y ≡ renamed_expr s tested
  pub alts_is : ys ≡ renamed_alts s alts

case_of : (s : Scope) {y : Expr} {ys : Alts} (x : Expr) → Case y ys ≡ renamed_expr s x
    → IsCase s y ys x
case_of s (App a) e = absurd cc
case_of s (Let g x) e = absurd cc
case_of s {y = y} {ys = ys} (Case x alts) e =
    let f : y ≡ renamed_expr s x = cc in
    let i : ys ≡ renamed_alts s alts = cc in
    record { tested = x; alts = alts; is = refl; tested_is = f; alts_is = i }

no_alts_of : (s : Scope) (alts : Alts) → NoAlts ≡ renamed_alts s alts → alts ≡ NoAlts
no_alts_of s NoAlts e = refl
no_alts_of s (AndAlt p x alts) e = absurd cc

pub record IsAlt (s : Scope) (p : Pattern) (y : Expr) (ys alts : Alts) : Type 0 where
  pub body : Expr
  pub rest : Alts
  pub is : alts ≡ AndAlt p body rest
  pub body_is : y ≡ renamed_expr (shadowing (bound_by p) s) body
  pub rest_is : ys ≡ renamed_alts s rest

alt_of : (s : Scope) {p : Pattern} {y : Expr} {ys : Alts} (alts : Alts)
    → AndAlt p y ys ≡ renamed_alts s alts → IsAlt s p y ys alts
alt_of s NoAlts e = absurd cc
alt_of s {p = p} {y = y} {ys = ys} (AndAlt q x rest) e =
    let f : q ≡ p = cc in
    let g : y ≡ renamed_expr (shadowing (bound_by q) s) x = cc in
    let h : ys ≡ renamed_alts s rest = cc in
    record {
      body = x;
      rest = rest;
      is = ap (λ w. AndAlt w x rest) f;
      body_is
          = g ∙ ap (λ w. renamed_expr (shadowing (bound_by w) s) x) f;
      rest_is = h;
    }

pub record IsMember (s : Scope) (b' : Bind) (bs' bs : List Bind) : Type 0 where
  pub member : Bind
  pub rest : List Bind
  pub is : bs ≡ member ∷ rest
  pub member_is : b' ≡ renamed_bind s member
  pub rest_is : bs' ≡ map (renamed_bind s) rest

member_of : (s : Scope) {b' : Bind} {bs' : List Bind} (bs : List Bind)
    → b' ∷ bs' ≡ map (renamed_bind s) bs → IsMember s b' bs' bs
member_of s [] e = absurd cc
member_of s {b' = b'} {bs' = bs'} (b ∷ bs) e =
    let f : b' ≡ renamed_bind s b = cc in
    let g : bs' ≡ map (renamed_bind s) bs = cc in
    record { member = b; rest = bs; is = refl; member_is = f; rest_is = g }

no_members_of : (s : Scope) (bs : List Bind) → [] ≡ map (renamed_bind s) bs → bs ≡ []
no_members_of s [] e = refl
no_members_of s (b ∷ bs) e = absurd cc

names_renamed : (s : Scope) (bs : List Bind) → map (λ (b : Bind). b.binder.name.0)
    (map (renamed_bind s) bs) ≡ map (λ (b : Binder). b.name.0) (binders_of bs)
names_renamed s [] = refl
names_renamed s (b ∷ bs) = ap (λ w. b.binder.name.0 ∷ w) (names_renamed s bs)

names_same : (bs : List Bind) → map (λ (b : Bind). b.binder.name.0) bs ≡ map
    (λ (b : Binder). b.name.0) (binders_of bs)
names_same [] = refl
names_same (b ∷ bs) = ap (λ w. b.binder.name.0 ∷ w) (names_same bs)

-- ---- names below a bound

abbrev pub BinderFits : ℕ → Binder → Type 0
BinderFits top b = b.name.0 < top

abbrev pub AppFits : ℕ → Application → Type 0
AppFits top a = FitsTerm top a.head × FitsTerms top a.args

abbrev mutual
  pub FitsExpr : ℕ → Expr → Type 0
  FitsExpr top (App a) = AppFits top a
  FitsExpr top (Let group x) = AllOf (BinderFits top) (binders_of group)
      × (AllOf (λ b. AppFits top b.app) group × FitsExpr top x)
  FitsExpr top (Case x alts) = FitsExpr top x × FitsAlts top alts

  pub FitsAlts : ℕ → Alts → Type 0
  FitsAlts top NoAlts = Unit {0}
  FitsAlts top (AndAlt p x alts) = AllOf (BinderFits top) (bound_by p)
      × (FitsExpr top x × FitsAlts top alts)

-- ---- constructors with all their fields

abbrev mutual
  pub TermFits : (ℕ → ℕ) → normal.Term → Type 0
  TermFits many (normal.App f) = ConFits many f
  TermFits many (normal.Let group e) = NewsFit many group × TermFits many e
  TermFits many (normal.Case e bs) = TermFits many e × BranchesFit many bs

  pub BranchesFit : (ℕ → ℕ) → normal.Branches → Type 0
  BranchesFit many normal.NoMore = Unit {0}
  BranchesFit many (normal.OnCon c xs e bs) = (length xs ≡ many c)
      × (TermFits many e × BranchesFit many bs)
  BranchesFit many (normal.OnInt k e bs) = TermFits many e × BranchesFit many bs
  BranchesFit many (normal.OnAny x e bs) = TermFits many e × BranchesFit many bs

-- ---- later locals have larger numbers

mutual
  pub normal_grows : {p : Program} {s : Scope} {n m : ℕ} {x : Expr} {e : normal.Term}
      → IsNormal p s n x e m → n ≤ m
  normal_grows (PlainApp d) = omega arith
  normal_grows (BoundApp d) = omega arith
  normal_grows (Group inner xs bounds e g b) = let h = normal_grows b in omega (arith, h)
  normal_grows (Choice a b) = let h = normal_grows a in let i = branches_grow b
      in omega (arith, h, i)

  pub branches_grow : {p : Program} {s : Scope} {n m : ℕ} {alts : Alts} {bs : normal.Branches}
      → AreBranches p s n alts bs m → n ≤ m
  branches_grow NoBranches = omega arith
  branches_grow (ConBranch xs e r a b) = let h = normal_grows a in let i = branches_grow b
      in omega (arith, h, i)
  branches_grow (IntBranch a b) = let h = normal_grows a in let i = branches_grow b
      in omega (arith, h, i)
  branches_grow (NamelessBranch e a b) = let h = normal_grows a in let i = branches_grow b
      in omega (arith, h, i)
  branches_grow (NamedBranch e a b) = let h = normal_grows a in let i = branches_grow b
      in omega (arith, h, i)

group_numbered : {p : Program} {s : Scope} {n : ℕ} {bs : List Bind} {bounds : List Bound}
    {xs : List ℕ} → IsGroup p s n bs bounds xs → LocalsAreConsecutive n bounds
group_numbered NoMembers = tt
group_numbered {p = p} {s = s} {n = n} (AndMember news bounds form t d e g is) =
    subst (LocalsAreConsecutive n) (sym is)
    (numbered_both n t news (bound t form ∷ bounds) e (flat_numbered p s d)
    (refl, group_numbered g))

-- the locals of the members, in another numbering
abbrev pub moved : (n n' : ℕ) → List ℕ → List ℕ
moved n n' xs = map (λ x. n + (x - n')) xs

group_many : {p : Program} {s : Scope} {n : ℕ} {bs : List Bind} {bounds : List Bound} {xs : List ℕ}
    → IsGroup p s n bs bounds xs → length xs ≡ length bs
group_many NoMembers = refl
group_many (AndMember news bounds form t d e g is) = ap suc (group_many g)

-- each is one of the locals of the group
members_linked : (ps : LocalPairs) (n0 n0' : ℕ) {p : Program} {s : Scope} (n : ℕ) {n' : ℕ}
    {bs : List Bind} {bounds : List Bound} {xs : List ℕ} → IsGroup p s n' bs bounds xs → n0' ≤ n'
    → n + n0' ≡ n' + n0
    → ((i : ℕ) → i < length bounds → LocalsCorrespond ps (n + i) (n' + i))
    → Pairwise (LocalsCorrespond ps) (moved n0 n0' xs) xs
members_linked ps n0 n0' n NoMembers le e h = tt
members_linked ps n0 n0' n {n' = n'} {xs = xs} (AndMember news bounds form t d at g is) le e h =
    let l = ap length is ∙ length-append news (bound t form ∷ bounds) in
    let a : n + length news ≡ n0 + (t - n0') = omega (arith, at, le, e) in
    let b : n' + length news ≡ t = omega (arith, at) in
    let first : LocalsCorrespond ps (n0 + (t - n0')) t
    = subst (λ z. LocalsCorrespond ps z t) a
    (subst (λ z. LocalsCorrespond ps (n + length news) z) b
    (h (length news) (omega (arith, l)))) in
    let rest : (i : ℕ) → i < length bounds → LocalsCorrespond ps (n + length news + 1 + i)
    (t + 1 + i) =
    λ i lt.
    let c : n + (length news + suc i) ≡ n + length news + 1 + i = omega arith in
    let c' : n' + (length news + suc i) ≡ t + 1 + i = omega (arith, at) in
    subst (λ z. LocalsCorrespond ps z (t + 1 + i)) c
    (subst (λ z. LocalsCorrespond ps (n + (length news + suc i)) z) c'
    (h (length news + suc i) (omega (arith, lt, l)))) in (
      first,
      members_linked ps n0 n0' (n + length news + 1) g (omega (arith, le, at))
          (omega (arith, e, at)) rest,
    )

placed_next : (ps : LocalPairs) (n n' len : ℕ) →
    ((i : ℕ) → i < suc len → LocalsCorrespond ps (n + i) (n' + i)) → (i : ℕ) → i < len
    → LocalsCorrespond ps (n + 1 + i) (n' + 1 + i)
placed_next ps n n' len h i lt =
    let a : n + suc i ≡ n + 1 + i = omega arith in
    let b : n' + suc i ≡ n' + 1 + i = omega arith in
    subst (λ z. LocalsCorrespond ps z (n' + 1 + i)) a
    (subst (λ z. LocalsCorrespond ps (n + suc i) z) b (h (suc i) (omega (arith, lt))))

none_alike : {X Y : Type 0} (R : X → Y → Type 0) (xs : List X) → Pairwise R xs [] → xs ≡ []
none_alike R [] h = refl
none_alike R (x ∷ xs) h = absurd h

module _ (arity many : ℕ → ℕ) (IsFun : ℕ → Type 0) (first second : Program)
    (cons : (c : ℕ) → con_number second c ≡ con_number first c) (top : ℕ)
    (named : (w : List ℕ) (x : ℕ) → x < top → is_named second w x ≡ is_named first w x) where
  abbrev Seen : LocalPairs → Scope → Scope → Scope → Type 0
  Seen = Sees arity many IsFun first second cons top

  abbrev Alike : LocalPairs → List Bound → List Bound → Type 0
  Alike = NewsAlike arity many IsFun first second cons top

  abbrev AlikeBound : LocalPairs → Bound → Bound → Type 0
  AlikeBound ps b c = FlatAlike arity many IsFun ps b.flat c.flat

  -- ---- groups

  record GroupMade (ps : LocalPairs) (t : Scope) (n : ℕ) (bs : List Bind) (xs : List ℕ)
      (group' : List Bound) : Type 0 where
    group : List Bound
    is : IsGroup first t n bs group xs
    alike : Alike ps group group'

  group_alike : (ps : LocalPairs) (t t' s : Scope) → Seen ps t t' s
      → (n0 n0' n : ℕ) {n' : ℕ} {bs' : List Bind} {group' : List Bound} {xs' : List ℕ}
      → IsGroup second t' n' bs' group' xs' → (bs : List Bind) → bs' ≡ map (renamed_bind s) bs
      → AllOf (λ b. AppFits top b.app) bs → n0' ≤ n' → n + n0' ≡ n' + n0
      → ((i : ℕ) → i < length group' → LocalsCorrespond ps (n + i) (n' + i))
      → NewsFit many group' → GroupMade ps t n bs (moved n0 n0' xs') group'
  group_alike ps t t' s sees n0 n0' n NoMembers bs e fits le o p nf
      = subst (λ z. GroupMade ps t n z [] []) (sym (no_members_of s bs e))
      (record { group = []; is = NoMembers; alike = tt })
  group_alike ps t t' s sees n0 n0' n {n' = n'} {group' = group'}
      (AndMember {xs = xs'} news' bounds' form' place d at g cut) bs e fits le o p nf =
      let q = member_of s bs e in
      let fq : AllOf (λ (b : Bind). AppFits top b.app) (q.member ∷ q.rest)
      = subst (AllOf (λ (b : Bind). AppFits top b.app)) q.is fits in
      let nf1 = left_of (λ (b : Bound). ConFits many b.flat) news' (bound place form' ∷ bounds')
      group' cut nf in
      let nf2 = right_of (λ (b : Bound). ConFits many b.flat) news' (bound place form' ∷ bounds')
      group' cut nf in
      let m1 = flat_alike arity many IsFun first second cons top ps t t' s sees n d
      q.member.app.head q.member.app.args (ap (λ (b : Bind). b.app.head) q.member_is)
      (ap (λ (b : Bind). b.app.args) q.member_is) fq.0.0 fq.0.1
      (placed_left arity many IsFun first second cons top ps n n' news'
      (bound place form' ∷ bounds') group' cut p) nf1 nf2.0 in
      let l = pairs_long (AlikeBound ps) m1.news news' m1.alike in
      let here : ℕ = n0 + (place - n0') in
      let here_is : here ≡ n + length news' = omega (arith, at, le, o) in
      let p' = placed_right arity many IsFun first second cons top ps n n' here place news'
      (bound place form' ∷ bounds') group' cut here_is at p in
      let m2 = group_alike ps t t' s sees n0 n0' (here + 1) g q.rest q.rest_is fq.1
      (omega (arith, le, at)) (omega (arith, o, at, here_is))
      (placed_next ps here place (length bounds') p') nf2.1 in
      subst (λ z. GroupMade ps t n z (here ∷ moved n0 n0' xs') group') (sym q.is) (record {
        group = m1.news ++ bound here m1.form ∷ m2.group;
        is = AndMember m1.news m2.group m1.form here m1.is (omega (arith, here_is, l)) m2.is refl;
        alike = subst (Alike ps (m1.news ++ bound here m1.form ∷ m2.group)) (sym cut)
            (pairs_append (AlikeBound ps) m1.news (bound here m1.form ∷ m2.group) news'
            (bound place form' ∷ bounds') m1.alike (m1.form_alike, m2.alike));
      })

  -- ---- expressions

  pub record NormalMade (ps : LocalPairs) (t : Scope) (n : ℕ) (x : Expr) (e' : normal.Term)
      : Type 0 where
    pub term : normal.Term
    pub after : ℕ
    pub is : IsNormal first t n x term after
    pub alike : TermAlike arity many IsFun ps term e'

  pub record BranchesMade (ps : LocalPairs) (t : Scope) (n : ℕ) (alts : Alts)
      (bs' : normal.Branches) : Type 0 where
    pub branches : normal.Branches
    pub after : ℕ
    pub is : AreBranches first t n alts branches after
    pub alike : BranchesAlike arity many IsFun ps branches bs'

  plain_made : (ps : LocalPairs) (t : Scope) (n : ℕ) (a : Application) (news : List Bound)
      (form form' : Flat) → IsFlat first t n a.head a.args news form → Alike ps news []
      → FlatAlike arity many IsFun ps form form' → NormalMade ps t n (App a) (normal.App form')
  plain_made ps t n a news form form' d h f =
      record {
        term = normal.App form;
        after = n;
        is
            = PlainApp
            (subst (λ z. IsFlat first t n a.head a.args z form) (none_alike (AlikeBound ps) news h)
            d);
        alike = AlikeApp f;
      }

  -- a group whose bindings are alike under all of its locals
  let_made : (ps : LocalPairs) (n n' : ℕ) (group group' : List Bound) (e e' : normal.Term)
      → LocalsAreConsecutive n group → LocalsAreConsecutive n' group'
      → Alike (grown ps n n' (length group')) group group'
      → TermAlike arity many IsFun (grown ps n n' (length group')) e e'
      → TermAlike arity many IsFun ps (normal.Let group e) (normal.Let group' e')
  let_made ps n n' group group' e e' a b h f =
      let same = group_grown group group' ps n n' a b
      (pairs_long (AlikeBound (grown ps n n' (length group'))) group group' h) in
      AlikeLet (subst (λ z. Alike z group group') (sym same) h)
      (subst (λ z. TermAlike arity many IsFun z e e') (sym same) f)

  bound_made : (ps : LocalPairs) (t : Scope) (n n' : ℕ) (a : Application) (news : List Bound)
      (form : Flat) (new' : Bound) (news' : List Bound) (form' : Flat)
      → IsFlat first t n a.head a.args news form → LocalsAreConsecutive n' (new' ∷ news')
      → Alike (grown ps n n' (length (new' ∷ news'))) news (new' ∷ news')
      → FlatAlike arity many IsFun (grown ps n n' (length (new' ∷ news'))) form form'
      → NormalMade ps t n (App a) (normal.Let (new' ∷ news') (normal.App form'))
  bound_made ps t n n' a [] form new' news' form' d b h f = absurd h
  bound_made ps t n n' a (new ∷ news) form new' news' form' d b h f = record {
    term = normal.Let (new ∷ news) (normal.App form);
    after = n + length (new ∷ news);
    is = BoundApp d;
    alike = let_made ps n n' (new ∷ news) (new' ∷ news') (normal.App form) (normal.App form')
        (flat_numbered first t d) b h (AlikeApp f);
  }

  mutual
    pub normal_alike : (ps : LocalPairs) (t t' s : Scope) → Seen ps t t' s
        → (n : ℕ) {n' m' : ℕ} {y : Expr} {e' : normal.Term} → Below ps n n'
        → IsNormal second t' n' y e' m' → (x : Expr) → y ≡ renamed_expr s x → FitsExpr top x
        → TermFits many e' → NormalMade ps t n x e'
    normal_alike ps t t' s sees n {n' = n'} below (PlainApp {form = form'} d) x e fits tf =
        let q = app_of s x e in
        let fq : FitsExpr top (App q.app) = subst (FitsExpr top) q.is fits in
        let m = flat_alike arity many IsFun first second cons top ps t t' s sees n d q.app.head
        q.app.args (ap (λ (a : Application). a.head) q.app_is)
        (ap (λ (a : Application). a.args) q.app_is) fq.0 fq.1
        (λ i lt. absurd (omega (arith, lt))) tt tf in
        subst (λ z. NormalMade ps t n z (normal.App form')) (sym q.is)
        (plain_made ps t n q.app m.news m.form form' m.is m.alike m.form_alike)
    normal_alike ps t t' s sees n {n' = n'} below
        (BoundApp {new = new'} {news = news'} {form = form'} d) x e fits tf =
        let q = app_of s x e in
        let fq : FitsExpr top (App q.app) = subst (FitsExpr top) q.is fits in
        let qs : LocalPairs = grown ps n n' (length (new' ∷ news')) in
        let sees' : Seen qs t t' s = sees_more arity many IsFun first second cons top named ps qs t
        t' s (kept_grown (length (new' ∷ news')) ps n n' below) sees in
        let m = flat_alike arity many IsFun first second cons top qs t t' s sees' n d q.app.head
        q.app.args (ap (λ (a : Application). a.head) q.app_is)
        (ap (λ (a : Application). a.args) q.app_is) fq.0 fq.1
        (placed_grown (length (new' ∷ news')) ps n n' below) tf.0 tf.1 in
        subst (λ z. NormalMade ps t n z (normal.Let (new' ∷ news') (normal.App form'))) (sym q.is)
        (bound_made ps t n n' q.app m.news m.form new' news' form' m.is
        (flat_numbered second t' d) m.alike m.form_alike)
    normal_alike ps t t' s sees n {n' = n'} below
        (Group {group = group'} {e = e'} inner' xs' bounds' inner_is g b) x e fits tf =
        let q = let_of s x e in
        let fq : FitsExpr top (Let q.group q.body) = subst (FitsExpr top) q.is fits in
        let s2 : Scope = shadowing (binders_of q.group) s in
        let len : ℕ = length bounds' in
        let qs : LocalPairs = grown ps n n' len in
        let xs : List ℕ = moved n n' xs' in
        let inner : Scope = binds_all first (map (λ (b : Bind). b.binder.name.0) q.group) xs t in
        let placed = placed_grown len ps n n' below in
        let linked : Pairwise (LocalsCorrespond qs) xs xs'
        = members_linked qs n n' n g (omega arith) (omega arith) placed in
        let many_of : length xs ≡ length (binders_of q.group) =
        length_map (λ x. n + (x - n')) xs' ∙ group_many g ∙ ap length q.group_is ∙ length_map
        (renamed_bind s2) q.group ∙ sym (length_map (λ (b : Bind). b.binder) q.group) in
        let sees' : Seen qs t t' s = sees_more arity many IsFun first second cons top named ps qs t
        t' s (kept_grown len ps n n' below) sees in
        let first_names : map (λ (b : Binder). b.name.0) (binders_of q.group) ≡ map
        (λ (b : Bind). b.binder.name.0) q.group = sym (names_same q.group) in
        let second_names : map (λ (b : Binder). b.name.0) (binders_of q.group) ≡ map
        (λ (b : Bind). b.binder.name.0) group' = sym
        (ap (map (λ (b : Bind). b.binder.name.0)) q.group_is ∙ names_renamed s2 q.group) in
        let sees2 : Seen qs inner inner' s2 =
        subst (λ z. Seen qs inner z s2)
        (ap (λ w. binds_all second w xs' t') second_names ∙ sym inner_is)
        (subst (λ w. Seen qs (binds_all first w xs t)
        (binds_all second (map (λ (b : Binder). b.name.0) (binders_of q.group)) xs' t') s2)
        first_names
        (sees_all arity many IsFun first second cons top named qs (binders_of q.group) xs xs' t t' s
        fq.0 linked many_of sees')) in
        let gm = group_alike qs inner inner' s2 sees2 n n' n g q.group q.group_is fq.1.0
        (omega arith) (omega arith) placed tf.0 in
        let l = pairs_long (AlikeBound qs) gm.group bounds' gm.alike in
        let bm = normal_alike qs inner inner' s2 sees2 (n + length gm.group)
        (below_more qs (n + len) (n' + len) (n + length gm.group) (n' + len) (omega (arith, l))
        (omega arith) (below_grown len ps n n' below)) b q.body q.body_is fq.1.1 tf.1 in
        subst (λ z. NormalMade ps t n z (normal.Let bounds' e')) (sym q.is) (record {
          term = normal.Let gm.group bm.term;
          after = bm.after;
          is = Group inner xs gm.group refl gm.is bm.is;
          alike = let_made ps n n' gm.group bounds' bm.term e' (group_numbered gm.is)
              (group_numbered g) gm.alike bm.alike;
        })
    normal_alike ps t t' s sees n {n' = n'} below (Choice {e = e'} {branches = bs'} a b) x e fits tf
        =
        let q = case_of s x e in
        let fq : FitsExpr top (Case q.tested q.alts) = subst (FitsExpr top) q.is fits in
        let am = normal_alike ps t t' s sees n below a q.tested q.tested_is fq.0 tf.0 in
        let bm = branches_alike ps t t' s sees am.after
        (below_more ps n n' am.after _ (normal_grows am.is) (normal_grows a) below) b q.alts
        q.alts_is fq.1 tf.1 in
        subst (λ z. NormalMade ps t n z (normal.Case e' bs')) (sym q.is)
        (record {
          term = normal.Case am.term bm.branches;
          after = bm.after;
          is
              = Choice am.is bm.is;
          alike = AlikeCase am.alike bm.alike;
        })

    pub branches_alike : (ps : LocalPairs) (t t' s : Scope) → Seen ps t t' s
        → (n : ℕ) {n' m' : ℕ} {ys : Alts} {bs' : normal.Branches} → Below ps n n'
        → AreBranches second t' n' ys bs' m' → (alts : Alts) → ys ≡ renamed_alts s alts
        → FitsAlts top alts → BranchesFit many bs' → BranchesMade ps t n alts bs'
    branches_alike ps t t' s sees n below NoBranches alts e fits tf
        = subst (λ z. BranchesMade ps t n z normal.NoMore) (sym (no_alts_of s alts e))
        (record { branches = normal.NoMore; after = n; is = NoBranches; alike = AlikeNoMore })
    branches_alike ps t t' s sees n {n' = n'} below
        (ConBranch {number = number} {at = at} {fields = fields} {e = e'} {branches = bs'} xs' known
        xs_is a b) alts e fits tf =
        let q = alt_of s alts e in
        let fq : FitsAlts top (AndAlt (pattern.Con at fields) q.body q.rest)
        = subst (FitsAlts top) q.is fits in
        let len : ℕ = length fields in
        let qs : LocalPairs = grown ps n n' len in
        let xs : List ℕ = range_with_len n len in
        let names : List ℕ = map (λ (b : Binder). b.name.0) fields in
        let s2 : Scope = shadowing fields s in
        let sees' : Seen qs t t' s = sees_more arity many IsFun first second cons top named ps qs t
        t' s (kept_grown len ps n n' below) sees in
        let sees2 : Seen qs (binds_all first names xs t) (binds_all second names xs' t') s2 =
        subst (λ w. Seen qs (binds_all first names xs t) (binds_all second names w t') s2)
        (sym xs_is)
        (sees_all arity many IsFun first second cons top named qs fields xs (range_with_len n' len)
        t t' s fq.0 (placed_pairs qs len n n' (placed_grown len ps n n' below))
        (length-range_with_len n len) sees') in
        let am = normal_alike qs (binds_all first names xs t) (binds_all second names xs' t') s2
        sees2 (n + len) (below_grown len ps n n' below) a q.body q.body_is fq.1.0 tf.1.0 in
        let grows : n + len ≤ am.after = normal_grows am.is in
        let grows' : n' + len ≤ _ = normal_grows a in
        let bm = branches_alike ps t t' s sees am.after
        (below_more ps n n' am.after _ (omega (arith, grows)) (omega (arith, grows')) below) b
        q.rest q.rest_is fq.1.1 tf.1.1 in
        let long' : length xs' ≡ len = ap length xs_is ∙ length-range_with_len n' len in
        let pairs_are : qs ≡ linked_all xs xs' ps = ap (λ w. linked_all xs w ps) (sym xs_is) in
        subst (λ z. BranchesMade ps t n z (normal.OnCon number xs' e' bs')) (sym q.is) (record {
          branches = normal.OnCon number xs am.term bm.branches;
          after = bm.after;
          is = ConBranch xs (sym (cons at.name.0) ∙ known) refl am.is bm.is;
          alike = AlikeOnCon (length-range_with_len n len ∙ sym long' ∙ tf.0) tf.0
              (subst (λ z. TermAlike arity many IsFun z am.term e') pairs_are am.alike) bm.alike;
        })
    branches_alike ps t t' s sees n {n' = n'} below
        (IntBranch {at = at} {number = number} {e = e'} {branches = bs'} a b) alts e fits tf =
        let q = alt_of s alts e in
        let fq : FitsAlts top (AndAlt (pattern.Int number at) q.body q.rest)
        = subst (FitsAlts top) q.is fits in
        let am = normal_alike ps t t' s sees n below a q.body q.body_is fq.1.0 tf.0 in
        let bm = branches_alike ps t t' s sees am.after
        (below_more ps n n' am.after _ (normal_grows am.is) (normal_grows a) below) b q.rest
        q.rest_is fq.1.1 tf.1 in
        subst (λ z. BranchesMade ps t n z (normal.OnInt number e' bs')) (sym q.is)
        (record {
          branches = normal.OnInt number am.term bm.branches;
          after = bm.after;
          is
              = IntBranch am.is bm.is;
          alike = AlikeOnInt am.alike bm.alike;
        })
    branches_alike ps t t' s sees n {n' = n'} below
        (NamelessBranch {x = x} {e = e'} {branches = bs'} none a b) alts e fits tf =
        let q = alt_of s alts e in
        let fq : FitsAlts top (AndAlt (pattern.Default x) q.body q.rest)
        = subst (FitsAlts top) q.is fits in
        let none1 : is_named first (codes "_") x.name.0 ≡ true
        = sym (named (codes "_") x.name.0 fq.0.0) ∙ none in
        let s2 : Scope = (x.name.0, x.name.0) ∷ s in
        let sees2 : Seen ps t t' s2 = sees_nameless arity many IsFun first second cons top named ps
        x.name.0 t t' s fq.0.0 none1 sees in
        let am = normal_alike ps t t' s2 sees2 n below a q.body q.body_is fq.1.0 tf.0 in
        let bm = branches_alike ps t t' s sees am.after
        (below_more ps n n' am.after _ (normal_grows am.is) (normal_grows a) below) b q.rest
        q.rest_is fq.1.1 tf.1 in
        subst (λ z. BranchesMade ps t n z (normal.OnAny None e' bs')) (sym q.is)
        (record {
          branches = normal.OnAny None am.term bm.branches;
          after = bm.after;
          is
              = NamelessBranch none1 am.is bm.is;
          alike = AlikeOnAny am.alike bm.alike;
        })
    branches_alike ps t t' s sees n {n' = n'} below
        (NamedBranch {x = x} {e = e'} {branches = bs'} some a b) alts e fits tf =
        let q = alt_of s alts e in
        let fq : FitsAlts top (AndAlt (pattern.Default x) q.body q.rest)
        = subst (FitsAlts top) q.is fits in
        let some1 : is_named first (codes "_") x.name.0 ≡ false
        = sym (named (codes "_") x.name.0 fq.0.0) ∙ some in
        let b0 : ℕ = x.name.0 in
        let s2 : Scope = (b0, b0) ∷ s in
        let qs : LocalPairs = (n, n') ∷ ps in
        let sees2 : Seen qs (binds first b0 n t) (binds second b0 n' t') s2 =
        sees_one arity many IsFun first second cons top named qs b0 n n' t t' s fq.0.0
        (inl (refl, refl))
        (sees_more arity many IsFun first second cons top named ps qs t t' s
        (kept_one ps n n' below) sees) in
        let am = normal_alike qs (binds first b0 n t) (binds second b0 n' t') s2 sees2 (n + 1)
        (below_one ps n n' below) a q.body q.body_is fq.1.0 tf.0 in
        let grows : n + 1 ≤ am.after = normal_grows am.is in
        let grows' : n' + 1 ≤ _ = normal_grows a in
        let bm = branches_alike ps t t' s sees am.after
        (below_more ps n n' am.after _ (omega (arith, grows)) (omega (arith, grows')) below) b
        q.rest q.rest_is fq.1.1 tf.1 in
        subst (λ z. BranchesMade ps t n z (normal.OnAny (Some n') e' bs')) (sym q.is)
        (record {
          branches = normal.OnAny (Some n) am.term bm.branches;
          after = bm.after;
          is
              = NamedBranch some1 am.is bm.is;
          alike = AlikeOnName am.alike bm.alike;
        })
