-- An application of renamed terms has a flat form: so have the terms themselves, and the two are
-- alike.
use Rattle.std.proofs.Common.{◌≡◌, ◌⊎◌, ℕ, suc, ◌+◌, ◌≤◌, ◌<◌, Bool, true, false, cond, List, [], ◌∷◌, ◌++◌, length, Option, Some, None, refl, sym, ap, ◌∙◌, subst, arith, length-append}
use Rattle.std.specs.Prelude.{ℤ, ◌==◌}
use Rattle.seq.specs.Lists.{AllOf}
use Rattle.seq.proofs.Order.{eq_from}
use Rattle.core_reader.specs.Tree.{Term, Terms, Name, Con, Int, Bracket, NoTerms, AndTerm, Program}
use Rattle.arity_check.specs.declared.normal.Bound.{Bound}
use Rattle.arity_check.specs.declared.normal.Flat.{Flat}
use Rattle.arity_check.specs.declared.normal.Flat.TheVariants as flat
use Rattle.arity_check.specs.declared.normal.Var.{Var}
use Rattle.arity_check.specs.declared.normal.Var.TheVariants as var
use Rattle.arity_check.specs.declared.normal.PrimOp.{PrimOp}
use Rattle.arity_check.specs.declared.meaning.Meaning.{Meaning}
use Rattle.arity_check.specs.declared.meaning.Meaning.TheVariants.{Local, Function, Primitive, Unbound}
use Rattle.arity_check.specs.Scope.{Scope, means, con_number}
use Rattle.arity_check.specs.Normal.{append, bound, HasTerm, Pairwise, itself, itself_as, IsFlat, Number, Constructor, Named, NumberApplied, BracketApplied, LoneHead, LoneBracket, IsNamed, OfPrimitive, OfLocal, OfGlobal, Called, Partial, Exceeded, IsApplied, Applied, AreArgs, NoArgs, AndArg, IsArg, Itself, New}
use Rattle.match_compile.specs.Renamed.{renamed_name, renamed_term, renamed_terms}
use Rattle.match_compile.specs.Alike.{LocalPairs, LocalsCorrespond, VarAlike, AlikeLocal, AlikeGlobal, VarsAlike, FlatAlike, AlikeInt, AlikeCon, AlikePart, AlikeCall, AlikeApply, AlikePrim}

-- ---- what is renamed to a term

name_of : (s : Scope) {y at : ℕ} (a : Term) → Name y at ≡ renamed_term s a → (x : ℕ)
    × ((a ≡ Name x at) × (y ≡ renamed_name s x))
name_of s {y = y} {at = at} (Name x at') e = let f : at' ≡ at = cc in let g : y ≡ renamed_name s x
    = cc in (x, (ap (Name x) f, g))
name_of s (Con c at') e = absurd cc
name_of s (Int k at') e = absurd cc
name_of s (Bracket h xs at') e = absurd cc

con_of : (s : Scope) {c at : ℕ} (a : Term) → Con c at ≡ renamed_term s a → a ≡ Con c at
con_of s (Name x at') e = absurd cc
con_of s (Con d at') e = sym e
con_of s (Int k at') e = absurd cc
con_of s (Bracket h xs at') e = absurd cc

int_of : (s : Scope) {k : ℤ} {at : ℕ} (a : Term) → Int k at ≡ renamed_term s a → a ≡ Int k at
int_of s (Name x at') e = absurd cc
int_of s (Con d at') e = absurd cc
int_of s (Int k at') e = sym e
int_of s (Bracket h xs at') e = absurd cc

pub record IsBracket (s : Scope) (h : Term) (hs : Terms) (at : ℕ) (a : Term) : Type 0 where
  pub head : Term
  pub inner : Terms
  pub is : a ≡ Bracket head inner at
  pub head_is : h ≡ renamed_term s head
  pub inner_is : hs ≡ renamed_terms s inner

bracket_of : (s : Scope) {h : Term} {hs : Terms} {at : ℕ} (a : Term)
    → Bracket h hs at ≡ renamed_term s a → IsBracket s h hs at a
bracket_of s (Name x at') e = absurd cc
bracket_of s (Con d at') e = absurd cc
bracket_of s (Int k at') e = absurd cc
bracket_of s {h = h} {hs = hs} {at = at} (Bracket head inner at') e =
    let f : at' ≡ at = cc in
    let g : h ≡ renamed_term s head = cc in
    let i : hs ≡ renamed_terms s inner = cc in
    record { head = head; inner = inner; is = ap (Bracket head inner) f; head_is = g; inner_is = i }

none_of : (s : Scope) (args : Terms) → NoTerms ≡ renamed_terms s args → args ≡ NoTerms
none_of s NoTerms e = refl
none_of s (AndTerm a as') e = absurd cc

pub record AreSome (s : Scope) (a : Term) (as' args : Terms) : Type 0 where
  pub first : Term
  pub rest : Terms
  pub is : args ≡ AndTerm first rest
  pub first_is : a ≡ renamed_term s first
  pub rest_is : as' ≡ renamed_terms s rest

some_of : (s : Scope) {a : Term} {as' : Terms} (args : Terms) → AndTerm a as' ≡ renamed_terms s args
    → AreSome s a as' args
some_of s NoTerms e = absurd cc
some_of s {a = a} {as' = as'} (AndTerm b bs) e =
    let f : a ≡ renamed_term s b = cc in
    let g : as' ≡ renamed_terms s bs = cc in
    record { first = b; rest = bs; is = refl; first_is = f; rest_is = g }

-- one list after another
pub record AreBoth (s : Scope) (xs ys args : Terms) : Type 0 where
  pub first : Terms
  pub rest : Terms
  pub is : args ≡ append first rest
  pub first_is : xs ≡ renamed_terms s first
  pub rest_is : ys ≡ renamed_terms s rest

both_of : (s : Scope) (xs ys args : Terms) → append xs ys ≡ renamed_terms s args
    → AreBoth s xs ys args
both_of s NoTerms ys args e = record
    { first = NoTerms; rest = args; is = refl; first_is = refl; rest_is = e }
both_of s (AndTerm a xs) ys args e =
    let p = some_of s args e in
    let q = both_of s xs ys p.rest p.rest_is in
    record {
      first = AndTerm p.first q.first;
      rest = q.rest;
      is
          = p.is ∙ ap (AndTerm p.first) q.is;
      first_is
          = λ i. AndTerm (p.first_is i) (q.first_is i);
      rest_is = q.rest_is;
    }

has_term : (s : Scope) (ys bs : Terms) → ys ≡ renamed_terms s bs → HasTerm ys → HasTerm bs
has_term s ys NoTerms e h = subst HasTerm e h
has_term s ys (AndTerm b bs) e h = tt

-- ---- names below a bound

abbrev mutual
  pub FitsTerm : ℕ → Term → Type 0
  FitsTerm top (Name x at) = x < top
  FitsTerm top (Con c at) = Unit {0}
  FitsTerm top (Int k at) = Unit {0}
  FitsTerm top (Bracket h xs at) = FitsTerm top h × FitsTerms top xs

  pub FitsTerms : ℕ → Terms → Type 0
  FitsTerms top NoTerms = Unit {0}
  FitsTerms top (AndTerm a as') = FitsTerm top a × FitsTerms top as'

fits_both : (top : ℕ) (xs ys : Terms) → FitsTerms top (append xs ys) → FitsTerms top xs
    × FitsTerms top ys
fits_both top NoTerms ys f = (tt, f)
fits_both top (AndTerm a xs) ys f = let g = fits_both top xs ys f.1 in ((f.0, g.0), g.1)

-- a constructor has all its fields
abbrev pub ConFits : (ℕ → ℕ) → Flat → Type 0
ConFits many (flat.Con c xs) = length xs ≡ many c
ConFits many f = Unit {0}

abbrev pub NewsFit : (ℕ → ℕ) → List Bound → Type 0
NewsFit many = AllOf (λ b. ConFits many b.flat)

pub left_of : {X : Type 0} (P : X → Type 0) (xs ys zs : List X) → zs ≡ xs ++ ys → AllOf P zs
    → AllOf P xs
left_of P xs ys zs e h = go xs ys (subst (AllOf P) e h)
  where
    go : (xs ys : List _) → AllOf P (xs ++ ys) → AllOf P xs
    go [] ys h = tt
    go (x ∷ xs) ys h = (h.0, go xs ys h.1)

pub right_of : {X : Type 0} (P : X → Type 0) (xs ys zs : List X) → zs ≡ xs ++ ys → AllOf P zs
    → AllOf P ys
right_of P xs ys zs e h = go xs ys (subst (AllOf P) e h)
  where
    go : (xs ys : List _) → AllOf P (xs ++ ys) → AllOf P ys
    go [] ys h = h
    go (x ∷ xs) ys h = go xs ys h.1

-- ---- pairs

pub pairs_long : {X Y : Type 0} (R : X → Y → Type 0) (xs : List X) (ys : List Y) → Pairwise R xs ys
    → length xs ≡ length ys
pairs_long R [] [] h = refl
pairs_long R [] (y ∷ ys) h = absurd h
pairs_long R (x ∷ xs) [] h = absurd h
pairs_long R (x ∷ xs) (y ∷ ys) h = ap suc (pairs_long R xs ys h.1)

pub pairs_append : {X Y : Type 0} (R : X → Y → Type 0) (xs xs' : List X) (ys ys' : List Y)
    → Pairwise R xs ys → Pairwise R xs' ys' → Pairwise R (xs ++ xs') (ys ++ ys')
pairs_append R [] xs' [] ys' h g = g
pairs_append R [] xs' (y ∷ ys) ys' h g = absurd h
pairs_append R (x ∷ xs) xs' [] ys' h g = absurd h
pairs_append R (x ∷ xs) xs' (y ∷ ys) ys' h g = (h.0, pairs_append R xs xs' ys ys' h.1 g)

-- The first program has the terms, the second what they are renamed to. Names below the top are
-- those of
-- the text.
module _ (arity many : ℕ → ℕ) (IsFun : ℕ → Type 0) (first second : Program)
    (cons : (c : ℕ) → con_number second c ≡ con_number first c) (top : ℕ) where
  pub data SameMeaning (ps : LocalPairs) : Meaning → Meaning → Type 0 where
    SameLocal : {x y : ℕ} → LocalsCorrespond ps x y → SameMeaning ps (Local x) (Local y)
    SameFunction : {f k : ℕ} → IsFun f → arity f ≡ k → SameMeaning ps (Function f k) (Function f k)
    SamePrimitive : {op : PrimOp} → SameMeaning ps (Primitive op) (Primitive op)
    SameNothing : SameMeaning ps Unbound Unbound

  -- what the names of the text stand for, and what they are renamed to does
  pub record Sees (ps : LocalPairs) (t t' s : Scope) : Type 0 where
    pub meaning : (x : ℕ) → x < top → SameMeaning ps (means first t x)
        (means second t' (renamed_name s x))
    pub image : (x : ℕ) → x < top → (renamed_name s x ≡ x) ⊎ (top ≤ renamed_name s x)

  abbrev pub AlikeVar : LocalPairs → Var → Var → Type 0
  AlikeVar = VarAlike arity many IsFun

  abbrev pub AlikeFlat : LocalPairs → Flat → Flat → Type 0
  AlikeFlat = FlatAlike arity many IsFun

  -- so many locals from n and n' on stand for one another
  abbrev pub Placed : LocalPairs → (n n' len : ℕ) → Type 0
  Placed ps n n' len = (i : ℕ) → i < len → LocalsCorrespond ps (n + i) (n' + i)

  pub placed_left : (ps : LocalPairs) (n n' : ℕ) (xs ys zs : List Bound) → zs ≡ xs ++ ys
      → Placed ps n n' (length zs) → Placed ps n n' (length xs)
  placed_left ps n n' xs ys zs e p i lt = let l = ap length e ∙ length-append xs ys
      in p i (omega (arith, l, lt))

  pub placed_right : (ps : LocalPairs) (n n' m m' : ℕ) (xs ys zs : List Bound) → zs ≡ xs ++ ys
      → m ≡ n + length xs → m' ≡ n' + length xs → Placed ps n n' (length zs)
      → Placed ps m m' (length ys)
  placed_right ps n n' m m' xs ys zs e f g p i lt =
      let l = ap length e ∙ length-append xs ys in
      let a : n + (length xs + i) ≡ m + i = omega (arith, f) in
      let b : n' + (length xs + i) ≡ m' + i = omega (arith, g) in
      subst (λ z. LocalsCorrespond ps z (m' + i)) a
      (subst (λ z. LocalsCorrespond ps (n + (length xs + i)) z) b
      (p (length xs + i) (omega (arith, l, lt))))

  abbrev pub NewsAlike : LocalPairs → List Bound → List Bound → Type 0
  NewsAlike ps = Pairwise (λ b c. AlikeFlat ps b.flat c.flat)

  module _ (ps : LocalPairs) (t t' s : Scope) (sees : Sees ps t t' s) where
    -- ---- what there is for the terms themselves

    pub record FlatMade (n : ℕ) (head : Term) (args : Terms) (news' : List Bound) (form' : Flat)
        : Type 0 where
      pub news : List Bound
      pub form : Flat
      pub is : IsFlat first t n head args news form
      pub alike : NewsAlike ps news news'
      pub form_alike : AlikeFlat ps form form'

    pub record NamedMade (n : ℕ) (m : Meaning) (args : Terms) (news' : List Bound) (form' : Flat)
        : Type 0 where
      pub news : List Bound
      pub form : Flat
      pub is : IsNamed first t n m args news form
      pub alike : NewsAlike ps news news'
      pub form_alike : AlikeFlat ps form form'

    pub record AppliedMade (n : ℕ) (inner : Flat) (args : Terms) (news' : List Bound) (form' : Flat)
        : Type 0 where
      pub news : List Bound
      pub form : Flat
      pub is : IsApplied first t n inner args news form
      pub alike : NewsAlike ps news news'
      pub form_alike : AlikeFlat ps form form'

    pub record ArgsMade (n : ℕ) (args : Terms) (news' : List Bound) (xs' : List Var) : Type 0 where
      pub news : List Bound
      pub xs : List Var
      pub is : AreArgs first t n args news xs
      pub alike : NewsAlike ps news news'
      pub xs_alike : VarsAlike arity many IsFun ps xs xs'

    pub record ArgMade (n : ℕ) (a : Term) (news' : List Bound) (x' : Var) : Type 0 where
      pub news : List Bound
      pub x : Var
      pub is : IsArg first t n a news x
      pub alike : NewsAlike ps news news'
      pub x_alike : AlikeVar ps x x'

    -- ---- a term by itself

    abbrev BothSome : Option Var → Option Var → Type 0
    BothSome None None = Unit {0}
    BothSome None (Some y) = ⊥
    BothSome (Some x) None = ⊥
    BothSome (Some x) (Some y) = AlikeVar ps x y

    as_alike : {m m' : Meaning} → SameMeaning ps m m' → BothSome (itself_as m) (itself_as m')
    as_alike (SameLocal l) = AlikeLocal l
    as_alike (SameFunction {f = f} {k = k} is e) = go (k == 0) refl
      where
        go : (b : Bool) → (k == 0) ≡ b → BothSome (cond b (Some (var.Global f)) None)
            (cond b (Some (var.Global f)) None)
        go true i = AlikeGlobal is (e ∙ eq_from k 0 i)
        go false i = tt
    as_alike SamePrimitive = tt
    as_alike SameNothing = tt

    itself_alike : (a : Term) → FitsTerm top a → BothSome (itself first t a)
        (itself second t' (renamed_term s a))
    itself_alike (Name x at) f = as_alike (sees.meaning x f)
    itself_alike (Con c at) f = tt
    itself_alike (Int k at) f = tt
    itself_alike (Bracket h NoTerms at) f = itself_alike h f.0
    itself_alike (Bracket h (AndTerm a as') at) f = tt

    pub record SomeMade (o : Option Var) (x' : Var) : Type 0 where
      pub x : Var
      pub is : o ≡ Some x
      pub alike : AlikeVar ps x x'

    some_made : (o o' : Option Var) (x' : Var) → BothSome o o' → o' ≡ Some x' → SomeMade o x'
    some_made None None x' h e = absurd cc
    some_made None (Some y) x' h e = absurd h
    some_made (Some x) None x' h e = absurd h
    some_made (Some x) (Some y) x' h e = record
        { x = x; is = refl; alike = let f : y ≡ x' = cc in subst (AlikeVar ps x) f h }

    none_made : (o o' : Option Var) → BothSome o o' → o' ≡ None → o ≡ None
    none_made None None h e = refl
    none_made None (Some y) h e = absurd h
    none_made (Some x) None h e = absurd h
    none_made (Some x) (Some y) h e = absurd cc

    pub record TwoMade (xs : List Var) (x y : Var) : Type 0 where
      pub a : Var
      pub b : Var
      pub is : xs ≡ a ∷ b ∷ []
      pub first_alike : AlikeVar ps a x
      pub second_alike : AlikeVar ps b y

    two_alike : (xs : List Var) (x y : Var) → VarsAlike arity many IsFun ps xs (x ∷ y ∷ [])
        → TwoMade xs x y
    two_alike [] x y h = absurd h
    two_alike (a ∷ []) x y h = absurd h.1
    two_alike (a ∷ b ∷ []) x y h = record
        { a = a; b = b; is = refl; first_alike = h.0; second_alike = h.1.0 }
    two_alike (a ∷ b ∷ c ∷ xs) x y h = absurd h.1.1

    -- ---- the same for what the terms are

    back : {n : ℕ} {a a' : Term} {args args' : Terms} {news' : List Bound} {form' : Flat} → a ≡ a'
        → args ≡ args' → FlatMade n a' args' news' form' → FlatMade n a args news' form'
    back {n = n} {news' = news'} {form' = form'} e f m
        = subst (λ (w : Term × Terms). FlatMade n w.0 w.1 news' form') (λ i. (sym e i, sym f i)) m

    inner_fits : {n : ℕ} {inner : Flat} {ts : Terms} {news : List Bound} {form : Flat}
        → IsApplied second t' n inner ts news form → NewsFit many news → ConFits many inner
    inner_fits (Applied d) h = h.0

    mutual
      pub flat_alike : (n : ℕ) {n' : ℕ} {h : Term} {ts : Terms} {news' : List Bound} {form' : Flat}
          → IsFlat second t' n' h ts news' form' → (a : Term) (args : Terms) → h ≡ renamed_term s a
          → ts ≡ renamed_terms s args
          → FitsTerm top a → FitsTerms top args → Placed ps n n' (length news') → NewsFit many news'
          → ConFits many form' → FlatMade n a args news' form'
      flat_alike n Number a args e f fa fs p nf cf = back (int_of s a e) (none_of s args f)
          (record { news = []; form = _; is = Number; alike = tt; form_alike = AlikeInt })
      flat_alike n (Constructor {c = c} {number = number} {xs = xs'} known d) a args e f fa fs p nf
          cf =
          let m = args_alike n d args f fs p nf in
          back (con_of s a e) refl
          (record {
            news = m.news;
            form = flat.Con number m.xs;
            is
                = Constructor (sym (cons c) ∙ known) m.is;
            alike = m.alike;
            form_alike
                = AlikeCon (pairs_long (AlikeVar ps) m.xs xs' m.xs_alike ∙ cf) m.xs_alike;
          })
      flat_alike n (Named {f = y} {at = at} {news = news'} {form = form'} d) a args e f fa fs p nf
          cf =
          let x = name_of s a e in
          let lt : x.0 < top = subst (FitsTerm top) x.1.0 fa in
          let same : SameMeaning ps (means first t x.0) (means second t' y)
          = subst (λ z. SameMeaning ps (means first t x.0) (means second t' z)) (sym x.1.1)
          (sees.meaning x.0 lt) in
          let m = named_alike n d (means first t x.0) same args f fs p nf cf in
          back x.1.0 refl
          (record {
            news = m.news;
            form = m.form;
            is = Named m.is;
            alike = m.alike;
            form_alike
                = m.form_alike;
          })
      flat_alike n (NumberApplied {k = k} d) a args e f fa fs p nf cf =
          let q = some_of s args f in
          let m = applied_alike n d (flat.Int k) (AndTerm q.first q.rest)
          (f ∙ ap (renamed_terms s) q.is) AlikeInt (subst (FitsTerms top) q.is fs) p nf in
          back (int_of s a e) q.is
          (record {
            news = m.news;
            form = m.form;
            is = NumberApplied m.is;
            alike
                = m.alike;
            form_alike = m.form_alike;
          })
      flat_alike n (BracketApplied {n = n'} {at = at} inner' news1' news2' d1 d2 cut) a args e f fa
          fs p nf cf =
          let b = bracket_of s a e in
          let fb : FitsTerm top (Bracket b.head b.inner at) = subst (FitsTerm top) b.is fa in
          let i = some_of s b.inner b.inner_is in
          let q = some_of s args f in
          let nf1 = left_of (λ (b : Bound). ConFits many b.flat) news1' news2' _ cut nf in
          let nf2 = right_of (λ (b : Bound). ConFits many b.flat) news1' news2' _ cut nf in
          let m1 = flat_alike n d1 b.head (AndTerm i.first i.rest) b.head_is
          (b.inner_is ∙ ap (renamed_terms s) i.is) fb.0 (subst (FitsTerms top) i.is fb.1)
          (placed_left ps n n' news1' news2' _ cut p) nf1 (inner_fits d2 nf2) in
          let l = pairs_long (λ b c. AlikeFlat ps b.flat c.flat) m1.news news1' m1.alike in
          let m2 = applied_alike (n + length m1.news) d2 m1.form (AndTerm q.first q.rest)
          (f ∙ ap (renamed_terms s) q.is) m1.form_alike (subst (FitsTerms top) q.is fs)
          (placed_right ps n n' (n + length m1.news) (n' + length news1') news1' news2' _ cut
          (omega (arith, l)) refl p) nf2 in
          back (b.is ∙ ap (λ w. Bracket b.head w at) i.is) q.is (record {
            news = m1.news ++ m2.news;
            form = m2.form;
            is = BracketApplied m1.form m1.news m2.news m1.is m2.is refl;
            alike = subst (NewsAlike ps (m1.news ++ m2.news)) (sym cut)
                (pairs_append (λ b c. AlikeFlat ps b.flat c.flat) m1.news m2.news news1' news2'
                m1.alike m2.alike);
            form_alike = m2.form_alike;
          })
      flat_alike n (LoneHead {at = at} d) a args e f fa fs p nf cf =
          let b = bracket_of s a e in
          let fb : FitsTerm top (Bracket b.head b.inner at) = subst (FitsTerm top) b.is fa in
          let m = flat_alike n d b.head args b.head_is f fb.0 fs p nf cf in
          back (b.is ∙ ap (λ w. Bracket b.head w at) (none_of s b.inner b.inner_is)) refl
          (record {
            news = m.news;
            form = m.form;
            is = LoneHead m.is;
            alike
                = m.alike;
            form_alike = m.form_alike;
          })
      flat_alike n (LoneBracket {at = at} d) a args e f fa fs p nf cf =
          let b = bracket_of s a e in
          let fb : FitsTerm top (Bracket b.head b.inner at) = subst (FitsTerm top) b.is fa in
          let m = flat_alike n d b.head b.inner b.head_is b.inner_is fb.0 fb.1 p nf cf in
          back b.is (none_of s args f)
          (record {
            news = m.news;
            form = m.form;
            is = LoneBracket m.is;
            alike
                = m.alike;
            form_alike = m.form_alike;
          })

      named_alike : (n : ℕ) {n' : ℕ} {m' : Meaning} {ts : Terms} {news' : List Bound} {form' : Flat}
          → IsNamed second t' n' m' ts news' form' → (m : Meaning) → SameMeaning ps m m'
          → (args : Terms) → ts ≡ renamed_terms s args
          → FitsTerms top args → Placed ps n n' (length news') → NewsFit many news'
          → ConFits many form' → NamedMade n m args news' form'
      named_alike n (OfPrimitive {op = op} {x = x} {y = y} d) m SamePrimitive args f fs p nf cf =
          let r = args_alike n d args f fs p nf in
          let w = two_alike r.xs x y r.xs_alike in
          record {
            news = r.news;
            form = flat.Prim op w.a w.b;
            is
                = OfPrimitive (subst (λ z. AreArgs first t n args r.news z) w.is r.is);
            alike
                = r.alike;
            form_alike = AlikePrim w.first_alike w.second_alike;
          }
      named_alike n (OfLocal d) m (SameLocal {x = x} l) args f fs p nf cf =
          let r = args_alike n d args f fs p nf in
          record {
            news = r.news;
            form = flat.Apply (var.Local x) r.xs;
            is = OfLocal r.is;
            alike
                = r.alike;
            form_alike = AlikeApply (AlikeLocal l) r.xs_alike;
          }
      named_alike n (OfGlobal {g = g} d) m (SameFunction is z) args f fs p nf cf =
          let r = args_alike n d args f fs p nf in
          record {
            news = r.news;
            form = flat.Apply (var.Global g) r.xs;
            is = OfGlobal r.is;
            alike
                = r.alike;
            form_alike = AlikeApply (AlikeGlobal is z) r.xs_alike;
          }
      named_alike n (Called {g = g} {xs = xs'} len d) m (SameFunction is z) args f fs p nf cf =
          let r = args_alike n d args f fs p nf in
          let l = pairs_long (AlikeVar ps) r.xs xs' r.xs_alike in
          record {
            news = r.news;
            form = flat.Call g r.xs;
            is = Called (l ∙ len) r.is;
            alike
                = r.alike;
            form_alike = AlikeCall is (l ∙ len ∙ sym z) r.xs_alike;
          }
      named_alike n (Partial {g = g} {xs = xs'} lt d) m (SameFunction is z) args f fs p nf cf =
          let r = args_alike n d args f fs p nf in
          let l = pairs_long (AlikeVar ps) r.xs xs' r.xs_alike in
          record {
            news = r.news;
            form = flat.Part g r.xs;
            is
                = Partial (omega (arith, l, lt)) r.is;
            alike = r.alike;
            form_alike
                = AlikePart is (omega (arith, l, lt, z)) r.xs_alike;
          }
      named_alike n
          (Exceeded {n = n'} {g = g} first' rest' news1' news2' xs' parts has len d1 d2 cut) m
          (SameFunction is z) args f fs p nf cf =
          let b = both_of s first' rest' args (sym parts ∙ f) in
          let fb = fits_both top b.first b.rest (subst (FitsTerms top) b.is fs) in
          let nf1 = left_of (λ (b : Bound). ConFits many b.flat) news1' news2' _ cut nf in
          let nf2 = right_of (λ (b : Bound). ConFits many b.flat) news1' news2' _ cut nf in
          let m1 = args_alike n d1 b.first b.first_is fb.0
          (placed_left ps n n' news1' news2' _ cut p) nf1 in
          let l = pairs_long (λ b c. AlikeFlat ps b.flat c.flat) m1.news news1' m1.alike in
          let lx = pairs_long (AlikeVar ps) m1.xs xs' m1.xs_alike in
          let m2 = applied_alike (n + length m1.news) d2 (flat.Call g m1.xs) b.rest b.rest_is
          (AlikeCall is (lx ∙ len ∙ sym z) m1.xs_alike) fb.1
          (placed_right ps n n' (n + length m1.news) (n' + length news1') news1' news2' _ cut
          (omega (arith, l)) refl p) nf2 in
          record {
            news = m1.news ++ m2.news;
            form = m2.form;
            is = Exceeded b.first b.rest m1.news m2.news m1.xs b.is
                (has_term s rest' b.rest b.rest_is has) (lx ∙ len) m1.is m2.is refl;
            alike = subst (NewsAlike ps (m1.news ++ m2.news)) (sym cut)
                (pairs_append (λ b c. AlikeFlat ps b.flat c.flat) m1.news m2.news news1' news2'
                m1.alike m2.alike);
            form_alike = m2.form_alike;
          }

      applied_alike : (n : ℕ) {n' : ℕ} {inner' : Flat} {ts : Terms} {news' : List Bound}
          {form' : Flat} → IsApplied second t' n' inner' ts news' form'
          → (inner : Flat) (args : Terms) → ts ≡ renamed_terms s args → AlikeFlat ps inner inner'
          → FitsTerms top args → Placed ps n n' (length news') → NewsFit many news'
          → AppliedMade n inner args news' form'
      applied_alike n (Applied {n = n'} {news = ns'} d) inner args f alike fs p nf =
          let m = args_alike (n + 1) d args f fs (λ i lt.
          let a : n + suc i ≡ n + 1 + i = omega arith in
          let b : n' + suc i ≡ n' + 1 + i = omega arith in
          subst (λ z. LocalsCorrespond ps z (n' + 1 + i)) a
          (subst (λ z. LocalsCorrespond ps (n + suc i) z) b (p (suc i) (omega (arith, lt)))))
          nf.1 in
          let here : LocalsCorrespond ps n n' =
          let a : n + 0 ≡ n = omega arith in
          let b : n' + 0 ≡ n' = omega arith in
          subst (λ z. LocalsCorrespond ps z n') a
          (subst (λ z. LocalsCorrespond ps (n + 0) z) b (p 0 (omega arith))) in
          record {
            news = bound n inner ∷ m.news;
            form = flat.Apply (var.Local n) m.xs;
            is
                = Applied m.is;
            alike = (alike, m.alike);
            form_alike
                = AlikeApply (AlikeLocal here) m.xs_alike;
          }

      args_alike : (n : ℕ) {n' : ℕ} {ts : Terms} {news' : List Bound} {xs' : List Var}
          → AreArgs second t' n' ts news' xs' → (args : Terms) → ts ≡ renamed_terms s args
          → FitsTerms top args → Placed ps n n' (length news') → NewsFit many news'
          → ArgsMade n args news' xs'
      args_alike n NoArgs args f fs p nf = subst (λ z. ArgsMade n z [] []) (sym (none_of s args f))
          (record { news = []; xs = []; is = NoArgs; alike = tt; xs_alike = tt })
      args_alike n (AndArg {n = n'} {news = news'} {x = x'} {xs = xs'} news1' news2' d1 d2 cut) args
          f fs p nf =
          let q = some_of s args f in
          let fq : FitsTerms top (AndTerm q.first q.rest) = subst (FitsTerms top) q.is fs in
          let nf1 = left_of (λ (b : Bound). ConFits many b.flat) news1' news2' _ cut nf in
          let nf2 = right_of (λ (b : Bound). ConFits many b.flat) news1' news2' _ cut nf in
          let m1 = arg_alike n d1 q.first q.first_is fq.0
          (placed_left ps n n' news1' news2' _ cut p) nf1 in
          let l = pairs_long (λ b c. AlikeFlat ps b.flat c.flat) m1.news news1' m1.alike in
          let m2 = args_alike (n + length m1.news) d2 q.rest q.rest_is fq.1
          (placed_right ps n n' (n + length m1.news) (n' + length news1') news1' news2' _ cut
          (omega (arith, l)) refl p) nf2 in
          subst (λ z. ArgsMade n z news' (x' ∷ xs')) (sym q.is) (record {
            news = m1.news ++ m2.news;
            xs = m1.x ∷ m2.xs;
            is = AndArg m1.news m2.news m1.is m2.is refl;
            alike = subst (NewsAlike ps (m1.news ++ m2.news)) (sym cut)
                (pairs_append (λ b c. AlikeFlat ps b.flat c.flat) m1.news m2.news news1' news2'
                m1.alike m2.alike);
            xs_alike = (m1.x_alike, m2.xs_alike);
          })

      arg_alike : (n : ℕ) {n' : ℕ} {h : Term} {news' : List Bound} {x' : Var}
          → IsArg second t' n' h news' x' → (a : Term) → h ≡ renamed_term s a
          → FitsTerm top a → Placed ps n n' (length news') → NewsFit many news'
          → ArgMade n a news' x'
      arg_alike n (Itself {x = x'} is) a e fa p nf =
          let m = some_made (itself first t a) (itself second t' (renamed_term s a)) x'
          (itself_alike a fa) (ap (itself second t') (sym e) ∙ is) in
          record { news = []; x = m.x; is = Itself m.is; alike = tt; x_alike = m.alike }
      arg_alike n
          (New {n = n'} {news = news'} {group = group'} {form = form'} place none d place_is cut) a
          e fa p nf =
          let nf1 = left_of (λ (b : Bound). ConFits many b.flat) news' (bound place form' ∷ []) _
          cut nf in
          let nf2 = right_of (λ (b : Bound). ConFits many b.flat) news' (bound place form' ∷ []) _
          cut nf in
          let m = flat_alike n d a NoTerms e refl fa tt
          (placed_left ps n n' news' (bound place form' ∷ []) _ cut p) nf1 nf2.0 in
          let l = pairs_long (λ b c. AlikeFlat ps b.flat c.flat) m.news news' m.alike in
          let here : LocalsCorrespond ps (n + length m.news) place =
          let k = placed_right ps n n' (n + length m.news) place news' (bound place form' ∷ []) _
          cut (omega (arith, l)) place_is p 0 (omega arith) in
          let a : n + length m.news + 0 ≡ n + length m.news = omega arith in
          let b : place + 0 ≡ place = omega arith in
          subst (λ z. LocalsCorrespond ps z place) a
          (subst (λ z. LocalsCorrespond ps (n + length m.news + 0) z) b k) in
          record {
            news = m.news ++ bound (n + length m.news) m.form ∷ [];
            x = var.Local (n + length m.news);
            is = New (n + length m.news)
                (none_made (itself first t a) (itself second t' (renamed_term s a))
                (itself_alike a fa) (ap (itself second t') (sym e) ∙ none)) m.is refl refl;
            alike = subst (NewsAlike ps (m.news ++ bound (n + length m.news) m.form ∷ [])) (sym cut)
                (pairs_append (λ b c. AlikeFlat ps b.flat c.flat) m.news
                (bound (n + length m.news) m.form ∷ []) news' (bound place form' ∷ []) m.alike
                (m.form_alike, tt));
            x_alike = AlikeLocal here;
          }
