-- What forms, names and new bindings of the lifted program correspond to those of the text's own
-- meaning, and that a number, a constructor, a function or a name that is applied corresponds.
use Rattle.std.proofs.Common.{◌≡◌, ℕ, zero, suc, ◌+◌, ◌≤◌, ◌<◌, Bool, true, false, nat_eq, nat_lt, List, [], ◌∷◌, ◌++◌, length, Option, Some, None, refl, sym, ap, ◌∙◌, subst, arith, length-append}
use Rattle.std.specs.Prelude.{◌==◌, if◌then◌else◌, ℤ}
use Rattle.seq.proofs.Order.{lt_from, le_from, eq_from, differs_from}
use Rattle.core_reader.specs.declared.syntax.Binder.{Binder}
use Rattle.core_reader.specs.Tree as core
use Rattle.lambda_reader.specs.Tree.{Term, Terms, NoTerms, AndTerm, Program}
use Rattle.lambda_reader.specs.Grammar.{HasParameter}
use Rattle.arity_check.specs.declared.normal.Var.{Var}
use Rattle.arity_check.specs.declared.normal.Var.TheVariants as var
use Rattle.arity_check.specs.declared.normal.Bound.{Bound}
use Rattle.arity_check.specs.declared.normal.Flat.TheVariants as flat
use Rattle.arity_check.specs.declared.normal.Flat as normal
use Rattle.arity_check.specs.declared.normal.PrimOp.{PrimOp}
use Rattle.arity_check.specs.declared.meaning.Meaning.{Meaning}
use Rattle.arity_check.specs.declared.meaning.Meaning.TheVariants.{Local, Primitive, Unbound}
use Rattle.arity_check.specs.declared.meaning.Meaning.TheVariants as stands
use Rattle.arity_check.specs.Standing.{count}
use Rattle.arity_check.specs.Scope.{Scope}
use Rattle.arity_check.specs.Normal as form
use Rattle.arity_check.specs.Normal.{append, bound, HasTerm, Pairwise, IsNamed, OfPrimitive, OfLocal, OfGlobal, Called, Partial, Exceeded, IsApplied, Applied, AreArgs, NoArgs, AndArg}
use Rattle.core_meaning.specs.Heap.{Int, Con, Part, Call, Apply, Prim, Known, Waiting}
use Rattle.lambda_lift.specs.Lifted as lifted
use Rattle.lambda_lift.specs.Meaning.{Fun, Top, Binding, Heap, Flat, SplitArguments, Arguments, argument_count, split_arguments, applied, apply_to_names, apply_function, operation, global, name_with, arguments, arity}
use Rattle.lambda_lift.proofs.Fits.{more}
use Rattle.lambda_lift.proofs.Matching.{HasTop, Same, SameLocal, SameFunction, SamePrimitive, SameNothing}
use Rattle.lambda_lift.proofs.Standing.{Stands, AsTop}

-- ---- arguments

pub count_append : (xs ys : core.Terms) → count (append xs ys) ≡ count xs + count ys
count_append core.NoTerms ys = omega arith
count_append (core.AndTerm a xs) ys = omega (arith, count_append xs ys)

pub append_none : (xs : core.Terms) → append xs core.NoTerms ≡ xs
append_none core.NoTerms = refl
append_none (core.AndTerm a xs) = ap (core.AndTerm a) (append_none xs)

pub has_some : (xs : core.Terms) → HasTerm xs → 0 < count xs
has_some core.NoTerms h = absurd h
has_some (core.AndTerm a xs) h = omega arith

abbrev pub head_of : core.Term → core.Terms → core.Term
head_of d core.NoTerms = d
head_of d (core.AndTerm a xs) = a

abbrev pub rest_of : core.Terms → core.Terms
rest_of core.NoTerms = core.NoTerms
rest_of (core.AndTerm a xs) = xs

abbrev pub is_some : core.Terms → Bool
is_some core.NoTerms = false
is_some (core.AndTerm a xs) = true

pub count_arguments : (at : ℕ) (xs : List ℕ) → count (lifted.arguments at xs) ≡ length xs
count_arguments at [] = refl
count_arguments at (x ∷ xs) = omega (arith, count_arguments at xs)

pub some_length : (params : List Binder) → HasParameter params → 0 < length params
some_length [] h = absurd h
some_length (b ∷ bs) h = omega arith

abbrev pub is_function : Meaning → Bool
is_function (stands.Function f k) = true
is_function (Local y) = false
is_function (Primitive op) = false
is_function Unbound = false

abbrev pub function_in : Meaning → ℕ
function_in (stands.Function f k) = f
function_in (Local y) = 0
function_in (Primitive op) = 0
function_in Unbound = 0

abbrev pub params_in : Meaning → ℕ
params_in (stands.Function f k) = k
params_in (Local y) = 0
params_in (Primitive op) = 0
params_in Unbound = 0

-- ---- what corresponds, where the number of a local and its name are in this relation

module _ (c : Program) (Good : ℕ → ℕ → Type 0) where
  pub data NameLike : Var → ℕ → Type 0 where
    LocalLike : {y a : ℕ} → Good y a → NameLike (var.Local y) a
    GlobalLike : {f a : ℕ} → HasTop c f 0 → a ≡ global c f → NameLike (var.Global f) a

  abbrev pub NamesLike : List Var → List ℕ → Type 0
  NamesLike xs as' = Pairwise NameLike xs as'

  pub data FormLike : Binding → normal.Flat → Type 0 where
    IntLike : {k : ℤ} → FormLike (Known (Int k)) (flat.Int k)
    ConLike : {d : ℕ} {as' : List ℕ} {xs : List Var} → NamesLike xs as'
        → FormLike (Known (Con d as')) (flat.Con d xs)
    PartLike : {f : Fun} {g : ℕ} {as' : List ℕ} {xs : List Var} (front bs : List ℕ)
        → Stands c f front g → length as' < arity c f → NamesLike xs bs → bs ≡ front ++ as'
        → FormLike (Known (Part f as')) (flat.Part g xs)
    CallLike : {f : Fun} {g : ℕ} {as' : List ℕ} {xs : List Var} (front bs : List ℕ)
        → Stands c f front g → length as' ≡ arity c f → NamesLike xs bs → bs ≡ front ++ as'
        → FormLike (Waiting (Call f as')) (flat.Call g xs)
    ApplyLike : {a : ℕ} {x : Var} {as' : List ℕ} {xs : List Var} → NameLike x a → NamesLike xs as'
        → FormLike (Waiting (Apply a as')) (flat.Apply x xs)
    PrimLike : {op : PrimOp} {a b : ℕ} {x y : Var} → NameLike x a → NameLike y b
        → FormLike (Waiting (Prim op a b)) (flat.Prim op x y)

  abbrev pub NewsLike : Heap → List Bound → Type 0
  NewsLike [] [] = Unit {0}
  NewsLike [] (b ∷ bs) = ⊥
  NewsLike (f ∷ fs) [] = ⊥
  NewsLike (f ∷ fs) (b ∷ bs) = FormLike f b.flat × NewsLike fs bs

  pub record FlatLike (f : Flat) (bs : List Bound) (made : normal.Flat) : Type 0 where
    pub news : NewsLike f.news bs
    pub form : FormLike f.form made

  -- new locals have new names
  pub record Placed (m n len : ℕ) : Type 0 where
    pub at : (i y a : ℕ) → i < len → y ≡ m + i → a ≡ n + i → Good y a

  pub as_many_news : (fs : Heap) (bs : List Bound) → NewsLike fs bs → length fs ≡ length bs
  as_many_news [] [] h = refl
  as_many_news [] (b ∷ bs) h = absurd h
  as_many_news (f ∷ fs) [] h = absurd h
  as_many_news (f ∷ fs) (b ∷ bs) h = ap suc (as_many_news fs bs h.1)

  pub news_append : (fs fs' : Heap) (bs bs' : List Bound) → NewsLike fs bs → NewsLike fs' bs'
      → NewsLike (fs ++ fs') (bs ++ bs')
  news_append [] fs' [] bs' h k = k
  news_append [] fs' (b ∷ bs) bs' h k = absurd h
  news_append (f ∷ fs) fs' [] bs' h k = absurd h
  news_append (f ∷ fs) fs' (b ∷ bs) bs' h k = (h.0, news_append fs fs' bs bs' h.1 k)

  pub names_long : (xs : List Var) (as' : List ℕ) → NamesLike xs as' → length as' ≡ length xs
  names_long [] [] h = refl
  names_long [] (a ∷ as') h = absurd h
  names_long (x ∷ xs) [] h = absurd h
  names_long (x ∷ xs) (a ∷ as') h = ap suc (names_long xs as' h.1)

  pub placed_left : (m n : ℕ) (us vs ws : List Bound) → ws ≡ us ++ vs → Placed m n (length ws)
      → Placed m n (length us)
  placed_left m n us vs ws e p = let l : length ws ≡ length us + length vs
      = ap length e ∙ length-append us vs in record
      { at = λ i y a lt f g. p.at i y a (omega (arith, lt, l)) f g }

  pub placed_right : (m n m' n' : ℕ) (us vs ws : List Bound) → ws ≡ us ++ vs → m' ≡ m + length us
      → n' ≡ n + length us → Placed m n (length ws) → Placed m' n' (length vs)
  placed_right m n m' n' us vs ws e em en p =
      let l : length ws ≡ length us + length vs = ap length e ∙ length-append us vs in
      record {
        at = λ i y a lt f g. p.at (length us + i) y a (omega (arith, lt, l))
            (omega (arith, f, em)) (omega (arith, g, en));
      }

  pub placed_rest : (m n len : ℕ) → Placed m n (suc len) → Placed (m + 1) (suc n) len
  placed_rest m n len p = record {
    at = λ i y a lt f g. p.at (suc i) y a (omega (arith, lt)) (omega (arith, f))
        (omega (arith, g));
  }

  pub placed_none : (m n : ℕ) → Placed m n 0
  placed_none m n = record { at = λ i y a lt f g. absurd (omega (arith, lt)) }

  pub record ArrangedLike (r : SplitArguments) (news1 : List Bound) (xs1 : List Var)
      (news2 : List Bound) (xs2 : List Var) : Type 0 where
    pub first : NewsLike r.first news1
    pub names : NamesLike xs1 r.names
    pub second : NewsLike r.second news2
    pub others : NamesLike xs2 r.others

  abbrev pub SameShape : core.Terms → Option Arguments → Type 0
  SameShape core.NoTerms None = Unit {0}
  SameShape core.NoTerms (Some xs) = ⊥
  SameShape (core.AndTerm a as') None = ⊥
  SameShape (core.AndTerm a as') (Some xs) = Unit {0}

  pub arity_top : (f k : ℕ) → HasTop c f k → arity c (Top f) ≡ k
  arity_top f k top = ap (λ o. elim o [ Some g ↦ length g.params | None ↦ 0 ]) top.is ∙ top.params

  module _ (t : Scope) where
    -- the arguments of an application, and how they are arranged: so many of them first, and the
    -- others
    pub record ArgsLike (args : core.Terms) (xs : Option Arguments) : Type 0 where
      pub shape : SameShape args xs
      pub many : argument_count xs ≡ count args
      pub arranged : (first rest : core.Terms) (k m m' n : ℕ) (news1 news2 : List Bound)
          (xs1 xs2 : List Var) → args ≡ append first rest → count first ≤ k
          → (HasTerm rest → k ≡ count first)
          → AreArgs (lifted.lifted c) t m first news1 xs1
          → AreArgs (lifted.lifted c) t m' rest news2 xs2 → Placed m n (length news1)
          → Placed m' (suc n + length news1) (length news2)
          → ArrangedLike (split_arguments xs n k) news1 xs1 news2 xs2

    pub as_many_args : {m : ℕ} {args : core.Terms} {news : List Bound} {xs : List Var}
        → AreArgs (lifted.lifted c) t m args news xs → length xs ≡ count args
    as_many_args NoArgs = refl
    as_many_args (AndArg news1 news2 a b e) = let i = as_many_args b in omega (arith, i)

    -- all of them
    pub record AllLike (r : SplitArguments) (bs : List Bound) (xs : List Var) : Type 0 where
      pub news : NewsLike r.first bs
      pub names : NamesLike xs r.names

    pub all_args : (args : core.Terms) (xs : Option Arguments) (m n k : ℕ) (news : List Bound)
        (ys : List Var) → ArgsLike args xs → count args ≤ k
        → AreArgs (lifted.lifted c) t m args news ys → Placed m n (length news)
        → AllLike (split_arguments xs n k) news ys
    all_args args xs m n k news ys h le a p =
        let r = h.arranged args core.NoTerms k m m n news [] ys [] (sym (append_none args)) le
        (λ z. absurd z) a NoArgs p (placed_none m (suc n + length news)) in
        record { news = r.first; names = r.names }

    -- ---- a form behind arguments

    pub no_args : {m : ℕ} {news : List Bound} {ys : List Var} (P : List Bound → List Var → Type 0)
        → AreArgs (lifted.lifted c) t m core.NoTerms news ys → P [] [] → P news ys
    no_args P NoArgs h = h

    pub with_names_like : (args : core.Terms) (xs : Option Arguments) (m n : ℕ) (news : List Bound)
        (ys : List Var) (made : List ℕ → Binding) (form' : List Var → normal.Flat)
        → ArgsLike args xs → AreArgs (lifted.lifted c) t m args news ys → Placed m n (length news)
        → ((as' : List ℕ) → NamesLike ys as' → FormLike (made as') (form' ys))
        → FlatLike (apply_to_names n xs made) news (form' ys)
    with_names_like core.NoTerms None m n news ys made form' h a p =
        no_args (λ news ys. ((as' : List ℕ) → NamesLike ys as' → FormLike (made as') (form' ys))
        → FlatLike (apply_to_names n None made) news (form' ys)) a
        (λ go. record { news = tt; form = go [] tt })
    with_names_like core.NoTerms (Some xs) m n news ys made form' h a p = λ go. absurd h.shape
    with_names_like (core.AndTerm b bs) None m n news ys made form' h a p = λ go. absurd h.shape
    with_names_like (core.AndTerm b bs) (Some xs) m n news ys made form' h a p = λ go.
        let e : xs.many ≡ count (core.AndTerm b bs) = h.many in
        let le : count (core.AndTerm b bs) ≤ xs.many = omega (arith, e) in
        let r = all_args (core.AndTerm b bs) (Some xs) m n xs.many news ys h le a p in
        record { news = r.news; form = go (xs.arranged n xs.many).names r.names }

    -- a new binding of a form, and then its application
    pub applied_like : {m n : ℕ} {inner : normal.Flat} {args : core.Terms} {news : List Bound}
        {form' : normal.Flat} (made : Binding) (xs : Arguments) → ArgsLike args (Some xs)
        → FormLike made inner → IsApplied (lifted.lifted c) t m inner args news form'
        → Placed m n (length news) → FlatLike (applied n made xs) news form'
    applied_like {m = m} {n = n} made xs h f (Applied {args = args} {news = news} {xs = ys} a) p =
        let e : xs.many ≡ count args = h.many in
        let le : count args ≤ xs.many = omega (arith, e) in
        let r = all_args args (Some xs) (m + 1) (suc n) xs.many news ys h le a
        (placed_rest m n (length news) p) in
        record {
          news = (f, r.news);
          form = ApplyLike
              (LocalLike (p.at 0 m n (omega arith) (omega arith) (omega arith))) r.names;
        }

    -- ---- a function with parameters

    pub by_count : (xs : Arguments) (k : ℕ) (a b d : Flat) (P : Flat → Type 0) → (xs.many < k → P a)
        → (xs.many ≡ k → P b) → (k < xs.many → P d)
        → P (if nat_lt xs.many k then a else (if xs.many == k then b else d))
    by_count xs k a b d P less same more = first (nat_lt xs.many k) refl
      where
        second : k ≤ xs.many → (t : Bool) → nat_eq xs.many k ≡ t → P (if t then b else d)
        second le true e = same (eq_from xs.many k e)
        second le false e = more (let ne = differs_from xs.many k e in omega (arith, le, ne))

        first : (t : Bool) → nat_lt xs.many k ≡ t → P
            (if t then a else (if xs.many == k then b else d))
        first true e = less (lt_from xs.many k e)
        first false e = second (le_from xs.many k e) (nat_eq xs.many k) refl

    pub exceeded_like : (f : Fun) (g k m n : ℕ) (args first rest : core.Terms) (xs : Arguments)
        (news1 news2 news : List Bound) (ys : List Var) (form' : normal.Flat) → Stands c f [] g
        → arity c f ≡ suc k → ArgsLike args (Some xs) → args ≡ append first rest → HasTerm rest
        → length ys ≡ suc k
        → AreArgs (lifted.lifted c) t m first news1 ys
        → IsApplied (lifted.lifted c) t (m + length news1) (flat.Call g ys) rest news2 form'
        → news ≡ news1 ++ news2 → Placed m n (length news)
        → FlatLike
        (record {
          news = (xs.arranged n (suc k)).first
              ++ Waiting (Call f (xs.arranged n (suc k)).names) ∷ (xs.arranged n (suc k)).second;
          form
              = Waiting
              (Apply (n + length (xs.arranged n (suc k)).first) (xs.arranged n (suc k)).others);
        })
        news form'
    exceeded_like f g k m n args first rest xs news1 news2 news ys form' st ar h split some long a b
        e p = by b refl refl e
      where
        by : {mid : ℕ} {inner : normal.Flat} {news2 : List Bound} {form' : normal.Flat}
            → IsApplied (lifted.lifted c) t mid inner rest news2 form' → mid ≡ m + length news1
            → inner ≡ flat.Call g ys → news ≡ news1 ++ news2
            → FlatLike
            (record {
              news = (xs.arranged n (suc k)).first
                  ++ Waiting (Call f (xs.arranged n (suc k)).names) ∷
                  (xs.arranged n (suc k)).second;
              form = Waiting
                  (Apply (n + length (xs.arranged n (suc k)).first) (xs.arranged n (suc k)).others);
            })
            news form'
        by {mid = mid} {inner = inner} (Applied {news = news3} {xs = zs} w) em ei e =
            let many = as_many_args a in
            let p2 : Placed mid (n + length news1) (length (bound mid inner ∷ news3))
            = placed_right m n mid (n + length news1) news1 (bound mid inner ∷ news3) news e em
            refl p in
            let p3 : Placed (mid + 1) (suc n + length news1) (length news3) = let z
            : suc (n + length news1) ≡ suc n + length news1 = omega arith
            in subst (λ j. Placed (mid + 1) j (length news3)) z
            (placed_rest mid (n + length news1) (length news3) p2) in
            let r = h.arranged first rest (suc k) m (mid + 1) n news1 news3 ys zs split
            (omega (arith, many, long)) (λ z. omega (arith, many, long)) a w
            (placed_left m n news1 (bound mid inner ∷ news3) news e p) p3 in
            let l1 = as_many_news (xs.arranged n (suc k)).first news1 r.first in
            let l2 = names_long ys (xs.arranged n (suc k)).names r.names in
            let call : FormLike (Waiting (Call f (xs.arranged n (suc k)).names)) inner
            = subst (λ z. FormLike (Waiting (Call f (xs.arranged n (suc k)).names)) z) (sym ei)
            (CallLike [] (xs.arranged n (suc k)).names st (omega (arith, l2, long, ar)) r.names
            refl) in
            record {
              news = subst
                  (λ z. NewsLike
                  ((xs.arranged n (suc k)).first ++ Waiting (Call f (xs.arranged n (suc k)).names) ∷
                  (xs.arranged n (suc k)).second) z) (sym e)
                  (news_append (xs.arranged n (suc k)).first
                  (Waiting (Call f (xs.arranged n (suc k)).names) ∷ (xs.arranged n (suc k)).second)
                  news1 (bound mid inner ∷ news3) r.first (call, r.second));
              form = ApplyLike
                  (LocalLike
                  (p2.at 0 mid (n + length (xs.arranged n (suc k)).first) (omega arith)
                  (omega arith) (omega (arith, l1)))) r.others;
            }

    pub function_like : (f : Fun) (g k m n : ℕ) (args : core.Terms) (xs : Option Arguments)
        (news : List Bound) (form' : normal.Flat) → Stands c f [] g → arity c f ≡ suc k
        → ArgsLike args xs → IsNamed (lifted.lifted c) t m (stands.Function g (suc k)) args news
        form' → Placed m n (length news)
        → FlatLike (apply_function f (suc k) n xs) news form'
    function_like f g k m n core.NoTerms (Some xs) news form' st ar h d p = absurd h.shape
    function_like f g k m n (core.AndTerm b bs) None news form' st ar h d p = absurd h.shape
    function_like f g k m n core.NoTerms None news form' st ar h d p = by refl d
      where
        by : {args : core.Terms} {news : List Bound} {form' : normal.Flat} → args ≡ core.NoTerms
            → IsNamed (lifted.lifted c) t m (stands.Function g (suc k)) args news form'
            → FlatLike (apply_function f (suc k) n None) news form'
        by e (Called {xs = ys} long a) = let many = as_many_args a in let z : count _ ≡ 0
            = ap count e in absurd (omega (arith, many, long, z))
        by e (Partial {news = news} {xs = ys} less a) =
            no_args (λ news ys. FlatLike (apply_function f (suc k) n None) news (flat.Part g ys))
            (subst (λ args. AreArgs (lifted.lifted c) t m args news ys) e a)
            (record { news = tt; form = PartLike [] [] st (omega (arith, ar)) tt refl })
        by e (Exceeded first rest news1 news2 ys split some long a b is) =
            let many = as_many_args a in
            let z : 0 ≡ count first + count rest = sym (ap count e) ∙ ap count split ∙ count_append
            first rest in
            absurd (omega (arith, many, long, z))
    function_like f g k m n (core.AndTerm b bs) (Some xs) news form' st ar h d p =
        by d refl p
      where
        by : {args : core.Terms} {news : List Bound} {form' : normal.Flat}
            → IsNamed (lifted.lifted c) t m (stands.Function g (suc k)) args news form'
            → args ≡ core.AndTerm b bs → Placed m n (length news)
            → FlatLike (apply_function f (suc k) n (Some xs)) news form'
        by (Called {args = args} {news = news} {xs = ys} long a) e p =
            let h' : ArgsLike args (Some xs) = subst (λ args. ArgsLike args (Some xs)) (sym e) h in
            let e' : xs.many ≡ count args = h'.many in
            let many = as_many_args a in
            let r = all_args args (Some xs) m n (suc k) news ys h' (omega (arith, many, long)) a p
            in
            let l2 = names_long ys (xs.arranged n (suc k)).names r.names in
            by_count xs (suc k) _ _ _ (λ r. FlatLike r news (flat.Call g ys))
            (λ lt. absurd (omega (arith, lt, e', many, long)))
            (λ s. record {
              news = r.news;
              form = CallLike [] _ st (omega (arith, l2, long, ar)) r.names
                  refl;
            })
            (λ gt. absurd (omega (arith, gt, e', many, long)))
        by (Partial {args = args} {news = news} {xs = ys} less a) e p =
            let h' : ArgsLike args (Some xs) = subst (λ args. ArgsLike args (Some xs)) (sym e) h in
            let e' : xs.many ≡ count args = h'.many in
            let many = as_many_args a in
            let r = all_args args (Some xs) m n (suc k) news ys h' (omega (arith, many, less)) a p
            in
            let l2 = names_long ys (xs.arranged n (suc k)).names r.names in
            by_count xs (suc k) _ _ _ (λ r. FlatLike r news (flat.Part g ys))
            (λ lt. record {
              news = r.news;
              form = PartLike [] _ st (omega (arith, l2, less, ar)) r.names
                  refl;
            })
            (λ s. absurd (omega (arith, s, e', many, less)))
            (λ gt. absurd (omega (arith, gt, e', many, less)))
        by (Exceeded {args = args} {news = news} {form = form'} first rest news1 news2 ys split some
            long a b is) e p =
            let h' : ArgsLike args (Some xs) = subst (λ args. ArgsLike args (Some xs)) (sym e) h in
            let e' : xs.many ≡ count args = h'.many in
            let many = as_many_args a in
            let all : count args ≡ count first + count rest
            = ap count split ∙ count_append first rest in
            let one = has_some rest some in
            by_count xs (suc k) _ _ _ (λ r. FlatLike r news form')
            (λ lt. absurd (omega (arith, lt, e', many, long, all, one)))
            (λ s. absurd (omega (arith, s, e', many, long, all, one)))
            (λ gt. exceeded_like f g k m n args first rest xs news1 news2 news ys form' st ar h'
            split some long a b is p)

    -- ---- a name

    pub named_like : {M M' : Meaning} (m n : ℕ) (args : core.Terms) (xs : Option Arguments)
        (news : List Bound) (form' : normal.Flat) → Same c Good M M' → ArgsLike args xs
        → IsNamed (lifted.lifted c) t m M args news form' → Placed m n (length news)
        → FlatLike (name_with c n M' xs) news form'
    named_like m n args xs news form' (SameLocal {y = y} {a = a} g) h d p = by d p h
      where
        by : {args : core.Terms} {news : List Bound} {form' : normal.Flat}
            → IsNamed (lifted.lifted c) t m (Local y) args news form' → Placed m n (length news)
            → ArgsLike args xs → FlatLike (name_with c n (Local a) xs) news form'
        by (OfLocal {args = args} {news = news} {xs = ys} w) p h
            = with_names_like args xs m n news ys _ (flat.Apply (var.Local y)) h w p
            (λ as' l. ApplyLike (LocalLike g) l)
    named_like m n args xs news form' (SameFunction {f = f} {k = zero} top) h d p = by d p h
      where
        by : {args : core.Terms} {news : List Bound} {form' : normal.Flat}
            → IsNamed (lifted.lifted c) t m (stands.Function f zero) args news form'
            → Placed m n (length news) → ArgsLike args xs
            → FlatLike (name_with c n (stands.Function f zero) xs) news form'
        by (OfGlobal {args = args} {news = news} {xs = ys} w) p h
            = with_names_like args xs m n news ys _ (flat.Apply (var.Global f)) h w p
            (λ as' l. ApplyLike (GlobalLike top refl) l)
    named_like m n args xs news form' (SameFunction {f = f} {k = suc k} top) h d p =
        function_like (Top f) f k m n args xs news form' (AsTop top) (arity_top f (suc k) top) h d p
    named_like m n args xs news form' (SamePrimitive {op = op}) h d p = by d p h
      where
        pair : (ys : List Var) (x y : Var) (as' : List ℕ) → ys ≡ x ∷ y ∷ [] → NamesLike ys as'
            → FormLike (operation op as') (flat.Prim op x y)
        pair ys x y as' e l = two as' (subst (λ ys. NamesLike ys as') e l)
          where
            two : (as' : List ℕ) → NamesLike (x ∷ y ∷ []) as'
                → FormLike (operation op as') (flat.Prim op x y)
            two [] l = absurd l
            two (a ∷ []) l = absurd l.1
            two (a ∷ b ∷ []) l = PrimLike l.0 l.1.0
            two (a ∷ b ∷ c' ∷ as') l = absurd l.1.1

        by : {args : core.Terms} {news : List Bound} {form' : normal.Flat}
            → IsNamed (lifted.lifted c) t m (Primitive op) args news form'
            → Placed m n (length news) → ArgsLike args xs
            → FlatLike (name_with c n (Primitive op) xs) news form'
        by (OfPrimitive {args = args} {news = news} {x = x} {y = y} w) p h
            = with_names_like args xs m n news (x ∷ y ∷ []) (operation op) (λ ys. flat.Prim op x y)
            h w p (λ as' l. pair (x ∷ y ∷ []) x y as' refl l)
    named_like m n args xs news form' SameNothing h d p = by d
      where
        by : {args : core.Terms} {news : List Bound} {form' : normal.Flat}
            → IsNamed (lifted.lifted c) t m Unbound args news form'
            → FlatLike (name_with c n Unbound xs) news form'
        by d = elim d [ ]
