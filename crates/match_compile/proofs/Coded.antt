-- A term that stands for a tree, node by node, decides between what stands for the rows of the
-- tree.
use Rattle.std.proofs.Common.{◌≡◌, ◌⊎◌, ℕ, ◌+◌, ◌≤◌, Bool, true, false, cond, List, [], ◌∷◌, map, length, Option, Some, None, slice_get, refl, sym, ap, ◌∙◌, subst, inl, inr}
use Rattle.std.specs.Prelude.{◌==◌, ◌||◌, ℤ}
use Rattle.std.specs.List.{range_with_len}
use Rattle.std.proofs.lemmas.List.FromFn.{length-range_with_len}
use Rattle.seq.specs.Lists.{AllOf, In, here, there}
use Rattle.seq.proofs.Lists.{some_is}
use Rattle.seq.proofs.Truth.{or_cases}
use Rattle.core_reader.specs.declared.syntax.Binder.{Binder}
use Rattle.core_reader.specs.Tree.{Expr}
use Rattle.arity_check.specs.declared.normal.Flat.TheVariants as flat
use Rattle.arity_check.specs.declared.normal.Var.TheVariants as var
use Rattle.arity_check.specs.Program as normal
use Rattle.arity_check.specs.Locals.{innermost_local}
use Rattle.arity_check.specs.Scope.{con_number}
use Rattle.arity_check.specs.Normal.{Pairwise}
use Rattle.core_meaning.specs.Heap as heap
use Rattle.match_compile.specs.Source.{Pat, Source}
use Rattle.match_compile.specs.Heads.{Head, Integer, Constructor, same_head}
use Rattle.match_compile.specs.Trees as tree
use Rattle.match_compile.specs.Trees.{PendingPattern, Tree, Body, Case, Branches, NoBranch, AndBranch, Default, NoDefault, ATree, has_head, head_of, test_at, specialised, IsTree, OfBody, OfCase, AreBranches, NoneOf, OneOf, IsDefault, AllGo, OthersStay}
use Rattle.match_compile.specs.Form.{Form, program_of_heads, IsForm, OfName, OfInt, OfCon}
use Rattle.match_compile.specs.Jobs.{MatchTask, MatchAttempt, attempts_with_value}
use Rattle.match_compile.specs.Alike.{LocalPairs, LocalsCorrespond, TermAlike}
use Rattle.match_compile.specs.Decides as decides
use Rattle.match_compile.specs.Decides.{IsTest, Decides, ByBody, ByCase, Chooses, OnConstructor, OnInteger, Others, OnNext, NoOther}
use Rattle.match_compile.proofs.Inserted.{same_is}
use Rattle.match_compile.proofs.Rowed.{JobsAs, RowAs, ValueAs, AsInteger, AsConstructor, OneName, rows_special, KindAs, SameInteger, SameConstructor, first_test, leaves_as}

-- the local of each place that is in scope
abbrev pub Places : Type 0
Places = List (ℕ × ℕ)

abbrev pub local_of : Places → ℕ → ℕ
local_of ctx q = elim (innermost_local ctx q) [ Some y ↦ y | None ↦ 0 ]

pub record InScope (ctx : Places) (q : ℕ) : Type 0 where
  pub local : ℕ
  pub is : innermost_local ctx q ≡ Some local

abbrev pub Once : Places → Type 0
Once ctx = (q p : ℕ) → InScope ctx q → InScope ctx p → local_of ctx q ≡ local_of ctx p → q ≡ p

-- a branch's places are new, and have the locals of its fields
pub record Fresh (ctx ctx' : Places) (places xs : List ℕ) : Type 0 where
  pub same : (q : ℕ) → InScope ctx q → local_of ctx' q ≡ local_of ctx q
  pub more : (q : ℕ) → InScope ctx q → InScope ctx' q
  pub new : AllOf (InScope ctx') places
  pub locals : map (local_of ctx') places ≡ xs

module _ (c : Source) (B : Expr → List Binder → normal.Term → Type 0) (arity many : ℕ → ℕ)
    (IsFun : ℕ → Type 0) (params : ℕ) (next : Option ℕ) where
  abbrev pub Stands : Places → tree.Row → MatchAttempt → Type 0
  Stands ctx = RowAs c B many (InScope ctx) (local_of ctx)

  -- a body whose names are these locals is alike to a term
  pub record BodyAlike (a : MatchAttempt) (e : normal.Term) : Type 0 where
    pub pairs : LocalPairs
    pub linked : (x y : ℕ) → LocalsCorrespond pairs x y → slice_get a.bound x ≡ Some y
    pub alike : TermAlike arity many IsFun pairs a.body e

  mutual
    -- a term for a tree, where the locals from n on are free
    pub data Codes : Places → (n : ℕ) → Tree → normal.Term → Type 0 where
      CodeBody : {ctx : Places} {n : ℕ} {r : tree.Row} {e : normal.Term}
          → ((a : MatchAttempt) → Stands ctx r a → BodyAlike a e) → Codes ctx n (Body r) e
      CodeCase : {ctx : Places} {n p : ℕ} {bs : Branches} {o : Default} {cs : normal.Branches}
          → InScope ctx p → Once ctx → CodesIn ctx n bs o cs
          → Codes ctx n (Case p bs o)
          (normal.Case (normal.App (flat.Apply (var.Local (local_of ctx p)) [])) cs)

    pub data CodesIn : Places → (n : ℕ) → Branches → Default → normal.Branches → Type 0 where
      CodeInt : {ctx : Places} {n m : ℕ} {k : ℤ} {places : List ℕ} {t : Tree} {bs : Branches}
          {o : Default} {e : normal.Term} {cs : normal.Branches} → n ≤ m
          → AllOf (InScope ctx) places → Codes ctx m t e → CodesIn ctx n bs o cs
          → CodesIn ctx n (AndBranch (Integer k) places t bs) o (normal.OnInt k e cs)
      CodeCon : {ctx : Places} {n m d number : ℕ} {places : List ℕ} {t : Tree} {bs : Branches}
          {o : Default} {e : normal.Term} {cs : normal.Branches} (ctx' : Places) → n ≤ m
          → con_number (program_of_heads c) d ≡ Some number
          → Fresh ctx ctx' places (range_with_len m (many number))
          → Codes ctx' (m + many number) t e → CodesIn ctx n bs o cs
          → CodesIn ctx n (AndBranch (Constructor d) places t bs) o
          (normal.OnCon number (range_with_len m (many number)) e cs)
      CodeDefault : {ctx : Places} {n m : ℕ} {t : Tree} {e : normal.Term} {cs : normal.Branches}
          → n ≤ m → Codes ctx m t e → CodesIn ctx n NoBranch (ATree t) (normal.OnAny None e cs)
      CodeNext : {ctx : Places} {n g : ℕ} {cs : normal.Branches} → next ≡ Some g
          → CodesIn ctx n NoBranch NoDefault
          (normal.OnAny None (normal.App (flat.Call g (map var.Local (range_with_len 0 params))))
          cs)
      CodeEnd : {ctx : Places} {n : ℕ} → next ≡ None
          → CodesIn ctx n NoBranch NoDefault normal.NoMore

  -- ---- first tests

  none_left : (jobs : List PendingPattern) (tasks : List MatchTask) (loc : ℕ → ℕ) → jobs ≡ []
      → JobsAs c B many loc jobs tasks → tasks ≡ []
  none_left [] [] loc e h = refl
  none_left [] (k ∷ ks) loc e h = absurd h
  none_left (j ∷ js) ks loc e h = absurd cc

  pub record HasHead (pat : Pat) : Type 0 where
    pub head : Head
    pub is : head_of pat ≡ Some head

  first_head : (p : ℕ) (pat : Pat) (jobs : List PendingPattern) → tree.BeginsWithTest jobs
      → test_at p jobs ≡ Some pat → HasHead pat
  first_head p pat [] s t = absurd cc
  first_head p pat (j ∷ js) s t = by (j.0 == p) t
    where
      by : (b : Bool) → cond b (Some j.1) None ≡ Some pat → HasHead pat
      by true e = record { head = s.0; is = ap head_of (sym (some_is e)) ∙ s.1 }
      by false e = absurd cc

  form_tests : {pat : Pat} {f : Form} → IsForm c pat f → HasHead pat → IsTest f
  form_tests OfName h = let e = h.is in absurd cc
  form_tests OfInt h = tt
  form_tests (OfCon known forms) h = tt

  -- ---- kinds that were seen

  abbrev SeenSo : Branches → Branches → List decides.TestKind → Type 0
  SeenSo all bs seen = (g : Head) (k : decides.TestKind) → has_head g all ≡ true
      → KindAs c B many g k → In k seen ⊎ (has_head g bs ≡ true)

  one_kind : (g : Head) (k k' : decides.TestKind) → KindAs c B many g k → KindAs c B many g k'
      → k ≡ k'
  one_kind g k k' SameInteger SameInteger = refl
  one_kind g k k' (SameConstructor e) (SameConstructor f)
      = ap (λ z. decides.Constructor z) (some_is (sym e ∙ f))

  seen_more : (all bs : Branches) (h : Head) (places : List ℕ) (t : Tree)
      (seen : List decides.TestKind) (kind : decides.TestKind) → KindAs c B many h kind
      → SeenSo all (AndBranch h places t bs) seen → SeenSo all bs (kind ∷ seen)
  seen_more all bs h places t seen kind is s g k known as' = by (s g k known as')
    where
      found : (same_head h g ≡ true) ⊎ (has_head g bs ≡ true) → In k (kind ∷ seen)
          ⊎ (has_head g bs ≡ true)
      found (inl e) = inl
          (subst (λ z. In z (kind ∷ seen))
          (one_kind g kind k (subst (λ z. KindAs c B many z kind) (same_is h g e) is) as') here)
      found (inr e) = inr e

      by : In k seen ⊎ ((same_head h g || has_head g bs) ≡ true) → In k (kind ∷ seen)
          ⊎ (has_head g bs ≡ true)
      by (inl i) = inl (there i)
      by (inr e) = found (or_cases (same_head h g) (has_head g bs) e)

  seen_all : (all : Branches) (seen : List decides.TestKind) → SeenSo all NoBranch seen
      → (g : Head) (k : decides.TestKind) → has_head g all ≡ true → KindAs c B many g k → In k seen
  seen_all all seen s g k known as' = by (s g k known as')
    where
      by : In k seen ⊎ (has_head g NoBranch ≡ true) → In k seen
      by (inl i) = i
      by (inr e) = absurd cc

  no_rows : (ctx : Places) (others : List MatchAttempt) → Pairwise (Stands ctx) [] others
      → others ≡ []
  no_rows ctx [] h = refl
  no_rows ctx (a ∷ others) h = absurd h

  -- ---- deciding

  module _ (one : OneName c B many) where
    mutual
      pub codes_decide : {ctx : Places} {n : ℕ} {t : Tree} {e : normal.Term} → Codes ctx n t e
          → {rows : List tree.Row} → IsTree rows t → (as' : List MatchAttempt)
          → Pairwise (Stands ctx) rows as' → Decides arity many IsFun params next n as' e
      codes_decide (CodeBody f) (OfBody done) [] g = absurd g
      codes_decide {ctx = ctx} (CodeBody f) (OfBody {r = r} done) (a ∷ as') g =
          let b = f a g.0 in
          ByBody b.pairs (none_left r.jobs a.tasks (local_of ctx) done g.0.tasks) b.linked b.alike
      codes_decide (CodeCase scope once codes) (OfCase begins branches others) [] g = absurd g
      codes_decide {ctx = ctx} {n = n} (CodeCase {p = p} {bs = bs} scope once codes)
          (OfCase {r = r} {rs = rs} begins branches others) (a ∷ as') g =
          let t = first_test c B many (local_of ctx) p begins.pat a r.jobs a.tasks refl g.0.tasks
          begins.test in
          ByCase t.form t.rest t.is
          (form_tests t.form_is (first_head p begins.pat r.jobs g.0.begins begins.test))
          (codes_choose p bs [] scope once codes (λ g k known is. inr known) branches others
          (a ∷ as') g)

      codes_choose : {ctx : Places} {n : ℕ} (p : ℕ) (all : Branches) (seen : List decides.TestKind)
          → InScope ctx p → Once ctx → {bs : Branches} {o : Default} {cs : normal.Branches}
          → CodesIn ctx n bs o cs → SeenSo all bs seen
          → {rows : List tree.Row} → AreBranches p rows bs → IsDefault p all rows o
          → (as' : List MatchAttempt) → Pairwise (Stands ctx) rows as'
          → Chooses arity many IsFun params next n (local_of ctx p) as' seen cs
      codes_choose {ctx = ctx} p all seen scope once
          (CodeInt {k = k} {places = places} {t = t} {bs = bs} far used code codes) s {rows = rows}
          (OneOf apart is branches) others as' g =
          OnInteger far
          (codes_decide code is
          (map decides.settled (attempts_with_value (local_of ctx p) (heap.Int k) as'))
          (rows_special c B many one (InScope ctx) (InScope ctx) (local_of ctx) (local_of ctx)
          (λ q u. refl) (λ q u. u) places used p (λ q u e. once q p u scope e) (Integer k)
          (heap.Int k) AsInteger rows as' g))
          (codes_choose p all (decides.Integer k ∷ seen) scope once codes
          (seen_more all bs (Integer k) places t seen (decides.Integer k) SameInteger s)
          branches others as' g)
      codes_choose {ctx = ctx} p all seen scope once
          (CodeCon {m = m} {d = d} {number = number} {places = places} {t = t} {bs = bs} ctx' far
          known fresh code codes) s {rows = rows} (OneOf apart is branches) others as' g =
          let xs : List ℕ = range_with_len m (many number) in
          let value : ValueAs c B many (Constructor d) (map (local_of ctx') places)
          (heap.Con number xs) = subst
          (λ z. ValueAs c B many (Constructor d) (map (local_of ctx') places)
          (heap.Con number z)) fresh.locals
          (AsConstructor known (ap length fresh.locals ∙ length-range_with_len m (many number)))
          in
          OnConstructor far refl
          (codes_decide code is
          (map decides.settled (attempts_with_value (local_of ctx p) (heap.Con number xs) as'))
          (rows_special c B many one (InScope ctx) (InScope ctx') (local_of ctx) (local_of ctx')
          fresh.same fresh.more places fresh.new p (λ q u e. once q p u scope e) (Constructor d)
          (heap.Con number xs) value rows as' g))
          (codes_choose p all (decides.Constructor number ∷ seen) scope once codes
          (seen_more all bs (Constructor d) places t seen (decides.Constructor number)
          (SameConstructor known) s) branches others as' g)
      codes_choose {ctx = ctx} p all seen scope once (CodeDefault far code) s NoneOf
          (OthersStay leaves sure is) as' g =
          let l = leaves_as c B many (InScope ctx) (local_of ctx) p all seen (seen_all all seen s)
          leaves as' g in
          Others far l.are (codes_decide code is l.others l.stand)
      codes_choose {ctx = ctx} p all seen scope once (CodeNext e) s NoneOf (AllGo leaves) as' g =
          let l = leaves_as c B many (InScope ctx) (local_of ctx) p all seen (seen_all all seen s)
          leaves as' g in
          OnNext (subst (λ z. decides.AttemptsLeftOver (local_of ctx p) seen as' z)
          (no_rows ctx l.others l.stand) l.are) e
      codes_choose {ctx = ctx} p all seen scope once (CodeEnd e) s NoneOf (AllGo leaves) as' g =
          let l = leaves_as c B many (InScope ctx) (local_of ctx) p all seen (seen_all all seen s)
          leaves as' g in
          NoOther (subst (λ z. decides.AttemptsLeftOver (local_of ctx p) seen as' z)
          (no_rows ctx l.others l.stand) l.are) e
