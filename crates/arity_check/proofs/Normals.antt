-- The normal forms of the code's expressions.
use Rattle.std.proofs.Common.{◌≡◌, ℕ, zero, suc, ◌+◌, true, false, List, [], ◌∷◌, ◌++◌, map, length, refl, sym, ap, ◌∙◌, subst, arith, Some, None}
use Rattle.std.specs.List.{range_with_len}
use Rattle.core_reader.specs.declared.syntax.Binder.{Binder}
use Rattle.core_reader.specs.Tree as tree
use Rattle.core_reader.specs.declared.syntax.Pattern.TheVariants as pattern
use Rattle.core_reader.specs.declared.syntax.Pattern.{Pattern}
use Rattle.core_reader.specs.declared.syntax.Alt.{Alt}
use Rattle.core_reader.proofs.TreeOf.{alternative_of}
use Rattle.core_reader.specs.Tree.{Program, Bind, Expr, Alts, AndAlt, expr, alternative}
use Rattle.arity_check.specs.declared.normal.Bound.{Bound}
use Rattle.arity_check.specs.declared.normal.Flat.{Flat}
use Rattle.arity_check.specs.declared.flat.Builder.{Builder}
use Rattle.arity_check.specs.declared.form.Locals.{Locals}
use Rattle.arity_check.specs.Scope.{Scope, binds, binds_all}
use Rattle.arity_check.specs.Known.{Known, is_nameless, named, all_named}
use Rattle.arity_check.specs.Whole.{known_of}
use Rattle.arity_check.specs.Pieces.{names_of, binders_of}
use Rattle.arity_check.specs.Program as normal
use Rattle.arity_check.specs.Normal.{IsGroup, IsNormal, PlainApp, BoundApp, Group, IsFlat, AreBranches, ConBranch, NamelessBranch, NamedBranch}
use Rattle.arity_check.specs.Builds.{AddsFlat, AddsGroup}
use Rattle.arity_check.specs.Forms.{GroupIsNumbered, GroupEntersScope}
use Rattle.arity_check.proofs.Counted.{Alike, Same, alike_all}
use Rattle.arity_check.proofs.Unique.{group_locals}
use Rattle.arity_check.proofs.Scopes.{all_named_binds, named_binds}
use Rattle.arity_check.proofs.Names.{nameless_named}

pub names_are : (group : List Bind) → names_of (binders_of group) ≡ map (λ b. b.binder.name.0) group
names_are [] = refl
names_are (b ∷ bs) = ap (λ xs. b.binder.name.0 ∷ xs) (names_are bs)

module _ (p : Program) (s : Scope) where
  -- an application that needs no new bindings
  pub plain_app : (a b : Builder) (n m : ℕ) (app : tree.Application) (form : Flat) → a.news ≡ []
      → a.next ≡ n → m ≡ b.next → b.news ≡ [] → AddsFlat p s a b app.head app.args form
      → IsNormal p s n (tree.App app) (normal.App form) m
  plain_app a b n m app form none at after still f =
      let empty : f.added ≡ [] = sym (ap (λ l. l ++ f.added) none) ∙ sym f.adds.news ∙ still in
      let size : length f.added ≡ 0 = ap length empty in
      let same : m ≡ n = after ∙ f.adds.next ∙ omega (arith, size, at) in
      let flat : IsFlat p s n app.head app.args [] form
      = subst (λ k. IsFlat p s k app.head app.args [] form) at
      (subst (λ l. IsFlat p s a.next app.head app.args l form) empty f.is) in
      subst (λ k. IsNormal p s n (tree.App app) (normal.App form) k) (sym same) (PlainApp flat)

  bound_with : (n : ℕ) (app : tree.Application) (news : List Bound) (form : Flat) → (news ≡ [] → ⊥)
      → IsFlat p s n app.head app.args news form → IsNormal p s n (tree.App app)
      (normal.Let news (normal.App form)) (n + length news)
  bound_with n app [] form h f = absurd (h refl)
  bound_with n app (x ∷ xs) form h f = BoundApp f

  -- one that needs some
  pub bound_app : (a b : Builder) (n m : ℕ) (app : tree.Application) (form : Flat) → a.news ≡ []
      → a.next ≡ n → m ≡ b.next → (b.news ≡ [] → ⊥) → AddsFlat p s a b app.head app.args form
      → IsNormal p s n (tree.App app) (normal.Let b.news (normal.App form)) m
  bound_app a b n m app form none at after some f =
      let news : b.news ≡ f.added = f.adds.news ∙ ap (λ l. l ++ f.added) none in
      let same : m ≡ n + length b.news = after ∙ f.adds.next ∙ omega (arith, at, ap length news) in
      let flat : IsFlat p s n app.head app.args b.news form
      = subst (λ k. IsFlat p s k app.head app.args b.news form) at
      (subst (λ l. IsFlat p s a.next app.head app.args l form) (sym news) f.is) in
      subst (λ k. IsNormal p s n (tree.App app) (normal.Let b.news (normal.App form)) k) (sym same)
      (bound_with n app b.news form some flat)

-- ---- let groups

module _ (p : Program) (k : Known) (e : k ≡ known_of p) where
  pub scope_by : (xs : List Binder) (ys : List ℕ) (s : Scope)
      → all_named k (names_of xs) ys s ≡ binds_all p (names_of xs) ys s
  scope_by xs ys s = ap (λ k. all_named k (names_of xs) ys s) e ∙ all_named_binds p (names_of xs) ys
      s

  -- the locals of the binders are those that were found under other numbers
  pub group_is : (group : List Bind) (old inner : Locals) (a b : Builder) (xs ys : List ℕ)
      → GroupIsNumbered k group old xs → inner.scope ≡ all_named k (names_of (binders_of group)) xs
      old.scope → inner.next ≡ old.next
      → a.news ≡ [] → a.next ≡ inner.next → AddsGroup p inner.scope a b group ys
      → IsGroup p inner.scope old.next group b.news xs
  group_is group old inner a b xs ys found scope next none at f =
      let names : List ℕ = names_of (binders_of group) in
      let first : Scope = binds_all p names found.others old.scope in
      let second : Scope = binds_all p names xs old.scope in
      let here : inner.scope ≡ second = scope ∙ scope_by (binders_of group) xs old.scope in
      let g = found.is p e in
      let under_others : IsGroup p first old.next group g.0 xs
      = subst (λ s. IsGroup p s old.next group g.0 xs)
      (scope_by (binders_of group) found.others old.scope) g.1 in
      let news : f.added ≡ b.news = sym (f.adds.news ∙ ap (λ l. l ++ f.added) none) in
      let under_own : IsGroup p second old.next group b.news ys =
      subst (λ n. IsGroup p second n group b.news ys) (at ∙ next)
      (subst (λ l. IsGroup p second a.next group l ys) news
      (subst (λ s. IsGroup p s a.next group f.added ys) here f.is)) in
      let lengths : length found.others ≡ length xs = found.count ∙ sym found.size in
      let al : Alike p first second = alike_all p names found.others xs old.scope old.scope lengths
      (λ x. Same) in
      let al' : Alike p second first = alike_all p names xs found.others old.scope old.scope
      (sym lengths) (λ x. Same) in
      let same : xs ≡ ys = group_locals p al al' refl under_others under_own in
      subst (λ s. IsGroup p s old.next group b.news xs) (sym here)
      (subst (λ l. IsGroup p second old.next group b.news l) (sym same) under_own)

  pub group_next : (group : List Bind) (old inner : Locals) (a b : Builder) (ys : List ℕ)
      → inner.next ≡ old.next → a.news ≡ [] → a.next ≡ inner.next
      → AddsGroup p inner.scope a b group ys → b.next ≡ old.next + length b.news
  group_next group old inner a b ys next none at f =
      let news : b.news ≡ f.added = f.adds.news ∙ ap (λ l. l ++ f.added) none in
      f.adds.next ∙ omega (arith, at, next, ap length news)

  pub let_form : (group : List Bind) (body : Expr) (old inner : Locals) (bounds : List Bound)
      (t : normal.Term) (m : ℕ) → GroupEntersScope k group old inner bounds
      → IsNormal p inner.scope inner.next body t m → IsNormal p old.scope old.next
      (tree.Let group body) (normal.Let bounds t) m
  let_form group body old inner bounds t m g f =
      Group inner.scope g.locals bounds
      (g.scope ∙ scope_by (binders_of group) g.locals old.scope ∙ ap
      (λ names. binds_all p names g.locals old.scope) (names_are group)) (g.is p e)
      (subst (λ n. IsNormal p inner.scope n body t m) (g.next p e) f)

  -- ---- branches

  pub con_branch : (at : Binder) (fields : List Binder) (body : Expr) (rest : Alts) (s t : Scope)
      (n l j m number : ℕ) (xs : List ℕ) (term : normal.Term) (others : normal.Branches)
      → k.number at.name.0 ≡ Some number → xs ≡ range_with_len n (length fields)
      → t ≡ all_named k (names_of fields) xs s → l ≡ n + length fields
      → IsNormal p t l body term j → AreBranches p s j rest others m
      → AreBranches p s n (AndAlt (pattern.Con at fields) body rest)
      (normal.OnCon number xs term others) m
  con_branch at fields body rest s t n l j m number xs term others c ys scope next f g =
      ConBranch xs (ap (λ (k : Known). k.number at.name.0) (sym e) ∙ c) ys
      (subst (λ s. IsNormal p s (n + length fields) body term j) (scope ∙ scope_by fields xs s)
      (subst (λ n. IsNormal p t n body term j) next f)) g

  pub nameless_branch : (x : Binder) (body : Expr) (rest : Alts) (s : Scope) (n j m : ℕ)
      (term : normal.Term) (others : normal.Branches) → is_nameless k x.name.0 ≡ true
      → IsNormal p s n body term j → AreBranches p s j rest others m
      → AreBranches p s n (AndAlt (pattern.Default x) body rest) (normal.OnAny None term others) m
  nameless_branch x body rest s n j m term others h f g
      = NamelessBranch (sym (ap (λ k. is_nameless k x.name.0) e ∙ nameless_named p x.name.0) ∙ h) f
      g

  pub named_branch : (x : Binder) (body : Expr) (rest : Alts) (s t : Scope) (n l j m y : ℕ)
      (term : normal.Term) (others : normal.Branches) → is_nameless k x.name.0 ≡ false → y ≡ n
      → t ≡ named k x.name.0 y s → l ≡ n + 1
      → IsNormal p t l body term j → AreBranches p s j rest others m
      → AreBranches p s n (AndAlt (pattern.Default x) body rest)
      (normal.OnAny (Some y) term others) m
  named_branch x body rest s t n l j m y term others h local scope next f g =
      let here : t ≡ binds p x.name.0 n s = scope ∙ (λ i. named (e i) x.name.0 (local i) s) ∙
      named_binds p x.name.0 n s in
      subst (λ y. AreBranches p s n (AndAlt (pattern.Default x) body rest)
      (normal.OnAny (Some y) term others) m) (sym local)
      (NamedBranch (sym (ap (λ k. is_nameless k x.name.0) e ∙ nameless_named p x.name.0) ∙ h)
      (subst (λ s. IsNormal p s (n + 1) body term j) here
      (subst (λ n. IsNormal p t n body term j) next f)) g)

-- ---- numbers in a row

range_suc : (a n : ℕ) → range_with_len a (suc n) ≡ range_with_len a n ++ (a + n) ∷ []
range_suc a zero = let e : a ≡ a + 0 = omega arith in ap (λ k. k ∷ []) e
range_suc a (suc n) =
    let e : a + 1 + n ≡ a + suc n = omega arith in
    ap (λ l. a ∷ l) (range_suc (a + 1) n ∙ ap (λ k. range_with_len (a + 1) n ++ k ∷ []) e)

pub range_more : (a n j : ℕ) → j ≡ a + n → range_with_len a (n + 1) ≡ range_with_len a n ++ j ∷ []
range_more a n j e = let s : n + 1 ≡ suc n = omega arith
    in ap (range_with_len a) s ∙ range_suc a n ∙ ap (λ k. range_with_len a n ++ k ∷ []) (sym e)

-- a branch of the code's alternative
pub branch_along : (p : Program) (s : Scope) (n m : ℕ) (a : Alt) (pat : Pattern) (rest : Alts)
    (b b' : normal.Branches) → a.pattern ≡ pat → b ≡ b'
    → AreBranches p s n (AndAlt pat (expr a.body) rest) b' m
    → AreBranches p s n (alternative a rest) b m
branch_along p s n m a pat rest b b' e f h =
    subst (λ q. AreBranches p s n q b m)
    (sym (alternative_of a rest ∙ ap (λ q. AndAlt q (expr a.body) rest) e))
    (subst (λ q. AreBranches p s n (AndAlt pat (expr a.body) rest) q m) (sym f) h)
