-- An expression has one normal form.
use Rattle.std.proofs.Common.{◌≡◌, ℕ, suc, ◌+◌, List, [], ◌∷◌, ◌++◌, length, map, refl, sym, ap, ◌∙◌, subst, arith, Option, Some, None}
use Rattle.core_reader.specs.Tree as tree
use Rattle.core_reader.specs.Tree.{Program, Term, Expr, Alts, Bind}
use Rattle.arity_check.specs.declared.normal.Bound.{Bound}
use Rattle.arity_check.specs.Scope.{Scope, binds_all}
use Rattle.arity_check.specs.Program as normal
use Rattle.arity_check.specs.declared.normal.Con as constructors
use Rattle.arity_check.specs.One.{NormalFormIsUnique}
use Rattle.arity_check.specs.Normal.{IsConstructor, IsFunction, Pairwise, bound, IsFlat, IsGroup, NoMembers, AndMember, IsNormal, PlainApp, BoundApp, Group, Choice, AreBranches, NoBranches, ConBranch, IntBranch, NamelessBranch, NamedBranch}
use Rattle.arity_check.proofs.Single.{flat_one}
use Rattle.arity_check.proofs.Counted.{Alike, Same, alike_all, flat_count}

numbers : (o : Option ℕ) (a b : ℕ) → o ≡ Some a → o ≡ Some b → a ≡ b
numbers o a b e f = cc

texts : (o : Option (List ℕ)) (a b : List ℕ) → o ≡ Some a → o ≡ Some b → a ≡ b
texts o a b e f = cc

pairwise_one : {X Y : Type 0} (R : X → Y → Type 0) → ((x : X) (y y' : Y) → R x y → R x y' → y ≡ y')
    → (xs : List X) (ys ys' : List Y) → Pairwise R xs ys → Pairwise R xs ys' → ys ≡ ys'
pairwise_one R one [] [] [] a b = refl
pairwise_one R one [] [] (y ∷ ys) a b = elim b [ ]
pairwise_one R one [] (y ∷ ys) ys' a b = elim a [ ]
pairwise_one R one (x ∷ xs) [] ys' a b = elim a [ ]
pairwise_one R one (x ∷ xs) (y ∷ ys) [] a b = elim b [ ]
pairwise_one R one (x ∷ xs) (y ∷ ys) (y' ∷ ys') a b = let t = pairwise_one R one xs ys ys' a.1 b.1
    in λ i. one x y y' a.0 b.0 i ∷ t i

module _ (p : Program) where
  pub group_length : {s : Scope} {n : ℕ} {bs : List Bind} {bounds : List Bound} {xs : List ℕ}
      → IsGroup p s n bs bounds xs → length xs ≡ length bs
  group_length NoMembers = refl
  group_length (AndMember news bounds form t a e b is) = ap suc (group_length b)

  pub group_locals : {s s' : Scope} {n n' : ℕ} {bs : List Bind} {bounds bounds' : List Bound}
      {xs xs' : List ℕ} → Alike p s s' → Alike p s' s → n ≡ n' → IsGroup p s n bs bounds xs
      → IsGroup p s' n' bs bounds' xs' → xs ≡ xs'
  group_locals al al' e NoMembers NoMembers = refl
  group_locals {s = s} {s' = s'} al al' e (AndMember news bounds form t a is b js)
      (AndMember news' bounds' form' t' a' is' b' js') =
      let same : t ≡ t' = omega (arith, is, is', e, flat_count p s s' al al' a a') in
      let rest = group_locals al al' (ap (λ k. k + 1) same) b b' in
      λ i. same i ∷ rest i

  group_one : {s : Scope} {n n' : ℕ} {bs : List Bind} {bounds bounds' : List Bound}
      {xs xs' : List ℕ} → n ≡ n' → IsGroup p s n bs bounds xs → IsGroup p s n' bs bounds' xs'
      → bounds ≡ bounds'
  group_one e NoMembers NoMembers = refl
  group_one {s = s} e (AndMember {b = b} news bounds form t a is c js)
      (AndMember news' bounds' form' t' a' is' c' js') =
      let r = flat_one p s a
      (subst (λ k. IsFlat p s k b.app.head b.app.args news' form') (sym e) a') in
      let same : t ≡ t' = is ∙ (λ i. e i + length (r.0 i)) ∙ sym is' in
      let rest = group_one (ap (λ k. k + 1) same) c c' in
      js ∙ (λ i. r.0 i ++ bound (same i) (r.1 i) ∷ rest i) ∙ sym js'

  mutual
    pub normal_one : {s : Scope} {n : ℕ} {e : Expr} {t t' : normal.Term} {m m' : ℕ}
        → IsNormal p s n e t m → IsNormal p s n e t' m' → (t ≡ t') × (m ≡ m')
    normal_one {s = s} (PlainApp a) (PlainApp a') = let r = flat_one p s a a'
        in (ap normal.App r.1, refl)
    normal_one {s = s} (PlainApp a) (BoundApp a') = let r = flat_one p s a a' in let e = r.0
        in absurd cc
    normal_one {s = s} (BoundApp a) (PlainApp a') = let r = flat_one p s a a' in let e = r.0
        in absurd cc
    normal_one {s = s} {n = n} (BoundApp a) (BoundApp a') =
        let r = flat_one p s a a' in
        ((λ i. normal.Let (r.0 i) (normal.App (r.1 i))), ap (λ l. n + length l) r.0)
    normal_one {s = s} {n = n} (Group {group = group} {body = body} inner xs bounds e g b)
        (Group {m = k} {e = d} inner' xs' bounds' e' g' b') =
        let names : List ℕ = map (λ b. b.binder.name.0) group in
        let lengths : length xs ≡ length xs' = group_length g ∙ sym (group_length g') in
        let al : Alike p inner inner' = rw (e, e')
        (alike_all p names xs xs' s s lengths (λ x. Same)) in
        let al' : Alike p inner' inner = rw (e, e')
        (alike_all p names xs' xs s s (sym lengths) (λ x. Same)) in
        let same : xs ≡ xs' = group_locals al al' refl g g' in
        let scopes : inner ≡ inner' = e ∙ ap (λ l. binds_all p names l s) same ∙ sym e' in
        let one : bounds ≡ bounds' = group_one refl g
        (subst (λ q. IsGroup p q n group bounds' xs') (sym scopes) g') in
        let r = normal_one b
        (subst (λ l. IsNormal p inner (n + length l) body d k) (sym one)
        (subst (λ q. IsNormal p q (n + length bounds') body d k) (sym scopes) b')) in
        ((λ i. normal.Let (one i) (r.0 i)), r.1)
    normal_one {s = s} {m' = m'} (Choice {alts = alts} a b) (Choice {branches = bs} a' b') =
        let r = normal_one a a' in
        let t = branches_one b (subst (λ k. AreBranches p s k alts bs m') (sym r.1) b') in
        ((λ i. normal.Case (r.0 i) (t.0 i)), t.1)

    branches_one : {s : Scope} {n : ℕ} {alts : Alts} {bs bs' : normal.Branches} {m m' : ℕ}
        → AreBranches p s n alts bs m → AreBranches p s n alts bs' m' → (bs ≡ bs') × (m ≡ m')
    branches_one NoBranches NoBranches = (refl, refl)
    branches_one {s = s} {n = n} {m' = m'}
        (ConBranch {fields = fields} {body = body} {rest = rest} xs c e a b)
        (ConBranch {k = k} {e = d} {branches = bs} xs' c' e' a' b') =
        let names : List ℕ = map (λ x. x.name.0) fields in
        let same : xs ≡ xs' = e ∙ sym e' in
        let number = numbers _ _ _ c c' in
        let r = normal_one a
        (subst (λ l. IsNormal p (binds_all p names l s) (n + length fields) body d k) (sym same)
        a') in
        let t = branches_one b (subst (λ k. AreBranches p s k rest bs m') (sym r.1) b') in
        ((λ i. normal.OnCon (number i) (same i) (r.0 i) (t.0 i)), t.1)
    branches_one {s = s} {m' = m'} (IntBranch {number = number} {rest = rest} a b)
        (IntBranch {branches = bs} a' b') =
        let r = normal_one a a' in
        let t = branches_one b (subst (λ k. AreBranches p s k rest bs m') (sym r.1) b') in
        ((λ i. normal.OnInt number (r.0 i) (t.0 i)), t.1)
    branches_one {s = s} {m' = m'} (NamelessBranch {rest = rest} e a b)
        (NamelessBranch {branches = bs} e' a' b') =
        let r = normal_one a a' in
        let t = branches_one b (subst (λ k. AreBranches p s k rest bs m') (sym r.1) b') in
        ((λ i. normal.OnAny None (r.0 i) (t.0 i)), t.1)
    branches_one (NamelessBranch e a b) (NamedBranch e' a' b') = absurd cc
    branches_one (NamedBranch e a b) (NamelessBranch e' a' b') = absurd cc
    branches_one {s = s} {n = n} {m' = m'} (NamedBranch {rest = rest} e a b)
        (NamedBranch {branches = bs} e' a' b') =
        let r = normal_one a a' in
        let t = branches_one b (subst (λ k. AreBranches p s k rest bs m') (sym r.1) b') in
        ((λ i. normal.OnAny (Some n) (r.0 i) (t.0 i)), t.1)

  constructor_one : (d : tree.Data) (c c' : constructors.Con) → IsConstructor p d c
      → IsConstructor p d c' → c ≡ c'
  constructor_one d c c' a b = let n = texts _ _ _ a.name b.name in let f : c.fields ≡ c'.fields
      = a.fields ∙ sym b.fields in λ i. record { name = n i; fields = f i }

  function_one : (f : tree.Function) (g g' : normal.Function) → IsFunction p f g → IsFunction p f g'
      → g ≡ g'
  function_one f g g' a b =
      let n = texts _ _ _ a.name b.name in
      let k : g.params ≡ g'.params = a.params ∙ sym b.params in
      let r = normal_one a.body b.body in
      λ i. record { name = n i; params = k i; body = r.0 i }

pub one_normal_form : NormalFormIsUnique
one_normal_form p q q' a b =
    let cs = pairwise_one (IsConstructor p) (constructor_one p) p.constructors q.cons q'.cons a.cons
    b.cons in
    let fs = pairwise_one (IsFunction p) (function_one p) p.functions q.funs q'.funs a.funs b.funs
    in
    let m = numbers _ _ _ a.main b.main in
    λ i. record { cons = cs i; funs = fs i; main = m i }
