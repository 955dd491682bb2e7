-- Binders enter a scope, under their numbers or under others, and leave it.
use Rattle.std.proofs.Common.{◌≡◌, ℕ, ◌+◌, ◌-◌, ◌<◌, Bool, true, false, List, [], ◌∷◌, ◌++◌, length, drop, get_or, refl, sym, ap, ◌∙◌, arith, Option, Some, None, append_assoc}
use Rattle.std.proofs.lemmas.List.{drop_more}
use Rattle.std.specs.Prelude.{◌==◌, if◌then◌else◌}
use Rattle.core_reader.specs.declared.syntax.Binder.{Binder}
use Rattle.core_reader.specs.Tree.{Program, Term, Terms, Name, Con, Int, Bracket, NoTerms, AndTerm, Application, Expr, App, Let, Case, Alts, Bind, NoAlts, AndAlt}
use Rattle.arity_check.specs.Scope.{Scope, Meaning, Local, Function, Primitive, Unbound, binds, binds_all, unless_primitive}
use Rattle.arity_check.specs.Locals.{innermost_local}
use Rattle.arity_check.specs.Known.{Known, is_nameless, local_meaning, meaning, named, all_named, entered, all_entered, kind_meaning}
use Rattle.arity_check.specs.Whole.{known_of}
use Rattle.arity_check.specs.Pieces.{names_of, binders_of, bound_by}
use Rattle.arity_check.specs.Faults.{meaning_faults, applied_to, size_faults, head_faults, args_faults, app_faults, members_faults, binders_faults, patterns_faults, no_patterns, expr_faults, alts_faults}
use Rattle.arity_check.proofs.Names.{nameless_named}
use Rattle.arity_check.proofs.Counts.{left_append}
use Rattle.seq.specs.Lists.{is_present}

-- ---- by the tables and by the program

pub named_binds : (p : Program) (x y : ℕ) (s : Scope) → named (known_of p) x y s ≡ binds p x y s
named_binds p x y s = ap (λ b. if b then s else (x, y) ∷ s) (nameless_named p x)

pub all_named_binds : (p : Program) (xs ys : List ℕ) (s : Scope)
    → all_named (known_of p) xs ys s ≡ binds_all p xs ys s
all_named_binds p [] ys s = refl
all_named_binds p (x ∷ xs) [] s = refl
all_named_binds p (x ∷ xs) (y ∷ ys) s = all_named_binds p xs ys (named (known_of p) x y s) ∙ ap
    (binds_all p xs ys) (named_binds p x y s)

-- ---- leaving

named_append : (k : Known) (xs ys : List ℕ) (s : Scope) → (added : Scope)
    × (all_named k xs ys s ≡ added ++ s)
named_append k [] ys s = ([], refl)
named_append k (x ∷ xs) [] s = ([], refl)
named_append k (x ∷ xs) (y ∷ ys) s =
    let rest = named_append k xs ys (named k x y s) in
    go (is_nameless k x) (all_named k xs ys (named k x y s)) rest.0 rest.1
  where
    go : (b : Bool) (t added : Scope) → t ≡ added ++ (if b then s else (x, y) ∷ s) → (added : Scope)
        × (t ≡ added ++ s)
    go true t added e = (added, e)
    go false t added e = (added ++ ((x, y) ∷ []), e ∙ sym (append_assoc added ((x, y) ∷ []) s))

pub leaves_named : (k : Known) (xs ys : List ℕ) (s t u v : Scope) (depth : ℕ) → depth ≡ length s
    → t ≡ all_named k xs ys s → u ≡ t → v ≡ drop (length u - depth) u → v ≡ s
leaves_named k xs ys s t u v depth d e f g =
    let a = named_append k xs ys s in
    g ∙ ap (λ n. drop (length u - n) u) d ∙ ap (λ u. drop (length u - length s) u) (f ∙ e ∙ a.1) ∙
    left_append a.0 s

-- one more binder entered the scope
pub one_named : (k : Known) (xs : List Binder) (ys : List ℕ) (i : ℕ) (x : Binder) (y : ℕ)
    (s t r : Scope) → i < length xs → length xs ≡ length ys → x ≡ get_or xs i x → y ≡ get_or ys i 0
    → all_named k (names_of (drop i xs)) (drop i ys) s ≡ r → t ≡ named k x.name.0 y s
    → all_named k (names_of (drop (i + 1) xs)) (drop (i + 1) ys) t ≡ r
one_named k xs ys i x y s t r l e is js h f =
    let a : drop i xs ≡ x ∷ drop (i + 1) xs = drop_more xs i x l ∙ ap (λ z. z ∷ drop (i + 1) xs)
    (sym is) in
    let m : i < length ys = omega (arith, l, e) in
    let b : drop i ys ≡ y ∷ drop (i + 1) ys = drop_more ys i 0 m ∙ ap (λ z. z ∷ drop (i + 1) ys)
    (sym js) in
    ap (all_named k (names_of (drop (i + 1) xs)) (drop (i + 1) ys)) f ∙ sym
    (λ j. all_named k (names_of (a j)) (b j) s) ∙ h

-- ---- the numbers of the locals are of no account for the rules

-- the same names are locals
abbrev pub SameLocals : Scope → Scope → Type 0
SameLocals s s' = (x : ℕ) → is_present (innermost_local s x) ≡ is_present (innermost_local s' x)

module _ (k : Known) where
  meaning_same : (s s' : Scope) → SameLocals s s' → (x at n : ℕ)
      → meaning_faults (meaning k s x) at n ≡ meaning_faults (meaning k s' x) at n
  meaning_same s s' a x at n = go (is_nameless k x) (kind_meaning (k.kind x))
    where
      locals : (o o' : Option ℕ) → is_present o ≡ is_present o'
          → meaning_faults (local_meaning k x o) at n ≡ meaning_faults (local_meaning k x o') at n
      locals None None e = refl
      locals None (Some y) e = cc
      locals (Some y) None e = cc
      locals (Some y) (Some z) e = refl

      under : (m : Meaning) → meaning_faults
          (unless_primitive m (local_meaning k x (innermost_local s x))) at n ≡ meaning_faults
          (unless_primitive m (local_meaning k x (innermost_local s' x))) at n
      under (Primitive op) = refl
      under (Local y) = locals (innermost_local s x) (innermost_local s' x) (a x)
      under (Function f j) = locals (innermost_local s x) (innermost_local s' x) (a x)
      under Unbound = locals (innermost_local s x) (innermost_local s' x) (a x)

      go : (b : Bool) (m : Meaning) → meaning_faults
          (if b then Unbound else unless_primitive m (local_meaning k x (innermost_local s x))) at n
          ≡ meaning_faults
          (if b then Unbound else unless_primitive m (local_meaning k x (innermost_local s' x))) at
          n
      go true m = refl
      go false m = under m

  named_same : (s s' : Scope) (x y y' : ℕ) → SameLocals s s'
      → SameLocals (named k x y s) (named k x y' s')
  named_same s s' x y y' a = go (is_nameless k x)
    where
      at : (q : ℕ) (b : Bool) → is_present (if b then Some y else innermost_local s q) ≡ is_present
          (if b then Some y' else innermost_local s' q)
      at q true = refl
      at q false = a q

      go : (b : Bool) → SameLocals (if b then s else (x, y) ∷ s) (if b then s' else (x, y') ∷ s')
      go true = a
      go false = λ q. at q (x == q)

  entered_same : (xs : List Binder) (s s' : Scope) → SameLocals s s'
      → SameLocals (all_entered k xs s) (all_entered k xs s')
  entered_same [] s s' a = a
  entered_same (x ∷ xs) s s' a = entered_same xs (entered k x s) (entered k x s')
      (named_same s s' x.name.0 x.name.0 x.name.0 a)

  pub all_named_same : (xs : List Binder) (ys : List ℕ) (s s' : Scope) → length ys ≡ length xs
      → SameLocals s s' → SameLocals (all_named k (names_of xs) ys s) (all_entered k xs s')
  all_named_same [] ys s s' e a = a
  all_named_same (x ∷ xs) [] s s' e a = absurd (omega (arith, e))
  all_named_same (x ∷ xs) (y ∷ ys) s s' e a = all_named_same xs ys (named k x.name.0 y s)
      (entered k x s') (omega (arith, e)) (named_same s s' x.name.0 y x.name.0 a)

  mutual
    head_same : (s s' : Scope) → SameLocals s s' → (n : ℕ) (t : Term)
        → head_faults k s n t ≡ head_faults k s' n t
    head_same s s' a n (Name x at) = meaning_same s s' a x at n
    head_same s s' a n (Con c at) = refl
    head_same s s' a n (Int i at) = refl
    head_same s s' a n (Bracket head args at) =
        let h = head_same s s' a (applied_to n args) head in
        let g = args_same s s' a args in
        λ j. size_faults head args ++ (h j ++ g j)

    args_same : (s s' : Scope) → SameLocals s s' → (ts : Terms)
        → args_faults k s ts ≡ args_faults k s' ts
    args_same s s' a NoTerms = refl
    args_same s s' a (AndTerm t rest) = let h = head_same s s' a 0 t in let g
        = args_same s s' a rest in λ j. h j ++ g j

  app_same : (s s' : Scope) → SameLocals s s' → (n : ℕ) (app : Application)
      → app_faults k s n app ≡ app_faults k s' n app
  app_same s s' a n app = let h = head_same s s' a (applied_to n app.args) app.head in let g
      = args_same s s' a app.args in λ j. size_faults app.head app.args ++ (h j ++ g j)

  pub members_same : (s s' : Scope) → SameLocals s s' → (bs : List Bind)
      → members_faults k s bs ≡ members_faults k s' bs
  members_same s s' a [] = refl
  members_same s s' a (b ∷ bs) = let h = app_same s s' a 0 b.app in let g = members_same s s' a bs
      in λ j. h j ++ g j

  mutual
    pub expr_same : (s s' : Scope) → SameLocals s s' → (e : Expr)
        → expr_faults k s e ≡ expr_faults k s' e
    expr_same s s' a (App app) = app_same s s' a 0 app
    expr_same s s' a (Let group body) =
        let inner = entered_same (binders_of group) s s' a in
        let h = members_same (all_entered k (binders_of group) s)
        (all_entered k (binders_of group) s') inner group in
        let g = expr_same (all_entered k (binders_of group) s) (all_entered k (binders_of group) s')
        inner body in
        λ j. binders_faults k (λ x. false) (binders_of group) ++ (h j ++ g j)
    expr_same s s' a (Case tested alts) = let h = expr_same s s' a tested in let g
        = alts_same s s' a alts in λ j. h j ++ (patterns_faults k no_patterns alts ++ g j)

    alts_same : (s s' : Scope) → SameLocals s s' → (alts : Alts)
        → alts_faults k s alts ≡ alts_faults k s' alts
    alts_same s s' a NoAlts = refl
    alts_same s s' a (AndAlt pat body rest) =
        let inner = entered_same (bound_by pat) s s' a in
        let h = expr_same (all_entered k (bound_by pat) s) (all_entered k (bound_by pat) s') inner
        body in
        let g = alts_same s s' a rest in
        λ j. (binders_faults k (λ x. false) (bound_by pat) ++ h j) ++ g j

  -- what breaks no rule in one scope breaks none in another with the same locals
  pub expr_behind : (xs : List Binder) (ys : List ℕ) (s t : Scope) (e : Expr)
      → length ys ≡ length xs → t ≡ all_named k (names_of xs) ys s
      → expr_faults k (all_entered k xs s) e ≡ [] → expr_faults k t e ≡ []
  expr_behind xs ys s t e l f h = ap (λ t. expr_faults k t e) f ∙ expr_same
      (all_named k (names_of xs) ys s) (all_entered k xs s) (all_named_same xs ys s s l (λ x. refl))
      e ∙ h

  pub members_behind : (xs : List Binder) (ys : List ℕ) (s t : Scope) (bs : List Bind)
      → length ys ≡ length xs → t ≡ all_named k (names_of xs) ys s
      → members_faults k (all_entered k xs s) bs ≡ [] → members_faults k t bs ≡ []
  members_behind xs ys s t bs l f h = ap (λ t. members_faults k t bs) f ∙ members_same
      (all_named k (names_of xs) ys s) (all_entered k xs s) (all_named_same xs ys s s l (λ x. refl))
      bs ∙ h
