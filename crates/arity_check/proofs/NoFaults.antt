-- What breaks no rule has parts that break none.
use Rattle.std.proofs.Common.{◌≡◌, ℕ, zero, suc, ◌+◌, ◌<◌, List, [], ◌∷◌, ◌++◌, map, length, take, drop, get_or, refl, sym, ap, ◌∙◌, subst, arith, Option, Some, None}
use Rattle.std.specs.Prelude.{◌==◌, if◌then◌else◌, false, Bool}
use Rattle.core_reader.specs.declared.syntax.Atom.{Atom}
use Rattle.core_reader.specs.declared.syntax.App.{App}
use Rattle.core_reader.specs.declared.syntax.Bind as code
use Rattle.core_reader.specs.declared.syntax.Alt.{Alt}
use Rattle.core_reader.specs.declared.syntax.Expr as code-expr
use Rattle.core_reader.specs.declared.syntax.Expr.TheVariants as code-variant
use Rattle.std.specs.declared.boxed.Box.{Box}
use Rattle.std.specs.declared.alloc.Global.{Global}
use Rattle.core_reader.specs.declared.syntax.Pattern.{Pattern}
use Rattle.core_reader.specs.declared.syntax.Pattern.TheVariants as pattern
use Rattle.core_reader.specs.Tree.{Term, Terms, AndTerm, Bracket, Let, Case, term, terms_of, application, bind, expr, alternative, alts_of}
use Rattle.core_reader.proofs.TreeOf.{application_of, alternative_of, expr_of-Let, expr_of-Case}
use Rattle.arity_check.specs.Forms.{PatternIsDeclared}
use Rattle.arity_check.specs.declared.refusal.CheckRefusal.{CheckRefusal}
use Rattle.arity_check.specs.Scope.{Scope}
use Rattle.arity_check.specs.Known.{Known, all_entered}
use Rattle.arity_check.specs.Standing.{count}
use Rattle.arity_check.specs.Pieces.{binders_of, bound_by}
use Rattle.arity_check.specs.Faults.{PatternsSeen, with_pattern_seen, is_none, size_faults, applied_to, arity_faults, head_faults, args_faults, app_faults, members_faults, binders_faults, pattern_faults, patterns_faults, no_patterns, expr_faults, alts_faults, alt_faults}
use Rattle.std.proofs.lemmas.List.{length-map}
use Rattle.arity_check.proofs.Counts.{count_terms}
use Rattle.arity_check.proofs.Weight.{term_weight, terms_weight, expr_weight, alts_weight}

pub no_front : (xs ys : List CheckRefusal) → xs ++ ys ≡ [] → xs ≡ []
no_front [] ys e = refl
no_front (x ∷ xs) ys e = cc

pub no_back : (xs ys : List CheckRefusal) → xs ++ ys ≡ [] → ys ≡ []
no_back [] ys e = e
no_back (x ∷ xs) ys e = cc

module _ (k : Known) (s : Scope) where
  -- an argument
  pub arg_sound : (items : List Atom) (i : ℕ) (x : Atom) → i < length items → x ≡ get_or items i x
      → args_faults k s (terms_of (map term items)) ≡ [] → head_faults k s 0 (term x) ≡ []
  arg_sound [] i x l is e = absurd (omega (arith, l))
  arg_sound (y ∷ ys) zero x l is e = ap (λ a. head_faults k s 0 (term a)) is ∙ no_front
      (head_faults k s 0 (term y)) (args_faults k s (terms_of (map term ys))) e
  arg_sound (y ∷ ys) (suc i) x l is e = arg_sound ys i x (omega (arith, l)) is
      (no_back (head_faults k s 0 (term y)) (args_faults k s (terms_of (map term ys))) e)

  -- the arguments in front, and those behind them
  pub front_sound : (items : List Atom) (n : ℕ) → args_faults k s (terms_of (map term items)) ≡ []
      → args_faults k s (terms_of (map term (take n items))) ≡ []
  front_sound [] zero e = refl
  front_sound [] (suc n) e = refl
  front_sound (y ∷ ys) zero e = refl
  front_sound (y ∷ ys) (suc n) e =
      let a = no_front (head_faults k s 0 (term y)) (args_faults k s (terms_of (map term ys))) e in
      let b = front_sound ys n
      (no_back (head_faults k s 0 (term y)) (args_faults k s (terms_of (map term ys))) e) in
      ap (λ t. t ++ args_faults k s (terms_of (map term (take n ys)))) a ∙ b

  pub back_sound : (items : List Atom) (n : ℕ) → args_faults k s (terms_of (map term items)) ≡ []
      → args_faults k s (terms_of (map term (drop n items))) ≡ []
  back_sound [] zero e = refl
  back_sound [] (suc n) e = refl
  back_sound (y ∷ ys) zero e = e
  back_sound (y ∷ ys) (suc n) e = back_sound ys n
      (no_back (head_faults k s 0 (term y)) (args_faults k s (terms_of (map term ys))) e)

  -- the head of a bracket with arguments, whatever stands behind the bracket
  pub inner_head : (n : ℕ) (head : Term) (a : Term) (as' : Terms) (at : ℕ)
      → head_faults k s n (Bracket head (AndTerm a as') at) ≡ []
      → head_faults k s (count (AndTerm a as')) head ≡ []
  inner_head n head a as' at e =
      let z : (count as' + 1 == 0) ≡ false = grind arith in
      ap (λ b. head_faults k s (if b then n else count as' + 1) head) (sym z)
      ∙ no_front (head_faults k s (applied_to n (AndTerm a as')) head)
      (args_faults k s (AndTerm a as')) (no_back (size_faults head (AndTerm a as')) _ e)

  pub inner_args : (n : ℕ) (head : Term) (args : Terms) (at : ℕ)
      → head_faults k s n (Bracket head args at) ≡ [] → args_faults k s args ≡ []
  inner_args n head args at e = no_back (head_faults k s (applied_to n args) head)
      (args_faults k s args) (no_back (size_faults head args) _ e)

pub arg_weight : (items : List Atom) (i : ℕ) (x : Atom) → i < length items → x ≡ get_or items i x
    → term_weight (term x) + 3 < terms_weight (terms_of (map term items))
arg_weight [] i x l is = absurd (omega (arith, l))
arg_weight (y ∷ ys) zero x l is = let e : term_weight (term x) ≡ term_weight (term y)
    = ap (λ a. term_weight (term a)) is in omega arith
arg_weight (y ∷ ys) (suc i) x l is = omega (arith, arg_weight ys i x (omega (arith, l)) is)

pub front_weight : (items : List Atom) (n : ℕ) → n < length items
    → terms_weight (terms_of (map term (take n items))) < terms_weight (terms_of (map term items))
front_weight [] n l = absurd (omega (arith, l))
front_weight (y ∷ ys) zero l = omega arith
front_weight (y ∷ ys) (suc n) l = omega (arith, front_weight ys n (omega (arith, l)))

pub back_weight : (items : List Atom) (n : ℕ) → 0 < n → n < length items
    → terms_weight (terms_of (map term (drop n items))) < terms_weight (terms_of (map term items))
back_weight [] n z l = absurd (omega (arith, l))
back_weight (y ∷ ys) zero z l = absurd (omega (arith, z))
back_weight (y ∷ ys) (suc zero) z l = omega arith
back_weight (y ∷ ys) (suc (suc n)) z l = omega
    (arith, back_weight ys (suc n) (omega arith) (omega (arith, l)))

-- the same for the head of a bracket with these arguments
pub inner_head_of : (k : Known) (s : Scope) (n : ℕ) (head : Term) (items : List Atom) (at : ℕ)
    → (items ≡ [] → ⊥) → head_faults k s n (Bracket head (terms_of (map term items)) at) ≡ []
    → head_faults k s (length items) head ≡ []
inner_head_of k s n head [] at h e = absurd (h refl)
inner_head_of k s n head (y ∷ ys) at h e =
    let m : count (terms_of (map term ys)) ≡ length ys = simp (count_terms, length-map) in
    let l : length (y ∷ ys) ≡ count (AndTerm (term y) (terms_of (map term ys))) = omega (arith, m)
    in
    ap (λ m. head_faults k s m head) l ∙ inner_head k s n head (term y) (terms_of (map term ys)) at
    e

-- the head and the arguments of an application
pub app_head : (k : Known) (s : Scope) (app : App) (m : ℕ) → m ≡ length app.args
    → app_faults k s 0 (application app) ≡ [] → head_faults k s m (term app.head) ≡ []
app_head k s app m l e =
    let args : Terms = terms_of (map term app.args) in
    let f : size_faults (term app.head) args ++
    (head_faults k s (applied_to 0 args) (term app.head) ++ args_faults k s args) ≡ []
    = ap (app_faults k s 0) (sym (application_of app)) ∙ e in
    let size : count args ≡ length app.args = simp (count_terms, length-map) in
    ap (λ n. head_faults k s n (term app.head)) (l ∙ sym size ∙ sym (own (count args)))
    ∙ no_front (head_faults k s (applied_to 0 args) (term app.head)) (args_faults k s args)
    (no_back (size_faults (term app.head) args) _ f)
  where
    own : (n : ℕ) → (if n == 0 then 0 else n) ≡ n
    own zero = refl
    own (suc n) = let z : (suc n == 0) ≡ false = grind arith in ap (λ b. if b then 0 else suc n) z

pub app_args : (k : Known) (s : Scope) (app : App) (items : List Atom) → items ≡ app.args
    → app_faults k s 0 (application app) ≡ [] → args_faults k s (terms_of (map term items)) ≡ []
app_args k s app items i e =
    let args : Terms = terms_of (map term app.args) in
    let f : size_faults (term app.head) args ++
    (head_faults k s (applied_to 0 args) (term app.head) ++ args_faults k s args) ≡ []
    = ap (app_faults k s 0) (sym (application_of app)) ∙ e in
    ap (λ xs. args_faults k s (terms_of (map term xs))) i
    ∙ no_back (head_faults k s (applied_to 0 args) (term app.head)) (args_faults k s args)
    (no_back (size_faults (term app.head) args) _ f)

-- a member of a let group
pub member_sound : (k : Known) (s : Scope) (items : List code.Bind) (i : ℕ) (x : code.Bind)
    → i < length items → x ≡ get_or items i x → members_faults k s (map bind items) ≡ []
    → app_faults k s 0 (application x.app) ≡ []
member_sound k s [] i x l is e = absurd (omega (arith, l))
member_sound k s (y ∷ ys) zero x l is e = ap
    (λ (b : code.Bind). app_faults k s 0 (application b.app)) is ∙ no_front
    (app_faults k s 0 (application y.app)) (members_faults k s (map bind ys)) e
member_sound k s (y ∷ ys) (suc i) x l is e = member_sound k s ys i x (omega (arith, l)) is
    (no_back (app_faults k s 0 (application y.app)) (members_faults k s (map bind ys)) e)

-- an alternative
front_alt : (k : Known) (s : Scope) (y : Alt) (ys : List Alt)
    → alts_faults k s (alts_of (map alternative (y ∷ ys))) ≡ []
    → alt_faults k s y.pattern (expr y.body) ++ alts_faults k s (alts_of (map alternative ys)) ≡ []
front_alt k s y ys e = ap (alts_faults k s) (sym (alternative_of y (alts_of (map alternative ys))))
    ∙ e

pub alt_sound : (k : Known) (s : Scope) (items : List Alt) (i : ℕ) (x : Alt) → i < length items
    → x ≡ get_or items i x → alts_faults k s (alts_of (map alternative items)) ≡ []
    → alt_faults k s x.pattern (expr x.body) ≡ []
alt_sound k s [] i x l is e = absurd (omega (arith, l))
alt_sound k s (y ∷ ys) zero x l is e = ap (λ (a : Alt). alt_faults k s a.pattern (expr a.body)) is ∙
    no_front (alt_faults k s y.pattern (expr y.body))
    (alts_faults k s (alts_of (map alternative ys))) (front_alt k s y ys e)
alt_sound k s (y ∷ ys) (suc i) x l is e = alt_sound k s ys i x (omega (arith, l)) is
    (no_back (alt_faults k s y.pattern (expr y.body))
    (alts_faults k s (alts_of (map alternative ys))) (front_alt k s y ys e))

declared : (o : Option ℕ) (at n : ℕ) → arity_faults o at n ≡ [] → o ≡ None → ⊥
declared None at n e f = cc
declared (Some m) at n e f = cc

known_pattern : (k : Known) (seen : PatternsSeen) (b : Bool) (pat : Pattern)
    → pattern_faults k seen b pat ≡ [] → PatternIsDeclared k pat
known_pattern k seen b (pattern.Con c fields) e = declared (k.fields c.name.0) c.at (length fields)
    (no_front (arity_faults (k.fields c.name.0) c.at (length fields)) _ e)
known_pattern k seen b (pattern.Int n at) e = tt
known_pattern k seen b (pattern.Default x) e = tt

front_pattern : (k : Known) (seen : PatternsSeen) (y : Alt) (ys : List Alt)
    → patterns_faults k seen (alts_of (map alternative (y ∷ ys))) ≡ []
    → pattern_faults k seen (is_none (alts_of (map alternative ys))) y.pattern
    ++ patterns_faults k (with_pattern_seen seen y.pattern) (alts_of (map alternative ys)) ≡ []
front_pattern k seen y ys e = ap (patterns_faults k seen)
    (sym (alternative_of y (alts_of (map alternative ys)))) ∙ e

pub pattern_sound : (k : Known) (seen : PatternsSeen) (items : List Alt) (i : ℕ) (x : Alt)
    → i < length items → x ≡ get_or items i x → patterns_faults k seen
    (alts_of (map alternative items)) ≡ [] → PatternIsDeclared k x.pattern
pattern_sound k seen [] i x l is e = absurd (omega (arith, l))
pattern_sound k seen (y ∷ ys) zero x l is e =
    subst (λ (a : Alt). PatternIsDeclared k a.pattern) (sym is)
    (known_pattern k seen (is_none (alts_of (map alternative ys))) y.pattern
    (no_front (pattern_faults k seen (is_none (alts_of (map alternative ys))) y.pattern) _
    (front_pattern k seen y ys e)))
pattern_sound k seen (y ∷ ys) (suc i) x l is e = pattern_sound k (with_pattern_seen seen y.pattern)
    ys i x (omega (arith, l)) is
    (no_back (pattern_faults k seen (is_none (alts_of (map alternative ys))) y.pattern) _
    (front_pattern k seen y ys e))

-- ---- expressions

module _ (k : Known) (s : Scope) (e : code-expr.Expr) where
  let_faults : (group : List code.Bind) (body : Box code-expr.Expr Global)
      → e ≡ code-variant.Let group body → expr_faults k s (expr e) ≡ []
      → expr_faults k s (Let (map bind group) (expr body.value)) ≡ []
  let_faults group body is f = ap (expr_faults k s)
      (sym (expr_of-Let group body) ∙ ap expr (sym is)) ∙ f

  -- the members of a let group, and its body
  pub let_members : (group items : List code.Bind) (body : Box code-expr.Expr Global)
      → e ≡ code-variant.Let group body → items ≡ group → expr_faults k s (expr e) ≡ []
      → members_faults k (all_entered k (binders_of (map bind items)) s) (map bind items) ≡ []
  let_members group items body is g f =
      let all = let_faults group body is f in
      (λ i. members_faults k (all_entered k (binders_of (map bind (g i))) s) (map bind (g i))) ∙
      no_front (members_faults k (all_entered k (binders_of (map bind group)) s)
      (map bind group)) _
      (no_back (binders_faults k (λ x. false) (binders_of (map bind group))) _ all)

  pub let_body : (group : List code.Bind) (body : Box code-expr.Expr Global)
      → e ≡ code-variant.Let group body → expr_faults k s (expr e) ≡ []
      → expr_faults k (all_entered k (binders_of (map bind group)) s) (expr body.value) ≡ []
  let_body group body is f =
      let all = let_faults group body is f in
      no_back (members_faults k (all_entered k (binders_of (map bind group)) s) (map bind group)) _
      (no_back (binders_faults k (λ x. false) (binders_of (map bind group))) _ all)

  case_faults : (tested : Box code-expr.Expr Global) (alts : List Alt)
      → e ≡ code-variant.Case tested alts → expr_faults k s (expr e) ≡ []
      → expr_faults k s (Case (expr tested.value) (alts_of (map alternative alts))) ≡ []
  case_faults tested alts is f = ap (expr_faults k s)
      (sym (expr_of-Case tested alts) ∙ ap expr (sym is)) ∙ f

  -- what a case looks at, its patterns and its alternatives
  pub case_tested : (tested : Box code-expr.Expr Global) (alts : List Alt)
      → e ≡ code-variant.Case tested alts → expr_faults k s (expr e) ≡ []
      → expr_faults k s (expr tested.value) ≡ []
  case_tested tested alts is f = no_front (expr_faults k s (expr tested.value)) _
      (case_faults tested alts is f)

  pub case_patterns : (tested : Box code-expr.Expr Global) (alts items : List Alt)
      → e ≡ code-variant.Case tested alts → items ≡ alts → expr_faults k s (expr e) ≡ []
      → patterns_faults k no_patterns (alts_of (map alternative items)) ≡ []
  case_patterns tested alts items is g f =
      ap (λ as'. patterns_faults k no_patterns (alts_of (map alternative as'))) g ∙ no_front
      (patterns_faults k no_patterns (alts_of (map alternative alts))) _
      (no_back (expr_faults k s (expr tested.value)) _ (case_faults tested alts is f))

  pub case_alts : (tested : Box code-expr.Expr Global) (alts items : List Alt)
      → e ≡ code-variant.Case tested alts → items ≡ alts → expr_faults k s (expr e) ≡ []
      → alts_faults k s (alts_of (map alternative items)) ≡ []
  case_alts tested alts items is g f =
      ap (λ as'. alts_faults k s (alts_of (map alternative as'))) g ∙ no_back
      (patterns_faults k no_patterns (alts_of (map alternative alts))) _
      (no_back (expr_faults k s (expr tested.value)) _ (case_faults tested alts is f))

-- the body of an alternative, behind what its pattern binds
pub alt_body : (k : Known) (s : Scope) (pat pat' : Pattern) (body : code-expr.Expr) → pat ≡ pat'
    → alt_faults k s pat (expr body) ≡ [] → expr_faults k (all_entered k (bound_by pat') s)
    (expr body) ≡ []
alt_body k s pat pat' body is e = ap (λ q. expr_faults k (all_entered k (bound_by q) s) (expr body))
    (sym is) ∙ no_back (binders_faults k (λ x. false) (bound_by pat)) _ e

-- ---- parts weigh less

pub alt_weight : (items : List Alt) (i : ℕ) (x : Alt) → i < length items → x ≡ get_or items i x
    → expr_weight (expr x.body) + 1 < alts_weight (alts_of (map alternative items))
alt_weight [] i x l is = absurd (omega (arith, l))
alt_weight (y ∷ ys) zero x l is =
    let a : alts_weight (alts_of (map alternative (y ∷ ys))) ≡ expr_weight (expr y.body) +
    alts_weight (alts_of (map alternative ys)) + 2
    = ap alts_weight (alternative_of y (alts_of (map alternative ys))) in
    let b : expr_weight (expr x.body) ≡ expr_weight (expr y.body)
    = ap (λ (q : Alt). expr_weight (expr q.body)) is in
    omega (arith, a, b)
alt_weight (y ∷ ys) (suc i) x l is =
    let a : alts_weight (alts_of (map alternative (y ∷ ys))) ≡ expr_weight (expr y.body) +
    alts_weight (alts_of (map alternative ys)) + 2
    = ap alts_weight (alternative_of y (alts_of (map alternative ys))) in
    omega (arith, a, alt_weight ys i x (omega (arith, l)) is)

pub let_weight : (e : code-expr.Expr) (group : List code.Bind) (body : Box code-expr.Expr Global)
    (inner : code-expr.Expr) → e ≡ code-variant.Let group body → inner ≡ body.value
    → expr_weight (expr inner) < expr_weight (expr e)
let_weight e group body inner is i =
    let a : expr_weight (expr e) ≡ expr_weight (expr body.value) + 1
    = ap expr_weight (ap expr is ∙ expr_of-Let group body) in
    let b : expr_weight (expr inner) ≡ expr_weight (expr body.value)
    = ap (λ q. expr_weight (expr q)) i in
    omega (arith, a, b)

pub case_weight : (e : code-expr.Expr) (tested : Box code-expr.Expr Global) (alts : List Alt)
    → e ≡ code-variant.Case tested alts → expr_weight (expr e) ≡ expr_weight (expr tested.value) +
    alts_weight (alts_of (map alternative alts)) + 1
case_weight e tested alts is = ap expr_weight (ap expr is ∙ expr_of-Case tested alts)
