-- The flat forms of the code's applications.
use Rattle.std.proofs.Common.{◌≡◌, ℕ, ℤ, zero, suc, ◌+◌, ◌<◌, ◌≤◌, Bool, true, false, List, [], ◌∷◌, map, length, take, drop, get_or, refl, sym, ap, ◌∙◌, subst, arith, Some, length-take, length-drop}
use Rattle.std.specs.Prelude.{◌==◌, IsTrue, ◌↔◌, IfOk, Result, Ok, Err}
use Rattle.std.specs.declared.boxed.Box.{Box}
use Rattle.std.specs.declared.alloc.Global.{Global}
use Rattle.core_reader.specs.declared.syntax.Atom.{Atom}
use Rattle.core_reader.specs.declared.syntax.Atom.TheVariants as atom
use Rattle.core_reader.specs.declared.syntax.App.{App}
use Rattle.core_reader.specs.declared.syntax.NameId.{NameId}
use Rattle.core_reader.specs.Tree.{Program, Application, Term, Terms, Name, Con, Int, Bracket, NoTerms, AndTerm, term, terms_of, application}
use Rattle.core_reader.proofs.TreeOf.{term_of-Name, term_of-Con, term_of-Int, term_of-Bracket, application_of}
use Rattle.arity_check.specs.declared.normal.Var.{Var}
use Rattle.arity_check.specs.declared.normal.Var.TheVariants as var
use Rattle.arity_check.specs.declared.normal.Flat.{Flat}
use Rattle.arity_check.specs.declared.normal.Flat.TheVariants as flat
use Rattle.arity_check.specs.declared.normal.PrimOp.{PrimOp}
use Rattle.arity_check.specs.declared.flat.Builder.{Builder}
use Rattle.arity_check.specs.Scope as scope
use Rattle.arity_check.specs.Scope.{Scope, Meaning, means, con_number}
use Rattle.arity_check.specs.Known.{Known}
use Rattle.arity_check.specs.Faults.{head_faults, args_faults}
use Rattle.arity_check.specs.Normal as normal
use Rattle.arity_check.specs.Normal.{append, HasTerm}
use Rattle.arity_check.specs.Builds.{AddsFlat, AddsArgs, AddsApplied, AddsNamed}
use Rattle.arity_check.proofs.Weight.{term_weight, terms_weight}
use Rattle.arity_check.proofs.NoFaults.{inner_head_of, inner_args}
use Rattle.arity_check.proofs.Building.{build_int, build_con, build_name, build_int_applied, build_lone_head, build_lone_bracket, build_bracket, build_exceeded}

pub if_ok : {T E : Type 0} {P Q : T → Type 0} (r : Result T E) → ((x : T) → P x → Q x) → IfOk r P
    → IfOk r Q
if_ok (Ok x) f h = f x h
if_ok (Err e) f h = h

pub no_items : (xs : List Atom) (b : Bool) → b ≡ (length xs == 0) → b ≡ true → xs ≡ []
no_items [] b e f = refl
no_items (x ∷ xs) b e f = absurd (grind (arith, e, f))

pub some_items : (xs : List Atom) (b : Bool) → b ≡ (length xs == 0) → b ≡ false → xs ≡ [] → ⊥
some_items [] b e f g = grind (arith, e, f)
some_items (x ∷ xs) b e f g = cc

pub no_members : {T : Type 0} (xs : List T) (b : Bool) → (IsTrue b ↔ (xs ≡ [])) → b ≡ true → xs ≡ []
no_members xs true e f = e.0 refl
no_members xs false e f = cc

pub some_members : {T : Type 0} (xs : List T) (b : Bool) → (IsTrue b ↔ (xs ≡ [])) → b ≡ false
    → xs ≡ [] → ⊥
some_members xs true e f g = cc
some_members xs false e f g = let h = e.1 g in absurd cc

pub two_items : (xs : List Var) (d : Var) → 2 ≤ length xs → length xs < 3
    → xs ≡ get_or xs 0 d ∷ get_or xs 1 d ∷ []
two_items [] d l m = absurd (omega (arith, l))
two_items (x ∷ []) d l m = absurd (omega (arith, l))
two_items (x ∷ (y ∷ [])) d l m = refl
two_items (x ∷ (y ∷ (z ∷ zs))) d l m = absurd (omega (arith, m))

abbrev pub terms : List Atom → Terms
terms items = terms_of (map term items)

-- the tree of a bracket
pub term_bracket : (a : Atom) (o : Box App Global) (at : ℕ) → a ≡ atom.Bracket o at
    → term a ≡ Bracket (term o.value.head) (terms o.value.args) at
term_bracket a o at e = ap term e ∙ term_of-Bracket o at ∙ ap
    (λ (q : Application). Bracket q.head q.args at) (application_of o.value)

-- the head of a bracket that breaks no rule
pub head_in_bracket : (k : Known) (s : Scope) (n m : ℕ) (a : Atom) (o : Box App Global) (at : ℕ)
    (inner : App) → a ≡ atom.Bracket o at → inner ≡ o.value → m ≡ length o.value.args
    → (o.value.args ≡ [] → ⊥) → head_faults k s n (term a) ≡ []
    → head_faults k s m (term inner.head) ≡ []
head_in_bracket k s n m a o at inner e i l h f =
    (λ j. head_faults k s (l j) (term (i j).head)) ∙ inner_head_of k s n (term o.value.head)
    o.value.args at h (ap (head_faults k s n) (sym (term_bracket a o at e)) ∙ f)

pub args_in_bracket : (k : Known) (s : Scope) (n : ℕ) (a : Atom) (o : Box App Global) (at : ℕ)
    (items : List Atom) → a ≡ atom.Bracket o at → items ≡ o.value.args
    → head_faults k s n (term a) ≡ [] → args_faults k s (terms items) ≡ []
args_in_bracket k s n a o at items e i f =
    ap (λ xs. args_faults k s (terms xs)) i ∙ inner_args k s n (term o.value.head)
    (terms o.value.args) at (ap (head_faults k s n) (sym (term_bracket a o at e)) ∙ f)

pub bracket_weight : (a : Atom) (o : Box App Global) (at : ℕ) (inner : App) (items : List Atom)
    → a ≡ atom.Bracket o at → inner ≡ o.value → items ≡ o.value.args
    → term_weight (term inner.head) + terms_weight (terms items) + 5 ≡ term_weight (term a)
bracket_weight a o at inner items e i j =
    let w : term_weight (term a) ≡ term_weight (term o.value.head) + terms_weight
    (terms o.value.args) + 5 = ap term_weight (term_bracket a o at e) in
    (λ l. term_weight (term (i l).head) + terms_weight (terms (j l)) + 5) ∙ sym w

split_terms : (items : List Atom) (n : ℕ) → terms items ≡ append (terms (take n items))
    (terms (drop n items))
split_terms [] zero = refl
split_terms [] (suc n) = refl
split_terms (x ∷ xs) zero = refl
split_terms (x ∷ xs) (suc n) = ap (AndTerm (term x)) (split_terms xs n)

has_terms : (items : List Atom) → 0 < length items → HasTerm (terms items)
has_terms [] l = absurd (omega (arith, l))
has_terms (x ∷ xs) l = tt

module _ (p : Program) (s : Scope) where
  along : (a b : Builder) (t t' : Term) (ts ts' : Terms) (f : Flat) → t ≡ t' → ts ≡ ts'
      → AddsFlat p s a b t' ts' f → AddsFlat p s a b t ts f
  along a b t t' ts ts' f x y h = subst (λ q. AddsFlat p s a b q ts f) (sym x)
      (subst (λ q. AddsFlat p s a b t' q f) (sym y) h)

  pub flat_int : (a : Builder) (head : Atom) (args : List Atom) (k k' : ℤ) (at : ℕ)
      → head ≡ atom.Int k at → args ≡ [] → k' ≡ k → AddsFlat p s a a (term head) (terms args)
      (flat.Int k')
  flat_int a head args k k' at e f g =
      along a a (term head) (Int k at) (terms args) NoTerms (flat.Int k')
      (ap term e ∙ term_of-Int k at) (ap terms f)
      (subst (λ j. AddsFlat p s a a (Int k at) NoTerms (flat.Int j)) (sym g)
      (build_int p s a k at))

  pub flat_int_applied : (a b : Builder) (head : Atom) (args : List Atom) (k k' : ℤ) (at : ℕ)
      (form : Flat) → head ≡ atom.Int k at → (args ≡ [] → ⊥) → k' ≡ k
      → AddsApplied p s a b (flat.Int k') (terms args) form
      → AddsFlat p s a b (term head) (terms args) form
  flat_int_applied a b head [] k k' at form e f g h = absurd (f refl)
  flat_int_applied a b head (x ∷ xs) k k' at form e f g h =
      along a b (term head) (Int k at) (terms (x ∷ xs)) (terms (x ∷ xs)) form
      (ap term e ∙ term_of-Int k at) refl
      (build_int_applied p s a b k at (term x) (terms xs) form
      (subst (λ j. AddsApplied p s a b (flat.Int j) (terms (x ∷ xs)) form) g h))

  pub flat_con : (a b : Builder) (head : Atom) (c : NameId) (at number : ℕ) (args : Terms)
      (xs : List Var) → head ≡ atom.Con c at → con_number p c.0 ≡ Some number
      → AddsArgs p s a b args xs → AddsFlat p s a b (term head) args (flat.Con number xs)
  flat_con a b head c at number args xs e f h = along a b (term head) (Con c.0 at) args args
      (flat.Con number xs) (ap term e ∙ term_of-Con c at) refl
      (build_con p s a b c.0 at number args xs f h)

  pub flat_name : (a b : Builder) (head : Atom) (x : NameId) (at : ℕ) (args : Terms)
      (stands : Meaning) (form : Flat) → head ≡ atom.Name x at → stands ≡ means p s x.0
      → AddsNamed p s a b stands args form → AddsFlat p s a b (term head) args form
  flat_name a b head x at args stands form e f h =
      along a b (term head) (Name x.0 at) args args form (ap term e ∙ term_of-Name x at) refl
      (build_name p s a b x.0 at args form (subst (λ m. AddsNamed p s a b m args form) f h))

  pub flat_lone_head : (a b : Builder) (head : Atom) (o : Box App Global) (at : ℕ) (inner : App)
      (args : Terms) (form : Flat) → head ≡ atom.Bracket o at → inner ≡ o.value → o.value.args ≡ []
      → AddsFlat p s a b (term inner.head) args form → AddsFlat p s a b (term head) args form
  flat_lone_head a b head o at inner args form e i n h =
      along a b (term head) (Bracket (term o.value.head) NoTerms at) args args form
      (term_bracket head o at e ∙ ap (λ xs. Bracket (term o.value.head) (terms xs) at) n) refl
      (build_lone_head p s a b (term o.value.head) at args form
      (subst (λ (q : App). AddsFlat p s a b (term q.head) args form) i h))

  pub flat_lone_bracket : (a b : Builder) (head : Atom) (o : Box App Global) (at : ℕ) (inner : App)
      (items args : List Atom) (form : Flat) → head ≡ atom.Bracket o at → inner ≡ o.value
      → items ≡ o.value.args → args ≡ []
      → AddsFlat p s a b (term inner.head) (terms items) form
      → AddsFlat p s a b (term head) (terms args) form
  flat_lone_bracket a b head o at inner items args form e i j n h =
      along a b (term head) (Bracket (term o.value.head) (terms o.value.args) at) (terms args)
      NoTerms form (term_bracket head o at e) (ap terms n)
      (build_lone_bracket p s a b (term o.value.head) at (terms o.value.args) form
      (subst (λ xs. AddsFlat p s a b (term o.value.head) (terms xs) form) j
      (subst (λ (q : App). AddsFlat p s a b (term q.head) (terms items) form) i h)))

  applied_bracket : (a b c : Builder) (head : Term) (at : ℕ) (items args : List Atom)
      (inner form : Flat) → (items ≡ [] → ⊥) → (args ≡ [] → ⊥)
      → AddsFlat p s a b head (terms items) inner → AddsApplied p s b c inner (terms args) form
      → AddsFlat p s a c (Bracket head (terms items) at) (terms args) form
  applied_bracket a b c head at [] args inner form m n f g = absurd (m refl)
  applied_bracket a b c head at (x ∷ xs) [] inner form m n f g = absurd (n refl)
  applied_bracket a b c head at (x ∷ xs) (y ∷ ys) inner form m n f g
      = build_bracket p s a b c head at (term x) (terms xs) (term y) (terms ys) inner form f g

  pub flat_bracket : (a b c : Builder) (head : Atom) (o : Box App Global) (at : ℕ) (inner : App)
      (items args : List Atom) (form made : Flat) → head ≡ atom.Bracket o at → inner ≡ o.value
      → items ≡ o.value.args → (o.value.args ≡ [] → ⊥) → (args ≡ [] → ⊥)
      → AddsFlat p s a b (term inner.head) (terms items) form
      → AddsApplied p s b c form (terms args) made
      → AddsFlat p s a c (term head) (terms args) made
  flat_bracket a b c head o at inner items args form made e i j m n f g =
      along a c (term head) (Bracket (term o.value.head) (terms o.value.args) at) (terms args)
      (terms args) made (term_bracket head o at e) refl
      (applied_bracket a b c (term o.value.head) at o.value.args args form made m n
      (subst (λ xs. AddsFlat p s a b (term o.value.head) (terms xs) form) j
      (subst (λ (q : App). AddsFlat p s a b (term q.head) (terms items) form) i f)) g)

  -- the same for an application whole
  pub flat_of_app : (a b : Builder) (app : App) (items : List Atom) (form : Flat) → items ≡ app.args
      → AddsFlat p s a b (term app.head) (terms items) form
      → AddsFlat p s a b (application app).head (application app).args form
  flat_of_app a b app items form i h =
      subst (λ (q : Application). AddsFlat p s a b q.head q.args form) (sym (application_of app))
      (subst (λ xs. AddsFlat p s a b (term app.head) (terms xs) form) i h)

  -- ---- names

  pub named_local : (a b : Builder) (x : ℕ) (args : Terms) (xs : List Var)
      → AddsArgs p s a b args xs → AddsNamed p s a b (scope.Local x) args
      (flat.Apply (var.Local x) xs)
  named_local a b x args xs h = record { added = h.added; adds = h.adds; is = normal.OfLocal h.are }

  pub named_primitive : (a b : Builder) (op : PrimOp) (args : Terms) (xs : List Var) (x y : Var)
      → xs ≡ x ∷ y ∷ [] → AddsArgs p s a b args xs → AddsNamed p s a b (scope.Primitive op) args
      (flat.Prim op x y)
  named_primitive a b op args xs x y e h = let g = subst (AddsArgs p s a b args) e h
      in record { added = g.added; adds = g.adds; is = normal.OfPrimitive g.are }

  pub named_global : (a b : Builder) (g params : ℕ) (args : Terms) (xs : List Var) → params ≡ 0
      → AddsArgs p s a b args xs → AddsNamed p s a b (scope.Function g params) args
      (flat.Apply (var.Global g) xs)
  named_global a b g zero args xs e h = record
      { added = h.added; adds = h.adds; is = normal.OfGlobal h.are }
  named_global a b g (suc n) args xs e h = absurd (omega (arith, e))

  pub named_call : (a b : Builder) (g params : ℕ) (args : Terms) (xs : List Var) → (params ≡ 0 → ⊥)
      → length xs ≡ params → AddsArgs p s a b args xs
      → AddsNamed p s a b (scope.Function g params) args (flat.Call g xs)
  named_call a b g zero args xs n l h = absurd (n refl)
  named_call a b g (suc k) args xs n l h = record
      { added = h.added; adds = h.adds; is = normal.Called l h.are }

  pub named_part : (a b : Builder) (g params : ℕ) (args : Terms) (xs : List Var)
      → length xs < params → AddsArgs p s a b args xs
      → AddsNamed p s a b (scope.Function g params) args (flat.Part g xs)
  named_part a b g zero args xs l h = absurd (omega (arith, l))
  named_part a b g (suc k) args xs l h = record
      { added = h.added; adds = h.adds; is = normal.Partial l h.are }

  pub named_exceeded : (a b c : Builder) (g params : ℕ) (args first rest : List Atom)
      (xs : List Var) (form : Flat) → 0 < params → params < length args → first ≡ take params args
      → rest ≡ drop params args → length xs ≡ length first
      → AddsArgs p s a b (terms first) xs → AddsApplied p s b c (flat.Call g xs) (terms rest) form
      → AddsNamed p s a c (scope.Function g params) (terms args) form
  named_exceeded a b c g zero args first rest xs form z l e f n h i = absurd (omega (arith, z))
  named_exceeded a b c g (suc k) args first rest xs form z l e f n h i =
      let has : HasTerm (terms rest) = has_terms rest
      (let m : length rest ≡ length (drop (suc k) args) = ap length f
      in omega (arith, m, length-drop (suc k) args)) in
      let size : length xs ≡ suc k = n ∙ ap length e ∙ omega (arith, l, length-take (suc k) args) in
      let made = build_exceeded p s a b c g k (terms first) (terms rest) xs form has size h i in
      let all : terms args ≡ append (terms first) (terms rest)
      = split_terms args (suc k) ∙ (λ j. append (terms (sym e j)) (terms (sym f j))) in
      subst (λ ts. AddsNamed p s a c (scope.Function g (suc k)) ts form) (sym all) made
