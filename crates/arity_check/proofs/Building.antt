-- The steps of a builder of flat forms.
use Rattle.std.proofs.Common.{◌≡◌, ℕ, ℤ, suc, ◌+◌, List, [], ◌∷◌, ◌++◌, length, refl, sym, ap, ◌∙◌, subst, arith, Some, None, append_assoc, append-nil, length-append}
use Rattle.core_reader.specs.Tree.{Program, Bind, Term, Terms, Name, Con, Int, Bracket, NoTerms, AndTerm, terms_of}
use Rattle.arity_check.specs.declared.normal.Var.{Var}
use Rattle.arity_check.specs.declared.normal.Var.TheVariants as var
use Rattle.arity_check.specs.declared.normal.Flat.{Flat}
use Rattle.arity_check.specs.declared.normal.Flat.TheVariants as flat
use Rattle.arity_check.specs.declared.normal.Bound.{Bound}
use Rattle.arity_check.specs.declared.flat.Builder.{Builder}
use Rattle.arity_check.specs.Scope as scope
use Rattle.arity_check.specs.Scope.{Scope, means, con_number}
use Rattle.arity_check.specs.Normal as normal
use Rattle.arity_check.specs.Normal.{bound, itself, append, HasTerm, IsFlat, IsApplied, AreArgs, IsArg, IsGroup}
use Rattle.arity_check.specs.Builds.{AddsBindings, AddsFlat, AddsArgs, AddsArg, AddsApplied, AddsNamed, AddsGroup}
use Rattle.arity_check.proofs.Snoc.{args_snoc}

pub adds_nothing : (a : Builder) → AddsBindings a a []
adds_nothing a = record { news = sym (append-nil a.news); next = omega arith }

pub adds_both : (a b c : Builder) (xs ys : List Bound) → AddsBindings a b xs → AddsBindings b c ys
    → AddsBindings a c (xs ++ ys)
adds_both a b c xs ys f g = record {
  news = g.news ∙ ap (λ t. t ++ ys) f.news ∙ append_assoc a.news xs ys;
  next = g.next ∙ ap (λ n. n + length ys) f.next ∙ omega (arith, length-append xs ys);
}

module _ (p : Program) (s : Scope) where
  pub build_applied : (a b c : Builder) (t : ℕ) (inner : Flat) (args : Terms) (xs : List Var)
      → t ≡ a.next → AddsBindings a b (bound t inner ∷ []) → AddsArgs p s b c args xs
      → AddsApplied p s a c inner args (flat.Apply (var.Local t) xs)
  build_applied a b c t inner args xs e f g =
      let are : AreArgs p s (a.next + 1) args g.added xs
      = subst (λ n. AreArgs p s n args g.added xs) f.next g.are in
      let is : IsApplied p s a.next inner args (bound a.next inner ∷ g.added)
      (flat.Apply (var.Local a.next) xs) = normal.Applied are in
      record {
        added = bound t inner ∷ g.added;
        adds = adds_both a b c (bound t inner ∷ []) g.added f g.adds;
        is = subst
            (λ n. IsApplied p s a.next inner args (bound n inner ∷ g.added)
            (flat.Apply (var.Local n) xs)) (sym e) is;
      }

  pub build_itself : (a : Builder) (arg : Term) (x : Var) → itself p s arg ≡ Some x
      → AddsArg p s a a arg x
  build_itself a arg x e = record { added = []; adds = adds_nothing a; is = normal.Itself e }

  pub build_new : (a b c : Builder) (arg : Term) (form : Flat) (t : ℕ) → itself p s arg ≡ None
      → AddsFlat p s a b arg NoTerms form → t ≡ b.next → AddsBindings b c (bound t form ∷ [])
      → AddsArg p s a c arg (var.Local t)
  build_new a b c arg form t n f e g = record {
    added = f.added ++ bound t form ∷ [];
    adds = adds_both a b c f.added (bound t form ∷ []) f.adds g;
    is = normal.New t n f.is (e ∙ f.adds.next) refl;
  }

  pub build_no_args : (a : Builder) → AddsArgs p s a a NoTerms []
  build_no_args a = record { added = []; adds = adds_nothing a; are = normal.NoArgs }

  pub build_more_args : (a b c : Builder) (ts : List Term) (arg : Term) (xs : List Var) (x : Var)
      → AddsArgs p s a b (terms_of ts) xs → AddsArg p s b c arg x
      → AddsArgs p s a c (terms_of (ts ++ arg ∷ [])) (xs ++ x ∷ [])
  build_more_args a b c ts arg xs x f g = record {
    added = f.added ++ g.added;
    adds = adds_both a b c f.added g.added f.adds g.adds;
    are = args_snoc p s a.next ts arg f.added g.added xs x f.are
        (subst (λ n. IsArg p s n arg g.added x) f.adds.next g.is);
  }

  pub build_int : (a : Builder) (k : ℤ) (at : ℕ) → AddsFlat p s a a (Int k at) NoTerms (flat.Int k)
  build_int a k at = record { added = []; adds = adds_nothing a; is = normal.Number }

  pub build_con : (a b : Builder) (c at number : ℕ) (args : Terms) (xs : List Var)
      → con_number p c ≡ Some number → AddsArgs p s a b args xs
      → AddsFlat p s a b (Con c at) args (flat.Con number xs)
  build_con a b c at number args xs e f = record
      { added = f.added; adds = f.adds; is = normal.Constructor e f.are }

  pub build_name : (a b : Builder) (x at : ℕ) (args : Terms) (form : Flat)
      → AddsNamed p s a b (means p s x) args form → AddsFlat p s a b (Name x at) args form
  build_name a b x at args form f = record
      { added = f.added; adds = f.adds; is = normal.Named f.is }

  pub build_int_applied : (a b : Builder) (k : ℤ) (at : ℕ) (arg : Term) (args : Terms) (form : Flat)
      → AddsApplied p s a b (flat.Int k) (AndTerm arg args) form
      → AddsFlat p s a b (Int k at) (AndTerm arg args) form
  build_int_applied a b k at arg args form f = record
      { added = f.added; adds = f.adds; is = normal.NumberApplied f.is }

  pub build_lone_head : (a b : Builder) (head : Term) (at : ℕ) (args : Terms) (form : Flat)
      → AddsFlat p s a b head args form → AddsFlat p s a b (Bracket head NoTerms at) args form
  build_lone_head a b head at args form f = record
      { added = f.added; adds = f.adds; is = normal.LoneHead f.is }

  pub build_lone_bracket : (a b : Builder) (head : Term) (at : ℕ) (args : Terms) (form : Flat)
      → AddsFlat p s a b head args form → AddsFlat p s a b (Bracket head args at) NoTerms form
  build_lone_bracket a b head at args form f = record
      { added = f.added; adds = f.adds; is = normal.LoneBracket f.is }

  pub build_bracket : (a b c : Builder) (head : Term) (at : ℕ) (x : Term) (xs : Terms) (y : Term)
      (ys : Terms) (inner form : Flat) → AddsFlat p s a b head (AndTerm x xs) inner
      → AddsApplied p s b c inner (AndTerm y ys) form
      → AddsFlat p s a c (Bracket head (AndTerm x xs) at) (AndTerm y ys) form
  build_bracket a b c head at x xs y ys inner form f g = record {
    added = f.added ++ g.added;
    adds = adds_both a b c f.added g.added f.adds g.adds;
    is = normal.BracketApplied inner f.added g.added f.is
        (subst (λ n. IsApplied p s n inner (AndTerm y ys) g.added form) f.adds.next g.is) refl;
  }

  pub build_exceeded : (a b c : Builder) (g k : ℕ) (first rest : Terms) (xs : List Var)
      (form : Flat) → HasTerm rest → length xs ≡ suc k → AddsArgs p s a b first xs
      → AddsApplied p s b c (flat.Call g xs) rest form
      → AddsNamed p s a c (scope.Function g (suc k)) (append first rest) form
  build_exceeded a b c g k first rest xs form h l f q = record {
    added = f.added ++ q.added;
    adds = adds_both a b c f.added q.added f.adds q.adds;
    is = normal.Exceeded first rest f.added q.added xs refl h l f.are
        (subst (λ n. IsApplied p s n (flat.Call g xs) rest q.added form) f.adds.next q.is) refl;
  }

group_snoc : (p : Program) (s : Scope) (n : ℕ) (bs : List Bind) (b : Bind)
    (bounds news : List Bound) (form : Flat) (xs : List ℕ) (t : ℕ) → IsGroup p s n bs bounds xs
    → IsFlat p s (n + length bounds) b.app.head b.app.args news form
    → t ≡ n + length bounds + length news
    → IsGroup p s n (bs ++ b ∷ []) (bounds ++ (news ++ bound t form ∷ [])) (xs ++ t ∷ [])
group_snoc p s n [] b bounds news form xs t normal.NoMembers f e =
    let z : n + 0 ≡ n = omega arith in
    normal.AndMember news [] form t (subst (λ k. IsFlat p s k b.app.head b.app.args news form) z f)
    (omega (arith, e)) normal.NoMembers refl
group_snoc p s n (a ∷ bs) b bounds news form xs t
    (normal.AndMember {xs = ys} news1 bounds1 form1 t1 g e1 h is) f e =
    let more : List Bound = news ++ bound t form ∷ [] in
    let size : length bounds ≡ length news1 + suc (length bounds1)
    = ap length is ∙ length-append news1 (bound t1 form1 ∷ bounds1) in
    let next : n + length bounds ≡ t1 + 1 + length bounds1 = omega (arith, size, e1) in
    let rest = group_snoc p s (t1 + 1) bs b bounds1 news form ys t h
    (subst (λ k. IsFlat p s k b.app.head b.app.args news form) next f) (omega (arith, e, next))
    in
    normal.AndMember news1 (bounds1 ++ more) form1 t1 g e1 rest
    (ap (λ l. l ++ more) is ∙ append_assoc news1 (bound t1 form1 ∷ bounds1) more)

pub build_no_members : (p : Program) (s : Scope) (a : Builder) → AddsGroup p s a a [] []
build_no_members p s a = record { added = []; adds = adds_nothing a; is = normal.NoMembers }

pub build_more_members : (p : Program) (s : Scope) (a b c d : Builder) (bs : List Bind) (m : Bind)
    (xs : List ℕ) (t : ℕ) (form : Flat) → AddsGroup p s a b bs xs
    → AddsFlat p s b c m.app.head m.app.args form → t ≡ c.next
    → AddsBindings c d (bound t form ∷ []) → AddsGroup p s a d (bs ++ m ∷ []) (xs ++ t ∷ [])
build_more_members p s a b c d bs m xs t form f g e h =
    let more : List Bound = g.added ++ bound t form ∷ [] in
    let flat : IsFlat p s (a.next + length f.added) m.app.head m.app.args g.added form
    = subst (λ n. IsFlat p s n m.app.head m.app.args g.added form) f.adds.next g.is in
    let local : t ≡ a.next + length f.added + length g.added
    = e ∙ g.adds.next ∙ ap (λ n. n + length g.added) f.adds.next in
    record {
      added = f.added ++ more;
      adds = adds_both a b d f.added more f.adds
          (adds_both b c d g.added (bound t form ∷ []) g.adds h);
      is = group_snoc p s a.next bs m f.added g.added form xs t f.is flat local;
    }
