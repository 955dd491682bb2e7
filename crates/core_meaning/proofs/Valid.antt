-- What the translation needs of a program holds of the normal form of a program that breaks no
-- rule.
use Rattle.std.proofs.Common.{◌≡◌, ℕ, zero, suc, ◌+◌, ◌≤◌, ◌<◌, Bool, true, false, cond, not, nat_eq, nat_lt, List, [], ◌∷◌, ◌++◌, map, length, get_or, Option, Some, None, slice_get, codes, refl, sym, ap, ◌∙◌, subst, arith, eqb-true}
use Rattle.std.specs.List.{range_with_len, position_or_len}
use Rattle.std.proofs.lemmas.List.FromFn.{length-range_with_len}
use Rattle.std.proofs.lemmas.Bool.{eq-eqb, ltb-true, ltb-false}
use Rattle.std.proofs.lemmas.Option.{same_Some, none-some, slice_get_within, slice_get-get_or}
use Rattle.core_reader.specs.Readable.{AreDistinct}
use mathlib.Core.Logic.{◌⊎◌, inl, inr}
use Rattle.core_reader.specs.declared.syntax.Pattern.TheVariants as pattern
use Rattle.core_reader.specs.declared.syntax.Binder.{Binder}
use Rattle.core_reader.specs.Tree as tree
use Rattle.core_reader.specs.Tree.{Term, Terms, Name, Con, Int, Bracket, NoTerms, AndTerm, Application, Expr, Alts, Bind, Data}
use Rattle.arity_check.specs.declared.normal.Con as arity
use Rattle.arity_check.specs.declared.normal.Var.{Var}
use Rattle.arity_check.specs.declared.normal.Var.TheVariants as var
use Rattle.arity_check.specs.declared.normal.Flat.{Flat}
use Rattle.arity_check.specs.declared.normal.Bound.{Bound}
use Rattle.arity_check.specs.declared.meaning.Meaning.{Meaning}
use Rattle.arity_check.specs.declared.meaning.Meaning.TheVariants.{Local, Function, Primitive, Unbound}
use Rattle.arity_check.specs.Scope.{Scope, means, con_number, is_named, binds, binds_all}
use Rattle.arity_check.specs.Broken as broken
use Rattle.arity_check.specs.Broken.{Broken, ConstructorArity, PatternArity, TooManyArguments, MainHasParameters, NoListConstructors, DuplicateConstructor, InFunction, place, FunctionPart, AnApp, AGroup, SomeAlts, alt_at, count, IsTermAmong, First, Later, HeadIsApplied, AsCon, InHead, InArgument, Contains, Whole, InItsHead, InItsArgs, fields_of, first_constructor_named}
use Rattle.arity_check.specs.Normal.{append, bound, itself, itself_as, Pairwise, IsFlat, Number, Constructor, Named, NumberApplied, BracketApplied, LoneHead, LoneBracket, IsNamed, OfPrimitive, OfLocal, OfGlobal, Called, Partial, Exceeded, IsApplied, Applied, AreArgs, NoArgs, AndArg, IsArg, Itself, New, IsGroup, NoMembers, AndMember, IsNormal, PlainApp, BoundApp, Group, Choice, AreBranches, NoBranches, ConBranch, IntBranch, NamelessBranch, NamedBranch, IsFunction, IsConstructor, IsNormalForm}
use Rattle.arity_check.specs.Program as normal
use Rattle.arity_check.specs.Program.{Program}
use Rattle.core_meaning.specs.Evaluation.{nil, cons, con_named}
use Rattle.std.specs.Str.{bytes_eq}
use Rattle.seq.proofs.Truth.{not_both}
use Rattle.seq.proofs.Lists.{all_append}
use Rattle.core_meaning.specs.WellFormed.{WellFormed, FunOk, AllOf, InLocals, InGroup, HasFields, HasParams, VarOk, FormOk, TermOk, BranchesOk}
use Rattle.arity_check.proofs.Names.{same_bytes}
use Rattle.core_meaning.proofs.Meanings.{PairAt, pair_at, bytes_same, InScope, MeaningOk, means_ok}

count_append : (as' bs : Terms) → count (append as' bs) ≡ count as' + count bs
count_append NoTerms bs = omega arith
count_append (AndTerm a as') bs = omega (arith, count_append as' bs)

among_first : {a : Term} {as' : Terms} (bs : Terms) → IsTermAmong a as'
    → IsTermAmong a (append as' bs)
among_first bs First = First
among_first bs (Later m) = Later (among_first bs m)

among_rest : {a : Term} (as' : Terms) {bs : Terms} → IsTermAmong a bs
    → IsTermAmong a (append as' bs)
among_rest NoTerms m = m
among_rest (AndTerm b as') m = Later (among_rest as' m)

module _ (p : tree.Program) (q : Program) (nf : IsNormalForm p q) where
  -- ---- constructors
  record Numbered (ds : List Data) (c number : ℕ) : Type 0 where
    found : Data
    first : first_constructor_named c ds ≡ Some found
    is : slice_get ds number ≡ Some found

  record NumberedMore (b : Bool) (d : Data) (ds : List Data) (c number : ℕ) : Type 0 where
    found : Data
    first : cond b (Some d) (first_constructor_named c ds) ≡ Some found
    is : slice_get (d ∷ ds) number ≡ Some found

  numbered_by : (b : Bool) (d : Data) (ds : List Data) (c n : ℕ)
      → cond (not b) (1 + n) 0 < suc (length ds) → (n < length ds → Numbered ds c n)
      → NumberedMore b d ds c (cond (not b) (1 + n) 0)
  numbered_by true d ds c n lt h = record { found = d; first = refl; is = refl }
  numbered_by false d ds c n lt h =
      let r : Numbered ds c n = h (omega (arith, lt)) in
      let e : 1 + n ≡ suc n = omega arith in
      record { found = r.found; first = r.first; is = rw e r.is }

  numbered_at : (ds : List Data) (c : ℕ) → position_or_len (λ d. nat_eq d.name c) ds < length ds
      → Numbered ds c (position_or_len (λ d. nat_eq d.name c) ds)
  numbered_at [] c lt = absurd (omega (arith, lt))
  numbered_at (d ∷ ds) c lt =
      let r = numbered_by (nat_eq d.name c) d ds c (position_or_len (λ d. nat_eq d.name c) ds) lt
      (numbered_at ds c) in
      record { found = r.found; first = r.first; is = r.is }

  numbered : (c number : ℕ) → con_number p c ≡ Some number → Numbered p.constructors c number
  numbered c number e = by_test
      (nat_lt (position_or_len (λ d. nat_eq d.name c) p.constructors) (length p.constructors)) refl
      e
    where
      by_test : (b : Bool) → nat_lt (position_or_len (λ d. nat_eq d.name c) p.constructors)
          (length p.constructors) ≡ b → cond b
          (Some (position_or_len (λ d. nat_eq d.name c) p.constructors)) None ≡ Some number
          → Numbered p.constructors c number
      by_test true l i = subst (Numbered p.constructors c) (same_Some _ number i)
          (numbered_at p.constructors c (ltb-true _ _ l))
      by_test false l i = absurd (none-some number i)

  -- ---- what the rules say of an application
  abbrev Fine : Term → ℕ → Type 0
  Fine (Con c at) k = (d : Data) → fields_of p c ≡ Some d → k ≡ d.fields
  Fine (Name x at) k = Unit {0}
  Fine (Int i at) k = Unit {0}
  Fine (Bracket head args at) k = Unit {0}

  pub record AppFine (head : Term) (args : Terms) : Type 0 where
    pub uses : (h : Term) (k : ℕ) → HeadIsApplied head args h k → Fine h k
    pub limited : (inner : Application) → Contains (record { head = head; args = args }) inner
        → count inner.args ≤ 12

  record ArgsFine (args : Terms) : Type 0 where
    uses : (a h : Term) (k : ℕ) → IsTermAmong a args → HeadIsApplied a NoTerms h k → Fine h k
    limited : (a : Term) → IsTermAmong a args → (inner : Application)
        → Contains (record { head = a; args = NoTerms }) inner → count inner.args ≤ 12
    few : count args ≤ 12

  none_among : {a : Term} {args : Terms} → args ≡ NoTerms → IsTermAmong a args → ⊥
  none_among e First = cc
  none_among e (Later m) = cc

  args_fine : (head : Term) (args : Terms) → AppFine head args → ArgsFine args
  args_fine head args f = record {
    uses = λ a h k m st. f.uses h k (InArgument m st);
    limited = λ a m inner c. arg_limited a inner m c;
    few = f.limited (record { head = head; args = args }) Whole;
  }
    where
      arg_limited : (a : Term) (inner : Application) → IsTermAmong a args
          → Contains (record { head = a; args = NoTerms }) inner → count inner.args ≤ 12
      arg_limited a inner m Whole = omega arith
      arg_limited a inner m (InItsHead e c) = f.limited inner
          (InItsArgs (subst (λ z. IsTermAmong z args) e m) c)
      arg_limited a inner m (InItsArgs n c) = absurd (none_among refl n)

  lone_head_fine : (head : Term) (args : Terms) (at : ℕ) → AppFine (Bracket head NoTerms at) args
      → AppFine head args
  lone_head_fine head args at f = record
      { uses = λ h k st. f.uses h k (broken.LoneHead st); limited = λ inner c. limit inner c }
    where
      limit : (inner : Application) → Contains (record { head = head; args = args }) inner
          → count inner.args ≤ 12
      limit inner Whole = f.limited (record { head = Bracket head NoTerms at; args = args }) Whole
      limit inner (InItsHead e c) = f.limited inner (InItsHead refl (InItsHead e c))
      limit inner (InItsArgs n c) = f.limited inner (InItsArgs n c)

  lone_bracket_fine : (head : Term) (args : Terms) (at : ℕ) → AppFine (Bracket head args at) NoTerms
      → AppFine head args
  lone_bracket_fine head NoTerms at f = record {
    uses = λ h k st. f.uses h k (broken.LoneHead st);
    limited
        = λ inner c. f.limited inner (InItsHead refl c);
  }
  lone_bracket_fine head (AndTerm a as') at f = record {
    uses = λ h k st. f.uses h k (broken.LoneBracket st);
    limited
        = λ inner c. f.limited inner (InItsHead refl c);
  }

  in_head_fine : (head a b : Term) (as' bs : Terms) (at : ℕ)
      → AppFine (Bracket head (AndTerm a as') at) (AndTerm b bs) → AppFine head (AndTerm a as')
  in_head_fine head a b as' bs at f = record {
    uses = λ h k st. f.uses h k (InHead st);
    limited
        = λ inner c. f.limited inner (InItsHead refl c);
  }

  arg_fine : (a : Term) (args : Terms) → ArgsFine args → IsTermAmong a args → AppFine a NoTerms
  arg_fine a args f m = record
      { uses = λ h k st. f.uses a h k m st; limited = λ inner c. f.limited a m inner c }

  args_tail : (a : Term) (as' : Terms) → ArgsFine (AndTerm a as') → ArgsFine as'
  args_tail a as' f = record {
    uses = λ b h k m st. f.uses b h k (Later m) st;
    limited
        = λ b m inner c. f.limited b (Later m) inner c;
    few = let l = f.few in omega (arith, l);
  }

  args_first : (as' bs : Terms) → ArgsFine (append as' bs) → ArgsFine as'
  args_first as' bs f = record {
    uses = λ b h k m st. f.uses b h k (among_first bs m) st;
    limited
        = λ b m inner c. f.limited b (among_first bs m) inner c;
    few = let l = f.few
        in omega (arith, l, count_append as' bs);
  }

  args_rest : (as' bs : Terms) → ArgsFine (append as' bs) → ArgsFine bs
  args_rest as' bs f = record {
    uses = λ b h k m st. f.uses b h k (among_rest as' m) st;
    limited
        = λ b m inner c. f.limited b (among_rest as' m) inner c;
    few = let l = f.few
        in omega (arith, l, count_append as' bs);
  }

  -- ---- forms
  module _ (s : Scope) (S : ℕ → Type 0) (sub : (x : ℕ) → InScope s x → S x) where
    abbrev Locals : List Bound → Type 0
    Locals news = AllOf (λ b. S b.local) news

    abbrev Forms : List Bound → Type 0
    Forms news = AllOf (λ b. FormOk q S b.flat) news

    left : (xs ys : List Bound) → Locals (xs ++ ys) → Locals xs
    left [] ys h = tt
    left (x ∷ xs) ys h = (h.0, left xs ys h.1)

    right : (xs ys : List Bound) → Locals (xs ++ ys) → Locals ys
    right [] ys h = h
    right (x ∷ xs) ys h = right xs ys h.1

    record FlatOk (news : List Bound) (form : Flat) : Type 0 where
      all : Forms news
      this : FormOk q S form

    record ArgsOk (args : Terms) (news : List Bound) (xs : List Var) : Type 0 where
      all : Forms news
      vars : AllOf (VarOk q S) xs
      many : length xs ≡ count args

    itself_meaning : (m : Meaning) (x : Var) → MeaningOk p q nf s m → itself_as m ≡ Some x
        → VarOk q S x
    itself_meaning (Local y) x h e = subst (VarOk q S) (same_Some (var.Local y) x e) (sub y h)
    itself_meaning (Function g k) x h e = by_test (nat_eq k 0) refl e
      where
        by_test : (b : Bool) → nat_eq k 0 ≡ b → cond b (Some (var.Global g)) None ≡ Some x
            → VarOk q S x
        by_test true z i = subst (VarOk q S) (same_Some (var.Global g) x i)
            (h.0, h.1, h.2 ∙ eqb-true k 0 z)
        by_test false z i = absurd (none-some x i)
    itself_meaning (Primitive op) x h e = absurd (none-some x e)
    itself_meaning Unbound x h e = absurd (none-some x e)

    itself_ok : (a : Term) (x : Var) → itself p s a ≡ Some x → VarOk q S x
    itself_ok (Name f at) x e = itself_meaning (means p s f) x (means_ok p q nf s f) e
    itself_ok (Bracket head NoTerms at) x e = itself_ok head x e
    itself_ok (Bracket head (AndTerm a as') at) x e = absurd (none-some x e)
    itself_ok (Con c at) x e = absurd (none-some x e)
    itself_ok (Int k at) x e = absurd (none-some x e)

    few : {news : List Bound} {xs : List Var} (args : Terms) → ArgsFine args → ArgsOk args news xs
        → length xs < 13
    few args f r = let l = f.few in let m = r.many in omega (arith, l, m)

    less : (m k n : ℕ) → m < suc k → n ≡ suc k → m < n
    less m k n lt e = omega (arith, lt, e)

    mutual
      flat_ok : {n : ℕ} {head : Term} {args : Terms} {news : List Bound} {form : Flat}
          → IsFlat p s n head args news form → AppFine head args → Locals news → FlatOk news form
      flat_ok Number f l = record { all = tt; this = tt }
      flat_ok {head = head} {args = args} (Constructor {c = c} {at = at} {number = number} e a) f l
          =
          let r = args_ok a (args_fine head args f) l in
          let k : Numbered p.constructors c number = numbered c number e in
          let d : PairAt (IsConstructor p) q.cons number k.found
          = pair_at (IsConstructor p) p.constructors q.cons number k.found nf.cons k.is in
          let uses : count args ≡ k.found.fields = f.uses (Con c at) (count args) AsCon k.found
          k.first in
          record {
            all = r.all;
            this =
                ((d.other, d.is, d.related.fields ∙ sym uses ∙ sym r.many), r.vars);
          }
      flat_ok {head = head} {args = args} (Named {f = x} a) f l
          = named_ok a (means_ok p q nf s x) (args_fine head args f) l
      flat_ok {head = head} {args = args} (NumberApplied a) f l
          = applied_ok a (args_fine head args f) tt l
      flat_ok {head = whole} {args = args}
          (BracketApplied {at = at} {head = head} {a = a} {b = b} {as' = as'} {bs = bs} inner news1
          news2 x y is) f l =
          let l' : Locals (news1 ++ news2) = subst Locals is l in
          let first = flat_ok x (in_head_fine head a b as' bs at f) (left news1 news2 l') in
          let second = applied_ok y (args_fine whole args f) first.this (right news1 news2 l') in
          record {
            all = subst Forms (sym is) (all_append _ news1 news2 first.all second.all);
            this
                = second.this;
          }
      flat_ok (LoneHead {at = at} {head = head} {args = args} a) f l
          = flat_ok a (lone_head_fine head args at f) l
      flat_ok (LoneBracket {at = at} {head = head} {args = args} a) f l
          = flat_ok a (lone_bracket_fine head args at f) l

      named_ok : {n : ℕ} {m : Meaning} {args : Terms} {news : List Bound} {form : Flat}
          → IsNamed p s n m args news form → MeaningOk p q nf s m → ArgsFine args → Locals news
          → FlatOk news form
      named_ok (OfPrimitive a) m f l = let r = args_ok a f l
          in record { all = r.all; this = (r.vars.0, r.vars.1.0) }
      named_ok (OfLocal {x = x} a) m f l = let r = args_ok a f l
          in record { all = r.all; this = (few _ f r, sub x m, r.vars) }
      named_ok (OfGlobal a) m f l = let r = args_ok a f l
          in record { all = r.all; this = (few _ f r, m, r.vars) }
      named_ok (Called k a) m f l = let r = args_ok a f l
          in record { all = r.all; this = ((m.0, m.1, m.2 ∙ sym k), r.vars) }
      named_ok (Partial k a) m f l = let r = args_ok a f l
          in record { all = r.all; this = ((m.0, m.1, less _ _ _ k m.2), r.vars) }
      named_ok (Exceeded first rest news1 news2 xs e h k a b is) m f l =
          let l' : Locals (news1 ++ news2) = subst Locals is l in
          let f' : ArgsFine (append first rest) = subst ArgsFine e f in
          let r = args_ok a (args_first first rest f') (left news1 news2 l') in
          let second = applied_ok b (args_rest first rest f') ((m.0, m.1, m.2 ∙ sym k), r.vars)
          (right news1 news2 l') in
          record {
            all = subst Forms (sym is) (all_append _ news1 news2 r.all second.all);
            this
                = second.this;
          }

      applied_ok : {n : ℕ} {form' : Flat} {args : Terms} {news : List Bound} {form : Flat}
          → IsApplied p s n form' args news form → ArgsFine args → FormOk q S form' → Locals news
          → FlatOk news form
      applied_ok (Applied a) f h l = let r = args_ok a f l.1
          in record { all = (h, r.all); this = (few _ f r, l.0, r.vars) }

      args_ok : {n : ℕ} {args : Terms} {news : List Bound} {xs : List Var}
          → AreArgs p s n args news xs → ArgsFine args → Locals news → ArgsOk args news xs
      args_ok NoArgs f l = record { all = tt; vars = tt; many = refl }
      args_ok (AndArg {a = a} {as' = as'} news1 news2 x y is) f l =
          let l' : Locals (news1 ++ news2) = subst Locals is l in
          let first = arg_ok x (arg_fine a (AndTerm a as') f First) (left news1 news2 l') in
          let others = args_ok y (args_tail a as' f) (right news1 news2 l') in
          record {
            all = subst Forms (sym is) (all_append _ news1 news2 first.0 others.all);
            vars
                = (first.1, others.vars);
            many = let m = others.many in omega (arith, m);
          }

      arg_ok : {n : ℕ} {a : Term} {news : List Bound} {x : Var} → IsArg p s n a news x
          → AppFine a NoTerms → Locals news → Forms news × VarOk q S x
      arg_ok {a = a} (Itself {x = x} e) f l = (tt, itself_ok a x e)
      arg_ok (New {news = news} {form = form} t e a is is') f l =
          let l' : Locals (news ++ bound t form ∷ []) = subst Locals is' l in
          let r = flat_ok a f (left news (bound t form ∷ []) l') in (
            subst Forms (sym is') (all_append _ news (bound t form ∷ []) r.all (r.this, tt)),
            (right news (bound t form ∷ []) l').0,
          )

    group_ok : {n : ℕ} {group : List Bind} {bounds : List Bound} {xs : List ℕ}
        → IsGroup p s n group bounds xs →
        ((i : ℕ) (b : Bind) → slice_get group i ≡ Some b → AppFine b.app.head b.app.args)
        → Locals bounds → Forms bounds
    group_ok NoMembers f l = tt
    group_ok (AndMember {b = b} news bounds form t a e more is) f l =
        let l' : Locals (news ++ bound t form ∷ bounds) = subst Locals is l in
        let r = flat_ok a (f 0 b refl) (left news (bound t form ∷ bounds) l') in
        let rest = group_ok more (λ i c e. f (suc i) c e) (right news (bound t form ∷ bounds) l').1
        in
        subst Forms (sym is) (all_append _ news (bound t form ∷ bounds) r.all (r.this, rest))

  in_group_right : (news bounds : List Bound) (x : ℕ) → InGroup bounds x
      → InGroup (news ++ bounds) x
  in_group_right [] bounds x h = h
  in_group_right (b ∷ news) bounds x h = inr (in_group_right news bounds x h)

  group_names : {s : Scope} {n : ℕ} {group : List Bind} {bounds : List Bound} {xs : List ℕ}
      → IsGroup p s n group bounds xs → (x : ℕ) → InLocals xs x → InGroup bounds x
  group_names NoMembers x h = absurd h
  group_names (AndMember news bounds form t a e more is) x (inl i)
      = subst (λ g. InGroup g x) (sym is) (in_group_right news (bound t form ∷ bounds) x (inl i))
  group_names (AndMember news bounds form t a e more is) x (inr h)
      = subst (λ g. InGroup g x) (sym is)
      (in_group_right news (bound t form ∷ bounds) x (inr (group_names more x h)))

  locals_in : (P : ℕ → Type 0) (bounds : List Bound) → ((x : ℕ) → InGroup bounds x → P x)
      → AllOf (λ b. P b.local) bounds
  locals_in P [] h = tt
  locals_in P (b ∷ bounds) h = (h b.local (inl refl), locals_in P bounds (λ x i. h x (inr i)))

  binds_scope : (x y : ℕ) (s : Scope) (z : ℕ) → InScope (binds p x y s) z → InScope s z ⊎ (z ≡ y)
  binds_scope x y s z h = by_test (is_named p (codes "_") x) h
    where
      by_test : (b : Bool) → InScope (cond b s ((x, y) ∷ s)) z → InScope s z ⊎ (z ≡ y)
      by_test true h = inl h
      by_test false (inl e) = inr e
      by_test false (inr h) = inl h

  binds_all_scope : (xs ys : List ℕ) (s : Scope) (z : ℕ) → InScope (binds_all p xs ys s) z
      → InScope s z ⊎ InLocals ys z
  binds_all_scope [] ys s z h = inl h
  binds_all_scope (x ∷ xs) [] s z h = inl h
  binds_all_scope (x ∷ xs) (y ∷ ys) s z h = turn (binds_all_scope xs ys (binds p x y s) z h)
    where
      first : InScope s z ⊎ (z ≡ y) → InScope s z ⊎ InLocals (y ∷ ys) z
      first (inl h) = inl h
      first (inr e) = inr (inl e)

      turn : InScope (binds p x y s) z ⊎ InLocals ys z → InScope s z ⊎ InLocals (y ∷ ys) z
      turn (inl h) = first (binds_scope x y s z h)
      turn (inr i) = inr (inr i)

  -- ---- expressions
  AltsFine : Alts → Type 0
  AltsFine alts = (i : ℕ) (c : Binder) (fields : List Binder) (d : Data)
      → alt_at alts i ≡ Some (pattern.Con c fields) → fields_of p c.name.0 ≡ Some d
      → length fields ≡ d.fields

  abbrev PieceFine : FunctionPart → Type 0
  PieceFine (AnApp app) = AppFine app.head app.args
  PieceFine (AGroup group) = Unit {0}
  PieceFine (SomeAlts alts) = AltsFine alts

  abbrev ExprFine : Scope → Expr → Type 0
  ExprFine t0 e = (t : Scope) (piece : FunctionPart) → broken.Has p t0 e t piece → PieceFine piece

  abbrev AltsAllFine : Scope → Alts → Type 0
  AltsAllFine t0 alts = (t : Scope) (piece : FunctionPart) → broken.HasAlts p t0 alts t piece
      → PieceFine piece

  or_else : {A B C : Type 0} → (A → C) → A ⊎ B → C ⊎ B
  or_else f (inl a) = inl (f a)
  or_else f (inr b) = inr b

  group_sub : (inner s : Scope) (names xs : List ℕ) (bounds : List Bound) (S : ℕ → Type 0)
      → ((x : ℕ) → InScope s x → S x) → inner ≡ binds_all p names xs s
      → ((x : ℕ) → InLocals xs x → InGroup bounds x) → (x : ℕ) → InScope inner x → S x
      ⊎ InGroup bounds x
  group_sub inner s names xs bounds S sub e names_in x i
      = turn (binds_all_scope names xs s x (subst (λ t. InScope t x) e i))
    where
      turn : InScope s x ⊎ InLocals xs x → S x ⊎ InGroup bounds x
      turn (inl h) = inl (sub x h)
      turn (inr h) = inr (names_in x h)

  mutual
    unfolding AltsFine

    term_ok : {s : Scope} {n m : ℕ} {e : Expr} {term : normal.Term} → IsNormal p s n e term m
        → (S : ℕ → Type 0) → ((x : ℕ) → InScope s x → S x) → (t0 : Scope) → ExprFine t0 e
        → TermOk q S term
    term_ok {s = s} (PlainApp {app = app} a) S sub t0 f
        = (flat_ok s S sub a (f _ (AnApp app) broken.TheApp) tt).this
    term_ok {s = s} (BoundApp {app = app} {new = new} {news = news} a) S sub t0 f =
        let S' : ℕ → Type 0 = λ x. S x ⊎ InGroup (new ∷ news) x in
        let r = flat_ok s S' (λ x i. inl (sub x i)) a (f _ (AnApp app) broken.TheApp)
        (locals_in S' (new ∷ news) (λ x i. inr i)) in
        (r.all, r.this)
    term_ok {s = s} (Group {group = group} inner xs bounds e g b) S sub t0 f =
        let S' : ℕ → Type 0 = λ x. S x ⊎ InGroup bounds x in
        let sub' : (x : ℕ) → InScope inner x → S' x
        = λ x i. group_sub inner s (map (λ b. b.binder.name.0) group) xs bounds S sub e
        (group_names g) x i in (
          group_ok inner S' sub' g (λ i b is. f _ (AnApp b.app) (broken.InMember i is))
              (locals_in S' bounds (λ x i. inr i)),
          term_ok b S' sub'
              (broken.within p (broken.binders_of group) t0) (λ t pc h. f t pc (broken.InBody h)),
        )
    term_ok (Choice {alts = alts} a b) S sub t0 f = (
      term_ok a S sub t0 (λ t pc h. f t pc (broken.InTested h)),
      branches_ok b S sub t0 (λ t pc h. f t pc (broken.InAlts h))
          (f _ (SomeAlts alts) broken.TheAlts),
    )

    branches_ok : {s : Scope} {n m : ℕ} {alts : Alts} {branches : normal.Branches}
        → AreBranches p s n alts branches m → (S : ℕ → Type 0) → ((x : ℕ) → InScope s x → S x)
        → (t0 : Scope) → AltsAllFine t0 alts → AltsFine alts → BranchesOk q S branches
    branches_ok NoBranches S sub t0 f g = tt
    branches_ok {s = s}
        (ConBranch {number = number} {at = at} {fields = fields} {body = body} xs e r a b) S sub t0
        f g =
        let k : Numbered p.constructors at.name.0 number = numbered at.name.0 number e in
        let d : PairAt (IsConstructor p) q.cons number k.found
        = pair_at (IsConstructor p) p.constructors q.cons number k.found nf.cons k.is in
        let many : length xs ≡ length fields = ap length r ∙ length-range_with_len _ (length fields)
        in
        let has : HasFields q number (length xs) =
        (d.other, d.is, d.related.fields ∙ sym (g 0 at fields k.found refl k.first) ∙ sym many)
        in (
          has,
          term_ok a (λ x. S x ⊎ InLocals xs x)
              (λ x i. or_else (sub x) (binds_all_scope (map (λ y. y.name.0) fields) xs s x i))
              (broken.within p fields t0) (λ t pc h. f t pc (broken.InThis h)),
          branches_ok b S sub t0 (λ t pc h. f t pc (broken.InLater h))
              (λ i c fs d x y. g (suc i) c fs d x y),
        )
    branches_ok (IntBranch a b) S sub t0 f g = (
      term_ok a S sub (broken.within p [] t0) (λ t pc h. f t pc (broken.InThis h)),
      branches_ok b S sub t0 (λ t pc h. f t pc (broken.InLater h))
          (λ i c fs d x y. g (suc i) c fs d x y),
    )
    branches_ok (NamelessBranch {x = x} e a b) S sub t0 f g
        = (
          term_ok a S sub (broken.within p (x ∷ []) t0) (λ t pc h. f t pc (broken.InThis h)),
          branches_ok b S sub t0 (λ t pc h. f t pc (broken.InLater h))
              (λ i c fs d x y. g (suc i) c fs d x y),
        )
    branches_ok {s = s} {n = n} (NamedBranch {x = x} e a b) S sub t0 f g = (
      term_ok a (λ y. S y ⊎ (y ≡ n)) (λ y i. or_else (sub y) (binds_scope x.name.0 n s y i))
          (broken.within p (x ∷ []) t0) (λ t pc h. f t pc (broken.InThis h)),
      branches_ok b S sub t0 (λ t pc h. f t pc (broken.InLater h))
          (λ i c fs d x y. g (suc i) c fs d x y),
    )

  -- ---- functions
  module _ (ok : (k at : ℕ) → Broken p k at → ⊥) where
    app_fine : (t : Scope) (app : Application) → InFunction p t (AnApp app)
        → AppFine app.head app.args
    app_fine t app f = record {
      uses = λ h k st. used_well h k st;
      limited
          = λ inner c. limit inner c (nat_lt 12 (count inner.args)) refl;
    }
      where
        same : (c at k : ℕ) (d : Data) → HeadIsApplied app.head app.args (Con c at) k
            → fields_of p c ≡ Some d → (b : Bool) → nat_eq k d.fields ≡ b → k ≡ d.fields
        same c at k d st e true q = eqb-true k d.fields q
        same c at k d st e false q = absurd
            (ok 15 at (ConstructorArity (app, f, st) e (λ i. not_both _ (eq-eqb k d.fields i) q)))

        used_well : (h : Term) (k : ℕ) → HeadIsApplied app.head app.args h k → Fine h k
        used_well (Con c at) k st = λ d e. same c at k d st e (nat_eq k d.fields) refl
        used_well (Name x at) k st = tt
        used_well (Int i at) k st = tt
        used_well (Bracket head args at) k st = tt

        limit : (inner : Application) → Contains app inner → (b : Bool)
            → nat_lt 12 (count inner.args) ≡ b → count inner.args ≤ 12
        limit inner c true q = absurd
            (ok 33 (place inner.head) (TooManyArguments f c (ltb-true 12 (count inner.args) q)))
        limit inner c false q = ltb-false 12 (count inner.args) q

    alts_fine : (t : Scope) (alts : Alts) → InFunction p t (SomeAlts alts) → AltsFine alts
    unfolding AltsFine
    alts_fine t alts f = λ i c fields d e h. same i c fields d e h (nat_eq (length fields) d.fields)
        refl
      where
        same : (i : ℕ) (c : Binder) (fields : List Binder) (d : Data)
            → alt_at alts i ≡ Some (pattern.Con c fields) → fields_of p c.name.0 ≡ Some d
            → (b : Bool) → nat_eq (length fields) d.fields ≡ b → length fields ≡ d.fields
        same i c fields d e h true q = eqb-true (length fields) d.fields q
        same i c fields d e h false q = absurd
            (ok 15 c.at
            (PatternArity i f e h (λ j. not_both _ (eq-eqb (length fields) d.fields j) q)))

    piece_fine : (t : Scope) (piece : FunctionPart) → InFunction p t piece → PieceFine piece
    piece_fine t (AnApp app) f = app_fine t app f
    piece_fine t (AGroup group) f = tt
    piece_fine t (SomeAlts alts) f = alts_fine t alts f

    in_range : (a n x : ℕ) → InLocals (range_with_len a n) x → x < a + n
    in_range a zero x h = absurd h
    in_range a (suc n) x (inl e) = omega (arith, e)
    in_range a (suc n) x (inr h) = let l = in_range (a + 1) n x h in omega (arith, l)

    fun_ok : (i : ℕ) (f : tree.Function) (g : normal.Function) → slice_get p.functions i ≡ Some f
        → IsFunction p f g → FunOk q g
    fun_ok i f g is w =
        term_ok w.body (λ x. x < g.params)
        (λ x h. from
        (binds_all_scope (map (λ x. x.name.0) f.params) (range_with_len 0 (length f.params)) []
        x h)) (broken.within p f.params [])
        (λ t piece h. piece_fine t piece
        (record { number = i; function = f; is = is; has = h }))
      where
        from : {x : ℕ} → InScope [] x ⊎ InLocals (range_with_len 0 (length f.params)) x
            → x < g.params
        from (inl z) = absurd z
        from {x} (inr h) = let l = in_range 0 (length f.params) x h in let e = w.params
            in omega (arith, l, e)

    funs_ok : (fs : List tree.Function) (gs : List normal.Function) (k : ℕ)
        → Pairwise (IsFunction p) fs gs →
        ((i : ℕ) (f : tree.Function) → slice_get fs i ≡ Some f
        → slice_get p.functions (k + i) ≡ Some f) → AllOf (FunOk q) gs
    funs_ok [] [] k w h = tt
    funs_ok [] (g ∷ gs) k w h = absurd w
    funs_ok (f ∷ fs) [] k w h = absurd w
    funs_ok (f ∷ fs) (g ∷ gs) k w h = (
      fun_ok (k + 0) f g (h 0 f refl) w.0,
      funs_ok fs gs (k + 1) w.1
          (λ i x e. let z : k + suc i ≡ k + 1 + i = omega arith
          in subst (λ j. slice_get p.functions j ≡ Some x) z (h (suc i) x e)),
    )

    pub bodies_ok : AllOf (FunOk q) q.funs
    bodies_ok = funs_ok p.functions q.funs 0 nf.funs
        (λ i f e. let z : 0 + i ≡ i = omega arith in rw z e)

    -- ---- main

    record Found {A : Type 0} (test : A → Bool) (xs : List A) (i : ℕ) : Type 0 where
      item : A
      is : slice_get xs i ≡ Some item
      passes : test item ≡ true

    found_by : {A : Type 0} (test : A → Bool) (b : Bool) (x : A) (xs : List A) (n : ℕ) → test x ≡ b
        → cond (not b) (1 + n) 0 < suc (length xs) → (n < length xs → Found test xs n)
        → Found test (x ∷ xs) (cond (not b) (1 + n) 0)
    found_by test true x xs n e lt h = record { item = x; is = refl; passes = e }
    found_by test false x xs n e lt h = let r : Found test xs n = h (omega (arith, lt)) in let z
        : 1 + n ≡ suc n = omega arith in record { item = r.item; is = rw z r.is; passes = r.passes }

    found_at : {A : Type 0} (test : A → Bool) (xs : List A) → position_or_len test xs < length xs
        → Found test xs (position_or_len test xs)
    found_at test [] lt = absurd (omega (arith, lt))
    found_at test (x ∷ xs) lt = found_by test (test x) x xs (position_or_len test xs) refl lt
        (found_at test xs)

    main_found : Found (λ f. is_named p (codes "main") f.name) p.functions q.main
    main_found = by_test
        (nat_lt (position_or_len (λ f. is_named p (codes "main") f.name) p.functions)
        (length p.functions)) refl nf.main
      where
        by_test : (b : Bool) → nat_lt
            (position_or_len (λ f. is_named p (codes "main") f.name) p.functions)
            (length p.functions) ≡ b → cond b
            (Some (position_or_len (λ f. is_named p (codes "main") f.name) p.functions)) None ≡ Some
            q.main → Found (λ f. is_named p (codes "main") f.name) p.functions q.main
        by_test true l i = subst (Found (λ f. is_named p (codes "main") f.name) p.functions)
            (same_Some _ q.main i)
            (found_at (λ f. is_named p (codes "main") f.name) p.functions (ltb-true _ _ l))
        by_test false l i = absurd (none-some q.main i)

    one_at_most : (f : tree.Function) (n : ℕ) → slice_get p.functions q.main ≡ Some f
        → is_named p (codes "main") f.name ≡ true → n ≡ length f.params → n ≤ 1
    one_at_most f n is named e = by_list f.params refl e
      where
        by_list : (xs : List Binder) → f.params ≡ xs → n ≡ length xs → n ≤ 1
        by_list [] i many = omega (arith, many)
        by_list (x ∷ []) i many = omega (arith, many)
        by_list (x ∷ y ∷ xs) i many = absurd
            (ok 20 f.at
            (MainHasParameters q.main is named (let l = ap length i in omega (arith, l))))

    pub main_ok : HasParams q q.main (λ n. n ≤ 1)
    main_ok =
        let m = main_found in
        let g : PairAt (IsFunction p) q.funs q.main m.item
        = pair_at (IsFunction p) p.functions q.funs q.main m.item nf.funs m.is in
        (g.other, g.is, one_at_most m.item g.other.params m.is m.passes g.related.params)

    -- ---- the list's constructors, where the program's names are different texts

    module _ (different : (i j : ℕ) (b : List ℕ) → slice_get p.names i ≡ Some b
        → slice_get p.names j ≡ Some b → i ≡ j) where
      named_is : (x : ℕ) (name : List ℕ) (o : Option (List ℕ)) → slice_get p.names x ≡ o
          → elim o [ Some b ↦ bytes_eq b name | None ↦ false ] ≡ true
          → slice_get p.names x ≡ Some name
      named_is x name None e h = not_both false h refl
      named_is x name (Some b) e h = e ∙ ap Some (same_bytes b name h)

      -- the first constructor of this name
      record FirstNamed (name : List ℕ) (cs : List arity.Con) : Type 0 where
        con : arity.Con
        is : slice_get cs (con_named name cs) ≡ Some con
        same : con.name ≡ name

      first_by : (name : List ℕ) (b : Bool) (c : arity.Con) (cs : List arity.Con)
          → bytes_eq name c.name ≡ b → (i : ℕ) (d : arity.Con) → slice_get (c ∷ cs) i ≡ Some d
          → d.name ≡ name → ((i : ℕ) → slice_get cs i ≡ Some d → FirstNamed name cs)
          → (con : arity.Con) × (slice_get (c ∷ cs) (cond b 0 (con_named name cs + 1)) ≡ Some con)
          × (con.name ≡ name)
      first_by name true c cs e i d is n h = (c, refl, sym (same_bytes name c.name e))
      first_by name false c cs e zero d is n h = let s : c ≡ d = same_Some c d is
          in not_both _ (bytes_same name c.name (sym (ap (λ x. x.name) s ∙ n))) e
      first_by name false c cs e (suc i) d is n h = let r = h i is in let z
          : con_named name cs + 1 ≡ suc (con_named name cs) = omega arith
          in (r.con, rw z r.is, r.same)

      first_found : (name : List ℕ) (cs : List arity.Con) (i : ℕ) (d : arity.Con)
          → slice_get cs i ≡ Some d → d.name ≡ name → FirstNamed name cs
      first_found name [] i d is n = absurd (none-some d is)
      first_found name (c ∷ cs) i d is n =
          let r = first_by name (bytes_eq name c.name) c cs refl i d is n
          (λ j e. first_found name cs j d e n) in
          record { con = r.0; is = r.1; same = r.2 }

      record PairBack {X Y : Type 0} (R : X → Y → Type 0) (xs : List X) (i : ℕ) (y : Y)
          : Type 0 where
        other : X
        is : slice_get xs i ≡ Some other
        related : R other y

      pair_back : {X Y : Type 0} (R : X → Y → Type 0) (xs : List X) (ys : List Y) (i : ℕ) (y : Y)
          → Pairwise R xs ys → slice_get ys i ≡ Some y → PairBack R xs i y
      pair_back R [] [] i y w e = absurd (none-some y e)
      pair_back R [] (z ∷ ys) i y w e = absurd w
      pair_back R (x ∷ xs) [] i y w e = absurd w
      pair_back R (x ∷ xs) (z ∷ ys) zero y w e = record
          { other = x; is = refl; related = subst (R x) (same_Some z y e) w.0 }
      pair_back R (x ∷ xs) (z ∷ ys) (suc i) y w e = let r = pair_back R xs ys i y w.1 e
          in record { other = r.other; is = r.is; related = r.related }

      no_second : (i j : ℕ) (c d : Data) → slice_get p.constructors i ≡ Some c
          → slice_get p.constructors j ≡ Some d → d.name ≡ c.name → c ≡ d
      no_second i j c d e f n = by_order (nat_lt i j) refl (nat_lt j i) refl
        where
          by_order : (a : Bool) → nat_lt i j ≡ a → (b : Bool) → nat_lt j i ≡ b → c ≡ d
          by_order true x b y = absurd (ok 11 d.at (DuplicateConstructor (ltb-true i j x) e f n))
          by_order false x true y = absurd
              (ok 11 c.at (DuplicateConstructor (ltb-true j i y) f e (sym n)))
          by_order false x false y =
              let le = ltb-false i j x in
              let ge = ltb-false j i y in
              let s : i ≡ j = omega (arith, le, ge) in
              same_Some c d (sym e ∙ ap (slice_get p.constructors) s ∙ f)

      first_at : (ds : List Data) (c : ℕ) (d : Data) → first_constructor_named c ds ≡ Some d
          → (i : ℕ) × (slice_get ds i ≡ Some d)
      first_at [] c d e = absurd (none-some d e)
      first_at (x ∷ ds) c d e = by_test (nat_eq x.name c) e (first_at ds c d)
        where
          by_test : (b : Bool) → cond b (Some x) (first_constructor_named c ds) ≡ Some d
              → (first_constructor_named c ds ≡ Some d → (i : ℕ) × (slice_get ds i ≡ Some d))
              → (i : ℕ) × (slice_get (x ∷ ds) i ≡ Some d)
          by_test true e more = (0, e)
          by_test false e more = let m = more e in (suc m.0, m.1)

      declared : (name : List ℕ) (k : ℕ) → broken.Declares p name k
          → HasFields q (con_named name q.cons) k
      declared name k h =
          let d : Data = h.0 in
          let at = first_at p.constructors d.name d h.1 in
          let text : slice_get p.names d.name ≡ Some name
          = named_is d.name name (slice_get p.names d.name) refl h.2 in
          let c : PairAt (IsConstructor p) q.cons at.0 d
          = pair_at (IsConstructor p) p.constructors q.cons at.0 d nf.cons at.1 in
          let same : c.other.name ≡ name = same_Some c.other.name name (sym c.related.name ∙ text)
          in
          let r : FirstNamed name q.cons = first_found name q.cons at.0 c.other c.is same in
          let back : PairBack (IsConstructor p) p.constructors (con_named name q.cons) r.con
          = pair_back (IsConstructor p) p.constructors q.cons (con_named name q.cons) r.con
          nf.cons r.is in
          let one : back.other.name ≡ d.name = different back.other.name d.name name
          (back.related.name ∙ ap Some r.same) text in
          let it : d ≡ back.other = no_second at.0 (con_named name q.cons) d back.other at.1 back.is
          one in
          (r.con, r.is, back.related.fields ∙ ap (λ x. x.fields) (sym it) ∙ h.3)

      has_or_not : (c k : ℕ) → HasFields q c k ⊎ (HasFields q c k → ⊥)
      has_or_not c k = by_con (slice_get q.cons c) refl
        where
          by_fields : (con : arity.Con) → slice_get q.cons c ≡ Some con → (b : Bool)
              → nat_eq con.fields k ≡ b → HasFields q c k ⊎ (HasFields q c k → ⊥)
          by_fields con e true n = inl (con, e, eqb-true con.fields k n)
          by_fields con e false n = inr
              (λ h. let s : h.0 ≡ con = same_Some h.0 con (sym h.1 ∙ e)
              in not_both _ (eq-eqb con.fields k (ap (λ x. x.fields) (sym s) ∙ h.2)) n)

          by_con : (o : Option arity.Con) → slice_get q.cons c ≡ o → HasFields q c k
              ⊎ (HasFields q c k → ⊥)
          by_con None e = inr (λ h. none-some h.0 (sym e ∙ h.1))
          by_con (Some con) e = by_fields con e (nat_eq con.fields k) refl

      nil_ok : HasFields q (nil q) 0
      nil_ok = by_case (has_or_not (nil q) 0)
        where
          by_case : HasFields q (nil q) 0 ⊎ (HasFields q (nil q) 0 → ⊥) → HasFields q (nil q) 0
          by_case (inl h) = h
          by_case (inr n) = absurd
              (ok 21 0 (NoListConstructors (λ d. n (declared (codes "Nil") 0 d.0))))

      cons_ok : HasFields q (cons q) 2
      cons_ok = by_case (has_or_not (cons q) 2)
        where
          by_case : HasFields q (cons q) 2 ⊎ (HasFields q (cons q) 2 → ⊥) → HasFields q (cons q) 2
          by_case (inl h) = h
          by_case (inr n) = absurd
              (ok 21 0 (NoListConstructors (λ d. n (declared (codes "Cons") 2 d.1))))

      pub valid_is_well_formed : WellFormed q
      valid_is_well_formed = record
          { bodies = bodies_ok; main = main_ok; nil_fields = nil_ok; cons_fields = cons_ok }

-- in a list of different texts each has one place
pub different_places : (ws : List (List ℕ)) → AreDistinct ws → (i j : ℕ) (b : List ℕ)
    → slice_get ws i ≡ Some b → slice_get ws j ≡ Some b → i ≡ j
different_places [] h i j b e f = absurd (none-some b e)
different_places (w ∷ ws) h zero zero b e f = refl
different_places (w ∷ ws) h zero (suc j) b e f =
    let lt = slice_get_within ws j b f in
    let is : get_or ws j b ≡ b = same_Some (get_or ws j b) b (sym (slice_get-get_or ws j b lt) ∙ f)
    in
    absurd (h.0 j b lt (is ∙ sym (same_Some w b e)))
different_places (w ∷ ws) h (suc i) zero b e f =
    let lt = slice_get_within ws i b e in
    let is : get_or ws i b ≡ b = same_Some (get_or ws i b) b (sym (slice_get-get_or ws i b lt) ∙ e)
    in
    absurd (h.0 i b lt (is ∙ sym (same_Some w b f)))
different_places (w ∷ ws) h (suc i) (suc j) b e f = ap suc (different_places ws h.1 i j b e f)
