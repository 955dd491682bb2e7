-- The program that equations become is readable.
use Rattle.std.proofs.Common.{◌≡◌, ℕ, zero, suc, ◌+◌, ◌-◌, ◌<◌, ◌≤◌, ◌^◌, Bool, true, false, cond, List, [], ◌∷◌, ◌++◌, map, length, refl, sym, ap, subst, ◌∙◌, arith, Option, Some, None, inl, inr, ⊎_elim}
use Rattle.std.specs.Prelude.{All, codes, decimal, nat_lt, nat_le, ◌==◌, ◌&&◌, ◌||◌, slice_get, if◌then◌else◌}
use Rattle.std.specs.List.{range_with_len}
use Rattle.std.specs.Str.Parse.{AllDigits}
use Rattle.std.proofs.lemmas.Bool.{and_from, lt-ltb}
use Rattle.std.proofs.lemmas.Bool.Decides.{nat_tests}
use Rattle.std.proofs.lemmas.Fmt.{decimal_is_IsNumeral}
use Rattle.std.proofs.lemmas.List.Elements.{All-nil, All-cons, All-head, All-tail, All-append, All-map, All-weaker}
use Rattle.std.proofs.lemmas.List.FromFn.{length-map-range_with_len}
use Rattle.std.proofs.lemmas.Slice.Eq.{bytes_eq-Decides}
use Rattle.std.proofs.lemmas.Str.Parse.{digit_from_value}
use Rattle.seq.specs.Lists.{AllOf, In, here, there, numbers_from}
use Rattle.seq.proofs.Lists.{some_is, get_left, get_right}
use Rattle.seq.proofs.Member.{none_in, cons_in, in_left, in_right, in_split}
use Rattle.seq.proofs.Order.{eq_false, same_or_not}
use Rattle.core_reader.specs.declared.syntax.Binder.{Binder}
use Rattle.core_reader.specs.declared.syntax.Pattern.{Pattern}
use Rattle.core_reader.specs.declared.syntax.Pattern.TheVariants as pattern
use Rattle.core_reader.specs.declared.look.TokenKind.TheVariants.{Lower}
use Rattle.core_reader.specs.Bytes.{is_lower, is_upper, is_digit, is_inner}
use Rattle.core_reader.specs.TokensOf.{every}
use Rattle.core_reader.specs.Tree.{Term, Terms, NoTerms, AndTerm, Bind, Expr, App, Let, Alts, NoAlts, AndAlt, Function}
use Rattle.core_reader.specs.Tree as core
use Rattle.core_reader.specs.Grammar.{IsGroup, IsNonemptyAlts}
use Rattle.core_reader.specs.Readable.{IsName, IsConstructor, IsTextAt, IsNamed, IsBound, ReadableTerm, ReadableTerms, ReadableBind, ReadablePattern, ReadableExpr, ReadableAlts, ReadableData, ReadableFunction}
use Rattle.core_reader.specs.Readable as core-readable
use Rattle.arity_check.specs.Scope.{Scope}
use Rattle.arity_check.specs.Locals.{innermost_local}
use Rattle.arity_check.specs.Pieces.{binders_of, bound_by}
use Rattle.match_compile.specs.Source.{Source}
use Rattle.match_compile.specs.Rules.{text_in, Broken}
use Rattle.match_compile.specs.Sound.{name_of_equation}
use Rattle.match_compile.specs.Sizes.{functions}
use Rattle.match_compile.specs.Readable.{ReadableEquation, IsReadable}
use Rattle.match_compile.specs.Heads.{Head, Integer, Constructor}
use Rattle.match_compile.specs.Trees.{Tree, Body, Case, Branches, NoBranch, AndBranch, Default, NoDefault, ATree}
use Rattle.match_compile.specs.Decisions.{Decision, decisions}
use Rattle.match_compile.specs.Renamed.{renamed_name, shadowing, renamed_term, renamed_terms, renamed_bind, renamed_expr, renamed_alts}
use Rattle.match_compile.specs.Translated.{name_supply_of, bound_at, first_bound, first_bound_in, all_bind, stays, is_nameless, param_name, field_name, most_params, most_fields, most_fields_of, with_nameless, numbered_texts, nameless, equation_name, keeps, place_name, taken, binder, name_or, with_fields, binders, pattern_of, expr_of, alts_of, default_of, param_stays, with_params, arguments, call, is_called, function_of, next_of, first_of, each_of, others_of, firsts, others, translated}
use Rattle.match_compile.specs.NamesOf.{NewNamesFit}
use Rattle.match_compile.specs.Premises.{HasNoNewName}
use Rattle.match_compile.proofs.NewNames.{new_different}
use Rattle.match_compile.proofs.NamedAs.{translated_text, nameless_text}
use Rattle.match_compile.proofs.Grouped.{all_are, all_in, all_of, front_all, back_all, functions_all, total, other_numbers, numbers_of, others_climb, all_below}
use Rattle.match_compile.proofs.Bodies.{name_here, name_other}
use Rattle.match_compile.proofs.RowPlaces.{numbers_below, bound_places, job_places}
use Rattle.match_compile.proofs.Sown.{Fine, FineBranches, FineDefault, Stood, decisions_stood}
use Rattle.match_compile.proofs.Placed.{most_is}
use Rattle.match_compile.proofs.Breaks.{functions_total}
use Rattle.match_compile.proofs.Small.{is_small}
use Rattle.match_compile.proofs.ReadableTrees.{AreBound, ReadableHead, ReadableTree, ReadableBranches, ReadableDefault, HasReadable, all_readable}

-- ---- texts of new names

or_digit : (a b d e : Bool) → d ≡ true → (a || b || d || e) ≡ true
or_digit true b d e h = refl
or_digit false true d e h = refl
or_digit false false true e h = refl
or_digit false false false e h = absurd cc

digits_inner : (ds : List ℕ) → AllDigits 10 ds → every is_inner ds ≡ true
digits_inner [] h = refl
digits_inner (d ∷ ds) h =
    let k = digit_from_value d h.0 in
    let digit : is_digit d ≡ true = and_from (nat_lt 47 d) (nat_lt d 58)
    (lt-ltb 47 d (omega (arith, k))) (lt-ltb d 58 (omega (arith, k))) in
    and_from (is_inner d) (every is_inner ds)
    (or_digit (is_lower d) (is_upper d) (is_digit d) (d == 39) digit) (digits_inner ds h.1)

decimal_inner : (n : ℕ) → n < 2 ^ 64 → every is_inner (decimal n) ≡ true
decimal_inner n h = digits_inner (decimal n) (decimal_is_IsNumeral n h).0.1

name_is : (ds : List ℕ) → every is_inner ds ≡ true → IsName (codes "match'" ++ ds)
name_is ds e = (ap (λ b. cond b (Some Lower) None) e, refl)

text_from : (text : ℕ → List ℕ) (a n k : ℕ) → k < n
    → slice_get (map text (range_with_len a n)) k ≡ Some (text (a + k))
text_from text a zero k l = absurd (omega (arith, l))
text_from text a (suc n) zero l = ap (λ i. Some (text i)) (omega arith)
text_from text a (suc n) (suc k) l = let e : a + 1 + k ≡ a + suc k = omega arith
    in text_from text (a + 1) n k (omega (arith, l)) ∙ ap (λ i. Some (text i)) e

text_at : (text : ℕ → List ℕ) (n k : ℕ) → k < n → slice_get (numbered_texts n text) k ≡ Some
    (text k)
text_at text n k l = let e : 0 + k ≡ k = omega arith
    in text_from text 0 n k l ∙ ap (λ i. Some (text i)) e

both_all : {X : Type 0} (P Q : X → Type 0) (xs : List X) → AllOf P xs → AllOf Q xs
    → AllOf (λ x. P x × Q x) xs
both_all P Q [] h g = tt
both_all P Q (x ∷ xs) h g = ((h.0, g.0), both_all P Q xs h.1 g.1)

module _ (c : Source) where
  abbrev all : List (List ℕ)
  all = (translated c).names

  front : (Kind : List ℕ → Type 0) (x : ℕ) → IsTextAt c.names Kind x → IsTextAt all Kind x
  front Kind x h = (h.0, translated_text c x h.1, h.2)

  binders_front : (bs : List Binder) → All (IsBound c.names) bs → All (IsBound all) bs
  binders_front bs h = All-weaker (IsBound c.names) (IsBound all) (λ b g. front IsName b.name.0 g)
      bs h

  pattern_front : (p : Pattern) → ReadablePattern c.names p → ReadablePattern all p
  pattern_front (pattern.Con k fields) h =
      (front IsConstructor k.name.0 h.0, binders_front fields h.1)
  pattern_front (pattern.Int k at) h = h
  pattern_front (pattern.Default x) h = front IsName x.name.0 h

  -- ---- bodies where names stand for others

  abbrev AreNamed : Scope → Type 0
  AreNamed s = AllOf (λ (b : ℕ × ℕ). IsNamed all b.1) s

  name_named : (s : Scope) (x : ℕ) → AreNamed s → IsNamed all x → IsNamed all (renamed_name s x)
  name_named [] x h n = n
  name_named (b ∷ s) x h n = go (b.0 == x) (name_named s x h.1 n)
    where
      go : (t : Bool) → IsNamed all (renamed_name s x)
          → IsNamed all
          (elim (if t then Some b.1 else innermost_local s x) [ Some y ↦ y | None ↦ x ])
      go true g = h.0
      go false g = g

  hidden_named : (bs : List Binder) (s : Scope) → All (IsBound c.names) bs → AreNamed s
      → AreNamed (shadowing bs s)
  hidden_named [] s h g = g
  hidden_named (b ∷ bs) s h g = hidden_named bs ((b.name.0, b.name.0) ∷ s)
      (All-tail (IsBound c.names) b bs h)
      (front IsName b.name.0 (All-head (IsBound c.names) b bs h), g)

  bound_readable : (p : Pattern) → ReadablePattern c.names p → All (IsBound c.names) (bound_by p)
  bound_readable (pattern.Con k fields) h = h.1
  bound_readable (pattern.Int k at) h = All-nil (IsBound c.names)
  bound_readable (pattern.Default x) h = All-cons (IsBound c.names) x [] h
      (All-nil (IsBound c.names))

  group_bound : (group : List Bind) → All (ReadableBind c.names) group
      → All (IsBound c.names) (binders_of group)
  group_bound group h = All-map (IsBound c.names) (λ b. b.binder) group
      (All-weaker (ReadableBind c.names) (λ (b : Bind). IsBound c.names b.binder) (λ b g. g.0) group
      h)

  group_some : (s : Scope) (group : List Bind) → IsGroup group
      → IsGroup (map (renamed_bind s) group)
  group_some s [] h = h
  group_some s (b ∷ bs) h = tt

  alts_some : (s : Scope) (alts : Alts) → IsNonemptyAlts alts → IsNonemptyAlts (renamed_alts s alts)
  alts_some s NoAlts h = h
  alts_some s (AndAlt p e alts) h = tt

  mutual
    term_renamed : (s : Scope) (t : Term) → AreNamed s → ReadableTerm c.names t
        → ReadableTerm all (renamed_term s t)
    term_renamed s (core.Name x at) g h = name_named s x g (front IsName x h)
    term_renamed s (core.Con x at) g h = front IsConstructor x h
    term_renamed s (core.Int k at) g h = h
    term_renamed s (core.Bracket f xs at) g h = (term_renamed s f g h.0, terms_renamed s xs g h.1)

    terms_renamed : (s : Scope) (ts : Terms) → AreNamed s → ReadableTerms c.names ts
        → ReadableTerms all (renamed_terms s ts)
    terms_renamed s NoTerms g h = tt
    terms_renamed s (AndTerm t ts) g h = (term_renamed s t g h.0, terms_renamed s ts g h.1)

  binds_renamed : (s : Scope) (group : List Bind) → AreNamed s → All (ReadableBind c.names) group
      → All (ReadableBind all) (map (renamed_bind s) group)
  binds_renamed s [] g h = All-nil (ReadableBind all)
  binds_renamed s (b ∷ bs) g h =
      let own = All-head (ReadableBind c.names) b bs h in
      All-cons (ReadableBind all) (renamed_bind s b) (map (renamed_bind s) bs) (
        front IsName b.binder.name.0 own.0,
        (term_renamed s b.app.head g own.1.0, terms_renamed s b.app.args g own.1.1),
      )
      (binds_renamed s bs g (All-tail (ReadableBind c.names) b bs h))

  mutual
    expr_renamed : (s : Scope) (e : Expr) → AreNamed s → ReadableExpr c.names e
        → ReadableExpr all (renamed_expr s e)
    expr_renamed s (App a) g h = (term_renamed s a.head g h.0, terms_renamed s a.args g h.1)
    expr_renamed s (Let group e) g h =
        let inner : AreNamed (shadowing (binders_of group) s)
        = hidden_named (binders_of group) s (group_bound group h.1) g in (
          group_some (shadowing (binders_of group) s) group h.0,
          binds_renamed (shadowing (binders_of group) s) group inner h.1,
          expr_renamed (shadowing (binders_of group) s) e inner h.2,
        )
    expr_renamed s (core.Case e alts) g h =
        (alts_some s alts h.0, expr_renamed s e g h.1, alts_renamed s alts g h.2)

    alts_renamed : (s : Scope) (alts : Alts) → AreNamed s → ReadableAlts c.names alts
        → ReadableAlts all (renamed_alts s alts)
    alts_renamed s NoAlts g h = tt
    alts_renamed s (AndAlt p e alts) g h = (
      pattern_front p h.0,
      expr_renamed (shadowing (bound_by p) s) e
          (hidden_named (bound_by p) s (bound_readable p h.0) g) h.1,
      alts_renamed s alts g h.2,
    )

  -- ---- names of places

  abbrev equations : ℕ
  equations = length c.equations

  abbrev params_most : ℕ
  params_most = most_params c.equations

  abbrev fields_most : ℕ
  fields_most = most_fields_of (decisions c)

  module _ (few : NewNamesFit c) where
    equation_named : (k : ℕ) → k < equations → IsNamed all (equation_name (name_supply_of c) k)
    equation_named k l = (
      name_of_equation k,
      get_right (with_nameless c.names)
          (numbered_texts equations name_of_equation
          ++ (numbered_texts params_most param_name ++ numbered_texts fields_most field_name)) k
          (name_of_equation k)
          (get_left (numbered_texts equations name_of_equation)
          (numbered_texts params_most param_name ++ numbered_texts fields_most field_name) k
          (name_of_equation k) (text_at name_of_equation equations k l)),
      name_is (decimal k) (decimal_inner k (omega (arith, l, few.equations))),
    )

    -- behind the names of equations
    behind : (i : ℕ) (text : List ℕ) → slice_get
        (numbered_texts params_most param_name ++ numbered_texts fields_most field_name) i ≡ Some
        text → slice_get all (length (with_nameless c.names) + equations + i) ≡ Some text
    behind i text e =
        let long : length (numbered_texts equations name_of_equation) ≡ equations
        = length-map-range_with_len name_of_equation 0 equations in
        let at : length (with_nameless c.names) +
        (length (numbered_texts equations name_of_equation) + i) ≡ length
        (with_nameless c.names) + equations + i = omega (arith, long) in
        subst (λ j. slice_get all j ≡ Some text) at
        (get_right (with_nameless c.names)
        (numbered_texts equations name_of_equation
        ++ (numbered_texts params_most param_name ++ numbered_texts fields_most field_name))
        (length (numbered_texts equations name_of_equation) + i) text
        (get_right (numbered_texts equations name_of_equation)
        (numbered_texts params_most param_name ++ numbered_texts fields_most field_name) i text
        e))

    column_named : (p : ℕ) → p < params_most → IsNamed all
        (length (with_nameless c.names) + equations + p)
    column_named p l = (
      param_name p,
      behind p (param_name p)
          (get_left (numbered_texts params_most param_name) (numbered_texts fields_most field_name)
          p (param_name p) (text_at param_name params_most p l)),
      name_is (codes "p" ++ decimal p) (decimal_inner p (omega (arith, l, few.params))),
    )

    field_named : (i : ℕ) → i < fields_most → IsNamed all
        (length (with_nameless c.names) + equations + (params_most + i))
    field_named i l =
        let long : length (numbered_texts params_most param_name) ≡ params_most
        = length-map-range_with_len param_name 0 params_most in (
          field_name i,
          behind (params_most + i) (field_name i)
              (subst (λ n. slice_get
              (numbered_texts params_most param_name ++ numbered_texts fields_most field_name)
              (n + i) ≡ Some (field_name i)) long
              (get_right (numbered_texts params_most param_name)
              (numbered_texts fields_most field_name) i (field_name i)
              (text_at field_name fields_most i l))),
          name_is (codes "q" ++ decimal i) (decimal_inner i (omega (arith, l, few.fields))),
        )

    place_named : (params free p : ℕ) → params ≤ params_most → free - params ≤ fields_most
        → p < free → IsNamed all (place_name (name_supply_of c) params p)
    place_named params free p within fits l = go (nat_lt p params) refl
      where
        go : (b : Bool) → nat_lt p params ≡ b → IsNamed all
            (length (with_nameless c.names) + equations +
            (if b then p else params_most + (p - params)))
        go true e = let lt : p < params = grind (arith, nat_tests)
            in column_named p (omega (arith, lt, within))
        go false e = let le : params ≤ p = grind (arith, nat_tests)
            in field_named (p - params) (omega (arith, le, l, fits))

    nameless_named : IsNamed all (nameless (name_supply_of c))
    nameless_named =
        let t = nameless_text c in
        let same : t.0 ≡ codes "_" = (bytes_eq-Decides t.0 (codes "_")).0 t.2 in
        let kind : IsName (codes "_") = (refl, refl) in (
          t.0,
          get_left (with_nameless c.names)
              (numbered_texts equations name_of_equation
              ++ (numbered_texts params_most param_name ++ numbered_texts fields_most field_name))
              (nameless (name_supply_of c)) t.0 t.1,
          subst IsName (sym same) kind,
        )

    -- ---- names that stay

    bound_named : (p : ℕ) (bs : List (Binder × ℕ)) (x : ℕ) → AreBound c.names bs
        → bound_at p bs ≡ Some x → IsNamed c.names x
    bound_named p [] x h e = absurd cc
    bound_named p (b ∷ bs) x h e = go (b.1 == p) (bound_named p bs x h.1) e
      where
        go : (t : Bool) → (bound_at p bs ≡ Some x → IsNamed c.names x)
            → (if t then Some b.0.name.0 else bound_at p bs) ≡ Some x → IsNamed c.names x
        go true f e = subst (IsNamed c.names) (some_is e) h.0
        go false f e = f e

    mutual
      first_readable : (t : Tree) → ReadableTree c.names t → AreBound c.names (first_bound t)
      first_readable (Body r) h = h.bound
      first_readable (Case p bs o) h = first_readable_in bs h.0

      first_readable_in : (bs : Branches) → ReadableBranches c.names bs
          → AreBound c.names (first_bound_in bs)
      first_readable_in NoBranch h = tt
      first_readable_in (AndBranch d ps t bs) h = first_readable t h.1

    stays_named : (p : ℕ) (t : Tree) (x : ℕ) → ReadableTree c.names t → stays p t ≡ Some x
        → IsNamed all x
    stays_named p t x h e = front IsName x
        (go (bound_at p (first_bound t))
        (λ y f. bound_named p (first_bound t) y (first_readable t h) f) e)
      where
        go : (o : Option ℕ) → ((y : ℕ) → o ≡ Some y → IsNamed c.names y)
            → elim o [ None ↦ None | Some y ↦ if all_bind p y t then Some y else None ] ≡ Some x
            → IsNamed c.names x
        go None f e = absurd cc
        go (Some y) f e = by (all_bind p y t) e
          where
            by : (b : Bool) → (if b then Some y else None) ≡ Some x → IsNamed c.names x
            by true e = subst (IsNamed c.names) (some_is e) (f y refl)
            by false e = absurd cc

    param_named : (called : Bool) (o : Option ℕ) (x : ℕ) → ((y : ℕ) → o ≡ Some y → IsNamed all y)
        → param_stays (name_supply_of c) called o ≡ Some x → IsNamed all x
    param_named called None x f e = absurd cc
    param_named called (Some y) x f e = go (called && is_nameless (text_in c.names y)) e
      where
        go : (b : Bool) → (if b then None else Some y) ≡ Some x → IsNamed all x
        go true e = absurd cc
        go false e = subst (IsNamed all) (some_is e) (f y refl)

    -- ---- names of known places

    abbrev Named : List ℕ → Scope → Type 0
    Named ks s = (p : ℕ) → In p ks → IsNamed all (renamed_name s p)

    named_more : (p y : ℕ) (ks : List ℕ) (s : Scope) → IsNamed all y → Named ks s
        → Named (p ∷ ks) ((p, y) ∷ s)
    named_more p y ks s n h q i = elim (same_or_not p q) [
      | inl e ↦ subst (λ z. IsNamed all (renamed_name ((p, y) ∷ s) z)) e
          (subst (IsNamed all) (sym (name_here p y s)) n)
      | inr d ↦ subst (IsNamed all) (sym (name_other p y s q (eq_false p q d)))
          (⊎_elim (λ e. absurd (d (sym e))) (λ j. h q j) (cons_in p ks i))
    ]

    moved : (p : ℕ) (ps ks : List ℕ) (q : ℕ) → In q (p ∷ (ps ++ ks)) → In q (ps ++ (p ∷ ks))
    moved p ps ks q i = ⊎_elim (λ e. in_right ps (p ∷ ks) (subst (λ z. In z (p ∷ ks)) (sym e) here))
        (λ j. ⊎_elim (λ l. in_left ps (p ∷ ks) l) (λ r. in_right ps (p ∷ ks) (there r))
        (in_split ps ks j)) (cons_in p (ps ++ ks) i)

    module _ (at params free : ℕ) (within : params ≤ params_most)
        (fits : free - params ≤ fields_most) where
      given : (o : Option ℕ) (p : ℕ) → p < free → ((x : ℕ) → o ≡ Some x → IsNamed all x)
          → IsNamed all (name_or (name_supply_of c) at params o p)
      given None p l f = place_named params free p within fits l
      given (Some x) p l f = f x refl

      fields_named : (t : Tree) (ps ks : List ℕ) (places : Scope) → AllOf (λ p. p < free) ps
          → ReadableTree c.names t → Named ks places
          → Named (ps ++ ks) (with_fields (name_supply_of c) at params t ps places)
      fields_named t [] ks places l h n = n
      fields_named t (p ∷ ps) ks places l h n =
          let y : ℕ = name_or (name_supply_of c) at params (stays p t) p in
          let more = named_more p y ks places
          (given (stays p t) p l.0 (λ x e. stays_named p t x h e)) n in
          λ q i. fields_named t ps (p ∷ ks) ((p, y) ∷ places) l.1 h more q (moved p ps ks q i)

      binders_named : (s : Scope) (ps : List ℕ) → AllOf (λ p. IsNamed all (renamed_name s p)) ps
          → All (IsBound all) (binders (name_supply_of c) at params s ps)
      binders_named s [] h = All-nil (IsBound all)
      binders_named s (p ∷ ps) h = All-cons (IsBound all)
          (binder (name_supply_of c) at params (renamed_name s p))
          (binders (name_supply_of c) at params s ps) h.0 (binders_named s ps h.1)

      pattern_readable : (h : Head) (fields : List Binder) → ReadableHead c.names h
          → All (IsBound all) fields → ReadablePattern all
          (pattern_of (name_supply_of c) at params h fields)
      pattern_readable (Integer k) fields g b = g
      pattern_readable (Constructor d) fields g b = (front IsConstructor d g, b)

      taken_named : (ks : List ℕ) (places : Scope) (bs : List (Binder × ℕ))
          → AllOf (λ p. In p ks) (bound_places bs) → Named ks places
          → AreNamed (taken (name_supply_of c) places bs)
      taken_named ks places [] k n = tt
      taken_named ks places (b ∷ bs) k n = go (keeps (name_supply_of c) b.0.name.0)
          (taken_named ks places bs k.1 n)
        where
          go : (t : Bool) → AreNamed (taken (name_supply_of c) places bs)
              → AreNamed
              (if t then taken (name_supply_of c) places bs
              else (b.0.name.0, renamed_name places b.1) ∷ taken (name_supply_of c) places bs)
          go true h = h
          go false h = (n b.1 k.0, h)

      module _ (rest : Alts) (rest_readable : ReadableAlts all rest) where
        mutual
          tree_readable : (ks : List ℕ) (t : Tree) (places : Scope) → Fine c free ks t
              → ReadableTree c.names t → Named ks places
              → ReadableExpr all (expr_of (name_supply_of c) at params rest places t)
          tree_readable ks (Body r) places f h n =
              expr_renamed (taken (name_supply_of c) places r.bound) r.body
              (taken_named ks places r.bound
              (front_all (λ p. In p ks) (bound_places r.bound) (job_places r.jobs) f.0.known) n)
              h.body
          tree_readable ks (Case p NoBranch o) places f h n = absurd (no_branch (f.1 0))
            where
              no_branch : true ≡ false → ⊥
              no_branch e = cc
          tree_readable ks (Case p (AndBranch d ps t bs) o) places f h n = (
            tt,
            (n p f.0, tt),
            alts_readable ks (AndBranch d ps t bs) places
                (default_of (name_supply_of c) at params rest places o) f.3 h.0 n
                (default_readable ks o places f.4 h.1 n),
          )

          alts_readable : (ks : List ℕ) (bs : Branches) (places : Scope) (others : Alts)
              → FineBranches c free ks bs → ReadableBranches c.names bs → Named ks places
              → ReadableAlts all others → ReadableAlts all
              (alts_of (name_supply_of c) at params rest places bs others)
          alts_readable ks NoBranch places others f h n o = o
          alts_readable ks (AndBranch d ps t bs) places others f h n o =
              let s : Scope = with_fields (name_supply_of c) at params t ps places in
              let inner : Named (ps ++ ks) s = fields_named t ps ks places f.3 h.1 n in
              let own : AllOf (λ p. IsNamed all (renamed_name s p)) ps
              = all_are (λ p. In p ps) (λ p. IsNamed all (renamed_name s p))
              (λ p i. inner p (in_left ps ks i)) ps (all_in ps) in (
                pattern_readable d (binders (name_supply_of c) at params s ps) h.0
                    (binders_named s ps own),
                tree_readable (ps ++ ks) t s f.4 h.1 inner,
                alts_readable ks bs places others f.5 h.2 n o,
              )

          default_readable : (ks : List ℕ) (o : Default) (places : Scope) → FineDefault c free ks o
              → ReadableDefault c.names o → Named ks places
              → ReadableAlts all (default_of (name_supply_of c) at params rest places o)
          default_readable ks NoDefault places f h n = rest_readable
          default_readable ks (ATree t) places f h n
              = (nameless_named, tree_readable ks t places f h n, tt)

    -- ---- functions

    arguments_readable : (at : ℕ) (bs : List Binder) → All (IsBound all) bs
        → ReadableTerms all (arguments (name_supply_of c) at bs)
    arguments_readable at [] h = tt
    arguments_readable at (b ∷ bs) h =
        (All-head (IsBound all) b bs h, arguments_readable at bs (All-tail (IsBound all) b bs h))

    call_readable : (at : ℕ) (next : Option ℕ) (bs : List Binder)
        → ((f : ℕ) → next ≡ Some f → IsNamed all f) → All (IsBound all) bs
        → ReadableAlts all (call (name_supply_of c) at next bs)
    call_readable at None bs f h = tt
    call_readable at (Some g) bs f h = (nameless_named, (f g refl, arguments_readable at bs h), tt)

    -- a tree with what holds of it
    abbrev Whole : Decision → Type 0
    Whole d = Stood c d × (HasReadable c.names d × (d.free - d.params ≤ fields_most))

    params_few : (d : Decision) → Stood c d → d.params ≤ params_most
    params_few d s = let is = s.params in let le = most_is c.equations s.first s.is_in
        in omega (arith, is, le)

    params_named : (d : Decision) (w : Whole d) (called : Bool) (ps ks : List ℕ) (places : Scope)
        → AllOf (λ p. p < d.free) ps → Named ks places
        → Named (ps ++ ks) (with_params (name_supply_of c) called d ps places)
    params_named d w called [] ks places l n = n
    params_named d w called (p ∷ ps) ks places l n =
        let o : Option ℕ = param_stays (name_supply_of c) called (stays p d.tree) in
        let y : ℕ = name_or (name_supply_of c) d.at d.params o p in
        let more = named_more p y ks places
        (given d.at d.params d.free (params_few d w.0) w.1.1 o p l.0
        (λ x e. param_named called (stays p d.tree) x (λ z g. stays_named p d.tree z w.1.0 g)
        e)) n in
        λ q i. params_named d w called ps (p ∷ ks) ((p, y) ∷ places) l.1 more q (moved p ps ks q i)

    function_readable : (name : ℕ) (d : Decision) (next : Option ℕ) → IsNamed all name → Whole d
        → ((f : ℕ) → next ≡ Some f → IsNamed all f)
        → ReadableFunction all (function_of (name_supply_of c) name d next)
    function_readable name d next n w f =
        let columns : List ℕ = numbers_from 0 d.params in
        let places : Scope = with_params (name_supply_of c) (is_called (name_supply_of c) d next) d
        columns [] in
        let low : d.params ≤ d.free = w.0.low in
        let below : AllOf (λ p. p < d.free) columns
        = all_are (λ p. p < 0 + d.params) (λ p. p < d.free) (λ p lt. omega (arith, lt, low))
        columns (numbers_below 0 d.params) in
        let known : Named columns places = λ p i. params_named d w
        (is_called (name_supply_of c) d next) columns [] [] below (λ q j. none_in j) p
        (in_left columns [] i) in
        let own : AllOf (λ p. IsNamed all (renamed_name places p)) columns
        = all_are (λ p. In p columns) (λ p. IsNamed all (renamed_name places p))
        (λ p i. known p i) columns (all_in columns) in
        let bs : List Binder = binders (name_supply_of c) d.at d.params places columns in
        let bound : All (IsBound all) bs = binders_named d.at d.params d.free (params_few d w.0)
        w.1.1 places columns own in (
          n,
          bound,
          tree_readable d.at d.params d.free (params_few d w.0) w.1.1
              (call (name_supply_of c) d.at next bs) (call_readable d.at next bs f bound) columns
              d.tree places w.0.fine w.1.0 known,
        )

    abbrev Numbered : Decision → Type 0
    Numbered d = d.number < equations

    abbrev LaterNumbered : List Decision → Type 0
    LaterNumbered [] = Unit {0}
    LaterNumbered (d ∷ ds) = AllOf Numbered ds

    next_named : (d : Decision) (ds : List Decision) → AllOf Numbered ds → (f : ℕ)
        → next_of (name_supply_of c) d ds ≡ Some f → IsNamed all f
    next_named d [] h f e = absurd cc
    next_named d (g ∷ ds) h f e = go (nat_le d.params 12) e
      where
        go : (b : Bool) → (if b then Some (equation_name (name_supply_of c) g.number) else None) ≡
            Some f → IsNamed all f
        go true e = subst (IsNamed all) (some_is e) (equation_named g.number h.0)
        go false e = absurd cc

    each_readable : (ds : List Decision) → AllOf Whole ds → AllOf Numbered ds
        → All (ReadableFunction all) (each_of (name_supply_of c) ds)
    each_readable [] w h = All-nil (ReadableFunction all)
    each_readable (d ∷ ds) w h =
        All-cons (ReadableFunction all)
        (function_of (name_supply_of c) (equation_name (name_supply_of c) d.number) d
        (next_of (name_supply_of c) d ds)) (each_of (name_supply_of c) ds)
        (function_readable (equation_name (name_supply_of c) d.number) d
        (next_of (name_supply_of c) d ds) (equation_named d.number h.0) w.0
        (λ f e. next_named d ds h.1 f e))
        (each_readable ds w.1 h.1)

    module _ (read : IsReadable c) where
      stood_named : (d : Decision) → Stood c d → IsNamed all d.name
      stood_named d s = subst (IsNamed all) (sym s.name)
          (front IsName s.first.name
          (all_of (ReadableEquation c.names) c.equations read.equations s.is_in).0)

      first_of_readable : (ds : List Decision) → AllOf Whole ds → LaterNumbered ds
          → All (ReadableFunction all) (first_of (name_supply_of c) ds)
      first_of_readable [] w h = All-nil (ReadableFunction all)
      first_of_readable (d ∷ ds) w h =
          All-cons (ReadableFunction all)
          (function_of (name_supply_of c) d.name d (next_of (name_supply_of c) d ds)) []
          (function_readable d.name d (next_of (name_supply_of c) d ds) (stood_named d w.0.0) w.0
          (λ f e. next_named d ds h f e))
          (All-nil (ReadableFunction all))

      others_of_readable : (ds : List Decision) → AllOf Whole ds → LaterNumbered ds
          → All (ReadableFunction all) (others_of (name_supply_of c) ds)
      others_of_readable [] w h = All-nil (ReadableFunction all)
      others_of_readable (d ∷ ds) w h = each_readable ds w.1 h

      firsts_readable : (fs : List (List Decision)) → AllOf (AllOf Whole) fs
          → AllOf LaterNumbered fs → All (ReadableFunction all) (firsts (name_supply_of c) fs)
      firsts_readable [] w h = All-nil (ReadableFunction all)
      firsts_readable (ds ∷ fs) w h = All-append (ReadableFunction all)
          (first_of (name_supply_of c) ds) (firsts (name_supply_of c) fs)
          (first_of_readable ds w.0 h.0) (firsts_readable fs w.1 h.1)

      others_readable : (fs : List (List Decision)) → AllOf (AllOf Whole) fs
          → AllOf LaterNumbered fs → All (ReadableFunction all) (others (name_supply_of c) fs)
      others_readable [] w h = All-nil (ReadableFunction all)
      others_readable (ds ∷ fs) w h = All-append (ReadableFunction all)
          (others_of (name_supply_of c) ds) (others (name_supply_of c) fs)
          (others_of_readable ds w.0 h.0) (others_readable fs w.1 h.1)

    -- ---- all trees

    fields_within : (n : ℕ) (ds : List Decision) → most_fields ds ≤ n
        → AllOf (λ (d : Decision). d.free - d.params ≤ n) ds
    fields_within n [] l = tt
    fields_within n (d ∷ ds) l = (omega (arith, l), fields_within n ds (omega (arith, l)))

    all_within : (n : ℕ) (fs : List (List Decision)) → most_fields_of fs ≤ n
        → AllOf (AllOf (λ (d : Decision). d.free - d.params ≤ n)) fs
    all_within n [] l = tt
    all_within n (ds ∷ fs) l =
        (fields_within n ds (omega (arith, l)), all_within n fs (omega (arith, l)))

    numbered : (ds : List Decision) → AllOf (λ n. n < equations) (numbers_of ds) → AllOf Numbered ds
    numbered [] h = tt
    numbered (d ∷ ds) h = (h.0, numbered ds h.1)

    all_numbered : (fs : List (List Decision)) → AllOf (λ n. n < equations) (other_numbers fs)
        → AllOf LaterNumbered fs
    all_numbered [] h = tt
    all_numbered ([] ∷ fs) h = (tt, all_numbered fs h)
    all_numbered ((d ∷ ds) ∷ fs) h = (
      numbered ds (front_all (λ n. n < equations) (numbers_of ds) (other_numbers fs) h),
      all_numbered fs (back_all (λ n. n < equations) (numbers_of ds) (other_numbers fs) h),
    )

    numbers_few : AllOf (λ n. n < equations) (other_numbers (decisions c))
    numbers_few =
        let is : 0 + total (functions c.equations) ≡ equations
        = omega (arith, functions_total c.equations) in
        subst (λ n. AllOf (λ m. m < n) (other_numbers (decisions c))) is
        (all_below 0 (0 + total (functions c.equations)) (other_numbers (decisions c))
        (others_climb 0 (functions c.equations)))

    whole_all : (fs : List (List Decision)) → AllOf (AllOf (Stood c)) fs
        → AllOf (AllOf (HasReadable c.names)) fs → AllOf
        (AllOf (λ (d : Decision). d.free - d.params ≤ fields_most)) fs → AllOf (AllOf Whole) fs
    whole_all [] s h l = tt
    whole_all (ds ∷ fs) s h l = (
      both_all (Stood c) (λ d. HasReadable c.names d × (d.free - d.params ≤ fields_most)) ds s.0
          (both_all (HasReadable c.names) (λ d. d.free - d.params ≤ fields_most) ds h.0 l.0),
      whole_all fs s.1 h.1 l.1,
    )

    pub translated_readable : IsReadable c → HasNoNewName c → ((k at : ℕ) → Broken c k at → ⊥)
        → core-readable.IsReadable (translated c)
    translated_readable read free unbroken =
        let fs : List (List Decision) = decisions c in
        let trees = all_readable c.names 0 (functions c.equations)
        (functions_all (ReadableEquation c.names) c.equations read.equations) in
        let whole : AllOf (AllOf Whole) fs = whole_all fs (decisions_stood c unbroken) trees
        (all_within fields_most fs (omega arith)) in
        let later : AllOf LaterNumbered fs = all_numbered fs numbers_few in
        let small = is_small c in
        let size = read.size in
        record {
          different = new_different c.names equations params_most fields_most few.equations
              few.params few.fields read.different free;
          constructors = All-weaker (ReadableData c.names) (ReadableData all)
              (λ d g. (front IsConstructor d.name g.0, g.1)) c.constructors read.constructors;
          functions = All-append (ReadableFunction all) (firsts (name_supply_of c) fs)
              (others (name_supply_of c) fs) (firsts_readable read fs whole later)
              (others_readable read fs whole later);
          size = omega (arith, small, size);
        }
