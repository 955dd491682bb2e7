-- The canonical text of each part of a program is read as a part that is the same.
use Rattle.std.proofs.Common.{◌≡◌, ℕ, ℤ, suc, ◌+◌, ◌<◌, ◌≤◌, Bool, true, List, [], ◌∷◌, ◌++◌, refl, sym, ap, subst, ◌∙◌, arith, inl, append_assoc}
use Rattle.std.specs.Prelude.{codes, max, All}
use Rattle.std.specs.List.{AllZip}
use Rattle.std.specs.Fmt.{signed_decimal}
use Rattle.std.proofs.lemmas.List.Elements.{All-head, All-tail}
use Rattle.std.proofs.Math.Nat.{le-max_left, le-max_right}
use Rattle.core_reader.specs.declared.look.TokenKind.TheVariants.{Lower, Digits, Sign}
use Rattle.core_reader.specs.declared.look.Sign.TheVariants as signs
use Rattle.core_reader.specs.declared.syntax.Binder.{Binder}
use Rattle.core_reader.specs.declared.syntax.Pattern.{Pattern}
use Rattle.core_reader.specs.declared.syntax.Pattern.TheVariants as pattern
use Rattle.core_reader.specs.declared.token.Token.TheVariants as word
use Rattle.core_reader.specs.declared.token.Lexeme.{Lexeme}
use Rattle.core_reader.specs.Tree.{Term, Terms, NoTerms, AndTerm, Application, Bind, Expr, App, Let, Case, Alts, NoAlts, AndAlt}
use Rattle.core_reader.specs.Tree as tree
use Rattle.core_reader.specs.Grammar.{NestingLimit, lexeme, name_id, SpellsTerm, SpellsTerms, SpellsApp, binders, SpellsBind, AfterBind, SpellsBinds, SpellsPattern, AfterAlt, SpellsExpr, SpellsAlts}
use Rattle.core_reader.specs.Words.{has_minus, written_number, number_in, IsInRange}
use Rattle.core_reader.specs.Readable.{IsNamed, IsBound, ReadableTerm, ReadableTerms, ReadableApp, ReadableBind, ReadablePattern, ReadableExpr, ReadableAlts}
use Rattle.core_print.specs.Canonical.{name_text, binders_text, term_text, terms_text, app_text, bind_text, group_text, pattern_text, expr_text, alts_text}
use Rattle.core_print.specs.Depth.{term_depth, terms_depth, app_depth, group_depth, expr_depth, alts_depth}
use Rattle.core_print.specs.Same.{SameBinder, SameTerm, SameTerms, SameApp, SameBind, SamePattern, SameExpr, SameAlts}
use Rattle.core_reader.proofs.Naming.{Texts}
use Rattle.core_print.proofs.Numerals.{numeral}
use Rattle.core_print.proofs.Rereading.{Apart, apart_more, Meaning, Back, Both, Named, Nothing, OneToken, as_text, back_as, nothing, token, semicolon, equals, name, constructor, space, both, bracket}
use Rattle.seq.specs.Lists.{or_empty}

-- one more `(`, `let` or `case` may be opened wherever fewer than so many are open
abbrev pub Roomy : ℕ → NestingLimit → Type 0
Roomy limit room = (n : ℕ) → n < limit → room n ≡ true

module _ (limit : ℕ) (N : Texts) where
  -- what the tokens of each part mean: a part with those tokens that is the same
  abbrev TermAgain : ℕ → Term → Meaning
  TermAgain d a names ts = (b : Term) ×
      ((room : NestingLimit) → Roomy limit room → SpellsTerm room d b ts) × SameTerm N names a b

  abbrev TermsAgain : ℕ → Terms → Meaning
  TermsAgain d xs names ts = (ys : Terms) ×
      ((room : NestingLimit) → Roomy limit room → SpellsTerms room d ys ts)
      × SameTerms N names xs ys

  abbrev AppAgain : ℕ → Application → Meaning
  AppAgain d a names ts = (b : Application) ×
      ((room : NestingLimit) → Roomy limit room → SpellsApp room d b ts) × SameApp N names a b

  pub name_again : (n : ℕ) (r : IsNamed N n) → Back (Named word.Name r.0) (name_text N n)
  name_again n r = as_text (Named word.Name r.0) r.0 (name_text N n) (sym (ap or_empty r.1))
      (name r.0 r.2)

  one_name : (n at : ℕ) (d : ℕ) (r : IsNamed N n) (names : Texts) (ts : List Lexeme)
      → Named word.Name r.0 names ts → TermAgain d (tree.Name n at) names ts
  one_name n at d r names ts h =
      (tree.Name (number_in names r.0) h.at, (λ room some. h.whole), r.1 ∙ sym h.number)

  apart_terms : (xs : Terms) → Apart (terms_text N xs)
  apart_terms NoTerms = tt
  apart_terms (AndTerm a xs) = refl

  integer : (k : ℤ) → IsInRange k → Back
      (λ names ts. (at : ℕ) × (minus : Bool) × (ts ≡ lexeme at (word.Number minus k) ∷ []))
      (signed_decimal k)
  integer k r =
      let w = signed_decimal k in
      let n = numeral k r in
      back_as (OneToken (word.Number (has_minus w) (written_number w))) _ w
      (λ names ts h. (
        h.0,
        has_minus w,
        h.1 ∙ ap (λ j. lexeme h.0 (word.Number (has_minus w) j) ∷ [])
            n.number,
      ))
      (token w Digits (word.Number (has_minus w) (written_number w)) n.kind (λ names. refl)
      (λ d. subst IsInRange (sym n.number) r))

  bracket_again : (f : Term) (xs : Terms) (at d : ℕ) → d + term_depth (tree.Bracket f xs at) ≤ limit
      → (names : Texts) (ts : List Lexeme)
      → Both (OneToken word.Open)
      (Both (TermAgain (suc d) f) (Both (TermsAgain (suc d) xs) (OneToken word.Close))) names ts
      → TermAgain d (tree.Bracket f xs at) names ts
  bracket_again f xs at d h names ts m =
      let g = m.second.first in
      let ys = m.second.second.first in
      let close = m.second.second.second in
      let whole : ts ≡ lexeme m.first.0 word.Open ∷
      (m.second.front ++ (m.second.second.front ++ lexeme close.0 word.Close ∷ [])) =
      m.whole ∙ (λ i. m.first.1 i ++ m.second.whole i) ∙
      (λ i. lexeme m.first.0 word.Open ∷
      (m.second.front ++ (m.second.second.whole ∙ ap (λ w. m.second.second.front ++ w) close.1)
      i)) in (
        tree.Bracket g.0 ys.0 m.first.0,
        (λ room some. (
          m.second.front,
          m.second.second.front,
          close.0,
          some d (omega arith),
          g.1 room some,
          ys.1 room some,
          whole,
        )),
        (g.2, ys.2),
      )

  more_again : (a : Term) (xs : Terms) (d : ℕ) (names : Texts) (ts : List Lexeme)
      → Both (TermAgain d a) (TermsAgain d xs) names ts → TermsAgain d (AndTerm a xs) names ts
  more_again a xs d names ts m = (
    AndTerm m.first.0 m.second.0,
    (λ room some. (m.front, m.behind, m.first.1 room some, m.second.1 room some, m.whole)),
    (m.first.2, m.second.2),
  )

  mutual
    term_again : (a : Term) → ReadableTerm N a → (d : ℕ) → d + term_depth a ≤ limit
        → Back (TermAgain d a) (term_text N a)
    term_again (tree.Name n at) r d h = back_as (Named word.Name r.0) (TermAgain d (tree.Name n at))
        (name_text N n) (one_name n at d r) (name_again n r)
    term_again (tree.Con n at) r d h =
        back_as (Named word.Con r.0) (TermAgain d (tree.Con n at)) (name_text N n)
        (λ names ts m.
        (tree.Con (number_in names r.0) m.at, (λ room some. m.whole), r.1 ∙ sym m.number))
        (as_text (Named word.Con r.0) r.0 (name_text N n) (sym (ap or_empty r.1))
        (constructor r.0 r.2))
    term_again (tree.Int k at) r d h = back_as _ (TermAgain d (tree.Int k at)) (signed_decimal k)
        (λ names ts m. (tree.Int k m.0, (λ room some. (m.1, m.2)), refl)) (integer k r)
    term_again (tree.Bracket f xs at) r d h =
        let close = codes ")" in
        let inside = Both (TermAgain (suc d) f) (Both (TermsAgain (suc d) xs) (OneToken word.Close))
        in
        as_text (TermAgain d (tree.Bracket f xs at))
        (40 ∷ (term_text N f ++ (terms_text N xs ++ close)))
        (term_text N (tree.Bracket f xs at))
        (sym (append_assoc (40 ∷ term_text N f) (terms_text N xs) close))
        (back_as (Both (OneToken word.Open) inside) (TermAgain d (tree.Bracket f xs at))
        (40 ∷ (term_text N f ++ (terms_text N xs ++ close))) (bracket_again f xs at d h)
        (bracket inside (term_text N f ++ (terms_text N xs ++ close))
        (both (TermAgain (suc d) f) (Both (TermsAgain (suc d) xs) (OneToken word.Close))
        (term_text N f) (terms_text N xs ++ close)
        (apart_more (terms_text N xs) close (apart_terms xs) refl)
        (term_again f r.0 (suc d) (omega (arith, le-max_left (term_depth f) (terms_depth xs))))
        (both (TermsAgain (suc d) xs) (OneToken word.Close) (terms_text N xs) close refl
        (terms_again xs r.1 (suc d) (omega (arith, le-max_right (term_depth f) (terms_depth xs))))
        (token close (Sign signs.Close) word.Close refl (λ names. refl) (λ e. absurd cc))))))

    terms_again : (xs : Terms) → ReadableTerms N xs → (d : ℕ) → d + terms_depth xs ≤ limit
        → Back (TermsAgain d xs) (terms_text N xs)
    terms_again NoTerms r d h = back_as Nothing (TermsAgain d NoTerms) []
        (λ names ts e. (NoTerms, (λ room some. e), tt)) nothing
    terms_again (AndTerm a xs) r d h =
        space (TermsAgain d (AndTerm a xs)) 32 (term_text N a ++ terms_text N xs) refl
        (back_as (Both (TermAgain d a) (TermsAgain d xs)) (TermsAgain d (AndTerm a xs))
        (term_text N a ++ terms_text N xs) (more_again a xs d)
        (both (TermAgain d a) (TermsAgain d xs) (term_text N a) (terms_text N xs) (apart_terms xs)
        (term_again a r.0 d (omega (arith, le-max_left (term_depth a) (terms_depth xs))))
        (terms_again xs r.1 d (omega (arith, le-max_right (term_depth a) (terms_depth xs))))))

  abbrev AppSpelled : ℕ → Application → Meaning
  AppSpelled d app = Both (TermAgain d app.head) (TermsAgain d app.args)

  app_again : (app : Application) → ReadableApp N app → (d : ℕ) → d + app_depth app ≤ limit
      → Back (AppAgain d app) (app_text N app)
  app_again app r d h =
      back_as (AppSpelled d app) (AppAgain d app) (app_text N app)
      (λ names ts m. (
        record { head = m.first.0; args = m.second.0 },
        (λ room some. (m.front, m.behind, m.first.1 room some, m.second.1 room some, m.whole)),
        (m.first.2, m.second.2),
      ))
      (both (TermAgain d app.head) (TermsAgain d app.args) (term_text N app.head)
      (terms_text N app.args) (apart_terms app.args)
      (term_again app.head r.0 d
      (omega (arith, le-max_left (term_depth app.head) (terms_depth app.args))))
      (terms_again app.args r.1 d
      (omega (arith, le-max_right (term_depth app.head) (terms_depth app.args)))))

  -- ---- binders, members of a let group, patterns

  abbrev pub BindersAgain : List Binder → Meaning
  BindersAgain bs names ts = (cs : List Binder) × (ts ≡ binders cs)
      × AllZip (SameBinder N names) bs cs

  pub apart_binders : (bs : List Binder) → Apart (binders_text N bs)
  apart_binders [] = tt
  apart_binders (b ∷ bs) = refl

  pub binders_again : (bs : List Binder) → All (IsBound N) bs
      → Back (BindersAgain bs) (binders_text N bs)
  binders_again [] r = back_as Nothing (BindersAgain []) [] (λ names ts e. ([], e, tt)) nothing
  binders_again (b ∷ bs) r =
      let n = All-head (IsBound N) b bs r in
      let x = name_text N b.name.0 in
      let text = x ++ binders_text N bs in
      space (BindersAgain (b ∷ bs)) 32 text refl
      (back_as (Both (Named word.Name n.0) (BindersAgain bs)) (BindersAgain (b ∷ bs)) text
      (λ names ts m. (
        record { name = name_id (number_in names n.0); at = m.first.at } ∷ m.second.0,
        m.whole ∙ (λ i. m.first.whole i ++ m.second.1 i),
        (n.1 ∙ sym m.first.number, m.second.2),
      ))
      (both (Named word.Name n.0) (BindersAgain bs) x (binders_text N bs) (apart_binders bs)
      (name_again b.name.0 n) (binders_again bs (All-tail (IsBound N) b bs r))))

  abbrev BindAgain : ℕ → Bind → Meaning
  BindAgain d b names ts = (c : Bind) ×
      ((room : NestingLimit) → Roomy limit room → SpellsBind room d c ts) × SameBind N names b c

  bind_again : (b : Bind) → ReadableBind N b → (d : ℕ) → d + app_depth b.app ≤ limit
      → Back (BindAgain d b) (bind_text N b)
  bind_again b r d h =
      let x = name_text N b.binder.name.0 in
      let y = app_text N b.app in
      let Equation = Both (OneToken word.Equals) (AppAgain d b.app) in
      as_text (BindAgain d b) (x ++ (codes " = " ++ y)) (bind_text N b)
      (sym (append_assoc x (codes " = ") y))
      (back_as (Both (Named word.Name r.0.0) Equation) (BindAgain d b) (x ++ (codes " = " ++ y))
      (λ names ts m. (
        record {
          binder = record { name = name_id (number_in names r.0.0); at = m.first.at };
          app
              = m.second.second.0;
        },
        (λ room some. (
          m.second.first.0,
          m.second.behind,
          m.second.second.1 room some,
          m.whole ∙
              (λ i. m.first.whole i ++
              (m.second.whole ∙ ap (λ w. w ++ m.second.behind) m.second.first.1) i),
        )),
        (r.0.1 ∙ sym m.first.number, m.second.second.2),
      ))
      (both (Named word.Name r.0.0) Equation x (codes " = " ++ y) refl
      (name_again b.binder.name.0 r.0)
      (space Equation 32 (codes "=" ++ (32 ∷ y)) refl
      (both (OneToken word.Equals) (AppAgain d b.app) (codes "=") (32 ∷ y) refl
      equals
      (space (AppAgain d b.app) 32 y refl (app_again b.app r.1 d h))))))

  -- the members of a group, and those behind the first with the `;` before them
  abbrev GroupAgain : ℕ → Bind → List Bind → Meaning
  GroupAgain d b bs names ts = (c : Bind) × (cs : List Bind)
      × ((room : NestingLimit) → Roomy limit room → SpellsBinds room d (c ∷ cs) ts)
      × SameBind N names b c × AllZip (SameBind N names) bs cs

  abbrev MoreAgain : ℕ → List Bind → Meaning
  MoreAgain d bs names ts = (cs : List Bind) ×
      ((room : NestingLimit) → Roomy limit room → (semi us : List Lexeme) × AfterBind cs semi
      × SpellsBinds room d cs us × (ts ≡ semi ++ us)) × AllZip (SameBind N names) bs cs

  group_joined : (d : ℕ) (b : Bind) (bs : List Bind) (names : Texts) (ts : List Lexeme)
      → Both (BindAgain d b) (MoreAgain d bs) names ts → GroupAgain d b bs names ts
  group_joined d b bs names ts m = (
    m.first.0,
    m.second.0,
    (λ room some. let more = m.second.1 room some in (
      m.front,
      more.0,
      more.1,
      m.first.1 room some,
      more.2,
      more.3,
      m.whole ∙ ap (λ w. m.front ++ w) more.4,
    )),
    m.first.2,
    m.second.2,
  )

  apart_group : (bs : List Bind) → Apart (group_text N (codes "; ") bs)
  apart_group [] = tt
  apart_group (b ∷ bs) = refl

  group_from : (b : Bind) (bs : List Bind) (d : ℕ) → Back (BindAgain d b) (bind_text N b)
      → Back (MoreAgain d bs) (group_text N (codes "; ") bs)
      → Back (GroupAgain d b bs) (bind_text N b ++ group_text N (codes "; ") bs)
  group_from b bs d first more =
      back_as (Both (BindAgain d b) (MoreAgain d bs)) (GroupAgain d b bs)
      (bind_text N b ++ group_text N (codes "; ") bs) (group_joined d b bs)
      (both (BindAgain d b) (MoreAgain d bs) (bind_text N b) (group_text N (codes "; ") bs)
      (apart_group bs) first more)

  more_binds : (bs : List Bind) → All (ReadableBind N) bs → (d : ℕ) → d + group_depth bs ≤ limit
      → Back (MoreAgain d bs) (group_text N (codes "; ") bs)
  more_binds [] r d h = back_as Nothing (MoreAgain d []) []
      (λ names ts e. ([], (λ room some. ([], [], inl refl, refl, e)), tt)) nothing
  more_binds (b ∷ bs) r d h =
      let text = bind_text N b ++ group_text N (codes "; ") bs in
      back_as (Both (OneToken word.Semicolon) (GroupAgain d b bs)) (MoreAgain d (b ∷ bs))
      (codes "; " ++ text)
      (λ names ts m. let g = m.second in (
        g.0 ∷ g.1,
        (λ room some. (m.front, m.behind, m.first, g.2 room some, m.whole)),
        (g.3, g.4),
      ))
      (both (OneToken word.Semicolon) (GroupAgain d b bs) (codes ";") (32 ∷ text) refl
      semicolon
      (space (GroupAgain d b bs) 32 text refl
      (group_from b bs d
      (bind_again b (All-head (ReadableBind N) b bs r) d
      (omega (arith, le-max_left (app_depth b.app) (group_depth bs))))
      (more_binds bs (All-tail (ReadableBind N) b bs r) d
      (omega (arith, le-max_right (app_depth b.app) (group_depth bs)))))))

  abbrev PatternAgain : Pattern → Meaning
  PatternAgain p names ts = (q : Pattern) × SpellsPattern q ts × SamePattern N names p q

  pattern_again : (p : Pattern) → ReadablePattern N p → Back (PatternAgain p) (pattern_text N p)
  pattern_again (pattern.Con c fields) r =
      let x = name_text N c.name.0 in
      back_as (Both (Named word.Con r.0.0) (BindersAgain fields))
      (PatternAgain (pattern.Con c fields)) (x ++ binders_text N fields)
      (λ names ts m. (
        pattern.Con (record { name = name_id (number_in names r.0.0); at = m.first.at })
            m.second.0,
        m.whole ∙ (λ i. m.first.whole i ++ m.second.1 i),
        (r.0.1 ∙ sym m.first.number, m.second.2),
      ))
      (both (Named word.Con r.0.0) (BindersAgain fields) x (binders_text N fields)
      (apart_binders fields)
      (as_text (Named word.Con r.0.0) r.0.0 x (sym (ap or_empty r.0.1)) (constructor r.0.0 r.0.2))
      (binders_again fields r.1))
  pattern_again (pattern.Int k at) r = back_as _ (PatternAgain (pattern.Int k at))
      (signed_decimal k) (λ names ts m. (pattern.Int k m.0, (m.1, m.2), refl)) (integer k r)
  pattern_again (pattern.Default b) r =
      back_as (Named word.Name r.0) (PatternAgain (pattern.Default b)) (name_text N b.name.0)
      (λ names ts m. (
        pattern.Default (record { name = name_id (number_in names r.0); at = m.at }),
        m.whole,
        r.1 ∙ sym m.number,
      ))
      (name_again b.name.0 r)

  -- ---- expressions

  abbrev pub ExprAgain : ℕ → Expr → Meaning
  ExprAgain d e names ts = (f : Expr) ×
      ((room : NestingLimit) → Roomy limit room → SpellsExpr room d f ts) × SameExpr N names e f

  abbrev AltsAgain : ℕ → Pattern → Expr → Alts → Meaning
  AltsAgain d p e xs names ts =
      (q : Pattern) × (f : Expr) × (ys : Alts) ×
      ((room : NestingLimit) → Roomy limit room → SpellsAlts room d (AndAlt q f ys) ts)
      × SamePattern N names p q × SameExpr N names e f × SameAlts N names xs ys

  abbrev MoreAlts : ℕ → Alts → Meaning
  MoreAlts d xs names ts = (ys : Alts) ×
      ((room : NestingLimit) → Roomy limit room → (semi us : List Lexeme) × AfterAlt ys semi
      × SpellsAlts room d ys us × (ts ≡ semi ++ us)) × SameAlts N names xs ys

  abbrev let_text : List Bind → Expr → List ℕ
  let_text group e = codes "let" ++
      (group_text N (codes " ") group ++ (codes " in " ++ expr_text N e))

  let_is : (group : List Bind) (e : Expr) → let_text group e ≡ expr_text N (Let group e)
  let_is group e =
      sym (append_assoc (codes "let" ++ group_text N (codes " ") group) (codes " in ")
      (expr_text N e) ∙ append_assoc (codes "let") (group_text N (codes " ") group)
      (codes " in " ++ expr_text N e))

  let_from : (b : Bind) (bs : List Bind) (e : Expr) (d : ℕ) → d < limit
      → Back (GroupAgain (suc d) b bs) (bind_text N b ++ group_text N (codes "; ") bs)
      → Back (ExprAgain (suc d) e) (expr_text N e)
      → Back (ExprAgain d (Let (b ∷ bs) e)) (expr_text N (Let (b ∷ bs) e))
  let_from b bs e d h group body =
      let members = bind_text N b ++ group_text N (codes "; ") bs in
      let y = expr_text N e in
      let In = Both (OneToken word.In) (ExprAgain (suc d) e) in
      let Inside = Both (GroupAgain (suc d) b bs) In in
      let end = codes " in " ++ y in
      as_text (ExprAgain d (Let (b ∷ bs) e)) (let_text (b ∷ bs) e) (expr_text N (Let (b ∷ bs) e))
      (let_is (b ∷ bs) e)
      (back_as (Both (OneToken word.Let) Inside) (ExprAgain d (Let (b ∷ bs) e))
      (let_text (b ∷ bs) e)
      (λ names ts m.
      let g = m.second.first in
      let i = m.second.second in (
        Let (g.0 ∷ g.1) i.second.0,
        (λ room some. (
          m.first.0,
          i.first.0,
          m.second.front,
          i.behind,
          some d h,
          tt,
          g.2 room some,
          i.second.1 room some,
          m.whole ∙
              (λ j. m.first.1 j ++
              (m.second.whole ∙ ap (λ w. m.second.front ++ w)
              (i.whole ∙ ap (λ w. w ++ i.behind) i.first.1)) j),
        )),
        ((g.3, g.4), i.second.2),
      ))
      (both (OneToken word.Let) Inside (codes "let") (32 ∷ (members ++ end)) refl
      (token (codes "let") Lower word.Let refl (λ names. refl) (λ e. absurd cc))
      (space Inside 32 (members ++ end) refl
      (both (GroupAgain (suc d) b bs) In members end refl group
      (space In 32 (codes "in" ++ (32 ∷ y)) refl
      (both (OneToken word.In) (ExprAgain (suc d) e) (codes "in") (32 ∷ y) refl
      (token (codes "in") Lower word.In refl (λ names. refl) (λ e. absurd cc))
      (space (ExprAgain (suc d) e) 32 y refl body)))))))

  apart_alts : (xs : Alts) → Apart (alts_text N (codes "; ") xs)
  apart_alts NoAlts = tt
  apart_alts (AndAlt p e xs) = refl

  -- alternatives without what leads to the first
  abbrev joined_text : Pattern → Expr → Alts → List ℕ
  joined_text p e xs = pattern_text N p ++ codes " -> " ++ expr_text N e
      ++ alts_text N (codes "; ") xs

  alts_from : (p : Pattern) (e : Expr) (xs : Alts) (d : ℕ)
      → Back (PatternAgain p) (pattern_text N p) → Back (ExprAgain d e) (expr_text N e)
      → Back (MoreAlts d xs) (alts_text N (codes "; ") xs)
      → Back (AltsAgain d p e xs) (joined_text p e xs)
  alts_from p e xs d pat body more =
      let x = pattern_text N p in
      let y = expr_text N e in
      let z = alts_text N (codes "; ") xs in
      let Tail = Both (ExprAgain d e) (MoreAlts d xs) in
      let Inside = Both (OneToken word.Arrow) Tail in
      let text = x ++ (codes " -> " ++ (y ++ z)) in
      as_text (AltsAgain d p e xs) text (joined_text p e xs)
      (sym (append_assoc (x ++ codes " -> ") y z ∙ append_assoc x (codes " -> ") (y ++ z)))
      (back_as (Both (PatternAgain p) Inside) (AltsAgain d p e xs) text
      (λ names ts m.
      let n = m.second.second in (
        m.first.0,
        n.first.0,
        n.second.0,
        (λ room some.
            let after = n.second.1 room some in (
              m.front,
              n.front,
              after.0,
              after.1,
              m.second.first.0,
              m.first.1,
              n.first.1 room some,
              after.2,
              after.3,
              m.whole ∙ ap (λ w. m.front ++ w)
                  (m.second.whole ∙
                  (λ i. m.second.first.1 i ++ (n.whole ∙ ap (λ w. n.front ++ w) after.4) i)),
            )),
        m.first.2,
        n.first.2,
        n.second.2,
      ))
      (both (PatternAgain p) Inside x (codes " -> " ++ (y ++ z)) refl pat
      (space Inside 32 (codes "->" ++ (32 ∷ (y ++ z))) refl
      (both (OneToken word.Arrow) Tail (codes "->") (32 ∷ (y ++ z)) refl
      (token (codes "->") (Sign signs.Arrow) word.Arrow refl (λ names. refl) (λ e. absurd cc))
      (space Tail 32 (y ++ z) refl
      (both (ExprAgain d e) (MoreAlts d xs) y z (apart_alts xs) body more))))))

  more_from : (p : Pattern) (e : Expr) (xs : Alts) (d : ℕ)
      → Back (AltsAgain d p e xs) (joined_text p e xs)
      → Back (MoreAlts d (AndAlt p e xs)) (alts_text N (codes "; ") (AndAlt p e xs))
  more_from p e xs d alts =
      let text = joined_text p e xs in
      back_as (Both (OneToken word.Semicolon) (AltsAgain d p e xs)) (MoreAlts d (AndAlt p e xs))
      (codes "; " ++ text)
      (λ names ts m. let g = m.second in (
        AndAlt g.0 g.1 g.2,
        (λ room some. (m.front, m.behind, m.first, g.3 room some, m.whole)),
        (g.4, g.5, g.6),
      ))
      (both (OneToken word.Semicolon) (AltsAgain d p e xs) (codes ";") (32 ∷ text) refl
      semicolon
      (space (AltsAgain d p e xs) 32 text refl alts))

  case_from : (e : Expr) (p : Pattern) (f : Expr) (xs : Alts) (d : ℕ) → d < limit
      → Back (ExprAgain (suc d) e) (expr_text N e) → Back (AltsAgain (suc d) p f xs)
      (joined_text p f xs)
      → Back (ExprAgain d (Case e (AndAlt p f xs))) (expr_text N (Case e (AndAlt p f xs)))
  case_from e p f xs d h tested alts =
      let all = AndAlt p f xs in
      let y = expr_text N e in
      let inner = joined_text p f xs in
      let close = codes " }" in
      let End = Both (AltsAgain (suc d) p f xs) (OneToken word.CloseBrace) in
      let Braces = Both (OneToken word.OpenBrace) End in
      let Of = Both (OneToken word.Of) Braces in
      let Inside = Both (ExprAgain (suc d) e) Of in
      let braces = alts_text N (codes " { ") all ++ close in
      let text = codes "case " ++ (y ++ (codes " of" ++ braces)) in
      as_text (ExprAgain d (Case e all)) text (expr_text N (Case e all))
      (sym (append_assoc (codes "case " ++ y ++ codes " of") (alts_text N (codes " { ") all) close ∙
      append_assoc (codes "case " ++ y) (codes " of") braces ∙ append_assoc (codes "case ") y
      (codes " of" ++ braces)))
      (back_as (Both (OneToken word.Case) Inside) (ExprAgain d (Case e all)) text
      (λ names ts m.
      let t = m.second.first in
      let o = m.second.second in
      let b = o.second in
      let a = b.second in
      let end : o.behind ≡ lexeme b.first.0 word.OpenBrace ∷
      (a.front ++ lexeme a.second.0 word.CloseBrace ∷ [])
      = b.whole ∙ (λ i. b.first.1 i ++ (a.whole ∙ ap (λ w. a.front ++ w) a.second.1) i) in (
        Case t.0 (AndAlt a.first.0 a.first.1 a.first.2),
        (λ room some. (
          m.first.0,
          o.first.0,
          b.first.0,
          a.second.0,
          m.second.front,
          a.front,
          some d h,
          tt,
          t.1 room some,
          a.first.3 room some,
          m.whole ∙
              (λ i. m.first.1 i ++
              (m.second.whole ∙ ap (λ w. m.second.front ++ w)
              (o.whole ∙ (λ j. o.first.1 j ++ end j))) i),
        )),
        (t.2, (a.first.4, a.first.5, a.first.6)),
      ))
      (both (OneToken word.Case) Inside (codes "case") (32 ∷ (y ++ (codes " of" ++ braces))) refl
      (token (codes "case") Lower word.Case refl (λ names. refl) (λ e. absurd cc))
      (space Inside 32 (y ++ (codes " of" ++ braces)) refl
      (both (ExprAgain (suc d) e) Of y (codes " of" ++ braces) refl tested
      (space Of 32 (codes "of" ++ braces) refl
      (both (OneToken word.Of) Braces (codes "of") braces refl
      (token (codes "of") Lower word.Of refl (λ names. refl) (λ e. absurd cc))
      (space Braces 32 (codes "{ " ++ (inner ++ close)) refl
      (both (OneToken word.OpenBrace) End (codes "{") (32 ∷ (inner ++ close)) refl
      (token (codes "{") (Sign signs.OpenBrace) word.OpenBrace refl (λ names. refl)
      (λ e. absurd cc))
      (space End 32 (inner ++ close) refl
      (both (AltsAgain (suc d) p f xs) (OneToken word.CloseBrace) inner close refl alts
      (space (OneToken word.CloseBrace) 32 (codes "}") refl
      (token (codes "}") (Sign signs.CloseBrace) word.CloseBrace refl (λ names. refl)
      (λ e. absurd cc)))))))))))))

  mutual
    pub expr_again : (e : Expr) → ReadableExpr N e → (d : ℕ) → d + expr_depth e ≤ limit
        → Back (ExprAgain d e) (expr_text N e)
    expr_again (App app) r d h =
        back_as (AppAgain d app) (ExprAgain d (App app)) (app_text N app)
        (λ names ts m. (App m.0, m.1, m.2)) (app_again app r d h)
    expr_again (Let [] e) r d h = absurd r.0
    expr_again (Let (b ∷ bs) e) r d h =
        let most = max (app_depth b.app) (group_depth bs) in
        let group = le-max_left most (expr_depth e) in
        let_from b bs e d (omega arith)
        (group_from b bs (suc d)
        (bind_again b (All-head (ReadableBind N) b bs r.1) (suc d)
        (omega (arith, group, le-max_left (app_depth b.app) (group_depth bs))))
        (more_binds bs (All-tail (ReadableBind N) b bs r.1) (suc d)
        (omega (arith, group, le-max_right (app_depth b.app) (group_depth bs)))))
        (expr_again e r.2 (suc d) (omega (arith, le-max_right most (expr_depth e))))
    expr_again (Case e NoAlts) r d h = absurd r.0
    expr_again (Case e (AndAlt p f xs)) r d h =
        let most = max (expr_depth f) (alts_depth xs) in
        let all = le-max_right (expr_depth e) most in
        case_from e p f xs d (omega arith)
        (expr_again e r.1 (suc d) (omega (arith, le-max_left (expr_depth e) most)))
        (alts_from p f xs (suc d) (pattern_again p r.2.0)
        (expr_again f r.2.1 (suc d)
        (omega (arith, all, le-max_left (expr_depth f) (alts_depth xs))))
        (more_alts xs r.2.2 (suc d)
        (omega (arith, all, le-max_right (expr_depth f) (alts_depth xs)))))

    more_alts : (xs : Alts) → ReadableAlts N xs → (d : ℕ) → d + alts_depth xs ≤ limit
        → Back (MoreAlts d xs) (alts_text N (codes "; ") xs)
    more_alts NoAlts r d h = back_as Nothing (MoreAlts d NoAlts) []
        (λ names ts e. (NoAlts, (λ room some. ([], [], inl refl, refl, e)), tt)) nothing
    more_alts (AndAlt p e xs) r d h =
        more_from p e xs d
        (alts_from p e xs d (pattern_again p r.0)
        (expr_again e r.1 d (omega (arith, le-max_left (expr_depth e) (alts_depth xs))))
        (more_alts xs r.2 d (omega (arith, le-max_right (expr_depth e) (alts_depth xs)))))
