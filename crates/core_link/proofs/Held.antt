-- Each name of a readable tree that is renamed is a name of its program.
use Rattle.std.proofs.Common.{◌≡◌, ℕ, List, [], ◌∷◌, map, refl, subst}
use Rattle.std.specs.Prelude.{All}
use Rattle.std.specs.List.{AllZip}
use Rattle.std.proofs.lemmas.List.Elements.{All-head, All-tail}
use Rattle.core_reader.specs.declared.syntax.Binder.{Binder}
use Rattle.core_reader.specs.declared.syntax.Pattern.{Pattern}
use Rattle.core_reader.specs.declared.syntax.Pattern.TheVariants as pattern
use Rattle.core_reader.specs.Tree as tree
use Rattle.core_reader.specs.Tree.{Term, Terms, NoTerms, AndTerm, Bind, Expr, App, Let, Case, Alts, NoAlts, AndAlt, Data, Function}
use Rattle.core_reader.specs.Readable.{IsTextAt, IsNamed, IsBound, IsConstructor, ReadableTerm, ReadableTerms, ReadableBind, ReadablePattern, ReadableExpr, ReadableAlts, ReadableData, ReadableFunction}
use Rattle.core_print.specs.Renamed.{RenamedBinder, RenamedTerm, RenamedTerms, RenamedBind, RenamedPattern, RenamedExpr, RenamedAlts, RenamedData, RenamedFunction, behind}

module _ (names : List (List ℕ)) {S : Type 0} (enter : List Binder → List Binder → S → S)
    (OfBinder OfCon : ℕ → ℕ → Type 0) (OfUse : S → ℕ → ℕ → Type 0) where
  abbrev pub HeldBinder : ℕ → ℕ → Type 0
  HeldBinder n m = IsNamed names n × OfBinder n m

  abbrev pub HeldCon : ℕ → ℕ → Type 0
  HeldCon n m = IsTextAt names IsConstructor n × OfCon n m

  abbrev pub HeldUse : S → ℕ → ℕ → Type 0
  HeldUse c n m = IsNamed names n × OfUse c n m

  mutual
    term_held : (c : S) (a b : Term) → ReadableTerm names a
        → RenamedTerm enter OfBinder OfCon OfUse c a b
        → RenamedTerm enter HeldBinder HeldCon HeldUse c a b
    term_held c (tree.Name n at) (tree.Name m to) h r = (h, r)
    term_held c (tree.Name n at) b h r = absurd r
    term_held c (tree.Con n at) (tree.Con m to) h r = (h, r)
    term_held c (tree.Con n at) b h r = absurd r
    term_held c (tree.Int k at) (tree.Int j to) h r = r
    term_held c (tree.Int k at) b h r = absurd r
    term_held c (tree.Bracket f xs at) (tree.Bracket g ys to) h r
        = (term_held c f g h.0 r.0, terms_held c xs ys h.1 r.1)
    term_held c (tree.Bracket f xs at) b h r = absurd r

    terms_held : (c : S) (xs ys : Terms) → ReadableTerms names xs
        → RenamedTerms enter OfBinder OfCon OfUse c xs ys
        → RenamedTerms enter HeldBinder HeldCon HeldUse c xs ys
    terms_held c NoTerms NoTerms h r = tt
    terms_held c NoTerms ys h r = absurd r
    terms_held c (AndTerm a xs) (AndTerm b ys) h r =
        (term_held c a b h.0 r.0, terms_held c xs ys h.1 r.1)
    terms_held c (AndTerm a xs) ys h r = absurd r

  binders_held : (bs cs : List Binder) → All (IsBound names) bs
      → AllZip (RenamedBinder enter OfBinder OfCon OfUse) bs cs
      → AllZip (RenamedBinder enter HeldBinder HeldCon HeldUse) bs cs
  binders_held [] [] h r = tt
  binders_held [] (d ∷ cs) h r = absurd r
  binders_held (b ∷ bs) [] h r = absurd r
  binders_held (b ∷ bs) (d ∷ cs) h r = (
    (All-head (IsBound names) b bs h, r.0),
    binders_held bs cs (All-tail (IsBound names) b bs h)
        r.1,
  )

  binds_held : (c : S) (bs cs : List Bind) → All (ReadableBind names) bs
      → AllZip (RenamedBind enter OfBinder OfCon OfUse c) bs cs
      → AllZip (RenamedBind enter HeldBinder HeldCon HeldUse c) bs cs
  binds_held c [] [] h r = tt
  binds_held c [] (d ∷ cs) h r = absurd r
  binds_held c (b ∷ bs) [] h r = absurd r
  binds_held c (b ∷ bs) (d ∷ cs) h r =
      let f = All-head (ReadableBind names) b bs h in (
        (
          (f.0, r.0.0),
          (
            term_held c b.app.head d.app.head f.1.0 r.0.1.0,
            terms_held c b.app.args d.app.args f.1.1 r.0.1.1,
          ),
        ),
        binds_held c bs cs (All-tail (ReadableBind names) b bs h) r.1,
      )

  pattern_held : (a b : Pattern) → ReadablePattern names a
      → RenamedPattern enter OfBinder OfCon OfUse a b
      → RenamedPattern enter HeldBinder HeldCon HeldUse a b
  pattern_held (pattern.Con c fields) (pattern.Con d others) h r
      = ((h.0, r.0), binders_held fields others h.1 r.1)
  pattern_held (pattern.Con c fields) b h r = absurd r
  pattern_held (pattern.Int k at) (pattern.Int j to) h r = r
  pattern_held (pattern.Int k at) b h r = absurd r
  pattern_held (pattern.Default x) (pattern.Default y) h r = (h, r)
  pattern_held (pattern.Default x) b h r = absurd r

  behind_held : (c : S) (a b : Pattern) → RenamedPattern enter OfBinder OfCon OfUse a b
      → behind enter OfBinder OfCon OfUse a b c ≡ behind enter HeldBinder HeldCon HeldUse a b c
  behind_held c (pattern.Con d fields) (pattern.Con e others) r = refl
  behind_held c (pattern.Con d fields) b r = absurd r
  behind_held c (pattern.Int k at) (pattern.Int j to) r = refl
  behind_held c (pattern.Int k at) b r = absurd r
  behind_held c (pattern.Default x) (pattern.Default y) r = refl
  behind_held c (pattern.Default x) b r = absurd r

  mutual
    expr_held : (c : S) (e d : Expr) → ReadableExpr names e
        → RenamedExpr enter OfBinder OfCon OfUse c e d
        → RenamedExpr enter HeldBinder HeldCon HeldUse c e d
    expr_held c (App a) (App b) h r =
        (term_held c a.head b.head h.0 r.0, terms_held c a.args b.args h.1 r.1)
    expr_held c (App a) d h r = absurd r
    expr_held c (Let group e) (Let others d) h r =
        let inner : S = enter (map (λ b. b.binder) group) (map (λ b. b.binder) others) c in
        (binds_held inner group others h.1 r.0, expr_held inner e d h.2 r.1)
    expr_held c (Let group e) d h r = absurd r
    expr_held c (Case e xs) (Case d ys) h r = (expr_held c e d h.1 r.0, alts_held c xs ys h.2 r.1)
    expr_held c (Case e xs) d h r = absurd r

    alts_held : (c : S) (xs ys : Alts) → ReadableAlts names xs
        → RenamedAlts enter OfBinder OfCon OfUse c xs ys
        → RenamedAlts enter HeldBinder HeldCon HeldUse c xs ys
    alts_held c NoAlts NoAlts h r = tt
    alts_held c NoAlts ys h r = absurd r
    alts_held c (AndAlt a e xs) (AndAlt b d ys) h r = (
      pattern_held a b h.0 r.0,
      subst (λ w. RenamedExpr enter HeldBinder HeldCon HeldUse w e d) (behind_held c a b r.0)
          (expr_held (behind enter OfBinder OfCon OfUse a b c) e d h.1 r.1),
      alts_held c xs ys h.2 r.2,
    )
    alts_held c (AndAlt a e xs) ys h r = absurd r

  pub data_held : (d e : Data) → ReadableData names d → RenamedData enter OfBinder OfCon OfUse d e
      → RenamedData enter HeldBinder HeldCon HeldUse d e
  data_held d e h r = ((h.0, r.0), r.1)

  pub function_held : (OfFunction : ℕ → ℕ → Type 0) (c : S) (f g : Function)
      → ReadableFunction names f → RenamedFunction enter OfBinder OfCon OfUse OfFunction c f g
      → RenamedFunction enter HeldBinder HeldCon HeldUse (λ n m. IsNamed names n × OfFunction n m) c
      f g
  function_held OfFunction c f g h r = (
    (h.0, r.0),
    binders_held f.params g.params h.1 r.1,
    expr_held (enter f.params g.params c) f.body g.body h.2 r.2,
  )
