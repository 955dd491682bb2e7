-- The tokens that were read of an expression spell what the state holds.
use Rattle.std.proofs.Common.{◌≡◌, ℕ, suc, Bool, true, false, cond, List, [], ◌∷◌, ◌++◌, refl, sym, ap, subst, ◌∙◌, append_assoc, inl, inr}
use Rattle.std.proofs.lemmas.List.{append-nil}
use Rattle.core_reader.specs.declared.syntax.NameId.{NameId}
use Rattle.core_reader.specs.declared.syntax.Binder.{Binder}
use Rattle.core_reader.specs.declared.syntax.Pattern.{Pattern}
use Rattle.core_reader.specs.declared.token.Token.{Token}
use Rattle.core_reader.specs.declared.token.Token.TheVariants as word
use Rattle.core_reader.specs.declared.token.Further.TheVariants.{Backslash}
use Rattle.core_reader.specs.declared.token.Lexeme.{Lexeme}
use Rattle.core_reader.specs.declared.refusal.ReadRefusal.{ReadRefusal}
use Rattle.lambda_reader.specs.Tree.{Term, Terms, NoTerms, AndTerm, Group, NoBinds, AndValue, AndFunction, Expr, App, Let, Case, Alts, NoAlts, AndAlt}
use Rattle.lambda_reader.specs.Tree as tree
use Rattle.core_reader.specs.Grammar.{NestingLimit, lexeme, binders, SpellsPattern}
use Rattle.lambda_reader.specs.Grammar.{HasParameter, SpellsTerm, SpellsTerms, IsGroup, AfterMember, SpellsGroup, IsNonemptyAlts, AfterAlt, SpellsExpr, SpellsAlts}
use Rattle.lambda_reader.specs.Machine.{Cont, Outermost, LetBody, Scrutinee, AltBody, LambdaBody, FunctionBody, nests, Frame, InBody, InBind, Inside, opens, BindName, BindEquals, FunctionNames, LambdaNames, Ended, Brace, AltStart, AltNames, AltArrow, give, State, Apply, Step, go, done, stop, step, with_last, ◌⊹◌, ◌⊕◌, value, local_function}
use Rattle.core_reader.proofs.Sound.{binders_last}
use Rattle.lambda_reader.proofs.Complete.{some_last, alts_last}

module _ (lambdas : Bool) (l : NestingLimit) where
  -- each member with a `;` after it
  abbrev pub EachMember : ℕ → Group → List Lexeme → Type 0
  EachMember d NoBinds ts = ts ≡ []
  EachMember d (AndValue b head args rest) ts =
      (us vs ws : List Lexeme) × (q r : ℕ) × SpellsTerm lambdas l d head us
      × SpellsTerms lambdas l d args vs × EachMember d rest ws
      × (ts ≡ lexeme b.at (word.Name b.name) ∷ lexeme q word.Equals ∷
      (us ++ (vs ++ (lexeme r word.Semicolon ∷ ws))))
  EachMember d (AndFunction b params body rest) ts =
      (us ws : List Lexeme) × (q r : ℕ) × (lambdas ≡ true) × HasParameter params
      × SpellsExpr lambdas l d body us × EachMember d rest ws
      × (ts ≡ lexeme b.at (word.Name b.name) ∷
      (binders params ++ (lexeme q word.Equals ∷ (us ++ (lexeme r word.Semicolon ∷ ws)))))

  abbrev pub EachAlt : ℕ → Alts → List Lexeme → Type 0
  EachAlt d NoAlts ts = ts ≡ []
  EachAlt d (AndAlt p e xs) ts = (us vs ws : List Lexeme) × (q r : ℕ) × SpellsPattern p us
      × SpellsExpr lambdas l d e vs × EachAlt d xs ws
      × (ts ≡ us ++ (lexeme q word.Arrow ∷ (vs ++ (lexeme r word.Semicolon ∷ ws))))

  -- a case up to an alternative, and a group up to a member, where B says what stands before
  abbrev pub AltsFrom : (List Lexeme → Type 0) → ℕ → Expr → Alts → List Lexeme → Type 0
  AltsFrom B n s alts ts = (us vs ws : List Lexeme) × (p q r : ℕ) × (l n ≡ true) × B us
      × SpellsExpr lambdas l (suc n) s vs × EachAlt (suc n) alts ws
      × (ts ≡ us ++
      (lexeme p word.Case ∷ (vs ++ (lexeme q word.Of ∷ (lexeme r word.OpenBrace ∷ ws)))))

  abbrev pub BindsFrom : (List Lexeme → Type 0) → ℕ → Group → List Lexeme → Type 0
  BindsFrom B n binds ts = (us vs : List Lexeme) × (p : ℕ) × (l n ≡ true) × B us
      × EachMember (suc n) binds vs × (ts ≡ us ++ (lexeme p word.Let ∷ vs))

  abbrev mutual
    -- the tokens before an expression
    pub From : Cont → List Lexeme → Type 0
    From Outermost ts = ts ≡ []
    From (LetBody k binds) ts = (us vs : List Lexeme) × (p q : ℕ) × (l (nests k) ≡ true) × From k us
        × IsGroup binds × SpellsGroup lambdas l (suc (nests k)) binds vs
        × (ts ≡ us ++ (lexeme p word.Let ∷ (vs ++ lexeme q word.In ∷ [])))
    From (Scrutinee k) ts = (us : List Lexeme) × (p : ℕ) × (l (nests k) ≡ true) × From k us
        × (ts ≡ us ++ lexeme p word.Case ∷ [])
    From (AltBody k s alts pat) ts = (us vs : List Lexeme) × (q : ℕ)
        × AltsFrom (From k) (nests k) s alts us × SpellsPattern pat vs
        × (ts ≡ us ++ (vs ++ lexeme q word.Arrow ∷ []))
    From (LambdaBody k held at params) ts =
        (us vs : List Lexeme) × (p q : ℕ) × (lambdas ≡ true) × (l (opens k) ≡ true)
        × HasParameter params × Before k us × SpellsTerms lambdas l (opens k) held vs
        × (ts ≡ us ++
        (vs ++ (lexeme p word.Open ∷ lexeme at (word.Further Backslash) ∷
        (binders params ++ lexeme q word.Arrow ∷ []))))
    From (FunctionBody k binds n at params) ts =
        (us : List Lexeme) × (q : ℕ) × (lambdas ≡ true) × HasParameter params
        × BindsFrom (From k) (nests k) binds us
        × (ts ≡ us ++ (lexeme at (word.Name n) ∷ (binders params ++ lexeme q word.Equals ∷ [])))

    -- the tokens before an application that stands in a frame
    pub Before : Frame → List Lexeme → Type 0
    Before (InBody k) ts = From k ts
    Before (InBind k binds n at) ts = (us : List Lexeme) × (q : ℕ)
        × BindsFrom (From k) (nests k) binds us ×
        (ts ≡ us ++ (lexeme at (word.Name n) ∷ lexeme q word.Equals ∷ []))
    Before (Inside k held p) ts = (us vs : List Lexeme) × (l (opens k) ≡ true) × Before k us
        × SpellsTerms lambdas l (opens k) held vs × (ts ≡ us ++ (vs ++ lexeme p word.Open ∷ []))

  -- the tokens before a state
  abbrev pub Consumed : State → List Lexeme → Type 0
  Consumed (Apply k held) ts = (us vs : List Lexeme) × Before k us
      × SpellsTerms lambdas l (opens k) held vs × (ts ≡ us ++ vs)
  Consumed (BindName k binds) ts = BindsFrom (From k) (nests k) binds ts
  Consumed (BindEquals k binds n at) ts = (us : List Lexeme) × BindsFrom (From k) (nests k) binds us
      × (ts ≡ us ++ lexeme at (word.Name n) ∷ [])
  Consumed (FunctionNames k binds n at params) ts = (us : List Lexeme) × (lambdas ≡ true)
      × HasParameter params × BindsFrom (From k) (nests k) binds us
      × (ts ≡ us ++ lexeme at (word.Name n) ∷ binders params)
  Consumed (LambdaNames k held at params) ts =
      (us vs : List Lexeme) × (p : ℕ) × (lambdas ≡ true) × (l (opens k) ≡ true) × Before k us
      × SpellsTerms lambdas l (opens k) held vs
      × (ts ≡ us ++
      (vs ++ (lexeme p word.Open ∷ lexeme at (word.Further Backslash) ∷ binders params)))
  Consumed (Ended k e) ts = (us vs : List Lexeme) × From k us × SpellsExpr lambdas l (nests k) e vs
      × (ts ≡ us ++ vs)
  Consumed (Brace k e) ts = (us vs : List Lexeme) × (p q : ℕ) × (l (nests k) ≡ true) × From k us
      × SpellsExpr lambdas l (suc (nests k)) e vs ×
      (ts ≡ us ++ (lexeme p word.Case ∷ (vs ++ lexeme q word.Of ∷ [])))
  Consumed (AltStart k s alts) ts = AltsFrom (From k) (nests k) s alts ts
  Consumed (AltNames k s alts n at names) ts = (us : List Lexeme)
      × AltsFrom (From k) (nests k) s alts us × (ts ≡ us ++ lexeme at (word.Con n) ∷ binders names)
  Consumed (AltArrow k s alts pat) ts = (us vs : List Lexeme)
      × AltsFrom (From k) (nests k) s alts us × SpellsPattern pat vs × (ts ≡ us ++ vs)

  abbrev pub Good : Step → List Lexeme → Type 0
  Good (go s) ts = Consumed s ts
  Good (done e) ts = (us : List Lexeme) × (x : Lexeme) × SpellsExpr lambdas l 0 e us
      × (ts ≡ us ++ x ∷ [])
  Good (stop e) ts = Unit {0}

  good_if : (b : Bool) (s : State) (e : ReadRefusal) (ts : List Lexeme) → (b ≡ true → Consumed s ts)
      → Good (cond b (go s) (stop e)) ts
  good_if true s e ts h = h refl
  good_if false s e ts h = tt

  all_last : (n : ℕ) (xs : Terms) (a : Term) (us vs : List Lexeme) → SpellsTerms lambdas l n xs us
      → SpellsTerm lambdas l n a vs → SpellsTerms lambdas l n (with_last xs a) (us ++ vs)
  all_last n NoTerms a us vs h g = (vs, [], g, refl, rw (h, append-nil) refl)
  all_last n (AndTerm b xs) a us vs h g = (
    h.0,
    h.1 ++ vs,
    h.2,
    all_last n xs a h.1 vs h.3 g,
    ap (λ w. w ++ vs) h.4 ∙ append_assoc h.0 h.1 vs,
  )

  -- an atom of one token
  adds : (k : Frame) (held : Terms) (a : Term) (ts : List Lexeme) (x : Lexeme)
      → Consumed (Apply k held) ts → SpellsTerm lambdas l (opens k) a (x ∷ [])
      → Consumed (Apply k (with_last held a)) (ts ++ x ∷ [])
  adds k held a ts x h g = (
    h.0,
    h.1 ++ x ∷ [],
    h.2,
    all_last (opens k) held a h.1 (x ∷ []) h.3 g,
    ap (λ w. w ++ x ∷ []) h.4 ∙ append_assoc h.0 h.1 (x ∷ []),
  )

  -- a member that is whole, and one more
  abbrev IsMember : ℕ → Group → List Lexeme → Type 0
  IsMember d NoBinds ts = ⊥
  IsMember d (AndValue b head args rest) ts =
      (us vs : List Lexeme) × (q : ℕ) × (rest ≡ NoBinds) × SpellsTerm lambdas l d head us
      × SpellsTerms lambdas l d args vs
      × (ts ≡ lexeme b.at (word.Name b.name) ∷ lexeme q word.Equals ∷ (us ++ vs))
  IsMember d (AndFunction b params body rest) ts =
      (us : List Lexeme) × (q : ℕ) × (rest ≡ NoBinds) × (lambdas ≡ true) × HasParameter params
      × SpellsExpr lambdas l d body us
      × (ts ≡ lexeme b.at (word.Name b.name) ∷ (binders params ++ (lexeme q word.Equals ∷ us)))

  each_one : (d : ℕ) (m : Group) (vs : List Lexeme) (r : ℕ) → IsMember d m vs
      → EachMember d m (vs ++ lexeme r word.Semicolon ∷ [])
  each_one d NoBinds vs r g = absurd g
  each_one d (AndValue b head args rest) vs r g =
      subst (λ rest. EachMember d (AndValue b head args rest) (vs ++ lexeme r word.Semicolon ∷ []))
      (sym g.3) (g.0, g.1, [], g.2, r, g.4, g.5, refl, simp (g.6, append_assoc))
  each_one d (AndFunction b params body rest) vs r g =
      subst (λ rest. EachMember d (AndFunction b params body rest)
      (vs ++ lexeme r word.Semicolon ∷ [])) (sym g.2)
      (g.0, [], g.1, r, g.3, g.4, g.5, refl, simp (g.6, append_assoc))

  each_last : (d : ℕ) (bs m : Group) (us vs : List Lexeme) (r : ℕ) → EachMember d bs us
      → IsMember d m vs → EachMember d (bs ⊕ m) (us ++ (vs ++ lexeme r word.Semicolon ∷ []))
  each_last d NoBinds m us vs r h g = rw h (each_one d m vs r g)
  each_last d (AndValue b head args rest) m us vs r h g
      = (
        h.0,
        h.1,
        h.2 ++ (vs ++ lexeme r word.Semicolon ∷ []),
        h.3,
        h.4,
        h.5,
        h.6,
        each_last d rest m h.2 vs r h.7 g,
        simp (h.8, append_assoc),
      )
  each_last d (AndFunction b params body rest) m us vs r h g
      = (
        h.0,
        h.1 ++ (vs ++ lexeme r word.Semicolon ∷ []),
        h.2,
        h.3,
        h.4,
        h.5,
        h.6,
        each_last d rest m h.1 vs r h.7 g,
        simp (h.8, append_assoc),
      )

  -- a `;` may stand behind each member
  semicolon : (rest : Group) (r : ℕ) → AfterMember rest (lexeme r word.Semicolon ∷ [])
  semicolon NoBinds r = inr (r, refl)
  semicolon (AndValue b head args rest) r = (r, refl)
  semicolon (AndFunction b params body rest) r = (r, refl)

  each_group : (d : ℕ) (bs : Group) (ts : List Lexeme) → EachMember d bs ts
      → SpellsGroup lambdas l d bs ts
  each_group d NoBinds ts h = h
  each_group d (AndValue b head args rest) ts h = (
    h.3,
    h.0,
    h.1,
    lexeme h.4 word.Semicolon ∷ [],
    h.2,
    h.5,
    h.6,
    semicolon rest h.4,
    each_group d rest h.2 h.7,
    h.8,
  )
  each_group d (AndFunction b params body rest) ts h
      = (
        h.2,
        h.0,
        lexeme h.3 word.Semicolon ∷ [],
        h.1,
        h.4,
        h.5,
        h.6,
        semicolon rest h.3,
        each_group d rest h.1 h.7,
        h.8,
      )

  -- the last member, without a `;`
  one_group : (d : ℕ) (m : Group) (vs : List Lexeme) → IsMember d m vs
      → SpellsGroup lambdas l d m vs
  one_group d NoBinds vs g = absurd g
  one_group d (AndValue b head args rest) vs g =
      subst (λ rest. SpellsGroup lambdas l d (AndValue b head args rest) vs) (sym g.3)
      (g.2, g.0, g.1, [], [], g.4, g.5, inl refl, refl, simp (g.6, append-nil))
  one_group d (AndFunction b params body rest) vs g =
      subst (λ rest. SpellsGroup lambdas l d (AndFunction b params body rest) vs) (sym g.2)
      (g.1, g.0, [], [], g.3, g.4, g.5, inl refl, refl, simp (g.6, append-nil))

  group_end : (d : ℕ) (bs m : Group) (us vs : List Lexeme) → EachMember d bs us → IsMember d m vs
      → SpellsGroup lambdas l d (bs ⊕ m) (us ++ vs)
  group_end d NoBinds m us vs h g = rw h (one_group d m vs g)
  group_end d (AndValue b head args rest) m us vs h g = (
    h.3,
    h.0,
    h.1,
    lexeme h.4 word.Semicolon ∷ [],
    h.2
        ++ vs,
    h.5,
    h.6,
    semicolon (rest ⊕ m) h.4,
    group_end d rest m h.2 vs h.7 g,
    simp (h.8, append_assoc),
  )
  group_end d (AndFunction b params body rest) m us vs h g = (
    h.2,
    h.0,
    lexeme h.3 word.Semicolon ∷ [],
    h.1
        ++ vs,
    h.4,
    h.5,
    h.6,
    semicolon (rest ⊕ m) h.3,
    group_end d rest m h.1 vs h.7 g,
    simp (h.8, append_assoc),
  )

  each_alt_last : (d : ℕ) (xs : Alts) (p : Pattern) (e : Expr) (ts us vs : List Lexeme) (q r : ℕ)
      → EachAlt d xs ts → SpellsPattern p us → SpellsExpr lambdas l d e vs
      → EachAlt d (xs ⊹ AndAlt p e NoAlts)
      (ts ++ (us ++ (lexeme q word.Arrow ∷ (vs ++ lexeme r word.Semicolon ∷ []))))
  each_alt_last d NoAlts p e ts us vs q r h g f = (us, vs, [], q, r, g, f, refl, simp h)
  each_alt_last d (AndAlt p2 e2 xs) p e ts us vs q r h g f = (
    h.0,
    h.1,
    h.2 ++ (us ++ (lexeme q word.Arrow ∷ (vs ++ lexeme r word.Semicolon ∷ []))),
    h.3,
    h.4,
    h.5,
    h.6,
    each_alt_last d xs p e h.2 us vs q r h.7 g f,
    simp (h.8, append_assoc),
  )

  semicolon_alt : (xs : Alts) (r : ℕ) → AfterAlt xs (lexeme r word.Semicolon ∷ [])
  semicolon_alt NoAlts r = inr (r, refl)
  semicolon_alt (AndAlt p e xs) r = (r, refl)

  each_alts : (d : ℕ) (xs : Alts) (ts : List Lexeme) → EachAlt d xs ts
      → SpellsAlts lambdas l d xs ts
  each_alts d NoAlts ts h = h
  each_alts d (AndAlt p e xs) ts h = (
    h.0,
    h.1,
    lexeme h.4 word.Semicolon ∷ [],
    h.2,
    h.3,
    h.5,
    h.6,
    semicolon_alt xs h.4,
    each_alts d xs h.2 h.7,
    h.8,
  )

  alts_end : (d : ℕ) (xs : Alts) (p : Pattern) (e : Expr) (ts us vs : List Lexeme) (q : ℕ)
      → EachAlt d xs ts → SpellsPattern p us → SpellsExpr lambdas l d e vs
      → SpellsAlts lambdas l d (xs ⊹ AndAlt p e NoAlts) (ts ++ (us ++ (lexeme q word.Arrow ∷ vs)))
  alts_end d NoAlts p e ts us vs q h g f =
      (us, vs, [], [], q, g, f, inl refl, refl, simp (h, append-nil))
  alts_end d (AndAlt p2 e2 xs) p e ts us vs q h g f = (
    h.0,
    h.1,
    lexeme h.4 word.Semicolon ∷ [],
    h.2
        ++ (us ++ (lexeme q word.Arrow ∷ vs)),
    h.3,
    h.5,
    h.6,
    semicolon_alt (xs ⊹ AndAlt p e NoAlts) h.4,
    alts_end d xs p e h.2 us vs q h.7 g f,
    simp (h.8, append_assoc),
  )

  -- a case is whole
  case_whole : (k : Cont) (s : Expr) (alts all : Alts) (ts tail : List Lexeme) (at : ℕ)
      (h : AltsFrom (From k) (nests k) s alts ts) → IsNonemptyAlts all
      → SpellsAlts lambdas l (suc (nests k)) all (h.2 ++ tail)
      → Consumed (Ended k (Case s all)) (ts ++ (tail ++ lexeme at word.CloseBrace ∷ []))
  case_whole k s alts all ts tail at h some g = (
    h.0,
    lexeme h.3 word.Case ∷
        (h.1 ++ (lexeme h.4 word.Of ∷
        (lexeme h.5 word.OpenBrace ∷ ((h.2 ++ tail) ++ lexeme at word.CloseBrace ∷ [])))),
    h.7,
    (h.3, h.4, h.5, at, h.1, h.2 ++ tail, h.6, some, h.8, g, refl),
    simp (h.10, append_assoc),
  )

  -- behind a member: one more begins, or the body of the group
  member_more : (k : Cont) (binds m : Group) (us vs ts : List Lexeme) (at : ℕ)
      → BindsFrom (From k) (nests k) binds us → IsMember (suc (nests k)) m vs → ts ≡ us ++ vs
      → BindsFrom (From k) (nests k) (binds ⊕ m) (ts ++ lexeme at word.Semicolon ∷ [])
  member_more k binds m us vs ts at c g e = (
    c.0,
    c.1 ++ (vs ++ lexeme at word.Semicolon ∷ []),
    c.2,
    c.3,
    c.4,
    each_last (suc (nests k)) binds m c.1 vs at c.5 g,
    simp (e, c.6, append_assoc),
  )

  member_in : (k : Cont) (binds m : Group) (us vs ts : List Lexeme) (at : ℕ)
      → BindsFrom (From k) (nests k) binds us → IsMember (suc (nests k)) m vs → IsGroup m → ts ≡ us
      ++ vs → Consumed (Apply (InBody (LetBody k (binds ⊕ m))) NoTerms)
      (ts ++ lexeme at word.In ∷ [])
  member_in k binds m us vs ts at c g some e = (
    ts ++ lexeme at word.In ∷ [],
    [],
    (
      c.0,
      c.1 ++ vs,
      c.2,
      at,
      c.3,
      c.4,
      some_last binds m some,
      group_end (suc (nests k)) binds m c.1 vs c.5 g,
      simp (e, c.6, append_assoc),
    ),
    refl,
    sym (append-nil _),
  )

  is_value : (k : Cont) (binds : Group) (n : NameId) (p : ℕ) (a : Term) (xs : Terms)
      (ts : List Lexeme) → Consumed (Apply (InBind k binds n p) (AndTerm a xs)) ts
      → (us vs : List Lexeme) × BindsFrom (From k) (nests k) binds us
      × IsMember (suc (nests k)) (value n p a xs) vs × (ts ≡ us ++ vs)
  is_value k binds n p a xs ts h =
      let f = h.2 in
      let g = h.3 in (
        f.0,
        lexeme p (word.Name n) ∷ lexeme f.1 word.Equals ∷ (g.0 ++ g.1),
        f.2,
        (g.0, g.1, f.1, refl, g.2, g.3, refl),
        simp (h.4, f.3, g.4, append_assoc),
      )

  is_function : (k : Cont) (binds : Group) (n : NameId) (p : ℕ) (params : List Binder) (e : Expr)
      (us vs : List Lexeme) → From (FunctionBody k binds n p params) us
      → SpellsExpr lambdas l (suc (nests k)) e vs
      → (us2 vs2 : List Lexeme) × BindsFrom (From k) (nests k) binds us2
      × IsMember (suc (nests k)) (local_function n p params e) vs2 × (us ++ vs ≡ us2 ++ vs2)
  is_function k binds n p params e us vs h g = (
    h.0,
    lexeme p (word.Name n) ∷ (binders params ++ (lexeme h.1 word.Equals ∷ vs)),
    h.4,
    (vs, h.1, refl, h.2, h.3, g, refl),
    simp (h.5, append_assoc),
  )

  sound_give : (k : Cont) (e : Expr) (us vs : List Lexeme) (at : ℕ) (token : Token) → From k us
      → SpellsExpr lambdas l (nests k) e vs → Good (give k e at token)
      ((us ++ vs) ++ lexeme at token ∷ [])
  sound_give (LetBody k binds) e us vs at token h g =
      let whole = lexeme h.2 word.Let ∷ (h.1 ++ (lexeme h.3 word.In ∷ vs)) in
      let regroup : us ++ vs ≡ h.0 ++ whole = simp (h.8, append_assoc) in
      subst (λ w. Good (give k (Let binds e) at token) (w ++ lexeme at token ∷ [])) (sym regroup)
      (sound_give k (Let binds e) h.0 whole at token h.5
      (h.2, h.3, h.1, vs, h.4, h.6, h.7, g, refl))
  sound_give Outermost e us vs at token h g =
      (vs, lexeme at token, g, ap (λ w. (w ++ vs) ++ lexeme at token ∷ []) h)
  sound_give (Scrutinee k) e us vs at word.Of h g =
      (h.0, vs, h.1, at, h.2, h.3, g, simp (h.4, append_assoc))
  sound_give (AltBody k s alts p) e us vs at word.Semicolon h g =
      let c = h.3 in
      let step1 : (us ++ vs) ++ lexeme at word.Semicolon ∷ [] ≡ h.0
      ++ (h.1 ++ (lexeme h.2 word.Arrow ∷ (vs ++ lexeme at word.Semicolon ∷ [])))
      = simp (h.5, append_assoc) in
      let step2 : h.0 ++ (h.1 ++ (lexeme h.2 word.Arrow ∷ (vs ++ lexeme at word.Semicolon ∷ []))) ≡
      c.0 ++ (lexeme c.3 word.Case ∷
      (c.1 ++ (lexeme c.4 word.Of ∷
      (lexeme c.5 word.OpenBrace ∷
      (c.2 ++ (h.1 ++ (lexeme h.2 word.Arrow ∷ (vs ++ lexeme at word.Semicolon ∷ []))))))))
      = simp (c.10, append_assoc) in (
        c.0,
        c.1,
        c.2 ++ (h.1 ++ (lexeme h.2 word.Arrow ∷ (vs ++ lexeme at word.Semicolon ∷ []))),
        c.3,
        c.4,
        c.5,
        c.6,
        c.7,
        c.8,
        each_alt_last (suc (nests k)) alts p e c.2 h.1 vs h.2 at c.9 h.4 g,
        step1 ∙ step2,
      )
  sound_give (AltBody k s alts p) e us vs at word.CloseBrace h g =
      let c = h.3 in
      let tail = h.1 ++ (lexeme h.2 word.Arrow ∷ vs) in
      let f : (us ++ vs) ++ lexeme at word.CloseBrace ∷ [] ≡ h.0
      ++ (tail ++ lexeme at word.CloseBrace ∷ []) = simp (h.5, append_assoc) in
      subst (Consumed (Ended k (Case s (alts ⊹ AndAlt p e NoAlts)))) (sym f)
      (case_whole k s alts (alts ⊹ AndAlt p e NoAlts) h.0 tail at c (alts_last alts p e)
      (alts_end (suc (nests k)) alts p e c.2 h.1 vs h.2 c.9 h.4 g))
  sound_give (LambdaBody k held p params) e us vs at word.Close h g =
      let whole = lexeme h.2 word.Open ∷ lexeme p (word.Further Backslash) ∷
      (binders params ++ (lexeme h.3 word.Arrow ∷ (vs ++ lexeme at word.Close ∷ []))) in
      let spelt : SpellsTerm lambdas l (opens k) (tree.Lambda params e p) whole
      = (h.2, h.3, at, vs, h.4, h.5, h.6, g, refl) in (
        h.0,
        h.1 ++ whole,
        h.7,
        all_last (opens k) held (tree.Lambda params e p) h.1 whole h.8 spelt,
        simp (h.9, append_assoc),
      )
  sound_give (FunctionBody k binds n p params) e us vs at word.Semicolon h g =
      let m = is_function k binds n p params e us vs h g in
      member_more k binds (local_function n p params e) m.0 m.1 (us ++ vs) at m.2 m.3 m.4
  sound_give (FunctionBody k binds n p params) e us vs at word.In h g =
      let m = is_function k binds n p params e us vs h g in
      member_in k binds (local_function n p params e) m.0 m.1 (us ++ vs) at m.2 m.3 tt m.4
  sound_give k e us vs at token h g = tt

  pub sound_step : (s : State) (ts : List Lexeme) (at : ℕ) (token : Token) → Consumed s ts
      → Good (step lambdas l s at token) (ts ++ lexeme at token ∷ [])
  sound_step (Apply k held) ts at (word.Name n) h = adds k held (tree.Name n.0 at) ts _ h refl
  sound_step (Apply k held) ts at (word.Con n) h = adds k held (tree.Con n.0 at) ts _ h refl
  sound_step (Apply k held) ts at (word.Number minus v) h
      = adds k held (tree.Int v at) ts _ h (minus, refl)
  sound_step (Apply k held) ts at (word.Large minus) h = tt
  sound_step (Apply k held) ts at word.Open h = good_if (l (opens k)) _ _ _ (λ e. (
    ts ++ lexeme at word.Open ∷ [],
    [],
    (h.0, h.1, e, h.2, h.3, simp (h.4, append_assoc)),
    refl,
    sym (append-nil _),
  ))
  sound_step (Apply (Inside k held p) NoTerms) ts at (word.Further Backslash) h
      = good_if lambdas _ _ _ (λ on.
      let b = h.2 in
      (b.0, b.1, p, on, b.2, b.3, b.4, simp (h.4, h.3, b.5, append_assoc, append-nil)))
  sound_step (Apply (Inside k held p) (AndTerm a xs)) ts at word.Close h =
      let b = h.2 in
      let g = h.3 in
      let close = lexeme at word.Close ∷ [] in
      let whole = lexeme p word.Open ∷ (g.0 ++ (g.1 ++ close)) in
      let spelt : SpellsTerm lambdas l (opens k) (tree.Bracket a xs p) whole
      = (g.0, g.1, at, b.2, g.2, g.3, refl) in
      let e : ts ++ close ≡ b.0 ++ (b.1 ++ whole) = simp (h.4, b.5, g.4, append_assoc) in
      (b.0, b.1 ++ whole, b.3, all_last (opens k) held (tree.Bracket a xs p) b.1 whole b.4 spelt, e)
  sound_step (Apply (InBind k binds n p) (AndTerm a xs)) ts at word.Semicolon h =
      let m = is_value k binds n p a xs ts h in
      member_more k binds (value n p a xs) m.0 m.1 ts at m.2 m.3 m.4
  sound_step (Apply (InBind k binds n p) (AndTerm a xs)) ts at word.In h =
      let m = is_value k binds n p a xs ts h in
      member_in k binds (value n p a xs) m.0 m.1 ts at m.2 m.3 tt m.4
  sound_step (Apply (InBody k) NoTerms) ts at word.Let h
      = good_if (l (nests k)) _ _ _
      (λ e. (
        ts,
        [],
        at,
        e,
        subst (From k) (sym (h.4 ∙ ap (λ w. h.0 ++ w) h.3 ∙ append-nil h.0))
            h.2,
        refl,
        refl,
      ))
  sound_step (Apply (InBody k) NoTerms) ts at word.Case h = good_if (l (nests k)) _ _ _ (λ e. (
    ts ++ lexeme at word.Case ∷ [],
    [],
    (
      ts,
      at,
      e,
      subst (From k) (sym (h.4 ∙ ap (λ w. h.0 ++ w) h.3 ∙ append-nil h.0)) h.2,
      refl,
    ),
    refl,
    sym (append-nil _),
  ))
  sound_step (Apply (InBody k) (AndTerm a xs)) ts at token h
      = subst (λ w. Good (give k (App a xs) at token) (w ++ lexeme at token ∷ [])) (sym h.4)
      (sound_give k (App a xs) h.0 h.1 at token h.2 h.3)
  sound_step (BindName k binds) ts at (word.Name n) h = (ts, h, refl)
  sound_step (BindName k (AndValue b head args rest)) ts at word.In h
      = (
        ts ++ lexeme at word.In ∷ [],
        [],
        (
          h.0,
          h.1,
          h.2,
          at,
          h.3,
          h.4,
          tt,
          each_group (suc (nests k)) (AndValue b head args rest) h.1
              h.5,
          simp (h.6, append_assoc),
        ),
        refl,
        sym (append-nil _),
      )
  sound_step (BindName k (AndFunction b params body rest)) ts at word.In h
      = (
        ts ++ lexeme at word.In ∷ [],
        [],
        (
          h.0,
          h.1,
          h.2,
          at,
          h.3,
          h.4,
          tt,
          each_group (suc (nests k)) (AndFunction b params body rest)
              h.1 h.5,
          simp (h.6, append_assoc),
        ),
        refl,
        sym (append-nil _),
      )
  sound_step (BindEquals k binds n p) ts at word.Equals h
      = (
        ts ++ lexeme at word.Equals ∷ [],
        [],
        (h.0, at, h.1, simp (h.2, append_assoc)),
        refl,
        sym (append-nil _),
      )
  sound_step (BindEquals k binds n p) ts at (word.Name m) h
      = good_if lambdas _ _ _ (λ on. (h.0, on, tt, h.1, simp (h.2, append_assoc)))
  sound_step (FunctionNames k binds n p params) ts at (word.Name m) h
      = (
        h.0,
        h.1,
        some_names params (record { name = m; at = at }) h.2,
        h.3,
        simp (h.4, append_assoc, binders_last),
      )
    where
      some_names : (bs : List Binder) (b : Binder) → HasParameter bs → HasParameter (bs ++ b ∷ [])
      some_names [] b h = tt
      some_names (c ∷ bs) b h = tt
  sound_step (FunctionNames k binds n p params) ts at word.Equals h
      = (
        ts ++ lexeme at word.Equals ∷ [],
        [],
        (h.0, at, h.1, h.2, h.3, simp (h.4, append_assoc)),
        refl,
        sym (append-nil _),
      )
  sound_step (LambdaNames k held p params) ts at (word.Name m) h
      = (h.0, h.1, h.2, h.3, h.4, h.5, h.6, simp (h.7, append_assoc, binders_last))
  sound_step (LambdaNames k held p (b ∷ params)) ts at word.Arrow h
      = (
        ts ++ lexeme at word.Arrow ∷ [],
        [],
        (h.0, h.1, h.2, at, h.3, h.4, tt, h.5, h.6, simp (h.7, append_assoc)),
        refl,
        sym (append-nil _),
      )
  sound_step (Ended k e) ts at token h = subst
      (λ w. Good (give k e at token) (w ++ lexeme at token ∷ [])) (sym h.4)
      (sound_give k e h.0 h.1 at token h.2 h.3)
  sound_step (Brace k e) ts at word.OpenBrace h =
      (h.0, h.1, [], h.2, h.3, at, h.4, h.5, h.6, refl, simp (h.7, append_assoc))
  sound_step (AltStart k s alts) ts at (word.Con n) h = (ts, h, refl)
  sound_step (AltStart k s alts) ts at (word.Name n) h
      = (ts, lexeme at (word.Name n) ∷ [], h, refl, refl)
  sound_step (AltStart k s alts) ts at (word.Number minus v) h
      = (ts, lexeme at (word.Number minus v) ∷ [], h, (minus, refl), refl)
  sound_step (AltStart k s (AndAlt p e alts)) ts at word.CloseBrace h
      = case_whole k s (AndAlt p e alts) (AndAlt p e alts) ts [] at h tt
      (subst (SpellsAlts lambdas l (suc (nests k)) (AndAlt p e alts)) (sym (append-nil h.2))
      (each_alts (suc (nests k)) (AndAlt p e alts) h.2 h.9))
  sound_step (AltNames k s alts n p names) ts at (word.Name m) h
      = (h.0, h.1, simp (h.2, append_assoc, binders_last))
  sound_step (AltNames k s alts n p names) ts at word.Arrow h
      = (
        ts ++ lexeme at word.Arrow ∷ [],
        [],
        (h.0, lexeme p (word.Con n) ∷ binders names, at, h.1, refl, simp (h.2, append_assoc)),
        refl,
        sym (append-nil _),
      )
  sound_step (AltArrow k s alts p) ts at word.Arrow h
      = (
        ts ++ lexeme at word.Arrow ∷ [],
        [],
        (h.0, h.1, at, h.2, h.3, simp (h.4, append_assoc)),
        refl,
        sym (append-nil _),
      )
  sound_step s ts at token h = tt
