-- The tokens that were read of an expression spell what the state holds.
--
-- The parser descends recursively. Each of its functions is compared with a machine that takes one
-- token a step and keeps a stack of what is open. Three things are shown of the machine. The
-- grammar derives whatever it has read. It reads whatever the grammar derives. From each of its
-- states some tokens lead to a whole program. The last of these explains a refusal: up to the
-- token at which the machine stops the text could have become a program, and with that token it
-- can't.
use Rattle.std.proofs.Common.{◌≡◌, ℕ, suc, Bool, true, false, cond, List, [], ◌∷◌, ◌++◌, refl, sym, ap, subst, ◌∙◌, append_assoc, inl, inr}
use Rattle.std.proofs.lemmas.List.{append-nil}
use Rattle.core_reader.specs.declared.syntax.Binder.{Binder}
use Rattle.core_reader.specs.declared.syntax.Pattern.{Pattern}
use Rattle.core_reader.specs.declared.token.Token.{Token}
use Rattle.core_reader.specs.declared.token.Token.TheVariants as word
use Rattle.core_reader.specs.declared.token.Lexeme.{Lexeme}
use Rattle.core_reader.specs.declared.refusal.ReadRefusal.{ReadRefusal}
use Rattle.core_reader.specs.Tree.{Term, Terms, NoTerms, AndTerm, Application, Bind, Expr, App, Let, Case, Alts, NoAlts, AndAlt, Data, Function}
use Rattle.core_reader.specs.Tree as tree
use Rattle.core_reader.specs.Grammar.{NestingLimit, lexeme, SpellsTerm, SpellsTerms, binders, SpellsBind, SpellsBinds, IsGroup, IsNonemptyAlts, SpellsPattern, SpellsExpr, SpellsAlts}
use Rattle.core_reader.specs.Machine.{Cont, Outermost, LetBody, Scrutinee, AltBody, nests, Frame, InBody, InBind, Inside, opens, BindName, BindEquals, Ended, Brace, AltStart, AltNames, AltArrow, give, State, Apply, Step, go, done, stop, step, with_last, ◌⊹◌, binding, applied}
use Rattle.core_reader.proofs.Complete.{some_last, alts_last}

-- each binding with a `;` after it
abbrev pub EachBind : NestingLimit → ℕ → List Bind → List Lexeme → Type 0
EachBind l d [] ts = ts ≡ []
EachBind l d (b ∷ bs) ts = (us vs : List Lexeme) × (r : ℕ) × SpellsBind l d b us
    × EachBind l d bs vs × (ts ≡ us ++ (lexeme r word.Semicolon ∷ vs))

abbrev pub EachAlt : NestingLimit → ℕ → Alts → List Lexeme → Type 0
EachAlt l d NoAlts ts = ts ≡ []
EachAlt l d (AndAlt p e xs) ts = (us vs ws : List Lexeme) × (q r : ℕ) × SpellsPattern p us
    × SpellsExpr l d e vs × EachAlt l d xs ws ×
    (ts ≡ us ++ (lexeme q word.Arrow ∷ (vs ++ (lexeme r word.Semicolon ∷ ws))))

-- a case up to an alternative, where B says what stands before the case
abbrev pub AltsFrom : NestingLimit → (List Lexeme → Type 0) → ℕ → Expr → Alts → List Lexeme → Type 0
AltsFrom l B n s alts ts = (us vs ws : List Lexeme) × (p q r : ℕ) × (l n ≡ true) × B us
    × SpellsExpr l (suc n) s vs × EachAlt l (suc n) alts ws
    × (ts ≡ us ++
    (lexeme p word.Case ∷ (vs ++ (lexeme q word.Of ∷ (lexeme r word.OpenBrace ∷ ws)))))

-- the tokens before an expression
abbrev pub From : NestingLimit → Cont → List Lexeme → Type 0
From l Outermost ts = ts ≡ []
From l (LetBody k binds) ts = (us vs : List Lexeme) × (p q : ℕ) × (l (nests k) ≡ true) × From l k us
    × IsGroup binds × SpellsBinds l (suc (nests k)) binds vs
    × (ts ≡ us ++ (lexeme p word.Let ∷ (vs ++ lexeme q word.In ∷ [])))
From l (Scrutinee k) ts = (us : List Lexeme) × (p : ℕ) × (l (nests k) ≡ true) × From l k us
    × (ts ≡ us ++ lexeme p word.Case ∷ [])
From l (AltBody k s alts pat) ts = (us vs : List Lexeme) × (q : ℕ)
    × AltsFrom l (From l k) (nests k) s alts us × SpellsPattern pat vs
    × (ts ≡ us ++ (vs ++ lexeme q word.Arrow ∷ []))

abbrev pub BindsFrom : NestingLimit → Cont → List Bind → List Lexeme → Type 0
BindsFrom l k binds ts = (us vs : List Lexeme) × (p : ℕ) × (l (nests k) ≡ true) × From l k us
    × EachBind l (suc (nests k)) binds vs × (ts ≡ us ++ (lexeme p word.Let ∷ vs))

-- the tokens before an application that stands in a frame
abbrev pub Before : NestingLimit → Frame → List Lexeme → Type 0
Before l (InBody k) ts = From l k ts
Before l (InBind k binds n at) ts = (us : List Lexeme) × (q : ℕ) × BindsFrom l k binds us
    × (ts ≡ us ++ (lexeme at (word.Name n) ∷ lexeme q word.Equals ∷ []))
Before l (Inside k held p) ts = (us vs : List Lexeme) × (l (opens k) ≡ true) × Before l k us
    × SpellsTerms l (opens k) held vs × (ts ≡ us ++ (vs ++ lexeme p word.Open ∷ []))

-- the tokens before a state
abbrev pub Consumed : NestingLimit → State → List Lexeme → Type 0
Consumed l (Apply k held) ts = (us vs : List Lexeme) × Before l k us
    × SpellsTerms l (opens k) held vs × (ts ≡ us ++ vs)
Consumed l (BindName k binds) ts = BindsFrom l k binds ts
Consumed l (BindEquals k binds n at) ts = (us : List Lexeme) × BindsFrom l k binds us
    × (ts ≡ us ++ lexeme at (word.Name n) ∷ [])
Consumed l (Ended k e) ts = (us vs : List Lexeme) × From l k us × SpellsExpr l (nests k) e vs
    × (ts ≡ us ++ vs)
Consumed l (Brace k e) ts = (us vs : List Lexeme) × (p q : ℕ) × (l (nests k) ≡ true) × From l k us
    × SpellsExpr l (suc (nests k)) e vs ×
    (ts ≡ us ++ (lexeme p word.Case ∷ (vs ++ lexeme q word.Of ∷ [])))
Consumed l (AltStart k s alts) ts = AltsFrom l (From l k) (nests k) s alts ts
Consumed l (AltNames k s alts n at names) ts = (us : List Lexeme)
    × AltsFrom l (From l k) (nests k) s alts us ×
    (ts ≡ us ++ lexeme at (word.Con n) ∷ binders names)
Consumed l (AltArrow k s alts pat) ts = (us vs : List Lexeme)
    × AltsFrom l (From l k) (nests k) s alts us × SpellsPattern pat vs × (ts ≡ us ++ vs)

abbrev pub Good : NestingLimit → Step → List Lexeme → Type 0
Good l (go s) ts = Consumed l s ts
Good l (done e) ts = (us : List Lexeme) × (x : Lexeme) × SpellsExpr l 0 e us × (ts ≡ us ++ x ∷ [])
Good l (stop e) ts = Unit {0}

good_if : (l : NestingLimit) (b : Bool) (s : State) (e : ReadRefusal) (ts : List Lexeme)
    → (b ≡ true → Consumed l s ts) → Good l (cond b (go s) (stop e)) ts
good_if l true s e ts h = h refl
good_if l false s e ts h = tt

all_last : (l : NestingLimit) (n : ℕ) (xs : Terms) (a : Term) (us vs : List Lexeme)
    → SpellsTerms l n xs us → SpellsTerm l n a vs → SpellsTerms l n (with_last xs a) (us ++ vs)
all_last l n NoTerms a us vs h g = (vs, [], g, refl, rw (h, append-nil) refl)
all_last l n (AndTerm b xs) a us vs h g = (
  h.0,
  h.1 ++ vs,
  h.2,
  all_last l n xs a h.1 vs h.3 g,
  ap (λ w. w ++ vs) h.4 ∙ append_assoc h.0 h.1 vs,
)

pub binders_last : (ps : List Binder) (b : Binder) → binders (ps ++ b ∷ []) ≡ binders ps
    ++ lexeme b.at (word.Name b.name) ∷ []
binders_last [] b = refl
binders_last (p ∷ ps) b = ap (λ w. lexeme p.at (word.Name p.name) ∷ w) (binders_last ps b)

-- an atom of one token
adds : (l : NestingLimit) (k : Frame) (held : Terms) (a : Term) (ts : List Lexeme) (x : Lexeme)
    → Consumed l (Apply k held) ts → SpellsTerm l (opens k) a (x ∷ [])
    → Consumed l (Apply k (with_last held a)) (ts ++ x ∷ [])
adds l k held a ts x h g = (
  h.0,
  h.1 ++ x ∷ [],
  h.2,
  all_last l (opens k) held a h.1 (x ∷ []) h.3 g,
  ap (λ w. w ++ x ∷ []) h.4 ∙ append_assoc h.0 h.1 (x ∷ []),
)

each_bind_last : (l : NestingLimit) (d : ℕ) (bs : List Bind) (b : Bind) (us vs : List Lexeme)
    (r : ℕ) → EachBind l d bs us → SpellsBind l d b vs
    → EachBind l d (bs ++ b ∷ []) (us ++ (vs ++ lexeme r word.Semicolon ∷ []))
each_bind_last l d [] b us vs r h g =
    (vs, [], r, g, refl, ap (λ w. w ++ (vs ++ lexeme r word.Semicolon ∷ [])) h)
each_bind_last l d (c ∷ bs) b us vs r h g = (
  h.0,
  h.1 ++ (vs ++ lexeme r word.Semicolon ∷ []),
  h.2,
  h.3,
  each_bind_last l d bs b h.1 vs r h.4 g,
  simp (h.5, append_assoc),
)

each_binds : (l : NestingLimit) (d : ℕ) (bs : List Bind) (ts : List Lexeme) → EachBind l d bs ts
    → SpellsBinds l d bs ts
each_binds l d [] ts h = h
each_binds l d (b ∷ []) ts h =
    (h.0, lexeme h.2 word.Semicolon ∷ [], h.1, h.3, inr (h.2, refl), h.4, h.5)
each_binds l d (b ∷ c ∷ bs) ts h = (
  h.0,
  lexeme h.2 word.Semicolon ∷ [],
  h.1,
  h.3,
  (h.2, refl),
  each_binds l d (c ∷ bs) h.1 h.4,
  h.5,
)

binds_end : (l : NestingLimit) (d : ℕ) (bs : List Bind) (b : Bind) (us vs : List Lexeme)
    → EachBind l d bs us → SpellsBind l d b vs → SpellsBinds l d (bs ++ b ∷ []) (us ++ vs)
binds_end l d [] b us vs h g = (vs, [], [], g, inl refl, refl, simp (h, append-nil))
binds_end l d (c ∷ []) b us vs h g = (
  h.0,
  lexeme h.2 word.Semicolon ∷ [],
  h.1 ++ vs,
  h.3,
  (h.2, refl),
  binds_end l d [] b h.1 vs h.4 g,
  simp (h.5, append_assoc),
)
binds_end l d (c ∷ e ∷ bs) b us vs h g = (
  h.0,
  lexeme h.2 word.Semicolon ∷ [],
  h.1 ++ vs,
  h.3,
  (h.2, refl),
  binds_end l d (e ∷ bs) b h.1 vs h.4 g,
  simp (h.5, append_assoc),
)

each_alt_last : (l : NestingLimit) (d : ℕ) (xs : Alts) (p : Pattern) (e : Expr)
    (ts us vs : List Lexeme) (q r : ℕ) → EachAlt l d xs ts → SpellsPattern p us
    → SpellsExpr l d e vs
    → EachAlt l d (xs ⊹ AndAlt p e NoAlts)
    (ts ++ (us ++ (lexeme q word.Arrow ∷ (vs ++ lexeme r word.Semicolon ∷ []))))
each_alt_last l d NoAlts p e ts us vs q r h g f = (us, vs, [], q, r, g, f, refl, simp h)
each_alt_last l d (AndAlt p2 e2 xs) p e ts us vs q r h g f = (
  h.0,
  h.1,
  h.2 ++ (us ++ (lexeme q word.Arrow ∷ (vs ++ lexeme r word.Semicolon ∷ []))),
  h.3,
  h.4,
  h.5,
  h.6,
  each_alt_last l d xs p e h.2 us vs q r h.7 g f,
  simp (h.8, append_assoc),
)

each_alts : (l : NestingLimit) (d : ℕ) (xs : Alts) (ts : List Lexeme) → EachAlt l d xs ts
    → SpellsAlts l d xs ts
each_alts l d NoAlts ts h = h
each_alts l d (AndAlt p e NoAlts) ts h =
    (h.0, h.1, lexeme h.4 word.Semicolon ∷ [], h.2, h.3, h.5, h.6, inr (h.4, refl), h.7, h.8)
each_alts l d (AndAlt p e (AndAlt p2 e2 xs)) ts h = (
  h.0,
  h.1,
  lexeme h.4 word.Semicolon ∷ [],
  h.2,
  h.3,
  h.5,
  h.6,
  (h.4, refl),
  each_alts l d (AndAlt p2 e2 xs) h.2 h.7,
  h.8,
)

alts_end : (l : NestingLimit) (d : ℕ) (xs : Alts) (p : Pattern) (e : Expr) (ts us vs : List Lexeme)
    (q : ℕ) → EachAlt l d xs ts → SpellsPattern p us → SpellsExpr l d e vs
    → SpellsAlts l d (xs ⊹ AndAlt p e NoAlts) (ts ++ (us ++ (lexeme q word.Arrow ∷ vs)))
alts_end l d NoAlts p e ts us vs q h g f =
    (us, vs, [], [], q, g, f, inl refl, refl, simp (h, append-nil))
alts_end l d (AndAlt p2 e2 NoAlts) p e ts us vs q h g f = (
  h.0,
  h.1,
  lexeme h.4 word.Semicolon ∷ [],
  h.2 ++ (us ++ (lexeme q word.Arrow ∷ vs)),
  h.3,
  h.5,
  h.6,
  (h.4, refl),
  alts_end l d NoAlts p e h.2 us vs q h.7 g f,
  simp (h.8, append_assoc),
)
alts_end l d (AndAlt p2 e2 (AndAlt p3 e3 xs)) p e ts us vs q h g f = (
  h.0,
  h.1,
  lexeme h.4 word.Semicolon ∷ [],
  h.2 ++ (us ++ (lexeme q word.Arrow ∷ vs)),
  h.3,
  h.5,
  h.6,
  (h.4, refl),
  alts_end l d (AndAlt p3 e3 xs) p e h.2 us vs q h.7 g f,
  simp (h.8, append_assoc),
)

-- a case is whole
case_whole : (l : NestingLimit) (k : Cont) (s : Expr) (alts all : Alts) (ts tail : List Lexeme)
    (at : ℕ) (h : AltsFrom l (From l k) (nests k) s alts ts) → IsNonemptyAlts all
    → SpellsAlts l (suc (nests k)) all (h.2 ++ tail)
    → Consumed l (Ended k (Case s all)) (ts ++ (tail ++ lexeme at word.CloseBrace ∷ []))
case_whole l k s alts all ts tail at h some g = (
  h.0,
  lexeme h.3 word.Case ∷
      (h.1 ++ (lexeme h.4 word.Of ∷
      (lexeme h.5 word.OpenBrace ∷ ((h.2 ++ tail) ++ lexeme at word.CloseBrace ∷ [])))),
  h.7,
  (h.3, h.4, h.5, at, h.1, h.2 ++ tail, h.6, some, h.8, g, refl),
  simp (h.10, append_assoc),
)

sound_give : (l : NestingLimit) (k : Cont) (e : Expr) (us vs : List Lexeme) (at : ℕ) (token : Token)
    → From l k us → SpellsExpr l (nests k) e vs → Good l (give k e at token)
    ((us ++ vs) ++ lexeme at token ∷ [])
sound_give l (LetBody k binds) e us vs at token h g =
    let whole = lexeme h.2 word.Let ∷ (h.1 ++ (lexeme h.3 word.In ∷ vs)) in
    let regroup : us ++ vs ≡ h.0 ++ whole = simp (h.8, append_assoc) in
    subst (λ w. Good l (give k (Let binds e) at token) (w ++ lexeme at token ∷ [])) (sym regroup)
    (sound_give l k (Let binds e) h.0 whole at token h.5
    (h.2, h.3, h.1, vs, h.4, h.6, h.7, g, refl))
sound_give l Outermost e us vs at token h g =
    (vs, lexeme at token, g, ap (λ w. (w ++ vs) ++ lexeme at token ∷ []) h)
sound_give l (Scrutinee k) e us vs at word.Of h g =
    (h.0, vs, h.1, at, h.2, h.3, g, simp (h.4, append_assoc))
sound_give l (AltBody k s alts p) e us vs at word.Semicolon h g =
    let c = h.3 in
    let step1 : (us ++ vs) ++ lexeme at word.Semicolon ∷ [] ≡ h.0
    ++ (h.1 ++ (lexeme h.2 word.Arrow ∷ (vs ++ lexeme at word.Semicolon ∷ [])))
    = simp (h.5, append_assoc) in
    let step2 : h.0 ++ (h.1 ++ (lexeme h.2 word.Arrow ∷ (vs ++ lexeme at word.Semicolon ∷ []))) ≡
    c.0 ++ (lexeme c.3 word.Case ∷
    (c.1 ++ (lexeme c.4 word.Of ∷
    (lexeme c.5 word.OpenBrace ∷
    (c.2 ++ (h.1 ++ (lexeme h.2 word.Arrow ∷ (vs ++ lexeme at word.Semicolon ∷ []))))))))
    = simp (c.10, append_assoc) in (
      c.0,
      c.1,
      c.2 ++ (h.1 ++ (lexeme h.2 word.Arrow ∷ (vs ++ lexeme at word.Semicolon ∷ []))),
      c.3,
      c.4,
      c.5,
      c.6,
      c.7,
      c.8,
      each_alt_last l (suc (nests k)) alts p e c.2 h.1 vs h.2 at c.9 h.4 g,
      step1 ∙ step2,
    )
sound_give l (AltBody k s alts p) e us vs at word.CloseBrace h g =
    let c = h.3 in
    let tail = h.1 ++ (lexeme h.2 word.Arrow ∷ vs) in
    let f : (us ++ vs) ++ lexeme at word.CloseBrace ∷ [] ≡ h.0
    ++ (tail ++ lexeme at word.CloseBrace ∷ []) = simp (h.5, append_assoc) in
    subst (Consumed l (Ended k (Case s (alts ⊹ AndAlt p e NoAlts)))) (sym f)
    (case_whole l k s alts (alts ⊹ AndAlt p e NoAlts) h.0 tail at c (alts_last alts p e)
    (alts_end l (suc (nests k)) alts p e c.2 h.1 vs h.2 c.9 h.4 g))
sound_give l k e us vs at token h g = tt

pub sound_step : (l : NestingLimit) (s : State) (ts : List Lexeme) (at : ℕ) (token : Token)
    → Consumed l s ts → Good l (step l s at token) (ts ++ lexeme at token ∷ [])
sound_step l (Apply k held) ts at (word.Name n) h = adds l k held (tree.Name n.0 at) ts _ h refl
sound_step l (Apply k held) ts at (word.Con n) h = adds l k held (tree.Con n.0 at) ts _ h refl
sound_step l (Apply k held) ts at (word.Number minus v) h
    = adds l k held (tree.Int v at) ts _ h (minus, refl)
sound_step l (Apply k held) ts at (word.Large minus) h = tt
sound_step l (Apply k held) ts at word.Open h = good_if l (l (opens k)) _ _ _ (λ e. (
  ts ++ lexeme at word.Open ∷ [],
  [],
  (h.0, h.1, e, h.2, h.3, simp (h.4, append_assoc)),
  refl,
  sym (append-nil _),
))
sound_step l (Apply (Inside k held p) (AndTerm a xs)) ts at word.Close h =
    let b = h.2 in
    let g = h.3 in
    let close = lexeme at word.Close ∷ [] in
    let whole = lexeme p word.Open ∷ (g.0 ++ (g.1 ++ close)) in
    let spelt : SpellsTerm l (opens k) (tree.Bracket a xs p) whole
    = (g.0, g.1, at, b.2, g.2, g.3, refl) in
    let e : ts ++ close ≡ b.0 ++ (b.1 ++ whole) = simp (h.4, b.5, g.4, append_assoc) in
    (b.0, b.1 ++ whole, b.3, all_last l (opens k) held (tree.Bracket a xs p) b.1 whole b.4 spelt, e)
sound_step l (Apply (InBind k binds n p) (AndTerm a xs)) ts at word.Semicolon h =
    let b = binding n p a xs in
    let f = h.2 in
    let c = f.2 in
    let vs = lexeme p (word.Name n) ∷ lexeme f.1 word.Equals ∷ h.1 in (
      c.0,
      c.1 ++ (vs ++ lexeme at word.Semicolon ∷ []),
      c.2,
      c.3,
      c.4,
      each_bind_last l (suc (nests k)) binds b c.1 vs at c.5 (f.1, h.1, h.3, refl),
      simp (h.4, f.3, c.6, append_assoc),
    )
sound_step l (Apply (InBind k binds n p) (AndTerm a xs)) ts at word.In h =
    let b = binding n p a xs in
    let f = h.2 in
    let c = f.2 in
    let vs = lexeme p (word.Name n) ∷ lexeme f.1 word.Equals ∷ h.1 in (
      ts ++ lexeme at word.In ∷ [],
      [],
      (
        c.0,
        c.1 ++ vs,
        c.2,
        at,
        c.3,
        c.4,
        some_last binds b,
        binds_end l (suc (nests k)) binds b c.1 vs c.5 (f.1, h.1, h.3, refl),
        simp (h.4, f.3, c.6, append_assoc),
      ),
      refl,
      sym (append-nil _),
    )
sound_step l (Apply (InBody k) NoTerms) ts at word.Let h
    = good_if l (l (nests k)) _ _ _
    (λ e. (
      ts,
      [],
      at,
      e,
      subst (From l k) (sym (h.4 ∙ ap (λ w. h.0 ++ w) h.3 ∙ append-nil h.0))
          h.2,
      refl,
      refl,
    ))
sound_step l (Apply (InBody k) NoTerms) ts at word.Case h = good_if l (l (nests k)) _ _ _ (λ e. (
  ts ++ lexeme at word.Case ∷ [],
  [],
  (
    ts,
    at,
    e,
    subst (From l k) (sym (h.4 ∙ ap (λ w. h.0 ++ w) h.3 ∙ append-nil h.0)) h.2,
    refl,
  ),
  refl,
  sym (append-nil _),
))
sound_step l (Apply (InBody k) (AndTerm a xs)) ts at token h
    = subst (λ w. Good l (give k (applied a xs) at token) (w ++ lexeme at token ∷ [])) (sym h.4)
    (sound_give l k (applied a xs) h.0 h.1 at token h.2 h.3)
sound_step l (BindName k binds) ts at (word.Name n) h = (ts, h, refl)
sound_step l (BindName k (b ∷ binds)) ts at word.In h
    = (
      ts ++ lexeme at word.In ∷ [],
      [],
      (
        h.0,
        h.1,
        h.2,
        at,
        h.3,
        h.4,
        tt,
        each_binds l (suc (nests k)) (b ∷ binds) h.1 h.5,
        simp (h.6, append_assoc),
      ),
      refl,
      sym (append-nil _),
    )
sound_step l (BindEquals k binds n p) ts at word.Equals h
    = (
      ts ++ lexeme at word.Equals ∷ [],
      [],
      (h.0, at, h.1, simp (h.2, append_assoc)),
      refl,
      sym (append-nil _),
    )
sound_step l (Ended k e) ts at token h = subst
    (λ w. Good l (give k e at token) (w ++ lexeme at token ∷ [])) (sym h.4)
    (sound_give l k e h.0 h.1 at token h.2 h.3)
sound_step l (Brace k e) ts at word.OpenBrace h =
    (h.0, h.1, [], h.2, h.3, at, h.4, h.5, h.6, refl, simp (h.7, append_assoc))
sound_step l (AltStart k s alts) ts at (word.Con n) h = (ts, h, refl)
sound_step l (AltStart k s alts) ts at (word.Name n) h
    = (ts, lexeme at (word.Name n) ∷ [], h, refl, refl)
sound_step l (AltStart k s alts) ts at (word.Number minus v) h
    = (ts, lexeme at (word.Number minus v) ∷ [], h, (minus, refl), refl)
sound_step l (AltStart k s (AndAlt p e alts)) ts at word.CloseBrace h
    = case_whole l k s (AndAlt p e alts) (AndAlt p e alts) ts [] at h tt
    (subst (SpellsAlts l (suc (nests k)) (AndAlt p e alts)) (sym (append-nil h.2))
    (each_alts l (suc (nests k)) (AndAlt p e alts) h.2 h.9))
sound_step l (AltNames k s alts n p names) ts at (word.Name m) h
    = (h.0, h.1, simp (h.2, append_assoc, binders_last))
sound_step l (AltNames k s alts n p names) ts at word.Arrow h
    = (
      ts ++ lexeme at word.Arrow ∷ [],
      [],
      (h.0, lexeme p (word.Con n) ∷ binders names, at, h.1, refl, simp (h.2, append_assoc)),
      refl,
      sym (append-nil _),
    )
sound_step l (AltArrow k s alts p) ts at word.Arrow h
    = (
      ts ++ lexeme at word.Arrow ∷ [],
      [],
      (h.0, h.1, at, h.2, h.3, simp (h.4, append_assoc)),
      refl,
      sym (append-nil _),
    )
sound_step l s ts at token h = tt
