-- What spells an expression is read as that expression.
use Rattle.std.proofs.Common.{◌≡◌, ℕ, suc, false, cond, List, [], ◌∷◌, ◌++◌, refl, sym, ap, subst, ◌∙◌, append_assoc, inl, inr}
use Rattle.std.proofs.lemmas.List.{append-nil}
use Rattle.core_reader.specs.declared.syntax.NameId.{NameId}
use Rattle.core_reader.specs.declared.syntax.Binder.{Binder}
use Rattle.core_reader.specs.declared.syntax.Pattern.{Pattern}
use Rattle.core_reader.specs.declared.syntax.Pattern.TheVariants as pattern
use Rattle.core_reader.specs.declared.token.Token.{Token}
use Rattle.core_reader.specs.declared.token.Token.TheVariants as word
use Rattle.core_reader.specs.declared.token.Lexeme.{Lexeme}
use Rattle.core_reader.specs.declared.refusal.ReadRefusal.TheVariants.{TooDeep}
use Rattle.core_reader.specs.Tree.{Term, Terms, NoTerms, AndTerm, Application, Bind, Expr, App, Let, Case, Alts, NoAlts, AndAlt, Data, Function}
use Rattle.core_reader.specs.Tree as tree
use Rattle.core_reader.specs.Grammar.{NestingLimit, lexeme, SpellsTerm, SpellsTerms, binders, SpellsBind, AfterBind, SpellsBinds, IsGroup, IsNonemptyAlts, AfterAlt, SpellsPattern, SpellsExpr, SpellsAlts}
use Rattle.core_reader.specs.Machine.{Cont, LetBody, Scrutinee, AltBody, nests, Frame, InBody, InBind, Inside, opens, BindName, Ended, AltStart, AltNames, give, starts_atom, Apply, go, stop, step, follow, run, with_last, ◌⊹◌, applied}
use Rattle.core_reader.proofs.ReadingOf.{takes_names, reads_names}

infixr 20 ◌⧺◌
abbrev pub ◌⧺◌ : Terms → Terms → Terms
NoTerms ⧺ bs = bs
(AndTerm a xs) ⧺ bs = AndTerm a (xs ⧺ bs)

then_none : (xs : Terms) → xs ⧺ NoTerms ≡ xs
then_none NoTerms = refl
then_none (AndTerm a xs) = ap (AndTerm a) (then_none xs)

last_then : (xs : Terms) (a : Term) (ys : Terms) → with_last xs a ⧺ ys ≡ xs ⧺ AndTerm a ys
last_then NoTerms a ys = refl
last_then (AndTerm b xs) a ys = ap (AndTerm b) (last_then xs a ys)

closes : (l : NestingLimit) (k : Frame) (held : Terms) (at : ℕ) (a : Term) (xs : Terms) (end : ℕ)
    (rest : List Lexeme)
    → run l (Apply (Inside k held at) (AndTerm a xs)) (lexeme end word.Close ∷ rest) ≡ run l
    (Apply k (with_last held (tree.Bracket a xs at))) rest
unfolding run
closes l k held at a xs end rest = refl

mutual
  unfolding run

  pub reads_atom : (l : NestingLimit) (k : Frame) (held : Terms) (a : Term) (ts rest : List Lexeme)
      → SpellsTerm l (opens k) a ts
      → run l (Apply k held) (ts ++ rest) ≡ run l (Apply k (with_last held a)) rest
  reads_atom l k held (tree.Name n at) ts rest h = rw h refl
  reads_atom l k held (tree.Con n at) ts rest h = rw h refl
  reads_atom l k held (tree.Int v at) ts rest h = rw h.1 refl
  reads_atom l k held (tree.Bracket a xs at) ts rest h =
      let us = h.0 in
      let vs = h.1 in
      let close = lexeme h.2 word.Close ∷ [] in
      let regroup : (us ++ (vs ++ close)) ++ rest ≡ us ++ (vs ++ (close ++ rest))
      = simp append_assoc in
      let opened : run l (Apply k held) (ts ++ rest) ≡ run l (Apply (Inside k held at) NoTerms)
      ((us ++ (vs ++ close)) ++ rest) =
      ap (λ w. run l (Apply k held) (w ++ rest)) h.6 ∙ ap
      (λ b. follow (cond b (go (Apply (Inside k held at) NoTerms)) (stop (TooDeep at)))
      (lexeme at word.Open ∷ ((us ++ (vs ++ close)) ++ rest))
      (λ s. run l s ((us ++ (vs ++ close)) ++ rest))) h.3 in
      opened ∙ ap (run l (Apply (Inside k held at) NoTerms)) regroup
      ∙ reads_atom l (Inside k held at) NoTerms a us (vs ++ (close ++ rest)) h.4
      ∙ reads_all l (Inside k held at) (AndTerm a NoTerms) xs vs (close ++ rest) h.5
      ∙ closes l k held at a xs h.2 rest

  pub reads_all : (l : NestingLimit) (k : Frame) (held : Terms) (xs : Terms) (ts rest : List Lexeme)
      → SpellsTerms l (opens k) xs ts
      → run l (Apply k held) (ts ++ rest) ≡ run l (Apply k (held ⧺ xs)) rest
  reads_all l k held NoTerms ts rest h = rw (h, then_none held) refl
  reads_all l k held (AndTerm a xs) ts rest h =
      let us = h.0 in
      let vs = h.1 in
      ap (λ w. run l (Apply k held) (w ++ rest)) h.4
      ∙ ap (run l (Apply k held)) (append_assoc us vs rest)
      ∙ reads_atom l k held a us (vs ++ rest) h.2
      ∙ reads_all l k (with_last held a) xs vs rest h.3
      ∙ ap (λ w. run l (Apply k w) rest) (last_then held a xs)

pub ends_step : (l : NestingLimit) (k : Cont) (a : Term) (xs : Terms) (at : ℕ) (token : Token)
    → starts_atom token ≡ false → step l (Apply (InBody k) (AndTerm a xs)) at token ≡ give k
    (applied a xs) at token
ends_step l k a xs at (word.Name n) e = absurd cc
ends_step l k a xs at (word.Con n) e = absurd cc
ends_step l k a xs at (word.Number minus v) e = absurd cc
ends_step l k a xs at (word.Large minus) e = absurd cc
ends_step l k a xs at word.Open e = absurd cc
ends_step l k a xs at token e = refl

pub ends_app : (l : NestingLimit) (k : Cont) (a : Term) (xs : Terms) (x : Lexeme)
    (rest : List Lexeme) → starts_atom x.token ≡ false
    → run l (Apply (InBody k) (AndTerm a xs)) (x ∷ rest) ≡ follow
    (give k (applied a xs) x.at x.token) (x ∷ rest) (λ s. run l s rest)
unfolding run
ends_app l k a xs x rest e = ap (λ st. follow st (x ∷ rest) (λ s. run l s rest))
    (ends_step l k a xs x.at x.token e)

pub some_last : (bs : List Bind) (b : Bind) → IsGroup (bs ++ b ∷ [])
some_last [] b = tt
some_last (c ∷ bs) b = tt

-- `in` after a `;`, and after a binding
in_after : (l : NestingLimit) (k : Cont) (bs : List Bind) (q : ℕ) (rest : List Lexeme) → IsGroup bs
    → run l (BindName k bs) (lexeme q word.In ∷ rest) ≡ run l
    (Apply (InBody (LetBody k bs)) NoTerms) rest
unfolding run
in_after l k [] q rest h = absurd h
in_after l k (b ∷ bs) q rest h = refl

bind_in_app : (l : NestingLimit) (k : Cont) (bs : List Bind) (b : Bind) (q : ℕ) (rest : List Lexeme)
    → run l (Apply (InBind k bs b.binder.name b.binder.at) (AndTerm b.app.head b.app.args))
    (lexeme q word.In ∷ rest) ≡ run l (Apply (InBody (LetBody k (bs ++ b ∷ []))) NoTerms) rest
unfolding run
bind_in_app l k bs b q rest = refl

bind_semi : (l : NestingLimit) (k : Cont) (bs : List Bind) (b : Bind) (q : ℕ) (rest : List Lexeme)
    → run l (Apply (InBind k bs b.binder.name b.binder.at) (AndTerm b.app.head b.app.args))
    (lexeme q word.Semicolon ∷ rest) ≡ run l (BindName k (bs ++ b ∷ [])) rest
unfolding run
bind_semi l k bs b q rest = refl

reads_bind : (l : NestingLimit) (k : Cont) (bs : List Bind) (b : Bind) (ts rest : List Lexeme)
    → SpellsBind l (suc (nests k)) b ts
    → run l (BindName k bs) (ts ++ rest) ≡ run l
    (Apply (InBind k bs b.binder.name b.binder.at) (AndTerm b.app.head b.app.args)) rest
unfolding run
reads_bind l k bs b ts rest h =
    ap (λ w. run l (BindName k bs) (w ++ rest)) h.3 ∙ reads_all l
    (InBind k bs b.binder.name b.binder.at) NoTerms (AndTerm b.app.head b.app.args) h.1 rest h.2

some_then : (bs cs : List Bind) → IsGroup bs → IsGroup (bs ++ cs)
some_then [] cs h = absurd h
some_then (b ∷ bs) cs h = tt

next_bind : (l : NestingLimit) (k : Cont) (sofar : List Bind) (b : Bind) (bs : List Bind)
    (semi vs : List Lexeme) (q : ℕ) (rest : List Lexeme) → AfterBind bs semi
    → SpellsBinds l (suc (nests k)) bs vs
    → ((front : List Bind) → IsGroup front → run l (BindName k front)
    (vs ++ lexeme q word.In ∷ rest) ≡ run l (Apply (InBody (LetBody k (front ++ bs))) NoTerms)
    rest)
    → run l (Apply (InBind k sofar b.binder.name b.binder.at) (AndTerm b.app.head b.app.args))
    (semi ++ (vs ++ lexeme q word.In ∷ rest)) ≡ run l
    (Apply (InBody (LetBody k (sofar ++ b ∷ bs))) NoTerms) rest
next_bind l k sofar b [] semi vs q rest (inl e) h ih =
    ap (λ w. run l
    (Apply (InBind k sofar b.binder.name b.binder.at) (AndTerm b.app.head b.app.args))
    (w ++ (vs ++ lexeme q word.In ∷ rest))) e
    ∙ ap (λ w. run l
    (Apply (InBind k sofar b.binder.name b.binder.at) (AndTerm b.app.head b.app.args))
    (w ++ lexeme q word.In ∷ rest)) h
    ∙ bind_in_app l k sofar b q rest
next_bind l k sofar b [] semi vs q rest (inr e) h ih =
    ap (λ w. run l
    (Apply (InBind k sofar b.binder.name b.binder.at) (AndTerm b.app.head b.app.args))
    (w ++ (vs ++ lexeme q word.In ∷ rest))) e.1
    ∙ bind_semi l k sofar b e.0 (vs ++ lexeme q word.In ∷ rest)
    ∙ ih (sofar ++ b ∷ []) (some_last sofar b)
    ∙ ap (λ w. run l (Apply (InBody (LetBody k w)) NoTerms) rest) (append-nil (sofar ++ b ∷ []))
next_bind l k sofar b (c ∷ bs) semi vs q rest e h ih =
    ap (λ w. run l
    (Apply (InBind k sofar b.binder.name b.binder.at) (AndTerm b.app.head b.app.args))
    (w ++ (vs ++ lexeme q word.In ∷ rest))) e.1
    ∙ bind_semi l k sofar b e.0 (vs ++ lexeme q word.In ∷ rest)
    ∙ ih (sofar ++ b ∷ []) (some_last sofar b)
    ∙ ap (λ w. run l (Apply (InBody (LetBody k w)) NoTerms) rest)
    (append_assoc sofar (b ∷ []) (c ∷ bs))

reads_binds : (l : NestingLimit) (k : Cont) (sofar bs : List Bind) (ts : List Lexeme) (q : ℕ)
    (rest : List Lexeme) → IsGroup (sofar ++ bs) → SpellsBinds l (suc (nests k)) bs ts
    → run l (BindName k sofar) (ts ++ lexeme q word.In ∷ rest) ≡ run l
    (Apply (InBody (LetBody k (sofar ++ bs))) NoTerms) rest
reads_binds l k sofar [] ts q rest some h =
    ap (λ w. run l (BindName k sofar) (w ++ lexeme q word.In ∷ rest)) h
    ∙ in_after l k sofar q rest (subst IsGroup (append-nil sofar) some)
    ∙ ap (λ w. run l (Apply (InBody (LetBody k w)) NoTerms) rest) (sym (append-nil sofar))
reads_binds l k sofar (b ∷ bs) ts q rest some h =
    let regroup : ts ++ lexeme q word.In ∷ rest ≡ h.0 ++ (h.1 ++ (h.2 ++ lexeme q word.In ∷ rest))
    = simp (h.6, append_assoc) in
    ap (run l (BindName k sofar)) regroup
    ∙ reads_bind l k sofar b h.0 (h.1 ++ (h.2 ++ lexeme q word.In ∷ rest)) h.3
    ∙ next_bind l k sofar b bs h.1 h.2 q rest h.4 h.5
    (λ front s. reads_binds l k front bs h.2 q rest (some_then front bs s) h.5)

alts_none : (xs : Alts) → xs ⊹ NoAlts ≡ xs
alts_none NoAlts = refl
alts_none (AndAlt p e xs) = ap (AndAlt p e) (alts_none xs)

alts_then : (xs ys zs : Alts) → (xs ⊹ ys) ⊹ zs ≡ xs ⊹ (ys ⊹ zs)
alts_then NoAlts ys zs = refl
alts_then (AndAlt p e xs) ys zs = ap (AndAlt p e) (alts_then xs ys zs)

pub alts_last : (xs : Alts) (p : Pattern) (e : Expr) → IsNonemptyAlts (xs ⊹ AndAlt p e NoAlts)
alts_last NoAlts p e = tt
alts_last (AndAlt q f xs) p e = tt

alts_more : (xs ys : Alts) → IsNonemptyAlts xs → IsNonemptyAlts (xs ⊹ ys)
alts_more NoAlts ys h = absurd h
alts_more (AndAlt q f xs) ys h = tt

brace_after : (l : NestingLimit) (k : Cont) (s : Expr) (xs : Alts) (q : ℕ) (rest : List Lexeme)
    → IsNonemptyAlts xs → run l (AltStart k s xs) (lexeme q word.CloseBrace ∷ rest) ≡ run l
    (Ended k (Case s xs)) rest
unfolding run
brace_after l k s NoAlts q rest h = absurd h
brace_after l k s (AndAlt p e xs) q rest h = refl

pub alt_names : (l : NestingLimit) (k : Cont) (s : Expr) (alts : Alts) (n : NameId) (p : ℕ)
    (names : List Binder) (old new : List Lexeme) → old ≡ binders names ++ new
    → run l (AltNames k s alts n p []) old ≡ run l (AltNames k s alts n p names) new
unfolding run
alt_names l k s alts n p names old new e = reads_names (run l) (AltNames k s alts n p)
    (λ names n at rest. refl) names old new e

reads_pattern : (l : NestingLimit) (k : Cont) (s : Expr) (alts : Alts) (p : Pattern)
    (ts : List Lexeme) (q : ℕ) (rest : List Lexeme) → SpellsPattern p ts
    → run l (AltStart k s alts) (ts ++ lexeme q word.Arrow ∷ rest) ≡ run l
    (Apply (InBody (AltBody k s alts p)) NoTerms) rest
unfolding run
reads_pattern l k s alts (pattern.Con c names) ts q rest h
    = ap (λ w. run l (AltStart k s alts) (w ++ lexeme q word.Arrow ∷ rest)) h ∙ takes_names (run l)
    (AltNames k s alts c.name c.at) (λ names n at rest. refl) [] names (lexeme q word.Arrow ∷ rest)
reads_pattern l k s alts (pattern.Int v at) ts q rest h = rw h.1 refl
reads_pattern l k s alts (pattern.Default x) ts q rest h = rw h refl

next_alt : (l : NestingLimit) (k : Cont) (s : Expr) (sofar : Alts) (p : Pattern) (e : Expr)
    (xs : Alts) (vs semi ws : List Lexeme) (q : ℕ) (rest : List Lexeme) → AfterAlt xs semi
    → SpellsAlts l (suc (nests k)) xs ws
    → ((x : Lexeme) (after : List Lexeme) → starts_atom x.token ≡ false
    → run l (Apply (InBody (AltBody k s sofar p)) NoTerms) (vs ++ x ∷ after) ≡ follow
    (give (AltBody k s sofar p) e x.at x.token) (x ∷ after) (λ st. run l st after))
    → ((front : Alts) → IsNonemptyAlts front → run l (AltStart k s front)
    (ws ++ lexeme q word.CloseBrace ∷ rest) ≡ run l (Ended k (Case s (front ⊹ xs))) rest)
    → run l (Apply (InBody (AltBody k s sofar p)) NoTerms)
    (vs ++ (semi ++ (ws ++ lexeme q word.CloseBrace ∷ rest))) ≡ run l
    (Ended k (Case s (sofar ⊹ AndAlt p e xs))) rest
next_alt l k s sofar p e NoAlts vs semi ws q rest (inl f) h body ih =
    ap (λ w. run l (Apply (InBody (AltBody k s sofar p)) NoTerms)
    (vs ++ (w ++ (ws ++ lexeme q word.CloseBrace ∷ rest)))) f
    ∙ ap (λ w. run l (Apply (InBody (AltBody k s sofar p)) NoTerms)
    (vs ++ (w ++ lexeme q word.CloseBrace ∷ rest))) h
    ∙ body (lexeme q word.CloseBrace) rest refl
next_alt l k s sofar p e NoAlts vs semi ws q rest (inr f) h body ih =
    ap (λ w. run l (Apply (InBody (AltBody k s sofar p)) NoTerms)
    (vs ++ (w ++ (ws ++ lexeme q word.CloseBrace ∷ rest)))) f.1
    ∙ body (lexeme f.0 word.Semicolon) (ws ++ lexeme q word.CloseBrace ∷ rest) refl
    ∙ ih (sofar ⊹ AndAlt p e NoAlts) (alts_last sofar p e)
    ∙ ap (λ w. run l (Ended k (Case s w)) rest) (alts_none (sofar ⊹ AndAlt p e NoAlts))
next_alt l k s sofar p e (AndAlt p2 e2 xs) vs semi ws q rest f h body ih =
    ap (λ w. run l (Apply (InBody (AltBody k s sofar p)) NoTerms)
    (vs ++ (w ++ (ws ++ lexeme q word.CloseBrace ∷ rest)))) f.1
    ∙ body (lexeme f.0 word.Semicolon) (ws ++ lexeme q word.CloseBrace ∷ rest) refl
    ∙ ih (sofar ⊹ AndAlt p e NoAlts) (alts_last sofar p e)
    ∙ ap (λ w. run l (Ended k (Case s w)) rest)
    (alts_then sofar (AndAlt p e NoAlts) (AndAlt p2 e2 xs))

mutual
  unfolding run

  pub reads_body : (l : NestingLimit) (k : Cont) (e : Expr) (ts : List Lexeme) (x : Lexeme)
      (rest : List Lexeme) → SpellsExpr l (nests k) e ts → starts_atom x.token ≡ false
      → run l (Apply (InBody k) NoTerms) (ts ++ x ∷ rest) ≡ follow (give k e x.at x.token)
      (x ∷ rest) (λ s. run l s rest)
  reads_body l k (App app) ts x rest h f = reads_all l (InBody k) NoTerms
      (AndTerm app.head app.args) ts (x ∷ rest) h ∙ ends_app l k app.head app.args x rest f
  reads_body l k (Let binds e) ts x rest h f =
      let us = h.2 in
      let vs = h.3 in
      let regroup : ts ++ x ∷ rest ≡ lexeme h.0 word.Let ∷
      (us ++ (lexeme h.1 word.In ∷ (vs ++ x ∷ rest))) = simp (h.8, append_assoc) in
      ap (run l (Apply (InBody k) NoTerms)) regroup
      ∙ ap (λ b. follow (cond b (go (BindName k [])) (stop (TooDeep h.0)))
      (lexeme h.0 word.Let ∷ (us ++ (lexeme h.1 word.In ∷ (vs ++ x ∷ rest))))
      (λ s. run l s (us ++ (lexeme h.1 word.In ∷ (vs ++ x ∷ rest))))) h.4
      ∙ reads_binds l k [] binds us h.1 (vs ++ x ∷ rest) h.5 h.6
      ∙ reads_body l (LetBody k binds) e vs x rest h.7 f
  reads_body l k (Case e alts) ts x rest h f =
      let us = h.4 in
      let vs = h.5 in
      let tail = vs ++ (lexeme h.3 word.CloseBrace ∷ x ∷ rest) in
      let regroup : ts ++ x ∷ rest ≡ lexeme h.0 word.Case ∷
      (us ++ (lexeme h.1 word.Of ∷ (lexeme h.2 word.OpenBrace ∷ tail)))
      = simp (h.10, append_assoc) in
      ap (run l (Apply (InBody k) NoTerms)) regroup
      ∙ ap (λ b. follow (cond b (go (Apply (InBody (Scrutinee k)) NoTerms)) (stop (TooDeep h.0)))
      (lexeme h.0 word.Case ∷ (us ++ (lexeme h.1 word.Of ∷ (lexeme h.2 word.OpenBrace ∷ tail))))
      (λ s. run l s (us ++ (lexeme h.1 word.Of ∷ (lexeme h.2 word.OpenBrace ∷ tail))))) h.6
      ∙ reads_body l (Scrutinee k) e us (lexeme h.1 word.Of) (lexeme h.2 word.OpenBrace ∷ tail) h.8
      refl
      ∙ reads_alts l k e NoAlts alts vs h.3 (x ∷ rest) h.7 h.9

  pub reads_alts : (l : NestingLimit) (k : Cont) (s : Expr) (sofar : Alts) (alts : Alts)
      (ts : List Lexeme) (q : ℕ) (rest : List Lexeme) → IsNonemptyAlts (sofar ⊹ alts)
      → SpellsAlts l (suc (nests k)) alts ts
      → run l (AltStart k s sofar) (ts ++ lexeme q word.CloseBrace ∷ rest) ≡ run l
      (Ended k (Case s (sofar ⊹ alts))) rest
  reads_alts l k s sofar NoAlts ts q rest some h =
      ap (λ w. run l (AltStart k s sofar) (w ++ lexeme q word.CloseBrace ∷ rest)) h
      ∙ brace_after l k s sofar q rest (subst IsNonemptyAlts (alts_none sofar) some)
      ∙ ap (λ w. run l (Ended k (Case s w)) rest) (sym (alts_none sofar))
  reads_alts l k s sofar (AndAlt p e xs) ts q rest some h =
      let us = h.0 in
      let vs = h.1 in
      let regroup : ts ++ lexeme q word.CloseBrace ∷ rest ≡ us
      ++ (lexeme h.4 word.Arrow ∷ (vs ++ (h.2 ++ (h.3 ++ lexeme q word.CloseBrace ∷ rest))))
      = simp (h.9, append_assoc) in
      ap (run l (AltStart k s sofar)) regroup
      ∙ reads_pattern l k s sofar p us h.4 (vs ++ (h.2 ++ (h.3 ++ lexeme q word.CloseBrace ∷ rest)))
      h.5
      ∙ next_alt l k s sofar p e xs vs h.2 h.3 q rest h.7 h.8
      (λ x after f. reads_body l (AltBody k s sofar p) e vs x after h.6 f)
      (λ front m. reads_alts l k s front xs h.3 q rest (alts_more front xs m) h.8)
