-- What spells an expression is read as that expression, with lambdas and local functions or
-- without.
use Rattle.std.proofs.Common.{◌≡◌, ℕ, suc, Bool, true, false, cond, List, [], ◌∷◌, ◌++◌, refl, sym, ap, subst, ◌∙◌, append_assoc, inl, inr}
use Rattle.core_reader.specs.declared.syntax.NameId.{NameId}
use Rattle.core_reader.specs.declared.syntax.Binder.{Binder}
use Rattle.core_reader.specs.declared.syntax.Pattern.{Pattern}
use Rattle.core_reader.specs.declared.syntax.Pattern.TheVariants as pattern
use Rattle.core_reader.specs.declared.token.Token.{Token}
use Rattle.core_reader.specs.declared.token.Token.TheVariants as word
use Rattle.core_reader.specs.declared.token.Further.TheVariants.{Backslash}
use Rattle.core_reader.specs.declared.token.Lexeme.{Lexeme}
use Rattle.core_reader.specs.declared.refusal.ReadRefusal.TheVariants.{Syntax, TooDeep}
use Rattle.lambda_reader.specs.Tree.{Term, Terms, NoTerms, AndTerm, Group, NoBinds, AndValue, AndFunction, Expr, App, Let, Case, Alts, NoAlts, AndAlt}
use Rattle.lambda_reader.specs.Tree as tree
use Rattle.core_reader.specs.Grammar.{NestingLimit, lexeme, binders, SpellsPattern}
use Rattle.lambda_reader.specs.Grammar.{HasParameter, SpellsTerm, SpellsTerms, AfterMember, IsGroup, SpellsGroup, IsNonemptyAlts, AfterAlt, SpellsExpr, SpellsAlts}
use Rattle.core_reader.specs.Machine.{starts_atom}
use Rattle.lambda_reader.specs.Machine.{Cont, LetBody, Scrutinee, AltBody, LambdaBody, FunctionBody, nests, Frame, InBody, InBind, Inside, opens, BindName, FunctionNames, LambdaNames, Ended, AltStart, AltNames, give, State, Apply, go, stop, step, follow, run, with_last, ◌⊹◌, ◌⊕◌}
use Rattle.core_reader.proofs.ReadingOf.{takes_names, reads_names}

infixr 20 ◌⧺◌
abbrev pub ◌⧺◌ : Terms → Terms → Terms
NoTerms ⧺ bs = bs
(AndTerm a xs) ⧺ bs = AndTerm a (xs ⧺ bs)

then_none : (xs : Terms) → xs ⧺ NoTerms ≡ xs
then_none NoTerms = refl
then_none (AndTerm a xs) = ap (AndTerm a) (then_none xs)

last_then : (xs : Terms) (a : Term) (ys : Terms) → with_last xs a ⧺ ys ≡ xs ⧺ AndTerm a ys
last_then NoTerms a ys = refl
last_then (AndTerm b xs) a ys = ap (AndTerm b) (last_then xs a ys)

group_none : (xs : Group) → xs ⊕ NoBinds ≡ xs
group_none NoBinds = refl
group_none (AndValue b head args rest) = ap (AndValue b head args) (group_none rest)
group_none (AndFunction b params body rest) = ap (AndFunction b params body) (group_none rest)

group_then : (xs ys zs : Group) → (xs ⊕ ys) ⊕ zs ≡ xs ⊕ (ys ⊕ zs)
group_then NoBinds ys zs = refl
group_then (AndValue b head args rest) ys zs = ap (AndValue b head args) (group_then rest ys zs)
group_then (AndFunction b params body rest) ys zs = ap (AndFunction b params body)
    (group_then rest ys zs)

pub group_more : (xs ys : Group) → IsGroup xs → IsGroup (xs ⊕ ys)
group_more NoBinds ys h = absurd h
group_more (AndValue b head args rest) ys h = tt
group_more (AndFunction b params body rest) ys h = tt

pub some_last : (xs ys : Group) → IsGroup ys → IsGroup (xs ⊕ ys)
some_last NoBinds ys h = h
some_last (AndValue b head args rest) ys h = tt
some_last (AndFunction b params body rest) ys h = tt

alts_none : (xs : Alts) → xs ⊹ NoAlts ≡ xs
alts_none NoAlts = refl
alts_none (AndAlt p e xs) = ap (AndAlt p e) (alts_none xs)

alts_then : (xs ys zs : Alts) → (xs ⊹ ys) ⊹ zs ≡ xs ⊹ (ys ⊹ zs)
alts_then NoAlts ys zs = refl
alts_then (AndAlt p e xs) ys zs = ap (AndAlt p e) (alts_then xs ys zs)

pub alts_last : (xs : Alts) (p : Pattern) (e : Expr) → IsNonemptyAlts (xs ⊹ AndAlt p e NoAlts)
alts_last NoAlts p e = tt
alts_last (AndAlt q f xs) p e = tt

alts_more : (xs ys : Alts) → IsNonemptyAlts xs → IsNonemptyAlts (xs ⊹ ys)
alts_more NoAlts ys h = absurd h
alts_more (AndAlt q f xs) ys h = tt

module _ (lambdas : Bool) (l : NestingLimit) where
  closes : (k : Frame) (held : Terms) (at : ℕ) (a : Term) (xs : Terms) (end : ℕ)
      (rest : List Lexeme)
      → run lambdas l (Apply (Inside k held at) (AndTerm a xs)) (lexeme end word.Close ∷ rest) ≡ run
      lambdas l (Apply k (with_last held (tree.Bracket a xs at))) rest
  unfolding run
  closes k held at a xs end rest = refl

  pub ends_step : (k : Cont) (a : Term) (xs : Terms) (at : ℕ) (token : Token)
      → starts_atom token ≡ false → step lambdas l (Apply (InBody k) (AndTerm a xs)) at token ≡ give
      k (App a xs) at token
  ends_step k a xs at (word.Name n) e = absurd cc
  ends_step k a xs at (word.Con n) e = absurd cc
  ends_step k a xs at (word.Number minus v) e = absurd cc
  ends_step k a xs at (word.Large minus) e = absurd cc
  ends_step k a xs at word.Open e = absurd cc
  ends_step k a xs at token e = refl

  pub ends_app : (k : Cont) (a : Term) (xs : Terms) (x : Lexeme) (rest : List Lexeme)
      → starts_atom x.token ≡ false
      → run lambdas l (Apply (InBody k) (AndTerm a xs)) (x ∷ rest) ≡ follow
      (give k (App a xs) x.at x.token) (x ∷ rest) (λ s. run lambdas l s rest)
  unfolding run
  ends_app k a xs x rest e = ap (λ st. follow st (x ∷ rest) (λ s. run lambdas l s rest))
      (ends_step k a xs x.at x.token e)

  -- `in` after a `;`
  in_after : (k : Cont) (bs : Group) (q : ℕ) (rest : List Lexeme) → IsGroup bs
      → run lambdas l (BindName k bs) (lexeme q word.In ∷ rest) ≡ run lambdas l
      (Apply (InBody (LetBody k bs)) NoTerms) rest
  unfolding run
  in_after k NoBinds q rest h = absurd h
  in_after k (AndValue b head args more) q rest h = refl
  in_after k (AndFunction b params body more) q rest h = refl

  -- what follows a member: `;`, or `in`
  abbrev Follows : State → Cont → Group → Type 0
  Follows s k bs =
      ((q : ℕ) (rest : List Lexeme) → run lambdas l s (lexeme q word.Semicolon ∷ rest) ≡ run lambdas
      l (BindName k bs) rest)
      × ((q : ℕ) (rest : List Lexeme) → run lambdas l s (lexeme q word.In ∷ rest) ≡ run lambdas l
      (Apply (InBody (LetBody k bs)) NoTerms) rest)

  abbrev NextOf : Cont → Group → Group → List Lexeme → ℕ → List Lexeme → Type 0
  NextOf k front bs vs q rest = IsGroup front → run lambdas l (BindName k front)
      (vs ++ lexeme q word.In ∷ rest) ≡ run lambdas l
      (Apply (InBody (LetBody k (front ⊕ bs))) NoTerms) rest

  next_member : (k : Cont) (s : State) (front bs : Group) (semi vs : List Lexeme) (q : ℕ)
      (rest : List Lexeme) → Follows s k front → IsGroup front → AfterMember bs semi
      → SpellsGroup lambdas l (suc (nests k)) bs vs
      → NextOf k front bs vs q rest
      → run lambdas l s (semi ++ (vs ++ lexeme q word.In ∷ rest)) ≡ run lambdas l
      (Apply (InBody (LetBody k (front ⊕ bs))) NoTerms) rest
  next_member k s front NoBinds semi vs q rest f some (inl e) h ih =
      ap (λ w. run lambdas l s (w ++ (vs ++ lexeme q word.In ∷ rest))) e
      ∙ ap (λ w. run lambdas l s (w ++ lexeme q word.In ∷ rest)) h
      ∙ f.1 q rest
      ∙ ap (λ w. run lambdas l (Apply (InBody (LetBody k w)) NoTerms) rest) (sym (group_none front))
  next_member k s front NoBinds semi vs q rest f some (inr e) h ih =
      ap (λ w. run lambdas l s (w ++ (vs ++ lexeme q word.In ∷ rest))) e.1 ∙ f.0 e.0
      (vs ++ lexeme q word.In ∷ rest) ∙ ih some
  next_member k s front (AndValue b head args more) semi vs q rest f some e h ih =
      ap (λ w. run lambdas l s (w ++ (vs ++ lexeme q word.In ∷ rest))) e.1 ∙ f.0 e.0
      (vs ++ lexeme q word.In ∷ rest) ∙ ih some
  next_member k s front (AndFunction b params body more) semi vs q rest f some e h ih =
      ap (λ w. run lambdas l s (w ++ (vs ++ lexeme q word.In ∷ rest))) e.1 ∙ f.0 e.0
      (vs ++ lexeme q word.In ∷ rest) ∙ ih some

  after_value : (k : Cont) (sofar : Group) (b : Binder) (a : Term) (xs : Terms)
      → Follows (Apply (InBind k sofar b.name b.at) (AndTerm a xs)) k
      (sofar ⊕ AndValue b a xs NoBinds)
  unfolding run
  after_value k sofar b a xs = (λ q rest. refl, λ q rest. refl)

  brace_after : (k : Cont) (s : Expr) (xs : Alts) (q : ℕ) (rest : List Lexeme) → IsNonemptyAlts xs
      → run lambdas l (AltStart k s xs) (lexeme q word.CloseBrace ∷ rest) ≡ run lambdas l
      (Ended k (Case s xs)) rest
  unfolding run
  brace_after k s NoAlts q rest h = absurd h
  brace_after k s (AndAlt p e xs) q rest h = refl

  pub alt_names : (k : Cont) (s : Expr) (alts : Alts) (n : NameId) (p : ℕ) (names : List Binder)
      (old new : List Lexeme) → old ≡ binders names ++ new
      → run lambdas l (AltNames k s alts n p []) old ≡ run lambdas l (AltNames k s alts n p names)
      new
  unfolding run
  alt_names k s alts n p names old new e = reads_names (run lambdas l) (AltNames k s alts n p)
      (λ names n at rest. refl) names old new e

  reads_pattern : (k : Cont) (s : Expr) (alts : Alts) (p : Pattern) (ts : List Lexeme) (q : ℕ)
      (rest : List Lexeme) → SpellsPattern p ts
      → run lambdas l (AltStart k s alts) (ts ++ lexeme q word.Arrow ∷ rest) ≡ run lambdas l
      (Apply (InBody (AltBody k s alts p)) NoTerms) rest
  unfolding run
  reads_pattern k s alts (pattern.Con c names) ts q rest h
      = ap (λ w. run lambdas l (AltStart k s alts) (w ++ lexeme q word.Arrow ∷ rest)) h ∙
      takes_names (run lambdas l) (AltNames k s alts c.name c.at) (λ names n at rest. refl) [] names
      (lexeme q word.Arrow ∷ rest)
  reads_pattern k s alts (pattern.Int v at) ts q rest h = rw h.1 refl
  reads_pattern k s alts (pattern.Default x) ts q rest h = rw h refl

  next_alt : (k : Cont) (s : Expr) (sofar : Alts) (p : Pattern) (e : Expr) (xs : Alts)
      (vs semi ws : List Lexeme) (q : ℕ) (rest : List Lexeme) → AfterAlt xs semi
      → SpellsAlts lambdas l (suc (nests k)) xs ws
      → ((x : Lexeme) (after : List Lexeme) → starts_atom x.token ≡ false
      → run lambdas l (Apply (InBody (AltBody k s sofar p)) NoTerms) (vs ++ x ∷ after) ≡ follow
      (give (AltBody k s sofar p) e x.at x.token) (x ∷ after) (λ st. run lambdas l st after))
      → ((front : Alts) → IsNonemptyAlts front → run lambdas l (AltStart k s front)
      (ws ++ lexeme q word.CloseBrace ∷ rest) ≡ run lambdas l (Ended k (Case s (front ⊹ xs)))
      rest)
      → run lambdas l (Apply (InBody (AltBody k s sofar p)) NoTerms)
      (vs ++ (semi ++ (ws ++ lexeme q word.CloseBrace ∷ rest))) ≡ run lambdas l
      (Ended k (Case s (sofar ⊹ AndAlt p e xs))) rest
  next_alt k s sofar p e NoAlts vs semi ws q rest (inl f) h body ih =
      ap (λ w. run lambdas l (Apply (InBody (AltBody k s sofar p)) NoTerms)
      (vs ++ (w ++ (ws ++ lexeme q word.CloseBrace ∷ rest)))) f
      ∙ ap (λ w. run lambdas l (Apply (InBody (AltBody k s sofar p)) NoTerms)
      (vs ++ (w ++ lexeme q word.CloseBrace ∷ rest))) h
      ∙ body (lexeme q word.CloseBrace) rest refl
  next_alt k s sofar p e NoAlts vs semi ws q rest (inr f) h body ih =
      ap (λ w. run lambdas l (Apply (InBody (AltBody k s sofar p)) NoTerms)
      (vs ++ (w ++ (ws ++ lexeme q word.CloseBrace ∷ rest)))) f.1
      ∙ body (lexeme f.0 word.Semicolon) (ws ++ lexeme q word.CloseBrace ∷ rest) refl
      ∙ ih (sofar ⊹ AndAlt p e NoAlts) (alts_last sofar p e)
      ∙ ap (λ w. run lambdas l (Ended k (Case s w)) rest) (alts_none (sofar ⊹ AndAlt p e NoAlts))
  next_alt k s sofar p e (AndAlt p2 e2 xs) vs semi ws q rest f h body ih =
      ap (λ w. run lambdas l (Apply (InBody (AltBody k s sofar p)) NoTerms)
      (vs ++ (w ++ (ws ++ lexeme q word.CloseBrace ∷ rest)))) f.1
      ∙ body (lexeme f.0 word.Semicolon) (ws ++ lexeme q word.CloseBrace ∷ rest) refl
      ∙ ih (sofar ⊹ AndAlt p e NoAlts) (alts_last sofar p e)
      ∙ ap (λ w. run lambdas l (Ended k (Case s w)) rest)
      (alts_then sofar (AndAlt p e NoAlts) (AndAlt p2 e2 xs))

  -- a bracket, and a lambda up to its body
  opens_in : (k : Frame) (held : Terms) (at : ℕ) (ts : List Lexeme) → l (opens k) ≡ true
      → run lambdas l (Apply k held) (lexeme at word.Open ∷ ts) ≡ run lambdas l
      (Apply (Inside k held at) NoTerms) ts
  unfolding run
  opens_in k held at ts e = ap
      (λ b. follow (cond b (go (Apply (Inside k held at) NoTerms)) (stop (TooDeep at)))
      (lexeme at word.Open ∷ ts) (λ s. run lambdas l s ts)) e

  names_lambda : (k : Frame) (held : Terms) (p at : ℕ) (ts : List Lexeme) → lambdas ≡ true
      → run lambdas l (Apply (Inside k held p) NoTerms) (lexeme at (word.Further Backslash) ∷ ts) ≡
      run lambdas l (LambdaNames k held at []) ts
  unfolding run
  names_lambda k held p at ts e = ap
      (λ b. follow (cond b (go (LambdaNames k held at [])) (stop (Syntax at)))
      (lexeme at (word.Further Backslash) ∷ ts) (λ s. run lambdas l s ts)) e

  arrow_lambda : (k : Frame) (held : Terms) (at : ℕ) (params : List Binder) (q : ℕ)
      (ts : List Lexeme) → HasParameter params → run lambdas l (LambdaNames k held at params)
      (lexeme q word.Arrow ∷ ts) ≡ run lambdas l
      (Apply (InBody (LambdaBody k held at params)) NoTerms) ts
  unfolding run
  arrow_lambda k held at [] q ts h = absurd h
  arrow_lambda k held at (b ∷ params) q ts h = refl

  begins_lambda : (k : Frame) (held : Terms) (at : ℕ) (params : List Binder) (start arrow : ℕ)
      (ts : List Lexeme) → lambdas ≡ true → l (opens k) ≡ true → HasParameter params
      → run lambdas l (Apply k held)
      (lexeme start word.Open ∷ lexeme at (word.Further Backslash) ∷
      (binders params ++ (lexeme arrow word.Arrow ∷ ts))) ≡ run lambdas l
      (Apply (InBody (LambdaBody k held at params)) NoTerms) ts
  unfolding run
  begins_lambda k held at params start arrow ts on room some =
      opens_in k held start
      (lexeme at (word.Further Backslash) ∷ (binders params ++ (lexeme arrow word.Arrow ∷ ts)))
      room
      ∙ names_lambda k held start at (binders params ++ (lexeme arrow word.Arrow ∷ ts)) on
      ∙ takes_names (run lambdas l) (LambdaNames k held at) (λ names n at rest. refl) [] params
      (lexeme arrow word.Arrow ∷ ts)
      ∙ arrow_lambda k held at params arrow ts some

  -- a local function up to its body
  begins_function : (k : Cont) (bs : Group) (b : Binder) (params : List Binder) (equals : ℕ)
      (ts : List Lexeme) → lambdas ≡ true → HasParameter params
      → run lambdas l (BindName k bs)
      (lexeme b.at (word.Name b.name) ∷ (binders params ++ (lexeme equals word.Equals ∷ ts))) ≡
      run lambdas l (Apply (InBody (FunctionBody k bs b.name b.at params)) NoTerms) ts
  unfolding run
  begins_function k bs b [] equals ts on some = absurd some
  begins_function k bs b (x ∷ params) equals ts on some =
      let rest : List Lexeme = binders params ++ (lexeme equals word.Equals ∷ ts) in
      ap (λ o. follow (cond o (go (FunctionNames k bs b.name b.at (x ∷ []))) (stop (Syntax x.at)))
      (lexeme x.at (word.Name x.name) ∷ rest) (λ s. run lambdas l s rest)) on
      ∙ takes_names (run lambdas l) (FunctionNames k bs b.name b.at) (λ names n at rest. refl)
      (x ∷ []) params (lexeme equals word.Equals ∷ ts)

  -- behind the body of a local function
  next_function : (k : Cont) (sofar : Group) (b : Binder) (params : List Binder) (e : Expr)
      (us : List Lexeme) (more : Group) (semi vs : List Lexeme) (q : ℕ) (rest : List Lexeme)
      → AfterMember more semi → SpellsGroup lambdas l (suc (nests k)) more vs
      → ((x : Lexeme) (after : List Lexeme) → starts_atom x.token ≡ false
      → run lambdas l (Apply (InBody (FunctionBody k sofar b.name b.at params)) NoTerms)
      (us ++ x ∷ after) ≡ follow (give (FunctionBody k sofar b.name b.at params) e x.at x.token)
      (x ∷ after) (λ st. run lambdas l st after))
      → NextOf k (sofar ⊕ AndFunction b params e NoBinds) more vs q rest
      → run lambdas l (Apply (InBody (FunctionBody k sofar b.name b.at params)) NoTerms)
      (us ++ (semi ++ (vs ++ lexeme q word.In ∷ rest))) ≡ run lambdas l
      (Apply (InBody (LetBody k ((sofar ⊕ AndFunction b params e NoBinds) ⊕ more))) NoTerms)
      rest
  next_function k sofar b params e us NoBinds semi vs q rest (inl f) h body ih =
      ap (λ w. run lambdas l (Apply (InBody (FunctionBody k sofar b.name b.at params)) NoTerms)
      (us ++ (w ++ (vs ++ lexeme q word.In ∷ rest)))) f
      ∙ ap (λ w. run lambdas l (Apply (InBody (FunctionBody k sofar b.name b.at params)) NoTerms)
      (us ++ (w ++ lexeme q word.In ∷ rest))) h
      ∙ body (lexeme q word.In) rest refl
      ∙ ap (λ w. run lambdas l (Apply (InBody (LetBody k w)) NoTerms) rest)
      (sym (group_none (sofar ⊕ AndFunction b params e NoBinds)))
  next_function k sofar b params e us NoBinds semi vs q rest (inr f) h body ih =
      ap (λ w. run lambdas l (Apply (InBody (FunctionBody k sofar b.name b.at params)) NoTerms)
      (us ++ (w ++ (vs ++ lexeme q word.In ∷ rest)))) f.1
      ∙ body (lexeme f.0 word.Semicolon) (vs ++ lexeme q word.In ∷ rest) refl ∙ ih
      (some_last sofar (AndFunction b params e NoBinds) tt)
  next_function k sofar b params e us (AndValue c head args more) semi vs q rest f h body ih =
      ap (λ w. run lambdas l (Apply (InBody (FunctionBody k sofar b.name b.at params)) NoTerms)
      (us ++ (w ++ (vs ++ lexeme q word.In ∷ rest)))) f.1
      ∙ body (lexeme f.0 word.Semicolon) (vs ++ lexeme q word.In ∷ rest) refl ∙ ih
      (some_last sofar (AndFunction b params e NoBinds) tt)
  next_function k sofar b params e us (AndFunction c more_params more_body more) semi vs q rest f h
      body ih =
      ap (λ w. run lambdas l (Apply (InBody (FunctionBody k sofar b.name b.at params)) NoTerms)
      (us ++ (w ++ (vs ++ lexeme q word.In ∷ rest)))) f.1
      ∙ body (lexeme f.0 word.Semicolon) (vs ++ lexeme q word.In ∷ rest) refl ∙ ih
      (some_last sofar (AndFunction b params e NoBinds) tt)

  mutual
    unfolding run

    pub reads_atom : (k : Frame) (held : Terms) (a : Term) (ts rest : List Lexeme)
        → SpellsTerm lambdas l (opens k) a ts
        → run lambdas l (Apply k held) (ts ++ rest) ≡ run lambdas l (Apply k (with_last held a))
        rest
    reads_atom k held (tree.Name n at) ts rest h = rw h refl
    reads_atom k held (tree.Con n at) ts rest h = rw h refl
    reads_atom k held (tree.Int v at) ts rest h = rw h.1 refl
    reads_atom k held (tree.Bracket a xs at) ts rest h =
        let us = h.0 in
        let vs = h.1 in
        let close = lexeme h.2 word.Close ∷ [] in
        let regroup : ts ++ rest ≡ lexeme at word.Open ∷ (us ++ (vs ++ (close ++ rest)))
        = simp (h.6, append_assoc) in
        ap (run lambdas l (Apply k held)) regroup
        ∙ opens_in k held at (us ++ (vs ++ (close ++ rest))) h.3
        ∙ reads_atom (Inside k held at) NoTerms a us (vs ++ (close ++ rest)) h.4
        ∙ reads_all (Inside k held at) (AndTerm a NoTerms) xs vs (close ++ rest) h.5
        ∙ closes k held at a xs h.2 rest
    reads_atom k held (tree.Lambda params e at) ts rest h =
        let us = h.3 in
        let regroup : ts ++ rest ≡ lexeme h.0 word.Open ∷ lexeme at (word.Further Backslash) ∷
        (binders params ++ (lexeme h.1 word.Arrow ∷ (us ++ (lexeme h.2 word.Close ∷ rest))))
        = simp (h.8, append_assoc) in
        ap (run lambdas l (Apply k held)) regroup
        ∙ begins_lambda k held at params h.0 h.1 (us ++ (lexeme h.2 word.Close ∷ rest)) h.4 h.5 h.6
        ∙ reads_body (LambdaBody k held at params) e us (lexeme h.2 word.Close) rest h.7 refl

    pub reads_all : (k : Frame) (held : Terms) (xs : Terms) (ts rest : List Lexeme)
        → SpellsTerms lambdas l (opens k) xs ts
        → run lambdas l (Apply k held) (ts ++ rest) ≡ run lambdas l (Apply k (held ⧺ xs)) rest
    reads_all k held NoTerms ts rest h = rw (h, then_none held) refl
    reads_all k held (AndTerm a xs) ts rest h =
        let us = h.0 in
        let vs = h.1 in
        ap (λ w. run lambdas l (Apply k held) (w ++ rest)) h.4
        ∙ ap (run lambdas l (Apply k held)) (append_assoc us vs rest)
        ∙ reads_atom k held a us (vs ++ rest) h.2
        ∙ reads_all k (with_last held a) xs vs rest h.3
        ∙ ap (λ w. run lambdas l (Apply k w) rest) (last_then held a xs)

    pub reads_group : (k : Cont) (sofar bs : Group) (ts : List Lexeme) (q : ℕ) (rest : List Lexeme)
        → IsGroup (sofar ⊕ bs) → SpellsGroup lambdas l (suc (nests k)) bs ts
        → run lambdas l (BindName k sofar) (ts ++ lexeme q word.In ∷ rest) ≡ run lambdas l
        (Apply (InBody (LetBody k (sofar ⊕ bs))) NoTerms) rest
    reads_group k sofar NoBinds ts q rest some h =
        ap (λ w. run lambdas l (BindName k sofar) (w ++ lexeme q word.In ∷ rest)) h
        ∙ in_after k sofar q rest (subst IsGroup (group_none sofar) some)
        ∙ ap (λ w. run lambdas l (Apply (InBody (LetBody k w)) NoTerms) rest)
        (sym (group_none sofar))
    reads_group k sofar (AndValue b a xs more) ts q rest some h =
        let us = h.1 in
        let vs = h.2 in
        let tail = h.3 ++ (h.4 ++ lexeme q word.In ∷ rest) in
        let one = AndValue b a xs NoBinds in
        let regroup : ts ++ lexeme q word.In ∷ rest ≡ lexeme b.at (word.Name b.name) ∷ lexeme h.0
        word.Equals ∷ (us ++ (vs ++ tail)) = simp (h.9, append_assoc) in
        ap (run lambdas l (BindName k sofar)) regroup
        ∙ reads_atom (InBind k sofar b.name b.at) NoTerms a us (vs ++ tail) h.5
        ∙ reads_all (InBind k sofar b.name b.at) (AndTerm a NoTerms) xs vs tail h.6
        ∙ next_member k (Apply (InBind k sofar b.name b.at) (AndTerm a xs)) (sofar ⊕ one) more h.3
        h.4 q rest (after_value k sofar b a xs) (some_last sofar one tt) h.7 h.8
        (λ s. reads_group k (sofar ⊕ one) more h.4 q rest (group_more (sofar ⊕ one) more s) h.8)
        ∙ ap (λ w. run lambdas l (Apply (InBody (LetBody k w)) NoTerms) rest)
        (group_then sofar one more)
    reads_group k sofar (AndFunction b params e more) ts q rest some h =
        let us = h.1 in
        let tail = h.2 ++ (h.3 ++ lexeme q word.In ∷ rest) in
        let one = AndFunction b params e NoBinds in
        let regroup : ts ++ lexeme q word.In ∷ rest ≡ lexeme b.at (word.Name b.name) ∷
        (binders params ++ (lexeme h.0 word.Equals ∷ (us ++ tail))) = simp (h.9, append_assoc)
        in
        ap (run lambdas l (BindName k sofar)) regroup
        ∙ begins_function k sofar b params h.0 (us ++ tail) h.4 h.5
        ∙ next_function k sofar b params e us more h.2 h.3 q rest h.7 h.8
        (λ x after f. reads_body (FunctionBody k sofar b.name b.at params) e us x after h.6 f)
        (λ s. reads_group k (sofar ⊕ one) more h.3 q rest (group_more (sofar ⊕ one) more s) h.8)
        ∙ ap (λ w. run lambdas l (Apply (InBody (LetBody k w)) NoTerms) rest)
        (group_then sofar one more)

    pub reads_body : (k : Cont) (e : Expr) (ts : List Lexeme) (x : Lexeme) (rest : List Lexeme)
        → SpellsExpr lambdas l (nests k) e ts → starts_atom x.token ≡ false
        → run lambdas l (Apply (InBody k) NoTerms) (ts ++ x ∷ rest) ≡ follow (give k e x.at x.token)
        (x ∷ rest) (λ s. run lambdas l s rest)
    reads_body k (App a xs) ts x rest h f =
        let regroup : ts ++ x ∷ rest ≡ h.0 ++ (h.1 ++ x ∷ rest) = simp (h.4, append_assoc) in
        ap (run lambdas l (Apply (InBody k) NoTerms)) regroup
        ∙ reads_atom (InBody k) NoTerms a h.0 (h.1 ++ x ∷ rest) h.2
        ∙ reads_all (InBody k) (AndTerm a NoTerms) xs h.1 (x ∷ rest) h.3
        ∙ ends_app k a xs x rest f
    reads_body k (Let group e) ts x rest h f =
        let us = h.2 in
        let vs = h.3 in
        let regroup : ts ++ x ∷ rest ≡ lexeme h.0 word.Let ∷
        (us ++ (lexeme h.1 word.In ∷ (vs ++ x ∷ rest))) = simp (h.8, append_assoc) in
        ap (run lambdas l (Apply (InBody k) NoTerms)) regroup
        ∙ ap (λ b. follow (cond b (go (BindName k NoBinds)) (stop (TooDeep h.0)))
        (lexeme h.0 word.Let ∷ (us ++ (lexeme h.1 word.In ∷ (vs ++ x ∷ rest))))
        (λ s. run lambdas l s (us ++ (lexeme h.1 word.In ∷ (vs ++ x ∷ rest))))) h.4
        ∙ reads_group k NoBinds group us h.1 (vs ++ x ∷ rest) h.5 h.6
        ∙ reads_body (LetBody k group) e vs x rest h.7 f
    reads_body k (Case e alts) ts x rest h f =
        let us = h.4 in
        let vs = h.5 in
        let tail = vs ++ (lexeme h.3 word.CloseBrace ∷ x ∷ rest) in
        let regroup : ts ++ x ∷ rest ≡ lexeme h.0 word.Case ∷
        (us ++ (lexeme h.1 word.Of ∷ (lexeme h.2 word.OpenBrace ∷ tail)))
        = simp (h.10, append_assoc) in
        ap (run lambdas l (Apply (InBody k) NoTerms)) regroup
        ∙ ap (λ b. follow (cond b (go (Apply (InBody (Scrutinee k)) NoTerms)) (stop (TooDeep h.0)))
        (lexeme h.0 word.Case ∷
        (us ++ (lexeme h.1 word.Of ∷ (lexeme h.2 word.OpenBrace ∷ tail))))
        (λ s. run lambdas l s
        (us ++ (lexeme h.1 word.Of ∷ (lexeme h.2 word.OpenBrace ∷ tail))))) h.6
        ∙ reads_body (Scrutinee k) e us (lexeme h.1 word.Of) (lexeme h.2 word.OpenBrace ∷ tail) h.8
        refl
        ∙ reads_alts k e NoAlts alts vs h.3 (x ∷ rest) h.7 h.9

    pub reads_alts : (k : Cont) (s : Expr) (sofar : Alts) (alts : Alts) (ts : List Lexeme) (q : ℕ)
        (rest : List Lexeme) → IsNonemptyAlts (sofar ⊹ alts)
        → SpellsAlts lambdas l (suc (nests k)) alts ts
        → run lambdas l (AltStart k s sofar) (ts ++ lexeme q word.CloseBrace ∷ rest) ≡ run lambdas l
        (Ended k (Case s (sofar ⊹ alts))) rest
    reads_alts k s sofar NoAlts ts q rest some h =
        ap (λ w. run lambdas l (AltStart k s sofar) (w ++ lexeme q word.CloseBrace ∷ rest)) h
        ∙ brace_after k s sofar q rest (subst IsNonemptyAlts (alts_none sofar) some)
        ∙ ap (λ w. run lambdas l (Ended k (Case s w)) rest) (sym (alts_none sofar))
    reads_alts k s sofar (AndAlt p e xs) ts q rest some h =
        let us = h.0 in
        let vs = h.1 in
        let regroup : ts ++ lexeme q word.CloseBrace ∷ rest ≡ us
        ++ (lexeme h.4 word.Arrow ∷ (vs ++ (h.2 ++ (h.3 ++ lexeme q word.CloseBrace ∷ rest))))
        = simp (h.9, append_assoc) in
        ap (run lambdas l (AltStart k s sofar)) regroup
        ∙ reads_pattern k s sofar p us h.4 (vs ++ (h.2 ++ (h.3 ++ lexeme q word.CloseBrace ∷ rest)))
        h.5
        ∙ next_alt k s sofar p e xs vs h.2 h.3 q rest h.7 h.8
        (λ x after f. reads_body (AltBody k s sofar p) e vs x after h.6 f)
        (λ front m. reads_alts k s front xs h.3 q rest (alts_more front xs m) h.8)
