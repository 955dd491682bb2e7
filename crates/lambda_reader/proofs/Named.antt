-- The parameters of lambdas and of local functions, and the members of groups, as the code takes
-- them.
use Rattle.std.proofs.Common.{◌≡◌, ℕ, true, false, List, [], ◌∷◌, ◌++◌, refl, sym, ap, subst, ◌∙◌}
use Rattle.core_reader.specs.declared.syntax.NameId.{NameId}
use Rattle.core_reader.specs.declared.syntax.Binder.{Binder}
use Rattle.core_reader.specs.declared.token.Token.{Token}
use Rattle.core_reader.specs.declared.token.Token.TheVariants as word
use Rattle.core_reader.specs.declared.token.Lexeme.{Lexeme}
use Rattle.core_reader.specs.declared.refusal.ReadRefusal.{ReadRefusal}
use Rattle.core_reader.specs.Grammar.{NestingLimit, at_most_200, lexeme, binders}
use Rattle.core_reader.specs.Machine.{front, behind, refusal, starts_atom, is_name, Fails}
use Rattle.core_reader.proofs.ReadingOf.{takes_names, reads_names}
use Rattle.core_reader.proofs.Taking.{fails_from}
use Rattle.lambda_reader.specs.declared.syntax.App as app
use Rattle.lambda_reader.specs.declared.syntax.Bind.TheVariants as binds
use Rattle.lambda_reader.specs.declared.syntax.Expr as code-expr
use Rattle.lambda_reader.specs.Tree.{Terms, NoTerms, Group, NoBinds}
use Rattle.lambda_reader.specs.Code as code
use Rattle.lambda_reader.specs.Machine.{Cont, LambdaBody, FunctionBody, Frame, InBody, InBind, BindEquals, FunctionNames, LambdaNames, Ended, Apply, go, step, run, ◌⊕◌}
use Rattle.lambda_reader.specs.Reads.{whole, IsBehind}
use Rattle.lambda_reader.proofs.TreeOf.{member_of-Value, member_of-Function}
use Rattle.lambda_reader.proofs.Taking.{takes, refuses}
use Rattle.lambda_reader.proofs.Taken.{no_equals, no_function_equals, no_next, no_function_end}

module _ (l : NestingLimit) where
  pub lambda_names : (k : Frame) (held : Terms) (p : ℕ) (params : List Binder)
      (old new : List Lexeme) → old ≡ binders params ++ new
      → run true l (LambdaNames k held p []) old ≡ run true l (LambdaNames k held p params) new
  unfolding run
  lambda_names k held p params old new e = reads_names (run true l) (LambdaNames k held p)
      (λ names n at rest. refl) params old new e

  pub some_params : (k : Frame) (held : Terms) (p : ℕ) (params : List Binder) → (params ≡ [] → ⊥)
      → (at : ℕ) → step true l (LambdaNames k held p params) at word.Arrow ≡ go
      (Apply (InBody (LambdaBody k held p params)) NoTerms)
  some_params k held p [] h at = absurd (h refl)
  some_params k held p (b ∷ params) h at = refl

  -- the first parameter makes a function of a member
  first_name : (k : Cont) (bs : Group) (n : NameId) (p : ℕ) (b : Binder) (rest : List Lexeme)
      → run true l (BindEquals k bs n p) (lexeme b.at (word.Name b.name) ∷ rest) ≡ run true l
      (FunctionNames k bs n p (b ∷ [])) rest
  unfolding run
  first_name k bs n p b rest = refl

  function_names : (k : Cont) (bs : Group) (n : NameId) (p : ℕ) (b : Binder) (params : List Binder)
      (old new : List Lexeme) → old ≡ binders (b ∷ params) ++ new
      → run true l (BindEquals k bs n p) old ≡ run true l (FunctionNames k bs n p (b ∷ params)) new
  unfolding run
  function_names k bs n p b params old new e =
      ap (run true l (BindEquals k bs n p)) e
      ∙ first_name k bs n p b (binders params ++ new)
      ∙ takes_names (run true l) (FunctionNames k bs n p) (λ names m at rest. refl) (b ∷ []) params
      new

no_such : (token : Token) → is_name token ≡ false → (m : NameId) → token ≡ word.Name m → ⊥
no_such token w m h = let f : true ≡ false = subst (λ x. is_name x ≡ false) h w in cc

module _ (k : Cont) (bs : Group) (n : NameId) (p : ℕ) where
  -- no `=` stands behind the name and the parameters
  pub refuses_member : (params : List Binder) (ts1 ts2 : List Lexeme) (er : ReadRefusal)
      → ts1 ≡ binders params ++ ts2 → is_name (front ts2).token ≡ false
      → ((front ts2).token ≡ word.Equals → ⊥) → er ≡ refusal (front ts2)
      → Fails er (run true at_most_200 (BindEquals k bs n p) ts1)
  refuses_member [] ts1 ts2 er e w f is =
      fails_from er _ _ (ap (run true at_most_200 (BindEquals k bs n p)) e)
      (refuses true at_most_200 (BindEquals k bs n p) ts2 er is
      (no_equals true at_most_200 k bs n p (front ts2).at (front ts2).token f
      (no_such (front ts2).token w)))
  refuses_member (b ∷ params) ts1 ts2 er e w f is =
      fails_from er _ _ (function_names at_most_200 k bs n p b params ts1 ts2 e)
      (refuses true at_most_200 (FunctionNames k bs n p (b ∷ params)) ts2 er is
      (no_function_equals true at_most_200 k bs n p (b ∷ params) (front ts2).at
      (front ts2).token w f))

  pub takes_value : (params : List Binder) (ts1 ts2 ts3 : List Lexeme) → params ≡ []
      → ts1 ≡ binders params ++ ts2 → (front ts2).token ≡ word.Equals → ts3 ≡ behind ts2
      → run true at_most_200 (BindEquals k bs n p) ts1 ≡ run true at_most_200
      (Apply (InBind k bs n p) NoTerms) ts3
  takes_value params ts1 ts2 ts3 none e is after =
      ap (run true at_most_200 (BindEquals k bs n p)) (e ∙ ap (λ ps. binders ps ++ ts2) none)
      ∙ takes true at_most_200 (BindEquals k bs n p) (Apply (InBind k bs n p) NoTerms) ts2
      (front ts2) word.Equals ts3 refl is after refl

  pub takes_function : (params : List Binder) (ts1 ts2 ts3 : List Lexeme) → (params ≡ [] → ⊥)
      → ts1 ≡ binders params ++ ts2 → (front ts2).token ≡ word.Equals → ts3 ≡ behind ts2
      → run true at_most_200 (BindEquals k bs n p) ts1 ≡ run true at_most_200
      (Apply (InBody (FunctionBody k bs n p params)) NoTerms) ts3
  takes_function [] ts1 ts2 ts3 some e is after = absurd (some refl)
  takes_function (b ∷ params) ts1 ts2 ts3 some e is after =
      function_names at_most_200 k bs n p b params ts1 ts2 e
      ∙ takes true at_most_200 (FunctionNames k bs n p (b ∷ params))
      (Apply (InBody (FunctionBody k bs n p (b ∷ params))) NoTerms) ts2 (front ts2) word.Equals
      ts3 refl is after refl

-- what stands behind a whole member
pub behind_value : (k : Cont) (bs : Group) (b : Binder) (a : app.App) (x : Lexeme)
    → starts_atom x.token ≡ false → IsBehind true (Apply (InBind k bs b.name b.at) (whole a)) k
    (bs ⊕ code.member (binds.Value b a) NoBinds) x
behind_value k bs b a x f =
    subst (λ g. IsBehind true (Apply (InBind k bs b.name b.at) (whole a)) k (bs ⊕ g) x)
    (sym (member_of-Value b a NoBinds))
    (record {
      next = λ at. refl;
      body = λ at. refl;
      others
          = λ h g. no_next true at_most_200 k bs b.name b.at _ _ x.at x.token f g h;
    })

pub behind_function : (k : Cont) (bs : Group) (b : Binder) (params : List Binder)
    (e : code-expr.Expr) (x : Lexeme) → IsBehind true
    (Ended (FunctionBody k bs b.name b.at params) (code.expr e)) k
    (bs ⊕ code.member (binds.Function b params e) NoBinds) x
behind_function k bs b params e x =
    subst (λ g. IsBehind true (Ended (FunctionBody k bs b.name b.at params) (code.expr e)) k
    (bs ⊕ g) x) (sym (member_of-Function b params e NoBinds))
    (record {
      next = λ at. refl;
      body = λ at. refl;
      others
          = λ h g. no_function_end true at_most_200 k bs b.name b.at params (code.expr e) x.at x.token
          h g;
    })
