-- Which tokens cannot stand in a state of the reading of an expression, and what opens one more
-- construct.
use Rattle.std.proofs.Common.{◌≡◌, ℕ, ◌<◌, ◌≤◌, Bool, true, false, cond, List, [], ◌∷◌, refl, sym, ap, subst, ◌∙◌, arith, ltb}
use Rattle.std.specs.Prelude.{ℤ}
use Rattle.std.proofs.lemmas.Bool.{le-ltb}
use Rattle.core_reader.specs.declared.syntax.NameId.{NameId}
use Rattle.core_reader.specs.declared.syntax.Binder.{Binder}
use Rattle.core_reader.specs.declared.syntax.Pattern.{Pattern}
use Rattle.core_reader.specs.declared.token.Token.{Token}
use Rattle.core_reader.specs.declared.token.Token.TheVariants as word
use Rattle.core_reader.specs.declared.token.Further.TheVariants.{Backslash}
use Rattle.core_reader.specs.declared.token.Lexeme.{Lexeme}
use Rattle.core_reader.specs.declared.refusal.ReadRefusal.{ReadRefusal}
use Rattle.core_reader.specs.declared.refusal.ReadRefusal.TheVariants.{TooDeep}
use Rattle.lambda_reader.specs.Tree.{Term, Terms, NoTerms, AndTerm, Group, NoBinds, Expr, Alts}
use Rattle.core_reader.specs.Grammar.{NestingLimit, at_most_200}
use Rattle.core_reader.specs.Machine.{refused, refusal, front, behind, starts_atom, is_name, Fails}
use Rattle.lambda_reader.specs.Machine.{Cont, Scrutinee, AltBody, LambdaBody, FunctionBody, nests, Frame, InBody, InBind, Inside, opens, BindName, BindEquals, FunctionNames, LambdaNames, Ended, Brace, AltStart, AltNames, AltArrow, State, Apply, go, stop, step, run}
use Rattle.lambda_reader.proofs.Taking.{takes, refuses}

module _ (lambdas : Bool) (l : NestingLimit) where
  pub no_close : (k : Frame) (held : Terms) (p : ℕ) (a : Term) (xs : Terms) (at : ℕ) (token : Token)
      → starts_atom token ≡ false → (token ≡ word.Close → ⊥)
      → step lambdas l (Apply (Inside k held p) (AndTerm a xs)) at token ≡ stop (refused at token)
  no_close k held p a xs at (word.Name n) e h = absurd cc
  no_close k held p a xs at (word.Con n) e h = absurd cc
  no_close k held p a xs at (word.Number minus v) e h = absurd cc
  no_close k held p a xs at (word.Large minus) e h = absurd cc
  no_close k held p a xs at word.Open e h = absurd cc
  no_close k held p a xs at word.Close e h = absurd (h refl)
  no_close k held p a xs at token e h = refl

  pub no_head_inside : (k : Frame) (held : Terms) (p at : ℕ) (token : Token)
      → starts_atom token ≡ false → (token ≡ word.Further Backslash → ⊥)
      → step lambdas l (Apply (Inside k held p) NoTerms) at token ≡ stop (refused at token)
  no_head_inside k held p at (word.Name n) e h = absurd cc
  no_head_inside k held p at (word.Con n) e h = absurd cc
  no_head_inside k held p at (word.Number minus v) e h = absurd cc
  no_head_inside k held p at (word.Large minus) e h = absurd cc
  no_head_inside k held p at word.Open e h = absurd cc
  no_head_inside k held p at (word.Further Backslash) e h = absurd (h refl)
  no_head_inside k held p at token e h = refl

  pub no_head_bind : (k : Cont) (bs : Group) (n : NameId) (p at : ℕ) (token : Token)
      → starts_atom token ≡ false → step lambdas l (Apply (InBind k bs n p) NoTerms) at token ≡ stop
      (refused at token)
  no_head_bind k bs n p at (word.Name m) e = absurd cc
  no_head_bind k bs n p at (word.Con m) e = absurd cc
  no_head_bind k bs n p at (word.Number minus v) e = absurd cc
  no_head_bind k bs n p at (word.Large minus) e = absurd cc
  no_head_bind k bs n p at word.Open e = absurd cc
  no_head_bind k bs n p at token e = refl

  pub no_expr : (k : Cont) (at : ℕ) (token : Token) → starts_atom token ≡ false
      → (token ≡ word.Let → ⊥) → (token ≡ word.Case → ⊥)
      → step lambdas l (Apply (InBody k) NoTerms) at token ≡ stop (refused at token)
  no_expr k at (word.Name m) e h g = absurd cc
  no_expr k at (word.Con m) e h g = absurd cc
  no_expr k at (word.Number minus v) e h g = absurd cc
  no_expr k at (word.Large minus) e h g = absurd cc
  no_expr k at word.Open e h g = absurd cc
  no_expr k at word.Let e h g = absurd (h refl)
  no_expr k at word.Case e h g = absurd (g refl)
  no_expr k at token e h g = refl

  pub no_name : (k : Cont) (bs : Group) (at : ℕ) (token : Token)
      → ((n : NameId) → token ≡ word.Name n → ⊥) → (token ≡ word.In → ⊥)
      → step lambdas l (BindName k bs) at token ≡ stop (refused at token)
  no_name k bs at (word.Name n) h g = absurd (h n refl)
  no_name k bs at word.In h g = absurd (g refl)
  no_name k bs at token h g = refl

  pub no_first : (k : Cont) (at : ℕ) (token : Token) → ((n : NameId) → token ≡ word.Name n → ⊥)
      → step lambdas l (BindName k NoBinds) at token ≡ stop (refused at token)
  no_first k at (word.Name n) h = absurd (h n refl)
  no_first k at token h = refl

  pub no_equals : (k : Cont) (bs : Group) (n : NameId) (p at : ℕ) (token : Token)
      → (token ≡ word.Equals → ⊥) → ((m : NameId) → token ≡ word.Name m → ⊥)
      → step lambdas l (BindEquals k bs n p) at token ≡ stop (refused at token)
  no_equals k bs n p at word.Equals h g = absurd (h refl)
  no_equals k bs n p at (word.Name m) h g = absurd (g m refl)
  no_equals k bs n p at token h g = refl

  -- behind a parameter of a local function, and of a lambda
  pub no_function_equals : (k : Cont) (bs : Group) (n : NameId) (p : ℕ) (params : List Binder)
      (at : ℕ) (token : Token) → is_name token ≡ false → (token ≡ word.Equals → ⊥)
      → step lambdas l (FunctionNames k bs n p params) at token ≡ stop (refused at token)
  no_function_equals k bs n p params at (word.Name m) e h = absurd cc
  no_function_equals k bs n p params at word.Equals e h = absurd (h refl)
  no_function_equals k bs n p params at token e h = refl

  pub no_lambda_arrow : (k : Frame) (held : Terms) (p : ℕ) (params : List Binder) (at : ℕ)
      (token : Token) → is_name token ≡ false → (token ≡ word.Arrow → ⊥)
      → step lambdas l (LambdaNames k held p params) at token ≡ stop (refused at token)
  no_lambda_arrow k held p [] at (word.Name m) e h = absurd cc
  no_lambda_arrow k held p [] at word.Arrow e h = absurd (h refl)
  no_lambda_arrow k held p [] at token e h = refl
  no_lambda_arrow k held p (b ∷ params) at (word.Name m) e h = absurd cc
  no_lambda_arrow k held p (b ∷ params) at word.Arrow e h = absurd (h refl)
  no_lambda_arrow k held p (b ∷ params) at token e h = refl

  -- a lambda without a parameter
  pub no_params : (k : Frame) (held : Terms) (p at : ℕ) (token : Token) → is_name token ≡ false
      → step lambdas l (LambdaNames k held p []) at token ≡ stop (refused at token)
  no_params k held p at (word.Name m) e = absurd cc
  no_params k held p at token e = refl

  -- behind the body of a lambda, and of a local function
  pub no_lambda_end : (k : Frame) (held : Terms) (p : ℕ) (params : List Binder) (e : Expr) (at : ℕ)
      (token : Token) → (token ≡ word.Close → ⊥) → step lambdas l
      (Ended (LambdaBody k held p params) e) at token ≡ stop (refused at token)
  no_lambda_end k held p params e at word.Close h = absurd (h refl)
  no_lambda_end k held p params e at token h = refl

  pub no_function_end : (k : Cont) (bs : Group) (n : NameId) (p : ℕ) (params : List Binder)
      (e : Expr) (at : ℕ) (token : Token) → (token ≡ word.Semicolon → ⊥) → (token ≡ word.In → ⊥)
      → step lambdas l (Ended (FunctionBody k bs n p params) e) at token ≡ stop (refused at token)
  no_function_end k bs n p params e at word.Semicolon h g = absurd (h refl)
  no_function_end k bs n p params e at word.In h g = absurd (g refl)
  no_function_end k bs n p params e at token h g = refl

  pub no_next : (k : Cont) (bs : Group) (n : NameId) (p : ℕ) (a : Term) (xs : Terms) (at : ℕ)
      (token : Token) → starts_atom token ≡ false → (token ≡ word.In → ⊥)
      → (token ≡ word.Semicolon → ⊥)
      → step lambdas l (Apply (InBind k bs n p) (AndTerm a xs)) at token ≡ stop (refused at token)
  no_next k bs n p a xs at (word.Name m) e h g = absurd cc
  no_next k bs n p a xs at (word.Con m) e h g = absurd cc
  no_next k bs n p a xs at (word.Number minus v) e h g = absurd cc
  no_next k bs n p a xs at (word.Large minus) e h g = absurd cc
  no_next k bs n p a xs at word.Open e h g = absurd cc
  no_next k bs n p a xs at word.In e h g = absurd (h refl)
  no_next k bs n p a xs at word.Semicolon e h g = absurd (g refl)
  no_next k bs n p a xs at token e h g = refl

  pub no_of : (k : Cont) (e : Expr) (at : ℕ) (token : Token) → (token ≡ word.Of → ⊥)
      → step lambdas l (Ended (Scrutinee k) e) at token ≡ stop (refused at token)
  no_of k e at word.Of h = absurd (h refl)
  no_of k e at token h = refl

  pub no_brace : (k : Cont) (e : Expr) (at : ℕ) (token : Token) → (token ≡ word.OpenBrace → ⊥)
      → step lambdas l (Brace k e) at token ≡ stop (refused at token)
  no_brace k e at word.OpenBrace h = absurd (h refl)
  no_brace k e at token h = refl

  pub no_alt_end : (k : Cont) (s : Expr) (xs : Alts) (p : Pattern) (e : Expr) (at : ℕ)
      (token : Token) → (token ≡ word.CloseBrace → ⊥) → (token ≡ word.Semicolon → ⊥)
      → step lambdas l (Ended (AltBody k s xs p) e) at token ≡ stop (refused at token)
  no_alt_end k s xs p e at word.CloseBrace h g = absurd (h refl)
  no_alt_end k s xs p e at word.Semicolon h g = absurd (g refl)
  no_alt_end k s xs p e at token h g = refl

  pub no_arrow : (k : Cont) (s : Expr) (xs : Alts) (p : Pattern) (at : ℕ) (token : Token)
      → (token ≡ word.Arrow → ⊥) → step lambdas l (AltArrow k s xs p) at token ≡ stop
      (refused at token)
  no_arrow k s xs p at word.Arrow h = absurd (h refl)
  no_arrow k s xs p at token h = refl

  pub no_arrow_names : (k : Cont) (s : Expr) (xs : Alts) (n : NameId) (p : ℕ) (names : _) (at : ℕ)
      (token : Token) → is_name token ≡ false → (token ≡ word.Arrow → ⊥)
      → step lambdas l (AltNames k s xs n p names) at token ≡ stop (refused at token)
  no_arrow_names k s xs n p names at (word.Name m) e h = absurd cc
  no_arrow_names k s xs n p names at word.Arrow e h = absurd (h refl)
  no_arrow_names k s xs n p names at token e h = refl

  pub no_pattern : (k : Cont) (s : Expr) (xs : Alts) (at : ℕ) (token : Token)
      → ((n : NameId) → token ≡ word.Name n → ⊥) →
      ((m : Bool) (v : ℤ) → token ≡ word.Number m v → ⊥) → ((m : Bool) → token ≡ word.Large m → ⊥)
      → ((n : NameId) → token ≡ word.Con n → ⊥) → (token ≡ word.CloseBrace → ⊥)
      → step lambdas l (AltStart k s xs) at token ≡ stop (refused at token)
  no_pattern k s xs at (word.Name n) h g f e d = absurd (h n refl)
  no_pattern k s xs at (word.Number m v) h g f e d = absurd (g m v refl)
  no_pattern k s xs at (word.Large m) h g f e d = absurd (f m refl)
  no_pattern k s xs at (word.Con n) h g f e d = absurd (e n refl)
  no_pattern k s xs at word.CloseBrace h g f e d = absurd (d refl)
  no_pattern k s xs at token h g f e d = refl

  pub refuses_seen : (s : State) (ts : List Lexeme) (x : Lexeme) (token : Token) (er : ReadRefusal)
      → x ≡ front ts → x.token ≡ token → er ≡ refusal (front ts)
      → ((at : ℕ) → step lambdas l s at token ≡ stop (refused at token))
      → Fails er (run lambdas l s ts)
  refuses_seen s ts x token er x_is token_is er_is g =
      let f : (front ts).token ≡ token = ap (λ (y : Lexeme). y.token) (sym x_is) ∙ token_is in
      refuses lambdas l s ts er er_is
      (subst (λ w. step lambdas l s (front ts).at w ≡ stop (refused (front ts).at w)) (sym f)
      (g (front ts).at))

module _ (lambdas : Bool) where
  pub too_deep : (k : Frame) (held : Terms) (depth at : ℕ) → opens k ≡ depth → 200 ≤ depth
      → step lambdas at_most_200 (Apply k held) at word.Open ≡ stop (TooDeep at)
  too_deep k held depth at e h =
      let f : ltb (opens k) 200 ≡ false = le-ltb (opens k) 200 (omega arith) in
      ap (λ b. cond b (go (Apply (Inside k held at) NoTerms)) (stop (TooDeep at))) f

  pub goes_in : (k : Frame) (held : Terms) (depth at : ℕ) → opens k ≡ depth → depth < 200
      → step lambdas at_most_200 (Apply k held) at word.Open ≡ go (Apply (Inside k held at) NoTerms)
  goes_in k held depth at e h =
      let f : ltb (opens k) 200 ≡ true = grind arith in
      ap (λ b. cond b (go (Apply (Inside k held at) NoTerms)) (stop (TooDeep at))) f

  pub opening : (k : Frame) (held : Terms) (ts after : List Lexeme) (depth at : ℕ) → opens k ≡ depth
      → depth < 200 → (front ts).token ≡ word.Open → (front ts).at ≡ at → after ≡ behind ts
      → run lambdas at_most_200 (Apply k held) ts ≡ run lambdas at_most_200
      (Apply (Inside k held at) NoTerms) after
  opening k held ts after depth at e h token_is at_is after_is =
      takes lambdas at_most_200 (Apply k held) (Apply (Inside k held at) NoTerms) ts (front ts)
      word.Open after refl token_is after_is (rw at_is (goes_in k held depth at e h))

  pub let_deep : (k : Cont) (depth at : ℕ) → nests k ≡ depth → 200 ≤ depth
      → step lambdas at_most_200 (Apply (InBody k) NoTerms) at word.Let ≡ stop (TooDeep at)
  let_deep k depth at e h =
      let f : ltb (nests k) 200 ≡ false = le-ltb (nests k) 200 (omega arith) in
      ap (λ b. cond b (go (BindName k NoBinds)) (stop (TooDeep at))) f

  pub let_opens : (k : Cont) (ts after : List Lexeme) (depth at : ℕ) → nests k ≡ depth → depth < 200
      → (front ts).token ≡ word.Let → (front ts).at ≡ at → after ≡ behind ts
      → run lambdas at_most_200 (Apply (InBody k) NoTerms) ts ≡ run lambdas at_most_200
      (BindName k NoBinds) after
  let_opens k ts after depth at e h token_is at_is after_is =
      let f : ltb (nests k) 200 ≡ true = grind arith in
      takes lambdas at_most_200 (Apply (InBody k) NoTerms) (BindName k NoBinds) ts (front ts)
      word.Let after refl token_is after_is
      (ap (λ b. cond b (go (BindName k NoBinds)) (stop (TooDeep (front ts).at))) f)

  pub case_deep : (k : Cont) (depth at : ℕ) → nests k ≡ depth → 200 ≤ depth
      → step lambdas at_most_200 (Apply (InBody k) NoTerms) at word.Case ≡ stop (TooDeep at)
  case_deep k depth at e h =
      let f : ltb (nests k) 200 ≡ false = le-ltb (nests k) 200 (omega arith) in
      ap (λ b. cond b (go (Apply (InBody (Scrutinee k)) NoTerms)) (stop (TooDeep at))) f

  pub case_opens : (k : Cont) (ts after : List Lexeme) (depth at : ℕ) → nests k ≡ depth
      → depth < 200 → (front ts).token ≡ word.Case → (front ts).at ≡ at → after ≡ behind ts
      → run lambdas at_most_200 (Apply (InBody k) NoTerms) ts ≡ run lambdas at_most_200
      (Apply (InBody (Scrutinee k)) NoTerms) after
  case_opens k ts after depth at e h token_is at_is after_is =
      let f : ltb (nests k) 200 ≡ true = grind arith in
      takes lambdas at_most_200 (Apply (InBody k) NoTerms) (Apply (InBody (Scrutinee k)) NoTerms) ts
      (front ts) word.Case after refl token_is after_is
      (ap (λ b. cond b (go (Apply (InBody (Scrutinee k)) NoTerms))
      (stop (TooDeep (front ts).at))) f)
