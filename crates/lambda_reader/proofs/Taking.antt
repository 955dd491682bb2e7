-- One token of the reading of an expression, as the code takes it.
use Rattle.std.proofs.Common.{◌≡◌, ℕ, Bool, false, List, [], ◌∷◌, Result, Err, refl, sym, ap, subst, ◌∙◌}
use Rattle.core_reader.specs.declared.token.Token.{Token}
use Rattle.core_reader.specs.declared.token.Token.TheVariants as word
use Rattle.core_reader.specs.declared.token.Lexeme.{Lexeme}
use Rattle.core_reader.specs.declared.refusal.ReadRefusal.{ReadRefusal}
use Rattle.core_reader.specs.declared.refusal.ReadRefusal.TheVariants.{BadByte}
use Rattle.lambda_reader.specs.Tree.{Term, Terms, NoTerms, AndTerm, Group, NoBinds, AndValue, AndFunction, Expr, App, Let, NoAlts, AndAlt}
use Rattle.core_reader.specs.Grammar.{NestingLimit}
use Rattle.core_reader.specs.Machine.{refusal, front, behind, starts_atom, Fails}
use Rattle.lambda_reader.specs.Machine.{Cont, Outermost, LetBody, Scrutinee, AltBody, LambdaBody, FunctionBody, InBody, InBind, Inside, BindName, BindEquals, FunctionNames, LambdaNames, Ended, Brace, AltStart, AltNames, AltArrow, give, State, Step, Apply, go, done, stop, step, ReadResult, follow, run}
use Rattle.core_reader.proofs.Turns.{refused_fails}
use Rattle.lambda_reader.proofs.Complete.{ends_step}

-- a bad byte stops the reading, or an expression is whole before it
abbrev pub IsBad : ℕ → Step → Type 0
IsBad at (go s) = ⊥
IsBad at (done e) = Unit {0}
IsBad at (stop er) = er ≡ BadByte at

give_bad : (k : Cont) (e : Expr) (at : ℕ) → IsBad at (give k e at word.Bad)
give_bad Outermost e at = tt
give_bad (LetBody k binds) e at = give_bad k (Let binds e) at
give_bad (Scrutinee k) e at = refl
give_bad (AltBody k s alts p) e at = refl
give_bad (LambdaBody k held p params) e at = refl
give_bad (FunctionBody k binds n p params) e at = refl

no_turn : (st : Step) (at : ℕ) (f g : State → Result ReadResult ReadRefusal) → IsBad at st
    → follow st [] f ≡ follow st [] g
no_turn (go s) at f g h = absurd h
no_turn (done e) at f g h = refl
no_turn (stop er) at f g h = refl

module _ (lambdas : Bool) (l : NestingLimit) where
  pub is_bad : (s : State) (at : ℕ) → IsBad at (step lambdas l s at word.Bad)
  is_bad (Apply (Inside k held p) NoTerms) at = refl
  is_bad (Apply (Inside k held p) (AndTerm a xs)) at = refl
  is_bad (Apply (InBind k bs n p) NoTerms) at = refl
  is_bad (Apply (InBind k bs n p) (AndTerm a xs)) at = refl
  is_bad (Apply (InBody k) NoTerms) at = refl
  is_bad (Apply (InBody k) (AndTerm a xs)) at = give_bad k (App a xs) at
  is_bad (BindName k NoBinds) at = refl
  is_bad (BindName k (AndValue b head args rest)) at = refl
  is_bad (BindName k (AndFunction b params body rest)) at = refl
  is_bad (BindEquals k bs n p) at = refl
  is_bad (FunctionNames k bs n p params) at = refl
  is_bad (LambdaNames k held p []) at = refl
  is_bad (LambdaNames k held p (b ∷ params)) at = refl
  is_bad (Ended k e) at = give_bad k e at
  is_bad (Brace k e) at = refl
  is_bad (AltStart k s NoAlts) at = refl
  is_bad (AltStart k s (AndAlt p e xs)) at = refl
  is_bad (AltNames k s alts n p names) at = refl
  is_bad (AltArrow k s alts p) at = refl

  turns : (s : State) (ts : List Lexeme) → run lambdas l s ts ≡ follow
      (step lambdas l s (front ts).at (front ts).token) ts (λ s. run lambdas l s (behind ts))
  unfolding run
  turns s [] = no_turn (step lambdas l s 0 word.Bad) 0 (λ s. Err (BadByte 0))
      (λ s. run lambdas l s []) (is_bad s 0)
  turns s (t ∷ ts) = refl

  -- A token that is taken, and one that stops the reading.
  pub takes : (s next : State) (ts : List Lexeme) (x : Lexeme) (token : Token) (after : List Lexeme)
      → x ≡ front ts → x.token ≡ token → after ≡ behind ts
      → step lambdas l s x.at token ≡ go next → run lambdas l s ts ≡ run lambdas l next after
  takes s next ts x token after front_is token_is after_is e =
      turns s ts ∙ ap
      (λ (y : Lexeme). follow (step lambdas l s y.at y.token) ts
      (λ s. run lambdas l s (behind ts))) (sym front_is)
      ∙ ap (λ w. follow (step lambdas l s x.at w) ts (λ s. run lambdas l s (behind ts))) token_is
      ∙ ap (λ st. follow st ts (λ s. run lambdas l s (behind ts))) e
      ∙ ap (run lambdas l next) (sym after_is)

  pub halts : (s : State) (ts : List Lexeme) (x : Lexeme) (token : Token) (er : ReadRefusal)
      → x ≡ front ts → x.token ≡ token
      → step lambdas l s x.at token ≡ stop er → run lambdas l s ts ≡ Err er
  halts s ts x token er front_is token_is e =
      turns s ts ∙ ap
      (λ (y : Lexeme). follow (step lambdas l s y.at y.token) ts
      (λ s. run lambdas l s (behind ts))) (sym front_is)
      ∙ ap (λ w. follow (step lambdas l s x.at w) ts (λ s. run lambdas l s (behind ts))) token_is
      ∙ ap (λ st. follow st ts (λ s. run lambdas l s (behind ts))) e

  -- A token that cannot stand here is refused.
  pub refuses : (s : State) (ts : List Lexeme) (er : ReadRefusal) → er ≡ refusal (front ts)
      → step lambdas l s (front ts).at (front ts).token ≡ stop (refusal (front ts))
      → Fails er (run lambdas l s ts)
  refuses s ts er er_is e =
      subst (λ w. Fails w (run lambdas l s ts)) (sym er_is)
      (refused_fails (front ts).at (front ts).token (run lambdas l s ts)
      (halts s ts (front ts) (front ts).token (refusal (front ts)) refl refl e))

  -- an application that is whole is an expression that is whole
  pub ended_app : (k : Cont) (a : Term) (xs : Terms) (ts : List Lexeme)
      → starts_atom (front ts).token ≡ false → run lambdas l (Apply (InBody k) (AndTerm a xs)) ts ≡
      run lambdas l (Ended k (App a xs)) ts
  ended_app k a xs ts e =
      turns (Apply (InBody k) (AndTerm a xs)) ts
      ∙ ap (λ st. follow st ts (λ s. run lambdas l s (behind ts)))
      (ends_step lambdas l k a xs (front ts).at (front ts).token e)
      ∙ sym (turns (Ended k (App a xs)) ts)

  pub let_ends : (k : Cont) (bs : Group) (e : Expr) (ts : List Lexeme)
      → run lambdas l (Ended (LetBody k bs) e) ts ≡ run lambdas l (Ended k (Let bs e)) ts
  let_ends k bs e ts = turns (Ended (LetBody k bs) e) ts ∙ sym (turns (Ended k (Let bs e)) ts)
