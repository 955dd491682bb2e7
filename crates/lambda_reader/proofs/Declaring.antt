-- Declarations, one token after the other, as the code takes them.
use Rattle.std.proofs.Common.{◌≡◌, ℕ, Bool, true, false, List, [], ◌∷◌, ◌++◌, Result, Ok, Err, refl, sym, ap, subst, ◌∙◌, arith}
use Rattle.std.specs.Prelude.{ℤ, pos, negsuc, ◌<ℤ◌, ◌≤ℤ◌}
use Rattle.std.proofs.lemmas.Int.{ints}
use lib.IntN.{nat_abs}
use Rattle.core_reader.specs.declared.syntax.NameId.{NameId}
use Rattle.core_reader.specs.declared.syntax.Binder.{Binder}
use Rattle.core_reader.specs.declared.token.Token.{Token}
use Rattle.core_reader.specs.declared.token.Token.TheVariants as word
use Rattle.core_reader.specs.declared.token.Lexeme.{Lexeme}
use Rattle.core_reader.specs.declared.refusal.ReadRefusal.{ReadRefusal}
use Rattle.core_reader.specs.declared.refusal.ReadRefusal.TheVariants.{BadByte, Syntax, NumberRange, TooDeep, TextTooLong, Memory}
use Rattle.core_reader.specs.Tree.{Data}
use Rattle.core_reader.specs.Grammar.{NestingLimit, at_most_200, binders}
use Rattle.lambda_reader.specs.Tree.{Expr, Function, NoTerms}
use Rattle.lambda_reader.specs.Programs.{Decl, Declares, Defines, constructors_of, functions_of}
use Rattle.core_reader.specs.ReadingOf.{run_of, follow, go, stop}
use Rattle.core_reader.specs.Machine.{refused, refusal, front, behind, is_name, Fails}
use Rattle.lambda_reader.specs.Machine as expression
use Rattle.lambda_reader.specs.Machine.{Outermost, InBody, Apply, Ended}
use Rattle.lambda_reader.specs.AroundOf.{Outside, Within}
use Rattle.lambda_reader.specs.Declaring.{Top, DataName, Count, DataEnd, Params, InFunction, Hole, State, declarations, top, step, run}
use Rattle.core_reader.proofs.ReadingOf.{reads_names}
use Rattle.core_reader.proofs.Turns as any
use Rattle.core_reader.proofs.Turns.{turns, bad_halts}
use Rattle.lambda_reader.proofs.AroundOf.{through, continue}
use Rattle.lambda_reader.proofs.Reading.{finish_bad, lambda_laws}

pub takes : (s next : State) (ts : List Lexeme) (x : Lexeme) (token : Token) (after : List Lexeme)
    → x ≡ front ts → x.token ≡ token → after ≡ behind ts
    → step at_most_200 s x.at token ≡ go next → run at_most_200 s ts ≡ run at_most_200 next after
takes s next ts x token after front_is token_is after_is e
    = any.takes step at_most_200 (bad_halts lambda_laws) s next ts x token after front_is token_is
    after_is e

pub halts : (s : State) (ts : List Lexeme) (x : Lexeme) (token : Token) (er : ReadRefusal)
    → x ≡ front ts → x.token ≡ token
    → step at_most_200 s x.at token ≡ stop er → run at_most_200 s ts ≡ Err er
halts s ts x token er front_is token_is e = any.halts step at_most_200 (bad_halts lambda_laws) s ts
    x token er front_is token_is e

pub refuses : (s : State) (ts : List Lexeme) (er : ReadRefusal) → er ≡ refusal (front ts)
    → step at_most_200 s (front ts).at (front ts).token ≡ stop (refusal (front ts))
    → Fails er (run at_most_200 s ts)
refuses s ts er er_is e = any.refuses step at_most_200 (bad_halts lambda_laws) s ts er er_is e

pub refuses_seen : (s : State) (ts : List Lexeme) (x : Lexeme) (token : Token) (er : ReadRefusal)
    → x ≡ front ts → x.token ≡ token → er ≡ refusal (front ts)
    → ((at : ℕ) → step at_most_200 s at token ≡ stop (refused at token))
    → Fails er (run at_most_200 s ts)
refuses_seen s ts x token er x_is token_is er_is g = any.refuses_seen step at_most_200
    (bad_halts lambda_laws) s ts x token er x_is token_is er_is g

pub params : (ds : List Decl) (n : NameId) (p : ℕ) (names : List Binder) (old new : List Lexeme)
    → old ≡ binders names ++ new → run at_most_200 (Outside (Params ds n p [])) old ≡ run
    at_most_200 (Outside (Params ds n p names)) new
unfolding run_of
params ds n p names old new e = reads_names (run at_most_200)
    (λ names. Outside (Params ds n p names)) (λ names m at rest. refl) names old new e

-- a function's body, which stands behind the `=`
pub body_read : (k : Hole) (e : Expr) (old new : List Lexeme)
    → expression.run true at_most_200 (Apply (InBody Outermost) NoTerms) old ≡ expression.run true
    at_most_200 (Ended Outermost e) new
    → run at_most_200 (Within k (Apply (InBody Outermost) NoTerms)) old ≡ run at_most_200
    (Within k (Ended Outermost e)) new
body_read k e old new h =
    through declarations finish_bad at_most_200 k (Apply (InBody Outermost) NoTerms) old ∙ ap
    (continue declarations at_most_200 k) h ∙ sym
    (through declarations finish_bad at_most_200 k (Ended Outermost e) new)

fails_by : (k : Hole) (er : ReadRefusal) (read : Result expression.ReadResult ReadRefusal)
    → Fails er read → Fails er (continue declarations at_most_200 k read)
fails_by k (BadByte p) read h = ap (continue declarations at_most_200 k) h
fails_by k (Syntax p) read h = ap (continue declarations at_most_200 k) h
fails_by k (NumberRange p) read h = ap (continue declarations at_most_200 k) h
fails_by k (TooDeep p) read h = ap (continue declarations at_most_200 k) h
fails_by k TextTooLong read h = ap (continue declarations at_most_200 k) h
fails_by k (Memory e) read h = tt

pub body_fails : (k : Hole) (er : ReadRefusal) (s : expression.State) (ts : List Lexeme)
    → Fails er (expression.run true at_most_200 s ts) → Fails er (run at_most_200 (Within k s) ts)
body_fails k er s ts h = subst (Fails er) (sym (through declarations finish_bad at_most_200 k s ts))
    (fails_by k er (expression.run true at_most_200 s ts) h)

pub no_con : (l : NestingLimit) (ds : List Decl) (at : ℕ) (token : Token)
    → ((n : NameId) → token ≡ word.Con n → ⊥) → step l (Outside (DataName ds)) at token ≡ stop
    (refused at token)
no_con l ds at (word.Con n) h = absurd (h n refl)
no_con l ds at word.Bad h = refl
no_con l ds at token h = refl

pub no_semicolon : (l : NestingLimit) (ds : List Decl) (n : NameId) (p : ℕ) (fields : _) (at : ℕ)
    (token : Token) → (token ≡ word.Semicolon → ⊥) → step l (Outside (DataEnd ds n p fields)) at
    token ≡ stop (refused at token)
no_semicolon l ds n p fields at word.Semicolon h = absurd (h refl)
no_semicolon l ds n p fields at word.Bad h = refl
no_semicolon l ds n p fields at token h = refl

pub no_count : (l : NestingLimit) (ds : List Decl) (n : NameId) (p at : ℕ) (token : Token)
    → ((m : Bool) (v : ℤ) → token ≡ word.Number m v → ⊥) → ((m : Bool) → token ≡ word.Large m → ⊥)
    → step l (Outside (Count ds n p)) at token ≡ stop (refused at token)
no_count l ds n p at (word.Number m v) h g = absurd (h m v refl)
no_count l ds n p at (word.Large m) h g = absurd (g m refl)
no_count l ds n p at token h g = refl

pub minus_count : (l : NestingLimit) (ds : List Decl) (n : NameId) (p at : ℕ) (v : ℤ)
    → step l (Outside (Count ds n p)) at (word.Number true v) ≡ stop (Syntax at)
minus_count l ds n p at (pos k) = refl
minus_count l ds n p at (negsuc k) = refl

pub below_count : (l : NestingLimit) (ds : List Decl) (n : NameId) (p at : ℕ) (v : ℤ) → v <ℤ pos 0
    → step l (Outside (Count ds n p)) at (word.Number false v) ≡ stop (Syntax at)
below_count l ds n p at (pos k) h = absurd (omega (arith, ints))
below_count l ds n p at (negsuc k) h = refl

pub good_count : (l : NestingLimit) (ds : List Decl) (n : NameId) (p at : ℕ) (v : ℤ) → pos 0 ≤ℤ v
    → step l (Outside (Count ds n p)) at (word.Number false v) ≡ go
    (Outside (DataEnd ds n p (nat_abs v)))
good_count l ds n p at (pos k) h = refl
good_count l ds n p at (negsuc k) h = absurd (omega (arith, ints))

pub no_decl : (l : NestingLimit) (ds : List Decl) (at : ℕ) (token : Token) → (token ≡ word.Data → ⊥)
    → ((n : NameId) → token ≡ word.Name n → ⊥) → (token ≡ word.End → ⊥)
    → step l (Outside (Top ds)) at token ≡ stop (refused at token)
no_decl l ds at word.Data h g f = absurd (h refl)
no_decl l ds at (word.Name n) h g f = absurd (g n refl)
no_decl l ds at word.End h g f = absurd (f refl)
no_decl l ds at token h g f = refl

pub naming : (ds : List Decl) (n : NameId) (p : ℕ) (ts after : List Lexeme)
    → (front ts).token ≡ word.Name n → (front ts).at ≡ p → after ≡ behind ts
    → run at_most_200 (Outside (Top ds)) ts ≡ run at_most_200 (Outside (Params ds n p [])) after
naming ds n p ts after token_is at_is after_is = takes (Outside (Top ds))
    (Outside (Params ds n p [])) ts (front ts) (word.Name n) after refl token_is after_is
    (ap (λ w. go (Outside (Params ds n w []))) at_is)

pub constructors_last : (ds : List Decl) (d : Data)
    → constructors_of (ds ++ Declares d ∷ []) ≡ constructors_of ds ++ d ∷ []
constructors_last [] d = refl
constructors_last (Declares c ∷ ds) d = ap (λ w. c ∷ w) (constructors_last ds d)
constructors_last (Defines f ∷ ds) d = constructors_last ds d

pub constructors_same : (ds : List Decl) (f : Function)
    → constructors_of (ds ++ Defines f ∷ []) ≡ constructors_of ds
constructors_same [] f = refl
constructors_same (Declares c ∷ ds) f = ap (λ w. c ∷ w) (constructors_same ds f)
constructors_same (Defines g ∷ ds) f = constructors_same ds f

pub functions_last : (ds : List Decl) (f : Function)
    → functions_of (ds ++ Defines f ∷ []) ≡ functions_of ds ++ f ∷ []
functions_last [] f = refl
functions_last (Declares c ∷ ds) f = functions_last ds f
functions_last (Defines g ∷ ds) f = ap (λ w. g ∷ w) (functions_last ds f)

pub functions_same : (ds : List Decl) (d : Data) → functions_of (ds ++ Declares d ∷ []) ≡
    functions_of ds
functions_same [] d = refl
functions_same (Declares c ∷ ds) d = functions_same ds d
functions_same (Defines g ∷ ds) d = ap (λ w. g ∷ w) (functions_same ds d)

pub finishes : (ds : List Decl) (ts : List Lexeme) (x : Lexeme) → x ≡ front ts → x.token ≡ word.End
    → run at_most_200 (top ds) ts ≡ Ok ds
finishes ds ts x front_is token_is =
    turns step at_most_200 (bad_halts lambda_laws) (top ds) ts
    ∙ ap (λ (y : Lexeme). follow (step at_most_200 (top ds) y.at y.token)
    (λ s. run at_most_200 s (behind ts))) (sym front_is)
    ∙ ap (λ w. follow (step at_most_200 (top ds) x.at w) (λ s. run at_most_200 s (behind ts)))
    token_is

pub no_param : (l : NestingLimit) (ds : List Decl) (n : NameId) (p : ℕ) (params : _) (at : ℕ)
    (token : Token) → is_name token ≡ false → (token ≡ word.Equals → ⊥)
    → step l (Outside (Params ds n p params)) at token ≡ stop (refused at token)
no_param l ds n p params at (word.Name m) e h = absurd cc
no_param l ds n p params at word.Equals e h = absurd (h refl)
no_param l ds n p params at token e h = refl

pub no_end : (l : NestingLimit) (ds : List Decl) (n : NameId) (p : ℕ) (params : _) (e : Expr)
    (at : ℕ) (token : Token) → (token ≡ word.Semicolon → ⊥)
    → step l (Within (InFunction ds n p params) (Ended Outermost e)) at token ≡ stop
    (refused at token)
no_end l ds n p params e at word.Semicolon h = absurd (h refl)
no_end l ds n p params e at token h = refl
