-- One token of a reading, as code takes it, in any language.
use Rattle.std.proofs.Common.{◌≡◌, ℕ, List, [], ◌∷◌, Result, Err, refl, sym, ap, subst, ◌∙◌}
use Rattle.core_reader.specs.declared.dialect.Dialect.{Dialect}
use Rattle.core_reader.specs.declared.token.Token.{Token}
use Rattle.core_reader.specs.declared.token.Token.TheVariants as word
use Rattle.core_reader.specs.declared.token.Lexeme.{Lexeme}
use Rattle.core_reader.specs.declared.refusal.ReadRefusal.{ReadRefusal}
use Rattle.core_reader.specs.declared.refusal.ReadRefusal.TheVariants.{BadByte, Syntax, NumberRange, TooDeep, TextTooLong, Memory}
use Rattle.core_reader.specs.Grammar.{NestingLimit, at_most_200}
use Rattle.core_reader.specs.ReadingOf.{Step, go, done, stop, Steps, Reading, follow, run_of}
use Rattle.core_reader.specs.Machine.{front, behind, refused, refusal, Fails}
use Rattle.core_reader.proofs.ReadingOf.{Verdict, Laws}

pub refused_fails : {Y : Type 0} (at : ℕ) (token : Token) (read : Result Y ReadRefusal)
    → read ≡ Err (refused at token) → Fails (refused at token) read
refused_fails at word.Bad read e = e
refused_fails at token read e = e

module _ {S A : Type 0} (step : Steps S A) (l : NestingLimit)
    (bad : (s : S) (at : ℕ) → step l s at word.Bad ≡ stop (BadByte at)) where
  pub turns : (s : S) (ts : List Lexeme) → run_of step l s ts ≡ follow
      (step l s (front ts).at (front ts).token) (λ s. run_of step l s (behind ts))
  unfolding run_of
  turns s [] = sym (ap (λ st. follow st (λ s. run_of step l s [])) (bad s 0))
  turns s (t ∷ ts) = refl

  -- A token that is taken, and one that stops the reading.
  pub takes : (s next : S) (ts : List Lexeme) (x : Lexeme) (token : Token) (after : List Lexeme)
      → x ≡ front ts → x.token ≡ token → after ≡ behind ts
      → step l s x.at token ≡ go next → run_of step l s ts ≡ run_of step l next after
  takes s next ts x token after front_is token_is after_is e =
      turns s ts ∙ ap
      (λ (y : Lexeme). follow (step l s y.at y.token) (λ s. run_of step l s (behind ts)))
      (sym front_is)
      ∙ ap (λ w. follow (step l s x.at w) (λ s. run_of step l s (behind ts))) token_is
      ∙ ap (λ st. follow st (λ s. run_of step l s (behind ts))) e
      ∙ ap (run_of step l next) (sym after_is)

  pub halts : (s : S) (ts : List Lexeme) (x : Lexeme) (token : Token) (er : ReadRefusal)
      → x ≡ front ts → x.token ≡ token
      → step l s x.at token ≡ stop er → run_of step l s ts ≡ Err er
  halts s ts x token er front_is token_is e =
      turns s ts ∙ ap
      (λ (y : Lexeme). follow (step l s y.at y.token) (λ s. run_of step l s (behind ts)))
      (sym front_is)
      ∙ ap (λ w. follow (step l s x.at w) (λ s. run_of step l s (behind ts))) token_is
      ∙ ap (λ st. follow st (λ s. run_of step l s (behind ts))) e

  -- A token that cannot stand here is refused.
  pub refuses : (s : S) (ts : List Lexeme) (er : ReadRefusal) → er ≡ refusal (front ts)
      → step l s (front ts).at (front ts).token ≡ stop (refusal (front ts))
      → Fails er (run_of step l s ts)
  refuses s ts er er_is e =
      subst (λ w. Fails w (run_of step l s ts)) (sym er_is)
      (refused_fails (front ts).at (front ts).token (run_of step l s ts)
      (halts s ts (front ts) (front ts).token (refusal (front ts)) refl refl e))

  pub refuses_seen : (s : S) (ts : List Lexeme) (x : Lexeme) (token : Token) (er : ReadRefusal)
      → x ≡ front ts → x.token ≡ token → er ≡ refusal (front ts)
      → ((at : ℕ) → step l s at token ≡ stop (refused at token)) → Fails er (run_of step l s ts)
  refuses_seen s ts x token er x_is token_is er_is g =
      let f : (front ts).token ≡ token = ap (λ (y : Lexeme). y.token) (sym x_is) ∙ token_is in
      refuses s ts er er_is
      (subst (λ w. step l s (front ts).at w ≡ stop (refused (front ts).at w)) (sym f)
      (g (front ts).at))

module _ {d : Dialect} {r : Reading} (w : Laws d r) where
  stops_by : (s : r.State) (at : ℕ) (st : Step r.State r.Tree)
      → r.step at_most_200 s at word.Bad ≡ st → Verdict r.step s at word.Bad st
      → st ≡ stop (BadByte at)
  stops_by s at (go n) e v = absurd (w.last_stays s n at word.Bad tt e)
  stops_by s at (done a) e v = absurd
      (let f : word.Bad ≡ word.End = w.done_last s at word.Bad a e in cc)
  stops_by s at (stop (BadByte p)) e v = ap (λ p. stop (BadByte p)) (sym v.0)
  stops_by s at (stop (Syntax p)) e v = absurd (v.2 refl)
  stops_by s at (stop (NumberRange p)) e v = absurd (let f : word.Bad ≡ word.Large v.1 = v.2 in cc)
  stops_by s at (stop (TooDeep p)) e v = absurd v.3
  stops_by s at (stop TextTooLong) e v = absurd v
  stops_by s at (stop (Memory er)) e v = absurd v

  -- a byte at which no token begins stops each reading that owes the laws
  pub bad_halts : (s : r.State) (at : ℕ) → r.step at_most_200 s at word.Bad ≡ stop (BadByte at)
  bad_halts s at = stops_by s at (r.step at_most_200 s at word.Bad) refl (w.judged s at word.Bad)
