-- One token of a header, as the code takes it.
use Rattle.std.proofs.Common.{◌≡◌, ℕ, ◌<◌, ◌≤◌, length, List, [], ◌∷◌, ◌++◌, Result, Err, refl, sym, ap, subst, ◌∙◌, arith}
use Rattle.core_reader.specs.declared.syntax.Binder.{Binder}
use Rattle.core_reader.specs.declared.token.Token.{Token}
use Rattle.core_reader.specs.declared.token.Token.TheVariants as word
use Rattle.core_reader.specs.declared.token.Further.TheVariants as further
use Rattle.core_reader.specs.declared.token.Lexeme.{Lexeme}
use Rattle.core_reader.specs.declared.refusal.ReadRefusal.{ReadRefusal}
use Rattle.core_reader.specs.declared.refusal.ReadRefusal.TheVariants as refusal
use Rattle.core_reader.specs.Grammar.{at_most_200}
use Rattle.core_reader.specs.ReadingOf.{go, stop, follow, run_of}
use Rattle.core_reader.specs.Machine.{front, behind, refused, Fails, Goes}
use Rattle.core_reader.specs.Machine as expression
use Rattle.core_reader.specs.Declaring as core
use Rattle.core_link.specs.Module.{ModuleHeader, Import}
use Rattle.core_link.specs.Heading.{State, Start, ModuleName, NameEnd, Exports, ExportWords, Imports, ImportName, ImportWords, Declares, ModuleParts, step, run, head, importing, import_from, IsNoWord, KeepsWords}

-- where no token is left, the reading stops
abbrev StopsAtBad : State → Type 0
StopsAtBad s = step at_most_200 s 0 word.Bad ≡ stop (refusal.BadByte 0)

turns : (s : State) (ts : List Lexeme) → StopsAtBad s
    → run s ts ≡ follow (step at_most_200 s (front ts).at (front ts).token) (λ s. run s (behind ts))
unfolding run_of
turns s [] h = sym (ap (λ st. follow st (λ s. run s [])) h)
turns s (t ∷ ts) h = refl

pub takes : (s next : State) (ts : List Lexeme) (x : Lexeme) (token : Token) (after : List Lexeme)
    → StopsAtBad s → x ≡ front ts → x.token ≡ token → after ≡ behind ts
    → step at_most_200 s x.at token ≡ go next → run s ts ≡ run next after
takes s next ts x token after h front_is token_is after_is e =
    turns s ts h ∙ ap
    (λ (y : Lexeme). follow (step at_most_200 s y.at y.token) (λ s. run s (behind ts)))
    (sym front_is)
    ∙ ap (λ w. follow (step at_most_200 s x.at w) (λ s. run s (behind ts))) token_is
    ∙ ap (λ st. follow st (λ s. run s (behind ts))) e
    ∙ ap (run next) (sym after_is)

refused_fails : (at : ℕ) (token : Token) (read : Result ModuleParts ReadRefusal)
    → read ≡ Err (refused at token) → Fails (refused at token) read
refused_fails at word.Bad read e = e
refused_fails at token read e = e

pub refuses : (s : State) (ts : List Lexeme) (er : ReadRefusal) → StopsAtBad s
    → er ≡ expression.refusal (front ts) → step at_most_200 s (front ts).at (front ts).token ≡ stop
    (expression.refusal (front ts)) → Fails er (run s ts)
refuses s ts er h er_is e =
    subst (λ w. Fails w (run s ts)) (sym er_is)
    (refused_fails (front ts).at (front ts).token (run s ts)
    (turns s ts h ∙ ap (λ st. follow st (λ s. run s (behind ts))) e))

pub fails_from : (er : ReadRefusal) (r s : Result ModuleParts ReadRefusal) → r ≡ s → Fails er s
    → Fails er r
fails_from er r s e h = subst (Fails er) (sym e) h

pub goes_from : {X : Type 0} (result : Result X ReadRefusal) (r s : Result ModuleParts ReadRefusal)
    (on : X → Result ModuleParts ReadRefusal) → r ≡ s → Goes result s on → Goes result r on
goes_from result r s on e h = subst (λ w. Goes result w on) (sym e) h

pub token_of : (x y : Lexeme) (token : Token) → x ≡ y → x.token ≡ token → y.token ≡ token
token_of x y token e h = ap (λ (z : Lexeme). z.token) (sym e) ∙ h

-- the states that keep words
pub export_words : (name : Binder) → KeepsWords (λ bs. ExportWords (head name bs []))
    (λ bs. Exports (head name bs []))
export_words name = record
    { name = λ bs n at. refl; con = λ bs n at. refl; end = λ bs at. refl; other = other }
  where
    other : (bs : List Binder) (at : ℕ) (token : Token) → IsNoWord token
        → step at_most_200 (ExportWords (head name bs [])) at token ≡ stop (refused at token)
    other bs at (word.Name n) h = absurd h
    other bs at (word.Con n) h = absurd h
    other bs at word.Semicolon h = absurd h
    other bs at token h = refl

pub import_words : (h : ModuleHeader) (b : Binder) → KeepsWords (ImportWords h b)
    (λ bs. Imports (importing h (import_from b bs)))
import_words h b = record
    { name = λ bs n at. refl; con = λ bs n at. refl; end = λ bs at. refl; other = other }
  where
    other : (bs : List Binder) (at : ℕ) (token : Token) → IsNoWord token
        → step at_most_200 (ImportWords h b bs) at token ≡ stop (refused at token)
    other bs at (word.Name n) f = absurd f
    other bs at (word.Con n) f = absurd f
    other bs at word.Semicolon f = absurd f
    other bs at token f = refl

pub no_word : (token : Token) → ((n : _) → token ≡ word.Name n → ⊥)
    → ((n : _) → token ≡ word.Con n → ⊥) → (token ≡ word.Semicolon → ⊥) → IsNoWord token
no_word (word.Name n) a b c = a n refl
no_word (word.Con n) a b c = b n refl
no_word word.Semicolon a b c = c refl
no_word token a b c = tt

pub no_name : (token : Token) (at : ℕ) → ((n : _) → token ≡ word.Con n → ⊥)
    → step at_most_200 ModuleName at token ≡ stop (refused at token)
no_name (word.Con n) at h = absurd (h n refl)
no_name token at h = refl

pub no_source : (h : ModuleHeader) (token : Token) (at : ℕ) → ((n : _) → token ≡ word.Con n → ⊥)
    → step at_most_200 (ImportName h) at token ≡ stop (refused at token)
no_source h (word.Con n) at f = absurd (f n refl)
no_source h token at f = refl

pub no_start : (token : Token) (at : ℕ) → (token ≡ word.Further further.Module → ⊥)
    → step at_most_200 Start at token ≡ stop (refused at token)
no_start (word.Further further.Module) at h = absurd (h refl)
no_start token at h = refl

pub no_end : (b : Binder) (token : Token) (at : ℕ) → (token ≡ word.Semicolon → ⊥)
    → step at_most_200 (NameEnd b) at token ≡ stop (refused at token)
no_end b word.Semicolon at h = absurd (h refl)
no_end b token at h = refl

-- where neither exports nor imports stand, the declarations begin
now : (h : ModuleHeader) (at : ℕ) (token : Token) → (token ≡ word.Further further.Export → ⊥)
    → (token ≡ word.Further further.Import → ⊥) → step at_most_200 (Exports h) at token ≡ step
    at_most_200 (Declares h (core.top [])) at token
now h at (word.Further further.Export) a b = absurd (a refl)
now h at (word.Further further.Import) a b = absurd (b refl)
now h at token a b = refl

now_imports : (h : ModuleHeader) (at : ℕ) (token : Token)
    → (token ≡ word.Further further.Import → ⊥) → step at_most_200 (Imports h) at token ≡ step
    at_most_200 (Declares h (core.top [])) at token
now_imports h at (word.Further further.Import) b = absurd (b refl)
now_imports h at token b = refl

-- the state in which imports may stand, behind these
abbrev pub import_state : Binder → List Binder → List Import → State
import_state name exports [] = Exports (head name exports [])
import_state name exports (i ∷ imports) = Imports (head name exports (i ∷ imports))

pub import_word : (name : Binder) (exports : List Binder) (imports : List Import) (at : ℕ)
    → step at_most_200 (import_state name exports imports) at (word.Further further.Import) ≡ go
    (ImportName (head name exports imports))
import_word name exports [] at = refl
import_word name exports (i ∷ imports) at = refl

pub state_bad : (name : Binder) (exports : List Binder) (imports : List Import)
    → StopsAtBad (import_state name exports imports)
state_bad name exports [] = refl
state_bad name exports (i ∷ imports) = refl

pub state_last : (name : Binder) (exports : List Binder) (imports : List Import) (i : Import)
    → Imports (head name exports (imports ++ i ∷ [])) ≡ import_state name exports
    (imports ++ i ∷ [])
state_last name exports [] i = refl
state_last name exports (j ∷ imports) i = refl

-- no exports stand where imports may stand
abbrev pub NoExport : List Import → List Lexeme → Type 0
NoExport [] ts = (front ts).token ≡ word.Further further.Export → ⊥
NoExport (i ∷ imports) ts = Unit {0}

pub no_export_last : (imports : List Import) (i : Import) (ts : List Lexeme)
    → NoExport (imports ++ i ∷ []) ts
no_export_last [] i ts = tt
no_export_last (j ∷ imports) i ts = tt

pub declares : (name : Binder) (exports : List Binder) (imports : List Import) (ts : List Lexeme)
    → NoExport imports ts → ((front ts).token ≡ word.Further further.Import → ⊥)
    → run (import_state name exports imports) ts ≡ run
    (Declares (head name exports imports) (core.top [])) ts
declares name exports [] ts a b =
    let h = head name exports [] in
    turns (Exports h) ts refl ∙ ap (λ st. follow st (λ s. run s (behind ts)))
    (now h (front ts).at (front ts).token a b) ∙ sym (turns (Declares h (core.top [])) ts refl)
declares name exports (i ∷ imports) ts a b =
    let h = head name exports (i ∷ imports) in
    turns (Imports h) ts refl ∙ ap (λ st. follow st (λ s. run s (behind ts)))
    (now_imports h (front ts).at (front ts).token b) ∙ sym
    (turns (Declares h (core.top [])) ts refl)

pub one_shorter : (ts : List Lexeme) → ((front ts).token ≡ word.Bad → ⊥)
    → length (behind ts) < length ts
one_shorter [] h = absurd (h refl)
one_shorter (t ∷ ts) h = omega arith

pub behind_shorter : (ts : List Lexeme) → length (behind ts) ≤ length ts
behind_shorter [] = omega arith
behind_shorter (t ∷ ts) = omega arith

-- a word was read, and a `;`, by whatever keeps words
pub keeps_bad : (state next : List Binder → State) → KeepsWords state next → (bs : List Binder)
    → StopsAtBad (state bs)
keeps_bad state next keeps bs = keeps.other bs 0 word.Bad tt

pub one_word : (state next : List Binder → State) → KeepsWords state next
    → (before after : List Binder) (b : Binder) (ts rest : List Lexeme) (x : Lexeme) (token : Token)
    → x ≡ front ts → x.token ≡ token → rest ≡ behind ts
    → step at_most_200 (state before) x.at token ≡ go (state (before ++ b ∷ [])) → after ≡ before
    ++ b ∷ [] → run (state before) ts ≡ run (state after) rest
one_word state next keeps before after b ts rest x token front_is token_is rest_is e after_is =
    takes (state before) (state (before ++ b ∷ [])) ts x token rest
    (keeps_bad state next keeps before) front_is token_is rest_is e ∙ ap
    (λ w. run (state w) rest) (sym after_is)

pub shorter_then : (a b c d : ℕ) → a ≡ b → b ≤ c → c ≤ d → a ≤ d
shorter_then a b c d e h g = omega arith

-- one more import behind those that were read
pub one_import : (name : Binder) (exports : List Binder) (before : List Import) (i : Import)
    (ts : List Lexeme) → run (Imports (importing (head name exports before) i)) ts ≡ run
    (import_state name exports (before ++ i ∷ [])) ts
one_import name exports before i ts = ap (λ s. run s ts) (state_last name exports before i)
