-- What the reading of an expression does at a step under other limits, at a number out of the
-- range, and at the end.
use Rattle.std.proofs.Common.{◌≡◌, ℕ, Bool, false, [], ◌∷◌, refl}
use Rattle.std.specs.Prelude.{ℤ, pos, nat_lt}
use Rattle.core_reader.specs.declared.syntax.Pattern.TheVariants as pattern
use Rattle.core_reader.specs.declared.token.Token.{Token}
use Rattle.core_reader.specs.declared.token.Token.TheVariants as word
use Rattle.core_reader.specs.declared.refusal.ReadRefusal.TheVariants.{Syntax, NumberRange}
use Rattle.core_reader.specs.Tree.{NoTerms, AndTerm, Expr, Let, NoAlts, AndAlt}
use Rattle.core_reader.specs.Tree as tree
use Rattle.core_reader.specs.Grammar.{unlimited_nesting, at_most_200}
use Rattle.core_reader.specs.Machine.{Cont, Outermost, LetBody, Scrutinee, AltBody, nests, InBody, InBind, Inside, opens, BindName, BindEquals, Ended, Brace, AltStart, AltNames, AltArrow, give, refused, State, Apply, go, done, stop, step, with_last, applied}
use Rattle.core_reader.proofs.ReadingOf.{IsLast, Verdict, Plain, refused_plain, by_plain, opened, Accepts}

gives_plain : (k : Cont) (e : Expr) (at : ℕ) (token : Token) → Plain at token (give k e at token)
gives_plain (LetBody k binds) e at token = gives_plain k (Let binds e) at token
gives_plain Outermost e at token = tt
gives_plain (Scrutinee k) e at word.Of = tt
gives_plain (AltBody k s alts p) e at word.Semicolon = tt
gives_plain (AltBody k s alts p) e at word.CloseBrace = tt
gives_plain k e at token = refused_plain State Expr at token

pub judged : (s : State) (at : ℕ) (token : Token) → Verdict step s at token
    (step at_most_200 s at token)
judged (Apply k held) at (word.Name n) = refl
judged (Apply k held) at (word.Con n) = refl
judged (Apply k held) at (word.Number minus v) = refl
judged (Apply k held) at (word.Large minus) = (refl, minus, refl, refl)
judged (Apply k held) at word.Open = opened step (Apply k held) (Apply (Inside k held at) NoTerms)
    at word.Open (nat_lt (opens k) 200) refl tt
judged (Apply (Inside k held p) (AndTerm a xs)) at word.Close = refl
judged (Apply (InBind k binds n p) (AndTerm a xs)) at word.Semicolon = refl
judged (Apply (InBind k binds n p) (AndTerm a xs)) at word.In = refl
judged (Apply (InBody k) NoTerms) at word.Let = opened step (Apply (InBody k) NoTerms)
    (BindName k []) at word.Let (nat_lt (nests k) 200) refl tt
judged (Apply (InBody k) NoTerms) at word.Case = opened step (Apply (InBody k) NoTerms)
    (Apply (InBody (Scrutinee k)) NoTerms) at word.Case (nat_lt (nests k) 200) refl tt
judged (Apply (InBody k) (AndTerm a xs)) at token = by_plain step (Apply (InBody k) (AndTerm a xs))
    at token (give k (applied a xs) at token) refl (gives_plain k (applied a xs) at token)
judged (BindName k binds) at (word.Name n) = refl
judged (BindName k (b ∷ binds)) at word.In = refl
judged (BindEquals k binds n p) at word.Equals = refl
judged (Ended k e) at token = by_plain step (Ended k e) at token (give k e at token) refl
    (gives_plain k e at token)
judged (Brace k e) at word.OpenBrace = refl
judged (AltStart k s alts) at (word.Con n) = refl
judged (AltStart k s alts) at (word.Name n) = refl
judged (AltStart k s alts) at (word.Number minus v) = refl
judged (AltStart k s alts) at (word.Large minus) = (refl, minus, refl, refl)
judged (AltStart k s (AndAlt p e alts)) at word.CloseBrace = refl
judged (AltNames k s alts n p names) at (word.Name m) = refl
judged (AltNames k s alts n p names) at word.Arrow = refl
judged (AltArrow k s alts p) at word.Arrow = refl
judged s at token = by_plain step s at token (stop (refused at token)) refl
    (refused_plain State Expr at token)

-- ---- a number out of the range, where one of the range may stand or not

give_large : (k : Cont) (e : Expr) (at p : ℕ) (minus : Bool)
    → give k e at (word.Large minus) ≡ stop (NumberRange p) → ⊥
give_large (LetBody k binds) e at p minus h = give_large k (Let binds e) at p minus h
give_large Outermost e at p minus h = cc
give_large (Scrutinee k) e at p minus h = cc
give_large (AltBody k s alts q) e at p minus h = cc

-- where an integer out of the range may stand, that number may
pub large_goes : (s : State) (at p : ℕ) (minus : Bool) (v : ℤ)
    → step unlimited_nesting s at (word.Large minus) ≡ stop (NumberRange p)
    → (minus ≡ false → (n : ℕ) × (v ≡ pos n)) → Accepts step s at minus v
large_goes (Apply k held) at p minus v h f = (Apply k (with_last held (tree.Int v at)), refl)
large_goes (AltStart k s alts) at p minus v h f = (AltArrow k s alts (pattern.Int v at), refl)
large_goes (BindName k []) at p minus v h f = absurd cc
large_goes (BindName k (b ∷ bs)) at p minus v h f = absurd cc
large_goes (BindEquals k binds n q) at p minus v h f = absurd cc
large_goes (Ended k e) at p minus v h f = absurd (give_large k e at p minus h)
large_goes (Brace k e) at p minus v h f = absurd cc
large_goes (AltNames k s alts n q names) at p minus v h f = absurd cc
large_goes (AltArrow k s alts q) at p minus v h f = absurd cc

give_number : (k : Cont) (e : Expr) (at p : ℕ) (minus : Bool) (v : ℤ)
    → give k e at (word.Large minus) ≡ stop (Syntax p)
    → give k e at (word.Number minus v) ≡ stop (Syntax p)
give_number (LetBody k binds) e at p minus v h = give_number k (Let binds e) at p minus v h
give_number Outermost e at p minus v h = absurd cc
give_number (Scrutinee k) e at p minus v h = h
give_number (AltBody k s alts q) e at p minus v h = h

pub large_stops : (s : State) (at p : ℕ) (minus : Bool) (v : ℤ)
    → step unlimited_nesting s at (word.Large minus) ≡ stop (Syntax p)
    → step unlimited_nesting s at (word.Number minus v) ≡ stop (Syntax p)
large_stops (Apply k held) at p minus v h = absurd cc
large_stops (AltStart k s alts) at p minus v h = absurd cc
large_stops (BindName k []) at p minus v h = h
large_stops (BindName k (b ∷ bs)) at p minus v h = h
large_stops (BindEquals k binds n q) at p minus v h = h
large_stops (Ended k e) at p minus v h = give_number k e at p minus v h
large_stops (Brace k e) at p minus v h = h
large_stops (AltNames k s alts n q names) at p minus v h = h
large_stops (AltArrow k s alts q) at p minus v h = h

give_done : (k : Cont) (e : Expr) (at : ℕ) (minus : Bool) (v : ℤ) (f : Expr)
    → give k e at (word.Large minus) ≡ done f → give k e at (word.Number minus v) ≡ done f
give_done (LetBody k binds) e at minus v f h = give_done k (Let binds e) at minus v f h
give_done Outermost e at minus v f h = h
give_done (Scrutinee k) e at minus v f h = absurd cc
give_done (AltBody k s alts q) e at minus v f h = absurd cc

-- an expression that is whole before it is whole before that number
pub large_done : (s : State) (at : ℕ) (minus : Bool) (v : ℤ) (f : Expr)
    → step unlimited_nesting s at (word.Large minus) ≡ done f
    → step unlimited_nesting s at (word.Number minus v) ≡ done f
large_done (Apply k held) at minus v f h = absurd cc
large_done (AltStart k s alts) at minus v f h = absurd cc
large_done (BindName k []) at minus v f h = absurd cc
large_done (BindName k (b ∷ bs)) at minus v f h = absurd cc
large_done (BindEquals k binds n q) at minus v f h = absurd cc
large_done (Ended k e) at minus v f h = give_done k e at minus v f h
large_done (Brace k e) at minus v f h = absurd cc
large_done (AltNames k s alts n q names) at minus v f h = absurd cc
large_done (AltArrow k s alts q) at minus v f h = absurd cc

-- ---- nothing is read behind the last token

give_stays : (k : Cont) (e : Expr) (next : State) (at : ℕ) (token : Token) → IsLast token
    → give k e at token ≡ go next → ⊥
give_stays (LetBody k binds) e next at token h f = give_stays k (Let binds e) next at token h f
give_stays Outermost e next at token h f = cc
give_stays (Scrutinee k) e next at word.Bad h f = cc
give_stays (Scrutinee k) e next at word.End h f = cc
give_stays (Scrutinee k) e next at (word.Large minus) h f = cc
give_stays (AltBody k s alts p) e next at word.Bad h f = cc
give_stays (AltBody k s alts p) e next at word.End h f = cc
give_stays (AltBody k s alts p) e next at (word.Large minus) h f = cc
give_stays k e next at token h f = absurd h

pub last_stays : (s next : State) (at : ℕ) (token : Token) → IsLast token
    → step at_most_200 s at token ≡ go next → ⊥
last_stays (Apply (InBody k) (AndTerm a xs)) next at word.Bad h e
    = give_stays k (applied a xs) next at word.Bad tt e
last_stays (Apply (InBody k) (AndTerm a xs)) next at word.End h e
    = give_stays k (applied a xs) next at word.End tt e
last_stays (Ended k f) next at token h e = give_stays k f next at token h e
last_stays (Apply (Inside k held p) NoTerms) next at word.Bad h e = cc
last_stays (Apply (Inside k held p) (AndTerm a xs)) next at word.Bad h e = cc
last_stays (Apply (Inside k held p) NoTerms) next at word.End h e = cc
last_stays (Apply (Inside k held p) (AndTerm a xs)) next at word.End h e = cc
last_stays (Apply (InBind k binds n p) NoTerms) next at word.Bad h e = cc
last_stays (Apply (InBind k binds n p) (AndTerm a xs)) next at word.Bad h e = cc
last_stays (Apply (InBind k binds n p) NoTerms) next at word.End h e = cc
last_stays (Apply (InBind k binds n p) (AndTerm a xs)) next at word.End h e = cc
last_stays (Apply (InBody k) NoTerms) next at word.Bad h e = cc
last_stays (Apply (InBody k) NoTerms) next at word.End h e = cc
last_stays (Apply k held) next at (word.Large minus) h e = cc
last_stays (BindName k []) next at word.Bad h e = cc
last_stays (BindName k (b ∷ binds)) next at word.Bad h e = cc
last_stays (BindName k []) next at word.End h e = cc
last_stays (BindName k (b ∷ binds)) next at word.End h e = cc
last_stays (BindName k []) next at (word.Large minus) h e = cc
last_stays (BindName k (b ∷ binds)) next at (word.Large minus) h e = cc
last_stays (AltStart k s NoAlts) next at word.Bad h e = cc
last_stays (AltStart k s (AndAlt p f alts)) next at word.Bad h e = cc
last_stays (AltStart k s NoAlts) next at word.End h e = cc
last_stays (AltStart k s (AndAlt p f alts)) next at word.End h e = cc
last_stays (AltStart k s alts) next at (word.Large minus) h e = cc
last_stays s next at word.Bad h e = cc
last_stays s next at word.End h e = cc
last_stays s next at (word.Large minus) h e = cc
last_stays s next at token h e = absurd h
