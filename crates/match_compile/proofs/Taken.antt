-- One token of a text of equations, as the code takes it.
use Rattle.std.proofs.Common.{◌≡◌, ℕ, ◌<◌, ◌≤◌, Bool, true, false, cond, List, [], ◌∷◌, ◌++◌, map, Result, Ok, Err, refl, sym, ap, subst, ◌∙◌, arith, ltb}
use Rattle.std.specs.Prelude.{ℤ, pos, negsuc, ◌<ℤ◌, ◌≤ℤ◌}
use Rattle.std.proofs.lemmas.Bool.{le-ltb}
use Rattle.std.proofs.lemmas.Int.{ints}
use lib.IntN.{nat_abs}
use Rattle.core_reader.specs.declared.syntax.NameId.{NameId}
use Rattle.core_reader.specs.declared.token.Token.{Token}
use Rattle.core_reader.specs.declared.token.Token.TheVariants as word
use Rattle.core_reader.specs.declared.token.Lexeme.{Lexeme}
use Rattle.core_reader.specs.declared.refusal.ReadRefusal.{ReadRefusal}
use Rattle.core_reader.specs.declared.refusal.ReadRefusal.TheVariants.{BadByte, Syntax, NumberRange, TooDeep, TextTooLong, Memory}
use Rattle.core_reader.specs.Tree.{Expr, Data, NoTerms}
use Rattle.core_reader.specs.Grammar.{at_most_200}
use Rattle.core_reader.specs.ReadingOf.{Step, follow, go, stop}
use Rattle.core_reader.specs.Machine as expression
use Rattle.core_reader.specs.Machine.{Outermost, InBody, Apply, Ended, refused, refusal, front, behind, starts_atom, Fails}
use Rattle.core_reader.specs.AroundOf.{next, refuse, step_of_move, Outside, Within}
use Rattle.core_reader.proofs.Turns as any
use Rattle.core_reader.proofs.Turns.{turns, bad_halts}
use Rattle.core_reader.proofs.AroundOf.{through, continue}
use Rattle.match_compile.specs.declared.source.Pat as code-pat
use Rattle.match_compile.specs.Source.{Pats, NoPats, AndPat, Equation}
use Rattle.match_compile.specs.SourceOf.{pat_of, pats_of}
use Rattle.match_compile.specs.Grammar.{Decl, Declares, Equates, constructors_of, equations_of}
use Rattle.match_compile.specs.Reading.{with_last, Place, InLine, InBracket, opens, EquationStart, Transition, DataName, Count, DataEnd, Matching, Opened, Hole, InEquation, equations, State, top, step, run}
use Rattle.match_compile.proofs.Reading.{finish_bad, matching_laws}

pub takes : (s t : State) (ts : List Lexeme) (x : Lexeme) (token : Token) (after : List Lexeme)
    → x ≡ front ts → x.token ≡ token → after ≡ behind ts
    → step at_most_200 s x.at token ≡ go t → run s ts ≡ run t after
takes s t ts x token after front_is token_is after_is e
    = any.takes step at_most_200 (bad_halts matching_laws) s t ts x token after front_is token_is
    after_is e

pub halts : (s : State) (ts : List Lexeme) (x : Lexeme) (token : Token) (er : ReadRefusal)
    → x ≡ front ts → x.token ≡ token
    → step at_most_200 s x.at token ≡ stop er → run s ts ≡ Err er
halts s ts x token er front_is token_is e = any.halts step at_most_200 (bad_halts matching_laws) s
    ts x token er front_is token_is e

pub refuses : (s : State) (ts : List Lexeme) (er : ReadRefusal) → er ≡ refusal (front ts)
    → step at_most_200 s (front ts).at (front ts).token ≡ stop (refusal (front ts))
    → Fails er (run s ts)
refuses s ts er er_is e = any.refuses step at_most_200 (bad_halts matching_laws) s ts er er_is e

pub refuses_seen : (s : State) (ts : List Lexeme) (x : Lexeme) (token : Token) (er : ReadRefusal)
    → x ≡ front ts → x.token ≡ token → er ≡ refusal (front ts)
    → ((at : ℕ) → step at_most_200 s at token ≡ stop (refused at token)) → Fails er (run s ts)
refuses_seen s ts x token er x_is token_is er_is g = any.refuses_seen step at_most_200
    (bad_halts matching_laws) s ts x token er x_is token_is er_is g

pub token_of : (x y : Lexeme) (token : Token) → x ≡ y → y.token ≡ token → x.token ≡ token
token_of x y token e h = ap (λ (z : Lexeme). z.token) e ∙ h

-- ---- declarations of constructors

pub no_con : (ds : List Decl) (at : ℕ) (token : Token) → ((n : NameId) → token ≡ word.Con n → ⊥)
    → step at_most_200 (Outside (DataName ds)) at token ≡ stop (refused at token)
no_con ds at (word.Con n) h = absurd (h n refl)
no_con ds at word.Bad h = refl
no_con ds at token h = refl

pub no_semicolon : (ds : List Decl) (n : NameId) (p : ℕ) (fields : _) (at : ℕ) (token : Token)
    → (token ≡ word.Semicolon → ⊥) → step at_most_200 (Outside (DataEnd ds n p fields)) at token ≡
    stop (refused at token)
no_semicolon ds n p fields at word.Semicolon h = absurd (h refl)
no_semicolon ds n p fields at word.Bad h = refl
no_semicolon ds n p fields at token h = refl

pub no_count : (ds : List Decl) (n : NameId) (p at : ℕ) (token : Token)
    → ((m : Bool) (v : ℤ) → token ≡ word.Number m v → ⊥) → ((m : Bool) → token ≡ word.Large m → ⊥)
    → step at_most_200 (Outside (Count ds n p)) at token ≡ stop (refused at token)
no_count ds n p at (word.Number m v) h g = absurd (h m v refl)
no_count ds n p at (word.Large m) h g = absurd (g m refl)
no_count ds n p at token h g = refl

pub minus_count : (ds : List Decl) (n : NameId) (p at : ℕ) (v : ℤ)
    → step at_most_200 (Outside (Count ds n p)) at (word.Number true v) ≡ stop (Syntax at)
minus_count ds n p at (pos k) = refl
minus_count ds n p at (negsuc k) = refl

pub below_count : (ds : List Decl) (n : NameId) (p at : ℕ) (v : ℤ) → v <ℤ pos 0
    → step at_most_200 (Outside (Count ds n p)) at (word.Number false v) ≡ stop (Syntax at)
below_count ds n p at (pos k) h = absurd (omega (arith, ints))
below_count ds n p at (negsuc k) h = refl

pub good_count : (ds : List Decl) (n : NameId) (p at : ℕ) (v : ℤ) → pos 0 ≤ℤ v
    → step at_most_200 (Outside (Count ds n p)) at (word.Number false v) ≡ go
    (Outside (DataEnd ds n p (nat_abs v)))
good_count ds n p at (pos k) h = refl
good_count ds n p at (negsuc k) h = absurd (omega (arith, ints))

-- ---- patterns

pub no_pattern_con : (b : EquationStart) (k : Place) (held : Pats) (at : ℕ) (token : Token)
    → ((n : NameId) → token ≡ word.Con n → ⊥) → step at_most_200 (Outside (Opened b k held)) at
    token ≡ stop (refused at token)
no_pattern_con b k held at (word.Con n) h = absurd (h n refl)
no_pattern_con b k held at token h = refl

pub no_close : (b : EquationStart) (k : Place) (before : Pats) (c : _) (held : Pats) (at : ℕ)
    (token : Token) → starts_atom token ≡ false → (token ≡ word.Close → ⊥)
    → step at_most_200 (Outside (Matching b (InBracket k before c) held)) at token ≡ stop
    (refused at token)
no_close b k before c held at (word.Name n) e h = absurd cc
no_close b k before c held at (word.Con n) e h = absurd cc
no_close b k before c held at (word.Number minus v) e h = absurd cc
no_close b k before c held at (word.Large minus) e h = absurd cc
no_close b k before c held at word.Open e h = absurd cc
no_close b k before c held at word.Close e h = absurd (h refl)
no_close b k before c held at token e h = refl

pub no_equals : (b : EquationStart) (held : Pats) (at : ℕ) (token : Token)
    → starts_atom token ≡ false → (token ≡ word.Equals → ⊥)
    → step at_most_200 (Outside (Matching b InLine held)) at token ≡ stop (refused at token)
no_equals b held at (word.Name n) e h = absurd cc
no_equals b held at (word.Con n) e h = absurd cc
no_equals b held at (word.Number minus v) e h = absurd cc
no_equals b held at (word.Large minus) e h = absurd cc
no_equals b held at word.Open e h = absurd cc
no_equals b held at word.Equals e h = absurd (h refl)
no_equals b held at token e h = refl

-- a bracket where 200 are open, and one where fewer are
abbrev room : EquationStart → Place → Pats → ℕ → Bool → Step State (List Decl)
room b k held at r = step_of_move
    (cond {A = Transition} r (next (Opened b k held)) (refuse (TooDeep at)))

pub too_deep : (b : EquationStart) (k : Place) (held : Pats) (depth at : ℕ) → opens k ≡ depth
    → 200 ≤ depth → step at_most_200 (Outside (Matching b k held)) at word.Open ≡ stop (TooDeep at)
too_deep b k held depth at e h =
    let f : ltb (opens k) 200 ≡ false = le-ltb (opens k) 200 (omega arith) in
    ap (room b k held at) f

pub opening : (b : EquationStart) (k : Place) (held : Pats) (ts after : List Lexeme) (depth at : ℕ)
    → opens k ≡ depth → depth < 200 → (front ts).token ≡ word.Open → (front ts).at ≡ at
    → after ≡ behind ts
    → run (Outside (Matching b k held)) ts ≡ run (Outside (Opened b k held)) after
opening b k held ts after depth at e h token_is at_is after_is =
    let f : ltb (opens k) 200 ≡ true = grind arith in
    takes (Outside (Matching b k held)) (Outside (Opened b k held)) ts (front ts) word.Open after
    refl token_is after_is (ap (room b k held (front ts).at) f)

pub pats_push : (xs : List code-pat.Pat) (p : code-pat.Pat)
    → pats_of (map pat_of (xs ++ p ∷ [])) ≡ with_last (pats_of (map pat_of xs)) (pat_of p)
pats_push [] p = refl
pats_push (x ∷ xs) p = ap (AndPat (pat_of x)) (pats_push xs p)

pub pushed : (b : EquationStart) (k : Place) (items new : List code-pat.Pat) (p : code-pat.Pat)
    (ts : List Lexeme) → new ≡ items ++ p ∷ []
    → run (Outside (Matching b k (with_last (pats_of (map pat_of items)) (pat_of p)))) ts ≡ run
    (Outside (Matching b k (pats_of (map pat_of new)))) ts
pushed b k items new p ts e = ap (λ ps. run (Outside (Matching b k ps)) ts)
    (sym (pats_push items p) ∙ ap (λ w. pats_of (map pat_of w)) (sym e))

pub fails_from : {Y : Type 0} (er : ReadRefusal) (r s : Result Y ReadRefusal) → r ≡ s → Fails er s
    → Fails er r
fails_from er r s e h = subst (Fails er) (sym e) h

-- ---- equations

-- an equation's body, which stands behind the `=`
pub body_read : (k : Hole) (e : Expr) (old new : List Lexeme)
    → expression.run at_most_200 (Apply (InBody Outermost) NoTerms) old ≡ expression.run at_most_200
    (Ended Outermost e) new
    → run (Within k (Apply (InBody Outermost) NoTerms)) old ≡ run (Within k (Ended Outermost e)) new
body_read k e old new h =
    through equations finish_bad at_most_200 k (Apply (InBody Outermost) NoTerms) old ∙ ap
    (continue equations at_most_200 k) h ∙ sym
    (through equations finish_bad at_most_200 k (Ended Outermost e) new)

fails_by : (k : Hole) (er : ReadRefusal) (read : Result expression.Found ReadRefusal)
    → Fails er read → Fails er (continue equations at_most_200 k read)
fails_by k (BadByte p) read h = ap (continue equations at_most_200 k) h
fails_by k (Syntax p) read h = ap (continue equations at_most_200 k) h
fails_by k (NumberRange p) read h = ap (continue equations at_most_200 k) h
fails_by k (TooDeep p) read h = ap (continue equations at_most_200 k) h
fails_by k TextTooLong read h = ap (continue equations at_most_200 k) h
fails_by k (Memory e) read h = tt

pub body_fails : (k : Hole) (er : ReadRefusal) (s : expression.State) (ts : List Lexeme)
    → Fails er (expression.run at_most_200 s ts) → Fails er (run (Within k s) ts)
body_fails k er s ts h = subst (Fails er) (sym (through equations finish_bad at_most_200 k s ts))
    (fails_by k er (expression.run at_most_200 s ts) h)

pub no_end : (b : EquationStart) (pats : Pats) (e : Expr) (at : ℕ) (token : Token)
    → (token ≡ word.Semicolon → ⊥) → step at_most_200
    (Within (InEquation b pats) (Ended Outermost e)) at token ≡ stop (refused at token)
no_end b pats e at word.Semicolon h = absurd (h refl)
no_end b pats e at token h = refl

abbrev pub begun : List Decl → NameId → ℕ → EquationStart
begun ds n p = record { decls = ds; name = n; at = p }

pub naming : (ds : List Decl) (n : NameId) (p : ℕ) (ts after : List Lexeme)
    → (front ts).token ≡ word.Name n → (front ts).at ≡ p → after ≡ behind ts
    → run (top ds) ts ≡ run (Outside (Matching (begun ds n p) InLine NoPats)) after
naming ds n p ts after token_is at_is after_is = takes (top ds)
    (Outside (Matching (begun ds n p) InLine NoPats)) ts (front ts) (word.Name n) after refl
    token_is after_is (ap (λ w. go (Outside (Matching (begun ds n w) InLine NoPats))) at_is)

-- ---- all declarations

pub no_decl : (ds : List Decl) (at : ℕ) (token : Token) → (token ≡ word.Data → ⊥)
    → ((n : NameId) → token ≡ word.Name n → ⊥) → (token ≡ word.End → ⊥)
    → step at_most_200 (top ds) at token ≡ stop (refused at token)
no_decl ds at word.Data h g f = absurd (h refl)
no_decl ds at (word.Name n) h g f = absurd (g n refl)
no_decl ds at word.End h g f = absurd (f refl)
no_decl ds at token h g f = refl

pub constructors_last : (ds : List Decl) (d : Data)
    → constructors_of (ds ++ Declares d ∷ []) ≡ constructors_of ds ++ d ∷ []
constructors_last [] d = refl
constructors_last (Declares c ∷ ds) d = ap (λ w. c ∷ w) (constructors_last ds d)
constructors_last (Equates f ∷ ds) d = constructors_last ds d

pub constructors_same : (ds : List Decl) (f : Equation)
    → constructors_of (ds ++ Equates f ∷ []) ≡ constructors_of ds
constructors_same [] f = refl
constructors_same (Declares c ∷ ds) f = ap (λ w. c ∷ w) (constructors_same ds f)
constructors_same (Equates g ∷ ds) f = constructors_same ds f

pub equations_last : (ds : List Decl) (f : Equation)
    → equations_of (ds ++ Equates f ∷ []) ≡ equations_of ds ++ f ∷ []
equations_last [] f = refl
equations_last (Declares c ∷ ds) f = equations_last ds f
equations_last (Equates g ∷ ds) f = ap (λ w. g ∷ w) (equations_last ds f)

pub equations_same : (ds : List Decl) (d : Data) → equations_of (ds ++ Declares d ∷ []) ≡
    equations_of ds
equations_same [] d = refl
equations_same (Declares c ∷ ds) d = equations_same ds d
equations_same (Equates g ∷ ds) d = ap (λ w. g ∷ w) (equations_same ds d)

pub finishes : (ds : List Decl) (ts : List Lexeme) (x : Lexeme) → x ≡ front ts → x.token ≡ word.End
    → run (top ds) ts ≡ Ok ds
finishes ds ts x front_is token_is =
    turns step at_most_200 (bad_halts matching_laws) (top ds) ts
    ∙ ap (λ (y : Lexeme). follow (step at_most_200 (top ds) y.at y.token) (λ s. run s (behind ts)))
    (sym front_is)
    ∙ ap (λ w. follow (step at_most_200 (top ds) x.at w) (λ s. run s (behind ts))) token_is
