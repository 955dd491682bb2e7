-- One token of a reading, as the code takes it.
use Rattle.std.proofs.Common.{◌≡◌, ℕ, length, ◌<◌, ◌≤◌, Bool, true, false, cond, List, [], ◌∷◌, ◌++◌, Result, Err, refl, sym, ap, subst, ◌∙◌, arith, ltb}
use Rattle.std.specs.Prelude.{ℤ}
use Rattle.std.proofs.lemmas.Bool.{le-ltb}
use Rattle.std.specs.declared.boxed.Box.{Box}
use Rattle.std.specs.declared.alloc.Global.{Global}
use Rattle.core_reader.specs.declared.syntax.NameId.{NameId}
use Rattle.core_reader.specs.declared.syntax.Pattern.{Pattern}
use Rattle.core_reader.specs.declared.token.Token.{Token}
use Rattle.core_reader.specs.declared.token.Token.TheVariants as word
use Rattle.core_reader.specs.declared.token.Lexeme.{Lexeme}
use Rattle.core_reader.specs.declared.refusal.ReadRefusal.{ReadRefusal}
use Rattle.core_reader.specs.declared.refusal.ReadRefusal.TheVariants.{BadByte, TooDeep}
use Rattle.core_reader.specs.declared.syntax.Atom.{Atom}
use Rattle.core_reader.specs.declared.syntax.Atom.TheVariants as atoms
use Rattle.core_reader.specs.declared.syntax.App as app
use Rattle.core_reader.specs.declared.syntax.Bind as bind
use Rattle.core_reader.specs.declared.syntax.Expr as code
use Rattle.core_reader.specs.declared.syntax.Expr.TheVariants as exprs
use Rattle.core_reader.specs.declared.syntax.Alt as alternative
use Rattle.core_reader.specs.Tree.{Term, Terms, NoTerms, AndTerm, Bind, Expr, App, Let, Case, Alts, NoAlts, AndAlt, Data, Function}
use Rattle.core_reader.specs.Tree as tree
use Rattle.core_reader.specs.Grammar.{NestingLimit, at_most_200}
use Rattle.core_reader.specs.Machine.{Cont, Outermost, LetBody, Scrutinee, AltBody, nests, Frame, InBody, InBind, Inside, opens, BindName, BindEquals, Ended, Brace, AltStart, AltNames, AltArrow, give, refused, State, Step, Apply, go, done, stop, step, Found, follow, run, with_last, ◌⊹◌, front, behind, starts_atom, is_name, refusal, Fails, terms, binds_of, alternatives, applied}
use Rattle.core_reader.proofs.Turns.{refused_fails}
use Rattle.core_reader.proofs.Complete.{ends_step}
use Rattle.core_reader.proofs.TreeOf.{term_of-Bracket, expr_of-Let, expr_of-Case, alternative_of}

-- a bad byte stops the reading, or an expression is whole before it
abbrev pub IsBad : ℕ → Step → Type 0
IsBad at (go s) = ⊥
IsBad at (done e) = Unit {0}
IsBad at (stop er) = er ≡ BadByte at

give_bad : (k : Cont) (e : Expr) (at : ℕ) → IsBad at (give k e at word.Bad)
give_bad Outermost e at = tt
give_bad (LetBody k binds) e at = give_bad k (Let binds e) at
give_bad (Scrutinee k) e at = refl
give_bad (AltBody k s alts p) e at = refl

pub is_bad : (l : NestingLimit) (s : State) (at : ℕ) → IsBad at (step l s at word.Bad)
is_bad l (Apply (Inside k held p) NoTerms) at = refl
is_bad l (Apply (Inside k held p) (AndTerm a xs)) at = refl
is_bad l (Apply (InBind k bs n p) NoTerms) at = refl
is_bad l (Apply (InBind k bs n p) (AndTerm a xs)) at = refl
is_bad l (Apply (InBody k) NoTerms) at = refl
is_bad l (Apply (InBody k) (AndTerm a xs)) at = give_bad k (applied a xs) at
is_bad l (BindName k []) at = refl
is_bad l (BindName k (b ∷ bs)) at = refl
is_bad l (BindEquals k bs n p) at = refl
is_bad l (Ended k e) at = give_bad k e at
is_bad l (Brace k e) at = refl
is_bad l (AltStart k s NoAlts) at = refl
is_bad l (AltStart k s (AndAlt p e xs)) at = refl
is_bad l (AltNames k s alts n p names) at = refl
is_bad l (AltArrow k s alts p) at = refl

no_turn : (st : Step) (at : ℕ) (f g : State → Result Found ReadRefusal) → IsBad at st
    → follow st [] f ≡ follow st [] g
no_turn (go s) at f g h = absurd h
no_turn (done e) at f g h = refl
no_turn (stop er) at f g h = refl

turns : (l : NestingLimit) (s : State) (ts : List Lexeme)
    → run l s ts ≡ follow (step l s (front ts).at (front ts).token) ts (λ s. run l s (behind ts))
unfolding run
turns l s [] = no_turn (step l s 0 word.Bad) 0 (λ s. Err (BadByte 0)) (λ s. run l s [])
    (is_bad l s 0)
turns l s (t ∷ ts) = refl

-- A token that is taken, and one that stops the reading.
pub takes : (l : NestingLimit) (s next : State) (ts : List Lexeme) (x : Lexeme) (token : Token)
    (after : List Lexeme) → x ≡ front ts → x.token ≡ token → after ≡ behind ts
    → step l s x.at token ≡ go next → run l s ts ≡ run l next after
takes l s next ts x token after front_is token_is after_is e =
    turns l s ts ∙ ap (λ (y : Lexeme). follow (step l s y.at y.token) ts (λ s. run l s (behind ts)))
    (sym front_is)
    ∙ ap (λ w. follow (step l s x.at w) ts (λ s. run l s (behind ts))) token_is
    ∙ ap (λ st. follow st ts (λ s. run l s (behind ts))) e
    ∙ ap (run l next) (sym after_is)

pub halts : (l : NestingLimit) (s : State) (ts : List Lexeme) (x : Lexeme) (token : Token)
    (er : ReadRefusal) → x ≡ front ts → x.token ≡ token
    → step l s x.at token ≡ stop er → run l s ts ≡ Err er
halts l s ts x token er front_is token_is e =
    turns l s ts ∙ ap (λ (y : Lexeme). follow (step l s y.at y.token) ts (λ s. run l s (behind ts)))
    (sym front_is)
    ∙ ap (λ w. follow (step l s x.at w) ts (λ s. run l s (behind ts))) token_is
    ∙ ap (λ st. follow st ts (λ s. run l s (behind ts))) e

-- A token that cannot stand here is refused.
pub refuses : (l : NestingLimit) (s : State) (ts : List Lexeme) (er : ReadRefusal)
    → er ≡ refusal (front ts) → step l s (front ts).at (front ts).token ≡ stop (refusal (front ts))
    → Fails er (run l s ts)
refuses l s ts er er_is e =
    subst (λ w. Fails w (run l s ts)) (sym er_is)
    (refused_fails (front ts).at (front ts).token (run l s ts)
    (halts l s ts (front ts) (front ts).token (refusal (front ts)) refl refl e))

-- the token neither goes on with the application in a bracket nor closes it
pub no_close : (l : NestingLimit) (k : Frame) (held : Terms) (p : ℕ) (a : Term) (xs : Terms)
    (at : ℕ) (token : Token) → starts_atom token ≡ false → (token ≡ word.Close → ⊥)
    → step l (Apply (Inside k held p) (AndTerm a xs)) at token ≡ stop (refused at token)
no_close l k held p a xs at (word.Name n) e h = absurd cc
no_close l k held p a xs at (word.Con n) e h = absurd cc
no_close l k held p a xs at (word.Number minus v) e h = absurd cc
no_close l k held p a xs at (word.Large minus) e h = absurd cc
no_close l k held p a xs at word.Open e h = absurd cc
no_close l k held p a xs at word.Close e h = absurd (h refl)
no_close l k held p a xs at token e h = refl

-- a bracket where 200 are open, and one where fewer are
pub too_deep : (k : Frame) (held : Terms) (depth at : ℕ) → opens k ≡ depth → 200 ≤ depth
    → step at_most_200 (Apply k held) at word.Open ≡ stop (TooDeep at)
too_deep k held depth at e h =
    let f : ltb (opens k) 200 ≡ false = le-ltb (opens k) 200 (omega arith) in
    ap (λ b. cond b (go (Apply (Inside k held at) NoTerms)) (stop (TooDeep at))) f

pub goes_in : (k : Frame) (held : Terms) (depth at : ℕ) → opens k ≡ depth → depth < 200
    → step at_most_200 (Apply k held) at word.Open ≡ go (Apply (Inside k held at) NoTerms)
goes_in k held depth at e h =
    let f : ltb (opens k) 200 ≡ true = grind arith in
    ap (λ b. cond b (go (Apply (Inside k held at) NoTerms)) (stop (TooDeep at))) f

pub fails_from : {Y : Type 0} (er : ReadRefusal) (r s : Result Y ReadRefusal) → r ≡ s → Fails er s
    → Fails er r
fails_from er r s e h = subst (Fails er) (sym e) h

pub opening : (k : Frame) (held : Terms) (ts after : List Lexeme) (depth at : ℕ) → opens k ≡ depth
    → depth < 200 → (front ts).token ≡ word.Open → (front ts).at ≡ at → after ≡ behind ts
    → run at_most_200 (Apply k held) ts ≡ run at_most_200 (Apply (Inside k held at) NoTerms) after
opening k held ts after depth at e h token_is at_is after_is =
    takes at_most_200 (Apply k held) (Apply (Inside k held at) NoTerms) ts (front ts) word.Open
    after refl token_is after_is (rw at_is (goes_in k held depth at e h))

pub terms_last : (xs : List Atom) (a : Atom) → terms (xs ++ a ∷ []) ≡ with_last (terms xs)
    (tree.term a)
terms_last [] a = refl
terms_last (x ∷ xs) a = ap (AndTerm (tree.term x)) (terms_last xs a)

pub pushed : (l : NestingLimit) (k : Frame) (h : Term) (items new : List Atom) (a : Atom)
    (ts : List Lexeme) → new ≡ items ++ a ∷ []
    → run l (Apply k (with_last (AndTerm h (terms items)) (tree.term a))) ts ≡ run l
    (Apply k (AndTerm h (terms new))) ts
pushed l k h items new a ts e = ap (λ xs. run l (Apply k (AndTerm h xs)) ts)
    (sym (terms_last items a) ∙ ap terms (sym e))

pub boxed : (l : NestingLimit) (k : Frame) (held : Terms) (at : ℕ) (b : Box app.App Global)
    (a : app.App) (ts : List Lexeme) → b.value ≡ a
    → run l (Apply k
    (with_last held (tree.Bracket (tree.application a).head (tree.application a).args at))) ts ≡
    run l (Apply k (with_last held (tree.term (atoms.Bracket b at)))) ts
boxed l k held at b a ts e = ap (λ a. run l (Apply k (with_last held a)) ts)
    (ap (λ x. tree.Bracket (tree.application x).head (tree.application x).args at) (sym e) ∙ sym
    (term_of-Bracket b at))

pub refuses_seen : (l : NestingLimit) (s : State) (ts : List Lexeme) (x : Lexeme) (token : Token)
    (er : ReadRefusal) → x ≡ front ts → x.token ≡ token → er ≡ refusal (front ts)
    → ((at : ℕ) → step l s at token ≡ stop (refused at token)) → Fails er (run l s ts)
refuses_seen l s ts x token er x_is token_is er_is g =
    let f : (front ts).token ≡ token = ap (λ (y : Lexeme). y.token) (sym x_is) ∙ token_is in
    refuses l s ts er er_is
    (subst (λ w. step l s (front ts).at w ≡ stop (refused (front ts).at w)) (sym f)
    (g (front ts).at))

pub behind_shorter : (ts : List Lexeme) → length (behind ts) ≤ length ts
behind_shorter [] = omega arith
behind_shorter (t ∷ ts) = omega arith

-- no application begins with the token, in a bracket and in a binding
pub no_head_inside : (l : NestingLimit) (k : Frame) (held : Terms) (p at : ℕ) (token : Token)
    → starts_atom token ≡ false → step l (Apply (Inside k held p) NoTerms) at token ≡ stop
    (refused at token)
no_head_inside l k held p at (word.Name n) e = absurd cc
no_head_inside l k held p at (word.Con n) e = absurd cc
no_head_inside l k held p at (word.Number minus v) e = absurd cc
no_head_inside l k held p at (word.Large minus) e = absurd cc
no_head_inside l k held p at word.Open e = absurd cc
no_head_inside l k held p at token e = refl

pub no_head_bind : (l : NestingLimit) (k : Cont) (bs : List Bind) (n : NameId) (p at : ℕ)
    (token : Token) → starts_atom token ≡ false → step l (Apply (InBind k bs n p) NoTerms) at token
    ≡ stop (refused at token)
no_head_bind l k bs n p at (word.Name m) e = absurd cc
no_head_bind l k bs n p at (word.Con m) e = absurd cc
no_head_bind l k bs n p at (word.Number minus v) e = absurd cc
no_head_bind l k bs n p at (word.Large minus) e = absurd cc
no_head_bind l k bs n p at word.Open e = absurd cc
no_head_bind l k bs n p at token e = refl

pub no_expr : (l : NestingLimit) (k : Cont) (at : ℕ) (token : Token) → starts_atom token ≡ false
    → (token ≡ word.Let → ⊥) → (token ≡ word.Case → ⊥)
    → step l (Apply (InBody k) NoTerms) at token ≡ stop (refused at token)
no_expr l k at (word.Name m) e h g = absurd cc
no_expr l k at (word.Con m) e h g = absurd cc
no_expr l k at (word.Number minus v) e h g = absurd cc
no_expr l k at (word.Large minus) e h g = absurd cc
no_expr l k at word.Open e h g = absurd cc
no_expr l k at word.Let e h g = absurd (h refl)
no_expr l k at word.Case e h g = absurd (g refl)
no_expr l k at token e h g = refl

-- a binding's name, where one has to come or `in` is not next
pub no_name : (l : NestingLimit) (k : Cont) (bs : List Bind) (at : ℕ) (token : Token)
    → ((n : NameId) → token ≡ word.Name n → ⊥) → (token ≡ word.In → ⊥)
    → step l (BindName k bs) at token ≡ stop (refused at token)
no_name l k bs at (word.Name n) h g = absurd (h n refl)
no_name l k bs at word.In h g = absurd (g refl)
no_name l k bs at token h g = refl

pub no_first : (l : NestingLimit) (k : Cont) (at : ℕ) (token : Token)
    → ((n : NameId) → token ≡ word.Name n → ⊥) → step l (BindName k []) at token ≡ stop
    (refused at token)
no_first l k at (word.Name n) h = absurd (h n refl)
no_first l k at token h = refl

pub no_equals : (l : NestingLimit) (k : Cont) (bs : List Bind) (n : NameId) (p at : ℕ)
    (token : Token) → (token ≡ word.Equals → ⊥) → step l (BindEquals k bs n p) at token ≡ stop
    (refused at token)
no_equals l k bs n p at word.Equals h = absurd (h refl)
no_equals l k bs n p at token h = refl

pub no_next : (l : NestingLimit) (k : Cont) (bs : List Bind) (n : NameId) (p : ℕ) (a : Term)
    (xs : Terms) (at : ℕ) (token : Token) → starts_atom token ≡ false → (token ≡ word.In → ⊥)
    → (token ≡ word.Semicolon → ⊥)
    → step l (Apply (InBind k bs n p) (AndTerm a xs)) at token ≡ stop (refused at token)
no_next l k bs n p a xs at (word.Name m) e h g = absurd cc
no_next l k bs n p a xs at (word.Con m) e h g = absurd cc
no_next l k bs n p a xs at (word.Number minus v) e h g = absurd cc
no_next l k bs n p a xs at (word.Large minus) e h g = absurd cc
no_next l k bs n p a xs at word.Open e h g = absurd cc
no_next l k bs n p a xs at word.In e h g = absurd (h refl)
no_next l k bs n p a xs at word.Semicolon e h g = absurd (g refl)
no_next l k bs n p a xs at token e h g = refl

-- an application that is whole is an expression that is whole
pub ended_app : (l : NestingLimit) (k : Cont) (a : Term) (xs : Terms) (ts : List Lexeme)
    → starts_atom (front ts).token ≡ false → run l (Apply (InBody k) (AndTerm a xs)) ts ≡ run l
    (Ended k (applied a xs)) ts
ended_app l k a xs ts e =
    turns l (Apply (InBody k) (AndTerm a xs)) ts
    ∙ ap (λ st. follow st ts (λ s. run l s (behind ts)))
    (ends_step l k a xs (front ts).at (front ts).token e)
    ∙ sym (turns l (Ended k (applied a xs)) ts)

pub let_deep : (k : Cont) (depth at : ℕ) → nests k ≡ depth → 200 ≤ depth
    → step at_most_200 (Apply (InBody k) NoTerms) at word.Let ≡ stop (TooDeep at)
let_deep k depth at e h =
    let f : ltb (nests k) 200 ≡ false = le-ltb (nests k) 200 (omega arith) in
    ap (λ b. cond b (go (BindName k [])) (stop (TooDeep at))) f

pub let_opens : (k : Cont) (ts after : List Lexeme) (depth at : ℕ) → nests k ≡ depth → depth < 200
    → (front ts).token ≡ word.Let → (front ts).at ≡ at → after ≡ behind ts
    → run at_most_200 (Apply (InBody k) NoTerms) ts ≡ run at_most_200 (BindName k []) after
let_opens k ts after depth at e h token_is at_is after_is =
    let f : ltb (nests k) 200 ≡ true = grind arith in
    takes at_most_200 (Apply (InBody k) NoTerms) (BindName k []) ts (front ts) word.Let after refl
    token_is after_is (ap (λ b. cond b (go (BindName k [])) (stop (TooDeep (front ts).at))) f)

pub some_in : (l : NestingLimit) (k : Cont) (bs : List Bind) (b : Bind) (at : ℕ)
    → step l (BindName k (bs ++ b ∷ [])) at word.In ≡ go
    (Apply (InBody (LetBody k (bs ++ b ∷ []))) NoTerms)
some_in l k [] b at = refl
some_in l k (c ∷ bs) b at = refl

pub nearer_still : (a b c d e : ℕ) → a ≡ b → b ≤ c → c < d → d ≤ e → a ≤ e
nearer_still a b c d e h g f i = omega arith

pub not_none : (bs : List Bind) → (bs ≡ [] → ⊥) → (l : NestingLimit) (k : Cont) (at : ℕ)
    → step l (BindName k bs) at word.In ≡ go (Apply (InBody (LetBody k bs)) NoTerms)
not_none [] h l k at = absurd (h refl)
not_none (b ∷ bs) h l k at = refl

pub let_ends : (l : NestingLimit) (k : Cont) (bs : List Bind) (e : Expr) (ts : List Lexeme)
    → run l (Ended (LetBody k bs) e) ts ≡ run l (Ended k (Let bs e)) ts
let_ends l k bs e ts = turns l (Ended (LetBody k bs) e) ts ∙ sym (turns l (Ended k (Let bs e)) ts)

pub boxed_let : (k : Cont) (bs : List bind.Bind) (b : Box code.Expr Global) (e : code.Expr)
    (ts : List Lexeme) → b.value ≡ e
    → run at_most_200 (Ended k (Let (binds_of bs) (tree.expr e))) ts ≡ run at_most_200
    (Ended k (tree.expr (exprs.Let bs b))) ts
boxed_let k bs b e ts h = ap (λ w. run at_most_200 (Ended k w) ts)
    (ap (λ x. Let (binds_of bs) (tree.expr x)) (sym h) ∙ sym (expr_of-Let bs b))

pub binds_last : (xs : List bind.Bind) (b : bind.Bind) → binds_of (xs ++ b ∷ []) ≡ binds_of xs
    ++ tree.bind b ∷ []
binds_last [] b = refl
binds_last (x ∷ xs) b = ap (λ w. tree.bind x ∷ w) (binds_last xs b)

pub some_binds : (xs : List bind.Bind) → (xs ≡ [] → ⊥) → binds_of xs ≡ [] → ⊥
some_binds [] h e = h refl
some_binds (x ∷ xs) h e = cc

pub alts_last : (xs : List alternative.Alt) (p : Pattern) (e : code.Expr)
    → alternatives (xs ++ record { pattern = p; body = e } ∷ []) ≡ alternatives xs ⊹ AndAlt p
    (tree.expr e) NoAlts
alts_last [] p e = alternative_of (record { pattern = p; body = e }) NoAlts
alts_last (x ∷ xs) p e =
    alternative_of x (alternatives (xs ++ record { pattern = p; body = e } ∷ []))
    ∙ ap (AndAlt x.pattern (tree.expr x.body)) (alts_last xs p e)
    ∙ ap (λ w. w ⊹ AndAlt p (tree.expr e) NoAlts) (sym (alternative_of x (alternatives xs)))

pub case_deep : (k : Cont) (depth at : ℕ) → nests k ≡ depth → 200 ≤ depth
    → step at_most_200 (Apply (InBody k) NoTerms) at word.Case ≡ stop (TooDeep at)
case_deep k depth at e h =
    let f : ltb (nests k) 200 ≡ false = le-ltb (nests k) 200 (omega arith) in
    ap (λ b. cond b (go (Apply (InBody (Scrutinee k)) NoTerms)) (stop (TooDeep at))) f

pub case_opens : (k : Cont) (ts after : List Lexeme) (depth at : ℕ) → nests k ≡ depth → depth < 200
    → (front ts).token ≡ word.Case → (front ts).at ≡ at → after ≡ behind ts
    → run at_most_200 (Apply (InBody k) NoTerms) ts ≡ run at_most_200
    (Apply (InBody (Scrutinee k)) NoTerms) after
case_opens k ts after depth at e h token_is at_is after_is =
    let f : ltb (nests k) 200 ≡ true = grind arith in
    takes at_most_200 (Apply (InBody k) NoTerms) (Apply (InBody (Scrutinee k)) NoTerms) ts
    (front ts) word.Case after refl token_is after_is
    (ap (λ b. cond b (go (Apply (InBody (Scrutinee k)) NoTerms)) (stop (TooDeep (front ts).at)))
    f)

pub no_of : (l : NestingLimit) (k : Cont) (e : Expr) (at : ℕ) (token : Token)
    → (token ≡ word.Of → ⊥) → step l (Ended (Scrutinee k) e) at token ≡ stop (refused at token)
no_of l k e at word.Of h = absurd (h refl)
no_of l k e at token h = refl

pub no_brace : (l : NestingLimit) (k : Cont) (e : Expr) (at : ℕ) (token : Token)
    → (token ≡ word.OpenBrace → ⊥) → step l (Brace k e) at token ≡ stop (refused at token)
no_brace l k e at word.OpenBrace h = absurd (h refl)
no_brace l k e at token h = refl

pub no_alt_end : (l : NestingLimit) (k : Cont) (s : Expr) (xs : Alts) (p : Pattern) (e : Expr)
    (at : ℕ) (token : Token) → (token ≡ word.CloseBrace → ⊥) → (token ≡ word.Semicolon → ⊥)
    → step l (Ended (AltBody k s xs p) e) at token ≡ stop (refused at token)
no_alt_end l k s xs p e at word.CloseBrace h g = absurd (h refl)
no_alt_end l k s xs p e at word.Semicolon h g = absurd (g refl)
no_alt_end l k s xs p e at token h g = refl

pub no_arrow : (l : NestingLimit) (k : Cont) (s : Expr) (xs : Alts) (p : Pattern) (at : ℕ)
    (token : Token) → (token ≡ word.Arrow → ⊥) → step l (AltArrow k s xs p) at token ≡ stop
    (refused at token)
no_arrow l k s xs p at word.Arrow h = absurd (h refl)
no_arrow l k s xs p at token h = refl

pub no_arrow_names : (l : NestingLimit) (k : Cont) (s : Expr) (xs : Alts) (n : NameId) (p : ℕ)
    (names : _) (at : ℕ) (token : Token) → is_name token ≡ false → (token ≡ word.Arrow → ⊥)
    → step l (AltNames k s xs n p names) at token ≡ stop (refused at token)
no_arrow_names l k s xs n p names at (word.Name m) e h = absurd cc
no_arrow_names l k s xs n p names at word.Arrow e h = absurd (h refl)
no_arrow_names l k s xs n p names at token e h = refl

pub no_pattern : (l : NestingLimit) (k : Cont) (s : Expr) (xs : Alts) (at : ℕ) (token : Token)
    → ((n : NameId) → token ≡ word.Name n → ⊥) → ((m : Bool) (v : ℤ) → token ≡ word.Number m v → ⊥)
    → ((m : Bool) → token ≡ word.Large m → ⊥) → ((n : NameId) → token ≡ word.Con n → ⊥)
    → (token ≡ word.CloseBrace → ⊥)
    → step l (AltStart k s xs) at token ≡ stop (refused at token)
no_pattern l k s xs at (word.Name n) h g f e d = absurd (h n refl)
no_pattern l k s xs at (word.Number m v) h g f e d = absurd (g m v refl)
no_pattern l k s xs at (word.Large m) h g f e d = absurd (f m refl)
no_pattern l k s xs at (word.Con n) h g f e d = absurd (e n refl)
no_pattern l k s xs at word.CloseBrace h g f e d = absurd (d refl)
no_pattern l k s xs at token h g f e d = refl

pub boxed_case : (k : Cont) (b : Box code.Expr Global) (e : code.Expr) (xs : List alternative.Alt)
    (ts : List Lexeme) → b.value ≡ e
    → run at_most_200 (Ended k (Case (tree.expr e) (alternatives xs))) ts ≡ run at_most_200
    (Ended k (tree.expr (exprs.Case b xs))) ts
boxed_case k b e xs ts h = ap (λ w. run at_most_200 (Ended k w) ts)
    (ap (λ x. Case (tree.expr x) (alternatives xs)) (sym h) ∙ sym (expr_of-Case b xs))

pub some_alts : (xs : List alternative.Alt) → (xs ≡ [] → ⊥)
    → (l : NestingLimit) (k : Cont) (s : Expr) (at : ℕ)
    → step l (AltStart k s (alternatives xs)) at word.CloseBrace ≡ go
    (Ended k (Case s (alternatives xs)))
some_alts [] h l k s at = absurd (h refl)
some_alts (x ∷ xs) h l k s at = rw (alternative_of x (alternatives xs)) refl

pub not_name : (token : Token) → ((n : NameId) → token ≡ word.Name n → ⊥) → is_name token ≡ false
not_name (word.Name n) h = absurd (h n refl)
not_name token h = refl
