-- The reading of equations owes what a reading of a text owes.
use Rattle.std.proofs.Common.{◌≡◌, ℕ, Bool, true, false, cond, List, [], ◌∷◌, ◌++◌, Result, Ok, map, refl, sym, ap, subst, ◌∙◌, append_assoc, inl, inr}
use Rattle.std.specs.Prelude.{ℤ, pos, negsuc, codes}
use Rattle.std.proofs.lemmas.List.{append-nil}
use Rattle.core_reader.specs.declared.dialect.Dialect.TheVariants.{Core}
use Rattle.core_reader.specs.declared.token.Token.{Token}
use Rattle.core_reader.specs.declared.token.Token.TheVariants as word
use Rattle.core_reader.specs.declared.token.Lexeme.{Lexeme}
use Rattle.core_reader.specs.declared.refusal.ReadRefusal.{ReadRefusal}
use Rattle.core_reader.specs.declared.refusal.ReadRefusal.TheVariants.{BadByte, Syntax, NumberRange, TooDeep}
use Rattle.core_reader.specs.Tree.{Expr, NoTerms}
use Rattle.core_reader.specs.Grammar.{NestingLimit, unlimited_nesting, at_most_200, lexeme, name_id, SpellsExpr}
use Rattle.core_reader.specs.TokensOf.{Piece}
use Rattle.core_reader.specs.WordsOf.{said}
use Rattle.core_reader.specs.NamesOf.{names_of}
use Rattle.core_reader.specs.ReadingOf.{Step, go, stop, follow, run_of}
use Rattle.core_reader.specs.Machine as expression
use Rattle.core_reader.specs.Machine.{Outermost, InBody, Apply, Ended, starts_atom, refused}
use Rattle.core_reader.specs.AroundOf.{next, refuse, Outside, Within, step_of_move, steps}
use Rattle.core_reader.proofs.NamingOf.{Texts}
use Rattle.core_reader.proofs.ReadingOf.{IsLast, ended, refused_plain, Verdict, opened, Laws, ReadsLanguage}
use Rattle.core_reader.proofs.AroundOf.{continue, through, GoodMove, PlainMove, LastMove, EndMove, AroundLaws, around_laws, by_move}
use Rattle.core_reader.proofs.Complete.{reads_body}
use Rattle.core_reader.proofs.Ending.{piece, constructor}
use Rattle.match_compile.specs.Source.{Source, Pat, Name, Int, Con, Pats, NoPats, AndPat}
use Rattle.match_compile.specs.Grammar.{Decl, Declares, Equates, IsUnbracketed, SpellsPat, SpellsPats, SpellsDecl, SpellsDecls, constructors_of, equations_of, IsSource}
use Rattle.match_compile.specs.Reading.{binder, with_last, ◌⊹◌, Place, InLine, InBracket, opens, EquationStart, declared, equated, Own, Top, DataName, Count, DataEnd, Matching, Opened, Hole, InEquation, Transition, move, finish, equations, equation_reading, State, top}
use Rattle.match_compile.proofs.Standing.{joined_last, joined_none, StandsAt, stands_last, stands_closed, stands_opened}

-- ---- the tokens that were read

abbrev KnownAt : NestingLimit → EquationStart → Place → Pats → List Lexeme → Type 0
KnownAt l b k held ts = (us vs : List Lexeme) × SpellsDecls l b.decls us × StandsAt l k held vs
    × (ts ≡ us ++ (lexeme b.at (word.Name b.name) ∷ vs))

abbrev Known : NestingLimit → Own → List Lexeme → Type 0
Known l (Top ds) ts = SpellsDecls l ds ts
Known l (DataName ds) ts = (us : List Lexeme) × (p : ℕ) × SpellsDecls l ds us
    × (ts ≡ us ++ lexeme p word.Data ∷ [])
Known l (Count ds n at) ts = (us : List Lexeme) × (p : ℕ) × SpellsDecls l ds us
    × (ts ≡ us ++ lexeme p word.Data ∷ lexeme at (word.Con n) ∷ [])
Known l (DataEnd ds n at fields) ts = (us : List Lexeme) × (p q : ℕ) × SpellsDecls l ds us
    × (ts ≡ us ++ lexeme p word.Data ∷ lexeme at (word.Con n) ∷ lexeme q
    (word.Number false (pos fields)) ∷ [])
Known l (Matching b k held) ts = KnownAt l b k held ts
Known l (Opened b k held) ts = (us : List Lexeme) × (p : ℕ) × KnownAt l b k held us
    × (l (opens k) ≡ true) × (ts ≡ us ++ lexeme p word.Open ∷ [])

abbrev Opens : NestingLimit → Hole → List Lexeme → Type 0
Opens l (InEquation b pats) ts = (us vs : List Lexeme) × (q : ℕ) × SpellsDecls l b.decls us
    × SpellsPats l 0 pats vs ×
    (ts ≡ us ++ (lexeme b.at (word.Name b.name) ∷ (vs ++ lexeme q word.Equals ∷ [])))

decls_last : (l : NestingLimit) (ds : List Decl) (d : Decl) (us vs : List Lexeme)
    → SpellsDecls l ds us → SpellsDecl l d vs → SpellsDecls l (ds ++ d ∷ []) (us ++ vs)
decls_last l [] d us vs h g = (vs, [], g, refl, rw (h, append-nil) refl)
decls_last l (e ∷ es) d us vs h g = (
  h.0,
  h.1 ++ vs,
  h.2,
  decls_last l es d h.1 vs h.3 g,
  ap (λ w. w ++ vs) h.4 ∙ append_assoc h.0 h.1 vs,
)

-- one more pattern
known_last : (l : NestingLimit) (b : EquationStart) (k : Place) (held : Pats) (q : Pat)
    (ts us : List Lexeme) → KnownAt l b k held ts → SpellsPat l (opens k) q us
    → KnownAt l b k (with_last held q) (ts ++ us)
known_last l b k held q ts us h g =
    let e : ts ++ us ≡ h.0 ++ (lexeme b.at (word.Name b.name) ∷ (h.1 ++ us))
    = simp (h.4, append_assoc) in
    (h.0, h.1 ++ us, h.2, stands_last l k held q h.1 us h.3 g, e)

known_closed : (l : NestingLimit) (b : EquationStart) (k : Place) (before : Pats) (c : _)
    (held : Pats) (ts : List Lexeme) (q : ℕ) → KnownAt l b (InBracket k before c) held ts
    → KnownAt l b k (with_last before (Con c held)) (ts ++ lexeme q word.Close ∷ [])
known_closed l b k before c held ts q h =
    let us = lexeme q word.Close ∷ [] in
    let e : ts ++ us ≡ h.0 ++ (lexeme b.at (word.Name b.name) ∷ (h.1 ++ us))
    = simp (h.4, append_assoc) in
    (h.0, h.1 ++ us, h.2, stands_closed l k before c held h.1 q h.3, e)

opened_good : (l : NestingLimit) (b : EquationStart) (k : Place) (held : Pats) (ts : List Lexeme)
    (at : ℕ) (room : Bool) → l (opens k) ≡ room → KnownAt l b k held ts
    → GoodMove (Known l) (Opens l) (SpellsDecls l)
    (cond room (next (Opened b k held)) (refuse (TooDeep at))) (ts ++ lexeme at word.Open ∷ [])
opened_good l b k held ts at true e h = (ts, at, h, e, refl)
opened_good l b k held ts at false e h = tt

sound_move : (l : NestingLimit) (o : Own) (ts : List Lexeme) (at : ℕ) (token : Token) → Known l o ts
    → GoodMove (Known l) (Opens l) (SpellsDecls l) (move l o at token) (ts ++ lexeme at token ∷ [])
sound_move l (Top ds) ts at word.Data h = (ts, at, h, refl)
sound_move l (Top ds) ts at (word.Name n) h = (ts, [], h, refl, refl)
sound_move l (Top ds) ts at word.End h = (ts, at, h, refl)
sound_move l (DataName ds) ts at (word.Con n) h = (h.0, h.1, h.2, simp (h.3, append_assoc))
sound_move l (Count ds n p) ts at (word.Number false (pos size)) h
    = (h.0, h.1, at, h.2, simp (h.3, append_assoc))
sound_move l (Count ds n p) ts at (word.Large false) h = tt
sound_move l (DataEnd ds n p fields) ts at word.Semicolon h =
    let vs = lexeme h.1 word.Data ∷ lexeme p (word.Con n) ∷ lexeme h.2
    (word.Number false (pos fields)) ∷ lexeme at word.Semicolon ∷ [] in
    let e : ts ++ lexeme at word.Semicolon ∷ [] ≡ h.0 ++ vs = simp (h.4, append_assoc) in
    rw e (decls_last l ds (declared n p fields) h.0 vs h.3 (h.1, h.2, at, refl))
sound_move l (Matching b k held) ts at (word.Name n) h
    = known_last l b k held (Name (binder n at)) ts (lexeme at (word.Name n) ∷ []) h refl
sound_move l (Matching b k held) ts at (word.Con n) h
    = known_last l b k held (Con (binder n at) NoPats) ts (lexeme at (word.Con n) ∷ []) h (inl refl)
sound_move l (Matching b k held) ts at (word.Number minus v) h
    = known_last l b k held (Int v at) ts (lexeme at (word.Number minus v) ∷ []) h (minus, refl)
sound_move l (Matching b k held) ts at (word.Large minus) h = tt
sound_move l (Matching b k held) ts at word.Open h = opened_good l b k held ts at (l (opens k)) refl
    h
sound_move l (Matching b (InBracket k before c) held) ts at word.Close h
    = known_closed l b k before c held ts at h
sound_move l (Matching b InLine held) ts at word.Equals h
    = (h.0, h.1, at, h.2, h.3, simp (h.4, append_assoc))
sound_move l (Opened b k held) ts at (word.Con n) h =
    let c = binder n at in
    let vs = h.2.1 in
    let ws = vs ++ (lexeme h.1 word.Open ∷ lexeme at (word.Con n) ∷ []) in
    let e : ts ++ lexeme at (word.Con n) ∷ [] ≡ h.2.0 ++ (lexeme b.at (word.Name b.name) ∷ ws)
    = simp (h.4, h.2.4, append_assoc) in
    (h.2.0, ws, h.2.2, stands_opened l k held c vs h.1 h.2.3 h.3, e)
sound_move l o ts at token h = tt

sound_finish : (l : NestingLimit) (k : Hole) (e : Expr) (us vs : List Lexeme) (at : ℕ)
    (token : Token) → Opens l k us → SpellsExpr l 0 e vs
    → GoodMove (Known l) (Opens l) (SpellsDecls l) (finish k e at token)
    ((us ++ vs) ++ lexeme at token ∷ [])
sound_finish l (InEquation b pats) e us vs at word.Semicolon h g =
    let ws = lexeme b.at (word.Name b.name) ∷
    (h.1 ++ (lexeme h.2 word.Equals ∷ (vs ++ lexeme at word.Semicolon ∷ []))) in
    let f : (us ++ vs) ++ lexeme at word.Semicolon ∷ [] ≡ h.0 ++ ws = simp (h.5, append_assoc) in
    rw f (decls_last l b.decls (equated b pats e) h.0 ws h.3 (h.2, at, h.1, vs, h.4, g, refl))
sound_finish l k e us vs at token h g = tt

-- ---- the tokens that complete what was read

closing_at : Place → List Piece
closing_at InLine = piece (codes "=") ∷ constructor ∷ piece (codes ";") ∷ []
closing_at (InBracket k before c) = piece (codes ")") ∷ closing_at k

closing : Own → List Piece
closing (Top ds) = []
closing (DataName ds) = constructor ∷ piece (codes "0") ∷ piece (codes ";") ∷ []
closing (Count ds n p) = piece (codes "0") ∷ piece (codes ";") ∷ []
closing (DataEnd ds n p fields) = piece (codes ";") ∷ []
closing (Matching b k held) = closing_at k
closing (Opened b k held) = constructor ∷ piece (codes ")") ∷ closing_at k

abbrev running : NestingLimit → State → List Lexeme → Result (List Decl) ReadRefusal
running l s ts = run_of (steps equations) l s ts

closes_at : (names : Texts) (l : NestingLimit) (b : EquationStart) (k : Place) (held : Pats)
    → (ds : List Decl) ×
    (running l (Outside (Matching b k held)) (ended Core names (closing_at k)) ≡ Ok ds)
unfolding closing_at run_of
closes_at names l b InLine held = (_, refl)
closes_at names l b (InBracket k before c) held = closes_at names l b k
    (with_last before (Con c held))

closes : (names : Texts) (l : NestingLimit) (o : Own) → (ds : List Decl)
    × (running l (Outside o) (ended Core names (closing o)) ≡ Ok ds)
unfolding closing run_of
closes names l (Top ds) = (ds, refl)
closes names l (DataName ds) = (_, refl)
closes names l (Count ds n at) = (_, refl)
closes names l (DataEnd ds n at fields) = (_, refl)
closes names l (Matching b k held) = closes_at names l b k held
closes names l (Opened b k held) = closes_at names l b k _

gives : (names : Texts) (l : NestingLimit) (k : Hole) (e : Expr) → (ds : List Decl)
    × (running l (Within k (Ended Outermost e))
    (said Core names (piece (codes ";")) ∷ ended Core names []) ≡ Ok ds)
unfolding run_of
gives names l (InEquation b pats) e = (b.decls ++ equated b pats e ∷ [], refl)

-- ---- what spells declarations is read as those

pub finish_bad : (k : Hole) (e : Expr) (at : ℕ) → finish k e at word.Bad ≡ refuse (BadByte at)
finish_bad (InEquation b pats) e at = refl

body : (l : NestingLimit) (k : Hole) (e : Expr) (ts : List Lexeme) (x : Lexeme) (rest : List Lexeme)
    → SpellsExpr l 0 e ts → starts_atom x.token ≡ false
    → running l (Within k (Apply (InBody Outermost) NoTerms)) (ts ++ x ∷ rest) ≡ follow
    (step_of_move (finish k e x.at x.token)) (λ s. running l s rest)
body l k e ts x rest h f = through equations finish_bad l k (Apply (InBody Outermost) NoTerms)
    (ts ++ x ∷ rest) ∙ ap (continue equations l k) (reads_body l Outermost e ts x rest h f)

opens_bracket : (l : NestingLimit) (b : EquationStart) (k : Place) (held : Pats) (p : ℕ)
    (rest : List Lexeme) → l (opens k) ≡ true → running l (Outside (Matching b k held))
    (lexeme p word.Open ∷ rest) ≡ running l (Outside (Opened b k held)) rest
unfolding run_of
opens_bracket l b k held p rest e = ap
    (λ room. follow (step_of_move (cond room (next (Opened b k held)) (refuse (TooDeep p))))
    (λ s. running l s rest)) e

names_con : (l : NestingLimit) (b : EquationStart) (k : Place) (held : Pats) (c : _)
    (rest : List Lexeme) → running l (Outside (Opened b k held))
    (lexeme c.at (word.Con c.name) ∷ rest) ≡ running l
    (Outside (Matching b (InBracket k held c) NoPats)) rest
unfolding run_of
names_con l b k held c rest = refl

closes_bracket : (l : NestingLimit) (b : EquationStart) (k : Place) (before : Pats) (c : _)
    (held : Pats) (q : ℕ) (rest : List Lexeme) → running l
    (Outside (Matching b (InBracket k before c) held)) (lexeme q word.Close ∷ rest) ≡ running l
    (Outside (Matching b k (with_last before (Con c held)))) rest
unfolding run_of
closes_bracket l b k before c held q rest = refl

reads_bare : (l : NestingLimit) (b : EquationStart) (k : Place) (held : Pats) (c : _) (ps : Pats)
    (ts rest : List Lexeme) → IsUnbracketed c ps ts
    → running l (Outside (Matching b k held)) (ts ++ rest) ≡ running l
    (Outside (Matching b k (with_last held (Con c ps)))) rest
unfolding run_of
reads_bare l b k held c NoPats ts rest h = rw h refl
reads_bare l b k held c (AndPat p ps) ts rest h = absurd h

mutual
  unfolding run_of

  reads_pat : (l : NestingLimit) (b : EquationStart) (k : Place) (held : Pats) (p : Pat)
      (ts rest : List Lexeme) → SpellsPat l (opens k) p ts
      → running l (Outside (Matching b k held)) (ts ++ rest) ≡ running l
      (Outside (Matching b k (with_last held p))) rest
  reads_pat l b k held (Name n) ts rest h = rw h refl
  reads_pat l b k held (Int v at) ts rest h = rw h.1 refl
  reads_pat l b k held (Con c ps) ts rest (inl h) = reads_bare l b k held c ps ts rest h
  reads_pat l b k held (Con c ps) ts rest (inr h) =
      let us = h.0 in
      let more = us ++ (lexeme h.2 word.Close ∷ rest) in
      let e : ts ++ rest ≡ lexeme h.1 word.Open ∷ lexeme c.at (word.Con c.name) ∷ more
      = simp (h.5, append_assoc) in
      ap (running l (Outside (Matching b k held))) e
      ∙ opens_bracket l b k held h.1 (lexeme c.at (word.Con c.name) ∷ more) h.3
      ∙ names_con l b k held c more
      ∙ reads_pats l b (InBracket k held c) NoPats ps us (lexeme h.2 word.Close ∷ rest) h.4
      ∙ closes_bracket l b k held c ps h.2 rest

  reads_pats : (l : NestingLimit) (b : EquationStart) (k : Place) (held ps : Pats)
      (ts rest : List Lexeme) → SpellsPats l (opens k) ps ts
      → running l (Outside (Matching b k held)) (ts ++ rest) ≡ running l
      (Outside (Matching b k (held ⊹ ps))) rest
  reads_pats l b k held NoPats ts rest h = rw (h, joined_none) refl
  reads_pats l b k held (AndPat p ps) ts rest h =
      ap (λ w. running l (Outside (Matching b k held)) (w ++ rest)) h.4
      ∙ ap (running l (Outside (Matching b k held))) (append_assoc h.0 h.1 rest)
      ∙ reads_pat l b k held p h.0 (h.1 ++ rest) h.2
      ∙ reads_pats l b k (with_last held p) ps h.1 rest h.3
      ∙ ap (λ w. running l (Outside (Matching b k w)) rest) (joined_last held p ps)

begins_equation : (l : NestingLimit) (ds : List Decl) (n at : ℕ) (rest : List Lexeme)
    → running l (top ds) (lexeme at (word.Name (name_id n)) ∷ rest) ≡ running l
    (Outside (Matching (record { decls = ds; name = name_id n; at = at }) InLine NoPats)) rest
unfolding run_of
begins_equation l ds n at rest = refl

begins_body : (l : NestingLimit) (b : EquationStart) (pats : Pats) (q : ℕ) (rest : List Lexeme)
    → running l (Outside (Matching b InLine pats)) (lexeme q word.Equals ∷ rest) ≡ running l
    (Within (InEquation b pats) (Apply (InBody Outermost) NoTerms)) rest
unfolding run_of
begins_body l b pats q rest = refl

reads_decl : (l : NestingLimit) (ds : List Decl) (d : Decl) (ts rest : List Lexeme)
    → SpellsDecl l d ts → running l (top ds) (ts ++ rest) ≡ running l (top (ds ++ d ∷ [])) rest
unfolding run_of
reads_decl l ds (Declares d) ts rest h = rw h.3 refl
reads_decl l ds (Equates f) ts rest h =
    let b : EquationStart = record { decls = ds; name = name_id f.name; at = f.at } in
    let inner = h.3 ++ (lexeme h.1 word.Semicolon ∷ rest) in
    let e : ts ++ rest ≡ lexeme f.at (word.Name (name_id f.name)) ∷
    (h.2 ++ (lexeme h.0 word.Equals ∷ inner)) = simp (h.6, append_assoc) in
    ap (running l (top ds)) e
    ∙ begins_equation l ds f.name f.at (h.2 ++ (lexeme h.0 word.Equals ∷ inner))
    ∙ reads_pats l b InLine NoPats f.pats h.2 (lexeme h.0 word.Equals ∷ inner) h.4
    ∙ begins_body l b f.pats h.0 inner
    ∙ body l (InEquation b f.pats) f.body h.3 (lexeme h.1 word.Semicolon) rest h.5 refl

reads_decls : (l : NestingLimit) (ds es : List Decl) (ts rest : List Lexeme) → SpellsDecls l es ts
    → running l (top ds) (ts ++ rest) ≡ running l (top (ds ++ es)) rest
reads_decls l ds [] ts rest h = rw (h, append-nil) refl
reads_decls l ds (e ∷ es) ts rest h =
    ap (λ w. running l (top ds) (w ++ rest)) h.4
    ∙ ap (running l (top ds)) (append_assoc h.0 h.1 rest)
    ∙ reads_decl l ds e h.0 (h.1 ++ rest) h.2
    ∙ reads_decls l (ds ++ e ∷ []) es h.1 rest h.3
    ∙ ap (λ w. running l (top w) rest) (append_assoc ds (e ∷ []) es)

reads_source : (l : NestingLimit) (ds : List Decl) (ts : List Lexeme) (end : ℕ) (rest : List Lexeme)
    → SpellsDecls l ds ts → running l (top []) (ts ++ lexeme end word.End ∷ rest) ≡ Ok ds
unfolding run_of
reads_source l ds ts end rest h = reads_decls l [] ds ts (lexeme end word.End ∷ rest) h

-- ---- the other laws

abbrev Moves : Type 0
Moves = Step State (List Decl)

moved_cond : (b : EquationStart) (k : Place) (held : Pats) (at : ℕ) (room : Bool)
    → ◌≡◌ {A = Moves}
    (step_of_move (cond {A = Transition} room (next (Opened b k held)) (refuse (TooDeep at))))
    (cond {A = Moves} room (go (Outside (Opened b k held))) (stop (TooDeep at)))
moved_cond b k held at true = refl
moved_cond b k held at false = refl

judged_open : (b : EquationStart) (k : Place) (held : Pats) (at : ℕ)
    → Verdict (steps equations) (Outside (Matching b k held)) at word.Open
    (step_of_move (move at_most_200 (Matching b k held) at word.Open))
judged_open b k held at =
    subst (Verdict (steps equations) (Outside (Matching b k held)) at word.Open)
    (sym (moved_cond b k held at (at_most_200 (opens k))))
    (opened (steps equations) (Outside (Matching b k held)) (Outside (Opened b k held)) at word.Open
    (at_most_200 (opens k)) refl tt)

abbrev JudgedAt : Own → ℕ → Token → Type 0
JudgedAt o at token = Verdict (steps equations) (Outside o) at token
    (step_of_move (move at_most_200 o at token))

by : (o : Own) (at : ℕ) (token : Token) → move unlimited_nesting o at token ≡ move at_most_200 o at
    token → PlainMove at token (move at_most_200 o at token) → JudgedAt o at token
by o at token e p = by_move equations o at token (move at_most_200 o at token) e p

judged : (o : Own) (at : ℕ) (token : Token) → JudgedAt o at token
judged (Top ds) at word.Data = by (Top ds) at word.Data refl tt
judged (Top ds) at (word.Name n) = by (Top ds) at (word.Name n) refl tt
judged (Top ds) at word.End = by (Top ds) at word.End refl tt
judged (DataName ds) at (word.Con n) = by (DataName ds) at (word.Con n) refl tt
judged (Count ds n p) at (word.Number false (pos size))
    = by (Count ds n p) at (word.Number false (pos size)) refl tt
judged (Count ds n p) at (word.Large false) = by (Count ds n p) at (word.Large false) refl
    (refl, false, refl)
judged (DataEnd ds n p fields) at word.Semicolon = by (DataEnd ds n p fields) at word.Semicolon refl
    tt
judged (Matching b k held) at (word.Name n) = by (Matching b k held) at (word.Name n) refl tt
judged (Matching b k held) at (word.Con n) = by (Matching b k held) at (word.Con n) refl tt
judged (Matching b k held) at (word.Number minus v)
    = by (Matching b k held) at (word.Number minus v) refl tt
judged (Matching b k held) at (word.Large minus) = by (Matching b k held) at (word.Large minus) refl
    (refl, minus, refl)
judged (Matching b k held) at word.Open = judged_open b k held at
judged (Matching b (InBracket k before c) held) at word.Close
    = by (Matching b (InBracket k before c) held) at word.Close refl tt
judged (Matching b InLine held) at word.Equals = by (Matching b InLine held) at word.Equals refl tt
judged (Opened b k held) at (word.Con n) = by (Opened b k held) at (word.Con n) refl tt
judged o at token = by o at token refl (refused_plain expression.State Expr at token)

finish_plain : (k : Hole) (e : Expr) (at : ℕ) (token : Token)
    → PlainMove at token (finish k e at token)
finish_plain (InEquation b pats) e at word.Semicolon = tt
finish_plain k e at token = refused_plain expression.State Expr at token

move_goes : (o : Own) (at p : ℕ) (minus : Bool) (v : ℤ)
    → move unlimited_nesting o at (word.Large minus) ≡ refuse (NumberRange p)
    → (minus ≡ false → (n : ℕ) × (v ≡ pos n)) → (o' : Own)
    × (move unlimited_nesting o at (word.Number minus v) ≡ next o')
move_goes (Count ds n q) at p false v h f = let w = f refl in (DataEnd ds n q w.0, rw w.1 refl)
move_goes (Count ds n q) at p true v h f = absurd cc
move_goes (Top ds) at p minus v h f = absurd cc
move_goes (DataName ds) at p minus v h f = absurd cc
move_goes (DataEnd ds n q fields) at p minus v h f = absurd cc
move_goes (Matching b k held) at p minus v h f = (_, refl)
move_goes (Opened b k held) at p minus v h f = absurd cc

move_stops : (o : Own) (at p : ℕ) (minus : Bool) (v : ℤ)
    → move unlimited_nesting o at (word.Large minus) ≡ refuse (Syntax p)
    → move unlimited_nesting o at (word.Number minus v) ≡ refuse (Syntax p)
move_stops (Count ds n q) at p false v h = absurd cc
move_stops (Count ds n q) at p true (pos m) h = h
move_stops (Count ds n q) at p true (negsuc m) h = h
move_stops (Top ds) at p minus v h = h
move_stops (DataName ds) at p minus v h = h
move_stops (DataEnd ds n q fields) at p minus v h = h
move_stops (Matching b k held) at p minus v h = absurd cc
move_stops (Opened b k held) at p minus v h = h

finish_range : (k : Hole) (e : Expr) (at p : ℕ) (minus : Bool)
    → finish k e at (word.Large minus) ≡ refuse (NumberRange p) → ⊥
finish_range (InEquation b pats) e at p minus h = cc

finish_stops : (k : Hole) (e : Expr) (at p : ℕ) (minus : Bool) (v : ℤ)
    → finish k e at (word.Large minus) ≡ refuse (Syntax p)
    → finish k e at (word.Number minus v) ≡ refuse (Syntax p)
finish_stops (InEquation b pats) e at p minus v h = h

move_last : (o : Own) (at : ℕ) (token : Token) → IsLast token
    → LastMove (move at_most_200 o at token)
move_last (Top ds) at word.End l = tt
move_last (Count ds n p) at (word.Large false) l = tt
move_last (Count ds n p) at (word.Large true) l = tt
move_last (Matching b k held) at (word.Large minus) l = tt
move_last o at word.Bad l = tt
move_last o at word.End l = tt
move_last o at (word.Large minus) l = tt
move_last o at token l = absurd l

finish_last : (k : Hole) (e : Expr) (at : ℕ) (token : Token) → IsLast token
    → LastMove (finish k e at token)
finish_last (InEquation b pats) e at word.Bad l = tt
finish_last (InEquation b pats) e at word.End l = tt
finish_last (InEquation b pats) e at (word.Large minus) l = tt
finish_last k e at token l = absurd l

end_open : (b : EquationStart) (k : Place) (held : Pats) (at : ℕ) (token : Token) (room : Bool)
    → EndMove {O = Own} {H = Hole} {A = List Decl} token
    (cond room (next (Opened b k held)) (refuse (TooDeep at)))
end_open b k held at token true = tt
end_open b k held at token false = tt

move_end : (o : Own) (at : ℕ) (token : Token) → EndMove token (move at_most_200 o at token)
move_end (Top ds) at word.Data = tt
move_end (Top ds) at (word.Name n) = tt
move_end (Top ds) at word.End = refl
move_end (DataName ds) at (word.Con n) = tt
move_end (Count ds n p) at (word.Number false (pos size)) = tt
move_end (Count ds n p) at (word.Large false) = tt
move_end (DataEnd ds n p fields) at word.Semicolon = tt
move_end (Matching b k held) at (word.Name n) = tt
move_end (Matching b k held) at (word.Con n) = tt
move_end (Matching b k held) at (word.Number minus v) = tt
move_end (Matching b k held) at (word.Large minus) = tt
move_end (Matching b k held) at word.Open = end_open b k held at word.Open (at_most_200 (opens k))
move_end (Matching b (InBracket k before c) held) at word.Close = tt
move_end (Matching b InLine held) at word.Equals = tt
move_end (Opened b k held) at (word.Con n) = tt
move_end o at token = tt

finish_end : (k : Hole) (e : Expr) (at : ℕ) (token : Token) → EndMove token (finish k e at token)
finish_end (InEquation b pats) e at word.Semicolon = tt
finish_end k e at token = tt

equating : AroundLaws Core equations
equating = record {
  Known = Known;
  Opens = Opens;
  begins = λ l. refl;
  sound = sound_move;
  sound_give = sound_finish;
  closing = closing;
  closes = closes;
  first = λ k. piece (codes ";");
  others = λ k. [];
  goes_on = λ names k. refl;
  gives = gives;
  whole = reads_source;
  judged = judged;
  plain_give = finish_plain;
  give_bad = finish_bad;
  large_goes = move_goes;
  large_stops = move_stops;
  give_range = finish_range;
  give_stops = finish_stops;
  last = move_last;
  last_give = finish_last;
  end = move_end;
  end_give = finish_end;
}

pub matching_laws : Laws Core equation_reading
matching_laws = around_laws equating

-- ---- what the tokens are derived from

spelled_by : (l : NestingLimit) (c : Source) (ps : List Piece) (h : IsSource l c ps)
    → SpellsDecls l h.decls (map (said Core (names_of Core ps)) ps)
spelled_by l c ps h = subst (λ v. SpellsDecls l h.decls (map (said Core v) ps)) h.names h.spelled

made_of : (l : NestingLimit) (ds : List Decl) (ps : List Piece)
    → SpellsDecls l ds (map (said Core (names_of Core ps)) ps) → (c : Source) × IsSource l c ps
made_of l ds ps h = (
  record {
    names = names_of Core ps;
    constructors = constructors_of ds;
    equations
        = equations_of ds;
  },
  record { names = refl; decls = ds; constructors = refl; equations = refl; spelled = h },
)

same_by : (l : NestingLimit) (c d : Source) (ps : List Piece) (h : IsSource l c ps)
    (g : IsSource l d ps) → h.decls ≡ g.decls → c ≡ d
same_by l c d ps h g e =
    let names : c.names ≡ d.names = h.names ∙ sym g.names in
    let constructors : c.constructors ≡ d.constructors
    = sym h.constructors ∙ ap constructors_of e ∙ g.constructors in
    let equations : c.equations ≡ d.equations = sym h.equations ∙ ap equations_of e ∙ g.equations in
    λ i. record { names = names i; constructors = constructors i; equations = equations i }

pub source_reads : ReadsLanguage Core equation_reading IsSource
source_reads = record {
  laws = matching_laws;
  tree = λ l c ps h. h.decls;
  spelled = spelled_by;
  made = made_of;
  same = same_by;
}
