-- The reading of Core's declarations owes what a reading of a text owes.
use Rattle.std.proofs.Common.{◌≡◌, ℕ, Bool, true, false, List, [], ◌∷◌, ◌++◌, Ok, map, refl, sym, ap, subst, ◌∙◌, append_assoc}
use Rattle.std.specs.Prelude.{ℤ, pos, negsuc, codes}
use Rattle.std.proofs.lemmas.List.{append-nil}
use Rattle.core_reader.specs.declared.dialect.Dialect.{Dialect}
use Rattle.core_reader.specs.declared.dialect.Dialect.TheVariants.{Core}
use Rattle.core_reader.specs.declared.token.Token.{Token}
use Rattle.core_reader.specs.declared.token.Token.TheVariants as word
use Rattle.core_reader.specs.declared.token.Lexeme.{Lexeme}
use Rattle.core_reader.specs.declared.refusal.ReadRefusal.TheVariants.{BadByte, Syntax, NumberRange}
use Rattle.core_reader.specs.Tree.{Program, Expr, NoTerms}
use Rattle.core_reader.specs.Grammar.{NestingLimit, lexeme, name_id, binders, SpellsExpr, Decl, Declares, Defines, SpellsDecl, SpellsDecls, constructors_of, functions_of}
use Rattle.core_reader.specs.TokensOf.{Piece}
use Rattle.core_reader.specs.WordsOf.{number_in}
use Rattle.core_reader.specs.WordsOf as any-words
use Rattle.core_reader.specs.Words.{said}
use Rattle.core_reader.specs.Names.{names_of}
use Rattle.core_reader.specs.Programs.{IsProgram}
use Rattle.core_reader.specs.ReadingOf.{follow, run_of}
use Rattle.core_reader.specs.Machine as expression
use Rattle.core_reader.specs.Machine.{Outermost, InBody, Apply, Ended, starts_atom, refused}
use Rattle.core_reader.specs.AroundOf.{next, refuse, Outside, Within, step_of_move}
use Rattle.core_reader.specs.Declaring.{Own, Top, DataName, Count, DataEnd, Params, Hole, InFunction, move, finish, declared, function_declaration, declarations, core, top, run}
use Rattle.core_reader.proofs.NamingOf.{Texts}
use Rattle.core_reader.proofs.ReadingOf.{IsLast, ended, refused_plain, Laws, ReadsLanguage, takes_names}
use Rattle.core_reader.proofs.AroundOf.{continue, through, GoodMove, PlainMove, LastMove, EndMove, AroundLaws, around_laws, by_move}
use Rattle.core_reader.proofs.Complete.{reads_body}
use Rattle.core_reader.proofs.Sound.{binders_last}
use Rattle.core_reader.proofs.Ending.{piece, constructor}

-- ---- the tokens that were read

abbrev Known : NestingLimit → Own → List Lexeme → Type 0
Known l (Top ds) ts = SpellsDecls l ds ts
Known l (DataName ds) ts = (us : List Lexeme) × (p : ℕ) × SpellsDecls l ds us
    × (ts ≡ us ++ lexeme p word.Data ∷ [])
Known l (Count ds n at) ts = (us : List Lexeme) × (p : ℕ) × SpellsDecls l ds us
    × (ts ≡ us ++ lexeme p word.Data ∷ lexeme at (word.Con n) ∷ [])
Known l (DataEnd ds n at fields) ts = (us : List Lexeme) × (p q : ℕ) × SpellsDecls l ds us
    × (ts ≡ us ++ lexeme p word.Data ∷ lexeme at (word.Con n) ∷ lexeme q
    (word.Number false (pos fields)) ∷ [])
Known l (Params ds n p params) ts = (us : List Lexeme) × SpellsDecls l ds us
    × (ts ≡ us ++ lexeme p (word.Name n) ∷ binders params)

abbrev Opens : NestingLimit → Hole → List Lexeme → Type 0
Opens l (InFunction ds n p params) ts = (us : List Lexeme) × (q : ℕ) × SpellsDecls l ds us
    × (ts ≡ us ++ (lexeme p (word.Name n) ∷ (binders params ++ lexeme q word.Equals ∷ [])))

decls_last : (l : NestingLimit) (ds : List Decl) (d : Decl) (us vs : List Lexeme)
    → SpellsDecls l ds us → SpellsDecl l d vs → SpellsDecls l (ds ++ d ∷ []) (us ++ vs)
decls_last l [] d us vs h g = (vs, [], g, refl, rw (h, append-nil) refl)
decls_last l (e ∷ es) d us vs h g = (
  h.0,
  h.1 ++ vs,
  h.2,
  decls_last l es d h.1 vs h.3 g,
  ap (λ w. w ++ vs) h.4 ∙ append_assoc h.0 h.1 vs,
)

sound_move : (l : NestingLimit) (o : Own) (ts : List Lexeme) (at : ℕ) (token : Token) → Known l o ts
    → GoodMove (Known l) (Opens l) (SpellsDecls l) (move o at token) (ts ++ lexeme at token ∷ [])
sound_move l (Top ds) ts at word.Data h = (ts, at, h, refl)
sound_move l (Top ds) ts at (word.Name n) h = (ts, h, refl)
sound_move l (Top ds) ts at word.End h = (ts, at, h, refl)
sound_move l (DataName ds) ts at (word.Con n) h = (h.0, h.1, h.2, simp (h.3, append_assoc))
sound_move l (Count ds n p) ts at (word.Number false (pos size)) h
    = (h.0, h.1, at, h.2, simp (h.3, append_assoc))
sound_move l (Count ds n p) ts at (word.Large false) h = tt
sound_move l (DataEnd ds n p fields) ts at word.Semicolon h =
    let vs = lexeme h.1 word.Data ∷ lexeme p (word.Con n) ∷ lexeme h.2
    (word.Number false (pos fields)) ∷ lexeme at word.Semicolon ∷ [] in
    let e : ts ++ lexeme at word.Semicolon ∷ [] ≡ h.0 ++ vs = simp (h.4, append_assoc) in
    rw e (decls_last l ds (declared n p fields) h.0 vs h.3 (h.1, h.2, at, refl))
sound_move l (Params ds n p params) ts at (word.Name m) h
    = (h.0, h.1, simp (h.2, append_assoc, binders_last))
sound_move l (Params ds n p params) ts at word.Equals h = (h.0, at, h.1, simp (h.2, append_assoc))
sound_move l o ts at token h = tt

sound_finish : (l : NestingLimit) (k : Hole) (e : Expr) (us vs : List Lexeme) (at : ℕ)
    (token : Token) → Opens l k us → SpellsExpr l 0 e vs
    → GoodMove (Known l) (Opens l) (SpellsDecls l) (finish k e at token)
    ((us ++ vs) ++ lexeme at token ∷ [])
sound_finish l (InFunction ds n p params) e us vs at word.Semicolon h g =
    let ws = lexeme p (word.Name n) ∷
    (binders params ++ (lexeme h.1 word.Equals ∷ (vs ++ lexeme at word.Semicolon ∷ []))) in
    let f : (us ++ vs) ++ lexeme at word.Semicolon ∷ [] ≡ h.0 ++ ws = simp (h.3, append_assoc) in
    rw f (decls_last l ds (function_declaration n p params e) h.0 ws h.2 (h.1, at, vs, g, refl))
sound_finish l k e us vs at token h g = tt

-- ---- the tokens that complete what was read

closing : Own → List Piece
closing (Top ds) = []
closing (DataName ds) = constructor ∷ piece (codes "0") ∷ piece (codes ";") ∷ []
closing (Count ds n p) = piece (codes "0") ∷ piece (codes ";") ∷ []
closing (DataEnd ds n p fields) = piece (codes ";") ∷ []
closing (Params ds n p params) = piece (codes "=") ∷ constructor ∷ piece (codes ";") ∷ []

closes : (d : Dialect) (names : Texts) (l : NestingLimit) (o : Own) → (ds : List Decl)
    × (run l (Outside o) (ended d names (closing o)) ≡ Ok ds)
unfolding closing run_of
closes d names l (Top ds) = (ds, refl)
closes d names l (DataName ds) = (_, refl)
closes d names l (Count ds n at) = (_, refl)
closes d names l (DataEnd ds n at fields) = (_, refl)
closes d names l (Params ds n p params) = (_, refl)

gives : (d : Dialect) (names : Texts) (l : NestingLimit) (k : Hole) (e : Expr) → (ds : List Decl)
    × (run l (Within k (Ended Outermost e))
    (any-words.said d names (piece (codes ";")) ∷ ended d names []) ≡ Ok ds)
unfolding run_of
gives d names l (InFunction ds n p params) e = (ds ++ function_declaration n p params e ∷ [], refl)

-- ---- what spells declarations is read as those

pub finish_bad : (k : Hole) (e : Expr) (at : ℕ) → finish k e at word.Bad ≡ refuse (BadByte at)
finish_bad (InFunction ds n p params) e at = refl

body : (l : NestingLimit) (k : Hole) (e : Expr) (ts : List Lexeme) (x : Lexeme) (rest : List Lexeme)
    → SpellsExpr l 0 e ts → starts_atom x.token ≡ false
    → run l (Within k (Apply (InBody Outermost) NoTerms)) (ts ++ x ∷ rest) ≡ follow
    (step_of_move (finish k e x.at x.token)) (λ s. run l s rest)
body l k e ts x rest h f = through declarations finish_bad l k (Apply (InBody Outermost) NoTerms)
    (ts ++ x ∷ rest) ∙ ap (continue declarations l k) (reads_body l Outermost e ts x rest h f)

reads_decl : (l : NestingLimit) (ds : List Decl) (d : Decl) (ts rest : List Lexeme)
    → SpellsDecl l d ts → run l (top ds) (ts ++ rest) ≡ run l (top (ds ++ d ∷ [])) rest
unfolding run_of
reads_decl l ds (Declares d) ts rest h = rw h.3 refl
reads_decl l ds (Defines f) ts rest h =
    let n = name_id f.name in
    let p = h.0 in
    let q = h.1 in
    let inner = h.2 in
    let tail = lexeme p word.Equals ∷ (inner ++ lexeme q word.Semicolon ∷ []) in
    let named : run l (top ds) (ts ++ rest) ≡ run l (Outside (Params ds n f.at []))
    ((binders f.params ++ tail) ++ rest) = rw h.4 refl in
    let equals : run l (Outside (Params ds n f.at f.params)) (tail ++ rest) ≡ run l
    (Within (InFunction ds n f.at f.params) (Apply (InBody Outermost) NoTerms))
    ((inner ++ lexeme q word.Semicolon ∷ []) ++ rest) = refl in
    named ∙ ap (run l (Outside (Params ds n f.at []))) (append_assoc (binders f.params) tail rest)
    ∙ takes_names (run l) (λ names. Outside (Params ds n f.at names)) (λ names m at rest. refl) []
    f.params (tail ++ rest)
    ∙ equals
    ∙ ap (run l (Within (InFunction ds n f.at f.params) (Apply (InBody Outermost) NoTerms)))
    (append_assoc inner (lexeme q word.Semicolon ∷ []) rest)
    ∙ body l (InFunction ds n f.at f.params) f.body inner (lexeme q word.Semicolon) rest h.3 refl

reads_decls : (l : NestingLimit) (ds es : List Decl) (ts rest : List Lexeme) → SpellsDecls l es ts
    → run l (top ds) (ts ++ rest) ≡ run l (top (ds ++ es)) rest
reads_decls l ds [] ts rest h = rw (h, append-nil) refl
reads_decls l ds (e ∷ es) ts rest h =
    ap (λ w. run l (top ds) (w ++ rest)) h.4
    ∙ ap (run l (top ds)) (append_assoc h.0 h.1 rest)
    ∙ reads_decl l ds e h.0 (h.1 ++ rest) h.2
    ∙ reads_decls l (ds ++ e ∷ []) es h.1 rest h.3
    ∙ ap (λ w. run l (top w) rest) (append_assoc ds (e ∷ []) es)

reads_program : (l : NestingLimit) (ds : List Decl) (ts : List Lexeme) (end : ℕ)
    (rest : List Lexeme) → SpellsDecls l ds ts → run l (top []) (ts ++ lexeme end word.End ∷ rest) ≡
    Ok ds
unfolding run_of
reads_program l ds ts end rest h = reads_decls l [] ds ts (lexeme end word.End ∷ rest) h

-- ---- the other laws

move_plain : (o : Own) (at : ℕ) (token : Token) → PlainMove at token (move o at token)
move_plain (Top ds) at word.Data = tt
move_plain (Top ds) at (word.Name n) = tt
move_plain (Top ds) at word.End = tt
move_plain (DataName ds) at (word.Con n) = tt
move_plain (Count ds n p) at (word.Number false (pos size)) = tt
move_plain (Count ds n p) at (word.Large false) = (refl, false, refl)
move_plain (DataEnd ds n p fields) at word.Semicolon = tt
move_plain (Params ds n p params) at (word.Name m) = tt
move_plain (Params ds n p params) at word.Equals = tt
move_plain o at token = refused_plain expression.State Expr at token

finish_plain : (k : Hole) (e : Expr) (at : ℕ) (token : Token)
    → PlainMove at token (finish k e at token)
finish_plain (InFunction ds n p params) e at word.Semicolon = tt
finish_plain k e at token = refused_plain expression.State Expr at token

move_goes : (o : Own) (at p : ℕ) (minus : Bool) (v : ℤ)
    → move o at (word.Large minus) ≡ refuse (NumberRange p)
    → (minus ≡ false → (n : ℕ) × (v ≡ pos n)) → (o' : Own)
    × (move o at (word.Number minus v) ≡ next o')
move_goes (Count ds n q) at p false v h f = let w = f refl in (DataEnd ds n q w.0, rw w.1 refl)
move_goes (Count ds n q) at p true v h f = absurd cc
move_goes (Top ds) at p minus v h f = absurd cc
move_goes (DataName ds) at p minus v h f = absurd cc
move_goes (DataEnd ds n q fields) at p minus v h f = absurd cc
move_goes (Params ds n q params) at p minus v h f = absurd cc

move_stops : (o : Own) (at p : ℕ) (minus : Bool) (v : ℤ)
    → move o at (word.Large minus) ≡ refuse (Syntax p)
    → move o at (word.Number minus v) ≡ refuse (Syntax p)
move_stops (Count ds n q) at p false v h = absurd cc
move_stops (Count ds n q) at p true (pos m) h = h
move_stops (Count ds n q) at p true (negsuc m) h = h
move_stops (Top ds) at p minus v h = h
move_stops (DataName ds) at p minus v h = h
move_stops (DataEnd ds n q fields) at p minus v h = h
move_stops (Params ds n q params) at p minus v h = h

finish_range : (k : Hole) (e : Expr) (at p : ℕ) (minus : Bool)
    → finish k e at (word.Large minus) ≡ refuse (NumberRange p) → ⊥
finish_range (InFunction ds n q params) e at p minus h = cc

finish_stops : (k : Hole) (e : Expr) (at p : ℕ) (minus : Bool) (v : ℤ)
    → finish k e at (word.Large minus) ≡ refuse (Syntax p)
    → finish k e at (word.Number minus v) ≡ refuse (Syntax p)
finish_stops (InFunction ds n q params) e at p minus v h = h

move_last : (o : Own) (at : ℕ) (token : Token) → IsLast token → LastMove (move o at token)
move_last (Top ds) at word.End l = tt
move_last (Count ds n p) at (word.Large false) l = tt
move_last (Count ds n p) at (word.Large true) l = tt
move_last o at word.Bad l = tt
move_last o at word.End l = tt
move_last o at (word.Large minus) l = tt
move_last o at token l = absurd l

finish_last : (k : Hole) (e : Expr) (at : ℕ) (token : Token) → IsLast token
    → LastMove (finish k e at token)
finish_last (InFunction ds n p params) e at word.Bad l = tt
finish_last (InFunction ds n p params) e at word.End l = tt
finish_last (InFunction ds n p params) e at (word.Large minus) l = tt
finish_last k e at token l = absurd l

move_end : (o : Own) (at : ℕ) (token : Token) → EndMove token (move o at token)
move_end (Top ds) at word.Data = tt
move_end (Top ds) at (word.Name n) = tt
move_end (Top ds) at word.End = refl
move_end (DataName ds) at (word.Con n) = tt
move_end (Count ds n p) at (word.Number false (pos size)) = tt
move_end (Count ds n p) at (word.Large false) = tt
move_end (DataEnd ds n p fields) at word.Semicolon = tt
move_end (Params ds n p params) at (word.Name m) = tt
move_end (Params ds n p params) at word.Equals = tt
move_end o at token = tt

finish_end : (k : Hole) (e : Expr) (at : ℕ) (token : Token) → EndMove token (finish k e at token)
finish_end (InFunction ds n p params) e at word.Semicolon = tt
finish_end k e at token = tt

pub declaring : (d : Dialect) → AroundLaws d declarations
declaring d = record {
  Known = Known;
  Opens = Opens;
  begins = λ l. refl;
  sound = sound_move;
  sound_give = sound_finish;
  closing = closing;
  closes = closes d;
  first = λ k. piece (codes ";");
  others = λ k. [];
  goes_on = λ names k. refl;
  gives = gives d;
  whole = reads_program;
  judged = λ o at token. by_move declarations o at token (move o at token) refl
      (move_plain o at token);
  plain_give = finish_plain;
  give_bad = finish_bad;
  large_goes = move_goes;
  large_stops = move_stops;
  give_range = finish_range;
  give_stops = finish_stops;
  last = move_last;
  last_give = finish_last;
  end = move_end;
  end_give = finish_end;
}

-- in a text of any dialect
pub core_laws_in : (d : Dialect) → Laws d core
core_laws_in d = around_laws (declaring d)

-- ---- programs

spelled_by : (l : NestingLimit) (p : Program) (ps : List Piece) (h : IsProgram l p ps)
    → SpellsDecls l h.decls (map (said (names_of ps)) ps)
spelled_by l p ps h = subst (λ v. SpellsDecls l h.decls (map (said v) ps)) h.names h.spelled

made_of : (l : NestingLimit) (ds : List Decl) (ps : List Piece)
    → SpellsDecls l ds (map (said (names_of ps)) ps) → (p : Program) × IsProgram l p ps
made_of l ds ps h = (
  record { names = names_of ps; constructors = constructors_of ds; functions = functions_of ds },
  record { names = refl; decls = ds; constructors = refl; functions = refl; spelled = h },
)

same_by : (l : NestingLimit) (p q : Program) (ps : List Piece) (h : IsProgram l p ps)
    (g : IsProgram l q ps) → h.decls ≡ g.decls → p ≡ q
same_by l p q ps h g e =
    let names : p.names ≡ q.names = h.names ∙ sym g.names in
    let constructors : p.constructors ≡ q.constructors
    = sym h.constructors ∙ ap constructors_of e ∙ g.constructors in
    let functions : p.functions ≡ q.functions = sym h.functions ∙ ap functions_of e ∙ g.functions in
    λ i. record { names = names i; constructors = constructors i; functions = functions i }

pub core_reads : ReadsLanguage Core core IsProgram
core_reads = record {
  laws = core_laws_in Core;
  tree = λ l p ps h. h.decls;
  spelled = spelled_by;
  made = made_of;
  same = same_by;
}
