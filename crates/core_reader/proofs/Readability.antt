-- Each program that was read has what the calls behind the reader ask.
use Rattle.std.proofs.Common.{◌≡◌, ℕ, suc, ◌+◌, ◌*◌, ◌<◌, ◌≤◌, ◌^◌, Bool, true, false, cond, List, [], ◌∷◌, ◌++◌, length, map, Option, Some, None, refl, sym, ap, subst, ◌∙◌, arith, length-append}
use Rattle.std.specs.Prelude.{◌≢◌, pos, fold, find, All, slice_get, sum_by, is_none, ◌||◌}
use Rattle.std.specs.Str.{bytes_eq}
use Rattle.std.proofs.lemmas.Int.{ints}
use Rattle.std.proofs.lemmas.List.{append-nil}
use Rattle.std.proofs.lemmas.List.Folds.{find_at}
use Rattle.std.proofs.lemmas.List.Sums.{sum_by-cons}
use Rattle.std.proofs.lemmas.List.Elements.{All-nil, All-cons, All-push}
use Rattle.std.proofs.lemmas.Slice.Eq.{bytes_eq-Decides}
use Rattle.core_reader.specs.declared.dialect.Dialect.{Dialect}
use Rattle.core_reader.specs.declared.dialect.Dialect.TheVariants.{Core}
use Rattle.core_reader.specs.declared.syntax.Binder.{Binder}
use Rattle.core_reader.specs.declared.syntax.Pattern.{Pattern}
use Rattle.core_reader.specs.declared.syntax.Pattern.TheVariants as pattern
use Rattle.core_reader.specs.declared.look.TokenKind.{TokenKind}
use Rattle.core_reader.specs.declared.look.TokenKind.TheVariants.{Lower, Upper, Digits, Sign}
use Rattle.core_reader.specs.declared.token.Token.{Token}
use Rattle.core_reader.specs.declared.token.Token.TheVariants as word
use Rattle.core_reader.specs.declared.token.Lexeme.{Lexeme}
use Rattle.core_reader.specs.Tree.{Term, Terms, NoTerms, AndTerm, Application, Bind, Expr, App, Let, Case, Alts, NoAlts, AndAlt, Data, Function, Program}
use Rattle.core_reader.specs.Tree as tree
use Rattle.core_reader.specs.Grammar.{NestingLimit, lexeme, SpellsTerm, SpellsTerms, SpellsApp, binders, SpellsBind, SpellsBinds, SpellsPattern, SpellsExpr, SpellsAlts, Decl, Declares, Defines, SpellsDecl, SpellsDecls, constructors_of, functions_of}
use Rattle.core_reader.specs.TokensOf.{Piece, kind_of}
use Rattle.core_reader.specs.WordsOf.{said, said_by, keyword_or_name, keyword_of, sign_token, number_in, written_number, IsInRange}
use Rattle.core_reader.specs.NamesOf.{names_of, with_piece, is_numbered, is_numbered_by}
use Rattle.core_reader.specs.Programs.{IsProgram}
use Rattle.core_reader.specs.LexedOf.{AreInRange}
use Rattle.core_reader.specs.Size.{term_size, terms_size, bind_size, pattern_size, expr_size, alts_size, function_size}
use Rattle.core_reader.specs.Readable.{IsConstructor, IsTextAt, IsNamed, IsBound, ReadableTerm, ReadableTerms, ReadableApp, ReadableBind, ReadablePattern, ReadableExpr, ReadableAlts, ReadableData, ReadableFunction, AreDistinct, IsReadable}
use Rattle.core_reader.proofs.NamingOf.{Texts, has, EachHeld, each_held}
use Rattle.core_reader.proofs.Proper.{IsWord, IsKeyword, sign_is_word, keyword_is_word}
use Rattle.core_reader.proofs.Dialects.{no_keyword, lower_in_core, upper_in_core}

-- ---- what each token of a text says

abbrev KnownToken : Texts → Token → Type 0
KnownToken names (word.Name n) = IsNamed names n.0
KnownToken names (word.Con n) = IsTextAt names IsConstructor n.0
KnownToken names (word.Number minus k) = IsInRange k
KnownToken names token = Unit {0}

abbrev pub EachKnown : Texts → List Lexeme → Type 0
EachKnown names [] = Unit {0}
EachKnown names (x ∷ xs) = KnownToken names x.token × EachKnown names xs

pub front_known : (names : Texts) (us vs : List Lexeme) → EachKnown names (us ++ vs)
    → EachKnown names us
front_known names [] vs h = tt
front_known names (u ∷ us) vs h = (h.0, front_known names us vs h.1)

pub back_known : (names : Texts) (us vs : List Lexeme) → EachKnown names (us ++ vs)
    → EachKnown names vs
back_known names [] vs h = h
back_known names (u ∷ us) vs h = back_known names us vs h.1

found_by : (names : Texts) (w v : List ℕ) (b : Bool) → bytes_eq w v ≡ b → (b || has names w) ≡ true
    → (has names w ≡ true → find (bytes_eq w) names ≡ Some w)
    → cond b (Some v) (find (bytes_eq w) names) ≡ Some w
found_by names w v true e h later = ap Some (sym ((bytes_eq-Decides w v).0 e))
found_by names w v false e h later = later h

found : (names : Texts) (w : List ℕ) → has names w ≡ true → find (bytes_eq w) names ≡ Some w
found [] w h = absurd cc
found (v ∷ names) w h = found_by names w v (bytes_eq w v) refl h (found names w)

pub at_number : (names : Texts) (w : List ℕ) → has names w ≡ true
    → slice_get names (number_in names w) ≡ Some w
at_number names w h = sym (find_at (bytes_eq w) names) ∙ found names w h

word_known : (names : Texts) (token : Token) → IsWord token → KnownToken names token
word_known names (word.Name n) h = absurd h
word_known names (word.Con n) h = absurd h
word_known names (word.Number minus k) h = absurd h
word_known names token h = tt

letters_known : (d : Dialect) (names : Texts) (w : List ℕ) (o : Option Token) → keyword_of d w ≡ o
    → IsKeyword o → kind_of d w ≡ Some Lower → (is_none o ≡ true → has names w ≡ true)
    → KnownToken names (keyword_or_name names w o)
letters_known d names w (Some token) e k l h = word_known names token k
letters_known d names w None e k l h =
    (w, at_number names w (h refl), (lower_in_core d w l, no_keyword d w e))

known_by : (d : Dialect) (names : Texts) (w : List ℕ) (kind : Option TokenKind) → kind_of d w ≡ kind
    → (is_numbered_by d w kind ≡ true → has names w ≡ true)
    → (kind ≡ Some Digits → IsInRange (written_number w))
    → KnownToken names (said_by d names w kind)
known_by d names w None e h g = tt
known_by d names w (Some Lower) e h g = letters_known d names w (keyword_of d w) refl
    (keyword_is_word d w) e h
known_by d names w (Some Upper) e h g = (w, at_number names w (h refl), upper_in_core d w e)
known_by d names w (Some Digits) e h g = g refl
known_by d names w (Some (Sign s)) e h g = word_known names (sign_token s) (sign_is_word s)

pub known : (d : Dialect) (names : Texts) (ps : List Piece) → EachHeld d names ps → AreInRange d ps
    → EachKnown names (map (said d names) ps)
known d names [] h g = tt
known d names (p ∷ ps) h g =
    (known_by d names p.bytes (kind_of d p.bytes) refl h.0 g.0, known d names ps h.1 g.1)

-- ---- what the grammar derives from such tokens

mutual
  pub term_readable : (names : Texts) (l : NestingLimit) (d : ℕ) (a : Term) (ts : List Lexeme)
      → SpellsTerm l d a ts → EachKnown names ts → ReadableTerm names a
  term_readable names l d (tree.Name n at) ts h k = (subst (EachKnown names) h k).0
  term_readable names l d (tree.Con n at) ts h k = (subst (EachKnown names) h k).0
  term_readable names l d (tree.Int v at) ts h k = (subst (EachKnown names) h.1 k).0
  term_readable names l d (tree.Bracket a xs at) ts h k =
      let close = lexeme h.2 word.Close ∷ [] in
      let k2 : EachKnown names (h.0 ++ (h.1 ++ close)) = (subst (EachKnown names) h.6 k).1 in (
        term_readable names l (suc d) a h.0 h.4 (front_known names h.0 (h.1 ++ close) k2),
        terms_readable names l (suc d) xs h.1 h.5
            (front_known names h.1 close (back_known names h.0 (h.1 ++ close) k2)),
      )

  pub terms_readable : (names : Texts) (l : NestingLimit) (d : ℕ) (xs : Terms) (ts : List Lexeme)
      → SpellsTerms l d xs ts → EachKnown names ts → ReadableTerms names xs
  terms_readable names l d NoTerms ts h k = tt
  terms_readable names l d (AndTerm a xs) ts h k =
      let k2 = subst (EachKnown names) h.4 k in (
        term_readable names l d a h.0 h.2 (front_known names h.0 h.1 k2),
        terms_readable names l d xs h.1 h.3 (back_known names h.0 h.1 k2),
      )

app_readable : (names : Texts) (l : NestingLimit) (d : ℕ) (app : Application) (ts : List Lexeme)
    → SpellsApp l d app ts → EachKnown names ts → ReadableApp names app
app_readable names l d app ts h k = terms_readable names l d (AndTerm app.head app.args) ts h k

pub binders_readable : (names : Texts) (bs : List Binder) → EachKnown names (binders bs)
    → All (IsBound names) bs
binders_readable names [] k = All-nil (IsBound names)
binders_readable names (b ∷ bs) k = All-cons (IsBound names) b bs k.0
    (binders_readable names bs k.1)

pub bind_readable : (names : Texts) (l : NestingLimit) (d : ℕ) (b : Bind) (ts : List Lexeme)
    → SpellsBind l d b ts → EachKnown names ts → ReadableBind names b
bind_readable names l d b ts h k =
    let k2 = subst (EachKnown names) h.3 k in
    (k2.0, app_readable names l d b.app h.1 h.2 k2.1.1)

pub binds_readable : (names : Texts) (l : NestingLimit) (d : ℕ) (bs : List Bind) (ts : List Lexeme)
    → SpellsBinds l d bs ts → EachKnown names ts → All (ReadableBind names) bs
binds_readable names l d [] ts h k = All-nil (ReadableBind names)
binds_readable names l d (b ∷ bs) ts h k =
    let k2 = subst (EachKnown names) h.6 k in
    All-cons (ReadableBind names) b bs
    (bind_readable names l d b h.0 h.3 (front_known names h.0 (h.1 ++ h.2) k2))
    (binds_readable names l d bs h.2 h.5
    (back_known names h.1 h.2 (back_known names h.0 (h.1 ++ h.2) k2)))

pub pattern_readable : (names : Texts) (p : Pattern) (ts : List Lexeme) → SpellsPattern p ts
    → EachKnown names ts → ReadablePattern names p
pattern_readable names (pattern.Con c fields) ts h k = let k2 = subst (EachKnown names) h k
    in (k2.0, binders_readable names fields k2.1)
pattern_readable names (pattern.Int v at) ts h k = (subst (EachKnown names) h.1 k).0
pattern_readable names (pattern.Default x) ts h k = (subst (EachKnown names) h k).0

mutual
  pub expr_readable : (names : Texts) (l : NestingLimit) (d : ℕ) (e : Expr) (ts : List Lexeme)
      → SpellsExpr l d e ts → EachKnown names ts → ReadableExpr names e
  expr_readable names l d (App app) ts h k = app_readable names l d app ts h k
  expr_readable names l d (Let group e) ts h k =
      let rest = lexeme h.1 word.In ∷ h.3 in
      let k2 : EachKnown names (h.2 ++ rest) = (subst (EachKnown names) h.8 k).1 in (
        h.5,
        binds_readable names l (suc d) group h.2 h.6 (front_known names h.2 rest k2),
        expr_readable names l (suc d) e h.3 h.7 (back_known names h.2 rest k2).1,
      )
  expr_readable names l d (Case e alts) ts h k =
      let close = lexeme h.3 word.CloseBrace ∷ [] in
      let rest = lexeme h.1 word.Of ∷ lexeme h.2 word.OpenBrace ∷ (h.5 ++ close) in
      let k2 : EachKnown names (h.4 ++ rest) = (subst (EachKnown names) h.10 k).1 in
      let k3 = back_known names h.4 rest k2 in (
        h.7,
        expr_readable names l (suc d) e h.4 h.8 (front_known names h.4 rest k2),
        alts_readable names l (suc d) alts h.5 h.9 (front_known names h.5 close k3.1.1),
      )

  pub alts_readable : (names : Texts) (l : NestingLimit) (d : ℕ) (xs : Alts) (ts : List Lexeme)
      → SpellsAlts l d xs ts → EachKnown names ts → ReadableAlts names xs
  alts_readable names l d NoAlts ts h k = tt
  alts_readable names l d (AndAlt p e xs) ts h k =
      let rest2 = h.2 ++ h.3 in
      let rest = lexeme h.4 word.Arrow ∷ (h.1 ++ rest2) in
      let k2 = subst (EachKnown names) h.9 k in
      let k3 = (back_known names h.0 rest k2).1 in (
        pattern_readable names p h.0 h.5 (front_known names h.0 rest k2),
        expr_readable names l d e h.1 h.6 (front_known names h.1 rest2 k3),
        alts_readable names l d xs h.3 h.8
            (back_known names h.2 h.3 (back_known names h.1 rest2 k3)),
      )

abbrev pub ReadableDecl : Texts → Decl → Type 0
ReadableDecl names (Declares d) = ReadableData names d
ReadableDecl names (Defines f) = ReadableFunction names f

abbrev pub EachReadable : Texts → List Decl → Type 0
EachReadable names [] = Unit {0}
EachReadable names (d ∷ ds) = ReadableDecl names d × EachReadable names ds

pub decl_readable : (names : Texts) (l : NestingLimit) (d : Decl) (ts : List Lexeme)
    → SpellsDecl l d ts → EachKnown names ts → ReadableDecl names d
decl_readable names l (Declares d) ts h k =
    let k2 = subst (EachKnown names) h.3 k in
    let r : IsInRange (pos d.fields) = k2.1.1.0 in
    (k2.1.0, omega (arith, ints, r.1))
decl_readable names l (Defines f) ts h k =
    let k2 = subst (EachKnown names) h.4 k in
    let close = lexeme h.1 word.Semicolon ∷ [] in
    let rest = lexeme h.0 word.Equals ∷ (h.2 ++ close) in
    let k3 = back_known names (binders f.params) rest k2.1 in (
      k2.0,
      binders_readable names f.params (front_known names (binders f.params) rest k2.1),
      expr_readable names l 0 f.body h.2 h.3 (front_known names h.2 close k3.1),
    )

decls_readable : (names : Texts) (l : NestingLimit) (ds : List Decl) (ts : List Lexeme)
    → SpellsDecls l ds ts → EachKnown names ts → EachReadable names ds
decls_readable names l [] ts h k = tt
decls_readable names l (d ∷ ds) ts h k =
    let k2 = subst (EachKnown names) h.4 k in (
      decl_readable names l d h.0 h.2 (front_known names h.0 h.1 k2),
      decls_readable names l ds h.1 h.3 (back_known names h.0 h.1 k2),
    )

constructors_readable : (names : Texts) (ds : List Decl) → EachReadable names ds
    → All (ReadableData names) (constructors_of ds)
constructors_readable names [] h = All-nil (ReadableData names)
constructors_readable names (Declares d ∷ ds) h = All-cons (ReadableData names) d
    (constructors_of ds) h.0 (constructors_readable names ds h.1)
constructors_readable names (Defines f ∷ ds) h = constructors_readable names ds h.1

functions_readable : (names : Texts) (ds : List Decl) → EachReadable names ds
    → All (ReadableFunction names) (functions_of ds)
functions_readable names [] h = All-nil (ReadableFunction names)
functions_readable names (Declares d ∷ ds) h = functions_readable names ds h.1
functions_readable names (Defines f ∷ ds) h = All-cons (ReadableFunction names) f (functions_of ds)
    h.0 (functions_readable names ds h.1)

-- ---- the names are different

either : (b c : Bool) → (b || c) ≡ false → (b ≡ false) × (c ≡ false)
either true c e = absurd cc
either false c e = (refl, e)

other : (w v : List ℕ) → bytes_eq w v ≡ false → w ≢ v
other w v e f = let t : bytes_eq w v ≡ true = (bytes_eq-Decides w v).1 f in absurd cc

new_last : (names : Texts) (w : List ℕ) → AreDistinct names → has names w ≡ false
    → AreDistinct (names ++ w ∷ [])
new_last [] w d h = (All-nil (λ v. v ≢ w), tt)
new_last (v ∷ names) w d h =
    let e = either (bytes_eq w v) (has names w) h in
    (All-push (λ u. u ≢ v) names w d.0 (other w v e.0), new_last names w d.1 e.1)

different_by : (b c : Bool) (names : Texts) (w : List ℕ) → AreDistinct names → has names w ≡ c
    → AreDistinct (cond b (cond c names (names ++ w ∷ [])) names)
different_by true true names w d e = d
different_by true false names w d e = new_last names w d e
different_by false c names w d e = d

pub different_from : (d : Dialect) (names : Texts) (ps : List Piece) → AreDistinct names
    → AreDistinct (fold (with_piece d) names ps)
different_from d names [] h = h
different_from d names (p ∷ ps) h = different_from d (with_piece d names p) ps
    (different_by (is_numbered d p) (has names p.bytes) names p.bytes h refl)

-- ---- the size is at most the number of tokens

mutual
  term_small : (l : NestingLimit) (d : ℕ) (a : Term) (ts : List Lexeme) → SpellsTerm l d a ts
      → term_size a ≤ length ts
  term_small l d (tree.Name n at) ts h = omega (arith, ap length h)
  term_small l d (tree.Con n at) ts h = omega (arith, ap length h)
  term_small l d (tree.Int v at) ts h = omega (arith, ap length h.1)
  term_small l d (tree.Bracket a xs at) ts h =
      let close = lexeme h.2 word.Close ∷ [] in
      let e1 = term_small l (suc d) a h.0 h.4 in
      let e2 = terms_small l (suc d) xs h.1 h.5 in
      omega (
        arith,
        e1,
        e2,
        ap length h.6,
        length-append h.0 (h.1 ++ close),
        length-append h.1 close,
      )

  terms_small : (l : NestingLimit) (d : ℕ) (xs : Terms) (ts : List Lexeme) → SpellsTerms l d xs ts
      → terms_size xs ≤ length ts
  terms_small l d NoTerms ts h = omega arith
  terms_small l d (AndTerm a xs) ts h =
      let e1 = term_small l d a h.0 h.2 in
      let e2 = terms_small l d xs h.1 h.3 in
      omega (arith, e1, e2, ap length h.4, length-append h.0 h.1)

app_small : (l : NestingLimit) (d : ℕ) (app : Application) (ts : List Lexeme) → SpellsApp l d app ts
    → term_size app.head + terms_size app.args ≤ length ts
app_small l d app ts h = terms_small l d (AndTerm app.head app.args) ts h

pub binders_length : (bs : List Binder) → length (binders bs) ≡ length bs
binders_length [] = refl
binders_length (b ∷ bs) = ap suc (binders_length bs)

bind_small : (l : NestingLimit) (d : ℕ) (b : Bind) (ts : List Lexeme) → SpellsBind l d b ts
    → bind_size b ≤ length ts
bind_small l d b ts h = let e = app_small l d b.app h.1 h.2 in omega (arith, e, ap length h.3)

binds_small : (l : NestingLimit) (d : ℕ) (bs : List Bind) (ts : List Lexeme) → SpellsBinds l d bs ts
    → sum_by bind_size bs ≤ length ts
binds_small l d [] ts h = omega arith
binds_small l d (b ∷ bs) ts h =
    let e1 = bind_small l d b h.0 h.3 in
    let e2 = binds_small l d bs h.2 h.5 in
    let e3 : sum_by bind_size (b ∷ bs) ≡ bind_size b + sum_by bind_size bs
    = sum_by-cons bind_size b bs in
    omega (arith, e1, e2, e3, ap length h.6, length-append h.0 (h.1 ++ h.2), length-append h.1 h.2)

pattern_small : (p : Pattern) (ts : List Lexeme) → SpellsPattern p ts → pattern_size p ≤ length ts
pattern_small (pattern.Con c fields) ts h = omega (arith, ap length h, binders_length fields)
pattern_small (pattern.Int v at) ts h = omega (arith, ap length h.1)
pattern_small (pattern.Default x) ts h = omega (arith, ap length h)

mutual
  pub expr_small : (l : NestingLimit) (d : ℕ) (e : Expr) (ts : List Lexeme) → SpellsExpr l d e ts
      → expr_size e ≤ length ts
  expr_small l d (App app) ts h = app_small l d app ts h
  expr_small l d (Let group e) ts h =
      let e1 = binds_small l (suc d) group h.2 h.6 in
      let e2 = expr_small l (suc d) e h.3 h.7 in
      omega (arith, e1, e2, ap length h.8, length-append h.2 (lexeme h.1 word.In ∷ h.3))
  expr_small l d (Case e alts) ts h =
      let close = lexeme h.3 word.CloseBrace ∷ [] in
      let e1 = expr_small l (suc d) e h.4 h.8 in
      let e2 = alts_small l (suc d) alts h.5 h.9 in
      omega (
        arith,
        e1,
        e2,
        ap length h.10,
        length-append h.4
            (lexeme h.1 word.Of ∷ lexeme h.2 word.OpenBrace ∷ (h.5 ++ close)),
        length-append h.5 close,
      )

  pub alts_small : (l : NestingLimit) (d : ℕ) (xs : Alts) (ts : List Lexeme) → SpellsAlts l d xs ts
      → alts_size xs ≤ length ts
  alts_small l d NoAlts ts h = omega arith
  alts_small l d (AndAlt p e xs) ts h =
      let e1 = pattern_small p h.0 h.5 in
      let e2 = expr_small l d e h.1 h.6 in
      let e3 = alts_small l d xs h.3 h.8 in
      omega (
        arith,
        e1,
        e2,
        e3,
        ap length h.9,
        length-append h.0
            (lexeme h.4 word.Arrow ∷ (h.1 ++ (h.2 ++ h.3))),
        length-append h.1 (h.2 ++ h.3),
        length-append h.2 h.3,
      )

decls_small : (l : NestingLimit) (ds : List Decl) (ts : List Lexeme) → SpellsDecls l ds ts
    → 2 * length (constructors_of ds) + sum_by function_size (functions_of ds) ≤ length ts
decls_small l [] ts h = omega arith
decls_small l (Declares d ∷ ds) ts h =
    let e = decls_small l ds h.1 h.3 in
    omega (arith, e, ap length h.4, length-append h.0 h.1, ap length h.2.3)
decls_small l (Defines f ∷ ds) ts h =
    let g = h.2 in
    let close = lexeme g.1 word.Semicolon ∷ [] in
    let e = decls_small l ds h.1 h.3 in
    let e2 = expr_small l 0 f.body g.2 g.3 in
    let e3 : sum_by function_size (f ∷ functions_of ds) ≡ function_size f + sum_by function_size
    (functions_of ds) = sum_by-cons function_size f (functions_of ds) in
    omega (
      arith,
      e,
      e2,
      e3,
      ap length h.4,
      length-append h.0 h.1,
      ap length g.4,
      length-append (binders f.params) (lexeme g.0 word.Equals ∷ (g.2 ++ close)),
      length-append g.2 close,
      binders_length f.params,
    )

map_length : (d : Dialect) (names : Texts) (ps : List Piece)
    → length (map (said d names) ps) ≡ length ps
map_length d names [] = refl
map_length d names (p ∷ ps) = ap suc (map_length d names ps)

-- Declarations among the tokens of a text of any dialect are readable.
pub readable_in : (d : Dialect) (l : NestingLimit) (p : Program) (ds : List Decl)
    (pieces : List Piece) (us ts vs : List Lexeme) → p.names ≡ names_of d pieces
    → constructors_of ds ≡ p.constructors → functions_of ds ≡ p.functions → SpellsDecls l ds ts
    → map (said d p.names) pieces ≡ us ++ (ts ++ vs) → AreInRange d pieces → length pieces < 2 ^ 64
    → IsReadable p
readable_in d l p ds pieces us ts vs named constructors functions spelled whole small short =
    let held : EachHeld d p.names pieces = subst (λ v. EachHeld d v pieces) (sym named)
    (each_held d [] pieces) in
    let each : EachKnown p.names (us ++ (ts ++ vs))
    = subst (EachKnown p.names) whole (known d p.names pieces held small) in
    let r = decls_readable p.names l ds ts spelled
    (front_known p.names ts vs (back_known p.names us (ts ++ vs) each)) in
    let s = decls_small l ds ts spelled in
    record {
      different = subst AreDistinct (sym named) (different_from d [] pieces tt);
      constructors = subst (All (ReadableData p.names)) constructors
          (constructors_readable p.names ds r);
      functions = subst (All (ReadableFunction p.names)) functions
          (functions_readable p.names ds r);
      size = subst (λ v. v < 2 ^ 64)
          (λ i. 2 * length (constructors i) + sum_by function_size (functions i))
          (omega (
            arith,
            s,
            short,
            map_length d p.names pieces,
            ap length whole,
            length-append us (ts ++ vs),
            length-append ts vs,
          ));
    }

pub readable : (l : NestingLimit) (p : Program) (pieces : List Piece) → IsProgram l p pieces
    → AreInRange Core pieces → length pieces < 2 ^ 64 → IsReadable p
readable l p pieces h small short =
    let ts = map (said Core p.names) pieces in
    readable_in Core l p h.decls pieces [] ts [] h.names h.constructors h.functions h.spelled
    (sym (append-nil ts)) small short
