-- One step of the lexer.
use Rattle.std.proofs.Common.{add-one, ◌≡◌, ℕ, suc, ◌+◌, ◌-◌, ◌*◌, ◌<◌, ◌≤◌, Bool, true, false, cond, List, [], ◌∷◌, ◌++◌, length, take, drop, map, Some, refl, sym, ap, subst, ◌∙◌, arith, length-drop, length-append, append_assoc}
use Rattle.std.proofs.Math.Seq.{drop-cons}
use Rattle.std.specs.Prelude.{slice_index, if◌then◌else◌, ◌||◌, not}
use denote.Ref.{Bor}
use Rattle.std.specs.Str.{bytes_eq}
use Rattle.std.specs.List.{list_any, position_or_len}
use Rattle.std.proofs.lemmas.List.{drop-drop, take_all, append-nil}
use Rattle.seq.proofs.Lists.{map_push}
use Rattle.core_reader.specs.declared.dialect.Dialect.{Dialect}
use Rattle.core_reader.specs.declared.look.TokenKind.{TokenKind}
use Rattle.core_reader.specs.declared.look.TokenKind.TheVariants.{Lower, Upper, Digits, Sign}
use Rattle.core_reader.specs.declared.look.Found.{Found}
use Rattle.core_reader.specs.declared.look.Found.TheVariants as found
use Rattle.core_reader.specs.declared.token.Token.{Token}
use Rattle.core_reader.specs.declared.token.Token.TheVariants as word
use Rattle.core_reader.specs.declared.token.Lexeme.{Lexeme}
use Rattle.core_reader.specs.Grammar.{lexeme}
use Rattle.core_reader.specs.LookOf.{scanned_token}
use Rattle.core_reader.specs.TokensOf.{Piece, Reads, Stops, Passes, Takes, Longest, IsSeparator, NothingBegins, kind_of}
use Rattle.core_reader.specs.WordsOf.{said, said_by, number_in, written_number, digits_from, has_minus, IsInRange}
use Rattle.core_reader.specs.NamesOf.{names_of, with_name, with_piece, is_numbered_by}
use Rattle.core_reader.specs.LexedOf.{texts_of, is_large, IsSigned, IsTokenOf, IsTokenOfKind, StopsAt, AtEnd, AtBad, AtLarge, AreInRange, IsLexed}
use Rattle.core_reader.proofs.Looking.{StandsAtFront, front_stands}
use Rattle.core_reader.proofs.NamingOf.{Texts, has, itself, fold_append, one_more, each_held, map_grows}
use Rattle.core_reader.proofs.Proper.{IsProper, proper}
use Rattle.core_reader.proofs.Unique.{gap_within, longest_some}

-- what was read up to a place
pub record Lexing (d : Dialect) (text : List ℕ) (at : ℕ) (lexemes : List Lexeme) (names : Texts)
    : Type 0 where
  pub pieces : List Piece
  pub within : at ≤ length text
  pub so_far : (tail : List Piece) (end : ℕ) (rest : List ℕ)
      → Reads d at (drop at text) tail end rest → Reads d 0 text (pieces ++ tail) end rest
  pub named : names ≡ names_of d pieces
  pub in_range : AreInRange d pieces
  pub lexed : lexemes ≡ map (said d names) pieces
  pub counted : length names ≤ at

rest_is : (text : List ℕ) (at : ℕ) → take (length text - at) (drop at text) ≡ drop at text
rest_is text at = take_all (length text - at) (drop at text) (omega (arith, length-drop at text))

pub fits_text : (text : List ℕ) (at n : ℕ) → at ≤ length text → n ≤ length (drop at text)
    → at + n ≤ length text
fits_text text at n h g = omega (arith, length-drop at text)

no_large_said : (token : Token) → IsProper token → is_large token ≡ true → ⊥
no_large_said (word.Large minus) h e = h
no_large_said (word.Name n) h e = cc
no_large_said (word.Con n) h e = cc
no_large_said (word.Number m v) h e = cc
no_large_said word.Data h e = cc
no_large_said word.Let h e = cc
no_large_said word.In h e = cc
no_large_said word.Case h e = cc
no_large_said word.Of h e = cc
no_large_said word.Semicolon h e = cc
no_large_said word.Equals h e = cc
no_large_said word.OpenBrace h e = cc
no_large_said word.CloseBrace h e = cc
no_large_said word.Open h e = cc
no_large_said word.Close h e = cc
no_large_said word.Arrow h e = cc
no_large_said (word.Further t) h e = cc
no_large_said word.Bad h e = cc
no_large_said word.End h e = cc

module _ (d : Dialect) where
  pub gap_here : (text : List ℕ) (at : ℕ) (n : ℕ) (r : Found)
      → r ≡ scanned_token d (take (length text - at) (drop at text)) → r ≡ found.Gap n
      → IsSeparator n (drop at text) × (0 < n) × (n ≤ length (drop at text))
  gap_here text at n r e f = subst (StandsAtFront d (drop at text))
      (ap (scanned_token d) (sym (rest_is text at)) ∙ sym e ∙ f) (front_stands d (drop at text))

  pub token_here : (text : List ℕ) (at : ℕ) (n : ℕ) (kind : TokenKind) (r : Found)
      → r ≡ scanned_token d (take (length text - at) (drop at text)) → r ≡ found.Token n kind
      → Longest d n (drop at text) kind × (0 < n)
  token_here text at n kind r e f = subst (StandsAtFront d (drop at text))
      (ap (scanned_token d) (sym (rest_is text at)) ∙ sym e ∙ f) (front_stands d (drop at text))

  pub bad_here : (text : List ℕ) (at : ℕ) (r : Found)
      → r ≡ scanned_token d (take (length text - at) (drop at text)) → r ≡ found.Bad
      → NothingBegins d (drop at text)
  bad_here text at r e f = subst (StandsAtFront d (drop at text))
      (ap (scanned_token d) (sym (rest_is text at)) ∙ sym e ∙ f) (front_stands d (drop at text))

  pub end_here : (text : List ℕ) (at : ℕ) (r : Found)
      → r ≡ scanned_token d (take (length text - at) (drop at text)) → r ≡ found.End
      → drop at text ≡ []
  end_here text at r e f = subst (StandsAtFront d (drop at text))
      (ap (scanned_token d) (sym (rest_is text at)) ∙ sym e ∙ f) (front_stands d (drop at text))

  pub start : (text : List ℕ) → Lexing d text 0 [] []
  start text = record {
    pieces = [];
    within = omega arith;
    so_far = λ tail end rest h. h;
    named = refl;
    in_range
        = tt;
    lexed = refl;
    counted = omega arith;
  }

  pub on_gap : (text : List ℕ) (at n : ℕ) (lexemes : List Lexeme) (names : Texts)
      → Lexing d text at lexemes names → IsSeparator n (drop at text)
      → Lexing d text (at + n) lexemes names
  on_gap text at n lexemes names h gap =
      let w = gap_within (drop at text) n gap in
      record {
        pieces = h.pieces;
        within = fits_text text at n h.within w.1;
        so_far = λ tail end rest r. h.so_far tail end rest
            (Passes at n (drop at text) tail end rest gap
            (subst (λ w. Reads d (at + n) w tail end rest) (sym (drop-drop n at text)) r));
        named = h.named;
        in_range = h.in_range;
        lexed = h.lexed;
        counted = omega (arith, h.counted);
      }

  -- ---- a token

  said_is : (names : Texts) (w : List ℕ) (kind : TokenKind) (token : Token)
      → IsTokenOfKind d names w kind token → is_large token ≡ false
      → token ≡ said_by d names w (Some kind)
  said_is names w Lower token h e = h
  said_is names w Upper token h e = h
  said_is names w (Sign s) token h e = h
  said_is names w Digits (word.Number m v) h e = λ i. word.Number (h.0 i) (h.1 i)
  said_is names w Digits (word.Large m) h e = absurd cc
  said_is names w Digits token h e = absurd h

  ranged : (names : Texts) (w : List ℕ) (kind : TokenKind) (token : Token)
      → IsTokenOfKind d names w kind token → is_large token ≡ false → kind_of d w ≡ Some kind
      → kind_of d w ≡ Some Digits → IsInRange (written_number w)
  ranged names w Lower token h e f g = absurd cc
  ranged names w Upper token h e f g = absurd cc
  ranged names w (Sign s) token h e f g = absurd cc
  ranged names w Digits (word.Number m v) h e f g = h.2
  ranged names w Digits (word.Large m) h e f g = absurd cc
  ranged names w Digits token h e f g = absurd h

  range_last : (ps : List Piece) (p : Piece) → AreInRange d ps
      → (kind_of d p.bytes ≡ Some Digits → IsInRange (written_number p.bytes))
      → AreInRange d (ps ++ p ∷ [])
  range_last [] p h g = (g, tt)
  range_last (q ∷ ps) p h g = (h.0, range_last ps p h.1 g)

  piece_named : (old new : Texts) (w : List ℕ) (at : ℕ) (kind : TokenKind) → kind_of d w ≡ Some kind
      → new ≡ (if is_numbered_by d w (Some kind) then with_name old w else old)
      → new ≡ with_piece d old (record { bytes = w; at = at })
  piece_named old new w at kind e h = h ∙ ap
      (λ o. if is_numbered_by d w o then with_name old w else old) (sym e)

  longer_by : (b c : Bool) (names : Texts) (w : List ℕ)
      → length (cond b (cond c names (names ++ w ∷ [])) names) ≤ length names + 1
  longer_by true true names w = omega arith
  longer_by true false names w = omega (arith, length-append names (w ∷ []))
  longer_by false c names w = omega arith

  one_longer : (names : Texts) (p : Piece) → length (with_piece d names p) ≤ length names + 1
  one_longer names p = longer_by _ _ names p.bytes

  pub on_token : (text : List ℕ) (at n : ℕ) (kind : TokenKind) (token : Token)
      (lexemes longer : List Lexeme) (names new : Texts) → Lexing d text at lexemes names
      → Longest d n (drop at text) kind
      → IsTokenOf d names new (take n (drop at text)) kind token → is_large token ≡ false
      → longer ≡ lexemes ++ lexeme at token ∷ [] → Lexing d text (at + n) longer new
  on_token text at n kind token lexemes longer names new h longest t small e =
      let w = take n (drop at text) in
      let p : Piece = record { bytes = w; at = at } in
      let grown : new ≡ with_piece d names p = piece_named names new w at kind longest.is_token
      t.names in
      let m = one_more d names p in
      let held = each_held d [] h.pieces in
      let said_token : lexeme at token ≡ said d new p
      = ap (lexeme at)
      (said_is new w kind token t.says small ∙ ap (said_by d new w) (sym longest.is_token)) in
      let said_same : map (said d names) h.pieces ≡ map (said d new) h.pieces =
      ap (λ v. map (said d v) h.pieces) h.named ∙ sym
      (map_grows d (names_of d h.pieces) m.0 h.pieces held) ∙ ap
      (λ v. map (said d (v ++ m.0)) h.pieces) (sym h.named) ∙ ap (λ v. map (said d v) h.pieces)
      (sym m.1 ∙ sym grown) in
      let some = longest_some (drop at text) n kind longest in
      record {
        pieces = h.pieces ++ p ∷ [];
        within = fits_text text at n h.within longest.within;
        so_far = λ tail end rest r. subst (λ v. Reads d 0 text v end rest)
            (sym (append_assoc h.pieces (p ∷ []) tail))
            (h.so_far (p ∷ tail) end rest
            (Takes at n (drop at text) kind tail end rest longest
            (subst (λ v. Reads d (at + n) v tail end rest) (sym (drop-drop n at text)) r)));
        named = grown ∙ ap (λ v. with_piece d v p) h.named ∙ sym
            (fold_append d [] h.pieces (p ∷ []));
        in_range = range_last h.pieces p h.in_range
            (ranged new w kind token t.says small longest.is_token);
        lexed = e ∙ (λ i. (h.lexed ∙ said_same) i ++ said_token i ∷ []) ∙ sym
            (map_push (said d new) h.pieces p);
        counted = omega (arith, h.counted, some, one_longer names p, ap length grown);
      }

  -- ---- where the reading stops

  reads_all : (text : List ℕ) (at : ℕ) (lexemes : List Lexeme) (names : Texts)
      (h : Lexing d text at lexemes names) → Reads d 0 text h.pieces at (drop at text)
  reads_all text at lexemes names h = subst (λ v. Reads d 0 text v at (drop at text))
      (append-nil h.pieces) (h.so_far [] at (drop at text) (Stops at (drop at text)))

  ends_with : (text : List ℕ) (at : ℕ) (lexemes longer : List Lexeme) (names : Texts)
      (last : Lexeme) → Lexing d text at lexemes names → StopsAt d at (drop at text) last
      → longer ≡ lexemes ++ last ∷ [] → IsLexed d text longer names
  ends_with text at lexemes longer names last h stop e =
      record {
        pieces = h.pieces;
        at = at;
        rest = drop at text;
        reads = reads_all text at lexemes names h;
        named = h.named;
        in_range = h.in_range;
        last = last;
        stop = stop;
        lexed = e ∙ ap (λ v. v ++ last ∷ []) h.lexed;
      }

  pub on_bad : (text : List ℕ) (at : ℕ) (lexemes longer : List Lexeme) (names : Texts)
      → Lexing d text at lexemes names → NothingBegins d (drop at text) → longer ≡ lexemes
      ++ lexeme at word.Bad ∷ [] → IsLexed d text longer names
  on_bad text at lexemes longer names h none e = ends_with text at lexemes longer names
      (lexeme at word.Bad) h (AtBad none) e

  pub on_end : (text : List ℕ) (at : ℕ) (lexemes longer : List Lexeme) (names : Texts)
      → Lexing d text at lexemes names → drop at text ≡ [] → longer ≡ lexemes
      ++ lexeme at word.End ∷ [] → IsLexed d text longer names
  on_end text at lexemes longer names h none e = ends_with text at lexemes longer names
      (lexeme at word.End) h (AtEnd none) e

  no_large_kind : {A : Type 0} (names : Texts) (w : List ℕ) (kind : TokenKind) (token : Token)
      → token ≡ said_by d names w (Some kind) → is_large token ≡ true → A
  no_large_kind names w kind token e h = absurd
      (no_large_said token (subst IsProper (sym e) (proper d names w kind)) h)

  large_stops : (text : List ℕ) (at n : ℕ) (names : Texts) (token : Token)
      → Longest d n (drop at text) Digits → IsSigned (has_minus (take n (drop at text)))
      (written_number (take n (drop at text))) token → is_large token ≡ true
      → StopsAt d at (drop at text) (lexeme at token)
  large_stops text at n names (word.Large m) longest s large
      = subst (λ v. StopsAt d at (drop at text) (lexeme at (word.Large v))) (sym s.0)
      (AtLarge n longest s.1)
  large_stops text at n names (word.Number m v) longest s large = absurd cc
  large_stops text at n names token longest s large = absurd s

  pub on_large : (text : List ℕ) (at n : ℕ) (kind : TokenKind) (token : Token)
      (lexemes longer : List Lexeme) (names new : Texts) → Lexing d text at lexemes names
      → Longest d n (drop at text) kind
      → IsTokenOf d names new (take n (drop at text)) kind token → is_large token ≡ true
      → longer ≡ lexemes ++ lexeme at token ∷ [] → IsLexed d text longer new
  on_large text at n Lower token lexemes longer names new h longest t large e
      = no_large_kind new (take n (drop at text)) Lower token t.says large
  on_large text at n Upper token lexemes longer names new h longest t large e
      = no_large_kind new (take n (drop at text)) Upper token t.says large
  on_large text at n (Sign s) token lexemes longer names new h longest t large e
      = no_large_kind new (take n (drop at text)) (Sign s) token t.says large
  on_large text at n Digits token lexemes longer names new h longest t large e =
      ends_with text at lexemes longer new (lexeme at token)
      (subst (Lexing d text at lexemes) (sym t.names) h)
      (large_stops text at n new token longest t.says large) e
  -- ---- the number of a name in the table
  -- ---- the number of digits

any_same : (w : Bor (List ℕ)) (eq : Bor (List ℕ) → Bor (List ℕ) → Bool)
    → ((a b : Bor (List ℕ)) → eq a b ≡ bytes_eq a.now b.now) → (keys : List (Bor (List ℕ)))
    → list_any (eq w) keys ≡ list_any (bytes_eq w.now) (texts_of keys)
any_same w eq h [] = refl
any_same w eq h (k ∷ keys) = λ i. h w k i || any_same w eq h keys i

texts_append : (xs ys : List (Bor (List ℕ))) → texts_of (xs ++ ys) ≡ texts_of xs ++ texts_of ys
texts_append [] ys = refl
texts_append (x ∷ xs) ys = ap (λ v. x.now ∷ v) (texts_append xs ys)

texts_if : (b : Bool) (keys : List (Bor (List ℕ))) (w : Bor (List ℕ))
    → texts_of (if b then keys else keys ++ w ∷ []) ≡
    (if b then texts_of keys else texts_of keys ++ w.now ∷ [])
texts_if true keys w = refl
texts_if false keys w = texts_append keys (w ∷ [])

place_same : (w : Bor (List ℕ)) (eq : Bor (List ℕ) → Bor (List ℕ) → Bool)
    → ((a b : Bor (List ℕ)) → eq a b ≡ bytes_eq a.now b.now) → (keys : List (Bor (List ℕ)))
    → position_or_len (eq w) keys ≡ position_or_len (bytes_eq w.now) (texts_of keys)
place_same w eq h [] = refl
place_same w eq h (k ∷ keys) = λ i. cond (not (h w k i)) (1 + place_same w eq h keys i) 0

-- the place of a name is the same when it was put at the end
place_if : (b : Bool) (names : Texts) (w : List ℕ) → has names w ≡ b
    → number_in (if b then names else names ++ w ∷ []) w ≡ number_in names w
place_if true names w e = refl
place_if false names w e = at_end names e
  where
    by : (b c : Bool) (v : List ℕ) (n m : ℕ) → (b || c) ≡ false → (c ≡ false → n ≡ m)
        → cond (not b) (1 + n) 0 ≡ cond (not b) (1 + m) 0
    by true c v n m h g = refl
    by false c v n m h g = ap (λ k. 1 + k) (g h)

    at_end : (names : Texts) → has names w ≡ false → number_in (names ++ w ∷ []) w ≡ number_in names
        w
    at_end [] h = ap (λ b. cond (not b) 1 0) (itself w)
    at_end (v ∷ names) h = by (bytes_eq w v) (has names w) v (number_in (names ++ w ∷ []) w)
        (number_in names w) h (at_end names)

pub numbered : (eq : Bor (List ℕ) → Bor (List ℕ) → Bool)
    → ((a b : Bor (List ℕ)) → eq a b ≡ bytes_eq a.now b.now)
    → (w : Bor (List ℕ)) (keys new : List (Bor (List ℕ))) (index : ℕ)
    → new ≡ (if list_any (eq w) keys then keys else keys ++ w ∷ [])
    → index ≡ position_or_len (eq w) keys → (texts_of new ≡ with_name (texts_of keys) w.now)
    × (index ≡ number_in (texts_of new) w.now)
numbered eq h w keys new index e f =
    let any = any_same w eq h keys in
    let names : texts_of new ≡ with_name (texts_of keys) w.now
    = ap texts_of e ∙ texts_if (list_any (eq w) keys) keys w ∙ ap
    (λ b. if b then texts_of keys else texts_of keys ++ w.now ∷ []) any in (
      names,
      f ∙ place_same w eq h keys ∙ sym
          (place_if (has (texts_of keys) w.now) (texts_of keys) w.now refl) ∙ ap
          (λ v. number_in v w.now) (sym names),
    )

pub texts_length : (keys : List (Bor (List ℕ))) → length (texts_of keys) ≡ length keys
texts_length [] = refl
texts_length (k ∷ keys) = ap suc (texts_length keys)

pub at_least : (n : ℕ) (bs : List ℕ) → n ≤ digits_from n bs
at_least n [] = omega arith
at_least n (b ∷ bs) = let h = at_least (10 * n + (b - 48)) bs in omega arith

pub next_digit : (n i : ℕ) (bs : List ℕ) → i < length bs
    → digits_from n (drop i bs) ≡ digits_from (10 * n + (slice_index bs i - 48)) (drop (i + 1) bs)
next_digit n i bs h = rw (add-one, drop-cons bs i 0) refl
