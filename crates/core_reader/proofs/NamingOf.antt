-- The numbers of names stay as more names come.
use Rattle.std.proofs.Common.{◌≡◌, ℕ, ◌+◌, Bool, true, false, cond, List, [], ◌∷◌, ◌++◌, Option, Some, None, refl, sym, ap, subst, ◌∙◌, append_assoc, map}
use Rattle.std.specs.Prelude.{fold, not, ◌||◌, is_none}
use Rattle.std.specs.Str.{bytes_eq}
use Rattle.std.specs.List.{list_any}
use Rattle.std.proofs.lemmas.List.{append-nil}
use Rattle.std.proofs.lemmas.List.Folds.{list_any-append}
use Rattle.std.proofs.lemmas.Slice.Eq.{bytes_eq-Decides}
use Rattle.seq.proofs.Truth.{or_true, or_left}
use Rattle.core_reader.specs.declared.dialect.Dialect.{Dialect}
use Rattle.core_reader.specs.declared.look.TokenKind.{TokenKind}
use Rattle.core_reader.specs.declared.look.TokenKind.TheVariants.{Lower, Upper, Digits, Sign}
use Rattle.core_reader.specs.declared.token.Token.{Token}
use Rattle.core_reader.specs.declared.token.Token.TheVariants as word
use Rattle.core_reader.specs.Grammar.{lexeme, name_id}
use Rattle.core_reader.specs.TokensOf.{Piece, kind_of}
use Rattle.core_reader.specs.WordsOf.{said, said_by, keyword_or_name, keyword_of, number_in}
use Rattle.core_reader.specs.NamesOf.{with_piece, names_of, is_numbered, is_numbered_by}

abbrev pub Texts : Type 0
Texts = List (List ℕ)

abbrev pub has : Texts → List ℕ → Bool
has names w = list_any (bytes_eq w) names

one_by : (b c : Bool) (names : Texts) (w : List ℕ) → (more : Texts)
    × (cond b (cond c names (names ++ w ∷ [])) names ≡ names ++ more)
one_by true true names w = ([], sym (append-nil names))
one_by true false names w = (w ∷ [], refl)
one_by false c names w = ([], sym (append-nil names))

-- a piece that gets a number has its bytes among the names
abbrev pub Held : Dialect → Texts → Piece → Type 0
Held d names p = is_numbered d p ≡ true → has names p.bytes ≡ true

abbrev pub EachHeld : Dialect → Texts → List Piece → Type 0
EachHeld d names [] = Unit {0}
EachHeld d names (p ∷ ps) = Held d names p × EachHeld d names ps

pub itself : (w : List ℕ) → bytes_eq w w ≡ true
itself w = (bytes_eq-Decides w w).1 refl

has_last : (names : Texts) (w : List ℕ) → has (names ++ w ∷ []) w ≡ true
has_last names w = list_any-append (bytes_eq w) names (w ∷ []) ∙ ap
    (λ b. has names w || (b || false)) (itself w) ∙ or_true (has names w)

pub has_more : (names more : Texts) (w : List ℕ) → has names w ≡ true → has (names ++ more) w ≡ true
has_more names more w e = list_any-append (bytes_eq w) names more ∙ or_left (has names w)
    (has more w) e

held_by : (b c : Bool) (names : Texts) (w : List ℕ) → has names w ≡ c → b ≡ true
    → has (cond b (cond c names (names ++ w ∷ [])) names) w ≡ true
held_by true true names w e h = e
held_by true false names w e h = has_last names w
held_by false c names w e h = absurd cc

first_by : (b c : Bool) (n m : ℕ) → (b || c) ≡ true → (c ≡ true → n ≡ m)
    → cond (not b) (1 + n) 0 ≡ cond (not b) (1 + m) 0
first_by true c n m h e = refl
first_by false c n m h e = ap (λ k. 1 + k) (e h)

pub number_grows : (w : List ℕ) (names more : Texts) → has names w ≡ true
    → number_in (names ++ more) w ≡ number_in names w
number_grows w [] more h = absurd cc
number_grows w (v ∷ names) more h = first_by (bytes_eq w v) (has names w)
    (number_in (names ++ more) w) (number_in names w) h (number_grows w names more)

letters_grow : (names more : Texts) (w : List ℕ) (o : Option Token)
    → (is_none o ≡ true → has names w ≡ true) → keyword_or_name (names ++ more) w o ≡
    keyword_or_name names w o
letters_grow names more w (Some token) h = refl
letters_grow names more w None h = ap (λ n. word.Name (name_id n))
    (number_grows w names more (h refl))

module _ (d : Dialect) where
  pub one_more : (names : Texts) (p : Piece) → (more : Texts)
      × (with_piece d names p ≡ names ++ more)
  one_more names p = one_by (is_numbered d p) (has names p.bytes) names p.bytes

  pub grows : (names : Texts) (ps : List Piece) → (more : Texts)
      × (fold (with_piece d) names ps ≡ names ++ more)
  grows names [] = ([], sym (append-nil names))
  grows names (p ∷ ps) =
      let a = one_more names p in
      let b = grows (with_piece d names p) ps in
      (a.0 ++ b.0, b.1 ∙ ap (λ w. w ++ b.0) a.1 ∙ append_assoc names a.0 b.0)

  pub fold_append : (names : Texts) (ps qs : List Piece)
      → fold (with_piece d) names (ps ++ qs) ≡ fold (with_piece d) (fold (with_piece d) names ps) qs
  fold_append names [] qs = refl
  fold_append names (p ∷ ps) qs = fold_append (with_piece d names p) ps qs

  pub held_now : (names : Texts) (p : Piece) → Held d (with_piece d names p) p
  held_now names p h = held_by (is_numbered d p) (has names p.bytes) names p.bytes refl h

  pub held_more : (names more : Texts) (p : Piece) → Held d names p → Held d (names ++ more) p
  held_more names more p h g = has_more names more p.bytes (h g)

  said_by_grows : (names more : Texts) (w : List ℕ) (kind : Option TokenKind)
      → (is_numbered_by d w kind ≡ true → has names w ≡ true)
      → said_by d (names ++ more) w kind ≡ said_by d names w kind
  said_by_grows names more w None h = refl
  said_by_grows names more w (Some Lower) h = letters_grow names more w (keyword_of d w) h
  said_by_grows names more w (Some Upper) h = ap (λ n. word.Con (name_id n))
      (number_grows w names more (h refl))
  said_by_grows names more w (Some Digits) h = refl
  said_by_grows names more w (Some (Sign s)) h = refl

  pub said_grows : (names more : Texts) (p : Piece) → Held d names p
      → said d (names ++ more) p ≡ said d names p
  said_grows names more p h = ap (lexeme p.at)
      (said_by_grows names more p.bytes (kind_of d p.bytes) h)

  pub each_more : (names more : Texts) (ps : List Piece) → EachHeld d names ps
      → EachHeld d (names ++ more) ps
  each_more names more [] h = tt
  each_more names more (p ∷ ps) h = (held_more names more p h.0, each_more names more ps h.1)

  pub map_grows : (names more : Texts) (ps : List Piece) → EachHeld d names ps
      → map (said d (names ++ more)) ps ≡ map (said d names) ps
  map_grows names more [] h = refl
  map_grows names more (p ∷ ps) h = λ i. said_grows names more p h.0 i ∷ map_grows names more ps h.1
      i

  pub each_held : (names : Texts) (ps : List Piece) → EachHeld d (fold (with_piece d) names ps) ps
  each_held names [] = tt
  each_held names (p ∷ ps) =
      let g = grows (with_piece d names p) ps in (
        subst (λ w. Held d w p) (sym g.1)
            (held_more (with_piece d names p) g.0 p (held_now names p)),
        each_held (with_piece d names p) ps,
      )

  -- The numbers of the first tokens are the same whatever follows.
  pub stable : (us more : List Piece) → map (said d (names_of d (us ++ more))) us ≡ map
      (said d (names_of d us)) us
  stable us more =
      let g = grows (names_of d us) more in
      ap (λ w. map (said d w) us) (fold_append [] us more ∙ g.1) ∙ map_grows (names_of d us) g.0 us
      (each_held [] us)
