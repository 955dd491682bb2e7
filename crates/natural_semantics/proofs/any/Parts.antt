-- All that is derived to be printed begins one list.
use Rattle.std.proofs.Common.{◌≡◌, ◌≢◌, ℕ, ◌+◌, List, [], ◌∷◌, ◌++◌, refl, sym, ◌∙◌, subst, arith}
use mathlib.Core.Logic.{inl, inr}
use Rattle.std.specs.Prelude.{◌⊎◌}
use Rattle.headline.specs.Carries.{IsPrefixOf}
use Rattle.core_meaning.specs.Forcing.{PrintingEnd, Done, Unaccepted, Going, PrintedRun}
use Rattle.numbers.specs.Numbers.{low_byte}
use Rattle.natural_semantics.specs.World.{WorldOf}
use Rattle.natural_semantics.specs.any.Moves.{ProgramOf, printed}
use Rattle.natural_semantics.specs.any.Prints.{Prints, Behind, AtNil, NoList', ListSticks, Puts, NoByte', ByteSticks, ProgramPrints, OfItself, OfInput}
use Rattle.natural_semantics.specs.any.Laws.{PartsAgree}
use Rattle.natural_semantics.proofs.any.Enough.{Shows, program_shown}

-- ---- beginnings of one list

longer : (x y : ℕ) (xs ys : List ℕ) → x ≡ y → IsPrefixOf xs ys → IsPrefixOf (x ∷ xs) (y ∷ ys)
longer x y xs ys e h = (h.0, λ j. sym e j ∷ h.1 j)

either_longer : (x y : ℕ) (xs ys : List ℕ) → x ≡ y → IsPrefixOf xs ys ⊎ IsPrefixOf ys xs
    → IsPrefixOf (x ∷ xs) (y ∷ ys) ⊎ IsPrefixOf (y ∷ ys) (x ∷ xs)
either_longer x y xs ys e (inl h) = inl (longer x y xs ys e h)
either_longer x y xs ys e (inr h) = inr (longer y x ys xs (sym e) h)

one_begins : (xs ys more more' : List ℕ) → xs ++ more ≡ ys ++ more'
    → IsPrefixOf xs ys ⊎ IsPrefixOf ys xs
one_begins [] ys more more' e = inl (ys, refl)
one_begins (x ∷ xs) [] more more' e = inr (x ∷ xs, refl)
one_begins (x ∷ xs) (y ∷ ys) more more' e =
    let head : x ≡ y = cc in
    let tail : xs ++ more ≡ ys ++ more' = cc in
    either_longer x y xs ys head (one_begins xs ys more more' tail)

not_empty : (x : ℕ) (xs : List ℕ) → [] ≡ x ∷ xs → ⊥
not_empty x xs e = cc

module _ {F : Type 0} (p : ProgramOf F) where
  -- ---- a beginning of what is derived

  list_shorter : (w : WorldOf F) (a : ℕ) (part more out : List ℕ) (end : PrintingEnd)
      → out ≡ part ++ more → Prints p w a out end → Prints p w a part Going
  list_shorter w a [] more out end e d = Behind
  list_shorter w a (x ∷ part) more out end e Behind = absurd (not_empty _ _ e)
  list_shorter w a (x ∷ part) more out end e (AtNil f) = absurd (not_empty _ _ e)
  list_shorter w a (x ∷ part) more out end e (NoList' f n) = absurd (not_empty _ _ e)
  list_shorter w a (x ∷ part) more out end e (ListSticks s) = absurd (not_empty _ _ e)
  list_shorter w a (x ∷ part) more out end e
      (Puts {w'' = w2} {t = t} {k = k} {out = rest} f g d) =
      let head : low_byte k ≡ x = cc in
      let tail : rest ≡ part ++ more = cc in
      subst (λ y. Prints p w a (y ∷ part) Going) head
      (Puts f g (list_shorter w2 t part more rest end tail d))
  list_shorter w a (x ∷ part) more out end e (NoByte' f g n) = absurd (not_empty _ _ e)
  list_shorter w a (x ∷ part) more out end e (ByteSticks f s) = absurd (not_empty _ _ e)

  shorter : (i part all : List ℕ) (end : PrintingEnd) → IsPrefixOf part all
      → ProgramPrints p i all end → ProgramPrints p i part Going
  shorter i part all end h (OfItself e d) =
      OfItself e (list_shorter _ _ part h.0 all end h.1 d)
  shorter i part all end h (OfInput e d) =
      OfInput e (list_shorter _ _ part h.0 all end h.1 d)

  -- ---- two parts, by a run that shows both

  whole_shown : (part all : List ℕ) (end : PrintingEnd) (r : PrintedRun) → end ≢ Going
      → Shows Going part r → Shows end all r → IsPrefixOf part all
  whole_shown part all Done r h a b = (a.0, sym b.0 ∙ a.1)
  whole_shown part all Unaccepted r h a b = (a.0, sym b.0 ∙ a.1)
  whole_shown part all Going r h a b = absurd (h refl)

  ended : (i part all : List ℕ) (end : PrintingEnd) → end ≢ Going → ProgramPrints p i part Going
      → ProgramPrints p i all end → IsPrefixOf part all
  ended i part all end h a b =
      let m = program_shown p i part Going a in
      let n = program_shown p i all end b in
      whole_shown part all end (printed p i (m.units + n.units)) h
      (m.shown (m.units + n.units) (omega arith))
      (n.shown (m.units + n.units) (omega arith))

  ordered : (i part part' : List ℕ) → ProgramPrints p i part Going
      → ProgramPrints p i part' Going → IsPrefixOf part part' ⊎ IsPrefixOf part' part
  ordered i part part' a b =
      let m = program_shown p i part Going a in
      let n = program_shown p i part' Going b in
      let shows : IsPrefixOf part (printed p i (m.units + n.units)).out =
      m.shown (m.units + n.units) (omega arith) in
      let shows' : IsPrefixOf part' (printed p i (m.units + n.units)).out =
      n.shown (m.units + n.units) (omega arith) in
      one_begins part part' shows.0 shows'.0 (sym shows.1 ∙ shows'.1)

  pub parts_agree : (i : List ℕ) → PartsAgree (ProgramPrints p i)
  parts_agree i = record { shorter = shorter i; ended = ended i; ordered = ordered i }
