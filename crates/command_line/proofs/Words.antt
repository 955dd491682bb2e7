-- What a text is as a word, by the dashes that it begins with.
use Rattle.std.proofs.Common.{◌≡◌, ◌≢◌, ℕ, ◌==◌, Bool, true, false, List, [], ◌∷◌, length, refl}
use Rattle.std.proofs.lemmas.Bool.Decides.{Decides-eqb}
use Rattle.command_line.specs.Parts.{Plain, Unknown, word_of}

-- a text that doesn't begin with a dash
pub plain_word : (text : List ℕ) → ((rest : List ℕ) → text ≢ 45 ∷ rest) → Plain text ≡ word_of text
plain_word [] other = refl
plain_word (b ∷ []) other = refl
plain_word (b ∷ c ∷ bs) other = by_first (b == 45) refl where
  by_first : (is_dash : Bool) → (b == 45) ≡ is_dash → Plain (b ∷ c ∷ bs) ≡ word_of (b ∷ c ∷ bs)
  by_first true is = absurd (other (c ∷ bs) (cc ((Decides-eqb b 45).0 is)))
  by_first false is = rw is refl

-- one dash and more behind it
pub unknown_word : (text dashed : List ℕ) → text ≡ 45 ∷ dashed → length dashed ≢ 0
    → ((rest : List ℕ) → dashed ≢ 45 ∷ rest) → Unknown ≡ word_of text
unknown_word text [] is some other = absurd (some refl)
unknown_word text (c ∷ bs) is some other = by_second (c == 45) refl where
  by_second : (is_dash : Bool) → (c == 45) ≡ is_dash → Unknown ≡ word_of text
  by_second true second = absurd (other bs (cc ((Decides-eqb c 45).0 second)))
  by_second false second = rw is (rw second refl)
