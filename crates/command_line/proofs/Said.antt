-- The function from words to parts and the grammar say the same.
use Rattle.std.proofs.lemmas.List.{take_all}
use Rattle.std.proofs.lemmas.List.Sums.{split_at_first, passes_at_first}
use Rattle.std.proofs.Common.{◌≡◌, ◌≢◌, ℕ, ◌+◌, ◌<◌, get_or, suc, nat_lt, if◌then◌else◌, Bool, true, false, List, [], ◌∷◌, ◌++◌, length, map, codes, Option, Some, None, refl, ap, ◌∙◌, arith, length-append}
use Rattle.std.specs.List.{position_or_len, before_first, after_first}
use Rattle.std.proofs.Math.Seq.{take-append_seam, drop-append-add}
use Rattle.std.proofs.lemmas.Bool.Decides.{Decides-eqb, nat_tests}
use Rattle.std.proofs.lemmas.Slice.Eq.{bytes_eq-Decides}
use Rattle.command_line.specs.Parts.{OptionOrOperand, Setting, Operand, WordKind, Plain, Joined, Flag, Named, End, Unknown, is_dash, is_equals, is_flag, joined, named, begins_with_dash, option_of, word_of, with_part, parts_of, parts_from_value}
use Rattle.command_line.specs.Grammar.{is_operand, IsOptionName, WordsSayParts, Nothing, AnOperand, OneWord, TwoWords, Alone, Operands}
use Rattle.command_line.specs.Laws.{ParsingMatchesGrammar}
use Rattle.command_line.proofs.Walks.{parts_from}

-- the first `=` stands behind a name
equals_after : (b : ℕ) (bs value : List ℕ) (first : Bool) → is_equals b ≡ first
    → IsOptionName (b ∷ bs)
    → (IsOptionName bs → position_or_len is_equals (bs ++ (61 ∷ value)) ≡ length bs)
    → position_or_len is_equals ((b ∷ bs) ++ (61 ∷ value)) ≡ length (b ∷ bs)
equals_after b bs value true here is rest = absurd (cc (rw here at is))
equals_after b bs value false here is rest = rw (here, rest (rw here at is)) (omega arith)

equals_behind : (name value : List ℕ) → IsOptionName name
    → position_or_len is_equals (name ++ (61 ∷ value)) ≡ length name
equals_behind [] value is = refl
equals_behind (b ∷ bs) value is = equals_after b bs value (is_equals b) refl is
    (λ rest. equals_behind bs value rest)

-- and nowhere in it
equals_nowhere : (b : ℕ) (bs : List ℕ) (first : Bool) → is_equals b ≡ first → IsOptionName (b ∷ bs)
    → (IsOptionName bs → position_or_len is_equals bs ≡ length bs)
    → position_or_len is_equals (b ∷ bs) ≡ length (b ∷ bs)
equals_nowhere b bs true here is rest = absurd (cc (rw here at is))
equals_nowhere b bs false here is rest = rw (here, rest (rw here at is)) (omega arith)

no_equals : (name : List ℕ) → IsOptionName name → position_or_len is_equals name ≡ length name
no_equals [] is = refl
no_equals (b ∷ bs) is = equals_nowhere b bs (is_equals b) refl is (λ rest. no_equals bs rest)

operand_word : (text : List ℕ) → is_operand text ≡ true → word_of text ≡ Plain text
operand_word [] is = refl
operand_word (b ∷ []) is = refl
operand_word (b ∷ c ∷ bs) is = let plain : is_dash b ≡ false = grind (arith, nat_tests)
    in rw plain refl

joined_word : (name value : List ℕ) → IsOptionName name
    → option_of (name ++ (61 ∷ value)) ≡ joined name value
joined_word [] value is = let test : nat_lt 0 (length (61 ∷ value)) ≡ true
    = grind (arith, nat_tests) in rw test refl
joined_word (b ∷ bs) value is =
    let here : position_or_len is_equals ((b ∷ bs) ++ (61 ∷ value)) ≡ length (b ∷ bs)
    = equals_behind (b ∷ bs) value is in
    let test : nat_lt (length (b ∷ bs)) (length ((b ∷ bs) ++ (61 ∷ value))) ≡ true
    = simp length-append (grind (arith, nat_tests)) in
    let first = take-append_seam (b ∷ bs) (61 ∷ value) in
    let second = drop-append-add (b ∷ bs) (61 ∷ value) 1 in
    rw (here, test) (λ i. joined (first i) (second i))

named_word : (name : List ℕ) → name ≢ [] → IsOptionName name → option_of name ≡ named name
named_word [] some is = absurd (some refl)
named_word (b ∷ bs) some is =
    let nowhere : position_or_len is_equals (b ∷ bs) ≡ length (b ∷ bs) = no_equals (b ∷ bs) is in
    let test : nat_lt (length (b ∷ bs)) (length (b ∷ bs)) ≡ false = grind (arith, nat_tests) in
    rw (nowhere, test) refl

one_word : (name value : List ℕ) → IsOptionName name → is_flag name ≡ false
    → option_of (name ++ (61 ∷ value)) ≡ Joined name value
one_word name value is takes = joined_word name value is ∙ ap
    (λ flag. if flag then Unknown else Joined name value) takes

valued_word : (name : List ℕ) → name ≢ [] → IsOptionName name → is_flag name ≡ false
    → option_of name ≡ Named name
valued_word name some is takes = named_word name some is ∙ ap
    (λ flag. if flag then Flag name else Named name) takes

-- the option is a name, and no empty one
flag_name : (name : List ℕ) → is_flag name ≡ true → name ≡ codes "stats"
flag_name name is = (bytes_eq-Decides name (codes "stats")).0 is

flag_word : (name : List ℕ) → is_flag name ≡ true → option_of name ≡ Flag name
flag_word name is = rw (flag_name name is) refl

read_if_said : {words : List (List ℕ)} {parts : List OptionOrOperand} → WordsSayParts words parts
    → parts_of words ≡ Some parts
read_if_said Nothing = refl
read_if_said (AnOperand {words = words} text is rest) =
    ap (λ word. parts_from word words) (operand_word text is) ∙ ap (with_part (Operand text))
    (read_if_said rest)
read_if_said (OneWord {words = words} name value is takes rest) =
    ap (λ word. parts_from word words) (one_word name value is takes) ∙ ap
    (with_part (Setting name value)) (read_if_said rest)
read_if_said (TwoWords {words = words} name value some is takes plain rest) =
    ap (λ word. parts_from word (value ∷ words)) (valued_word name some is takes)
    ∙ (ap (λ dash. elim dash
    [ true ↦ None | false ↦ with_part (Setting name value) (parts_of words) ]) plain ∙ ap
    (with_part (Setting name value)) (read_if_said rest))
read_if_said (Alone {words = words} name is rest) =
    ap (λ word. parts_from word words) (flag_word name is) ∙ ap (with_part (Setting name []))
    (read_if_said rest)
read_if_said (Operands words) = refl

-- what a text is, by the word that it is
pub data IsWord : List ℕ → WordKind → Type 0 where
  ItsOperand : (text : List ℕ) → is_operand text ≡ true → IsWord text (Plain text)
  ItsOption : (name value : List ℕ) → IsOptionName name → is_flag name ≡ false
      → IsWord (codes "--" ++ (name ++ (codes "=" ++ value))) (Joined name value)
  ItsName : (name : List ℕ) → name ≢ [] → IsOptionName name → is_flag name ≡ false
      → IsWord (codes "--" ++ name) (Named name)
  ItsFlag : (name : List ℕ) → is_flag name ≡ true → IsWord (codes "--" ++ name) (Flag name)
  ItsEnd : IsWord (codes "--") End
  ItsNothing : (text : List ℕ) → IsWord text Unknown

-- what stands before the first `=` is a name
name_after : (b : ℕ) (bs : List ℕ) (first : Bool) → is_equals b ≡ first
    → IsOptionName (before_first is_equals bs) → IsOptionName (before_first is_equals (b ∷ bs))
name_after b bs true here rest = rw here refl
name_after b bs false here rest =
    let one : 1 + position_or_len is_equals bs ≡ suc (position_or_len is_equals bs) = omega arith in
    rw (here, one, here) rest

name_before : (text : List ℕ) → IsOptionName (before_first is_equals text)
name_before [] = refl
name_before (b ∷ bs) = name_after b bs (is_equals b) refl (name_before bs)

joined_is : (text name value : List ℕ) → text ≡ name ++ (61 ∷ value) → IsOptionName name
    → IsWord (codes "--" ++ text) (joined name value)
joined_is text name value is named = by_flag (is_flag name) refl where
  by_flag : (flag : Bool) → is_flag name ≡ flag → IsWord (codes "--" ++ text)
      (if flag then Unknown else Joined name value)
  by_flag true takes = ItsNothing (codes "--" ++ text)
  by_flag false takes = rw is (ItsOption name value named takes)

named_is : (text : List ℕ) → text ≢ [] → IsOptionName text
    → IsWord (codes "--" ++ text) (named text)
named_is text some name = by_flag (is_flag text) refl where
  by_flag : (flag : Bool) → is_flag text ≡ flag → IsWord (codes "--" ++ text)
      (if flag then Flag text else Named text)
  by_flag true takes = ItsFlag text takes
  by_flag false takes = ItsName text some name takes

option_is : (text : List ℕ) → IsWord (codes "--" ++ text) (option_of text)
option_is [] = ItsEnd
option_is (b ∷ bs) = by_place (nat_lt (position_or_len is_equals (b ∷ bs)) (length (b ∷ bs))) refl
  where
    by_place : (test : Bool) → nat_lt (position_or_len is_equals (b ∷ bs)) (length (b ∷ bs)) ≡ test
        → IsWord (codes "--" ++ (b ∷ bs)) (option_of (b ∷ bs))
    by_place true is =
        let within : position_or_len is_equals (b ∷ bs) < length (b ∷ bs) = grind (arith, nat_tests)
        in
        let here : get_or (b ∷ bs) (position_or_len is_equals (b ∷ bs)) 0 ≡ 61
        = (Decides-eqb _ 61).0 (passes_at_first is_equals (b ∷ bs) 0 within) in
        let name = before_first is_equals (b ∷ bs) in
        let value = after_first is_equals (b ∷ bs) in
        rw is (joined_is (b ∷ bs) name value
        (split_at_first is_equals (b ∷ bs) 0 within ∙ ap (λ first. name ++ (first ∷ value)) here)
        (name_before (b ∷ bs)))
    by_place false is =
        let all : before_first is_equals (b ∷ bs) ≡ b ∷ bs
        = take_all (position_or_len is_equals (b ∷ bs)) (b ∷ bs) (grind (arith, nat_tests)) in
        rw is (named_is (b ∷ bs) (λ e. cc e) (rw all at (name_before (b ∷ bs))))

dashed_is : (b c : ℕ) (bs : List ℕ) (first second : Bool) → is_dash b ≡ first → is_dash c ≡ second
    → IsWord (b ∷ c ∷ bs) (word_of (b ∷ c ∷ bs))
dashed_is b c bs true true is is' =
    let first : b ≡ 45 = (Decides-eqb b 45).0 is in
    let second : c ≡ 45 = (Decides-eqb c 45).0 is' in
    rw (first, second) (option_is bs)
dashed_is b c bs true false is is' = rw (is, is') (ItsNothing (b ∷ c ∷ bs))
dashed_is b c bs false second is is' = rw is (ItsOperand (b ∷ c ∷ bs) (rw is refl))

pub word_is : (text : List ℕ) → IsWord text (word_of text)
word_is [] = ItsOperand [] refl
word_is (b ∷ []) = ItsOperand (b ∷ []) refl
word_is (b ∷ c ∷ bs) = dashed_is b c bs (is_dash b) (is_dash c) refl refl

-- parts with one more before them
with_part_some : (part : OptionOrOperand) (rest : Option (List OptionOrOperand))
    (parts : List OptionOrOperand) → with_part part rest ≡ Some parts
    → (more : List OptionOrOperand) × ((rest ≡ Some more) × (parts ≡ part ∷ more))
with_part_some part (Some more) parts is = (more, (refl, cc))
with_part_some part None parts is = absurd (cc is)

said_from : (words : List (List ℕ)) →
    ((parts : List OptionOrOperand) → parts_of words ≡ Some parts → WordsSayParts words parts)
    → ((name : List ℕ) (parts : List OptionOrOperand) → name ≢ [] → IsOptionName name
    → is_flag name ≡ false → parts_from_value name words ≡ Some parts
    → WordsSayParts ((codes "--" ++ name) ∷ words) parts)
    → (text : List ℕ) (word : WordKind) → IsWord text word → (parts : List OptionOrOperand)
    → parts_from word words ≡ Some parts → WordsSayParts (text ∷ words) parts
said_from words rest value _ _ (ItsOperand text is) parts read =
    let more = with_part_some (Operand text) (parts_of words) parts read in
    rw more.1.1 (AnOperand text is (rest more.0 more.1.0))
said_from words rest value _ _ (ItsOption name given is takes) parts read =
    let more = with_part_some (Setting name given) (parts_of words) parts read in
    rw more.1.1 (OneWord name given is takes (rest more.0 more.1.0))
said_from words rest value _ _ (ItsName name some is takes) parts read
    = value name parts some is takes read
said_from words rest value _ _ (ItsFlag name is) parts read =
    let more = with_part_some (Setting name []) (parts_of words) parts read in
    rw more.1.1 (Alone name is (rest more.0 more.1.0))
said_from words rest value _ _ ItsEnd parts read = let all : parts ≡ map Operand words = cc
    in rw all (Operands words)
said_from words rest value _ _ (ItsNothing text) parts read = absurd (cc read)

said_from_value : (value name : List ℕ) (words : List (List ℕ)) (parts : List OptionOrOperand)
    → name ≢ [] → IsOptionName name → is_flag name ≡ false
    → ((more : List OptionOrOperand) → parts_of words ≡ Some more → WordsSayParts words more)
    → (dash : Bool) → begins_with_dash value ≡ dash
    → elim dash [ true ↦ None | false ↦ with_part (Setting name value) (parts_of words) ] ≡ Some
    parts
    → WordsSayParts ((codes "--" ++ name) ∷ value ∷ words) parts
said_from_value value name words parts some is takes rest true dash read = absurd (cc read)
said_from_value value name words parts some is takes rest false plain read =
    let more = with_part_some (Setting name value) (parts_of words) parts read in
    rw more.1.1 (TwoWords name value some is takes plain (rest more.0 more.1.0))

mutual
  said_if_read : (words : List (List ℕ)) (parts : List OptionOrOperand)
      → parts_of words ≡ Some parts → WordsSayParts words parts
  said_if_read [] parts read = let none : parts ≡ [] = cc in rw none Nothing
  said_if_read (text ∷ words) parts read =
      said_from words (λ more. said_if_read words more) (λ name. said_if_read_value words name) text
      (word_of text) (word_is text) parts read

  said_if_read_value : (words : List (List ℕ)) (name : List ℕ) (parts : List OptionOrOperand)
      → name ≢ [] → IsOptionName name → is_flag name ≡ false
      → parts_from_value name words ≡ Some parts → WordsSayParts ((codes "--" ++ name) ∷ words)
      parts
  said_if_read_value [] name parts some is takes read = absurd (cc read)
  said_if_read_value (value ∷ words) name parts some is takes read =
      said_from_value value name words parts some is takes (λ more. said_if_read words more)
      (begins_with_dash value) refl read

pub parts_are_said : ParsingMatchesGrammar
parts_are_said words parts = (said_if_read words parts, read_if_said)
