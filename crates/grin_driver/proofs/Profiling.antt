-- The profile of a text's image.
use Rattle.std.proofs.Common.{◌≡◌, ◌⊎◌, ℕ, ◌+◌, ◌-◌, ◌*◌, ◌/◌, ◌<◌, ◌≤◌, min, Bool, true, false, nat_eq, nat_lt, ◌||◌, List, [], ◌∷◌, length, map, Some, slice_get, if◌then◌else◌, refl, sym, ap, ◌∙◌, inl, inr, arith}
use Rattle.std.proofs.lemmas.Bool.Decides.{nat_tests}
use Rattle.seq.specs.Lists.{times}
use Rattle.elf32.specs.Image.{Image}
use Rattle.elf32.specs.Rules.{Loads}
use Rattle.rv32_machine.specs.Steps.{start_of}
use Rattle.rv32_steps.specs.Trace.{trace, procedures_at, is_one_of, AllDifferent}
use Rattle.image_trace.specs.declared.profile.Count.{Count}
use Rattle.image_trace.specs.Profile.{counts_in, profile_text}
use Rattle.image_trace.proofs.Shares.{LiesApart, AreApart, entries_counted, places_counted, sums_up}
use Rattle.grin_compile.specs.declared.image.Built.{Built}
use Rattle.grin_compile.specs.Words.{next_address, procedures_end, words_from, code_words}
use Rattle.grin_meaning.specs.Told.{entered_by_grin}
use Rattle.grin_driver.specs.Kept.{IsBuiltImage}
use Rattle.grin_driver.specs.Profiling.{IsProfileText}
use Rattle.grin_driver.proofs.Tracing.{enters_of}

-- ---- the code of no procedure reaches into that of another

next_before : (bs : List ℕ) (end a b : ℕ) → is_one_of bs b ≡ true → a < b
    → next_address bs end a ≤ b
next_before [] end a b is less = absurd (cc is)
next_before (c ∷ bs) end a b is less =
    go (nat_eq b c) refl (nat_lt a c) refl
    (λ later. next_before bs end a b later less) where
      either : (behind : Bool) → next_address bs end a ≤ b
          → (if behind then min c (next_address bs end a) else next_address bs end a) ≤ b
      either true rest = omega (arith, rest)
      either false rest = rest

      go : (same : Bool) → nat_eq b c ≡ same → (behind : Bool) → nat_lt a c ≡ behind
          → (is_one_of bs b ≡ true → next_address bs end a ≤ b)
          → (if behind then min c (next_address bs end a) else next_address bs end a) ≤ b
      go true same true behind rest =
          let here : b ≡ c = grind (arith, nat_tests) in omega (arith, here)
      go true same false behind rest =
          let here : b ≡ c = grind (arith, nat_tests) in
          let there : c ≤ a = grind (arith, nat_tests) in absurd (omega (arith, here, there, less))
      go false other behind lt rest =
          either behind (rest (sym (ap (λ t. t || is_one_of bs b) other) ∙ is))

or_later : (s t : Bool) → t ≡ true → s || t ≡ true
or_later true t h = refl
or_later false t h = h

module _ (code addresses : List ℕ) where
  abbrev IsStart : ℕ → Type 0
  IsStart b = is_one_of addresses b ≡ true

  ends_before : (a b : ℕ) → IsStart b → a < b → a + 4 * words_from code addresses a ≤ b
  ends_before a b is less =
      let next = next_before addresses (procedures_end code) a b is less in
      omega (arith, next, less)

  lies_apart : (b : ℕ) → IsStart b → (bs : List ℕ) → is_one_of bs b ≡ false
      → ((c : ℕ) → is_one_of bs c ≡ true → IsStart c)
      → LiesApart b (words_from code addresses b) bs (map (words_from code addresses) bs)
  lies_apart b is [] other among = tt
  lies_apart b is (c ∷ bs) other among =
      go (nat_eq b c) refl (nat_lt b c) refl
      (λ none. lies_apart b is bs none
      (λ d later. among d (or_later (nat_eq d c) (is_one_of bs d) later))) where
        c_is : IsStart c
        c_is =
            let same : nat_eq c c ≡ true = grind (arith, nat_tests) in
            among c (ap (λ t. t || is_one_of bs c) same)

        go : (same : Bool) → nat_eq b c ≡ same → (less : Bool) → nat_lt b c ≡ less
            → (is_one_of bs b ≡ false
            → LiesApart b (words_from code addresses b) bs (map (words_from code addresses) bs))
            → LiesApart b (words_from code addresses b) (c ∷ bs)
            (map (words_from code addresses) (c ∷ bs))
        go true same less lt rest = absurd (cc (sym (ap (λ t. t || is_one_of bs b) same) ∙ other))
        go false not true less rest =
            let lt : b < c = grind (arith, nat_tests) in
            (inl (ends_before b c c_is lt), rest (sym (ap (λ t. t || is_one_of bs b) not) ∙ other))
        go false not false less rest =
            let lt : c < b = grind (arith, nat_tests) in
            (inr (ends_before c b is lt), rest (sym (ap (λ t. t || is_one_of bs b) not) ∙ other))

  all_apart : (bs : List ℕ) → AllDifferent bs → ((c : ℕ) → is_one_of bs c ≡ true → IsStart c)
      → AreApart bs (map (words_from code addresses) bs)
  all_apart [] different among = tt
  all_apart (b ∷ bs) different among =
      let same : nat_eq b b ≡ true = grind (arith, nat_tests) in
      let later = λ (c : ℕ) (h : is_one_of bs c ≡ true).
      among c (or_later (nat_eq c b) (is_one_of bs c) h) in (
        lies_apart b (among b (ap (λ t. t || is_one_of bs b) same)) bs different.0 later,
        all_apart bs different.1 later,
      )

-- ---- the profile of such an image is that of the text

pub profile_of_text : (text : List ℕ) (b : Built) (image : Image) (bytes : List ℕ)
    → IsBuiltImage text 1000000 1048576 b → Loads b.image.items image
    → (let way = trace 1000000000 [] (start_of image) in
    bytes ≡ profile_text b.names.items (length way)
    (counts_in way b.starts.items (code_words b.code.items b.starts.items)))
    → IsProfileText text bytes
profile_of_text text b image bytes kept loads is =
    let way = trace 1000000000 [] (start_of image) in
    let made = kept.from.made in
    let words = code_words made.code made.addresses in
    let different = made.image.of_stage.different in
    record {
      file = b.image.items;
      from = kept.from;
      image = image;
      loads = loads;
      way = way;
      is_way = refl;
      is_count = places_counted 1000000000 [] (start_of image);
      counts = counts_in way made.addresses words;
      are_counts = refl;
      entries = λ f c at. entries_counted made.addresses words way different f c at
          ∙ ap (times f) (enters_of text b image kept loads 1000000000);
      sums_up = sums_up made.addresses words
          (all_apart made.code made.addresses made.addresses different (λ c h. h)) way;
      is_text = is ∙ λ i. profile_text (kept.names i) (length way)
          (counts_in way (kept.starts i) (code_words (kept.code i) (kept.starts i)));
    }
