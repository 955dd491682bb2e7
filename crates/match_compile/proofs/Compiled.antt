-- The functions of all trees, one after the other.
use Rattle.std.proofs.Common.{◌≡◌, ℕ, List, [], ◌∷◌, ◌++◌, map, reverse, sym, ap, ◌∙◌, append_assoc, Option}
use Rattle.std.proofs.lemmas.List.{append-nil, reverse-append, map-append}
use Rattle.core_reader.specs.Tree.{Function}
use Rattle.match_compile.specs.declared.decide.Decision as code
use Rattle.match_compile.specs.Decisions.{Decision}
use Rattle.match_compile.specs.Translated.{Words, function_of, equation_name, next_of, first_of, each_of, others_of, firsts, others}
use Rattle.match_compile.specs.DecisionOf.{decision_of, decisions_of}

abbrev pub backward : List code.Decision → List Decision
backward ds = decisions_of (reverse ds)

pub backward_more : (ds : List code.Decision) (d : code.Decision)
    → backward (ds ++ d ∷ []) ≡ decision_of d ∷ backward ds
backward_more ds d = ap decisions_of (reverse-append ds (d ∷ []))

-- one more comes to the other end
pub turned : (all left : List code.Decision) (d : code.Decision)
    (made more whole : List code.Decision) → all ≡ left ++ d ∷ [] → more ≡ made ++ d ∷ [] → all
    ++ reverse made ≡ whole → left ++ reverse more ≡ whole
turned all left d made more whole is put h =
    ap (λ ds. left ++ ds) (ap reverse put ∙ reverse-append made (d ∷ [])) ∙ sym
    (append_assoc left (d ∷ []) (reverse made)) ∙ ap (λ ds. ds ++ reverse made) (sym is) ∙ h

pub all_turned : (all made whole : List code.Decision) → all ≡ [] → all ++ reverse made ≡ whole
    → backward made ≡ decisions_of whole
all_turned all made whole is h = ap decisions_of (ap (λ ds. ds ++ reverse made) (sym is) ∙ h)

module _ (w : Words) where
  -- one of the trees behind the first one
  pub other_more : (all left : List code.Decision) (d : code.Decision)
      (made more whole : List Function) (next : Option ℕ) (f : Function) → all ≡ left ++ d ∷ []
      → next ≡ next_of w (decision_of d) (backward left)
      → f ≡ function_of w (equation_name w d.number) (decision_of d) next → more ≡ made ++ f ∷ []
      → made ++ each_of w (backward all) ≡ whole → more ++ each_of w (backward left) ≡ whole
  other_more all left d made more whole next f is n e put h =
      ap (λ fs. fs ++ each_of w (backward left)) put
      ∙ append_assoc made (f ∷ []) (each_of w (backward left))
      ∙ ap (λ f. made ++ (f ∷ each_of w (backward left)))
      (e ∙ ap (function_of w (equation_name w d.number) (decision_of d)) n)
      ∙ sym (ap (λ ds. made ++ each_of w ds) (ap backward is ∙ backward_more left d)) ∙ h

  pub others_end : (all : List code.Decision) (made whole : List Function) → all ≡ [] → made
      ++ each_of w (backward all) ≡ whole → made ≡ whole
  others_end all made whole is h = sym (append-nil made) ∙ sym
      (ap (λ ds. made ++ each_of w (backward ds)) is) ∙ h

  firsts_more : (fs : List (List Decision)) (f : List Decision)
      → firsts w (fs ++ f ∷ []) ≡ firsts w fs ++ first_of w f
  firsts_more [] f = append-nil (first_of w f)
  firsts_more (g ∷ fs) f = ap (λ xs. first_of w g ++ xs) (firsts_more fs f) ∙ sym
      (append_assoc (first_of w g) (firsts w fs) (first_of w f))

  others_more : (fs : List (List Decision)) (f : List Decision)
      → others w (fs ++ f ∷ []) ≡ others w fs ++ others_of w f
  others_more [] f = append-nil (others_of w f)
  others_more (g ∷ fs) f = ap (λ xs. others_of w g ++ xs) (others_more fs f) ∙ sym
      (append_assoc (others_of w g) (others w fs) (others_of w f))

  -- one more function
  pub first_more : (made more : List Function) (fs : List (List code.Decision))
      (f : List code.Decision) → made ≡ firsts w (map decisions_of fs) → more ≡ made
      ++ first_of w (decisions_of f) → more ≡ firsts w (map decisions_of (fs ++ f ∷ []))
  first_more made more fs f h e = e ∙ ap (λ m. m ++ first_of w (decisions_of f)) h ∙ sym
      (ap (firsts w) (map-append decisions_of fs (f ∷ [])) ∙ firsts_more (map decisions_of fs)
      (decisions_of f))

  pub others_one_more : (made more : List Function) (fs : List (List code.Decision))
      (f : List code.Decision) → made ≡ others w (map decisions_of fs) → more ≡ made
      ++ others_of w (decisions_of f) → more ≡ others w (map decisions_of (fs ++ f ∷ []))
  others_one_more made more fs f h e = e ∙ ap (λ m. m ++ others_of w (decisions_of f)) h ∙ sym
      (ap (others w) (map-append decisions_of fs (f ∷ [])) ∙ others_more (map decisions_of fs)
      (decisions_of f))

-- the first tree
pub first_is : (w : Words) (all : List Decision) (left back : List code.Decision)
    (d : code.Decision) (next : Option ℕ) (f : Function) → backward back ≡ all → back ≡ left
    ++ d ∷ [] → next ≡ next_of w (decision_of d) (backward left)
    → f ≡ function_of w d.name.0 (decision_of d) next
    → (f ∷ [] ≡ first_of w all) × (each_of w (backward left) ≡ others_of w all)
first_is w all left back d next f h is n e =
    let whole : all ≡ decision_of d ∷ backward left = sym h ∙ ap backward is ∙ backward_more left d
    in (
      ap (λ f. f ∷ []) (e ∙ ap (function_of w d.name.0 (decision_of d)) n) ∙ sym
          (ap (first_of w) whole),
      sym (ap (others_of w) whole),
    )
