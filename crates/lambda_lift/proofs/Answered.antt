-- The answer of lifting, by what was found in a text.
use Rattle.std.proofs.Common.{◌≡◌, ℕ, suc, ◌+◌, ◌≤◌, Bool, true, false, List, [], ◌∷◌, length, refl, sym, ap, subst, ◌∙◌, arith, Option, Some, None}
use Rattle.std.specs.Prelude.{nat_lt, slice_get}
use Rattle.seq.specs.Lists.{AllOf}
use Rattle.core_reader.proofs.OnlyOne.{one_thing}
use Rattle.core_reader.specs.declared.refusal.ReadRefusal.{ReadRefusal}
use Rattle.core_reader.specs.declared.refusal.ReadRefusal.TheVariants as from
use Rattle.core_reader.specs.Readable as core
use Rattle.lambda_reader.specs.Tree.{Program}
use Rattle.lambda_reader.specs.Programs.{IsSourceText, BreaksNoReadingRule, IsUnreadCause}
use Rattle.lambda_reader.specs.Reserved.{IsFirstReserved}
use Rattle.lambda_reader.specs.Readable.{IsReadable}
use Rattle.lambda_reader.proofs.Reading.{lambda_reads}
use Rattle.lambda_lift.specs.Free.{free as free_names}
use Rattle.lambda_lift.specs.Abstractions.{Abstraction, abstractions, in_functions}
use Rattle.lambda_lift.specs.Lifted.{lifted, HasNoLiftedName}
use Rattle.lambda_lift.specs.Rules.{Unread, IsTooBroad, IsUnbroken}
use Rattle.lambda_lift.specs.Refusal.{IsCause, IsTreeCause, refusal_of_reading}
use Rattle.lambda_lift.specs.Gathered.{program_of_names}
use Rattle.lambda_lift.specs.Broadest.{exceeds_parameter_limit, too_broad}
use Rattle.lambda_lift.specs.Choosing.{earliest_refusal}
use Rattle.lambda_lift.specs.declared.refusal.LiftRefusal.{LiftRefusal}
use Rattle.lambda_lift.specs.declared.refusal.LiftRefusal.TheVariants.{TooManyParameters}
use Rattle.lambda_lift.proofs.ByNames.{all_broad_same}
use Rattle.lambda_lift.proofs.Judged.{none_of, answer, first_too_broad, none_too_broad}
use Rattle.lambda_lift.proofs.NewNames.{text_free, not_lifted}
use Rattle.lambda_lift.proofs.Readably.{lifted_readable}

pub unread_cause : (text : List ℕ) (r : ReadRefusal) → IsUnreadCause text r
    → IsCause text (refusal_of_reading r)
unread_cause text (from.BadByte at) h = Unread h
unread_cause text (from.Syntax at) h = Unread h
unread_cause text (from.NumberRange at) h = Unread h
unread_cause text (from.TooDeep at) h = Unread h
unread_cause text from.TextTooLong h = Unread h
unread_cause text (from.Memory e) h = tt

none_first : (o p : Option ℕ) → None ≡ earliest_refusal o p → (o ≡ None) × (p ≡ None)
none_first None None e = (refl, refl)
none_first None (Some b) e = absurd cc
none_first (Some a) None e = absurd cc
none_first (Some a) (Some b) e = absurd cc

few : (c : Program) (a : Abstraction) → (exceeds_parameter_limit c a ≡ true → ⊥)
    → length (free_names c a.scope a.params a.body) + length a.params ≤ 12
few c a h = by (nat_lt 12 (length (free_names c a.scope a.params a.body) + length a.params)) refl h
  where
    by : (b : Bool) → nat_lt 12 (length (free_names c a.scope a.params a.body) + length a.params) ≡
        b → (b ≡ true → ⊥) → length (free_names c a.scope a.params a.body) + length a.params ≤ 12
    by true e h = absurd (h refl)
    by false e h = grind (arith, e)

all_few : (c : Program) (xs : List Abstraction) →
    ((a : Abstraction) (i : ℕ) → slice_get xs i ≡ Some a → exceeds_parameter_limit c a ≡ true → ⊥)
    → AllOf (λ a. length (free_names c a.scope a.params a.body) + length a.params ≤ 12) xs
all_few c [] h = tt
all_few c (a ∷ xs) h = (few c a (h a 0 refl), all_few c xs (λ b i e. h b (suc i) e))

module _ (text : List ℕ) (c : Program) (is_text : IsSourceText text c)
    (read : BreaksNoReadingRule text) (reserved : Option ℕ) (met : IsFirstReserved text reserved)
    (names : List (List ℕ)) (same : names ≡ c.names)
    (first : Option ℕ)
    (is : first ≡ too_broad (program_of_names names) None
    (in_functions (program_of_names names) c.functions)) where
  by_text : first ≡ too_broad c None (abstractions c)
  by_text = is ∙ ap
      (λ ns. too_broad (program_of_names ns) None (in_functions (program_of_names ns) c.functions))
      same ∙ all_broad_same c None

  one : (d : Program) → IsSourceText text d → d ≡ c
  one d t = one_thing lambda_reads text d c t is_text

  pub refused : (r : LiftRefusal) → Some r ≡ earliest_refusal first reserved → IsCause text r
  refused r e = answer text c is_text one reserved met first by_text read (Some r) e

  module _ (e : None ≡ earliest_refusal first reserved) where
    pub unbroken : IsUnbroken text
    unbroken = answer text c is_text one reserved met first by_text read None e

    pub free : HasNoLiftedName c
    free = not_lifted (length (abstractions c)) c.names
        (text_free text c is_text
        (subst (IsFirstReserved text) (none_first first reserved e).1 met))

    pub readable : IsReadable c → core.IsReadable (lifted c)
    readable h =
        lifted_readable c h free
        (all_few c (abstractions c)
        (none_of c None (abstractions c) (sym by_text ∙ (none_first first reserved e).0)).all)

-- ---- the answer for a tree

module _ (c : Program) (names : List (List ℕ)) (same : names ≡ c.names) (first : Option ℕ)
    (is : first ≡ too_broad (program_of_names names) None
    (in_functions (program_of_names names) c.functions)) where
  by_tree : first ≡ too_broad c None (abstractions c)
  by_tree = is ∙ ap
      (λ ns. too_broad (program_of_names ns) None (in_functions (program_of_names ns) c.functions))
      same ∙ all_broad_same c None

  pub tree_refused : (at : ℕ) → Some at ≡ first → IsTreeCause c (TooManyParameters at)
  tree_refused at e = first_too_broad c at (e ∙ by_tree)

  module _ (e : None ≡ first) where
    pub tree_unbroken : (at : ℕ) → IsTooBroad c at → ⊥
    tree_unbroken = none_too_broad c (e ∙ by_tree)

    pub tree_readable : HasNoLiftedName c → IsReadable c → core.IsReadable (lifted c)
    tree_readable f h = lifted_readable c h f
        (all_few c (abstractions c) (none_of c None (abstractions c) (sym (e ∙ by_tree))).all)
