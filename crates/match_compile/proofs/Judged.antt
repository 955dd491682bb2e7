-- The answer for a text that was read, by the first of all faults.
use Rattle.std.proofs.Common.{◌≡◌, ℕ, ◌<◌, ◌≤◌, List, [], ◌∷◌, ◌++◌, refl, sym, ap, subst, ◌∙◌, arith, Option, Some, None, ◌⊎◌, inl, inr}
use Rattle.seq.specs.Lists.{In}
use Rattle.seq.proofs.Member.{none_in, in_left, in_right, in_split}
use Rattle.core_reader.proofs.OnlyOne.{one_thing}
use Rattle.core_reader.specs.declared.refusal.ReadRefusal.{ReadRefusal}
use Rattle.core_reader.specs.declared.refusal.ReadRefusal.TheVariants as from
use Rattle.match_compile.specs.declared.refusal.MatchRefusal.{MatchRefusal}
use Rattle.match_compile.specs.declared.refusal.MatchRefusal.TheVariants as refusal
use Rattle.match_compile.specs.Source.{Source}
use Rattle.match_compile.specs.Grammar.{IsSourceText, BreaksNoReadingRule, IsReadCause}
use Rattle.match_compile.specs.Rules.{Broken, BrokenIn, OfSource, ReservedMatch, IsUnbroken, IsFirstBroken, IsCause}
use Rattle.match_compile.specs.Rules as rules
use Rattle.match_compile.specs.Refusal.{rule, place, earlier_refusal, least_refusal, refusal_of_reading}
use Rattle.match_compile.specs.Faults.{faults, IsFirstReserved}
use Rattle.match_compile.proofs.Reading.{source_reads}
use Rattle.match_compile.proofs.Firsts.{some_first, none_first}
use Rattle.match_compile.proofs.Faulty.{sound, complete}

pub least_append : (o : Option MatchRefusal) (rs qs : List MatchRefusal)
    → least_refusal o (rs ++ qs) ≡ least_refusal (least_refusal o rs) qs
least_append o [] qs = refl
least_append o (r ∷ rs) qs = least_append (earlier_refusal o r) rs qs

-- a refusal of a rule at a place is among these
record Among (all : List MatchRefusal) (k at : ℕ) : Type 0 where
  refusal : MatchRefusal
  met : In refusal all
  rule_is : rule refusal ≡ k
  place_is : place refusal ≡ at

module _ (text : List ℕ) (c : Source) (is_text : IsSourceText text c) (first : Option MatchRefusal)
    (met : IsFirstReserved text first) where
  abbrev all : List MatchRefusal
  all = met.all ++ faults c

  joined : (o : Option MatchRefusal) → o ≡ least_refusal first (faults c)
      → least_refusal None all ≡ o
  joined o e = least_append None met.all (faults c) ∙ ap (λ w. least_refusal w (faults c))
      (sym met.is) ∙ sym e

  is_broken : (r : MatchRefusal) → In r all → BrokenIn text (rule r) (place r)
  is_broken r i = elim (in_split met.all (faults c) i) [
    | inl j ↦ let w = met.sound r j in subst (λ k. BrokenIn text k (place r)) (sym w.0)
        (ReservedMatch w.1)
    | inr j ↦ OfSource c is_text (sound c r j)
  ]

  is_met : {k at : ℕ} → BrokenIn text k at → Among all k at
  is_met {k = k} {at = at} (OfSource d t b) =
      let same = one_thing source_reads text d c t is_text in
      let w = complete c (subst (λ c. Broken c k at) same b) in
      record {
        refusal = w.refusal;
        met = in_right met.all (faults c) w.met;
        rule_is
            = w.rule_is;
        place_is = w.place_is;
      }
  is_met (ReservedMatch {at = at} h) = record {
    refusal = refusal.ReservedMatch at;
    met = in_left met.all (faults c) (met.complete at h);
    rule_is = refl;
    place_is = refl;
  }

  -- where nothing was met no rule is broken
  pub unbroken : BreaksNoReadingRule text → None ≡ least_refusal first (faults c) → IsUnbroken text
  unbroken read e = record {
    read = read;
    sound = λ k at b. let w = is_met b
        in none_in (subst (In w.refusal) (none_first all (joined None e)) w.met);
  }

  first_broken : (r : MatchRefusal) → BreaksNoReadingRule text
      → Some r ≡ least_refusal first (faults c) → IsFirstBroken text (rule r) (place r)
  first_broken r read e =
      let w = some_first all r (joined (Some r) e) in
      record {
        read = read;
        broken = is_broken r w.0;
        first = λ k at b.
            let m = is_met b in
            subst (λ k. (place r < at) ⊎ ((place r ≡ at) × (rule r ≤ k))) m.rule_is
            (subst (λ at. (place r < at) ⊎ ((place r ≡ at) × (rule r ≤ rule m.refusal)))
            m.place_is (w.1 m.refusal m.met));
      }

-- a rule of equations
abbrev IsRule : ℕ → Type 0
IsRule k = (k ≡ 12) ⊎ (k ≡ 13) ⊎ (k ≡ 14) ⊎ (k ≡ 71) ⊎ (k ≡ 73) ⊎ (k ≡ 74)

is_rule : (text : List ℕ) {k at : ℕ} → BrokenIn text k at → IsRule k
is_rule text (OfSource c t b) = of_source b
  where
    of_source : {c : Source} {k at : ℕ} → Broken c k at → IsRule k
    of_source (rules.DuplicateFunction b h l) = inl refl
    of_source (rules.DuplicateName i b j s n) = inr (inl refl)
    of_source (rules.UnknownName i j h) = inr (inr (inl refl))
    of_source (rules.ArityDiffers b h d) = inr (inr (inr (inl refl)))
    of_source (rules.PatternArity i j h d) = inr (inr (inr (inr (inl refl))))
is_rule text (ReservedMatch h) = inr (inr (inr (inr (inr refl))))

no_rule : (k : ℕ) → IsRule k → (k ≡ 12 → ⊥) → (k ≡ 13 → ⊥) → (k ≡ 14 → ⊥) → (k ≡ 71 → ⊥)
    → (k ≡ 73 → ⊥) → (k ≡ 74 → ⊥) → ⊥
no_rule k (inl h) a b c d e f = a h
no_rule k (inr (inl h)) a b c d e f = b h
no_rule k (inr (inr (inl h))) a b c d e f = c h
no_rule k (inr (inr (inr (inl h)))) a b c d e f = d h
no_rule k (inr (inr (inr (inr (inl h))))) a b c d e f = e h
no_rule k (inr (inr (inr (inr (inr h))))) a b c d e f = f h

cause : (text : List ℕ) (r : MatchRefusal) → IsFirstBroken text (rule r) (place r) → IsCause text r
cause text (refusal.DuplicateFunction at) h = h
cause text (refusal.DuplicateName at) h = h
cause text (refusal.UnknownName at) h = h
cause text (refusal.ArityDiffers at) h = h
cause text (refusal.PatternArity at) h = h
cause text (refusal.ReservedMatch at) h = h
cause text (refusal.Memory e) h = tt
cause text (refusal.BadByte at) h = absurd
    (no_rule 1 (is_rule text h.broken) (λ e. cc) (λ e. cc) (λ e. cc) (λ e. cc) (λ e. cc) (λ e. cc))
cause text (refusal.Syntax at) h = absurd
    (no_rule 2 (is_rule text h.broken) (λ e. cc) (λ e. cc) (λ e. cc) (λ e. cc) (λ e. cc) (λ e. cc))
cause text (refusal.NumberRange at) h = absurd
    (no_rule 3 (is_rule text h.broken) (λ e. cc) (λ e. cc) (λ e. cc) (λ e. cc) (λ e. cc) (λ e. cc))
cause text (refusal.TooDeep at) h = absurd
    (no_rule 4 (is_rule text h.broken) (λ e. cc) (λ e. cc) (λ e. cc) (λ e. cc) (λ e. cc) (λ e. cc))
cause text refusal.TextTooLong h = absurd
    (no_rule 5 (is_rule text h.broken) (λ e. cc) (λ e. cc) (λ e. cc) (λ e. cc) (λ e. cc) (λ e. cc))

-- what was met first is the cause
pub met_cause : (text : List ℕ) (c : Source) → IsSourceText text c → (first : Option MatchRefusal)
    → IsFirstReserved text first → BreaksNoReadingRule text → (r : MatchRefusal)
    → Some r ≡ least_refusal first (faults c) → IsCause text r
met_cause text c t first met read r e = cause text r (first_broken text c t first met r read e)

pub unread_cause : (text : List ℕ) (e : ReadRefusal) → IsReadCause text e
    → IsCause text (refusal_of_reading e)
unread_cause text (from.BadByte at) h = h
unread_cause text (from.Syntax at) h = h
unread_cause text (from.NumberRange at) h = h
unread_cause text (from.TooDeep at) h = h
unread_cause text from.TextTooLong h = h
unread_cause text (from.Memory e) h = tt

one_by : (k at k' at' : ℕ) → (at < at') ⊎ ((at ≡ at') × (k ≤ k')) → (at' < at)
    ⊎ ((at' ≡ at) × (k' ≤ k)) → (k ≡ k') × (at ≡ at')
one_by k at k' at' (inl h) (inl g) = absurd (omega (arith, h, g))
one_by k at k' at' (inl h) (inr g) = absurd (omega (arith, h, g.0))
one_by k at k' at' (inr h) (inl g) = absurd (omega (arith, g, h.0))
one_by k at k' at' (inr h) (inr g) = (omega (arith, h.1, g.1), h.0)

pub one_first : (text : List ℕ) (k at k' at' : ℕ) → IsFirstBroken text k at
    → IsFirstBroken text k' at' → (k ≡ k') × (at ≡ at')
one_first text k at k' at' h g = one_by k at k' at' (h.first k' at' g.broken)
    (g.first k at h.broken)
