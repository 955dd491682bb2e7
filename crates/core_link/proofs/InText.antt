-- The first rule that a text breaks, whatever other texts there are.
use Rattle.std.proofs.Common.{◌≡◌, ℕ, ◌<◌, ◌≤◌, true, false, List, [], ◌∷◌, refl, sym, ap, subst, ◌∙◌, arith, Some, None, ◌⊎◌, inl, inr}
use Rattle.std.specs.Prelude.{◌==◌, if◌then◌else◌}
use Rattle.std.proofs.lemmas.Bool.{eqb-true, eq-eqb}
use Rattle.seq.proofs.Truth.{two_ways}
use Rattle.core_reader.specs.RulesOf.{IsNoLaterFault}
use Rattle.core_reader.proofs.OnlyOne.{at_five, one_thing}
use Rattle.core_link.specs.Module.{Module, IsModuleText, IsReadingFault, IsFirstReadingFault, BreaksNoReadingRule, IsReadCause}
use Rattle.core_link.specs.Rules.{BreaksOwnRule, RuleGroup, Reading, OwnRule, BrokenIn, Unread, OfModule, rank_in, IsBefore, IsFirstIn, IsSound, IsCauseIn}
use Rattle.core_link.specs.Rules as rules
use Rattle.core_reader.specs.declared.refusal.ReadRefusal.{ReadRefusal}
use Rattle.core_reader.specs.declared.refusal.ReadRefusal.TheVariants as unread
use Rattle.core_link.specs.Found.{NamesFirstBrokenRule, read_refusal_in}
use Rattle.core_link.proofs.Reading.{module_laws}

-- a text stands for one module
pub one_module : (text : List ℕ) (m q : Module) → IsModuleText text m → IsModuleText text q → m ≡ q
one_module text m q h g = one_thing module_laws text m q
    (record { pieces = h.pieces; tokens = h.tokens; program = h.program.spelled })
    (record { pieces = g.pieces; tokens = g.tokens; program = g.program.spelled })

by_place : (at k at' k' : ℕ) → (at < at') ⊎ ((at ≡ at') × (k ≤ k'))
    → IsBefore (at ∷ k ∷ []) (at' ∷ k' ∷ [])
by_place at k at' k' (inl l) = inl l
by_place at k at' k' (inr h) = inr (h.0, last k k' h.1)
  where
    last : (k k' : ℕ) → k ≤ k' → IsBefore (k ∷ []) (k' ∷ [])
    last k k' l = elim (two_ways (k == k'))
        [ inl y ↦ inr (eqb-true k k' y, tt) | inr n ↦ inl (below k k' l n) ]
      where
        below : (k k' : ℕ) → k ≤ k' → (k == k') ≡ false → k < k'
        below k k' l n = grind (arith, l, n)

abbrev first_number : ℕ → ℕ
first_number k = if k == 5 then 0 else 1

five_rank : (k : ℕ) → k ≡ 5 → first_number k ≡ 0
five_rank k e = ap (λ b. if b then 0 else 1) (eq-eqb k 5 e)

other_rank : (k : ℕ) → (k ≡ 5 → ⊥) → first_number k ≡ 1
other_rank k h = elim (two_ways (k == 5))
    [ inl y ↦ absurd (h (eqb-true k 5 y)) | inr n ↦ ap (λ b. if b then 0 else 1) n ]

at_most_one : (k : ℕ) → first_number k < 2
at_most_one k = elim (two_ways (k == 5)) [
  | inl y ↦ (let e : first_number k ≡ 0 = ap (λ b. if b then 0 else 1) y in omega (arith, e))
  | inr n ↦ (let e : first_number k ≡ 1 = ap (λ b. if b then 0 else 1) n in omega (arith, e))
]

either_five : (k : ℕ) → (k ≡ 5) ⊎ (k ≡ 5 → ⊥)
either_five k = elim (two_ways (k == 5))
    [ inl y ↦ inl (eqb-true k 5 y) | inr n ↦ inr (λ e. true_false (sym (eq-eqb k 5 e) ∙ n)) ]
  where
    true_false : true ≡ false → ⊥
    true_false e = cc

no_later : (text : List ℕ) (k at k' at' : ℕ) → IsReadingFault text k at → IsReadingFault text k' at'
    → IsNoLaterFault k at k' at' → IsBefore (rank_in Reading k at) (rank_in Reading k' at')
no_later text k at k' at' b b' (inl e) = elim (either_five k') [
  | inl f ↦
      let same : at ≡ at' = at_five text k at b e ∙ sym (at_five text k' at' b' f) in
      let numbers : k ≡ k' = e ∙ sym f in
      inr (
        five_rank k e ∙ sym (five_rank k' f),
        by_place at k at' k'
            (inr (same, omega (arith, numbers))),
      )
  | inr n ↦ inl (let x = five_rank k e in let y = other_rank k' n in omega (arith, x, y))
]
no_later text k at k' at' b b' (inr h) = elim (either_five k) [
  | inl f ↦ inl (let x = five_rank k f in let y = other_rank k' h.0 in omega (arith, x, y))
  | inr n ↦ inr (other_rank k n ∙ sym (other_rank k' h.0), by_place at k at' k' h.1)
]

pub read_first : (text : List ℕ) (k at : ℕ) → IsFirstReadingFault text k at → IsFirstIn text k at
read_first text k at f = record { group = Reading; broken = Unread f.broken; first = first }
  where
    first : (g : RuleGroup) (k' at' : ℕ) → BrokenIn text g k' at'
        → IsBefore (rank_in Reading k at) (rank_in g k' at')
    first g k' at' (Unread b) = no_later text k at k' at' f.broken b (f.first k' at' b)
    first g k' at' (OfModule m t o) = inl (at_most_one k)

pub own_first_in : (text : List ℕ) (m : Module) (k at : ℕ) → BreaksNoReadingRule text
    → IsModuleText text m → NamesFirstBrokenRule (BreaksOwnRule m) (Some (k, at))
    → IsFirstIn text k at
own_first_in text m k at read t h = record
    { group = OwnRule; broken = OfModule m t h.0; first = first }
  where
    first : (g : RuleGroup) (k' at' : ℕ) → BrokenIn text g k' at'
        → IsBefore (rank_in OwnRule k at) (rank_in g k' at')
    first g k' at' (Unread b) = absurd (read k' at' b)
    first g k' at' (OfModule q s o) = inr (
      refl,
      by_place at k at' k'
          (h.1 k' at' (subst (λ w. BreaksOwnRule w k' at') (one_module text q m s t) o)),
    )

pub sound_text : (text : List ℕ) (m : Module) → BreaksNoReadingRule text → IsModuleText text m
    → NamesFirstBrokenRule (BreaksOwnRule m) None → IsSound text
sound_text text m read t h g k at (Unread b) = read k at b
sound_text text m read t h g k at (OfModule q s o) = h k at
    (subst (λ w. BreaksOwnRule w k at) (one_module text q m s t) o)

-- the rules that a module breaks by itself are three
pub own_rule : (m : Module) (k at : ℕ) → BreaksOwnRule m k at → (k ≡ 22) ⊎ ((k ≡ 55) ⊎ (k ≡ 58))
own_rule m k at (rules.ReservedName b) = inl refl
own_rule m k at (rules.ExportUnknown i e u) = inr (inl refl)
own_rule m k at (rules.AgainConstructor b) = inr (inr refl)
own_rule m k at (rules.AgainFunction b) = inr (inr refl)

-- the first rule on reading that is broken is the first of the text
pub unread_cause : (text : List ℕ) (file : ℕ) (r : ReadRefusal) → IsReadCause text r
    → IsCauseIn text file (read_refusal_in file r)
unread_cause text file (unread.BadByte at) h = (refl, read_first text 1 at h)
unread_cause text file (unread.Syntax at) h = (refl, read_first text 2 at h)
unread_cause text file (unread.NumberRange at) h = (refl, read_first text 3 at h)
unread_cause text file (unread.TooDeep at) h = (refl, read_first text 4 at h)
unread_cause text file unread.TextTooLong h = (refl, read_first text 5 1048576 h)
unread_cause text file (unread.Memory e) h = refl
