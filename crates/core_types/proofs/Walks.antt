-- One more name of a list that is walked over.
use Rattle.std.proofs.Common.{◌≡◌, ℕ, ◌+◌, ◌<◌, Bool, true, false, List, length, drop, get_or, refl, ap, sym, ◌∙◌, Option, Some, None}
use Rattle.std.specs.Prelude.{not, if◌then◌else◌}
use Rattle.std.specs.Ordering.{nat_cmp}
use Rattle.std.specs.BTreeMap.{get}
use Rattle.std.proofs.lemmas.List.{drop_more}
use Rattle.core_reader.specs.declared.syntax.Binder.{Binder}
use Rattle.core_reader.proofs.TreeOf.{alternative_of, expr_of-App, expr_of-Let, expr_of-Case}
use Rattle.arity_check.specs.Faults.{with_member}
use Rattle.arity_check.specs.Known.{Known}
use Rattle.core_types.specs.declared.declared.TypeArities.{TypeArities}
use Rattle.core_types.specs.Source.{TypeDecl, Signature}
use Rattle.core_types.specs.Rules.{type_arity}
use Rattle.core_types.specs.Found.{earlier_place_if, first_repeated_name, with_all_seen, is_int, params_of, unknown_in_types, unknown_in_signatures, first_unknown_name}
use Rattle.core_types.specs.Kept.{type_arity_by}

pub not_not : (b : Bool) → not (not b) ≡ b
not_not true = refl
not_not false = refl

pub more_again : (seen seen' : ℕ → Bool) (items : List Binder) (i : ℕ) (d : Binder)
    → i < length items
    → (o o1 o2 : Option ℕ) (was : Bool) → was ≡ seen (get_or items i d).name.0
    → seen' ≡ with_member (get_or items i d).name.0 seen
    → o2 ≡ earlier_place_if was o1 (get_or items i d).at
    → first_repeated_name seen o1 (drop i items) ≡ o
    → first_repeated_name seen' o2 (drop (i + 1) items) ≡ o
more_again seen seen' items i d l o o1 o2 was w s e h =
    let x : Binder = get_or items i d in
    let found : o2 ≡ earlier_place_if (seen x.name.0) o1 x.at
    = e ∙ ap (λ b. earlier_place_if b o1 x.at) w in
    (λ j. first_repeated_name (s j) (found j) (drop (i + 1) items)) ∙ ap
    (first_repeated_name seen o1) (sym (drop_more items i d l)) ∙ h

pub more_bound : (seen seen' : ℕ → Bool) (items : List Binder) (i : ℕ) (d : Binder)
    → i < length items
    → (o : ℕ → Bool) → seen' ≡ with_member (get_or items i d).name.0 seen
    → with_all_seen seen (drop i items) ≡ o → with_all_seen seen' (drop (i + 1) items) ≡ o
more_bound seen seen' items i d l o s h = ap (λ t. with_all_seen t (drop (i + 1) items)) s ∙ ap
    (with_all_seen seen) (sym (drop_more items i d l)) ∙ h

-- The types and then the signatures were walked over, with the number of parameters of each type.
pub both_walked : (k : Known) (p : TypeArities) (ds : List TypeDecl) (gs : List Signature)
    (o o' : Option ℕ) → get nat_cmp p.0 ≡ type_arity ds
    → o ≡ unknown_in_types (type_arity_by k p) None ds
    → o' ≡ unknown_in_signatures (type_arity_by k p) o gs → o' ≡ first_unknown_name k ds gs
both_walked k p ds gs o o' e f g =
    let same : type_arity_by k p ≡ params_of k ds = λ i n. if is_int k n then Some 0 else e i n in
    let first : o ≡ unknown_in_types (params_of k ds) None ds
    = f ∙ ap (λ w. unknown_in_types w None ds) same in
    g ∙ (λ i. unknown_in_signatures (same i) (first i) gs)

pub ruleset cases = (alternative_of, expr_of-App, expr_of-Let, expr_of-Case)
