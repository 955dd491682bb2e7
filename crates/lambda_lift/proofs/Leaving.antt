-- Binders leave the scope that they entered.
use Rattle.std.proofs.Common.{◌≡◌, ℕ, ◌+◌, ◌-◌, ◌<◌, List, [], ◌∷◌, ◌++◌, length, drop, get_or, refl, sym, ap, ◌∙◌}
use Rattle.std.proofs.lemmas.List.{drop_more}
use Rattle.core_reader.specs.declared.syntax.Binder.{Binder}
use Rattle.lambda_reader.specs.Tree.{Program}
use Rattle.arity_check.specs.Scope.{Scope}
use Rattle.arity_check.specs.Whole.{known_of}
use Rattle.arity_check.proofs.Names.{entered_within}
use Rattle.arity_check.proofs.Counts as counts
use Rattle.arity_check.proofs.Counts.{left_append}
use Rattle.lambda_lift.specs.Headers.{program_headers, names_of, within}
use Rattle.lambda_lift.specs.Gathered.{scope_names, scope_of_binders}

pub leaves : (c : Program) (bs : List Binder) (s t u v : Scope) (depth : ℕ) → depth ≡ length s
    → t ≡ within c bs s → u ≡ t → v ≡ drop (length u - depth) u → v ≡ s
leaves c bs s t u v depth d e f g = counts.leaves (known_of (program_headers c)) bs s t u v depth d
    (e ∙ sym (entered_within (program_headers c) bs s)) f g

pub shows : (bs : List Binder) (s t u v : Scope) (depth : ℕ) → depth ≡ length s
    → t ≡ scope_of_binders bs ++ s → u ≡ t → v ≡ drop (length u - depth) u → v ≡ s
shows bs s t u v depth d e f g = g ∙ ap (λ n. drop (length u - n) u) d ∙ ap
    (λ u. drop (length u - length s) u) (f ∙ e) ∙ left_append (scope_of_binders bs) s

pub hidden_names : (bs : List Binder) (s : Scope) → scope_names (scope_of_binders bs ++ s) ≡
    names_of bs ++ scope_names s
hidden_names [] s = refl
hidden_names (b ∷ bs) s = ap (λ w. b.name.0 ∷ w) (hidden_names bs s)

-- one more binder, from the last one on
pub one_hidden : (bs : List Binder) (i j : ℕ) (b : Binder) (s t u : Scope) → j < length bs
    → i ≡ j + 1 → b ≡ get_or bs j b → t ≡ scope_of_binders (drop i bs) ++ s
    → u ≡ (b.name.0, b.name.0) ∷ t → u ≡ scope_of_binders (drop j bs) ++ s
one_hidden bs i j b s t u l e is h g =
    let d : drop j bs ≡ b ∷ drop (j + 1) bs = drop_more bs j b l ∙ ap (λ y. y ∷ drop (j + 1) bs)
    (sym is) in
    g ∙ ap (λ w. (b.name.0, b.name.0) ∷ w) (h ∙ ap (λ k. scope_of_binders (drop k bs) ++ s) e) ∙ sym
    (ap (λ w. scope_of_binders w ++ s) d)
